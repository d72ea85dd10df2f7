-- A command's calls up to its end, with idle ticks behind them (02 2026-01): the statements over a command's calls ask
-- for the bound's ticks, and the service stops at the end.
-- Assumes nothing.
use Prim.Native.Nat.{ℕ, zero, suc, ◌+◌, ◌≤◌}
use native.Mathlib.Omega.{arith}
use mathlib.Core.Bool.{true, false, true≢false}
use mathlib.Core.List.{List, [], ◌∷◌, ◌++◌}
use mathlib.Core.Logic.{inl, inr}
use mathlib.Core.Path.{◌≡◌, refl, sym, ◌∙◌}
use Rattle.fdc.specs.declared.record.Controller.{Controller}
use Rattle.reached.specs.Moves.{tick_count}
use Rattle.reached.specs.Runs.{Call, ticks, after, run_calls}
use Rattle.demands.specs.DataError.{Spins}
use Rattle.demands.specs.HandedOver.{Taken}
use Rattle.demands.specs.History.{History}
use Rattle.demands.specs.InTime.{AtTicks}
use Rattle.demands.specs.ReadSucceeds.{AsTaken}
use Rattle.demands.specs.Succeeds.{Noting}
use Rattle.demands.specs.Work.{at_work, image_by, Its, Alone, EndsWith}

pub idles : ℕ → List Call
idles zero = []
idles (suc n) = ticks [] [] ∷ idles n

count_join : (xs ys : List Call) → tick_count (xs ++ ys) ≡ tick_count xs + tick_count ys
count_join [] ys = omega arith
count_join (x ∷ xs) ys = omega (arith, count_join xs ys)

count_idles : (n : ℕ) → tick_count (idles n) ≡ n
unfolding idles
count_idles zero = refl
count_idles (suc n) = omega (arith, count_idles n)

pub enough : (n : ℕ) (calls : List Call) → n ≤ tick_count (calls ++ idles n)
enough n calls = omega (arith, count_join calls (idles n), count_idles n)

-- behind the end nothing is asked of a call
pub spins_on : (drive : ℕ) (more calls : List Call) (c : Controller) → Spins drive calls c
    → at_work (run_calls calls c).phase ≡ false → Spins drive (calls ++ more) c
unfolding Spins run_calls
spins_on drive [] [] c s o = s
spins_on drive (x ∷ more) [] c s o = (s, λ w. absurd (true≢false (sym w ∙ o)))
spins_on drive more (call ∷ calls) c s o =
    (s.0, λ w. let (calm, rest) = s.1 w in (calm, spins_on drive more calls (after call c) rest o))

pub alone_on : (drive : ℕ) (img : List ℕ) (more calls : List Call) (c : Controller) → Alone drive img calls c
    → at_work (run_calls calls c).phase ≡ false → Alone drive img (calls ++ more) c
unfolding Alone run_calls
alone_on drive img [] [] c s o = tt
alone_on drive img (x ∷ more) [] c s o = λ w. absurd (true≢false (sym w ∙ o))
alone_on drive img more (call ∷ calls) c s o =
    λ w. let (lent, rest) = s w in (lent, alone_on drive (image_by drive img call c) more calls (after call c) rest o)

pub at_ticks_on : (P : Controller → Type 0) (more calls : List Call) (c : Controller) → AtTicks P calls c
    → at_work (run_calls calls c).phase ≡ false → AtTicks P (calls ++ more) c
unfolding AtTicks run_calls
at_ticks_on P [] [] c s o = tt
at_ticks_on P (x ∷ more) [] c s o = λ w. absurd (true≢false (sym w ∙ o))
at_ticks_on P more (call ∷ calls) c s o =
    λ w. let (now, rest) = s w in (now, at_ticks_on P more calls (after call c) rest o)

pub as_taken_on : (P : Taken → Type 0) (more calls : List Call) (c : Controller) (t : Taken) → AsTaken P calls c t
    → at_work (run_calls calls c).phase ≡ false → AsTaken P (calls ++ more) c t
unfolding AsTaken run_calls
as_taken_on P [] [] c t s o = tt
as_taken_on P (x ∷ more) [] c t s o = λ w. absurd (true≢false (sym w ∙ o))
as_taken_on P more (call ∷ calls) c t s o =
    λ w. let (now, rest) = s w in (now, as_taken_on P more calls (after call c) _ rest o)

pub noting_on : (P : History → Type 0) (more calls : List Call) (c : Controller) (h : History) → Noting P calls c h
    → at_work (run_calls calls c).phase ≡ false → Noting P (calls ++ more) c h
unfolding Noting run_calls
noting_on P [] [] c h s o = tt
noting_on P (x ∷ more) [] c h s o = λ w. absurd (true≢false (sym w ∙ o))
noting_on P more (call ∷ calls) c h s o =
    λ w. let (now, rest) = s w in (now, noting_on P more calls (after call c) _ rest o)

-- what holds at the end holds of the record that the command's calls lead to
pub ends_there : (P : Controller → Type 0) (more calls : List Call) (c : Controller) → Its calls c
    → at_work (run_calls calls c).phase ≡ false → EndsWith P (calls ++ more) c → P (run_calls calls c)
unfolding Its EndsWith run_calls
ends_there P [] [] c i o e = e.1
ends_there P (x ∷ more) [] c i o (inl e) = e.1
ends_there P (x ∷ more) [] c i o (inr e) = absurd (true≢false (sym e.0 ∙ o))
ends_there P more (call ∷ calls) c i o (inl e) = absurd (true≢false (sym i.0 ∙ e.0))
ends_there P more (call ∷ calls) c i o (inr e) = ends_there P more calls (after call c) i.1 o e.1

-- a list of its calls that is to end it does not leave it at work
pub ends_not_on : (P : Controller → Type 0) (calls : List Call) (c : Controller) → Its calls c
    → at_work (run_calls calls c).phase ≡ true → EndsWith P calls c → ⊥
unfolding Its EndsWith run_calls
ends_not_on P [] c i w e = true≢false (sym w ∙ e.0)
ends_not_on P (call ∷ calls) c i w (inl e) = true≢false (sym i.0 ∙ e.0)
ends_not_on P (call ∷ calls) c i w (inr e) = ends_not_on P calls (after call c) i.1 w e.1
