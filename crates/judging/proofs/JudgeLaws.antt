-- Laws of the judge's parts (02 2026-04).
-- Assumes nothing.
use Prim.Native.Nat.{ℕ, ◌/◌, ◌%◌, ◌<◌, ◌≤◌}
use native.Mathlib.Omega.{arith}
use mathlib.Core.Bool.{Bool, true, false, cond, not}
use mathlib.Core.List.{List}
use mathlib.Core.Logic.{◌⊎◌, inl, inr}
use mathlib.Core.Path.{◌≡◌, sym, ap, ◌∙◌}
use lib.Dec.{ltb}
use Rattle.image.specs.declared.layout.Geometry.{Geometry}
use Rattle.image.specs.Layout.{offset_of}
use Rattle.image.proofs.TestLaws.{le_or_lt}
use Rattle.judging.specs.declared.fault.Kind.TheVariants.{Mark, Twice}
use Rattle.std.specs.Prelude.{Ok}
use Rattle.judging.specs.Verdict.{Verdict, fault, unless, is_fault, first_of}
use Rattle.judging.specs.Twice.{slots_in, twice_at, First}
use Rattle.judging.specs.Judge.{front_fault, slot_fault, track_fault}
use Rattle.judging.proofs.TwiceLaws.{first_at}
use Rattle.judging.proofs.VerdictLaws.{fault_stays}

-- a slot without a fault stands before the track's first double
pub sound_below :
    (g : Geometry) (img : List ℕ) (cylinder side k double : ℕ)
    → First (twice_at (slots_in g img cylinder side)) g.slots double → k < g.slots → k ≤ double
    → slot_fault g img cylinder side k ≡ Ok tt → k < double
sound_below g img cylinder side k double f l b s = go (le_or_lt double k)
  where
    never :
        (t u : Bool) (at : ℕ) → u ≡ true → cond t (fault Mark at) (unless (not u) Twice at) ≡ Ok tt → ⊥
    never true u at e q = let z : ◌≡◌ {A = ℕ} 0 1 = cc in omega arith
    never false true at e q = let z : ◌≡◌ {A = ℕ} 0 1 = cc in omega arith
    never false false at e q = let z : ◌≡◌ {A = ℕ} 0 1 = cc in omega arith

    go : (double ≤ k) ⊎ (k < double) → k < double
    go (inl a) =
        absurd (never (ltb 5 (slots_in g img cylinder side k).mark) (twice_at (slots_in g img cylinder side) k)
        (offset_of g cylinder side k)
        (first_at (twice_at (slots_in g img cylinder side)) g.slots double k f l (omega arith)) s)
    go (inr a) = a

-- track t, counted over the heads
module _
    (g : Geometry)
    (img : List ℕ)
    (t heads : ℕ)
    (same : heads ≡ g.heads)
    (front : Verdict)
    (is : front ≡ front_fault g img (t / heads) (t % heads))
  where
    counted : track_fault g img (t / g.heads) (t % g.heads) ≡ track_fault g img (t / heads) (t % heads)
    counted = ap (λ (h : ℕ). track_fault g img (t / h) (t % h)) (sym same)

    -- left at its front
    pub track_front : is_fault front ≡ true → track_fault g img (t / g.heads) (t % g.heads) ≡ front
    unfolding track_fault
    track_front f = counted ∙ (rw (← is) (fault_stays front _ f))

    -- or else what its slots are
    pub track_slots :
        (v : Verdict) → front ≡ Ok tt → first_of (slot_fault g img (t / heads) (t % heads)) g.slots ≡ v
        → track_fault g img (t / g.heads) (t % g.heads) ≡ v
    unfolding track_fault
    track_slots v s e = counted ∙ (rw (← is, s) e)
