-- First parts of a request's calls (02 2026-01): what holds of all of them holds of the first ones, and calls that are
-- handed no record at work, or another drive's, change no image.
-- Assumes nothing.
use Rattle.std.specs.Prelude.{None}
use Prim.Native.Nat.{ℕ}
use native.Mathlib.Omega.{arith}
use mathlib.Core.Bool.{Bool, true, false, ◌&&◌, cond}
use mathlib.Core.List.{List, [], ◌∷◌, ◌++◌, append-nil, append_assoc, cons≢nil, head-eq_of_cons-eq, tail-eq_of_cons-eq}
use mathlib.Core.Logic.{◌⊎◌, inl, inr}
use mathlib.Core.Path.{◌≡◌, refl, sym, ap, ◌∙◌, subst}
use lib.Dec.{eqb}
use Rattle.image.specs.Lent.{pick_of, stored_as}
use Rattle.image.proofs.TestLaws.{by_test}
use Rattle.fdc.specs.declared.record.Controller.{Controller}
use Rattle.fdc.specs.Ticks.{ruled_of, image_after}
use Rattle.reached.specs.Moves.{tick_one}
use Rattle.reached.specs.Runs.{Call, powers, reads, writes, takes, gives, ticks, notes, answer_to, after, run_calls}
use Rattle.demands.specs.History.{History, handed, taken, history_by, history_of}
use Rattle.demands.specs.Work.{at_work, Its, image_by, image_left}
use Rattle.demands.proofs.LeftLaws.{noted_host}
use Rattle.demands.proofs.OtherLaws.{rests}
use Rattle.block.specs.Box.{Box}
use Rattle.block_demands.specs.Asked.{image_of}
use Rattle.block_demands.specs.Made.{box_by, box_after, AllHanded, Idles}
use Rattle.block_demands.proofs.MadeLaws.{after_first, after_second}
use Rattle.block_demands.proofs.WriteLoopLaws.{Starts}

-- a first part of two lists, one behind the other, is one of the first, or has all of it
pub data Split (part rest xs ys : List Call) : Type 0 where
  within : (more : List Call) → part ++ more ≡ xs → Split part rest xs ys
  beyond : (more : List Call) → part ≡ xs ++ more → more ++ rest ≡ ys → Split part rest xs ys

split_more : (call call' : Call) (part rest xs ys : List Call) → call ≡ call' → Split part rest xs ys
    → Split (call ∷ part) rest (call' ∷ xs) ys
split_more call call' part rest xs ys e (within more p) = within more (λ i. e i ∷ p i)
split_more call call' part rest xs ys e (beyond more p q) = beyond more (λ i. e i ∷ p i) q

pub split : (part rest xs ys : List Call) → part ++ rest ≡ xs ++ ys → Split part rest xs ys
split [] rest xs ys e = within xs refl
split (call ∷ part) rest [] ys e = beyond (call ∷ part) refl e
split (call ∷ part) rest (call' ∷ xs) ys e =
    split_more call call' part rest xs ys (head-eq_of_cons-eq e) (split part rest xs ys (tail-eq_of_cons-eq e))

pub its_part : (xs ys : List Call) (c : Controller) → Its (xs ++ ys) c → Its xs c
unfolding Its
its_part [] ys c i = tt
its_part (x ∷ xs) ys c i = (i.0, its_part xs ys (after x c) i.1)

pub idles_part : (xs ys : List Call) (c : Controller) → Idles (xs ++ ys) c → Idles xs c
unfolding Idles
idles_part [] ys c i = tt
idles_part (x ∷ xs) ys c i = (i.0, idles_part xs ys (after x c) i.1)

pub handed_part : (xs ys : List Call) (s : Box) → AllHanded (xs ++ ys) s → AllHanded xs s
unfolding AllHanded
handed_part [] ys s h = tt
handed_part (x ∷ xs) ys s h = (h.0, handed_part xs ys (box_by x s) h.1)

pub handed_rest : (xs ys : List Call) (s : Box) → AllHanded (xs ++ ys) s → AllHanded ys (box_after xs s)
unfolding AllHanded box_after
handed_rest [] ys s h = h
handed_rest (x ∷ xs) ys s h = handed_rest xs ys (box_by x s) h.1

-- the image of a drive is that of the calls alone
pub after_picked : (drive : ℕ) (calls : List Call) (s : Box)
    → image_of drive (box_after calls s) ≡ pick_of drive (image_left 0 s.first calls s.controller)
    (image_left 1 s.second calls s.controller)
after_picked drive calls s = λ i. pick_of drive (after_first calls s i) (after_second calls s i)

-- a tick that stores nothing, or in another image
kept_same : (k d : ℕ) (img : List ℕ) → stored_as d k None img ≡ img
kept_same k d img = by_test (eqb d k) (λ (l : List ℕ). l ≡ img) _ _ (λ t. refl) (λ t. refl)

idle_tick : (k : ℕ) (a b img : List ℕ) (c : Controller) → at_work c.phase ≡ false → image_after k a b c img ≡ img
unfolding image_after
idle_tick k a b img c e = rw (rests k a b c e) (kept_same k (ruled_of a b c).drive img)

idle_call : (k : ℕ) (img : List ℕ) (call : Call) (c : Controller) → (tick_one call ≡ 0) ⊎ (at_work c.phase ≡ false)
    → image_by k img call c ≡ img
idle_call k img (powers head0 head1) c i = refl
idle_call k img (reads offset) c i = refl
idle_call k img (writes offset byte) c i = refl
idle_call k img (takes tc) c i = refl
idle_call k img (gives byte tc) c i = refl
idle_call k img (ticks a b) c (inl z) = absurd (omega arith)
idle_call k img (ticks a b) c (inr e) = idle_tick k a b img c e
idle_call k img (notes drive) c i = refl

idle_left : (k : ℕ) (img : List ℕ) (calls : List Call) (c : Controller) → Idles calls c → image_left k img calls c ≡ img
unfolding Idles image_left
idle_left k img [] c i = refl
idle_left k img (call ∷ calls) c i =
    idle_left k (image_by k img call c) calls (after call c) i.1 ∙ idle_call k img call c i.0

pub idle_image : (k : ℕ) (calls : List Call) (s : Box) → Idles calls s.controller
    → image_of k (box_after calls s) ≡ image_of k s
idle_image k calls s i =
    after_picked k calls s
    ∙ (λ j. pick_of k (idle_left 0 s.first calls s.controller i j)
    (idle_left 1 s.second calls s.controller i j))

-- calls of a command of another drive
other_call : (k : ℕ) (img : List ℕ) (call : Call) (c : Controller)
    → ((a b img : List ℕ) → image_after k a b c img ≡ img) → image_by k img call c ≡ img
other_call k img (powers head0 head1) c h = refl
other_call k img (reads offset) c h = refl
other_call k img (writes offset byte) c h = refl
other_call k img (takes tc) c h = refl
other_call k img (gives byte tc) c h = refl
other_call k img (ticks a b) c h = h a b img
other_call k img (notes drive) c h = refl

pub other_left : (k : ℕ) (img : List ℕ) (calls : List Call) (c : Controller) → Its calls c
    → ((more : List Call) → Its more c → (a b img : List ℕ) → image_after k a b (run_calls more c) img ≡ img)
    → image_left k img calls c ≡ img
unfolding Its image_left run_calls
other_left k img [] c i h = refl
other_left k img (call ∷ calls) c i h =
    other_left k (image_by k img call c) calls (after call c) i.1 (λ more its. h (call ∷ more) (i.0, its))
    ∙ other_call k img call c (h [] tt)

-- the bytes that the host handed over only become more
pub record Grows (xs ys : List ℕ) : Type 0 where
  pub more : List ℕ
  pub is : ys ≡ xs ++ more

grows_none : (xs ys : List ℕ) → ys ≡ xs → Grows xs ys
grows_none xs ys e = record { more = []; is = e ∙ sym (append-nil xs) }

grows_join : (xs ys zs : List ℕ) → Grows xs ys → Grows ys zs → Grows xs zs
grows_join xs ys zs p q = record {
  more = p.more ++ q.more;
  is = q.is ∙ ap (λ (l : List ℕ). l ++ q.more) p.is ∙ append_assoc xs p.more q.more;
}

taken_grows : (t : Bool) (byte : ℕ) (tc : Bool) (h : History) → Grows h.host (cond t (handed byte tc h) h).host
taken_grows true byte tc h = record { more = byte ∷ []; is = refl }
taken_grows false byte tc h = grows_none h.host h.host refl

by_grows : (call : Call) (c : Controller) (h : History) → Grows h.host (history_by call c h).host
unfolding history_by
by_grows (powers head0 head1) c h = grows_none h.host h.host refl
by_grows (reads offset) c h = grows_none h.host h.host refl
by_grows (writes offset byte) c h =
    taken_grows (eqb offset 5 && taken (answer_to (writes offset byte) c).reply) byte false h
by_grows (takes tc) c h = grows_none h.host h.host refl
by_grows (gives byte tc) c h = taken_grows (taken (answer_to (gives byte tc) c).reply) byte tc h
by_grows (ticks a b) c h = grows_none h.host _ (noted_host (ruled_of a b c).effect h)
by_grows (notes drive) c h = grows_none h.host h.host refl

of_grows : (calls : List Call) (c : Controller) (h : History) → Grows h.host (history_of calls c h).host
unfolding history_of
of_grows [] c h = grows_none h.host h.host refl
of_grows (call ∷ calls) c h =
    grows_join h.host (history_by call c h).host _ (by_grows call c h)
    (of_grows calls (after call c) (history_by call c h))

part_grows : (xs ys : List Call) (c : Controller) (h : History)
    → Grows (history_of xs c h).host (history_of (xs ++ ys) c h).host
unfolding history_of
part_grows [] ys c h = of_grows ys c h
part_grows (x ∷ xs) ys c h = part_grows xs ys (after x c) (history_by x c h)

-- so those of the first calls are the caller's first ones too
starts_part : (xs ys bytes : List ℕ) → Starts (xs ++ ys) bytes → Starts xs bytes
starts_part [] ys bytes e = refl
starts_part (x ∷ xs) ys [] e = absurd (cons≢nil e)
starts_part (x ∷ xs) ys (byte ∷ bytes) e =
    λ i. head-eq_of_cons-eq e i ∷ starts_part xs ys bytes (tail-eq_of_cons-eq e) i

pub host_part : (xs ys : List Call) (c : Controller) (h : History) (bytes : List ℕ)
    → Starts (history_of (xs ++ ys) c h).host bytes → Starts (history_of xs c h).host bytes
host_part xs ys c h bytes e =
    let p = part_grows xs ys c h in
    starts_part (history_of xs c h).host p.more bytes (subst (λ (l : List ℕ). Starts l bytes) p.is e)
