-- Inside one `bel_ticks` (specs/Inside): a run in two parts, and its stores in their order.
-- Assumes nothing.
use Rattle.std.specs.Prelude.{None, Some}
use Rattle.image.specs.Lent.{put_at}
use Prim.Native.Nat.{ℕ, zero, suc, ◌+◌, ◌≤◌}
use native.Mathlib.Omega.{arith}
use mathlib.Core.Bool.{Bool, true, false, cond, true≢false}
use mathlib.Core.List.{List, [], ◌∷◌, ◌++◌}
use mathlib.Core.Path.{◌≡◌, refl, sym, ap, subst, ◌∙◌}
use lib.Dec.{eqb}
use lib.ListN.{length, take}
use lib.Seq.{take-nil}
use Rattle.image.proofs.TestLaws.{by_test}
use Rattle.image.specs.Lent.{Effect}
use Rattle.image.specs.Lent.{stored_as}
use Rattle.fdc.specs.declared.answer.Answer.{Answer}
use Rattle.fdc.specs.declared.answer.Reply.TheVariants.{Done}
use Rattle.fdc.specs.declared.record.Controller.{Controller}
use Rattle.fdc.specs.Answer.{answer_of}
use Rattle.fdc.specs.Record.{valid_of}
use Rattle.fdc.specs.Registers.{int_of, drq_of}
use Rattle.reached.specs.Runs.{Call, powers, reads, writes, takes, gives, notes, answer_to, after}
use Rattle.reached.specs.Runs.{ticks}
use Rattle.fdc.specs.Ticks.{tick_of, ruled_of, image_after}
use Rattle.demands.specs.Work.{image_by, image_left}
use Rattle.many_ticks.specs.Run.{Ran, ran_with, ran_on, changed, changed_in, ran_for, no_tick_made, refused_of, many_ticks}
use Rattle.firmware.specs.Made.{tick_calls, ticks_made, last_of}
use Rattle.firmware.specs.Inside.{stopped, then_ran, then_ticks, TicksSplit, StoreMade, store_by, stores_made}
use Rattle.firmware.specs.Inside.{put_all, stores_in, ImagesOf, StoresInOrder}
use Rattle.firmware.proofs.RanLaws.{run_is, ticks_are}
use Rattle.firmware.proofs.TypedLaws.{valid_ticked}

-- lines as they were
same_lines : (int drq : Bool) → changed int drq int drq ≡ false
same_lines true true = refl
same_lines true false = refl
same_lines false true = refl
same_lines false false = refl

lines_told : (int drq int' drq' : Bool) → changed int drq int' drq' ≡ false → (int ≡ int') × (drq ≡ drq')
lines_told true true true true e = (refl, refl)
lines_told true true true false e = absurd (true≢false e)
lines_told true true false drq' e = absurd (true≢false e)
lines_told true false true true e = absurd (true≢false e)
lines_told true false true false e = (refl, refl)
lines_told true false false drq' e = absurd (true≢false e)
lines_told false true true drq' e = absurd (true≢false e)
lines_told false true false true e = (refl, refl)
lines_told false true false false e = absurd (true≢false e)
lines_told false false true drq' e = absurd (true≢false e)
lines_told false false false true e = absurd (true≢false e)
lines_told false false false false e = (refl, refl)

-- an answer of a run on a valid record
record Going (answer : Answer) : Type 0 where
  valid : valid_of answer.controller ≡ true
  is : answer ≡ answer_of Done answer.controller

tick_going : (a b : List ℕ) (c : Controller) → valid_of c ≡ true → Going (tick_of a b c)
unfolding tick_of answer_of
tick_going a b c v = record { valid = valid_ticked a b c v; is = rw v }

run_going : (n : ℕ) (r : Ran) → Going r.answer → Going (ran_for n r).answer
unfolding ran_for ran_on
run_going zero r g = g
run_going (suc n) r g =
    let t : Going (tick_of r.first r.second r.answer.controller) = tick_going _ _ _ g.valid in
    by_test (changed_in r.answer (ran_on r).answer) (λ (q : Ran). Going q.answer) (ran_on r) (ran_for n (ran_on r))
    (λ _. t) (λ _. run_going n (ran_on r) t)

-- a run of k and m more
split_at : (k m : ℕ) (r : Ran)
    → ran_for (k + m) r ≡ cond (changed_in r.answer (ran_for k r).answer) (ran_for k r) (ran_for m (ran_for k r))
unfolding ran_for ran_on
split_at zero m r =
    let e : 0 + m ≡ m = omega arith in
    rw (same_lines r.answer.int r.answer.drq, e)
split_at (suc k) m r =
    let e : suc k + m ≡ suc (k + m) = omega arith in
    ap (λ (n : ℕ). ran_for n r) e ∙ go (changed_in r.answer (ran_on r).answer) refl (split_at k m (ran_on r))
  where
    q : Ran
    q = ran_on r

    Goal : Bool → Type 0
    Goal t =
        cond t q (ran_for (k + m) q)
        ≡ cond (changed_in r.answer (cond t q (ran_for k q)).answer) (cond t q (ran_for k q))
        (ran_for m (cond t q (ran_for k q)))

    go : (t : Bool) → changed_in r.answer q.answer ≡ t
        → ran_for (k + m) q ≡ cond (changed_in q.answer (ran_for k q).answer) (ran_for k q) (ran_for m (ran_for k q)) → Goal t
    go true e later = rw e
    go false e later =
        let s = lines_told r.answer.int r.answer.drq q.answer.int q.answer.drq e in
        rw (s.0, s.1) later

-- the rest as a run of its own
rest_is : (m made : ℕ) (a b : List ℕ) (c : Controller)
    → ran_for m (ran_with (answer_of Done c) made a b)
    ≡ then_ran (ran_with (answer_of Done c) made a b) (ran_for m (no_tick_made a b c))
rest_is m made a b c =
    let calls = tick_calls m a b c in
    let e : made + (0 + length calls) ≡ made + length calls = omega arith in
    run_is m made Done a b c
    ∙ ap (λ (n : ℕ). ran_with (last_of (answer_of Done c) calls c) n (image_left 0 a calls c) (image_left 1 b calls c)) (sym e)
    ∙ sym (ap (then_ran (ran_with (answer_of Done c) made a b)) (run_is m 0 Done a b c))

goes_on_lem : (m : ℕ) (r : Ran) → Going r.answer → ran_for m r ≡ then_ticks m r
unfolding many_ticks
goes_on_lem m r g =
    rw g.valid
    (subst
    (λ (answer : Answer). ran_for m (ran_with answer r.made r.first r.second)
    ≡ then_ran (ran_with answer r.made r.first r.second)
    (ran_for m (no_tick_made r.first r.second r.answer.controller)))
    (sym g.is) (rest_is m r.made r.first r.second r.answer.controller))

pub ticks_split : TicksSplit
unfolding many_ticks answer_of
ticks_split k m a b c = go (valid_of c) refl
  where
    whole : ℕ → Bool → Ran
    whole n t = cond t (ran_for n (no_tick_made a b c)) (refused_of a b c)

    going : valid_of c ≡ true → Going (ran_for k (no_tick_made a b c)).answer
    going v = run_going k (no_tick_made a b c) (record { valid = v; is = refl })

    go : (t : Bool) → valid_of c ≡ t
        → whole (k + m) t ≡ cond (stopped c (whole k t).answer) (whole k t) (then_ticks m (whole k t))
    go true v =
        subst
        (λ (r : Ran). ran_for (k + m) (no_tick_made a b c)
        ≡ cond (stopped c (ran_for k (no_tick_made a b c)).answer) (ran_for k (no_tick_made a b c)) r)
        (goes_on_lem m (ran_for k (no_tick_made a b c)) (going v)) (split_at k m (no_tick_made a b c))
    go false v = rw (same_lines (int_of c) (drq_of c), v)

-- 01 Calls: a call makes one store, and both images are as it leaves them, or none
data OneStore (call : Call) (c : Controller) : Type 0 where
  none : store_by call c ≡ [] → ((k : ℕ) (img : List ℕ) → image_by k img call c ≡ img) → OneStore call c
  one : (s : StoreMade) → store_by call c ≡ s ∷ []
      → ((k : ℕ) (img : List ℕ) → image_by k img call c ≡ stored_as s.drive k (Some (put_at s.place s.byte)) img)
      → OneStore call c

same_both : (t : Bool) (img : List ℕ) → cond t img img ≡ img
same_both true img = refl
same_both false img = refl

tick_store : (a b : List ℕ) (c : Controller) → OneStore (ticks a b) c
unfolding image_after
tick_store a b c = go (ruled_of a b c).effect refl
  where
    go : (e : Effect) → (ruled_of a b c).effect ≡ e → OneStore (ticks a b) c
    go None e = none (rw e) (λ k img. rw e (same_both (eqb (ruled_of a b c).drive k) img))
    go (Some put) e =
        one (record { drive = (ruled_of a b c).drive; place = put.at; byte = put.byte }) (rw e) (λ k img. rw e)

one_store : (call : Call) (c : Controller) → OneStore call c
one_store (powers head0 head1) c = none refl (λ k img. refl)
one_store (reads offset) c = none refl (λ k img. refl)
one_store (writes offset byte) c = none refl (λ k img. refl)
one_store (takes tc) c = none refl (λ k img. refl)
one_store (gives byte tc) c = none refl (λ k img. refl)
one_store (ticks a b) c = tick_store a b c
one_store (notes drive) c = none refl (λ k img. refl)

-- all the stores of calls lead to the images that they leave
all_put : (calls : List Call) (c : Controller) (k : ℕ) (img : List ℕ)
    → put_all k (stores_made calls c) img ≡ image_left k img calls c
unfolding put_all stores_made image_left
all_put [] c k img = refl
all_put (call ∷ calls) c k img = go (one_store call c) (λ img'. all_put calls (after call c) k img')
  where
    go : OneStore call c
        → ((img' : List ℕ) → put_all k (stores_made calls (after call c)) img' ≡ image_left k img' calls (after call c))
        → put_all k (store_by call c ++ stores_made calls (after call c)) img
        ≡ image_left k (image_by k img call c) calls (after call c)
    go (none e same) later = rw (e, same k img) (later img)
    go (one s e image) later = rw (e, image k img) (later _)

-- and the first i of them to those of the first j calls
record Begun (calls : List Call) (c : Controller) (a b : List ℕ) (i : ℕ) : Type 0 where
  count : ℕ
  within : count ≤ length calls
  first : put_all 0 (take i (stores_made calls c)) a ≡ image_left 0 a (take count calls) c
  second : put_all 1 (take i (stores_made calls c)) b ≡ image_left 1 b (take count calls) c

begun : (calls : List Call) (c : Controller) (a b : List ℕ) (i : ℕ) → Begun calls c a b i
unfolding put_all stores_made image_left
begun [] c a b i =
    record {
      count = 0;
      within = omega arith;
      first = ap (λ (l : List StoreMade). put_all 0 l a) (take-nil i);
      second = ap (λ (l : List StoreMade). put_all 1 l b) (take-nil i);
    }
begun (call ∷ calls) c a b i = go i (one_store call c) (λ a' b' i'. begun calls (after call c) a' b' i')
  where
    go : (i : ℕ) → OneStore call c → ((a' b' : List ℕ) (i' : ℕ) → Begun calls (after call c) a' b' i')
        → Begun (call ∷ calls) c a b i
    go zero s later = record { count = 0; within = omega arith; first = refl; second = refl }
    go (suc i) (none e same) later =
        let l = later a b (suc i) in
        record {
          count = suc l.count;
          within = omega (arith, l.within);
          first =
              rw e
              (l.first ∙ ap (λ (m : List ℕ). image_left 0 m (take l.count calls) (after call c)) (sym (same 0 a)));
          second =
              rw e
              (l.second ∙ ap (λ (m : List ℕ). image_left 1 m (take l.count calls) (after call c)) (sym (same 1 b)));
        }
    go (suc i) (one s e image) later =
        let l = later (image_by 0 a call c) (image_by 1 b call c) i in
        record {
          count = suc l.count;
          within = omega (arith, l.within);
          first = rw (e, ← image 0 a) l.first;
          second = rw (e, ← image 1 b) l.second;
        }

-- the first j ticks of a run are a run of j
from_short : (n j : ℕ) (a b : List ℕ) (c : Controller) → j ≤ length (tick_calls n a b c)
    → take j (tick_calls n a b c) ≡ tick_calls j a b c
unfolding tick_calls
from_short n zero a b c h = refl
from_short zero (suc j) a b c h = absurd (omega arith)
from_short (suc n) (suc j) a b c h =
    go (changed (int_of c) (drq_of c) (answer_to (ticks a b) c).int (answer_to (ticks a b) c).drq) h
    (from_short n j (image_after 0 a b c a) (image_after 1 a b c b) (after (ticks a b) c))
  where
    rest : ℕ → List Call
    rest m = tick_calls m (image_after 0 a b c a) (image_after 1 a b c b) (after (ticks a b) c)

    go : (t : Bool) → suc j ≤ length (ticks a b ∷ cond t [] (rest n))
        → (j ≤ length (rest n) → take j (rest n) ≡ rest j)
        → ticks a b ∷ take j (cond t [] (rest n)) ≡ ticks a b ∷ cond t [] (rest j)
    go true l later = ap (λ r. ticks a b ∷ r) (take-nil j)
    go false l later = ap (λ r. ticks a b ∷ r) (later (omega arith))

pub made_short : (n j : ℕ) (a b : List ℕ) (c : Controller) → j ≤ length (ticks_made n a b c)
    → take j (ticks_made n a b c) ≡ ticks_made j a b c
unfolding ticks_made
made_short n j a b c h = go (valid_of c) h
  where
    go : (t : Bool) → j ≤ length (cond t (tick_calls n a b c) [])
        → take j (cond t (tick_calls n a b c) []) ≡ cond t (tick_calls j a b c) []
    go true l = from_short n j a b c l
    go false l = take-nil j

-- no more than asked for
from_most : (n : ℕ) (a b : List ℕ) (c : Controller) → length (tick_calls n a b c) ≤ n
unfolding tick_calls
from_most zero a b c = omega arith
from_most (suc n) a b c =
    go (changed (int_of c) (drq_of c) (answer_to (ticks a b) c).int (answer_to (ticks a b) c).drq)
    (from_most n (image_after 0 a b c a) (image_after 1 a b c b) (after (ticks a b) c))
  where
    rest : List Call
    rest = tick_calls n (image_after 0 a b c a) (image_after 1 a b c b) (after (ticks a b) c)

    go : (t : Bool) → length rest ≤ n → length (ticks a b ∷ cond t [] rest) ≤ suc n
    go true later = omega arith
    go false later = omega arith

pub made_most : (n : ℕ) (a b : List ℕ) (c : Controller) → length (ticks_made n a b c) ≤ n
unfolding ticks_made
made_most n a b c = go (valid_of c)
  where
    go : (t : Bool) → length (cond t (tick_calls n a b c) []) ≤ n
    go true = from_most n a b c
    go false = omega arith

images_of : (j : ℕ) (a b : List ℕ) (c : Controller) (first second : List ℕ)
    → first ≡ image_left 0 a (ticks_made j a b c) c → second ≡ image_left 1 b (ticks_made j a b c) c
    → ImagesOf j a b c first second
images_of j a b c first second f s =
    record {
      first_is = f ∙ sym (ap (λ (r : Ran). r.first) (ticks_are j a b c));
      second_is = s ∙ sym (ap (λ (r : Ran). r.second) (ticks_are j a b c));
    }

pub stores_in_order : StoresInOrder
stores_in_order n a b c = record { all = all; each = each }
  where
    calls : List Call
    calls = ticks_made n a b c

    all : ImagesOf n a b c (put_all 0 (stores_in n a b c) a) (put_all 1 (stores_in n a b c) b)
    all = images_of n a b c _ _ (all_put calls c 0 a) (all_put calls c 1 b)

    each : (i : ℕ)
        → (j : ℕ) × ((j ≤ (many_ticks n a b c).made)
        × ImagesOf j a b c (put_all 0 (take i (stores_in n a b c)) a) (put_all 1 (take i (stores_in n a b c)) b))
    each i =
        let s = begun calls c a b i in
        let short = made_short n s.count a b c s.within in
        let made : (many_ticks n a b c).made ≡ length calls = ap (λ (r : Ran). r.made) (ticks_are n a b c) in (
          s.count,
          (
            omega (arith, s.within, made),
            images_of s.count a b c _ _ (rw short at s.first) (rw short at s.second),
          ),
        )
