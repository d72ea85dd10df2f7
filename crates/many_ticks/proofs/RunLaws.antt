-- Many ticks, one at a time.
-- Assumes nothing.
use Prim.Native.Nat.{ℕ, suc, ◌+◌, ◌-◌, ◌≤◌, ◌<◌}
use mathlib.Core.Bool.{Bool, true, false, cond}
use mathlib.Core.List.{List}
use mathlib.Core.Path.{◌≡◌, refl, ap, ◌∙◌}
use native.Mathlib.Omega.{arith}
use Rattle.fdc.specs.declared.answer.Answer.{Answer}
use Rattle.fdc.specs.declared.record.Controller.{Controller}
use Rattle.fdc.specs.declared.answer.Reply.TheVariants.{Done}
use Rattle.fdc.specs.Answer.{answer_of}
use Rattle.fdc.specs.Registers.{int_of, drq_of}
use Rattle.fdc.specs.Ticks.{tick_of, image_after}
use Rattle.many_ticks.specs.Run.{Ran, ran_with, ran_on, changed, changed_in, ran_for}

-- the lines of a record, before and after
pub changed_lines : (c : Controller) (int drq stops : Bool) (next : Answer) → int ≡ int_of c → drq ≡ drq_of c
    → stops ≡ changed int drq next.int next.drq → changed_in (answer_of Done c) next ≡ stops
unfolding answer_of
changed_lines c int drq stops next i d s = rw (s, i, d)

-- one tick of those left
pub run_step : (m : ℕ) (r : Ran)
    → ran_for (suc m) r ≡ cond (changed_in r.answer (ran_on r).answer) (ran_on r) (ran_for m (ran_on r))
unfolding ran_for
run_step m r = refl

-- none is left
pub finished : (n left : ℕ) (answer : Answer) (a b : List ℕ) (whole : Ran) → left ≤ 0
    → whole ≡ ran_for left (ran_with answer (n - left) a b) → whole ≡ ran_with answer n a b
unfolding ran_for
finished n left answer a b whole none run =
    let e : left ≡ 0 = omega arith in
    let f : n - 0 ≡ n = omega arith in
    rw (e, f) at run

module _
    (n left : ℕ)
    (answer next : Answer)
    (a b a' b' : List ℕ)
    (whole : Ran)
    (some : 0 < left)
    (within : left ≤ n)
    (run : whole ≡ ran_for left (ran_with answer (n - left) a b))
    (tick : next ≡ tick_of a b answer.controller)
    (first : a' ≡ image_after 0 a b answer.controller a)
    (second : b' ≡ image_after 1 a b answer.controller b)
  where
    after : ran_on (ran_with answer (n - left) a b) ≡ ran_with next (n - (left - 1)) a' b'
    unfolding ran_on
    after =
        let e : n - left + 1 ≡ n - (left - 1) = omega arith in
        rw (tick, first, second, e)

    once : whole
        ≡ cond (changed_in answer next) (ran_with next (n - (left - 1)) a' b')
        (ran_for (left - 1) (ran_with next (n - (left - 1)) a' b'))
    once =
        let e : left ≡ suc (left - 1) = omega arith in
        let r : Ran = ran_with answer (n - left) a b in
        let step : ran_for left r ≡ cond (changed_in answer (ran_on r).answer) (ran_on r) (ran_for (left - 1) (ran_on r)) =
        ap (λ (k : ℕ). ran_for k r) e ∙ run_step (left - 1) r in
        run ∙ (rw after at step)

    -- the lines stay: the ticks left are made from there
    pub goes_on_lem : changed_in answer next ≡ false → whole ≡ ran_for (left - 1) (ran_with next (n - (left - 1)) a' b')
    goes_on_lem same = rw same at once

    -- a line changes: no tick more
    pub stops : changed_in answer next ≡ true → whole ≡ ran_with next (n - (left - 1)) a' b'
    stops other = rw other at once

-- house: one tick at a time or many, the same
pub ticks_one : (r : Ran) → ran_for 1 r ≡ ran_on r
unfolding ran_for
ticks_one r = go (changed_in r.answer (ran_on r).answer)
  where
    go : (t : Bool) → cond t (ran_on r) (ran_on r) ≡ ran_on r
    go true = refl
    go false = refl
