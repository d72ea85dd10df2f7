-- Many ticks are the ticks that they made, one after the other: the same answer, count and images.
-- Assumes nothing.
use Prim.Native.Nat.{ℕ, zero, suc, ◌+◌}
use native.Mathlib.Omega.{arith}
use mathlib.Core.Bool.{Bool, true, false, cond}
use mathlib.Core.List.{List, [], ◌∷◌}
use mathlib.Core.Path.{◌≡◌, refl, ap, ◌∙◌}
use lib.ListN.{length}
use Rattle.image.proofs.TestLaws.{by_test}
use Rattle.chip.specs.declared.refusal.Refusal.TheVariants.{Damaged}
use Rattle.fdc.specs.declared.answer.Answer.{Answer}
use Rattle.fdc.specs.declared.answer.Reply.{Reply}
use Rattle.fdc.specs.declared.answer.Reply.TheVariants.{Done, Refused}
use Rattle.fdc.specs.declared.record.Controller.{Controller}
use Rattle.fdc.specs.Answer.{value_of, number_in, answer_of}
use Rattle.fdc.specs.Record.{valid_of}
use Rattle.fdc.specs.Registers.{int_of, drq_of}
use Rattle.reached.specs.Runs.{Call, answer_to, after, run_calls}
use Rattle.reached.specs.Runs.{ticks}
use Rattle.fdc.specs.Ticks.{tick_reply, tick_of, ruled_of, image_after}
use Rattle.demands.specs.Work.{image_left}
use Rattle.many_ticks.specs.Run.{Ran, ran_with, ran_on, changed, changed_in, ran_for, no_tick_made, refused_of, many_ticks}
use Rattle.firmware.specs.Made.{tick_calls, ticks_made, last_of}
use Rattle.firmware.proofs.TypedLaws.{valid_ticked}

-- what some calls answer last, how many they are, and what they leave
abbrev pub ran_by : Answer → ℕ → List Call → List ℕ → List ℕ → Controller → Ran
ran_by answer made calls a b c =
    ran_with (last_of answer calls c) (made + length calls) (image_left 0 a calls c) (image_left 1 b calls c)

pub run_is : (n made : ℕ) (reply : Reply) (a b : List ℕ) (c : Controller)
    → ran_for n (ran_with (answer_of reply c) made a b) ≡ ran_by (answer_of reply c) made (tick_calls n a b c) a b c
unfolding ran_for ran_on tick_calls last_of image_left answer_to tick_of answer_of
run_is zero made reply a b c =
    let e : made ≡ made + 0 = omega arith in
    ap (λ (m : ℕ). ran_with (answer_of reply c) m a b) e
run_is (suc n) made reply a b c =
    go (changed (int_of c) (drq_of c) next.int next.drq)
    (run_is n (made + 1) (tick_reply c) first second (ruled_of a b c).controller)
  where
    next : Answer
    next = tick_of a b c

    first : List ℕ
    first = image_after 0 a b c a

    second : List ℕ
    second = image_after 1 a b c b

    rest : List Call
    rest = tick_calls n first second next.controller

    more : made + 1 + length rest ≡ made + suc (length rest)
    more = omega arith

    go : (t : Bool)
        → ran_for n (ran_with next (made + 1) first second) ≡ ran_by next (made + 1) rest first second next.controller
        → cond t (ran_with next (made + 1) first second) (ran_for n (ran_with next (made + 1) first second))
        ≡ ran_by (answer_of reply c) made (ticks a b ∷ cond t [] rest) a b c
    go true later = refl
    go false later =
        later
        ∙ ap (λ (m : ℕ). ran_with (last_of next rest next.controller) m
        (image_left 0 first rest next.controller) (image_left 1 second rest next.controller)) more

-- of a record, damaged or not
pub ticks_are : (n : ℕ) (a b : List ℕ) (c : Controller)
    → many_ticks n a b c
    ≡ ran_with (last_of (answer_of (tick_reply c) c) (ticks_made n a b c) c) (length (ticks_made n a b c))
    (image_left 0 a (ticks_made n a b c) c) (image_left 1 b (ticks_made n a b c) c)
unfolding many_ticks ticks_made last_of image_left
ticks_are n a b c = go (valid_of c)
  where
    none : 0 + length (tick_calls n a b c) ≡ length (tick_calls n a b c)
    none = omega arith

    calls : Bool → List Call
    calls t = cond t (tick_calls n a b c) []

    go : (t : Bool)
        → cond t (ran_for n (no_tick_made a b c)) (refused_of a b c)
        ≡ ran_with (last_of (answer_of (cond t Done (Refused Damaged)) c) (calls t) c) (length (calls t))
        (image_left 0 a (calls t) c) (image_left 1 b (calls t) c)
    go true = rw none at (run_is n 0 Done a b c)
    go false = refl

-- the last answer has the record that the calls lead to
pub last_record : (calls : List Call) (answer : Answer) (c : Controller) → answer.controller ≡ c
    → (last_of answer calls c).controller ≡ run_calls calls c
unfolding last_of run_calls
last_record [] answer c e = e
last_record (call ∷ calls) answer c e = last_record calls (answer_to call c) (after call c) refl

-- no tick of a valid record is refused
tick_done : (a b : List ℕ) (c : Controller) → valid_of c ≡ true → number_in (tick_of a b c).reply ≡ 0
unfolding tick_of answer_of
tick_done a b c v = rw v

run_done : (n : ℕ) (r : Ran) → valid_of r.answer.controller ≡ true → number_in r.answer.reply ≡ 0
    → number_in (ran_for n r).answer.reply ≡ 0
unfolding ran_for ran_on
run_done zero r v d = d
run_done (suc n) r v d =
    by_test (changed_in r.answer (ran_on r).answer) (λ (q : Ran). number_in q.answer.reply ≡ 0) (ran_on r)
    (ran_for n (ran_on r)) (λ _. tick_done r.first r.second r.answer.controller v)
    (λ _. run_done n (ran_on r) (valid_ticked r.first r.second r.answer.controller v)
    (tick_done r.first r.second r.answer.controller v))

pub ticks_refused : (n : ℕ) (a b : List ℕ) (c : Controller) → (number_in (many_ticks n a b c).answer.reply ≡ 0 → ⊥)
    → many_ticks n a b c ≡ refused_of a b c
unfolding many_ticks answer_of
ticks_refused n a b c refused = go (valid_of c) refl
  where
    go : (t : Bool) → valid_of c ≡ t → cond t (ran_for n (no_tick_made a b c)) (refused_of a b c) ≡ refused_of a b c
    go true v = absurd (refused (rw v (run_done n (no_tick_made a b c) v refl)))
    go false v = refl

-- and none reads a value
tick_nothing : (a b : List ℕ) (c : Controller) → value_of (tick_of a b c).reply ≡ 0
unfolding tick_of answer_of
tick_nothing a b c = by_test (valid_of c) (λ (r : Reply). value_of r ≡ 0) _ _ (λ _. refl) (λ _. refl)

run_nothing : (n : ℕ) (r : Ran) → value_of r.answer.reply ≡ 0 → value_of (ran_for n r).answer.reply ≡ 0
unfolding ran_for ran_on
run_nothing zero r e = e
run_nothing (suc n) r e =
    by_test (changed_in r.answer (ran_on r).answer) (λ (q : Ran). value_of q.answer.reply ≡ 0) (ran_on r)
    (ran_for n (ran_on r)) (λ _. tick_nothing r.first r.second r.answer.controller)
    (λ _. run_nothing n (ran_on r) (tick_nothing r.first r.second r.answer.controller))

pub ticks_nothing : (n : ℕ) (a b : List ℕ) (c : Controller) → value_of (many_ticks n a b c).answer.reply ≡ 0
unfolding many_ticks answer_of
ticks_nothing n a b c =
    by_test (valid_of c) (λ (q : Ran). value_of q.answer.reply ≡ 0) _ _ (λ _. run_nothing n (no_tick_made a b c) refl)
    (λ _. refl)
