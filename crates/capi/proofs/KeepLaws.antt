-- A refusal leaves the bytes as they were; many ticks of a record reached from power-on are never refused.
-- Assumes nothing.
use Prim.Native.Nat.{ℕ, zero, suc}
use mathlib.Core.Bool.{Bool, true, false, cond}
use mathlib.Core.List.{List}
use mathlib.Core.Path.{◌≡◌, refl}
use lib.Dec.{eqb}
use borrow.Author.Tests.{ne_eqb}
use Rattle.image.proofs.TestLaws.{by_test}
use Rattle.fdc.specs.declared.answer.Answer.{Answer}
use Rattle.fdc.specs.declared.record.Controller.{Controller}
use Rattle.fdc.specs.Answer.{number_in, answer_of}
use Rattle.reached.specs.Runs.{ticks, answer_to, Reached}
use Rattle.fdc.specs.Ticks.{tick_of}
use Rattle.reached.specs.Good.{Good}
use Rattle.reached.proofs.GoodLaws.{good_valid, good_after, good_reached}
use Rattle.pack.specs.Bytes.{is_record}
use Rattle.capi.specs.Calls.{written_back, word_back, bytes_from, cycled_of, cycle_from}
use Rattle.many_ticks.specs.Run.{Ran, ran_on, changed_in, ran_for, no_tick_made, many_ticks}
use Rattle.capi.specs.Word.{no_record}

same_both : (t : Bool) (l : List ℕ) → cond t l l ≡ l
same_both true l = refl
same_both false l = refl

-- 01 Refusals: the record as handed in
pub refusal_keeps_bytes : (l : List ℕ) (answer : Answer) → (number_in answer.reply ≡ 0 → ⊥)
    → (bytes_from l answer ≡ l) × (cycle_from l answer ≡ l)
unfolding bytes_from written_back cycle_from cycled_of
refusal_keeps_bytes l answer refused =
    let e : eqb (number_in answer.reply) 0 ≡ false = ne_eqb (number_in answer.reply) 0 refused in
    (rw e (same_both (is_record l) l), rw e (same_both (is_record l) l))

-- house: bytes that are no record get refusal 4 with both lines off, and stay
pub no_record_refused : (l : List ℕ) (answer : Answer) → is_record l ≡ false
    → (word_back l answer ≡ no_record) × ((bytes_from l answer ≡ l) × (cycle_from l answer ≡ l))
unfolding word_back bytes_from cycle_from
no_record_refused l answer h = (rw h, (rw h, rw h))

-- a record that calls can leave, with a reply that is no refusal
record Sound (answer : Answer) : Type 0 where
  good : Good answer.controller
  done : number_in answer.reply ≡ 0

ticked_sound : (r : Ran) → Sound r.answer → Sound (ran_on r).answer
unfolding ran_on answer_to tick_of answer_of
ticked_sound r s =
    record {
      good = good_after (ticks r.first r.second) r.answer.controller s.good;
      done = rw (good_valid r.answer.controller s.good);
    }

run_sound : (n : ℕ) (r : Ran) → Sound r.answer → Sound (ran_for n r).answer
unfolding ran_for
run_sound zero r s = s
run_sound (suc n) r s =
    by_test (changed_in r.answer (ran_on r).answer) (λ (x : Ran). Sound x.answer) (ran_on r) (ran_for n (ran_on r))
    (λ _. ticked_sound r s) (λ _. run_sound n (ran_on r) (ticked_sound r s))

-- 01 Refusals: no record reached from power-on by calls earns 4, so many ticks of it are all made
pub ticks_never_4 : (n : ℕ) (a b : List ℕ) (c : Controller) → Reached c
    → number_in (many_ticks n a b c).answer.reply ≡ 0
unfolding many_ticks answer_of
ticks_never_4 n a b c reached =
    let g : Good c = good_reached c reached in
    rw (good_valid c g) (run_sound n (no_tick_made a b c) (record { good = g; done = refl })).done
