-- Many ticks: that many, each the tick of the rules (01 Calls), up to and with the first that changes INT or DRQ
-- (house).
-- Assumes nothing.
use Rattle.std.specs.Prelude.{ℕ, zero, suc, ◌+◌, Bool, not, ◌&&◌, cond, List}
use Rattle.std.specs.Bool.{beq}
use Rattle.fdc.specs.declared.answer.Answer.{Answer}
use Rattle.fdc.specs.declared.answer.Reply.TheVariants.{Done}
use Rattle.fdc.specs.declared.record.Controller.{Controller}
use Rattle.fdc.specs.Answer.{refused, answer_of}
use Rattle.fdc.specs.Record.{valid_of}
use Rattle.fdc.specs.Ticks.{tick_of, image_after}

-- after some ticks: the last one's answer, how many were made, and both images
pub record Ran : Type 0 where
  pub answer : Answer
  pub made : ℕ
  pub first : List ℕ
  pub second : List ℕ

abbrev pub ran_with : Answer → ℕ → List ℕ → List ℕ → Ran
ran_with answer made a b = record { answer = answer; made = made; first = a; second = b }

-- one tick more
unfoldable pub ran_on : Ran → Ran
ran_on r =
    record {
      answer = tick_of r.first r.second r.answer.controller;
      made = r.made + 1;
      first = image_after 0 r.first r.second r.answer.controller r.first;
      second = image_after 1 r.first r.second r.answer.controller r.second;
    }

abbrev pub changed : Bool → Bool → Bool → Bool → Bool
changed int drq int' drq' = not (beq int int' && beq drq drq')

abbrev pub changed_in : Answer → Answer → Bool
changed_in p q = changed p.int p.drq q.int q.drq

unfoldable pub ran_for : ℕ → Ran → Ran
ran_for zero r = r
ran_for (suc n) r = cond (changed_in r.answer (ran_on r).answer) (ran_on r) (ran_for n (ran_on r))

-- of the ticks before r only the last may have changed a line; then those left
abbrev pub onward_of : Answer → ℕ → Ran → Ran
onward_of before left r = cond (changed_in before r.answer) r (ran_for left r)

-- before the first tick: value 0 and the record's lines
abbrev pub no_tick_made : List ℕ → List ℕ → Controller → Ran
no_tick_made a b c = ran_with (answer_of Done c) 0 a b

-- 01 Refusals 4: of a damaged record no tick is made
abbrev pub refused_of : List ℕ → List ℕ → Controller → Ran
refused_of a b c = ran_with (answer_of (refused 4) c) 0 a b

unfoldable pub many_ticks : ℕ → List ℕ → List ℕ → Controller → Ran
many_ticks n a b c = cond (valid_of c) (ran_for n (no_tick_made a b c)) (refused_of a b c)
