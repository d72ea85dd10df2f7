-- Demand 2, one answer: document 01, What each call's contract says: "Each public call has a contract that leaves one
-- possible answer: value, lines, record, both images, refusals too"; and Refusals: "No record reached from power-on by
-- calls earns 4".
-- Assumes nothing.
use Rattle.std.specs.Prelude.{ℕ, List, ◌≡◌}
use Rattle.fdc.specs.declared.answer.Answer.{Answer}
use Rattle.fdc.specs.declared.record.Controller.{Controller}
use Rattle.reached.specs.Runs.{Call, answer_to}
use Rattle.answers.specs.Refusals.{number_to}
use Rattle.demands.specs.Work.{Real, image_by}

-- all that a call gives: its answer, which holds the reply, both lines and the record; and both images after it
pub record AnswerMade : Type 0 where
  pub answer : Answer
  pub first : List ℕ
  pub second : List ℕ

-- what the contracts of the seven calls allow, where the drives' images are a and b. Only the tick is lent them; by any
-- other call they stay as they are
pub record AllowedAnswer (call : Call) (c : Controller) (a b : List ℕ) (o : AnswerMade) : Type 0 where
  pub answer : o.answer ≡ answer_to call c
  pub first : o.first ≡ image_by 0 a call c
  pub second : o.second ≡ image_by 1 b call c

-- 01 Contracts: two answers that a call's contract allows are equal, whatever the record
abbrev pub OneAnswer : Type 0
OneAnswer =
    (call : Call) (c : Controller) (a b : List ℕ) (o p : AnswerMade) → AllowedAnswer call c a b o → AllowedAnswer call c a b p → o ≡ p

-- 01 Refusals: no record reached from power-on by calls earns 4
abbrev pub NeverFour : Type 0
NeverFour = (c : Controller) → Real c → (call : Call) → number_to call c ≡ 4 → ⊥
