-- What a call answers: document 01, Refusals by number. Which call answers what is Calls.
-- Assumes nothing.
use Rattle.std.specs.Prelude.{ℕ}
use Rattle.chip.specs.Refusals.{number_of, refusal_numbered}
use Rattle.fdc.specs.declared.record.Controller.{Controller}
use Rattle.fdc.specs.declared.answer.Reply.{Reply}
use Rattle.fdc.specs.declared.answer.Reply.TheVariants.{Done, Byte, Refused}
use Rattle.fdc.specs.declared.answer.Answer.{Answer}
use Rattle.fdc.specs.Registers.{int_of, drq_of}

-- 01 Refusals: value 0 where nothing is read, and in a refusal
abbrev pub value_of : Reply → ℕ
value_of Done = 0
value_of (Byte byte) = byte
value_of (Refused refusal) = 0

-- 01 Refusals: the number; 0 is none
abbrev pub number_in : Reply → ℕ
number_in Done = 0
number_in (Byte byte) = 0
number_in (Refused refusal) = number_of refusal

-- 01 Refusals: the refusal of this number, as a call's promise says it
abbrev pub refused : ℕ → Reply
refused n = Refused (refusal_numbered n)

-- 01 Refusals: the lines are those of the record handed back
unfoldable pub answer_of : Reply → Controller → Answer
answer_of reply c = record { reply = reply; int = int_of c; drq = drq_of c; controller = c }
