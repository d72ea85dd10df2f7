-- The bytes passed are there and in range.
use Rattle.std.proofs.Common.{◌≡◌, Ok}
use Rattle.judging.specs.Verdict.{first_of}
use Rattle.judging.specs.Judge.{header_byte}
use Rattle.judging.proofs.judge.header_fault.Given as goal

abbrev pub invariant-loop-at : goal.invariant-loop-at
invariant-loop-at l = first_of (header_byte l.s) l.at ≡ Ok tt
