-- The bytes passed are right.
use Rattle.std.proofs.Common.{◌≡◌, Ok}
use Rattle.judging.specs.Verdict.{first_of, byte_fault}
use Rattle.judging.proofs.fault.bytes_fault.Given as goal

abbrev pub invariant-loop-i : goal.invariant-loop-i
invariant-loop-i l = first_of (byte_fault l.s l.kind l.at l.bytes) l.i ≡ Ok tt
