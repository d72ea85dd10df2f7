-- The marks are the R of the group's slots passed.
use Rattle.judging.specs.Twice.{slots_of}
use Rattle.judging.proofs.GroupLaws.{Passing}
use Rattle.judging.proofs.doubles.Track.pass.Given as goal

abbrev pub invariant-loop-k : goal.invariant-loop-k
invariant-loop-k l = Passing (slots_of l.self) l.lead l.fn.done l.k l.done l.seen
