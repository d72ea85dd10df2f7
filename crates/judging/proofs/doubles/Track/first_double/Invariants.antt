-- No slot passed has a double before the one known.
use Rattle.std.proofs.Common.{◌<◌, IfSome, unwrap_or}
use Rattle.judging.specs.Twice.{slots_of}
use Rattle.judging.proofs.GroupLaws.{Looked}
use Rattle.judging.proofs.doubles.Track.first_double.Given as goal

abbrev pub invariant-loop-k : goal.invariant-loop-k
invariant-loop-k l =
    Looked (slots_of l.self) l.self.g.slots l.done (unwrap_or l.double l.self.g.slots) l.k
    × IfSome l.double (λ k. k < l.self.g.slots)
