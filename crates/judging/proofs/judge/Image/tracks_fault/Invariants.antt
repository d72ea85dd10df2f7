-- The tracks passed are sound, and of the track in hand its front and the slots passed.
use Rattle.std.proofs.Common.{◌/◌, ◌%◌, ◌≤◌, ◌≡◌, unwrap_or, Ok}
use Rattle.judging.specs.Verdict.{first_of}
use Rattle.judging.specs.Judge.{slot_fault, track_fault}
use Rattle.judging.proofs.judge.Image.tracks_fault.Given as goal

abbrev pub invariant-loop-k : goal.invariant-loop-k
invariant-loop-k l =
    (l.k ≤ unwrap_or l.double l.self.g.slots)
    × ((l.found ≡ Ok tt) × (first_of (slot_fault l.self.g l.self.s.now l.cylinder l.side) l.k ≡ Ok tt))

abbrev pub invariant-tracks : goal.invariant-tracks
invariant-tracks l =
    (l.found ≡ Ok tt) × (first_of (λ t. track_fault l.self.g l.self.s.now (t / l.self.g.heads) (t % l.self.g.heads)) l.t ≡ Ok tt)
