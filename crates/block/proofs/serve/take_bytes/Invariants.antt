-- The bytes left, taken from where the loop stands, end where all of them end from the start.
use Rattle.std.proofs.Common.{length, ◌-◌, ◌≡◌}
use Rattle.block.specs.Serve.{taking, takes_of}
use Rattle.block.proofs.serve.take_bytes.Given as goal

abbrev pub invariant-loop-answer : goal.invariant-loop-answer
invariant-loop-answer l =
    takes_of (length l.fn.out - l.fn.done) (taking l.fn.answer l.fn.out l.fn.done)
    ≡ takes_of (length l.out - l.done) (taking l.answer l.out l.done)

-- the bytes left
abbrev pub decreases-loop-answer : goal.decreases-loop-answer
decreases-loop-answer l = length l.initial.out - l.done
