-- The bytes left, given from where the loop stands, end where all of them end from the start.
use Rattle.std.proofs.Common.{length, ◌-◌, ◌≡◌}
use Rattle.block.specs.Serve.{giving, gives_of}
use Rattle.block.proofs.serve.give_bytes.Given as goal

abbrev pub invariant-loop-answer : goal.invariant-loop-answer
invariant-loop-answer l =
    gives_of (length l.bytes - l.fn.done) l.bytes (giving l.fn.answer l.fn.done)
    ≡ gives_of (length l.bytes - l.done) l.bytes (giving l.answer l.done)

-- the bytes left
abbrev pub decreases-loop-answer : goal.decreases-loop-answer
decreases-loop-answer l = length l.bytes - l.done
