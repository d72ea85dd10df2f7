-- The results left, taken from where the loop stands, give what all of them give from the start.
use Rattle.std.proofs.Common.{◌-◌, ◌≡◌, replicate}
use Rattle.block.specs.Serve.{status_from}
use Rattle.block.proofs.serve.take_status.Given as goal

abbrev pub invariant-loop-byte : goal.invariant-loop-byte
invariant-loop-byte l = status_from 7 0 (replicate 7 0) l.fn.c ≡ status_from (7 - l.byte-index) l.byte-index l.byte-items l.c
