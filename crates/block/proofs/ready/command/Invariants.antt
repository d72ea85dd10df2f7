-- The bytes left, written from where the loop stands, lead to where all of them lead from the start.
use Rattle.std.proofs.Common.{drop, ◌≡◌}
use Rattle.block.specs.Ready.{command_of}
use Rattle.block.proofs.ready.command.Given as goal

abbrev pub invariant-loop-byte : goal.invariant-loop-byte
invariant-loop-byte l = command_of l.bytes l.fn.c ≡ command_of (drop l.byte-index l.bytes) l.c
