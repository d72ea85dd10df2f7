-- Those left, sensed from where the loop stands, lead to where all lead from the start.
use Rattle.std.proofs.Common.{◌≡◌, ◌-◌}
use Rattle.block.specs.Ready.{clear_of}
use Rattle.block.proofs.ready.clear.Given as goal

abbrev pub invariant-loop : goal.invariant-loop
invariant-loop l = clear_of 5 l.fn.c ≡ clear_of (5 - l.counter) l.c
