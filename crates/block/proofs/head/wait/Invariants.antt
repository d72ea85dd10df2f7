-- The ticks left, made from where the loop stands, end where all of them end from the start.
use Rattle.std.proofs.Common.{◌≡◌, ◌-◌}
use Rattle.block.specs.Box.{box_of}
use Rattle.block.specs.Head.{wait_of}
use Rattle.block.proofs.head.wait.Given as goal

abbrev pub invariant-loop : goal.invariant-loop
invariant-loop l =
    wait_of l.fn.budget (box_of l.fn.c l.fn.a l.fn.b) ≡ wait_of (l.budget - l.counter) (box_of l.c l.a l.b)
