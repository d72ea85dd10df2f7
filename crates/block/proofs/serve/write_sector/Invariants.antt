-- The ticks left, made from where the loop stands, end where all of them end from the start.
use Rattle.std.proofs.Common.{◌≡◌, ◌-◌}
use Rattle.block.specs.Box.{box_of}
use Rattle.block.specs.Serve.{writes_of}
use Rattle.block.proofs.serve.write_sector.Given as goal

abbrev pub invariant-loop : goal.invariant-loop
invariant-loop l =
    writes_of l.fn.budget (box_of l.fn.c l.fn.a l.fn.b) l.bytes 0
    ≡ writes_of (l.budget - l.counter) (box_of l.c l.a l.b) l.bytes l.done
