-- The ticks left, made from where the loop stands, end where all of them end from the start.
-- Assumes nothing.
use Rattle.std.proofs.Common.{◌≡◌}
use Rattle.many_ticks.specs.Sector.{reads_of}
use Rattle.many_ticks.proofs.sector.read_bytes.Given as goal

abbrev pub invariant-loop-left : goal.invariant-loop-left
invariant-loop-left l =
    reads_of l.site l.task l.head l.slot l.s l.set.efifo l.set.fifothr l.f.asks l.n l.from l.f
    ≡ reads_of l.site l.task l.head l.slot l.s l.set.efifo l.set.fifothr l.f.asks l.left l.done l.fifo
