-- The ticks left, made from where the loop stands, end where all of them end from the start.
-- Assumes nothing.
use Rattle.std.proofs.Common.{◌≡◌}
use Rattle.many_ticks.specs.Sector.{sector_stores}
use Rattle.many_ticks.proofs.sector.stores.Given as goal

abbrev pub invariant-loop-left : goal.invariant-loop-left
invariant-loop-left l =
    sector_stores l.site l.task l.head l.slot l.set.efifo l.set.fifothr l.f.asks l.n l.from l.f l.initial.a l.initial.b
    ≡ sector_stores l.site l.task l.head l.slot l.set.efifo l.set.fifothr l.f.asks l.left l.done l.fifo l.a l.b
