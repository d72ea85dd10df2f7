-- A byte more is still in the sector; and the ticks end where the request changed.
-- Assumes nothing.
use Rattle.std.proofs.Common.{◌<◌, sym, ◌∙◌, arith}
use Rattle.many_ticks.proofs.SectorLaws.{store_room, store_turned}
use Rattle.many_ticks.proofs.sector.stores.Goals as goal

pub overflow_add-done : goal.overflow_add-done
overflow_add-done c =
    let room : c.loop-left.done < 1024 =
    store_room c.args.moving.site c.args.moving.task c.loop-left.done c.loop-left.fifo
    (sym c.store_rests.ensures ∙ c.if-store_rests.false) in
    omega arith

pub returns-then-f-fifo : goal.returns-then-f-fifo
returns-then-f-fifo c =
    let m = c.args.moving in
    store_turned m.site m.task m.head c.args.slot m.set.efifo m.set.fifothr m.fifo.asks
    c.loop-left.left c.loop-left.done c.loop-left.fifo c.loop-left.a c.loop-left.b _ c.loop-left.invariant
    c.loop-left-test.true (sym c.store_rests.ensures ∙ c.if-store_rests.false) c.drawn-fifo.result c.store.new.a
    c.store.new.b c.drawn-fifo.ensures
    (rw (← c.data_place-at.ensures, ← c.front-byte.ensures) c.store.ensures.first)
    (rw (← c.data_place-at.ensures, ← c.front-byte.ensures) c.store.ensures.second)
    c.if-f-fifo.true
