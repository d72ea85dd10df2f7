-- A byte more is still in the sector.
-- Assumes nothing.
use Rattle.std.proofs.Common.{◌+◌, ◌<◌, sym, ◌∙◌, arith}
use Rattle.many_ticks.proofs.SectorLaws.{read_room}
use Rattle.many_ticks.proofs.sector.read_bytes.Goals as goal

pub overflow_add-done : goal.overflow_add-done
overflow_add-done c =
    let room : c.loop-left.done + 1 < 1024 =
    read_room c.args.moving.site c.args.moving.task c.args.moving.set.efifo c.loop-left.done c.loop-left.fifo
    (sym c.read_rests.ensures ∙ c.if-read_rests.false) in
    omega arith
