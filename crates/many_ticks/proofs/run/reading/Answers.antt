-- No more ticks are left than there were.
-- Assumes nothing.
use Rattle.many_ticks.proofs.StreamLaws.{reads_ticks}
use Rattle.many_ticks.proofs.run.reading.Goals as goal

pub onward-requires : goal.onward-requires
onward-requires c =
    (reads_ticks c.args.a.now c.args.b.now c.args.c c.requires.drives_len c.requires.c_value c.args.n c.args.site
    c.args.task c.args.sector c.args.done c.reads-p.result c.requires.c_value_2
    (rw (← c.drive.ensures) (rw c.setting.ensures at c.reads-p.ensures))).0
