-- No more ticks are left than there were.
-- Assumes nothing.
use Rattle.many_ticks.proofs.StreamLaws.{stores_ticks}
use Rattle.many_ticks.proofs.run.storing.Goals as goal

pub onward-requires : goal.onward-requires
onward-requires c =
    (stores_ticks c.args.a.now c.args.b.now c.args.c c.requires.drives_len c.requires.c_value c.args.n c.args.site
    c.args.task c.args.slot c.args.done c.stores-p.result c.stores-p.new.a c.stores-p.new.b c.requires.c_value_2
    (rw (← c.drive.ensures) (rw c.setting.ensures at c.stores-p.ensures))).0
