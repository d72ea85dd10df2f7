-- Each test is its row's.
use Rattle.pack.specs.Cycle.{drives_still}
use Rattle.pack.proofs.cycle.drives_still.Goals as goal

pub returns : goal.returns
unfolding drives_still
returns c = rw (c.still-4.ensures, c.still-3.ensures, c.still-2.ensures, c.still.ensures, c.drive_rows.ensures)
