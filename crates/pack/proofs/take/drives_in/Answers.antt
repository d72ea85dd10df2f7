-- Each drive is its row's.
use Rattle.pack.proofs.take.drives_in.Goals as goal

pub returns : goal.returns
returns c = rw (c.drive_in-4.ensures, c.drive_in-3.ensures, c.drive_in-2.ensures, c.drive_in.ensures, c.drive_rows.ensures)
