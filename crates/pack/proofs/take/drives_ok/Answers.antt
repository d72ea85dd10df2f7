-- Each test is its row's.
use Rattle.pack.specs.Bytes.{drives_ok}
use Rattle.pack.proofs.take.drives_ok.Goals as goal

pub returns : goal.returns
unfolding drives_ok
returns c = rw (c.drive_ok-4.ensures, c.drive_ok-3.ensures, c.drive_ok-2.ensures, c.drive_ok.ensures, c.drive_rows.ensures)
