-- The record's bytes are those lent, and the test is that of all of them.
use Rattle.pack.proofs.RowLaws.{due_front}
use Rattle.pack.proofs.cycle.due.Goals as goal

pub returns : goal.returns
returns c = rw (c.cycles.ensures, c.row_at.ensures, c.pass_number.ensures) (due_front _ _ _ c.in-Some.ensures.cases)
