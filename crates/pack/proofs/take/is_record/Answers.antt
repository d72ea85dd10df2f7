-- The record's bytes are those lent, and the test is that of all of them.
use Rattle.pack.proofs.RowLaws.{is_record_front}
use Rattle.pack.proofs.take.is_record.Goals as goal

pub returns : goal.returns
returns c = rw c.cases_ok.ensures (is_record_front _ _ c.in-Some.ensures.cases)
