-- The record's bytes are those lent.
use Rattle.pack.proofs.RowLaws.{record_front}
use Rattle.pack.proofs.take.load.Goals as goal

pub returns : goal.returns
returns c = rw c.record_in.ensures (record_front _ _ c.in-Some.ensures.cases)
