-- The record's bytes are those lent.
use mathlib.Core.Path.{ap}
use Rattle.pack.specs.Bytes.{record_in}
use Rattle.pack.proofs.RowLaws.{record_front}
use Rattle.pack.proofs.take.load_fifo.Goals as goal

pub returns : goal.returns
unfolding record_in
returns c = rw c.fifo_in.ensures (ap (λ x. x.fifo) (record_front _ _ c.in-Some.ensures.cases))
