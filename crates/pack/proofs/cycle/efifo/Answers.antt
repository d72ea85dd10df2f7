-- The record's bytes are those lent.
use mathlib.Core.Path.{ap}
use Rattle.pack.specs.Bytes.{record_in}
use Rattle.pack.proofs.RowLaws.{record_front}
use Rattle.pack.proofs.cycle.efifo.Goals as goal

pub returns : goal.returns
unfolding record_in
returns c = rw c.row_at.ensures (ap (λ x. x.registers.efifo) (record_front _ _ c.in-Some.ensures.cases))
