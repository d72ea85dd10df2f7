-- The record's bytes are those lent.
use mathlib.Core.Path.{ap}
use Rattle.fdc.specs.Registers.{pending_in}
use Rattle.pack.specs.Bytes.{record_in}
use Rattle.pack.proofs.RowLaws.{record_front}
use Rattle.pack.proofs.cycle.pending.Goals as goal

pub returns : goal.returns
unfolding record_in pending_in
returns c = rw c.drive_rows.ensures (ap (λ x. pending_in x.drives) (record_front _ _ c.in-Some.ensures.cases))
