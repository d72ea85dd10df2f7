-- The FIFO is written in the record's own bytes, and so in those lent.
use Rattle.std.proofs.Common.{length}
use Rattle.std.proofs.lemmas.Bool.{le-leb}
use Rattle.pack.specs.Bytes.{record_size, fifo_stored}
use Rattle.pack.proofs.CycleLaws.{holds_fifo}
use Rattle.pack.proofs.RowLaws.{fifo_front}
use Rattle.pack.proofs.put.store_fifo.Goals as goal

pub returns-in-Some-clause-stored : goal.returns-in-Some-clause-stored
unfolding fifo_stored
returns-in-Some-clause-stored c =
    rw (c.put_fifo.ensures.stored, le-leb record_size (length c.args.s.now) c.in-Some.ensures.cases.enough)
    (fifo_front c.args.f _ _ c.in-Some.ensures.cases)

pub returns-in-Some-clause-back : goal.returns-in-Some-clause-back
returns-in-Some-clause-back c =
    λ h. rw (c.put_fifo.ensures.stored, fifo_front c.args.f _ _ c.in-Some.ensures.cases)
    (holds_fifo c.args.f _ c.put_fifo.ensures.fits h)
