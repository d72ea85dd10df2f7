-- The rows written one after another are the record's bytes.
use Rattle.pack.proofs.PutLaws.{record_filled}
use Rattle.pack.proofs.put.put_record.Goals as goal

pub returns-clause-stored : goal.returns-clause-stored
returns-clause-stored c =
    rw (
      c.put_flat.ensures.stored,
      c.put_bytes.ensures.stored,
      c.put_fifo.ensures.stored,
      c.put_drives.ensures.stored,
      c.put_row.ensures,
      c.registers_row.ensures,
      c.from.ensures,
    ) (record_filled c.args.c c.args.r.now c.told-r)
