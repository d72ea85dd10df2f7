-- What was written is read back as the record.
use Rattle.std.proofs.Common.{length}
use Rattle.std.proofs.lemmas.Bool.{le-leb}
use Rattle.pack.specs.Bytes.{record_size, stored_of}
use Rattle.pack.proofs.BackLaws.{holds}
use Rattle.pack.proofs.put.store.Goals as goal

pub returns-in-Some-clause-bytes : goal.returns-in-Some-clause-bytes
unfolding stored_of
returns-in-Some-clause-bytes c =
    rw (c.put_record.ensures.stored, le-leb record_size (length c.args.s.now) c.in-Some.ensures.cases.enough)

pub returns-in-Some-clause-back : goal.returns-in-Some-clause-back
returns-in-Some-clause-back c = λ h. rw c.put_record.ensures.stored (holds _ _ c.put_record.ensures.fits)
