-- Each test is its row's.
use Rattle.pack.specs.Bytes.{flat_ok}
use Rattle.pack.proofs.take.flat_ok.Goals as goal

pub returns : goal.returns
unfolding flat_ok
returns c =
    rw (
      c.spot_ok.ensures,
      c.row_at-4.ensures,
      c.task_ok.ensures,
      c.row_at-3.ensures,
      c.site_ok.ensures,
      c.row_at-2.ensures,
      c.head_ok.ensures,
      c.row_at.ensures,
    )
