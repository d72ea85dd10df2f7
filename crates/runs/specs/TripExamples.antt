-- The write and the read of PromptRuns, two sectors, meet all premises of `RoundTrip` and `LoadsBack` at once: the 260
-- bytes come back.
-- Assumes nothing.
use Rattle.std.specs.Prelude.{ℕ, ◌<◌, false, ◌++◌, ◌≡◌, length}
use Rattle.demands.specs.LoadsBack.{SameAgain, Loads}
use Rattle.demands.specs.RoundTrip.{Written, ReadBack, done_by, sectors_by, Succeeded, HoldsNo, got_by, SameSectors}
use Rattle.demands.specs.Succeeds.{Success}
use Rattle.demands.specs.Work.{Real}
use Rattle.runs.specs.CutExamples.{down}
use Rattle.runs.specs.HandedExamples.{reading}
use Rattle.runs.specs.PromptRuns.{first, wrote, left, back}
use Rattle.runs.specs.SucceedsExamples.{from_one}
use Rattle.runs.specs.SuccessRuns.{long_read}
use Rattle.runs.specs.Whole.{asked_by, calls_of}

pub record TripExample : Type 0 where
  pub write : Written Real
  pub writes : write.calls ≡ calls_of wrote
  pub done : Succeeded write
  pub sectors : sectors_by write ≡ 2
  pub host : (done_by write).host ≡ first ++ down 4
  pub holds : (m : ℕ) → m < sectors_by write → HoldsNo write left m
  pub read : ReadBack Real left write.g
  pub reads : read.calls ≡ calls_of back
  pub same : SameSectors write read
  pub as_many : length (got_by read) ≡ length (done_by write).host
  -- so all come back
  pub again : got_by read ≡ (done_by write).host
  -- with the bound's ticks: the premises that SuccessRuns and PromptRuns do not name, and the conclusion
  pub same_again : SameAgain write (asked_by back) back.order (reading false false false 2)
  pub loads :
      Loads (Success back.order (reading false false false 2) from_one 1) (first ++ down 4) (calls_of long_read)
      (asked_by back)
