-- The write and the read of PromptRuns, FIFO on, two sectors, meet all premises of `WriteSucceeds` and `ReadSucceeds`;
-- a read without TC those of `ReadReachesEot`. And so they end.
-- Assumes nothing.
use Rattle.std.specs.Prelude.{false}
use Rattle.image.specs.Examples.{disk}
use Rattle.demands.specs.HandedOver.{untaken}
use Rattle.demands.specs.History.{no_history}
use Rattle.demands.specs.PowerCut.{aim_no, head_of}
use Rattle.demands.specs.ReadSucceeds.{AsTaken, ReadTells, AllGood, UntoldRead}
use Rattle.demands.specs.Succeeds.{Writable, AllThere, Fill, WriteTells, Success, LastOne, PastEot}
use Rattle.demands.specs.Work.{EndsWith}
use Rattle.runs.specs.AckExamples.{writing}
use Rattle.runs.specs.HandedExamples.{reading, past_eot}
use Rattle.runs.specs.Host.{double}
use Rattle.runs.specs.PromptRuns.{wrote, left, back, longer, LongRun}
use Rattle.runs.specs.SucceedsExamples.{from_one}
use Rattle.runs.specs.Whole.{WholeGiven, asked_by, calls_of}

-- the bound's ticks
abbrev pub long_write : WholeGiven
long_write = longer 1461 wrote

abbrev pub long_read : WholeGiven
long_read = longer 1463 back

abbrev pub long_eot : WholeGiven
long_eot = longer 1721 past_eot

pub record SuccessRuns : Type 0 where
  -- what PromptRuns does not say: the disk, the sectors, TC with byte 260 and no other
  pub writable : Writable (disk 1 1 2 1) (double 1)
  pub fill : Fill (disk 1 1 2 1) 260 1
  pub there :
      AllThere (disk 1 1 2 1) (double 1) (head_of wrote.order (asked_by wrote)) (writing false false 2) from_one 1
  pub write_tells : WriteTells 260 (calls_of long_write) (asked_by wrote) no_history
  pub good :
      AllGood (disk 1 1 2 1) left (head_of back.order (asked_by back)) (reading false false false 2) from_one 1
  pub read_tells : ReadTells 260 (calls_of long_read) (asked_by back) untaken
  -- so both end with IC 00
  pub write_success :
      EndsWith (Success wrote.order (writing false false 2) from_one 1) (calls_of long_write) (asked_by wrote)
  pub read_success :
      EndsWith (Success back.order (reading false false false 2) from_one 1) (calls_of long_read) (asked_by back)
  -- without TC: sector 1 at EOT 1
  pub eot_long : LongRun long_eot
  pub eot_good :
      AllGood (disk 1 1 2 1) (double 1) (head_of past_eot.order (asked_by past_eot)) (reading false false false 1)
      from_one 0
  pub eot_last : LastOne (reading false false false 1) (aim_no (reading false false false 1) from_one 0)
  pub eot_untold : AsTaken UntoldRead (calls_of long_eot) (asked_by past_eot) untaken
  pub reaches_eot :
      EndsWith (PastEot past_eot.order (reading false false false 1) from_one 0) (calls_of long_eot) (asked_by past_eot)
