-- A Read Data of a deleted sector, SK 0, TC with its last byte: all premises of `ReadsOther` are met at once, and so it
-- ends, with 40 in ST2 and the sector's own address (01 Read; 02 2026-01).
-- Assumes nothing.
use Rattle.std.specs.Prelude.{true, false, [], ◌∷◌, ◌++◌}
use Rattle.image.specs.Examples.{disk}
use Rattle.image.specs.Sound.{Sound}
use Rattle.reached.specs.Runs.{takes}
use Rattle.demands.specs.HandedOver.{IsGoodOther}
use Rattle.demands.specs.History.{no_one}
use Rattle.demands.specs.OtherKind.{OtherEnded}
use Rattle.demands.specs.PowerCut.{head_of}
use Rattle.demands.specs.Work.{EndsWith}
use Rattle.runs.specs.CutExamples.{sector_one}
use Rattle.runs.specs.HandedExamples.{reading}
use Rattle.runs.specs.Host.{order_of, idle, taken_calls, times, contents, double}
use Rattle.runs.specs.PromptRuns.{longer, LongRun}
use Rattle.runs.specs.SucceedsExamples.{from_one}
use Rattle.runs.specs.Whole.{WholeGiven, WholeOutcome, waiting, asked_by, calls_of, ReadRun}

-- FIFO on with FIFOTHR 7, DMA, drive 1: sector 1 has mark 2
abbrev pub deleted : WholeGiven
deleted =
    record {
      head0 = 0;
      head1 = 0;
      dor = 0x2D;
      config = 0x07;
      spec = 0x02;
      bytes = 0x46 ∷ 0x01 ∷ 0 ∷ 0 ∷ 1 ∷ 1 ∷ 2 ∷ 0x1B ∷ 0xFF ∷ [];
      order = order_of 1 0 (reading false false false 2) 0 0 1 1;
      disk = disk 1 1 2 1;
      img = double 2;
      does = idle 2 ++ (times 31 (idle 8 ++ taken_calls 8) ++ (idle 8 ++ (taken_calls 7 ++ (takes true ∷ idle 1))));
    }

abbrev pub deleted_end : WholeOutcome
deleted_end = waiting (0x01 ∷ 0x00 ∷ 0x40 ∷ 0 ∷ 0 ∷ 1 ∷ 1 ∷ []) true (contents 1 0x11) [] no_one

-- the bound's ticks
abbrev pub long_deleted : WholeGiven
long_deleted = longer 1721 deleted

pub record OtherKindRuns : Type 0 where
  pub run : ReadRun deleted deleted_end
  pub long : LongRun long_deleted
  pub sound : Sound (disk 1 1 2 1) (double 2)
  pub there :
      IsGoodOther (disk 1 1 2 1) (head_of deleted.order (asked_by deleted)) (reading false false false 2) from_one
      (double 2) 0
  pub ends : EndsWith (OtherEnded deleted.order sector_one) (calls_of long_deleted) (asked_by deleted)
