-- A write of 260 bytes, TC with the last, and a read of the same, each served before the next tick (01 Write, Read,
-- Next): both end with IC 00, and the bytes come back. Beside their own premises they meet those of a success: a sound
-- disk, the motor on, and calls with as many ticks as the bound says, of which the command needs the first ones only.
-- Assumes nothing.
use Rattle.std.specs.Prelude.{ℕ, ◌≤◌, true, false, List, [], ◌∷◌, ◌++◌, ◌≡◌, replicate}
use Rattle.image.specs.Examples.{disk}
use Rattle.image.specs.Sound.{Sound}
use Rattle.reached.specs.Examples.{bare}
use Rattle.reached.specs.Moves.{tick_count}
use Rattle.reached.specs.Runs.{takes}
use Rattle.demands.specs.DataError.{Spins}
use Rattle.demands.specs.EndsInTime.{bound_of}
use Rattle.demands.specs.History.{no_one}
use Rattle.demands.specs.Work.{Alone, image_left}
use Rattle.runs.specs.AckExamples.{writing}
use Rattle.runs.specs.CutExamples.{down}
use Rattle.runs.specs.HandedExamples.{reading}
use Rattle.runs.specs.Host.{order_of, idle, taken_calls, poured, times, image_of, double}
use Rattle.runs.specs.Whole.{WholeGiven, WholeOutcome, asked_by, calls_of, further, waiting}
use Rattle.runs.specs.Whole.{WriteRun, ReadRun, Served}

-- FIFO on with FIFOTHR 7, DMA, sectors 1 and 2
abbrev pub first : List ℕ
first = down 16 ++ times 30 (down 8)

abbrev pub wrote : WholeGiven
wrote =
    record {
      head0 = 0;
      head1 = 0;
      dor = 0x1C;
      config = 0x07;
      spec = 0x02;
      bytes = 0x45 ∷ 0 ∷ 0 ∷ 0 ∷ 1 ∷ 1 ∷ 2 ∷ 0x1B ∷ 0xFF ∷ [];
      order = order_of 0 0 (writing false false 2) 0 0 1 1;
      disk = disk 1 1 2 1;
      img = double 1;
      does =
          bare ∷ poured false (down 16)
          ++ (idle 2
          ++ (times 30 (idle 8 ++ poured false (down 8)) ++ (idle 8 ++ (poured true (down 4) ++ idle 268))));
    }

abbrev pub wrote_end : WholeOutcome
wrote_end =
    waiting (0x00 ∷ 0x00 ∷ 0x00 ∷ 1 ∷ 0 ∷ 1 ∷ 1 ∷ []) true (first ++ down 4)
    (record { at = 274; bytes = down 4 ++ replicate 252 0 } ∷ record { at = 13; bytes = first } ∷ []) no_one

abbrev pub left : List ℕ
left =
    image_of (disk 1 1 2 1)
    (0x02 ∷ 0x02 ∷ 0x0C ∷ 0 ∷ 0 ∷ (1 ∷ 0 ∷ 0 ∷ 1 ∷ 1 ∷ first) ++ (1 ∷ 0 ∷ 0 ∷ 2 ∷ 1 ∷ down 4 ++ replicate 252 0))

-- the same box, switched on anew
abbrev pub back : WholeGiven
back =
    record {
      head0 = 0;
      head1 = 0;
      dor = 0x1C;
      config = 0x07;
      spec = 0x02;
      bytes = 0x46 ∷ 0 ∷ 0 ∷ 0 ∷ 1 ∷ 1 ∷ 2 ∷ 0x1B ∷ 0xFF ∷ [];
      order = order_of 0 0 (reading false false false 2) 0 0 1 1;
      disk = disk 1 1 2 1;
      img = left;
      does = idle 2 ++ (times 32 (idle 8 ++ taken_calls 8) ++ (idle 2 ++ (idle 8 ++ (taken_calls 3 ++ (takes true ∷ idle 249)))));
    }

abbrev pub back_end : WholeOutcome
back_end = waiting (0x00 ∷ 0x00 ∷ 0x00 ∷ 1 ∷ 0 ∷ 1 ∷ 1 ∷ []) true (first ++ down 4) [] no_one

-- and so many ticks more
abbrev pub longer : ℕ → WholeGiven → WholeGiven
longer n x = further (idle n) x

pub record LongRun (x : WholeGiven) : Type 0 where
  pub spins : Spins x.order.drive (calls_of x) (asked_by x)
  pub served : Served x
  pub alone : Alone x.order.drive x.img (calls_of x) (asked_by x)
  pub enough : bound_of x.disk ≤ tick_count (calls_of x)

pub record PromptRuns : Type 0 where
  pub sound : Sound (disk 1 1 2 1) (double 1)
  pub written : WriteRun wrote wrote_end
  pub write_served : Served wrote
  pub left_is : image_left 0 (double 1) (calls_of wrote) (asked_by wrote) ≡ left
  pub sound_left : Sound (disk 1 1 2 1) left
  pub read : ReadRun back back_end
  pub read_served : Served back
  -- the bound: 2 x 3 x (2 x 2 + 256 + 70) = 1980
  pub write_long : LongRun (longer 1461 wrote)
  pub read_long : LongRun (longer 1463 back)
