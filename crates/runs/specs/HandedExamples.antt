-- Read commands to their end, call by call: the premises of `HandedOver` are met, with TC, past EOT, with SK and MT,
-- of the other kind, and late.
-- Assumes nothing.
use Rattle.std.specs.Prelude.{ℕ, Bool, true, false, [], ◌∷◌, ◌++◌, take}
use Rattle.image.specs.Examples.{disk}
use Rattle.sectors.specs.declared.order.Pass.TheVariants.{Read}
use Rattle.sectors.specs.declared.order.Transfer.{Transfer}
use Rattle.reached.specs.Examples.{bare}
use Rattle.reached.specs.Runs.{reads, takes}
use Rattle.demands.specs.History.{no_one}
use Rattle.runs.specs.Host.{order_of, idle, taken_calls, fetched, times, contents, track_of, image_of, quad, double}
use Rattle.runs.specs.Whole.{WholeGiven, WholeOutcome, waiting, ReadRun, Served}

abbrev pub reading : Bool → Bool → Bool → ℕ → Transfer
reading deleted mt sk eot = record { pass = Read; deleted = deleted; mt = mt; sk = sk; eot = eot; dtl = 0 }

-- FIFO off, DMA: sector 1 to its end at EOT, no TC
abbrev pub past_eot : WholeGiven
past_eot =
    record {
      head0 = 0;
      head1 = 0;
      dor = 0x1C;
      config = 0x20;
      spec = 0x02;
      bytes = 0x46 ∷ 0 ∷ 0 ∷ 0 ∷ 1 ∷ 1 ∷ 1 ∷ 0x1B ∷ 0xFF ∷ [];
      order = order_of 0 0 (reading false false false 1) 0 0 1 1;
      disk = disk 1 1 2 1;
      img = double 1;
      does = idle 2 ++ (times 256 (bare ∷ takes false ∷ []) ++ idle 1);
    }

abbrev pub past_eot_end : WholeOutcome
past_eot_end =
    waiting (0x40 ∷ 0x80 ∷ 0x00 ∷ 1 ∷ 0 ∷ 1 ∷ 1 ∷ []) false (contents 1 0x11) [] no_one

-- FIFO on with FIFOTHR 15, DMA, drive 1, cylinder 1, MT and SK: the sector of side 0 is deleted and skipped; of that
-- of side 1 five bytes are taken, TC with the last
abbrev pub turning : WholeGiven
turning =
    record {
      head0 = 0;
      head1 = 1;
      dor = 0x2D;
      config = 0x0F;
      spec = 0x02;
      bytes = 0xE6 ∷ 0x01 ∷ 1 ∷ 0 ∷ 1 ∷ 1 ∷ 1 ∷ 0x1B ∷ 0xFF ∷ [];
      order = order_of 1 0 (reading false true true 1) 1 0 1 1;
      disk = disk 2 2 1 1;
      img = quad 1 2;
      does = idle 4 ++ (times 4 (bare ∷ takes false ∷ []) ++ (bare ∷ takes true ∷ idle 252));
    }

abbrev pub turning_end : WholeOutcome
turning_end =
    waiting (0x05 ∷ 0x00 ∷ 0x40 ∷ 2 ∷ 0 ∷ 1 ∷ 1 ∷ []) true (take 5 (contents 1 0x11)) [] no_one

-- FIFO on with FIFOTHR 7, non-DMA, side 1, N 2: all 512 bytes, and past EOT
abbrev pub whole : WholeGiven
whole =
    record {
      head0 = 0;
      head1 = 0;
      dor = 0x1C;
      config = 0x07;
      spec = 0x03;
      bytes = 0x46 ∷ 0x04 ∷ 0 ∷ 1 ∷ 1 ∷ 2 ∷ 1 ∷ 0x1B ∷ 0xFF ∷ [];
      order = order_of 0 1 (reading false false false 1) 0 1 1 2;
      disk = disk 1 2 1 2;
      img = image_of (disk 1 2 1 2) (track_of 2 0 0 1 ++ track_of 2 0 1 1);
      does = idle 2 ++ (times 64 (idle 8 ++ fetched 8) ++ idle 1);
    }

abbrev pub whole_end : WholeOutcome
whole_end =
    waiting (0x44 ∷ 0x80 ∷ 0x00 ∷ 1 ∷ 1 ∷ 1 ∷ 2 ∷ []) false (contents 2 0x01) [] no_one

-- FIFO on with FIFOTHR 7, DMA, drive 1, cylinder 1, Read Deleted: the host stops after three bytes, the FIFO fills, and
-- the sector is run to its end without it (02 2026-02)
abbrev pub late : WholeGiven
late =
    record {
      head0 = 0;
      head1 = 1;
      dor = 0x2D;
      config = 0x07;
      spec = 0x02;
      bytes = 0x4C ∷ 0x01 ∷ 1 ∷ 0 ∷ 1 ∷ 1 ∷ 1 ∷ 0x1B ∷ 0xFF ∷ [];
      order = order_of 1 0 (reading true false false 1) 1 0 1 1;
      disk = disk 2 2 1 1;
      img = quad 1 2;
      does = idle 2 ++ (idle 8 ++ (taken_calls 3 ++ idle 249));
    }

abbrev pub late_end : WholeOutcome
late_end =
    waiting (0x41 ∷ 0x10 ∷ 0x00 ∷ 1 ∷ 0 ∷ 1 ∷ 1 ∷ []) false (take 3 (contents 1 0x10)) [] no_one

-- FIFO on with FIFOTHR 15, non-DMA, drive 1: a deleted sector without SK, served in time: IC 00 with ST2 40, the
-- address as it was
abbrev pub other : WholeGiven
other =
    record {
      head0 = 0;
      head1 = 0;
      dor = 0x2D;
      config = 0x0F;
      spec = 0x03;
      bytes = 0x46 ∷ 0x01 ∷ 0 ∷ 0 ∷ 1 ∷ 1 ∷ 2 ∷ 0x1B ∷ 0xFF ∷ [];
      order = order_of 1 0 (reading false false false 2) 0 0 1 1;
      disk = disk 1 1 2 1;
      img = double 2;
      does = idle 2 ++ (times 256 (bare ∷ reads 5 ∷ []) ++ idle 1);
    }

abbrev pub other_end : WholeOutcome
other_end =
    waiting (0x01 ∷ 0x00 ∷ 0x40 ∷ 0 ∷ 0 ∷ 1 ∷ 1 ∷ []) false (contents 1 0x11) [] no_one

pub record HandedExamples : Type 0 where
  pub past_eot_run : ReadRun past_eot past_eot_end
  pub past_eot_served : Served past_eot
  pub turning_run : ReadRun turning turning_end
  pub turning_served : Served turning
  pub whole_run : ReadRun whole whole_end
  pub whole_served : Served whole
  pub late_run : ReadRun late late_end
  pub other_run : ReadRun other other_end
  pub other_served : Served other
