-- Write commands to their end, call by call: the premises of `Acknowledged` are met, and its clauses are no stronger
-- than they may be: with ST1 80 a byte that the host handed over may be lost (01 Write, D-112).
-- Assumes nothing.
use Rattle.std.specs.Prelude.{ℕ, Bool, true, false, List, [], ◌∷◌, ◌++◌, take, drop, replicate}
use Rattle.image.specs.Examples.{disk, sample}
use Rattle.sectors.specs.declared.order.Pass.TheVariants.{Write}
use Rattle.sectors.specs.declared.order.Transfer.{Transfer}
use Rattle.reached.specs.Examples.{command, bare}
use Rattle.reached.specs.Runs.{Call, gives}
use Rattle.demands.specs.History.{no_one}
use Rattle.runs.specs.CutExamples.{down, full}
use Rattle.runs.specs.Host.{order_of, idle, poured, times, track_of, image_of, quad}
use Rattle.runs.specs.Whole.{WholeGiven, WholeOutcome, waiting, WriteRun, Served}

abbrev pub writing : Bool → Bool → ℕ → Transfer
writing deleted mt eot = record { pass = Write; deleted = deleted; mt = mt; sk = false; eot = eot; dtl = 0 }

-- a byte after each tick
abbrev pub fed : List ℕ → List Call
fed [] = []
fed (byte ∷ bytes) = bare ∷ gives byte false ∷ fed bytes

-- FIFO off, DMA, drive 0: sector 1 of 1 and 2, N 1, EOT 2
abbrev pub plain : List Call → WholeGiven
plain does =
    record {
      head0 = 0;
      head1 = 0;
      dor = 0x1C;
      config = 0x20;
      spec = 0x02;
      bytes = 0x45 ∷ 0 ∷ 0 ∷ 0 ∷ 1 ∷ 1 ∷ 2 ∷ 0x1B ∷ 0xFF ∷ [];
      order = order_of 0 0 (writing false false 2) 0 0 1 1;
      disk = disk 1 1 2 1;
      img = sample 2;
      does = does;
    }

-- TC with the fifth byte: sector 1 is safe, R 2
abbrev pub safe : WholeGiven
safe = plain (bare ∷ gives 4 false ∷ idle 2 ++ (fed (3 ∷ 2 ∷ 1 ∷ []) ++ (bare ∷ gives 0 true ∷ idle 253)))

abbrev pub safe_end : WholeOutcome
safe_end =
    waiting (0x00 ∷ 0x00 ∷ 0x00 ∷ 0 ∷ 0 ∷ 2 ∷ 1 ∷ []) true (down 5)
    (record { at = 13; bytes = down 5 ++ replicate 251 0 } ∷ []) no_one

-- both sectors full, no TC: ST1 80, and byte 513 was handed over and is nowhere
abbrev pub more : List ℕ
more = full ++ (7 ∷ [])

abbrev pub past_eot : WholeGiven
past_eot =
    plain
    (bare ∷ poured false (take 1 more)
    ++ (idle 2 ++ (fed (take 256 (drop 1 more)) ++ (idle 3 ++ (fed (drop 257 more) ++ idle 1)))))

abbrev pub past_eot_end : WholeOutcome
past_eot_end =
    waiting (0x40 ∷ 0x80 ∷ 0x00 ∷ 1 ∷ 0 ∷ 1 ∷ 1 ∷ []) false more
    (record { at = 274; bytes = down 256 } ∷ record { at = 13; bytes = down 256 } ∷ []) no_one

-- FIFO on with FIFOTHR 7, DMA, drive 1, cylinder 1, MT: the sector of side 0, then four bytes on side 1, TC with the
-- last. The host fills the FIFO each time it is asked
abbrev pub turning : WholeGiven
turning =
    record {
      head0 = 0;
      head1 = 1;
      dor = 0x2D;
      config = 0x07;
      spec = 0x02;
      bytes = 0xC5 ∷ 0x01 ∷ 1 ∷ 0 ∷ 1 ∷ 1 ∷ 1 ∷ 0x1B ∷ 0xFF ∷ [];
      order = order_of 1 0 (writing false true 1) 1 0 1 1;
      disk = disk 2 2 1 1;
      img = quad 1 1;
      does =
          bare ∷ poured false (down 16)
          ++ (idle 2
          ++ (times 30 (idle 8 ++ poured false (down 8)) ++ (idle 8 ++ (poured true (down 4) ++ idle 269))));
    }

abbrev pub turning_end : WholeOutcome
turning_end =
    waiting (0x05 ∷ 0x00 ∷ 0x00 ∷ 2 ∷ 0 ∷ 1 ∷ 1 ∷ []) true (down 16 ++ (times 30 (down 8) ++ down 4))
    (record { at = 811; bytes = down 4 ++ replicate 252 0 }
    ∷ record { at = 545; bytes = down 16 ++ times 30 (down 8) }
    ∷ [])
    no_one

-- FIFO on with FIFOTHR 15, DMA, N 2, Write Deleted: TC with byte 20
abbrev pub deleting : WholeGiven
deleting =
    record {
      head0 = 0;
      head1 = 0;
      dor = 0x1C;
      config = 0x0F;
      spec = 0x02;
      bytes = 0x49 ∷ 0x00 ∷ 0 ∷ 0 ∷ 1 ∷ 2 ∷ 9 ∷ 0x1B ∷ 0xFF ∷ [];
      order = order_of 0 0 (writing true false 9) 0 0 1 2;
      disk = disk 1 1 1 2;
      img = image_of (disk 1 1 1 2) (track_of 2 0 0 1);
      does =
          bare ∷ poured false (down 16) ++ (idle 2 ++ (fed (3 ∷ 2 ∷ 1 ∷ []) ++ (bare ∷ gives 0 true ∷ idle 509)));
    }

abbrev pub deleting_end : WholeOutcome
deleting_end =
    waiting (0x00 ∷ 0x00 ∷ 0x00 ∷ 0 ∷ 0 ∷ 2 ∷ 2 ∷ []) true (down 16 ++ down 4)
    (record { at = 13; bytes = down 16 ++ (down 4 ++ replicate 492 0) } ∷ []) no_one

-- FIFO on with FIFOTHR 15, non-DMA, cylinder 1, side 1: the host stops after five bytes, and zeros fill the sector
-- (02 2026-02)
abbrev pub short : WholeGiven
short =
    record {
      head0 = 1;
      head1 = 0;
      dor = 0x1C;
      config = 0x0F;
      spec = 0x03;
      bytes = 0x45 ∷ 0x04 ∷ 1 ∷ 1 ∷ 1 ∷ 1 ∷ 1 ∷ 0x1B ∷ 0xFF ∷ [];
      order = order_of 0 1 (writing false false 1) 1 1 1 1;
      disk = disk 2 2 1 1;
      img = quad 1 1;
      does = bare ∷ command (down 5) ++ idle 259;
    }

abbrev pub short_end : WholeOutcome
short_end =
    waiting (0x44 ∷ 0x10 ∷ 0x00 ∷ 1 ∷ 1 ∷ 1 ∷ 1 ∷ []) false (down 5)
    (record { at = 811; bytes = down 5 ++ replicate 251 0 } ∷ []) no_one

pub record AckExamples : Type 0 where
  pub safe_run : WriteRun safe safe_end
  pub safe_served : Served safe
  pub past_eot_run : WriteRun past_eot past_eot_end
  pub past_eot_served : Served past_eot
  pub turning_run : WriteRun turning turning_end
  pub turning_served : Served turning
  pub deleting_run : WriteRun deleting deleting_end
  pub deleting_served : Served deleting
  pub short_run : WriteRun short short_end
