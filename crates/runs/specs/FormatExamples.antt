-- A whole Format, call by call: its premises, its result and the image left.
-- Assumes nothing.
use Rattle.std.specs.Prelude.{ℕ, false, List, [], ◌∷◌, ◌++◌, replicate}
use Rattle.image.specs.Examples.{disk}
use Rattle.sectors.specs.declared.order.Job.TheVariants.{Format}
use Rattle.reached.specs.Examples.{bare}
use Rattle.runs.specs.Host.{idle, poured, contents, image_of, double}
use Rattle.runs.specs.Whole.{WholeGiven, FormatRun}

-- FIFO on with FIFOTHR 7, DMA, drive 1: SC 1 on a track of two slots, N 1, fill E5; the host's address is C 0 H 0 R 7
-- N 1
abbrev pub one : WholeGiven
one =
    record {
      head0 = 0;
      head1 = 0;
      dor = 0x2D;
      config = 0x07;
      spec = 0x02;
      bytes = 0x4D ∷ 0x01 ∷ 1 ∷ 1 ∷ 0x1B ∷ 0xE5 ∷ [];
      order = record { drive = 1; side = 0; job = Format (record { n = 1; sc = 1; fill = 0xE5 }) };
      disk = disk 1 1 2 1;
      img = double 1;
      does = bare ∷ poured false (0 ∷ 0 ∷ 7 ∷ 1 ∷ []) ++ idle 263;
    }

-- IC 00, one slot done
abbrev pub result : List ℕ
result = 0x01 ∷ 0x00 ∷ 0x00 ∷ 0 ∷ 0 ∷ 1 ∷ 1 ∷ []

-- that slot has its new address, the fill and the good mark; the other one has mark 0 and is as it was
abbrev pub format_left : List ℕ
format_left =
    image_of (disk 1 1 2 1)
    (0x02 ∷ 0x02 ∷ 0x0C ∷ 0 ∷ 0
    ∷ (1 ∷ 0 ∷ 0 ∷ 7 ∷ 1 ∷ replicate 256 0xE5) ++ (0 ∷ 0 ∷ 0 ∷ 2 ∷ 1 ∷ contents 1 0x22))

abbrev pub FormattedRun : Type 0
FormattedRun = FormatRun one result (0 ∷ 0 ∷ 7 ∷ 1 ∷ []) format_left
