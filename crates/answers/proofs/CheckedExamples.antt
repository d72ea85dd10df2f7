-- The ten checked examples: those of single rules from the crates below, Recalibrate by its law, the rest by computing.
-- Assumes nothing.
use Prim.Native.Nat.{ℕ}
use native.Mathlib.Omega.{arith}
use mathlib.Core.List.{[], ◌∷◌, ◌++◌}
use mathlib.Core.Path.{refl}
use Rattle.drive.specs.Drive.{fresh_drive}
use Rattle.reached.specs.Examples.{command, readied}
use Rattle.reached.specs.Runs.{Reached}
use Rattle.image.proofs.Examples.{image_examples}
use Rattle.chip.proofs.Examples.{chip_examples}
use Rattle.reached.proofs.Examples.{fdc_examples}
use Rattle.reached.proofs.Open.{calls_open}
use Rattle.reached.proofs.SeekLaws.{recalibrate_on_time}
use Rattle.reached.proofs.Whole.{cut_whole}
use Rattle.answers.specs.CheckedExamples.{recalibrates, Recalibrated, CheckedExamples}

reached : (head : ℕ) → Reached (recalibrates head)
reached head =
    record { head0 = head; head1 = 0; calls = readied 0x0C ++ command (0x07 ∷ 0x00 ∷ []); run = refl }

pub checked_examples : CheckedExamples
unfolding calls_open
checked_examples = record {
  ex1_srt_0 = chip_examples.ex1_srt_0;
  ex1_srt_13 = chip_examples.ex1_srt_13;
  ex1_srt_15 = chip_examples.ex1_srt_15;
  ex2_06 = chip_examples.ex2_06;
  ex2_46 = chip_examples.ex2_46;
  ex3_large = image_examples.ex3_large;
  ex3_small = image_examples.ex3_small;
  ex4_second_side = image_examples.ex4_second_side;
  ex4_last = image_examples.ex4_last;
  ex5_within = chip_examples.ex5_within;
  ex5_eot = chip_examples.ex5_eot;
  ex5_mt = chip_examples.ex5_mt;
  ex5_mt_side_1 = chip_examples.ex5_mt_side_1;
  ex6_thr_0 = chip_examples.ex6_thr_0;
  ex6_thr_7 = chip_examples.ex6_thr_7;
  ex6_thr_15 = chip_examples.ex6_thr_15;
  ex7_from_79 = from_79;
  ex7_from_80 = from_80;
  ex8 = fdc_examples.ex8;
  ex9 = fdc_examples.ex9;
  ex10_100_mark = cut_whole.cut_mark;
  ex10_100_bytes = cut_whole.cut_bytes;
  ex10_258_mark = refl;
  ex10_258_bytes = refl;
}
  where
    from_79 : Recalibrated 79 0x20 0
    from_79 =
        let law =
        recalibrate_on_time 0 (omega arith) (recalibrates 79) (reached 79) (omega arith) refl (fresh_drive 79) refl in
        record {
          reports = λ calls calm n a b. (law.last calls calm n a b).report_is;
          stands = λ calls calm n a b. (law.last calls calm n a b).head;
        }

    from_80 : Recalibrated 80 0x70 1
    from_80 =
        let law =
        recalibrate_on_time 0 (omega arith) (recalibrates 80) (reached 80) (omega arith) refl (fresh_drive 80) refl in
        record {
          reports = λ calls calm n a b. (law.last calls calm n a b).report_is;
          stands = λ calls calm n a b. (law.last calls calm n a b).head;
        }
