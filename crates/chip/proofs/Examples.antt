-- The rows of document 01, Checked examples, by computation.
-- Assumes nothing.
use mathlib.Core.Path.{refl}
use Rattle.chip.specs.Commands.{kind_of, entry_of}
use Rattle.chip.specs.Next.{advanced_of}
use Rattle.chip.specs.Examples.{ChipExamples}

pub chip_examples : ChipExamples
unfolding kind_of entry_of advanced_of
chip_examples = record {
  ex1_srt_0 = refl;
  ex1_srt_13 = refl;
  ex1_srt_15 = refl;
  ex2_06 = refl;
  ex2_46 = refl;
  ex5_within = refl;
  ex5_eot = refl;
  ex5_mt = refl;
  ex5_mt_side_1 = refl;
  ex6_thr_0 = refl;
  ex6_thr_7 = refl;
  ex6_thr_15 = refl;
}
