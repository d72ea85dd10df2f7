-- The judge's examples (02 2026-04).
-- Assumes nothing.
use mathlib.Core.Path.{refl}
use Rattle.image.specs.Disk.{geometry_in}
use Rattle.image.specs.Layout.{size_of, track_length, length_of, track_at, offset_of}
use Rattle.judging.specs.Verdict.{first_of}
use Rattle.judging.specs.Twice.{some_below}
use Rattle.judging.specs.Judge.{length_fault, front_fault, track_fault, body_fault, judge_of}
use Rattle.judging.specs.Examples.{JudgeExamples}

pub judge_examples : JudgeExamples
unfolding geometry_in size_of track_length length_of track_at offset_of first_of some_below length_fault front_fault track_fault body_fault judge_of
judge_examples =
    record {
      empty = refl;
      seven = refl;
      short_wrong = refl;
      n_0 = refl;
      cylinders_83 = refl;
      eight = refl;
      shorter = refl;
      longer = refl;
      sound = refl;
      tag = refl;
      low_length = refl;
      side = refl;
      mark = refl;
      twice = refl;
      end = refl;
      abba = refl;
      marks = refl;
      other_n = refl;
      no_address_law = refl;
    }
