-- The examples of specs/Examples, by computation.
-- Assumes nothing.
use mathlib.Core.Path.{refl}
use Rattle.image.specs.Layout.{size_of, track_length, length_of}
use Rattle.blank.specs.Blank.{track_of, blank_of, size_of_disk}
use Rattle.blank.specs.Examples.{BlankExamples}

pub blank_examples : BlankExamples
unfolding blank_of track_of size_of_disk length_of track_length size_of
blank_examples =
    record {
      small = refl;
      large = refl;
      cylinders_none = refl;
      cylinders_more = refl;
      heads_more = refl;
      slots_more = refl;
      size_none = refl;
      size_more = refl;
      made = refl;
      protect_more = refl;
      shorter = refl;
      kept = refl;
    }
