-- 01 Example 7, by computation.
-- Assumes nothing.
use mathlib.Core.Path.{refl}
use Rattle.drive.specs.Examples.{DriveExamples}

pub drive_examples : DriveExamples
drive_examples = record { ex7_from_79 = refl; ex7_from_80 = refl; ex7_head = refl }
