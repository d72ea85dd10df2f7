-- Blank disks in numbers (02 2026-01; 01 Example 3). The proofs are in proofs/Examples.antt.
-- Assumes nothing.
use Rattle.std.specs.Prelude.{[], ◌≡◌}
use Rattle.image.specs.Examples.{disk, sample}
use Rattle.blank.specs.Blank.{blank_of, size_of_disk, made_of, image_of}

pub record BlankExamples : Type 0 where
  -- the image that `image` tries its definitions on: one track, sectors 1 and 2, all F6
  pub small : blank_of (disk 1 1 2 1) 0xF6 ≡ sample 2
  -- 80/2/18/N 2, and the same with a number out of range
  pub large : size_of_disk 80 2 18 2 ≡ 1489771
  pub cylinders_none : size_of_disk 0 2 18 2 ≡ 0
  pub cylinders_more : size_of_disk 83 2 18 2 ≡ 0
  pub heads_more : size_of_disk 80 3 18 2 ≡ 0
  pub slots_more : size_of_disk 80 2 37 2 ≡ 0
  pub size_none : size_of_disk 80 2 18 0 ≡ 0
  pub size_more : size_of_disk 80 2 18 4 ≡ 0
  -- an answer, and refusals: protect 2, a slice of another length
  pub made : made_of 277 1 1 1 1 1 ≡ 277
  pub protect_more : made_of 277 1 1 1 1 2 ≡ 0
  pub shorter : made_of 276 1 1 1 1 0 ≡ 0
  pub kept : image_of [] 1 1 1 1 0 0xF6 ≡ []
