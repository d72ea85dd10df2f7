-- 01 Example 3, 01 Example 4, and an image to try the definitions on. The proofs are in proofs/Examples.antt.
-- Assumes nothing.
use Rattle.std.specs.Prelude.{ℕ, false, List, [], ◌∷◌, ◌++◌, ◌≡◌, replicate}
use Rattle.image.specs.declared.layout.Geometry.{Geometry}
use Rattle.image.specs.Layout.{length_of, offset_of}
use Rattle.image.specs.Disk.{header_of}

-- written as in the document: cylinders/heads/slots/N, not protected
abbrev pub disk : ℕ → ℕ → ℕ → ℕ → Geometry
disk cylinders heads slots n =
    record { cylinders = cylinders; heads = heads; slots = slots; n = n; protect = false }

pub record ImageExamples : Type 0 where
  pub ex3_large : length_of (disk 80 2 18 2) ≡ 1489771
  pub ex3_small : length_of (disk 1 1 1 1) ≡ 277
  pub ex4_second_side : offset_of (disk 80 2 18 2) 0 1 0 ≡ 9324
  pub ex4_last : offset_of (disk 80 2 18 2) 79 1 17 ≡ 1489251

-- mark 1, C 0 H 0 R N 1, 256 bytes
abbrev pub sector : ℕ → List ℕ
sector r = 1 ∷ 0 ∷ 0 ∷ r ∷ 1 ∷ replicate 256 0xF6

-- one track with sectors 1 and r; its field is 2 + 2 x 261 = 524 bytes long, 02 0C
abbrev pub sample : ℕ → List ℕ
sample r =
    header_of (disk 1 1 2 1) ++ ((0x02 ∷ 0x02 ∷ 0x0C ∷ 0 ∷ 0 ∷ []) ++ (sector 1 ++ (sector r ++ (0x03 ∷ 0 ∷ 0 ∷ []))))
