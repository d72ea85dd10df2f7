-- What holds of a blank disk (02 2026-01): it is sound (01 Image), and every slot is the normal sector of its place.
-- Assumes nothing.
use Rattle.std.specs.Prelude.{ℕ, ◌+◌, List, ◌≡◌, length, take, drop, replicate}
use Rattle.image.specs.declared.layout.Geometry.{Geometry}
use Rattle.image.specs.Layout.{size_of, offset_of, Has}
use Rattle.image.specs.Disk.{InRange, geometry_of}
use Rattle.image.specs.Slot.{slot_at}
use Rattle.image.specs.Sound.{Sound}
use Rattle.blank.specs.Blank.{blank_of, made_of, image_of}

-- of every geometry in range, protected or not, and whatever its bytes are
abbrev pub BlankSound : Type 0
BlankSound = (g : Geometry) (fill : ℕ) → InRange g → Sound g (blank_of g fill)

-- slot k: mark 1, C and H of its track, R k + 1, the header's N, and B bytes that are all the one asked for
pub record BlankSlot (g : Geometry) (fill cylinder side k : ℕ) : Type 0 where
  pub front :
      slot_at (blank_of g fill) (offset_of g cylinder side k)
      ≡ record { mark = 1; id = record { c = cylinder; h = side; r = k + 1; n = g.n } }
  pub bytes :
      take (size_of g.n) (drop (offset_of g cylinder side k + 5) (blank_of g fill)) ≡ replicate (size_of g.n) fill

abbrev pub BlankSlots : Type 0
BlankSlots = (g : Geometry) (fill cylinder side k : ℕ) → Has g cylinder side k → BlankSlot g fill cylinder side k

-- the maker's answer: 0 and the slice as it was, or else a sound image of the numbers asked for
pub record BlankMade (img : List ℕ) (cylinders heads slots n protect fill : ℕ) : Type 0 where
  pub refused :
      made_of (length img) cylinders heads slots n protect ≡ 0 → image_of img cylinders heads slots n protect fill ≡ img
  pub made :
      (made_of (length img) cylinders heads slots n protect ≡ 0 → ⊥)
      → Sound (geometry_of cylinders heads slots n protect) (image_of img cylinders heads slots n protect fill)
