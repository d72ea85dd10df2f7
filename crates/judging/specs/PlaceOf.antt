-- 02 2026-04: "with cylinder, side and slot where there is one": where in an image a byte stands, by divisions, and that
-- this takes back each track's and each slot's offset (01 Image).
-- Assumes nothing.
use Rattle.std.specs.Prelude.{ℕ, ◌+◌, ◌-◌, ◌/◌, ◌%◌, ◌<◌, cond, ◌≡◌, eqb}
use Rattle.image.specs.declared.layout.Geometry.{Geometry}
use Rattle.image.specs.Layout.{slot_length, track_length, track_at, offset_of, Has}
use Rattle.image.specs.Disk.{InRange}
use Rattle.judging.specs.declared.place.Place.{Place}

-- of a number that fits no byte, which no byte of a disk asks for, the low byte
abbrev pub low_byte : ℕ → ℕ
low_byte x = x % 256

abbrev pub place_at : ℕ → ℕ → ℕ → Place
place_at cylinder side slot = record { cylinder = cylinder; side = side; slot = slot }

-- of the bytes behind the header: the track
abbrev pub track_of : Geometry → ℕ → ℕ
track_of g at = (at - 8) / track_length g

-- of a track's bytes behind its five: the slot. The five are with slot 0
abbrev pub slot_of : Geometry → ℕ → ℕ
slot_of g at = ((at - 8) % track_length g - 5) / slot_length g

-- 01 Image: per track, cylinder by cylinder, side 0 first. A geometry without heads, which only a damaged record holds,
-- has one place
unfoldable pub place_of : Geometry → ℕ → Place
place_of g at =
    cond (eqb g.heads 0) (place_at 0 0 0)
    (place_at (low_byte (track_of g at / g.heads)) (low_byte (track_of g at % g.heads)) (low_byte (slot_of g at)))

-- each slot's mark, and each of a track's first five bytes, stands where it was laid out
pub record PlacedExactly : Type 0 where
  pub slot :
      (g : Geometry) (cylinder side k : ℕ) → InRange g → Has g cylinder side k
      → place_of g (offset_of g cylinder side k) ≡ place_at cylinder side k
  pub track :
      (g : Geometry) (cylinder side j : ℕ) → InRange g → cylinder < g.cylinders → side < g.heads → j < 5
      → place_of g (track_at g cylinder side + j) ≡ place_at cylinder side 0
