-- 01 Image sound. No call asks for it: it is a premise of what is said of a read after a power cut.
-- Assumes nothing.
use Rattle.std.specs.Prelude.{ℕ, ◌+◌, ◌*◌, ◌/◌, ◌%◌, ◌-◌, ◌<◌, ◌≤◌, List, ◌≡◌, get_or}
use Rattle.image.specs.declared.layout.Geometry.{Geometry}
use Rattle.image.specs.Layout.{slot_length, length_of, track_at, offset_of, Has}
use Rattle.image.specs.Disk.{Fits}
use Rattle.image.specs.Slot.{id_at}

-- 01 Image: tagged fields: one-byte tag, two-byte length, high byte first
pub record Field (img : List ℕ) (at tag size : ℕ) : Type 0 where
  pub tagged : get_or img at 0 ≡ tag
  pub high : get_or img (at + 1) 0 ≡ size / 256
  pub low : get_or img (at + 2) 0 ≡ size % 256

-- 01 Image: per track, tag 02, cylinder, side, S slots
pub record Track (g : Geometry) (img : List ℕ) (cylinder side : ℕ) : Type 0 where
  pub field : Field img (track_at g cylinder side) 0x02 (2 + g.slots * slot_length g)
  pub own_cylinder : get_or img (track_at g cylinder side + 3) 0 ≡ cylinder
  pub own_side : get_or img (track_at g cylinder side + 4) 0 ≡ side

-- the mark of a slot
abbrev pub mark_in : Geometry → List ℕ → ℕ → ℕ → ℕ → ℕ
mark_in g img cylinder side k = get_or img (offset_of g cylinder side k) 0

-- 01 Image: no two slots of a track with marks above 0 have equal C H R N
abbrev pub NoTwins : Geometry → List ℕ → ℕ → ℕ → Type 0
NoTwins g img cylinder side =
    (j k : ℕ) → Has g cylinder side j → Has g cylinder side k → j < k
    → 0 < mark_in g img cylinder side j → 0 < mark_in g img cylinder side k
    → id_at img (offset_of g cylinder side j) ≡ id_at img (offset_of g cylinder side k) → ⊥

pub record Sound (g : Geometry) (img : List ℕ) : Type 0 where
  -- header and length are so
  pub fits : Fits g img
  -- all tags, lengths, cylinder and side bytes are as laid out
  pub tracks : (cylinder side : ℕ) → cylinder < g.cylinders → side < g.heads → Track g img cylinder side
  pub last : Field img (length_of g - 3) 0x03 0
  -- no mark is above 5
  pub marks : (cylinder side k : ℕ) → Has g cylinder side k → mark_in g img cylinder side k ≤ 5
  pub once : (cylinder side : ℕ) → NoTwins g img cylinder side
