-- 01 Image: sizes and offsets. Which bytes stand there is said in Disk, Slot, Mark and Sound.
-- Assumes nothing.
use Rattle.std.specs.Prelude.{ℕ, ◌+◌, ◌*◌, ◌%◌, ◌^◌, ◌<◌, ◌≤◌, Bool, ◌&&◌, eqb}
use Rattle.std.specs.Bool.{beq}
use Rattle.image.specs.declared.layout.Geometry.{Geometry}

-- 01 Image: B = 128 x 2^N. A header's N is 1 to 3. Of another number, which only a damaged record holds, two bits
-- count (D-02)
unfoldable pub size_of : ℕ → ℕ
size_of n = 128 * 2 ^ (n % 4)

-- 01 Image: a slot is mark, C, H, R, N, then B bytes
abbrev pub slot_length : Geometry → ℕ
slot_length g = 5 + size_of g.n

-- 01 Image: a track is tag 02 with its length in two bytes, cylinder, side, and S slots
unfoldable pub track_length : Geometry → ℕ
track_length g = 5 + g.slots * slot_length g

-- 01 Image: the header's eight bytes, the tracks, and tag 03 with its length
unfoldable pub length_of : Geometry → ℕ
length_of g = 8 + g.cylinders * g.heads * track_length g + 3

-- 01 Image: per track, cylinder by cylinder, side 0 first
unfoldable pub track_at : Geometry → ℕ → ℕ → ℕ
track_at g cylinder side = 8 + (cylinder * g.heads + side) * track_length g

-- where a slot's mark stands
unfoldable pub offset_of : Geometry → ℕ → ℕ → ℕ → ℕ
offset_of g cylinder side k = track_at g cylinder side + 5 + k * slot_length g

-- a slot that the geometry has
pub record Has (g : Geometry) (cylinder side k : ℕ) : Type 0 where
  pub on_disk : cylinder < g.cylinders
  pub on_cylinder : side < g.heads
  pub on_track : k < g.slots

-- byte i of the image is one of that slot's
pub record InSlot (g : Geometry) (cylinder side k i : ℕ) : Type 0 where
  pub from : offset_of g cylinder side k ≤ i
  pub below : i < offset_of g cylinder side k + slot_length g

-- all five of two headers agree
unfoldable pub same_of : Geometry → Geometry → Bool
same_of g h =
    eqb g.cylinders h.cylinders && eqb g.heads h.heads && eqb g.slots h.slots && eqb g.n h.n
    && beq g.protect h.protect
