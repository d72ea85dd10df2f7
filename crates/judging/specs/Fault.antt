-- 02 2026-04: what a fault is, kind by kind, and the byte it stands at. Nothing here says how it is looked for.
-- "A fault in header or length hides the later kinds": those are asked of an image that fits (01 Image mounted).
-- Assumes nothing.
use Rattle.std.specs.Prelude.{ℕ, ◌+◌, ◌*◌, ◌/◌, ◌%◌, ◌-◌, ◌<◌, ◌≤◌, List, [], ◌∷◌, ◌⊎◌, ◌≢◌, ◌≡◌, length, get_or, take}
use Rattle.image.specs.declared.layout.Geometry.{Geometry}
use Rattle.image.specs.Layout.{slot_length, length_of, track_at, offset_of, Has}
use Rattle.image.specs.Disk.{header_of, InRange, Fits}
use Rattle.image.specs.Slot.{id_at}
use Rattle.image.specs.Sound.{mark_in}
use Rattle.judging.specs.declared.fault.Kind.{Kind}
use Rattle.judging.specs.declared.fault.Kind.TheVariants.{Header, Length, Track, Place, Mark, Twice, End}

-- 01 Image, the header's bytes from the least to the most: tag 01, length 00 05, cylinders 1-82, heads 1-2, slots
-- 1-36, N 1-3, protect 0 or 1
abbrev pub least : List ℕ
least = 0x01 ∷ 0x00 ∷ 0x05 ∷ 1 ∷ 1 ∷ 1 ∷ 1 ∷ 0 ∷ []

abbrev pub most : List ℕ
most = 0x01 ∷ 0x00 ∷ 0x05 ∷ 82 ∷ 2 ∷ 36 ∷ 3 ∷ 1 ∷ []

-- 01 Image: tagged fields: one-byte tag, two-byte length, high byte first
abbrev pub field_bytes : ℕ → ℕ → List ℕ
field_bytes tag size = tag ∷ (size / 256) ∷ (size % 256) ∷ []

-- 1 header: a byte of the eight is not there or out of range. Of an image under eight bytes the first that is not
-- there stands at its end
pub record HeaderFault (img : List ℕ) (o : ℕ) : Type 0 where
  pub inside : o < 8
  pub wrong : (length img ≤ o) ⊎ ((get_or img o 0 < get_or least o 0) ⊎ (get_or most o 0 < get_or img o 0))

-- 2 length, at the smaller of the length asked and the length given. The header is right
pub record LengthFault (img : List ℕ) (o : ℕ) : Type 0 where
  pub g : Geometry
  pub range : InRange g
  pub header : take 8 img ≡ header_of g
  pub other :
      ((length img < length_of g) × (o ≡ length img)) ⊎ ((length_of g < length img) × (o ≡ length_of g))

-- 3 a track's tag or length, at the first wrong byte of the three
pub record TrackFault (g : Geometry) (img : List ℕ) (o : ℕ) : Type 0 where
  pub cylinder : ℕ
  pub side : ℕ
  pub byte : ℕ
  pub on_disk : cylinder < g.cylinders
  pub on_cylinder : side < g.heads
  pub in_field : byte < 3
  pub at : o ≡ track_at g cylinder side + byte
  pub wrong : get_or img o 0 ≢ get_or (field_bytes 0x02 (2 + g.slots * slot_length g)) byte 0

-- 4 a cylinder or side byte out of place
pub record PlaceFault (g : Geometry) (img : List ℕ) (o : ℕ) : Type 0 where
  pub cylinder : ℕ
  pub side : ℕ
  pub on_disk : cylinder < g.cylinders
  pub on_cylinder : side < g.heads
  pub wrong :
      ((o ≡ track_at g cylinder side + 3) × (get_or img o 0 ≢ cylinder))
      ⊎ ((o ≡ track_at g cylinder side + 4) × (get_or img o 0 ≢ side))

-- 5 a mark above 5
pub record MarkFault (g : Geometry) (img : List ℕ) (o : ℕ) : Type 0 where
  pub cylinder : ℕ
  pub side : ℕ
  pub k : ℕ
  pub has : Has g cylinder side k
  pub at : o ≡ offset_of g cylinder side k
  pub wrong : 5 < mark_in g img cylinder side k

-- "Slots with mark 0 or above 5 have no address"
abbrev pub Addressed : Geometry → List ℕ → ℕ → ℕ → ℕ → Type 0
Addressed g img cylinder side k = (1 ≤ mark_in g img cylinder side k) × (mark_in g img cylinder side k ≤ 5)

-- 6 an address twice on a track, at the later slot's mark: all four bytes are those of an earlier slot
pub record TwiceFault (g : Geometry) (img : List ℕ) (o : ℕ) : Type 0 where
  pub cylinder : ℕ
  pub side : ℕ
  pub j : ℕ
  pub k : ℕ
  pub has : Has g cylinder side k
  pub earlier : j < k
  pub at : o ≡ offset_of g cylinder side k
  pub first : Addressed g img cylinder side j
  pub second : Addressed g img cylinder side k
  pub same : id_at img (offset_of g cylinder side j) ≡ id_at img (offset_of g cylinder side k)

-- 7 the end field: tag 03, length 0
pub record EndFault (g : Geometry) (img : List ℕ) (o : ℕ) : Type 0 where
  pub byte : ℕ
  pub in_field : byte < 3
  pub at : o ≡ length_of g - 3 + byte
  pub wrong : get_or img o 0 ≢ get_or (field_bytes 0x03 0) byte 0

-- a fault of an image that fits
pub record Inside (F : Geometry → List ℕ → ℕ → Type 0) (img : List ℕ) (o : ℕ) : Type 0 where
  pub g : Geometry
  pub fits : Fits g img
  pub there : F g img o

-- fault k is at byte o
abbrev pub FaultAt : List ℕ → Kind → ℕ → Type 0
FaultAt img Header o = HeaderFault img o
FaultAt img Length o = LengthFault img o
FaultAt img Track o = Inside TrackFault img o
FaultAt img Place o = Inside PlaceFault img o
FaultAt img Mark o = Inside MarkFault img o
FaultAt img Twice o = Inside TwiceFault img o
FaultAt img End o = Inside EndFault img o
