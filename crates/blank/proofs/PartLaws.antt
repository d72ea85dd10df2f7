-- How long the parts of a blank disk are (01 Image).
-- Assumes nothing.
use Prim.Native.Nat.{ℕ, suc, ◌+◌, ◌*◌, ◌/◌, ◌%◌}
use native.Mathlib.Nat.{mul_assoc}
use native.Mathlib.Omega.{arith}
use mathlib.Core.List.{[], ◌∷◌, ◌++◌}
use mathlib.Core.Path.{◌≡◌, refl}
use lib.ListN.{length, length-append, length-replicate}
use Rattle.image.specs.declared.layout.Geometry.{Geometry}
use Rattle.image.specs.Layout.{size_of, slot_length, track_length, length_of}
use Rattle.image.specs.Disk.{flag}
use Rattle.blank.specs.Blank.{slot_of, slots_of, track_of, cylinder_of, tracks_of, field_of, blank_of}
use Rattle.blank.proofs.ListLaws.{turn_length}

pub track_is : (g : Geometry) → track_length g ≡ 5 + g.slots * slot_length g
unfolding track_length
track_is g = refl

module _ (g : Geometry) (fill cylinder : ℕ) where
  pub slot_length_lem : (side k : ℕ) → length (slot_of g fill cylinder side k) ≡ slot_length g
  slot_length_lem side k = omega (arith, length-replicate (size_of g.n) fill)

  pub slots_length : (side : ℕ) → length (slots_of g fill cylinder side) ≡ g.slots * slot_length g
  slots_length side = turn_length (slot_of g fill cylinder side) (slot_length g) (slot_length_lem side) g.slots

  pub track_length_lem : (side : ℕ) → length (track_of g fill cylinder side) ≡ track_length g
  unfolding track_of track_length
  track_length_lem side = omega (arith, slots_length side)

  -- what follows the length of a track's field
  pub track_bytes :
      (side size : ℕ) → size ≡ 2 + g.slots * slot_length g
      → (0x02 ∷ (size / 256) ∷ (size % 256) ∷ cylinder ∷ side ∷ []) ++ slots_of g fill cylinder side
      ≡ track_of g fill cylinder side
  unfolding track_of
  track_bytes side size e =
      let same : size ≡ suc (suc (length (slots_of g fill cylinder side)))
      = omega (arith, slots_length side) in
      rw same

  pub cylinder_length : length (cylinder_of g fill cylinder) ≡ g.heads * track_length g
  cylinder_length = turn_length (track_of g fill cylinder) (track_length g) track_length_lem g.heads

pub tracks_length : (g : Geometry) (fill : ℕ) → length (tracks_of g fill) ≡ g.cylinders * (g.heads * track_length g)
tracks_length g fill =
    turn_length (cylinder_of g fill) (g.heads * track_length g) (cylinder_length g fill) g.cylinders

-- header, tracks and end
pub length_is : (g : Geometry) → length_of g ≡ 8 + (g.cylinders * (g.heads * track_length g) + 3)
unfolding length_of
length_is g = omega (arith, mul_assoc g.cylinders g.heads (track_length g))

pub blank_bytes :
    (g : Geometry) (fill p : ℕ) → p ≡ flag g.protect
    → (0x01 ∷ 0 ∷ 5 ∷ g.cylinders ∷ g.heads ∷ g.slots ∷ g.n ∷ p ∷ []) ++ (tracks_of g fill ++ field_of 0x03 [])
    ≡ blank_of g fill
unfolding blank_of
blank_bytes g fill p h = rw h

pub blank_length : (g : Geometry) (fill : ℕ) → length (blank_of g fill) ≡ length_of g
unfolding blank_of
blank_length g fill =
    omega (arith, length-append (tracks_of g fill) (field_of 0x03 []), tracks_length g fill, length_is g)
