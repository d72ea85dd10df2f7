-- The image of a formatted blank disk (02 2026-01), as 01 Image lays it out, and what the maker answers.
-- Assumes nothing.
use Rattle.std.specs.Prelude.{ℕ, zero, suc, ◌+◌, ◌/◌, ◌%◌, Bool, ◌&&◌, cond, List, [], ◌∷◌, ◌++◌, eqb, length, replicate}
use Rattle.image.specs.declared.layout.Geometry.{Geometry}
use Rattle.image.specs.Layout.{size_of, length_of}
use Rattle.image.specs.Disk.{in_range, flag, geometry_of}

-- one behind the other: f 0, f 1, .. up to n of them
abbrev pub in_turn : (ℕ → List ℕ) → ℕ → List ℕ
in_turn f zero = []
in_turn f (suc n) = in_turn f n ++ f n

-- 01 Image: tagged fields: one-byte tag, two-byte length, high byte first
abbrev pub field_of : ℕ → List ℕ → List ℕ
field_of tag body = tag ∷ (length body / 256) ∷ (length body % 256) ∷ body

-- 01 Image: a slot is mark, C, H, R, N, then B bytes. Slot k of a blank disk is the normal sector k + 1 of its track
abbrev pub slot_of : Geometry → ℕ → ℕ → ℕ → ℕ → List ℕ
slot_of g fill cylinder side k = 1 ∷ cylinder ∷ side ∷ (k + 1) ∷ g.n ∷ replicate (size_of g.n) fill

abbrev pub slots_of : Geometry → ℕ → ℕ → ℕ → List ℕ
slots_of g fill cylinder side = in_turn (slot_of g fill cylinder side) g.slots

-- 01 Image: tag 02, cylinder, side, S slots
unfoldable pub track_of : Geometry → ℕ → ℕ → ℕ → List ℕ
track_of g fill cylinder side = field_of 0x02 (cylinder ∷ side ∷ slots_of g fill cylinder side)

-- 01 Image: per track, cylinder by cylinder, side 0 first
abbrev pub cylinder_of : Geometry → ℕ → ℕ → List ℕ
cylinder_of g fill cylinder = in_turn (track_of g fill cylinder) g.heads

abbrev pub tracks_of : Geometry → ℕ → List ℕ
tracks_of g fill = in_turn (cylinder_of g fill) g.cylinders

-- 01 Image: tag 01, length 5: cylinders, heads, slots per track, N, protect; then the tracks; then tag 03, length 0
unfoldable pub blank_of : Geometry → ℕ → List ℕ
blank_of g fill =
    field_of 0x01 (g.cylinders ∷ g.heads ∷ g.slots ∷ g.n ∷ flag g.protect ∷ [])
    ++ (tracks_of g fill ++ field_of 0x03 [])

-- how long the image is; 0 where a number is out of range
unfoldable pub size_of_disk : ℕ → ℕ → ℕ → ℕ → ℕ
size_of_disk cylinders heads slots n =
    cond (in_range cylinders heads slots n 0) (length_of (geometry_of cylinders heads slots n 0)) 0

-- the maker takes a slice of that length: the numbers are in range, and it is exactly as long as they ask
abbrev pub takes : ℕ → ℕ → ℕ → ℕ → ℕ → ℕ → Bool
takes len cylinders heads slots n protect =
    in_range cylinders heads slots n protect && eqb len (length_of (geometry_of cylinders heads slots n protect))

-- what it answers: the image's length, 0 where it refuses
abbrev pub made_of : ℕ → ℕ → ℕ → ℕ → ℕ → ℕ → ℕ
made_of len cylinders heads slots n protect =
    cond (takes len cylinders heads slots n protect) (length_of (geometry_of cylinders heads slots n protect)) 0

-- what it leaves in the slice: the blank disk, or what was there
abbrev pub image_of : List ℕ → ℕ → ℕ → ℕ → ℕ → ℕ → ℕ → List ℕ
image_of img cylinders heads slots n protect fill =
    cond (takes (length img) cylinders heads slots n protect)
    (blank_of (geometry_of cylinders heads slots n protect) fill) img
