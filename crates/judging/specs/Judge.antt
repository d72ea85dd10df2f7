-- 02 2026-04: the judge's answer, part by part in the file's order: header, length, the tracks, the end field. What a
-- fault is, is said apart from it in Fault.
-- Assumes nothing.
use Rattle.std.specs.Prelude.{ℕ, ◌+◌, ◌*◌, ◌/◌, ◌%◌, ◌-◌, Bool, ◌&&◌, not, cond, List, [], ◌∷◌, eqb, ltb, length, get_or}
use Rattle.image.specs.declared.layout.Geometry.{Geometry}
use Rattle.image.specs.Disk.{within, geometry_in}
use Rattle.image.specs.Layout.{slot_length, length_of, track_at, offset_of}
use Rattle.judging.specs.declared.fault.Kind.TheVariants.{Header, Length, Track, Place, Mark, Twice, End}
use Rattle.judging.specs.Verdict.{Verdict, fault, unless, or_else, first_of, bytes_fault}
use Rattle.judging.specs.Fault.{least, most, field_bytes}
use Rattle.judging.specs.Twice.{slots_in, twice_at}

abbrev pub right_byte : ℕ → ℕ → Bool
right_byte i byte = within (get_or least i 0) byte (get_or most i 0)

-- a byte that is not there is as wrong as one out of range
abbrev pub header_byte : List ℕ → ℕ → Verdict
header_byte img i = unless (ltb i (length img) && right_byte i (get_or img i 0)) Header i

abbrev pub header_fault : List ℕ → Verdict
header_fault img = first_of (header_byte img) 8

-- 02 2026-04: for a wrong length the smaller of the length asked and the length given
abbrev pub smaller : ℕ → ℕ → ℕ
smaller a b = cond (ltb a b) a b

unfoldable pub length_fault : Geometry → List ℕ → Verdict
length_fault g img = unless (eqb (length img) (length_of g)) Length (smaller (length img) (length_of g))

-- tag 02 and the length of what follows; cylinder and side
unfoldable pub front_fault : Geometry → List ℕ → ℕ → ℕ → Verdict
front_fault g img cylinder side =
    or_else (bytes_fault img Track (track_at g cylinder side)
    (field_bytes 0x02 (2 + g.slots * slot_length g)))
    (bytes_fault img Place (track_at g cylinder side + 3) (cylinder ∷ side ∷ []))

-- a mark above 5, or the address of an earlier slot
abbrev pub slot_fault : Geometry → List ℕ → ℕ → ℕ → ℕ → Verdict
slot_fault g img cylinder side k =
    cond (ltb 5 (slots_in g img cylinder side k).mark) (fault Mark (offset_of g cylinder side k))
    (unless (not (twice_at (slots_in g img cylinder side) k)) Twice (offset_of g cylinder side k))

unfoldable pub track_fault : Geometry → List ℕ → ℕ → ℕ → Verdict
track_fault g img cylinder side =
    or_else (front_fault g img cylinder side) (first_of (slot_fault g img cylinder side) g.slots)

-- 01 Image: per track, cylinder by cylinder, side 0 first
abbrev pub tracks_fault : Geometry → List ℕ → Verdict
tracks_fault g img =
    first_of (λ t. track_fault g img (t / g.heads) (t % g.heads)) (g.cylinders * g.heads)

-- tag 03, length 0
abbrev pub end_fault : Geometry → List ℕ → Verdict
end_fault g img = bytes_fault img End (length_of g - 3) (field_bytes 0x03 0)

unfoldable pub body_fault : Geometry → List ℕ → Verdict
body_fault g img = or_else (length_fault g img) (or_else (tracks_fault g img) (end_fault g img))

unfoldable pub judge_of : List ℕ → Verdict
judge_of img = or_else (header_fault img) (body_fault (geometry_in img) img)
