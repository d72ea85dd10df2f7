-- 01 Image slot: mark, C, H, R, N, then B bytes.
-- Assumes nothing.
use Rattle.std.specs.Prelude.{ℕ, ◌+◌, List, get_or, take, drop}
use Rattle.image.specs.declared.layout.Geometry.{Geometry}
use Rattle.image.specs.declared.slot.Id.{Id}
use Rattle.image.specs.declared.slot.Slot.{Slot}
use Rattle.image.specs.Layout.{slot_length, offset_of}

abbrev pub id_at : List ℕ → ℕ → Id
id_at img at =
    record { c = get_or img (at + 1) 0; h = get_or img (at + 2) 0; r = get_or img (at + 3) 0; n = get_or img (at + 4) 0 }

-- mark and address of the slot whose mark stands at that offset
abbrev pub slot_at : List ℕ → ℕ → Slot
slot_at img at = record { mark = get_or img at 0; id = id_at img at }

-- all bytes of a slot
abbrev pub slot_bytes : Geometry → List ℕ → ℕ → ℕ → ℕ → List ℕ
slot_bytes g img cylinder side k = take (slot_length g) (drop (offset_of g cylinder side k) img)
