-- 02 2026-04: an address twice on a track. A track is what its slots are, by their numbers.
-- Assumes nothing.
use Rattle.std.specs.Prelude.{ℕ, zero, suc, ◌<◌, ◌≤◌, Bool, true, false, ◌&&◌, ◌||◌, List, ◌≡◌, eqb}
use Rattle.image.specs.declared.layout.Geometry.{Geometry}
use Rattle.image.specs.declared.slot.Id.{Id}
use Rattle.image.specs.declared.slot.Slot.{Slot}
use Rattle.image.specs.Disk.{within}
use Rattle.image.specs.Layout.{offset_of}
use Rattle.image.specs.Slot.{slot_at}
use Rattle.judging.specs.declared.doubles.Track.{Track}

-- the slots of a track
abbrev pub slots_in : Geometry → List ℕ → ℕ → ℕ → ℕ → Slot
slots_in g img cylinder side k = slot_at img (offset_of g cylinder side k)

-- the same of a track that is one value
abbrev pub slots_of : Track → ℕ → Slot
slots_of t = slots_in t.g t.s.now t.cylinder t.side

-- 02 2026-04: slots with mark 0 or above 5 have no address
abbrev pub has_address : ℕ → Bool
has_address mark = within 1 mark 5

abbrev pub in_group : Id → Id → Bool
in_group a b = eqb a.c b.c && eqb a.h b.h && eqb a.n b.n

-- all four bytes; N need not be the header's
abbrev pub same_address : Slot → Slot → Bool
same_address a b =
    (has_address a.mark && has_address b.mark) && (in_group a.id b.id && eqb a.id.r b.id.r)

-- some number below n meets a test
unfoldable pub some_below : (ℕ → Bool) → ℕ → Bool
some_below p zero = false
some_below p (suc n) = some_below p n || p n

-- slot k has the address of an earlier one
abbrev pub twice_at : (ℕ → Slot) → ℕ → Bool
twice_at slots k = some_below (λ j. same_address (slots j) (slots k)) k

-- r is the first number below n that meets a test, or n if none does
pub record First (p : ℕ → Bool) (n r : ℕ) : Type 0 where
  pub bounded : r ≤ n
  pub before : (k : ℕ) → k < r → p k ≡ false
  pub there : r < n → p r ≡ true
