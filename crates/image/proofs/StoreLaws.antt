-- What a store leaves as it was (01 Calls, "by at most one byte"; 01 Image).
-- Assumes nothing.
use Rattle.std.specs.Prelude.{None, Some}
use Rattle.image.specs.Lent.{put_at}
use Prim.Native.Nat.{ℕ, ◌+◌, ◌≤◌, ◌<◌}
use native.Mathlib.Omega.{arith}
use mathlib.Core.List.{List}
use mathlib.Core.Logic.{◌⊎◌, inl, inr, ◌≢◌}
use mathlib.Core.Path.{◌≡◌, refl}
use lib.ListN.{length, get_or, set, length-set}
use lib.Seq.{get_or-set_other}
use Rattle.image.specs.declared.layout.Geometry.{Geometry}
use Rattle.image.specs.Lent.{Effect}
use Rattle.image.specs.Layout.{slot_length, offset_of, Has, InSlot}
use Rattle.image.specs.Lent.{stored_in}
use Rattle.image.specs.Slot.{slot_at, slot_bytes}
use Rattle.image.proofs.LayoutLaws.{slots_share_nothing}
use Rattle.image.proofs.ListLaws.{part_set}
use Rattle.image.proofs.TestLaws.{le_or_lt}

-- the length stays
pub effect_length : (e : Effect) (img : List ℕ) → length (stored_in e img) ≡ length img
effect_length None img = refl
effect_length (Some put) img = length-set img put.at put.byte

-- at most one byte differs: of two places one is as it was
pub effect_one_byte :
    (e : Effect) (img : List ℕ) (i j : ℕ) → i ≢ j
    → (get_or (stored_in e img) i 0 ≡ get_or img i 0) ⊎ (get_or (stored_in e img) j 0 ≡ get_or img j 0)
effect_one_byte None img i j d = inl refl
effect_one_byte (Some put) img i j d = go (le_or_lt i put.at) (le_or_lt put.at i)
  where
    other : (k : ℕ) → k ≢ put.at → get_or (set img put.at put.byte) k 0 ≡ get_or img k 0
    other k n = get_or-set_other img put.at k put.byte 0 n

    go :
        (i ≤ put.at) ⊎ (put.at < i) → (put.at ≤ i) ⊎ (i < put.at)
        → (get_or (set img put.at put.byte) i 0 ≡ get_or img i 0) ⊎ (get_or (set img put.at put.byte) j 0 ≡ get_or img j 0)
    go (inr a) b = inl (other i (λ e. omega arith))
    go (inl a) (inr b) = inl (other i (λ e. omega arith))
    go (inl a) (inl b) = inr (other j (λ e. d (omega arith)))

-- a store inside a slot leaves every other slot as it was
module _
    (g : Geometry)
    (img : List ℕ)
    (c s k d t j : ℕ)
    (h : Has g c s k)
    (h' : Has g d t j)
    (apart : (c ≡ d) × (s ≡ t) × (k ≡ j) → ⊥)
    (i b : ℕ)
    (inside : InSlot g c s k i)
  where
    outside : (i < offset_of g d t j) ⊎ (offset_of g d t j + slot_length g ≤ i)
    outside = go (le_or_lt (offset_of g d t j) i) (le_or_lt (offset_of g d t j + slot_length g) i)
      where
        go :
            (offset_of g d t j ≤ i) ⊎ (i < offset_of g d t j)
            → (offset_of g d t j + slot_length g ≤ i) ⊎ (i < offset_of g d t j + slot_length g)
            → (i < offset_of g d t j) ⊎ (offset_of g d t j + slot_length g ≤ i)
        go (inr l) m = inl l
        go (inl l) (inl m) = inr m
        go (inl l)
            (inr m) = absurd (apart (slots_share_nothing g c s k d t j i h h' inside (record {
              from = l;
              below = m;
            })))

    pub store_keeps_slots : slot_bytes g (set img i b) d t j ≡ slot_bytes g img d t j
    store_keeps_slots = part_set img (slot_length g) (offset_of g d t j) i b outside

    pub store_keeps_bytes : (p : ℕ) → InSlot g d t j p → get_or (set img i b) p 0 ≡ get_or img p 0
    store_keeps_bytes p q = get_or-set_other img i p b 0 (λ e. differs (rw e at q))
      where
        differs : InSlot g d t j i → ⊥
        differs q = apart (slots_share_nothing g c s k d t j i h h' inside q)

    pub store_keeps_marks : slot_at (set img i b) (offset_of g d t j) ≡ slot_at img (offset_of g d t j)
    store_keeps_marks =
        let at : ℕ = offset_of g d t j in
        let front : (m : ℕ) → m < 5
        → InSlot g d t j (at + m) = λ m l. record { from = omega arith; below = omega arith } in
        rw (
          store_keeps_bytes at (record { from = omega arith; below = omega arith }),
          store_keeps_bytes (at + 1) (front 1 (omega arith)),
          store_keeps_bytes (at + 2) (front 2 (omega arith)),
          store_keeps_bytes (at + 3) (front 3 (omega arith)),
          store_keeps_bytes (at + 4) (front 4 (omega arith)),
        )
