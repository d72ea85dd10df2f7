-- Where a block stands (02 2026-01): in its slot stands the sector that its command looks for, and on a sound disk an
-- address stands in one slot of its track.
-- Assumes nothing.
use Prim.Native.Nat.{ℕ, ◌<◌, ◌≤◌}
use native.Mathlib.Omega.{arith}
use mathlib.Core.List.{List}
use mathlib.Core.Logic.{◌⊎◌, inl, inr}
use mathlib.Core.Path.{◌≡◌, refl, sym, ap, ◌∙◌}
use Rattle.image.specs.declared.layout.Geometry.{Geometry}
use Rattle.image.specs.Layout.{offset_of}
use Rattle.image.specs.Slot.{id_at}
use Rattle.image.specs.Sound.{Sound, mark_in}
use Rattle.image.proofs.TestLaws.{le_or_lt}
use Rattle.demands.specs.PowerCut.{Aim, Counts, Stands}
use Rattle.block.specs.Place.{place_of}
use Rattle.block_demands.specs.Asked.{Slot}
use Rattle.block_demands.specs.BlockReads.{own_id}

-- a block's slot is where its command's sector stands
pub slot_stands : (g : Geometry) (img : List ℕ) (block mark at : ℕ) → Slot g img block mark at → Counts mark
    → Stands g img (place_of g block).cylinder (record { id = own_id g block; side = (place_of g block).side }) at
slot_stands g img block mark at slot counts = record {
  slot = slot.slot;
  has = slot.has;
  place = slot.place;
  marked = rw slot.marked counts;
  address = slot.address;
  size = refl;
}

module _ (g : Geometry) (img : List ℕ) (sound : Sound g img) (cylinder : ℕ) (aim : Aim) where
  -- no two slots have the address
  never_twice : (at at' : ℕ) (x : Stands g img cylinder aim at) (y : Stands g img cylinder aim at')
      → x.slot < y.slot → ⊥
  never_twice at at' x y before =
      sound.once cylinder aim.side x.slot y.slot x.has y.has before (marked at x) (marked at' y)
      (address at x ∙ sym (address at' y))
    where
      marked : (p : ℕ) (z : Stands g img cylinder aim p) → 0 < mark_in g img cylinder aim.side z.slot
      marked p z = rw (← z.place) z.marked.0

      address : (p : ℕ) (z : Stands g img cylinder aim p)
          → id_at img (offset_of g cylinder aim.side z.slot) ≡ aim.id
      address p z = rw (← z.place) z.address

  pub one_place : (at at' : ℕ) → Stands g img cylinder aim at → Stands g img cylinder aim at' → at ≡ at'
  one_place at at' x y = go (le_or_lt x.slot y.slot) (le_or_lt y.slot x.slot)
    where
      go : (x.slot ≤ y.slot) ⊎ (y.slot < x.slot) → (y.slot ≤ x.slot) ⊎ (x.slot < y.slot) → at ≡ at'
      go (inr later) either = absurd (never_twice at' at y x later)
      go (inl most) (inr later) = absurd (never_twice at at' x y later)
      go (inl most) (inl least) =
          let same : x.slot ≡ y.slot = omega arith in
          x.place ∙ ap (offset_of g cylinder aim.side) same ∙ sym y.place
