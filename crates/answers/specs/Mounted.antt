-- Demand 1, empty drives: document 01, Image: "A drive 0 or 1 is mounted exactly when its first eight bytes are tag 01,
-- length 5 and a header in range, the image is exactly as long as that header asks, and its motor bit is on; every
-- other drive is empty." As a tick sees it: with the DOR of the record, and the image picked from the two lent.
-- Assumes nothing.
use Rattle.std.specs.Prelude.{ℕ, ◌/◌, ◌%◌, List, ◌⊎◌, ◌↔◌, ◌≡◌, None, Some}
use Rattle.sectors.specs.declared.order.Order.{Order}
use Rattle.image.specs.declared.layout.Geometry.{Geometry}
use Rattle.image.specs.Disk.{Fits}
use Rattle.image.specs.Lent.{pick_of}
use Rattle.fdc.specs.declared.record.Controller.{Controller}
use Rattle.fdc.specs.Ticks.{seen_of, image_after}
use Rattle.answers.specs.Results.{Before, FailsFirst}

-- header and length (`Fits`), and the motor bit: 4 for drive 0, 5 for drive 1
abbrev pub Mounted : ℕ → ℕ → List ℕ → List ℕ → Geometry → Type 0
Mounted dor drive a b g =
    ((drive ≡ 0) × Fits g a × (dor / 16 % 2 ≡ 1)) ⊎ ((drive ≡ 1) × Fits g b × (dor / 32 % 2 ≡ 1))

pub record EmptyExactly : Type 0 where
  -- mounted exactly when ..
  pub mounted : (dor drive : ℕ) (a b : List ℕ) (g : Geometry)
      → (seen_of dor drive (pick_of drive a b) ≡ Some g) ↔ Mounted dor drive a b g
  -- .. every other drive is empty
  pub empty : (dor drive : ℕ) (a b : List ℕ)
      → (seen_of dor drive (pick_of drive a b) ≡ None) ↔ ((g : Geometry) → Mounted dor drive a b g → ⊥)
  -- 01 End, 01 Data commands: a command on an empty drive ends in one tick with 40 01 00, whatever command it is,
  pub ends : (c : Controller) (order : Order) (a b : List ℕ) → Before c order
      → ((g : Geometry) → Mounted c.registers.dor order.drive a b g → ⊥) → FailsFirst 0x01 c order a b
  -- and both images stay
  pub untouched : (c : Controller) (order : Order) (a b : List ℕ) → Before c order
      → ((g : Geometry) → Mounted c.registers.dor order.drive a b g → ⊥) → (k : ℕ) (img : List ℕ)
      → image_after k a b c img ≡ img
