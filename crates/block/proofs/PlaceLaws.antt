-- A block's place lies on its disk (02 2026-01).
-- Assumes nothing.
use Rattle.std.specs.Prelude.{Some}
use Prim.Native.Nat.{ℕ, ◌*◌, ◌/◌, ◌%◌, ◌<◌}
use mathlib.Core.List.{List}
use mathlib.Core.Path.{◌≡◌, sym}
use native.Mathlib.Nat.{div-lt_iff_lt-mul, mod-lt}
use Rattle.image.specs.declared.layout.Geometry.{Geometry}
use Rattle.image.specs.Disk.{InRange, disk_in}
use Rattle.image.proofs.DiskLaws.{present_fits}
use Rattle.block.specs.Place.{blocks_of}

module _ (g : Geometry) (block : ℕ) (range : InRange g) where
  pub cylinder_on : block < blocks_of g → block / g.slots / g.heads < g.cylinders
  cylinder_on h =
      let track : block / g.slots < g.cylinders * g.heads
      = (div-lt_iff_lt-mul {k = g.slots} range.slots.0).1 h in
      (div-lt_iff_lt-mul {k = g.heads} range.heads.0).1 track

  pub side_on : block / g.slots % g.heads < g.heads
  side_on = mod-lt (block / g.slots) range.heads.0

  pub sector_on : block % g.slots < g.slots
  sector_on = mod-lt block range.slots.0

-- of a disk that is there
pub disk_range : (img : List ℕ) (g : Geometry) → Some g ≡ disk_in img → InRange g
disk_range img g e = (present_fits img g (sym e)).range
