-- What a request of the block service asks for (02 2026-01): a block of a disk, its address and its slot.
-- Assumes nothing.
use Rattle.std.specs.Prelude.{ℕ, ◌<◌, true, false, List, ◌≡◌, length, get_or, Some}
use Rattle.image.specs.declared.layout.Geometry.{Geometry}
use Rattle.image.specs.declared.slot.Id.{Id}
use Rattle.image.specs.Disk.{disk_in}
use Rattle.image.specs.Layout.{size_of, offset_of, Has}
use Rattle.image.specs.Lent.{pick_of}
use Rattle.image.specs.Slot.{id_at}
use Rattle.sectors.specs.declared.order.Job.TheVariants.{Move}
use Rattle.sectors.specs.declared.order.Order.{Order}
use Rattle.sectors.specs.declared.order.Pass.{Pass}
use Rattle.sectors.specs.declared.order.Transfer.{Transfer}
use Rattle.fdc.specs.declared.record.Controller.{Controller}
use Rattle.fdc.specs.Record.{valid_of}
use Rattle.block.specs.declared.place.Place.{Place}
use Rattle.block.specs.Box.{Box}
use Rattle.block.specs.Place.{blocks_of, place_of}

-- the image of a drive
abbrev pub image_of : ℕ → Box → List ℕ
image_of drive s = pick_of drive s.first s.second

-- any valid record, in any phase. That the first byte of Specify is below 256 is no demand on the caller: its type
-- says so
pub record AnyValid (c : Controller) : Type 0 where
  pub valid : valid_of c ≡ true
  pub spec1 : c.registers.spec1 < 256

-- a block that the drive's disk has, its motor on or not, and a caller's slice of its size
pub record Asked (drive block : ℕ) (s : Box) (g : Geometry) (slice : List ℕ) : Type 0 where
  pub any : AnyValid s.controller
  pub drive_is : drive < 2
  pub disk : disk_in (image_of drive s) ≡ Some g
  pub within : block < blocks_of g
  pub size : length slice ≡ size_of g.n

-- the command that is issued: MT 0, SK 0, EOT = S; C H R N by the block's place. The controller keeps no DTL
abbrev pub transfer_of : Pass → Geometry → Transfer
transfer_of pass g = record { pass = pass; deleted = false; mt = false; sk = false; eot = g.slots; dtl = 0 }

abbrev pub id_of : Geometry → Place → Id
id_of g place = record { c = place.cylinder; h = place.side; r = place.sector; n = g.n }

abbrev pub order_of : Pass → ℕ → Geometry → Place → Order
order_of pass drive g place = record { drive = drive; side = place.side; job = Move (transfer_of pass g) (id_of g place) }

-- where the block stands: a slot of its track that has its address; `at` is the place of the slot's mark in the image
pub record Slot (g : Geometry) (img : List ℕ) (block mark at : ℕ) : Type 0 where
  pub slot : ℕ
  pub has : Has g (place_of g block).cylinder (place_of g block).side slot
  pub place : at ≡ offset_of g (place_of g block).cylinder (place_of g block).side slot
  pub address : id_at img at ≡ id_of g (place_of g block)
  pub marked : get_or img at 0 ≡ mark
