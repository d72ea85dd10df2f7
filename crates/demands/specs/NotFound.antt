-- A read or a write whose first sector is not on the track (01 Search): at the second pass, no ID met, ST1 01; else
-- ST1 04, with ST2 10 if an ID had another C below FF and 02 if one had another C that is FF; both may stand.
-- Assumes nothing.
use Rattle.std.specs.Prelude.{ℕ, zero, suc, ◌+◌, ◌<◌, ◌≤◌, Bool, true, false, ◌&&◌, ◌||◌, not, cond, List, ◌≡◌, eqb, leb, Some}
use Rattle.image.specs.declared.layout.Geometry.{Geometry}
use Rattle.image.specs.declared.slot.Id.{Id}
use Rattle.image.specs.Disk.{disk_in}
use Rattle.image.specs.Layout.{offset_of}
use Rattle.image.specs.Slot.{id_at}
use Rattle.image.specs.Sound.{mark_in}
use Rattle.sectors.specs.declared.order.Order.{Order}
use Rattle.sectors.specs.declared.order.Pass.TheVariants.{Write}
use Rattle.sectors.specs.declared.order.Transfer.{Transfer}
use Rattle.sectors.specs.Result.{st0_of}
use Rattle.fdc.specs.declared.record.Controller.{Controller}
use Rattle.fdc.specs.declared.record.Phase.TheVariants.{Answering}
use Rattle.reached.specs.Moves.{tick_count}
use Rattle.reached.specs.Runs.{Call}
use Rattle.demands.specs.Acknowledged.{result_byte, result_id}
use Rattle.demands.specs.DataError.{Spins}
use Rattle.demands.specs.EndsInTime.{bound_of}
use Rattle.demands.specs.InTime.{Transfers}
use Rattle.demands.specs.PowerCut.{Stands, head_of}
use Rattle.demands.specs.Work.{Alone, EndsWith}

-- one of the first n slots is so
abbrev pub some : (ℕ → Bool) → ℕ → Bool
some f zero = false
some f (suc n) = some f n || f n

module _ (g : Geometry) (img : List ℕ) (cylinder side : ℕ) where
  -- the slot has an ID: its mark is 1 to 5
  abbrev pub has_id : ℕ → Bool
  has_id k = leb 1 (mark_in g img cylinder side k) && leb (mark_in g img cylinder side k) 5

  abbrev pub cylinder_in : ℕ → ℕ
  cylinder_in k = (id_at img (offset_of g cylinder side k)).c

  -- with another C than this one, below FF
  abbrev pub other_below : ℕ → ℕ → Bool
  other_below c k = has_id k && not (eqb (cylinder_in k) c) && not (eqb (cylinder_in k) 0xFF)

  -- with another C that is FF
  abbrev pub other_ff : ℕ → ℕ → Bool
  other_ff c k = has_id k && not (eqb (cylinder_in k) c) && eqb (cylinder_in k) 0xFF

-- the track is there, and no slot of it is the sector; a write met no protection
pub record Missing (g : Geometry) (img : List ℕ) (cylinder side : ℕ) (transfer : Transfer) (id : Id) : Type 0 where
  pub on_disk : cylinder < g.cylinders
  pub on_cylinder : side < g.heads
  pub writable : transfer.pass ≡ Write → g.protect ≡ false
  pub none : (at : ℕ) → Stands g img cylinder (record { id = id; side = side }) at → ⊥

-- the result waits with INT on: 40 with side and drive, and the sector's address
pub record Misses (order : Order) (id : Id) (met below ff : Bool) (e : Controller) : Type 0 where
  pub waits : e.phase ≡ Answering true
  pub st0 : result_byte 0 e ≡ st0_of false order.drive order.side
  pub st1 : result_byte 1 e ≡ cond met 0x04 0x01
  pub st2 : result_byte 2 e ≡ cond below 0x10 0x00 + cond ff 0x02 0x00
  pub address : result_id e ≡ id

-- the motor on, nobody resets the box or changes the image, however it is served, and the bound's ticks come
abbrev pub NotFound : (Controller → Type 0) → Type 0
NotFound From =
    (c : Controller) → From c → (order : Order) (transfer : Transfer) (id : Id) → Transfers c order transfer id
    → (img : List ℕ) (g : Geometry) → disk_in img ≡ Some g
    → Missing g img (head_of order c) order.side transfer id
    → (calls : List Call) → Spins order.drive calls c → Alone order.drive img calls c
    → bound_of g ≤ tick_count calls
    → EndsWith (Misses order id (some (has_id g img (head_of order c) order.side) g.slots)
    (some (other_below g img (head_of order c) order.side id.c) g.slots)
    (some (other_ff g img (head_of order c) order.side id.c) g.slots)) calls c
