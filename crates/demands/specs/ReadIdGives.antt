-- What a Read ID gives (01 Read ID): the address of the track's first ID, from slot 0; where there is none, ST1 01 and
-- zeros. Without it a box whose Read ID always fails would meet all that is said of its ends.
-- Assumes nothing.
use Rattle.std.specs.Prelude.{ℕ, ◌<◌, ◌≤◌, Bool, true, false, List, ◌≡◌, Some}
use Rattle.image.specs.declared.layout.Geometry.{Geometry}
use Rattle.image.specs.declared.slot.Id.{Id}
use Rattle.image.specs.Disk.{disk_in}
use Rattle.image.specs.Layout.{offset_of, Has}
use Rattle.image.specs.Slot.{id_at}
use Rattle.image.specs.Sound.{mark_in}
use Rattle.sectors.specs.declared.order.Job.TheVariants.{Identify}
use Rattle.sectors.specs.declared.order.Order.{Order}
use Rattle.sectors.specs.Result.{st0_of}
use Rattle.fdc.specs.declared.record.Controller.{Controller}
use Rattle.fdc.specs.declared.record.Phase.TheVariants.{Starting, Answering}
use Rattle.reached.specs.Moves.{tick_count}
use Rattle.reached.specs.Runs.{Call}
use Rattle.demands.specs.Acknowledged.{result_byte, result_id}
use Rattle.demands.specs.DataError.{Spins}
use Rattle.demands.specs.EndsInTime.{bound_of}
use Rattle.demands.specs.PowerCut.{Counts, head_of}
use Rattle.demands.specs.Work.{Alone, EndsWith}

-- a Read ID was accepted: any drive and side
pub record Identifies (c : Controller) (order : Order) : Type 0 where
  pub accepted : c.phase ≡ Starting order
  pub asks : order.job ≡ Identify

-- slot k has the track's first ID
pub record FirstId (g : Geometry) (img : List ℕ) (cylinder side k : ℕ) : Type 0 where
  pub has : Has g cylinder side k
  pub marked : Counts (mark_in g img cylinder side k)
  pub none_before : (j : ℕ) → j < k → Counts (mark_in g img cylinder side j) → ⊥

-- the track is there, and has no ID
pub record NoIdThere (g : Geometry) (img : List ℕ) (cylinder side : ℕ) : Type 0 where
  pub on_disk : cylinder < g.cylinders
  pub on_cylinder : side < g.heads
  pub none : (k : ℕ) → Has g cylinder side k → Counts (mark_in g img cylinder side k) → ⊥

-- the result waits with INT on: ST0 with the side and the drive, ST1, ST2 00, C H R N
pub record Gives (order : Order) (normal : Bool) (st1 : ℕ) (id : Id) (e : Controller) : Type 0 where
  pub waits : e.phase ≡ Answering true
  pub st0 : result_byte 0 e ≡ st0_of normal order.drive order.side
  pub st1_is : result_byte 1 e ≡ st1
  pub st2 : result_byte 2 e ≡ 0x00
  pub address : result_id e ≡ id

-- any mark 1 to 5, any N (D-115); the motor on, nobody resets the box or changes the image, and the bound's ticks come
abbrev pub ReadIdGives : (Controller → Type 0) → Type 0
ReadIdGives From =
    (c : Controller) → From c → (order : Order) → Identifies c order
    → (img : List ℕ) (g : Geometry) → disk_in img ≡ Some g
    → (k : ℕ) → FirstId g img (head_of order c) order.side k
    → (calls : List Call) → Spins order.drive calls c → Alone order.drive img calls c
    → bound_of g ≤ tick_count calls
    → EndsWith (Gives order true 0x00 (id_at img (offset_of g (head_of order c) order.side k))) calls c

abbrev pub ReadIdNone : (Controller → Type 0) → Type 0
ReadIdNone From =
    (c : Controller) → From c → (order : Order) → Identifies c order
    → (img : List ℕ) (g : Geometry) → disk_in img ≡ Some g → NoIdThere g img (head_of order c) order.side
    → (calls : List Call) → Spins order.drive calls c → Alone order.drive img calls c
    → bound_of g ≤ tick_count calls
    → EndsWith (Gives order false 0x01 (record { c = 0; h = 0; r = 0; n = 0 })) calls c
