-- Demand 3, "so a read of it ends with a data error": a read that starts with the begun sector, on the image as the
-- cut left it, from any record reached after any power-on, the head there and the motor on; also for a late host, but
-- for one that the 64 looks end (02 2026-02).
-- Assumes nothing.
use Rattle.std.specs.Prelude.{ℕ, ◌≤◌, true, false, List, [], ◌∷◌, ◌⊎◌, ◌≡◌}
use Rattle.sectors.specs.declared.order.Job.TheVariants.{Move}
use Rattle.sectors.specs.declared.order.Order.{Order}
use Rattle.sectors.specs.declared.order.Pass.TheVariants.{Read}
use Rattle.sectors.specs.declared.order.Transfer.{Transfer}
use Rattle.sectors.specs.declared.work.Sector.{Sector}
use Rattle.sectors.specs.declared.work.Site.{Site}
use Rattle.sectors.specs.declared.work.Stage.TheVariants.{Draining}
use Rattle.sectors.specs.declared.work.Task.{Task}
use Rattle.sectors.specs.declared.work.Work.TheVariants.{Moving}
use Rattle.sectors.specs.Result.{st0_of}
use Rattle.image.specs.declared.layout.Geometry.{Geometry}
use Rattle.image.specs.declared.slot.Id.{Id}
use Rattle.image.specs.Layout.{offset_of, Has}
use Rattle.image.specs.Slot.{id_at}
use Rattle.image.specs.Sound.{Sound}
use Rattle.fdc.specs.declared.record.Controller.{Controller}
use Rattle.fdc.specs.declared.record.Phase.TheVariants.{Starting, Working, Answering}
use Rattle.reached.specs.Moves.{Calm, tick_count}
use Rattle.fdc.specs.Registers.{motor_in}
use Rattle.reached.specs.Runs.{Call, after}
use Rattle.demands.specs.Acknowledged.{result_byte, result_id}
use Rattle.demands.specs.EndsInTime.{bound_of}
use Rattle.demands.specs.History.{some_of, no_history, history_of}
use Rattle.demands.specs.InTime.{AtTicks, Timely}
use Rattle.demands.specs.PowerCut.{Writes, head_of}
use Rattle.demands.specs.Work.{at_work, Its, Alone, image_left, EndsWith}

-- while it is at work the motor is on and nobody resets the box or switches it on anew
unfoldable pub Spins : ℕ → List Call → Controller → Type 0
Spins drive [] c = motor_in c.registers.dor drive ≡ true
Spins drive (call ∷ calls) c =
    (motor_in c.registers.dor drive ≡ true) × (at_work c.phase ≡ true → Calm call × Spins drive calls (after call c))

-- the read: of the sector whose mark stands at that place of the old image, of either kind
pub record ReadsThere (e : Controller) (order : Order) (transfer : Transfer) (id : Id) (g : Geometry) (old : List ℕ)
    (at : ℕ) : Type 0 where
  pub accepted : e.phase ≡ Starting order
  pub moves : order.job ≡ Move transfer id
  pub reads : transfer.pass ≡ Read
  pub slot : ℕ
  pub has : Has g (head_of order e) order.side slot
  pub there : at ≡ offset_of g (head_of order e) order.side slot
  pub address : id ≡ id_at old at

-- the result waits with INT on: ST0 40 with side and drive, this ST1, ST2 20 or for the other kind 60, and the
-- sector's address
pub record DataErrorAt (st1 : ℕ) (order : Order) (id : Id) (transfer written : Transfer) (e : Controller) : Type 0
  where
    pub waits : e.phase ≡ Answering true
    pub st0 : result_byte 0 e ≡ st0_of false order.drive order.side
    pub st1_is : result_byte 1 e ≡ st1
    pub own_kind : transfer.deleted ≡ written.deleted → result_byte 2 e ≡ 0x20
    pub other_kind : (transfer.deleted ≡ written.deleted → ⊥) → result_byte 2 e ≡ 0x60
    pub address : result_id e ≡ id

-- ST1's bit 20 and ST2's bit 20 are set, also for a host that was late; ST1 has 10 beside it if a byte was lost
abbrev pub DataErrorTold : Order → Id → Transfer → Transfer → Controller → Type 0
DataErrorTold order id transfer written e =
    DataErrorAt 0x20 order id transfer written e ⊎ DataErrorAt 0x30 order id transfer written e

-- no tick is the 64th look that finds bytes
abbrev pub Drained : Controller → Type 0
Drained c =
    (site : Site) (task : Task) (sector : Sector) (looks : ℕ)
    → c.phase ≡ Working (Moving site task (Draining sector looks)) → 63 ≤ looks → c.fifo.count ≡ 0

-- Demand 3, the read after the cut, of its kind, or of the other without SK: served so, it ends so. With the bound's
-- ticks it does end
abbrev pub DataErrorIf : (Controller → Type 0) → (Order → Id → Transfer → Transfer → Controller → Type 0)
    → (Controller → Type 0) → Type 0
DataErrorIf Served Ends From =
    (c : Controller) → From c → (order : Order) (transfer : Transfer) (id : Id) → Writes c order transfer id
    → (old : List ℕ) (g : Geometry) → Sound g old
    → (calls : List Call) → Its calls c → Alone order.drive old calls c
    → (at : ℕ) (bytes : List ℕ) → (history_of calls c no_history).begun ≡ some_of at bytes
    → (e : Controller) → From e → (order' : Order) (transfer' : Transfer) (id' : Id)
    → ReadsThere e order' transfer' id' g old at
    → (transfer'.deleted ≡ transfer.deleted) ⊎ (transfer'.sk ≡ false)
    → (calls' : List Call) → Spins order'.drive calls' e
    → Alone order'.drive (image_left order.drive old calls c) calls' e → bound_of g ≤ tick_count calls'
    → AtTicks Served calls' e
    → EndsWith (Ends order' id' transfer' transfer) calls' e

-- served in time: ST1 20
abbrev pub DataErrorInTime : (Controller → Type 0) → Type 0
DataErrorInTime From = DataErrorIf Timely (DataErrorAt 0x20) From

-- also for a late host, but for one that the 64 looks end
abbrev pub DataError : (Controller → Type 0) → Type 0
DataError From = DataErrorIf Drained DataErrorTold From
