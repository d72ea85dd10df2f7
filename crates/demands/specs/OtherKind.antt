-- A read whose first sector is of the other kind, SK 0 (01 Read; 02 2026-01): its bytes pass, and it ends behind that
-- sector with IC 00, ST2 40 and that sector's own address. What was handed over is in HandedOver.
-- Assumes nothing.
use Rattle.std.specs.Prelude.{ℕ, ◌≤◌, true, false, List, ◌≡◌}
use Rattle.sectors.specs.declared.order.Order.{Order}
use Rattle.sectors.specs.declared.order.Transfer.{Transfer}
use Rattle.sectors.specs.Result.{st0_of}
use Rattle.image.specs.declared.layout.Geometry.{Geometry}
use Rattle.image.specs.declared.slot.Id.{Id}
use Rattle.image.specs.Sound.{Sound}
use Rattle.fdc.specs.declared.record.Controller.{Controller}
use Rattle.fdc.specs.declared.record.Phase.TheVariants.{Answering}
use Rattle.reached.specs.Moves.{tick_count}
use Rattle.reached.specs.Runs.{Call}
use Rattle.demands.specs.Acknowledged.{result_byte, result_id}
use Rattle.demands.specs.DataError.{Spins}
use Rattle.demands.specs.EndsInTime.{bound_of}
use Rattle.demands.specs.HandedOver.{Reads, IsGoodOther}
use Rattle.demands.specs.InTime.{InTime, Prompt}
use Rattle.demands.specs.PowerCut.{head_of}
use Rattle.demands.specs.Work.{Alone, EndsWith}

-- the result waits with INT on: IC 00 with side and drive, ST1 00, ST2 40, and that address
pub record OtherEnded (order : Order) (id : Id) (e : Controller) : Type 0 where
  pub waits : e.phase ≡ Answering true
  pub st0 : result_byte 0 e ≡ st0_of true order.drive order.side
  pub st1 : result_byte 1 e ≡ 0x00
  pub st2 : result_byte 2 e ≡ 0x40
  pub address : result_id e ≡ id

-- its first sector stands there under the good mark of the other kind; any MT and EOT, whether TC comes or not. The
-- motor on, nobody resets the box or changes the image, the host serves it so, and the bound's ticks come
abbrev pub ReadsOtherIf : (List Call → Controller → Type 0) → (Controller → Type 0) → Type 0
ReadsOtherIf Served From =
    (c : Controller) → From c → (order : Order) (transfer : Transfer) (id : Id) → Reads c order transfer id
    → transfer.sk ≡ false
    → (img : List ℕ) (g : Geometry) → Sound g img
    → IsGoodOther g (head_of order c) transfer (record { id = id; side = order.side }) img 0
    → (calls : List Call) → Spins order.drive calls c → Alone order.drive img calls c → Served calls c
    → bound_of g ≤ tick_count calls
    → EndsWith (OtherEnded order id) calls c

-- each request is served before the next tick
abbrev pub ReadsOther : (Controller → Type 0) → Type 0
ReadsOther From = ReadsOtherIf Prompt From

-- it is enough that no byte comes late
abbrev pub ReadsOtherInTime : (Controller → Type 0) → Type 0
ReadsOtherInTime From = ReadsOtherIf InTime From
