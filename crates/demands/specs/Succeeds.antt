-- A write that is served promptly on a good disk ends with success, and without TC at EOT (01 Next, Result). This
-- shuts out a box whose commands all end at once with an error.
-- Assumes nothing.
use Rattle.std.specs.Prelude.{ℕ, suc, ◌+◌, ◌*◌, ◌<◌, ◌≤◌, Bool, true, false, cond, List, [], ◌∷◌, ◌↔◌, ◌≡◌, length, Some}
use Rattle.sectors.specs.declared.order.Order.{Order}
use Rattle.sectors.specs.declared.order.Transfer.{Transfer}
use Rattle.sectors.specs.Result.{st0_of}
use Rattle.image.specs.declared.layout.Geometry.{Geometry}
use Rattle.image.specs.declared.slot.Id.{Id}
use Rattle.image.specs.Disk.{disk_in}
use Rattle.fdc.specs.declared.record.Controller.{Controller}
use Rattle.fdc.specs.declared.record.Phase.TheVariants.{Answering}
use Rattle.reached.specs.Moves.{tick_count}
use Rattle.reached.specs.Runs.{Call, after}
use Rattle.demands.specs.Acknowledged.{result_byte, result_id}
use Rattle.demands.specs.DataError.{Spins}
use Rattle.demands.specs.EndsInTime.{bound_of}
use Rattle.demands.specs.History.{History, no_history, history_by}
use Rattle.demands.specs.InTime.{InTime, Prompt}
use Rattle.demands.specs.PowerCut.{Writes, Aim, aim_no, Followed, Stands, head_of, passing}
use Rattle.demands.specs.Work.{at_work, Alone, EndsWith}

-- a disk with that header, not protected
pub record Writable (g : Geometry) (img : List ℕ) : Type 0 where
  pub present : disk_in img ≡ Some g
  pub unprotected : g.protect ≡ false

-- a sector of the command is on the track under the head, on its side
pub record IsThere (g : Geometry) (img : List ℕ) (cylinder : ℕ) (aim : Aim) : Type 0 where
  pub at : ℕ
  pub stands : Stands g img cylinder aim at

-- sectors 0 to `last` of the command are all there, and none of them lies behind EOT
pub record AllThere (g : Geometry) (img : List ℕ) (cylinder : ℕ) (transfer : Transfer) (aim : Aim) (last : ℕ) : Type 0
  where
    pub there : (k : ℕ) → k ≤ last → IsThere g img cylinder (aim_no transfer aim k)
    pub on : (k : ℕ) → k < last → Followed transfer (aim_no transfer aim k)

-- so many bytes fill sectors 0 to `last`, the last of them at least begun
pub record Fill (g : Geometry) (bytes last : ℕ) : Type 0 where
  pub more : last * passing g < bytes
  pub most : bytes ≤ (last + 1) * passing g

-- it holds of the history after every call of the command
unfoldable pub Noting : (History → Type 0) → List Call → Controller → History → Type 0
Noting P [] c h = Unit {0}
Noting P (call ∷ calls) c h =
    at_work c.phase ≡ true → P (history_by call c h) × Noting P calls (after call c) (history_by call c h)

-- of the bytes that the host hands over, TC comes with number `bytes` and with no earlier one
abbrev pub Tells : ℕ → History → Type 0
Tells bytes h = h.told ≡ true ↔ bytes ≤ length h.host

abbrev pub WriteTells : ℕ → List Call → Controller → History → Type 0
WriteTells bytes calls c h = Noting (Tells bytes) calls c h

-- 01 Next, Result: Next has ended it behind sector number `last`, and the result waits with INT on: with TC IC 00 and
-- ST1 00, else 40 and ST1 80; in ST0 the side then in use and the drive; ST2 00; the address after that sector
pub record EndedAt (tc : Bool) (order : Order) (transfer : Transfer) (aim : Aim) (last : ℕ) (e : Controller) : Type 0
  where
    pub waits : e.phase ≡ Answering true
    pub st0 : result_byte 0 e ≡ st0_of tc order.drive (aim_no transfer aim last).side
    pub st1 : result_byte 1 e ≡ cond tc 0x00 0x80
    pub st2 : result_byte 2 e ≡ 0x00
    pub address : result_id e ≡ (aim_no transfer aim (suc last)).id

abbrev pub Success : Order → Transfer → Aim → ℕ → Controller → Type 0
Success order transfer aim last e = EndedAt true order transfer aim last e

-- the disk is there and not protected, the motor on, nobody resets the box or changes the image, the host serves it
-- so, and the bound's ticks come
abbrev pub WriteSucceedsIf : (List Call → Controller → Type 0) → (Controller → Type 0) → Type 0
WriteSucceedsIf Served From =
    (c : Controller) → From c → (order : Order) (transfer : Transfer) (id : Id) → Writes c order transfer id
    → (old : List ℕ) (g : Geometry) → Writable g old
    → (bytes last : ℕ) → Fill g bytes last
    → AllThere g old (head_of order c) transfer (record { id = id; side = order.side }) last
    → (calls : List Call) → Spins order.drive calls c → Alone order.drive old calls c → Served calls c
    → WriteTells bytes calls c no_history → bound_of g ≤ tick_count calls
    → EndsWith (Success order transfer (record { id = id; side = order.side }) last) calls c

-- each request is served before the next tick
abbrev pub WriteSucceeds : (Controller → Type 0) → Type 0
WriteSucceeds From = WriteSucceedsIf Prompt From

-- it is enough that no byte comes late
abbrev pub WriteSucceedsInTime : (Controller → Type 0) → Type 0
WriteSucceedsInTime From = WriteSucceedsIf InTime From

-- 01 Next: the sector stands at EOT, and no turn to side 1 follows it
pub record LastOne (transfer : Transfer) (aim : Aim) : Type 0 where
  pub eot : aim.id.r ≡ transfer.eot
  pub no_turn : transfer.mt ≡ true → aim.side ≡ 0 → ⊥

-- TC does not come; in non-DMA, where a DMA cycle is refused (01 Refusals 3), it cannot
abbrev pub Untold : History → Type 0
Untold h = h.told ≡ false

abbrev pub PastEot : Order → Transfer → Aim → ℕ → Controller → Type 0
PastEot order transfer aim last e = EndedAt false order transfer aim last e

-- without TC the same write goes on to EOT: its sectors up to there are all written (`Acknowledged`, past-eot)
abbrev pub WriteReachesEot : (Controller → Type 0) → Type 0
WriteReachesEot From =
    (c : Controller) → From c → (order : Order) (transfer : Transfer) (id : Id) → Writes c order transfer id
    → (old : List ℕ) (g : Geometry) → Writable g old
    → (last : ℕ) → AllThere g old (head_of order c) transfer (record { id = id; side = order.side }) last
    → LastOne transfer (aim_no transfer (record { id = id; side = order.side }) last)
    → (calls : List Call) → Spins order.drive calls c → Alone order.drive old calls c → InTime calls c
    → Noting Untold calls c no_history → bound_of g ≤ tick_count calls
    → EndsWith (PastEot order transfer (record { id = id; side = order.side }) last) calls c
