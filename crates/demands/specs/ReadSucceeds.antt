-- A read that is served promptly on a good disk ends with success (01 Read, Next, Result). Without it a box in which
-- every command ends at once with an error would meet all that is said of a read.
-- Assumes nothing.
use Rattle.std.specs.Prelude.{ℕ, ◌<◌, ◌≤◌, true, false, List, [], ◌∷◌, ◌↔◌, ◌≡◌, length, Some}
use Rattle.sectors.specs.declared.order.Order.{Order}
use Rattle.sectors.specs.declared.order.Transfer.{Transfer}
use Rattle.image.specs.declared.layout.Geometry.{Geometry}
use Rattle.image.specs.declared.slot.Id.{Id}
use Rattle.image.specs.Disk.{disk_in}
use Rattle.image.specs.Lent.{pick_of}
use Rattle.image.specs.Sound.{Sound}
use Rattle.fdc.specs.declared.record.Controller.{Controller}
use Rattle.reached.specs.Moves.{tick_count}
use Rattle.fdc.specs.Registers.{gate_in, dma_in, motor_in}
use Rattle.reached.specs.Runs.{Call, after}
use Rattle.demands.specs.DataError.{Spins}
use Rattle.demands.specs.EndsInTime.{bound_of}
use Rattle.demands.specs.HandedOver.{Reads, Taken, untaken, taken_by, IsGood}
use Rattle.demands.specs.InTime.{InTime, Prompt}
use Rattle.demands.specs.PowerCut.{Aim, aim_no, Followed, head_of}
use Rattle.demands.specs.Succeeds.{Fill, Success, PastEot, LastOne}
use Rattle.demands.specs.Work.{at_work, Alone, EndsWith}

-- what the host took so far is so, after each call of the command at work
unfoldable pub AsTaken : (Taken → Type 0) → List Call → Controller → Taken → Type 0
AsTaken P [] c t = Unit {0}
AsTaken P (call ∷ calls) c t =
    at_work c.phase ≡ true → P (taken_by call c t) × AsTaken P calls (after call c) (taken_by call c t)

-- it wants L bytes: TC has come exactly when it took them
abbrev pub TellsAt : ℕ → Taken → Type 0
TellsAt L t = (t.told ≡ true) ↔ (L ≤ length t.got)

abbrev pub ReadTells : ℕ → List Call → Controller → Taken → Type 0
ReadTells L calls c t = AsTaken (TellsAt L) calls c t

-- sectors 0 to `last` of the command are all there under good marks of its kind, and none of them lies behind EOT
pub record AllGood (g : Geometry) (img : List ℕ) (cylinder : ℕ) (transfer : Transfer) (aim : Aim) (last : ℕ) : Type 0
  where
    pub good : (k : ℕ) → k ≤ last → IsGood g cylinder transfer aim img k
    pub on : (k : ℕ) → k < last → Followed transfer (aim_no transfer aim k)

-- any MT, SK, FIFO and threshold, protected or not; the motor on, nobody resets the box or changes the image, the host
-- serves it so, and the bound's ticks come. Sound, so that the slot found is the good one
abbrev pub ReadSucceedsIf : (List Call → Controller → Type 0) → (Controller → Type 0) → Type 0
ReadSucceedsIf Served From =
    (c : Controller) → From c → (order : Order) (transfer : Transfer) (id : Id) → Reads c order transfer id
    → (img : List ℕ) (g : Geometry) → Sound g img
    → (bytes last : ℕ) → Fill g bytes last
    → AllGood g img (head_of order c) transfer (record { id = id; side = order.side }) last
    → (calls : List Call) → Spins order.drive calls c → Alone order.drive img calls c → Served calls c
    → ReadTells bytes calls c untaken → bound_of g ≤ tick_count calls
    → EndsWith (Success order transfer (record { id = id; side = order.side }) last) calls c

-- each request is served before the next tick
abbrev pub ReadSucceeds : (Controller → Type 0) → Type 0
ReadSucceeds From = ReadSucceedsIf Prompt From

-- it is enough that no byte comes late
abbrev pub ReadSucceedsInTime : (Controller → Type 0) → Type 0
ReadSucceedsInTime From = ReadSucceedsIf InTime From

-- TC does not come; in non-DMA it cannot
abbrev pub UntoldRead : Taken → Type 0
UntoldRead t = t.told ≡ false

-- without TC the same read goes on to EOT: all bytes up to there are taken (`HandedOver`, past-eot)
abbrev pub ReadReachesEot : (Controller → Type 0) → Type 0
ReadReachesEot From =
    (c : Controller) → From c → (order : Order) (transfer : Transfer) (id : Id) → Reads c order transfer id
    → (img : List ℕ) (g : Geometry) → Sound g img
    → (last : ℕ) → AllGood g img (head_of order c) transfer (record { id = id; side = order.side }) last
    → LastOne transfer (aim_no transfer (record { id = id; side = order.side }) last)
    → (calls : List Call) → Spins order.drive calls c → Alone order.drive img calls c → InTime calls c
    → AsTaken UntoldRead calls c untaken → bound_of g ≤ tick_count calls
    → EndsWith (PastEot order transfer (record { id = id; side = order.side }) last) calls c

-- Such a host there is, in DMA mode with the gate bit on (01 Registers DRQ), for as many ticks as one likes: it takes
-- what is asked for before each tick, and hands each the same images.
pub record Serves (drive L k : ℕ) (img : List ℕ) (c : Controller) (t : Taken) : Type 0 where
  pub calls : List Call
  pub spins : Spins drive calls c
  pub alone : Alone drive img calls c
  pub prompt : Prompt calls c
  pub tells : ReadTells L calls c t
  pub long : k ≤ tick_count calls

abbrev pub ReadServable : (Controller → Type 0) → Type 0
ReadServable From =
    (c : Controller) → From c → (order : Order) (transfer : Transfer) (id : Id) → Reads c order transfer id
    → motor_in c.registers.dor order.drive ≡ true → gate_in c.registers.dor ≡ true
    → dma_in c.registers.spec2 ≡ true
    → (a b : List ℕ) (g : Geometry) → disk_in (pick_of order.drive a b) ≡ Some g
    → (L k : ℕ) → 0 < L → Serves order.drive L k (pick_of order.drive a b) c untaken
