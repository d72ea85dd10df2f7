-- Served in time (01 Read, Write, Format: ST1 10; 01 FIFO and request). A byte is late by document 01's own causes,
-- and by no other; a host that serves each request before the next tick is never late.
-- Assumes nothing.
use Rattle.std.specs.Prelude.{ℕ, ◌/◌, ◌%◌, ◌<◌, ◌≤◌, Bool, true, false, List, [], ◌∷◌, ◌⊎◌, ◌≡◌, eqb}
use Rattle.chip.specs.declared.fifo.Fifo.{Fifo}
use Rattle.chip.specs.Fifo.{full_of}
use Rattle.image.specs.declared.slot.Id.{Id}
use Rattle.image.specs.Lent.{pick_of}
use Rattle.sectors.specs.declared.order.Job.TheVariants.{Move}
use Rattle.sectors.specs.declared.order.Order.{Order}
use Rattle.sectors.specs.declared.order.Transfer.{Transfer}
use Rattle.sectors.specs.declared.work.Form.{Form}
use Rattle.sectors.specs.declared.work.Form.TheVariants as form
use Rattle.sectors.specs.declared.work.Site.{Site}
use Rattle.sectors.specs.declared.work.Stage.{Stage}
use Rattle.sectors.specs.declared.work.Stage.TheVariants.{Searching, Turning, Reading, Draining, Awaiting, Storing}
use Rattle.sectors.specs.declared.work.Task.{Task}
use Rattle.sectors.specs.declared.work.Work.{Work}
use Rattle.sectors.specs.declared.work.Work.TheVariants.{Identifying, Moving, Formatting}
use Rattle.sectors.specs.Track.{pass_bytes, stays_of}
use Rattle.engine.specs.Step.{site_of, drive_of}
use Rattle.fdc.specs.declared.record.Controller.{Controller}
use Rattle.fdc.specs.declared.record.Phase.{Phase}
use Rattle.fdc.specs.declared.record.Phase.TheVariants.{Idle, Gathering, Starting, Working, Sensing, Answering}
use Rattle.fdc.specs.Ticks.{seen_of}
use Rattle.reached.specs.Runs.{Call, powers, reads, writes, takes, gives, ticks, notes, after, run_calls}
use Rattle.demands.specs.Acknowledged.{result_byte}
use Rattle.demands.specs.Work.{at_work, Its}

-- 01 Read, Write: what ST1 10 is for, by the stage: a byte to move and the FIFO full, the 64th look that finds bytes,
-- the 64th tick without one, a byte to store and none there
abbrev pub Late : Bool → Site → Task → Fifo → Stage → Type 0
Late efifo site task fifo (Searching look) = ⊥
Late efifo site task fifo (Turning slot) = ⊥
Late efifo site task fifo (Reading sector done) = (fifo.tc ≡ false) × (full_of efifo fifo ≡ true)
Late efifo site task fifo (Draining sector looks) = (0 < fifo.count) × (63 ≤ looks)
Late efifo site task fifo (Awaiting slot wait) = (fifo.count ≡ 0) × (63 ≤ wait)
Late efifo site task fifo (Storing slot done) = (done < pass_bytes site task) × (fifo.count ≡ 0) × (fifo.tc ≡ false)

-- 01 Format: wait as for Write; a byte of the four missing
abbrev pub LateForm : Fifo → Form → Type 0
LateForm fifo (form.Awaiting slot wait) = (fifo.count ≡ 0) × (63 ≤ wait)
LateForm fifo (form.Addressing slot k) = fifo.count ≡ 0
LateForm fifo (form.Filling slot done) = ⊥
LateForm fifo (form.Clearing slot) = ⊥

abbrev pub LateWork : Bool → Fifo → Work → Type 0
LateWork efifo fifo (Identifying site slot passes) = ⊥
LateWork efifo fifo (Moving site task stage) = Late efifo site task fifo stage
LateWork efifo fifo (Formatting site plan form) = LateForm fifo form

abbrev pub LatePhase : Bool → Fifo → Phase → Type 0
LatePhase efifo fifo Idle = ⊥
LatePhase efifo fifo (Gathering entry) = ⊥
LatePhase efifo fifo (Starting order) = ⊥
LatePhase efifo fifo (Working work) = LateWork efifo fifo work
LatePhase efifo fifo (Sensing unit) = ⊥
LatePhase efifo fifo (Answering loud) = ⊥

-- what is asked of a record that a tick is handed
abbrev pub AtTick : (Controller → Type 0) → Call → Controller → Type 0
AtTick P (powers head0 head1) c = Unit {0}
AtTick P (reads offset) c = Unit {0}
AtTick P (writes offset byte) c = Unit {0}
AtTick P (takes tc) c = Unit {0}
AtTick P (gives byte tc) c = Unit {0}
AtTick P (ticks a b) c = P c
AtTick P (notes drive) c = Unit {0}

-- it holds at every tick of the command at work
unfoldable pub AtTicks : (Controller → Type 0) → List Call → Controller → Type 0
AtTicks P [] c = Unit {0}
AtTicks P (call ∷ calls) c = at_work c.phase ≡ true → AtTick P call c × AtTicks P calls (after call c)

abbrev pub Timely : Controller → Type 0
Timely c = LatePhase c.registers.efifo c.fifo c.phase → ⊥

-- no byte comes late
abbrev pub InTime : List Call → Controller → Type 0
InTime calls c = AtTicks Timely calls c

-- each tick finds the request off
abbrev pub RequestOff : Controller → Type 0
RequestOff c = c.fifo.asks ≡ false

abbrev pub Prompt : List Call → Controller → Type 0
Prompt calls c = AtTicks RequestOff calls c

-- a read or a write was accepted
pub record Transfers (c : Controller) (order : Order) (transfer : Transfer) (id : Id) : Type 0 where
  pub accepted : c.phase ≡ Starting order
  pub moves : order.job ≡ Move transfer id

-- a host that serves each request before the next tick is in time
abbrev pub PromptInTime : (Controller → Type 0) → Type 0
PromptInTime From =
    (c : Controller) → From c → (order : Order) (transfer : Transfer) (id : Id) → Transfers c order transfer id
    → (calls : List Call) → Prompt calls c → InTime calls c

-- ST1's bit 10
abbrev pub late_in : ℕ → Bool
late_in st1 = eqb (st1 / 0x10 % 2) 1

-- in time, no transfer ends with ST1's bit 10, whoever changes the image
abbrev pub NeverLate : (Controller → Type 0) → Type 0
NeverLate From =
    (c : Controller) → From c → (order : Order) (transfer : Transfer) (id : Id) → Transfers c order transfer id
    → (calls : List Call) → Its calls c → InTime calls c → (run_calls calls c).phase ≡ Answering true
    → late_in (result_byte 1 (run_calls calls c)) ≡ false

-- the disk in the drive is the one that the command's first tick met
abbrev pub Finds : List ℕ → List ℕ → Controller → Phase → Type 0
Finds a b c Idle = ⊥
Finds a b c (Gathering entry) = ⊥
Finds a b c (Starting order) = ⊥
Finds a b c (Working work) =
    stays_of (seen_of c.registers.dor (drive_of work) (pick_of (drive_of work) a b)) (site_of work).disk ≡ true
Finds a b c (Sensing unit) = ⊥
Finds a b c (Answering loud) = ⊥

-- a tick that finds its disk, and a byte late
abbrev pub FindsLate : Call → Controller → Type 0
FindsLate (powers head0 head1) c = ⊥
FindsLate (reads offset) c = ⊥
FindsLate (writes offset byte) c = ⊥
FindsLate (takes tc) c = ⊥
FindsLate (gives byte tc) c = ⊥
FindsLate (ticks a b) c = Finds a b c c.phase × LatePhase c.registers.efifo c.fifo c.phase
FindsLate (notes drive) c = ⊥

-- there is one among the calls
unfoldable pub SomeLate : List Call → Controller → Type 0
SomeLate [] c = ⊥
SomeLate (call ∷ calls) c = FindsLate call c ⊎ SomeLate calls (after call c)

-- and then a transfer ends with ST1's bit 10, whoever changes the image
abbrev pub LateTold : (Controller → Type 0) → Type 0
LateTold From =
    (c : Controller) → From c → (order : Order) (transfer : Transfer) (id : Id) → Transfers c order transfer id
    → (calls : List Call) → Its calls c → SomeLate calls c → (run_calls calls c).phase ≡ Answering true
    → late_in (result_byte 1 (run_calls calls c)) ≡ true
