-- Demand 1, "No command runs past its stated ticks, however the host behaves": document 01, End, Stepping, and Commands
-- (Sense Drive). What is counted are ticks; between them any calls may come, refused or not: port and DMA calls, notes,
-- motor bits, gate, resets.
-- Assumes nothing.
use Rattle.std.specs.Prelude.{ℕ, ◌+◌, ◌*◌, ◌%◌, ◌≤◌, true, false, List, ◌≡◌, ltb, None, Some}
use Rattle.chip.specs.declared.codes.Entry.{Entry}
use Rattle.chip.specs.declared.codes.Kind.{Kind}
use Rattle.chip.specs.declared.codes.Kind.TheVariants.{Seek, Recalibrate}
use Rattle.drive.specs.declared.Drive.{Drive}
use Rattle.drive.specs.Drive.{distance, recalibrate_steps}
use Rattle.drive.specs.Due.{SeekDue, Recalibrates, MotionOver, head_after, over_after, recalibrate_report}
use Rattle.sectors.specs.declared.order.Order.{Order}
use Rattle.image.specs.declared.layout.Geometry.{Geometry}
use Rattle.image.specs.Disk.{disk_in}
use Rattle.image.specs.Layout.{size_of}
use Rattle.image.specs.Lent.{pick_of}
use Rattle.fdc.specs.declared.record.Controller.{Controller}
use Rattle.fdc.specs.declared.record.Phase.TheVariants.{Gathering, Starting, Sensing, Answering}
use Rattle.fdc.specs.Commands.{command_byte, gathered_of, step_time}
use Rattle.reached.specs.Moves.{tick_count, OnTime}
use Rattle.fdc.specs.Record.{drive_at}
use Rattle.reached.specs.Runs.{Call, writes, ticks, after}
use Rattle.fdc.specs.Ticks.{seen_of}
use Rattle.demands.specs.Work.{Real, Alone, EndsWith, Anyhow}

-- 01 End: 2 x (S + 1) x (2S + B + 70)
unfoldable pub bound_of : Geometry → ℕ
bound_of g = 2 * (g.slots + 1) * (2 * g.slots + size_of g.n + 70)

-- 01 End: any of these (Read, Write, Read ID, Format) is over within that many ticks if nobody else changes the image
abbrev pub EndsInTime : (Controller → Type 0) → Type 0
EndsInTime From =
    (c : Controller) → From c → (order : Order) → c.phase ≡ Starting order
    → (img : List ℕ) (g : Geometry) → disk_in img ≡ Some g
    → (calls : List Call) → Alone order.drive img calls c → bound_of g ≤ tick_count calls
    → EndsWith Anyhow calls c

-- 01 End: on an empty drive in one, whatever image a tick is handed: its result is there after the first tick
abbrev pub EndsInOne : (Controller → Type 0) → Type 0
EndsInOne From =
    (c : Controller) → From c → (order : Order) → c.phase ≡ Starting order
    → (a b : List ℕ) → seen_of c.registers.dor order.drive (pick_of order.drive a b) ≡ None
    → (after (ticks a b) c).phase ≡ Answering true

-- 01 Commands Sense Drive: ST3 at the next tick
abbrev pub SensesInOne : (Controller → Type 0) → Type 0
SensesInOne From =
    (c : Controller) → From c → (unit : ℕ) → c.phase ≡ Sensing unit → (a b : List ℕ)
    → (after (ticks a b) c).phase ≡ Answering false

-- a command of that kind is complete but for its last byte, which the host now writes to the FIFO
pub record Completes (kind : Kind) (byte : ℕ) (c : Controller) : Type 0 where
  pub real : Real c
  pub entry : Entry
  pub gathers : c.phase ≡ Gathering entry
  pub kind_is : entry.kind ≡ kind
  pub last : c.bytes.gathered + 1 ≡ entry.bytes

-- byte k of the command, the last one among them
abbrev pub byte_no : ℕ → ℕ → Controller → ℕ
byte_no k byte c = command_byte k (gathered_of byte c)

-- 01 Stepping: a Seek of a drive that is not busy, NCN 'target', is over at exactly n x T ticks after its last byte,
-- n = |NCN - PCN|, or at the next tick if no step is due: PCN is NCN, the report 20 + drive, the head n steps on; any
-- calls may come between that are no power-on and no reset
abbrev pub SeeksOnTime : Type 0
SeeksOnTime =
    (c : Controller) (byte : ℕ) → Completes Seek byte c
    → (k target : ℕ) (d : Drive) → byte_no 1 byte c % 4 ≡ k → byte_no 2 byte c ≡ target → drive_at k c.drives ≡ d
    → d.busy ≡ false
    → OnTime
    (SeekDue k (step_time c) d.pcn target (head_after k (ltb d.pcn target) (distance d.pcn target) d.head))
    (MotionOver target (0x20 + k % 4) (head_after k (ltb d.pcn target) (distance d.pcn target) d.head))
    k (over_after (distance d.pcn target) (step_time c)) (after (writes 5 byte) c)

-- 01 Stepping: a Recalibrate likewise: out until the head is at 0, at most 79 times; PCN 0, and the report by where the
-- head then stands
abbrev pub RecalibratesOnTime : Type 0
RecalibratesOnTime =
    (c : Controller) (byte : ℕ) → Completes Recalibrate byte c
    → (k : ℕ) (d : Drive) → byte_no 1 byte c % 4 ≡ k → drive_at k c.drives ≡ d → d.busy ≡ false
    → OnTime
    (Recalibrates k (step_time c) d.pcn (head_after k false (recalibrate_steps k d.head) d.head))
    (MotionOver 0 (recalibrate_report k (head_after k false (recalibrate_steps k d.head) d.head))
    (head_after k false (recalibrate_steps k d.head) d.head))
    k (over_after (recalibrate_steps k d.head) (step_time c)) (after (writes 5 byte) c)
