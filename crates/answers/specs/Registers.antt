-- Demand 2, the registers and lines, to be held against the data sheet: document 01, Registers. Each law speaks of what
-- a call answers, and of every record that has no fault of refusal 4; a reached record has none.
-- Assumes nothing.
use Rattle.std.specs.Prelude.{ℕ, ◌+◌, ◌*◌, ◌/◌, ◌%◌, ◌^◌, ◌<◌, ◌≤◌, Bool, true, false, cond, ◌⊎◌, ◌↔◌, ◌≡◌}
use Rattle.chip.specs.declared.codes.Entry.{Entry}
use Rattle.sectors.specs.declared.order.Order.{Order}
use Rattle.sectors.specs.declared.order.Pass.TheVariants.{Read, Write}
use Rattle.sectors.specs.declared.order.Plan.{Plan}
use Rattle.sectors.specs.declared.work.Form.{Form}
use Rattle.sectors.specs.declared.work.Site.{Site}
use Rattle.sectors.specs.declared.work.Stage.{Stage}
use Rattle.sectors.specs.declared.work.Task.{Task}
use Rattle.sectors.specs.declared.work.Work.{Work}
use Rattle.sectors.specs.declared.work.Work.TheVariants.{Identifying, Moving, Formatting}
use Rattle.fdc.specs.declared.record.Controller.{Controller}
use Rattle.fdc.specs.declared.record.Phase.TheVariants.{Idle, Gathering, Starting, Working, Sensing, Answering}
use Rattle.fdc.specs.Answer.{value_of}
use Rattle.fdc.specs.Record.{drive_at}
use Rattle.reached.specs.Runs.{Call, powers, reads, writes, answer_to, after}
use Rattle.answers.specs.Refusals.{Fault}
use Rattle.demands.specs.Work.{Real}

abbrev pub Undamaged : Controller → Type 0
Undamaged c = Fault c → ⊥

-- 01 Registers DOR: gate 3, not-reset 2
abbrev pub Held : Controller → Type 0
Held c = c.registers.dor / 4 % 2 ≡ 0

abbrev pub Free : Controller → Type 0
Free c = c.registers.dor / 4 % 2 ≡ 1

abbrev pub GateOn : Controller → Type 0
GateOn c = c.registers.dor / 8 % 2 ≡ 1

-- 01 Commands Specify: ND is the last bit of the second byte
abbrev pub Dma : Controller → Type 0
Dma c = c.registers.spec2 % 2 ≡ 0

abbrev pub NonDma : Controller → Type 0
NonDma c = c.registers.spec2 % 2 ≡ 1

-- what a port shows
abbrev pub reads_as : ℕ → Controller → ℕ
reads_as offset c = value_of (answer_to (reads offset) c).reply

-- MSR's upper half, where it is not held in reset
abbrev pub Shows : ℕ → Controller → Type 0
Shows upper c = Undamaged c → Free c → reads_as 4 c / 16 * 16 ≡ upper

-- 01 Registers MSR
pub record MsrByPhase (c : Controller) : Type 0 where
  -- 80 idle or only stepping
  pub idle : c.phase ≡ Idle → Shows 0x80 c
  -- 90 when more command bytes are due
  pub gathering : (entry : Entry) → c.phase ≡ Gathering entry → Shows 0x90 c
  -- D0 results waiting
  pub answering : (loud : Bool) → c.phase ≡ Answering loud → Shows 0xD0 c
  -- 10 in DMA execution, before the tick that starts any execution and through Read ID and Sense Drive
  pub in_dma : (work : Work) → c.phase ≡ Working work → Dma c → Shows 0x10 c
  pub starting : (order : Order) → c.phase ≡ Starting order → Shows 0x10 c
  pub identifying : (site : Site) (slot passes : ℕ) → c.phase ≡ Working (Identifying site slot passes) → Shows 0x10 c
  pub sensing : (unit : ℕ) → c.phase ≡ Sensing unit → Shows 0x10 c
  -- non-DMA execution F0 or 70 (to host, request on or off), B0 or 30 (from host)
  pub to_host_law : (site : Site) (task : Task) (stage : Stage) → c.phase ≡ Working (Moving site task stage)
      → task.transfer.pass ≡ Read → NonDma c → Shows (cond c.fifo.asks 0xF0 0x70) c
  pub from_host_law : (site : Site) (task : Task) (stage : Stage) → c.phase ≡ Working (Moving site task stage)
      → task.transfer.pass ≡ Write → NonDma c → Shows (cond c.fifo.asks 0xB0 0x30) c
  pub formatting : (site : Site) (plan : Plan) (form : Form) → c.phase ≡ Working (Formatting site plan form)
      → NonDma c → Shows (cond c.fifo.asks 0xB0 0x30) c
  -- low four bits add the busy drives
  pub busy : (k : ℕ) → k < 4 → Undamaged c → Free c
      → (reads_as 4 c / 2 ^ k % 2 ≡ 1) ↔ ((drive_at k c.drives).busy ≡ true)
  -- held in reset: 00
  pub held : Undamaged c → Held c → reads_as 4 c ≡ 0x00

-- a request is on: of a command at work that moves bytes, Read ID does not
abbrev pub MovesBytes : Work → Type 0
MovesBytes (Identifying site slot passes) = ⊥
MovesBytes (Moving site task stage) = Unit {0}
MovesBytes (Formatting site plan form) = Unit {0}

pub data Requests (c : Controller) : Type 0 where
  asks_for : (work : Work) → c.phase ≡ Working work → MovesBytes work → c.fifo.asks ≡ true → Requests c

-- 01 Registers INT: a drive report is pending, or the result of a data command, Read ID or Format has no byte taken
-- yet, or a non-DMA request is on
pub data Interrupts (c : Controller) : Type 0 where
  of_report : (k : ℕ) → k < 4 → ((drive_at k c.drives).report ≡ 0 → ⊥) → Interrupts c
  of_result : c.phase ≡ Answering true → Interrupts c
  of_request : NonDma c → Requests c → Interrupts c

-- 01 Registers INT, DRQ: of every answer, by the record that it hands back. DRQ follows a DMA request. Both lines are
-- off while the gate bit is 0
pub record Lines : Type 0 where
  pub int : (call : Call) (c : Controller)
      → ((answer_to call c).int ≡ true) ↔ (GateOn (after call c) × Interrupts (after call c))
  pub drq : (call : Call) (c : Controller)
      → ((answer_to call c).drq ≡ true) ↔ (GateOn (after call c) × (Dma (after call c) × Requests (after call c)))

-- 01 Registers: DOR reads back; TDR: two bits, others 0
pub record RegistersBack : Type 0 where
  pub dor : (c : Controller) (byte : ℕ) → Real c → reads_as 2 (after (writes 2 byte) c) ≡ byte
  pub tdr : (c : Controller) (byte : ℕ) → Real c → reads_as 3 (after (writes 3 byte) c) ≡ byte % 4

-- 01 Registers DIR: bit 7 is the change flag of the drive in DOR if its motor bit is on (drives 2 and 3: always on),
-- other bits 0 (house)
abbrev pub drive_selected : Controller → ℕ
drive_selected c = c.registers.dor % 4

abbrev pub MotorOn : Controller → Type 0
MotorOn c = c.registers.dor / 2 ^ (4 + drive_selected c) % 2 ≡ 1

pub record Dir (c : Controller) : Type 0 where
  pub changed : Undamaged c → MotorOn c → (2 ≤ drive_selected c) ⊎ ((drive_at (drive_selected c) c.drives).changed ≡ true)
      → reads_as 7 c ≡ 0x80
  pub unchanged : Undamaged c → drive_selected c < 2 → (drive_at (drive_selected c) c.drives).changed ≡ false → reads_as 7 c ≡ 0x00
  pub motor_off : Undamaged c → (MotorOn c → ⊥) → reads_as 7 c ≡ 0x00

-- 01 Registers power-on, with heads that are not refused
pub record PowerOn (head0 head1 : ℕ) (e : Controller) : Type 0 where
  pub dor : e.registers.dor ≡ 0x00
  pub tdr : e.registers.tdr ≡ 0x00
  pub spec1 : e.registers.spec1 ≡ 0x00
  pub spec2 : e.registers.spec2 ≡ 0x00
  pub efifo : e.registers.efifo ≡ true
  pub fifothr : e.registers.fifothr ≡ 0
  pub pretrk : e.registers.pretrk ≡ 0
  pub eis : e.registers.eis ≡ false
  pub poll : e.registers.poll ≡ false
  pub rate : e.registers.rate ≡ 2
  pub pcn : (k : ℕ) → k < 4 → (drive_at k e.drives).pcn ≡ 0
  pub changed : (k : ℕ) → k < 4 → (drive_at k e.drives).changed ≡ true
  pub head_0 : (drive_at 0 e.drives).head ≡ head0
  pub head_1 : (drive_at 1 e.drives).head ≡ head1

abbrev pub PowerOnValues : Type 0
PowerOnValues =
    (c : Controller) (head0 head1 : ℕ) → head0 ≤ 81 → head1 ≤ 81 → PowerOn head0 head1 (after (powers head0 head1) c)
