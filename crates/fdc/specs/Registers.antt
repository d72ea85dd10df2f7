-- What the registers and lines show of the record: document 01, Registers.
-- Assumes nothing.
use Rattle.std.specs.Prelude.{ℕ, ◌+◌, ◌*◌, ◌/◌, ◌%◌, ◌^◌, Bool, false, not, ◌&&◌, ◌||◌, cond, List, eqb, leb}
use Rattle.drive.specs.declared.Drive.{Drive}
use Rattle.engine.specs.declared.flow.Flow.{Flow}
use Rattle.engine.specs.declared.flow.Flow.TheVariants.{Quiet, ToHost, FromHost}
use Rattle.engine.specs.Step.{flow_of}
use Rattle.fdc.specs.declared.record.Phase.{Phase}
use Rattle.fdc.specs.declared.record.Phase.TheVariants.{Idle, Gathering, Starting, Working, Sensing, Answering}
use Rattle.fdc.specs.declared.record.Controller.{Controller}
use Rattle.fdc.specs.Record.{drive_at}

-- 01 Registers DOR: motors bits 4-7, gate 3, not-reset 2, drive 1-0
abbrev pub held_in : ℕ → Bool
held_in dor = eqb (dor / 4 % 2) 0

abbrev pub gate_in : ℕ → Bool
gate_in dor = eqb (dor / 8 % 2) 1

unfoldable pub motor_in : ℕ → ℕ → Bool
motor_in dor drive = eqb (dor / 2 ^ (4 + drive % 4) % 2) 1

-- 01 Commands Specify: ND 0 is DMA
abbrev pub dma_in : ℕ → Bool
dma_in spec2 = eqb (spec2 % 2) 0

abbrev pub bit : Bool → ℕ
bit on = cond on 1 0

abbrev busy_at : ℕ → List Drive → Bool
busy_at k drives = (drive_at k drives).busy

-- a report is pending
abbrev pub report_at : ℕ → List Drive → Bool
report_at k drives = not (eqb (drive_at k drives).report 0)

-- 01 Registers MSR: the low four bits are the busy drives
unfoldable pub busy_bits : List Drive → ℕ
busy_bits drives =
    bit (busy_at 0 drives) + 2 * bit (busy_at 1 drives) + 4 * bit (busy_at 2 drives) + 8 * bit (busy_at 3 drives)

unfoldable pub any_busy : List Drive → Bool
any_busy drives = busy_at 0 drives || busy_at 1 drives || busy_at 2 drives || busy_at 3 drives

unfoldable pub pending_in : List Drive → Bool
pending_in drives = report_at 0 drives || report_at 1 drives || report_at 2 drives || report_at 3 drives

-- 01 Registers MSR: 10 in DMA execution and through Read ID; non-DMA F0 or 70 to the host (request on or off), B0
-- or 30 from it
abbrev pub flow_status : Flow → Bool → Bool → ℕ
flow_status Quiet dma asks = 0x10
flow_status ToHost dma asks = cond dma 0x10 (cond asks 0xF0 0x70)
flow_status FromHost dma asks = cond dma 0x10 (cond asks 0xB0 0x30)

-- 01 Registers MSR: 80 idle or only stepping; 90 when more command bytes are due; 10 before the tick that starts
-- any execution and through Sense Drive; D0 results waiting
abbrev pub phase_status : Phase → Bool → Bool → ℕ
phase_status Idle dma asks = 0x80
phase_status (Gathering entry) dma asks = 0x90
phase_status (Starting order) dma asks = 0x10
phase_status (Working work) dma asks = flow_status (flow_of work) dma asks
phase_status (Sensing unit) dma asks = 0x10
phase_status (Answering loud) dma asks = 0xD0

-- 01 Registers MSR: held in reset: 00
unfoldable pub msr_of : Controller → ℕ
msr_of c =
    cond (held_in c.registers.dor) 0
    (phase_status c.phase (dma_in c.registers.spec2) c.fifo.asks + busy_bits c.drives)

-- 01 Registers MSR: which way bytes go in a phase: none before and after the execution
abbrev pub phase_flow : Phase → Flow
phase_flow Idle = Quiet
phase_flow (Gathering entry) = Quiet
phase_flow (Starting order) = Quiet
phase_flow (Working work) = flow_of work
phase_flow (Sensing unit) = Quiet
phase_flow (Answering loud) = Quiet

-- a request of a command at work
abbrev pub flow_asks : Flow → Bool → Bool
flow_asks Quiet asks = false
flow_asks ToHost asks = asks
flow_asks FromHost asks = asks

abbrev pub phase_asks : Phase → Bool → Bool
phase_asks phase asks = flow_asks (phase_flow phase) asks

-- the result of a data command, Read ID or Format has no byte taken yet
abbrev pub loud_in : Phase → Bool
loud_in Idle = false
loud_in (Gathering entry) = false
loud_in (Starting order) = false
loud_in (Working work) = false
loud_in (Sensing unit) = false
loud_in (Answering loud) = loud

-- 01 Registers INT: on while a drive report is pending, or such a result has no byte taken yet, or a non-DMA
-- request is on; off while the gate bit is 0
unfoldable pub int_of : Controller → Bool
int_of c =
    gate_in c.registers.dor
    && (pending_in c.drives
    || loud_in c.phase
    || (not (dma_in c.registers.spec2) && phase_asks c.phase c.fifo.asks))

-- 01 Registers DRQ: follows a DMA request; off while the gate bit is 0
unfoldable pub drq_of : Controller → Bool
drq_of c = gate_in c.registers.dor && dma_in c.registers.spec2 && phase_asks c.phase c.fifo.asks

-- 01 Registers DIR: bit 7 is the change flag of the drive in DOR if its motor bit is on (drives 2 and 3: always
-- on), other bits 0 (house)
unfoldable pub dir_of : Controller → ℕ
dir_of c =
    cond
    (motor_in c.registers.dor c.registers.dor
    && (leb 2 (c.registers.dor % 4) || (drive_at (c.registers.dor % 4) c.drives).changed))
    0x80 0x00
