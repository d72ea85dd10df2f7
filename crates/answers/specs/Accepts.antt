-- Demand 2, from bytes to orders: document 01, Commands: the bytes of each command, written to port 5 one after the
-- other, give its order field by field; the busy rule, for every code; Specify and Configure. Of every record without a
-- fault of refusal 4 that waits for a command and is not held in reset.
-- Assumes nothing.
use Rattle.std.specs.Prelude.{ℕ, suc, ◌+◌, ◌/◌, ◌%◌, ◌<◌, Bool, true, false, cond, List, [], ◌∷◌, ◌↔◌, ◌≡◌, length}
use Rattle.chip.specs.Commands.{kind_of, byte_count}
use Rattle.chip.specs.Fifo.{emptied}
use Rattle.drive.specs.declared.Motion.{Motion}
use Rattle.drive.specs.declared.Motion.TheVariants.{Seeking, Recalibrating}
use Rattle.drive.specs.Drive.{distance, first_wait, recalibrate_steps}
use Rattle.sectors.specs.declared.order.Order.{Order}
use Rattle.sectors.specs.declared.order.Pass.TheVariants.{Read, Write}
use Rattle.sectors.specs.declared.order.Job.TheVariants.{Identify, Move, Format}
use Rattle.fdc.specs.declared.record.Controller.{Controller}
use Rattle.fdc.specs.declared.record.Phase.TheVariants.{Idle, Starting, Sensing}
use Rattle.fdc.specs.Commands.{step_time}
use Rattle.fdc.specs.Record.{no_bytes, drive_at}
use Rattle.reached.specs.Runs.{Call, writes, run_calls}
use Rattle.answers.specs.CommandResults.{Said, Waits, NoneBusy}
use Rattle.answers.specs.ReadsOut.{SameElse}
use Rattle.answers.specs.Registers.{Undamaged, Free}

-- it waits for a command; there is room for nine bytes, and there are four drives, as the arrays' types have it
pub record Ready (c : Controller) : Type 0 where
  pub undamaged : Undamaged c
  pub free : Free c
  pub idle : c.phase ≡ Idle
  pub room : length c.bytes.command ≡ 9
  pub four : length c.drives ≡ 4

-- every reached record that waits for a command is such a one, with nothing in the FIFO
abbrev pub WaitsReady : Type 0
WaitsReady = (c : Controller) → Waits c → Ready c × (c.fifo ≡ emptied)

abbrev pub sends : List ℕ → List Call
sends [] = []
sends (byte ∷ bytes) = writes 5 byte ∷ sends bytes

-- after the bytes, each written to port 5
abbrev pub after_bytes : List ℕ → Controller → Controller
after_bytes bytes c = run_calls (sends bytes) c

-- the order waits for the tick that starts it, and nothing else is changed
pub record BegunOrder (c e : Controller) (order : Order) : Type 0 where
  pub starts : e.phase ≡ Starting order
  pub bytes : e.bytes ≡ no_bytes
  pub else : SameElse c e

-- 01 Commands: Read Data 46, Read Deleted 4C; 80 MT, 20 SK
abbrev pub read_code : Bool → Bool → Bool → ℕ
read_code deleted mt sk = cond deleted 0x4C 0x46 + cond mt 0x80 0 + cond sk 0x20 0

-- 01 Commands: Write Data 45, Write Deleted 49; 80 MT
abbrev pub write_code : Bool → Bool → ℕ
write_code deleted mt = cond deleted 0x49 0x45 + cond mt 0x80 0

-- drive k has its order: it is busy, without a report, and nothing else is changed
pub record Moves (c e : Controller) (k : ℕ) (motion : Motion) : Type 0 where
  pub idle : e.phase ≡ Idle
  pub bytes : e.bytes ≡ no_bytes
  pub drive : drive_at k e.drives ≡ record {
    head = (drive_at k c.drives).head;
    pcn = (drive_at k c.drives).pcn;
    changed = (drive_at k c.drives).changed;
    busy = true;
    report = 0;
    motion = motion;
  }
  pub others : (j : ℕ) → (j ≡ k → ⊥) → drive_at j e.drives ≡ drive_at j c.drives
  pub registers : e.registers ≡ c.registers
  pub fifo : e.fifo ≡ c.fifo

pub record Accepts (c : Controller) : Type 0 where
  -- nine bytes: code, side and drive (bit 2, bits 1-0), C H R N, EOT, GPL, DTL
  pub read : (deleted mt sk : Bool) (unit cc hh rr nn eot gpl dtl : ℕ) → Ready c → NoneBusy c
      → BegunOrder c (after_bytes
      (read_code deleted mt sk ∷ unit ∷ cc ∷ hh ∷ rr ∷ nn ∷ eot ∷ gpl ∷ dtl ∷ []) c)
      (record {
        drive = unit % 4;
        side = unit / 4 % 2;
        job =
            Move (record { pass = Read; deleted = deleted; mt = mt; sk = sk; eot = eot; dtl = 0 })
            (record { c = cc; h = hh; r = rr; n = nn });
      })
  -- likewise, without SK
  pub write : (deleted mt : Bool) (unit cc hh rr nn eot gpl dtl : ℕ) → Ready c → NoneBusy c
      → BegunOrder c (after_bytes
      (write_code deleted mt ∷ unit ∷ cc ∷ hh ∷ rr ∷ nn ∷ eot ∷ gpl ∷ dtl ∷ []) c)
      (record {
        drive = unit % 4;
        side = unit / 4 % 2;
        job =
            Move (record { pass = Write; deleted = deleted; mt = mt; sk = false; eot = eot; dtl = 0 })
            (record { c = cc; h = hh; r = rr; n = nn });
      })
  -- Format 4D: six: code, side/drive, N, SC, GPL, D
  pub format : (unit nn sc gpl d : ℕ) → Ready c → NoneBusy c
      → BegunOrder c (after_bytes (0x4D ∷ unit ∷ nn ∷ sc ∷ gpl ∷ d ∷ []) c)
      (record { drive = unit % 4; side = unit / 4 % 2; job = Format (record { n = nn; sc = sc; fill = d }) })
  -- Read ID 4A: two
  pub read_id : (unit : ℕ) → Ready c → NoneBusy c
      → BegunOrder c (after_bytes (0x4A ∷ unit ∷ []) c)
      (record { drive = unit % 4; side = unit / 4 % 2; job = Identify })
  -- Sense Drive 04: two; side and drive are kept for the next tick
  pub sense_drive : (unit : ℕ) → Ready c → NoneBusy c
      → ((after_bytes (0x04 ∷ unit ∷ []) c).phase ≡ Sensing (unit % 8)) × SameElse c (after_bytes (0x04 ∷ unit ∷ []) c)
  -- Seek 0F: three; of a drive that is not busy, whichever other drive is: |NCN - PCN| steps, the first after T ticks
  pub seek : (unit ncn : ℕ) → Ready c → (drive_at (unit % 4) c.drives).busy ≡ false
      → Moves c (after_bytes (0x0F ∷ unit ∷ ncn ∷ []) c) (unit % 4)
      (Seeking ncn (distance (drive_at (unit % 4) c.drives).pcn ncn)
      (first_wait (distance (drive_at (unit % 4) c.drives).pcn ncn) (step_time c)))
  -- Recalibrate 07: two; out until the head is at 0, at most 79 steps
  pub recalibrate : (unit : ℕ) → Ready c → (drive_at (unit % 4) c.drives).busy ≡ false
      → Moves c (after_bytes (0x07 ∷ unit ∷ []) c) (unit % 4)
      (Recalibrating (recalibrate_steps (unit % 4) (drive_at (unit % 4) c.drives).head)
      (first_wait (recalibrate_steps (unit % 4) (drive_at (unit % 4) c.drives).head) (step_time c)))

-- it answers 80 alone, and nothing else is changed
pub record Refuses (c e : Controller) : Type 0 where
  pub says : Said e 0x80 0 1
  pub none : e.bytes.gathered ≡ 0
  pub else : SameElse c e

-- 01 Commands (house)
pub record BusyRule (c : Controller) : Type 0 where
  -- while any busy bit is on, all but Seek 0F, Recalibrate 07 and Sense Interrupt 08 answer 80 once complete: any code
  -- and as many bytes as it has, whatever they are
  pub all_but : (code : ℕ) (rest : List ℕ) (k : ℕ) → Ready c → k < 4 → (drive_at k c.drives).busy ≡ true
      → (code ≡ 0x0F → ⊥) → (code ≡ 0x07 → ⊥) → (code ≡ 0x08 → ⊥) → suc (length rest) ≡ byte_count (kind_of code)
      → Refuses c (after_bytes (code ∷ rest) c)
  -- as does a Seek or Recalibrate for a busy drive
  pub seek : (unit ncn : ℕ) → Ready c → (drive_at (unit % 4) c.drives).busy ≡ true
      → Refuses c (after_bytes (0x0F ∷ unit ∷ ncn ∷ []) c)
  pub recalibrate : (unit : ℕ) → Ready c → (drive_at (unit % 4) c.drives).busy ≡ true
      → Refuses c (after_bytes (0x07 ∷ unit ∷ []) c)

-- the command is over, and neither a drive nor the FIFO is changed
pub record OverAtOnce (c e : Controller) : Type 0 where
  pub idle : e.phase ≡ Idle
  pub bytes : e.bytes ≡ no_bytes
  pub drives : e.drives ≡ c.drives
  pub fifo : e.fifo ≡ c.fifo
  pub dor : e.registers.dor ≡ c.registers.dor
  pub tdr : e.registers.tdr ≡ c.registers.tdr
  pub rate : e.registers.rate ≡ c.registers.rate

-- 01 Commands Specify: SRT/HUT, HLT/ND
pub record Specified (c e : Controller) (first second : ℕ) : Type 0 where
  pub over : OverAtOnce c e
  pub spec1 : e.registers.spec1 ≡ first
  pub spec2 : e.registers.spec2 ≡ second
  pub eis : e.registers.eis ≡ c.registers.eis
  pub efifo : e.registers.efifo ≡ c.registers.efifo
  pub poll : e.registers.poll ≡ c.registers.poll
  pub fifothr : e.registers.fifothr ≡ c.registers.fifothr
  pub pretrk : e.registers.pretrk ≡ c.registers.pretrk

-- 01 Commands Configure: EIS 40, EFIFO 20, POLL 10, FIFOTHR; PRETRK
pub record Configured (c e : Controller) (byte track : ℕ) : Type 0 where
  pub over : OverAtOnce c e
  pub spec1 : e.registers.spec1 ≡ c.registers.spec1
  pub spec2 : e.registers.spec2 ≡ c.registers.spec2
  pub eis : (e.registers.eis ≡ true) ↔ (byte / 0x40 % 2 ≡ 1)
  pub efifo : (e.registers.efifo ≡ true) ↔ (byte / 0x20 % 2 ≡ 1)
  pub poll : (e.registers.poll ≡ true) ↔ (byte / 0x10 % 2 ≡ 1)
  pub fifothr : e.registers.fifothr ≡ byte % 16
  pub pretrk : e.registers.pretrk ≡ track

pub record Settings (c : Controller) : Type 0 where
  -- Specify 03: three
  pub specify : (first second : ℕ) → Ready c → NoneBusy c
      → Specified c (after_bytes (0x03 ∷ first ∷ second ∷ []) c) first second
  -- Configure 13: four; its first byte after the code is dropped. It empties the FIFO (D-37)
  pub configure : (zero byte track : ℕ) → Ready c → NoneBusy c → c.fifo ≡ emptied
      → Configured c (after_bytes (0x13 ∷ zero ∷ byte ∷ track ∷ []) c) byte track
