-- The record: document 01, Registers "Power-on values" and Refusals 4. What the registers show of it is Registers.
-- Assumes nothing.
use Rattle.std.specs.Prelude.{ℕ, ◌-◌, Bool, true, false, ◌&&◌, List, [], ◌∷◌, ◌++◌, leb, length, get_or, set, replicate}
use Rattle.chip.specs.declared.fifo.Fifo.{Fifo}
use Rattle.chip.specs.declared.fifo.Setting.{Setting}
use Rattle.chip.specs.Fifo.{emptied, within_of}
use Rattle.drive.specs.declared.Drive.{Drive}
use Rattle.drive.specs.declared.Motion.TheVariants.{Still}
use Rattle.drive.specs.Drive.{fresh_drive}
use Rattle.drive.specs.Drive.{countdown_of}
use Rattle.engine.specs.Step.{wait_of}
use Rattle.fdc.specs.declared.record.Registers.{Registers}
use Rattle.fdc.specs.declared.record.Bytes.{Bytes}
use Rattle.fdc.specs.declared.record.Phase.{Phase}
use Rattle.fdc.specs.declared.record.Phase.TheVariants.{Idle, Gathering, Starting, Working, Sensing, Answering}
use Rattle.fdc.specs.declared.record.Controller.{Controller}

-- 01 Registers power-on: DOR 00, TDR 00, Specify bytes 00, EFIFO 1, FIFOTHR 0, PRETRK 0, EIS 0, POLL 0, rate 2
abbrev pub fresh_registers : Registers
fresh_registers =
    record {
      dor = 0x00;
      tdr = 0x00;
      rate = 2;
      spec1 = 0x00;
      spec2 = 0x00;
      eis = false;
      efifo = true;
      poll = false;
      fifothr = 0;
      pretrk = 0;
    }

-- 01 Commands Configure: EFIFO and FIFOTHR
abbrev pub setting_of : Registers → Setting
setting_of r = record { efifo = r.efifo; fifothr = r.fifothr }

-- 01 Refusals 4: at most seven result bytes
abbrev pub result_room : ℕ
result_room = 7

-- result bytes with zeros behind them, up to their room
abbrev pub padded : List ℕ → List ℕ
padded bytes = bytes ++ replicate (result_room - length bytes) 0

abbrev pub no_bytes : Bytes
no_bytes = record { command = replicate 9 0; gathered = 0; results = padded []; left = 0 }

-- 01 Registers power-on: PCN 0, change flags on, and nothing going on; the heads of drives 0 and 1 stand where they
-- stand
unfoldable pub fresh_of : ℕ → ℕ → Controller
fresh_of head0 head1 =
    record {
      registers = fresh_registers;
      drives = fresh_drive head0 ∷ fresh_drive head1 ∷ fresh_drive 0 ∷ fresh_drive 0 ∷ [];
      fifo = emptied;
      bytes = no_bytes;
      phase = Idle;
    }

-- the record with one of its five parts anew
unfoldable pub with_registers : Registers → Controller → Controller
with_registers registers c =
    record { registers = registers; drives = c.drives; fifo = c.fifo; bytes = c.bytes; phase = c.phase }

unfoldable pub with_drives : List Drive → Controller → Controller
with_drives drives c =
    record { registers = c.registers; drives = drives; fifo = c.fifo; bytes = c.bytes; phase = c.phase }

unfoldable pub with_fifo : Fifo → Controller → Controller
with_fifo fifo c =
    record { registers = c.registers; drives = c.drives; fifo = fifo; bytes = c.bytes; phase = c.phase }

unfoldable pub with_bytes : Bytes → Controller → Controller
with_bytes bytes c =
    record { registers = c.registers; drives = c.drives; fifo = c.fifo; bytes = bytes; phase = c.phase }

unfoldable pub with_phase : Phase → Controller → Controller
with_phase phase c =
    record { registers = c.registers; drives = c.drives; fifo = c.fifo; bytes = c.bytes; phase = phase }

-- what an array of drives has past its end
abbrev pub no_drive : Drive
no_drive = record { head = 0; pcn = 0; changed = false; busy = false; report = 0; motion = Still }

abbrev pub drive_at : ℕ → List Drive → Drive
drive_at k drives = get_or drives k no_drive

unfoldable pub with_drive : ℕ → Drive → Controller → Controller
with_drive k d c = with_drives (set c.drives k d) c

abbrev pub phase_wait : Phase → ℕ
phase_wait Idle = 0
phase_wait (Gathering entry) = 0
phase_wait (Starting order) = 0
phase_wait (Working work) = wait_of work
phase_wait (Sensing unit) = 0
phase_wait (Answering loud) = 0

abbrev head_within : ℕ → Controller → Bool
head_within k c = leb (drive_at k c.drives).head 81

abbrev countdown_within : ℕ → Controller → Bool
countdown_within k c = leb (countdown_of (drive_at k c.drives).motion) 1000

-- the same of all four
abbrev head_in : ℕ → List Drive → Bool
head_in k drives = leb (drive_at k drives).head 81

abbrev pub heads_within : List Drive → Bool
heads_within drives = head_in 0 drives && head_in 1 drives && head_in 2 drives && head_in 3 drives

abbrev countdown_in : ℕ → List Drive → Bool
countdown_in k drives = leb (countdown_of (drive_at k drives).motion) 1000

abbrev pub countdowns_within : List Drive → Bool
countdowns_within drives =
    countdown_in 0 drives && countdown_in 1 drives && countdown_in 2 drives && countdown_in 3 drives

-- 01 Refusals 4: no FIFO count above its capacity, not over 9 command or 7 result bytes, no head above 81, FIFOTHR
-- not above 15, no wait above 64, no step countdown above 1000
unfoldable pub valid_of : Controller → Bool
valid_of c =
    within_of c.registers.efifo c.fifo
    && leb c.bytes.gathered 9
    && leb c.bytes.left result_room
    && head_within 0 c
    && head_within 1 c
    && head_within 2 c
    && head_within 3 c
    && leb c.registers.fifothr 15
    && leb (phase_wait c.phase) 64
    && countdown_within 0 c
    && countdown_within 1 c
    && countdown_within 2 c
    && countdown_within 3 c
