-- Writes to DOR, TDR, DSR and CCR, and the software reset: document 01, Registers.
-- Assumes nothing.
use Rattle.std.specs.Prelude.{ℕ, ◌/◌, ◌%◌, Bool, not, ◌&&◌, cond, List, [], ◌∷◌, eqb}
use Rattle.chip.specs.Fifo.{emptied}
use Rattle.drive.specs.declared.Drive.{Drive}
use Rattle.drive.specs.Drive.{reported_of}
use Rattle.drive.specs.Drive.{reset_drive}
use Rattle.fdc.specs.declared.record.Registers.{Registers}
use Rattle.fdc.specs.declared.record.Phase.TheVariants.{Idle}
use Rattle.fdc.specs.declared.record.Controller.{Controller}
use Rattle.fdc.specs.Record.{fresh_registers, no_bytes, drive_at, with_registers, with_drives}
use Rattle.fdc.specs.Registers.{held_in}

-- 01 Registers reset: EFIFO, FIFOTHR, PRETRK take power-on values; all else stays, EIS and POLL too
abbrev pub reset_fifo_part : Registers → Registers
reset_fifo_part r =
    record {
      dor = r.dor;
      tdr = r.tdr;
      rate = r.rate;
      spec1 = r.spec1;
      spec2 = r.spec2;
      eis = r.eis;
      efifo = fresh_registers.efifo;
      poll = r.poll;
      fifothr = fresh_registers.fifothr;
      pretrk = fresh_registers.pretrk;
    }

unfoldable pub reset_all : List Drive → List Drive
reset_all drives =
    reset_drive (drive_at 0 drives)
    ∷ reset_drive (drive_at 1 drives)
    ∷ reset_drive (drive_at 2 drives)
    ∷ reset_drive (drive_at 3 drives)
    ∷ []

-- 01 Registers reset: command, steps still due, FIFO, results, reports and busy bits go, PCN becomes 0
unfoldable pub reset_of : Controller → Controller
reset_of c =
    record {
      registers = reset_fifo_part c.registers;
      drives = reset_all c.drives;
      fifo = emptied;
      bytes = no_bytes;
      phase = Idle;
    }

-- 01 Registers reset: a report C0 to C3 for each of drives 0 to 3
unfoldable pub report_all : List Drive → List Drive
report_all drives =
    reported_of 0xC0 (drive_at 0 drives)
    ∷ reported_of 0xC1 (drive_at 1 drives)
    ∷ reported_of 0xC2 (drive_at 2 drives)
    ∷ reported_of 0xC3 (drive_at 3 drives)
    ∷ []

-- 01 Registers reset: when it is released, POLL 0 gives these reports
unfoldable pub released_by : Bool → Controller → Controller
released_by poll c = cond poll c (with_drives (report_all c.drives) c)

unfoldable pub released_of : Controller → Controller
released_of c = released_by c.registers.poll c

abbrev three_of : ℕ → ℕ → ℕ → Registers → Registers
three_of dor tdr rate r =
    record {
      dor = dor;
      tdr = tdr;
      rate = rate;
      spec1 = r.spec1;
      spec2 = r.spec2;
      eis = r.eis;
      efifo = r.efifo;
      poll = r.poll;
      fifothr = r.fifothr;
      pretrk = r.pretrk;
    }

unfoldable pub with_dor : ℕ → Controller → Controller
with_dor byte c = with_registers (three_of byte c.registers.tdr c.registers.rate c.registers) c

-- 01 Registers TDR: two bits
unfoldable pub with_tdr : ℕ → Controller → Controller
with_tdr byte c = with_registers (three_of c.registers.dor (byte % 4) c.registers.rate c.registers) c

-- 01 Registers: the rate, bits 1-0 of DSR and CCR
unfoldable pub with_rate : ℕ → Controller → Controller
with_rate byte c = with_registers (three_of c.registers.dor c.registers.tdr (byte % 4) c.registers) c

-- 01 Registers reset: DOR bit 2 low; released when it goes high
unfoldable pub wrote_dor : ℕ → Controller → Controller
wrote_dor byte c =
    cond (held_in byte) (with_dor byte (reset_of c))
    (cond (held_in c.registers.dor) (with_dor byte (released_of c)) (with_dor byte c))

-- 01 Registers reset: DSR bit 7, released at once; a DSR reset while DOR holds reset adds nothing
unfoldable pub wrote_dsr : ℕ → Controller → Controller
wrote_dsr byte c =
    cond (eqb (byte / 128) 1 && not (held_in c.registers.dor)) (with_rate byte (released_of (reset_of c)))
    (with_rate byte c)
