-- The commands: document 01, Commands; and the acceptance of Seek and Recalibrate, Stepping. What ticks do is Ticks.
-- Assumes nothing.
use Rattle.std.specs.Prelude.{ℕ, ◌+◌, ◌/◌, ◌%◌, Bool, true, false, not, ◌&&◌, cond, List, [], ◌∷◌, eqb, ltb, get_or, set, replicate, Option, None, Some}
use Rattle.chip.specs.declared.codes.Entry.{Entry}
use Rattle.chip.specs.declared.codes.Kind.{Kind}
use Rattle.chip.specs.declared.codes.Kind.TheVariants.{
  Unknown,
  ReadData,
  ReadDeleted,
  WriteData,
  WriteDeleted,
  ReadId,
  Format,
  Recalibrate,
  SenseInterrupt,
  Specify,
  SenseDrive,
  Seek,
  Version,
  Configure,
}
use Rattle.chip.specs.Commands.{entry_of, mt_of, sk_of}
use Rattle.chip.specs.Fifo.{emptied}
use Rattle.chip.specs.Stepping.{step_ticks}
use Rattle.drive.specs.declared.Drive.{Drive}
use Rattle.drive.specs.Drive.{seek_of, recalibrate_of}
use Rattle.drive.specs.Drive.{sensed_drive}
use Rattle.sectors.specs.declared.order.Order.{Order}
use Rattle.sectors.specs.declared.order.Pass.{Pass}
use Rattle.sectors.specs.declared.order.Pass.TheVariants.{Read, Write}
use Rattle.sectors.specs.declared.order.Job.{Job}
use Rattle.sectors.specs.declared.order.Job.TheVariants.{Identify, Move}
use Rattle.sectors.specs.declared.order.Job.TheVariants as job
use Rattle.fdc.specs.declared.record.Registers.{Registers}
use Rattle.fdc.specs.declared.record.Phase.TheVariants.{Idle, Gathering, Starting, Sensing, Answering}
use Rattle.fdc.specs.declared.record.Controller.{Controller}
use Rattle.fdc.specs.Record.{padded, no_bytes, drive_at, with_registers, with_fifo, with_bytes, with_phase, with_drive}
use Rattle.fdc.specs.Registers.{any_busy, report_at}

-- results wait; the command bytes have done their work
unfoldable pub answered_of : Bool → List ℕ → ℕ → Controller → Controller
answered_of loud results left c =
    record {
      registers = c.registers;
      drives = c.drives;
      fifo = c.fifo;
      bytes = record { command = replicate 9 0; gathered = 0; results = results; left = left };
      phase = Answering loud;
    }

unfoldable pub said_of : ℕ → Controller → Controller
said_of byte c = answered_of false (padded (byte ∷ [])) 1 c

unfoldable pub said_two : ℕ → ℕ → Controller → Controller
said_two first second c = answered_of false (padded (first ∷ second ∷ [])) 2 c

unfoldable pub idled_of : Controller → Controller
idled_of c =
    record { registers = c.registers; drives = c.drives; fifo = c.fifo; bytes = no_bytes; phase = Idle }

-- byte k of the command, its code being byte 0
abbrev pub command_byte : ℕ → Controller → ℕ
command_byte k c = get_or c.bytes.command k 0

-- 01 Commands Specify: SRT/HUT, HLT/ND
abbrev pub specified_of : Registers → ℕ → ℕ → Registers
specified_of r first second =
    record {
      dor = r.dor;
      tdr = r.tdr;
      rate = r.rate;
      spec1 = first;
      spec2 = second;
      eis = r.eis;
      efifo = r.efifo;
      poll = r.poll;
      fifothr = r.fifothr;
      pretrk = r.pretrk;
    }

unfoldable pub specify_of : Controller → Controller
specify_of c = idled_of (with_registers (specified_of c.registers (command_byte 1 c) (command_byte 2 c)) c)

-- 01 Commands Configure: 00; EIS 40, EFIFO 20, POLL 10, FIFOTHR; PRETRK. The FIFO is emptied, so that no count is
-- above a new capacity (D-37)
abbrev pub configured_of : Registers → ℕ → ℕ → Registers
configured_of r byte track =
    record {
      dor = r.dor;
      tdr = r.tdr;
      rate = r.rate;
      spec1 = r.spec1;
      spec2 = r.spec2;
      eis = eqb (byte / 64 % 2) 1;
      efifo = eqb (byte / 32 % 2) 1;
      poll = eqb (byte / 16 % 2) 1;
      fifothr = byte % 16;
      pretrk = track;
    }

unfoldable pub configure_of : Controller → Controller
configure_of c =
    idled_of (with_fifo emptied (with_registers (configured_of c.registers (command_byte 2 c) (command_byte 3 c)) c))

-- 01 Commands Sense Drive: ST3 at the next tick; side and drive are three bits
unfoldable pub sensing_of : Controller → Controller
sensing_of c = with_phase (Sensing (command_byte 1 c % 8)) (idled_of c)

abbrev pub lowest : Bool → Bool → Bool → Bool → ℕ
lowest a b c d = cond a 0 (cond b 1 (cond c 2 (cond d 3 4)))

-- the lowest drive with a report, or 4
unfoldable pub reporter_of : List Drive → ℕ
reporter_of drives = lowest (report_at 0 drives) (report_at 1 drives) (report_at 2 drives) (report_at 3 drives)

-- that drive as a number, 4 where there is none
abbrev pub number_of_reporter : Option ℕ → ℕ
number_of_reporter None = 4
number_of_reporter (Some k) = k

-- 01 Commands Sense Interrupt: ST0, PCN: the report of the lowest drive, whose busy bit is cleared; with none 80 alone
unfoldable pub sensed_of : Controller → Controller
sensed_of c =
    let k = reporter_of c.drives in
    let d = drive_at (k % 4) c.drives in
    cond (eqb k 4) (said_of 0x80 c) (said_two d.report d.pcn (with_drive (k % 4) (sensed_drive d) c))

-- 01 Stepping: T by SRT
abbrev pub step_time : Controller → ℕ
step_time c = step_ticks (c.registers.spec1 / 16)

-- 01 Commands Seek, Recalibrate: 80 for a busy drive (house)
unfoldable pub sought_of : Controller → Controller
sought_of c =
    let k = command_byte 1 c % 4 in
    let d = drive_at k c.drives in
    cond d.busy (said_of 0x80 c) (idled_of (with_drive k (seek_of (command_byte 2 c) (step_time c) d) c))

unfoldable pub recalibrated_of : Controller → Controller
recalibrated_of c =
    let k = command_byte 1 c % 4 in
    let d = drive_at k c.drives in
    cond d.busy (said_of 0x80 c) (idled_of (with_drive k (recalibrate_of k (step_time c) d) c))

-- side and drive are bits 2 and 1-0 of the second byte
abbrev pub order_of : ℕ → Job → Order
order_of second job = record { drive = second % 4; side = second / 4 % 2; job = job }

-- 01 Commands: code, side and drive (bit 2, bits 1-0), C H R N, EOT, GPL, DTL. DTL has its room in the transfer, for a
-- header with N 0 (02 2026-05): there is none, so it is cleared
unfoldable pub move_order : List ℕ → Pass → Bool → Order
move_order command pass deleted =
    record {
      drive = get_or command 1 0 % 4;
      side = get_or command 1 0 / 4 % 2;
      job =
          Move
          (record {
            pass = pass;
            deleted = deleted;
            mt = mt_of (get_or command 0 0);
            sk = sk_of (get_or command 0 0);
            eot = get_or command 6 0;
            dtl = 0;
          })
          (record { c = get_or command 2 0; h = get_or command 3 0; r = get_or command 4 0; n = get_or command 5 0 });
    }

-- 01 Commands Format: code, side/drive, N, SC, GPL, D
unfoldable pub format_order : List ℕ → Order
format_order command =
    record {
      drive = get_or command 1 0 % 4;
      side = get_or command 1 0 / 4 % 2;
      job = job.Format (record { n = get_or command 2 0; sc = get_or command 3 0; fill = get_or command 5 0 });
    }

unfoldable pub identify_order : List ℕ → Order
identify_order command =
    record { drive = get_or command 1 0 % 4; side = get_or command 1 0 / 4 % 2; job = Identify }

-- before the tick that starts its execution
unfoldable pub started_of : Order → Controller → Controller
started_of order c = with_phase (Starting order) (idled_of c)

-- 01 Commands: a complete command; an unknown code answers 80 alone, Version 90
unfoldable pub ran_of : Kind → Controller → Controller
ran_of Unknown c = said_of 0x80 c
ran_of ReadData c = started_of (move_order c.bytes.command Read false) c
ran_of ReadDeleted c = started_of (move_order c.bytes.command Read true) c
ran_of WriteData c = started_of (move_order c.bytes.command Write false) c
ran_of WriteDeleted c = started_of (move_order c.bytes.command Write true) c
ran_of ReadId c = started_of (identify_order c.bytes.command) c
ran_of Format c = started_of (format_order c.bytes.command) c
ran_of Recalibrate c = recalibrated_of c
ran_of SenseInterrupt c = sensed_of c
ran_of Specify c = specify_of c
ran_of SenseDrive c = sensing_of c
ran_of Seek c = sought_of c
ran_of Version c = said_of 0x90 c
ran_of Configure c = configure_of c

abbrev pub heeds_of : Kind → Bool
heeds_of Unknown = false
heeds_of ReadData = false
heeds_of ReadDeleted = false
heeds_of WriteData = false
heeds_of WriteDeleted = false
heeds_of ReadId = false
heeds_of Format = false
heeds_of Recalibrate = true
heeds_of SenseInterrupt = true
heeds_of Specify = false
heeds_of SenseDrive = false
heeds_of Seek = true
heeds_of Version = false
heeds_of Configure = false

-- 01 Commands (house): while any busy bit is on, all but Seek, Recalibrate and Sense Interrupt answer 80 once complete
unfoldable pub run_of : Kind → Controller → Controller
run_of kind c = cond (any_busy c.drives && not (heeds_of kind)) (said_of 0x80 c) (ran_of kind c)

-- at most nine command bytes (01 Refusals 4)
abbrev pub one_more : ℕ → ℕ
one_more n = cond (ltb n 9) (n + 1) 9

-- one command byte more; past the ninth it is put nowhere (D-37)
unfoldable pub gathered_of : ℕ → Controller → Controller
gathered_of byte c =
    with_bytes
    (record {
      command = set c.bytes.command c.bytes.gathered byte;
      gathered = one_more c.bytes.gathered;
      results = c.bytes.results;
      left = c.bytes.left;
    })
    c

-- 01 Commands: as many bytes as the table says
unfoldable pub goes_on : Entry → Controller → Controller
goes_on entry c =
    cond (ltb c.bytes.gathered entry.bytes) (with_phase (Gathering entry) c) (run_of entry.kind c)

-- the first byte is byte 0, whatever was held (D-36)
unfoldable pub begun_of : ℕ → Controller → Controller
begun_of byte c = goes_on (entry_of byte) (gathered_of byte (with_bytes no_bytes c))
