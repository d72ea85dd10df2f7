-- The calls but for the tick: document 01, What the box models, Refusals by number, Registers. The tick is Ticks.
-- Assumes nothing.
use Rattle.std.specs.Prelude.{ℕ, ◌%◌, Bool, not, ◌&&◌, cond, eqb, leb, Option, None, Some}
use Rattle.drive.specs.Drive.{noted_of}
use Rattle.fdc.specs.declared.record.Controller.{Controller}
use Rattle.fdc.specs.declared.answer.Answer.{Answer}
use Rattle.fdc.specs.declared.answer.Reply.TheVariants.{Done, Byte}
use Rattle.fdc.specs.declared.ports.Port.{Port}
use Rattle.fdc.specs.declared.ports.Port.TheVariants.{Dor, Tdr, Status, Data, Input}
use Rattle.fdc.specs.Answer.{refused, answer_of}
use Rattle.fdc.specs.Data.{read_fifo, write_fifo, dma_read_of, dma_write_of}
use Rattle.fdc.specs.Record.{fresh_of, valid_of, drive_at, with_drive}
use Rattle.fdc.specs.Registers.{msr_of, dir_of}
use Rattle.fdc.specs.Reset.{wrote_dor, wrote_dsr, with_tdr, with_rate}

-- 01 Registers: offset 2 DOR, 3 TDR, 4 MSR and DSR, 5 FIFO, 7 DIR and CCR. 01 Refusals 1: any other
unfoldable pub port_of : ℕ → Option Port
port_of n =
    cond (eqb n 2) (Some Dor)
    (cond (eqb n 3) (Some Tdr) (cond (eqb n 4) (Some Status) (cond (eqb n 5) (Some Data) (cond (eqb n 7) (Some Input) None))))

-- 01 Registers: what a read of each shows
unfoldable pub read_reg : Option Port → Controller → Answer
read_reg None c = answer_of (refused 1) c
read_reg (Some Dor) c = answer_of (Byte c.registers.dor) c
read_reg (Some Tdr) c = answer_of (Byte (c.registers.tdr % 4)) c
read_reg (Some Status) c = answer_of (Byte (msr_of c)) c
read_reg (Some Data) c = read_fifo c
read_reg (Some Input) c = answer_of (Byte (dir_of c)) c

-- 01 Registers: what a write to each does
unfoldable pub write_reg : Option Port → ℕ → Controller → Answer
write_reg None byte c = answer_of (refused 1) c
write_reg (Some Dor) byte c = answer_of Done (wrote_dor byte c)
write_reg (Some Tdr) byte c = answer_of Done (with_tdr byte c)
write_reg (Some Status) byte c = answer_of Done (wrote_dsr byte c)
write_reg (Some Data) byte c = write_fifo byte c
write_reg (Some Input) byte c = answer_of Done (with_rate byte c)

-- 01 Refusals 5: a head position above 81; then a fresh record with heads at 0
unfoldable pub power_on : ℕ → ℕ → Answer
power_on head0 head1 =
    cond (leb head0 81 && leb head1 81) (answer_of Done (fresh_of head0 head1))
    (answer_of (refused 5) (fresh_of 0 0))

-- 01 Refusals: order: 4, then the others; the record as handed in
unfoldable pub read_port : ℕ → Controller → Answer
read_port offset c = cond (valid_of c) (read_reg (port_of offset) c) (answer_of (refused 4) c)

unfoldable pub write_port : ℕ → ℕ → Controller → Answer
write_port offset byte c = cond (valid_of c) (write_reg (port_of offset) byte c) (answer_of (refused 4) c)

unfoldable pub dma_read : Bool → Controller → Answer
dma_read tc c = cond (valid_of c) (dma_read_of tc c) (answer_of (refused 4) c)

unfoldable pub dma_write : ℕ → Bool → Controller → Answer
dma_write byte tc c = cond (valid_of c) (dma_write_of byte tc c) (answer_of (refused 4) c)

-- 01 Calls: the note sets the change flag of drive 0 or 1 and does nothing else. 01 Refusals 6: a drive above 1
unfoldable pub note_change : ℕ → Controller → Answer
note_change drive c =
    cond (not (valid_of c)) (answer_of (refused 4) c)
    (cond (leb 2 drive) (answer_of (refused 6) c)
    (answer_of Done (with_drive (drive % 4) (noted_of (drive_at (drive % 4) c.drives)) c)))
