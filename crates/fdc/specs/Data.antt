-- The data register at offset 5, and the DMA cycles: document 01, Refusals 2 and 3, FIFO and request.
-- Assumes nothing.
use Rattle.std.specs.Prelude.{ℕ, ◌-◌, ◌/◌, Bool, false, ◌&&◌, cond, List, eqb, leb, get_or, drop}
use Rattle.chip.specs.Fifo.{handed_of, taken_of, given_of}
use Rattle.engine.specs.declared.flow.Flow.{Flow}
use Rattle.engine.specs.declared.flow.Flow.TheVariants.{Quiet, ToHost, FromHost}
use Rattle.engine.specs.Step.{to_host, from_host, hears_tc}
use Rattle.fdc.specs.declared.record.Phase.{Phase}
use Rattle.fdc.specs.declared.record.Phase.TheVariants.{Idle, Gathering, Starting, Working, Sensing, Answering}
use Rattle.fdc.specs.declared.record.Controller.{Controller}
use Rattle.fdc.specs.declared.answer.Answer.{Answer}
use Rattle.fdc.specs.declared.answer.Reply.TheVariants.{Done, Byte}
use Rattle.fdc.specs.Answer.{refused, answer_of}
use Rattle.fdc.specs.Commands.{answered_of, idled_of, gathered_of, goes_on, begun_of}
use Rattle.fdc.specs.Record.{padded, with_fifo}
use Rattle.fdc.specs.Registers.{msr_of, phase_flow, drq_of}

abbrev pub shifted : List ℕ → List ℕ
shifted bytes = padded (drop 1 bytes)

-- a result byte is taken: the next is first, and after the last it is idle. INT goes off with the first one
unfoldable pub result_taken : Controller → Controller
result_taken c =
    cond (leb c.bytes.left 1) (idled_of c) (answered_of false (shifted c.bytes.results) (c.bytes.left - 1) c)

-- what the host reads, by phase: a result, or a byte of a non-DMA transfer
unfoldable pub read_in : Phase → Controller → Answer
read_in Idle c = answer_of (refused 2) c
read_in (Gathering entry) c = answer_of (refused 2) c
read_in (Starting order) c = answer_of (refused 2) c
read_in (Working work) c = answer_of (Byte (handed_of c.fifo)) (with_fifo (taken_of false c.fifo) c)
read_in (Sensing unit) c = answer_of (refused 2) c
read_in (Answering loud) c = answer_of (Byte (get_or c.bytes.results 0 0)) (result_taken c)

-- 01 Refusals 2: RQM is 0 or DIO has the other direction. They are MSR's two upper bits
unfoldable pub read_fifo : Controller → Answer
read_fifo c = cond (eqb (msr_of c / 64) 3) (read_in c.phase c) (answer_of (refused 2) c)

-- what a written byte does, by phase: a command byte, or a byte of a non-DMA transfer, which has no TC
unfoldable pub offered_of : Phase → ℕ → Controller → Controller
offered_of Idle byte c = begun_of byte c
offered_of (Gathering entry) byte c = goes_on entry (gathered_of byte c)
offered_of (Starting order) byte c = c
offered_of (Working work) byte c = with_fifo (given_of c.registers.efifo false byte c.fifo) c
offered_of (Sensing unit) byte c = c
offered_of (Answering loud) byte c = c

unfoldable pub write_fifo : ℕ → Controller → Answer
write_fifo byte c =
    cond (eqb (msr_of c / 64) 2) (answer_of Done (offered_of c.phase byte c)) (answer_of (refused 2) c)

abbrev pub phase_to_host : Phase → Bool
phase_to_host phase = to_host (phase_flow phase)

abbrev pub phase_from_host : Phase → Bool
phase_from_host phase = from_host (phase_flow phase)

abbrev pub phase_hears : Phase → Bool
phase_hears Idle = false
phase_hears (Gathering entry) = false
phase_hears (Starting order) = false
phase_hears (Working work) = hears_tc work
phase_hears (Sensing unit) = false
phase_hears (Answering loud) = false

-- a byte moved the way the flow goes: to the host the oldest one, from it the one on the bus. 01 Format: TC is ignored
unfoldable pub moved_of : Flow → ℕ → Bool → Controller → Answer
moved_of Quiet byte tc c = answer_of (refused 3) c
moved_of ToHost byte tc c = answer_of (Byte (handed_of c.fifo)) (with_fifo (taken_of tc c.fifo) c)
moved_of FromHost byte tc c =
    answer_of Done (with_fifo (given_of c.registers.efifo (tc && phase_hears c.phase) byte c.fifo) c)

-- one DMA cycle, with the byte on the bus and TC; the phase says the direction. 01 Refusals 3: the DRQ line is off
unfoldable pub cycle_of : ℕ → Bool → Controller → Answer
cycle_of byte tc c = cond (drq_of c) (moved_of (phase_flow c.phase) byte tc c) (answer_of (refused 3) c)

-- 01 Refusals 3: or of the other direction
unfoldable pub dma_read_of : Bool → Controller → Answer
dma_read_of tc c = cond (to_host (phase_flow c.phase)) (cycle_of 0 tc c) (answer_of (refused 3) c)

unfoldable pub dma_write_of : ℕ → Bool → Controller → Answer
dma_write_of byte tc c = cond (from_host (phase_flow c.phase)) (cycle_of byte tc c) (answer_of (refused 3) c)
