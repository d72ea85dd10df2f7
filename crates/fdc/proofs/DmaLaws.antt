-- The two DMA calls, each the one cycle where the flow is its own (01 Refusals 3).
-- Assumes nothing.
use Prim.Native.Nat.{ℕ}
use mathlib.Core.Bool.{Bool, true, false, ◌&&◌, cond}
use mathlib.Core.Path.{◌≡◌, refl}
use Rattle.chip.specs.declared.refusal.Refusal.TheVariants.{Line}
use Rattle.chip.specs.Fifo.{handed_of, taken_of, given_of}
use Rattle.engine.specs.declared.flow.Flow.{Flow}
use Rattle.engine.specs.declared.flow.Flow.TheVariants.{Quiet, ToHost, FromHost}
use Rattle.engine.specs.Step.{to_host, from_host}
use Rattle.fdc.specs.declared.record.Controller.{Controller}
use Rattle.fdc.specs.declared.answer.Answer.{Answer}
use Rattle.fdc.specs.declared.answer.Reply.TheVariants.{Done, Byte, Refused}
use Rattle.fdc.specs.Answer.{answer_of}
use Rattle.fdc.specs.Data.{phase_to_host, phase_from_host, phase_hears, moved_of, cycle_of, dma_read_of, dma_write_of}
use Rattle.fdc.specs.Record.{with_fifo}
use Rattle.fdc.specs.Registers.{phase_flow, drq_of}

abbrev pub took_of : Bool → Controller → Answer
took_of tc c = answer_of (Byte (handed_of c.fifo)) (with_fifo (taken_of tc c.fifo) c)

abbrev pub gave_of : ℕ → Bool → Controller → Answer
gave_of byte tc c =
    answer_of Done (with_fifo (given_of c.registers.efifo (tc && phase_hears c.phase) byte c.fifo) c)

to_host_only : (flow : Flow) (on tc : Bool) (c : Controller)
    → cond (to_host flow) (cond on (moved_of flow 0 tc c) (answer_of (Refused Line) c)) (answer_of (Refused Line) c)
    ≡ cond (on && to_host flow) (took_of tc c) (answer_of (Refused Line) c)
unfolding moved_of
to_host_only Quiet true tc c = refl
to_host_only Quiet false tc c = refl
to_host_only ToHost true tc c = refl
to_host_only ToHost false tc c = refl
to_host_only FromHost true tc c = refl
to_host_only FromHost false tc c = refl

from_host_only : (flow : Flow) (on : Bool) (byte : ℕ) (tc : Bool) (c : Controller)
    → cond (from_host flow) (cond on (moved_of flow byte tc c) (answer_of (Refused Line) c)) (answer_of (Refused Line) c)
    ≡ cond (on && from_host flow) (gave_of byte tc c) (answer_of (Refused Line) c)
unfolding moved_of
from_host_only Quiet true byte tc c = refl
from_host_only Quiet false byte tc c = refl
from_host_only ToHost true byte tc c = refl
from_host_only ToHost false byte tc c = refl
from_host_only FromHost true byte tc c = refl
from_host_only FromHost false byte tc c = refl

-- DRQ on and to the host
pub dma_read_is : (tc : Bool) (c : Controller)
    → dma_read_of tc c ≡ cond (drq_of c && phase_to_host c.phase) (took_of tc c) (answer_of (Refused Line) c)
unfolding dma_read_of cycle_of
dma_read_is tc c = to_host_only (phase_flow c.phase) (drq_of c) tc c

-- DRQ on and from the host
pub dma_write_is : (byte : ℕ) (tc : Bool) (c : Controller)
    → dma_write_of byte tc c ≡ cond (drq_of c && phase_from_host c.phase) (gave_of byte tc c) (answer_of (Refused Line) c)
unfolding dma_write_of cycle_of
dma_write_is byte tc c = from_host_only (phase_flow c.phase) (drq_of c) byte tc c
