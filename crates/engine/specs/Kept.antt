-- house: what a tick of a command keeps to, whatever record it is handed: its wait, the FIFO, its direction and
-- drive, and that only a Write or a Format stores. The laws are in proofs/KeptLaws.antt.
-- Assumes nothing.
use Rattle.std.specs.Prelude.{ℕ, ◌≤◌, Bool, true, false, not, ◌≡◌, None, Some}
use Rattle.chip.specs.declared.fifo.Fifo.{Fifo}
use Rattle.chip.specs.Fifo.{emptied, FitsFifo}
use Rattle.image.specs.Lent.{Effect}
use Rattle.engine.specs.declared.flow.Flow.{Flow}
use Rattle.engine.specs.declared.flow.Flow.TheVariants.{Quiet, FromHost}
use Rattle.sectors.specs.declared.order.Job.{Job}
use Rattle.sectors.specs.declared.order.Job.TheVariants.{Identify, Move, Format}
use Rattle.sectors.specs.declared.order.Pass.{Pass}
use Rattle.sectors.specs.declared.work.Stage.{Stage}
use Rattle.sectors.specs.declared.work.Stage.TheVariants.{Searching, Turning, Reading, Draining, Awaiting, Storing}
use Rattle.sectors.specs.declared.work.Step.{Step}
use Rattle.sectors.specs.declared.work.Then.{Then}
use Rattle.sectors.specs.declared.work.Then.TheVariants.{Ends, Works}
use Rattle.sectors.specs.declared.work.Work.{Work}
use Rattle.sectors.specs.declared.work.Work.TheVariants.{Identifying, Moving, Formatting}
use Rattle.engine.specs.First.{pass_writes}
use Rattle.engine.specs.Step.{pass_flow, from_host, flow_of, wait_of, drive_of}

-- a stage that a transfer of that kind has
abbrev pub suits : Pass → Stage → Bool
suits pass (Searching look) = true
suits pass (Turning slot) = true
suits pass (Reading sector done) = not (pass_writes pass)
suits pass (Draining sector looks) = not (pass_writes pass)
suits pass (Awaiting slot wait) = pass_writes pass
suits pass (Storing slot done) = pass_writes pass

abbrev pub suited : Work → Bool
suited (Identifying site slot passes) = true
suited (Moving site task stage) = suits task.transfer.pass stage
suited (Formatting site plan form) = true

abbrev pub job_flow : Job → Flow
job_flow Identify = Quiet
job_flow (Move transfer id) = pass_flow transfer.pass
job_flow (Format plan) = FromHost

-- of the work that goes on, if any does
abbrev pub then_wait : Then → ℕ
then_wait (Ends verdict) = 0
then_wait (Works work) = wait_of work

abbrev pub then_suited : Then → Bool
then_suited (Ends verdict) = true
then_suited (Works work) = suited work

abbrev pub then_flow : Flow → Then → Flow
then_flow flow (Ends verdict) = flow
then_flow flow (Works work) = flow_of work

abbrev pub then_drive : ℕ → Then → ℕ
then_drive drive (Ends verdict) = drive
then_drive drive (Works work) = drive_of work

abbrev pub then_fifo : Fifo → Then → Fifo
then_fifo fifo (Ends verdict) = emptied
then_fifo fifo (Works work) = fifo

-- where a store goes; no store counts as one right behind the header
abbrev pub store_place : Effect → ℕ
store_place None = 13
store_place (Some put) = put.at

-- a tick that was handed a FIFO, and a work whose stage suits or not, of that direction and drive
pub record Kept (efifo : Bool) (before : Fifo) (ok : Bool) (flow : Flow) (drive : ℕ) (step : Step) : Type 0 where
  -- 01 Refusals 4: never above 64; the 64th tick without a byte ends the command
  pub wait : then_wait step.then ≤ 63
  -- 01 Result: every end empties the FIFO
  pub over : step.fifo ≡ then_fifo step.fifo step.then
  -- 01 Refusals 4: a FIFO within its capacity stays so
  pub fits : FitsFifo efifo before → FitsFifo efifo step.fifo
  -- only a Write or a Format stores
  pub stores : ok ≡ true → from_host flow ≡ false → step.effect ≡ None
  -- 01 Image: no store touches the header or the first track's tag, so that the disk met stays through the command's
  -- own stores
  pub behind : 13 ≤ store_place step.effect
  pub stage : ok ≡ true → then_suited step.then ≡ true
  pub way : then_flow flow step.then ≡ flow
  pub place : then_drive drive step.then ≡ drive
