-- 01 Data commands, the first tick: its tests in their order, and what stands after them.
-- Assumes nothing.
use Rattle.std.specs.Prelude.{ℕ, Bool, true, false, ◌&&◌, ◌||◌, not, cond, eqb, ltb, None, Some, Result, Ok, Err}
use Rattle.chip.specs.declared.fifo.Fifo.{Fifo}
use Rattle.chip.specs.Fifo.{opened_of}
use Rattle.image.specs.Disk.{Disk}
use Rattle.image.specs.declared.layout.Geometry.{Geometry}
use Rattle.image.specs.declared.slot.Id.{Id}
use Rattle.engine.specs.declared.first.Fault.{Fault}
use Rattle.engine.specs.declared.first.Fault.TheVariants.{Missing, Protected, Misplanned}
use Rattle.sectors.specs.declared.order.Job.{Job}
use Rattle.sectors.specs.declared.order.Job.TheVariants.{Identify, Move, Format}
use Rattle.sectors.specs.declared.order.Order.{Order}
use Rattle.sectors.specs.declared.order.Pass.{Pass}
use Rattle.sectors.specs.declared.order.Pass.TheVariants.{Read, Write}
use Rattle.sectors.specs.declared.order.Transfer.{Transfer}
use Rattle.sectors.specs.declared.work.Form.TheVariants.{Awaiting}
use Rattle.sectors.specs.declared.work.Site.{Site}
use Rattle.sectors.specs.declared.work.Stage.TheVariants.{Searching}
use Rattle.sectors.specs.declared.work.Step.{Step}
use Rattle.sectors.specs.declared.work.Task.{Task}
use Rattle.sectors.specs.declared.work.Work.TheVariants.{Identifying}
use Rattle.sectors.specs.Follow.{fresh_at}
use Rattle.engine.specs.Format.{format_id, forms_of}
use Rattle.engine.specs.ReadId.{no_address}
use Rattle.sectors.specs.Result.{end_of, goes_of, moves_of}
use Rattle.sectors.specs.Track.{has_track}

abbrev pub pass_writes : Pass → Bool
pass_writes Read = false
pass_writes Write = true

-- a Write or a Format
abbrev pub changes : Job → Bool
changes Identify = false
changes (Move transfer id) = pass_writes transfer.pass
changes (Format plan) = true

-- 01 Data commands: Format with N not the header's, SC 0 or SC above S
abbrev pub misplanned : Job → Geometry → Bool
misplanned Identify g = false
misplanned (Move transfer id) g = false
misplanned (Format plan) g = not (eqb plan.n g.n) || eqb plan.sc 0 || ltb g.slots plan.sc

-- 01 Data commands: empty drive, no such track or side: ST1 01. Write or Format, protected: ST1 02. Format with a wrong
-- plan: ST1 04
abbrev pub st1_of : Fault → ℕ
st1_of Missing = 0x01
st1_of Protected = 0x02
st1_of Misplanned = 0x04

-- 01 Data commands: first tick, in this order; the fault, or the disk met
unfoldable pub gate_of : Disk → Job → ℕ → ℕ → Result Geometry Fault
gate_of None job side head = Err Missing
gate_of (Some g) job side head =
    cond (not (has_track g head side)) (Err Missing)
    (cond (changes job && g.protect) (Err Protected)
    (cond (misplanned job g) (Err Misplanned) (Ok g)))

-- 01 Result: the sector in hand; 01 Read ID: zeros; 01 Format: with no slot done
unfoldable pub given_id : Job → ℕ → ℕ → ℕ → Id
given_id Identify drive side head = no_address
given_id (Move transfer id) drive side head = id
given_id (Format plan) drive side head = format_id plan drive head side 0

abbrev pub task_of : Transfer → Id → Task
task_of transfer id = record { transfer = transfer; id = id; other = false; late = false }

-- 01 FIFO: from host on once the first tests pass. A command's first search starts at slot 0 (D-102)
unfoldable pub moving_of : Pass → Transfer → Id → Site → Fifo → Step
moving_of Read transfer id site fifo = moves_of (Searching (fresh_at 0)) site (task_of transfer id) fifo None
moving_of Write transfer id site fifo = moves_of (Searching (fresh_at 0)) site (task_of transfer id) (opened_of fifo) None

unfoldable pub start_job : Job → Site → Fifo → Step
start_job Identify site fifo = goes_of (Identifying site 0 0) fifo None
start_job (Move transfer id) site fifo = moving_of transfer.pass transfer id site fifo
start_job (Format plan) site fifo = forms_of (Awaiting 0 0) site plan (opened_of fifo) None

unfoldable pub entered_of : Result Geometry Fault → Job → ℕ → ℕ → ℕ → Fifo → Step
entered_of (Err fault) job drive side head fifo =
    end_of false drive side (st1_of fault) 0x00 (given_id job drive side head) None
entered_of (Ok g) job drive side head fifo = start_job job (record { drive = drive; side = side; disk = g }) fifo

-- 01 Data commands: the first tick does its tests and nothing else
unfoldable pub begin_of : Order → Disk → ℕ → Fifo → Step
begin_of order disk head fifo =
    entered_of (gate_of disk order.job order.side head) order.job order.drive order.side head fifo
