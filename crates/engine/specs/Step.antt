-- 01 Data commands: a later tick of a command at work, and what the controller asks of it.
-- Assumes nothing.
use Rattle.std.specs.Prelude.{ℕ, Bool, true, false, cond, List, None}
use Rattle.chip.specs.declared.fifo.Fifo.{Fifo}
use Rattle.image.specs.Disk.{Disk}
use Rattle.engine.specs.declared.flow.Flow.{Flow}
use Rattle.engine.specs.declared.flow.Flow.TheVariants.{Quiet, ToHost, FromHost}
use Rattle.sectors.specs.declared.order.Pass.{Pass}
use Rattle.sectors.specs.declared.order.Pass.TheVariants.{Read, Write}
use Rattle.sectors.specs.declared.work.Site.{Site}
use Rattle.sectors.specs.declared.work.Stage.{Stage}
use Rattle.sectors.specs.declared.work.Stage.TheVariants.{Searching, Turning, Reading, Draining, Awaiting, Storing}
use Rattle.sectors.specs.declared.work.Step.{Step}
use Rattle.sectors.specs.declared.work.Task.{Task}
use Rattle.sectors.specs.declared.work.Work.{Work}
use Rattle.sectors.specs.declared.work.Work.TheVariants.{Identifying, Moving, Formatting}
use Rattle.sectors.specs.Follow.{turn_of}
use Rattle.engine.specs.Format.{done_of, format_end, form_of, form_wait}
use Rattle.sectors.specs.Read.{read_of, drain_of}
use Rattle.engine.specs.ReadId.{identify_of, no_id_of}
use Rattle.sectors.specs.Result.{move_fails}
use Rattle.sectors.specs.Search.{search_of}
use Rattle.sectors.specs.Track.{stays_of}
use Rattle.sectors.specs.Write.{await_of, store_of}

abbrev pub site_of : Work → Site
site_of (Identifying site slot passes) = site
site_of (Moving site task stage) = site
site_of (Formatting site plan form) = site

-- 01 Data commands: ST1 01, with the address of the command's failing ends
unfoldable pub lost_of : Work → ℕ → Step
lost_of (Identifying site slot passes) head = no_id_of site
lost_of (Moving site task stage) head = move_fails 0x01 0x00 site task
lost_of (Formatting site plan form) head = format_end false 0x01 (done_of form plan) None site plan head

-- a tick of a transfer, by its stage
unfoldable pub stage_of : Stage → Site → Task → ℕ → List ℕ → Fifo → Bool → ℕ → Step
stage_of (Searching look) site task head img fifo efifo fifothr = search_of look site task head img fifo
stage_of (Turning slot) site task head img fifo efifo fifothr = turn_of slot site task head fifo
stage_of (Reading sector done) site task head img fifo efifo fifothr =
    read_of sector done site task head img fifo efifo fifothr
stage_of (Draining sector looks) site task head img fifo efifo fifothr = drain_of sector looks site task fifo
stage_of (Awaiting slot wait) site task head img fifo efifo fifothr = await_of slot wait site task head fifo
stage_of (Storing slot done) site task head img fifo efifo fifothr = store_of slot done site task head fifo efifo fifothr

unfoldable pub work_step : Work → ℕ → List ℕ → Fifo → Bool → ℕ → Step
work_step (Identifying site slot passes) head img fifo efifo fifothr = identify_of slot passes site head img fifo
work_step (Moving site task stage) head img fifo efifo fifothr = stage_of stage site task head img fifo efifo fifothr
work_step (Formatting site plan form) head img fifo efifo fifothr = form_of form site plan head fifo efifo fifothr

-- 01 Data commands: a drive emptied or header changed later: ST1 01 at that tick, before all else (D-117)
unfoldable pub go_on_of : Work → Disk → ℕ → List ℕ → Fifo → Bool → ℕ → Step
go_on_of work disk head img fifo efifo fifothr =
    cond (stays_of disk (site_of work).disk) (work_step work head img fifo efifo fifothr) (lost_of work head)

abbrev pub pass_flow : Pass → Flow
pass_flow Read = ToHost
pass_flow Write = FromHost

abbrev pub to_host : Flow → Bool
to_host Quiet = false
to_host ToHost = true
to_host FromHost = false

abbrev pub from_host : Flow → Bool
from_host Quiet = false
from_host ToHost = false
from_host FromHost = true

-- 01 Registers MSR: which way its bytes go
abbrev pub flow_of : Work → Flow
flow_of (Identifying site slot passes) = Quiet
flow_of (Moving site task stage) = pass_flow task.transfer.pass
flow_of (Formatting site plan form) = FromHost

abbrev pub stage_wait : Stage → ℕ
stage_wait (Searching look) = 0
stage_wait (Turning slot) = 0
stage_wait (Reading sector done) = 0
stage_wait (Draining sector looks) = looks
stage_wait (Awaiting slot wait) = wait
stage_wait (Storing slot done) = 0

-- 01 Refusals 4: a wait above 64
abbrev pub wait_of : Work → ℕ
wait_of (Identifying site slot passes) = 0
wait_of (Moving site task stage) = stage_wait stage
wait_of (Formatting site plan form) = form_wait form

abbrev pub drive_of : Work → ℕ
drive_of work = (site_of work).drive

-- 01 Format: TC is ignored
abbrev pub hears_tc : Work → Bool
hears_tc (Identifying site slot passes) = true
hears_tc (Moving site task stage) = true
hears_tc (Formatting site plan form) = false
