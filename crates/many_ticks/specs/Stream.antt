-- Whether a sector's bytes pass, tick after tick, and nothing else moves (house): a Read or a Write in a sector, not held
-- in reset, no drive moving, and the disk of its first tick there.
-- Assumes nothing.
use Rattle.std.specs.Prelude.{ℕ, Bool, not, ◌&&◌, cond, List, Option, None, Some}
use Rattle.image.specs.Lent.{pick_of}
use Rattle.sectors.specs.declared.work.Site.{Site}
use Rattle.sectors.specs.declared.work.Stage.{Stage}
use Rattle.sectors.specs.declared.work.Stage.TheVariants.{Searching, Turning, Reading, Draining, Awaiting, Storing}
use Rattle.sectors.specs.declared.work.Task.{Task}
use Rattle.sectors.specs.declared.work.Work.{Work}
use Rattle.sectors.specs.declared.work.Work.TheVariants.{Identifying, Moving, Formatting}
use Rattle.sectors.specs.Track.{stays_of}
use Rattle.fdc.specs.declared.record.Controller.{Controller}
use Rattle.fdc.specs.declared.record.Phase.{Phase}
use Rattle.fdc.specs.declared.record.Phase.TheVariants.{Idle, Gathering, Starting, Working, Sensing, Answering}
use Rattle.fdc.specs.Registers.{held_in}
use Rattle.fdc.specs.Ticks.{seen_of, all_stand}
use Rattle.many_ticks.specs.declared.stream.Stream.{Stream}
use Rattle.many_ticks.specs.declared.stream.Stream.TheVariants.{Reads, Stores}

abbrev pub site_of : Stream → Site
site_of (Reads site task sector done) = site
site_of (Stores site task slot done) = site

-- a stage with no bytes to pass has none
abbrev pub stage_stream : Site → Task → Stage → Option Stream
stage_stream site task (Searching look) = None
stage_stream site task (Turning slot) = None
stage_stream site task (Reading sector done) = Some (Reads site task sector done)
stage_stream site task (Draining sector looks) = None
stage_stream site task (Awaiting slot wait) = None
stage_stream site task (Storing slot done) = Some (Stores site task slot done)

abbrev pub work_stream : Work → Option Stream
work_stream (Identifying site slot passes) = None
work_stream (Moving site task stage) = stage_stream site task stage
work_stream (Formatting site plan form) = None

abbrev pub phase_stream : Phase → Option Stream
phase_stream Idle = None
phase_stream (Gathering entry) = None
phase_stream (Starting order) = None
phase_stream (Working work) = work_stream work
phase_stream (Sensing unit) = None
phase_stream (Answering loud) = None

-- 01 Data commands: the disk of the first tick is in the drive, and its motor on
unfoldable pub meets_of : ℕ → Site → List ℕ → List ℕ → Bool
meets_of dor site a b = stays_of (seen_of dor site.drive (pick_of site.drive a b)) site.disk

unfoldable pub kept : ℕ → Option Stream → List ℕ → List ℕ → Option Stream
kept dor None a b = None
kept dor (Some stream) a b = cond (meets_of dor (site_of stream) a b) (Some stream) None

-- 01 Calls: held in reset a tick does nothing; and no drive moves
unfoldable pub rests_of : Controller → Bool
rests_of c = not (held_in c.registers.dor) && all_stand c.drives

unfoldable pub stream_in : List ℕ → List ℕ → Controller → Option Stream
stream_in a b c = cond (rests_of c) (kept c.registers.dor (phase_stream c.phase) a b) None
