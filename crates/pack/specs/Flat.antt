-- A phase with the fields of all its cases side by side (house): what the record's bytes hold of it, and the phase
-- read back. The bytes themselves are Bytes.
-- Assumes nothing.
use Rattle.std.specs.Prelude.{ℕ, Bool, false, cond, eqb}
use Rattle.image.specs.declared.slot.Id.{Id}
use Rattle.chip.specs.declared.codes.Kind.{Kind}
use Rattle.chip.specs.declared.codes.Kind.TheVariants.{Unknown}
use Rattle.sectors.specs.declared.order.Job.{Job}
use Rattle.sectors.specs.declared.order.Job.TheVariants.{Identify, Move, Format}
use Rattle.sectors.specs.declared.order.Pass.TheVariants.{Read}
use Rattle.sectors.specs.declared.order.Plan.{Plan}
use Rattle.sectors.specs.declared.order.Transfer.{Transfer}
use Rattle.sectors.specs.declared.work.Form.{Form}
use Rattle.sectors.specs.declared.work.Form.TheVariants as form
use Rattle.sectors.specs.declared.work.Search.{Search}
use Rattle.sectors.specs.declared.work.Sector.{Sector}
use Rattle.sectors.specs.declared.work.Site.{Site}
use Rattle.sectors.specs.declared.work.Stage.{Stage}
use Rattle.sectors.specs.declared.work.Stage.TheVariants.{Searching, Turning, Reading, Draining, Awaiting, Storing}
use Rattle.sectors.specs.declared.work.Task.{Task}
use Rattle.sectors.specs.declared.work.Work.{Work}
use Rattle.sectors.specs.declared.work.Work.TheVariants.{Identifying, Moving, Formatting}
use Rattle.fdc.specs.declared.record.Phase.{Phase}
use Rattle.fdc.specs.declared.record.Phase.TheVariants.{Idle, Gathering, Starting, Working, Sensing, Answering}
use Rattle.pack.specs.declared.flat.Spot.{Spot}
use Rattle.pack.specs.declared.flat.Flat.{Flat}

-- house: what a case does not carry is 0
abbrev pub no_id : Id
no_id = record { c = 0; h = 0; r = 0; n = 0 }

abbrev pub no_transfer : Transfer
no_transfer = record { pass = Read; deleted = false; mt = false; sk = false; eot = 0; dtl = 0 }

abbrev pub task_with : Transfer → Id → Task
task_with transfer id = record { transfer = transfer; id = id; other = false; late = false }

abbrev pub no_task : Task
no_task = task_with no_transfer no_id

abbrev pub no_plan : Plan
no_plan = record { n = 0; sc = 0; fill = 0 }

-- house: a drive and a side before a header is met
abbrev pub place_of : ℕ → ℕ → Site
place_of drive side =
    record {
      drive = drive;
      side = side;
      disk = record { cylinders = 0; heads = 0; slots = 0; n = 0; protect = false };
    }

abbrev pub spot_of : ℕ → ℕ → ℕ → ℕ → ℕ → Spot
spot_of stage form slot count done =
    record {
      stage = stage;
      form = form;
      slot = slot;
      count = count;
      met = false;
      wrong = false;
      bad = false;
      broken = false;
      other = false;
      done = done;
    }

abbrev pub look_spot : Search → Spot
look_spot look =
    record {
      stage = 0;
      form = 0;
      slot = look.slot;
      count = look.passes;
      met = look.met;
      wrong = look.wrong;
      bad = look.bad;
      broken = false;
      other = false;
      done = 0;
    }

abbrev pub sector_spot : ℕ → Sector → ℕ → ℕ → Spot
sector_spot stage sector count done =
    record {
      stage = stage;
      form = 0;
      slot = sector.slot;
      count = count;
      met = false;
      wrong = false;
      bad = false;
      broken = sector.broken;
      other = sector.other;
      done = done;
    }

-- house: the stages of a transfer by number
abbrev pub stage_spot : Stage → Spot
stage_spot (Searching look) = look_spot look
stage_spot (Turning slot) = spot_of 1 0 slot 0 0
stage_spot (Reading sector done) = sector_spot 2 sector 0 done
stage_spot (Draining sector looks) = sector_spot 3 sector looks 0
stage_spot (Awaiting slot wait) = spot_of 4 0 slot wait 0
stage_spot (Storing slot done) = spot_of 5 0 slot 0 done

-- house: and those of a Format
abbrev pub form_spot : Form → Spot
form_spot (form.Awaiting slot wait) = spot_of 0 0 slot wait 0
form_spot (form.Addressing slot k) = spot_of 0 1 slot k 0
form_spot (form.Filling slot done) = spot_of 0 2 slot 0 done
form_spot (form.Clearing slot) = spot_of 0 3 slot 0 0

abbrev pub quiet_flat : ℕ → Kind → ℕ → ℕ → Bool → Flat
quiet_flat tag kind due unit loud =
    record {
      tag = tag;
      entry = record { kind = kind; bytes = due };
      unit = unit;
      loud = loud;
      work = 0;
      site = place_of 0 0;
      task = no_task;
      plan = no_plan;
      spot = spot_of 0 0 0 0 0;
    }

abbrev pub busy_flat : ℕ → ℕ → Site → Task → Plan → Spot → Flat
busy_flat tag work site task plan spot =
    record {
      tag = tag;
      entry = record { kind = Unknown; bytes = 0 };
      unit = 0;
      loud = false;
      work = work;
      site = site;
      task = task;
      plan = plan;
      spot = spot;
    }

-- house: the jobs by number, before the first tick
abbrev pub job_flat : ℕ → ℕ → Job → Flat
job_flat drive side Identify = busy_flat 2 0 (place_of drive side) no_task no_plan (spot_of 0 0 0 0 0)
job_flat drive side (Move transfer id) = busy_flat 2 1 (place_of drive side) (task_with transfer id) no_plan (spot_of 0 0 0 0 0)
job_flat drive side (Format plan) = busy_flat 2 2 (place_of drive side) no_task plan (spot_of 0 0 0 0 0)

-- house: and from it on
abbrev pub work_flat : Work → Flat
work_flat (Identifying site slot passes) = busy_flat 3 0 site no_task no_plan (spot_of 0 0 slot passes 0)
work_flat (Moving site task stage) = busy_flat 3 1 site task no_plan (stage_spot stage)
work_flat (Formatting site plan form) = busy_flat 3 2 site no_task plan (form_spot form)

-- house: the phases by number
abbrev pub phase_flat : Phase → Flat
phase_flat Idle = quiet_flat 0 Unknown 0 0 false
phase_flat (Gathering entry) = quiet_flat 1 entry.kind entry.bytes 0 false
phase_flat (Starting order) = job_flat order.drive order.side order.job
phase_flat (Working work) = work_flat work
phase_flat (Sensing unit) = quiet_flat 4 Unknown 0 unit false
phase_flat (Answering loud) = quiet_flat 5 Unknown 0 0 loud

abbrev pub look_of : Spot → Search
look_of spot =
    record { slot = spot.slot; passes = spot.count; met = spot.met; wrong = spot.wrong; bad = spot.bad }

abbrev pub sector_of : Spot → Sector
sector_of spot = record { slot = spot.slot; broken = spot.broken; other = spot.other }

-- house: the same read back
unfoldable pub stage_from : Spot → Stage
stage_from spot =
    cond (eqb spot.stage 0) (Searching (look_of spot))
    (cond (eqb spot.stage 1) (Turning spot.slot)
    (cond (eqb spot.stage 2) (Reading (sector_of spot) spot.done)
    (cond (eqb spot.stage 3) (Draining (sector_of spot) spot.count)
    (cond (eqb spot.stage 4) (Awaiting spot.slot spot.count)
    (Storing spot.slot spot.done)))))

unfoldable pub form_from : Spot → Form
form_from spot =
    cond (eqb spot.form 0) (form.Awaiting spot.slot spot.count)
    (cond (eqb spot.form 1) (form.Addressing spot.slot spot.count)
    (cond (eqb spot.form 2) (form.Filling spot.slot spot.done)
    (form.Clearing spot.slot)))

unfoldable pub job_from : ℕ → Task → Plan → Job
job_from work task plan =
    cond (eqb work 0) Identify (cond (eqb work 1) (Move task.transfer task.id) (Format plan))

unfoldable pub work_from : ℕ → Site → Task → Plan → Spot → Work
work_from work site task plan spot =
    cond (eqb work 0) (Identifying site spot.slot spot.count)
    (cond (eqb work 1) (Moving site task (stage_from spot)) (Formatting site plan (form_from spot)))

unfoldable pub phase_from : Flat → Phase
phase_from flat =
    cond (eqb flat.tag 0) Idle
    (cond (eqb flat.tag 1) (Gathering flat.entry)
    (cond (eqb flat.tag 2)
    (Starting
    (record {
      drive = flat.site.drive;
      side = flat.site.side;
      job = job_from flat.work flat.task flat.plan;
    }))
    (cond (eqb flat.tag 3) (Working (work_from flat.work flat.site flat.task flat.plan flat.spot))
    (cond (eqb flat.tag 4) (Sensing flat.unit) (Answering flat.loud)))))
