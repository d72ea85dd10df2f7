-- A phase is read back from its fields side by side.
-- Assumes nothing.
use Prim.Native.Nat.{ℕ}
use mathlib.Core.Bool.{true}
use mathlib.Core.Path.{◌≡◌, refl}
use lib.Dec.{leb}
use Rattle.sectors.specs.declared.order.Job.{Job}
use Rattle.sectors.specs.declared.order.Job.TheVariants.{Identify, Move, Format}
use Rattle.sectors.specs.declared.work.Form.{Form}
use Rattle.sectors.specs.declared.work.Form.TheVariants as form
use Rattle.sectors.specs.declared.work.Stage.{Stage}
use Rattle.sectors.specs.declared.work.Stage.TheVariants.{Searching, Turning, Reading, Draining, Awaiting, Storing}
use Rattle.sectors.specs.declared.work.Work.{Work}
use Rattle.sectors.specs.declared.work.Work.TheVariants.{Identifying, Moving, Formatting}
use Rattle.fdc.specs.declared.record.Phase.{Phase}
use Rattle.fdc.specs.declared.record.Phase.TheVariants.{Idle, Gathering, Starting, Working, Sensing, Answering}
use Rattle.pack.specs.declared.flat.Flat.{Flat}
use Rattle.pack.specs.Flat.{stage_spot, form_spot, job_flat, work_flat, phase_flat}
use Rattle.pack.specs.Flat.{stage_from, form_from, job_from, work_from, phase_from}

pub stage_back : (stage : Stage) → stage_from (stage_spot stage) ≡ stage
unfolding stage_from
stage_back (Searching look) = refl
stage_back (Turning slot) = refl
stage_back (Reading sector done) = refl
stage_back (Draining sector looks) = refl
stage_back (Awaiting slot wait) = refl
stage_back (Storing slot done) = refl

pub form_back : (f : Form) → form_from (form_spot f) ≡ f
unfolding form_from
form_back (form.Awaiting slot wait) = refl
form_back (form.Addressing slot k) = refl
form_back (form.Filling slot done) = refl
form_back (form.Clearing slot) = refl

work_back : (work : Work) → phase_from (work_flat work) ≡ Working work
unfolding phase_from work_from
work_back (Identifying site slot passes) = refl
work_back (Moving site task stage) = rw (stage_back stage)
work_back (Formatting site plan f) = rw (form_back f)

start_back : (drive side : ℕ) (job : Job)
    → phase_from (job_flat drive side job) ≡ Starting (record { drive = drive; side = side; job = job })
unfolding phase_from job_from
start_back drive side Identify = refl
start_back drive side (Move transfer id) = refl
start_back drive side (Format plan) = refl

pub phase_back : (phase : Phase) → phase_from (phase_flat phase) ≡ phase
unfolding phase_from
phase_back Idle = refl
phase_back (Gathering entry) = refl
phase_back (Starting order) = start_back order.drive order.side order.job
phase_back (Working work) = work_back work
phase_back (Sensing unit) = refl
phase_back (Answering loud) = refl

-- the numbers of the cases are in range
pub record FlatWithin (f : Flat) : Type 0 where
  pub tag : leb f.tag 5 ≡ true
  pub work : leb f.work 2 ≡ true
  pub stage : leb f.spot.stage 5 ≡ true
  pub form : leb f.spot.form 3 ≡ true

stage_within : (stage : Stage) → (leb (stage_spot stage).stage 5 ≡ true) × (leb (stage_spot stage).form 3 ≡ true)
stage_within (Searching look) = (refl, refl)
stage_within (Turning slot) = (refl, refl)
stage_within (Reading sector done) = (refl, refl)
stage_within (Draining sector looks) = (refl, refl)
stage_within (Awaiting slot wait) = (refl, refl)
stage_within (Storing slot done) = (refl, refl)

form_within : (f : Form) → (leb (form_spot f).stage 5 ≡ true) × (leb (form_spot f).form 3 ≡ true)
form_within (form.Awaiting slot wait) = (refl, refl)
form_within (form.Addressing slot k) = (refl, refl)
form_within (form.Filling slot done) = (refl, refl)
form_within (form.Clearing slot) = (refl, refl)

job_within : (drive side : ℕ) (job : Job) → FlatWithin (job_flat drive side job)
job_within drive side Identify = record { tag = refl; work = refl; stage = refl; form = refl }
job_within drive side (Move transfer id) = record { tag = refl; work = refl; stage = refl; form = refl }
job_within drive side (Format plan) = record { tag = refl; work = refl; stage = refl; form = refl }

work_within : (work : Work) → FlatWithin (work_flat work)
work_within (Identifying site slot passes) = record { tag = refl; work = refl; stage = refl; form = refl }
work_within (Moving site task stage) =
    record { tag = refl; work = refl; stage = (stage_within stage).0; form = (stage_within stage).1 }
work_within (Formatting site plan f) =
    record { tag = refl; work = refl; stage = (form_within f).0; form = (form_within f).1 }

pub phase_within : (phase : Phase) → FlatWithin (phase_flat phase)
phase_within Idle = record { tag = refl; work = refl; stage = refl; form = refl }
phase_within (Gathering entry) = record { tag = refl; work = refl; stage = refl; form = refl }
phase_within (Starting order) = job_within order.drive order.side order.job
phase_within (Working work) = work_within work
phase_within (Sensing unit) = record { tag = refl; work = refl; stage = refl; form = refl }
phase_within (Answering loud) = record { tag = refl; work = refl; stage = refl; form = refl }
