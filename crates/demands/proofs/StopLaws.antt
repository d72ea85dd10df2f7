-- A read that its first sector stops (proofs/FollowLaws), over every list of calls: if it ends, it ends with what that
-- sector's mark says, and with ST1's 10 beside it if a byte was lost (01 Read, Result; 02 2026-02).
-- Assumes nothing.
use Rattle.std.specs.Prelude.{None, Some}
use Prim.Native.Nat.{ℕ, zero, suc, ◌+◌, ◌%◌, ◌<◌}
use native.Mathlib.Omega.{arith}
use mathlib.Core.Bool.{Bool, true, false, not, true≢false, false≢true}
use mathlib.Core.List.{List}
use mathlib.Core.Path.{◌≡◌, refl, sym, ap, ◌∙◌}
use borrow.Author.Tests.{lt-ltb}
use Rattle.chip.specs.declared.fifo.Fifo.{Fifo}
use Rattle.sectors.specs.declared.order.Job.TheVariants.{Move}
use Rattle.sectors.specs.declared.order.Order.{Order}
use Rattle.sectors.specs.declared.order.Transfer.{Transfer}
use Rattle.sectors.specs.declared.work.Site.{Site}
use Rattle.sectors.specs.declared.work.Stage.{Stage}
use Rattle.sectors.specs.declared.work.Stage.TheVariants.{Searching, Turning, Reading, Draining, Awaiting, Storing}
use Rattle.sectors.specs.declared.work.Step.{Step}
use Rattle.sectors.specs.declared.work.Task.{Task}
use Rattle.sectors.specs.declared.work.Work.TheVariants.{Moving}
use Rattle.sectors.specs.Follow.{fresh_at}
use Rattle.sectors.specs.Result.{st0_of, other_bit, late_bit, moves_of}
use Rattle.sectors.specs.Track.{has_track, stays_of}
use Rattle.engine.specs.First.{gate_of, task_of, moving_of, start_job, entered_of, begin_of}
use Rattle.engine.specs.Step.{stage_of, work_step, go_on_of}
use Rattle.image.specs.declared.layout.Geometry.{Geometry}
use Rattle.image.specs.declared.slot.Id.{Id}
use Rattle.image.specs.Disk.{disk_in}
use Rattle.image.specs.Lent.{pick_of}
use Rattle.fdc.specs.declared.record.Controller.{Controller}
use Rattle.fdc.specs.declared.record.Phase.TheVariants.{Starting, Working, Answering}
use Rattle.fdc.specs.Commands.{answered_of}
use Rattle.fdc.specs.Record.{drive_at, with_fifo, with_phase}
use Rattle.fdc.specs.Registers.{motor_in}
use Rattle.reached.specs.Runs.{Call}
use Rattle.fdc.specs.Ticks.{seen_of, settled_of, decided_of, ruled_of}
use Rattle.demands.specs.Acknowledged.{result_byte, result_id}
use Rattle.demands.specs.DataError.{Spins, Drained}
use Rattle.demands.specs.InTime.{Late, LatePhase, Timely, AtTicks}
use Rattle.demands.specs.Quiet.{Quiet}
use Rattle.demands.specs.Work.{at_work, Alone, Anyhow, EndsWith}
use Rattle.demands.proofs.CallLaws.{tick_starts, tick_works}
use Rattle.demands.proofs.CourseLaws.{same_geometry, still_ends}
use Rattle.demands.proofs.FollowLaws.{
  StopsAt,
  OnStage,
  site_at,
  differs,
  error_bit,
  task_on,
  Follow,
  goes,
  ends,
  follow_rule,
}
use Rattle.demands.proofs.TickRules.{Waits, transfer_rule}

-- the result: what the sector's mark says, with its address; L is what a lost byte stands for
pub record ReadOver (broken other : Bool) (site : Site) (id : Id) (L : Type 0) (c : Controller) : Type 0 where
  pub waits : c.phase ≡ Answering true
  pub late : Bool
  pub lost : late ≡ true → L
  pub st0 : result_byte 0 c ≡ st0_of (not broken) site.drive site.side
  pub st1 : result_byte 1 c ≡ late_bit late + error_bit broken
  pub st2 : result_byte 2 c ≡ other_bit other + error_bit broken
  pub address : result_id c ≡ id

-- how it is served: no tick is the 64th look that finds bytes, and a byte that is lost is L
pub record Serving (Served : Controller → Type 0) (L : Type 0) : Type 0 where
  pub drained : (c : Controller) → Served c → Drained c
  pub lost : (c : Controller) → Served c → LatePhase c.registers.efifo c.fifo c.phase → L

none_left : (n : ℕ) → (0 < n → ⊥) → n ≡ 0
none_left zero h = refl
none_left (suc n) h = absurd (h (omega arith))

-- in time none is lost
pub timely_serves : Serving Timely ⊥
timely_serves =
    record {
      drained = λ c t site task sector looks p l. none_left c.fifo.count (λ s. t (rw p (s, l)));
      lost = λ c t. t;
    }

module _ (img : List ℕ) (g : Geometry) (disk : disk_in img ≡ Some g) (order : Order) (low : order.drive < 4)
    (head t : ℕ) (transfer : Transfer) (id : Id) (job : order.job ≡ Move transfer id) (kind broken : Bool)
    (b : StopsAt g img head order.side t kind broken transfer id) (Served : Controller → Type 0) (L : Type 0)
    (serving : Serving Served L) (only : L → broken ≡ true) where
  abbrev site : Site
  site = site_at order.drive order.side g

  abbrev other : Bool
  other = differs kind transfer

  abbrev Over : Controller → Type 0
  Over c = ReadOver broken other site id L c

  abbrev Followed : Step → Type 0
  Followed o = Follow broken other t site transfer id L o

  -- on the way to the end, or there
  data Way (c : Controller) : Type 0 where
    starts : c.phase ≡ Starting order → Way c
    works : (late : Bool) (stage : Stage)
        → c.phase ≡ Working (Moving site (task_on other late transfer id stage) stage) → (late ≡ true → L)
        → OnStage broken other t stage → Way c
    over : Over c → Way c

  seen : (dor : ℕ) → motor_in dor order.drive ≡ true → seen_of dor order.drive img ≡ Some g
  unfolding seen_of
  seen dor m = rw (m, disk)

  -- the first tick: the tests are passed, and the search starts at slot 0
  begun : (fifo : Fifo)
      → begin_of order (Some g) head fifo ≡ moves_of (Searching (fresh_at 0)) site (task_of transfer id) fifo None
  unfolding begin_of gate_of entered_of start_job moving_of has_track
  begun fifo =
      simp (
        job,
        b.reads,
        lt-ltb head g.cylinders b.has.on_disk,
        lt-ltb order.side g.heads b.has.on_cylinder,
      )

  -- a later tick
  gone_on : (task : Task) (stage : Stage) (fifo : Fifo) (efifo : Bool) (fifothr : ℕ)
      → go_on_of (Moving site task stage) (Some g) head img fifo efifo fifothr
      ≡ stage_of stage site task head img fifo efifo fifothr
  unfolding go_on_of stays_of work_step
  gone_on task stage fifo efifo fifothr = simp (same_geometry g)

  -- no wait ends it
  no_wait : (c : Controller) (late : Bool) (stage : Stage) → Served c
      → c.phase ≡ Working (Moving site (task_on other late transfer id stage) stage) → OnStage broken other t stage
      → Late c.registers.efifo site (task_on other late transfer id stage) c.fifo stage → Waits stage → ⊥
  no_wait c late (Searching look) s p on l w = w
  no_wait c late (Turning slot) s p on l w = w
  no_wait c late (Reading sector done) s p on l w = w
  no_wait c late (Draining sector looks) s p on (some, many) w =
      omega (arith, serving.drained c s site _ sector looks p many)
  no_wait c late (Awaiting slot wait) s p on l w = on
  no_wait c late (Storing slot done) s p on l w = w

  -- where a tick's step leads
  landed : (c : Controller) (o : Step) → Followed o → (o.effect ≡ None) × Way (settled_of o.then o.fifo c)
  unfolding settled_of with_fifo with_phase answered_of
  landed c o (goes late stage fifo l w e) = rw e (refl, works late stage refl l w)
  landed c o (ends late verdict l (a, x, y, i) e) =
      rw e (
        refl,
        over (record { waits = refl; late = late; lost = l; st0 = a; st1 = x; st2 = y; address = i }),
      )

  -- the tick of a command at work
  on_step_lem : (a b' : List ℕ) (c : Controller) → Quiet c → at_work c.phase ≡ true
      → motor_in c.registers.dor order.drive ≡ true → pick_of order.drive a b' ≡ img
      → (drive_at (order.drive % 4) c.drives).head ≡ head → Served c → Way c
      → (o : Step) × (ruled_of a b' c ≡ decided_of order.drive o c)
      × ((o.effect ≡ None) × Way (settled_of o.then o.fifo c))
  on_step_lem a b' c q w motor lent heads served (starts p) =
      let first : Step = moves_of (Searching (fresh_at 0)) site (task_of transfer id) c.fifo None in (
        first,
        tick_starts a b' c order q p ∙ rw (lent, seen _ motor, heads, begun c.fifo),
        landed c first (goes false (Searching (fresh_at 0)) c.fifo (λ e. absurd (false≢true e)) (omega arith) refl),
      )
  on_step_lem a b' c q w motor lent heads served (works late stage p l on) =
      let task = task_on other late transfer id stage in
      let e = c.registers.efifo in
      let k = c.registers.fifothr in (
        stage_of stage site task head img c.fifo e k,
        tick_works a b' c (Moving site task stage) q p
            ∙ rw (lent, seen _ motor, heads, gone_on task stage c.fifo e k),
        landed c _
            (follow_rule g img head order.drive order.side t kind broken transfer id b e k c.fifo late stage _
            L l only (λ x. serving.lost c served (rw p x)) (no_wait c late stage served p on) on
            (transfer_rule head img e k site task c.fifo stage)),
      )
  on_step_lem a b' c q w motor lent heads served (over d) = absurd (false≢true (sym (ap at_work d.waits) ∙ w))

  -- a calm call that is no tick
  on_phase : (c e : Controller) → e.phase ≡ c.phase → at_work c.phase ≡ true → Way c → Way e
  on_phase c e k w (starts p) = starts (k ∙ p)
  on_phase c e k w (works late stage p l on) = works late stage (k ∙ p) l on
  on_phase c e k w (over d) = absurd (false≢true (sym (ap at_work d.waits) ∙ w))

  -- what is over has ended so
  over_so : (c : Controller) → Way c → at_work c.phase ≡ false → Over c
  over_so c (starts p) a = absurd (true≢false (sym (ap at_work p) ∙ a))
  over_so c (works late stage p l on) a = absurd (true≢false (sym (ap at_work p) ∙ a))
  over_so c (over d) a = d

  -- if it ends, it ends so
  pub ends_so : (calls : List Call) (c : Controller) → Quiet c → (drive_at order.drive c.drives).head ≡ head
      → c.phase ≡ Starting order → Spins order.drive calls c → Alone order.drive img calls c
      → AtTicks Served calls c → EndsWith Anyhow calls c → EndsWith Over calls c
  ends_so calls c q h p =
      still_ends order low head img Served Way Over on_phase on_step_lem over_so calls c q h (starts p)
