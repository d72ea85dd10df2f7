-- A Read ID gives the track's first ID, or ST1 01 where there is none (specs/ReadIdGives), over every list of calls.
-- Assumes nothing.
use Rattle.std.specs.Prelude.{None, Some}
use Prim.Native.Nat.{ℕ, ◌+◌, ◌%◌, ◌≤◌, ◌<◌}
use native.Mathlib.Omega.{arith}
use mathlib.Core.Bool.{Bool, true, false, true≢false, false≢true}
use mathlib.Core.List.{List}
use mathlib.Core.Logic.{◌⊎◌, inl, inr}
use mathlib.Core.Path.{◌≡◌, refl, sym, ap, ◌∙◌}
use borrow.Author.Tests.{lt-ltb, le-ltb, le-leb, lt-leb}
use Rattle.chip.specs.declared.fifo.Fifo.{Fifo}
use Rattle.image.specs.declared.layout.Geometry.{Geometry}
use Rattle.image.specs.declared.mark.Mark.{Mark}
use Rattle.image.specs.declared.mark.Mark.TheVariants.{NoId, Data, NoData}
use Rattle.image.specs.declared.slot.Id.{Id}
use Rattle.image.specs.Disk.{disk_in}
use Rattle.image.specs.Layout.{offset_of}
use Rattle.image.specs.Lent.{pick_of}
use Rattle.image.specs.Mark.{mark_of}
use Rattle.image.specs.Slot.{id_at}
use Rattle.image.specs.Sound.{mark_in}
use Rattle.image.proofs.DiskLaws.{present_fits}
use Rattle.image.proofs.TestLaws.{le_or_lt}
use Rattle.sectors.specs.declared.order.Job.TheVariants.{Identify}
use Rattle.sectors.specs.declared.order.Order.{Order}
use Rattle.sectors.specs.declared.work.Site.{Site}
use Rattle.sectors.specs.declared.work.Step.{Step}
use Rattle.sectors.specs.declared.work.Work.TheVariants.{Identifying}
use Rattle.sectors.specs.Result.{end_of, goes_of}
use Rattle.sectors.specs.Search.{slot_of}
use Rattle.sectors.specs.Track.{has_track, stays_of, mark_place}
use Rattle.engine.specs.First.{gate_of, start_job, entered_of, begin_of}
use Rattle.engine.specs.ReadId.{no_address, no_id_of, no_id_here, id_here, identified_of, identify_of}
use Rattle.engine.specs.Step.{work_step, go_on_of}
use Rattle.fdc.specs.declared.record.Controller.{Controller}
use Rattle.fdc.specs.declared.record.Phase.TheVariants.{Starting, Working}
use Rattle.fdc.specs.Commands.{answered_of}
use Rattle.reached.specs.Moves.{tick_count}
use Rattle.fdc.specs.Record.{drive_at, with_fifo, with_phase}
use Rattle.fdc.specs.Registers.{motor_in}
use Rattle.reached.specs.Runs.{Call}
use Rattle.fdc.specs.Ticks.{seen_of, settled_of, decided_of, ruled_of}
use Rattle.demands.specs.DataError.{Spins}
use Rattle.demands.specs.EndsInTime.{bound_of}
use Rattle.demands.specs.PowerCut.{Counts, head_of}
use Rattle.demands.specs.Quiet.{Quiet}
use Rattle.demands.specs.ReadIdGives.{FirstId, Gives, ReadIdGives, ReadIdNone, NoIdThere}
use Rattle.demands.specs.Work.{Real, at_work, Alone, EndsWith}
use Rattle.demands.proofs.CallLaws.{tick_starts, tick_works}
use Rattle.demands.proofs.CourseLaws.{still_ends}
use Rattle.demands.proofs.CutLaws.{marked_counts}
use Rattle.demands.proofs.CourseLaws.{same_geometry, low_drive, all_ticks}
use Rattle.demands.proofs.EndsLaws.{ends_in_time_quiet}
use Rattle.demands.proofs.FollowLaws.{site_at}
use Rattle.demands.proofs.QuietLaws.{quiet_real}
use Rattle.demands.proofs.SucceedsLaws.{counts_marked}
use Rattle.demands.proofs.TickRules.{marked}

unmarked : (m : Mark) → (marked m ≡ true → ⊥) → m ≡ NoId
unmarked NoId h = refl
unmarked (Data deleted broken) h = absurd (h refl)
unmarked NoData h = absurd (h refl)

module _ (img : List ℕ) (g : Geometry) (disk : disk_in img ≡ Some g) (order : Order) (low : order.drive < 4)
    (cylinder : ℕ) (job : order.job ≡ Identify) where
  abbrev site : Site
  site = site_at order.drive order.side g

  abbrev mark_at : ℕ → ℕ
  mark_at slot = mark_in g img cylinder order.side slot

  -- the first ID is slot k's, or there is none
  data Plan : Type 0 where
    first_at : (k : ℕ) → FirstId g img cylinder order.side k → Plan
    none_at : NoIdThere g img cylinder order.side → Plan

  abbrev normal_by : Plan → Bool
  normal_by (first_at k f) = true
  normal_by (none_at n) = false

  abbrev st1_by : Plan → ℕ
  st1_by (first_at k f) = 0x00
  st1_by (none_at n) = 0x01

  abbrev id_by : Plan → Id
  id_by (first_at k f) = id_at img (offset_of g cylinder order.side k)
  id_by (none_at n) = no_address

  -- the looks so far met none
  abbrev On : Plan → ℕ → ℕ → Type 0
  On (first_at k f) slot passes = (slot ≤ k) × (passes ≡ 0)
  On (none_at n) slot passes = (slot < g.slots) × (passes ≤ 1)

  track_there : Plan → (cylinder < g.cylinders) × (order.side < g.heads)
  track_there (first_at k f) = (f.has.on_disk, f.has.on_cylinder)
  track_there (none_at n) = (n.on_disk, n.on_cylinder)

  some_slots : 1 ≤ g.slots
  some_slots = (present_fits img g disk).range.slots.0

  on_first : (plan : Plan) → On plan 0 0
  on_first (first_at k f) = (omega arith, refl)
  on_first (none_at n) = (omega (arith, some_slots), omega arith)

  data Leads (plan : Plan) (o : Step) : Type 0 where
    goes : (slot passes : ℕ) (fifo : Fifo) → On plan slot passes
        → o ≡ goes_of (Identifying site slot passes) fifo None → Leads plan o
    ends : o ≡ end_of (normal_by plan) order.drive order.side (st1_by plan) 0x00 (id_by plan) None → Leads plan o

  -- a look at a slot without an ID
  unlike : (slot : ℕ) → (Counts (mark_at slot) → ⊥) → mark_of (slot_of img site cylinder slot).mark ≡ NoId
  unfolding mark_place
  unlike slot n = unmarked (mark_of (mark_at slot)) (λ t. n (marked_counts (mark_at slot) t))

  next_look : (plan : Plan) (slot passes : ℕ) (fifo : Fifo) → slot + 1 < g.slots → On plan (slot + 1) passes
      → Leads plan (no_id_here slot passes site fifo)
  unfolding no_id_here
  next_look plan slot passes fifo l on =
      goes (slot + 1) passes fifo on (simp (lt-leb g.slots (slot + 1) l, lt-ltb (slot + 1) g.slots l))

  -- the last slot of the track: the first index, or the second
  index_look : (n : NoIdThere g img cylinder order.side) (slot passes : ℕ) (fifo : Fifo) → g.slots ≤ slot + 1
      → (1 ≤ passes) ⊎ (passes < 1) → Leads (none_at n) (no_id_here slot passes site fifo)
  unfolding no_id_here no_id_of
  index_look n slot passes fifo l (inl m) =
      ends (simp (le-leb g.slots (slot + 1) l, le-leb 1 passes m))
  index_look n slot passes fifo l (inr m) =
      goes 0 1 fifo (omega (arith, some_slots), omega arith)
      (simp (le-leb g.slots (slot + 1) l, lt-leb 1 passes m, le-ltb (slot + 1) g.slots l))

  here_is : (m : Mark) (id : Id) (slot passes : ℕ) (fifo : Fifo) → marked m ≡ true
      → identified_of m id slot passes site fifo ≡ end_of true order.drive order.side 0x00 0x00 id None
  unfolding identified_of id_here
  here_is NoId id slot passes fifo h = absurd (false≢true h)
  here_is (Data deleted broken) id slot passes fifo h = refl
  here_is NoData id slot passes fifo h = refl

  look : (plan : Plan) (slot passes : ℕ) (fifo : Fifo) → On plan slot passes
      → Leads plan (identify_of slot passes site cylinder img fifo)
  unfolding identify_of identified_of mark_place
  look (first_at k f) slot passes fifo (le, z) = go (le_or_lt k slot)
    where
      go : (k ≤ slot) ⊎ (slot < k) → Leads (first_at k f) (identify_of slot passes site cylinder img fifo)
      go (inl l) =
          let e : slot ≡ k = omega arith in
          ends (rw e (here_is (mark_of (mark_at k)) (id_at img (offset_of g cylinder order.side k)) k passes fifo
          (counts_marked (mark_at k) f.marked)))
      go (inr l) =
          rw (unlike slot (f.none_before slot l))
          (next_look (first_at k f) slot passes fifo (omega (arith, f.has.on_track)) (omega arith, z))
  look (none_at n) slot passes fifo (lt, p) =
      rw (unlike slot (n.none slot (record {
        on_disk = n.on_disk;
        on_cylinder = n.on_cylinder;
        on_track = lt;
      }))) (go (le_or_lt g.slots (slot + 1)))
    where
      go : (g.slots ≤ slot + 1) ⊎ (slot + 1 < g.slots) → Leads (none_at n) (no_id_here slot passes site fifo)
      go (inl l) = index_look n slot passes fifo l (le_or_lt 1 passes)
      go (inr l) = next_look (none_at n) slot passes fifo l (l, p)

  -- the record
  module _ (plan : Plan) where
    abbrev Said : Controller → Type 0
    Said c = Gives order (normal_by plan) (st1_by plan) (id_by plan) c

    data Way (c : Controller) : Type 0 where
      starts : c.phase ≡ Starting order → Way c
      works : (slot passes : ℕ) → c.phase ≡ Working (Identifying site slot passes) → On plan slot passes → Way c
      over : Said c → Way c

    seen : (dor : ℕ) → motor_in dor order.drive ≡ true → seen_of dor order.drive img ≡ Some g
    unfolding seen_of
    seen dor m = rw (m, disk)

    begun : (fifo : Fifo) → begin_of order (Some g) cylinder fifo ≡ goes_of (Identifying site 0 0) fifo None
    unfolding begin_of gate_of entered_of start_job has_track
    begun fifo =
        simp (
          job,
          lt-ltb cylinder g.cylinders (track_there plan).0,
          lt-ltb order.side g.heads (track_there plan).1,
        )

    gone_on : (slot passes : ℕ) (fifo : Fifo) (efifo : Bool) (fifothr : ℕ)
        → go_on_of (Identifying site slot passes) (Some g) cylinder img fifo efifo fifothr
        ≡ identify_of slot passes site cylinder img fifo
    unfolding go_on_of stays_of work_step
    gone_on slot passes fifo efifo fifothr = simp (same_geometry g)

    landed : (c : Controller) (o : Step) → Leads plan o → Way (settled_of o.then o.fifo c)
    unfolding settled_of with_fifo with_phase answered_of end_of
    landed c o (goes slot passes fifo on e) = rw e (works slot passes refl on)
    landed c o (ends e) =
        rw e (over (record { waits = refl; st0 = refl; st1_is = refl; st2 = refl; address = refl }))

    no_effect : (o : Step) → Leads plan o → o.effect ≡ None
    unfolding end_of
    no_effect o (goes slot passes fifo on e) = rw e
    no_effect o (ends e) = rw e

    over_so : (c : Controller) → Way c → at_work c.phase ≡ false → Said c
    over_so c (starts p) a = absurd (true≢false (sym (ap at_work p) ∙ a))
    over_so c (works slot passes p on) a = absurd (true≢false (sym (ap at_work p) ∙ a))
    over_so c (over s) a = s

    -- where a tick's step leads
    led : (c : Controller) (o : Step) → Leads plan o → (o.effect ≡ None) × Way (settled_of o.then o.fifo c)
    led c o on = (no_effect o on, landed c o on)

    step_of : (a b : List ℕ) (c : Controller) → Quiet c → at_work c.phase ≡ true
        → motor_in c.registers.dor order.drive ≡ true → pick_of order.drive a b ≡ img
        → (drive_at (order.drive % 4) c.drives).head ≡ cylinder → Unit {0} → Way c
        → (o : Step) × (ruled_of a b c ≡ decided_of order.drive o c)
        × ((o.effect ≡ None) × Way (settled_of o.then o.fifo c))
    step_of a b c q w motor lent heads t (starts p) = (
      goes_of (Identifying site 0 0) c.fifo None,
      tick_starts a b c order q p ∙ rw (lent, seen _ motor, heads, begun c.fifo),
      led c _ (goes 0 0 c.fifo (on_first plan) refl),
    )
    step_of a b c q w motor lent heads t (works slot passes p on) = (
      identify_of slot passes site cylinder img c.fifo,
      tick_works a b c (Identifying site slot passes) q p
          ∙ rw (
            lent,
            seen _ motor,
            heads,
            gone_on slot passes c.fifo c.registers.efifo c.registers.fifothr,
          ),
      led c _ (look plan slot passes c.fifo on),
    )
    step_of a b c q w motor lent heads t (over s) = absurd (false≢true (sym (ap at_work s.waits) ∙ w))

    on_phase : (c e : Controller) → e.phase ≡ c.phase → at_work c.phase ≡ true → Way c → Way e
    on_phase c e same w (starts p) = starts (same ∙ p)
    on_phase c e same w (works slot passes p on) = works slot passes (same ∙ p) on
    on_phase c e same w (over s) = absurd (false≢true (sym (ap at_work s.waits) ∙ w))

    ends_said : (calls : List Call) (c : Controller) → Quiet c → c.phase ≡ Starting order
        → (drive_at order.drive c.drives).head ≡ cylinder → Spins order.drive calls c
        → Alone order.drive img calls c → bound_of g ≤ tick_count calls → EndsWith Said calls c
    ends_said calls c q p h spins alone more =
        still_ends order low cylinder img (λ e. Unit {0}) Way Said on_phase step_of over_so calls c q h (starts p) spins
        alone (all_ticks _ (λ x. tt) calls c) (ends_in_time_quiet c q order p img g disk calls alone more)

pub read_id_gives_quiet : ReadIdGives Quiet
read_id_gives_quiet c q order i img g disk k first calls spins alone more =
    ends_said img g disk order (low_drive c order q i.accepted) (head_of order c) i.asks (first_at k first) calls c
    q i.accepted refl spins alone more

pub read_id_none_quiet : ReadIdNone Quiet
read_id_none_quiet c q order i img g disk none calls spins alone more =
    ends_said img g disk order (low_drive c order q i.accepted) (head_of order c) i.asks (none_at none) calls c
    q i.accepted refl spins alone more

pub read_id_gives : ReadIdGives Real
read_id_gives c r = read_id_gives_quiet c (quiet_real c r)

pub read_id_none : ReadIdNone Real
read_id_none c r = read_id_none_quiet c (quiet_real c r)
