-- Result bytes by command and cause of end (01 Data commands): each row from the engine's definition at that tick.
-- Assumes nothing.
use Rattle.std.specs.Prelude.{None, Some}
use Rattle.image.specs.Lent.{put_at}
use Prim.Native.Nat.{ℕ, ◌+◌, ◌<◌, ◌≤◌}
use native.Mathlib.Omega.{arith}
use mathlib.Core.Bool.{Bool, beq, true, false, ◌&&◌, ◌||◌, cond, and-false, or-true}
use mathlib.Core.List.{List}
use mathlib.Core.Logic.{inl, inr}
use mathlib.Core.Path.{◌≡◌, refl, sym, ◌∙◌, ap}
use lib.Dec.{eqb}
use lib.ListN.{set}
use borrow.Author.Tests.{eqb-true, eq-eqb, ne_eqb, le-leb, lt-leb, lt-ltb, le-ltb}
use Rattle.image.proofs.TestLaws.{both, beq_true}
use Rattle.chip.specs.declared.fifo.Fifo.{Fifo}
use Rattle.chip.specs.Fifo.{capacity_of, shut}
use Rattle.chip.specs.Next.{next_of, advanced_of}
use Rattle.sectors.specs.declared.order.Job.{Job}
use Rattle.sectors.specs.declared.order.Job.TheVariants.{Identify, Move, Format}
use Rattle.sectors.specs.declared.order.Order.{Order}
use Rattle.sectors.specs.declared.order.Pass.TheVariants.{Read}
use Rattle.sectors.specs.declared.order.Plan.{Plan}
use Rattle.sectors.specs.declared.work.Form.{Form}
use Rattle.sectors.specs.declared.work.Form.TheVariants as form
use Rattle.sectors.specs.declared.work.Search.{Search}
use Rattle.sectors.specs.declared.work.Sector.{Sector}
use Rattle.sectors.specs.declared.work.Site.{Site}
use Rattle.sectors.specs.declared.work.Stage.{Stage}
use Rattle.sectors.specs.declared.work.Stage.TheVariants.{Searching, Turning, Reading, Draining, Awaiting, Storing}
use Rattle.sectors.specs.declared.work.Step.{Step}
use Rattle.sectors.specs.declared.work.Task.{Task}
use Rattle.sectors.specs.declared.work.Work.{Work}
use Rattle.sectors.specs.declared.work.Work.TheVariants.{Identifying, Moving, Formatting}
use Rattle.engine.specs.First.{changes, misplanned, gate_of, given_id, entered_of, begin_of}
use Rattle.sectors.specs.Follow.{followed_of, follow_of, turn_of}
use Rattle.engine.specs.Format.{format_end, form_await, address_of, clear_on, formed_of, fill_of, clear_of, form_of}
use Rattle.sectors.specs.Read.{overrun, sector_over, read_on, read_of, drained_of, drain_of}
use Rattle.engine.specs.ReadId.{no_id_of, no_id_here, id_here, identified_of, identify_of}
use Rattle.sectors.specs.Result.{st0_of, other_bit, late_bit, end_of, late_end, move_end, move_fails, moves_of, tardy}
use Rattle.sectors.specs.Search.{matches, noted, cylinder_bits, with_other, not_found, missed_of, read_found, data_found}
use Rattle.sectors.specs.Search.{second_pass, bare_found, looked_of, search_of}
use Rattle.engine.specs.Step.{drive_of, site_of, lost_of, stage_of, work_step, go_on_of}
use Rattle.sectors.specs.Track.{has_track, stays_of, mark_place, data_place}
use Rattle.sectors.specs.Write.{underrun, await_of, put_of, dry_of, written_of, store_of, written_mark}
use Rattle.image.specs.Disk.{Disk}
use Rattle.image.specs.declared.layout.Geometry.{Geometry}
use Rattle.image.specs.Lent.{Effect}
use Rattle.image.specs.declared.mark.Mark.{Mark}
use Rattle.image.specs.declared.mark.Mark.TheVariants.{NoId, Data, NoData}
use Rattle.image.specs.declared.slot.Id.{Id}
use Rattle.image.specs.declared.slot.Slot.{Slot}
use Rattle.image.specs.Layout.{same_of, size_of}
use Rattle.image.specs.Lent.{pick_of, stored_in}
use Rattle.image.specs.Mark.{byte_of}
use Rattle.fdc.specs.declared.record.Controller.{Controller}
use Rattle.fdc.specs.declared.record.Phase.TheVariants.{Working}
use Rattle.fdc.specs.Commands.{answered_of}
use Rattle.fdc.specs.Record.{with_fifo, with_phase}
use Rattle.reached.specs.Runs.{ticks, after}
use Rattle.fdc.specs.Ticks.{settled_of, decided_of, ruled_of, image_after}
use Rattle.answers.specs.Results as results
use Rattle.answers.specs.Results.{Result, disk_of, head_at, NoTrack, OnTrack, zeros, formatted_id, Before, first_id}
use Rattle.answers.specs.Results.{ChangesJob}
use Rattle.answers.specs.Results.{Misplanned, FirstEnds, During, slot_in, slot_mark, Sought, HasId}
use Rattle.answers.specs.Results.{SecondPass, slot_place}
use Rattle.answers.specs.Results.{FailsWith, FailsLate, RunsOn, SearchEnds, ReadEnds, WriteEnds, AtNext, next_id, EndsByNext, ReadIdEnds}
use Rattle.answers.specs.Results.{FormatEnds, Lost, LostEnds, ResultBytes}
use Rattle.demands.specs.Work.{Real}
use Rattle.demands.proofs.CallLaws.{tick_starts, tick_works, after_tick}
use Rattle.demands.proofs.CourseLaws.{same_geometry}
use Rattle.demands.proofs.QuietLaws.{quiet_real}

-- a disk is the same as itself, and no other is
same_true : (g h : Geometry) → same_of g h ≡ true → g ≡ h
unfolding same_of
same_true g h e =
    let p4 = both (eqb g.cylinders h.cylinders && eqb g.heads h.heads && eqb g.slots h.slots
    && eqb g.n h.n) _ e in
    let p3 = both (eqb g.cylinders h.cylinders && eqb g.heads h.heads && eqb g.slots h.slots) _
    p4.0 in
    let p2 = both (eqb g.cylinders h.cylinders && eqb g.heads h.heads) _ p3.0 in
    let p1 = both (eqb g.cylinders h.cylinders) _ p2.0 in
    let c = eqb-true _ _ p1.0 in
    let d = eqb-true _ _ p1.1 in
    let s = eqb-true _ _ p2.1 in
    let n = eqb-true _ _ p3.1 in
    let p = beq_true _ _ p4.1 in
    λ i. record { cylinders = c i; heads = d i; slots = s i; n = n i; protect = p i }

-- a test that cannot be true is false
cannot : (t : Bool) → (t ≡ true → ⊥) → t ≡ false
cannot true f = absurd (f refl)
cannot false f = refl

lost_stays : (d : Disk) (met : Geometry) → Lost d met → stays_of d met ≡ false
unfolding stays_of
lost_stays None met l = refl
lost_stays (Some g) met l = cannot _ (λ t. l (same_true g met t))

module _ (c : Controller) (a b : List ℕ) where
  -- an end, at the record
  result : (drive : ℕ) (normal : Bool) (d side st1 st2 : ℕ) (id : Id) (effect : Effect)
      → ruled_of a b c ≡ decided_of drive (end_of normal d side st1 st2 id effect) c
      → Result (after (ticks a b) c) (st0_of normal d side) st1 st2 id
  unfolding decided_of settled_of end_of answered_of with_fifo
  result drive normal d side st1 st2 id effect e =
      rw (after_tick a b c, e) (record { waits = refl; seven = refl; bytes = refl; fifo = refl })

  -- the first tick, and a later one whose disk is as it was
  first_is : (order : Order) (step : Step) (disk : Disk) → Before c order → disk_of order.drive a b c ≡ disk
      → begin_of order disk (head_at order.drive c) c.fifo ≡ step
      → ruled_of a b c ≡ decided_of order.drive step c
  first_is order step disk before e s =
      tick_starts a b c order (quiet_real c before.real) before.accepted
      ∙ rw (e, s)

  pub later_is : (work : Work) (step : Step) → During c work a b
      → work_step work (head_at (drive_of work) c) (pick_of (drive_of work) a b) c.fifo c.registers.efifo
      c.registers.fifothr ≡ step
      → ruled_of a b c ≡ decided_of (drive_of work) step c
  unfolding go_on_of stays_of
  later_is work step during s =
      tick_works a b c work (quiet_real c during.real) during.works
      ∙ rw (during.stays, same_geometry (site_of work).disk, s)

  lost_is : (work : Work) → Real c → c.phase ≡ Working work → Lost (disk_of (drive_of work) a b c) (site_of work).disk
      → ruled_of a b c ≡ decided_of (drive_of work) (lost_of work (head_at (drive_of work) c)) c
  unfolding go_on_of
  lost_is work real works l =
      tick_works a b c work (quiet_real c real) works ∙ rw (lost_stays _ (site_of work).disk l)

-- THE FIRST TICK
no_track_false : (g : Geometry) (head side : ℕ) → NoTrack g head side → has_track g head side ≡ false
unfolding has_track
no_track_false g head side (inl h) = rw (le-ltb head g.cylinders h)
no_track_false g head side (inr h) = simp (le-ltb side g.heads h, and-false)

on_track_true : (g : Geometry) (head side : ℕ) → OnTrack g head side → has_track g head side ≡ true
unfolding has_track
on_track_true g head side (h, k) = rw (lt-ltb head g.cylinders h, lt-ltb side g.heads k)

changes_true : (job : Job) → ChangesJob job → changes job ≡ true
changes_true Identify h = absurd h
changes_true (Move transfer id) h = rw h
changes_true (Format plan) h = refl

misplanned_true : (plan : Plan) (g : Geometry) → Misplanned plan g → misplanned (Format plan) g ≡ true
misplanned_true plan g (inl h) = rw (ne_eqb _ _ h)
misplanned_true plan g (inr (inl h)) = simp (eq-eqb _ _ h, or-true)
misplanned_true plan g (inr (inr h)) = simp (lt-ltb _ _ h, or-true)

given_first : (job : Job) (drive side head : ℕ) → given_id job drive side head ≡ first_id job drive side head
unfolding given_id
given_first Identify drive side head = refl
given_first (Move transfer id) drive side head = refl
given_first (Format plan) drive side head = refl

-- each test's end
abbrev fails_at : Order → ℕ → ℕ → Step
fails_at order head st1 =
    end_of false order.drive order.side st1 0x00 (first_id order.job order.drive order.side head) None

module _ (order : Order) (head : ℕ) (fifo : Fifo) where
  begin_empty : begin_of order None head fifo ≡ fails_at order head 0x01
  unfolding begin_of gate_of entered_of
  begin_empty = rw (given_first order.job order.drive order.side head)

  module _ (g : Geometry) where
    begin_no_track : NoTrack g head order.side → begin_of order (Some g) head fifo ≡ fails_at order head 0x01
    unfolding begin_of gate_of entered_of
    begin_no_track h =
        rw (no_track_false g head order.side h, given_first order.job order.drive order.side head)

    begin_protected : OnTrack g head order.side → ChangesJob order.job → g.protect ≡ true
        → begin_of order (Some g) head fifo ≡ fails_at order head 0x02
    unfolding begin_of gate_of entered_of
    begin_protected h w p =
        rw (
          on_track_true g head order.side h,
          changes_true order.job w,
          p,
          given_first order.job order.drive order.side head,
        )

    begin_misplanned : (plan : Plan) → OnTrack g head order.side → order.job ≡ Format plan → g.protect ≡ false
        → Misplanned plan g → begin_of order (Some g) head fifo ≡ fails_at order head 0x04
    unfolding begin_of gate_of entered_of
    begin_misplanned plan h j p m =
        simp (
          on_track_true g head order.side h,
          p,
          j,
          misplanned_true plan g m,
          given_first (Format plan) order.drive order.side head,
        )

first_ends : FirstEnds
first_ends = record {
  empty = λ c order a b before e.
      result c a b _ false _ _ _ _ _ _ (first_is c a b order _ None before e (begin_empty order _ c.fifo));
  no_track = λ c order a b g before e h.
      result c a b _ false _ _ _ _ _ _ (first_is c a b order _ (Some g) before e
      (begin_no_track order _ c.fifo g h));
  protected = λ c order a b g before e h w p.
      result c a b _ false _ _ _ _ _ _ (first_is c a b order _ (Some g) before e
      (begin_protected order _ c.fifo g h w p));
  misplanned = λ c order a b g plan before e h j p m.
      result c a b _ false _ _ _ _ _ _ (first_is c a b order _ (Some g) before e
      (begin_misplanned order _ c.fifo g plan h j p m));
}

-- SEARCH
second_true : (slot passes : ℕ) (site : Site) → SecondPass slot passes site
    → second_pass slot site.disk.slots passes ≡ true
second_true slot passes site (h, k) = rw (le-leb site.disk.slots (slot + 1) h, le-leb 1 passes k)

-- the one sought is what the five tests find
sought_true : (slot : Slot) (site : Site) (task : Task) → Sought slot site task
    → matches slot.id task.id site.disk.n ≡ true
sought_true slot site task (e, n) =
    simp (
      eq-eqb _ _ (ap (λ (i : Id). i.c) e),
      eq-eqb _ _ (ap (λ (i : Id). i.h) e),
      eq-eqb _ _ (ap (λ (i : Id). i.r) e),
      eq-eqb _ _ (ap (λ (i : Id). i.n) e),
      eq-eqb _ _ n,
    )

true_sought : (slot : Slot) (site : Site) (task : Task) → matches slot.id task.id site.disk.n ≡ true
    → Sought slot site task
true_sought slot site task e =
    let p4 = both (eqb slot.id.c task.id.c && eqb slot.id.h task.id.h
    && eqb slot.id.r task.id.r && eqb slot.id.n task.id.n) _ e in
    let p3 = both (eqb slot.id.c task.id.c && eqb slot.id.h task.id.h
    && eqb slot.id.r task.id.r) _ p4.0 in
    let p2 = both (eqb slot.id.c task.id.c && eqb slot.id.h task.id.h) _ p3.0 in
    let p1 = both (eqb slot.id.c task.id.c) _ p2.0 in
    let c = eqb-true _ _ p1.0 in
    let h = eqb-true _ _ p1.1 in
    let r = eqb-true _ _ p2.1 in
    let n = eqb-true _ _ p3.1 in
    (λ i. record { c = c i; h = h i; r = r i; n = n i }, eqb-true _ _ p4.1)

-- the end of a transfer
abbrev failing : ℕ → ℕ → Site → Task → Step
failing st1 st2 site task =
    end_of false site.drive site.side (late_bit task.late + st1) (other_bit task.other + st2) task.id
    None

-- and one for which a byte was late
abbrev failing_late : Effect → Site → Task → Step
failing_late effect site task =
    end_of false site.drive site.side 0x10 (other_bit task.other + 0x00) task.id effect

module _ (site : Site) (task : Task) where
  fails_is : (st1 st2 : ℕ) → move_fails st1 st2 site task ≡ failing st1 st2 site task
  unfolding move_fails move_end
  fails_is st1 st2 = refl

  late_is : (effect : Effect) → late_end effect site task ≡ failing_late effect site task
  unfolding late_end move_end
  late_is effect = refl

  module _ (look : Search) (fifo : Fifo) (p : SecondPass look.slot look.passes site) where
    missed_none : look.met ≡ false → missed_of look site task fifo ≡ failing 0x01 0x00 site task
    unfolding missed_of not_found
    missed_none m = rw (second_true look.slot look.passes site p, m) (fails_is 0x01 0x00)

    missed_met : look.met ≡ true
        → missed_of look site task fifo ≡ failing 0x04 (cylinder_bits look.wrong look.bad) site task
    unfolding missed_of not_found
    missed_met m = rw (second_true look.slot look.passes site p, m) (fails_is 0x04 _)

  missed_other : (m : Mark) (id : Id) (look : Search) (fifo : Fifo) → HasId m
      → matches id task.id site.disk.n ≡ false → SecondPass look.slot look.passes site
      → looked_of m id look site task fifo
      ≡ failing 0x04 (cylinder_bits (noted id task.id look).wrong (noted id task.id look).bad) site task
  unfolding looked_of
  missed_other NoId id look fifo h e p = absurd h
  missed_other (Data deleted broken) id look fifo h e p = rw e (missed_met (noted id task.id look) fifo p refl)
  missed_other NoData id look fifo h e p = rw e (missed_met (noted id task.id look) fifo p refl)

-- a tick of a transfer at a stage, at the record
abbrev pub staged : Controller → Site → Task → List ℕ → List ℕ → Stage → Step
staged c site task a b stage =
    stage_of stage site task (head_at site.drive c) (pick_of site.drive a b) c.fifo c.registers.efifo
    c.registers.fifothr

module _ (c : Controller) (site : Site) (task : Task) (a b : List ℕ) where
  ends_by : (stage : Stage) (normal : Bool) (st1 st2 : ℕ) (id : Id) (effect : Effect)
      → During c (Moving site task stage) a b
      → staged c site task a b stage ≡ end_of normal site.drive site.side st1 st2 id effect
      → Result (after (ticks a b) c) (st0_of normal site.drive site.side) st1 st2 id
  unfolding work_step
  ends_by stage normal st1 st2 id effect during e =
      result c a b site.drive normal _ _ _ _ _ _ (later_is c a b (Moving site task stage) _ during e)

  fails_by : (stage : Stage) (st1 st2 : ℕ) → During c (Moving site task stage) a b
      → staged c site task a b stage ≡ failing st1 st2 site task → FailsWith st1 st2 c site task a b
  fails_by stage st1 st2 during e = ends_by stage false _ _ task.id None during e

  late_by : (stage : Stage) (effect : Effect) → During c (Moving site task stage) a b
      → staged c site task a b stage ≡ failing_late effect site task → FailsLate c site task a b
  late_by stage effect during e = ends_by stage false _ _ task.id effect during e

  -- a tick that ends nothing, a byte late
  runs_by : (stage on : Stage) (effect : Effect) → During c (Moving site task stage) a b
      → staged c site task a b stage ≡ moves_of on site (tardy task) shut effect
      → RunsOn (after (ticks a b) c) site task on
  unfolding work_step decided_of settled_of with_fifo with_phase
  runs_by stage on effect during e =
      rw (after_tick a b c, later_is c a b (Moving site task stage) _ during e) (record { works = refl; fifo = refl })

  -- the slot looked at
  abbrev slot_here : Search → Slot
  slot_here look = slot_in c site a b look.slot

  module _ (look : Search) where
    searched : (m : Mark) → slot_mark (slot_here look) ≡ m
        → staged c site task a b (Searching look) ≡ looked_of m (slot_here look).id look site task c.fifo
    unfolding stage_of search_of
    searched m e = rw e

    no_id_law : SecondPass look.slot look.passes site → slot_mark (slot_here look) ≡ NoId → look.met ≡ false
        → staged c site task a b (Searching look) ≡ failing 0x01 0x00 site task
    unfolding looked_of
    no_id_law p m n = searched NoId m ∙ missed_none site task look c.fifo p n

    others_met : SecondPass look.slot look.passes site → slot_mark (slot_here look) ≡ NoId → look.met ≡ true
        → staged c site task a b (Searching look)
        ≡ failing 0x04 (cylinder_bits look.wrong look.bad) site task
    unfolding looked_of
    others_met p m n = searched NoId m ∙ missed_met site task look c.fifo p n

    other_id : SecondPass look.slot look.passes site → HasId (slot_mark (slot_here look))
        → (Sought (slot_here look) site task → ⊥)
        → staged c site task a b (Searching look)
        ≡ failing 0x04
        (cylinder_bits (noted (slot_here look).id task.id look).wrong
        (noted (slot_here look).id task.id look).bad)
        site task
    other_id p h n =
        searched _ refl
        ∙ missed_other site task (slot_mark (slot_here look)) (slot_here look).id look c.fifo h
        (cannot _ (λ t. n (true_sought (slot_here look) site task t))) p

    no_data_law : task.transfer.pass ≡ Read → slot_mark (slot_here look) ≡ NoData → Sought (slot_here look) site task
        → staged c site task a b (Searching look) ≡ failing 0x01 0x01 site task
    unfolding looked_of bare_found move_fails move_end
    no_data_law r m w = searched NoData m ∙ rw (sought_true (slot_here look) site task w, r)

  no_side_law : (slot : ℕ) → NoTrack site.disk (head_at site.drive c) site.side
      → staged c site task a b (Turning slot) ≡ failing 0x01 0x00 site task
  unfolding stage_of turn_of
  no_side_law slot h = rw (no_track_false site.disk _ site.side h) (fails_is site task 0x01 0x00)

  search_ends : SearchEnds c site task a b
  search_ends = record {
    no_id_law = λ look d p m n. fails_by (Searching look) _ _ d (no_id_law look p m n);
    others_met = λ look d p m n. fails_by (Searching look) _ _ d (others_met look p m n);
    other_id = λ look d p h n. fails_by (Searching look) _ _ d (other_id look p h n);
    no_data_law = λ look d r m w. fails_by (Searching look) _ _ d (no_data_law look r m w);
    no_side_law = λ slot d h. fails_by (Turning slot) _ _ d (no_side_law slot h);
  }

  -- READ
  overrun_is : (sector : Sector) (done : ℕ) (last : Bool) → c.fifo.tc ≡ false
      → capacity_of c.registers.efifo ≤ c.fifo.count → sector_over site done ≡ last
      → staged c site task a b (Reading sector done)
      ≡ moves_of (cond last (Draining sector 0) (Reading sector (done + 1))) site (tardy task) shut None
  unfolding stage_of read_of overrun read_on
  overrun_is sector done true t h l = rw (t, le-leb (capacity_of c.registers.efifo) c.fifo.count h, l)
  overrun_is sector done false t h l = rw (t, le-leb (capacity_of c.registers.efifo) c.fifo.count h, l)

  not_taken : (sector : Sector) (looks : ℕ) → 0 < c.fifo.count → 63 ≤ looks
      → staged c site task a b (Draining sector looks) ≡ failing_late None site task
  unfolding stage_of drain_of
  not_taken sector looks h l =
      rw (ne_eqb c.fifo.count 0 (λ e. omega arith), le-leb 63 looks l) (late_is site task None)

  late_read : (sector : Sector) (looks : ℕ) → c.fifo.count ≡ 0 → sector.broken ≡ false → task.late ≡ true
      → staged c site task a b (Draining sector looks) ≡ failing_late None site task
  unfolding stage_of drain_of drained_of
  late_read sector looks h k l =
      simp (eq-eqb c.fifo.count 0 h, k, l) (late_is site task None)

  data_error : (sector : Sector) (looks : ℕ) → c.fifo.count ≡ 0 → sector.broken ≡ true
      → staged c site task a b (Draining sector looks) ≡ failing 0x20 0x20 site task
  unfolding stage_of drain_of drained_of
  data_error sector looks h k = rw (eq-eqb c.fifo.count 0 h, k) (fails_is site task 0x20 0x20)

  other_kind : (sector : Sector) (looks : ℕ) → c.fifo.count ≡ 0 → sector.broken ≡ false → task.late ≡ false
      → sector.other ≡ true → staged c site task a b (Draining sector looks)
      ≡ end_of true site.drive site.side 0x00 (other_bit task.other + 0x00) task.id None
  unfolding stage_of drain_of drained_of move_end
  other_kind sector looks h k l o = rw (eq-eqb c.fifo.count 0 h, k, l, o)

  read_ends : ReadEnds c site task a b
  read_ends = record {
    overrun = λ sector done d t h l.
        runs_by (Reading sector done) _ _ d
        (overrun_is sector done false t h (lt-leb (size_of site.disk.n) (done + 1) l));
    overrun_last = λ sector done d t h l.
        runs_by (Reading sector done) _ _ d
        (overrun_is sector done true t h (le-leb (size_of site.disk.n) (done + 1) l));
    not_taken = λ sector looks d h l. late_by (Draining sector looks) _ d (not_taken sector looks h l);
    data_error = λ sector looks d h k. fails_by (Draining sector looks) _ _ d (data_error sector looks h k);
    late = λ sector looks d h k l. late_by (Draining sector looks) _ d (late_read sector looks h k l);
    other_kind = λ sector looks d h k l o.
        ends_by (Draining sector looks) true _ _ _ _ d (other_kind sector looks h k l o);
  }

  -- WRITE
  no_byte : (slot wait : ℕ) → c.fifo.count ≡ 0 → 63 ≤ wait
      → staged c site task a b (Awaiting slot wait) ≡ failing_late None site task
  unfolding stage_of await_of
  no_byte slot wait h l = rw (eq-eqb c.fifo.count 0 h, le-leb 63 wait l) (late_is site task None)

  underrun_is : (slot done : ℕ) → c.fifo.count ≡ 0 → done < size_of site.disk.n → c.fifo.tc ≡ false
      → staged c site task a b (Storing slot done)
      ≡ moves_of (Storing slot (done + 1)) site (tardy task) shut
      (Some (put_at (data_place site (head_at site.drive c) slot done) 0x00))
  unfolding stage_of store_of dry_of underrun put_of
  underrun_is slot done h l t = rw (lt-leb (size_of site.disk.n) done l, eq-eqb c.fifo.count 0 h, t)

  short_is : (slot done : ℕ) → size_of site.disk.n ≤ done → task.late ≡ true
      → staged c site task a b (Storing slot done)
      ≡ failing_late (Some (put_at (mark_place site (head_at site.drive c) slot) (written_mark false task))) site task
  unfolding stage_of store_of written_of
  short_is slot done l t = simp (le-leb (size_of site.disk.n) done l, t) (late_is site task _)

  -- the image that a tick at work leaves
  leaves_by : (stage : Stage) (step : Step) (img : List ℕ) → During c (Moving site task stage) a b
      → staged c site task a b stage ≡ step → image_after site.drive a b c img ≡ stored_in step.effect img
  unfolding work_step decided_of image_after
  leaves_by stage step img during e =
      rw (later_is c a b (Moving site task stage) step during e, eq-eqb site.drive site.drive refl)

  zero_is : (slot done : ℕ) → During c (Moving site task (Storing slot done)) a b → c.fifo.count ≡ 0
      → done < size_of site.disk.n → c.fifo.tc ≡ false → (img : List ℕ)
      → image_after site.drive a b c img ≡ set img (slot_place c site slot + 5 + done) 0x00
  unfolding data_place mark_place
  zero_is slot done d h l t img = leaves_by (Storing slot done) _ img d (underrun_is slot done h l t)

  mark_is : (slot done : ℕ) → During c (Moving site task (Storing slot done)) a b → size_of site.disk.n ≤ done
      → task.late ≡ true → (img : List ℕ)
      → image_after site.drive a b c img
      ≡ set img (slot_place c site slot) (byte_of (Data task.transfer.deleted false))
  unfolding end_of mark_place
  mark_is slot done d l t img = leaves_by (Storing slot done) _ img d (short_is slot done l t)

  write_ends : WriteEnds c site task a b
  write_ends = record {
    no_byte = λ slot wait d h l. late_by (Awaiting slot wait) _ d (no_byte slot wait h l);
    underrun = λ slot done d h l t. runs_by (Storing slot done) _ _ d (underrun_is slot done h l t);
    zero = zero_is;
    short_mark = mark_is;
    short = λ slot done d l t. late_by (Storing slot done) _ d (short_is slot done l t);
  }

  -- NEXT: by TC, and past EOT
  follow_tc : (slot : ℕ) (fifo : Fifo) (effect : Effect) (work : Task) → work.late ≡ false
      → follow_of slot true site work fifo effect
      ≡ end_of true site.drive site.side 0x00 (other_bit work.other + 0x00)
      (advanced_of work.id work.transfer.eot work.transfer.mt site.side 1) effect
  unfolding follow_of next_of followed_of move_end
  follow_tc slot fifo effect work n = rw n

  follow_eot : (slot : ℕ) (fifo : Fifo) (effect : Effect) (work : Task) → work.late ≡ false
      → work.id.r ≡ work.transfer.eot → (work.transfer.mt && eqb site.side 0) ≡ false
      → follow_of slot false site work fifo effect
      ≡ end_of false site.drive site.side 0x80 (other_bit work.other + 0x00)
      (advanced_of work.id work.transfer.eot work.transfer.mt site.side 1) effect
  unfolding follow_of next_of followed_of move_end
  follow_eot slot fifo effect work n e m = rw (eq-eqb work.id.r work.transfer.eot e, m, n)

  no_turn : (mt : Bool) → (mt ≡ true → site.side ≡ 0 → ⊥) → (mt && eqb site.side 0) ≡ false
  no_turn true f = ne_eqb site.side 0 (f refl)
  no_turn false f = refl

  -- what a sector that is done is followed by
  pub data Follows (stage : Stage) (tc other : Bool) : Type 0 where
    follows : (slot : ℕ) (effect : Effect) (work : Task) → work.id ≡ task.id → work.transfer ≡ task.transfer
        → work.other ≡ other → work.late ≡ false
        → staged c site task a b stage ≡ follow_of slot tc site work c.fifo effect → Follows stage tc other

  other_true : (t : Bool) → (t || true) ≡ true
  other_true true = refl
  other_true false = refl

  beq_false : (t u : Bool) → (t ≡ u → ⊥) → beq t u ≡ false
  beq_false true true f = absurd (f refl)
  beq_false true false f = refl
  beq_false false true f = refl
  beq_false false false f = absurd (f refl)

  pub at_next : (stage : Stage) (tc other : Bool) → AtNext c site task a b stage tc other → Follows stage tc other
  unfolding stage_of drain_of drained_of store_of written_of search_of looked_of data_found read_found
  at_next stage tc other (results.drained sector looks e h k l o t w) =
      follows sector.slot None task refl refl w l (rw (e, eq-eqb c.fifo.count 0 h, k, l, o, t))
  at_next stage tc other (results.stored slot done e l y t w) =
      follows slot (Some (put_at (mark_place site (head_at site.drive c) slot) (written_mark false task))) task refl refl w y
      (rw (e, le-leb (size_of site.disk.n) done l, y, t))
  at_next stage tc other (results.skipped look deleted broken e r l k m w n t o) =
      follows look.slot None (with_other true task) refl refl (other_true task.other ∙ sym o) l
      (rw (e, m, sought_true (slot_here look) site task w, r, beq_false deleted task.transfer.deleted n, k, t))

  next_ends : EndsByNext c site task a b
  next_ends = record {
    by_tc = λ stage other d n. go_tc stage other d (at_next stage true other n);
    past_eot_law = λ stage other d n e m. go_eot stage other d e m (at_next stage false other n);
  }
    where
      go_tc : (stage : Stage) (other : Bool) → During c (Moving site task stage) a b → Follows stage true other
          → Result (after (ticks a b) c) (st0_of true site.drive site.side) 0x00 (other_bit other + 0x00)
          (next_id site task)
      go_tc stage other d (follows slot effect work i t o n e) =
          ends_by stage true _ _ _ effect d (e ∙ follow_tc slot c.fifo effect work n ∙ rw (i, t, o))

      go_eot : (stage : Stage) (other : Bool) → During c (Moving site task stage) a b
          → task.id.r ≡ task.transfer.eot → (task.transfer.mt ≡ true → site.side ≡ 0 → ⊥)
          → Follows stage false other
          → Result (after (ticks a b) c) (st0_of false site.drive site.side) 0x80 (other_bit other + 0x00)
          (next_id site task)
      go_eot stage other d r m (follows slot effect work i t o n e) =
          ends_by stage false _ _ _ effect d
          (e ∙ follow_eot slot c.fifo effect work n (rw (i, t) r) (rw t (no_turn task.transfer.mt m))
          ∙ rw (i, t, o))

-- READ ID
module _ (c : Controller) (site : Site) (a b : List ℕ) where
  found_is : (m : Mark) (id : Id) (slot passes : ℕ) (fifo : Fifo) → HasId m
      → identified_of m id slot passes site fifo
      ≡ end_of true site.drive site.side 0x00 0x00 id None
  unfolding identified_of id_here
  found_is NoId id slot passes fifo h = absurd h
  found_is (Data deleted broken) id slot passes fifo h = refl
  found_is NoData id slot passes fifo h = refl

  none_is : (id : Id) (slot passes : ℕ) (fifo : Fifo) → SecondPass slot passes site
      → identified_of NoId id slot passes site fifo
      ≡ end_of false site.drive site.side 0x01 0x00 zeros None
  unfolding identified_of no_id_here no_id_of
  none_is id slot passes fifo p = rw (second_true slot passes site p)

  identified : (slot passes : ℕ) (m : Mark) (step : Step) → slot_mark (slot_in c site a b slot) ≡ m
      → identified_of m (slot_in c site a b slot).id slot passes site c.fifo ≡ step
      → work_step (Identifying site slot passes) (head_at site.drive c) (pick_of site.drive a b) c.fifo
      c.registers.efifo c.registers.fifothr ≡ step
  unfolding work_step identify_of
  identified slot passes m step e s = rw e s

  read_id_ends : ReadIdEnds c site a b
  read_id_ends = record {
    found = λ slot passes d h.
        result c a b site.drive true _ _ _ _ _ _ (later_is c a b (Identifying site slot passes) _ d
        (identified slot passes _ _ refl (found_is _ _ slot passes c.fifo h)));
    none = λ slot passes d p m.
        result c a b site.drive false _ _ _ _ _ _ (later_is c a b (Identifying site slot passes) _ d
        (identified slot passes NoId _ m (none_is _ slot passes c.fifo p)));
  }

-- FORMAT
module _ (c : Controller) (site : Site) (plan : Plan) (a b : List ℕ) where
  abbrev formed : Form → Step
  formed f =
      work_step (Formatting site plan f) (head_at site.drive c) (pick_of site.drive a b) c.fifo
      c.registers.efifo c.registers.fifothr

  abbrev end_at : Bool → ℕ → ℕ → Effect → Step
  end_at normal st1 done effect =
      end_of normal site.drive site.side st1 0x00
      (formatted_id plan site.drive (head_at site.drive c) site.side done) effect

  form_await_lem : (slot wait : ℕ) → c.fifo.count ≡ 0 → 63 ≤ wait
      → formed (form.Awaiting slot wait) ≡ end_at false 0x10 slot None
  unfolding work_step form_of form_await format_end
  form_await_lem slot wait h l = rw (eq-eqb c.fifo.count 0 h, le-leb 63 wait l)

  form_missing : (slot k : ℕ) → c.fifo.count ≡ 0 → formed (form.Addressing slot k) ≡ end_at false 0x10 slot None
  unfolding work_step form_of address_of format_end
  form_missing slot k h = rw (eq-eqb c.fifo.count 0 h)

  clears : (slot : ℕ) (effect : Effect) → site.disk.slots ≤ slot + 1
      → clear_on slot site plan (head_at site.drive c) c.fifo effect ≡ end_at true 0x00 plan.sc effect
  unfolding clear_on format_end
  clears slot effect l = rw (le-ltb (slot + 1) site.disk.slots l)

  form_filled : (slot done : ℕ) → size_of site.disk.n ≤ done → plan.sc ≤ slot + 1 → site.disk.slots ≤ slot + 1
      → formed (form.Filling slot done)
      ≡ end_at true 0x00 plan.sc (Some (put_at (mark_place site (head_at site.drive c) slot) (byte_of (Data false false))))
  unfolding work_step form_of fill_of formed_of
  form_filled slot done h k l =
      rw (le-leb (size_of site.disk.n) done h, le-ltb (slot + 1) plan.sc k) (clears slot _ l)

  form_cleared : (slot : ℕ) → site.disk.slots ≤ slot + 1
      → formed (form.Clearing slot)
      ≡ end_at true 0x00 plan.sc (Some (put_at (mark_place site (head_at site.drive c) slot) (byte_of NoId)))
  unfolding work_step form_of clear_of
  form_cleared slot l = clears slot _ l

  formats_by : (f : Form) (normal : Bool) (st1 done : ℕ) (effect : Effect) → During c (Formatting site plan f) a b
      → formed f ≡ end_at normal st1 done effect
      → Result (after (ticks a b) c) (st0_of normal site.drive site.side) st1 0x00
      (formatted_id plan site.drive (head_at site.drive c) site.side done)
  formats_by f normal st1 done effect d e =
      result c a b site.drive normal _ _ _ _ _ _ (later_is c a b (Formatting site plan f) _ d e)

  format_ends : FormatEnds c site plan a b
  format_ends = record {
    no_byte = λ slot wait d h l. formats_by (form.Awaiting slot wait) false _ _ _ d (form_await_lem slot wait h l);
    missing = λ slot k d h. formats_by (form.Addressing slot k) false _ _ _ d (form_missing slot k h);
    filled = λ slot done d h k l. formats_by (form.Filling slot done) true _ _ _ d (form_filled slot done h k l);
    cleared = λ slot d l. formats_by (form.Clearing slot) true _ _ _ d (form_cleared slot l);
  }

-- A DRIVE EMPTIED or a header changed later
lost_ends : (c : Controller) (a b : List ℕ) → LostEnds c a b
unfolding lost_of no_id_of move_fails move_end format_end
lost_ends c a b = record {
  identifies = λ site slot passes real w l.
      result c a b site.drive false _ _ _ _ _ _ (lost_is c a b (Identifying site slot passes) real w l);
  moves = λ site task stage real w l.
      result c a b site.drive false _ _ _ _ _ _ (lost_is c a b (Moving site task stage) real w l);
  formats = λ site plan f real w l.
      result c a b site.drive false _ _ _ _ _ _ (lost_is c a b (Formatting site plan f) real w l);
}

pub result_bytes_lem : ResultBytes
result_bytes_lem = record {
  first = first_ends;
  search = search_ends;
  reads = read_ends;
  writes = write_ends;
  next = next_ends;
  read_id = read_id_ends;
  format = format_ends;
  lost = lost_ends;
}
