-- A read or a write whose first sector is not on the track ends as the search says (specs/NotFound), over every list of
-- calls: in the second pass every slot was looked at, and what was noted of them is all there is.
-- Assumes nothing.
use Rattle.std.specs.Prelude.{None, Some}
use Prim.Native.Nat.{ℕ, zero, suc, ◌+◌, ◌%◌, ◌≤◌, ◌<◌}
use native.Mathlib.Omega.{arith}
use mathlib.Core.Bool.{Bool, true, false, ◌&&◌, ◌||◌, not, cond, true≢false, false≢true}
use mathlib.Core.List.{List}
use mathlib.Core.Logic.{◌⊎◌, inl, inr}
use mathlib.Core.Path.{◌≡◌, refl, sym, ap, subst, ◌∙◌}
use lib.Dec.{eqb, leb}
use borrow.Author.Tests.{lt-ltb, le-ltb, le-leb, lt-leb, leb-true}
use Rattle.chip.specs.declared.fifo.Fifo.{Fifo}
use Rattle.chip.specs.Fifo.{opened_of}
use Rattle.image.specs.declared.layout.Geometry.{Geometry}
use Rattle.image.specs.declared.mark.Mark.{Mark}
use Rattle.image.specs.declared.mark.Mark.TheVariants.{NoId, Data, NoData}
use Rattle.image.specs.declared.slot.Id.{Id}
use Rattle.image.specs.Disk.{disk_in}
use Rattle.image.specs.Layout.{offset_of}
use Rattle.image.specs.Lent.{pick_of}
use Rattle.image.specs.Mark.{mark_of}
use Rattle.image.specs.Slot.{id_at}
use Rattle.image.specs.Sound.{mark_in}
use Rattle.image.proofs.DiskLaws.{present_fits}
use Rattle.image.proofs.TestLaws.{both, le_or_lt}
use Rattle.sectors.specs.declared.order.Job.TheVariants.{Move}
use Rattle.sectors.specs.declared.order.Order.{Order}
use Rattle.sectors.specs.declared.order.Pass.{Pass}
use Rattle.sectors.specs.declared.order.Pass.TheVariants.{Read, Write}
use Rattle.sectors.specs.declared.order.Transfer.{Transfer}
use Rattle.sectors.specs.declared.work.Search.{Search}
use Rattle.sectors.specs.declared.work.Site.{Site}
use Rattle.sectors.specs.declared.work.Stage.TheVariants.{Searching}
use Rattle.sectors.specs.declared.work.Step.{Step}
use Rattle.sectors.specs.declared.work.Task.{Task}
use Rattle.sectors.specs.declared.work.Work.TheVariants.{Moving}
use Rattle.sectors.specs.Follow.{fresh_at}
use Rattle.sectors.specs.Result.{end_of, move_end, move_fails, moves_of}
use Rattle.sectors.specs.Search.{matches, noted, one_on, missed_of, looked_of, search_of}
use Rattle.sectors.specs.Search as finding
use Rattle.sectors.specs.Track.{has_track, stays_of, mark_place}
use Rattle.engine.specs.First.{task_of, gate_of, moving_of, start_job, entered_of, begin_of}
use Rattle.engine.specs.Step.{stage_of, work_step, go_on_of}
use Rattle.fdc.specs.declared.record.Controller.{Controller}
use Rattle.fdc.specs.declared.record.Phase.TheVariants.{Starting, Working}
use Rattle.fdc.specs.Commands.{answered_of}
use Rattle.reached.specs.Moves.{tick_count}
use Rattle.fdc.specs.Record.{drive_at, with_fifo, with_phase}
use Rattle.fdc.specs.Registers.{motor_in}
use Rattle.reached.specs.Runs.{Call}
use Rattle.fdc.specs.Ticks.{seen_of, settled_of, decided_of, ruled_of}
use Rattle.demands.specs.DataError.{Spins}
use Rattle.demands.specs.EndsInTime.{bound_of}
use Rattle.demands.specs.NotFound.{some, has_id, other_below, other_ff, Missing, Misses, NotFound}
use Rattle.demands.specs.PowerCut.{head_of}
use Rattle.demands.specs.Quiet.{Quiet}
use Rattle.demands.specs.Work.{Real, at_work, Alone, EndsWith}
use Rattle.demands.proofs.CallLaws.{tick_starts, tick_works}
use Rattle.demands.proofs.CourseLaws.{same_geometry, low_drive, all_ticks, still_ends}
use Rattle.demands.proofs.CutLaws.{marked_counts, matches_id}
use Rattle.demands.proofs.EndsLaws.{ends_in_time_quiet}
use Rattle.demands.proofs.FollowLaws.{site_at}
use Rattle.demands.proofs.QuietLaws.{quiet_real}
use Rattle.demands.proofs.SucceedsLaws.{counts_marked}
use Rattle.demands.proofs.TickRules.{marked}

or_on : (a : Bool) → (a || true) ≡ true
or_on true = refl
or_on false = refl

or_same : (a : Bool) → (a || false) ≡ a
or_same true = refl
or_same false = refl

-- the two say the same of a mark
marked_is : (v : ℕ) → (leb 1 v && leb v 5) ≡ marked (mark_of v)
marked_is v = go (leb 1 v && leb v 5) refl (marked (mark_of v)) refl
  where
    go : (a : Bool) → (leb 1 v && leb v 5) ≡ a → (b : Bool) → marked (mark_of v) ≡ b
        → (leb 1 v && leb v 5) ≡ marked (mark_of v)
    go a e true f =
        let c = marked_counts v f in
        simp (le-leb 1 v c.0, le-leb v 5 c.1) (sym f)
    go true e false f =
        let t = both (leb 1 v) (leb v 5) e in
        absurd (true≢false (sym (counts_marked v (leb-true 1 v t.0, leb-true v 5 t.1)) ∙ f))
    go false e false f = e ∙ sym f

-- one of the first n
some_at : (f : ℕ → Bool) (n k : ℕ) → k < n → f k ≡ true → some f n ≡ true
some_at f zero k l e = absurd (omega arith)
some_at f (suc n) k l e = go (le_or_lt n k) (some_at f n k)
  where
    go : (n ≤ k) ⊎ (k < n) → (k < n → f k ≡ true → some f n ≡ true) → (some f n || f n) ≡ true
    go (inl m) ih = let s : n ≡ k = omega arith in rw (s, e) (or_on (some f k))
    go (inr m) ih = rw (ih m e)

-- one looked at again says nothing new
some_again : (f : ℕ → Bool) (n k : ℕ) → k < n → (some f n || f k) ≡ some f n
some_again f n k l = go (f k) refl
  where
    go : (t : Bool) → f k ≡ t → (some f n || f k) ≡ some f n
    go true e = rw (some_at f n k l e)
    go false e = rw e (or_same (some f n))

some_none : (f h : ℕ → Bool) → ((k : ℕ) → h k ≡ false → f k ≡ false) → (n : ℕ) → some h n ≡ false → some f n ≡ false
some_none f h w zero e = refl
some_none f h w (suc n) e = go (some h n) refl (h n) refl e (some_none f h w n)
  where
    go : (a : Bool) → some h n ≡ a → (b : Bool) → h n ≡ b → (a || b) ≡ false
        → (some h n ≡ false → some f n ≡ false) → (some f n || f n) ≡ false
    go true p b q r ih = absurd (true≢false r)
    go false p true q r ih = absurd (true≢false r)
    go false p false q r ih = simp (ih p, w n q)

-- the look after a slot that is not the one sought
abbrev saw_of : Bool → Id → Id → Search → Search
saw_of b id wanted look = cond b (noted id wanted look) look

saw_slot : (b : Bool) (id wanted : Id) (look : Search) → (saw_of b id wanted look).slot ≡ look.slot
saw_slot true id wanted look = refl
saw_slot false id wanted look = refl

saw_passes : (b : Bool) (id wanted : Id) (look : Search) → (saw_of b id wanted look).passes ≡ look.passes
saw_passes true id wanted look = refl
saw_passes false id wanted look = refl

-- what a search has noted
record Flags (look : Search) (met below ff : Bool) : Type 0 where
  met_is : look.met ≡ met
  below_is : look.wrong ≡ below
  ff_is : look.bad ≡ ff

saw_flags : (b : Bool) (id wanted : Id) (look : Search) (met below ff : Bool) → Flags look met below ff
    → Flags (saw_of b id wanted look) (met || b)
    (below || (b && not (eqb id.c wanted.c) && not (eqb id.c 0xFF)))
    (ff || (b && not (eqb id.c wanted.c) && eqb id.c 0xFF))
saw_flags true id wanted look met below ff f =
    record { met_is = sym (or_on met); below_is = rw f.below_is; ff_is = rw f.ff_is }
saw_flags false id wanted look met below ff f =
    record {
      met_is = f.met_is ∙ sym (or_same met);
      below_is = f.below_is ∙ sym (or_same below);
      ff_is = f.ff_is ∙ sym (or_same ff);
    }

looked_is : (m : Mark) (id : Id) (look : Search) (site : Site) (task : Task) (fifo : Fifo)
    → (marked m && matches id task.id site.disk.n) ≡ false
    → looked_of m id look site task fifo ≡ missed_of (saw_of (marked m) id task.id look) site task fifo
unfolding looked_of
looked_is NoId id look site task fifo h = refl
looked_is (Data deleted broken) id look site task fifo h = rw h refl
looked_is NoData id look site task fifo h = rw h refl

module _ (img : List ℕ) (g : Geometry) (disk : disk_in img ≡ Some g) (order : Order) (low : order.drive < 4)
    (cylinder : ℕ) (transfer : Transfer) (id : Id) (job : order.job ≡ Move transfer id)
    (missing : Missing g img cylinder order.side transfer id) where
  abbrev site : Site
  site = site_at order.drive order.side g

  abbrev task : Task
  task = task_of transfer id

  abbrev place : ℕ → ℕ
  place k = offset_of g cylinder order.side k

  abbrev is_id : ℕ → Bool
  is_id k = has_id g img cylinder order.side k

  abbrev below : ℕ → Bool
  below k = other_below g img cylinder order.side id.c k

  abbrev ff : ℕ → Bool
  ff k = other_ff g img cylinder order.side id.c k

  -- of the first n slots
  abbrev Noted : Search → ℕ → Type 0
  Noted look n = Flags look (some is_id n) (some below n) (some ff n)

  -- in the first pass those before the look, in the second all
  record On (look : Search) : Type 0 where
    on_track : look.slot < g.slots
    so_far : ((look.passes ≡ 0) × Noted look look.slot) ⊎ ((look.passes ≡ 1) × Noted look g.slots)

  some_slots : 1 ≤ g.slots
  some_slots = (present_fits img g disk).range.slots.0

  -- no slot is the one sought
  missed : (k : ℕ) → k < g.slots
      → (marked (mark_of (mark_in g img cylinder order.side k)) && matches (id_at img (place k)) id g.n) ≡ false
  missed k l = go (marked (mark_of (mark_in g img cylinder order.side k)) && matches (id_at img (place k)) id g.n) refl
    where
      go : (t : Bool)
          → (marked (mark_of (mark_in g img cylinder order.side k)) && matches (id_at img (place k)) id g.n) ≡ t
          → (marked (mark_of (mark_in g img cylinder order.side k)) && matches (id_at img (place k)) id g.n) ≡ false
      go true e =
          let (m, i) = both (marked (mark_of (mark_in g img cylinder order.side k))) _ e in
          let (same, size) = matches_id (id_at img (place k)) id g.n i in
          absurd (missing.none (place k) (record {
            slot = k;
            has = record { on_disk = missing.on_disk; on_cylinder = missing.on_cylinder; on_track = l };
            place = refl;
            marked = marked_counts _ m;
            address = same;
            size = ap (λ (x : Id). x.n) (sym same) ∙ size;
          }))
      go false e = e

  abbrev saw : Search → Search
  saw look =
      saw_of (marked (mark_of (mark_in g img cylinder order.side look.slot))) (id_at img (place look.slot)) id look

  saw_at : (look : Search) → (saw look).slot ≡ look.slot
  saw_at look =
      saw_slot (marked (mark_of (mark_in g img cylinder order.side look.slot))) (id_at img (place look.slot)) id look

  saw_pass : (look : Search) → (saw look).passes ≡ look.passes
  saw_pass look =
      saw_passes (marked (mark_of (mark_in g img cylinder order.side look.slot))) (id_at img (place look.slot)) id
      look

  looks : (look : Search) (fifo : Fifo) → look.slot < g.slots
      → search_of look site task cylinder img fifo ≡ missed_of (saw look) site task fifo
  unfolding search_of mark_place
  looks look fifo l = looked_is _ _ look site task fifo (missed look.slot l)

  -- what one more look notes
  noted_on : (look : Search) (n : ℕ) → Noted look n
      → Flags (saw look) (some is_id n || is_id look.slot) (some below n || below look.slot)
      (some ff n || ff look.slot)
  noted_on look n f =
      rw (marked_is (mark_in g img cylinder order.side look.slot))
      (saw_flags _ (id_at img (place look.slot)) id look _ _ _ f)

  noted_again : (look : Search) → look.slot < g.slots → Noted look g.slots → Noted (saw look) g.slots
  noted_again look l f =
      let h = noted_on look g.slots f in
      record {
        met_is = h.met_is ∙ some_again is_id g.slots look.slot l;
        below_is = h.below_is ∙ some_again below g.slots look.slot l;
        ff_is = h.ff_is ∙ some_again ff g.slots look.slot l;
      }

  abbrev met_all : Bool
  met_all = some is_id g.slots

  abbrev below_all : Bool
  below_all = some below g.slots

  abbrev ff_all : Bool
  ff_all = some ff g.slots

  data Leads (o : Step) : Type 0 where
    goes : (look : Search) (fifo : Fifo) → On look → o ≡ moves_of (Searching look) site task fifo None → Leads o
    ends : o ≡ end_of false order.drive order.side (cond met_all 0x04 0x01)
        (cond below_all 0x10 0x00 + cond ff_all 0x02 0x00) id None → Leads o

  below_id : (k : ℕ) → is_id k ≡ false → below k ≡ false
  below_id k e = rw e

  ff_id : (k : ℕ) → is_id k ≡ false → ff k ≡ false
  ff_id k e = rw e

  -- the second pass is over
  last_look_lem : (look : Search) → Noted look g.slots → Leads (finding.not_found look site task)
  unfolding finding.not_found move_fails move_end
  last_look_lem look f = go met_all refl
    where
      go : (t : Bool) → met_all ≡ t → Leads (finding.not_found look site task)
      go true e =
          ends (simp (f.met_is, e, f.below_is, f.ff_is)
          (ap (λ (x : ℕ). end_of false order.drive order.side 0x04 x id None) (omega arith)))
      go false e =
          ends (simp (
            f.met_is,
            e,
            some_none below is_id below_id g.slots e,
            some_none ff is_id ff_id g.slots e,
          ))

  -- a slot that is not the one sought was looked at
  on_one : (look : Search) (fifo : Fifo) → look.slot < g.slots
      → ((look.passes ≡ 0) × Noted look (suc look.slot)) ⊎ ((look.passes ≡ 1) × Noted look g.slots)
      → Leads (missed_of look site task fifo)
  unfolding missed_of
  on_one look fifo l so_far = go (le_or_lt g.slots (look.slot + 1)) so_far
    where
      go : (g.slots ≤ look.slot + 1) ⊎ (look.slot + 1 < g.slots)
          → ((look.passes ≡ 0) × Noted look (suc look.slot)) ⊎ ((look.passes ≡ 1) × Noted look g.slots)
          → Leads (missed_of look site task fifo)
      go (inl m) (inr (p, f)) =
          rw (le-leb g.slots (look.slot + 1) m, le-leb 1 look.passes (omega arith)) (last_look_lem look f)
      go (inl m) (inl (p, f)) =
          let e : suc look.slot ≡ g.slots = omega arith in
          let f' : Noted look g.slots = subst (Noted look) e f in
          goes (one_on look g.slots) fifo
          (record {
            on_track = rw (le-ltb (look.slot + 1) g.slots m) (omega (arith, some_slots));
            so_far = inr (
              rw (le-leb g.slots (look.slot + 1) m) refl,
              record { met_is = f'.met_is; below_is = f'.below_is; ff_is = f'.ff_is },
            );
          })
          (simp (le-leb g.slots (look.slot + 1) m, p))
      go (inr m) (inl (p, f)) =
          let e : suc look.slot ≡ look.slot + 1 = omega arith in
          let f' : Noted look (look.slot + 1) = subst (Noted look) e f in
          goes (one_on look g.slots) fifo
          (record {
            on_track = rw (lt-ltb (look.slot + 1) g.slots m) m;
            so_far = inl (
              rw (lt-leb g.slots (look.slot + 1) m) p,
              rw (lt-ltb (look.slot + 1) g.slots m)
                  (record { met_is = f'.met_is; below_is = f'.below_is; ff_is = f'.ff_is }),
            );
          })
          (simp (lt-leb g.slots (look.slot + 1) m))
      go (inr m) (inr (p, f)) =
          goes (one_on look g.slots) fifo
          (record {
            on_track = rw (lt-ltb (look.slot + 1) g.slots m) m;
            so_far = inr (
              rw (lt-leb g.slots (look.slot + 1) m) p,
              record { met_is = f.met_is; below_is = f.below_is; ff_is = f.ff_is },
            );
          })
          (simp (lt-leb g.slots (look.slot + 1) m))

  look_leads : (look : Search) (fifo : Fifo) → On look → Leads (search_of look site task cylinder img fifo)
  look_leads look fifo on =
      rw (looks look fifo on.on_track) (on_one (saw look) fifo (subst (λ (s : ℕ). s < g.slots) (sym (saw_at look)) on.on_track) (go on.so_far))
    where
      go : ((look.passes ≡ 0) × Noted look look.slot) ⊎ ((look.passes ≡ 1) × Noted look g.slots)
          → (((saw look).passes ≡ 0) × Noted (saw look) (suc (saw look).slot))
          ⊎ (((saw look).passes ≡ 1) × Noted (saw look) g.slots)
      go (inl (p, f)) =
          inl (
            saw_pass look ∙ p,
            subst (λ (s : ℕ). Noted (saw look) (suc s)) (sym (saw_at look)) (noted_on look look.slot f),
          )
      go (inr (p, f)) = inr (saw_pass look ∙ p, noted_again look on.on_track f)

  -- The record.
  abbrev Said : Controller → Type 0
  Said c = Misses order id met_all below_all ff_all c

  data Way (c : Controller) : Type 0 where
    starts : c.phase ≡ Starting order → Way c
    works : (look : Search) → c.phase ≡ Working (Moving site task (Searching look)) → On look → Way c
    over : Said c → Way c

  seen : (dor : ℕ) → motor_in dor order.drive ≡ true → seen_of dor order.drive img ≡ Some g
  unfolding seen_of
  seen dor m = rw (m, disk)

  fresh_on : On (fresh_at 0)
  fresh_on =
      record {
        on_track = omega (arith, some_slots);
        so_far = inl (refl, record { met_is = refl; below_is = refl; ff_is = refl });
      }

  -- the first tick: the tests are passed, and the search starts at slot 0
  starts_at : (pass : Pass) (fifo : Fifo) → Leads (moving_of pass transfer id site fifo)
  unfolding moving_of
  starts_at Read fifo = goes (fresh_at 0) fifo fresh_on refl
  starts_at Write fifo = goes (fresh_at 0) (opened_of fifo) fresh_on refl

  begun : (fifo : Fifo) → begin_of order (Some g) cylinder fifo ≡ moving_of transfer.pass transfer id site fifo
  unfolding begin_of gate_of entered_of start_job has_track
  begun fifo = go transfer.pass refl
    where
      go : (pass : Pass) → transfer.pass ≡ pass
          → begin_of order (Some g) cylinder fifo ≡ moving_of transfer.pass transfer id site fifo
      go Read e =
          simp (
            job,
            e,
            lt-ltb cylinder g.cylinders missing.on_disk,
            lt-ltb order.side g.heads missing.on_cylinder,
          )
      go Write e =
          simp (
            job,
            e,
            missing.writable e,
            lt-ltb cylinder g.cylinders missing.on_disk,
            lt-ltb order.side g.heads missing.on_cylinder,
          )

  gone_on : (look : Search) (fifo : Fifo) (efifo : Bool) (fifothr : ℕ)
      → go_on_of (Moving site task (Searching look)) (Some g) cylinder img fifo efifo fifothr
      ≡ search_of look site task cylinder img fifo
  unfolding go_on_of stays_of work_step stage_of
  gone_on look fifo efifo fifothr = simp (same_geometry g)

  landed : (c : Controller) (o : Step) → Leads o → Way (settled_of o.then o.fifo c)
  unfolding settled_of with_fifo with_phase answered_of end_of
  landed c o (goes look fifo on e) = rw e (works look refl on)
  landed c o (ends e) = rw e (over (record { waits = refl; st0 = refl; st1 = refl; st2 = refl; address = refl }))

  no_effect : (o : Step) → Leads o → o.effect ≡ None
  unfolding end_of
  no_effect o (goes look fifo on e) = rw e
  no_effect o (ends e) = rw e

  over_so : (c : Controller) → Way c → at_work c.phase ≡ false → Said c
  over_so c (starts p) a = absurd (true≢false (sym (ap at_work p) ∙ a))
  over_so c (works look p on) a = absurd (true≢false (sym (ap at_work p) ∙ a))
  over_so c (over s) a = s

  -- where a tick's step leads
  led : (c : Controller) (o : Step) → Leads o → (o.effect ≡ None) × Way (settled_of o.then o.fifo c)
  led c o on = (no_effect o on, landed c o on)

  step_of : (a b : List ℕ) (c : Controller) → Quiet c → at_work c.phase ≡ true
      → motor_in c.registers.dor order.drive ≡ true → pick_of order.drive a b ≡ img
      → (drive_at (order.drive % 4) c.drives).head ≡ cylinder → Unit {0} → Way c
      → (o : Step) × (ruled_of a b c ≡ decided_of order.drive o c)
      × ((o.effect ≡ None) × Way (settled_of o.then o.fifo c))
  step_of a b c q w motor lent heads t (starts p) = (
    moving_of transfer.pass transfer id site c.fifo,
    tick_starts a b c order q p ∙ rw (lent, seen _ motor, heads, begun c.fifo),
    led c _ (starts_at transfer.pass c.fifo),
  )
  step_of a b c q w motor lent heads t (works look p on) = (
    search_of look site task cylinder img c.fifo,
    tick_works a b c (Moving site task (Searching look)) q p
        ∙ rw (lent, seen _ motor, heads, gone_on look c.fifo c.registers.efifo c.registers.fifothr),
    led c _ (look_leads look c.fifo on),
  )
  step_of a b c q w motor lent heads t (over s) = absurd (false≢true (sym (ap at_work s.waits) ∙ w))

  on_phase : (c e : Controller) → e.phase ≡ c.phase → at_work c.phase ≡ true → Way c → Way e
  on_phase c e same w (starts p) = starts (same ∙ p)
  on_phase c e same w (works look p on) = works look (same ∙ p) on
  on_phase c e same w (over s) = absurd (false≢true (sym (ap at_work s.waits) ∙ w))

  ends_said : (calls : List Call) (c : Controller) → Quiet c → c.phase ≡ Starting order
      → (drive_at order.drive c.drives).head ≡ cylinder → Spins order.drive calls c
      → Alone order.drive img calls c → bound_of g ≤ tick_count calls → EndsWith Said calls c
  ends_said calls c q p h spins alone more =
      still_ends order low cylinder img (λ e. Unit {0}) Way Said on_phase step_of over_so calls c q h (starts p) spins
      alone (all_ticks _ (λ x. tt) calls c) (ends_in_time_quiet c q order p img g disk calls alone more)

pub not_found_quiet : NotFound Quiet
not_found_quiet c q order transfer id x img g disk missing calls spins alone more =
    ends_said img g disk order (low_drive c order q x.accepted) (head_of order c) transfer id x.moves missing calls c
    q x.accepted refl spins alone more

pub not_found_lem : NotFound Real
not_found_lem c r = not_found_quiet c (quiet_real c r)
