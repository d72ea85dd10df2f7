-- Demand 1, "No command runs past its stated ticks, however the host behaves", over every list of calls (01 End,
-- Commands Sense Drive). The ticks left (BoundLaws) fall with every tick, and no other call raises them.
-- Assumes nothing.
use Rattle.std.specs.Prelude.{None, Some}
use Rattle.image.specs.Lent.{put_at}
use Prim.Native.Nat.{ℕ, ◌+◌, ◌%◌, ◌≤◌, ◌<◌}
use native.Mathlib.Omega.{arith}
use mathlib.Core.Bool.{Bool, true, false, true≢false, false≢true}
use mathlib.Core.List.{List, [], ◌∷◌}
use mathlib.Core.Logic.{◌⊎◌, inl, inr}
use mathlib.Core.Path.{◌≡◌, refl, ap, ◌∙◌, subst}
use borrow.Author.Tests.{eq-eqb}
use Rattle.image.specs.Disk.{Disk}
use Rattle.image.specs.declared.layout.Geometry.{Geometry}
use Rattle.image.specs.Lent.{Effect}
use Rattle.image.specs.Disk.{disk_in}
use Rattle.image.specs.Lent.{pick_of, stored_in}
use Rattle.image.proofs.DiskLaws.{present_fits, store_keeps_disk}
use Rattle.image.proofs.TestLaws.{by_test}
use Rattle.chip.specs.declared.fifo.Fifo.{Fifo}
use Rattle.sectors.specs.declared.order.Order.{Order}
use Rattle.sectors.specs.declared.work.Step.{Step}
use Rattle.sectors.specs.declared.work.Then.{Then}
use Rattle.sectors.specs.declared.work.Then.TheVariants as then
use Rattle.sectors.specs.declared.work.Work.{Work}
use Rattle.engine.specs.First.{gate_of, entered_of, begin_of}
use Rattle.engine.specs.Kept.{then_drive, store_place}
use Rattle.sectors.specs.Result.{end_of}
use Rattle.engine.specs.Step.{site_of, drive_of, go_on_of}
use Rattle.engine.proofs.KeptLaws.{begin_kept, go_on_kept}
use Rattle.fdc.specs.declared.record.Controller.{Controller}
use Rattle.fdc.specs.declared.record.Phase.{Phase}
use Rattle.fdc.specs.declared.record.Phase.TheVariants.{Idle, Gathering, Starting, Working, Sensing, Answering}
use Rattle.fdc.specs.declared.ticks.Decision.{Decision}
use Rattle.fdc.specs.Commands.{answered_of, said_of}
use Rattle.reached.specs.Moves.{tick_one, tick_count}
use Rattle.fdc.specs.Record.{drive_at, with_fifo, with_phase}
use Rattle.fdc.specs.Registers.{held_in, motor_in}
use Rattle.reached.specs.Runs.{Call, ticks, after}
use Rattle.fdc.specs.Ticks.{seen_of, sensed_at, still_of, settled_of, decided_of, decide_in, decide_of, ruled_of, image_after}
use Rattle.reached.proofs.GoodLaws.{good_valid}
use Rattle.demands.specs.EndsInTime.{bound_of, EndsInTime, EndsInOne, SensesInOne}
use Rattle.demands.specs.Work.{at_work, image_by, Handed, Alone, EndsWith, Anyhow, Real}
use Rattle.demands.proofs.BoundLaws.{work_left, then_left, ProperWork, ProperThen, Falls, work_pos, go_on_falls, begin_falls}
use Rattle.demands.proofs.CallLaws.{tick_starts, tick_works, call_rule, after_tick}
use Rattle.demands.proofs.CallRules.{NoTick, CallRule, cut_off, goes_on_lem}
use Rattle.demands.proofs.SplitLaws.{tick_or_not, image_same, no_tick}
use Rattle.demands.specs.Quiet.{Quiet}
use Rattle.demands.proofs.QuietLaws.{quiet_real, quiet_after}

-- where a drive's head stands
abbrev head_at : ℕ → Controller → ℕ
head_at drive c = (drive_at (drive % 4) c.drives).head

abbrev then_phase : Then → Phase
then_phase (then.Ends verdict) = Answering true
then_phase (then.Works work) = Working work

settled_phase : (t : Then) (fifo : Fifo) (c : Controller) → (settled_of t fifo c).phase ≡ then_phase t
unfolding settled_of with_fifo with_phase answered_of
settled_phase (then.Ends verdict) fifo c = refl
settled_phase (then.Works work) fifo c = refl

settled_drives : (t : Then) (fifo : Fifo) (c : Controller) → (settled_of t fifo c).drives ≡ c.drives
unfolding settled_of with_fifo with_phase answered_of
settled_drives (then.Ends verdict) fifo c = refl
settled_drives (then.Works work) fifo c = refl

-- a store behind the header keeps the disk
effect_keeps : (e : Effect) (img : List ℕ) → 13 ≤ store_place e → disk_in (stored_in e img) ≡ disk_in img
effect_keeps None img h = refl
effect_keeps (Some put) img h = store_keeps_disk img put.at put.byte (omega arith)

-- what a motor leaves of a disk
seen_is : (dor drive : ℕ) (img : List ℕ) (g : Geometry) → disk_in img ≡ Some g
    → (seen_of dor drive img ≡ None) ⊎ (seen_of dor drive img ≡ Some g)
unfolding seen_of
seen_is dor drive img g e =
    by_test (motor_in dor drive) (λ (d : Disk). (d ≡ None) ⊎ (d ≡ Some g)) _ _ (λ t. inr e) (λ t. inl refl)

module _ (drive : ℕ) (g : Geometry) where
  -- a command of that drive, on that disk from its first tick on
  abbrev On : Phase → Type 0
  On Idle = Unit {0}
  On (Gathering entry) = Unit {0}
  On (Starting order) = order.drive ≡ drive
  On (Working work) = (drive_of work ≡ drive) × ((site_of work).disk ≡ g) × ProperWork work
  On (Sensing unit) = Unit {0}
  On (Answering loud) = Unit {0}

  -- ticks left, at most
  abbrev phase_left : List ℕ → ℕ → Phase → ℕ
  phase_left img head Idle = 0
  phase_left img head (Gathering entry) = 0
  phase_left img head (Starting order) = bound_of g
  phase_left img head (Working work) = work_left img head work
  phase_left img head (Sensing unit) = 0
  phase_left img head (Answering loud) = 0

  bound_some : 0 < bound_of g
  unfolding bound_of
  bound_some = omega arith

  some_left : (img : List ℕ) (head : ℕ) (p : Phase) → On p → at_work p ≡ true → 0 < phase_left img head p
  some_left img head Idle o w = absurd (false≢true w)
  some_left img head (Gathering entry) o w = absurd (false≢true w)
  some_left img head (Starting order) o w = bound_some
  some_left img head (Working work) o w = work_pos img head work o.2
  some_left img head (Sensing unit) o w = absurd (false≢true w)
  some_left img head (Answering loud) o w = absurd (false≢true w)

  none_left : (img : List ℕ) (head : ℕ) (p : Phase) → at_work p ≡ false → On p × (phase_left img head p ≡ 0)
  none_left img head Idle w = (tt, refl)
  none_left img head (Gathering entry) w = (tt, refl)
  none_left img head (Starting order) w = absurd (true≢false w)
  none_left img head (Working work) w = absurd (true≢false w)
  none_left img head (Sensing unit) w = (tt, refl)
  none_left img head (Answering loud) w = (tt, refl)

  on_then : (t : Then) → then_drive drive t ≡ drive → ProperThen g t → On (then_phase t)
  on_then (then.Ends verdict) d p = tt
  on_then (then.Works work) d p = (d, p.0, p.1)

  left_then : (img : List ℕ) (head : ℕ) (t : Then) → phase_left img head (then_phase t) ≡ then_left img head t
  left_then img head (then.Ends verdict) = refl
  left_then img head (then.Works work) = refl

  left_goes : (t : Then) (p : Phase) (img jmg : List ℕ) (head head' m : ℕ) → p ≡ then_phase t → jmg ≡ img
      → head' ≡ head → then_left img head t < m → phase_left jmg head' p + 1 ≤ m
  left_goes t p img jmg head head' m e i h l = rw (e, i, h) (omega (arith, left_then img head t))

  -- what a call leaves of a command at work
  record Goes (img : List ℕ) (call : Call) (c : Controller) : Type 0 where
    on : On (after call c).phase
    disk : disk_in (image_by drive img call c) ≡ Some g
    left : phase_left (image_by drive img call c) (head_at drive (after call c)) (after call c).phase + tick_one call
        ≤ phase_left img (head_at drive c) c.phase

  -- a tick, by what the engine decides
  tick_goes : (img a b : List ℕ) (c : Controller) (step : Step) → disk_in img ≡ Some g
      → ruled_of a b c ≡ decided_of drive step c
      → Falls g img (head_at drive c) (phase_left img (head_at drive c) c.phase) step
      → 13 ≤ store_place step.effect → then_drive drive step.then ≡ drive → Goes img (ticks a b) c
  unfolding image_after decided_of
  tick_goes img a b c step d e f s p =
      let phase : (after (ticks a b) c).phase ≡ then_phase step.then =
      ap (λ (x : Controller). x.phase) (after_tick a b c) ∙ ap (λ (x : Decision). x.controller.phase) e
      ∙ settled_phase step.then step.fifo c in
      let drives : (after (ticks a b) c).drives ≡ c.drives =
      ap (λ (x : Controller). x.drives) (after_tick a b c) ∙ ap (λ (x : Decision). x.controller.drives) e
      ∙ settled_drives step.then step.fifo c in
      let image : image_after drive a b c img ≡ stored_in step.effect img =
      rw (e, eq-eqb drive drive refl) refl in
      record {
        on = rw phase (on_then step.then p f.proper);
        disk = rw image (effect_keeps step.effect img s ∙ d);
        left = left_goes step.then _ _ _ _ _ _ phase image (ap (λ d. (drive_at (drive % 4) d).head) drives) f.less;
      }

-- the first tick, and each later one
module _ (g : Geometry) (img a b : List ℕ) (c : Controller) (q : Quiet c) (d : disk_in img ≡ Some g) where
  some_slots : 0 < g.slots
  some_slots = (present_fits img g d).range.slots.0

  first_goes : (order : Order) → c.phase ≡ Starting order → pick_of order.drive a b ≡ img
      → Goes order.drive g img (ticks a b) c
  first_goes order e h =
      let disk = seen_of c.registers.dor order.drive (pick_of order.drive a b) in
      let head = head_at order.drive c in
      let proper = rw e at q.proper in
      let k = begin_kept order disk head c.fifo c.registers.efifo in
      tick_goes order.drive g img a b c (begin_of order disk head c.fifo) d
      (tick_starts a b c order q e)
      (rw e (begin_falls g img head c.fifo order.drive order.side some_slots order refl refl proper.2 disk
      (seen_is c.registers.dor order.drive (pick_of order.drive a b) g (ap disk_in h ∙ d))))
      k.behind k.place

  later_goes : (work : Work) → c.phase ≡ Working work → (site_of work).disk ≡ g → ProperWork work
      → pick_of (drive_of work) a b ≡ img → Goes (drive_of work) g img (ticks a b) c
  later_goes work e s w h =
      let disk = seen_of c.registers.dor (drive_of work) (pick_of (drive_of work) a b) in
      let head = head_at (drive_of work) c in
      let k = go_on_kept work disk head (pick_of (drive_of work) a b) c.fifo c.registers.efifo
      c.registers.fifothr in
      tick_goes (drive_of work) g img a b c _ d (tick_works a b c work q e)
      (rw e (falls disk head (pick_of (drive_of work) a b) h))
      k.behind k.place
    where
      falls : (disk : Disk) (head : ℕ) (jmg : List ℕ) → jmg ≡ img
          → Falls g img head (work_left img head work)
          (go_on_of work disk head jmg c.fifo c.registers.efifo c.registers.fifothr)
      falls disk head jmg i =
          let some : 0 < (site_of work).disk.slots = rw s some_slots in
          rw (i, ← s) (go_on_falls img head c.fifo c.registers.efifo c.registers.fifothr work disk some w)

module _ (drive : ℕ) (g : Geometry) where
  tick_goes_in : (img a b : List ℕ) (c : Controller) (p : Phase) → c.phase ≡ p → Quiet c → On drive g p
      → disk_in img ≡ Some g → at_work p ≡ true → pick_of drive a b ≡ img → Goes drive g img (ticks a b) c
  tick_goes_in img a b c Idle e q o d w h = absurd (false≢true w)
  tick_goes_in img a b c (Gathering entry) e q o d w h = absurd (false≢true w)
  tick_goes_in img a b c (Starting order) e q o d w h =
      subst (λ (k : ℕ). pick_of k a b ≡ img → Goes k g img (ticks a b) c) o (first_goes g img a b c q d order e) h
  tick_goes_in img a b c (Working work) e q o d w h =
      subst (λ (k : ℕ). pick_of k a b ≡ img → Goes k g img (ticks a b) c) o.0
      (later_goes g img a b c q d work e o.1 o.2) h
  tick_goes_in img a b c (Sensing unit) e q o d w h = absurd (false≢true w)
  tick_goes_in img a b c (Answering loud) e q o d w h = absurd (false≢true w)

  -- a call that is no tick ends the command or leaves it as it is
  record Stays (img : List ℕ) (c e : Controller) : Type 0 where
    on : On drive g e.phase
    left : phase_left drive g img (head_at drive e) e.phase ≤ phase_left drive g img (head_at drive c) c.phase

  stays : (img : List ℕ) (call : Call) (c e : Controller) → CallRule call c e → On drive g c.phase → Stays img c e
  stays img call c e (cut_off w h) o =
      let n = none_left drive g img (head_at drive e) e.phase (ap at_work w) in
      record { on = n.0; left = omega (arith, n.1) }
  stays img call c e (goes_on_lem k f) o =
      record { on = rw k.phase o; left = rw (k.phase, k.heads (drive % 4) (omega arith)) (omega arith) }

  other_goes : (img : List ℕ) (call : Call) (c : Controller) → Quiet c → at_work c.phase ≡ true → NoTick call
      → On drive g c.phase → disk_in img ≡ Some g → Goes drive g img call c
  other_goes img call c q w n o d =
      let s = stays img call c (after call c) (call_rule call c q w n) o in
      let i = image_same drive img call c n in
      record { on = s.on; disk = rw i d; left = rw (i, no_tick call n) (omega (arith, s.left)) }

  call_goes : (img : List ℕ) (call : Call) (c : Controller) → Quiet c → at_work c.phase ≡ true → On drive g c.phase
      → disk_in img ≡ Some g → Handed drive img call → Goes drive g img call c
  call_goes img call c q w o d h =
      tick_or_not
      (λ x. Handed drive img x → Goes drive g img x c)
      (λ a b h. tick_goes_in img a b c c.phase refl q o d w h)
      (λ x n h. other_goes img x c q w n o d) call h

  -- no more ticks than are left
  pub ends_by : (calls : List Call) (img : List ℕ) (c : Controller) → Quiet c → On drive g c.phase
      → disk_in img ≡ Some g → Alone drive img calls c
      → phase_left drive g img (head_at drive c) c.phase ≤ tick_count calls → EndsWith Anyhow calls c
  unfolding EndsWith Alone
  ends_by [] img c q o d alone l = go (at_work c.phase) refl
    where
      go : (t : Bool) → at_work c.phase ≡ t → (at_work c.phase ≡ false) × Anyhow c
      go true e = absurd (omega (arith, some_left drive g img (head_at drive c) c.phase o e))
      go false e = (e, tt)
  ends_by (call ∷ calls) img c q o d alone l = go (at_work c.phase) refl
      (λ w s h. ends_by calls (image_by drive img call c) (after call c) (quiet_after call c q w) s.on s.disk h
      (omega (arith, s.left)))
    where
      go : (t : Bool) → at_work c.phase ≡ t
          → (at_work c.phase ≡ true → Goes drive g img call c
          → Alone drive (image_by drive img call c) calls (after call c) → EndsWith Anyhow calls (after call c))
          → ((at_work c.phase ≡ false) × Anyhow c) ⊎ ((at_work c.phase ≡ true) × EndsWith Anyhow calls (after call c))
      go true e ih = inr (e, ih e (call_goes img call c q e o d (alone e).0) (alone e).1)
      go false e ih = inl (e, tt)

-- 01 End: any of these is over within 2 x (S + 1) x (2S + B + 70) ticks if nobody else changes the image
pub ends_in_time_quiet : EndsInTime Quiet
ends_in_time_quiet c q order e img g d calls alone l =
    ends_by order.drive g calls img c q (rw e refl) d alone (rw e l)

-- 01 End: on an empty drive in one
pub ends_in_one_quiet : EndsInOne Quiet
unfolding begin_of gate_of entered_of end_of decided_of settled_of with_fifo answered_of
ends_in_one_quiet c q order e a b h =
    ap (λ (x : Controller). x.phase) (after_tick a b c)
    ∙ ap (λ (x : Decision). x.controller.phase) (tick_starts a b c order q e)
    ∙ rw h refl

-- 01 Commands Sense Drive: ST3 at the next tick
pub senses_in_one_quiet : SensesInOne Quiet
unfolding ruled_of decide_of decide_in still_of sensed_at said_of answered_of
senses_in_one_quiet c q unit e a b =
    ap (λ (x : Controller). x.phase) (after_tick a b c)
    ∙ rw (good_valid c q.good, free (held_in c.registers.dor) refl q, e) refl
  where
    free : (t : Bool) → held_in c.registers.dor ≡ t → Quiet c → held_in c.registers.dor ≡ false
    free true h q = let p = q.held h in let z : ◌≡◌ {A = ℕ} 0 1 = cc in absurd (omega arith)
    free false h q = h

pub ends_in_time : EndsInTime Real
ends_in_time c r = ends_in_time_quiet c (quiet_real c r)

pub ends_in_one : EndsInOne Real
ends_in_one c r = ends_in_one_quiet c (quiet_real c r)

pub senses_in_one : SensesInOne Real
senses_in_one c r = senses_in_one_quiet c (quiet_real c r)
