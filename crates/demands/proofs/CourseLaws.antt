-- A command followed over a list of calls to its end: what every call keeps while the command is at work, and what that
-- says once it is over. A call is split here alone into "tick or not".
-- Assumes nothing.
use Rattle.std.specs.Prelude.{None}
use Prim.Native.Nat.{ℕ, ◌<◌, ◌%◌}
use mathlib.Core.Bool.{true, false}
use mathlib.Core.List.{List, [], ◌∷◌}
use mathlib.Core.Logic.{inl, inr}
use mathlib.Core.Path.{◌≡◌, refl, ap, ◌∙◌}
use Rattle.image.specs.Lent.{pick_of}
use Rattle.fdc.specs.declared.record.Controller.{Controller}
use Rattle.reached.specs.Moves.{Calm}
use Rattle.fdc.specs.Registers.{motor_in}
use Rattle.reached.specs.Runs.{Call, ticks, after}
use Rattle.demands.specs.DataError.{Spins}
use Rattle.demands.specs.InTime.{AtTick, AtTicks}
use Rattle.demands.specs.Quiet.{Proper, Quiet}
use Rattle.demands.specs.Work.{at_work, image_by, Handed, Alone, EndsWith, Anyhow}
use Rattle.demands.proofs.CallRules.{NoTick}
use Rattle.demands.proofs.SplitLaws.{tick_or_not, at_tick, image_same}
use Rattle.demands.proofs.QuietLaws.{quiet_after}
use Rattle.image.specs.declared.layout.Geometry.{Geometry}
use Rattle.image.specs.Layout.{same_of}
use Rattle.image.proofs.TestLaws.{by_test, beq_self}
use lib.Dec.{eqb}
use borrow.Author.Tests.{eq-eqb}
use Rattle.chip.specs.declared.fifo.Fifo.{Fifo}
use Rattle.drive.specs.declared.Drive.{Drive}
use Rattle.sectors.specs.declared.order.Order.{Order}
use Rattle.sectors.specs.declared.work.Step.{Step}
use Rattle.sectors.specs.declared.work.Then.{Then}
use Rattle.sectors.specs.declared.work.Then.TheVariants as step
use Rattle.fdc.specs.declared.record.Phase.{Phase}
use Rattle.fdc.specs.declared.record.Phase.TheVariants.{Starting}
use Rattle.fdc.specs.declared.ticks.Decision.{Decision}
use Rattle.fdc.specs.Commands.{answered_of}
use Rattle.fdc.specs.Record.{drive_at, with_fifo, with_phase}
use Rattle.fdc.specs.Ticks.{settled_of, decided_of, ruled_of, image_after}
use Rattle.demands.proofs.CallLaws.{after_tick, calm_keeps}
use native.Mathlib.Nat.{mod-eq_of_lt}

-- 01 Data commands: a header is as it was met
pub same_geometry : (g : Geometry) → same_of g g ≡ true
unfolding same_of
same_geometry g =
    simp (
      eq-eqb g.cylinders g.cylinders refl,
      eq-eqb g.heads g.heads refl,
      eq-eqb g.slots g.slots refl,
      eq-eqb g.n g.n refl,
    )
    (beq_self g.protect)

-- a tick's step leaves the heads
settled_heads : (then : Then) (fifo : Fifo) (c : Controller) → (settled_of then fifo c).drives ≡ c.drives
unfolding settled_of with_fifo with_phase answered_of
settled_heads (step.Ends verdict) fifo c = refl
settled_heads (step.Works work) fifo c = refl

module _ (a b : List ℕ) (drive : ℕ) (o : Step) (c : Controller) (e : ruled_of a b c ≡ decided_of drive o c) where
  pub tick_record : after (ticks a b) c ≡ settled_of o.then o.fifo c
  unfolding decided_of
  tick_record = after_tick a b c ∙ ap (λ (d : Decision). d.controller) e

  pub tick_head : (drive_at drive (after (ticks a b) c).drives).head ≡ (drive_at drive c.drives).head
  tick_head =
      ap (λ (x : Controller). (drive_at drive x.drives).head) tick_record
      ∙ ap (λ (x : List Drive). (drive_at drive x).head) (settled_heads o.then o.fifo c)

  -- a tick that stores nothing leaves the image
  pub tick_image : (k : ℕ) → o.effect ≡ None → (img : List ℕ) → image_after k a b c img ≡ img
  unfolding image_after decided_of
  tick_image k n img = rw (e, n) (by_test (eqb drive k) (λ (x : List ℕ). x ≡ img) img img (λ _. refl) (λ _. refl))

pub low_drive : (e : Controller) (order : Order) → Quiet e → e.phase ≡ Starting order → order.drive < 4
low_drive e order q p = go e.phase p q.proper
  where
    go : (q : Phase) → q ≡ Starting order → Proper q → order.drive < 4
    go q f h = (rw f at h).0

-- another conclusion
pub ends_map : (P Q : Controller → Type 0) → ((c : Controller) → P c → Q c) → (calls : List Call) (c : Controller)
    → EndsWith P calls c → EndsWith Q calls c
unfolding EndsWith
ends_map P Q f [] c (a, x) = (a, f c x)
ends_map P Q f (call ∷ calls) c (inl (a, x)) = inl (a, f c x)
ends_map P Q f (call ∷ calls) c (inr (w, rest)) = inr (w, ends_map P Q f calls (after call c) rest)

-- what holds of every record holds at every tick
pub all_ticks : (P : Controller → Type 0) → ((c : Controller) → P c) → (calls : List Call) (c : Controller)
    → AtTicks P calls c
unfolding AtTicks
all_ticks P h [] c = tt
all_ticks P h (call ∷ calls) c = λ w. (at_tick P call c (h c), all_ticks P h calls (after call c))

module _ (drive : ℕ) (Tick : Controller → Type 0) (Course : Controller → List ℕ → Type 0) (Said : Controller → Type 0)
    (on_call : (call : Call) (c : Controller) (img : List ℕ) → Quiet c → at_work c.phase ≡ true → NoTick call
    → Calm call → Course c img → Course (after call c) img)
    (on_tick_here : (a b : List ℕ) (c : Controller) (img : List ℕ) → Quiet c → at_work c.phase ≡ true
    → motor_in c.registers.dor drive ≡ true → pick_of drive a b ≡ img → Tick c → Course c img
    → Course (after (ticks a b) c) (image_after drive a b c img))
    (over : (c : Controller) (img : List ℕ) → Course c img → at_work c.phase ≡ false → Said c) where
  course_after : (call : Call) (c : Controller) (img : List ℕ) → Quiet c → at_work c.phase ≡ true
      → motor_in c.registers.dor drive ≡ true → Calm call → Handed drive img call → AtTick Tick call c → Course c img
      → Course (after call c) (image_by drive img call c)
  course_after call c img q w m calm lent t k =
      tick_or_not
      (λ x. Calm x → Handed drive img x → AtTick Tick x c → Course (after x c) (image_by drive img x c))
      (λ a b calm lent t. on_tick_here a b c img q w m lent t k)
      (λ x n calm lent t. rw (image_same drive img x c n) (on_call x c img q w n calm k)) call calm lent t

  -- if it ends, it ends so
  pub course_ends : (calls : List Call) (c : Controller) (img : List ℕ) → Quiet c → Course c img → Spins drive calls c
      → Alone drive img calls c → AtTicks Tick calls c → EndsWith Anyhow calls c → EndsWith Said calls c
  unfolding EndsWith Spins Alone AtTicks
  course_ends [] c img q k s l n (a, u) = (a, over c img k a)
  course_ends (call ∷ calls) c img q k s l n (inl (a, u)) = inl (a, over c img k a)
  course_ends (call ∷ calls) c img q k s l n (inr (w, rest)) =
      let (calm, spins) = s.1 w in
      let (lent, alone) = l w in
      let (now, later) = n w in
      inr (
        w,
        course_ends calls (after call c) (image_by drive img call c) (quiet_after call c q w)
            (course_after call c img q w s.0 calm lent now k) spins alone later rest,
      )

-- A command that stores nothing, by what each tick's step leads to: its image and the head stay.
module _ (order : Order) (low : order.drive < 4) (cylinder : ℕ) (img : List ℕ) (Tick Way Said : Controller → Type 0)
    (on_phase : (c e : Controller) → e.phase ≡ c.phase → at_work c.phase ≡ true → Way c → Way e)
    (on_step_lem : (a b : List ℕ) (c : Controller) → Quiet c → at_work c.phase ≡ true
    → motor_in c.registers.dor order.drive ≡ true → pick_of order.drive a b ≡ img
    → (drive_at (order.drive % 4) c.drives).head ≡ cylinder → Tick c → Way c
    → (o : Step) × (ruled_of a b c ≡ decided_of order.drive o c)
    × ((o.effect ≡ None) × Way (settled_of o.then o.fifo c)))
    (over : (c : Controller) → Way c → at_work c.phase ≡ false → Said c) where
  record Still (c : Controller) (image : List ℕ) : Type 0 where
    same : image ≡ img
    head_is : (drive_at order.drive c.drives).head ≡ cylinder
    way : Way c

  still_tick : (a b : List ℕ) (c : Controller) (image : List ℕ) → Quiet c → at_work c.phase ≡ true
      → motor_in c.registers.dor order.drive ≡ true → pick_of order.drive a b ≡ image → Tick c
      → Still c image → Still (after (ticks a b) c) (image_after order.drive a b c image)
  still_tick a b c image q w motor lent t k =
      let heads : (drive_at (order.drive % 4) c.drives).head ≡ cylinder =
      rw (mod-eq_of_lt {n = order.drive} {m = 4} low) k.head_is in
      let (o, e, kept) = on_step_lem a b c q w motor (lent ∙ k.same) heads t k.way in
      record {
        same = tick_image a b order.drive o c e order.drive kept.0 image ∙ k.same;
        head_is = tick_head a b order.drive o c e ∙ k.head_is;
        way = rw (tick_record a b order.drive o c e) kept.1;
      }

  still_call : (call : Call) (c : Controller) (image : List ℕ) → Quiet c → at_work c.phase ≡ true → NoTick call
      → Calm call → Still c image → Still (after call c) image
  still_call call c image q w n calm k =
      let keeps = calm_keeps call c q w n calm in
      record {
        same = k.same;
        head_is = keeps.heads order.drive low ∙ k.head_is;
        way = on_phase c (after call c) keeps.phase w k.way;
      }

  pub still_ends : (calls : List Call) (c : Controller) → Quiet c → (drive_at order.drive c.drives).head ≡ cylinder
      → Way c → Spins order.drive calls c → Alone order.drive img calls c → AtTicks Tick calls c
      → EndsWith Anyhow calls c → EndsWith Said calls c
  still_ends calls c q h way =
      course_ends order.drive Tick Still Said still_call still_tick (λ e image k. over e k.way) calls c img q
      (record { same = refl; head_is = h; way = way })
