-- The change flag (specs/ChangeFlag): who sets and who clears it.
-- Assumes nothing.
use Prim.Native.Nat.{ℕ, zero, suc, ◌≤◌, ◌<◌}
use native.Mathlib.Omega.{arith}
use native.Mathlib.Nat.{mod-eq_of_lt}
use mathlib.Core.Bool.{Bool, true, false, not, ◌&&◌, and-false}
use mathlib.Core.List.{List}
use mathlib.Core.Logic.{◌⊎◌, inl, inr}
use mathlib.Core.Path.{◌≡◌, refl, ap, ◌∙◌}
use lib.Dec.{leb, ltb}
use lib.ListN.{length, set}
use lib.Seq.{get_or-set_same, get_or-set_other}
use borrow.Author.Tests.{lt-ltb, le-ltb, lt-leb, ne_eqb, eq-eqb}
use Rattle.image.proofs.TestLaws.{by_test, le_or_lt}
use Rattle.image.specs.Lent.{pick_of}
use Rattle.drive.specs.declared.Drive.{Drive}
use Rattle.drive.specs.declared.Motion.{Motion}
use Rattle.drive.specs.declared.Motion.TheVariants.{Still, Seeking, Recalibrating}
use Rattle.drive.specs.Drive.{noted_of}
use Rattle.drive.specs.Step.{stepped, sought, recalibrated, seek_tick, recalibrate_tick, tick_in, on_tick}
use Rattle.drive.specs.Step.{tick_drive}
use Rattle.fdc.specs.declared.record.Controller.{Controller}
use Rattle.fdc.specs.Answer.{answer_of}
use Rattle.fdc.specs.Calls.{note_change}
use Rattle.fdc.specs.Commands.{step_time}
use Rattle.fdc.specs.Record.{drive_at, with_drives, with_drive}
use Rattle.reached.specs.Runs.{answer_to, ticks, notes, after}
use Rattle.fdc.specs.Ticks.{seen_of, present_in, tick_all, stepped_of, decide_of, ruled_of, tick_of}
use Rattle.reached.proofs.MoveLaws.{decide_in_drives}
use Rattle.answers.specs.ChangeFlag.{StepDue, Noted, ChangeFlag}
use Rattle.answers.specs.Registers.{Undamaged, Free}
use Rattle.answers.proofs.RegisterLaws.{undamaged_valid}

and-true : (a : Bool) → (a && true) ≡ a
and-true true = refl
and-true false = refl

-- a step leaves the flag where it is without a mounted image
module _ (on : ℕ → ℕ → Motion) (end : Drive → Drive) (keeps : (d : Drive) → (end d).changed ≡ d.changed) (goes_in : Bool)
    (number : ℕ) (mounted : Bool) (t steps wait : ℕ) (d : Drive) where
  due : 0 < steps → wait ≤ 1
      → (on_tick on end goes_in number mounted t steps wait d).changed ≡ (d.changed && not mounted)
  unfolding stepped
  due s w =
      rw (le-ltb 1 wait w, ne_eqb steps 0 (λ e. omega arith))
      (by_test (leb steps 1) (λ (x : Drive). x.changed ≡ (d.changed && not mounted)) _ _ (λ t. keeps _) (λ t. refl))

  waits : 1 < wait → (on_tick on end goes_in number mounted t steps wait d).changed ≡ d.changed
  waits w = rw (lt-ltb 1 wait w)

  none : steps ≡ 0 → wait ≤ 1 → (on_tick on end goes_in number mounted t steps wait d).changed ≡ d.changed
  none s w = rw (le-ltb 1 wait w, eq-eqb steps 0 s) (keeps d)

sought_keeps : (number target : ℕ) (d : Drive) → (sought number target d).changed ≡ d.changed
unfolding sought
sought_keeps number target d = refl

recalibrated_keeps : (number : ℕ) (d : Drive) → (recalibrated number d).changed ≡ d.changed
unfolding recalibrated
recalibrated_keeps number d = refl

step_clears : (m : Motion) (number : ℕ) (mounted : Bool) (t : ℕ) (d : Drive) → StepDue m
    → (tick_in m number mounted t d).changed ≡ (d.changed && not mounted)
unfolding tick_in seek_tick recalibrate_tick
step_clears Still number mounted t d s = absurd s
step_clears (Seeking target steps wait) number mounted t d (s, w) =
    due (Seeking target) (sought number target) (sought_keeps number target) _ number mounted t steps wait d s w
step_clears (Recalibrating steps wait) number mounted t d (s, w) =
    due Recalibrating (recalibrated number) (recalibrated_keeps number) false number mounted t steps wait d s w

-- a tick with no step
still_keeps : (m : Motion) (number : ℕ) (mounted : Bool) (t : ℕ) (d : Drive) → (StepDue m → ⊥)
    → (tick_in m number mounted t d).changed ≡ d.changed
unfolding tick_in seek_tick recalibrate_tick
still_keeps Still number mounted t d n = refl
still_keeps (Seeking target steps wait) number mounted t d n = go (le_or_lt wait 1) (le_or_lt 1 steps)
  where
    go : (wait ≤ 1) ⊎ (1 < wait) → (1 ≤ steps) ⊎ (steps < 1)
        → (on_tick (Seeking target) (sought number target) (ltb d.pcn target) number mounted t steps wait d).changed
        ≡ d.changed
    go (inr w) s =
        waits (Seeking target) (sought number target) (sought_keeps number target) _ number mounted t steps wait d w
    go (inl w) (inl s) = absurd (n (s, w))
    go (inl w) (inr s) =
        none (Seeking target) (sought number target) (sought_keeps number target) _ number mounted t steps wait d
        (omega arith) w
still_keeps (Recalibrating steps wait) number mounted t d n = go (le_or_lt wait 1) (le_or_lt 1 steps)
  where
    go : (wait ≤ 1) ⊎ (1 < wait) → (1 ≤ steps) ⊎ (steps < 1)
        → (on_tick Recalibrating (recalibrated number) false number mounted t steps wait d).changed ≡ d.changed
    go (inr w) s =
        waits Recalibrating (recalibrated number) (recalibrated_keeps number) false number mounted t steps wait d w
    go (inl w) (inl s) = absurd (n (s, w))
    go (inl w) (inr s) =
        none Recalibrating (recalibrated number) (recalibrated_keeps number) false number mounted t steps wait d
        (omega arith) w

module _ (c : Controller) (u : Undamaged c) (f : Free c) (a b : List ℕ) where
  -- the drives step, whatever the phase does
  drives_after : (after (ticks a b) c).drives ≡ (stepped_of a b c).drives
  unfolding answer_to tick_of answer_of ruled_of decide_of
  drives_after = rw (undamaged_valid c u, after) (rw f (decide_in_drives c.phase a b (stepped_of a b c)))

  drive_after : (k : ℕ) → k < 2
      → drive_at k (after (ticks a b) c).drives
      ≡ tick_drive k (present_in (seen_of c.registers.dor k (pick_of k a b))) (step_time c) (drive_at k c.drives)
  unfolding stepped_of with_drives tick_all
  drive_after zero l = rw drives_after refl
  drive_after (suc zero) l = rw drives_after refl
  drive_after (suc (suc k)) l = absurd (omega arith)

-- the note, of any drive that has a flag
noted : (c : Controller) (k : ℕ) → Undamaged c → length c.drives ≡ 4 → k < 2 → Noted c (after (notes k) c) k
unfolding answer_to note_change answer_of with_drive with_drives
noted c k u four l =
    rw (undamaged_valid c u, after) (rw (lt-leb 2 k l, mod-eq_of_lt {n = k} {m = 4} (omega arith)) (record {
      flag = ap (λ (d : Drive). d.changed) at_k;
      drive = record {
        head = ap (λ (d : Drive). d.head) at_k;
        pcn = ap (λ (d : Drive). d.pcn) at_k;
        busy = ap (λ (d : Drive). d.busy) at_k;
        report = ap (λ (d : Drive). d.report) at_k;
        motion = ap (λ (d : Drive). d.motion) at_k;
      };
      others = λ j n. get_or-set_other c.drives k j _ _ n;
      registers = refl;
      fifo = refl;
      bytes = refl;
      phase = refl;
    }))
  where
    at_k : drive_at k (set c.drives k (noted_of (drive_at k c.drives))) ≡ noted_of (drive_at k c.drives)
    at_k = get_or-set_same c.drives k _ _ (omega arith)

-- a tick of a drive without a disk
empty_keeps : (m : Motion) (number t : ℕ) (d : Drive) → (tick_in m number false t d).changed ≡ d.changed
empty_keeps m number t d = go m (due_or_not m)
  where
    due_or_not : (m : Motion) → StepDue m ⊎ (StepDue m → ⊥)
    due_or_not Still = inr (λ s. s)
    due_or_not (Seeking target steps wait) = by (le_or_lt 1 steps) (le_or_lt wait 1)
      where
        by : (1 ≤ steps) ⊎ (steps < 1) → (wait ≤ 1) ⊎ (1 < wait) → ((0 < steps) × (wait ≤ 1)) ⊎ ((0 < steps) × (wait ≤ 1) → ⊥)
        by (inl s) (inl w) = inl (s, w)
        by (inr s) w = inr (λ x. omega (arith, x.0))
        by (inl s) (inr w) = inr (λ x. omega (arith, x.1))
    due_or_not (Recalibrating steps wait) = by (le_or_lt 1 steps) (le_or_lt wait 1)
      where
        by : (1 ≤ steps) ⊎ (steps < 1) → (wait ≤ 1) ⊎ (1 < wait) → ((0 < steps) × (wait ≤ 1)) ⊎ ((0 < steps) × (wait ≤ 1) → ⊥)
        by (inl s) (inl w) = inl (s, w)
        by (inr s) w = inr (λ x. omega (arith, x.0))
        by (inl s) (inr w) = inr (λ x. omega (arith, x.1))

    go : (m : Motion) → StepDue m ⊎ (StepDue m → ⊥) → (tick_in m number false t d).changed ≡ d.changed
    go m (inl s) = step_clears m number false t d s ∙ and-true d.changed
    go m (inr n) = still_keeps m number false t d n

pub change_flag : (c : Controller) → ChangeFlag c
unfolding tick_drive
change_flag c = record {
  note = noted c;
  cleared = λ a b k g u f l due seen.
      ap (λ (d : Drive). d.changed) (drive_after c u f a b k l)
      ∙ step_clears _ k _ (step_time c) (drive_at k c.drives) due
      ∙ rw seen (and-false (drive_at k c.drives).changed);
  empty = λ a b k u f l seen.
      ap (λ (d : Drive). d.changed) (drive_after c u f a b k l)
      ∙ rw seen (empty_keeps (drive_at k c.drives).motion k (step_time c) (drive_at k c.drives));
  no_step = λ a b k u f l n.
      ap (λ (d : Drive). d.changed) (drive_after c u f a b k l)
      ∙ still_keeps _ k _ (step_time c) (drive_at k c.drives) n;
}
