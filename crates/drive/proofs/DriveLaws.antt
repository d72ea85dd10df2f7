-- What every drive keeps to (01 Refusals 4): the head is not above 81, the step countdown not above 1000.
-- Assumes nothing.
use Prim.Native.Nat.{ℕ, ◌≤◌}
use native.Mathlib.Omega.{arith}
use mathlib.Core.Bool.{Bool, false}
use lib.Dec.{eqb, leb, ltb}
use borrow.Author.Tests.{ltb-true}
use Rattle.image.proofs.TestLaws.{by_test}
use Rattle.drive.specs.declared.Drive.{Drive}
use Rattle.drive.specs.declared.Motion.{Motion}
use Rattle.drive.specs.declared.Motion.TheVariants.{Still, Seeking, Recalibrating}
use Rattle.drive.specs.Drive.{fresh_drive, reset_drive, reported_of, sensed_drive, noted_of, distance, first_wait, recalibrate_steps, seek_of, recalibrate_of, countdown_of}
use Rattle.drive.specs.Due.{Within}
use Rattle.drive.specs.Step.{moved, stepped, moving, sought, recalibrated, seek_step, recalibrate_step, seek_tick, recalibrate_tick, tick_in, tick_drive}

pub within_fresh : (head : ℕ) → head ≤ 81 → Within (fresh_drive head)
within_fresh head h = record { head = h; count = omega arith }

module _ (d : Drive) (w : Within d) where
  pub within_reset : Within (reset_drive d)
  within_reset = record { head = w.head; count = omega arith }

  pub within_reported : (report : ℕ) → Within (reported_of report d)
  within_reported report = record { head = w.head; count = w.count }

  pub within_sensed : Within (sensed_drive d)
  within_sensed = record { head = w.head; count = w.count }

  pub within_noted : Within (noted_of d)
  within_noted = record { head = w.head; count = w.count }

  first_wait_le : (steps ticks : ℕ) → ticks ≤ 1000 → first_wait steps ticks ≤ 1000
  first_wait_le steps ticks h =
      by_test (eqb steps 0) (λ (n : ℕ). n ≤ 1000) 1 ticks (λ _. omega arith) (λ _. h)

  pub within_seek : (target ticks : ℕ) → ticks ≤ 1000 → Within (seek_of target ticks d)
  within_seek target ticks h = record { head = w.head; count = first_wait_le (distance d.pcn target) ticks h }

  pub within_recalibrate : (number ticks : ℕ) → ticks ≤ 1000 → Within (recalibrate_of number ticks d)
  within_recalibrate number ticks h = record {
    head = w.head;
    count = first_wait_le (recalibrate_steps number d.head) ticks h;
  }

  moved_le : (number : ℕ) (goes_in : Bool) → moved number goes_in d.head ≤ 81
  moved_le number goes_in =
      by_test (leb 2 number) (λ (n : ℕ). n ≤ 81) _ _
      (λ _. w.head)
      (λ _. by_test goes_in (λ (n : ℕ). n ≤ 81) _ _
      (λ _. by_test (ltb d.head 81) (λ (n : ℕ). n ≤ 81) _ _ (λ t. omega (arith, ltb-true d.head 81 t))
      (λ _. w.head))
      (λ _. omega (arith, w.head)))

  within_stepped : (number : ℕ) (mounted goes_in : Bool) → Within (stepped number mounted goes_in d)
  unfolding stepped
  within_stepped number mounted goes_in = record { head = moved_le number goes_in; count = w.count }

  within_moving : (motion : Motion) → countdown_of motion ≤ 1000 → Within (moving motion d)
  within_moving motion h = record { head = w.head; count = h }

  within_sought : (number target : ℕ) → Within (sought number target d)
  unfolding sought
  within_sought number target = record { head = w.head; count = omega arith }

  within_recalibrated : (number : ℕ) → Within (recalibrated number d)
  unfolding recalibrated
  within_recalibrated number = record { head = w.head; count = omega arith }

module _ (number : ℕ) (mounted : Bool) (ticks : ℕ) (short : ticks ≤ 1000) (d : Drive) (w : Within d) where
  within_seek_step : (target steps : ℕ) → Within (seek_step number mounted ticks target steps d)
  unfolding seek_step
  within_seek_step target steps =
      let s = within_stepped d w number mounted (ltb d.pcn target) in
      by_test (leb steps 1) Within _ _ (λ _. within_sought _ s number target) (λ _. within_moving _ s _ short)

  within_recalibrate_step : (steps : ℕ) → Within (recalibrate_step number mounted ticks steps d)
  unfolding recalibrate_step
  within_recalibrate_step steps =
      let s = within_stepped d w number mounted false in
      by_test (leb steps 1) Within _ _ (λ _. within_recalibrated _ s number) (λ _. within_moving _ s _ short)

  within_in : (motion : Motion) → countdown_of motion ≤ 1000 → Within (tick_in motion number mounted ticks d)
  unfolding tick_in seek_tick recalibrate_tick seek_step recalibrate_step
  within_in Still h = w
  within_in (Seeking target steps wait) h =
      by_test (ltb 1 wait) Within _ _ (λ _. within_moving d w _ (omega arith))
      (λ _. by_test (eqb steps 0) Within _ _ (λ _. within_sought d w number target)
      (λ _. within_seek_step target steps))
  within_in (Recalibrating steps wait) h =
      by_test (ltb 1 wait) Within _ _ (λ _. within_moving d w _ (omega arith))
      (λ _. by_test (eqb steps 0) Within _ _ (λ _. within_recalibrated d w number) (λ _. within_recalibrate_step steps))

  pub within_tick : Within (tick_drive number mounted ticks d)
  unfolding tick_drive
  within_tick = within_in d.motion w.count
