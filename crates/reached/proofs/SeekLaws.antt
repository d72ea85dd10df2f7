-- Seek and Recalibrate, from their acceptance to their end (01 Stepping), over every list of calls.
-- Assumes nothing.
use Prim.Native.Nat.{ℕ, ◌+◌, ◌/◌, ◌%◌, ◌≤◌, ◌<◌}
use native.Mathlib.Omega.{arith}
use mathlib.Core.Bool.{false}
use mathlib.Core.Path.{◌≡◌, refl}
use lib.Dec.{ltb}
use lib.ListN.{length}
use lib.Seq.{get_or-set_same}
use Rattle.chip.specs.Stepping.{step_ticks}
use Rattle.chip.proofs.StepLaws.{step_least}
use Rattle.drive.specs.declared.Drive.{Drive}
use Rattle.drive.specs.declared.Motion.TheVariants.{Seeking, Recalibrating}
use Rattle.drive.specs.Drive.{distance, recalibrate_steps, seek_of, recalibrate_of}
use Rattle.drive.specs.Due.{head_after, over_after, SeekDue, Recalibrates, MotionOver, recalibrate_report}
use Rattle.drive.proofs.StepLaws.{seek_begins, seek_goes_on, seek_ends, recalibrate_begins, recalibrate_goes_on, recalibrate_ends}
use Rattle.fdc.specs.declared.record.Controller.{Controller}
use Rattle.fdc.specs.Commands.{idled_of, command_byte, step_time, sought_of, recalibrated_of}
use Rattle.reached.specs.Moves.{Awake, OnTime}
use Rattle.fdc.specs.Record.{drive_at, with_drives, with_drive}
use Rattle.fdc.specs.Registers.{held_in}
use Rattle.reached.specs.Runs.{Reached}
use Rattle.reached.proofs.GoodLaws.{good_reached}
use Rattle.reached.proofs.MoveLaws.{goes_same, on_time}

-- 01 Stepping: a complete Seek or Recalibrate of a drive that is not busy is accepted
module _ (c : Controller) (long : length c.drives ≡ 4) where
  pub seek_accepted : (drive_at (command_byte 1 c % 4) c.drives).busy ≡ false
      → drive_at (command_byte 1 c % 4) (sought_of c).drives
      ≡ seek_of (command_byte 2 c) (step_time c) (drive_at (command_byte 1 c % 4) c.drives)
  unfolding sought_of idled_of with_drive with_drives
  seek_accepted f = simp f (get_or-set_same c.drives (command_byte 1 c % 4) _ _ (omega arith))

  pub recalibrate_accepted : (drive_at (command_byte 1 c % 4) c.drives).busy ≡ false
      → drive_at (command_byte 1 c % 4) (recalibrated_of c).drives
      ≡ recalibrate_of (command_byte 1 c % 4) (step_time c) (drive_at (command_byte 1 c % 4) c.drives)
  unfolding recalibrated_of idled_of with_drive with_drives
  recalibrate_accepted f = simp f (get_or-set_same c.drives (command_byte 1 c % 4) _ _ (omega arith))

-- 01 Stepping: in a reached record drive k has just accepted it. Its Specify byte is a byte
module _ (k : ℕ) (low : k < 4) (c : Controller) (reached : Reached c) (byte : c.registers.spec1 < 256)
    (free : held_in c.registers.dor ≡ false) (d : Drive) where
  some : 1 ≤ step_ticks (c.registers.spec1 / 16)
  some = omega (arith, step_least (c.registers.spec1 / 16) (omega arith))

  awake : Awake (step_ticks (c.registers.spec1 / 16)) c.registers
  awake = record { free = free; steps = refl }

  -- a Seek is over at exactly n x T ticks, n = |NCN - PCN| (1 for none): PCN is NCN, the report 20 + drive, the
  -- head n steps on
  pub seek_on_time : (target : ℕ) → drive_at k c.drives ≡ seek_of target (step_time c) d
      → OnTime
      (SeekDue k (step_time c) d.pcn target (head_after k (ltb d.pcn target) (distance d.pcn target) d.head))
      (MotionOver target (0x20 + k % 4) (head_after k (ltb d.pcn target) (distance d.pcn target) d.head))
      k (over_after (distance d.pcn target) (step_time c)) c
  seek_on_time target e =
      let T : ℕ = step_ticks (c.registers.spec1 / 16) in
      let final : ℕ = head_after k (ltb d.pcn target) (distance d.pcn target) d.head in
      on_time k T low (SeekDue k T d.pcn target final) (MotionOver target (0x20 + k % 4) final)
      (λ due x y s g. goes_same (Seeking target) (ltb d.pcn target) k T d.pcn final due x y s g)
      (λ due x g. g.busy)
      (λ due x g. g.quiet)
      (λ mounted due x more g. seek_goes_on k T some mounted d.pcn target final x due more g)
      (λ mounted x g. seek_ends k T some mounted d.pcn target final x g)
      (over_after (distance d.pcn target) T) c
      (record { good = good_reached c reached; awake = awake; drive = rw e (seek_begins k T some d target) })

  -- a Recalibrate likewise: out until the head is at 0, at most 79 times; PCN 0, the report by where the head then
  -- stands
  pub recalibrate_on_time : drive_at k c.drives ≡ recalibrate_of k (step_time c) d
      → OnTime
      (Recalibrates k (step_time c) d.pcn (head_after k false (recalibrate_steps k d.head) d.head))
      (MotionOver 0 (recalibrate_report k (head_after k false (recalibrate_steps k d.head) d.head))
      (head_after k false (recalibrate_steps k d.head) d.head))
      k (over_after (recalibrate_steps k d.head) (step_time c)) c
  recalibrate_on_time e =
      let T : ℕ = step_ticks (c.registers.spec1 / 16) in
      let final : ℕ = head_after k false (recalibrate_steps k d.head) d.head in
      on_time k T low (Recalibrates k T d.pcn final) (MotionOver 0 (recalibrate_report k final) final)
      (λ due x y s g. goes_same Recalibrating false k T d.pcn final due x y s g)
      (λ due x g. g.busy)
      (λ due x g. g.quiet)
      (λ mounted due x more g. recalibrate_goes_on k T some mounted d.pcn final x due more g)
      (λ mounted x g. recalibrate_ends k T some mounted d.pcn final x g)
      (over_after (recalibrate_steps k d.head) T) c
      (record { good = good_reached c reached; awake = awake; drive = rw e (recalibrate_begins k T some d) })
