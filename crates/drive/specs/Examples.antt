-- 01 Example 7: Recalibrate drive 0 from 79: 20; from 80: 70, head 1. The report and the head at its end; that it
-- ends so is proofs/StepLaws.
-- Assumes nothing.
use Rattle.std.specs.Prelude.{false, ◌≡◌, ℕ}
use Rattle.drive.specs.Drive.{recalibrate_steps}
use Rattle.drive.specs.Due.{head_after, recalibrate_report}

-- where Recalibrate leaves the head
abbrev pub recalibrated_head : ℕ → ℕ → ℕ
recalibrated_head number head = head_after number false (recalibrate_steps number head) head

pub record DriveExamples : Type 0 where
  pub ex7_from_79 : recalibrate_report 0 (recalibrated_head 0 79) ≡ 0x20
  pub ex7_from_80 : recalibrate_report 0 (recalibrated_head 0 80) ≡ 0x70
  pub ex7_head : recalibrated_head 0 80 ≡ 1
