-- When a Seek or Recalibrate is over, and where it leaves the head: document 01, Stepping, "The n-th step falls n
-- times that many ticks after the command; the last one ends it".
-- Assumes nothing.
use Rattle.std.specs.Prelude.{ℕ, zero, suc, ◌+◌, ◌*◌, ◌%◌, ◌≤◌, Bool, true, false, ◌&&◌, cond, ◌≡◌, eqb, ltb}
use Rattle.drive.specs.declared.Drive.{Drive}
use Rattle.drive.specs.declared.Motion.{Motion}
use Rattle.drive.specs.declared.Motion.TheVariants.{Still, Seeking, Recalibrating}
use Rattle.drive.specs.Drive.{countdown_of}
use Rattle.drive.specs.Step.{moved}

-- 01 Refusals 4: what every drive keeps to: the head is not above 81, the step countdown not above 1000
pub record Within (d : Drive) : Type 0 where
  pub head : d.head ≤ 81
  pub count : countdown_of d.motion ≤ 1000

-- the head after a number of steps in or out
abbrev pub head_after : ℕ → Bool → ℕ → ℕ → ℕ
head_after number goes_in zero head = head
head_after number goes_in (suc n) head = head_after number goes_in n (moved number goes_in head)

-- the ticks due with a number of steps, the first of them after a wait; with no step the wait alone
abbrev pub due_of : ℕ → ℕ → ℕ → ℕ
due_of ticks zero wait = wait
due_of ticks (suc n) wait = n * ticks + wait

-- a Seek or Recalibrate going on: that many ticks are due, and the head will stand at `final` when it is over
pub record Goes (on : ℕ → ℕ → Motion) (goes_in : Bool) (number ticks pcn final due : ℕ) (d : Drive) : Type 0 where
  pub steps : ℕ
  pub wait : ℕ
  pub motion : d.motion ≡ on steps wait
  pub left : due_of ticks steps wait ≡ due
  pub waits : 1 ≤ wait
  pub none : steps ≡ 0 → wait ≡ 1
  pub head : head_after number goes_in steps d.head ≡ final
  pub from : d.pcn ≡ pcn
  pub quiet : d.report ≡ 0
  pub busy : d.busy ≡ true

abbrev pub SeekDue : ℕ → ℕ → ℕ → ℕ → ℕ → ℕ → Drive → Type 0
SeekDue number ticks pcn target final due d = Goes (Seeking target) (ltb pcn target) number ticks pcn final due d

abbrev pub Recalibrates : ℕ → ℕ → ℕ → ℕ → ℕ → Drive → Type 0
Recalibrates number ticks pcn final due d = Goes Recalibrating false number ticks pcn final due d

-- 01 Stepping: over: PCN, the report, and where the head stands
pub record MotionOver (pcn report final : ℕ) (d : Drive) : Type 0 where
  pub still : d.motion ≡ Still
  pub pcn_is : d.pcn ≡ pcn
  pub report_is : d.report ≡ report
  pub head : d.head ≡ final
  pub busy : d.busy ≡ true

-- 01 Stepping: 20 + drive, or 70 + drive if the head isn't at 0; drives 2 and 3 never see track 0
abbrev pub recalibrate_report : ℕ → ℕ → ℕ
recalibrate_report number final = cond (ltb number 2 && eqb final 0) 0x20 0x70 + number % 4

-- 01 Stepping: n steps are over in n x T ticks; no steps due, in one
abbrev pub over_after : ℕ → ℕ → ℕ
over_after steps ticks = cond (eqb steps 0) 1 (steps * ticks)
