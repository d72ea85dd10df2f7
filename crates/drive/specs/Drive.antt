-- A drive, and what calls do to it at once: document 01, Stepping and Registers (Power-on values, Software reset).
-- What a tick does to it is Step.
-- Assumes nothing.
use Rattle.std.specs.Prelude.{ℕ, ◌-◌, Bool, true, false, ◌&&◌, cond, eqb, ltb}
use Rattle.drive.specs.declared.Drive.{Drive}
use Rattle.drive.specs.declared.Motion.{Motion}
use Rattle.drive.specs.declared.Motion.TheVariants.{Still, Seeking, Recalibrating}

-- 01 Registers power-on: PCN 0, change flags on
abbrev pub fresh_drive : ℕ → Drive
fresh_drive head = record { head = head; pcn = 0; changed = true; busy = false; report = 0; motion = Still }

-- 01 Registers reset: steps still due, report and busy bit go, PCN becomes 0; head and change flag stay
abbrev pub reset_drive : Drive → Drive
reset_drive d = record { head = d.head; pcn = 0; changed = d.changed; busy = false; report = 0; motion = Still }

-- 01 Registers reset: a report at release
abbrev pub reported_of : ℕ → Drive → Drive
reported_of report d =
    record { head = d.head; pcn = d.pcn; changed = d.changed; busy = d.busy; report = report; motion = d.motion }

-- 01 Commands: Sense Interrupt takes the report and clears the busy bit
abbrev pub sensed_drive : Drive → Drive
sensed_drive d =
    record { head = d.head; pcn = d.pcn; changed = d.changed; busy = false; report = 0; motion = d.motion }

-- 01 Calls: the disk-change note sets the change flag and does nothing else
abbrev pub noted_of : Drive → Drive
noted_of d =
    record { head = d.head; pcn = d.pcn; changed = true; busy = d.busy; report = d.report; motion = d.motion }

-- 01 Stepping: |NCN - PCN|
abbrev pub distance : ℕ → ℕ → ℕ
distance a b = cond (ltb a b) (b - a) (a - b)

-- 01 Stepping: the first step falls T ticks after the command; no steps due, done at the next tick
abbrev pub first_wait : ℕ → ℕ → ℕ
first_wait steps ticks = cond (eqb steps 0) 1 ticks

-- 01 Stepping: out until the head is at 0, at most 79 times. Drives 2 and 3 never see track 0
abbrev pub recalibrate_steps : ℕ → ℕ → ℕ
recalibrate_steps number head = cond (ltb number 2 && ltb head 79) head 79

-- 01 Stepping: once accepted, it sets its drive's busy bit and drops that drive's older report (house)
abbrev pub accepted : Motion → Drive → Drive
accepted motion d =
    record { head = d.head; pcn = d.pcn; changed = d.changed; busy = true; report = 0; motion = motion }

abbrev pub seek_of : ℕ → ℕ → Drive → Drive
seek_of target ticks d =
    accepted (Seeking target (distance d.pcn target) (first_wait (distance d.pcn target) ticks)) d

abbrev pub recalibrate_of : ℕ → ℕ → Drive → Drive
recalibrate_of number ticks d =
    accepted
    (Recalibrating (recalibrate_steps number d.head) (first_wait (recalibrate_steps number d.head) ticks))
    d

-- 01 Refusals 4: the step countdown
abbrev pub countdown_of : Motion → ℕ
countdown_of Still = 0
countdown_of (Seeking target steps wait) = wait
countdown_of (Recalibrating steps wait) = wait

-- no Seek or Recalibrate is going on
abbrev pub stands_in : Motion → Bool
stands_in Still = true
stands_in (Seeking target steps wait) = false
stands_in (Recalibrating steps wait) = false
