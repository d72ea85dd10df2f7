-- What a Seek and a Recalibrate differ in: document 01, Stepping. A Seek goes from PCN towards NCN, a Recalibrate out.
-- Assumes nothing.
use Rattle.std.specs.Prelude.{ℕ, Bool, false, ltb}
use Rattle.drive.specs.declared.Drive.{Drive}
use Rattle.drive.specs.declared.Motion.{Motion}
use Rattle.drive.specs.declared.Motion.TheVariants.{Seeking, Recalibrating}
use Rattle.drive.specs.declared.Course.{Course}
use Rattle.drive.specs.declared.Course.TheVariants.{To, Out}
use Rattle.drive.specs.Step.{sought, recalibrated, on_step, on_tick}

-- the motion with so many steps due
abbrev pub going : Course → ℕ → ℕ → Motion
going (To target) steps wait = Seeking target steps wait
going Out steps wait = Recalibrating steps wait

-- 01 Stepping: how it ends
abbrev pub over : Course → ℕ → Drive → Drive
over (To target) number d = sought number target d
over Out number d = recalibrated number d

-- which way it goes
abbrev pub goes_in : Course → ℕ → Bool
goes_in (To target) pcn = ltb pcn target
goes_in Out pcn = false

abbrev pub course_step : Course → ℕ → Bool → ℕ → ℕ → Drive → Drive
course_step course number mounted ticks steps d =
    on_step (going course) (over course number) (goes_in course d.pcn) number mounted ticks steps d

abbrev pub course_tick : Course → ℕ → Bool → ℕ → ℕ → ℕ → Drive → Drive
course_tick course number mounted ticks steps wait d =
    on_tick (going course) (over course number) (goes_in course d.pcn) number mounted ticks steps wait d
