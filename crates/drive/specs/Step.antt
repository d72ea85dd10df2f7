-- What a tick does to a drive: document 01, Stepping.
-- Assumes nothing.
use Rattle.std.specs.Prelude.{ℕ, ◌+◌, ◌-◌, ◌%◌, Bool, false, ◌&&◌, not, cond, eqb, leb, ltb}
use Rattle.drive.specs.declared.Drive.{Drive}
use Rattle.drive.specs.declared.Motion.{Motion}
use Rattle.drive.specs.declared.Motion.TheVariants.{Still, Seeking, Recalibrating}

-- 01 Stepping: the head stopping at 0 and 81
abbrev pub inward : ℕ → ℕ
inward head = cond (ltb head 81) (head + 1) head

-- the head after a step in or out; drives 2 and 3 have none
abbrev pub moved : ℕ → Bool → ℕ → ℕ
moved number goes_in head = cond (leb 2 number) head (cond goes_in (inward head) (head - 1))

-- 01 Stepping: a step with a mounted image clears the change flag
unfoldable pub stepped : ℕ → Bool → Bool → Drive → Drive
stepped number mounted goes_in d =
    record {
      head = moved number goes_in d.head;
      pcn = d.pcn;
      changed = d.changed && not mounted;
      busy = d.busy;
      report = d.report;
      motion = d.motion;
    }

abbrev pub moving : Motion → Drive → Drive
moving motion d =
    record { head = d.head; pcn = d.pcn; changed = d.changed; busy = d.busy; report = d.report; motion = motion }

-- 01 Stepping: PCN becomes NCN; report 20 + drive
unfoldable pub sought : ℕ → ℕ → Drive → Drive
sought number target d =
    record {
      head = d.head;
      pcn = target;
      changed = d.changed;
      busy = d.busy;
      report = 0x20 + number % 4;
      motion = Still;
    }

-- 01 Stepping: the head is at 0, on a drive that can see it
abbrev pub at_zero : ℕ → Drive → Bool
at_zero number d = ltb number 2 && eqb d.head 0

-- 01 Stepping: PCN 0; report 20 + drive, or 70 + drive if the head isn't at 0
unfoldable pub recalibrated : ℕ → Drive → Drive
recalibrated number d =
    record {
      head = d.head;
      pcn = 0;
      changed = d.changed;
      busy = d.busy;
      report = cond (at_zero number d) 0x20 0x70 + number % 4;
      motion = Still;
    }

-- 01 Stepping: a step, after which T ticks lead to the next one; the last one ends it. A Seek and a Recalibrate
-- differ in how they go on, how they end, and which way they go
abbrev pub on_step : (ℕ → ℕ → Motion) → (Drive → Drive) → Bool → ℕ → Bool → ℕ → ℕ → Drive → Drive
on_step on end goes_in number mounted ticks steps d =
    cond (leb steps 1)
    (end (stepped number mounted goes_in d))
    (moving (on (steps - 1) ticks) (stepped number mounted goes_in d))

-- a tick of waiting, or the step that is due, or the end where none was
abbrev pub on_tick : (ℕ → ℕ → Motion) → (Drive → Drive) → Bool → ℕ → Bool → ℕ → ℕ → ℕ → Drive → Drive
on_tick on end goes_in number mounted ticks steps wait d =
    cond (ltb 1 wait) (moving (on steps (wait - 1)) d)
    (cond (eqb steps 0) (end d) (on_step on end goes_in number mounted ticks steps d))

-- 01 Stepping: from PCN towards NCN
unfoldable pub seek_step : ℕ → Bool → ℕ → ℕ → ℕ → Drive → Drive
seek_step number mounted ticks target steps d =
    on_step (Seeking target) (sought number target) (ltb d.pcn target) number mounted ticks steps d

unfoldable pub seek_tick : ℕ → Bool → ℕ → ℕ → ℕ → ℕ → Drive → Drive
seek_tick number mounted ticks target steps wait d =
    on_tick (Seeking target) (sought number target) (ltb d.pcn target) number mounted ticks steps wait d

-- 01 Stepping: Recalibrate steps out
unfoldable pub recalibrate_step : ℕ → Bool → ℕ → ℕ → Drive → Drive
recalibrate_step number mounted ticks steps d =
    on_step Recalibrating (recalibrated number) false number mounted ticks steps d

unfoldable pub recalibrate_tick : ℕ → Bool → ℕ → ℕ → ℕ → Drive → Drive
recalibrate_tick number mounted ticks steps wait d =
    on_tick Recalibrating (recalibrated number) false number mounted ticks steps wait d

unfoldable pub tick_in : Motion → ℕ → Bool → ℕ → Drive → Drive
tick_in Still number mounted ticks d = d
tick_in (Seeking target steps wait) number mounted ticks d = seek_tick number mounted ticks target steps wait d
tick_in (Recalibrating steps wait) number mounted ticks d = recalibrate_tick number mounted ticks steps wait d

-- drive `number`, mounted or not in this tick, with T ticks for a step
unfoldable pub tick_drive : ℕ → Bool → ℕ → Drive → Drive
tick_drive number mounted ticks d = tick_in d.motion number mounted ticks d
