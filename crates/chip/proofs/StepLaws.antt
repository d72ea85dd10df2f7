-- Laws of the step times (01 Stepping).
-- Assumes nothing.
use mathlib.Core.Path.{refl}
use Prim.Native.Nat.{ℕ, ◌≤◌, ◌<◌}
use native.Mathlib.Omega.{arith}
use Rattle.chip.specs.Stepping.{step_ticks, StepTimes}

-- all sixteen, by computation
pub step_times : StepTimes
step_times = refl

-- 01 Refusals 4: a step countdown is never above 1000
pub step_most : (srt : ℕ) → step_ticks srt ≤ 1000
step_most srt = omega arith

-- 01 Stepping: the shortest step, SRT 15, is 63 ticks
pub step_least : (srt : ℕ) → srt < 16 → 63 ≤ step_ticks srt
step_least srt h = omega arith
