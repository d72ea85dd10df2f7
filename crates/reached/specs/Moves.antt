-- Seek and Recalibrate over lists of calls: document 01, Stepping. What is counted are ticks; between them any
-- calls may come that are no power-on and no reset.
-- Assumes nothing.
use Rattle.std.specs.Prelude.{ℕ, ◌+◌, ◌-◌, ◌/◌, ◌<◌, false, List, [], ◌∷◌, ◌≡◌, eqb}
use Rattle.chip.specs.Stepping.{step_ticks}
use Rattle.drive.specs.declared.Drive.{Drive}
use Rattle.fdc.specs.declared.record.Controller.{Controller}
use Rattle.fdc.specs.declared.record.Registers.{Registers}
use Rattle.fdc.specs.Record.{drive_at}
use Rattle.fdc.specs.Registers.{held_in}
use Rattle.reached.specs.Runs.{Call, powers, reads, writes, takes, gives, ticks, notes, after, run_calls}

-- no power-on, no DOR with bit 2 low, no DSR with bit 7
abbrev pub Calm : Call → Type 0
Calm (powers head0 head1) = ⊥
Calm (reads offset) = Unit {0}
Calm (writes offset byte) = (offset ≡ 2 → held_in byte ≡ false) × (offset ≡ 4 → eqb (byte / 128) 1 ≡ false)
Calm (takes tc) = Unit {0}
Calm (gives byte tc) = Unit {0}
Calm (ticks a b) = Unit {0}
Calm (notes drive) = Unit {0}

abbrev pub AllCalm : List Call → Type 0
AllCalm [] = Unit {0}
AllCalm (call ∷ calls) = Calm call × AllCalm calls

-- the ticks among the calls
abbrev pub tick_one : Call → ℕ
tick_one (powers head0 head1) = 0
tick_one (reads offset) = 0
tick_one (writes offset byte) = 0
tick_one (takes tc) = 0
tick_one (gives byte tc) = 0
tick_one (ticks a b) = 1
tick_one (notes drive) = 0

abbrev pub tick_count : List Call → ℕ
tick_count [] = 0
tick_count (call ∷ calls) = tick_one call + tick_count calls

-- not held in reset, and T ticks for a step
pub record Awake (step : ℕ) (r : Registers) : Type 0 where
  pub free : held_in r.dor ≡ false
  pub steps : step_ticks (r.spec1 / 16) ≡ step

-- a drive as a call but a tick, a reset or its own commands leaves it: the change flag alone may differ
pub record Same (d e : Drive) : Type 0 where
  pub head : e.head ≡ d.head
  pub pcn : e.pcn ≡ d.pcn
  pub busy : e.busy ≡ d.busy
  pub report : e.report ≡ d.report
  pub motion : e.motion ≡ d.motion

-- 01 Stepping: over at exactly that many ticks: before, after any calm list with fewer ticks, it goes on with the
-- rest due; and the tick that makes up the number ends it
pub record OnTime (going : ℕ → Drive → Type 0) (over : Drive → Type 0) (k due : ℕ) (c : Controller) : Type 0 where
  pub before : (calls : List Call) → AllCalm calls → tick_count calls < due
      → going (due - tick_count calls) (drive_at k (run_calls calls c).drives)
  pub last : (calls : List Call) → AllCalm calls → tick_count calls + 1 ≡ due → (a b : List ℕ)
      → over (drive_at k (after (ticks a b) (run_calls calls c)).drives)
