-- The head moved to the block's cylinder: document 02, 2026-01: Recalibrate, ticks until INT, Sense Interrupt, once
-- more if the report was 70 + drive (heads 80, 81); Seek unless cylinder 0.
-- Assumes nothing.
use Rattle.std.specs.Prelude.{ℕ, zero, suc, ◌+◌, ◌*◌, ◌%◌, Bool, true, false, ◌&&◌, cond, List, [], ◌∷◌, eqb}
use Rattle.std.specs.Prelude.{Result, Ok, Err}
use Rattle.block.specs.declared.ready.Late.{Late}
use Rattle.block.specs.Box.{Box, with_record, tick_answer, ticked, Came, came_with}
use Rattle.block.specs.Ready.{command_of, sense_of, Waited, ready_of}

-- ticks until INT, so many at most
unfoldable pub wait_of : ℕ → Box → Came
wait_of zero s = came_with false s
wait_of (suc n) s = cond (tick_answer s).int (came_with true (ticked s)) (wait_of n (ticked s))

-- a Seek or Recalibrate, and the report that ended it
pub record Moved : Type 0 where
  pub came : Bool
  pub st0 : ℕ
  pub box : Box

abbrev pub moved_with : Bool → ℕ → Box → Moved
moved_with came st0 box = record { came = came; st0 = st0; box = box }

-- the ST0 that a call answers
abbrev pub st0_in : Result ℕ Late → ℕ
st0_in (Ok st0) = st0
st0_in (Err e) = 0

-- its report is sensed
abbrev pub report_taken : Came → Moved
report_taken w =
    cond w.came
    (moved_with true (sense_of w.box.controller).st0
    (with_record (sense_of w.box.controller).controller w.box))
    (moved_with false 0 w.box)

unfoldable pub moved_of : ℕ → List ℕ → Box → Moved
moved_of budget bytes s = report_taken (wait_of budget (with_record (command_of bytes s.controller) s))

-- 01 Stepping: at most 79 steps of 63 ticks
abbrev pub recalibrated_once : ℕ → Box → Moved
recalibrated_once drive s = moved_of (79 * 63) (0x07 ∷ drive ∷ []) s

unfoldable pub homed_of : ℕ → Box → Moved
homed_of drive s =
    cond ((recalibrated_once drive s).came && eqb (recalibrated_once drive s).st0 (0x70 + drive % 4))
    (recalibrated_once drive (recalibrated_once drive s).box)
    (recalibrated_once drive s)

-- at most 81 steps
unfoldable pub sought_of : ℕ → ℕ → Box → Moved
sought_of drive cylinder s =
    cond (eqb cylinder 0) (moved_with true 0 s) (moved_of (81 * 63) (0x0F ∷ drive ∷ cylinder ∷ []) s)

unfoldable pub position_of : ℕ → ℕ → Box → Moved
position_of drive cylinder s =
    cond (homed_of drive s).came (sought_of drive cylinder (homed_of drive s).box) (homed_of drive s)

abbrev pub positioned : ℕ → ℕ → Box → Waited → Came
positioned drive cylinder s w =
    cond w.came
    (came_with (position_of drive cylinder (with_record w.controller s)).came
    (position_of drive cylinder (with_record w.controller s)).box)
    (came_with w.came (with_record w.controller s))

-- everything before the data command
unfoldable pub prepared_of : ℕ → ℕ → Box → Came
prepared_of drive cylinder s = positioned drive cylinder s (ready_of drive s.controller)
