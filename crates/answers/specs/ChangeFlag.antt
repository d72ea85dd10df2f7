-- Demand 2, the change flag: document 01, Calls, "The note sets the change flag of drive 0 or 1 and does nothing else",
-- and Stepping, "A step with a mounted image clears the change flag". What DIR shows of it is in Registers.
-- Assumes nothing.
use Rattle.std.specs.Prelude.{ℕ, ◌<◌, ◌≤◌, true, false, List, ◌≡◌, length, None, Some}
use Rattle.drive.specs.declared.Motion.{Motion}
use Rattle.drive.specs.declared.Motion.TheVariants.{Still, Seeking, Recalibrating}
use Rattle.image.specs.declared.layout.Geometry.{Geometry}
use Rattle.image.specs.Lent.{pick_of}
use Rattle.fdc.specs.declared.record.Controller.{Controller}
use Rattle.reached.specs.Moves.{Same}
use Rattle.fdc.specs.Record.{drive_at}
use Rattle.reached.specs.Runs.{ticks, notes, after}
use Rattle.fdc.specs.Ticks.{seen_of}
use Rattle.answers.specs.Registers.{Undamaged, Free}

-- a step falls in this tick
abbrev pub StepDue : Motion → Type 0
StepDue Still = ⊥
StepDue (Seeking target steps wait) = (0 < steps) × (wait ≤ 1)
StepDue (Recalibrating steps wait) = (0 < steps) × (wait ≤ 1)

-- the note's record: the flag is on, and all else is as it was
pub record Noted (c e : Controller) (k : ℕ) : Type 0 where
  pub flag : (drive_at k e.drives).changed ≡ true
  pub drive : Same (drive_at k c.drives) (drive_at k e.drives)
  pub others : (j : ℕ) → (j ≡ k → ⊥) → drive_at j e.drives ≡ drive_at j c.drives
  pub registers : e.registers ≡ c.registers
  pub fifo : e.fifo ≡ c.fifo
  pub bytes : e.bytes ≡ c.bytes
  pub phase : e.phase ≡ c.phase

pub record ChangeFlag (c : Controller) : Type 0 where
  pub note : (k : ℕ) → Undamaged c → length c.drives ≡ 4 → k < 2 → Noted c (after (notes k) c) k
  -- a step with a mounted image clears it
  pub cleared : (a b : List ℕ) (k : ℕ) (g : Geometry) → Undamaged c → Free c → k < 2
      → StepDue (drive_at k c.drives).motion → seen_of c.registers.dor k (pick_of k a b) ≡ Some g
      → (drive_at k (after (ticks a b) c).drives).changed ≡ false
  -- a step of an empty drive, and a tick without a step, leave it
  pub empty : (a b : List ℕ) (k : ℕ) → Undamaged c → Free c → k < 2
      → seen_of c.registers.dor k (pick_of k a b) ≡ None
      → (drive_at k (after (ticks a b) c).drives).changed ≡ (drive_at k c.drives).changed
  pub no_step : (a b : List ℕ) (k : ℕ) → Undamaged c → Free c → k < 2
      → (StepDue (drive_at k c.drives).motion → ⊥)
      → (drive_at k (after (ticks a b) c).drives).changed ≡ (drive_at k c.drives).changed
