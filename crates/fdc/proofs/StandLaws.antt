-- A drive that stands has no tick (01 Stepping).
-- Assumes nothing.
use Prim.Native.Nat.{ℕ, zero, suc, ◌/◌, ◌<◌}
use native.Mathlib.Omega.{arith}
use mathlib.Core.Bool.{Bool, true, ◌&&◌, false≢true}
use mathlib.Core.List.{List, [], ◌∷◌}
use mathlib.Core.Path.{◌≡◌, refl}
use lib.ListN.{length}
use Rattle.image.proofs.TestLaws.{both}
use Rattle.chip.specs.Stepping.{step_ticks}
use Rattle.drive.specs.declared.Drive.{Drive}
use Rattle.drive.specs.declared.Motion.{Motion}
use Rattle.drive.specs.declared.Motion.TheVariants.{Still, Seeking, Recalibrating}
use Rattle.drive.specs.Drive.{stands_in}
use Rattle.drive.specs.Step.{tick_in}
use Rattle.drive.specs.Step.{tick_drive}
use Rattle.fdc.specs.declared.record.Controller.{Controller}
use Rattle.fdc.specs.Record.{drive_at, with_drives}
use Rattle.fdc.specs.Ticks.{tick_all, stands_at, all_stand, stepped_of}

pub tick_stands : (number : ℕ) (mounted : Bool) (step : ℕ) (d : Drive) → d.motion ≡ Still
    → tick_drive number mounted step d ≡ d
unfolding tick_drive tick_in
tick_stands number mounted step d e = rw e

-- the four drives stand
still_in_lem : (motion : Motion) → stands_in motion ≡ true → motion ≡ Still
still_in_lem Still h = refl
still_in_lem (Seeking target steps wait) h = absurd (false≢true h)
still_in_lem (Recalibrating steps wait) h = absurd (false≢true h)

pub all_still : (drives : List Drive) → all_stand drives ≡ true → (k : ℕ) → k < 4 → (drive_at k drives).motion ≡ Still
all_still drives all k low =
    let three = both (stands_at 0 drives && stands_at 1 drives && stands_at 2 drives) _ all in
    let two = both (stands_at 0 drives && stands_at 1 drives) _ three.0 in
    let one = both (stands_at 0 drives) _ two.0 in
    at k low (still_in_lem _ one.0) (still_in_lem _ one.1) (still_in_lem _ two.1) (still_in_lem _ three.1)
  where
    at : (k : ℕ) → k < 4 → (drive_at 0 drives).motion ≡ Still → (drive_at 1 drives).motion ≡ Still
        → (drive_at 2 drives).motion ≡ Still → (drive_at 3 drives).motion ≡ Still → (drive_at k drives).motion ≡ Still
    at zero low a b c d = a
    at (suc zero) low a b c d = b
    at (suc (suc zero)) low a b c d = c
    at (suc (suc (suc zero))) low a b c d = d
    at (suc (suc (suc (suc k)))) low a b c d = absurd (omega arith)

four_drives : (drives : List Drive) → length drives ≡ 4
    → drives ≡ drive_at 0 drives ∷ drive_at 1 drives ∷ drive_at 2 drives ∷ drive_at 3 drives ∷ []
four_drives [] e = absurd (omega arith)
four_drives (a ∷ []) e = absurd (omega arith)
four_drives (a ∷ b ∷ []) e = absurd (omega arith)
four_drives (a ∷ b ∷ c ∷ []) e = absurd (omega arith)
four_drives (a ∷ b ∷ c ∷ d ∷ []) e = refl
four_drives (a ∷ b ∷ c ∷ d ∷ x ∷ drives) e = absurd (omega arith)

pub stepped_stands : (a b : List ℕ) (c : Controller) → length c.drives ≡ 4
    → ((k : ℕ) → k < 4 → (drive_at k c.drives).motion ≡ Still)
    → stepped_of a b c ≡ c
unfolding stepped_of tick_all with_drives
stepped_stands a b c long all =
    let T : ℕ = step_ticks (c.registers.spec1 / 16) in
    rw (
      tick_stands 0 _ T (drive_at 0 c.drives) (all 0 (omega arith)),
      tick_stands 1 _ T (drive_at 1 c.drives) (all 1 (omega arith)),
      tick_stands 2 _ T (drive_at 2 c.drives) (all 2 (omega arith)),
      tick_stands 3 _ T (drive_at 3 c.drives) (all 3 (omega arith)),
      ← four_drives c.drives long,
    )

pub all_stand_stepped : (a b : List ℕ) (c : Controller) → length c.drives ≡ 4 → all_stand c.drives ≡ true
    → stepped_of a b c ≡ c
all_stand_stepped a b c long all = stepped_stands a b c long (all_still c.drives all)
