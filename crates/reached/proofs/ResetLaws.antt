-- Laws of the software reset (01 Registers reset; 01 Easy 3, "PCN taken for the head: after reset they differ").
-- Assumes nothing.
use Prim.Native.Nat.{ℕ, zero, suc, ◌+◌, ◌/◌, ◌<◌}
use native.Mathlib.Omega.{arith}
use mathlib.Core.Bool.{true, false}
use mathlib.Core.Path.{◌≡◌, refl, ap, ◌∙◌}
use lib.Dec.{eqb}
use Rattle.image.proofs.TestLaws.{by_test}
use Rattle.drive.specs.declared.Drive.{Drive}
use Rattle.drive.specs.Drive.{reported_of}
use Rattle.drive.specs.Drive.{reset_drive}
use Rattle.fdc.specs.declared.record.Controller.{Controller}
use Rattle.fdc.specs.Record.{drive_at, with_drives, with_registers}
use Rattle.fdc.specs.Registers.{held_in}
use Rattle.fdc.specs.Reset.{reset_all, reset_of, report_all, released_by, released_of, with_dor, with_rate, wrote_dor, wrote_dsr}

-- each drive after a reset: PCN 0, the head and the change flag as they were, nothing pending
pub reset_drive_lem : (k : ℕ) (c : Controller) → k < 4 → drive_at k (reset_of c).drives ≡ reset_drive (drive_at k c.drives)
unfolding reset_of reset_all
reset_drive_lem zero c h = refl
reset_drive_lem (suc zero) c h = refl
reset_drive_lem (suc (suc zero)) c h = refl
reset_drive_lem (suc (suc (suc zero))) c h = refl
reset_drive_lem (suc (suc (suc (suc k)))) c h = absurd (omega arith)

-- and after its release: with POLL 0 the report C0 + drive
pub release_drive : (k : ℕ) (c : Controller) → k < 4 → c.registers.poll ≡ false
    → drive_at k (released_of c).drives ≡ reported_of (0xC0 + k) (drive_at k c.drives)
unfolding released_of released_by report_all with_drives
release_drive zero c h p = simp p
release_drive (suc zero) c h p = simp p
release_drive (suc (suc zero)) c h p = simp p
release_drive (suc (suc (suc zero))) c h p = simp p
release_drive (suc (suc (suc (suc k)))) c h p = absurd (omega arith)

-- 01 Easy 3: after a reset by DOR, PCN is 0 and the head is where it was
module _ (k byte : ℕ) (c : Controller) (low : k < 4) (held : held_in byte ≡ true) where
  pub dor_reset_pcn : (drive_at k (wrote_dor byte c).drives).pcn ≡ 0
  unfolding wrote_dor with_dor with_registers
  dor_reset_pcn = simp (held, reset_drive_lem k c low)

  pub dor_reset_head : (drive_at k (wrote_dor byte c).drives).head ≡ (drive_at k c.drives).head
  unfolding wrote_dor with_dor with_registers
  dor_reset_head = simp (held, reset_drive_lem k c low)

-- a release moves no head and no PCN
reported_same : (k : ℕ) (c : Controller) → k < 4
    → ((drive_at k (report_all c.drives)).pcn ≡ (drive_at k c.drives).pcn)
    × ((drive_at k (report_all c.drives)).head ≡ (drive_at k c.drives).head)
unfolding report_all
reported_same zero c h = (refl, refl)
reported_same (suc zero) c h = (refl, refl)
reported_same (suc (suc zero)) c h = (refl, refl)
reported_same (suc (suc (suc zero))) c h = (refl, refl)
reported_same (suc (suc (suc (suc k)))) c h = absurd (omega arith)

released_same : (k : ℕ) (c : Controller) → k < 4
    → ((drive_at k (released_of c).drives).pcn ≡ (drive_at k c.drives).pcn)
    × ((drive_at k (released_of c).drives).head ≡ (drive_at k c.drives).head)
unfolding released_of released_by with_drives
released_same k c h =
    by_test c.registers.poll
    (λ (e : Controller). ((drive_at k e.drives).pcn ≡ (drive_at k c.drives).pcn) × ((drive_at k e.drives).head ≡
    (drive_at k c.drives).head))
    _ _ (λ _. (refl, refl)) (λ _. reported_same k c h)

-- 01 Easy 3: and after a reset by DSR likewise
module _ (k byte : ℕ) (c : Controller) (low : k < 4) (strobe : eqb (byte / 128) 1 ≡ true)
    (free : held_in c.registers.dor ≡ false) where
  pub dsr_reset_pcn : (drive_at k (wrote_dsr byte c).drives).pcn ≡ 0
  unfolding wrote_dsr with_rate with_registers
  dsr_reset_pcn =
      simp (strobe, free) ((released_same k (reset_of c) low).0 ∙ ap (λ (d : Drive). d.pcn) (reset_drive_lem k c low))

  pub dsr_reset_head : (drive_at k (wrote_dsr byte c).drives).head ≡ (drive_at k c.drives).head
  unfolding wrote_dsr with_rate with_registers
  dsr_reset_head =
      simp (strobe, free) ((released_same k (reset_of c) low).1 ∙ ap (λ (d : Drive). d.head) (reset_drive_lem k c low))
