-- A drive is mounted exactly by header, length and motor bit; a command on an empty one ends at once (01 Image, End).
-- Assumes nothing.
use Rattle.std.specs.Prelude.{None, Some}
use Prim.Native.Nat.{ℕ, zero, suc, ◌/◌, ◌%◌}
use native.Mathlib.Omega.{arith}
use mathlib.Core.Bool.{Bool, true, false, cond}
use mathlib.Core.List.{List, []}
use mathlib.Core.Logic.{inl, inr}
use mathlib.Core.Path.{◌≡◌, refl}
use lib.Dec.{eqb}
use borrow.Author.Tests.{eqb-true, eq-eqb, ne_eqb}
use Rattle.image.proofs.DiskLaws.{present_fits, fits_present}
use Rattle.image.proofs.TestLaws.{by_test}
use Rattle.sectors.specs.declared.order.Order.{Order}
use Rattle.engine.specs.First.{begin_of, gate_of, entered_of}
use Rattle.sectors.specs.Result.{end_of}
use Rattle.image.specs.Disk.{Disk}
use Rattle.image.specs.declared.layout.Geometry.{Geometry}
use Rattle.image.specs.Disk.{header_in, disk_in, Fits}
use Rattle.image.specs.Lent.{pick_of}
use Rattle.fdc.specs.declared.record.Controller.{Controller}
use Rattle.fdc.specs.Registers.{motor_in}
use Rattle.fdc.specs.Ticks.{seen_of, decided_of, image_after}
use Rattle.answers.specs.Mounted.{Mounted, EmptyExactly}
use Rattle.answers.specs.Results.{Before, disk_of}
use Rattle.demands.proofs.CallLaws.{tick_starts}
use Rattle.demands.proofs.QuietLaws.{quiet_real}
use Rattle.answers.proofs.ResultLaws.{result_bytes_lem}

-- the disk seen in an image, by its motor bit
seen_present : (dor drive : ℕ) (img : List ℕ) (g : Geometry) → seen_of dor drive img ≡ Some g
    → (motor_in dor drive ≡ true) × Fits g img
unfolding seen_of
seen_present dor drive img g =
    by_test (motor_in dor drive) (λ (d : Disk). d ≡ Some g → (motor_in dor drive ≡ true) × Fits g img) _ _
    (λ t e. (t, present_fits img g e))
    (λ t e. let z : ◌≡◌ {A = ℕ} 0 1 = cc in absurd (omega arith))

present_seen : (dor drive : ℕ) (img : List ℕ) (g : Geometry) → motor_in dor drive ≡ true → Fits g img
    → seen_of dor drive img ≡ Some g
unfolding seen_of
present_seen dor drive img g t f = rw t (fits_present img g f)

-- no image is lent for another drive
none_lent : disk_in [] ≡ None
unfolding disk_in header_in
none_lent = refl

none_seen : (dor drive : ℕ) → seen_of dor drive [] ≡ None
unfolding seen_of
none_seen dor drive = by_test (motor_in dor drive) (λ (d : Disk). d ≡ None) _ _ (λ _. none_lent) (λ _. refl)

module _ (dor : ℕ) (a b : List ℕ) (g : Geometry) where
  of_seen : (drive : ℕ) → seen_of dor drive (pick_of drive a b) ≡ Some g → Mounted dor drive a b g
  unfolding motor_in
  of_seen zero e =
      let (t, f) = seen_present dor 0 a g e in
      inl (refl, f, eqb-true _ 1 t)
  of_seen (suc zero) e =
      let (t, f) = seen_present dor 1 b g e in
      inr (refl, f, eqb-true _ 1 t)
  of_seen (suc (suc k)) e =
      let n : seen_of dor (suc (suc k)) (pick_of (suc (suc k)) a b)
      ≡ None = simp (ne_eqb (suc (suc k)) 0 (λ q. omega arith), ne_eqb (suc (suc k)) 1 (λ q. omega arith))
      (none_seen dor (suc (suc k))) in
      let z : ◌≡◌ {A = ℕ} 0 1 = cc in
      absurd (omega arith)

  to_seen : (drive : ℕ) → Mounted dor drive a b g → seen_of dor drive (pick_of drive a b) ≡ Some g
  unfolding motor_in
  to_seen drive (inl (e, f, m)) = rw e (present_seen dor 0 a g (eq-eqb (dor / 16 % 2) 1 m) f)
  to_seen drive (inr (e, f, m)) = rw e (present_seen dor 1 b g (eq-eqb (dor / 32 % 2) 1 m) f)

module _ (dor drive : ℕ) (a b : List ℕ) where
  absent_none : seen_of dor drive (pick_of drive a b) ≡ None → (g : Geometry) → Mounted dor drive a b g → ⊥
  absent_none e g m =
      let p = to_seen dor a b g drive m in
      let z : ◌≡◌ {A = ℕ} 0 1 = cc in
      omega arith

  none_absent : ((g : Geometry) → Mounted dor drive a b g → ⊥) → seen_of dor drive (pick_of drive a b) ≡ None
  none_absent none = go (seen_of dor drive (pick_of drive a b)) refl
    where
      go : (d : Disk) → seen_of dor drive (pick_of drive a b) ≡ d → d ≡ None
      go None e = refl
      go (Some g) e = absurd (none g (of_seen dor a b g drive e))

same : {A : Type 0} (t : Bool) (x : A) → cond t x x ≡ x
same true x = refl
same false x = refl

-- an empty drive's first tick stores nothing
untouched : (c : Controller) (order : Order) (a b : List ℕ) → Before c order → disk_of order.drive a b c ≡ None
    → (k : ℕ) (img : List ℕ) → image_after k a b c img ≡ img
unfolding image_after decided_of begin_of gate_of entered_of end_of
untouched c order a b before e k img =
    rw (tick_starts a b c order (quiet_real c before.real) before.accepted, e) (same (eqb order.drive k) img)

pub empty_exactly : EmptyExactly
empty_exactly = record {
  mounted = λ dor drive a b g. (of_seen dor a b g drive, to_seen dor a b g drive);
  empty = λ dor drive a b. (absent_none dor drive a b, none_absent dor drive a b);
  ends = λ c order a b before none.
      result_bytes_lem.first.empty c order a b before (none_absent c.registers.dor order.drive a b none);
  untouched = λ c order a b before none.
      untouched c order a b before (none_absent c.registers.dor order.drive a b none);
}
