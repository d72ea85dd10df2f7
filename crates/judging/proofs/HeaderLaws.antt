-- Laws of the header (02 2026-04, 01 Image): where it is right, its numbers are in range and it is that of its
-- geometry.
-- Assumes nothing.
use Prim.Native.Nat.{ℕ, zero, suc, ◌<◌, ◌≤◌}
use native.Mathlib.Omega.{arith}
use mathlib.Core.Bool.{Bool, true, false, ◌&&◌, true≢false}
use mathlib.Core.List.{List}
use mathlib.Core.Logic.{◌⊎◌, inl, inr}
use mathlib.Core.Path.{◌≡◌, refl, ap}
use lib.Dec.{ltb, leb}
use lib.ListN.{length, get_or, take, length-take}
use borrow.Author.Tests.{ltb-true, ltb-false, leb-false, eq-eqb}
use Rattle.image.specs.declared.layout.Geometry.{Geometry}
use Rattle.image.specs.Disk.{within, header_in, geometry_in, flag, header_of, InRange}
use Rattle.image.proofs.DiskLaws.{within_true, true_within, first_eight, header_byte_lem}
use Rattle.image.proofs.TestLaws.{both}
use Rattle.judging.specs.declared.fault.Kind.{Kind}
use Rattle.judging.specs.declared.fault.Kind.TheVariants.{Header}
use Rattle.std.specs.Prelude.{Ok}
use Rattle.judging.specs.Fault.{least, most, HeaderFault}
use Rattle.judging.specs.Judge.{right_byte, header_byte, header_fault}
use Rattle.judging.proofs.PartLaws.{Faults, Part, part_said, part_at, part_all, Wrong, part_byte}
use Rattle.judging.proofs.TwiceLaws.{cannot}
use Rattle.judging.proofs.VerdictLaws.{first_all, right_sound}

module _ (img : List ℕ) (s : header_fault img ≡ Ok tt) where
  -- every byte is there and in range
  pub right_byte_lem :
      (i : ℕ) → i < 8 → (i < length img) × (get_or least i 0 ≤ get_or img i 0) × (get_or img i 0 ≤ get_or most i 0)
  right_byte_lem i l =
      let (there, right) = both (ltb i (length img)) (right_byte i (get_or img i 0))
      (right_sound _ Header i (first_all (header_byte img) 8 s i l)) in
      let (low, high) = within_true (get_or least i 0) (get_or img i 0) (get_or most i 0) right in
      (ltb-true i (length img) there, low, high)

  pub right_range : InRange (geometry_in img)
  unfolding geometry_in
  right_range =
      record {
        cylinders = ((right_byte_lem 3 (omega arith)).1, (right_byte_lem 3 (omega arith)).2);
        heads = ((right_byte_lem 4 (omega arith)).1, (right_byte_lem 4 (omega arith)).2);
        slots = ((right_byte_lem 5 (omega arith)).1, (right_byte_lem 5 (omega arith)).2);
        n = ((right_byte_lem 6 (omega arith)).1, (right_byte_lem 6 (omega arith)).2);
      }

  in_header : header_in img ≡ true
  unfolding header_in
  in_header =
      let b0 = right_byte_lem 0 (omega arith) in
      let b1 = right_byte_lem 1 (omega arith) in
      let b2 = right_byte_lem 2 (omega arith) in
      simp (
        eq-eqb (get_or img 0 0) 1 (omega arith),
        eq-eqb (get_or img 1 0) 0 (omega arith),
        eq-eqb (get_or img 2 0) 5 (omega arith),
        true_within 1 (get_or img 3 0) 82 ((right_byte_lem 3 (omega arith)).1, (right_byte_lem 3 (omega arith)).2),
        true_within 1 (get_or img 4 0) 2 ((right_byte_lem 4 (omega arith)).1, (right_byte_lem 4 (omega arith)).2),
        true_within 1 (get_or img 5 0) 36 ((right_byte_lem 5 (omega arith)).1, (right_byte_lem 5 (omega arith)).2),
        true_within 1 (get_or img 6 0) 3 ((right_byte_lem 6 (omega arith)).1, (right_byte_lem 6 (omega arith)).2),
        true_within 0 (get_or img 7 0) 1 ((right_byte_lem 7 (omega arith)).1, (right_byte_lem 7 (omega arith)).2),
      )

  pub right_header : take 8 img ≡ header_of (geometry_in img)
  right_header = first_eight img in_header (omega (arith, (right_byte_lem 7 (omega arith)).0))

-- the bytes of a header in range
header_bytes :
    (g : Geometry) → InRange g → (o : ℕ) → o < 8
    → (get_or least o 0 ≤ get_or (header_of g) o 0) × (get_or (header_of g) o 0 ≤ get_or most o 0)
header_bytes g r zero l = (omega arith, omega arith)
header_bytes g r (suc zero) l = (omega arith, omega arith)
header_bytes g r (suc (suc zero)) l = (omega arith, omega arith)
header_bytes g r (suc (suc (suc zero))) l = r.cylinders
header_bytes g r (suc (suc (suc (suc zero)))) l = r.heads
header_bytes g r (suc (suc (suc (suc (suc zero))))) l = r.slots
header_bytes g r (suc (suc (suc (suc (suc (suc zero)))))) l = r.n
header_bytes g r (suc (suc (suc (suc (suc (suc (suc zero))))))) l = go g.protect
  where
    go : (b : Bool) → (0 ≤ flag b) × (flag b ≤ 1)
    go true = (omega arith, omega arith)
    go false = (omega arith, omega arith)
header_bytes g r (suc (suc (suc (suc (suc (suc (suc (suc o)))))))) l = absurd (omega arith)

-- a header in range has no fault
pub header_none :
    (img : List ℕ) (g : Geometry) → InRange g → take 8 img ≡ header_of g → (o : ℕ) → HeaderFault img o → ⊥
header_none img g r h o f = go f.wrong
  where
    long : 8 ≤ length img
    long = omega (arith, length-take 8 img, ap (λ (l : List ℕ). length l) h)

    go : (length img ≤ o) ⊎ ((get_or img o 0 < get_or least o 0) ⊎ (get_or most o 0 < get_or img o 0)) → ⊥
    go (inl a) = omega (arith, f.inside, long)
    go (inr (inl a)) =
        omega (arith, (header_bytes g r o f.inside).0, header_byte_lem img g h o f.inside)
    go (inr (inr a)) =
        omega (arith, (header_bytes g r o f.inside).1, header_byte_lem img g h o f.inside)

-- what a wrong byte is
wrong_byte :
    (low x high i n : ℕ) → (ltb i n && within low x high) ≡ false
    → (n ≤ i) ⊎ ((x < low) ⊎ (high < x))
wrong_byte low x high i n w = go (ltb i n) refl (leb low x) refl (leb x high) refl w
  where
    go :
        (t : Bool) → ltb i n ≡ t → (u : Bool) → leb low x ≡ u → (v : Bool) → leb x high ≡ v
        → (ltb i n && within low x high) ≡ false → (n ≤ i) ⊎ ((x < low) ⊎ (high < x))
    go false e u f v h w = inl (ltb-false i n e)
    go true e false f v h w = inr (inl (leb-false low x f))
    go true e true f false h w = inr (inr (leb-false x high h))
    go true e true f true h w = absurd (true≢false (rw (e, f, h) at w))

byte_wrong :
    (low x high i n : ℕ) → (n ≤ i) ⊎ ((x < low) ⊎ (high < x)) → (ltb i n && within low x high) ≡ false
byte_wrong low x high i n w = cannot _ (λ t.
    let (there, right) = both (ltb i n) (within low x high) t in
    let (a, b) = within_true low x high right in
    go w (ltb-true i n there) a b)
  where
    go : (n ≤ i) ⊎ ((x < low) ⊎ (high < x)) → i < n → low ≤ x → x ≤ high → ⊥
    go (inl p) a b c = omega arith
    go (inr (inl p)) a b c = omega arith
    go (inr (inr p)) a b c = omega arith

-- the header's part
abbrev pub InHeader : List ℕ → Faults
InHeader img k o = (k ≡ Header) × HeaderFault img o

pub part_header : (img : List ℕ) → Part 0 8 (InHeader img) (header_fault img)
part_header img =
    part_said (InHeader img) to back (part_all (λ i. i) faults (header_byte img) 8
    (λ i l. (omega arith, part_at refl (omega arith) (part_byte (right i) Header i)))).1
  where
    right : ℕ → Bool
    right i = ltb i (length img) && right_byte i (get_or img i 0)

    faults : ℕ → Faults
    faults i = Wrong (ltb i (length img) && right_byte i (get_or img i 0)) Header i

    to :
        (k : Kind) (o : ℕ)
        → (i : ℕ) × (i < 8) × Wrong (ltb i (length img) && right_byte i (get_or img i 0)) Header i k o → InHeader img k o
    to k o (i, l, (e, at, w)) = (
      e,
      record {
        inside = omega arith;
        wrong = rw at (wrong_byte (get_or least i 0) (get_or img i 0) (get_or most i 0) i (length img) w);
      },
    )

    back :
        (k : Kind) (o : ℕ) → InHeader img k o
        → (i : ℕ) × (i < 8) × Wrong (ltb i (length img) && right_byte i (get_or img i 0)) Header i k o
    back k o (e, f) = (
      o,
      f.inside,
      (e, refl, byte_wrong (get_or least o 0) (get_or img o 0) (get_or most o 0) o (length img) f.wrong),
    )
