-- Laws of `disk_in` (01 Image mounted): it answers a disk exactly when the image fits, and a store behind the header
-- changes no answer.
-- Assumes nothing.
use Rattle.std.specs.Prelude.{None, Some}
use Prim.Native.Nat.{ℕ, ◌*◌, ◌^◌, ◌≤◌, ◌<◌}
use native.Mathlib.Nat.{mod-eq_of_lt}
use native.Mathlib.Omega.{arith}
use mathlib.Core.Bool.{Bool, true, false, ◌&&◌}
use mathlib.Core.List.{List}
use mathlib.Core.Path.{◌≡◌, refl, sym, ap, ◌∙◌}
use lib.Dec.{eqb, leb}
use lib.ListN.{length, get_or, take, set, length-set}
use lib.Seq.{get_or-take, get_or-set_other}
use borrow.Author.Tests.{leb-true, eqb-true, eqb-false, le-leb, eq-eqb}
use Rattle.image.specs.declared.layout.Geometry.{Geometry}
use Rattle.image.specs.Disk.{Disk}
use Rattle.image.specs.Layout.{size_of, slot_length, track_length, length_of}
use Rattle.image.specs.Disk.{within, header_in, geometry_in, disk_in, flag, header_of, InRange, Fits}
use Rattle.image.proofs.LayoutLaws.{product_le, size_le, length_ge}
use Rattle.image.proofs.ListLaws.{listed_part}
use Rattle.image.proofs.TestLaws.{by_test, both}

pub within_true : (low x high : ℕ) → within low x high ≡ true → (low ≤ x) × (x ≤ high)
within_true low x high h =
    let p = both (leb low x) (leb x high) h in
    (leb-true low x p.0, leb-true x high p.1)

pub true_within : (low x high : ℕ) → (low ≤ x) × (x ≤ high) → within low x high ≡ true
true_within low x high h = simp (le-leb low x h.0, le-leb x high h.1)

flag_back : (b : Bool) → eqb (flag b) 1 ≡ b
flag_back true = refl
flag_back false = refl

flag_le : (b : Bool) → flag b ≤ 1
flag_le true = omega arith
flag_le false = omega arith

-- protect 0 or 1 is told by its flag
one_or_none : (p : ℕ) → p ≤ 1 → p ≡ flag (eqb p 1)
one_or_none p h =
    by_test (eqb p 1) (λ (n : ℕ). p ≡ n) 1 0 (λ e. eqb-true p 1 e) (λ e. omega (arith, eqb-false p 1 e))

-- a true header test, number by number
module _ (img : List ℕ) (h : header_in img ≡ true) where
  header_parts :
      ((get_or img 0 0 ≡ 1) × (get_or img 1 0 ≡ 0) × (get_or img 2 0 ≡ 5)) × InRange (geometry_in img) × (get_or img 7 0 ≤ 1)
  unfolding header_in geometry_in
  header_parts =
      let (tags, ranges) = both _ _ h in
      let (t01, t2) = both _ (eqb (get_or img 2 0) 5) tags in
      let (t0, t1) = both (eqb (get_or img 0 0) 1) (eqb (get_or img 1 0) 0) t01 in
      let (r3456, r7) = both _ (within 0 (get_or img 7 0) 1) ranges in
      let (r345, r6) = both _ (within 1 (get_or img 6 0) 3) r3456 in
      let (r34, r5) = both _ (within 1 (get_or img 5 0) 36) r345 in
      let (r3, r4) = both (within 1 (get_or img 3 0) 82) (within 1 (get_or img 4 0) 2) r34 in (
        (eqb-true _ 1 t0, eqb-true _ 0 t1, eqb-true _ 5 t2),
        record {
          cylinders = within_true 1 (get_or img 3 0) 82 r3;
          heads = within_true 1 (get_or img 4 0) 2 r4;
          slots = within_true 1 (get_or img 5 0) 36 r5;
          n = within_true 1 (get_or img 6 0) 3 r6;
        },
        (within_true 0 (get_or img 7 0) 1 r7).1,
      )

  -- the first eight bytes are the header of the geometry that they give
  pub first_eight : 8 ≤ length img → take 8 img ≡ header_of (geometry_in img)
  unfolding geometry_in
  first_eight l =
      let ((t0, t1, t2), _, p) = header_parts in
      sym (listed_part img 8 0 (omega arith)) ∙ rw (t0, t1, t2, ← one_or_none (get_or img 7 0) p)

-- 01 Image mounted: an answer with a disk is right
pub present_fits : (img : List ℕ) (g : Geometry) → disk_in img ≡ Some g → Fits g img
unfolding disk_in
present_fits img g =
    by_test (header_in img && eqb (length img) (length_of (geometry_in img))) (λ (d : Disk). d ≡ Some g
    → Fits g img) _ _
    (λ t q.
    let (h, l) = both (header_in img) _ t in
    let size : length img ≡ length_of (geometry_in img) = eqb-true _ _ l in
    let e : geometry_in img ≡ g = cc in
    rw (← e) (record {
      range = (header_parts img h).1;
      header = first_eight img h (omega (arith, length_ge (geometry_in img)));
      size = size;
    }))
    (λ _ q. let z : ◌≡◌ {A = ℕ} 0 1 = cc in absurd (omega arith))

-- the header of a geometry gives that geometry
module _ (img : List ℕ) (g : Geometry) (f : take 8 img ≡ header_of g) where
  pub header_byte_lem : (k : ℕ) → k < 8 → get_or img k 0 ≡ get_or (header_of g) k 0
  header_byte_lem k h = sym (get_or-take 8 img k 0 h) ∙ ap (λ (l : List ℕ). get_or l k 0) f

  pub header_geometry : geometry_in img ≡ g
  unfolding geometry_in
  header_geometry =
      rw (
        header_byte_lem 3 (omega arith),
        header_byte_lem 4 (omega arith),
        header_byte_lem 5 (omega arith),
        header_byte_lem 6 (omega arith),
        header_byte_lem 7 (omega arith),
        flag_back g.protect,
      )

-- and an image that fits is answered with its disk
module _ (img : List ℕ) (g : Geometry) (f : Fits g img) where
  byte : (k : ℕ) → k < 8 → get_or img k 0 ≡ get_or (header_of g) k 0
  byte = header_byte_lem img g f.header

  fits_header : header_in img ≡ true
  unfolding header_in
  fits_header =
      let r = f.range in
      simp (
        byte 0 (omega arith),
        byte 1 (omega arith),
        byte 2 (omega arith),
        byte 3 (omega arith),
        byte 4 (omega arith),
        byte 5 (omega arith),
        byte 6 (omega arith),
        byte 7 (omega arith),
        true_within 1 g.cylinders 82 r.cylinders,
        true_within 1 g.heads 2 r.heads,
        true_within 1 g.slots 36 r.slots,
        true_within 1 g.n 3 r.n,
        true_within 0 (flag g.protect) 1 (omega arith, flag_le g.protect),
      )

  pub fits_present : disk_in img ≡ Some g
  unfolding disk_in
  fits_present = rw (header_geometry img g f.header, fits_header, eq-eqb (length img) (length_of g) f.size)

-- fewer bytes than a header hold no disk
pub short_absent : (img : List ℕ) → length img < 8 → disk_in img ≡ None
unfolding disk_in
short_absent img short =
    let asked : ℕ = length_of (geometry_in img) in
    by_test (header_in img && eqb (length img) asked) (λ (d : Disk). d ≡ None) (Some (geometry_in img)) None
    (λ t.
    let size : length img ≡ asked = eqb-true (length img) asked (both (header_in img) (eqb (length img) asked) t).1 in
    absurd (omega (arith, length_ge (geometry_in img), size)))
    (λ _. refl)

-- 01 Image: every other is empty
pub absent_fits_none : (img : List ℕ) → disk_in img ≡ None → (g : Geometry) → Fits g img → ⊥
absent_fits_none img a g f =
    let p = fits_present img g f in
    let z : ◌≡◌ {A = ℕ} 0 1 = cc in
    omega arith

pub fits_none_absent : (img : List ℕ) → ((g : Geometry) → Fits g img → ⊥) → disk_in img ≡ None
fits_none_absent img none = go (disk_in img) refl
  where
    go : (d : Disk) → disk_in img ≡ d → d ≡ None
    go None e = refl
    go (Some g) e = absurd (none g (present_fits img g e))

-- lengths fit: the largest image has 6,076,047 bytes
pub length_le : (g : Geometry) → InRange g → length_of g ≤ 6076047
unfolding length_of track_length
length_le g r =
    let slots = product_le g.slots (slot_length g) 36 1029 r.slots.1 (omega (arith, size_le g.n)) in
    let tracks = product_le g.cylinders g.heads 82 2 r.cylinders.1 r.heads.1 in
    omega (arith, product_le (g.cylinders * g.heads) (track_length g) 164 37049 tracks (omega (arith, slots)))

-- N of a header is taken as it stands: B = 128 x 2^N
pub size_is : (g : Geometry) → InRange g → size_of g.n ≡ 128 * 2 ^ g.n
unfolding size_of
size_is g r = rw (mod-eq_of_lt {n = g.n} {m = 4} (omega (arith, r.n.1)))

-- a store behind the header changes no disk
pub store_keeps_disk : (img : List ℕ) (i b : ℕ) → 8 ≤ i → disk_in (set img i b) ≡ disk_in img
unfolding disk_in header_in geometry_in
store_keeps_disk img i b h =
    let other : (k : ℕ) → k < 8
    → get_or (set img i b) k 0 ≡ get_or img k 0 = λ k l. get_or-set_other img i k b 0 (λ q. omega arith) in
    simp (
      length-set,
      other 0 (omega arith),
      other 1 (omega arith),
      other 2 (omega arith),
      other 3 (omega arith),
      other 4 (omega arith),
      other 5 (omega arith),
      other 6 (omega arith),
      other 7 (omega arith),
    )
