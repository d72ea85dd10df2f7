-- Laws of the image's layout (01 Image): every slot lies inside, two slots never share a byte, lengths and offsets fit.
-- Assumes nothing.
use Prim.Native.Nat.{ℕ, ◌≤◌, ◌<◌, ◌+◌, ◌*◌, ◌-◌, ◌%◌}
use native.Mathlib.Nat.{mul-le-mul, mul-le-mul_left, mul-le-mul_right, suc-mul, pow-le-pow_right, one-le-pow}
use native.Mathlib.Omega.{arith}
use mathlib.Core.Logic.{◌⊎◌, inl, inr}
use mathlib.Core.Path.{◌≡◌, ap}
use Rattle.image.specs.declared.layout.Geometry.{Geometry}
use Rattle.image.specs.Layout.{size_of, slot_length, track_length, length_of, track_at, offset_of, Has, InSlot}
use Rattle.image.proofs.TestLaws.{le_or_lt}

-- a product of two bounded numbers
pub product_le : (a b p q : ℕ) → a ≤ p → b ≤ q → a * b ≤ p * q
product_le a b p q h k = mul-le-mul h k

-- row i of n rows of w lies inside the n rows
pub row_inside : (i n w : ℕ) → i < n → i * w + w ≤ n * w
row_inside i n w h = omega (arith, mul-le-mul_right w h, suc-mul i w)

-- 128 to 1024, for every N
pub size_le : (n : ℕ) → size_of n ≤ 1024
unfolding size_of
size_le n = mul-le-mul_left 128 (pow-le-pow_right {n = 2} (omega arith) {i = n % 4} {j = 3} (omega arith))

pub size_ge : (n : ℕ) → 128 ≤ size_of n
unfolding size_of
size_ge n = mul-le-mul_left 128 (one-le-pow (n % 4) 2 (omega arith))

-- header and end at least
pub length_ge : (g : Geometry) → 11 ≤ length_of g
unfolding length_of
length_ge g = omega arith

module _ (g : Geometry) (cylinder side k : ℕ) (h : Has g cylinder side k) where
  -- its track is one of the disk's
  track_below : cylinder * g.heads + side < g.cylinders * g.heads
  track_below = omega (arith, row_inside cylinder g.cylinders g.heads h.on_disk, h.on_cylinder)

  -- every slot of every track lies inside the image, before the three bytes of its end
  pub slot_inside : offset_of g cylinder side k + slot_length g + 3 ≤ length_of g
  unfolding offset_of track_at length_of track_length
  slot_inside =
      omega (
        arith,
        row_inside (cylinder * g.heads + side) (g.cylinders * g.heads) (track_length g) track_below,
        row_inside k g.slots (slot_length g) h.on_track,
      )

  -- no slot touches the header or the end
  pub slot_past_header : (i : ℕ) → InSlot g cylinder side k i → 13 ≤ i
  unfolding offset_of track_at
  slot_past_header i s = omega (arith, s.from)

  pub slot_before_end : (i : ℕ) → InSlot g cylinder side k i → i + 3 < length_of g
  slot_before_end i s = omega (arith, slot_inside, s.below)

-- q rows of w and k more: q and k are told by the sum
pub row_once : (w q p k j : ℕ) → k < w → j < w → q * w + k ≡ p * w + j → (q ≡ p) × (k ≡ j)
row_once w q p k j hk hj e = go (le_or_lt q p) (le_or_lt p q)
  where
    go : (q ≤ p) ⊎ (p < q) → (p ≤ q) ⊎ (q < p) → (q ≡ p) × (k ≡ j)
    go (inl a) (inl b) =
        let s : q ≡ p = omega arith in
        let t : q * w ≡ p * w = ap (λ (n : ℕ). n * w) s in
        (s, omega arith)
    go (inl a) (inr b) = absurd (omega (arith, mul-le-mul_right w b))
    go (inr a) b = absurd (omega (arith, mul-le-mul_right w a))

-- the bytes of a track's slots, behind its five
in_track : (g : Geometry) (k m : ℕ) → k < g.slots → m < slot_length g → k * slot_length g + m + 5 < track_length g
unfolding track_length
in_track g k m h l = omega (arith, row_inside k g.slots (slot_length g) h)

-- two different slots never share a byte
pub slots_share_nothing :
    (g : Geometry) (c s k d t j i : ℕ) → Has g c s k → Has g d t j → InSlot g c s k i → InSlot g d t j i
    → (c ≡ d) × (s ≡ t) × (k ≡ j)
unfolding offset_of track_at
slots_share_nothing g c s k d t j i h h' a b =
    let m : ℕ = i - offset_of g c s k in
    let n : ℕ = i - offset_of g d t j in
    let e : (c * g.heads + s) * track_length g + (k * slot_length g + m + 5) ≡ (d * g.heads + t) * track_length g +
    (j * slot_length g + n + 5) = omega arith in
    let (tracks, rest) = row_once (track_length g) _ _ _ _ (in_track g k m h.on_track (omega arith))
    (in_track g j n h'.on_track (omega arith)) e in
    let (cs, ss) = row_once g.heads c d s t h.on_cylinder h'.on_cylinder tracks in
    (cs, ss, (row_once (slot_length g) k j m n (omega arith) (omega arith) (omega arith)).0)

-- no slot touches a track's tag, length, cylinder or side
pub slot_off_fields :
    (g : Geometry) (c s k d t m i : ℕ) → Has g c s k → InSlot g c s k i → m < 5 → i ≡ track_at g d t + m → ⊥
unfolding offset_of track_at track_length
slot_off_fields g c s k d t m i h a l e =
    let n : ℕ = i - offset_of g c s k in
    let z : (c * g.heads + s) * track_length g + (k * slot_length g + n + 5) ≡ (d * g.heads + t) * track_length g +
    m = omega arith in
    let (_, rest) = row_once (track_length g) _ _ _ _ (in_track g k n h.on_track (omega arith)) (omega arith) z in
    omega arith
