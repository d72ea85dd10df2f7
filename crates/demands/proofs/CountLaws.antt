-- How many of the first n numbers pass a test; and how far a sector number lies ahead of another, going up one by one
-- and from FF to 00 (01 Next, Result): a side's numbers sought, from R up to EOT, are all different.
-- Assumes nothing.
use Prim.Native.Nat.{ℕ, zero, suc, ◌+◌, ◌-◌, ◌%◌, ◌≤◌, ◌<◌}
use native.Mathlib.Omega.{arith}
use mathlib.Core.Bool.{Bool, true, false, false≢true}
use mathlib.Core.Logic.{◌⊎◌, inl, inr}
use mathlib.Core.Path.{◌≡◌, refl}
use lib.Dec.{leb}
use borrow.Author.Tests.{leb-true, le-leb, lt-leb}
use Rattle.chip.specs.Next.{on_by_one}
use Rattle.image.proofs.TestLaws.{le_or_lt}
use Rattle.fdc.specs.Registers.{bit}

unfoldable pub count : (ℕ → Bool) → ℕ → ℕ
count f zero = 0
count f (suc n) = count f n + bit (f n)

pub bit_le : (b : Bool) → bit b ≤ 1
bit_le true = omega arith
bit_le false = omega arith

pub count_le : (f : ℕ → Bool) (n : ℕ) → count f n ≤ n
unfolding count
count_le f zero = omega arith
count_le f (suc n) = omega (arith, count_le f n, bit_le (f n))

pub count_ext : (f h : ℕ → Bool) → ((i : ℕ) → f i ≡ h i) → (n : ℕ) → count f n ≡ count h n
unfolding count
count_ext f h e zero = refl
count_ext f h e (suc n) = rw (count_ext f h e n, e n)

bit_mono : (a b : Bool) → (a ≡ true → b ≡ true) → bit a ≤ bit b
bit_mono true b h = rw (h refl) (omega arith)
bit_mono false b h = omega arith

bit_less : (a b : Bool) → a ≡ false → b ≡ true → bit a < bit b
bit_less a b p q = rw (p, q) (omega arith)

pub count_mono : (f h : ℕ → Bool) → ((i : ℕ) → f i ≡ true → h i ≡ true) → (n : ℕ) → count f n ≤ count h n
unfolding count
count_mono f h e zero = omega arith
count_mono f h e (suc n) = omega (arith, count_mono f h e n, bit_mono (f n) (h n) (e n))

-- a test that passes wherever another does, and at one place more
pub count_less : (f h : ℕ → Bool) → ((i : ℕ) → f i ≡ true → h i ≡ true) → (k : ℕ) → f k ≡ false → h k ≡ true
    → (n : ℕ) → k < n → count f n < count h n
unfolding count
count_less f h e k p q zero l = absurd (omega arith)
count_less f h e k p q (suc n) l = go (le_or_lt n k) (count_less f h e k p q n)
  where
    go : (n ≤ k) ⊎ (k < n) → (k < n → count f n < count h n) → count f n + bit (f n) < count h n + bit (h n)
    go (inl b) ih =
        let s : n ≡ k = omega arith in
        let less : bit (f n) < bit (h n) = rw s (bit_less (f k) (h k) p q) in
        omega (arith, count_mono f h e n)
    go (inr b) ih = omega (arith, ih b, bit_mono (f n) (h n) (e n))

pub count_pos : (h : ℕ → Bool) (k n : ℕ) → h k ≡ true → k < n → 0 < count h n
count_pos h k n q l = omega (arith, count_less (λ i. false) h (λ i a. absurd (false≢true a)) k refl q n l)

-- how many steps up from r to v
unfoldable pub dist : ℕ → ℕ → ℕ
dist r v = (v + (256 - r)) % 256

pub dist_lt : (r v : ℕ) → dist r v < 256
unfolding dist
dist_lt r v = omega arith

pub dist_self : (r : ℕ) → r < 256 → dist r r ≡ 0
unfolding dist
dist_self r h = omega arith

-- one step up: every other number is one nearer, and r itself is farthest
pub dist_next : (r v : ℕ) → r < 256 → (dist (on_by_one r) v + 1 ≡ dist r v) ⊎ ((dist r v ≡ 0) × (dist (on_by_one r) v ≡ 255))
unfolding dist
dist_next r v h = go ((r + 1) % 256) (le_or_lt 1 ((v + (256 - r)) % 256)) (omega arith)
  where
    go : (n : ℕ) → (1 ≤ (v + (256 - r)) % 256) ⊎ ((v + (256 - r)) % 256 < 1) → (256 - n) % 256 ≡ (256 - (r + 1)) % 256
        → ((v + (256 - n)) % 256 + 1 ≡ (v + (256 - r)) % 256)
        ⊎ (((v + (256 - r)) % 256 ≡ 0) × ((v + (256 - n)) % 256 ≡ 255))
    go n (inl a) e = inl (omega arith)
    go n (inr a) e = inr (omega arith)

pub dist_zero : (r v : ℕ) → r < 256 → v < 256 → dist r v ≡ 0 → r ≡ v
unfolding dist
dist_zero r v h k e = omega arith

-- v is one of r, r + 1, .. , e
unfoldable pub near : ℕ → ℕ → ℕ → Bool
near r e v = leb (dist r v) (dist r e)

pub near_self : (r e : ℕ) → r < 256 → near r e r ≡ true
unfolding near
near_self r e h = le-leb (dist r r) (dist r e) (omega (arith, dist_self r h))

-- what is still to come was to come
pub near_next : (r e v : ℕ) → r < 256 → e < 256 → (r ≡ e → ⊥) → near (on_by_one r) e v ≡ true → near r e v ≡ true
unfolding near
near_next r e v h k n t = go (dist_next r v h) (dist_next r e h)
  where
    t' : dist (on_by_one r) v ≤ dist (on_by_one r) e
    t' = leb-true _ _ t

    go : (dist (on_by_one r) v + 1 ≡ dist r v) ⊎ ((dist r v ≡ 0) × (dist (on_by_one r) v ≡ 255))
        → (dist (on_by_one r) e + 1 ≡ dist r e) ⊎ ((dist r e ≡ 0) × (dist (on_by_one r) e ≡ 255))
        → leb (dist r v) (dist r e) ≡ true
    go (inl a) (inl b) = le-leb (dist r v) (dist r e) (omega (arith, t'))
    go (inr a) (inl b) = le-leb (dist r v) (dist r e) (omega arith)
    go (inl a) (inr b) = absurd (n (dist_zero r e h k b.0))
    go (inr a) (inr b) = absurd (n (dist_zero r e h k b.0))

-- and the number sought does not come again
pub near_gone : (r e : ℕ) → r < 256 → e < 256 → (r ≡ e → ⊥) → near (on_by_one r) e r ≡ false
unfolding near
near_gone r e h k n = go (dist_next r r h) (dist_next r e h)
  where
    go : (dist (on_by_one r) r + 1 ≡ dist r r) ⊎ ((dist r r ≡ 0) × (dist (on_by_one r) r ≡ 255))
        → (dist (on_by_one r) e + 1 ≡ dist r e) ⊎ ((dist r e ≡ 0) × (dist (on_by_one r) e ≡ 255))
        → leb (dist (on_by_one r) r) (dist (on_by_one r) e) ≡ false
    go (inl a) b = absurd (omega (arith, dist_self r h))
    go (inr a) (inl b) = lt-leb (dist (on_by_one r) r) (dist (on_by_one r) e) (omega (arith, dist_lt r e))
    go (inr a) (inr b) = absurd (n (dist_zero r e h k b.0))
