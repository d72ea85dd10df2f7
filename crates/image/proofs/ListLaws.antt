-- Facts of lists that the image's laws rest on. Assumes nothing.
use Prim.Native.Nat.{ℕ, zero, suc, ◌+◌, ◌-◌, ◌≤◌, ◌<◌}
use native.Mathlib.Omega.{arith}
use mathlib.Core.List.{List, [], ◌∷◌}
use mathlib.Core.Logic.{◌⊎◌, inl, inr}
use mathlib.Core.Path.{◌≡◌, refl, ap, ◌∙◌}
use lib.ListN.{length, get_or, take, drop, set}
use lib.Seq.{drop-cons, drop-set-lt, drop-set-add, take-set-le}

-- the values of f at n places from i on
abbrev pub listed : (ℕ → ℕ) → ℕ → ℕ → List ℕ
listed f i zero = []
listed f i (suc n) = f i ∷ listed f (suc i) n

-- n elements of a list from i on, written out, are that part of it
pub listed_part : (l : List ℕ) (n i : ℕ) → i + n ≤ length l → listed (λ k. get_or l k 0) i n ≡ take n (drop i l)
listed_part l zero i h = refl
listed_part l (suc n) i h =
    rw (drop-cons l i 0 (omega arith)) (ap (λ (r : List ℕ). get_or l i 0 ∷ r) (listed_part l n (suc i) (omega arith)))

-- a store outside of a part leaves the part
pub part_set : (l : List ℕ) (n m i b : ℕ) → (i < m) ⊎ (m + n ≤ i) → take n (drop m (set l i b)) ≡ take n (drop m l)
part_set l n m i b (inl h) = ap (take n) (drop-set-lt m l i b h)
part_set l n m i b (inr h) =
    let e : i ≡ m + (i - m) = omega arith in
    rw e (ap (take n) (drop-set-add m l (i - m) b) ∙ take-set-le n (drop m l) (i - m) b (omega arith))
