-- Laws of addresses (02 2026-04): what two slots with one address agree in, and the first slot that meets a test.
-- Assumes nothing.
use Prim.Native.Nat.{ℕ, zero, suc, ◌<◌, ◌≤◌}
use native.Mathlib.Omega.{arith}
use mathlib.Core.Bool.{Bool, true, false, ◌&&◌, ◌||◌, true≢false, false≢true}
use mathlib.Core.Logic.{◌⊎◌, inl, inr}
use mathlib.Core.Path.{◌≡◌, refl, sym, ◌∙◌}
use lib.Dec.{eqb}
use borrow.Author.Tests.{eqb-true, eq-eqb}
use Rattle.std.specs.Prelude.{Option, None, Some, MatchOption, unwrap_or}
use Rattle.image.specs.declared.slot.Id.{Id}
use Rattle.image.specs.declared.slot.Slot.{Slot}
use Rattle.image.proofs.TestLaws.{both, le_or_lt}
use Rattle.judging.specs.Twice.{has_address, in_group, same_address, some_below, First}

-- what cannot be true is false
pub cannot : (t : Bool) → (t ≡ true → ⊥) → t ≡ false
cannot true h = absurd (h refl)
cannot false h = refl

-- a group agrees in C, H and N
pub group_parts : (a b : Id) → in_group a b ≡ true → (a.c ≡ b.c) × (a.h ≡ b.h) × (a.n ≡ b.n)
group_parts a b h =
    let (ch, n) = both (eqb a.c b.c && eqb a.h b.h) _ h in
    let (c, e) = both (eqb a.c b.c) _ ch in
    (eqb-true _ _ c, eqb-true _ _ e, eqb-true _ _ n)

pub parts_group : (a b : Id) → (a.c ≡ b.c) × (a.h ≡ b.h) × (a.n ≡ b.n) → in_group a b ≡ true
parts_group a b (c, h, n) = simp (eq-eqb _ _ c, eq-eqb _ _ h, eq-eqb _ _ n)

-- one address: both have one, one group, one R
pub record Same (a b : Slot) : Type 0 where
  pub first : has_address a.mark ≡ true
  pub second : has_address b.mark ≡ true
  pub group : in_group a.id b.id ≡ true
  pub r : a.id.r ≡ b.id.r

pub same_parts : (a b : Slot) → same_address a b ≡ true → Same a b
same_parts a b h =
    let (marks, ids) = both (has_address a.mark && has_address b.mark) _ h in
    let (x, y) = both (has_address a.mark) _ marks in
    let (g, r) = both (in_group a.id b.id) _ ids in
    record { first = x; second = y; group = g; r = eqb-true _ _ r }

pub parts_same : (a b : Slot) → Same a b → same_address a b ≡ true
parts_same a b s = rw (s.first, s.second, s.group, eq-eqb _ _ s.r)

-- a number below n that meets a test
pub some_found : (p : ℕ → Bool) (n j : ℕ) → j < n → p j ≡ true → some_below p n ≡ true
unfolding some_below
some_found p zero j l h = absurd (omega arith)
some_found p (suc n) j l h = go (le_or_lt n j) (λ k. some_found p n j k h)
  where
    right : (t : Bool) → (t || true) ≡ true
    right true = refl
    right false = refl

    go : (n ≤ j) ⊎ (j < n) → (j < n → some_below p n ≡ true) → (some_below p n || p n) ≡ true
    go (inl a) k =
        let e : n ≡ j = omega arith in
        rw (e, h) (right (some_below p j))
    go (inr a) k = rw (k a)

pub some_witness : (p : ℕ → Bool) (n : ℕ) → some_below p n ≡ true → (j : ℕ) × (j < n) × (p j ≡ true)
unfolding some_below
some_witness p zero h = absurd (false≢true h)
some_witness p (suc n) h = go (some_below p n) refl (p n) refl h (some_witness p n)
  where
    go :
        (t : Bool) → some_below p n ≡ t → (u : Bool) → p n ≡ u → (some_below p n || p n) ≡ true
        → (some_below p n ≡ true → (j : ℕ) × (j < n) × (p j ≡ true)) → (j : ℕ) × (j < suc n) × (p j ≡ true)
    go true e u f h k =
        let (j, l, q) = k e in
        (j, omega arith, q)
    go false e true f h k = (n, omega arith, f)
    go false e false f h k = absurd (false≢true (rw (e, f) at h))

pub none_some : (p : ℕ → Bool) (n : ℕ) → ((j : ℕ) → j < n → p j ≡ false) → some_below p n ≡ false
none_some p n h =
    cannot (some_below p n) (λ t.
    let (j, l, q) = some_witness p n t in
    true≢false (sym q ∙ h j l))

-- there is one first number
pub first_once : (p : ℕ → Bool) (n q r : ℕ) → First p n q → First p n r → q ≡ r
first_once p n q r f g = go (le_or_lt q r) (le_or_lt r q)
  where
    -- a smaller one meets the test, and stands before the other
    never : (q r : ℕ) → First p n q → First p n r → q < r → ⊥
    never q r f g l = true≢false (sym (f.there (omega (arith, g.bounded))) ∙ g.before q l)

    go : (q ≤ r) ⊎ (r < q) → (r ≤ q) ⊎ (q < r) → q ≡ r
    go (inl a) (inl b) = omega arith
    go (inl a) (inr b) = absurd (never q r f g b)
    go (inr a) b = absurd (never r q g f a)

-- the first number meets the test
pub first_at : (p : ℕ → Bool) (n r k : ℕ) → First p n r → k < n → k ≡ r → p k ≡ true
first_at p n r k f l e = rw e (f.there (omega arith))

-- what a search over the numbers below n finds is the first
pub first_of_found :
    (p : ℕ → Bool) (n : ℕ) (r : Option ℕ)
    → MatchOption r ((k : ℕ) → 0 ≤ k → k < n → p k ≡ false)
    (λ i. (0 ≤ i) × (i < n) × (p i ≡ true) × ((k : ℕ) → 0 ≤ k → k < i → p k ≡ false))
    → First p n (unwrap_or r n)
first_of_found p n None f =
    record { bounded = omega arith; before = λ k l. f k (omega arith) l; there = λ l. absurd (omega arith) }
first_of_found p n (Some i) (z, l, t, f) =
    record { bounded = omega arith; before = λ k b. f k (omega arith) b; there = λ b. t }
