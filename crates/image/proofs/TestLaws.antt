-- What a test tells: of definitions that go by `cond`, `◌&&◌` and `◌||◌`, and of two numbers.
-- Assumes nothing.
use Prim.Native.Nat.{ℕ, ◌≤◌, ◌<◌}
use mathlib.Core.Bool.{Bool, true, false, cond, ◌&&◌, ◌||◌, beq, true≢false, false≢true}
use mathlib.Core.Logic.{◌⊎◌, inl, inr}
use mathlib.Core.Path.{◌≡◌, refl}
use lib.Dec.{leb}
use borrow.Author.Tests.{leb-true, leb-false}

-- what holds of both answers, each where its test led there, holds of the answer
pub by_test : {A : Type 0} (t : Bool) (P : A → Type 0) (x y : A) → (t ≡ true → P x) → (t ≡ false → P y) → P (cond t x y)
by_test true P x y f g = f refl
by_test false P x y f g = g refl

-- both halves of a test that is true
pub both : (a b : Bool) → (a && b) ≡ true → (a ≡ true) × (b ≡ true)
both true b h = (refl, h)
both false b h = absurd (false≢true h)

pub or_right : (t u : Bool) → (t || u) ≡ false → u ≡ false
or_right true u e = absurd (true≢false e)
or_right false u e = e

-- two truths that are the same
pub beq_self : (t : Bool) → beq t t ≡ true
beq_self true = refl
beq_self false = refl

pub beq_true : (t u : Bool) → beq t u ≡ true → t ≡ u
beq_true true true h = refl
beq_true true false h = absurd (false≢true h)
beq_true false true h = absurd (false≢true h)
beq_true false false h = refl

pub le_or_lt : (a b : ℕ) → (a ≤ b) ⊎ (b < a)
le_or_lt a b = go (leb a b) refl
  where
    go : (t : Bool) → leb a b ≡ t → (a ≤ b) ⊎ (b < a)
    go true e = inl (leb-true a b e)
    go false e = inr (leb-false a b e)
