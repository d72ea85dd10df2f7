-- The sectors of a command have different addresses on one side (01 Next): from the first number on, going up and from
-- 255 to 0, none comes twice before EOT; and a turn leaves side 0 for good.
-- Assumes nothing.
use Prim.Native.Nat.{ℕ, zero, suc, ◌+◌, ◌-◌, ◌%◌, ◌≤◌, ◌<◌}
use native.Mathlib.Omega.{arith}
use mathlib.Core.Logic.{◌⊎◌, inl, inr}
use mathlib.Core.Path.{◌≡◌, refl, sym, ◌∙◌}
use lib.Dec.{eqb}
use borrow.Author.Tests.{eq-eqb, ne_eqb}
use Rattle.image.proofs.TestLaws.{by_test, le_or_lt}
use Rattle.image.specs.declared.slot.Id.{Id}
use Rattle.chip.specs.Next.{on_by_one, advanced_of}
use Rattle.sectors.specs.declared.order.Transfer.{Transfer}
use Rattle.demands.specs.PowerCut.{Aim, onward, aim_no}
use Rattle.demands.proofs.CountLaws.{dist, dist_self}

dist_one : (r e : ℕ) → r < 256 → e < 256 → (r ≡ e → ⊥) → (dist r (on_by_one r) ≡ 1) × (1 ≤ dist r e)
unfolding dist
dist_one r e h k n = (omega arith, go (le_or_lt 1 ((e + (256 - r)) % 256)))
  where
    go : (1 ≤ (e + (256 - r)) % 256) ⊎ ((e + (256 - r)) % 256 < 1) → 1 ≤ (e + (256 - r)) % 256
    go (inl l) = l
    go (inr l) = absurd (n (omega arith))

-- one on, while EOT lies farther
dist_on : (r v e : ℕ) → r < 256 → v < 256 → e < 256 → (v ≡ e → ⊥) → dist r v ≤ dist r e
    → (dist r (on_by_one v) ≡ dist r v + 1) × (dist r v + 1 ≤ dist r e)
unfolding dist
dist_on r v e hr hv he n l = (
  omega (arith, go (le_or_lt ((v + (256 - r)) % 256 + 1) ((e + (256 - r)) % 256))),
  go (le_or_lt ((v + (256 - r)) % 256 + 1) ((e + (256 - r)) % 256)),
)
  where
    go : ((v + (256 - r)) % 256 + 1 ≤ (e + (256 - r)) % 256) ⊎ ((e + (256 - r)) % 256 < (v + (256 - r)) % 256 + 1)
        → (v + (256 - r)) % 256 + 1 ≤ (e + (256 - r)) % 256
    go (inl m) = m
    go (inr m) = absurd (n (omega arith))

-- an aim that the command has left behind: on the side before, or its number lies before the one in hand, which does
-- not lie past EOT
pub data Behind (eot : ℕ) (a b : Aim) : Type 0 where
  side_before : a.side < b.side → Behind eot a b
  number_before : a.side ≡ b.side → 0 < dist a.id.r b.id.r → dist a.id.r b.id.r ≤ dist a.id.r eot
      → Behind eot a b

-- such two differ
pub behind_differs : (eot : ℕ) (a b : Aim) → b.id.r < 256 → Behind eot a b → a.side ≡ b.side
    → a.id.r ≡ b.id.r → ⊥
behind_differs eot a b h (side_before l) s e = omega arith
behind_differs eot a b h (number_before s' l m) s e =
    let z : dist a.id.r b.id.r ≡ 0 = rw e (dist_self b.id.r h) in
    omega arith

behind_side : (eot : ℕ) (a b : Aim) → Behind eot a b → a.side ≤ b.side
behind_side eot a b (side_before l) = omega arith
behind_side eot a b (number_before s l m) = omega arith

module _ (transfer : Transfer) (aim : Aim) where
  -- 01 Next: R stays a byte
  pub onward_byte : aim.id.r < 256 → (onward transfer aim).id.r < 256
  unfolding advanced_of
  onward_byte h = by_test (eqb aim.id.r transfer.eot) (λ (i : Id). i.r < 256) _ _ (λ t. omega arith)
      (λ t. omega arith)

  -- below EOT the side stays and R is one more
  onward_step : (aim.id.r ≡ transfer.eot → ⊥)
      → ((onward transfer aim).side ≡ aim.side) × ((onward transfer aim).id.r ≡ on_by_one aim.id.r)
  unfolding advanced_of
  onward_step n = simp (ne_eqb aim.id.r transfer.eot n) (refl, refl)

  -- at EOT it is side 1
  pub onward_turn : aim.id.r ≡ transfer.eot → (onward transfer aim).side ≡ 1
  onward_turn e = simp (eq-eqb aim.id.r transfer.eot e)

  pub onward_stay : (aim.id.r ≡ transfer.eot → ⊥) → (onward transfer aim).side ≡ aim.side
  onward_stay n = (onward_step n).0

  -- what was behind stays behind, and the sector just done is behind too
  module _ (hr : aim.id.r < 256) (he : transfer.eot < 256) where
    pub behind_step : (aim.id.r ≡ transfer.eot → ⊥) → (a : Aim) → a.id.r < 256 → Behind transfer.eot a aim
        → Behind transfer.eot a (onward transfer aim)
    behind_step n a ha (side_before l) = side_before (omega (arith, (onward_step n).0))
    behind_step n a ha (number_before s l m) =
        let (t, u) = onward_step n in
        let (p, q) = dist_on a.id.r aim.id.r transfer.eot ha hr he n m in
        number_before (s ∙ sym t) (rw (u, p) (omega arith)) (rw (u, p) q)

    pub behind_done : (aim.id.r ≡ transfer.eot → ⊥) → Behind transfer.eot aim (onward transfer aim)
    behind_done n =
        let (t, u) = onward_step n in
        let (p, q) = dist_one aim.id.r transfer.eot hr he n in
        number_before (sym t) (rw (u, p) (omega arith)) (rw (u, p) q)

  pub behind_turn : aim.id.r ≡ transfer.eot → aim.side ≡ 0 → (a : Aim) → Behind transfer.eot a aim
      → Behind transfer.eot a (onward transfer aim)
  behind_turn e z a b = side_before (omega (arith, onward_turn e, behind_side _ a aim b))

  pub behind_turned : aim.id.r ≡ transfer.eot → aim.side ≡ 0 → Behind transfer.eot aim (onward transfer aim)
  behind_turned e z = side_before (omega (arith, onward_turn e))

-- all sectors before number n are behind it
abbrev pub AllBehind : Transfer → Aim → ℕ → Type 0
AllBehind transfer aim n = (m : ℕ) → m < n → Behind transfer.eot (aim_no transfer aim m) (aim_no transfer aim n)

pub aim_byte : (transfer : Transfer) (aim : Aim) → aim.id.r < 256 → (n : ℕ) → (aim_no transfer aim n).id.r < 256
aim_byte transfer aim h zero = h
aim_byte transfer aim h (suc n) = onward_byte transfer (aim_no transfer aim n) (aim_byte transfer aim h n)

module _ (transfer : Transfer) (aim : Aim) (n : ℕ) (all : AllBehind transfer aim n) where
  last_or_before : (m : ℕ) → m < suc n
      → ((a : Aim) → Behind transfer.eot a (aim_no transfer aim n) → a.id.r < 256
      → Behind transfer.eot a (aim_no transfer aim (suc n)))
      → Behind transfer.eot (aim_no transfer aim n) (aim_no transfer aim (suc n))
      → aim.id.r < 256
      → Behind transfer.eot (aim_no transfer aim m) (aim_no transfer aim (suc n))
  last_or_before m l f d h = go (le_or_lt n m)
    where
      go : (n ≤ m) ⊎ (m < n) → Behind transfer.eot (aim_no transfer aim m) (aim_no transfer aim (suc n))
      go (inl k) = let e : m ≡ n = omega arith in rw e d
      go (inr k) = f (aim_no transfer aim m) (all m k) (aim_byte transfer aim h m)

  pub all_step : aim.id.r < 256 → transfer.eot < 256 → ((aim_no transfer aim n).id.r ≡ transfer.eot → ⊥)
      → AllBehind transfer aim (suc n)
  all_step h he d m l =
      let hr = aim_byte transfer aim h n in
      last_or_before m l (λ a b ha. behind_step transfer (aim_no transfer aim n) hr he d a ha b)
      (behind_done transfer (aim_no transfer aim n) hr he d) h

  pub all_turn : aim.id.r < 256 → (aim_no transfer aim n).id.r ≡ transfer.eot → (aim_no transfer aim n).side ≡ 0
      → AllBehind transfer aim (suc n)
  all_turn h e z m l =
      last_or_before m l (λ a b ha. behind_turn transfer (aim_no transfer aim n) e z a b)
      (behind_turned transfer (aim_no transfer aim n) e z) h
