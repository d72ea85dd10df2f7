-- Laws of the address that follows (01 Next, Result), which callers cite in place of the definitions' text.
-- Assumes nothing.
use mathlib.Core.Path.{◌≡◌, refl}
use mathlib.Core.Bool.{Bool, true, false, ◌&&◌, cond, and-eq-true_iff}
use Prim.Native.Nat.{ℕ, ◌+◌, ◌%◌}
use native.Mathlib.Omega.{arith}
use borrow.Author.Tests.{eq-eqb, ne_eqb, eqb-true}
use lib.Dec.{eqb}
use Rattle.image.specs.declared.slot.Id.{Id}
use Rattle.chip.specs.declared.next.Next.{Next}
use Rattle.chip.specs.declared.next.Next.TheVariants.{Ended, PastEot, OtherSide, SameSide}
use Rattle.chip.specs.Next.{next_of, advanced_of, next_address, turned}
use Rattle.image.proofs.TestLaws.{by_test}

module _ (id : Id) (eot : ℕ) (mt : Bool) (side step : ℕ) where
  -- 01 Result: below EOT R alone moves, by the step, FF to 00
  pub advanced_below : (id.r ≡ eot → ⊥)
      → advanced_of id eot mt side step ≡ record { c = id.c; h = id.h; r = (id.r + step) % 256; n = id.n }
  unfolding advanced_of
  advanced_below h = simp (ne_eqb _ _ h)

  -- 01 Easy 1: at EOT R is 1, whatever it was
  pub advanced_r_at_eot : id.r ≡ eot → (advanced_of id eot mt side step).r ≡ 1
  unfolding advanced_of
  advanced_r_at_eot h = simp (eq-eqb _ _ h)

  -- 01 Result: at EOT C + 1, FF to 00, without MT and on side 1
  pub advanced_c_at_eot : id.r ≡ eot → (mt && eqb side 0) ≡ false → (advanced_of id eot mt side step).c ≡ (id.c + 1) % 256
  unfolding advanced_of
  advanced_c_at_eot h e = simp (eq-eqb _ _ h, e)

  -- 01 Result: MT on side 0 keeps C
  pub advanced_c_kept : mt ≡ true → side ≡ 0 → (advanced_of id eot mt side step).c ≡ id.c
  unfolding advanced_of
  advanced_c_kept e z =
      by_test (eqb id.r eot) (λ (a : Id). a.c ≡ id.c) _ _ (λ t. simp (e, eq-eqb _ _ z)) (λ t. refl)

  -- 01 Next: at EOT MT turns H, and without MT H stays
  pub advanced_h_turned : id.r ≡ eot → mt ≡ true → (advanced_of id eot mt side step).h ≡ turned id.h
  unfolding advanced_of
  advanced_h_turned h e = simp (eq-eqb _ _ h, e)

  pub advanced_h_kept : mt ≡ false → (advanced_of id eot mt side step).h ≡ id.h
  unfolding advanced_of
  advanced_h_kept e = by_test (eqb id.r eot) (λ (a : Id). a.h ≡ id.h) _ _ (λ t. simp e) (λ t. refl)

  -- N never changes
  pub advanced_n : (advanced_of id eot mt side step).n ≡ id.n
  unfolding advanced_of
  advanced_n = by_test (eqb id.r eot) (λ (a : Id). a.n ≡ id.n) _ _ (λ t. refl) (λ t. refl)

  -- 01 Next: with TC the end is normal, wherever the sector stands
  pub next_tc_ends : next_of id eot mt side step true ≡ Ended (advanced_of id eot mt side step)
  unfolding next_of
  next_tc_ends = refl

  -- 01 Next: below EOT, without TC, the search goes on on the same side
  pub next_same_side : (id.r ≡ eot → ⊥) → next_of id eot mt side step false ≡ SameSide (advanced_of id eot mt side step)
  unfolding next_of
  next_same_side h = simp (ne_eqb _ _ h)

-- `next_of` over the values of its three tests
abbrev chosen : Bool → Bool → Bool → Id → Next
chosen tc at turns a = cond tc (Ended a) (cond at (cond turns (OtherSide a) (PastEot a)) (SameSide a))

address : (tc at turns : Bool) (a : Id) → next_address (chosen tc at turns a) ≡ a
address true at turns a = refl
address false true true a = refl
address false true false a = refl
address false false turns a = refl

-- 01 Easy 1: whatever follows, its address is the one of `advanced_of`, so R is advanced exactly once
pub next_address_lem : (id : Id) (eot : ℕ) (mt : Bool) (side step : ℕ) (tc : Bool)
    → next_address (next_of id eot mt side step tc) ≡ advanced_of id eot mt side step
unfolding next_of
next_address_lem id eot mt side step tc = address tc (eqb id.r eot) (mt && eqb side 0) (advanced_of id eot mt side step)

ended : (tc at turns : Bool) (a b : Id) → chosen tc at turns a ≡ Ended b → tc ≡ true
ended true at turns a b e = refl
ended false true true a b e = let z : ◌≡◌ {A = ℕ} 0 1 = cc in absurd (omega arith)
ended false true false a b e = let z : ◌≡◌ {A = ℕ} 0 1 = cc in absurd (omega arith)
ended false false turns a b e = let z : ◌≡◌ {A = ℕ} 0 1 = cc in absurd (omega arith)

past_eot_law : (tc at turns : Bool) (a b : Id) → chosen tc at turns a ≡ PastEot b → at ≡ true
past_eot_law true at turns a b e = let z : ◌≡◌ {A = ℕ} 0 1 = cc in absurd (omega arith)
past_eot_law false true turns a b e = refl
past_eot_law false false turns a b e = let z : ◌≡◌ {A = ℕ} 0 1 = cc in absurd (omega arith)

other_side : (tc at turns : Bool) (a b : Id) → chosen tc at turns a ≡ OtherSide b → (at ≡ true) × (turns ≡ true)
other_side true at turns a b e = let z : ◌≡◌ {A = ℕ} 0 1 = cc in absurd (omega arith)
other_side false true true a b e = (refl, refl)
other_side false true false a b e = let z : ◌≡◌ {A = ℕ} 0 1 = cc in absurd (omega arith)
other_side false false turns a b e = let z : ◌≡◌ {A = ℕ} 0 1 = cc in absurd (omega arith)

module _ (id : Id) (eot : ℕ) (mt : Bool) (side step : ℕ) (tc : Bool) (a : Id) where
  -- 01 Easy 2: without TC no end is normal
  pub next_ended_tc : next_of id eot mt side step tc ≡ Ended a → tc ≡ true
  unfolding next_of
  next_ended_tc e = ended tc (eqb id.r eot) (mt && eqb side 0) (advanced_of id eot mt side step) a e

  -- 01 Next: the end with ST1 80 is at EOT only
  pub next_past_eot_at : next_of id eot mt side step tc ≡ PastEot a → id.r ≡ eot
  unfolding next_of
  next_past_eot_at e =
      eqb-true id.r eot (past_eot_law tc (eqb id.r eot) (mt && eqb side 0) (advanced_of id eot mt side step) a e)

  -- 01 Next: only MT, on side 0, at EOT turns over
  pub next_other_side_at : next_of id eot mt side step tc ≡ OtherSide a → (mt ≡ true) × (side ≡ 0) × (id.r ≡ eot)
  unfolding next_of
  next_other_side_at e =
      let t = other_side tc (eqb id.r eot) (mt && eqb side 0) (advanced_of id eot mt side step) a e in
      let b = (and-eq-true_iff mt (eqb side 0)).0 t.1 in
      (b.0, eqb-true side 0 b.1, eqb-true id.r eot t.0)
