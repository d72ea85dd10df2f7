-- A stretch of equal bytes, or of different ones, is what is taken while it is of the kind; and what such a stretch says
-- of the bytes in it: those that a replay does not write back are those that the file already has.
-- Assumes nothing.
use Prim.Native.Nat.{ℕ, zero, suc, ◌<◌}
use native.Mathlib.Omega.{arith}
use mathlib.Core.Bool.{Bool, true, false, cond, beq}
use mathlib.Core.List.{List, [], ◌∷◌}
use mathlib.Core.Path.{◌≡◌, refl, sym, ap, ◌∙◌}
use Rattle.std.specs.List.{prefix_len, take_while, zip}
use Rattle.std.proofs.lemmas.List.Folds.{length-prefix_len}
use lib.Dec.{eqb}
use lib.ListN.{length, get_or}
use borrow.Author.Tests.{eqb-true}
use Rattle.script.specs.Change.{stretch}

module _ (equal : Bool) where
  stretch_prefix : (old new : List ℕ) → stretch equal old new ≡ prefix_len (λ p. beq (eqb p.0 p.1) equal) (zip old new)
  unfolding stretch
  stretch_prefix [] new = refl
  stretch_prefix (x ∷ old) [] = refl
  stretch_prefix (x ∷ old) (y ∷ new) =
      ap (λ n. cond (beq (eqb x y) equal) n 0) (omega (arith, stretch_prefix old new))

  -- the bytes that are taken are those of the stretch
  pub stretch_taken : (old new : List ℕ)
      → stretch equal old new ≡ length (take_while (λ p. beq (eqb p.0 p.1) equal) (zip old new))
  stretch_taken old new =
      stretch_prefix old new ∙ sym (length-prefix_len (λ p. beq (eqb p.0 p.1) equal) (zip old new))

-- a byte that lies in a stretch of equal ones is the same in both
pub stretch_equal : (old new : List ℕ) (i : ℕ) → i < stretch true old new → get_or old i 0 ≡ get_or new i 0
unfolding stretch
stretch_equal [] new i h = let no_byte : ⊥ = omega arith in absurd no_byte
stretch_equal (x ∷ old) [] i h = let no_byte : ⊥ = omega arith in absurd no_byte
stretch_equal (x ∷ old) (y ∷ new) i h = go (λ j k. stretch_equal old new j k) (eqb x y) refl i h
  where
    go : ((j : ℕ) → j < stretch true old new → get_or old j 0 ≡ get_or new j 0)
        → (t : Bool)
        → eqb x y ≡ t
        → (i : ℕ)
        → i < cond (beq t true) (suc (stretch true old new)) 0
        → get_or (x ∷ old) i 0 ≡ get_or (y ∷ new) i 0
    go rest true e zero k = eqb-true x y e
    go rest true e (suc i) k = rest i (omega arith)
    go rest false e i k = let no_byte : ⊥ = omega arith in absurd no_byte
