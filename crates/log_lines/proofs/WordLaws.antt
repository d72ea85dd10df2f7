-- A run of blanks, or of other bytes, is what is taken while it is of the kind.
-- Assumes nothing.
use Prim.Native.Nat.{ℕ}
use native.Mathlib.Omega.{arith}
use mathlib.Core.Bool.{Bool, beq, cond}
use mathlib.Core.List.{List, [], ◌∷◌}
use mathlib.Core.Path.{◌≡◌, refl, sym, ap, ◌∙◌}
use lib.ListN.{length}
use Rattle.std.specs.List.{prefix_len, take_while}
use Rattle.std.proofs.lemmas.List.Folds.{length-prefix_len}
use Rattle.log_lines.specs.Words.{is_blank, run}

module _ (k : Bool) where
  run_prefix : (s : List ℕ) → run k s ≡ prefix_len (λ b. beq (is_blank b) k) s
  unfolding run
  run_prefix [] = refl
  run_prefix (b ∷ s) = ap (λ n. cond (beq (is_blank b) k) n 0) (omega (arith, run_prefix s))

  pub run_taken : (s : List ℕ) → run k s ≡ length (take_while (λ b. beq (is_blank b) k) s)
  run_taken s = run_prefix s ∙ sym (length-prefix_len (λ b. beq (is_blank b) k) s)
