-- Which bytes of an image differ from its file's (house: what ticks stored is written back only where bytes changed).
-- Assumes nothing.
use Rattle.std.specs.Prelude.{ℕ, suc, Bool, cond, List, [], ◌∷◌, eqb}
use Rattle.std.specs.Bool.{beq}

-- with how many pairs of equal bytes (of false: of different ones) two lists begin
unfoldable pub stretch : Bool → List ℕ → List ℕ → ℕ
stretch equal [] new = 0
stretch equal (x ∷ old) [] = 0
stretch equal (x ∷ old) (y ∷ new) = cond (beq (eqb x y) equal) (suc (stretch equal old new)) 0
