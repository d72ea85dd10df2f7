-- The caller's slice with the bytes that came first, and the rest as it was (02 2026-01).
-- Assumes nothing.
use Prim.Native.Nat.{ℕ, suc, ◌≤◌, ◌<◌}
use native.Mathlib.Omega.{arith}
use mathlib.Core.List.{List, [], ◌∷◌, ◌++◌}
use mathlib.Core.Path.{◌≡◌, refl, ap}
use lib.ListN.{length, set, drop}

abbrev pub filled : List ℕ → List ℕ → List ℕ
filled got out = got ++ drop (length got) out

pub filled_next : (got out : List ℕ) (byte : ℕ) → length got < length out
    → set (filled got out) (length got) byte ≡ filled (got ++ (byte ∷ [])) out
filled_next [] [] byte h = absurd (omega arith)
filled_next [] (x ∷ out) byte h = refl
filled_next (y ∷ got) [] byte h = absurd (omega arith)
filled_next (y ∷ got) (x ∷ out) byte h = ap (λ (l : List ℕ). y ∷ l) (filled_next got out byte (omega arith))

pub filled_length : (got out : List ℕ) → length got ≤ length out → length (filled got out) ≡ length out
filled_length [] out h = refl
filled_length (y ∷ got) [] h = absurd (omega arith)
filled_length (y ∷ got) (x ∷ out) h = ap suc (filled_length got out (omega arith))
