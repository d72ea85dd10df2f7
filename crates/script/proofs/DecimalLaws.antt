-- Steps of a walk over a number's digits.
-- Assumes nothing.
use Prim.Native.Nat.{ℕ, ◌+◌, ◌≤◌, ◌<◌}
use native.Mathlib.Numerals.{add-one}
use mathlib.Core.List.{List, [], ◌∷◌}
use mathlib.Core.Path.{◌≡◌, refl}
use lib.ListN.{length, get_or, drop, drop_of_length-le}
use lib.Seq.{drop-cons}
use Rattle.std.specs.Prelude.{None, Some}
use Rattle.script.specs.Decimal.{digit_after, byte_after, count_from}

-- what is no number stays none
pub count_none : (s : List ℕ) → count_from None s ≡ None
unfolding count_from byte_after
count_none [] = refl
count_none (b ∷ s) = count_none s

module _ (n : ℕ) (t : List ℕ) (i : ℕ) where
  pub count_step : i < length t
      → count_from (Some n) (drop i t) ≡ count_from (digit_after n (get_or t i 0)) (drop (i + 1) t)
  unfolding count_from byte_after
  count_step h = rw (add-one i, drop-cons t i 0 h)

  pub count_end : length t ≤ i → count_from (Some n) (drop i t) ≡ Some n
  unfolding count_from
  count_end h = rw (drop_of_length-le t h)
