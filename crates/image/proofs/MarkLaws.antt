-- Laws of the marks (01 Image marks): each case has its byte, and bytes above 5 count as 0.
-- Assumes nothing.
use Prim.Native.Nat.{ℕ, ◌<◌}
use native.Mathlib.Omega.{arith}
use mathlib.Core.Bool.{true, false}
use mathlib.Core.Path.{◌≡◌, refl}
use borrow.Author.Tests.{ne_eqb}
use Rattle.image.specs.declared.mark.Mark.{Mark}
use Rattle.image.specs.declared.mark.Mark.TheVariants.{NoId, Data, NoData}
use Rattle.image.specs.Mark.{mark_of, byte_of}

pub mark_of_byte : (m : Mark) → mark_of (byte_of m) ≡ m
unfolding mark_of
mark_of_byte NoId = refl
mark_of_byte (Data false false) = refl
mark_of_byte (Data true false) = refl
mark_of_byte (Data false true) = refl
mark_of_byte (Data true true) = refl
mark_of_byte NoData = refl

pub mark_above : (b : ℕ) → 5 < b → mark_of b ≡ NoId
unfolding mark_of
mark_above b h =
    simp (
      ne_eqb b 1 (λ e. omega arith),
      ne_eqb b 2 (λ e. omega arith),
      ne_eqb b 3 (λ e. omega arith),
      ne_eqb b 4 (λ e. omega arith),
      ne_eqb b 5 (λ e. omega arith),
    )
