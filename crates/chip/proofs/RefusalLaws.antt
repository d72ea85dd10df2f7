-- Laws of the refusals' numbers (01 Refusals).
-- Assumes nothing.
use mathlib.Core.Path.{◌≡◌, refl, sym, ap, ◌∙◌}
use Prim.Native.Nat.{ℕ, zero, suc, ◌≤◌}
use native.Mathlib.Omega.{arith}
use Rattle.chip.specs.declared.refusal.Refusal.{Refusal}
use Rattle.chip.specs.declared.refusal.Refusal.TheVariants.{Port, Turn, Line, Damaged, Head, Drive}
use Rattle.chip.specs.Refusals.{number_of, refusal_numbered}

pub numbered_number : (f : Refusal) → refusal_numbered (number_of f) ≡ f
numbered_number Port = refl
numbered_number Turn = refl
numbered_number Line = refl
numbered_number Damaged = refl
numbered_number Head = refl
numbered_number Drive = refl

pub number_numbered : (n : ℕ) → 1 ≤ n → n ≤ 6 → number_of (refusal_numbered n) ≡ n
number_numbered zero low high = absurd (omega arith)
number_numbered (suc zero) low high = refl
number_numbered (suc (suc zero)) low high = refl
number_numbered (suc (suc (suc zero))) low high = refl
number_numbered (suc (suc (suc (suc zero)))) low high = refl
number_numbered (suc (suc (suc (suc (suc zero))))) low high = refl
number_numbered (suc (suc (suc (suc (suc (suc zero)))))) low high = refl
number_numbered (suc (suc (suc (suc (suc (suc (suc n))))))) low high = absurd (omega arith)

-- 01 Refusals: the number tells which refusal it is
pub number_tells : (f g : Refusal) → number_of f ≡ number_of g → f ≡ g
number_tells f g e = sym (numbered_number f) ∙ ap refusal_numbered e ∙ numbered_number g
