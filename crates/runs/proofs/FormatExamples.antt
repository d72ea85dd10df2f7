-- A whole Format (specs/FormatExamples), by computation: one equation.
-- Assumes nothing.
use native.Mathlib.Omega.{arith}
use mathlib.Core.List.{[], ◌∷◌}
use mathlib.Core.Path.{◌≡◌, refl}
use Rattle.runs.specs.FormatExamples.{one, result, format_left, FormattedRun}
use Rattle.runs.proofs.Open.{all_open}
use Rattle.runs.proofs.WholeLaws.{goes, formed_in, forms, format_run}

one_goes : formed_in one ≡ forms result (0 ∷ 0 ∷ 7 ∷ 1 ∷ []) format_left
unfolding all_open goes
one_goes = refl

pub formatted : FormattedRun
unfolding all_open
formatted = format_run one _ _ _ _ refl refl refl refl (omega arith) one_goes
