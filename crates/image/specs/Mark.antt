-- 01 Image marks: 0 no ID; 1 normal; 2 deleted; 3, 4 the same, broken; 5 ID without data; others count as 0.
-- Assumes nothing.
use Rattle.std.specs.Prelude.{ℕ, true, false, cond, eqb}
use Rattle.image.specs.declared.mark.Mark.{Mark}
use Rattle.image.specs.declared.mark.Mark.TheVariants.{NoId, Data, NoData}

abbrev pub byte_of : Mark → ℕ
byte_of NoId = 0
byte_of (Data false false) = 1
byte_of (Data true false) = 2
byte_of (Data false true) = 3
byte_of (Data true true) = 4
byte_of NoData = 5

unfoldable pub mark_of : ℕ → Mark
mark_of b =
    cond (eqb b 1) (Data false false)
    (cond (eqb b 2) (Data true false)
    (cond (eqb b 3) (Data false true)
    (cond (eqb b 4) (Data true true)
    (cond (eqb b 5) NoData NoId))))
