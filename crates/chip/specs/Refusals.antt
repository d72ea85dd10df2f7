-- Which number each refusal has: document 01, Refusals by number. The enum's order means nothing; this does. When each
-- is given is said by the calls.
-- Assumes nothing.
use Rattle.std.specs.Prelude.{ℕ, cond, eqb}
use Rattle.chip.specs.declared.refusal.Refusal.{Refusal}
use Rattle.chip.specs.declared.refusal.Refusal.TheVariants.{Port, Turn, Line, Damaged, Head, Drive}

-- 01 Refusals 1: no such port offset; 2: the FIFO out of turn; 3: a DMA cycle without its line; 4: a damaged record;
-- 5: a head position above 81 at power-on; 6: a disk-change note for a drive above 1
abbrev pub number_of : Refusal → ℕ
number_of Port = 1
number_of Turn = 2
number_of Line = 3
number_of Damaged = 4
number_of Head = 5
number_of Drive = 6

-- and the refusal of a number, so that a call's promise says the number
abbrev pub refusal_numbered : ℕ → Refusal
refusal_numbered n =
    cond (eqb n 1) Port (cond (eqb n 2) Turn (cond (eqb n 3) Line (cond (eqb n 4) Damaged (cond (eqb n 5) Head Drive))))
