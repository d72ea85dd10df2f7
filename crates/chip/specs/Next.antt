-- The sector after this one: document 01, Data commands, "Next", and of "Result" the address where Next ends the
-- command. The status bytes of each end are said where the result is made.
-- Assumes nothing.
use Rattle.std.specs.Prelude.{ℕ, ◌+◌, ◌-◌, ◌*◌, ◌/◌, ◌%◌, Bool, ◌&&◌, cond, eqb}
use Rattle.image.specs.declared.slot.Id.{Id}
use Rattle.chip.specs.declared.next.Next.{Next}
use Rattle.chip.specs.declared.next.Next.TheVariants.{Ended, PastEot, OtherSide, SameSide}

-- 01 Result: so many on, FF to 00
abbrev pub after_by : ℕ → ℕ → ℕ
after_by step x = (x + step) % 256

-- and one on
abbrev pub on_by_one : ℕ → ℕ
on_by_one x = after_by 1 x

-- 01 Next: the lowest bit turned, the other seven as they are
abbrev pub turned : ℕ → ℕ
turned h = h / 2 * 2 + (1 - h % 2)

-- 01 Next, Result: below EOT R + step alone; the step is 1. At EOT R 1 and C + 1; there MT also turns the lowest bit
-- of H, and on side 0 keeps C
unfoldable pub advanced_of : Id → ℕ → Bool → ℕ → ℕ → Id
advanced_of id eot mt side step =
    cond (eqb id.r eot)
    (record {
      c = cond (mt && eqb side 0) id.c (on_by_one id.c);
      h = cond mt (turned id.h) id.h;
      r = 1;
      n = id.n;
    })
    (record { c = id.c; h = id.h; r = after_by step id.r; n = id.n })

-- 01 Next, read from the top: TC ends normally; else EOT ends with ST1 80, or with MT on side 0 turns over; else a
-- step on. Each case carries the next address
unfoldable pub next_of : Id → ℕ → Bool → ℕ → ℕ → Bool → Next
next_of id eot mt side step tc =
    cond tc (Ended (advanced_of id eot mt side step))
    (cond (eqb id.r eot)
    (cond (mt && eqb side 0) (OtherSide (advanced_of id eot mt side step)) (PastEot (advanced_of id eot mt side step)))
    (SameSide (advanced_of id eot mt side step)))

-- the address that a case carries
abbrev pub next_address : Next → Id
next_address (Ended a) = a
next_address (PastEot a) = a
next_address (OtherSide a) = a
next_address (SameSide a) = a
