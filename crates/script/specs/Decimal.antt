-- Decimal numbers of a log (house: heads and tick counts are decimal, all else is hexadecimal).
-- Assumes nothing.
use Rattle.std.specs.Prelude.{ℕ, ◌+◌, ◌-◌, ◌*◌, cond, List, [], ◌∷◌, ltb, leb, length, take, drop, Option, None, Some}
use Rattle.log_lines.specs.declared.words.Word.{Word}

-- a digit more, 0 to 9, after a number; it stays below 1,000,000,000
unfoldable pub digit_after : ℕ → ℕ → Option ℕ
digit_after n b =
    cond (ltb b 0x30) None (cond (ltb 0x39 b) None (cond (ltb 99999999 n) None (Some (n * 10 + (b - 0x30)))))

-- what is no number stays none
unfoldable pub byte_after : Option ℕ → ℕ → Option ℕ
byte_after (Some n) b = digit_after n b
byte_after None b = None

-- the number that goes on with these bytes
unfoldable pub count_from : Option ℕ → List ℕ → Option ℕ
count_from d [] = d
count_from d (b ∷ s) = count_from (byte_after d b) s

-- what a word of at least one byte says
unfoldable pub decimal_in : List ℕ → Word → Option ℕ
decimal_in s w =
    cond (ltb w.start w.stop)
    (cond (leb w.stop (length s)) (count_from (Some 0) (take (w.stop - w.start) (drop w.start s))) None)
    None

-- a head position is a byte; power-on refuses those above 81 (01 Refusals 5)
unfoldable pub head_by : Option ℕ → Option ℕ
head_by (Some n) = cond (leb n 255) (Some n) None
head_by None = None

abbrev pub head_in : List ℕ → Word → Option ℕ
head_in s w = head_by (decimal_in s w)
