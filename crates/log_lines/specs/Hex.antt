-- Hexadecimal bytes of one or two digits, letters of either case.
-- Assumes nothing.
use Rattle.std.specs.Prelude.{ℕ, ◌+◌, ◌-◌, ◌*◌, ◌%◌, Bool, ◌&&◌, cond, List, eqb, ltb, leb, get_or, Option, None, Some}
use Rattle.log_lines.specs.declared.words.Word.{Word}
use Rattle.log_lines.specs.Words.{word_length}

abbrev pub digit_within : ℕ → ℕ → ℕ → Bool
digit_within low b high = leb low b && leb b high

-- a digit's value: 0 to 9, A to F, a to f; none for a byte that is no digit
unfoldable pub hex_of : ℕ → Option ℕ
hex_of b =
    cond (digit_within 0x30 b 0x39) (Some (b - 0x30))
    (cond (digit_within 0x41 b 0x46) (Some (b - 0x41 + 10))
    (cond (digit_within 0x61 b 0x66) (Some (b - 0x61 + 10))
    None))

-- the digit of a byte's lower half, in upper case
unfoldable pub letter_of : ℕ → ℕ
letter_of v = cond (ltb (v % 16) 10) (0x30 + v % 16) (0x41 + (v % 16 - 10))

-- two digits' number, where both are digits
unfoldable pub hex_number : Option ℕ → Option ℕ → Option ℕ
hex_number (Some high) (Some low) = Some (high * 16 + low)
hex_number (Some high) None = None
hex_number None low = None

-- a word of one digit or of two; any other word says no number
unfoldable pub hex_in : List ℕ → Word → Option ℕ
hex_in s w =
    cond (eqb (word_length w) 1) (hex_of (get_or s w.start 0))
    (cond (eqb (word_length w) 2) (hex_number (hex_of (get_or s w.start 0)) (hex_of (get_or s (w.start + 1) 0)))
    None)
