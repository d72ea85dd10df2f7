-- A line of a log that drives the whole box (house). Numbers are hexadecimal, but for heads and tick counts:
--   p HEAD HEAD     power-on with the heads of drives 0 and 1
--   w OFFSET BYTE   r OFFSET   r OFFSET -> BYTE   port calls, the last with the value that was recorded
--   dr TC           dw BYTE TC   DMA cycles, TC 0 or 1
--   c DRIVE         t COUNT   a disk-change note, and that many ticks
-- A blank line says nothing, nor does one whose first byte past the blanks is `#`. Of a malformed line the first word
-- that is not as expected is told. Words and hexadecimal numbers are those of the crate log_lines.
-- Assumes nothing.
use Rattle.std.specs.Prelude.{ℕ, ◌+◌, ◌&&◌, Bool, false, cond, List, eqb, leb, ltb, get_or, take, Option, None, Some, Result, Ok, Err, codes}
use Rattle.log_lines.specs.Hex.{hex_in}
use Rattle.log_lines.specs.Line.{text_length}
use Rattle.log_lines.specs.Words.{word_length, word_from, letter_in, says_nothing, over}
use Rattle.log_lines.specs.declared.gather.Gathered.{Gathered}
use Rattle.log_lines.specs.declared.words.Word.{Word}
use Rattle.script.specs.Decimal.{decimal_in, head_in}
use Rattle.script.specs.declared.line.Expected.{Expected}
use Rattle.script.specs.declared.line.Expected.TheVariants as expected
use Rattle.script.specs.declared.line.Line.{Line}
use Rattle.script.specs.declared.line.Line.TheVariants.{
  Nothing,
  Power,
  Read,
  Recorded,
  Write,
  Take,
  Give,
  Change,
  Ticks,
}

-- the two bytes of a word of two; of any other word none
unfoldable pub pair_in : List ℕ → Word → Option (ℕ × ℕ)
pair_in t w = cond (eqb (word_length w) 2) (Some (get_or t w.start 0, get_or t (w.start + 1) 0)) None

-- whether a word's two bytes are these
abbrev pub is_pair : ℕ → ℕ → Option (ℕ × ℕ) → Bool
is_pair first second (Some pair) = eqb pair.0 first && eqb pair.1 second
is_pair first second None = false

-- that line, where no word follows
unfoldable pub script_ended : List ℕ → ℕ → Line → Result Line Expected
script_ended t at line = over t at line expected.End

-- `r OFFSET -> BYTE`, by the number that was to be the value
abbrev pub recorded_by : List ℕ → ℕ → ℕ → Option ℕ → Result Line Expected
recorded_by t at offset (Some byte) = script_ended t at (Recorded offset byte)
recorded_by t at offset None = Err expected.Byte

unfoldable pub recorded_from : List ℕ → ℕ → ℕ → Result Line Expected
recorded_from t at offset = recorded_by t (word_from t at).stop offset (hex_in t (word_from t at))

-- behind a read's offset: `->` 2D 3E (hexadecimal) and what follows, or nothing
unfoldable pub arrow_from : List ℕ → ℕ → ℕ → Result Line Expected
arrow_from t at offset =
    cond (is_pair 0x2D 0x3E (pair_in t (word_from t at))) (recorded_from t (word_from t at).stop offset)
    (script_ended t at (Read offset))

abbrev pub script_read_by : List ℕ → ℕ → Option ℕ → Result Line Expected
script_read_by t at (Some offset) = arrow_from t at offset
script_read_by t at None = Err expected.Offset

unfoldable pub script_read : List ℕ → ℕ → Result Line Expected
script_read t at = script_read_by t (word_from t at).stop (hex_in t (word_from t at))

-- `w OFFSET BYTE`
abbrev pub script_byte_by : List ℕ → ℕ → ℕ → Option ℕ → Result Line Expected
script_byte_by t at offset (Some byte) = script_ended t at (Write offset byte)
script_byte_by t at offset None = Err expected.Byte

unfoldable pub script_byte : List ℕ → ℕ → ℕ → Result Line Expected
script_byte t at offset = script_byte_by t (word_from t at).stop offset (hex_in t (word_from t at))

abbrev pub script_write_by : List ℕ → ℕ → Option ℕ → Result Line Expected
script_write_by t at (Some offset) = script_byte t at offset
script_write_by t at None = Err expected.Offset

unfoldable pub script_write : List ℕ → ℕ → Result Line Expected
script_write t at = script_write_by t (word_from t at).stop (hex_in t (word_from t at))

-- the flag that a number says: 0 or 1
abbrev pub flag_in : Option ℕ → Option Bool
flag_in (Some n) = cond (leb n 1) (Some (eqb n 1)) None
flag_in None = None

-- `dr TC`: 0 or 1
unfoldable pub take_at_of : List ℕ → ℕ → ℕ → Result Line Expected
take_at_of t at tc = cond (leb tc 1) (script_ended t at (Take (eqb tc 1))) (Err expected.Tc)

abbrev pub take_by : List ℕ → ℕ → Option ℕ → Result Line Expected
take_by t at (Some tc) = take_at_of t at tc
take_by t at None = Err expected.Tc

unfoldable pub take_from : List ℕ → ℕ → Result Line Expected
take_from t at = take_by t (word_from t at).stop (hex_in t (word_from t at))

-- `dw BYTE TC`
unfoldable pub give_at : List ℕ → ℕ → ℕ → ℕ → Result Line Expected
give_at t at byte tc = cond (leb tc 1) (script_ended t at (Give byte (eqb tc 1))) (Err expected.Tc)

abbrev pub tc_by : List ℕ → ℕ → ℕ → Option ℕ → Result Line Expected
tc_by t at byte (Some tc) = give_at t at byte tc
tc_by t at byte None = Err expected.Tc

unfoldable pub tc_from : List ℕ → ℕ → ℕ → Result Line Expected
tc_from t at byte = tc_by t (word_from t at).stop byte (hex_in t (word_from t at))

abbrev pub give_by : List ℕ → ℕ → Option ℕ → Result Line Expected
give_by t at (Some byte) = tc_from t at byte
give_by t at None = Err expected.Byte

unfoldable pub give_from : List ℕ → ℕ → Result Line Expected
give_from t at = give_by t (word_from t at).stop (hex_in t (word_from t at))

-- `c DRIVE`
abbrev pub change_by : List ℕ → ℕ → Option ℕ → Result Line Expected
change_by t at (Some drive) = script_ended t at (Change drive)
change_by t at None = Err expected.Drive

unfoldable pub change_from : List ℕ → ℕ → Result Line Expected
change_from t at = change_by t (word_from t at).stop (hex_in t (word_from t at))

-- `t COUNT`
abbrev pub ticks_by : List ℕ → ℕ → Option ℕ → Result Line Expected
ticks_by t at (Some n) = script_ended t at (Ticks n)
ticks_by t at None = Err expected.Count

unfoldable pub ticks_from : List ℕ → ℕ → Result Line Expected
ticks_from t at = ticks_by t (word_from t at).stop (decimal_in t (word_from t at))

-- `p HEAD HEAD`
abbrev pub second_head_by : List ℕ → ℕ → ℕ → Option ℕ → Result Line Expected
second_head_by t at head0 (Some head1) = script_ended t at (Power head0 head1)
second_head_by t at head0 None = Err expected.Head

unfoldable pub head_from : List ℕ → ℕ → ℕ → Result Line Expected
head_from t at head0 = second_head_by t (word_from t at).stop head0 (head_in t (word_from t at))

abbrev pub power_by : List ℕ → ℕ → Option ℕ → Result Line Expected
power_by t at (Some head0) = head_from t at head0
power_by t at None = Err expected.Head

unfoldable pub power_from : List ℕ → ℕ → Result Line Expected
power_from t at = power_by t (word_from t at).stop (head_in t (word_from t at))

-- a call by the letter that its word is: `r` 72, `w` 77, `t` 74, `p` 70, `c` 63 (hexadecimal) and what follows
unfoldable pub letter_call : List ℕ → ℕ → Option ℕ → Result Line Expected
letter_call t at (Some letter) =
    cond (eqb letter 0x72) (script_read t at)
    (cond (eqb letter 0x77) (script_write t at)
    (cond (eqb letter 0x74) (ticks_from t at)
    (cond (eqb letter 0x70) (power_from t at)
    (cond (eqb letter 0x63) (change_from t at)
    (Err expected.Call)))))
letter_call t at None = Err expected.Call

-- blank or a comment; else `dr` 64 72, `dw` 64 77, or one letter
unfoldable pub script_call : List ℕ → Result Line Expected
script_call t =
    cond (says_nothing t (word_from t 0)) (Ok Nothing)
    (cond (is_pair 0x64 0x72 (pair_in t (word_from t 0))) (take_from t (word_from t 0).stop)
    (cond (is_pair 0x64 0x77 (pair_in t (word_from t 0))) (give_from t (word_from t 0).stop)
    (letter_call t (word_from t 0).stop (letter_in t (word_from t 0)))))

unfoldable pub script_line : List ℕ → Result Line Expected
script_line s = script_call (take (text_length s) s)

-- the line that the first n bytes of a text are: 255 at most
unfoldable pub script_within : List ℕ → ℕ → Result Line Expected
script_within text n = cond (ltb n 256) (script_line (take n text)) (Err expected.Shorter)

abbrev pub script_gathered : Gathered → Result Line Expected
script_gathered g = script_within g.text g.length

-- what was expected, in words
abbrev pub script_expected_text : Expected → List ℕ
script_expected_text expected.Call = codes "a call: p, w, r, dr, dw, c or t"
script_expected_text expected.Head = codes "a head position, a decimal number up to 255"
script_expected_text expected.Offset = codes "an offset, a hexadecimal byte"
script_expected_text expected.Byte = codes "a value, a hexadecimal byte"
script_expected_text expected.Tc = codes "TC, 0 or 1"
script_expected_text expected.Drive = codes "a drive, a hexadecimal byte"
script_expected_text expected.Count = codes "a count of ticks, a decimal number up to 999999999"
script_expected_text expected.End = codes "the end of the line"
script_expected_text expected.Shorter = codes "a line of at most 255 bytes"
