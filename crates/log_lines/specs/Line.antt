-- A line of a log (01 Checked examples, `portlog`): `w offset byte` or `r offset`. A blank line says nothing, nor does
-- one whose first byte past the blanks is `#`. Of a malformed line the first word that is not as expected is told.
-- Assumes nothing.
use Rattle.std.specs.Prelude.{ℕ, ◌-◌, cond, List, eqb, length, get_or, take, Option, None, Some, Result, Ok, Err, codes}
use Rattle.log_lines.specs.declared.line.Expected.{Expected}
use Rattle.log_lines.specs.declared.line.Expected.TheVariants as expected
use Rattle.log_lines.specs.declared.line.Line.{Line}
use Rattle.log_lines.specs.declared.line.Line.TheVariants.{Nothing, Read, Write}
use Rattle.log_lines.specs.Hex.{hex_in}
use Rattle.log_lines.specs.Words.{word_from, letter_in, says_nothing, over}

-- that line, where no word follows
unfoldable pub ended_at : List ℕ → ℕ → Line → Result Line Expected
ended_at t at line = over t at line expected.End

-- a read by the number that was to be its offset
abbrev pub read_by : List ℕ → ℕ → Option ℕ → Result Line Expected
read_by t at (Some offset) = ended_at t at (Read offset)
read_by t at None = Err expected.Offset

unfoldable pub read_from : List ℕ → ℕ → Result Line Expected
read_from t at = read_by t (word_from t at).stop (hex_in t (word_from t at))

-- a write by the number that was to be its byte
abbrev pub byte_by : List ℕ → ℕ → ℕ → Option ℕ → Result Line Expected
byte_by t at offset (Some byte) = ended_at t at (Write offset byte)
byte_by t at offset None = Err expected.Byte

unfoldable pub byte_from : List ℕ → ℕ → ℕ → Result Line Expected
byte_from t at offset = byte_by t (word_from t at).stop offset (hex_in t (word_from t at))

-- a write by the number that was to be its offset
abbrev pub write_by : List ℕ → ℕ → Option ℕ → Result Line Expected
write_by t at (Some offset) = byte_from t at offset
write_by t at None = Err expected.Offset

unfoldable pub write_from : List ℕ → ℕ → Result Line Expected
write_from t at = write_by t (word_from t at).stop (hex_in t (word_from t at))

-- a call by the letter that its word is: `r` 72, `w` 77 (hexadecimal) and what follows
abbrev pub call_by : List ℕ → ℕ → Option ℕ → Result Line Expected
call_by t at (Some letter) =
    cond (eqb letter 0x72) (read_from t at)
    (cond (eqb letter 0x77) (write_from t at)
    (Err expected.Call))
call_by t at None = Err expected.Call

-- blank or a comment, or a call
unfoldable pub call_in : List ℕ → Result Line Expected
call_in t =
    cond (says_nothing t (word_from t 0)) (Ok Nothing)
    (call_by t (word_from t 0).stop (letter_in t (word_from t 0)))

-- without the CR that may end a line
unfoldable pub text_length : List ℕ → ℕ
text_length s = cond (eqb (get_or s (length s - 1) 0) 0x0D) (length s - 1) (length s)

unfoldable pub line_of : List ℕ → Result Line Expected
line_of s = call_in (take (text_length s) s)

-- what was expected, in words
abbrev pub expected_text : Expected → List ℕ
expected_text expected.Call = codes "a call, w or r"
expected_text expected.Offset = codes "an offset, a hexadecimal byte"
expected_text expected.Byte = codes "a value, a hexadecimal byte"
expected_text expected.End = codes "the end of the line"
expected_text expected.Shorter = codes "a line of at most 255 bytes"
