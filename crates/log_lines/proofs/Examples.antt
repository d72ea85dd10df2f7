-- Lines of a log and what they say, computed by the definitions of specs/.
-- Assumes nothing.
use mathlib.Core.List.{[], ◌∷◌}
use mathlib.Core.Path.{◌≡◌, refl}
use Rattle.std.specs.Prelude.{Ok, Err}
use Rattle.log_lines.specs.declared.line.Expected.TheVariants as expected
use Rattle.log_lines.specs.declared.line.Line.TheVariants.{Nothing, Read, Write}
use Rattle.log_lines.specs.Hex.{hex_of, hex_number, hex_in}
use Rattle.log_lines.specs.Line.{line_of, text_length, call_in, read_from, write_from, byte_from, ended_at}
use Rattle.log_lines.specs.Words.{run, word_from, letter_in}

-- 01 Checked examples: `w 2 0C`
pub a_write : line_of (0x77 ∷ 0x20 ∷ 0x32 ∷ 0x20 ∷ 0x30 ∷ 0x43 ∷ []) ≡ Ok (Write 0x02 0x0C)
unfolding hex_of hex_number hex_in line_of text_length call_in read_from write_from byte_from ended_at run word_from letter_in
a_write = refl

-- ` r  fE ` and a CR
pub a_read : line_of (0x20 ∷ 0x72 ∷ 0x20 ∷ 0x09 ∷ 0x66 ∷ 0x45 ∷ 0x20 ∷ 0x0D ∷ []) ≡ Ok (Read 0xFE)
unfolding hex_of hex_number hex_in line_of text_length call_in read_from write_from byte_from ended_at run word_from letter_in
a_read = refl

-- a CR alone, and `# r 4`
pub a_blank : line_of (0x0D ∷ []) ≡ Ok Nothing
unfolding line_of text_length call_in run word_from
a_blank = refl

pub a_comment : line_of (0x23 ∷ 0x20 ∷ 0x72 ∷ 0x20 ∷ 0x34 ∷ []) ≡ Ok Nothing
unfolding line_of text_length call_in run word_from
a_comment = refl

-- `x`, `r`, `w 2`, `r 4 4`
pub no_call : line_of (0x78 ∷ []) ≡ Err expected.Call
unfolding line_of text_length call_in run word_from letter_in
no_call = refl

pub no_offset : line_of (0x72 ∷ []) ≡ Err expected.Offset
unfolding hex_of hex_number hex_in line_of text_length call_in read_from ended_at run word_from letter_in
no_offset = refl

pub no_byte : line_of (0x77 ∷ 0x20 ∷ 0x32 ∷ []) ≡ Err expected.Byte
unfolding hex_of hex_number hex_in line_of text_length call_in read_from write_from byte_from ended_at run word_from letter_in
no_byte = refl

pub no_end : line_of (0x72 ∷ 0x20 ∷ 0x34 ∷ 0x20 ∷ 0x34 ∷ []) ≡ Err expected.End
unfolding hex_of hex_number hex_in line_of text_length call_in read_from write_from byte_from ended_at run word_from letter_in
no_end = refl
