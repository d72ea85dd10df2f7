-- A line whose bytes come in one at a time: of up to 255 bytes it is the line of those bytes (`gathered_line_lem`), of more
-- it is malformed (`gathered_long`).
-- Assumes nothing.
use Rattle.std.specs.Prelude.{ℕ, ◌+◌, cond, List, [], ◌∷◌, ltb, take, set, replicate, Result, Err}
use Rattle.log_lines.specs.declared.gather.Gathered.{Gathered}
use Rattle.log_lines.specs.declared.line.Expected.{Expected}
use Rattle.log_lines.specs.declared.line.Expected.TheVariants as expected
use Rattle.log_lines.specs.declared.line.Line.{Line}
use Rattle.log_lines.specs.Line.{line_of}

abbrev pub no_text : Gathered
no_text = record { text = replicate 256 0; length = 0 }

-- a byte more; the 256th is kept and tells that the line is too long, and later ones are dropped
unfoldable pub added_to : ℕ → Gathered → Gathered
added_to b g = cond (ltb g.length 256) (record { text = set g.text g.length b; length = g.length + 1 }) g

-- the line that the first n bytes of a text are
unfoldable pub line_within : List ℕ → ℕ → Result Line Expected
line_within text n = cond (ltb n 256) (line_of (take n text)) (Err expected.Shorter)

abbrev pub gathered_line : Gathered → Result Line Expected
gathered_line g = line_within g.text g.length

-- a list of bytes, one after the other
unfoldable pub added_all : List ℕ → Gathered → Gathered
added_all [] g = g
added_all (b ∷ s) g = added_all s (added_to b g)
