-- What is printed of an answer (01 Checked examples, the output of `portlog`: value, INT, DRQ; house: a value that
-- differs from the one recorded is marked at the line's end).
-- Assumes nothing.
use Rattle.std.specs.Prelude.{ℕ, ◌/◌, Bool, true, false, not, cond, List, [], ◌∷◌, eqb}
use Rattle.chip.specs.Refusals.{number_of}
use Rattle.fdc.specs.declared.answer.Reply.{Reply}
use Rattle.fdc.specs.declared.answer.Reply.TheVariants.{Done, Byte, Refused}
use Rattle.log_lines.specs.Hex.{letter_of}

-- `1` or `0`
abbrev pub flag_text : Bool → ℕ
flag_text on = cond on 0x31 0x30

-- the value's two characters and the lines, each behind a blank
abbrev pub text_of : ℕ → ℕ → Bool → Bool → List ℕ
text_of first second int drq =
    0x20 ∷ first ∷ second ∷ 0x20 ∷ flag_text int ∷ 0x20 ∷ flag_text drq ∷ []

-- `--` where nothing is read; two digits; `R` and the refusal's number
unfoldable pub answer_text : Reply → Bool → Bool → List ℕ
answer_text Done int drq = text_of 0x2D 0x2D int drq
answer_text (Byte byte) int drq = text_of (letter_of (byte / 16)) (letter_of byte) int drq
answer_text (Refused refusal) int drq = text_of 0x52 (letter_of (number_of refusal)) int drq

-- ` != ` and the recorded byte
abbrev pub mark_text : ℕ → List ℕ
mark_text recorded =
    0x20 ∷ 0x21 ∷ 0x3D ∷ 0x20 ∷ letter_of (recorded / 16) ∷ letter_of recorded ∷ []

abbrev pub refused_in : Reply → Bool
refused_in Done = false
refused_in (Byte byte) = false
refused_in (Refused refusal) = true

-- a reply that is no byte differs from every byte
abbrev pub differs_from : ℕ → Reply → Bool
differs_from recorded Done = true
differs_from recorded (Byte byte) = not (eqb byte recorded)
differs_from recorded (Refused refusal) = true
