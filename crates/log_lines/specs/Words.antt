-- The words of a line: what stands between blanks, by its place in the line's bytes.
-- Assumes nothing.
use Rattle.std.specs.Prelude.{ℕ, suc, ◌+◌, ◌-◌, Bool, true, false, ◌||◌, cond, List, [], ◌∷◌, eqb, get_or, drop, Option, None, Some, Result, Ok, Err}
use Rattle.std.specs.Bool.{beq}
use Rattle.log_lines.specs.declared.words.Word.{Word}

-- a space or a tab
abbrev pub is_blank : ℕ → Bool
is_blank b = eqb b 0x20 || eqb b 0x09

-- how many blanks (of false: how many other bytes) a list begins with
unfoldable pub run : Bool → List ℕ → ℕ
run blank [] = 0
run blank (b ∷ s) = cond (beq (is_blank b) blank) (suc (run blank s)) 0

-- a word that stops where it starts, or before, has no bytes
abbrev pub word_length : Word → ℕ
word_length w = w.stop - w.start

-- the first word from a place on: past the blanks there, up to the next blank or the end
abbrev pub stop_from : List ℕ → ℕ → ℕ
stop_from s start = start + run false (drop start s)

abbrev pub start_from : List ℕ → ℕ → ℕ
start_from s at = at + run true (drop at s)

unfoldable pub word_from : List ℕ → ℕ → Word
word_from s at = record { start = start_from s at; stop = stop_from s (start_from s at) }

-- the byte of a word of one; of any other word none
unfoldable pub letter_in : List ℕ → Word → Option ℕ
letter_in s w = cond (eqb (word_length w) 1) (Some (get_or s w.start 0)) None

-- a line whose first word is this one is blank, or a comment: its first byte is `#`
abbrev pub says_nothing : List ℕ → Word → Bool
says_nothing s w = eqb (word_length w) 0 || eqb (get_or s w.start 0) 0x23

-- that line, where no word follows
abbrev pub over : {L E : Type 0} → List ℕ → ℕ → L → E → Result L E
over t at line otherwise = cond (eqb (word_length (word_from t at)) 0) (Ok line) (Err otherwise)
