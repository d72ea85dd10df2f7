-- The judge's verdict as a word twice as long (02 2026-04): the kind below, 0 for sound, and the offset in bits 32 up.
-- Assumes nothing.
use Rattle.std.specs.Prelude.{ℕ, Ok, Err}
use Rattle.judging.specs.Verdict.{Verdict, number_of}
use Rattle.capi.specs.Word.{long_of}

abbrev pub verdict_word : Verdict → ℕ
verdict_word (Ok _) = 0
verdict_word (Err f) = long_of (number_of f.kind) f.at
