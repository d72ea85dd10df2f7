-- What a call returns (house): one word, value in bits 0 to 7, refusal number in 8 to 15, INT 16, DRQ 17; for many
-- ticks a word twice as long, the last answer's below and the ticks made above it.
-- Assumes nothing.
use Rattle.std.specs.Prelude.{ℕ, ◌+◌, ◌*◌, Bool, cond}
use Rattle.fdc.specs.declared.answer.Answer.{Answer}
use Rattle.fdc.specs.declared.answer.Reply.{Reply}
use Rattle.fdc.specs.Answer.{value_of, number_in}

unfoldable pub word_in : Reply → Bool → Bool → ℕ
word_in reply int drq = value_of reply + 0x100 * number_in reply + cond int 0x10000 0 + cond drq 0x20000 0

abbrev pub word_of : Answer → ℕ
word_of answer = word_in answer.reply answer.int answer.drq

-- house: bytes that are no record get refusal 4, with both lines off
abbrev pub no_record : ℕ
no_record = 0x400

abbrev pub long_of : ℕ → ℕ → ℕ
long_of word made = word + 0x100000000 * made
