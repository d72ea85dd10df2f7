-- What each call of the library answers and leaves in the bytes lent (house), in terms of the calls of document 01.
-- Assumes nothing.
use Rattle.std.specs.Prelude.{ℕ, Bool, true, not, cond, List, ◌≡◌, eqb, leb, length}
use Rattle.fdc.specs.declared.answer.Answer.{Answer}
use Rattle.fdc.specs.Answer.{number_in}
use Rattle.fdc.specs.Ticks.{image_after}
use Rattle.pack.specs.Back.{HoldsRecord}
use Rattle.pack.specs.Bytes.{record_size, record_in, is_record, stored_of, fifo_stored}
use Rattle.many_ticks.specs.Run.{many_ticks}
use Rattle.capi.specs.Word.{no_record, word_of, long_of}

-- a byte for a flag
abbrev pub set_in : ℕ → Bool
set_in byte = not (eqb byte 0)

-- 01 Refusals: the record as handed in
unfoldable pub written_back : Answer → List ℕ → List ℕ
written_back answer l = cond (eqb (number_in answer.reply) 0) (stored_of answer.controller l) l

-- the word and the bytes after a call that answers so of the record in the bytes l
unfoldable pub word_back : List ℕ → Answer → ℕ
word_back l answer = cond (is_record l) (word_of answer) no_record

unfoldable pub bytes_from : List ℕ → Answer → List ℕ
bytes_from l answer = cond (is_record l) (written_back answer l) l

-- 01 FIFO: a DMA cycle changes the FIFO alone
unfoldable pub cycled_of : Answer → List ℕ → List ℕ
cycled_of answer l = cond (eqb (number_in answer.reply) 0) (fifo_stored answer.controller.fifo l) l

unfoldable pub cycle_from : List ℕ → Answer → List ℕ
cycle_from l answer = cond (is_record l) (cycled_of answer l) l

-- reading back what was written is the record: after a call that was not refused the bytes hold the one handed back
abbrev pub HoldsFrom : List ℕ → Answer → List ℕ → Type 0
HoldsFrom l answer after = is_record l ≡ true → number_in answer.reply ≡ 0 → HoldsRecord after answer.controller

-- power-on asks for enough bytes and no more; its refusal 5 has a record too (01 Refusals 5)
unfoldable pub power_word : List ℕ → Answer → ℕ
power_word l answer = cond (leb record_size (length l)) (word_of answer) no_record

abbrev pub power_bytes : List ℕ → Answer → List ℕ
power_bytes l answer = stored_of answer.controller l

-- the image of drive k, lent as img, after a tick
unfoldable pub image_from : ℕ → List ℕ → List ℕ → List ℕ → List ℕ → List ℕ
image_from k l a b img = cond (is_record l) (image_after k a b (record_in l) img) img

-- after many ticks
unfoldable pub long_from : ℕ → List ℕ → List ℕ → List ℕ → ℕ
long_from n l a b =
    cond (is_record l) (long_of (word_of (many_ticks n a b (record_in l)).answer) (many_ticks n a b (record_in l)).made) no_record

unfoldable pub first_from : ℕ → List ℕ → List ℕ → List ℕ → List ℕ
first_from n l a b = cond (is_record l) (many_ticks n a b (record_in l)).first a

unfoldable pub second_from : ℕ → List ℕ → List ℕ → List ℕ → List ℕ
second_from n l a b = cond (is_record l) (many_ticks n a b (record_in l)).second b
