-- What the library's calls stand for: the calls of document 01, `bel_ticks` counted as the ticks it made, on a record
-- and two images; and what the word then says.
-- Assumes nothing.
use Rattle.std.specs.Prelude.{ℕ, zero, suc, cond, List, [], ◌∷◌, ◌++◌, length}
use Rattle.fdc.specs.declared.answer.Answer.{Answer}
use Rattle.fdc.specs.declared.record.Controller.{Controller}
use Rattle.fdc.specs.Answer.{answer_of}
use Rattle.fdc.specs.Record.{valid_of}
use Rattle.fdc.specs.Registers.{int_of, drq_of}
use Rattle.reached.specs.Runs.{Call, powers, reads, writes, takes, gives, notes, answer_to, after, run_calls}
use Rattle.reached.specs.Runs.{ticks}
use Rattle.fdc.specs.Ticks.{tick_reply, image_after}
use Rattle.demands.specs.Work.{image_left}
use Rattle.many_ticks.specs.Run.{changed}
use Rattle.capi.specs.Calls.{set_in}
use Rattle.capi.specs.Word.{word_of, long_of}
use Rattle.firmware.specs.Calls.{BelCall, power_on_law, read_port_law, write_port_law, dma_read_law, dma_write_law, tick, note_change_law}
use Rattle.firmware.specs.Calls.{tick_many, lends}

-- the box of document 01: the record, and the images of drives 0 and 1
pub record Box : Type 0 where
  pub controller : Controller
  pub first : List ℕ
  pub second : List ℕ

-- up to n ticks, none after the first that changes INT or DRQ; each is handed the images as the one before left them
unfoldable pub tick_calls : ℕ → List ℕ → List ℕ → Controller → List Call
tick_calls zero a b c = []
tick_calls (suc n) a b c =
    ticks a b
    ∷ cond (changed (int_of c) (drq_of c) (answer_to (ticks a b) c).int (answer_to (ticks a b) c).drq) []
    (tick_calls n (image_after 0 a b c a) (image_after 1 a b c b) (after (ticks a b) c))

-- 01 Refusals 4: of a damaged record none is made
unfoldable pub ticks_made : ℕ → List ℕ → List ℕ → Controller → List Call
ticks_made n a b c = cond (valid_of c) (tick_calls n a b c) []

-- what a call makes; a byte that is not 0 is TC
unfoldable pub calls_in : BelCall → Box → List Call
calls_in (power_on_law head0 head1) x = powers head0 head1 ∷ []
calls_in (read_port_law offset) x = reads offset ∷ []
calls_in (write_port_law offset byte) x = writes offset byte ∷ []
calls_in (dma_read_law tc) x = takes (set_in tc) ∷ []
calls_in (dma_write_law byte tc) x = gives byte (set_in tc) ∷ []
calls_in tick x = ticks x.first x.second ∷ []
calls_in (note_change_law drive) x = notes drive ∷ []
calls_in (tick_many n) x = ticks_made n x.first x.second x.controller
calls_in (lends a b) x = []

-- the record and the images after calls of document 01: the images by their ticks, one after the other
abbrev pub box_by : List Call → Box → Box
box_by calls x =
    record {
      controller = run_calls calls x.controller;
      first = image_left 0 x.first calls x.controller;
      second = image_left 1 x.second calls x.controller;
    }

-- a disk changed: the firmware lends other images from then on
abbrev pub lent : BelCall → Box → Box
lent (power_on_law head0 head1) x = x
lent (read_port_law offset) x = x
lent (write_port_law offset byte) x = x
lent (dma_read_law tc) x = x
lent (dma_write_law byte tc) x = x
lent tick x = x
lent (note_change_law drive) x = x
lent (tick_many n) x = x
lent (lends a b) x = record { controller = x.controller; first = a; second = b }

abbrev pub box_after : BelCall → Box → Box
box_after call x = lent call (box_by (calls_in call x) x)

-- after a list of them, and all the calls of document 01 that it made
unfoldable pub box_left : List BelCall → Box → Box
box_left [] x = x
box_left (call ∷ calls) x = box_left calls (box_after call x)

unfoldable pub calls_made : List BelCall → Box → List Call
calls_made [] x = []
calls_made (call ∷ calls) x = calls_in call x ++ calls_made calls (box_after call x)

-- the last answer of some calls; of none this one
unfoldable pub last_of : Answer → List Call → Controller → Answer
last_of answer [] c = answer
last_of answer (call ∷ calls) c = last_of (answer_to call c) calls (after call c)

-- the word says the call's answer; of many ticks the last one's below and the ticks made above it, with none value 0
-- and the record's lines, or its refusal 4
unfoldable pub word_by : BelCall → Box → ℕ
word_by (power_on_law head0 head1) x = word_of (answer_to (powers head0 head1) x.controller)
word_by (read_port_law offset) x = word_of (answer_to (reads offset) x.controller)
word_by (write_port_law offset byte) x = word_of (answer_to (writes offset byte) x.controller)
word_by (dma_read_law tc) x = word_of (answer_to (takes (set_in tc)) x.controller)
word_by (dma_write_law byte tc) x = word_of (answer_to (gives byte (set_in tc)) x.controller)
word_by tick x = word_of (answer_to (ticks x.first x.second) x.controller)
word_by (note_change_law drive) x = word_of (answer_to (notes drive) x.controller)
word_by (tick_many n) x =
    long_of
    (word_of (last_of (answer_of (tick_reply x.controller) x.controller) (calls_in (tick_many n) x) x.controller))
    (length (calls_in (tick_many n) x))
word_by (lends a b) x = 0
