-- Lists of calls: document 01, Refusals, "over every list of calls, each handed the record that the one before
-- gave". A tick carries the two images that it is handed, whatever they hold.
-- Assumes nothing.
use Rattle.std.specs.Prelude.{ℕ, Bool, List, [], ◌∷◌, ◌≡◌}
use Rattle.fdc.specs.declared.record.Controller.{Controller}
use Rattle.fdc.specs.declared.answer.Answer.{Answer}
use Rattle.fdc.specs.Calls.{power_on, read_port, write_port, dma_read, dma_write, note_change}
use Rattle.fdc.specs.Ticks.{tick_of}

-- 01 Calls: the seven
pub data Call : Type 0 where
  powers : ℕ → ℕ → Call
  reads : ℕ → Call
  writes : ℕ → ℕ → Call
  takes : Bool → Call
  gives : ℕ → Bool → Call
  ticks : List ℕ → List ℕ → Call
  notes : ℕ → Call

-- what a call answers
unfoldable pub answer_to : Call → Controller → Answer
answer_to (powers head0 head1) c = power_on head0 head1
answer_to (reads offset) c = read_port offset c
answer_to (writes offset byte) c = write_port offset byte c
answer_to (takes tc) c = dma_read tc c
answer_to (gives byte tc) c = dma_write byte tc c
answer_to (ticks a b) c = tick_of a b c
answer_to (notes drive) c = note_change drive c

-- the record after a call, and after a list of them
abbrev pub after : Call → Controller → Controller
after call c = (answer_to call c).controller

unfoldable pub run_calls : List Call → Controller → Controller
run_calls [] c = c
run_calls (call ∷ calls) c = run_calls calls (after call c)

-- 01 Refusals: a record reached from power-on by calls
pub record Reached (c : Controller) : Type 0 where
  pub head0 : ℕ
  pub head1 : ℕ
  pub calls : List Call
  pub run : run_calls calls (power_on head0 head1).controller ≡ c
