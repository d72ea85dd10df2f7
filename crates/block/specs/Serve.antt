-- The FIFO served: document 02, 2026-01: after each tick DMA cycles while DRQ is on and bytes are left, TC with the
-- last byte; seven result bytes. "A failed read leaves in the caller's block the bytes that came, and the rest as it
-- was."
-- Assumes nothing.
use Rattle.std.specs.Prelude.{ℕ, zero, suc, ◌+◌, ◌-◌, Bool, true, false, cond, List, eqb, length, get_or, set}
use Rattle.fdc.specs.declared.answer.Answer.{Answer}
use Rattle.fdc.specs.declared.record.Controller.{Controller}
use Rattle.fdc.specs.Answer.{value_of}
use Rattle.fdc.specs.Calls.{read_port, dma_read, dma_write}
use Rattle.block.specs.declared.serve.Passed.{Passed}
use Rattle.block.specs.Box.{Box, with_record, tick_answer, ticked, Came, came_with}

-- some bytes taken: the last cycle's answer, the caller's block, and how many they are
pub record Taking : Type 0 where
  pub answer : Answer
  pub out : List ℕ
  pub done : ℕ

abbrev pub taking : Answer → List ℕ → ℕ → Taking
taking answer out done = record { answer = answer; out = out; done = done }

unfoldable pub took_of : Bool → Taking → Taking
took_of tc t =
    taking (dma_read tc t.answer.controller)
    (set t.out t.done (value_of (dma_read tc t.answer.controller).reply))
    (t.done + 1)

-- so many bytes are left
unfoldable pub takes_of : ℕ → Taking → Taking
takes_of zero t = t
takes_of (suc n) t = cond t.answer.drq (takes_of n (took_of (eqb n 0) t)) t

-- what a read leaves, with the caller's block
pub record CameRead : Type 0 where
  pub came : Bool
  pub box : Box
  pub out : List ℕ

abbrev pub came_read : Bool → Box → List ℕ → CameRead
came_read came box out = record { came = came; box = box; out = out }

abbrev pub taken_after : Box → List ℕ → ℕ → Taking
taken_after s out done = takes_of (length out - done) (taking (tick_answer s) out done)

-- ticks until INT, so many at most
unfoldable pub reads_of : ℕ → Box → List ℕ → ℕ → CameRead
reads_of zero s out done = came_read false s out
reads_of (suc n) s out done =
    cond (tick_answer s).int (came_read true (ticked s) out)
    (reads_of n (with_record (taken_after s out done).answer.controller (ticked s)) (taken_after s out done).out
    (taken_after s out done).done)

abbrev pub giving : Answer → ℕ → Passed
giving answer done = record { answer = answer; done = done }

unfoldable pub gave_of : Bool → List ℕ → Passed → Passed
gave_of tc bytes p = giving (dma_write (get_or bytes p.done 0) tc p.answer.controller) (p.done + 1)

unfoldable pub gives_of : ℕ → List ℕ → Passed → Passed
gives_of zero bytes p = p
gives_of (suc n) bytes p = cond p.answer.drq (gives_of n bytes (gave_of (eqb n 0) bytes p)) p

abbrev pub given_after : Box → List ℕ → ℕ → Passed
given_after s bytes done = gives_of (length bytes - done) bytes (giving (tick_answer s) done)

unfoldable pub writes_of : ℕ → Box → List ℕ → ℕ → Came
writes_of zero s bytes done = came_with false s
writes_of (suc n) s bytes done =
    cond (tick_answer s).int (came_with true (ticked s))
    (writes_of n (with_record (given_after s bytes done).answer.controller (ticked s)) bytes
    (given_after s bytes done).done)

-- result bytes, and what their reading leaves
pub record Status : Type 0 where
  pub bytes : List ℕ
  pub controller : Controller

abbrev pub status_with : List ℕ → Controller → Status
status_with bytes c = record { bytes = bytes; controller = c }

-- so many results more, put from place k on
unfoldable pub status_from : ℕ → ℕ → List ℕ → Controller → Status
status_from zero k bytes c = status_with bytes c
status_from (suc n) k bytes c =
    status_from n (k + 1) (set bytes k (value_of (read_port 5 c).reply)) (read_port 5 c).controller
