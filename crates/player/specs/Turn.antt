-- The call that a line of a log says, on the record and the two images (01 Calls: only the tick is lent the images).
-- Assumes nothing.
use Rattle.std.specs.Prelude.{ℕ, zero, suc, List, Result, Ok, Err}
use Rattle.fdc.specs.Answer.{answer_of}
use Rattle.fdc.specs.Calls.{power_on, read_port, write_port, dma_read, dma_write, note_change}
use Rattle.fdc.specs.Ticks.{tick_of, image_after}
use Rattle.fdc.specs.declared.answer.Answer.{Answer}
use Rattle.fdc.specs.declared.answer.Reply.TheVariants.{Done}
use Rattle.fdc.specs.declared.record.Controller.{Controller}
use Rattle.script.specs.declared.line.Expected.{Expected}
use Rattle.script.specs.declared.line.Line.{Line}
use Rattle.script.specs.declared.line.Line.TheVariants.{
  Nothing,
  Power,
  Read,
  Recorded,
  Write,
  Take,
  Give,
  Change,
  Ticks,
}

-- an answer, with the record in it, and the images beside it
pub record Turn : Type 0 where
  pub answer : Answer
  pub first : List ℕ
  pub second : List ℕ

-- an answer that leaves both images as they are
abbrev pub still : Answer → List ℕ → List ℕ → Turn
still answer a b = record { answer = answer; first = a; second = b }

-- one tick, handed the record and both images
unfoldable pub turn_ticked : Turn → Turn
turn_ticked t =
    record {
      answer = tick_of t.first t.second t.answer.controller;
      first = image_after 0 t.first t.second t.answer.controller t.first;
      second = image_after 1 t.first t.second t.answer.controller t.second;
    }

-- n ticks, each handed what the one before left (house: `t N`)
unfoldable pub turn_ticks_from : ℕ → Turn → Turn
turn_ticks_from zero t = t
turn_ticks_from (suc n) t = turn_ticks_from n (turn_ticked t)

-- house: `t 0` is no tick: nothing is read, and the lines are as they stand
abbrev pub turn_ticks : ℕ → List ℕ → List ℕ → Controller → Turn
turn_ticks n a b c = turn_ticks_from n (still (answer_of Done c) a b)

-- house: the call of each line; one that says none leaves all as it is
unfoldable pub called_turn : Result Line Expected → List ℕ → List ℕ → Controller → Turn
called_turn (Ok Nothing) a b c = still (answer_of Done c) a b
called_turn (Ok (Power head0 head1)) a b c = still (power_on head0 head1) a b
called_turn (Ok (Read offset)) a b c = still (read_port offset c) a b
called_turn (Ok (Recorded offset byte)) a b c = still (read_port offset c) a b
called_turn (Ok (Write offset byte)) a b c = still (write_port offset byte c) a b
called_turn (Ok (Take tc)) a b c = still (dma_read tc c) a b
called_turn (Ok (Give byte tc)) a b c = still (dma_write byte tc c) a b
called_turn (Ok (Change drive)) a b c = still (note_change drive c) a b
called_turn (Ok (Ticks n)) a b c = turn_ticks n a b c
called_turn (Err expected) a b c = still (answer_of Done c) a b
