-- 01 Example 8, 01 Example 9, and document 01's port log, as runs of calls on the definitions. The proofs are in
-- proofs/Examples.antt.
-- Assumes nothing.
use Rattle.std.specs.Prelude.{ℕ, Bool, true, false, List, [], ◌∷◌, ◌++◌, ◌≡◌}
use Rattle.fdc.specs.declared.record.Controller.{Controller}
use Rattle.fdc.specs.declared.answer.Answer.{Answer}
use Rattle.fdc.specs.Answer.{value_of, number_in}
use Rattle.fdc.specs.Calls.{power_on}
use Rattle.reached.specs.Runs.{Call, reads, writes, ticks, answer_to, after, run_calls}

-- a line of a log: the refusal's number, the value, INT, DRQ
pub record Line : Type 0 where
  pub refusal : ℕ
  pub value : ℕ
  pub int : Bool
  pub drq : Bool

abbrev pub line_shown : Answer → Line
line_shown a = record { refusal = number_in a.reply; value = value_of a.reply; int = a.int; drq = a.drq }

abbrev pub log_of : List Call → Controller → List Line
log_of [] c = []
log_of (call ∷ calls) c = line_shown (answer_to call c) ∷ log_of calls (after call c)

-- heads at 0
abbrev pub start : Controller
start = (power_on 0 0).controller

-- with INT on and DRQ off
abbrev pub said : ℕ → ℕ → Line
said refusal value = record { refusal = refusal; value = value; int = true; drq = false }

-- bytes written to the FIFO
abbrev pub command : List ℕ → List Call
command [] = []
command (byte ∷ bytes) = writes 5 byte ∷ command bytes

-- a host's first calls: DOR, which takes the box out of reset, and Configure with EFIFO 1, FIFOTHR 0, POLL 0, PRETRK 0.
-- Closed runs begin so, and do not rest on the FIFO's values at power-on
abbrev pub readied : ℕ → List Call
readied dor = writes 2 dor ∷ command (0x13 ∷ 0x00 ∷ 0x20 ∷ 0x00 ∷ [])

-- a tick without images
abbrev pub bare : Call
bare = ticks [] []

pub record FdcExamples : Type 0 where
  -- 01 Checked examples: the port log
  pub port_log :
      log_of (writes 2 0x0C ∷ reads 4 ∷ writes 5 0x10 ∷ reads 4 ∷ reads 5 ∷ reads 4 ∷ reads 0 ∷ []) start
      ≡ said 0 0 ∷ said 0 0x80 ∷ said 0 0 ∷ said 0 0xD0 ∷ said 0 0x90 ∷ said 0 0x80 ∷ said 1 0 ∷ []
  -- 01 Example 8: Sense Drive, drive 0, side 0, head 0, unprotected: 38
  pub ex8 :
      log_of (reads 5 ∷ [])
      (run_calls (readied 0x0C ++ (command (0x04 ∷ 0x00 ∷ []) ++ (bare ∷ []))) start)
      ≡ said 0 0x38 ∷ []
  -- 01 Example 9: Read, drive 0 empty: 40 01 00
  pub ex9 :
      log_of (reads 5 ∷ reads 5 ∷ reads 5 ∷ [])
      (run_calls
      (readied 0x1C
      ++ (command (0x46 ∷ 0x00 ∷ 0x00 ∷ 0x00 ∷ 0x01 ∷ 0x02 ∷ 0x09 ∷ 0x1B ∷ 0xFF ∷ []) ++ (bare ∷ [])))
      start)
      ≡ said 0 0x40 ∷ said 0 0x01 ∷ said 0 0x00 ∷ []
