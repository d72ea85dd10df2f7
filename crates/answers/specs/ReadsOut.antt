-- Demand 2, the result as the host takes it: document 01, Commands and Registers: so many reads of port 5 give the
-- result's bytes in order, the first turns its INT off, and after the last it is idle. Of every record without a fault
-- of refusal 4 that is not held in reset, so of every reached one that has results waiting.
-- Assumes nothing.
use Rattle.std.specs.Prelude.{ℕ, ◌+◌, ◌<◌, ◌≤◌, Bool, true, false, ◌↔◌, ◌≡◌, get_or, replicate}
use Rattle.fdc.specs.declared.answer.Reply.TheVariants.{Byte}
use Rattle.fdc.specs.declared.record.Controller.{Controller}
use Rattle.fdc.specs.declared.record.Phase.TheVariants.{Idle, Answering}
use Rattle.fdc.specs.Record.{no_bytes, drive_at}
use Rattle.fdc.specs.Registers.{int_of}
use Rattle.reached.specs.Runs.{reads, answer_to, run_calls}
use Rattle.answers.specs.Registers.{Undamaged, Free, GateOn}
use Rattle.demands.specs.Work.{Real}

-- n results wait
pub record Waiting (c : Controller) (loud : Bool) (n : ℕ) : Type 0 where
  pub undamaged : Undamaged c
  pub free : Free c
  pub answers : c.phase ≡ Answering loud
  pub left : c.bytes.left ≡ n

-- after k reads of port 5
abbrev pub after_reads : ℕ → Controller → Controller
after_reads k c = run_calls (replicate k (reads 5)) c

-- a report of some drive is pending
pub data Pending (c : Controller) : Type 0 where
  of_drive : (k : ℕ) → k < 4 → ((drive_at k c.drives).report ≡ 0 → ⊥) → Pending c

-- registers, drives and FIFO are as they were
pub record SameElse (c e : Controller) : Type 0 where
  pub registers : e.registers ≡ c.registers
  pub drives : e.drives ≡ c.drives
  pub fifo : e.fifo ≡ c.fifo

pub record TakenOut (c : Controller) (n : ℕ) : Type 0 where
  -- the k-th read is answered with the result's byte k
  pub byte : (k : ℕ) → k < n → (answer_to (reads 5) (after_reads k c)).reply ≡ Byte (get_or c.bytes.results k 0)
  -- from the first to the last but one the rest waits, without INT
  pub rest : (k : ℕ) → 0 < k → k < n
      → ((after_reads k c).phase ≡ Answering false) × (k + (after_reads k c).bytes.left ≡ n)
  -- after the last it is idle, and no byte is left
  pub idle : ((after_reads n c).phase ≡ Idle) × ((after_reads n c).bytes ≡ no_bytes)
  -- from the first read on INT is on exactly while a report is pending, and the gate bit is on
  pub int : (k : ℕ) → 0 < k → k ≤ n → (int_of (after_reads k c) ≡ true) ↔ (GateOn c × Pending c)
  -- no read changes anything else
  pub else : (k : ℕ) → k ≤ n → SameElse c (after_reads k c)

pub record ReadsOut : Type 0 where
  -- ST0 ST1 ST2 C H R N: seven reads give the seven bytes
  pub seven : (c : Controller) → Waiting c true 7 → TakenOut c 7
  -- every reached record with such a result has seven
  pub reached : (c : Controller) → Real c → c.phase ≡ Answering true → Waiting c true 7
  -- and any other result likewise: Sense Interrupt's two bytes, the one of Sense Drive, Version or an 80
  pub any : (c : Controller) (loud : Bool) (n : ℕ) → 0 < n → Waiting c loud n → TakenOut c n
  pub reached_any : (c : Controller) → Real c → c.phase ≡ Answering false
      → Waiting c false c.bytes.left × (0 < c.bytes.left)
