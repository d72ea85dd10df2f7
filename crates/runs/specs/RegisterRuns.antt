-- Runs of calls from power-on that meet what the laws of the registers speak of, by computing: each phase and its MSR,
-- each cause of INT, DRQ, DIR, and a reset after which PCN and the head differ. `power_on_fifo` is the one closed run
-- that rests on the FIFO's values at power-on.
-- Assumes nothing.
use Rattle.std.specs.Prelude.{ℕ, true, false, List, [], ◌∷◌, ◌++◌, ◌≡◌}
use Rattle.reached.specs.Examples.{command, readied}
use Rattle.fdc.specs.Record.{drive_at}
use Rattle.fdc.specs.Registers.{int_of, drq_of}
use Rattle.reached.specs.Runs.{Call, reads, writes, ticks, notes}
use Rattle.answers.specs.Registers.{reads_as}
use Rattle.runs.specs.RowRuns.{box, row_given, move, format, marks, on}

-- what a port shows after these calls
abbrev pub ShowsAfter : ℕ → ℕ → List Call → Type 0
ShowsAfter offset value calls = reads_as offset (box 0 calls) ≡ value

-- motor 0 on, Configure, Specify with ND 1, then a command
abbrev pub polled_host : List ℕ → List Call → List Call
polled_host bytes calls = readied 0x1C ++ (command (0x03 ∷ 0x00 ∷ 0x01 ∷ []) ++ (command bytes ++ calls))

-- the reset's reports taken: Sense Interrupt and its two bytes
abbrev pub sensed_run : List Call
sensed_run = writes 5 0x08 ∷ reads 5 ∷ reads 5 ∷ []

abbrev pub all_sensed : List Call
all_sensed = sensed_run ++ (sensed_run ++ (sensed_run ++ sensed_run))

pub record RegisterRuns : Type 0 where
  -- 01 Registers MSR
  pub held : ShowsAfter 4 0x00 []
  pub idle : ShowsAfter 4 0x80 (writes 2 0x0C ∷ [])
  pub stepping : ShowsAfter 4 0x82 (readied 0x0C ++ command (0x0F ∷ 0x01 ∷ 0x05 ∷ []))
  pub gathering : ShowsAfter 4 0x90 (readied 0x0C ++ command (0x46 ∷ []))
  pub answering : ShowsAfter 4 0xD0 (readied 0x0C ++ command (0x10 ∷ []))
  pub starting : ShowsAfter 4 0x10 (row_given (move 0x46 1 2) [])
  pub in_dma : ShowsAfter 4 0x10 (row_given (move 0x46 1 2) (on 3 (marks 1 1)))
  pub identifying : ShowsAfter 4 0x10 (row_given (0x4A ∷ 0 ∷ []) (on 1 (marks 1 1)))
  pub sensing : ShowsAfter 4 0x10 (readied 0x0C ++ command (0x04 ∷ 0 ∷ []))
  pub to_host_on : ShowsAfter 4 0xF0 (polled_host (move 0x46 1 2) (on 3 (marks 1 1)))
  pub to_host_off : ShowsAfter 4 0x70 (polled_host (move 0x46 1 2) (on 2 (marks 1 1)))
  pub from_host_on : ShowsAfter 4 0xB0 (polled_host (move 0x45 1 2) (on 2 (marks 1 1)))
  pub from_host_off : ShowsAfter 4 0x30 (polled_host (move 0x45 1 2) (on 2 (marks 1 1) ++ (writes 5 0xA5 ∷ [])))
  pub formatting : ShowsAfter 4 0xB0 (polled_host (format 2) (on 1 (marks 1 1)))
  -- 01 Registers INT: a report pending; taken, none; a result with no byte taken; one byte taken; a non-DMA request;
  -- the gate bit 0
  pub by_report : int_of (box 0 (writes 2 0x0C ∷ [])) ≡ true
  pub by_none : int_of (box 0 (readied 0x0C ++ all_sensed)) ≡ false
  pub by_result : int_of (box 0 (readied 0x1C ++ (all_sensed ++ (command (move 0x46 1 2) ++ on 1 [])))) ≡ true
  pub by_taken :
      int_of (box 0 (readied 0x1C ++ (all_sensed ++ (command (move 0x46 1 2) ++ (ticks [] [] ∷ reads 5 ∷ [])))))
      ≡ false
  pub by_request : int_of (box 0 (polled_host (move 0x46 1 2) (on 3 (marks 1 1)))) ≡ true
  pub by_gate : int_of (box 0 (writes 2 0x04 ∷ [])) ≡ false
  -- 01 Registers DRQ: a DMA request, and the same with the gate bit 0
  pub drq_on : drq_of (box 0 (row_given (move 0x45 1 2) (on 1 (marks 1 1)))) ≡ true
  pub drq_gate : drq_of (box 0 (row_given (move 0x45 1 2) (on 1 (marks 1 1) ++ (writes 2 0x14 ∷ [])))) ≡ false
  -- 01 Registers power-on values: without Configure the FIFO is off, and a read's request is on with its first byte
  pub power_on_fifo : drq_of (box 0 (writes 2 0x1C ∷ command (move 0x46 1 2) ++ on 3 (marks 1 1))) ≡ true
  -- 01 Registers DIR: changed; the flag cleared by a step with a mounted image; motor off; drive 2
  pub changed : ShowsAfter 7 0x80 (writes 2 0x1C ∷ [])
  pub unchanged :
      ShowsAfter 7 0x00
      (readied 0x1C
      ++ (command (0x03 ∷ 0xF0 ∷ 0x00 ∷ []) ++ (command (0x0F ∷ 0x00 ∷ 0x01 ∷ []) ++ on 63 (marks 1 1))))
  pub noted :
      ShowsAfter 7 0x80
      (readied 0x1C
      ++ (command (0x03 ∷ 0xF0 ∷ 0x00 ∷ [])
      ++ (command (0x0F ∷ 0x00 ∷ 0x01 ∷ []) ++ (on 63 (marks 1 1) ++ (notes 0 ∷ [])))))
  pub motor_off : ShowsAfter 7 0x00 (writes 2 0x0C ∷ [])
  pub drive_2 : ShowsAfter 7 0x80 (writes 2 0x4E ∷ [])
  -- 01 Commands: an unknown code; Version, and while a drive is busy; Sense Interrupt with reports and with none
  pub unknown : ShowsAfter 5 0x80 (readied 0x0C ++ command (0x06 ∷ []))
  pub version : ShowsAfter 5 0x90 (readied 0x0C ++ command (0x10 ∷ []))
  pub busy : ShowsAfter 5 0x80 (readied 0x0C ++ command (0x0F ∷ 0x01 ∷ 0x05 ∷ 0x10 ∷ []))
  pub with_reports : ShowsAfter 5 0xC0 (readied 0x0C ++ command (0x08 ∷ []))
  pub without_reports : ShowsAfter 5 0x80 (readied 0x0C ++ (all_sensed ++ command (0x08 ∷ [])))
  -- 01 Registers reset: DSR bit 7 gives reports with POLL 0, none with POLL 1, and nothing while DOR holds reset
  pub dsr_poll_0 : (drive_at 3 (box 0 (readied 0x0C ++ (all_sensed ++ (writes 4 0x80 ∷ [])))).drives).report ≡ 0xC3
  pub dsr_poll_1 :
      (drive_at 3
      (box 0 (writes 2 0x0C ∷ all_sensed ++ (command (0x13 ∷ 0x00 ∷ 0x10 ∷ 0x00 ∷ []) ++ (writes 4 0x80 ∷ [])))).drives
      ).report ≡ 0
  pub dsr_held : (drive_at 3 (box 0 (writes 4 0x80 ∷ [])).drives).report ≡ 0
  -- 01 Easy 3: after a Seek to 1 and a reset PCN is 0 and the head stands at 1
  pub pcn_is_0 :
      (drive_at 0
      (box 0 (readied 0x1C
      ++ (command (0x03 ∷ 0xF0 ∷ 0x00 ∷ [])
      ++ (command (0x0F ∷ 0x00 ∷ 0x01 ∷ []) ++ (on 63 [] ++ (writes 2 0x18 ∷ [])))))).drives).pcn ≡ 0
  pub head_is_1 :
      (drive_at 0
      (box 0 (readied 0x1C
      ++ (command (0x03 ∷ 0xF0 ∷ 0x00 ∷ [])
      ++ (command (0x0F ∷ 0x00 ∷ 0x01 ∷ []) ++ (on 63 [] ++ (writes 2 0x18 ∷ [])))))).drives).head ≡ 1
