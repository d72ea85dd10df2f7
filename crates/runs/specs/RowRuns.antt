-- Runs of calls from power-on that meet the causes of the result table, one for each row, so that no row is empty: the
-- proof of each cites its row. The disk is the image crate's small one: one track with sectors 1 and 2 of 256 bytes,
-- whose marks stand at 13 and 274.
-- Assumes nothing.
use Rattle.std.specs.Prelude.{ℕ, zero, suc, true, false, List, [], ◌∷◌, ◌++◌, ◌≡◌, set}
use Rattle.image.specs.declared.slot.Id.{Id}
use Rattle.image.specs.Examples.{disk, sample}
use Rattle.sectors.specs.declared.order.Transfer.{Transfer}
use Rattle.sectors.specs.declared.work.Sector.{Sector}
use Rattle.sectors.specs.declared.work.Stage.{Stage}
use Rattle.sectors.specs.declared.work.Stage.TheVariants.{Reading, Draining, Storing}
use Rattle.engine.specs.Examples.{chrn_of}
use Rattle.engine.specs.First.{task_of}
use Rattle.fdc.specs.declared.record.Controller.{Controller}
use Rattle.fdc.specs.Calls.{power_on}
use Rattle.reached.specs.Examples.{command, readied}
use Rattle.reached.specs.Runs.{Call, takes, gives, ticks, after, run_calls}
use Rattle.answers.specs.Results.{Result, RunsOn, zeros}
use Rattle.demands.specs.Work.{at_work}
use Rattle.runs.specs.AckExamples.{writing}
use Rattle.runs.specs.HandedExamples.{reading}

-- power-on with the head of drive 0 there, motor 0 on, Configure, the calls of a command, and what follows them
abbrev pub row_given : List ℕ → List Call → List Call
row_given bytes calls = readied 0x1C ++ (command bytes ++ calls)

abbrev pub box : ℕ → List Call → Controller
box head calls = run_calls calls (power_on head 0).controller

-- ticks on an image, and with a byte taken after each
abbrev pub on : ℕ → List ℕ → List Call
on zero img = []
on (suc n) img = ticks img [] ∷ on n img

abbrev pub row_reading : ℕ → List ℕ → List Call
row_reading zero img = []
row_reading (suc n) img = ticks img [] ∷ takes false ∷ row_reading n img

-- and with a byte given before each
abbrev pub row_writing : ℕ → List ℕ → List Call
row_writing zero img = []
row_writing (suc n) img = gives 0xA5 false ∷ ticks img [] ∷ row_writing n img

-- C 0 H 0 R N 1, EOT, GPL, DTL; N, SC, GPL, D
abbrev pub move : ℕ → ℕ → ℕ → List ℕ
move code r eot = code ∷ 0 ∷ 0 ∷ 0 ∷ r ∷ 1 ∷ eot ∷ 0x1B ∷ 0xFF ∷ []

abbrev pub format : ℕ → List ℕ
format sc = 0x4D ∷ 0 ∷ 1 ∷ sc ∷ 0x1B ∷ 0xE5 ∷ []

-- the image with the marks of its two sectors
abbrev pub marks : ℕ → ℕ → List ℕ
marks first second = set (set (sample 2) 13 first) 274 second

-- the result in the tick after these calls
abbrev pub RowEnds : ℕ → List Call → List ℕ → ℕ → ℕ → ℕ → Id → Type 0
RowEnds head calls img st0 st1 st2 id = Result (after (ticks img []) (box head calls)) st0 st1 st2 id

-- and at work until then
pub record RowLasts (head : ℕ) (calls : List Call) (img : List ℕ) (st0 st1 st2 : ℕ) (id : Id) : Type 0 where
  pub on : at_work (box head calls).phase ≡ true
  pub ends : RowEnds head calls img st0 st1 st2 id

-- that tick does not end it: its byte is late, and the sector goes on (02 2026-02)
abbrev pub RowGoesOn : List Call → List ℕ → Transfer → Stage → Type 0
RowGoesOn calls img transfer stage =
    RunsOn (after (ticks img []) (box 0 calls)) (record { drive = 0; side = 0; disk = disk 1 1 2 1 })
    (task_of transfer (chrn_of 0 0 1)) stage

abbrev pub good : Sector
good = record { slot = 0; broken = false; other = false }

pub record RowRuns : Type 0 where
  -- 01 Data commands: the first tick
  pub empty : RowEnds 0 (row_given (move 0x46 1 2) []) [] 0x40 0x01 0x00 (chrn_of 0 0 1)
  pub no_track : RowEnds 5 (row_given (move 0x46 1 2) []) (marks 1 1) 0x40 0x01 0x00 (chrn_of 0 0 1)
  pub protected : RowEnds 0 (row_given (move 0x45 1 2) []) (set (marks 1 1) 7 1) 0x40 0x02 0x00 (chrn_of 0 0 1)
  pub misplanned : RowEnds 0 (row_given (format 3) []) (marks 1 1) 0x40 0x04 0x00 (chrn_of 0 0 0)
  -- 01 Search
  pub no_id_law : RowEnds 0 (row_given (move 0x46 1 2) (on 4 (marks 0 0))) (marks 0 0) 0x40 0x01 0x00 (chrn_of 0 0 1)
  pub others_met : RowEnds 0 (row_given (move 0x46 3 4) (on 4 (marks 1 0))) (marks 1 0) 0x40 0x04 0x00 (chrn_of 0 0 3)
  pub other_id : RowEnds 0 (row_given (move 0x46 3 4) (on 4 (marks 1 1))) (marks 1 1) 0x40 0x04 0x00 (chrn_of 0 0 3)
  pub no_data_law : RowEnds 0 (row_given (move 0x46 1 2) (on 1 (marks 5 1))) (marks 5 1) 0x40 0x01 0x01 (chrn_of 0 0 1)
  pub no_side_law :
      RowEnds 0 (row_given (move 0xC6 1 1) (on 2 (marks 1 1) ++ (row_reading 256 (marks 1 1) ++ on 1 (marks 1 1)))) (marks 1 1)
      0x44 0x01 0x00 (chrn_of 0 1 1)
  -- 01 Read
  pub overrun :
      RowGoesOn (row_given (move 0x46 1 2) (on 3 (marks 1 1))) (marks 1 1) (reading false false false 2) (Reading good 2)
  pub overrun_last :
      RowGoesOn (row_given (move 0x46 1 2) (on 2 (marks 1 1) ++ (row_reading 254 (marks 1 1) ++ on 1 (marks 1 1))))
      (marks 1 1) (reading false false false 2) (Draining good 0)
  pub not_taken :
      RowEnds 0 (row_given (move 0x46 1 2) (on 2 (marks 1 1) ++ (row_reading 255 (marks 1 1) ++ on 64 (marks 1 1)))) (marks 1 1)
      0x40 0x10 0x00 (chrn_of 0 0 1)
  pub data_error :
      RowEnds 0 (row_given (move 0x46 1 2) (on 2 (marks 3 1) ++ row_reading 256 (marks 3 1))) (marks 3 1)
      0x40 0x20 0x20 (chrn_of 0 0 1)
  pub other_kind :
      RowEnds 0 (row_given (move 0x46 1 2) (on 2 (marks 2 1) ++ row_reading 256 (marks 2 1))) (marks 2 1)
      0x00 0x00 0x40 (chrn_of 0 0 1)
  -- 02 2026-02: not a byte taken, and the sector is run to its end: a good one, a broken one, one of the other kind
  pub late : RowLasts 0 (row_given (move 0x46 1 2) (on 258 (marks 1 1))) (marks 1 1) 0x40 0x10 0x00 (chrn_of 0 0 1)
  pub late_data_error :
      RowLasts 0 (row_given (move 0x46 1 2) (on 258 (marks 3 1))) (marks 3 1) 0x40 0x30 0x20 (chrn_of 0 0 1)
  pub late_other : RowLasts 0 (row_given (move 0x46 1 2) (on 258 (marks 2 1))) (marks 2 1) 0x40 0x10 0x40 (chrn_of 0 0 1)
  -- 01 Write
  pub no_byte : RowEnds 0 (row_given (move 0x45 1 2) (on 65 (marks 1 1))) (marks 1 1) 0x40 0x10 0x00 (chrn_of 0 0 1)
  pub underrun :
      RowGoesOn (row_given (move 0x45 1 2) (on 2 (marks 1 1) ++ (row_writing 1 (marks 1 1) ++ on 1 (marks 1 1))))
      (marks 1 1) (writing false false 2) (Storing 0 2)
  pub short :
      RowLasts 0 (row_given (move 0x45 1 2) (on 2 (marks 1 1) ++ (row_writing 1 (marks 1 1) ++ on 256 (marks 1 1))))
      (marks 1 1) 0x40 0x10 0x00 (chrn_of 0 0 1)
  -- 01 Next: with TC, past EOT, and a skip at EOT
  pub by_tc :
      RowEnds 0
      (row_given (move 0x46 1 2) (on 2 (marks 1 1) ++ (ticks (marks 1 1) [] ∷ takes true ∷ on 255 (marks 1 1))))
      (marks 1 1) 0x00 0x00 0x00 (chrn_of 0 0 2)
  pub stored :
      RowEnds 0 (row_given (move 0x45 1 2) (on 2 (marks 1 1) ++ (gives 0xA5 true ∷ on 257 (marks 1 1)))) (marks 1 1)
      0x00 0x00 0x00 (chrn_of 0 0 2)
  pub past_eot_law :
      RowEnds 0 (row_given (move 0x46 1 1) (on 2 (marks 1 1) ++ row_reading 256 (marks 1 1))) (marks 1 1)
      0x40 0x80 0x00 (chrn_of 1 0 1)
  pub skipped : RowEnds 0 (row_given (move 0x66 1 1) (on 1 (marks 2 1))) (marks 2 1) 0x40 0x80 0x40 (chrn_of 1 0 1)
  -- 01 Read ID
  pub found : RowEnds 0 (row_given (0x4A ∷ 0 ∷ []) (on 1 (marks 1 1))) (marks 1 1) 0x00 0x00 0x00 (chrn_of 0 0 1)
  pub none : RowEnds 0 (row_given (0x4A ∷ 0 ∷ []) (on 4 (marks 0 0))) (marks 0 0) 0x40 0x01 0x00 zeros
  -- 01 Format
  pub form_no_byte : RowEnds 0 (row_given (format 2) (on 64 (marks 1 1))) (marks 1 1) 0x40 0x10 0x00 (chrn_of 0 0 0)
  pub form_missing :
      RowEnds 0 (row_given (format 2) (on 1 (marks 1 1) ++ (row_writing 1 (marks 1 1) ++ on 1 (marks 1 1)))) (marks 1 1)
      0x40 0x10 0x00 (chrn_of 0 0 0)
  pub form_filled :
      RowEnds 0
      (row_given (format 2)
      (on 1 (marks 1 1)
      ++ (row_writing 5 (marks 1 1) ++ (on 257 (marks 1 1) ++ (row_writing 5 (marks 1 1) ++ on 256 (marks 1 1))))))
      (marks 1 1) 0x00 0x00 0x00 (chrn_of 0 0 2)
  pub form_cleared :
      RowEnds 0
      (row_given (format 1) (on 1 (marks 1 1) ++ (row_writing 5 (marks 1 1) ++ on 257 (marks 1 1)))) (marks 1 1)
      0x00 0x00 0x00 (chrn_of 0 0 1)
  -- 01 Data commands: emptied later
  pub lost : RowEnds 0 (row_given (move 0x46 1 2) (on 1 (marks 1 1))) [] 0x40 0x01 0x00 (chrn_of 0 0 1)
  pub late_lost : RowEnds 0 (row_given (move 0x46 1 2) (on 4 (marks 1 1))) [] 0x40 0x11 0x00 (chrn_of 0 0 1)
  pub lost_id : RowEnds 0 (row_given (0x4A ∷ 0 ∷ []) (on 1 (marks 1 1))) [] 0x40 0x01 0x00 zeros
  pub lost_format : RowEnds 0 (row_given (format 2) (on 1 (marks 1 1))) [] 0x40 0x01 0x00 (chrn_of 0 0 0)
