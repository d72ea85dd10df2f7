-- The ten checked examples of document 01 in one table, over the definitions that the calls' contracts cite. Examples
-- 1 to 6 are of single rules; 7 to 10 are commands given to the box by calls.
-- Assumes nothing.
use Rattle.std.specs.Prelude.{ℕ, ◌+◌, true, false, List, [], ◌∷◌, ◌++◌, ◌≡◌, get_or, take, drop, replicate}
use Rattle.chip.specs.declared.codes.Kind.TheVariants.{Unknown, ReadData}
use Rattle.chip.specs.Commands.{entry_of}
use Rattle.chip.specs.Examples.{chr}
use Rattle.chip.specs.Fifo.{read_level}
use Rattle.chip.specs.Next.{advanced_of}
use Rattle.chip.specs.Stepping.{step_ticks}
use Rattle.image.specs.Examples.{disk, sample}
use Rattle.image.specs.Layout.{length_of, offset_of}
use Rattle.fdc.specs.declared.record.Controller.{Controller}
use Rattle.fdc.specs.Calls.{power_on}
use Rattle.reached.specs.Examples.{log_of, said, start, command, readied, bare}
use Rattle.reached.specs.Moves.{AllCalm, tick_count}
use Rattle.fdc.specs.Record.{drive_at}
use Rattle.reached.specs.Runs.{Call, reads, ticks, after, run_calls}
use Rattle.reached.specs.Whole.{given, served}

-- Recalibrate of drive 0, given after power-on with the head there: SRT is 0, so that T is 1000
abbrev pub recalibrates : ℕ → Controller
recalibrates head = run_calls (readied 0x0C ++ command (0x07 ∷ 0x00 ∷ [])) (power_on head 0).controller

-- and 79 x 1000 ticks later, whatever calls come between that are no power-on and no reset: the report and the head
pub record Recalibrated (from report head : ℕ) : Type 0 where
  pub reports : (calls : List Call) → AllCalm calls → tick_count calls + 1 ≡ 79000 → (a b : List ℕ)
      → (drive_at 0 (after (ticks a b) (run_calls calls (recalibrates from))).drives).report ≡ report
  pub stands : (calls : List Call) → AllCalm calls → tick_count calls + 1 ≡ 79000 → (a b : List ℕ)
      → (drive_at 0 (after (ticks a b) (run_calls calls (recalibrates from))).drives).head ≡ head

-- the image after a Write of sector 1 of 256 bytes F6, whose mark stands at 13, by a host that serves every request
-- with A5: the first tick, the look that matches, and so many stores
abbrev pub written : ℕ → List ℕ
written stores =
    (served (2 + stores) (given (0x45 ∷ 0 ∷ 0 ∷ 0 ∷ 1 ∷ 1 ∷ 2 ∷ 0x1B ∷ 0xFF ∷ []) (replicate 256 0xA5) (sample 2))).img

pub record CheckedExamples : Type 0 where
  -- 1. SRT 0, 13, 15: 1000, 188, 63
  pub ex1_srt_0 : step_ticks 0 ≡ 1000
  pub ex1_srt_13 : step_ticks 13 ≡ 188
  pub ex1_srt_15 : step_ticks 15 ≡ 63
  -- 2. Code 06: unknown. 46: nine bytes
  pub ex2_06 : entry_of 0x06 ≡ record { kind = Unknown; bytes = 1 }
  pub ex2_46 : entry_of 0x46 ≡ record { kind = ReadData; bytes = 9 }
  -- 3. 80/2/18/N 2: 1,489,771 bytes; 1/1/1/N 1: 277
  pub ex3_large : length_of (disk 80 2 18 2) ≡ 1489771
  pub ex3_small : length_of (disk 1 1 1 1) ≡ 277
  -- 4. First geometry, cylinder 0 side 1 slot 0: offset 9,324; 79/1/17: 1,489,251
  pub ex4_second_side : offset_of (disk 80 2 18 2) 0 1 0 ≡ 9324
  pub ex4_last : offset_of (disk 80 2 18 2) 79 1 17 ≡ 1489251
  -- 5. C 4 H 0 R 8 EOT 9: next 4 0 9; R 9: 5 0 1; MT: 4 1 1; MT, side 1, 4 1 9: 5 0 1
  pub ex5_within : advanced_of (chr 4 0 8) 9 false 0 1 ≡ chr 4 0 9
  pub ex5_eot : advanced_of (chr 4 0 9) 9 false 0 1 ≡ chr 5 0 1
  pub ex5_mt : advanced_of (chr 4 0 9) 9 true 0 1 ≡ chr 4 1 1
  pub ex5_mt_side_1 : advanced_of (chr 4 1 9) 9 true 1 1 ≡ chr 5 0 1
  -- 6. FIFOTHR 0, 7, 15, FIFO on: read request at 15, 8, 1
  pub ex6_thr_0 : read_level false 0 ≡ 15
  pub ex6_thr_7 : read_level false 7 ≡ 8
  pub ex6_thr_15 : read_level false 15 ≡ 1
  -- 7. Recalibrate drive 0 from 79: 20; from 80: 70, head 1
  pub ex7_from_79 : Recalibrated 79 0x20 0
  pub ex7_from_80 : Recalibrated 80 0x70 1
  -- 8. Sense Drive, drive 0, side 0, head 0, unprotected: 38 (an empty drive counts as unprotected)
  pub ex8 :
      log_of (reads 5 ∷ []) (run_calls (readied 0x0C ++ (command (0x04 ∷ 0x00 ∷ []) ++ (bare ∷ []))) start)
      ≡ said 0 0x38 ∷ []
  -- 9. Read, drive 0 empty: 40 01 00
  pub ex9 :
      log_of (reads 5 ∷ reads 5 ∷ reads 5 ∷ [])
      (run_calls
      (readied 0x1C
      ++ (command (0x46 ∷ 0x00 ∷ 0x00 ∷ 0x00 ∷ 0x01 ∷ 0x02 ∷ 0x09 ∷ 0x1B ∷ 0xFF ∷ []) ++ (bare ∷ [])))
      start)
      ≡ said 0 0x40 ∷ said 0 0x01 ∷ said 0 0x00 ∷ []
  -- 10. B 256, 100 stores: mark 3, 99 new bytes; 258: mark 1
  pub ex10_100_mark : get_or (written 100) 13 0 ≡ 3
  pub ex10_100_bytes : take 256 (drop 18 (written 100)) ≡ replicate 99 0xA5 ++ replicate 157 0xF6
  pub ex10_258_mark : get_or (written 258) 13 0 ≡ 1
  pub ex10_258_bytes : take 256 (drop 18 (written 258)) ≡ replicate 256 0xA5
