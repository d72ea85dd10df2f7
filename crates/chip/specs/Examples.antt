-- Document 01, Checked examples, rows 1, 2, 5 and 6: one statement, a field for each value. The other rows are stated
-- where their rules are.
-- Assumes nothing.
use Rattle.std.specs.Prelude.{◌≡◌, true, false, ℕ}
use Rattle.image.specs.declared.slot.Id.{Id}
use Rattle.chip.specs.declared.codes.Kind.TheVariants.{Unknown, ReadData}
use Rattle.chip.specs.Commands.{entry_of}
use Rattle.chip.specs.Fifo.{read_level}
use Rattle.chip.specs.Next.{advanced_of}
use Rattle.chip.specs.Stepping.{step_ticks}

-- an address with N 2
abbrev pub chr : ℕ → ℕ → ℕ → Id
chr c h r = record { c = c; h = h; r = r; n = 2 }

pub record ChipExamples : Type 0 where
  -- 01 Example 1: SRT 0, 13, 15: 1000, 188, 63
  pub ex1_srt_0 : step_ticks 0 ≡ 1000
  pub ex1_srt_13 : step_ticks 13 ≡ 188
  pub ex1_srt_15 : step_ticks 15 ≡ 63
  -- 01 Example 2: code 06 unknown; 46 nine bytes
  pub ex2_06 : entry_of 0x06 ≡ record { kind = Unknown; bytes = 1 }
  pub ex2_46 : entry_of 0x46 ≡ record { kind = ReadData; bytes = 9 }
  -- 01 Example 5: C 4 H 0 R 8 EOT 9: next 4 0 9; R 9: 5 0 1; MT: 4 1 1; MT, side 1, 4 1 9: 5 0 1
  pub ex5_within : advanced_of (chr 4 0 8) 9 false 0 1 ≡ chr 4 0 9
  pub ex5_eot : advanced_of (chr 4 0 9) 9 false 0 1 ≡ chr 5 0 1
  pub ex5_mt : advanced_of (chr 4 0 9) 9 true 0 1 ≡ chr 4 1 1
  pub ex5_mt_side_1 : advanced_of (chr 4 1 9) 9 true 1 1 ≡ chr 5 0 1
  -- 01 Example 6: FIFOTHR 0, 7, 15, FIFO on: read request at 15, 8, 1
  pub ex6_thr_0 : read_level false 0 ≡ 15
  pub ex6_thr_7 : read_level false 7 ≡ 8
  pub ex6_thr_15 : read_level false 15 ≡ 1
