-- What a block's status bytes say (02 2026-01; 01 Data commands): whether it is a block, and where not why.
-- Assumes nothing.
use Rattle.std.specs.Prelude.{ℕ, ◌/◌, ◌%◌, Bool, cond, not, ◌==◌}
use Rattle.blocks.specs.declared.status.Fault.{Fault}
use Rattle.blocks.specs.declared.status.Fault.TheVariants.{
  DataError,
  Protected,
  NoData,
  NotFound,
  Missing,
  Overrun,
  Other,
}

-- 02 2026-01: a block exactly when IC, bits 7 and 6 of ST0, is 00
abbrev pub bad_in : ℕ → Bool
bad_in st0 = not (st0 / 0x40 == 0)

abbrev pub bit_in : ℕ → ℕ → Bool
bit_in weight byte = byte / weight % 2 == 1

-- 01 Read: broken, ST1 20; mark 5, ST2 01. 01 Data commands: protected, ST1 02. 01 Search: no such address, ST1 04; no
-- address at all, ST1 01. 01 Read and Write: a byte that did not pass in time, ST1 10
unfoldable pub fault_of : ℕ → ℕ → Fault
fault_of st1 st2 =
    cond (bit_in 0x20 st1) DataError
    (cond (bit_in 0x02 st1) Protected
    (cond (bit_in 0x01 st2) NoData
    (cond (bit_in 0x04 st1) NotFound
    (cond (bit_in 0x01 st1) Missing
    (cond (bit_in 0x10 st1) Overrun Other)))))
