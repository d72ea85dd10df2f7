-- Laws of the command codes (01 Commands).
-- Assumes nothing.
use mathlib.Core.Path.{◌≡◌, refl, ap}
use Prim.Native.Nat.{ℕ, ◌/◌, ◌%◌, ◌≤◌}
use native.Mathlib.Omega.{arith}
use Rattle.chip.specs.declared.codes.Kind.{Kind}
use Rattle.chip.specs.declared.codes.Kind.TheVariants.{Unknown, ReadData, ReadDeleted, WriteData, WriteDeleted, ReadId, Format}
use Rattle.chip.specs.declared.codes.Kind.TheVariants.{Recalibrate, SenseInterrupt, Specify, SenseDrive, Seek, Version, Configure}
use Rattle.chip.specs.declared.codes.Entry.{Entry}
use Rattle.chip.specs.Commands.{kind_of, byte_count, kind_numbered, table_line, entry_of, known_below}

-- a line of the table says its kind and its byte count
pub line_read : (k : Kind)
    → ◌≡◌ {A = Entry} (record { kind = kind_numbered (table_line k / 10); bytes = table_line k % 10 })
    (record { kind = k; bytes = byte_count k })
unfolding kind_numbered
line_read Unknown = refl
line_read ReadData = refl
line_read ReadDeleted = refl
line_read WriteData = refl
line_read WriteDeleted = refl
line_read ReadId = refl
line_read Format = refl
line_read Recalibrate = refl
line_read SenseInterrupt = refl
line_read Specify = refl
line_read SenseDrive = refl
line_read Seek = refl
line_read Version = refl
line_read Configure = refl

-- 01 Commands: of the 256 codes 21 are known
pub codes_known : known_below 256 ≡ 21
unfolding known_below kind_of
codes_known = refl

-- 01 Commands: any other is one byte long
pub unknown_bytes : (n : ℕ) → kind_of n ≡ Unknown → (entry_of n).bytes ≡ 1
unfolding entry_of
unknown_bytes n e = ap byte_count e

bytes_range : (k : Kind) → (1 ≤ byte_count k) × (byte_count k ≤ 9)
bytes_range Unknown = (omega arith, omega arith)
bytes_range ReadData = (omega arith, omega arith)
bytes_range ReadDeleted = (omega arith, omega arith)
bytes_range WriteData = (omega arith, omega arith)
bytes_range WriteDeleted = (omega arith, omega arith)
bytes_range ReadId = (omega arith, omega arith)
bytes_range Format = (omega arith, omega arith)
bytes_range Recalibrate = (omega arith, omega arith)
bytes_range SenseInterrupt = (omega arith, omega arith)
bytes_range Specify = (omega arith, omega arith)
bytes_range SenseDrive = (omega arith, omega arith)
bytes_range Seek = (omega arith, omega arith)
bytes_range Version = (omega arith, omega arith)
bytes_range Configure = (omega arith, omega arith)

-- 01 Refusals 4: a command never has over nine bytes
pub entry_bytes_range : (n : ℕ) → (1 ≤ (entry_of n).bytes) × ((entry_of n).bytes ≤ 9)
unfolding entry_of
entry_bytes_range n = bytes_range (kind_of n)
