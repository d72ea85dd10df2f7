-- Which command each of the 256 codes is, and its number of bytes: document 01, Commands, first two paragraphs.
-- Assumes nothing.
use Rattle.std.specs.Prelude.{ℕ, zero, suc, ◌+◌, ◌*◌, ◌/◌, ◌%◌, Bool, ◌||◌, cond, eqb}
use Rattle.chip.specs.declared.codes.Kind.{Kind}
use Rattle.chip.specs.declared.codes.Kind.TheVariants.{Unknown, ReadData, ReadDeleted, WriteData, WriteDeleted, ReadId, Format}
use Rattle.chip.specs.declared.codes.Kind.TheVariants.{Recalibrate, SenseInterrupt, Specify, SenseDrive, Seek, Version, Configure}
use Rattle.chip.specs.declared.codes.Entry.{Entry}

-- 01 Commands: the codes in the document's order; any other, MFM 0 too, is unknown
unfoldable pub kind_of : ℕ → Kind
kind_of n =
    cond (eqb n 0x46 || eqb n 0x66 || eqb n 0xC6 || eqb n 0xE6) ReadData
    (cond (eqb n 0x4C || eqb n 0x6C || eqb n 0xCC || eqb n 0xEC) ReadDeleted
    (cond (eqb n 0x45 || eqb n 0xC5) WriteData
    (cond (eqb n 0x49 || eqb n 0xC9) WriteDeleted
    (cond (eqb n 0x4A) ReadId
    (cond (eqb n 0x4D) Format
    (cond (eqb n 0x07) Recalibrate
    (cond (eqb n 0x08) SenseInterrupt
    (cond (eqb n 0x03) Specify
    (cond (eqb n 0x04) SenseDrive
    (cond (eqb n 0x0F) Seek
    (cond (eqb n 0x10) Version
    (cond (eqb n 0x13) Configure
    Unknown))))))))))))

-- 01 Commands: how many bytes each has, its code among them; an unknown code is one byte long (house)
abbrev pub byte_count : Kind → ℕ
byte_count Unknown = 1
byte_count ReadData = 9
byte_count ReadDeleted = 9
byte_count WriteData = 9
byte_count WriteDeleted = 9
byte_count ReadId = 2
byte_count Format = 6
byte_count Recalibrate = 2
byte_count SenseInterrupt = 1
byte_count Specify = 3
byte_count SenseDrive = 2
byte_count Seek = 3
byte_count Version = 1
byte_count Configure = 4

-- 01 Form table: from command code to kind and byte count
unfoldable pub entry_of : ℕ → Entry
entry_of n = record { kind = kind_of n; bytes = byte_count (kind_of n) }

-- 01 Commands: 80 is MT, 20 is SK
abbrev pub mt_of : ℕ → Bool
mt_of code = eqb (code / 0x80 % 2) 1

abbrev pub sk_of : ℕ → Bool
sk_of code = eqb (code / 0x20 % 2) 1

-- house: the number that stands for a kind in the table
abbrev pub kind_number : Kind → ℕ
kind_number Unknown = 0
kind_number ReadData = 1
kind_number ReadDeleted = 2
kind_number WriteData = 3
kind_number WriteDeleted = 4
kind_number ReadId = 5
kind_number Format = 6
kind_number Recalibrate = 7
kind_number SenseInterrupt = 8
kind_number Specify = 9
kind_number SenseDrive = 10
kind_number Seek = 11
kind_number Version = 12
kind_number Configure = 13

-- house: the same read back; any other number is none of them
unfoldable pub kind_numbered : ℕ → Kind
kind_numbered n =
    cond (eqb n 1) ReadData
    (cond (eqb n 2) ReadDeleted
    (cond (eqb n 3) WriteData
    (cond (eqb n 4) WriteDeleted
    (cond (eqb n 5) ReadId
    (cond (eqb n 6) Format
    (cond (eqb n 7) Recalibrate
    (cond (eqb n 8) SenseInterrupt
    (cond (eqb n 9) Specify
    (cond (eqb n 10) SenseDrive
    (cond (eqb n 11) Seek
    (cond (eqb n 12) Version
    (cond (eqb n 13) Configure
    Unknown))))))))))))

-- house: a line of the table, ten times the kind's number and the byte count
abbrev pub table_line : Kind → ℕ
table_line k = 10 * kind_number k + byte_count k

-- how many of the codes below n are known
unfoldable pub known_below : ℕ → ℕ
known_below zero = 0
known_below (suc n) = cond (eqb (kind_number (kind_of n)) 0) 0 1 + known_below n
