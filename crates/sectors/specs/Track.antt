-- Where a data command works (01 Data commands, "The track is the one under the drive's head, on the side in use"),
-- whether that track is there, how many bytes a sector has, and how many of them pass.
-- Assumes nothing.
use Rattle.std.specs.Prelude.{ℕ, ◌+◌, Bool, false, ◌&&◌, cond, ltb, None, Some}
use Rattle.image.specs.Disk.{Disk}
use Rattle.image.specs.declared.layout.Geometry.{Geometry}
use Rattle.image.specs.Layout.{offset_of, same_of, size_of}
use Rattle.sectors.specs.declared.work.Site.{Site}
use Rattle.sectors.specs.declared.work.Task.{Task}

-- 01 Data commands: no such track or side
unfoldable pub has_track : Geometry → ℕ → ℕ → Bool
has_track g head side = ltb head g.cylinders && ltb side g.heads

-- 01 Data commands: a drive emptied or header changed later: any of the header's five bytes (D-117)
unfoldable pub stays_of : Disk → Geometry → Bool
stays_of None met = false
stays_of (Some g) met = same_of g met

-- where the mark of a slot stands
unfoldable pub mark_place : Site → ℕ → ℕ → ℕ
mark_place site head slot = offset_of site.disk head site.side slot

-- and a byte of its sector
unfoldable pub data_place : Site → ℕ → ℕ → ℕ → ℕ
data_place site head slot done = mark_place site head slot + 5 + done

-- 01 Image: B, the bytes of a sector
abbrev pub sector_bytes : Site → ℕ
sector_bytes site = size_of site.disk.n

-- and those of them that pass between disk and host, by N and DTL: all, whatever DTL says. Where the sector ends is
-- `sector_bytes`
abbrev pub pass_of : ℕ → ℕ → ℕ
pass_of n dtl = size_of n

abbrev pub pass_bytes : Site → Task → ℕ
pass_bytes site task = pass_of site.disk.n task.transfer.dtl

-- 01 Search: from the slot after the last used, which after slot S - 1 is slot 0 (D-102)
abbrev pub next_slot : ℕ → ℕ → ℕ
next_slot slot slots = cond (ltb (slot + 1) slots) (slot + 1) 0
