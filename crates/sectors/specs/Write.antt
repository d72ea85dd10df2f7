-- 01 Write: the wait for a byte, and then one store a tick: broken mark, B bytes, good mark.
-- Assumes nothing.
use Rattle.image.specs.Lent.{put_at}
use Rattle.std.specs.Prelude.{ℕ, ◌+◌, Bool, true, false, ◌&&◌, cond, eqb, leb, None, Some}
use Rattle.chip.specs.declared.fifo.Fifo.{Fifo}
use Rattle.chip.specs.Fifo.{drawn_of, front_of, shut}
use Rattle.image.specs.declared.mark.Mark.TheVariants.{Data}
use Rattle.image.specs.Mark.{byte_of}
use Rattle.sectors.specs.declared.work.Site.{Site}
use Rattle.sectors.specs.declared.work.Stage.TheVariants.{Awaiting, Storing}
use Rattle.sectors.specs.declared.work.Step.{Step}
use Rattle.sectors.specs.declared.work.Task.{Task}
use Rattle.sectors.specs.Follow.{follow_of}
use Rattle.sectors.specs.Result.{late_end, moves_of, tardy}
use Rattle.sectors.specs.Track.{data_place, mark_place, sector_bytes}

-- the marks stored are of the command's kind, whatever stood there (D-113)
abbrev pub written_mark : Bool → Task → ℕ
written_mark broken task = byte_of (Data task.transfer.deleted broken)

-- 01 Write: wait for a byte; the 64th tick without one ends with ST1 10. Broken mark in the tick that finds the byte,
-- which is left
unfoldable pub await_of : ℕ → ℕ → Site → Task → ℕ → Fifo → Step
await_of slot wait site task head fifo =
    cond (eqb fifo.count 0)
    (cond (leb 63 wait) (late_end None site task) (moves_of (Awaiting slot (wait + 1)) site task fifo None))
    (moves_of (Storing slot 0) site task fifo (Some (put_at (mark_place site head slot) (written_mark true task))))

-- a byte stored
unfoldable pub put_of : ℕ → ℕ → ℕ → Site → Task → ℕ → Fifo → Step
put_of byte slot done site task head fifo =
    moves_of (Storing slot (done + 1)) site task fifo (Some (put_at (data_place site head slot done) byte))

-- 02 2026-02: a byte to store, the FIFO empty without TC: ST1 10; the request goes off for good, and this is the first
-- of the zeros that fill the sector
unfoldable pub underrun : ℕ → ℕ → Site → Task → ℕ → Step
underrun slot done site task head = put_of 0x00 slot done site (tardy task) head shut

-- 01 Write: after TC and with the FIFO empty, zeros
unfoldable pub dry_of : ℕ → ℕ → Site → Task → ℕ → Fifo → Step
dry_of slot done site task head fifo =
    cond fifo.tc (put_of 0x00 slot done site task head fifo) (underrun slot done site task head)

-- 01 Write: good mark, and Next in that same tick; TC counts there with the FIFO empty (D-112). 02 2026-02: a byte was
-- missing: the command ends, without Next
unfoldable pub written_of : ℕ → Site → Task → ℕ → Fifo → Step
written_of slot site task head fifo =
    cond task.late (late_end (Some (put_at (mark_place site head slot) (written_mark false task))) site task)
    (follow_of slot (fifo.tc && eqb fifo.count 0) site task fifo
    (Some (put_at (mark_place site head slot) (written_mark false task))))

-- 01 Write: B bytes, one a tick
unfoldable pub store_of : ℕ → ℕ → Site → Task → ℕ → Fifo → Bool → ℕ → Step
store_of slot done site task head fifo efifo fifothr =
    cond (leb (sector_bytes site) done) (written_of slot site task head fifo)
    (cond (eqb fifo.count 0) (dry_of slot done site task head fifo)
    (put_of (front_of fifo) slot done site task head (drawn_of efifo fifothr fifo)))
