-- 01 Read: a sector's bytes to the FIFO, one a tick, then the looks at the FIFO until it is empty.
-- Assumes nothing.
use Rattle.std.specs.Prelude.{ℕ, ◌+◌, Bool, true, cond, List, eqb, leb, get_or, None}
use Rattle.chip.specs.declared.fifo.Fifo.{Fifo}
use Rattle.chip.specs.Fifo.{full_of, filled_of, shut}
use Rattle.sectors.specs.declared.work.Sector.{Sector}
use Rattle.sectors.specs.declared.work.Site.{Site}
use Rattle.sectors.specs.declared.work.Stage.TheVariants.{Reading, Draining}
use Rattle.sectors.specs.declared.work.Step.{Step}
use Rattle.sectors.specs.declared.work.Task.{Task}
use Rattle.sectors.specs.Follow.{follow_of}
use Rattle.sectors.specs.Result.{late_end, move_end, move_fails, moves_of, tardy}
use Rattle.sectors.specs.Track.{data_place, pass_bytes, sector_bytes}

-- 01 FIFO, for the request: that byte is the sector's last one sent
abbrev pub last_byte : Site → Task → ℕ → Bool
last_byte site task done = leb (pass_bytes site task) (done + 1)

-- the sector ends with that byte
abbrev pub sector_over : Site → ℕ → Bool
sector_over site done = leb (sector_bytes site) (done + 1)

-- one byte further
unfoldable pub read_on : Sector → ℕ → Site → Task → Fifo → Step
read_on sector done site task fifo =
    cond (sector_over site done) (moves_of (Draining sector 0) site task fifo None)
    (moves_of (Reading sector (done + 1)) site task fifo None)

-- 02 2026-02: a byte to move and the FIFO full: ST1 10; that byte is lost, the FIFO is emptied, the request off for
-- good, and the sector is run to its end
unfoldable pub overrun : Sector → ℕ → Site → Task → Step
overrun sector done site task = read_on sector done site (tardy task) shut

-- 01 Read: a byte a tick; after TC no byte follows and the sector is run to its end. The byte is that of the image
-- lent to this tick (D-116)
unfoldable pub read_of : Sector → ℕ → Site → Task → ℕ → List ℕ → Fifo → Bool → ℕ → Step
read_of sector done site task head img fifo efifo fifothr =
    cond fifo.tc (read_on sector done site task fifo)
    (cond (full_of efifo fifo) (overrun sector done site task)
    (read_on sector done site task
    (filled_of efifo fifothr (last_byte site task done) (get_or img (data_place site head sector.slot done) 0) fifo)))

-- 01 Read: a look that finds none, in this order: broken, ST1 20, ST2 20; a byte was late, ST1 10 (02 2026-02); other
-- kind, IC 00, address as it was, before TC (D-109); else Next
unfoldable pub drained_of : Sector → Site → Task → Fifo → Step
drained_of sector site task fifo =
    cond sector.broken (move_fails 0x20 0x20 site task)
    (cond task.late (late_end None site task)
    (cond sector.other (move_end true 0x00 0x00 task.id None site task)
    (follow_of sector.slot fifo.tc site task fifo None)))

-- 01 Read: after the last byte each tick looks at the FIFO: the 64th that finds bytes ends it, ST1 10. A byte taken
-- does not count them anew (D-110)
unfoldable pub drain_of : Sector → ℕ → Site → Task → Fifo → Step
drain_of sector looks site task fifo =
    cond (eqb fifo.count 0) (drained_of sector site task fifo)
    (cond (leb 63 looks) (late_end None site task)
    (moves_of (Draining sector (looks + 1)) site task fifo None))
