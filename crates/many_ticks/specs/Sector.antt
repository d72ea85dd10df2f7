-- A sector's bytes, many ticks at once (house): each is passed as 01 Read and 01 Write have it, as long as one more
-- follows and the request stays as it is.
-- Assumes nothing.
use Rattle.image.specs.Lent.{put_at}
use Rattle.std.specs.Prelude.{ℕ, zero, suc, ◌+◌, Bool, false, ◌||◌, cond, List, eqb, leb, get_or, Some}
use Rattle.std.specs.Bool.{beq}
use Rattle.image.specs.Lent.{stored_as}
use Rattle.chip.specs.declared.fifo.Fifo.{Fifo}
use Rattle.chip.specs.Fifo.{full_of, front_of, filled_of, drawn_of}
use Rattle.sectors.specs.declared.work.Site.{Site}
use Rattle.sectors.specs.declared.work.Task.{Task}
use Rattle.sectors.specs.Read.{last_byte}
use Rattle.sectors.specs.Track.{pass_bytes, data_place}
use Rattle.many_ticks.specs.declared.sector.Pace.{Pace}

abbrev pub pace_of : ℕ → Fifo → ℕ → Pace
pace_of done fifo left = record { done = done; fifo = fifo; left = left }

-- the ticks that are made in full: after TC, with the FIFO full, and from the last byte that passes on
abbrev pub read_rests : Site → Task → Bool → ℕ → Fifo → Bool
read_rests site task efifo done fifo = fifo.tc || full_of efifo fifo || last_byte site task done

-- 01 Read: a byte a tick
abbrev pub read_fill : Site → ℕ → ℕ → List ℕ → Bool → ℕ → ℕ → Fifo → Fifo
read_fill site head slot img efifo fifothr done fifo =
    filled_of efifo fifothr false (get_or img (data_place site head slot done) 0) fifo

unfoldable pub reads_of : Site → Task → ℕ → ℕ → List ℕ → Bool → ℕ → Bool → ℕ → ℕ → Fifo → Pace
reads_of site task head slot img efifo fifothr asks zero done fifo = pace_of done fifo 0
reads_of site task head slot img efifo fifothr asks (suc n) done fifo =
    cond (read_rests site task efifo done fifo) (pace_of done fifo (suc n))
    (cond (beq asks (read_fill site head slot img efifo fifothr done fifo).asks)
    (reads_of site task head slot img efifo fifothr asks n (done + 1)
    (read_fill site head slot img efifo fifothr done fifo))
    (pace_of (done + 1) (read_fill site head slot img efifo fifothr done fifo) n))

-- the ticks that are made in full: all bytes passed, or none to store
abbrev pub store_rests : Site → Task → ℕ → Fifo → Bool
store_rests site task done fifo = leb (pass_bytes site task) done || eqb fifo.count 0

-- how far it came, and both images
pub record StoredSector : Type 0 where
  pub pace : Pace
  pub first : List ℕ
  pub second : List ℕ

abbrev pub pace_stored : Pace → List ℕ → List ℕ → StoredSector
pace_stored pace a b = record { pace = pace; first = a; second = b }

-- 01 Write: one store a tick
abbrev pub byte_put : Site → ℕ → ℕ → ℕ → ℕ → Fifo → List ℕ → List ℕ
byte_put site head slot k done fifo img =
    stored_as site.drive k (Some (put_at (data_place site head slot done) (front_of fifo))) img

unfoldable pub sector_stores : Site → Task → ℕ → ℕ → Bool → ℕ → Bool → ℕ → ℕ → Fifo → List ℕ → List ℕ → StoredSector
sector_stores site task head slot efifo fifothr asks zero done fifo a b = pace_stored (pace_of done fifo 0) a b
sector_stores site task head slot efifo fifothr asks (suc n) done fifo a b =
    cond (store_rests site task done fifo) (pace_stored (pace_of done fifo (suc n)) a b)
    (cond (beq asks (drawn_of efifo fifothr fifo).asks)
    (sector_stores site task head slot efifo fifothr asks n (done + 1) (drawn_of efifo fifothr fifo)
    (byte_put site head slot 0 done fifo a) (byte_put site head slot 1 done fifo b))
    (pace_stored (pace_of (done + 1) (drawn_of efifo fifothr fifo) n) (byte_put site head slot 0 done fifo a)
    (byte_put site head slot 1 done fifo b)))
