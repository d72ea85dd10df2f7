-- 01 Read ID: the first ID from slot 0.
-- Assumes nothing.
use Rattle.std.specs.Prelude.{ℕ, true, false, cond, List, None}
use Rattle.chip.specs.declared.fifo.Fifo.{Fifo}
use Rattle.image.specs.declared.mark.Mark.{Mark}
use Rattle.image.specs.declared.mark.Mark.TheVariants.{NoId, Data, NoData}
use Rattle.image.specs.declared.slot.Id.{Id}
use Rattle.image.specs.Mark.{mark_of}
use Rattle.sectors.specs.declared.work.Site.{Site}
use Rattle.sectors.specs.declared.work.Step.{Step}
use Rattle.sectors.specs.declared.work.Work.TheVariants.{Identifying}
use Rattle.sectors.specs.Result.{end_of, goes_of}
use Rattle.sectors.specs.Search.{slot_of, passes_after, second_pass}
use Rattle.sectors.specs.Track.{next_slot}

-- 01 Read ID: C H R N 0 at any failing end
abbrev pub no_address : Id
no_address = record { c = 0; h = 0; r = 0; n = 0 }

-- 01 Read ID: failing ends have ST1 01
unfoldable pub no_id_of : Site → Step
no_id_of site = end_of false site.drive site.side 0x01 0x00 no_address None

-- 01 Read ID: none by the second index, ST1 01
unfoldable pub no_id_here : ℕ → ℕ → Site → Fifo → Step
no_id_here slot passes site fifo =
    cond (second_pass slot site.disk.slots passes) (no_id_of site)
    (goes_of
    (Identifying site (next_slot slot site.disk.slots) (passes_after slot site.disk.slots passes))
    fifo
    None)

unfoldable pub id_here : Id → Site → Step
id_here id site = end_of true site.drive site.side 0x00 0x00 id None

-- any mark 1 to 5, any N (D-115)
unfoldable pub identified_of : Mark → Id → ℕ → ℕ → Site → Fifo → Step
identified_of NoId id slot passes site fifo = no_id_here slot passes site fifo
identified_of (Data deleted broken) id slot passes site fifo = id_here id site
identified_of NoData id slot passes site fifo = id_here id site

-- one slot a tick
unfoldable pub identify_of : ℕ → ℕ → Site → ℕ → List ℕ → Fifo → Step
identify_of slot passes site head img fifo =
    identified_of (mark_of (slot_of img site head slot).mark) (slot_of img site head slot).id slot passes site fifo
