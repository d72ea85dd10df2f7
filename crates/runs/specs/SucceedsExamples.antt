-- Write commands to the end that is meant: `WriteSucceeds` and `WriteReachesEot` speak of real calls. By DMA five
-- bytes, the fifth with TC; by the FIFO's port, where no TC can come, both sectors of the track. A byte is offered
-- before each tick, for as many ticks as the bound asks. The proofs are in proofs/SucceedsExamples.antt.
-- Assumes nothing.
use Rattle.std.specs.Prelude.{true, false, List, ◌++◌}
use Rattle.reached.specs.Runs.{Call}
use Rattle.demands.specs.PowerCut.{Aim}
use Rattle.demands.specs.Succeeds.{Success, PastEot}
use Rattle.demands.specs.Work.{EndsWith}
use Rattle.runs.specs.CutExamples.{writer, written, sector_one, ordered, cut_calls, down, full}

abbrev pub from_one : Aim
from_one = record { id = sector_one; side = 0 }

-- 2 x (2 + 1) x (4 + 256 + 70) ticks
abbrev pub five_bytes : List Call
five_bytes = cut_calls true (down 5) 1980

abbrev pub both_sectors : List Call
both_sectors = cut_calls false (full ++ down 3) 1980

pub record SucceedsExamples : Type 0 where
  pub by_dma : EndsWith (Success ordered written from_one 0) five_bytes (writer true)
  pub by_port : EndsWith (PastEot ordered written from_one 1) both_sectors (writer false)
