-- A read of a sector that is not on its track, which has one ID with C FF and one with C 0, meets all premises of
-- `NotFound` (01 Search). And so it ends, with 04 and 12.
-- Assumes nothing.
use Rattle.std.specs.Prelude.{ℕ, ◌≤◌, true, false, List, [], ◌∷◌, ◌≡◌, set, Some}
use Rattle.image.specs.declared.slot.Id.{Id}
use Rattle.image.specs.Disk.{disk_in}
use Rattle.image.specs.Examples.{disk}
use Rattle.sectors.specs.declared.order.Pass.TheVariants.{Read}
use Rattle.sectors.specs.declared.order.Transfer.{Transfer}
use Rattle.reached.specs.Moves.{tick_count}
use Rattle.demands.specs.DataError.{Spins}
use Rattle.demands.specs.EndsInTime.{bound_of}
use Rattle.demands.specs.InTime.{Transfers}
use Rattle.demands.specs.NotFound.{Missing, Misses}
use Rattle.demands.specs.PowerCut.{head_of}
use Rattle.demands.specs.Work.{Real, Alone, EndsWith}
use Rattle.runs.specs.Host.{order_of, idle, double}
use Rattle.runs.specs.Whole.{WholeGiven, asked_by, calls_of}

abbrev pub sought_id : Id
sought_id = record { c = 5; h = 0; r = 1; n = 1 }

abbrev pub seeking : Transfer
seeking = record { pass = Read; deleted = false; mt = false; sk = false; eot = 2; dtl = 0 }

-- C of slot 0 is FF
abbrev pub strange : List ℕ
strange = set (double 1) 14 0xFF

-- drive 1, with the bound's ticks
abbrev pub absent : WholeGiven
absent =
    record {
      head0 = 0;
      head1 = 0;
      dor = 0x2D;
      config = 0x07;
      spec = 0x02;
      bytes = 0x46 ∷ 0x01 ∷ 5 ∷ 0 ∷ 1 ∷ 1 ∷ 2 ∷ 0x1B ∷ 0xFF ∷ [];
      order = order_of 1 0 seeking 5 0 1 1;
      disk = disk 1 1 2 1;
      img = strange;
      does = idle 1980;
    }

pub record NotFoundRun : Type 0 where
  pub real : Real (asked_by absent)
  pub accepted : Transfers (asked_by absent) absent.order seeking sought_id
  pub mounted : disk_in strange ≡ Some (disk 1 1 2 1)
  pub missing : Missing (disk 1 1 2 1) strange (head_of absent.order (asked_by absent)) 0 seeking sought_id
  pub spins : Spins 1 (calls_of absent) (asked_by absent)
  pub alone : Alone 1 strange (calls_of absent) (asked_by absent)
  pub enough : bound_of (disk 1 1 2 1) ≤ tick_count (calls_of absent)
  pub ends : EndsWith (Misses absent.order sought_id true true true) (calls_of absent) (asked_by absent)
