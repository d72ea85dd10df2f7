-- A Read ID on a track whose slot 0 has mark 0 and slot 1 an ID meets all premises of `ReadIdGives`, one on a track
-- without IDs those of `ReadIdNone` (01 Read ID). And so they end.
-- Assumes nothing.
use Rattle.std.specs.Prelude.{ℕ, ◌≤◌, Bool, true, false, List, [], ◌∷◌, ◌≡◌, set, Some}
use Rattle.image.specs.declared.slot.Id.{Id}
use Rattle.image.specs.Disk.{disk_in}
use Rattle.image.specs.Examples.{disk}
use Rattle.sectors.specs.declared.order.Job.TheVariants.{Identify}
use Rattle.engine.specs.Examples.{chrn_of}
use Rattle.reached.specs.Moves.{tick_count}
use Rattle.demands.specs.DataError.{Spins}
use Rattle.demands.specs.EndsInTime.{bound_of}
use Rattle.demands.specs.PowerCut.{head_of}
use Rattle.demands.specs.ReadIdGives.{Identifies, FirstId, NoIdThere, Gives}
use Rattle.demands.specs.Work.{Real, Alone, EndsWith}
use Rattle.answers.specs.Results.{zeros}
use Rattle.runs.specs.Host.{idle, double}
use Rattle.runs.specs.Whole.{WholeGiven, asked_by, calls_of}

-- drive 1, with the bound's ticks: 2 x 3 x (2 x 2 + 256 + 70) = 1980
abbrev pub identifying : List ℕ → WholeGiven
identifying img =
    record {
      head0 = 0;
      head1 = 0;
      dor = 0x2D;
      config = 0x07;
      spec = 0x02;
      bytes = 0x4A ∷ 0x01 ∷ [];
      order = record { drive = 1; side = 0; job = Identify };
      disk = disk 1 1 2 1;
      img = img;
      does = idle 1980;
    }

-- slot 1 has C 0 H 0 R 2 N 1; both marks 0
abbrev pub second : WholeGiven
second = identifying (double 0)

abbrev pub neither_id : WholeGiven
neither_id = identifying (set (double 0) 274 0)

-- the premises beside the track's, and the end
pub record ReadIdRun (x : WholeGiven) (normal : Bool) (st1 : ℕ) (id : Id) : Type 0 where
  pub real : Real (asked_by x)
  pub accepted : Identifies (asked_by x) x.order
  pub mounted : disk_in x.img ≡ Some x.disk
  pub spins : Spins x.order.drive (calls_of x) (asked_by x)
  pub alone : Alone x.order.drive x.img (calls_of x) (asked_by x)
  pub enough : bound_of x.disk ≤ tick_count (calls_of x)
  pub ends : EndsWith (Gives x.order normal st1 id) (calls_of x) (asked_by x)

pub record ReadIdRuns : Type 0 where
  pub first : FirstId (disk 1 1 2 1) (double 0) (head_of second.order (asked_by second)) 0 1
  pub given : ReadIdRun second true 0x00 (chrn_of 0 0 2)
  pub none : NoIdThere (disk 1 1 2 1) (set (double 0) 274 0) (head_of neither_id.order (asked_by neither_id)) 0
  pub nothing : ReadIdRun neither_id false 0x01 zeros
