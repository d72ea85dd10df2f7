-- The runs of specs/ReadIdRuns: the premises by computing, the ends by the theorems.
-- Assumes nothing.
use Rattle.std.specs.Prelude.{Some}
use Prim.Native.Nat.{ℕ, zero, suc, ◌≤◌, ◌<◌}
use native.Mathlib.Omega.{arith}
use mathlib.Core.Bool.{Bool, true, false}
use mathlib.Core.List.{List}
use mathlib.Core.Path.{◌≡◌, refl}
use lib.ListN.{set}
use Rattle.image.specs.declared.slot.Id.{Id}
use Rattle.image.specs.Disk.{disk_in}
use Rattle.image.specs.Examples.{disk}
use Rattle.image.specs.Layout.{size_of, track_length, track_at, offset_of, Has}
use Rattle.image.specs.Slot.{id_at}
use Rattle.image.specs.Sound.{mark_in}
use Rattle.engine.specs.Examples.{chrn_of}
use Rattle.reached.specs.Moves.{tick_count}
use Rattle.fdc.specs.Registers.{motor_in}
use Rattle.demands.specs.DataError.{Spins}
use Rattle.demands.specs.EndsInTime.{bound_of}
use Rattle.demands.specs.PowerCut.{Counts, head_of}
use Rattle.demands.specs.ReadIdGives.{Identifies, FirstId, NoIdThere, Gives}
use Rattle.demands.specs.Work.{Alone, EndsWith}
use Rattle.answers.specs.Results.{zeros}
use Rattle.demands.proofs.ReadIdLaws.{read_id_gives, read_id_none}
use Rattle.runs.specs.Host.{idle, double}
use Rattle.runs.specs.ReadIdRuns.{identifying, second, neither_id, ReadIdRun, ReadIdRuns}
use Rattle.runs.specs.Whole.{WholeGiven, asked_by, calls_of}
use Rattle.runs.proofs.Open.{all_open}
use Rattle.runs.proofs.SpinLaws.{dma_spins, handing_ticks}
use Rattle.runs.proofs.WholeLaws.{real_asked, alone_in}

-- what does not hang on the image
module _ (img : List ℕ) where
  abbrev x : WholeGiven
  x = identifying img

  accepts : Identifies (asked_by x) x.order
  unfolding all_open
  accepts = record { accepted = refl; asks = refl }

  motor : motor_in (asked_by x).registers.dor 1 ≡ true
  unfolding all_open
  motor = refl

  head : head_of x.order (asked_by x) ≡ 0
  unfolding all_open
  head = refl

  spins : Spins 1 (calls_of x) (asked_by x)
  spins = dma_spins 1 (idle 1980) (asked_by x) img refl motor

  alone : Alone 1 img (calls_of x) (asked_by x)
  alone = alone_in x (omega arith)

  enough : bound_of (disk 1 1 2 1) ≤ tick_count (calls_of x)
  unfolding bound_of size_of
  enough = rw (handing_ticks 1 (idle 1980) (asked_by x) img) (omega arith)

  read_id_run : (normal : Bool) (st1 : ℕ) (id : Id) → disk_in img ≡ Some (disk 1 1 2 1)
      → EndsWith (Gives x.order normal st1 id) (calls_of x) (asked_by x) → ReadIdRun x normal st1 id
  read_id_run normal st1 id mounted ends =
      record {
        real = real_asked x refl;
        accepted = accepts;
        mounted = mounted;
        spins = spins;
        alone = alone;
        enough = enough;
        ends = ends;
      }

mounted : (disk_in (double 0) ≡ Some (disk 1 1 2 1))
    × (disk_in (set (double 0) 274 0) ≡ Some (disk 1 1 2 1))
unfolding all_open
mounted = (refl, refl)

second_first : FirstId (disk 1 1 2 1) (double 0) 0 0 1
unfolding offset_of track_at track_length size_of
second_first =
    record {
      has = record { on_disk = omega arith; on_cylinder = omega arith; on_track = omega arith };
      marked = (omega arith, omega arith);
      none_before = none_before;
    }
  where
    none_before : (j : ℕ) → j < 1 → Counts (mark_in (disk 1 1 2 1) (double 0) 0 0 j) → ⊥
    none_before zero l m = omega (arith, m.0)
    none_before (suc j) l m = omega arith

neither_none : (k : ℕ) → Has (disk 1 1 2 1) 0 0 k → Counts (mark_in (disk 1 1 2 1) (set (double 0) 274 0) 0 0 k) → ⊥
unfolding offset_of track_at track_length size_of
neither_none zero h m = omega (arith, m.0)
neither_none (suc zero) h m = omega (arith, m.0)
neither_none (suc (suc k)) h m = omega (arith, h.on_track)

second_id : id_at (double 0) (offset_of (disk 1 1 2 1) 0 0 1) ≡ chrn_of 0 0 2
unfolding offset_of track_at track_length size_of
second_id = refl

first : FirstId (disk 1 1 2 1) (double 0) (head_of second.order (asked_by second)) 0 1
first = rw (head (double 0)) second_first

none : NoIdThere (disk 1 1 2 1) (set (double 0) 274 0) (head_of neither_id.order (asked_by neither_id)) 0
none =
    rw (head (set (double 0) 274 0))
    (record { on_disk = omega arith; on_cylinder = omega arith; none = neither_none })

id_is : id_at (double 0) (offset_of (disk 1 1 2 1) (head_of second.order (asked_by second)) 0 1) ≡ chrn_of 0 0 2
id_is = rw (head (double 0)) second_id

pub read_id_runs : ReadIdRuns
read_id_runs =
    let found : EndsWith (Gives second.order true 0x00 (chrn_of 0 0 2)) (calls_of second) (asked_by second) =
    rw id_is at
    (read_id_gives (asked_by second) (real_asked second refl) second.order (accepts (double 0)) (double 0)
    (disk 1 1 2 1) mounted.0 1 first (calls_of second) (spins (double 0)) (alone (double 0)) (enough (double 0))) in
    let missed =
    read_id_none (asked_by neither_id) (real_asked neither_id refl) neither_id.order (accepts neither_id.img) neither_id.img
    (disk 1 1 2 1) mounted.1 none (calls_of neither_id) (spins neither_id.img) (alone neither_id.img)
    (enough neither_id.img) in
    record {
      first = first;
      given = read_id_run (double 0) true 0x00 (chrn_of 0 0 2) mounted.0 found;
      none = none;
      nothing = read_id_run neither_id.img false 0x01 zeros mounted.1 missed;
    }
