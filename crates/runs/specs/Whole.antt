-- Whole commands, call by call: what a closed run is given, and what is seen at its end. Each begins with Configure,
-- so that it does not rest on the FIFO's state at power-on.
-- Assumes nothing.
use Rattle.std.specs.Prelude.{ℕ, Bool, true, cond, List, [], ◌∷◌, ◌++◌, ◌≡◌, eqb, Some}
use Rattle.image.specs.declared.layout.Geometry.{Geometry}
use Rattle.image.specs.declared.slot.Id.{Id}
use Rattle.image.specs.Disk.{disk_in}
use Rattle.sectors.specs.declared.order.Job.TheVariants.{Format}
use Rattle.sectors.specs.declared.order.Order.{Order}
use Rattle.sectors.specs.declared.order.Plan.{Plan}
use Rattle.sectors.specs.declared.order.Transfer.{Transfer}
use Rattle.fdc.specs.declared.record.Controller.{Controller}
use Rattle.fdc.specs.declared.record.Phase.{Phase}
use Rattle.fdc.specs.declared.record.Phase.TheVariants.{Starting, Answering}
use Rattle.fdc.specs.Calls.{power_on}
use Rattle.reached.specs.Examples.{command}
use Rattle.reached.specs.Runs.{Call, powers, reads, writes, takes, gives, ticks, notes, after, run_calls}
use Rattle.demands.specs.HandedOver.{Reads, Taken, untaken, taken_over}
use Rattle.demands.specs.History.{Sector, Begun, no_one, History, no_history, history_of}
use Rattle.demands.specs.InTime.{Prompt}
use Rattle.demands.specs.PowerCut.{Writes}
use Rattle.demands.specs.Work.{Real, Its, Alone, image_by, image_left}

-- where the heads stand at power-on; DOR; Configure's byte, with EFIFO 20 and FIFOTHR; Specify's second, whose last
-- bit is ND; the command's bytes and what they say; the disk; and what the host does, each tick without its image
pub record WholeGiven : Type 0 where
  pub head0 : ℕ
  pub head1 : ℕ
  pub dor : ℕ
  pub config : ℕ
  pub spec : ℕ
  pub bytes : List ℕ
  pub order : Order
  pub disk : Geometry
  pub img : List ℕ
  pub does : List Call

abbrev pub asking : WholeGiven → List Call
asking x =
    writes 2 x.dor
    ∷ command (0x13 ∷ 0x00 ∷ x.config ∷ 0x00 ∷ []) ++ (command (0x03 ∷ 0xDF ∷ x.spec ∷ []) ++ command x.bytes)

-- the record that has accepted the command
abbrev pub asked_by : WholeGiven → Controller
asked_by x = run_calls (asking x) (power_on x.head0 x.head1).controller

-- a tick is handed this image for its drive, 0 or 1, and none for the other
abbrev pub lending : ℕ → List ℕ → Call → Call
lending drive img (powers head0 head1) = powers head0 head1
lending drive img (reads offset) = reads offset
lending drive img (writes offset byte) = writes offset byte
lending drive img (takes tc) = takes tc
lending drive img (gives byte tc) = gives byte tc
lending drive img (ticks a b) = ticks (cond (eqb drive 0) img []) (cond (eqb drive 1) img [])
lending drive img (notes drive') = notes drive'

-- each tick is handed the image as the one before left it
abbrev pub handing : ℕ → List Call → Controller → List ℕ → List Call
handing drive [] c img = []
handing drive (call ∷ calls) c img =
    let now = lending drive img call in
    now ∷ handing drive calls (after now c) (image_by drive img now c)

abbrev pub calls_of : WholeGiven → List Call
calls_of x = handing x.order.drive x.does (asked_by x) x.img

-- the record, what was handed over and stored, and the image, after these calls
abbrev pub now_by : WholeGiven → Controller
now_by x = run_calls (calls_of x) (asked_by x)

abbrev pub done_by : WholeGiven → History
done_by x = history_of (calls_of x) (asked_by x) no_history

abbrev pub left_by : WholeGiven → List ℕ
left_by x = image_left x.order.drive x.img (calls_of x) (asked_by x)

-- what the host does then
abbrev pub further : List Call → WholeGiven → WholeGiven
further more x =
    record {
      head0 = x.head0;
      head1 = x.head1;
      dor = x.dor;
      config = x.config;
      spec = x.spec;
      bytes = x.bytes;
      order = x.order;
      disk = x.disk;
      img = x.img;
      does = x.does ++ more;
    }

abbrev pub more_calls : List Call → WholeGiven → List Call
more_calls more x = handing x.order.drive more (now_by x) (left_by x)

-- at the end: the phase, the result ST0 ST1 ST2 C H R N; whether TC came, and the bytes that passed; of a write the
-- sectors finished, the last one first, and the one begun
pub record WholeOutcome : Type 0 where
  pub phase : Phase
  pub result : List ℕ
  pub told : Bool
  pub bytes : List ℕ
  pub finished : List Sector
  pub begun : Begun

abbrev pub wrote_of : Controller → History → WholeOutcome
wrote_of c h =
    record {
      phase = c.phase;
      result = c.bytes.results;
      told = h.told;
      bytes = h.host;
      finished = h.finished;
      begun = h.begun;
    }

abbrev pub took_of : Controller → Taken → WholeOutcome
took_of c t =
    record {
      phase = c.phase;
      result = c.bytes.results;
      told = t.told;
      bytes = t.got;
      finished = [];
      begun = no_one;
    }

-- the result waits with INT on
abbrev pub waiting : List ℕ → Bool → List ℕ → List Sector → Begun → WholeOutcome
waiting result told bytes finished begun =
    record {
      phase = Answering true;
      result = result;
      told = told;
      bytes = bytes;
      finished = finished;
      begun = begun;
    }

abbrev pub Wrote : WholeGiven → WholeOutcome → Type 0
Wrote x o = wrote_of (run_calls (calls_of x) (asked_by x)) (history_of (calls_of x) (asked_by x) no_history) ≡ o

abbrev pub Took : WholeGiven → WholeOutcome → Type 0
Took x o = took_of (run_calls (calls_of x) (asked_by x)) (taken_over (calls_of x) (asked_by x) untaken) ≡ o

-- all premises of the statements over a write's calls, and what came of them
pub record WriteRun (x : WholeGiven) (o : WholeOutcome) : Type 0 where
  pub real : Real (asked_by x)
  pub transfer : Transfer
  pub id : Id
  pub accepted : Writes (asked_by x) x.order transfer id
  pub mounted : disk_in x.img ≡ Some x.disk
  pub its : Its (calls_of x) (asked_by x)
  pub alone : Alone x.order.drive x.img (calls_of x) (asked_by x)
  pub outcome : Wrote x o

-- and a read's
pub record ReadRun (x : WholeGiven) (o : WholeOutcome) : Type 0 where
  pub real : Real (asked_by x)
  pub transfer : Transfer
  pub id : Id
  pub accepted : Reads (asked_by x) x.order transfer id
  pub mounted : disk_in x.img ≡ Some x.disk
  pub its : Its (calls_of x) (asked_by x)
  pub alone : Alone x.order.drive x.img (calls_of x) (asked_by x)
  pub outcome : Took x o

-- a Format's, with its result, the bytes that the host handed over and the image left
pub record FormatRun (x : WholeGiven) (result host left : List ℕ) : Type 0 where
  pub real : Real (asked_by x)
  pub plan : Plan
  pub accepted : (asked_by x).phase ≡ Starting x.order
  pub formats : x.order.job ≡ Format plan
  pub mounted : disk_in x.img ≡ Some x.disk
  pub its : Its (calls_of x) (asked_by x)
  pub alone : Alone x.order.drive x.img (calls_of x) (asked_by x)
  pub ends : (run_calls (calls_of x) (asked_by x)).phase ≡ Answering true
  pub result_is : (run_calls (calls_of x) (asked_by x)).bytes.results ≡ result
  pub host_is : (history_of (calls_of x) (asked_by x) no_history).host ≡ host
  pub left_is : image_left x.order.drive x.img (calls_of x) (asked_by x) ≡ left

-- the host serves each request before the next tick
abbrev pub Served : WholeGiven → Type 0
Served x = Prompt (calls_of x) (asked_by x)
