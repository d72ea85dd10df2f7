-- The write and the read of PromptRuns meet all premises of `RoundTrip` and `LoadsBack` (specs/TripExamples): no run
-- is computed here.
-- Assumes nothing.
use Prim.Native.Nat.{ℕ, ◌+◌, ◌-◌, ◌<◌}
use native.Mathlib.Omega.{arith}
use mathlib.Core.Bool.{false}
use mathlib.Core.List.{List, ◌++◌}
use mathlib.Core.Logic.{inl}
use mathlib.Core.Path.{◌≡◌, refl, sym, ap, ◌∙◌}
use lib.ListN.{length, get_or}
use Rattle.image.specs.Examples.{disk}
use Rattle.demands.specs.HandedOver.{untaken}
use Rattle.demands.specs.InTime.{InTime}
use Rattle.demands.specs.LoadsBack.{SameAgain, Loads}
use Rattle.demands.specs.ReadSucceeds.{ReadTells}
use Rattle.demands.specs.RoundTrip.{
  Written,
  ReadBack,
  left_by,
  done_by,
  sectors_by,
  place_of,
  Succeeded,
  SlotStays,
  HoldsNo,
  SameSectors,
}
use Rattle.demands.specs.Succeeds.{Success}
use Rattle.demands.specs.Work.{Real}
use Rattle.demands.proofs.HeldLaws.{sound_holds}
use Rattle.demands.proofs.InTimeLaws.{prompt_in_time}
use Rattle.demands.proofs.LoadsBackLaws.{loads_back}
use Rattle.demands.proofs.RoundTripLaws.{round_trip}
use Rattle.runs.specs.AckExamples.{writing}
use Rattle.runs.specs.CutExamples.{sector_one, down}
use Rattle.runs.specs.HandedExamples.{reading}
use Rattle.runs.specs.Host.{double}
use Rattle.runs.specs.TripExamples.{TripExample}
use Rattle.runs.specs.PromptRuns.{first, wrote, wrote_end, left, back, back_end}
use Rattle.runs.specs.SucceedsExamples.{from_one}
use Rattle.runs.specs.SuccessRuns.{long_read}
use Rattle.runs.specs.Whole.{WholeOutcome, asked_by, calls_of, WriteRun, ReadRun}
use Rattle.runs.proofs.PromptRuns.{prompt_runs}
use Rattle.runs.proofs.SuccessRuns.{heads, wrote_accepts, back_accepts, success_runs}

abbrev saving : WriteRun wrote wrote_end
saving = prompt_runs.written

abbrev loading : ReadRun back back_end
loading = prompt_runs.read

abbrev writes_it : Written Real
writes_it =
    record {
      c = asked_by wrote;
      from = saving.real;
      order = wrote.order;
      transfer = writing false false 2;
      id = sector_one;
      accepted = wrote_accepts;
      old = double 1;
      g = disk 1 1 2 1;
      disk = saving.mounted;
      calls = calls_of wrote;
      its = saving.its;
      alone = saving.alone;
    }

abbrev reads_it : ReadBack Real left (disk 1 1 2 1)
reads_it =
    record {
      c = asked_by back;
      from = loading.real;
      order = back.order;
      transfer = reading false false false 2;
      id = sector_one;
      accepted = back_accepts;
      protect = false;
      disk = loading.mounted;
      calls = calls_of back;
      its = loading.its;
      alone = loading.alone;
    }

success : Succeeded writes_it
success =
    record {
      waits = ap (λ (o : WholeOutcome). o.phase) saving.outcome;
      normal = omega (arith, ap (λ (o : WholeOutcome). get_or o.result 0 0) saving.outcome);
    }

all_the_same : SameSectors writes_it reads_it
all_the_same =
    record {
      cylinder = heads.1 ∙ sym heads.0;
      side = refl;
      id = refl;
      eot = inl refl;
      kind = inl refl;
    }

stays : (m : ℕ) → m < sectors_by writes_it → SlotStays (disk 1 1 2 1) (left_by writes_it) left (place_of writes_it m)
stays m l i k = ap (λ (x : List ℕ). get_or x (place_of writes_it m + i) 0) (sym prompt_runs.left_is)

held : (m : ℕ) → m < sectors_by writes_it → HoldsNo writes_it left m
held m l = sound_holds writes_it m l left false prompt_runs.sound_left (stays m l)

same_again : SameAgain writes_it (asked_by back) back.order (reading false false false 2)
same_again =
    record {
      accepted = back_accepts;
      cylinder = heads.1 ∙ sym heads.0;
      side = refl;
      eot = refl;
      mt = refl;
      kind = refl;
    }

host_is : (done_by writes_it).host ≡ first ++ down 4
host_is = ap (λ (o : WholeOutcome). o.bytes) saving.outcome

two : sectors_by writes_it ≡ 2
two = ap (λ (o : WholeOutcome). length o.finished) saving.outcome

-- 260 bytes
many_is : length (done_by writes_it).host ≡ 260
many_is = ap length host_is

in_time_law : InTime (calls_of long_read) (asked_by back)
in_time_law =
    prompt_in_time (asked_by back) loading.real back.order (reading false false false 2) sector_one
    (record { accepted = back_accepts.accepted; moves = back_accepts.moves }) (calls_of long_read)
    prompt_runs.read_long.served

loads_it :
    Loads (Success back.order (reading false false false 2) from_one 1) (first ++ down 4) (calls_of long_read)
    (asked_by back)
loads_it =
    let tells : ReadTells (length (done_by writes_it).host) (calls_of long_read) (asked_by back) untaken =
    rw many_is success_runs.read_tells in
    let long = prompt_runs.read_long in
    let l : Loads (Success back.order (reading false false false 2) from_one (sectors_by writes_it - 1))
    (done_by writes_it).host (calls_of long_read) (asked_by back) =
    loads_back writes_it success (rw many_is (omega arith)) left false prompt_runs.sound_left stays (asked_by back)
    loading.real back.order (reading false false false 2) same_again (calls_of long_read) long.spins
    long.alone in_time_law tells long.enough in
    rw (two, host_is) at l

pub trip_example : TripExample
trip_example =
    let got = ap (λ (o : WholeOutcome). o.bytes) loading.outcome in
    let many = ap length (got ∙ sym host_is) in
    record {
      write = writes_it;
      writes = refl;
      done = success;
      sectors = two;
      host = host_is;
      holds = held;
      read = reads_it;
      reads = refl;
      same = all_the_same;
      as_many = many;
      again = (round_trip writes_it success left held reads_it all_the_same).whole many;
      same_again = same_again;
      loads = loads_it;
    }
