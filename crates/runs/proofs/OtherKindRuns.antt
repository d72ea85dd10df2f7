-- The run of specs/OtherKindRuns: the premises by computing, the end by the theorem.
-- Assumes nothing.
use native.Mathlib.Omega.{arith}
use mathlib.Core.Bool.{true, false}
use mathlib.Core.Path.{◌≡◌, refl, ap}
use Rattle.image.specs.Examples.{disk}
use Rattle.image.specs.Layout.{size_of, track_length, track_at, offset_of}
use Rattle.demands.specs.EndsInTime.{bound_of}
use Rattle.demands.specs.HandedOver.{Reads, IsGoodOther}
use Rattle.demands.specs.PowerCut.{head_of}
use Rattle.demands.proofs.OtherKindLaws.{reads_other}
use Rattle.runs.specs.CutExamples.{sector_one}
use Rattle.runs.specs.HandedExamples.{reading}
use Rattle.runs.specs.Host.{double}
use Rattle.runs.specs.OtherKindRuns.{deleted, deleted_end, long_deleted, OtherKindRuns}
use Rattle.runs.specs.PromptRuns.{LongRun}
use Rattle.runs.specs.SucceedsExamples.{from_one}
use Rattle.runs.specs.Whole.{WholeOutcome, asked_by, calls_of, ReadRun}
use Rattle.runs.proofs.Open.{all_open}
use Rattle.runs.proofs.PromptRuns.{double_sound, long_run}
use Rattle.runs.proofs.WholeLaws.{goes, took_in, sums, read_run, read_served}

deleted_goes : took_in deleted ≡ sums deleted_end true
unfolding all_open goes
deleted_goes = refl

accepts : Reads (asked_by deleted) deleted.order (reading false false false 2) sector_one
unfolding all_open
accepts = record { accepted = refl; moves = refl; reads = refl }

head : head_of deleted.order (asked_by deleted) ≡ 0
unfolding all_open
head = refl

ran : ReadRun deleted deleted_end
unfolding all_open
ran = read_run deleted deleted_end _ _ true refl accepts refl (omega arith) deleted_goes

long : LongRun long_deleted
unfolding all_open bound_of
long =
    long_run deleted 1721 (read_served deleted deleted_end deleted_goes)
    (ap (λ (o : WholeOutcome). o.phase) ran.outcome) (omega arith) refl refl (omega arith)

at_slot_0 : IsGoodOther (disk 1 1 2 1) 0 (reading false false false 2) from_one (double 2) 0
unfolding offset_of track_at track_length size_of
at_slot_0 =
    record {
      at = 13;
      stands = record {
        slot = 0;
        has = record { on_disk = omega arith; on_cylinder = omega arith; on_track = omega arith };
        place = refl;
        marked = (omega arith, omega arith);
        address = refl;
        size = refl;
      };
      mark = refl;
    }

there : IsGoodOther (disk 1 1 2 1) (head_of deleted.order (asked_by deleted)) (reading false false false 2) from_one
    (double 2) 0
there = rw head at_slot_0

pub other_kind_runs : OtherKindRuns
other_kind_runs =
    record {
      run = ran;
      long = long;
      sound = double_sound 2 (omega arith);
      there = there;
      ends =
          reads_other (asked_by deleted) ran.real deleted.order (reading false false false 2) sector_one accepts refl
          (double 2) (disk 1 1 2 1) (double_sound 2 (omega arith)) there (calls_of long_deleted) long.spins
          long.alone long.served long.enough;
    }
