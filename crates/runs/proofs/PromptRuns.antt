-- A write and a read of the same bytes (specs/PromptRuns), by computation: one equation each.
-- Assumes nothing.
use Prim.Native.Nat.{ℕ, ◌<◌, ◌≤◌}
use native.Mathlib.Omega.{arith}
use mathlib.Core.Bool.{true}
use mathlib.Core.List.{List}
use mathlib.Core.Path.{◌≡◌, refl, sym, ap, ◌∙◌}
use Rattle.image.specs.Examples.{disk}
use Rattle.image.specs.Sound.{Sound}
use Rattle.fdc.specs.declared.record.Phase.TheVariants.{Answering}
use Rattle.reached.specs.Moves.{tick_count}
use Rattle.fdc.specs.Registers.{motor_in}
use Rattle.reached.specs.Runs.{run_calls}
use Rattle.demands.specs.EndsInTime.{bound_of}
use Rattle.demands.specs.InTime.{RequestOff}
use Rattle.demands.specs.Work.{at_work}
use Rattle.runs.specs.Host.{idle, double}
use Rattle.runs.specs.PromptRuns.{wrote, wrote_end, left, back, back_end, longer, LongRun, PromptRuns}
use Rattle.runs.specs.Whole.{WholeGiven, WholeOutcome, asked_by, calls_of, Served}
use Rattle.runs.proofs.Open.{all_open}
use Rattle.runs.proofs.SmallLaws.{small_sound}
use Rattle.runs.proofs.SpinLaws.{dma_tests, dma_spins, ticks_longer, handing_ticks}
use Rattle.runs.proofs.WholeLaws.{
  goes,
  Summary,
  sums,
  seen_in,
  wrote_in,
  took_in,
  alone_in,
  left_in,
  write_run,
  read_run,
  write_served,
  read_served,
}

-- with the image left
pub record Whole : Type 0 where
  pub sum : Summary
  pub left : List ℕ

wrote_goes : ◌≡◌ {A = Whole} (record { sum = wrote_in wrote; left = (seen_in wrote).left })
    (record { sum = sums wrote_end true; left = left })
unfolding all_open goes
wrote_goes = refl

back_goes : took_in back ≡ sums back_end true
unfolding all_open goes
back_goes = refl

-- whatever the mark of sector 1
pub double_sound : (mark : ℕ) → mark ≤ 5 → Sound (disk 1 1 2 1) (double mark)
double_sound mark most =
    small_sound (double mark)
    (record {
      header = refl;
      size = refl;
      tag = refl;
      high = refl;
      low = refl;
      cylinder = refl;
      side = refl;
      first = most;
      second = refl;
      first_r = refl;
      second_r = refl;
      last = (refl, refl, refl);
    })

left_sound : Sound (disk 1 1 2 1) left
left_sound =
    small_sound left
    (record {
      header = refl;
      size = refl;
      tag = refl;
      high = refl;
      low = refl;
      cylinder = refl;
      side = refl;
      first = omega arith;
      second = refl;
      first_r = refl;
      second_r = refl;
      last = (refl, refl, refl);
    })

pub long_run : (x : WholeGiven) (n : ℕ) → Served x → (run_calls (calls_of x) (asked_by x)).phase ≡ Answering true
    → x.order.drive < 2 → dma_tests (longer n x).does ≡ true
    → motor_in (asked_by x).registers.dor x.order.drive ≡ true
    → bound_of x.disk ≤ tick_count (longer n x).does → LongRun (longer n x)
long_run x n served over p dma motor enough =
    record {
      spins = dma_spins x.order.drive (longer n x).does (asked_by x) x.img dma motor;
      served =
          ticks_longer x.order.drive RequestOff x.does (idle n) (asked_by x) x.img served (ap at_work over);
      alone = alone_in (longer n x) p;
      enough = rw (handing_ticks x.order.drive (longer n x).does (asked_by x) x.img) enough;
    }

pub prompt_runs : PromptRuns
unfolding all_open bound_of
prompt_runs =
    let wrote_sum = ap (λ (t : Whole). t.sum) wrote_goes in
    let written =
    write_run wrote wrote_end _ _ true refl (record { accepted = refl; moves = refl; writes = refl }) refl
    (omega arith) wrote_sum in
    let read =
    read_run back back_end _ _ true refl (record { accepted = refl; moves = refl; reads = refl }) refl
    (omega arith) back_goes in
    record {
      sound = double_sound 1 (omega arith);
      written = written;
      write_served = write_served wrote wrote_end wrote_sum;
      left_is = sym (left_in wrote) ∙ ap (λ (t : Whole). t.left) wrote_goes;
      sound_left = left_sound;
      read = read;
      read_served = read_served back back_end back_goes;
      write_long =
          long_run wrote 1461 (write_served wrote wrote_end wrote_sum)
          (ap (λ (o : WholeOutcome). o.phase) written.outcome) (omega arith) refl refl (omega arith);
      read_long =
          long_run back 1463 (read_served back back_end back_goes)
          (ap (λ (o : WholeOutcome). o.phase) read.outcome) (omega arith) refl refl (omega arith);
    }
