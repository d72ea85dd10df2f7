-- The runs of specs/AnswerRuns: the premises by computing, the rest by the laws.
-- Assumes nothing.
use Prim.Native.Nat.{zero, suc}
use native.Mathlib.Omega.{arith}
use mathlib.Core.Bool.{false, false≢true}
use mathlib.Core.List.{[], ◌∷◌, ◌++◌}
use mathlib.Core.Path.{◌≡◌, refl, ap}
use Rattle.chip.specs.Fifo.{emptied}
use Rattle.engine.specs.First.{pass_writes}
use Rattle.sectors.specs.declared.order.Pass.{Pass}
use Rattle.reached.specs.Examples.{command, readied}
use Rattle.reached.specs.Runs.{writes}
use Rattle.answers.specs.Accepts.{Ready}
use Rattle.answers.specs.CommandResults.{NoneBusy}
use Rattle.answers.specs.OnlyWrites.{AllHanded}
use Rattle.answers.specs.ReadsOut.{of_drive}
use Rattle.answers.proofs.AcceptLaws.{accepts, busy_rule, settings, waits_ready}
use Rattle.answers.proofs.ProtectedLaws.{protected_stays}
use Rattle.answers.proofs.ReadsOutLaws.{reads_out}
use Rattle.runs.specs.AnswerRuns.{waits, seeks, failed, versioned, sensed, protected, asked, AnswerRuns}
use Rattle.runs.specs.RowRuns.{row_given, move, on}
use Rattle.runs.proofs.Open.{all_open}
use Rattle.runs.proofs.RowRuns.{real_box}
use Rattle.runs.proofs.Tests.{all_of_tests}

waits_for : Ready waits × (waits.fifo ≡ emptied)
unfolding all_open
waits_for =
    waits_ready waits
    (record {
      real = real_box 0 (writes 2 0x1C ∷ command (0x13 ∷ 0x00 ∷ 0x0F ∷ 0x00 ∷ [])) refl;
      idle = refl;
      free = refl;
    })

seeks_on : Ready seeks × (seeks.fifo ≡ emptied)
unfolding all_open
seeks_on =
    waits_ready seeks
    (record {
      real = real_box 0 (readied 0x1C ++ command (0x0F ∷ 0x01 ∷ 0x05 ∷ [])) refl;
      idle = refl;
      free = refl;
    })

none : NoneBusy waits
unfolding all_open
none zero p = refl
none (suc zero) p = refl
none (suc (suc zero)) p = refl
none (suc (suc (suc zero))) p = refl
none (suc (suc (suc (suc k)))) p = absurd (omega arith)

pub answer_runs : AnswerRuns
unfolding all_open AllHanded
answer_runs = record {
  ready = waits_for.0;
  none_busy = none;
  takes_read = (accepts waits).read false false false 0x05 1 1 3 2 9 0x1B 0xFF waits_for.0 none;
  takes_configure = (settings waits).configure 0x00 0x27 0x00 waits_for.0 none waits_for.1;
  busy_ready = seeks_on.0;
  busy = refl;
  whole = refl;
  refuses_read =
      (busy_rule seeks).all_but 0x46 (0 ∷ 0 ∷ 0 ∷ 1 ∷ 1 ∷ 2 ∷ 0x1B ∷ 0xFF ∷ []) 1 seeks_on.0 (omega arith) refl
      (λ e. omega (arith, e)) (λ e. omega (arith, e)) (λ e. omega (arith, e)) refl;
  refuses_seek = (busy_rule seeks).seek 0x01 0x07 seeks_on.0 refl;
  free = refl;
  takes_seek = (accepts seeks).seek 0x00 0x03 seeks_on.0 refl;
  seven = reads_out.reached failed (real_box 0 (row_given (move 0x46 1 2) (on 1 [])) refl) refl;
  one = (reads_out.reached_any versioned (real_box 0 (readied 0x0C ++ command (0x10 ∷ [])) refl) refl).0;
  two = (reads_out.reached_any sensed (real_box 0 (readied 0x0C ++ command (0x08 ∷ [])) refl) refl).0;
  gate = refl;
  pending = of_drive 0 (omega arith) (λ e. omega (arith, e));
  seven_out =
      reads_out.seven failed
      (reads_out.reached failed (real_box 0 (row_given (move 0x46 1 2) (on 1 [])) refl) refl);
  two_out =
      reads_out.any sensed false 2 (omega arith)
      (reads_out.reached_any sensed (real_box 0 (readied 0x0C ++ command (0x08 ∷ [])) refl) refl).0;
  stores_not = λ e. false≢true (ap (λ (p : Pass). pass_writes p) e);
  suited = refl;
  stores = refl;
  locked = (_, (refl, refl));
  handed = (refl, (refl, (refl, tt)));
  stays =
      protected_stays.list asked (real_box 0 (row_given (move 0x45 1 2) []) refl) 0 protected (_, (refl, refl))
      (on 3 protected) (all_of_tests (on 3 protected) refl) (refl, (refl, (refl, tt)));
}
