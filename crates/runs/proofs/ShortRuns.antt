-- The runs of specs/ShortRuns: one equation for each save, tests that compute for the pulled disks, and what the
-- theorems say of them.
-- Assumes nothing.
use Rattle.std.specs.Prelude.{Some}
use Prim.Native.Nat.{ℕ, ◌*◌, ◌<◌}
use native.Mathlib.Omega.{arith}
use mathlib.Core.Bool.{Bool, true, false}
use mathlib.Core.List.{List, [], ◌∷◌, ◌++◌}
use mathlib.Core.Logic.{inl, inr}
use mathlib.Core.Path.{◌≡◌, refl, sym, ap, ◌∙◌, subst}
use lib.Dec.{ltb}
use lib.ListN.{length, get_or}
use borrow.Author.Tests.{ltb-true}
use Rattle.image.specs.declared.slot.Id.{Id}
use Rattle.image.specs.Disk.{disk_in}
use Rattle.sectors.specs.declared.order.Transfer.{Transfer}
use Rattle.fdc.specs.declared.record.Phase.TheVariants.{Answering}
use Rattle.reached.specs.Moves.{AllCalm}
use Rattle.reached.specs.Runs.{Call, run_calls}
use Rattle.demands.specs.History.{Begun, some_of, no_history, history_of}
use Rattle.demands.specs.InTime.{SomeLate}
use Rattle.demands.specs.PowerCut.{Writes, passing, stored_count, Missing}
use Rattle.demands.specs.Work.{at_work, image_left}
use Rattle.demands.proofs.BreakLaws.{only_cuts_break}
use Rattle.demands.proofs.LateLaws.{late_told}
use Rattle.demands.proofs.ShortLaws.{short_is_last}
use Rattle.runs.specs.ShortRuns.{
  save,
  save_end,
  save_left,
  large,
  large_end,
  large_left,
  too_late,
  Filling,
  Short,
  in_time,
  missed,
  emptied,
  swapped,
  stilled,
  PulledRun,
  ShortRuns,
}
use Rattle.runs.specs.Whole.{
  WholeGiven,
  WholeOutcome,
  asking,
  asked_by,
  calls_of,
  further,
  wrote_of,
  WriteRun,
}
use Rattle.runs.proofs.Open.{all_open}
use Rattle.runs.proofs.SpinLaws.{dma_tests, dma_calm}
use Rattle.runs.proofs.Tests.{byte_tests, all_work, work_its}
use Rattle.runs.proofs.WholeLaws.{
  Seen,
  goes,
  goes_on,
  seen_in,
  Summary,
  sums,
  wrote_in_lem,
  alone_in,
  left_in,
  its_in,
  more_in,
  more_its,
  more_alone,
  real_asked,
  write_run,
  write_acknowledged,
}

-- a save in one pass: whether a byte is missing after its first part, and the end of all
record Saved : Type 0 where
  beyond : Bool
  told : Bool
  work : Bool
  whole : Summary
  left : List ℕ

abbrev whole_of : Seen → Summary
whole_of s = record { outcome = wrote_of s.now s.history; work = s.work; off = s.off }

abbrev saved_in : WholeGiven → List Call → Saved
saved_in x more =
    let first = seen_in x in
    let all = goes_on x.order.drive more first in
    record {
      beyond = ltb (length first.history.host) (stored_count x.disk first.history);
      told = first.history.told;
      work = first.work;
      whole = whole_of all;
      left = all.left;
    }

abbrev saved : WholeOutcome → List ℕ → Saved
saved o left = record { beyond = true; told = false; work = true; whole = sums o false; left = left }

save_goes : saved_in save too_late ≡ saved save_end save_left
unfolding all_open goes
save_goes = refl

large_goes : saved_in large too_late ≡ saved large_end large_left
unfolding all_open goes
large_goes = refl

module _ (x : WholeGiven) (more : List Call) (o : WholeOutcome) (left : List ℕ) (transfer : Transfer) (id : Id)
    (bytes : byte_tests (asking x) ≡ true) (accepted : Writes (asked_by x) x.order transfer id)
    (mounted : disk_in x.img ≡ Some x.disk) (drive : x.order.drive < 2)
    (e : saved_in x more ≡ saved o left) where
  whole : whole_of (goes_on x.order.drive more (seen_in x)) ≡ sums o false
  whole = ap (λ (s : Saved). s.whole) e

  fills : Filling x more
  fills =
      let missing = subst (Missing x.disk) (wrote_in_lem x)
      (record { beyond = ltb-true _ _ (ap (λ (s : Saved). s.beyond) e); untold = ap (λ (s : Saved). s.told) e }) in
      let its = its_in x (ap (λ (s : Saved). s.work) e) in
      let its_then = more_its x more (ap (λ (s : Summary). s.work) whole) in
      let alone_then = more_alone x more drive in
      record {
        real = real_asked x bytes;
        transfer = transfer;
        id = id;
        accepted = accepted;
        mounted = mounted;
        its = its;
        alone = alone_in x drive;
        missing = missing;
        more_its = its_then;
        more_alone = alone_then;
        none =
            short_is_last (asked_by x) (real_asked x bytes) x.order transfer id accepted x.img x.disk mounted
            (calls_of x) its (alone_in x drive) missing _ its_then alone_then;
      }

  ran : WriteRun (further more x) o
  ran =
      write_run (further more x) o transfer id false bytes accepted mounted drive
      (ap whole_of (more_in x more) ∙ whole)

  shorts : o.phase ≡ Answering true → o.told ≡ false
      → length o.bytes < length o.finished * passing x.disk → Short (further more x) o left
  shorts waits untold below =
      record {
        run = ran;
        left_is =
            sym (left_in (further more x))
            ∙ (ap (λ (s : Seen). s.left) (more_in x more) ∙ ap (λ (s : Saved). s.left) e);
        untold = ap (λ (s : WholeOutcome). s.told) ran.outcome ∙ untold;
        below =
            subst (λ (s : WholeOutcome). length s.bytes < length s.finished * passing x.disk)
            (sym ran.outcome) below;
        acknowledges = write_acknowledged (further more x) o ran waits;
      }

-- a pulled disk in one pass
record Broken : Type 0 where
  work : Bool
  over : Bool
  begun : Begun
  results : List ℕ
  mark : ℕ

abbrev broken_in : WholeGiven → List Call → Broken
broken_in x calls =
    record {
      work = all_work calls (asked_by x);
      over = at_work (run_calls calls (asked_by x)).phase;
      begun = (history_of calls (asked_by x) no_history).begun;
      results = (run_calls calls (asked_by x)).bytes.results;
      mark = get_or (image_left x.order.drive x.img calls (asked_by x)) 13 0;
    }

abbrev broken : ℕ → List ℕ → Broken
broken st1 bytes =
    record {
      work = true;
      over = false;
      begun = some_of 13 bytes;
      results = 0x40 ∷ st1 ∷ 0x00 ∷ 0 ∷ 0 ∷ 1 ∷ 1 ∷ [];
      mark = 3;
    }

pulled_run : (x : WholeGiven) (last : List Call) (st1 : ℕ) (bytes : List ℕ) (transfer : Transfer) (id : Id)
    → byte_tests (asking x) ≡ true → Writes (asked_by x) x.order transfer id → dma_tests x.does ≡ true → AllCalm last
    → broken_in x (calls_of x ++ last) ≡ broken st1 bytes → PulledRun x last st1 bytes
pulled_run x last st1 bytes transfer id b accepted dma calm_last e =
    let calls = calls_of x ++ last in
    let calm = dma_calm x.order.drive x.does last (asked_by x) x.img dma calm_last in
    let its = work_its calls (asked_by x) (ap (λ (s : Broken). s.work) e) in
    let over = ap (λ (s : Broken). s.over) e in
    let begun = ap (λ (s : Broken). s.begun) e in
    record {
      real = real_asked x b;
      transfer = transfer;
      id = id;
      accepted = accepted;
      its = its;
      calm = calm;
      over = over;
      begun = begun;
      pulled =
          only_cuts_break (asked_by x) (real_asked x b) x.order transfer id accepted calls its calm over 13 bytes
          begun;
      result = ap (λ (s : Broken). s.results) e;
      mark = ap (λ (s : Broken). s.mark) e;
    }

emptied_run : PulledRun missed (emptied missed) 0x11 (9 ∷ 8 ∷ 7 ∷ 6 ∷ 0 ∷ 0 ∷ [])
unfolding all_open all_work
emptied_run =
    pulled_run missed (emptied missed) 0x11 _ _ _ refl (record { accepted = refl; moves = refl; writes = refl }) refl
    (tt, tt) refl

-- the twelfth of its calls finds the byte missing
missed_late : SomeLate (calls_of missed ++ emptied missed) (asked_by missed)
unfolding all_open SomeLate
missed_late =
    inr (inr (inr (inr (inr (inr (inr (inr (inr (inr (inr (inl (refl, (omega arith, refl, refl)))))))))))))

pub short_runs : ShortRuns
unfolding all_open all_work
short_runs = record {
  save_fills =
      fills save too_late save_end save_left _ _ refl (record { accepted = refl; moves = refl; writes = refl }) refl
      (omega arith) save_goes;
  save_short =
      shorts save too_late save_end save_left _ _ refl (record { accepted = refl; moves = refl; writes = refl }) refl
      (omega arith) save_goes refl refl (omega arith);
  large_fills =
      fills large too_late large_end large_left _ _ refl (record { accepted = refl; moves = refl; writes = refl }) refl
      (omega arith) large_goes;
  large_short =
      shorts large too_late large_end large_left _ _ refl (record { accepted = refl; moves = refl; writes = refl }) refl
      (omega arith) large_goes refl refl (omega arith);
  emptied_late = emptied_run;
  missed_told = record {
    some = missed_late;
    told = late_told (asked_by missed) (real_asked missed refl) missed.order _ _
        (record { accepted = refl; moves = refl }) (calls_of missed ++ emptied missed) emptied_run.its missed_late
        emptied_run.pulled.waits;
  };
  swapped_late =
      pulled_run missed (swapped missed) 0x11 _ _ _ refl (record { accepted = refl; moves = refl; writes = refl }) refl
      (tt, tt) refl;
  stilled_late =
      pulled_run missed (stilled missed) 0x11 _ _ _ refl (record { accepted = refl; moves = refl; writes = refl }) refl
      ((λ e. refl, λ e. refl), (tt, tt)) refl;
  emptied_in_time =
      pulled_run in_time (emptied in_time) 0x01 _ _ _ refl (record { accepted = refl; moves = refl; writes = refl }) refl
      (tt, tt) refl;
}
