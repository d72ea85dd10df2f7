-- The runs of specs/WaitsRuns, by computing; the last field by the law.
-- Assumes nothing.
use Prim.Native.Nat.{ℕ}
use mathlib.Core.Bool.{true, false}
use mathlib.Core.List.{List, [], ◌∷◌, ◌++◌}
use mathlib.Core.Path.{◌≡◌, refl}
use lib.ListN.{set}
use Rattle.sectors.specs.declared.order.Order.{Order}
use Rattle.fdc.specs.declared.record.Phase.TheVariants.{Starting}
use Rattle.reached.specs.Moves.{AllCalm}
use Rattle.reached.specs.Runs.{Call, run_calls}
use Rattle.demands.specs.Work.{at_work}
use Rattle.demands.proofs.AcknowledgedLaws.{result_waits}
use Rattle.runs.specs.RowRuns.{box, row_given, move, format, marks, on, row_writing}
use Rattle.runs.specs.WaitsRuns.{WaitsAfter, WaitsRuns}
use Rattle.runs.proofs.Open.{all_open}
use Rattle.runs.proofs.RowRuns.{real_box}
use Rattle.runs.proofs.Tests.{byte_tests, all_work, work_its}

waits : (bytes : List ℕ) (calls : List Call) (order : Order) → byte_tests (row_given bytes []) ≡ true
    → (box 0 (row_given bytes [])).phase ≡ Starting order → all_work calls (box 0 (row_given bytes [])) ≡ true → AllCalm calls
    → at_work (run_calls calls (box 0 (row_given bytes []))).phase ≡ false → WaitsAfter bytes calls
waits bytes calls order b p w calm over =
    let c = box 0 (row_given bytes []) in
    let its = work_its calls c w in
    let real = real_box 0 (row_given bytes []) b in
    record {
      real = real;
      order = order;
      accepted = p;
      its = its;
      calm = calm;
      over = over;
      waits = result_waits c real order p calls its calm over;
    }

pub waits_runs : WaitsRuns
unfolding all_open all_work
waits_runs = record {
  read = waits (move 0x46 3 4) (on 5 (marks 1 1)) _ refl refl refl (tt, (tt, (tt, (tt, (tt, tt))))) refl;
  write = waits (move 0x45 1 2) (on 1 (set (marks 1 1) 7 1)) _ refl refl refl (tt, tt) refl;
  read_id = waits (0x4A ∷ 0 ∷ []) (on 2 (marks 1 1)) _ refl refl refl (tt, (tt, tt)) refl;
  formats =
      waits (format 2) (on 1 (marks 1 1) ++ (row_writing 1 (marks 1 1) ++ on 2 (marks 1 1))) _ refl refl refl
      (tt, (tt, (tt, (tt, (tt, tt))))) refl;
}
