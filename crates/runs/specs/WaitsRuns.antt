-- A Read, a Write, a Read ID and a Format that end with a result: the premises of `ResultWaits`.
-- Assumes nothing.
use Rattle.std.specs.Prelude.{ℕ, true, false, List, [], ◌∷◌, ◌++◌, ◌≡◌, set}
use Rattle.sectors.specs.declared.order.Order.{Order}
use Rattle.fdc.specs.declared.record.Controller.{Controller}
use Rattle.fdc.specs.declared.record.Phase.TheVariants.{Starting, Answering}
use Rattle.reached.specs.Moves.{AllCalm}
use Rattle.reached.specs.Runs.{Call, run_calls}
use Rattle.demands.specs.Work.{Real, at_work, Its}
use Rattle.runs.specs.RowRuns.{box, row_given, move, format, marks, on, row_writing}

-- the premises; so the result waits
pub record WaitsRun (c : Controller) (calls : List Call) : Type 0 where
  pub real : Real c
  pub order : Order
  pub accepted : c.phase ≡ Starting order
  pub its : Its calls c
  pub calm : AllCalm calls
  pub over : at_work (run_calls calls c).phase ≡ false
  pub waits : (run_calls calls c).phase ≡ Answering true

abbrev pub WaitsAfter : List ℕ → List Call → Type 0
WaitsAfter bytes calls = WaitsRun (box 0 (row_given bytes [])) calls

pub record WaitsRuns : Type 0 where
  -- no such sector; a protected disk; the first ID; a byte missing
  pub read : WaitsAfter (move 0x46 3 4) (on 5 (marks 1 1))
  pub write : WaitsAfter (move 0x45 1 2) (on 1 (set (marks 1 1) 7 1))
  pub read_id : WaitsAfter (0x4A ∷ 0 ∷ []) (on 2 (marks 1 1))
  pub formats : WaitsAfter (format 2) (on 1 (marks 1 1) ++ (row_writing 1 (marks 1 1) ++ on 2 (marks 1 1)))
