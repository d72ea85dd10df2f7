-- The Format of FormatExamples, SC 1 on a track of two slots, meets all premises of `FormatServed`, `FormatSucceeds`,
-- `FormatNeverLate` and `FormatScript` (01 Format): it is in time, ends with IC 00, and the image left is its whole
-- script applied.
-- Assumes nothing.
use Rattle.std.specs.Prelude.{ℕ, ◌≤◌, List, [], ◌∷◌, ◌≡◌, length}
use Rattle.image.specs.Examples.{disk}
use Rattle.sectors.specs.declared.order.Plan.{Plan}
use Rattle.reached.specs.Moves.{tick_count}
use Rattle.reached.specs.Runs.{run_calls}
use Rattle.demands.specs.DataError.{Spins}
use Rattle.demands.specs.EndsInTime.{bound_of}
use Rattle.demands.specs.FormatScript.{Formats, Stored, applied, script_of, stores_of, Allowed, FormattedBy}
use Rattle.demands.specs.FormatSucceeds.{ServedUpTo, Formatted}
use Rattle.demands.specs.History.{no_history}
use Rattle.demands.specs.InTime.{InTime}
use Rattle.demands.specs.PowerCut.{head_of}
use Rattle.demands.specs.Work.{Alone, EndsWith}
use Rattle.runs.specs.FormatExamples.{one, format_left}
use Rattle.runs.specs.Host.{double}
use Rattle.runs.specs.PromptRuns.{longer}
use Rattle.runs.specs.Whole.{WholeGiven, asked_by, calls_of}

-- the bound's ticks
abbrev pub long_one : WholeGiven
long_one = longer 1716 one

abbrev pub plan : Plan
plan = record { n = 1; sc = 1; fill = 0xE5 }

abbrev pub address : List ℕ
address = 0 ∷ 0 ∷ 7 ∷ 1 ∷ []

abbrev pub script : List Stored
script = script_of (disk 1 1 2 1) 0 0 plan address

pub record FormatRuns : Type 0 where
  -- what FormatExamples does not say: the host serves up to the one slot's four bytes
  pub accepted : Formats (asked_by one) one.order plan
  pub allowed : Allowed (disk 1 1 2 1) (head_of one.order (asked_by one)) 0 plan
  pub spins : Spins 1 (calls_of long_one) (asked_by one)
  pub alone : Alone 1 (double 1) (calls_of long_one) (asked_by one)
  pub served : ServedUpTo 4 (calls_of long_one) (asked_by one) no_history
  pub enough : bound_of (disk 1 1 2 1) ≤ tick_count (calls_of long_one)
  -- so it is in time, and succeeds
  pub in_time_law : InTime (calls_of long_one) (asked_by one)
  pub success : EndsWith (Formatted one.order plan 0) (calls_of long_one) (asked_by one)
  -- what `FormatNeverLate` asks for beside the run of FormatExamples
  pub never_late : InTime (calls_of one) (asked_by one)
  -- 6 + 256 stores for the slot, one for the other's mark
  pub stores : stores_of (calls_of one) (asked_by one) 0 ≡ 263
  pub size : length script ≡ 263
  pub formatted :
      FormattedBy (disk 1 1 2 1) 0 1 0 plan address 263 (double 1) format_left (run_calls (calls_of one) (asked_by one))
  pub whole : format_left ≡ applied script (double 1)
