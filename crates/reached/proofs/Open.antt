-- One name for all that a closed list of calls computes with: `unfolding calls_open` opens the calls and the machine. A new
-- definition of this crate is added here.
-- Assumes nothing.
use Rattle.fdc.proofs.Open.{fdc_open}
use Rattle.reached.specs.Runs.{answer_to, run_calls}

unfoldable pub calls_open : Unit {0}
unfolding fdc_open answer_to run_calls
calls_open = tt
