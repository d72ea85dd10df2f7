-- 01 Example 8, 01 Example 9, and document 01's port log, by computation.
-- Assumes nothing.
use mathlib.Core.Path.{refl}
use Rattle.reached.specs.Examples.{FdcExamples}
use Rattle.reached.proofs.Open.{calls_open}

pub fdc_examples : FdcExamples
unfolding calls_open
fdc_examples = record { port_log = refl; ex8 = refl; ex9 = refl }
