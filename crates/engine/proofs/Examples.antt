-- The examples of specs/Examples, each by computing.
-- Assumes nothing.
use mathlib.Core.Path.{refl}
use Rattle.engine.specs.Examples.{EngineExamples}
use Rattle.engine.proofs.Open.{engine_open}

pub engine_examples : EngineExamples
unfolding engine_open
engine_examples = record {
  ex9 = refl;
  ex10_100_mark = refl;
  ex10_100_bytes = refl;
  ex10_257_mark = refl;
  ex10_258_mark = refl;
  ex10_258_bytes = refl;
  wait_63 = refl;
  wait_64 = refl;
  overrun_runs_on = refl;
  overrun = refl;
  no_such_sector = refl;
  other_cylinder = refl;
  first_id_law = refl;
  sc_above = refl;
}
