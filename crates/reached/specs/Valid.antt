-- 01 Refusals 4: no call damages a valid record, reached or not. The proof is firmware's NumbersLaws.
-- Assumes nothing.
use Rattle.std.specs.Prelude.{true, ◌≡◌}
use Rattle.fdc.specs.declared.record.Controller.{Controller}
use Rattle.fdc.specs.Record.{valid_of}
use Rattle.reached.specs.Runs.{Call, after}

-- of the seven calls; power-on gives a valid record whatever it is handed
abbrev pub ValidKept : Type 0
ValidKept = (call : Call) (c : Controller) → valid_of c ≡ true → valid_of (after call c) ≡ true
