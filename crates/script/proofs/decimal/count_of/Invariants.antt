-- At each place what is counted goes on to what the whole says.
-- Assumes nothing.
use Rattle.std.proofs.Common.{◌≡◌, Some, drop}
use Rattle.script.specs.Decimal.{count_from}
use Rattle.script.proofs.decimal.count_of.Given as goal

abbrev pub invariant-loop-byte : goal.invariant-loop-byte
invariant-loop-byte l = count_from (Some l.value) (drop l.byte-index l.t) ≡ count_from (Some 0) l.t
