-- What the test of the numbers tells (01 Image: cylinders 1-82, heads 1-2, slots 1-36, N 1-3, protect 0 or 1).
-- Assumes nothing.
use Prim.Native.Nat.{ℕ}
use mathlib.Core.Bool.{true}
use mathlib.Core.Path.{◌≡◌}
use Rattle.image.specs.Disk.{within, in_range, InRange, geometry_of}
use Rattle.image.proofs.DiskLaws.{within_true}
use Rattle.image.proofs.TestLaws.{both}

pub range_true :
    (cylinders heads slots n protect : ℕ) → in_range cylinders heads slots n protect ≡ true
    → InRange (geometry_of cylinders heads slots n protect)
range_true cylinders heads slots n protect h =
    let (four, _) = both _ (within 0 protect 1) h in
    let (three, last) = both _ (within 1 n 3) four in
    let (two, third) = both _ (within 1 slots 36) three in
    let (first, second) = both (within 1 cylinders 82) (within 1 heads 2) two in
    record {
      cylinders = within_true 1 cylinders 82 first;
      heads = within_true 1 heads 2 second;
      slots = within_true 1 slots 36 third;
      n = within_true 1 n 3 last;
    }
