-- Command bytes on every record without a fault of refusal 4, reached or not: D-36 and D-37.
-- Assumes nothing.
use Prim.Native.Nat.{ℕ, ◌+◌, ◌≤◌, ◌<◌}
use native.Mathlib.Omega.{arith}
use mathlib.Core.List.{[], ◌∷◌}
use mathlib.Core.Path.{◌≡◌, refl}
use lib.Dec.{ltb}
use lib.ListN.{replicate}
use borrow.Author.Tests.{ltb-true, lt-ltb}
use Rattle.image.proofs.TestLaws.{by_test}
use Rattle.fdc.specs.declared.record.Controller.{Controller}
use Rattle.fdc.specs.Commands.{one_more, gathered_of, configure_of, idled_of}
use Rattle.fdc.specs.Record.{padded, no_bytes, with_registers, with_fifo, with_bytes}

-- below nine it is one more, and never above nine
pub one_more_below : (n : ℕ) → n < 9 → one_more n ≡ n + 1
one_more_below n h = rw (lt-ltb n 9 h)

pub one_more_le : (n : ℕ) → one_more n ≤ 9
one_more_le n =
    by_test (ltb n 9) (λ (m : ℕ). m ≤ 9) (n + 1) 9 (λ t. let h = ltb-true n 9 t in omega arith) (λ _. omega arith)

-- 01 Commands: the first byte of a command is byte 0, whatever the record held
pub first_is_0 : (byte : ℕ) (c : Controller)
    → (gathered_of byte (with_bytes no_bytes c)).bytes
    ≡ record { command = byte ∷ replicate 8 0; gathered = 1; results = padded []; left = 0 }
unfolding gathered_of with_bytes
first_is_0 byte c = refl

-- 01 Refusals 4: at most nine command bytes after any byte
pub gathered_most : (byte : ℕ) (c : Controller) → (gathered_of byte c).bytes.gathered ≤ 9
unfolding gathered_of with_bytes
gathered_most byte c = one_more_le c.bytes.gathered

-- 01 Refusals 4: after Configure the FIFO is within any capacity
pub configured_empty : (c : Controller) → (configure_of c).fifo.count ≡ 0
unfolding configure_of idled_of with_fifo with_registers
configured_empty c = refl
