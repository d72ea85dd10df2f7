-- What the stores leave is the record's bytes, and what stood behind them.
-- Assumes nothing.
use Prim.Native.Nat.{ℕ, ◌≤◌}
use mathlib.Core.Bool.{Bool, true, false, false≢true}
use mathlib.Core.List.{List, ◌++◌}
use mathlib.Core.Path.{◌≡◌, refl, ap, ◌∙◌}
use lib.Dec.{leb}
use borrow.Author.Tests.{leb-true, le-leb}
use native.Mathlib.Omega.{arith}
use lib.ListN.{length, drop}
use lib.Seq.{sets, sets-eq}
use Rattle.std.proofs.lemmas.List.{drop_all, append-nil}
use Rattle.fdc.specs.declared.record.Controller.{Controller}
use Rattle.pack.specs.Flat.{phase_flat}
use Rattle.pack.specs.Bytes.{record_size, registers_bytes, drives_put, fifo_put, gathered_put, flat_put, record_bytes}
use Rattle.pack.specs.Bytes.{is_record, record_in, loaded_of}
use Rattle.pack.specs.Places.{registers_row}

pub record_put : (c : Controller) (l : List ℕ) → record_size ≤ length l
    → flat_put (phase_flat c.phase)
    (gathered_put c.bytes
    (fifo_put c.fifo (drives_put c.drives (sets l registers_row (registers_bytes c.registers)))))
    ≡ record_bytes c ++ drop record_size l
unfolding drives_put fifo_put gathered_put flat_put record_bytes
record_put c l h = sets-eq (record_bytes c) l 0 h

pub record_filled : (c : Controller) (l : List ℕ) → length l ≡ record_size
    → flat_put (phase_flat c.phase)
    (gathered_put c.bytes
    (fifo_put c.fifo (drives_put c.drives (sets l registers_row (registers_bytes c.registers)))))
    ≡ record_bytes c
record_filled c l h =
    let fits : record_size ≤ length l = omega arith in
    let all : length l ≤ record_size = omega arith in
    record_put c l fits ∙ ap (λ t. record_bytes c ++ t) (drop_all record_size l all) ∙ append-nil (record_bytes c)

-- bytes that are a record are enough
pub record_long : (l : List ℕ) → is_record l ≡ true → record_size ≤ length l
unfolding is_record
record_long l h = go (leb record_size (length l)) refl
  where
    go : (t : Bool) → leb record_size (length l) ≡ t → record_size ≤ length l
    go true e = leb-true record_size (length l) e
    go false e = absurd (false≢true (rw e at h))

pub record_loaded : (l : List ℕ) → is_record l ≡ true → loaded_of l ≡ record_in l
unfolding loaded_of
record_loaded l h = rw (le-leb record_size (length l) (record_long l h))
