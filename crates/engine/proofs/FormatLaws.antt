-- Laws of Format (01 Format): its address, and what a slot is laid down with.
-- Assumes nothing.
use Prim.Native.Nat.{ℕ, ◌<◌, ◌≤◌}
use mathlib.Core.Bool.{Bool}
use Rattle.std.specs.Prelude.{Some}
use mathlib.Core.Path.{◌≡◌, refl}
use borrow.Author.Tests.{lt-ltb, le-ltb}
use Rattle.chip.specs.declared.fifo.Fifo.{Fifo}
use Rattle.sectors.specs.declared.order.Plan.{Plan}
use Rattle.engine.specs.Format.{format_id, laid_of}

-- 01 Format: C is the head of drives 0 and 1, and 0 for drives 2 and 3, whatever their heads hold
module _ (plan : Plan) (drive head side done : ℕ) where
  pub format_id_head : drive < 2 → (format_id plan drive head side done).c ≡ head
  format_id_head l = rw (lt-ltb drive 2 l)

  pub format_id_none : 2 ≤ drive → (format_id plan drive head side done).c ≡ 0
  format_id_none l = rw (le-ltb drive 2 l)

-- 01 Format: B times D, and no byte of the host's is asked for
pub laid_fill : (plan : Plan) (fifo : Fifo) (efifo : Bool) (fifothr : ℕ)
    → laid_of plan fifo efifo fifothr ≡ Some (record { byte = plan.fill; fifo = fifo })
laid_fill plan fifo efifo fifothr = refl
