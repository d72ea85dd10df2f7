-- A controller with its two images (02 2026-01): one tick.
-- Assumes nothing.
use Prim.Native.Nat.{ℕ}
use mathlib.Core.List.{List}
use mathlib.Core.Path.{◌≡◌}
use Rattle.fdc.specs.declared.answer.Answer.{Answer}
use Rattle.fdc.specs.declared.record.Controller.{Controller}
use Rattle.fdc.specs.Ticks.{tick_of, image_after}
use Rattle.block.specs.Box.{box_of, ticked}

-- what a tick leaves, by what the call ensures
pub ticked_box : (c : Controller) (next : Answer) (a b x y : List ℕ)
    → next ≡ tick_of a b c
    → x ≡ image_after 0 a b c a
    → y ≡ image_after 1 a b c b
    → ticked (box_of c a b) ≡ box_of next.controller x y
unfolding ticked
ticked_box c next a b x y p q r = rw (p, q, r)
