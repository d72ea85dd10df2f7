-- Ticks until INT (02 2026-01).
-- Assumes nothing.
use Prim.Native.Nat.{ℕ, suc, ◌+◌, ◌-◌, ◌≤◌, ◌<◌}
use native.Mathlib.Omega.{arith}
use mathlib.Core.Bool.{true, false}
use mathlib.Core.List.{List}
use mathlib.Core.Path.{◌≡◌, ap, ◌∙◌}
use Rattle.fdc.specs.declared.answer.Answer.{Answer}
use Rattle.fdc.specs.declared.record.Controller.{Controller}
use Rattle.fdc.specs.Ticks.{tick_of, image_after}
use Rattle.block.specs.Box.{Box, box_of, Came, came_with}
use Rattle.block.specs.Head.{wait_of}
use Rattle.block.proofs.BoxLaws.{ticked_box}

module _
    (c : Controller)
    (next : Answer)
    (a b x y : List ℕ)
    (whole : Came)
    (tick : next ≡ tick_of a b c)
    (first : x ≡ image_after 0 a b c a)
    (second : y ≡ image_after 1 a b c b)
    (budget i : ℕ)
    (run : whole ≡ wait_of (budget - i) (box_of c a b))
    (some : i < budget)
  where
    one_less : whole ≡ wait_of (suc (budget - (i + 1))) (box_of c a b)
    one_less =
        let e : budget - i ≡ suc (budget - (i + 1)) = omega arith in
        run ∙ ap (λ (n : ℕ). wait_of n (box_of c a b)) e

    -- no INT: the ticks left are made from there
    pub wait_on : next.int ≡ false → whole ≡ wait_of (budget - (i + 1)) (box_of next.controller x y)
    unfolding wait_of
    wait_on low = rw (ticked_box c next a b x y tick first second, ← tick, low) at one_less

    -- INT
    pub wait_came : next.int ≡ true → whole ≡ came_with true (box_of next.controller x y)
    unfolding wait_of
    wait_came high = rw (ticked_box c next a b x y tick first second, ← tick, high) at one_less

-- none is left
pub wait_over : (budget i : ℕ) (s : Box) (whole : Came) → whole ≡ wait_of (budget - i) s → budget ≤ i
    → whole ≡ came_with false s
unfolding wait_of
wait_over budget i s whole run h =
    let e : budget - i ≡ 0 = omega arith in
    rw e at run
