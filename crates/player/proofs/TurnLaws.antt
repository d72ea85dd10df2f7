-- Ticks one after the other, and that no tick changes an image's length.
-- Assumes nothing.
use Prim.Native.Nat.{ℕ, zero, suc, ◌+◌, ◌-◌, ◌≤◌, ◌<◌}
use native.Mathlib.Omega.{arith}
use mathlib.Core.List.{List}
use mathlib.Core.Path.{◌≡◌, refl, ◌∙◌}
use lib.Dec.{eqb}
use lib.ListN.{length}
use Rattle.image.specs.Lent.{stored_in}
use Rattle.image.proofs.StoreLaws.{effect_length}
use Rattle.image.proofs.TestLaws.{by_test}
use Rattle.fdc.specs.Answer.{answer_of}
use Rattle.fdc.specs.Ticks.{tick_of, image_after, ruled_of}
use Rattle.fdc.specs.declared.answer.Answer.{Answer}
use Rattle.fdc.specs.declared.answer.Reply.TheVariants.{Done}
use Rattle.fdc.specs.declared.record.Controller.{Controller}
use Rattle.player.specs.Turn.{Turn, still, turn_ticked, turn_ticks_from, turn_ticks}

-- 01 Calls: a tick changes bytes, no length
pub image_length : (k : ℕ) (a b : List ℕ) (c : Controller) (img : List ℕ) → length (image_after k a b c img) ≡ length img
unfolding image_after
image_length k a b c img =
    by_test (eqb (ruled_of a b c).drive k) (λ (l : List ℕ). length l ≡ length img)
    (stored_in (ruled_of a b c).effect img)
    img
    (λ e. effect_length (ruled_of a b c).effect img)
    (λ e. refl)

one_more : (left : ℕ) (r next : Answer) (a b x y : List ℕ)
    → 0 < left
    → next ≡ tick_of a b r.controller
    → x ≡ image_after 0 a b r.controller a
    → y ≡ image_after 1 a b r.controller b
    → turn_ticks_from (left - 1) (still next x y) ≡ turn_ticks_from left (still r a b)
unfolding turn_ticked turn_ticks_from
one_more zero r next a b x y h p q s = absurd (omega arith)
one_more (suc n) r next a b x y h p q s = let e : suc n - 1 ≡ n = omega arith in rw (e, p, q, s)

-- the tick behind i of n is made
pub one_of : (n i : ℕ) (r next : Answer) (a b x y : List ℕ)
    → i < n
    → next ≡ tick_of a b r.controller
    → x ≡ image_after 0 a b r.controller a
    → y ≡ image_after 1 a b r.controller b
    → turn_ticks_from (n - (i + 1)) (still next x y) ≡ turn_ticks_from (n - i) (still r a b)
one_of n i r next a b x y h p q s =
    let e : n - (i + 1) ≡ n - i - 1 = omega arith in
    rw e (one_more (n - i) r next a b x y (omega arith) p q s)

-- none is left
pub none_left : (n i : ℕ) (t : Turn) (r : Answer) (a b : List ℕ) (c : Controller)
    → n ≤ i
    → turn_ticks_from (n - i) t ≡ turn_ticks_from n (still r a b)
    → r ≡ answer_of Done c
    → t ≡ turn_ticks n a b c
unfolding turn_ticks_from
none_left n i t r a b c h e p = none (n - i) (omega arith) e ∙ rw p
  where
    none : (left : ℕ) → left ≤ 0 → turn_ticks_from left t ≡ turn_ticks_from n (still r a b) → t ≡ turn_ticks_from n (still r a b)
    none zero h e = e
    none (suc k) h e = absurd (omega arith)
