-- Both images after a command's calls (02 2026-01): its drive's is what its calls leave, the other one is as it was.
-- Assumes nothing.
use Prim.Native.Nat.{ℕ, zero, suc, ◌<◌}
use native.Mathlib.Omega.{arith}
use mathlib.Core.List.{List, [], ◌∷◌}
use mathlib.Core.Path.{◌≡◌, refl, ap, ◌∙◌}
use borrow.Author.Tests.{ne_eqb}
use Rattle.sectors.specs.declared.order.Order.{Order}
use Rattle.fdc.specs.declared.record.Controller.{Controller}
use Rattle.fdc.specs.declared.record.Phase.TheVariants.{Starting}
use Rattle.fdc.specs.Ticks.{image_after}
use Rattle.reached.specs.Runs.{Call, powers, reads, writes, takes, gives, ticks, notes, after, run_calls}
use Rattle.demands.specs.Quiet.{Quiet}
use Rattle.demands.specs.Work.{Its, image_by, image_left}
use Rattle.demands.proofs.OtherLaws.{other_image_quiet}
use Rattle.block.specs.Box.{Box}
use Rattle.block_demands.specs.Asked.{image_of}
use Rattle.block_demands.specs.Made.{box_after}
use Rattle.block_demands.proofs.CourseLaws.{of_two}
use Rattle.block_demands.proofs.MadeLaws.{after_first, after_second}

-- no tick of the command's changes an image of drive k
abbrev Spared : ℕ → Controller → Type 0
Spared k c = (calls : List Call) → Its calls c → (a b img : List ℕ) → image_after k a b (run_calls calls c) img ≡ img

spared_by : (k : ℕ) (call : Call) (c : Controller) (img : List ℕ) → Spared k c → image_by k img call c ≡ img
unfolding Its run_calls
spared_by k (powers x y) c img s = refl
spared_by k (reads x) c img s = refl
spared_by k (writes x y) c img s = refl
spared_by k (takes tc) c img s = refl
spared_by k (gives x tc) c img s = refl
spared_by k (ticks a b) c img s = s [] tt a b img
spared_by k (notes x) c img s = refl

spared_left : (k : ℕ) (calls : List Call) (c : Controller) (img : List ℕ) → Spared k c → Its calls c
    → image_left k img calls c ≡ img
unfolding Its run_calls image_left
spared_left k [] c img s i = refl
spared_left k (call ∷ calls) c img s i =
    ap (λ (l : List ℕ). image_left k l calls (after call c)) (spared_by k call c img s)
    ∙ spared_left k calls (after call c) img (λ more its. s (call ∷ more) (i.0, its)) i.1

-- the other drive's image
other_left : (c : Controller) → Quiet c → (order : Order) → c.phase ≡ Starting order → (calls : List Call)
    → Its calls c → (k : ℕ) → (k ≡ order.drive → ⊥) → (img : List ℕ) → image_left k img calls c ≡ img
other_left c q order e calls its k n img =
    spared_left k calls c img (λ more i a b l. other_image_quiet c q order e more i k n a b l) its

pub own_image : (k : ℕ) → k < 2 → (calls : List Call) (s : Box)
    → image_of k (box_after calls s) ≡ image_left k (image_of k s) calls s.controller
own_image k low calls s =
    of_two (λ j. image_of j (box_after calls s) ≡ image_left j (image_of j s) calls s.controller) k low
    (after_first calls s) (after_second calls s)

-- of a drive above 1, which has none, too
pub other_image : (s : Box) → Quiet s.controller → (order : Order) → s.controller.phase ≡ Starting order
    → (calls : List Call) → Its calls s.controller
    → (k : ℕ) → (k ≡ order.drive → ⊥) → image_of k (box_after calls s) ≡ image_of k s
other_image s q order e calls its zero n =
    after_first calls s ∙ other_left s.controller q order e calls its 0 n s.first
other_image s q order e calls its (suc zero) n =
    after_second calls s ∙ other_left s.controller q order e calls its 1 n s.second
other_image s q order e calls its (suc (suc k)) n =
    rw (ne_eqb (suc (suc k)) 0 (λ e. omega arith), ne_eqb (suc (suc k)) 1 (λ e. omega arith))
