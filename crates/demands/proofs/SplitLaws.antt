-- A call is a tick or not; one that is none may hand the host a byte or not. Where a proof needs no more, this is its
-- one split, so that it does not name the other calls.
-- Assumes nothing.
use Prim.Native.Nat.{ℕ}
use mathlib.Core.List.{List}
use mathlib.Core.Path.{◌≡◌, refl}
use Rattle.fdc.specs.declared.record.Controller.{Controller}
use Rattle.reached.specs.Moves.{Calm, tick_one}
use Rattle.reached.specs.Runs.{Call, powers, reads, writes, takes, gives, ticks, notes}
use Rattle.demands.specs.HandedOver.{Taken, taken_by}
use Rattle.demands.specs.InTime.{AtTick}
use Rattle.demands.specs.Work.{image_by}
use Rattle.demands.proofs.CallRules.{NoTick, MayTake}

pub tick_or_not : (P : Call → Type 0) → ((a b : List ℕ) → P (ticks a b)) → ((call : Call) → NoTick call → P call)
    → (call : Call) → P call
tick_or_not P tick other (powers head0 head1) = other (powers head0 head1) tt
tick_or_not P tick other (reads offset) = other (reads offset) tt
tick_or_not P tick other (writes offset byte) = other (writes offset byte) tt
tick_or_not P tick other (takes tc) = other (takes tc) tt
tick_or_not P tick other (gives byte tc) = other (gives byte tc) tt
tick_or_not P tick other (ticks a b) = tick a b
tick_or_not P tick other (notes drive) = other (notes drive) tt

pub taking_or_not : (P : Call → Type 0) → ((a b : List ℕ) → P (ticks a b))
    → ((call : Call) → NoTick call → MayTake call → P call)
    → ((call : Call) → NoTick call → (MayTake call → ⊥) → P call) → (call : Call) → P call
taking_or_not P tick taking other (powers head0 head1) = other (powers head0 head1) tt (λ m. m)
taking_or_not P tick taking other (reads offset) = taking (reads offset) tt tt
taking_or_not P tick taking other (writes offset byte) = other (writes offset byte) tt (λ m. m)
taking_or_not P tick taking other (takes tc) = taking (takes tc) tt tt
taking_or_not P tick taking other (gives byte tc) = other (gives byte tc) tt (λ m. m)
taking_or_not P tick taking other (ticks a b) = tick a b
taking_or_not P tick taking other (notes drive) = other (notes drive) tt (λ m. m)

-- what is asked at a tick alone, of another call asks nothing
pub at_tick : (P : Controller → Type 0) (call : Call) (c : Controller) → P c → AtTick P call c
at_tick P call c h = tick_or_not (λ x. AtTick P x c) (λ a b. h) (λ x n. asks_nothing x n) call
  where
    asks_nothing : (call : Call) → NoTick call → AtTick P call c
    asks_nothing (powers head0 head1) n = tt
    asks_nothing (reads offset) n = tt
    asks_nothing (writes offset byte) n = tt
    asks_nothing (takes tc) n = tt
    asks_nothing (gives byte tc) n = tt
    asks_nothing (ticks a b) n = absurd n
    asks_nothing (notes drive) n = tt

pub at_tick_map : (P Q : Controller → Type 0) (call : Call) (c : Controller) → (P c → Q c) → AtTick P call c
    → AtTick Q call c
at_tick_map P Q (powers head0 head1) c f p = tt
at_tick_map P Q (reads offset) c f p = tt
at_tick_map P Q (writes offset byte) c f p = tt
at_tick_map P Q (takes tc) c f p = tt
at_tick_map P Q (gives byte tc) c f p = tt
at_tick_map P Q (ticks a b) c f p = f p
at_tick_map P Q (notes drive) c f p = tt

-- only a tick changes an image
pub image_same : (drive : ℕ) (img : List ℕ) (call : Call) (c : Controller) → NoTick call → image_by drive img call c ≡ img
image_same drive img (powers head0 head1) c n = refl
image_same drive img (reads offset) c n = refl
image_same drive img (writes offset byte) c n = refl
image_same drive img (takes tc) c n = refl
image_same drive img (gives byte tc) c n = refl
image_same drive img (ticks a b) c n = absurd n
image_same drive img (notes drive') c n = refl

-- and only a tick is counted
pub no_tick : (call : Call) → NoTick call → tick_one call ≡ 0
no_tick (powers head0 head1) n = refl
no_tick (reads offset) n = refl
no_tick (writes offset byte) n = refl
no_tick (takes tc) n = refl
no_tick (gives byte tc) n = refl
no_tick (ticks a b) n = absurd n
no_tick (notes drive) n = refl

-- a call that may hand the host no byte hands it none
pub none_handed : (call : Call) (c : Controller) (t : Taken) → (MayTake call → ⊥) → taken_by call c t ≡ t
unfolding taken_by
none_handed (powers head0 head1) c t n = refl
none_handed (reads offset) c t n = absurd (n tt)
none_handed (writes offset byte) c t n = refl
none_handed (takes tc) c t n = absurd (n tt)
none_handed (gives byte tc) c t n = refl
none_handed (ticks a b) c t n = refl
none_handed (notes drive) c t n = refl

-- and one that may is neither a power-on nor a reset
pub may_calm : (call : Call) → MayTake call → Calm call
may_calm (powers head0 head1) m = absurd m
may_calm (reads offset) m = tt
may_calm (writes offset byte) m = absurd m
may_calm (takes tc) m = tt
may_calm (gives byte tc) m = absurd m
may_calm (ticks a b) m = absurd m
may_calm (notes drive) m = absurd m
