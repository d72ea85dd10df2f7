-- Laws of answers put together (02 2026-04): the first fault stays.
-- Assumes nothing.
use Prim.Native.Nat.{ℕ, zero, suc, ◌+◌, ◌<◌, ◌≤◌}
use native.Mathlib.Omega.{arith}
use native.Mathlib.Numerals.{add-one}
use mathlib.Core.Bool.{Bool, true, false, true≢false, false≢true}
use mathlib.Core.Path.{◌≡◌, refl, sym, ◌∙◌}
use mathlib.Core.Logic.{◌⊎◌, inl, inr}
use Rattle.image.proofs.TestLaws.{le_or_lt}
use Rattle.judging.specs.declared.fault.Kind.{Kind}
use Rattle.judging.specs.declared.fault.Fault.{Fault}
use Rattle.std.specs.Prelude.{Ok, Err}
use Rattle.judging.specs.Verdict.{Verdict, is_fault, unless, or_else, first_of}

-- no fault is sound
pub left_sound : (v : Verdict) → is_fault v ≡ false → v ≡ Ok tt
left_sound (Ok _) h = refl
left_sound (Err f) h = absurd (true≢false h)

-- what is behind a fault does not count
pub fault_stays : (v w : Verdict) → is_fault v ≡ true → or_else v w ≡ v
fault_stays (Ok _) w h = absurd (false≢true h)
fault_stays (Err f) w h = refl

pub first_none : (f : ℕ → Verdict) → first_of f 0 ≡ Ok tt
unfolding first_of
first_none f = refl

-- one more that is sound
pub first_more : (f : ℕ → Verdict) (n : ℕ) → first_of f n ≡ Ok tt → f n ≡ Ok tt → first_of f (n + 1) ≡ Ok tt
unfolding first_of
first_more f n h k = rw (add-one n) (rw (h, k) refl)

-- a fault found with all sound before it is the answer of any longer run
pub first_found :
    (f : ℕ → Verdict) (i n : ℕ) → i < n → first_of f i ≡ Ok tt → is_fault (f i) ≡ true → f i ≡ first_of f n
unfolding first_of
first_found f i zero l h t = absurd (omega arith)
first_found f i (suc n) l h t = go (le_or_lt n i) (λ a. first_found f i n a h t)
  where
    go : (n ≤ i) ⊎ (i < n) → (i < n → f i ≡ first_of f n) → f i ≡ or_else (first_of f n) (f n)
    go (inl a) k =
        let e : n ≡ i = omega arith in
        rw (e, h)
    go (inr a) k = rw (← k a) (sym (fault_stays (f i) (f n) t))

pub first_there :
    (f : ℕ → Verdict) (i n : ℕ) (x : Fault) → i < n → first_of f i ≡ Ok tt → f i ≡ Err x → Err x ≡ first_of f n
first_there f i n x l h e = sym e ∙ first_found f i n l h (rw e refl)

pub both_sound : (v w : Verdict) → or_else v w ≡ Ok tt → (v ≡ Ok tt) × (w ≡ Ok tt)
both_sound (Ok _) w h = (refl, h)
both_sound (Err f) w h = let z : ◌≡◌ {A = ℕ} 0 1 = cc in absurd (omega arith)

-- of a run that is sound each is
pub first_all : (f : ℕ → Verdict) (n : ℕ) → first_of f n ≡ Ok tt → (i : ℕ) → i < n → f i ≡ Ok tt
unfolding first_of
first_all f zero e i l = absurd (omega arith)
first_all f (suc n) e i l =
    let (before, last) = both_sound (first_of f n) (f n) e in
    go (le_or_lt n i) last (λ a. first_all f n before i a)
  where
    go : (n ≤ i) ⊎ (i < n) → f n ≡ Ok tt → (i < n → f i ≡ Ok tt) → f i ≡ Ok tt
    go (inl a) s k =
        let q : i ≡ n = omega arith in
        rw q s
    go (inr a) s k = k a

pub right_sound : (b : Bool) (kind : Kind) (at : ℕ) → unless b kind at ≡ Ok tt → b ≡ true
right_sound true kind at h = refl
right_sound false kind at h = let z : ◌≡◌ {A = ℕ} 0 1 = cc in absurd (omega arith)
