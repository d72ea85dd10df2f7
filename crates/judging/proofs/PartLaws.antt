-- A part of the file from one byte to another, with the faults that can be in it and the answer for it: the answer is
-- the first of them. Parts that follow one another make a part.
-- Assumes nothing.
use Prim.Native.Nat.{ℕ, zero, suc, ◌+◌, ◌<◌, ◌≤◌}
use native.Mathlib.Omega.{arith}
use mathlib.Core.Bool.{Bool, true, false, true≢false}
use mathlib.Core.Logic.{◌⊎◌, inl, inr}
use mathlib.Core.Path.{◌≡◌, refl, sym, ◌∙◌}
use Rattle.image.proofs.TestLaws.{le_or_lt}
use Rattle.judging.specs.declared.fault.Kind.{Kind}
use Rattle.std.specs.Prelude.{Ok, Err}
use Rattle.judging.specs.Verdict.{Verdict, unless, or_else, first_of}

-- faults of some kinds at some bytes
abbrev pub Faults : Type 1
Faults = Kind → ℕ → Type 0

-- the answer is the first of them, or sound where there is none
abbrev pub Told : Faults → Verdict → Type 0
Told P (Ok _) = (k : Kind) (o : ℕ) → P k o → ⊥
Told P (Err f) = P f.kind f.at × ((k : Kind) (o : ℕ) → P k o → f.at ≤ o)

pub record Part (from below : ℕ) (P : Faults) (v : Verdict) : Type 0 where
  pub starts : (k : Kind) (o : ℕ) → P k o → from ≤ o
  pub stops : (k : Kind) (o : ℕ) → P k o → o < below
  -- one byte has one kind of fault
  pub once : (j k : Kind) (o : ℕ) → P j o → P k o → j ≡ k
  pub told : Told P v

-- the same faults in other words
pub part_said :
    {a b : ℕ} {P : Faults} {v : Verdict} (Q : Faults) → ((k : Kind) (o : ℕ) → P k o → Q k o)
    → ((k : Kind) (o : ℕ) → Q k o → P k o) → Part a b P v → Part a b Q v
part_said {a} {b} {P} {v} Q to back p =
    record {
      starts = λ k o q. p.starts k o (back k o q);
      stops = λ k o q. p.stops k o (back k o q);
      once = λ j k o q r. p.once j k o (back j o q) (back k o r);
      told = go v p.told;
    }
  where
    go : (v : Verdict) → Told P v → Told Q v
    go (Ok _) t = λ k o q. t k o (back k o q)
    go (Err f) (there, first) = (to f.kind f.at there, λ k o q. first k o (back k o q))

-- the same bytes in other words
pub part_at : {a b c d : ℕ} {P : Faults} {v : Verdict} → a ≡ c → b ≡ d → Part a b P v → Part c d P v
part_at e f p = rw (← e, ← f) p

-- no byte
pub part_none : (a : ℕ) (P : Faults) → ((k : Kind) (o : ℕ) → P k o → ⊥) → Part a a P (Ok tt)
part_none a P n =
    record {
      starts = λ k o p. absurd (n k o p);
      stops = λ k o p. absurd (n k o p);
      once = λ j k o p q. absurd (n j o p);
      told = n;
    }

-- one behind the other
pub part_both :
    {a b c : ℕ} {P Q : Faults} {v w : Verdict} → a ≤ b → b ≤ c → Part a b P v → Part b c Q w
    → Part a c (λ k o. P k o ⊎ Q k o) (or_else v w)
part_both {a} {b} {c} {P} {Q} {v} {w} x y p q =
    record { starts = starts; stops = stops; once = once; told = told v w p.told q.told }
  where
    starts : (k : Kind) (o : ℕ) → P k o ⊎ Q k o → a ≤ o
    starts k o (inl u) = p.starts k o u
    starts k o (inr u) = let l = q.starts k o u in omega arith

    stops : (k : Kind) (o : ℕ) → P k o ⊎ Q k o → o < c
    stops k o (inl u) = let l = p.stops k o u in omega arith
    stops k o (inr u) = q.stops k o u

    once : (j k : Kind) (o : ℕ) → P j o ⊎ Q j o → P k o ⊎ Q k o → j ≡ k
    once j k o (inl u) (inl t) = p.once j k o u t
    once j k o (inl u) (inr t) = let l = p.stops j o u in let m = q.starts k o t in absurd (omega arith)
    once j k o (inr u) (inl t) = let l = q.starts j o u in let m = p.stops k o t in absurd (omega arith)
    once j k o (inr u) (inr t) = q.once j k o u t

    told : (v w : Verdict) → Told P v → Told Q w → Told (λ k o. P k o ⊎ Q k o) (or_else v w)
    told (Ok _) (Ok _) s t = λ k o u. none k o u
      where
        none : (k : Kind) (o : ℕ) → P k o ⊎ Q k o → ⊥
        none k o (inl u) = s k o u
        none k o (inr u) = t k o u
    told (Ok _) (Err f) s (there, first) = (inr there, λ k o u. later k o u)
      where
        later : (k : Kind) (o : ℕ) → P k o ⊎ Q k o → f.at ≤ o
        later k o (inl u) = absurd (s k o u)
        later k o (inr u) = first k o u
    told (Err f) w (there, first) t = (inl there, λ k o u. later k o u)
      where
        later : (k : Kind) (o : ℕ) → P k o ⊎ Q k o → f.at ≤ o
        later k o (inl u) = first k o u
        later k o (inr u) =
            let l = p.stops f.kind f.at there in
            let m = q.starts k o u in
            omega arith

-- n of them, one behind the other
pub part_all :
    (at : ℕ → ℕ) (P : ℕ → Faults) (f : ℕ → Verdict) (n : ℕ)
    → ((i : ℕ) → i < n → (at i ≤ at (suc i)) × Part (at i) (at (suc i)) (P i) (f i))
    → (at 0 ≤ at n) × Part (at 0) (at n) (λ k o. (i : ℕ) × (i < n) × P i k o) (first_of f n)
unfolding first_of
part_all at P f zero h = (omega arith, part_none (at 0) _ (λ k o p. omega (arith, p.1)))
part_all at P f (suc n) h =
    let (up, before) = part_all at P f n (λ i l. h i (omega arith)) in
    let (on, last) = h n (omega arith) in (
      omega arith,
      part_said _ to back (part_both up on before last),
    )
  where
    to : (k : Kind) (o : ℕ) → ((i : ℕ) × (i < n) × P i k o) ⊎ P n k o → (i : ℕ) × (i < suc n) × P i k o
    to k o (inl (i, l, p)) = (i, omega arith, p)
    to k o (inr p) = (n, omega arith, p)

    back : (k : Kind) (o : ℕ) → (i : ℕ) × (i < suc n) × P i k o → ((i : ℕ) × (i < n) × P i k o) ⊎ P n k o
    back k o (i, l, p) = go (le_or_lt n i)
      where
        go : (n ≤ i) ⊎ (i < n) → ((i : ℕ) × (i < n) × P i k o) ⊎ P n k o
        go (inl a) =
            let e : i ≡ n = omega arith in
            inr (rw e at p)
        go (inr a) = inl (i, a, p)

-- one byte that has to meet a test
abbrev pub Wrong : Bool → Kind → ℕ → Faults
Wrong right kind at k o = (k ≡ kind) × (o ≡ at) × (right ≡ false)

pub part_byte : (right : Bool) (kind : Kind) (at : ℕ) → Part at (at + 1) (Wrong right kind at) (unless right kind at)
part_byte right kind at =
    record {
      starts = λ k o p. omega (arith, p.1);
      stops = λ k o p. omega (arith, p.1);
      once = λ j k o p q. p.0 ∙ sym q.0;
      told = go right;
    }
  where
    go : (right : Bool) → Told (Wrong right kind at) (unless right kind at)
    go true = λ k o p. true≢false p.2
    go false = ((refl, refl, refl), λ k o p. omega (arith, p.1))
