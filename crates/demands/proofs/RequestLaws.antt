-- The request and what the FIFO then holds (01 FIFO and request): to the host a request that is off means room, from
-- the host a byte or TC.
-- Assumes nothing.
use Prim.Native.Nat.{ℕ, zero, suc, ◌+◌, ◌-◌, ◌≤◌, ◌<◌}
use native.Mathlib.Omega.{arith}
use mathlib.Core.Bool.{Bool, true, false, ◌&&◌, ◌||◌, not, true≢false, false≢true}
use mathlib.Core.Logic.{◌⊎◌, inl, inr}
use mathlib.Core.Path.{◌≡◌, refl, sym, ◌∙◌}
use lib.Dec.{eqb, leb, ltb}
use borrow.Author.Tests.{ltb-false, leb-true, leb-false, lt-leb, eqb-true, eq-eqb, not-false}
use Rattle.image.proofs.TestLaws.{by_test, both}
use Rattle.chip.specs.declared.fifo.Fifo.{Fifo}
use Rattle.chip.specs.Fifo.{capacity_of, read_level, write_level, full_of, emptied, opened_of, taken_of, given_of, filled_of, drawn_of}

pub or_off : (a b : Bool) → (a || b) ≡ false → (a ≡ false) × (b ≡ false)
or_off true b e = absurd (true≢false e)
or_off false b e = (refl, e)

-- a test off: not both on
and_off : (a b : Bool) → (a && b) ≡ false → (a ≡ false) ⊎ (b ≡ false)
and_off true b e = inr e
and_off false b e = inl refl

pos_or_none : (n : ℕ) → (n ≡ 0) ⊎ (0 < n)
pos_or_none zero = inl refl
pos_or_none (suc n) = inr (omega arith)

-- Next's test of TC: it came, and nothing is held
module _ (tc : Bool) (count : ℕ) where
  pub test_on : (tc && eqb count 0) ≡ true → (tc ≡ true) × (count ≡ 0)
  test_on e = let (t, z) = both tc (eqb count 0) e in (t, eqb-true count 0 z)

  pub test_off : (tc && eqb count 0) ≡ false → tc ≡ true → 0 < count
  test_off e t = go (pos_or_none count)
    where
      go : (count ≡ 0) ⊎ (0 < count) → 0 < count
      go (inl z) = absurd (false≢true (sym e ∙ rw (t, eq-eqb count 0 z)))
      go (inr l) = l

-- To the host.

pub record ReadServed (efifo : Bool) (fifothr : ℕ) (f : Fifo) : Type 0 where
  pub low : f.asks ≡ false → f.count < read_level efifo fifothr
  pub told : f.tc ≡ true → f.count ≡ 0

level_above : (efifo : Bool) (fifothr : ℕ) → 0 < read_level efifo fifothr
level_above true fifothr = omega arith
level_above false fifothr = omega arith

level_room : (efifo : Bool) (fifothr : ℕ) → read_level efifo fifothr ≤ capacity_of efifo
level_room true fifothr = omega arith
level_room false fifothr = omega arith

-- off, it is not full
pub off_room : (efifo : Bool) (fifothr : ℕ) (f : Fifo) → ReadServed efifo fifothr f → f.asks ≡ false
    → full_of efifo f ≡ false
off_room efifo fifothr f s a = lt-leb (capacity_of efifo) f.count (omega (arith, s.low a, level_room efifo fifothr))

pub read_empty : (efifo : Bool) (fifothr : ℕ) → ReadServed efifo fifothr emptied
read_empty efifo fifothr = record { low = λ a. level_above efifo fifothr; told = λ t. refl }

-- off when empty; TC empties
pub read_taken : (efifo : Bool) (fifothr : ℕ) (tc : Bool) (f : Fifo) → ReadServed efifo fifothr f
    → ReadServed efifo fifothr (taken_of tc f)
unfolding taken_of
read_taken efifo fifothr true f s = record { low = λ a. level_above efifo fifothr; told = λ t. refl }
read_taken efifo fifothr false f s =
    record {
      low = λ a. go (and_off f.asks (ltb 0 (f.count - 1)) a);
      told = λ t. omega (arith, s.told t);
    }
  where
    go : (f.asks ≡ false) ⊎ (ltb 0 (f.count - 1) ≡ false) → f.count - 1 < read_level efifo fifothr
    go (inl a) = omega (arith, s.low a)
    go (inr l) = omega (arith, ltb-false 0 (f.count - 1) l, level_above efifo fifothr)

-- with the sector's last byte in, off means empty
abbrev pub OffEmpty : Fifo → Type 0
OffEmpty f = f.asks ≡ false → f.count ≡ 0

pub off_empty_taken : (tc : Bool) (f : Fifo) → OffEmpty f → OffEmpty (taken_of tc f)
unfolding taken_of
off_empty_taken true f o = λ a. refl
off_empty_taken false f o = λ a. go (and_off f.asks (ltb 0 (f.count - 1)) a)
  where
    go : (f.asks ≡ false) ⊎ (ltb 0 (f.count - 1) ≡ false) → f.count - 1 ≡ 0
    go (inl a) = omega (arith, o a)
    go (inr l) = omega (arith, ltb-false 0 (f.count - 1) l)

module _ (efifo : Bool) (fifothr byte : ℕ) (f : Fifo) (s : ReadServed efifo fifothr f)
    (room : f.tc ≡ false → full_of efifo f ≡ false) where
  pub read_filled : (last : Bool) → ReadServed efifo fifothr (filled_of efifo fifothr last byte f)
  unfolding filled_of
  read_filled last =
      by_test (f.tc || full_of efifo f) (ReadServed efifo fifothr) _ _ (λ t. s)
      (λ t. record {
        low = λ a.
            leb-false (read_level efifo fifothr) (f.count + 1)
            (or_off (f.asks || last) (leb (read_level efifo fifothr) (f.count + 1)) a).1;
        told = λ u. absurd (true≢false (sym u ∙ (or_off f.tc (full_of efifo f) t).0));
      })

  on : (a b : Bool) → (a || true || b) ≡ true
  on true b = refl
  on false b = refl

  pub last_filled : OffEmpty (filled_of efifo fifothr true byte f)
  unfolding filled_of
  last_filled =
      by_test (f.tc || full_of efifo f) OffEmpty _ _ (λ t a. go f.tc refl t)
      (λ t a. absurd (true≢false (sym (on f.asks (leb (read_level efifo fifothr) (f.count + 1))) ∙ a)))
    where
      go : (x : Bool) → f.tc ≡ x → (f.tc || full_of efifo f) ≡ true → f.count ≡ 0
      go true x t = s.told x
      go false x t = absurd (false≢true (sym (room x) ∙ (rw x at t)))

-- From the host.

pub record WriteServed (f : Fifo) : Type 0 where
  pub some : f.asks ≡ false → (0 < f.count) ⊎ (f.tc ≡ true)

-- with no sector begun: after TC a byte is held
abbrev pub ToldSome : Fifo → Type 0
ToldSome f = f.tc ≡ true → 0 < f.count

pub write_opened : WriteServed (opened_of emptied)
unfolding opened_of
write_opened = record { some = λ a. absurd (true≢false a) }

pub told_opened : ToldSome (opened_of emptied)
unfolding opened_of
told_opened = λ t. absurd (false≢true t)

pub write_given : (efifo tc : Bool) (byte : ℕ) (f : Fifo) → WriteServed f → WriteServed (given_of efifo tc byte f)
unfolding given_of
write_given efifo tc byte f s =
    by_test (full_of efifo f) WriteServed _ _
    (λ t. record { some = λ a. inl (omega (arith, leb-true (capacity_of efifo) f.count t, capacity_some efifo)) })
    (λ t. record { some = λ a. inl (omega arith) })
  where
    capacity_some : (e : Bool) → 0 < capacity_of e
    capacity_some true = omega arith
    capacity_some false = omega arith

pub told_given : (efifo tc : Bool) (byte : ℕ) (f : Fifo) → ToldSome f → ToldSome (given_of efifo tc byte f)
unfolding given_of
told_given efifo tc byte f s = by_test (full_of efifo f) ToldSome _ _ (λ t. s) (λ t u. omega arith)

pub write_drawn : (efifo : Bool) (fifothr : ℕ) (f : Fifo) → WriteServed (drawn_of efifo fifothr f)
unfolding drawn_of
write_drawn efifo fifothr f = record { some = λ a. go (and_off (not f.tc) _ a) }
  where
    room : (e : Bool) → 0 < capacity_of e
    room true = omega arith
    room false = omega arith

    high : (leb (f.count - 1) (write_level efifo fifothr) ≡ false) ⊎ (ltb (f.count - 1) (capacity_of efifo) ≡ false)
        → 0 < f.count - 1
    high (inl l) = omega (arith, leb-false (f.count - 1) (write_level efifo fifothr) l)
    high (inr l) = omega (arith, ltb-false (f.count - 1) (capacity_of efifo) l, room efifo)

    go : (not f.tc ≡ false)
        ⊎ ((f.asks || leb (f.count - 1) (write_level efifo fifothr) && ltb (f.count - 1) (capacity_of efifo)) ≡ false)
        → (0 < f.count - 1) ⊎ (f.tc ≡ true)
    go (inl t) = inr (not-false f.tc t)
    go (inr o) = inl (high (and_off _ _ (or_off f.asks _ o).1))
