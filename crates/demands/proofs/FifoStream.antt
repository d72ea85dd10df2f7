-- The FIFO of a write as a stream (01 FIFO, from host; 01 Write): what it holds are the host's bytes behind those that
-- were stored; once they are all stored and no byte follows, after TC or a late byte, zeros do.
-- Assumes nothing.
use Prim.Native.Nat.{ℕ, suc, ◌+◌, ◌-◌, ◌≤◌, ◌<◌}
use native.Mathlib.Omega.{arith}
use native.Mathlib.Numerals.{add-one}
use mathlib.Core.Bool.{Bool, true, false, ◌&&◌, ◌||◌, not, true≢false, false≢true}
use mathlib.Core.List.{List, [], ◌∷◌, ◌++◌}
use mathlib.Core.Path.{◌≡◌, refl, sym, ap, ◌∙◌}
use lib.Dec.{leb, ltb}
use lib.ListN.{length, get_or, take, drop, length-append, length-drop, get_or-eq_default}
use lib.Seq.{drop-append-le, drop-cons, drop-nil, length-take-le}
use borrow.Author.Tests.{ltb-true, leb-false, lt-leb}
use Rattle.image.proofs.TestLaws.{both}
use Rattle.chip.specs.declared.fifo.Fifo.{Fifo}
use Rattle.chip.specs.Fifo.{capacity_of, write_level, full_of, held, front_of, emptied, opened_of, given_of, drawn_of, shut, FitsFifo}
use Rattle.chip.proofs.FifoLaws.{given_held, drawn_held}

-- 01 FIFO, from host: a request is on only before TC and below capacity
pub record Open (efifo : Bool) (f : Fifo) : Type 0 where
  pub before_tc : f.asks ≡ true → f.tc ≡ false
  pub room : f.asks ≡ true → full_of efifo f ≡ false

-- after k stored bytes: the FIFO holds the rest of the host's, or TC came and nothing is left
pub data Stream (host rest : List ℕ) (k : ℕ) (tc : Bool) : Type 0 where
  flows : k ≤ length host → rest ≡ drop k host → Stream host rest k tc
  dried : tc ≡ true → rest ≡ [] → length host ≤ k → Stream host rest k tc

-- The request.

below_full : (efifo : Bool) (n m : ℕ) → n ≤ m → leb (capacity_of efifo) m ≡ false → leb (capacity_of efifo) n ≡ false
below_full efifo n m h e = lt-leb (capacity_of efifo) n (omega (arith, leb-false (capacity_of efifo) m e))

room_empty : (efifo : Bool) → leb (capacity_of efifo) 0 ≡ false
room_empty true = refl
room_empty false = refl

pub open_opened : (efifo : Bool) → Open efifo (opened_of emptied)
unfolding opened_of
open_opened efifo = record { before_tc = λ a. refl; room = λ a. room_empty efifo }

pub open_shut : (efifo : Bool) → Open efifo shut
open_shut efifo = record { before_tc = λ a. absurd (false≢true a); room = λ a. absurd (false≢true a) }

not_both : (a b : Bool) → (not a && b) ≡ true → a ≡ false
not_both true b e = absurd (false≢true e)
not_both false b e = refl

neither : (a b : Bool) → a ≡ false → b ≡ false → (a || b) ≡ false
neither a b p q = rw (p, q)

not_off : (a : Bool) → not a ≡ true → a ≡ false
not_off true e = absurd (false≢true e)
not_off false e = refl

pub open_given : (efifo tc : Bool) (byte : ℕ) (f : Fifo) → f.asks ≡ true → Open efifo f
    → Open efifo (given_of efifo tc byte f)
unfolding given_of
open_given efifo tc byte f a o =
    rw (o.room a) (record {
      before_tc = λ t.
          let (first, second) = both (f.asks && not tc) _ t in
          neither f.tc tc (o.before_tc a) (not_off tc (both f.asks (not tc) first).1);
      room = λ t.
          let (first, second) = both (f.asks && not tc) (ltb (f.count + 1) (capacity_of efifo)) t in
          lt-leb (capacity_of efifo) (f.count + 1) (ltb-true _ _ second);
    })

pub open_drawn : (efifo : Bool) (fifothr : ℕ) (f : Fifo) → Open efifo f → Open efifo (drawn_of efifo fifothr f)
unfolding drawn_of
open_drawn efifo fifothr f o = record {
  before_tc = λ t. not_both f.tc _ t;
  room = λ t. go f.asks refl (both (not f.tc) _ t).1;
}
  where
    go : (a : Bool) → f.asks ≡ a
        → (a || leb (f.count - 1) (write_level efifo fifothr) && ltb (f.count - 1) (capacity_of efifo)) ≡ true
        → leb (capacity_of efifo) (f.count - 1) ≡ false
    go true e t = below_full efifo (f.count - 1) f.count (omega arith) (o.room e)
    go false e t = lt-leb (capacity_of efifo) (f.count - 1) (ltb-true _ _ (both (leb (f.count - 1)
        (write_level efifo fifothr)) _ t).1)

-- The stream.

pub stream_fresh : (k : ℕ) (tc : Bool) → k ≡ 0 → Stream [] [] k tc
stream_fresh k tc z = flows (omega arith) (sym (drop-nil k))

-- a byte from the host goes behind what is held
pub stream_given : (host rest : List ℕ) (k byte : ℕ) (tc tc' : Bool) → tc ≡ false → Stream host rest k tc
    → Stream (host ++ (byte ∷ [])) (rest ++ (byte ∷ [])) k tc'
stream_given host rest k byte tc tc' off (flows h e) =
    flows (rw length-append (omega arith)) (ap (λ (l : List ℕ). l ++ (byte ∷ [])) e
    ∙ sym (drop-append-le k host (byte ∷ []) h))
stream_given host rest k byte tc tc' off (dried t e h) = absurd (true≢false (sym t ∙ off))

-- before TC no more is stored than the host gave
pub stream_within : (host rest : List ℕ) (k : ℕ) (tc : Bool) → tc ≡ false → Stream host rest k tc → k ≤ length host
stream_within host rest k tc off (flows h e) = h
stream_within host rest k tc off (dried t e h) = absurd (true≢false (sym t ∙ off))

-- what is stored past the host's bytes is stored when no byte follows
pub stream_shut : (host rest : List ℕ) (k : ℕ) (tc : Bool) → Stream host rest k tc → length host < k → tc ≡ true
stream_shut host rest k tc (flows h e) l = absurd (omega arith)
stream_shut host rest k tc (dried t e h) l = t

cons_length : (host rest : List ℕ) (k byte : ℕ) → byte ∷ rest ≡ drop k host → k < length host
cons_length host rest k byte e =
    let n : suc (length rest) ≡ length host - k = ap length e ∙ length-drop k host in
    omega arith

-- the front byte is the host's byte k, and one more is stored
pub stream_front : (host rest : List ℕ) (k byte : ℕ) (tc : Bool) → Stream host (byte ∷ rest) k tc
    → (byte ≡ get_or host k 0) × Stream host rest (k + 1) tc
stream_front host rest k byte tc (flows h e) =
    let l : k < length host = cons_length host rest k byte e in
    let m : byte ∷ rest ≡ get_or host k 0 ∷ drop (suc k) host = e ∙ drop-cons host k 0 l in
    let f : byte ≡ get_or host k 0 = cc in
    let r : rest ≡ drop (suc k) host = cc in
    (f, flows (omega arith) (rw add-one r))
stream_front host rest k byte tc (dried t e h) = let z : ◌≡◌ {A = ℕ} 0 1 = cc in absurd (omega arith)

-- with nothing held after TC, the host's byte k is none: a zero
pub stream_dry : (host rest : List ℕ) (k : ℕ) (tc : Bool) → rest ≡ [] → tc ≡ true → Stream host rest k tc
    → (get_or host k 0 ≡ 0) × Stream host rest (k + 1) tc
stream_dry host rest k tc n t (flows h e) =
    let m : length host - k ≡ 0 = sym (length-drop k host) ∙ ap length (sym e ∙ n) in
    (get_or-eq_default host 0 (omega arith), dried t n (omega arith))
stream_dry host rest k tc n t (dried t' e h) = (get_or-eq_default host 0 h, dried t n (omega arith))

-- Over the FIFO itself.

capacity_most : (b : Bool) → capacity_of b ≤ 16
capacity_most true = omega arith
capacity_most false = omega arith

module _ (efifo : Bool) (f : Fifo) (fits : FitsFifo efifo f) (host : List ℕ) (k : ℕ) where
  within : f.count ≤ length f.bytes
  within = omega (arith, fits.sixteen, fits.within, capacity_most efifo)

  held_count : length (held f) ≡ f.count
  held_count = length-take-le f.count f.bytes within

  -- a byte is held: the host gave more than is stored
  pub held_more : 0 < f.count → Stream host (held f) k f.tc → k < length host
  held_more p (flows h e) =
      let n : f.count ≡ length host - k = sym held_count ∙ ap length e ∙ length-drop k host in
      omega arith
  held_more p (dried t e h) =
      let n : f.count ≡ 0 = sym held_count ∙ ap length e in
      absurd (omega arith)

  -- none is held: all that the host gave is stored
  pub held_none : f.count ≡ 0 → Stream host (held f) k f.tc → length host ≤ k
  held_none z (flows h e) =
      let n : f.count ≡ length host - k = sym held_count ∙ ap length e ∙ length-drop k host in
      omega arith
  held_none z (dried t e h) = h

  pub held_given : (tc : Bool) (byte : ℕ) → f.asks ≡ true → Open efifo f → Stream host (held f) k f.tc
      → Stream (host ++ (byte ∷ [])) (held (given_of efifo tc byte f)) k (given_of efifo tc byte f).tc
  held_given tc byte a o s =
      rw (given_held efifo tc byte f (o.room a) fits.sixteen)
      (stream_given host (held f) k byte f.tc _ (o.before_tc a) s)

  pub held_drawn : (fifothr : ℕ) → 0 < f.count → Stream host (held f) k f.tc
      → (front_of f ≡ get_or host k 0) × Stream host (held (drawn_of efifo fifothr f)) (k + 1) f.tc
  held_drawn fifothr p s =
      stream_front host (held (drawn_of efifo fifothr f)) k (front_of f) f.tc
      (rw (drawn_held efifo fifothr f p within) at s)

  pub held_dry : f.count ≡ 0 → f.tc ≡ true → Stream host (held f) k f.tc
      → (get_or host k 0 ≡ 0) × Stream host (held f) (k + 1) f.tc
  held_dry z t s = stream_dry host (held f) k f.tc (ap (λ (n : ℕ). take n f.bytes) z) t s
