-- Laws of the FIFO (01 FIFO): it is first in, first out; its count never passes its capacity; its request is a latch.
-- Assumes nothing.
use mathlib.Core.Path.{◌≡◌, refl, sym, ap, ◌∙◌}
use mathlib.Core.Bool.{Bool, true, false, ◌||◌, or-true, and-false}
use mathlib.Core.List.{List, [], ◌∷◌, ◌++◌}
use Prim.Native.Nat.{ℕ, zero, suc, ◌+◌, ◌-◌, ◌≤◌, ◌<◌}
use native.Mathlib.Omega.{arith}
use native.Mathlib.Numerals.{add-one}
use borrow.Author.Tests.{eq-eqb, ne_eqb, eqb-true, leb-false, le-leb, lt-leb, lt-ltb, le-ltb}
use lib.Dec.{eqb, leb}
use lib.ListN.{length, get_or, set, take, drop, replicate}
use lib.ListN.{length-set, length-append, length-drop, take-append-drop, replicate-append-replicate}
use lib.Seq.{length-take-le, take-suc-set, take-append-le, drop-append-le, drop-set-lt, drop-drop}
use Rattle.chip.specs.declared.fifo.Fifo.{Fifo}
use Rattle.chip.specs.Fifo.{capacity_of, read_level, write_level, full_of, held, front_of, handed_of, emptied, flagged, shut, FitsFifo, TcOver}
use Rattle.chip.specs.Fifo.{pushed_of, popped_of, filled_of, taken_of, opened_of, given_of, drawn_of}
use Rattle.image.proofs.TestLaws.{by_test, or_right}

-- a FIFO that is not full has a place left among the sixteen
pub room_left : (efifo : Bool) (n : ℕ) → leb (capacity_of efifo) n ≡ false → n < 16
room_left true n e = omega (arith, leb-false 1 n e)
room_left false n e = leb-false 16 n e

-- First in, first out.

pushed_held : (byte : ℕ) (f : Fifo) → f.count < length f.bytes → held (pushed_of byte f) ≡ held f ++ (byte ∷ [])
pushed_held byte f h = rw add-one (take-suc-set f.bytes f.count byte h)

take_front : (l : List ℕ) (n : ℕ) → n < length l → take (suc n) l ≡ get_or l 0 0 ∷ take n (drop 1 l)
take_front [] n h = absurd (omega arith)
take_front (x ∷ l) n h = refl

popped_held : (f : Fifo) → 0 < f.count → f.count ≤ length f.bytes → held f ≡ front_of f ∷ held (popped_of f)
popped_held f p h =
    let e : f.count ≡ suc (f.count - 1) = omega arith in
    let left : f.count - 1 ≤ length (drop 1 f.bytes) = omega (arith, length-drop 1 f.bytes) in
    ap (λ (n : ℕ). take n f.bytes) e
    ∙ take_front f.bytes (f.count - 1) (omega arith)
    ∙ ap (λ (l : List ℕ). front_of f ∷ l) (sym (take-append-le (f.count - 1) (drop 1 f.bytes) (0 ∷ []) left))

-- what the host takes, or the disk draws, is the oldest byte held
pub taken_held : (f : Fifo) → 0 < f.count → f.count ≤ length f.bytes → held f ≡ front_of f ∷ held (taken_of false f)
unfolding taken_of
taken_held f p h = popped_held f p h

pub drawn_held : (efifo : Bool) (fifothr : ℕ) (f : Fifo)
    → 0 < f.count → f.count ≤ length f.bytes → held f ≡ front_of f ∷ held (drawn_of efifo fifothr f)
unfolding drawn_of
drawn_held efifo fifothr f p h = popped_held f p h

-- A byte to the host, where TC has not come and there is room.
module _ (efifo : Bool) (fifothr : ℕ) (last : Bool) (byte : ℕ) (f : Fifo)
    (going : f.tc ≡ false) (room : full_of efifo f ≡ false) where
  pub filled_held : length f.bytes ≡ 16 → held (filled_of efifo fifothr last byte f) ≡ held f ++ (byte ∷ [])
  unfolding filled_of
  filled_held n = simp (going, room) (pushed_held byte f (omega (arith, room_left efifo f.count room)))

  -- 01 FIFO: the request goes on at its level, or with a sector's last byte, and not before
  pub filled_asks_at_level : read_level efifo fifothr ≤ f.count + 1 → (filled_of efifo fifothr last byte f).asks ≡ true
  unfolding filled_of
  filled_asks_at_level h = simp (going, room, le-leb _ _ h, or-true)

  pub filled_asks_at_last : last ≡ true → (filled_of efifo fifothr last byte f).asks ≡ true
  unfolding filled_of
  filled_asks_at_last e = simp (going, room, e, or-true)

  pub filled_quiet_below : f.asks ≡ false → last ≡ false → f.count + 1 < read_level efifo fifothr
      → (filled_of efifo fifothr last byte f).asks ≡ false
  unfolding filled_of
  filled_quiet_below off e h = simp (going, room, off, e, lt-leb _ _ h)

-- 01 FIFO: to the host the request, once on, stays on until the FIFO is empty
pub filled_asks_stays : (efifo : Bool) (fifothr : ℕ) (last : Bool) (byte : ℕ) (f : Fifo)
    → f.asks ≡ true → (filled_of efifo fifothr last byte f).asks ≡ true
unfolding filled_of
filled_asks_stays efifo fifothr last byte f on =
    by_test (f.tc || full_of efifo f) (λ (g : Fifo). g.asks ≡ true) _ _ (λ t. on) (λ t. simp on)

pub taken_asks_stays : (f : Fifo) → f.asks ≡ true → 1 < f.count → (taken_of false f).asks ≡ true
unfolding taken_of
taken_asks_stays f on h = simp (on, lt-ltb 0 (f.count - 1) (omega arith))

pub taken_empty_quiet : (tc : Bool) (f : Fifo) → f.count ≤ 1 → (taken_of tc f).asks ≡ false
unfolding taken_of
taken_empty_quiet true f h = refl
taken_empty_quiet false f h = simp (le-ltb 0 (f.count - 1) (omega arith), and-false)

pub emptied_quiet : emptied.asks ≡ false
emptied_quiet = refl

-- 01 FIFO: from the host the request goes on once the first tests pass
pub opened_asks : (f : Fifo) → (opened_of f).asks ≡ true
unfolding opened_of
opened_asks f = refl

-- A byte from the host, where there is room.
module _ (efifo tc : Bool) (byte : ℕ) (f : Fifo) (room : full_of efifo f ≡ false) where
  pub given_held : length f.bytes ≡ 16 → held (given_of efifo tc byte f) ≡ held f ++ (byte ∷ [])
  unfolding given_of
  given_held n = simp room (pushed_held byte f (omega (arith, room_left efifo f.count room)))

  -- 01 FIFO: off when full
  pub given_full_quiet : capacity_of efifo ≤ f.count + 1 → (given_of efifo tc byte f).asks ≡ false
  unfolding given_of
  given_full_quiet h = simp (room, le-ltb _ _ h, and-false)

  pub given_asks_stays : f.asks ≡ true → tc ≡ false → f.count + 1 < capacity_of efifo
      → (given_of efifo tc byte f).asks ≡ true
  unfolding given_of
  given_asks_stays on e h = simp (room, on, e, lt-ltb _ _ h)

  -- 01 FIFO: after TC off for good; that it stays so is `over-..`
  pub given_tc_over : tc ≡ true → TcOver (given_of efifo tc byte f)
  unfolding given_of
  given_tc_over e = record { tc = simp (room, e, or-true); quiet = simp (room, e, and-false) }

-- 01 FIFO, D-32: a full FIFO keeps what it holds, whatever comes with it, and its request is off
pub given_full_drops : (efifo tc : Bool) (byte : ℕ) (f : Fifo) → full_of efifo f ≡ true
    → given_of efifo tc byte f ≡ flagged false f.tc f
unfolding given_of
given_full_drops efifo tc byte f t = rw t

-- D-33: the host is handed 0 where none is held, else the oldest byte
pub handed_empty : (f : Fifo) → f.count ≡ 0 → handed_of f ≡ 0
handed_empty f e = rw (eq-eqb f.count 0 e)

pub handed_some : (f : Fifo) → 0 < f.count → handed_of f ≡ front_of f
handed_some f l = rw (ne_eqb f.count 0 (λ e. omega arith))

-- in every FIFO reached from an empty one that is the first of the array, since past the count stand zeros
pub handed_fits : (efifo : Bool) (f : Fifo) → FitsFifo efifo f → handed_of f ≡ front_of f
handed_fits efifo f p =
    by_test (eqb f.count 0) (λ (x : ℕ). x ≡ front_of f) _ _
    (λ t. let z = eqb-true f.count 0 t in
    let b : f.bytes ≡ replicate 16 0 = rw z at p.past in
    sym (ap (λ (l : List ℕ). get_or l 0 0) b))
    (λ t. refl)

-- A byte drawn from what the host gave, TC not come.
module _ (efifo : Bool) (fifothr : ℕ) (f : Fifo) (going : f.tc ≡ false) where
  -- 01 FIFO: on again at T or fewer bytes left while below capacity, and not before
  pub drawn_asks_again : f.count - 1 ≤ write_level efifo fifothr → f.count - 1 < capacity_of efifo
      → (drawn_of efifo fifothr f).asks ≡ true
  unfolding drawn_of
  drawn_asks_again h k = simp (going, le-leb _ _ h, lt-ltb _ _ k, or-true)

  pub drawn_quiet_above : f.asks ≡ false → write_level efifo fifothr < f.count - 1
      → (drawn_of efifo fifothr f).asks ≡ false
  unfolding drawn_of
  drawn_quiet_above off h = simp (going, off, lt-leb _ _ h)

  pub drawn_asks_stays : f.asks ≡ true → (drawn_of efifo fifothr f).asks ≡ true
  unfolding drawn_of
  drawn_asks_stays on = simp (going, on)

-- 01 Read: TC empties the FIFO, and no byte follows
pub taken_tc_empty : (f : Fifo) → held (taken_of true f) ≡ []
unfolding taken_of
taken_tc_empty f = refl

pub filled_tc_same : (efifo : Bool) (fifothr : ℕ) (last : Bool) (byte : ℕ) (f : Fifo)
    → f.tc ≡ true → filled_of efifo fifothr last byte f ≡ f
unfolding filled_of
filled_tc_same efifo fifothr last byte f e = simp e

-- 01 FIFO: after TC off for good, whatever follows, in both directions
pub over_from_tc : (f : Fifo) → TcOver (taken_of true f)
unfolding taken_of
over_from_tc f = record { tc = refl; quiet = refl }

pub over_filled : (efifo : Bool) (fifothr : ℕ) (last : Bool) (byte : ℕ) (f : Fifo)
    → TcOver f → TcOver (filled_of efifo fifothr last byte f)
over_filled efifo fifothr last byte f o = rw (filled_tc_same efifo fifothr last byte f o.tc) o

pub over_taken : (tc : Bool) (f : Fifo) → TcOver f → TcOver (taken_of tc f)
unfolding taken_of
over_taken true f o = record { tc = refl; quiet = refl }
over_taken false f o = record { tc = o.tc; quiet = simp o.quiet }

pub over_given : (efifo tc : Bool) (byte : ℕ) (f : Fifo) → TcOver f → TcOver (given_of efifo tc byte f)
unfolding given_of
over_given efifo tc byte f o =
    by_test (full_of efifo f) TcOver _ _ (λ t. record { tc = o.tc; quiet = refl }) (λ t. record { tc = simp o.tc; quiet = simp o.quiet })

pub over_drawn : (efifo : Bool) (fifothr : ℕ) (f : Fifo) → TcOver f → TcOver (drawn_of efifo fifothr f)
unfolding drawn_of
over_drawn efifo fifothr f o = record { tc = o.tc; quiet = simp o.tc }

-- The count is never above the capacity, the array keeps its sixteen, and past the count stand zeros.

capacity_most : (efifo : Bool) → capacity_of efifo ≤ 16
capacity_most true = omega arith
capacity_most false = omega arith

past_pushed : (byte n : ℕ) (l : List ℕ) → n < 16 → drop n l ≡ replicate (16 - n) 0
    → drop (n + 1) (set l n byte) ≡ replicate (16 - (n + 1)) 0
past_pushed byte n l h e =
    let m : 16 - n ≡ suc (16 - (n + 1)) = omega arith in
    drop-set-lt (n + 1) l n byte (omega arith)
    ∙ sym (drop-drop 1 n l)
    ∙ ap (drop 1) (e ∙ ap (λ (k : ℕ). replicate k 0) m)

past_popped : (n : ℕ) (l : List ℕ) → length l ≡ 16 → n ≤ 16 → drop n l ≡ replicate (16 - n) 0
    → drop (n - 1) (drop 1 l ++ (0 ∷ [])) ≡ replicate (16 - (n - 1)) 0
past_popped zero l h b e = ap (λ (r : List ℕ). drop 1 r ++ (0 ∷ [])) e
past_popped (suc m) l h b e =
    let s : 1 + m ≡ suc m = omega arith in
    let t : 16 - suc m + 1 ≡ 16 - m = omega arith in
    let u : suc m - 1 ≡ m = omega arith in
    rw (u, drop-append-le m (drop 1 l) (0 ∷ []) (omega (arith, length-drop 1 l)), drop-drop m 1 l, s, e, ← t)
    (replicate-append-replicate (16 - suc m) 1 0)

fits_flagged : (efifo asks tc : Bool) (f : Fifo) → FitsFifo efifo f → FitsFifo efifo (flagged asks tc f)
fits_flagged efifo asks tc f p = record { sixteen = p.sixteen; within = p.within; past = p.past }

fits_pushed : (efifo : Bool) (byte : ℕ) (f : Fifo)
    → full_of efifo f ≡ false → FitsFifo efifo f → FitsFifo efifo (pushed_of byte f)
fits_pushed efifo byte f room p = record {
  sixteen = length-set f.bytes f.count byte ∙ p.sixteen;
  within = omega (arith, leb-false (capacity_of efifo) f.count room);
  past = past_pushed byte f.count f.bytes (room_left efifo f.count room) p.past;
}

fits_popped : (efifo : Bool) (f : Fifo) → FitsFifo efifo f → FitsFifo efifo (popped_of f)
fits_popped efifo f p = record {
  sixteen = simp (length-append, length-drop) (omega (arith, p.sixteen));
  within = omega (arith, p.within);
  past = past_popped f.count f.bytes p.sixteen (omega (arith, p.within, capacity_most efifo)) p.past;
}

pub fits_emptied : (efifo : Bool) → FitsFifo efifo emptied
fits_emptied efifo = record { sixteen = refl; within = omega arith; past = refl }

pub fits_shut : (efifo : Bool) → FitsFifo efifo shut
fits_shut efifo = fits_flagged efifo false true emptied (fits_emptied efifo)

pub fits_filled : (efifo : Bool) (fifothr : ℕ) (last : Bool) (byte : ℕ) (f : Fifo)
    → FitsFifo efifo f → FitsFifo efifo (filled_of efifo fifothr last byte f)
unfolding filled_of
fits_filled efifo fifothr last byte f p =
    by_test (f.tc || full_of efifo f) (FitsFifo efifo) _ _ (λ t. p)
    (λ t. fits_flagged efifo _ _ _ (fits_pushed efifo byte f (or_right f.tc (full_of efifo f) t) p))

pub fits_taken : (efifo tc : Bool) (f : Fifo) → FitsFifo efifo f → FitsFifo efifo (taken_of tc f)
unfolding taken_of
fits_taken efifo true f p = fits_shut efifo
fits_taken efifo false f p = fits_flagged efifo _ _ _ (fits_popped efifo f p)

pub fits_opened : (efifo : Bool) (f : Fifo) → FitsFifo efifo f → FitsFifo efifo (opened_of f)
unfolding opened_of
fits_opened efifo f p = fits_flagged efifo true f.tc f p

pub fits_given : (efifo tc : Bool) (byte : ℕ) (f : Fifo) → FitsFifo efifo f → FitsFifo efifo (given_of efifo tc byte f)
unfolding given_of
fits_given efifo tc byte f p =
    by_test (full_of efifo f) (FitsFifo efifo) _ _ (λ t. fits_flagged efifo false f.tc f p)
    (λ t. fits_flagged efifo _ _ _ (fits_pushed efifo byte f t p))

pub fits_drawn : (efifo : Bool) (fifothr : ℕ) (f : Fifo) → FitsFifo efifo f → FitsFifo efifo (drawn_of efifo fifothr f)
unfolding drawn_of
fits_drawn efifo fifothr f p = fits_flagged efifo _ _ _ (fits_popped efifo f p)

-- FIFOs that hold the same bytes and have the same request are the same
pub held_tells : (efifo : Bool) (f g : Fifo)
    → FitsFifo efifo f → FitsFifo efifo g → held f ≡ held g → f.asks ≡ g.asks → f.tc ≡ g.tc → f ≡ g
held_tells efifo f g p q e asks tc =
    let m : capacity_of efifo ≤ 16 = capacity_most efifo in
    let n : f.count ≡ g.count =
    sym (length-take-le f.count f.bytes (omega (arith, p.sixteen, p.within)))
    ∙ ap length e
    ∙ length-take-le g.count g.bytes (omega (arith, q.sixteen, q.within)) in
    let z : drop f.count f.bytes ≡ drop g.count g.bytes =
    p.past ∙ ap (λ (k : ℕ). replicate (16 - k) 0) n ∙ sym q.past in
    let b : f.bytes ≡ g.bytes =
    sym (take-append-drop f.count f.bytes) ∙ rw (e, z) (take-append-drop g.count g.bytes) in
    let r : f ≡ record { bytes = g.bytes; count = g.count; asks = g.asks; tc = g.tc } =
    rw (← b, ← n, ← asks, ← tc) in
    r

-- What the laws ask for is met: a byte to the host at the highest threshold and taken; a byte from it with the FIFO
-- off.

pub read_run : taken_of false (filled_of false 15 false 7 emptied) ≡ emptied
unfolding taken_of filled_of
read_run = refl

pub write_run : drawn_of true 0 (given_of true false 7 (opened_of emptied)) ≡ opened_of emptied
unfolding drawn_of given_of opened_of
write_run = refl
