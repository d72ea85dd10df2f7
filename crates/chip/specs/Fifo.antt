-- The FIFO and its request: document 01, FIFO and request; "TC empties the FIFO; no byte follows" of Read. Who fills
-- and draws it in which tick is said where the command is at work.
-- Assumes nothing.
use Rattle.std.specs.Prelude.{◌≡◌, ℕ, ◌+◌, ◌-◌, ◌≤◌, max, Bool, true, false, ◌&&◌, ◌||◌, not, cond, List, [], ◌∷◌, ◌++◌, eqb, leb, ltb, length, get_or, set, take, drop, replicate}
use Rattle.chip.specs.declared.fifo.Fifo.{Fifo}

-- 01 FIFO: capacity 16, or 1 with EFIFO 1
abbrev pub capacity_of : Bool → ℕ
capacity_of efifo = cond efifo 1 16

-- 01 FIFO: T = FIFOTHR + 1. To host the request goes on at max(1, 16 - T) bytes (1 when off)
abbrev pub read_level : Bool → ℕ → ℕ
read_level efifo fifothr = cond efifo 1 (max 1 (16 - (fifothr + 1)))

-- 01 FIFO: from host on again at T or fewer bytes left (at 0 when off)
abbrev pub write_level : Bool → ℕ → ℕ
write_level efifo fifothr = cond efifo 0 (fifothr + 1)

-- 01 FIFO: full is at the capacity; a damaged count above it is full too
abbrev pub full_of : Bool → Fifo → Bool
full_of efifo f = leb (capacity_of efifo) f.count

-- 01 Refusals 4: a FIFO count above its capacity is a damaged record
abbrev pub within_of : Bool → Fifo → Bool
within_of efifo f = leb f.count (capacity_of efifo)

-- what is held, the oldest first
abbrev pub held : Fifo → List ℕ
held f = take f.count f.bytes

-- the oldest byte
abbrev pub front_of : Fifo → ℕ
front_of f = get_or f.bytes 0 0

-- what the host is handed: the oldest byte, and 0 where none is held (D-33)
abbrev pub handed_of : Fifo → ℕ
handed_of f = cond (eqb f.count 0) 0 (front_of f)

-- 01 Result: every end empties the FIFO
abbrev pub emptied : Fifo
emptied = record { bytes = replicate 16 0; count = 0; asks = false; tc = false }

-- the same bytes with this request and TC
abbrev pub flagged : Bool → Bool → Fifo → Fifo
flagged asks tc f = record { bytes = f.bytes; count = f.count; asks = asks; tc = tc }

-- no byte follows, and the request is off for good: after TC, and after a byte that came late (02 2026-02)
abbrev pub shut : Fifo
shut = flagged false true emptied

-- first in, first out: a byte goes behind those held, and the front one leaves
abbrev pub pushed_of : ℕ → Fifo → Fifo
pushed_of byte f = record { bytes = set f.bytes f.count byte; count = f.count + 1; asks = f.asks; tc = f.tc }

abbrev pub popped_of : Fifo → Fifo
popped_of f = record { bytes = drop 1 f.bytes ++ (0 ∷ []); count = f.count - 1; asks = f.asks; tc = f.tc }

-- 01 FIFO, to host: the request goes on at its level or when a sector's last byte is in, and stays on.
-- 01 Read: after TC no byte follows
unfoldable pub filled_of : Bool → ℕ → Bool → ℕ → Fifo → Fifo
filled_of efifo fifothr last byte f =
    cond (f.tc || full_of efifo f) f
    (flagged (f.asks || last || leb (read_level efifo fifothr) (f.count + 1)) f.tc (pushed_of byte f))

-- 01 FIFO, to host: off when empty. 01 Read: TC empties the FIFO
unfoldable pub taken_of : Bool → Fifo → Fifo
taken_of tc f =
    cond tc shut
    (flagged (f.asks && ltb 0 (f.count - 1)) f.tc (popped_of f))

-- 01 FIFO, from host: on once the first tests pass
unfoldable pub opened_of : Fifo → Fifo
opened_of f = flagged true f.tc f

-- 01 FIFO, from host: off when full, where the byte and its TC are dropped (D-32); after TC off for good
unfoldable pub given_of : Bool → Bool → ℕ → Fifo → Fifo
given_of efifo tc byte f =
    cond (full_of efifo f) (flagged false f.tc f)
    (flagged (f.asks && not tc && ltb (f.count + 1) (capacity_of efifo)) (f.tc || tc) (pushed_of byte f))

-- 01 FIFO, from host: on again at T or fewer bytes left while below capacity; after TC off for good
unfoldable pub drawn_of : Bool → ℕ → Fifo → Fifo
drawn_of efifo fifothr f =
    flagged
    (not f.tc && (f.asks || leb (f.count - 1) (write_level efifo fifothr) && ltb (f.count - 1) (capacity_of efifo)))
    f.tc
    (popped_of f)

-- house: what every FIFO reached from an empty one keeps to: the array has its sixteen, the count is not above the
-- capacity (01 Refusals 4), and past the count stand zeros, so that FIFOs that hold alike are equal
pub record FitsFifo (efifo : Bool) (f : Fifo) : Type 0 where
  pub sixteen : length f.bytes ≡ 16
  pub within : f.count ≤ capacity_of efifo
  pub past : drop f.count f.bytes ≡ replicate (16 - f.count) 0

-- 01 FIFO: TC has come and the request is off
pub record TcOver (f : Fifo) : Type 0 where
  pub tc : f.tc ≡ true
  pub quiet : f.asks ≡ false
