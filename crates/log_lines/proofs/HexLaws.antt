-- A digit that is written is read back.
-- Assumes nothing.
use Prim.Native.Nat.{ℕ, ◌+◌, ◌-◌, ◌%◌, ◌≤◌, ◌<◌}
use native.Mathlib.Omega.{arith}
use mathlib.Core.Bool.{Bool, true, false, ◌&&◌, cond}
use mathlib.Core.Path.{◌≡◌, refl, ap}
use Rattle.std.specs.Prelude.{Some}
use lib.Dec.{ltb, leb}
use borrow.Author.Tests.{ltb-true, ltb-false, le-leb, lt-leb}
use Rattle.log_lines.specs.Hex.{digit_within, hex_of, letter_of}

module _ (low b high : ℕ) where
  inside : low ≤ b → b ≤ high → digit_within low b high ≡ true
  inside h k = simp (le-leb low b h, le-leb b high k)

  above : high < b → digit_within low b high ≡ false
  above h = rw (lt-leb b high h) (no (leb low b))
    where
      no : (t : Bool) → (t && false) ≡ false
      no true = refl
      no false = refl

read_back : (x : ℕ) (t : Bool) → x < 16 → ltb x 10 ≡ t → hex_of (cond t (0x30 + x) (0x41 + (x - 10))) ≡ Some x
unfolding hex_of
read_back x true h e =
    let small = ltb-true x 10 e in
    simp (inside 0x30 (0x30 + x) 0x39 (omega arith) (omega arith)) (ap Some (omega arith))
read_back x false h e =
    let large = ltb-false x 10 e in
    let y = 0x41 + (x - 10) in
    simp (above 0x30 y 0x39 (omega arith), inside 0x41 y 0x46 (omega arith) (omega arith)) (ap Some (omega arith))

pub letter_read_back : (v : ℕ) → hex_of (letter_of v) ≡ Some (v % 16)
unfolding letter_of
letter_read_back v = read_back (v % 16) (ltb (v % 16) 10) (omega arith) refl
