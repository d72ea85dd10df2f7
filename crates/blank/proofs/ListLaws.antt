-- Lists of parts of one length, one behind the other, and how they are put into a slice part by part.
-- Assumes nothing.
use Prim.Native.Nat.{ℕ, zero, suc, ◌+◌, ◌*◌, ◌-◌, ◌≤◌, ◌<◌}
use native.Mathlib.Nat.{suc-mul, zero-mul}
use native.Mathlib.Numerals.{add-one}
use native.Mathlib.Omega.{arith}
use mathlib.Core.List.{List, ◌++◌, append_assoc, append-nil}
use mathlib.Core.Logic.{◌⊎◌, inl, inr}
use mathlib.Core.Path.{◌≡◌, refl, sym, ap, ◌∙◌}
use lib.ListN.{length, get_or, take, drop, length-append, length-drop, get_or-append}
use borrow.Rule.Slice.PartMut.{put_mid, Post-is, same_len_mid}
use lib.Seq.{drop-length, length-take-le, take_at, drop-drop, drop-append-add, get_or-append-add}
use Rattle.image.proofs.TestLaws.{le_or_lt}
use Rattle.image.proofs.LayoutLaws.{row_inside}
use Rattle.blank.specs.Blank.{in_turn}

module _ (f : ℕ → List ℕ) (w : ℕ) (width : (i : ℕ) → length (f i) ≡ w) where
  pub turn_length : (n : ℕ) → length (in_turn f n) ≡ n * w
  turn_length zero = sym (zero-mul w)
  turn_length (suc n) = length-append (in_turn f n) (f n) ∙ rw (turn_length n, width n, suc-mul)

  -- byte m of part k
  pub turn_at : (n k m : ℕ) → k < n → m < w → get_or (in_turn f n) (k * w + m) 0 ≡ get_or (f k) m 0
  turn_at zero k m h l = absurd (omega arith)
  turn_at (suc n) k m h l = go (le_or_lt n k) (λ b. turn_at n k m b l)
    where
      go :
          (n ≤ k) ⊎ (k < n) → (k < n → get_or (in_turn f n) (k * w + m) 0 ≡ get_or (f k) m 0)
          → get_or (in_turn f n ++ f n) (k * w + m) 0 ≡ get_or (f k) m 0
      go (inr b) early =
          get_or-append (in_turn f n) (f n) 0 (k * w + m) (omega (arith, turn_length n, row_inside k n w b))
          ∙ early b
      go (inl b) early =
          let e : k ≡ n = omega arith in
          rw e (ap (λ (i : ℕ). get_or (in_turn f n ++ f n) (i + m) 0) (sym (turn_length n))
          ∙ get_or-append-add (in_turn f n) (f n) m 0)

-- how long a part is
pub part_length : (s : List ℕ) (at n : ℕ) → at + n ≤ length s → length (take n (drop at s)) ≡ n
part_length s at n h = length-take-le n (drop at s) (omega (arith, length-drop at s))

-- k of n parts of w bytes are put into a slice; behind them the slice is as it was
pub record Turned (f : ℕ → List ℕ) (w n : ℕ) (s₀ s : List ℕ) (k : ℕ) : Type 0 where
  pub most : k ≤ n
  pub kept : length s ≡ length s₀
  pub bytes : s ≡ in_turn f k ++ drop (k * w) s₀

pub turned_none : (f : ℕ → List ℕ) (w n : ℕ) (s : List ℕ) → Turned f w n s s 0
turned_none f w n s = record { most = omega arith; kept = refl; bytes = rw (zero-mul w) }

module _
    (f : ℕ → List ℕ)
    (w n : ℕ)
    (s₀ s : List ℕ)
    (k : ℕ)
    (width : (i : ℕ) → length (f i) ≡ w)
    (whole : length s₀ ≡ n * w)
    (t : Turned f w n s₀ s k)
  where
    -- the next part lies within
    pub turned_within : (at : ℕ) → at ≡ k * w → k < n → at + w ≤ length s
    turned_within at e h = omega (arith, row_inside k n w h, t.kept)

    pub turned_part : (at : ℕ) → at ≡ k * w → k < n → length (take (at + w - at) (drop at s)) ≡ w
    turned_part at e h =
        let within = turned_within at e h in
        part_length s at (at + w - at) (omega arith) ∙ omega arith

    -- and is put behind those that are there
    pub turned_next :
        (at : ℕ) (part : List ℕ) → at ≡ k * w → k < n → part ≡ f k
        → Turned f w n s₀ (put_mid at (at + w - at) s part) (k + 1)
    turned_next at part e h p =
        let front : length (in_turn f k) ≡ at = turn_length f w width k ∙ sym e in
        let long : length part ≡ w = ap length p ∙ width k in
        let within = turned_within at e h in
        let next : (k + 1) * w ≡ at + w = omega (arith, suc-mul k w) in
        record {
          most = omega arith;
          kept = same_len_mid at (at + w - at) s part
              (omega (arith, part_length s at (at + w - at) (omega arith))) ∙ t.kept;
          bytes = rw (next, Post-is at (at + w) s (omega arith), p, t.bytes, ← e, add-one, append_assoc) (
              ap (λ (l : List ℕ). l ++ (f k ++ drop (at + w) (in_turn f k ++ drop at s₀)))
              (take_at (in_turn f k) (drop at s₀) at front)
              ∙ ap (λ (l : List ℕ). in_turn f k ++ (f k ++ l)) (behind front)
              );
        }
      where
        behind : length (in_turn f k) ≡ at → drop (at + w) (in_turn f k ++ drop at s₀) ≡ drop (at + w) s₀
        behind front =
            ap (λ (i : ℕ). drop (i + w) (in_turn f k ++ drop at s₀)) (sym front)
            ∙ drop-append-add (in_turn f k) (drop at s₀) w ∙ drop-drop w at s₀

    -- all parts take the whole slice
    pub turned_all : n ≤ k → s ≡ in_turn f n
    turned_all h =
        let e : k ≡ n = omega (arith, t.most) in
        let end : k * w ≡ length s₀ = ap (λ (i : ℕ). i * w) e ∙ sym whole in
        t.bytes ∙ rw (end, drop-length s₀, append-nil, e)
