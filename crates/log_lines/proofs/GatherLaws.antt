-- A line whose bytes are added one at a time: of up to 255 bytes it is the line of those bytes, of 256 and more it is
-- malformed.
-- Assumes nothing.
use Prim.Native.Nat.{ℕ, ◌+◌, ◌≤◌, ◌<◌}
use native.Mathlib.Numerals.{add-one}
use native.Mathlib.Omega.{arith}
use mathlib.Core.List.{List, [], ◌∷◌, ◌++◌, append_assoc, append-nil}
use mathlib.Core.Path.{◌≡◌, refl, sym, ap, ◌∙◌, subst}
use lib.ListN.{length, take, set, length-set}
use lib.Seq.{take-suc-set}
use borrow.Author.Tests.{lt-ltb, le-ltb}
use Rattle.std.specs.Prelude.{Err}
use Rattle.log_lines.specs.declared.gather.Gathered.{Gathered}
use Rattle.log_lines.specs.declared.line.Expected.TheVariants as expected
use Rattle.log_lines.specs.Gather.{no_text, added_to, added_all, line_within, gathered_line}
use Rattle.log_lines.specs.Line.{line_of}

abbrev pub gathered_text : Gathered → List ℕ
gathered_text g = take g.length g.text

abbrev with_byte : ℕ → Gathered → Gathered
with_byte b g = record { text = set g.text g.length b; length = g.length + 1 }

-- what adding bytes to g left, where they fit
pub record HoldsText (s : List ℕ) (g h : Gathered) : Type 0 where
  pub count : h.length ≡ g.length + length s
  pub bytes : gathered_text h ≡ gathered_text g ++ s

added : (b : ℕ) (g : Gathered) → g.length < 256 → added_to b g ≡ with_byte b g
unfolding added_to
added b g h = simp (lt-ltb g.length 256 h)

pub added_holds : (s : List ℕ) (g : Gathered) → length g.text ≡ 256 → g.length + length s ≤ 256 → HoldsText s g (added_all s g)
unfolding added_all
added_holds [] g e h = record { count = omega arith; bytes = sym (append-nil (gathered_text g)) }
added_holds (b ∷ s) g e h =
    let room : g.length < 256 = omega arith in
    let rest = added_holds s (with_byte b g) (length-set g.text g.length b ∙ e) (omega arith) in
    subst (λ (k : Gathered). HoldsText (b ∷ s) g (added_all s k)) (sym (added b g room)) (record {
      count = rest.count ∙ omega arith;
      bytes =
          rest.bytes
          ∙ rw (add-one g.length, take-suc-set g.text g.length b (omega arith))
          (append_assoc (gathered_text g) (b ∷ []) s);
    })

pub full : (s : List ℕ) (g : Gathered) → 256 ≤ g.length → added_all s g ≡ g
unfolding added_all added_to
full [] g h = refl
full (b ∷ s) g h = simp (le-ltb g.length 256 h) (full s g h)

-- a line that fits
pub gathered_line_lem : (s : List ℕ) → length s ≤ 255 → gathered_line (added_all s no_text) ≡ line_of s
unfolding line_within
gathered_line_lem s h =
    let all = added_holds s no_text refl (omega arith) in
    simp (lt-ltb (added_all s no_text).length 256 (omega (arith, all.count))) (ap line_of all.bytes)

-- a line of 256 bytes, and more
pub gathered_long : (s more : List ℕ)
    → length s ≡ 256
    → gathered_line (added_all more (added_all s no_text)) ≡ Err expected.Shorter
unfolding line_within
gathered_long s more h =
    let all = added_holds s no_text refl (omega arith) in
    let long : 256 ≤ (added_all s no_text).length = omega (arith, all.count) in
    rw (full more (added_all s no_text) long) (simp (le-ltb (added_all s no_text).length 256 long))
