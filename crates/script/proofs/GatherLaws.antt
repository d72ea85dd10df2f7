-- A line whose bytes are added one at a time: of up to 255 bytes it is the line of those bytes, of 256 and more it is
-- malformed.
-- Assumes nothing.
use Prim.Native.Nat.{ℕ, ◌≤◌}
use native.Mathlib.Omega.{arith}
use mathlib.Core.List.{List}
use mathlib.Core.Path.{◌≡◌, refl, ap}
use lib.ListN.{length}
use borrow.Author.Tests.{lt-ltb, le-ltb}
use Rattle.std.specs.Prelude.{Err}
use Rattle.log_lines.specs.Gather.{no_text, added_all}
use Rattle.log_lines.proofs.GatherLaws.{added_holds, full}
use Rattle.script.specs.Line.{script_line, script_within, script_gathered}
use Rattle.script.specs.declared.line.Expected.TheVariants as expected

-- a line that fits
pub script_line_lem : (s : List ℕ) → length s ≤ 255 → script_gathered (added_all s no_text) ≡ script_line s
unfolding script_within
script_line_lem s h =
    let all = added_holds s no_text refl (omega arith) in
    simp (lt-ltb (added_all s no_text).length 256 (omega (arith, all.count))) (ap script_line all.bytes)

-- a line of 256 bytes, and more
pub script_long : (s more : List ℕ)
    → length s ≡ 256
    → script_gathered (added_all more (added_all s no_text)) ≡ Err expected.Shorter
unfolding script_within
script_long s more h =
    let all = added_holds s no_text refl (omega arith) in
    let long : 256 ≤ (added_all s no_text).length = omega (arith, all.count) in
    rw (full more (added_all s no_text) long) (simp (le-ltb (added_all s no_text).length 256 long))
