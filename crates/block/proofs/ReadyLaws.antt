-- A command's bytes, one at a time, and Sense Interrupt until 80 (02 2026-01).
-- Assumes nothing.
use Prim.Native.Nat.{ℕ, suc, ◌+◌, ◌-◌, ◌≤◌, ◌<◌}
use native.Mathlib.Numerals.{add-one}
use native.Mathlib.Omega.{arith}
use mathlib.Core.Bool.{true, false}
use mathlib.Core.List.{List}
use mathlib.Core.Path.{◌≡◌, ap, ◌∙◌}
use lib.ListN.{length, drop, get_or, drop_of_length-le}
use lib.Seq.{drop-cons}
use borrow.Author.Tests.{eq-eqb, ne_eqb}
use Rattle.fdc.specs.declared.record.Controller.{Controller}
use Rattle.fdc.specs.Calls.{write_port}
use Rattle.block.specs.Ready.{command_of, sensed_with, sense_of, Waited, waited_with, clear_of}

module _ (bytes : List ℕ) (k : ℕ) (c whole : Controller) (run : whole ≡ command_of (drop k bytes) c) where
  -- the next byte is written
  pub command_on : (d : Controller) → k < length bytes → d ≡ (write_port 5 (get_or bytes k 0) c).controller
      → whole ≡ command_of (drop (k + 1) bytes) d
  unfolding command_of
  command_on d h w = rw (w, add-one k) (rw (drop-cons bytes k 0 h) at run)

  -- all are
  pub command_over : length bytes ≤ k → whole ≡ c
  unfolding command_of
  command_over h = rw (drop_of_length-le bytes h) at run

module _
    (c d : Controller)
    (st0 n i : ℕ)
    (whole : Waited)
    (run : whole ≡ clear_of (n - i) c)
    (some : i < n)
    (sensed : sensed_with st0 d ≡ sense_of c)
  where
    one_less : whole ≡ clear_of (suc (n - (i + 1))) c
    one_less =
        let e : n - i ≡ suc (n - (i + 1)) = omega arith in
        run ∙ ap (λ (k : ℕ). clear_of k c) e

    -- one more is sensed
    pub clear_on_lem : (st0 ≡ 0x80 → ⊥) → whole ≡ clear_of (n - (i + 1)) d
    unfolding clear_of
    clear_on_lem more = rw (← sensed, ne_eqb st0 0x80 more) at one_less

    -- it is 80
    pub clear_came : st0 ≡ 0x80 → whole ≡ waited_with true d
    unfolding clear_of
    clear_came none = rw (← sensed, eq-eqb st0 0x80 none) at one_less

-- none came
pub clear_over : (n i : ℕ) (c : Controller) (whole : Waited) → whole ≡ clear_of (n - i) c → n ≤ i
    → whole ≡ waited_with false c
unfolding clear_of
clear_over n i c whole run h =
    let e : n - i ≡ 0 = omega arith in
    rw e at run
