-- A search meets the sector that it seeks (01 Search): with slot k one that matches, the look comes to slot k before
-- its second pass ends.
-- Assumes nothing.
use Prim.Native.Nat.{ℕ, ◌+◌, ◌≤◌, ◌<◌}
use native.Mathlib.Omega.{arith}
use mathlib.Core.Bool.{true, false, true≢false}
use mathlib.Core.List.{List}
use mathlib.Core.Logic.{◌⊎◌, inl, inr}
use mathlib.Core.Path.{◌≡◌, sym, ap, ◌∙◌}
use Rattle.image.proofs.TestLaws.{le_or_lt}
use Rattle.sectors.specs.declared.work.Search.{Search}
use Rattle.sectors.specs.declared.work.Site.{Site}
use Rattle.sectors.specs.declared.work.Task.{Task}
use Rattle.sectors.specs.Follow.{fresh_at}
use Rattle.demands.proofs.TickRules.{hits}

-- slot k is still to be looked at in this search: the second pass has not gone by it
pub record Ahead (slots k : ℕ) (look : Search) : Type 0 where
  pub on_track : look.slot < slots
  pub most : look.passes ≤ 1
  pub not_yet : look.passes ≡ 1 → look.slot ≤ k

-- a search starts at any slot
pub ahead_fresh : (slots k j : ℕ) → j < slots → Ahead slots k (fresh_at j)
ahead_fresh slots k j l = record { on_track = l; most = omega arith; not_yet = λ e. absurd (omega arith) }

module _ (img : List ℕ) (site : Site) (head : ℕ) (task : Task) (k : ℕ) (on_track : k < site.disk.slots)
    (there : hits img site head task k ≡ true) (look : Search) (ahead : Ahead site.disk.slots k look)
    (miss : hits img site head task look.slot ≡ false) where
  -- a slot that does not match is another one
  elsewhere : look.slot ≡ k → ⊥
  elsewhere e = true≢false (sym there ∙ ap (hits img site head task) (sym e) ∙ miss)

  before : look.passes ≡ 1 → look.slot < k
  before e = go (le_or_lt k look.slot)
    where
      go : (k ≤ look.slot) ⊎ (look.slot < k) → look.slot < k
      go (inl l) = absurd (elsewhere (omega (arith, ahead.not_yet e)))
      go (inr l) = l

  pub ahead_misses : (on : Search) → look.slot + 1 < site.disk.slots → on.slot ≡ look.slot + 1
      → on.passes ≡ look.passes → Ahead site.disk.slots k on
  ahead_misses on l s p =
      record {
        on_track = omega arith;
        most = omega (arith, ahead.most);
        not_yet = λ e. omega (arith, before (sym p ∙ e));
      }

  pub ahead_passes : (on : Search) → on.slot ≡ 0 → on.passes ≡ 1 → Ahead site.disk.slots k on
  ahead_passes on s p =
      record { on_track = omega arith; most = omega arith; not_yet = λ e. omega arith }

  -- it is found: no look ends the second pass
  pub ahead_found : site.disk.slots ≤ look.slot + 1 → 1 ≤ look.passes → ⊥
  ahead_found l p = omega (arith, before (omega (arith, ahead.most)), on_track)
