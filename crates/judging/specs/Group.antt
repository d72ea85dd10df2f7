-- What one pass over a group leaves (02 2026-04): the first slot whose R was already met, and the slots marked.
-- Assumes nothing.
use Rattle.std.specs.Prelude.{ℕ, ◌<◌, ◌≤◌, Bool, true, false, List, ◌⊎◌, ◌≡◌, get_or}
use Rattle.image.specs.declared.slot.Slot.{Slot}
use Rattle.judging.specs.Twice.{has_address, same_address, twice_at}

-- no slot behind slot j and before `end` has its address
abbrev pub Single : (ℕ → Slot) → ℕ → ℕ → Type 0
Single slots end j = (k : ℕ) → j < k → k < end → same_address (slots j) (slots k) ≡ false

pub record Passed (slots : ℕ → Slot) (lead end : ℕ) (done : List Bool) (r : ℕ) (after : List Bool) : Type 0 where
  pub bounded : r ≤ end
  pub there : r < end → twice_at slots r ≡ true
  pub own : has_address (slots lead).mark ≡ true → Single slots r lead
  -- what is marked is single, or was marked before
  pub marked : (j : ℕ) → get_or after j false ≡ true → (get_or done j false ≡ true) ⊎ Single slots r j
