-- 01 Contracts: two answers that a call's contract allows are equal: value, lines, record, and for the tick both
-- images.
-- Assumes nothing.
use Prim.Native.Nat.{ℕ}
use mathlib.Core.Bool.{Bool}
use mathlib.Core.List.{List}
use mathlib.Core.Path.{◌≡◌, sym, ◌∙◌}
use Rattle.fdc.specs.declared.record.Controller.{Controller}
use Rattle.fdc.specs.declared.answer.Answer.{Answer}
use Rattle.fdc.specs.Calls.{power_on, read_port, write_port, dma_read, dma_write, note_change}
use Rattle.fdc.specs.Ticks.{tick_of, image_after}

-- a promise of the form r ≡ x allows one answer
pub only_one {ℓ} : {A : Type ℓ} {r s x : A} → r ≡ x → s ≡ x → r ≡ s
only_one p q = p ∙ sym q

module _ (r s : Answer) where
  pub power_on_one_answer : (head0 head1 : ℕ) → r ≡ power_on head0 head1 → s ≡ power_on head0 head1 → r ≡ s
  power_on_one_answer head0 head1 p q = only_one p q

  module _ (c : Controller) where
    pub read_port_one_answer : (offset : ℕ) → r ≡ read_port offset c → s ≡ read_port offset c → r ≡ s
    read_port_one_answer offset p q = only_one p q

    pub write_port_one_answer : (offset byte : ℕ) → r ≡ write_port offset byte c → s ≡ write_port offset byte c → r ≡ s
    write_port_one_answer offset byte p q = only_one p q

    pub dma_read_one_answer : (tc : Bool) → r ≡ dma_read tc c → s ≡ dma_read tc c → r ≡ s
    dma_read_one_answer tc p q = only_one p q

    pub dma_write_one_answer : (byte : ℕ) (tc : Bool) → r ≡ dma_write byte tc c → s ≡ dma_write byte tc c → r ≡ s
    dma_write_one_answer byte tc p q = only_one p q

    pub note_change_one_answer : (drive : ℕ) → r ≡ note_change drive c → s ≡ note_change drive c → r ≡ s
    note_change_one_answer drive p q = only_one p q

    -- the tick, with both images after it
    pub tick_one_answer : (a b a₁ b₁ a₂ b₂ : List ℕ)
        → (r ≡ tick_of a b c) × (a₁ ≡ image_after 0 a b c a) × (b₁ ≡ image_after 1 a b c b)
        → (s ≡ tick_of a b c) × (a₂ ≡ image_after 0 a b c a) × (b₂ ≡ image_after 1 a b c b)
        → (r ≡ s) × (a₁ ≡ a₂) × (b₁ ≡ b₂)
    tick_one_answer a b a₁ b₁ a₂ b₂ p q = (only_one p.0 q.0, only_one p.1 q.1, only_one p.2 q.2)
