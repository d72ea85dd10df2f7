-- Demand 2, the results of the commands that move no data: document 01, Commands. Each law speaks of the call that
-- completes the command, from any reached record that waits for one; Sense Drive's of the tick.
-- Assumes nothing.
use Rattle.std.specs.Prelude.{ℕ, ◌+◌, ◌%◌, ◌<◌, true, false, ◌&&◌, cond, List, [], ◌∷◌, ◌≡◌, eqb, ltb}
use Rattle.chip.specs.declared.codes.Kind.TheVariants.{Unknown}
use Rattle.chip.specs.Commands.{kind_of}
use Rattle.image.specs.Lent.{pick_of}
use Rattle.fdc.specs.declared.record.Controller.{Controller}
use Rattle.fdc.specs.declared.record.Phase.TheVariants.{Idle, Sensing, Answering}
use Rattle.fdc.specs.Record.{drive_at}
use Rattle.reached.specs.Runs.{writes, ticks, after}
use Rattle.fdc.specs.Ticks.{seen_of, protected_in}
use Rattle.answers.specs.Registers.{Free}
use Rattle.demands.specs.Work.{Real}

-- so many results wait, without INT (D-119)
pub record Said (e : Controller) (first second left : ℕ) : Type 0 where
  pub waits : e.phase ≡ Answering false
  pub count : e.bytes.left ≡ left
  pub bytes : e.bytes.results ≡ first ∷ second ∷ 0 ∷ 0 ∷ 0 ∷ 0 ∷ 0 ∷ []

-- it waits for a command
pub record Waits (c : Controller) : Type 0 where
  pub real : Real c
  pub idle : c.phase ≡ Idle
  pub free : Free c

abbrev pub NoneBusy : Controller → Type 0
NoneBusy c = (k : ℕ) → k < 4 → (drive_at k c.drives).busy ≡ false

abbrev pub report_of : ℕ → Controller → ℕ
report_of k c = (drive_at k c.drives).report

pub record CommandResults : Type 0 where
  -- any other code is one byte long and answers 80 alone (house)
  pub unknown : (c : Controller) (code : ℕ) → Waits c → kind_of code ≡ Unknown → Said (after (writes 5 code) c) 0x80 0 1
  -- Version 10: gives 90
  pub version : (c : Controller) → Waits c → NoneBusy c → Said (after (writes 5 0x10) c) 0x90 0 1
  -- while any busy bit is on it answers 80 (house)
  pub busy : (c : Controller) (k : ℕ) → Waits c → k < 4 → (drive_at k c.drives).busy ≡ true
      → Said (after (writes 5 0x10) c) 0x80 0 1
  -- Sense Interrupt 08: ST0, PCN: it takes the report of the lowest drive and clears its busy bit
  pub sensed : (c : Controller) (k : ℕ) → Waits c → k < 4 → (report_of k c ≡ 0 → ⊥)
      → ((j : ℕ) → j < k → report_of j c ≡ 0)
      → Said (after (writes 5 0x08) c) (report_of k c) (drive_at k c.drives).pcn 2
  pub taken : (c : Controller) (k : ℕ) → Waits c → k < 4 → (report_of k c ≡ 0 → ⊥)
      → ((j : ℕ) → j < k → report_of j c ≡ 0)
      → (report_of k (after (writes 5 0x08) c) ≡ 0) × ((drive_at k (after (writes 5 0x08) c).drives).busy ≡ false)
  -- with none it answers 80 alone
  pub none : (c : Controller) → Waits c → ((j : ℕ) → j < 4 → report_of j c ≡ 0) → Said (after (writes 5 0x08) c) 0x80 0 1
  -- Sense Drive 04: ST3 at the next tick: write protect 40 (an empty drive counts as unprotected), track 0 10 (the head
  -- at 0, of drives 0 and 1), 28 always, side and drive
  pub st3 : (c : Controller) (unit : ℕ) (a b : List ℕ) → Real c → c.phase ≡ Sensing unit
      → Said (after (ticks a b) c)
      (0x28 + cond (protected_in (seen_of c.registers.dor (unit % 4) (pick_of (unit % 4) a b))) 0x40 0
      + cond (ltb (unit % 4) 2 && eqb (drive_at (unit % 4) (after (ticks a b) c).drives).head 0) 0x10 0 + unit % 8)
      0 1
