-- Demand 2, reset's table of what goes and what stays: document 01, Registers: "Software reset (DOR bit 2 low, or DSR
-- bit 7)". Of every record that has no fault of refusal 4.
-- Assumes nothing.
use Rattle.std.specs.Prelude.{ℕ, ◌+◌, ◌/◌, ◌%◌, ◌<◌, true, false, List, ◌≡◌}
use Rattle.chip.specs.Fifo.{emptied}
use Rattle.drive.specs.declared.Motion.TheVariants.{Still}
use Rattle.fdc.specs.declared.record.Controller.{Controller}
use Rattle.fdc.specs.declared.record.Phase.TheVariants.{Idle}
use Rattle.fdc.specs.Record.{drive_at}
use Rattle.fdc.specs.Reset.{with_rate}
use Rattle.reached.specs.Runs.{writes, ticks, after}
use Rattle.fdc.specs.Ticks.{image_after}
use Rattle.answers.specs.Registers.{Undamaged, Held, Free}

-- what a record c is after a reset, by DOR or by DSR
pub record Reset (c e : Controller) : Type 0 where
  -- command, steps still due, FIFO, results and busy bits go
  pub command : (e.phase ≡ Idle) × (e.bytes.gathered ≡ 0)
  pub steps : (k : ℕ) → k < 4 → (drive_at k e.drives).motion ≡ Still
  pub fifo : e.fifo ≡ emptied
  pub results : e.bytes.left ≡ 0
  pub busy : (k : ℕ) → k < 4 → (drive_at k e.drives).busy ≡ false
  -- PCN becomes 0
  pub pcn : (k : ℕ) → k < 4 → (drive_at k e.drives).pcn ≡ 0
  -- EFIFO, FIFOTHR, PRETRK take power-on values
  pub efifo : e.registers.efifo ≡ true
  pub fifothr : e.registers.fifothr ≡ 0
  pub pretrk : e.registers.pretrk ≡ 0
  -- all else stays, EIS and POLL too
  pub eis : e.registers.eis ≡ c.registers.eis
  pub poll : e.registers.poll ≡ c.registers.poll
  pub tdr : e.registers.tdr ≡ c.registers.tdr
  pub spec1 : e.registers.spec1 ≡ c.registers.spec1
  pub spec2 : e.registers.spec2 ≡ c.registers.spec2
  pub head : (k : ℕ) → k < 4 → (drive_at k e.drives).head ≡ (drive_at k c.drives).head
  pub changed : (k : ℕ) → k < 4 → (drive_at k e.drives).changed ≡ (drive_at k c.drives).changed

pub record ResetTable (c : Controller) (byte : ℕ) : Type 0 where
  -- DOR bit 2 low: the reset, with no report, and the DOR written
  pub by_dor : Undamaged c → byte / 4 % 2 ≡ 0 → Reset c (after (writes 2 byte) c)
  pub dor_reports : Undamaged c → byte / 4 % 2 ≡ 0 → (k : ℕ) → k < 4
      → (drive_at k (after (writes 2 byte) c).drives).report ≡ 0
  pub dor_kept : Undamaged c → byte / 4 % 2 ≡ 0
      → ((after (writes 2 byte) c).registers.dor ≡ byte)
      × ((after (writes 2 byte) c).registers.rate ≡ c.registers.rate)
  -- DSR bit 7: the reset, and the rate written
  pub by_dsr : Undamaged c → Free c → byte / 128 ≡ 1 → Reset c (after (writes 4 byte) c)
  pub dsr_kept : Undamaged c → Free c → byte / 128 ≡ 1
      → ((after (writes 4 byte) c).registers.dor ≡ c.registers.dor)
      × ((after (writes 4 byte) c).registers.rate ≡ byte % 4)
  -- when it is released, at once for DSR, POLL 0 gives each of drives 0 to 3 a report C0 to C3
  pub dsr_reports : Undamaged c → Free c → byte / 128 ≡ 1 → c.registers.poll ≡ false → (k : ℕ) → k < 4
      → (drive_at k (after (writes 4 byte) c).drives).report ≡ 0xC0 + k
  pub dsr_quiet : Undamaged c → Free c → byte / 128 ≡ 1 → c.registers.poll ≡ true → (k : ℕ) → k < 4
      → (drive_at k (after (writes 4 byte) c).drives).report ≡ 0
  pub released : Undamaged c → Held c → byte / 4 % 2 ≡ 1 → c.registers.poll ≡ false → (k : ℕ) → k < 4
      → (drive_at k (after (writes 2 byte) c).drives).report ≡ 0xC0 + k
  pub released_quiet : Undamaged c → Held c → byte / 4 % 2 ≡ 1 → c.registers.poll ≡ true
      → (after (writes 2 byte) c).drives ≡ c.drives
  -- a DSR reset while DOR holds reset adds nothing: the rate alone is stored
  pub dsr_held : Undamaged c → Held c → after (writes 4 byte) c ≡ with_rate byte c

-- 01 Calls: a tick held in reset does nothing, to the record and to both images, whatever record it is handed
pub record HeldTick (c : Controller) (a b : List ℕ) : Type 0 where
  pub stays : Held c → after (ticks a b) c ≡ c
  pub images : Held c → (k : ℕ) (img : List ℕ) → image_after k a b c img ≡ img
