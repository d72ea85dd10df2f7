-- What every record reached from power-on keeps to, so that none of them earns refusal 4 (01 Refusals). The laws are in
-- proofs/GoodLaws.antt.
-- Assumes nothing.
use Rattle.std.specs.Prelude.{ℕ, ◌≤◌, ◌<◌, List, ◌≡◌, length}
use Rattle.chip.specs.declared.fifo.Fifo.{Fifo}
use Rattle.chip.specs.Fifo.{emptied, FitsFifo}
use Rattle.drive.specs.declared.Drive.{Drive}
use Rattle.drive.specs.Due.{Within}
use Rattle.engine.specs.Step.{wait_of}
use Rattle.fdc.specs.declared.record.Controller.{Controller}
use Rattle.fdc.specs.declared.record.Phase.{Phase}
use Rattle.fdc.specs.declared.record.Phase.TheVariants.{Idle, Gathering, Starting, Working, Sensing, Answering}
use Rattle.fdc.specs.Record.{result_room, drive_at}

-- four drives, each within its bounds
pub record Four (drives : List Drive) : Type 0 where
  pub long : length drives ≡ 4
  pub each : (k : ℕ) → k < 4 → Within (drive_at k drives)

-- what a phase says of the command bytes and the FIFO
abbrev pub Suits : Phase → ℕ → Fifo → Type 0
Suits Idle n f = (n ≡ 0) × (f ≡ emptied)
Suits (Gathering entry) n f = (n < entry.bytes) × (entry.bytes ≤ 9) × (f ≡ emptied)
Suits (Starting order) n f = (n ≡ 0) × (f ≡ emptied)
Suits (Working work) n f = (n ≡ 0) × (wait_of work ≤ 64)
Suits (Sensing unit) n f = (n ≡ 0) × (f ≡ emptied)
Suits (Answering loud) n f = (n ≡ 0) × (f ≡ emptied)

pub record Good (c : Controller) : Type 0 where
  pub drives : Four c.drives
  pub fifo : FitsFifo c.registers.efifo c.fifo
  pub fifothr : c.registers.fifothr ≤ 15
  pub left : c.bytes.left ≤ result_room
  pub phase : Suits c.phase c.bytes.gathered c.fifo
