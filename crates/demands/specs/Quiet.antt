-- What every record reached from power-on keeps to (01 Registers, Commands, Stepping): held in reset it is idle, no
-- head moves while a command is at work, and what a command was told is bytes. The statements over a command's calls are
-- proved of every such record, and so also after a reset of any valid one; those of the reached ones follow.
-- Assumes nothing.
use Rattle.std.specs.Prelude.{ℕ, ◌<◌, true, List, [], ◌∷◌, ◌⊎◌, ◌≡◌}
use Rattle.drive.specs.declared.Drive.{Drive}
use Rattle.drive.specs.declared.Motion.TheVariants.{Still}
use Rattle.sectors.specs.declared.order.Job.{Job}
use Rattle.sectors.specs.declared.order.Job.TheVariants.{Identify, Move, Format}
use Rattle.fdc.specs.declared.record.Controller.{Controller}
use Rattle.fdc.specs.declared.record.Phase.{Phase}
use Rattle.fdc.specs.declared.record.Phase.TheVariants.{Idle, Gathering, Starting, Working, Sensing, Answering}
use Rattle.reached.specs.Good.{Good}
use Rattle.fdc.specs.Record.{drive_at, valid_of}
use Rattle.fdc.specs.Registers.{held_in}
use Rattle.reached.specs.Runs.{writes, after}
use Rattle.demands.specs.Work.{at_work}

-- what an accepted command was told: its drive, its side, and two numbers that are bytes
abbrev pub ProperJob : Job → Type 0
ProperJob Identify = Unit {0}
ProperJob (Move transfer id) = (id.r < 256) × (transfer.eot < 256)
ProperJob (Format plan) = Unit {0}

abbrev pub Proper : Phase → Type 0
Proper Idle = Unit {0}
Proper (Gathering entry) = Unit {0}
Proper (Starting order) = (order.drive < 4) × (order.side < 2) × ProperJob order.job
Proper (Working work) = Unit {0}
Proper (Sensing unit) = Unit {0}
Proper (Answering loud) = Unit {0}

abbrev pub AllBytes : List ℕ → Type 0
AllBytes [] = Unit {0}
AllBytes (byte ∷ bytes) = (byte < 256) × AllBytes bytes

-- of each of the four drives
abbrev pub Each : (Drive → Type 0) → List Drive → Type 0
Each P drives = (k : ℕ) → k < 4 → P (drive_at k drives)

abbrev pub StandsStill : Drive → Type 0
StandsStill d = d.motion ≡ Still

-- a drive that moves is busy and has no report
abbrev pub Settled : Drive → Type 0
Settled d = (d.motion ≡ Still) ⊎ ((d.busy ≡ true) × (d.report ≡ 0))

-- beside what the theorems use: why no head moves, and that what was written is bytes
pub record Inner (c : Controller) : Type 0 where
  pub drives : Each Settled c.drives
  pub rests : held_in c.registers.dor ≡ true → Each StandsStill c.drives
  pub command : AllBytes c.bytes.command
  pub spec1 : c.registers.spec1 < 256

-- held in reset it is idle; while a command is at work no head moves
pub record Quiet (c : Controller) : Type 0 where
  pub good : Good c
  pub held : held_in c.registers.dor ≡ true → c.phase ≡ Idle
  pub still : at_work c.phase ≡ true → Each StandsStill c.drives
  pub proper : Proper c.phase
  pub inner : Inner c

-- a reset by DOR of any valid record gives such a one, whatever was going on; that Specify's byte is one is its type's
abbrev pub ResetQuiet : Type 0
ResetQuiet =
    (c : Controller) → valid_of c ≡ true → c.registers.spec1 < 256 → (byte : ℕ) → held_in byte ≡ true
    → Quiet (after (writes 2 byte) c)
