-- Runs from power-on that meet each premise of `Accepts`, `BusyRule`, `Settings`, `ReadsOut`, `OnlyWrites` and
-- `ProtectedStays`, by computing, and what these then say.
-- Assumes nothing.
use Rattle.std.specs.Prelude.{ℕ, suc, true, false, List, [], ◌∷◌, ◌++◌, ◌≡◌, length, drop, set}
use Rattle.chip.specs.Commands.{kind_of, byte_count}
use Rattle.sectors.specs.declared.order.Job.TheVariants.{Move}
use Rattle.sectors.specs.declared.order.Pass.TheVariants.{Read}
use Rattle.drive.specs.declared.Motion.TheVariants.{Seeking}
use Rattle.drive.specs.Drive.{first_wait}
use Rattle.fdc.specs.declared.record.Controller.{Controller}
use Rattle.fdc.specs.Commands.{step_time}
use Rattle.reached.specs.Examples.{command, readied}
use Rattle.fdc.specs.Record.{drive_at}
use Rattle.reached.specs.Runs.{writes}
use Rattle.answers.specs.Accepts.{Ready, Moves, BegunOrder, Refuses, Configured, after_bytes}
use Rattle.answers.specs.CommandResults.{NoneBusy}
use Rattle.answers.specs.OnlyWrites.{Storing, suited_in, Locked, AllHanded}
use Rattle.answers.specs.ReadsOut.{Waiting, Pending, TakenOut}
use Rattle.answers.specs.Registers.{GateOn}
use Rattle.demands.specs.Work.{image_left}
use Rattle.runs.specs.RowRuns.{box, row_given, move, marks, on}

-- motor 0 on; Configure with the FIFO on
abbrev pub waits : Controller
waits = box 0 (writes 2 0x1C ∷ command (0x13 ∷ 0x00 ∷ 0x0F ∷ 0x00 ∷ []))

-- a Seek of drive 1
abbrev pub seeks : Controller
seeks = box 0 (readied 0x1C ++ command (0x0F ∷ 0x01 ∷ 0x05 ∷ []))

-- a Read on an empty drive has failed; Version; Sense Interrupt
abbrev pub failed : Controller
failed = box 0 (row_given (move 0x46 1 2) (on 1 []))

abbrev pub versioned : Controller
versioned = box 0 (readied 0x0C ++ command (0x10 ∷ []))

abbrev pub sensed : Controller
sensed = box 0 (readied 0x0C ++ command (0x08 ∷ []))

-- a Read and a Write at work
abbrev pub reader : Controller
reader = box 0 (row_given (move 0x46 1 2) (on 3 (marks 1 1)))

abbrev pub writer : Controller
writer = box 0 (row_given (move 0x45 1 2) (on 2 (marks 1 1)))

-- a protected disk, and a Write on it that waits for its first tick
abbrev pub protected : List ℕ
protected = set (marks 1 1) 7 1

abbrev pub asked : Controller
asked = box 0 (row_given (move 0x45 1 2) [])

pub record AnswerRuns : Type 0 where
  -- it waits for a command and no drive is busy; so it takes a Read of drive 1, and a Configure
  pub ready : Ready waits
  pub none_busy : NoneBusy waits
  pub takes_read :
      BegunOrder waits (after_bytes (0x46 ∷ 0x05 ∷ 1 ∷ 1 ∷ 3 ∷ 2 ∷ 9 ∷ 0x1B ∷ 0xFF ∷ []) waits)
      (record {
        drive = 1;
        side = 1;
        job =
            Move (record { pass = Read; deleted = false; mt = false; sk = false; eot = 9; dtl = 0 })
            (record { c = 1; h = 1; r = 3; n = 2 });
      })
  pub takes_configure : Configured waits (after_bytes (0x13 ∷ 0x00 ∷ 0x27 ∷ 0x00 ∷ []) waits) 0x27 0x00
  -- drive 1 is busy; so it answers a whole Read, and a Seek of that drive, with 80
  pub busy_ready : Ready seeks
  pub busy : (drive_at 1 seeks.drives).busy ≡ true
  pub whole : suc (length (drop 1 (move 0x46 1 2))) ≡ byte_count (kind_of 0x46)
  pub refuses_read : Refuses seeks (after_bytes (move 0x46 1 2) seeks)
  pub refuses_seek : Refuses seeks (after_bytes (0x0F ∷ 0x01 ∷ 0x07 ∷ []) seeks)
  -- drive 0 is not; so it takes a Seek of that one
  pub free : (drive_at 0 seeks.drives).busy ≡ false
  pub takes_seek :
      Moves seeks (after_bytes (0x0F ∷ 0x00 ∷ 0x03 ∷ []) seeks) 0 (Seeking 3 3 (first_wait 3 (step_time seeks)))
  -- seven results wait, or one, or two; a report is pending
  pub seven : Waiting failed true 7
  pub one : Waiting versioned false 1
  pub two : Waiting sensed false 2
  pub gate : GateOn failed
  pub pending : Pending failed
  pub seven_out : TakenOut failed 7
  pub two_out : TakenOut sensed 2
  -- a Read at work does not store, a Write at work does
  pub stores_not : Storing reader.phase → ⊥
  pub suited : suited_in reader.phase ≡ true
  pub stores : Storing writer.phase
  -- a protected disk, handed to each tick of a Write; it stays
  pub locked : Locked protected
  pub handed : AllHanded 0 protected (on 3 protected)
  pub stays : image_left 0 protected (on 3 protected) asked ≡ protected
