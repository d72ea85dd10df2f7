-- The tick: document 01, What the box models, Stepping, Commands (Sense Drive) and Data commands, whose rules are
-- the engine's.
-- Assumes nothing.
use Rattle.std.specs.Prelude.{ℕ, ◌+◌, ◌%◌, Bool, true, false, ◌&&◌, cond, List, [], ◌∷◌, eqb, ltb, None, Some}
use Rattle.chip.specs.declared.fifo.Fifo.{Fifo}
use Rattle.drive.specs.declared.Drive.{Drive}
use Rattle.drive.specs.Drive.{stands_in}
use Rattle.drive.specs.Step.{tick_drive}
use Rattle.sectors.specs.declared.order.Order.{Order}
use Rattle.sectors.specs.declared.work.Step.{Step}
use Rattle.sectors.specs.declared.work.Then.{Then}
use Rattle.sectors.specs.declared.work.Then.TheVariants.{Ends, Works}
use Rattle.sectors.specs.declared.work.Work.{Work}
use Rattle.engine.specs.First.{begin_of}
use Rattle.engine.specs.Step.{drive_of, go_on_of}
use Rattle.image.specs.Disk.{Disk}
use Rattle.image.specs.Disk.{disk_in}
use Rattle.image.specs.Lent.{pick_of, stored_as}
use Rattle.fdc.specs.declared.record.Phase.{Phase}
use Rattle.fdc.specs.declared.record.Phase.TheVariants.{Idle, Gathering, Starting, Working, Sensing, Answering}
use Rattle.fdc.specs.declared.record.Controller.{Controller}
use Rattle.fdc.specs.declared.ticks.Decision.{Decision}
use Rattle.fdc.specs.declared.answer.Answer.{Answer}
use Rattle.fdc.specs.declared.answer.Reply.{Reply}
use Rattle.fdc.specs.declared.answer.Reply.TheVariants.{Done}
use Rattle.fdc.specs.Answer.{refused, answer_of}
use Rattle.fdc.specs.Commands.{answered_of, said_of, step_time}
use Rattle.fdc.specs.Record.{padded, drive_at, valid_of, with_drives, with_fifo, with_phase}
use Rattle.fdc.specs.Registers.{held_in, motor_in}

-- 01 Image mounted: the disk of a drive in its image, if its motor bit is on
unfoldable pub seen_of : ℕ → ℕ → List ℕ → Disk
seen_of dor drive img = cond (motor_in dor drive) (disk_in img) None

abbrev pub present_in : Disk → Bool
present_in None = false
present_in (Some g) = true

-- 01 Commands Sense Drive: an empty drive counts as unprotected
abbrev pub protected_in : Disk → Bool
protected_in None = false
protected_in (Some g) = g.protect

-- 01 Stepping: several drives may step in one tick; drives 2 and 3 are never mounted
unfoldable pub tick_all : List Drive → Bool → Bool → ℕ → List Drive
tick_all drives mounted0 mounted1 ticks =
    tick_drive 0 mounted0 ticks (drive_at 0 drives)
    ∷ tick_drive 1 mounted1 ticks (drive_at 1 drives)
    ∷ tick_drive 2 false ticks (drive_at 2 drives)
    ∷ tick_drive 3 false ticks (drive_at 3 drives)
    ∷ []

-- no drive has a Seek or Recalibrate going on
abbrev pub stands_at : ℕ → List Drive → Bool
stands_at k drives = stands_in (drive_at k drives).motion

abbrev pub all_stand : List Drive → Bool
all_stand drives = stands_at 0 drives && stands_at 1 drives && stands_at 2 drives && stands_at 3 drives

unfoldable pub stepped_of : List ℕ → List ℕ → Controller → Controller
stepped_of a b c =
    with_drives
    (tick_all c.drives (present_in (seen_of c.registers.dor 0 a)) (present_in (seen_of c.registers.dor 1 b))
    (step_time c))
    c

-- 01 Commands Sense Drive: write protect 40, track 0 10 (the head at 0, never for drives 2 and 3), 28 always, side
-- and drive
unfoldable pub st3_of : ℕ → Bool → ℕ → ℕ
st3_of unit protect head = 0x28 + cond protect 0x40 0 + cond (ltb (unit % 4) 2 && eqb head 0) 0x10 0 + unit % 8

unfoldable pub sensed_at : ℕ → List ℕ → Controller → Controller
sensed_at unit img c =
    said_of
    (st3_of unit (protected_in (seen_of c.registers.dor (unit % 4) img)) (drive_at (unit % 4) c.drives).head)
    c

-- a tick that leaves both images as they are
unfoldable pub still_of : Controller → Decision
still_of c = record { controller = c; drive = 0; effect = None }

-- 01 Commands: ST0 ST1 ST2 C H R N; or the command goes on
unfoldable pub settled_of : Then → Fifo → Controller → Controller
settled_of (Ends v) fifo c =
    with_fifo fifo
    (answered_of true (padded (v.st0 ∷ v.st1 ∷ v.st2 ∷ v.id.c ∷ v.id.h ∷ v.id.r ∷ v.id.n ∷ [])) 7 c)
settled_of (Works work) fifo c = with_fifo fifo (with_phase (Working work) c)

unfoldable pub decided_of : ℕ → Step → Controller → Decision
decided_of drive step c =
    record { controller = settled_of step.then step.fifo c; drive = drive; effect = step.effect }

-- the first tick of a data command, Read ID or Format
unfoldable pub start_tick : Order → List ℕ → Controller → Decision
start_tick order img c =
    decided_of order.drive
    (begin_of order (seen_of c.registers.dor order.drive img) (drive_at (order.drive % 4) c.drives).head
    c.fifo)
    c

-- and its later ones
unfoldable pub work_tick : Work → List ℕ → Controller → Decision
work_tick work img c =
    decided_of (drive_of work)
    (go_on_of work (seen_of c.registers.dor (drive_of work) img) (drive_at (drive_of work % 4)
    c.drives).head img c.fifo
    c.registers.efifo c.registers.fifothr)
    c

-- 01 Calls: the image of the drive named is picked from the two lent
unfoldable pub decide_in : Phase → List ℕ → List ℕ → Controller → Decision
decide_in Idle a b c = still_of c
decide_in (Gathering entry) a b c = still_of c
decide_in (Starting order) a b c = start_tick order (pick_of order.drive a b) c
decide_in (Working work) a b c = work_tick work (pick_of (drive_of work) a b) c
decide_in (Sensing unit) a b c = still_of (sensed_at unit (pick_of (unit % 4) a b) c)
decide_in (Answering loud) a b c = still_of c

-- 01 Calls: held in reset a tick does nothing; else the drives step, then the phase has its tick
unfoldable pub decide_of : List ℕ → List ℕ → Controller → Decision
decide_of a b c = cond (held_in c.registers.dor) (still_of c) (decide_in c.phase a b (stepped_of a b c))

-- 01 Refusals 4: a damaged record changes nothing; else the decision, whose effect is made on the image of its drive
unfoldable pub ruled_of : List ℕ → List ℕ → Controller → Decision
ruled_of a b c = cond (valid_of c) (decide_of a b c) (still_of c)

abbrev pub tick_reply : Controller → Reply
tick_reply c = cond (valid_of c) Done (refused 4)

unfoldable pub tick_of : List ℕ → List ℕ → Controller → Answer
tick_of a b c = answer_of (tick_reply c) (ruled_of a b c).controller

-- 01 Calls: the image of drive k after a tick, lent as img
unfoldable pub image_after : ℕ → List ℕ → List ℕ → Controller → List ℕ → List ℕ
image_after k a b c img = stored_as (ruled_of a b c).drive k (ruled_of a b c).effect img
