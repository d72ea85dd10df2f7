-- 01 Result: what a command ends with, and what a tick gives that does not end it. Which end has which bytes is said
-- where it is met.
-- Assumes nothing.
use Rattle.std.specs.Prelude.{ℕ, ◌+◌, ◌*◌, ◌%◌, Bool, true, false, cond, None}
use Rattle.chip.specs.declared.fifo.Fifo.{Fifo}
use Rattle.chip.specs.Fifo.{emptied}
use Rattle.image.specs.Lent.{Effect}
use Rattle.image.specs.declared.slot.Id.{Id}
use Rattle.sectors.specs.declared.work.Site.{Site}
use Rattle.sectors.specs.declared.work.Stage.{Stage}
use Rattle.sectors.specs.declared.work.Step.{Step}
use Rattle.sectors.specs.declared.work.Task.{Task}
use Rattle.sectors.specs.declared.work.Then.TheVariants.{Ends, Works}
use Rattle.sectors.specs.declared.work.Work.{Work}
use Rattle.sectors.specs.declared.work.Work.TheVariants.{Moving}

-- 01 Result: IC 00 if ended normally, else 40
abbrev pub ic_of : Bool → ℕ
ic_of normal = cond normal 0x00 0x40

-- 01 Result: plus the side then in use and drive
abbrev pub st0_of : Bool → ℕ → ℕ → ℕ
st0_of normal drive side = ic_of normal + 4 * (side % 2) + drive % 4

-- 01 Result: every end empties the FIFO
unfoldable pub end_of : Bool → ℕ → ℕ → ℕ → ℕ → Id → Effect → Step
end_of normal drive side st1 st2 id effect =
    record {
      then = Ends (record { st0 = st0_of normal drive side; st1 = st1; st2 = st2; id = id });
      fifo = emptied;
      effect = effect;
    }

-- 01 Read: another kind of mark met: ST2 40 from then on, in every later end (D-108)
abbrev pub other_bit : Bool → ℕ
other_bit other = cond other 0x40 0x00

-- 02 2026-02: a byte was late: ST1 10 from then on, in every later end
abbrev pub late_bit : Bool → ℕ
late_bit late = cond late 0x10 0x00

-- the end of a transfer
unfoldable pub move_end : Bool → ℕ → ℕ → Id → Effect → Site → Task → Step
move_end normal st1 st2 id effect site task =
    end_of normal site.drive site.side (late_bit task.late + st1) (other_bit task.other + st2) id effect

-- 01 Result: other ends give the sector in hand
unfoldable pub move_fails : ℕ → ℕ → Site → Task → Step
move_fails st1 st2 site task = move_end false st1 st2 task.id None site task

-- a byte is late
abbrev pub tardy : Task → Task
tardy task = record { transfer = task.transfer; id = task.id; other = task.other; late = true }

-- ST1 10, and the sector in hand
unfoldable pub late_end : Effect → Site → Task → Step
late_end effect site task = move_end false 0x00 0x00 task.id effect site (tardy task)

-- a tick that ends nothing
abbrev pub goes_of : Work → Fifo → Effect → Step
goes_of work fifo effect = record { then = Works work; fifo = fifo; effect = effect }

abbrev pub moves_of : Stage → Site → Task → Fifo → Effect → Step
moves_of stage site task fifo effect = goes_of (Moving site task stage) fifo effect
