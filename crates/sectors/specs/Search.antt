-- 01 Search: one slot a tick, and what the look gives; 01 Read, of a mark at the match.
-- Assumes nothing.
use Rattle.std.specs.Prelude.{ℕ, ◌+◌, Bool, ◌&&◌, ◌||◌, not, true, cond, List, eqb, leb, None}
use Rattle.std.specs.Bool.{beq}
use Rattle.chip.specs.declared.fifo.Fifo.{Fifo}
use Rattle.image.specs.declared.mark.Mark.{Mark}
use Rattle.image.specs.declared.mark.Mark.TheVariants.{NoId, Data, NoData}
use Rattle.image.specs.declared.slot.Id.{Id}
use Rattle.image.specs.declared.slot.Slot.{Slot}
use Rattle.image.specs.Mark.{mark_of}
use Rattle.image.specs.Slot.{slot_at}
use Rattle.sectors.specs.declared.order.Pass.{Pass}
use Rattle.sectors.specs.declared.order.Pass.TheVariants.{Read, Write}
use Rattle.sectors.specs.declared.work.Search.{Search}
use Rattle.sectors.specs.declared.work.Site.{Site}
use Rattle.sectors.specs.declared.work.Stage.TheVariants.{Searching, Reading, Awaiting}
use Rattle.sectors.specs.declared.work.Step.{Step}
use Rattle.sectors.specs.declared.work.Task.{Task}
use Rattle.sectors.specs.Follow.{follow_of}
use Rattle.sectors.specs.Result.{move_fails, moves_of}
use Rattle.sectors.specs.Track.{mark_place, next_slot}

-- 01 Search: C H R N equal the command's and N is the header's
abbrev pub matches : Id → Id → ℕ → Bool
matches id wanted n =
    eqb id.c wanted.c && eqb id.h wanted.h && eqb id.r wanted.r && eqb id.n wanted.n
    && eqb id.n n

-- an ID that does not match, whatever its H, R, N and mark (D-104): met, with another C below FF,
-- with another C that is FF
abbrev pub noted : Id → Id → Search → Search
noted id wanted look =
    record {
      slot = look.slot;
      passes = look.passes;
      met = true;
      wrong = look.wrong || not (eqb id.c wanted.c) && not (eqb id.c 0xFF);
      bad = look.bad || not (eqb id.c wanted.c) && eqb id.c 0xFF;
    }

-- 01 Search: ST2 10 if an ID had another C below FF and 02 if one had another C that is FF; both may stand
abbrev pub cylinder_bits : Bool → Bool → ℕ
cylinder_bits wrong bad = cond wrong 0x10 0x00 + cond bad 0x02 0x00

-- 01 Search: at the second pass: no ID met, ST1 01; else ST1 04
unfoldable pub not_found : Search → Site → Task → Step
not_found look site task =
    cond look.met (move_fails 0x04 (cylinder_bits look.wrong look.bad) site task) (move_fails 0x01 0x00 site task)

-- the look at slot S - 1 counts a pass
abbrev pub passes_after : ℕ → ℕ → ℕ → ℕ
passes_after slot slots passes = cond (leb slots (slot + 1)) 1 passes

-- the look that makes the second pass
abbrev pub second_pass : ℕ → ℕ → ℕ → Bool
second_pass slot slots passes = leb slots (slot + 1) && leb 1 passes

abbrev pub one_on : Search → ℕ → Search
one_on look slots =
    record {
      slot = next_slot look.slot slots;
      passes = passes_after look.slot slots look.passes;
      met = look.met;
      wrong = look.wrong;
      bad = look.bad;
    }

-- 01 Search: one pass when slot S - 1 is looked at and doesn't match (D-103); the second fails
unfoldable pub missed_of : Search → Site → Task → Fifo → Step
missed_of look site task fifo =
    cond (second_pass look.slot site.disk.slots look.passes) (not_found look site task)
    (moves_of (Searching (one_on look site.disk.slots)) site task fifo None)

-- 01 Read: other kind of mark: ST2 40 from then on
abbrev pub with_other : Bool → Task → Task
with_other other task =
    record { transfer = task.transfer; id = task.id; other = task.other || other; late = task.late }

-- 01 Read: SK 1 skips another kind in the tick of the match, broken or not, by Next; a skipped slot counts as used
-- (D-102). The mark seen at the match holds to the sector's end
unfoldable pub read_found : Bool → Bool → ℕ → Site → Task → Fifo → Step
read_found other broken slot site task fifo =
    cond (other && task.transfer.sk) (follow_of slot fifo.tc site (with_other other task) fifo None)
    (moves_of (Reading (record { slot = slot; broken = broken; other = other }) 0) site (with_other other task) fifo
    None)

-- a match with data: a Write waits for its byte, whatever stood there (D-113)
unfoldable pub data_found : Pass → Bool → Bool → ℕ → Site → Task → Fifo → Step
data_found Read deleted broken slot site task fifo =
    read_found (not (beq deleted task.transfer.deleted)) broken slot site task fifo
data_found Write deleted broken slot site task fifo = moves_of (Awaiting slot 0) site task fifo None

-- 01 Read: mark 5: ST1 01, ST2 01. A write takes mark 5 too (D-113)
unfoldable pub bare_found : Pass → ℕ → Site → Task → Fifo → Step
bare_found Read slot site task fifo = move_fails 0x01 0x01 site task
bare_found Write slot site task fifo = moves_of (Awaiting slot 0) site task fifo None

-- 01 Search: it matches when the mark isn't 0 and the address is the command's
unfoldable pub looked_of : Mark → Id → Search → Site → Task → Fifo → Step
looked_of NoId id look site task fifo = missed_of look site task fifo
looked_of (Data deleted broken) id look site task fifo =
    cond (matches id task.id site.disk.n)
    (data_found task.transfer.pass deleted broken look.slot site task fifo)
    (missed_of (noted id task.id look) site task fifo)
looked_of NoData id look site task fifo =
    cond (matches id task.id site.disk.n) (bare_found task.transfer.pass look.slot site task fifo)
    (missed_of (noted id task.id look) site task fifo)

abbrev pub slot_of : List ℕ → Site → ℕ → ℕ → Slot
slot_of img site head slot = slot_at img (mark_place site head slot)

-- 01 Search: one slot a tick
unfoldable pub search_of : Search → Site → Task → ℕ → List ℕ → Fifo → Step
search_of look site task head img fifo =
    looked_of (mark_of (slot_of img site head look.slot).mark)
    (slot_of img site head look.slot).id look site task fifo
