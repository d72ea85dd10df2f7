-- 01 Next: what a finished or skipped sector is followed by. The rule and the address are `next_of`, of the crate
-- below; the address it carries is used as it stands, so that R is advanced once (01 Easy 1).
-- Assumes nothing.
use Rattle.std.specs.Prelude.{ℕ, Bool, true, false, cond, None}
use Rattle.chip.specs.declared.fifo.Fifo.{Fifo}
use Rattle.chip.specs.declared.next.Next.{Next}
use Rattle.chip.specs.declared.next.Next.TheVariants.{Ended, PastEot, OtherSide, SameSide}
use Rattle.chip.specs.Next.{next_of}
use Rattle.image.specs.Lent.{Effect}
use Rattle.image.specs.declared.slot.Id.{Id}
use Rattle.sectors.specs.declared.work.Search.{Search}
use Rattle.sectors.specs.declared.work.Site.{Site}
use Rattle.sectors.specs.declared.work.Stage.TheVariants.{Searching, Turning}
use Rattle.sectors.specs.declared.work.Step.{Step}
use Rattle.sectors.specs.declared.work.Task.{Task}
use Rattle.sectors.specs.Result.{move_end, move_fails, moves_of}
use Rattle.sectors.specs.Track.{has_track, next_slot}

-- 01 Search: each search counts its own passes, and judges the IDs met anew (D-104)
abbrev pub fresh_at : ℕ → Search
fresh_at slot = record { slot = slot; passes = 0; met = false; wrong = false; bad = false }

abbrev pub with_id : Id → Task → Task
with_id id task = record { transfer = task.transfer; id = id; other = task.other; late = task.late }

abbrev pub on_side : ℕ → Site → Site
on_side side site = record { drive = site.drive; side = side; disk = site.disk }

-- 01 Next, Result: TC ends normally, EOT with ST1 80; the search goes on behind the slot used, on the other side too
-- (D-102)
unfoldable pub followed_of : Next → ℕ → Site → Task → Fifo → Effect → Step
followed_of (Ended id) slot site task fifo effect = move_end true 0x00 0x00 id effect site task
followed_of (PastEot id) slot site task fifo effect = move_end false 0x80 0x00 id effect site task
followed_of (OtherSide id) slot site task fifo effect =
    moves_of (Turning (next_slot slot site.disk.slots)) (on_side 1 site) (with_id id task) fifo effect
followed_of (SameSide id) slot site task fifo effect =
    moves_of (Searching (fresh_at (next_slot slot site.disk.slots))) site (with_id id task) fifo effect

-- 01 Next: how far R goes below EOT
abbrev pub step_of : Task → ℕ
step_of task = 1

unfoldable pub follow_of : ℕ → Bool → Site → Task → Fifo → Effect → Step
follow_of slot tc site task fifo effect =
    followed_of (next_of task.id task.transfer.eot task.transfer.mt site.side (step_of task) tc) slot site task
    fifo effect

-- 01 Data commands: for an MT turn, the tests in the tick after it, and nothing else in that tick (D-101)
unfoldable pub turn_of : ℕ → Site → Task → ℕ → Fifo → Step
turn_of slot site task head fifo =
    cond (has_track site.disk head site.side) (moves_of (Searching (fresh_at slot)) site task fifo None)
    (move_fails 0x01 0x00 site task)
