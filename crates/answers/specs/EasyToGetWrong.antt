-- Demand 2, what document 01 says is easy to get wrong, said of the box's own records and images.
-- Assumes nothing.
use Rattle.std.specs.Prelude.{ℕ, ◌+◌, ◌/◌, ◌%◌, ◌<◌, ◌≤◌, Bool, true, false, List, ◌≡◌, get_or}
use Rattle.sectors.specs.declared.work.Site.{Site}
use Rattle.sectors.specs.declared.work.Stage.{Stage}
use Rattle.sectors.specs.declared.work.Stage.TheVariants.{Storing}
use Rattle.sectors.specs.declared.work.Task.{Task}
use Rattle.sectors.specs.declared.work.Work.TheVariants.{Moving}
use Rattle.image.specs.Layout.{size_of, offset_of}
use Rattle.fdc.specs.declared.record.Controller.{Controller}
use Rattle.fdc.specs.declared.record.Phase.TheVariants.{Working, Answering}
use Rattle.fdc.specs.Record.{drive_at}
use Rattle.reached.specs.Runs.{ticks, writes, after}
use Rattle.fdc.specs.Ticks.{image_after}
use Rattle.demands.specs.Acknowledged.{result_byte}
use Rattle.answers.specs.Registers.{Undamaged, Free}
use Rattle.answers.specs.Results.{During, AtNext, head_at}

-- R of the sector in hand
pub data Seeks (e : Controller) (r : ℕ) : Type 0 where
  seeks : (site : Site) (task : Task) (stage : Stage) → e.phase ≡ Working (Moving site task stage) → task.id.r ≡ r
      → Seeks e r

-- a tick in which a sector of a transfer is done (01 Next)
pub record EasyNext (c : Controller) (site : Site) (task : Task) (a b : List ℕ) (stage : Stage) (other : Bool)
    : Type 0 where
  -- 1. Result R is advanced again by the caller, or not at all: in the result it is one on, FF to 00, and 1 at EOT
  pub r_once : During c (Moving site task stage) a b → AtNext c site task a b stage true other
      → (task.id.r ≡ task.transfer.eot → ⊥) → result_byte 5 (after (ticks a b) c) ≡ (task.id.r + 1) % 256
  pub r_at_eot : During c (Moving site task stage) a b → AtNext c site task a b stage true other
      → task.id.r ≡ task.transfer.eot → result_byte 5 (after (ticks a b) c) ≡ 1
  -- and so it is of the sector sought next, which is sector 1 after an MT turn
  pub r_goes_on : During c (Moving site task stage) a b → AtNext c site task a b stage false other
      → (task.id.r ≡ task.transfer.eot → ⊥) → Seeks (after (ticks a b) c) ((task.id.r + 1) % 256)
  pub r_turns : During c (Moving site task stage) a b → AtNext c site task a b stage false other
      → task.id.r ≡ task.transfer.eot → task.transfer.mt ≡ true → site.side ≡ 0 → Seeks (after (ticks a b) c) 1
  -- 2. the last byte without TC counted as a normal end: if it ends there, IC is not 00
  pub no_tc : During c (Moving site task stage) a b → AtNext c site task a b stage false other
      → (after (ticks a b) c).phase ≡ Answering true → 0x40 ≤ result_byte 0 (after (ticks a b) c)

pub record EasyToGetWrong : Type 0 where
  pub next : (c : Controller) (site : Site) (task : Task) (a b : List ℕ) (stage : Stage) (other : Bool)
      → EasyNext c site task a b stage other
  -- 3. PCN taken for the head: after reset they differ: PCN is 0, the head where it was
  pub pcn_dor : (c : Controller) (byte k : ℕ) → Undamaged c → byte / 4 % 2 ≡ 0 → k < 4
      → ((drive_at k (after (writes 2 byte) c).drives).pcn ≡ 0)
      × ((drive_at k (after (writes 2 byte) c).drives).head ≡ (drive_at k c.drives).head)
  pub pcn_dsr : (c : Controller) (byte k : ℕ) → Undamaged c → Free c → byte / 128 ≡ 1 → k < 4
      → ((drive_at k (after (writes 4 byte) c).drives).pcn ≡ 0)
      × ((drive_at k (after (writes 4 byte) c).drives).head ≡ (drive_at k c.drives).head)
  -- 4. the good mark stored before the last byte: while a byte of the sector is left, no tick touches its mark
  pub mark_waits : (c : Controller) (site : Site) (task : Task) (a b : List ℕ) (slot done : ℕ)
      → During c (Moving site task (Storing slot done)) a b → done < size_of site.disk.n → (k : ℕ) (img : List ℕ)
      → get_or (image_after k a b c img) (offset_of site.disk (head_at site.drive c) site.side slot) 0
      ≡ get_or img (offset_of site.disk (head_at site.drive c) site.side slot) 0
