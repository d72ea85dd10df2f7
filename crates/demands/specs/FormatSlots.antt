-- What a Format leaves of an image (01 Format): of its track, slot by slot, the slots finished, at most one begun with
-- mark 0, those after SC cleared to mark 0 and the others as they were; and every byte elsewhere as it was.
-- Assumes nothing.
use Rattle.std.specs.Prelude.{ℕ, ◌+◌, ◌-◌, ◌*◌, ◌<◌, ◌≤◌, false, List, ◌≡◌, length, get_or, Some}
use Rattle.sectors.specs.declared.order.Order.{Order}
use Rattle.sectors.specs.declared.order.Plan.{Plan}
use Rattle.image.specs.declared.layout.Geometry.{Geometry}
use Rattle.image.specs.declared.mark.Mark.TheVariants.{NoId, Data}
use Rattle.image.specs.Disk.{disk_in}
use Rattle.image.specs.Layout.{size_of, offset_of, Has, InSlot}
use Rattle.image.specs.Mark.{byte_of}
use Rattle.image.specs.Sound.{mark_in}
use Rattle.fdc.specs.declared.record.Controller.{Controller}
use Rattle.reached.specs.Runs.{Call}
use Rattle.demands.specs.FormatScript.{Formats, slot_draws, slot_stores, laid_down, stores_of}
use Rattle.demands.specs.History.{no_history, history_of}
use Rattle.demands.specs.PowerCut.{head_of}
use Rattle.demands.specs.Work.{Its, Alone, image_left}

-- slot k, whose mark stands at that place, is formatted: mark 1, the host's four bytes, B times D
pub record FormattedSlot (g : Geometry) (plan : Plan) (img host : List ℕ) (k at : ℕ) : Type 0 where
  pub mark : get_or img at 0 ≡ byte_of (Data false false)
  pub address : (i : ℕ) → i < 4 → get_or img (at + 1 + i) 0 ≡ get_or host (k * slot_draws + i) 0
  pub laid : (i : ℕ) → i < size_of g.n → get_or img (at + 5 + i) 0 ≡ laid_down plan host k i

module _ (g : Geometry) (cylinder side : ℕ) (plan : Plan) (host : List ℕ) (m : ℕ) (old img : List ℕ) where
  -- all bytes of a slot are as they were
  abbrev pub SameSlot : ℕ → Type 0
  SameSlot k = (i : ℕ) → InSlot g cylinder side k i → get_or img i 0 ≡ get_or old i 0

  -- after m stores
  pub record SlotsLeft : Type 0 where
    pub formatted : (k : ℕ) → k < plan.sc → k * slot_stores g + slot_stores g ≤ m
        → FormattedSlot g plan img host k (offset_of g cylinder side k)
    pub begun : (k : ℕ) → k < plan.sc → k * slot_stores g < m → m < k * slot_stores g + slot_stores g
        → mark_in g img cylinder side k ≡ byte_of NoId
    pub to_come : (k : ℕ) → k < plan.sc → m ≤ k * slot_stores g → SameSlot k
    -- the slots after SC: their marks, one after the other, and nothing else of them
    pub cleared : (k : ℕ) → plan.sc ≤ k → k < g.slots → plan.sc * slot_stores g + (k - plan.sc) < m
        → mark_in g img cylinder side k ≡ byte_of NoId
    pub to_clear : (k : ℕ) → plan.sc ≤ k → k < g.slots → m ≤ plan.sc * slot_stores g + (k - plan.sc) → SameSlot k
    pub behind : (k i : ℕ) → plan.sc ≤ k → k < g.slots → InSlot g cylinder side k i
        → (i ≡ offset_of g cylinder side k → ⊥) → get_or img i 0 ≡ get_or old i 0

-- after any of a Format's calls
abbrev pub FormatSlots : (Controller → Type 0) → Type 0
FormatSlots From =
    (c : Controller) → From c → (order : Order) (plan : Plan) → Formats c order plan
    → (old : List ℕ) (g : Geometry) → disk_in old ≡ Some g
    → (calls : List Call) → Its calls c → Alone order.drive old calls c
    → SlotsLeft g (head_of order c) order.side plan (history_of calls c no_history).host (stores_of calls c 0) old
    (image_left order.drive old calls c)

-- place i is in no slot of that track
abbrev pub OffTrack : Geometry → ℕ → ℕ → ℕ → Type 0
OffTrack g cylinder side i = (k : ℕ) → Has g cylinder side k → InSlot g cylinder side k i → ⊥

-- every byte off its track stays as it was, and so does the length
pub record KeepsElsewhere (g : Geometry) (cylinder side : ℕ) (old img : List ℕ) : Type 0 where
  pub others : (i : ℕ) → OffTrack g cylinder side i → get_or img i 0 ≡ get_or old i 0
  pub size : length img ≡ length old

abbrev pub FormatStays : (Controller → Type 0) → Type 0
FormatStays From =
    (c : Controller) → From c → (order : Order) (plan : Plan) → Formats c order plan
    → (old : List ℕ) (g : Geometry) → disk_in old ≡ Some g
    → (calls : List Call) → Its calls c → Alone order.drive old calls c
    → KeepsElsewhere g (head_of order c) order.side old (image_left order.drive old calls c)
