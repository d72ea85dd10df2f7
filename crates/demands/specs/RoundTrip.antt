-- What a write acknowledged, a read gives back (01 Write, Read, Result): byte for byte, zeros behind the host's last
-- byte, from any record reached since, out of either drive, as long as the image holds those sectors. Which images
-- hold them is in Held; how much a read hands over, and what its result says, is in HandedOver.
-- Assumes nothing.
use Rattle.std.specs.Prelude.{ℕ, ◌+◌, ◌*◌, ◌/◌, ◌%◌, ◌<◌, ◌≤◌, Bool, true, false, cond, List, [], ◌∷◌, ◌⊎◌, ◌≡◌, eqb, length, get_or, Some}
use Rattle.sectors.specs.declared.order.Order.{Order}
use Rattle.sectors.specs.declared.order.Transfer.{Transfer}
use Rattle.image.specs.declared.layout.Geometry.{Geometry}
use Rattle.image.specs.declared.slot.Id.{Id}
use Rattle.image.specs.Disk.{disk_in}
use Rattle.image.specs.Layout.{slot_length, offset_of, Has}
use Rattle.image.specs.Slot.{id_at}
use Rattle.image.specs.Sound.{mark_in}
use Rattle.fdc.specs.declared.record.Controller.{Controller}
use Rattle.fdc.specs.declared.record.Phase.TheVariants.{Answering}
use Rattle.reached.specs.Runs.{Call, run_calls}
use Rattle.demands.specs.Acknowledged.{done_count, result_byte}
use Rattle.demands.specs.HandedOver.{Reads, untaken, taken_over, IsOther}
use Rattle.demands.specs.History.{Sector, History, no_history, history_of}
use Rattle.demands.specs.PowerCut.{Writes, Aim, aim_no, Counts, head_of, passing}
use Rattle.demands.specs.Work.{Its, Alone, image_left}

-- the same disk with its protect byte set or not
abbrev pub with_protect : Bool → Geometry → Geometry
with_protect protect g =
    record { cylinders = g.cylinders; heads = g.heads; slots = g.slots; n = g.n; protect = protect }

-- a write command, and all or some of its calls
pub record Written (From : Controller → Type 0) : Type 0 where
  pub c : Controller
  pub from : From c
  pub order : Order
  pub transfer : Transfer
  pub id : Id
  pub accepted : Writes c order transfer id
  pub old : List ℕ
  pub g : Geometry
  pub disk : disk_in old ≡ Some g
  pub calls : List Call
  pub its : Its calls c
  pub alone : Alone order.drive old calls c

-- a read command, and all or some of its calls, of an image with that disk, protected or not
pub record ReadBack (From : Controller → Type 0) (img : List ℕ) (g : Geometry) : Type 0 where
  pub c : Controller
  pub from : From c
  pub order : Order
  pub transfer : Transfer
  pub id : Id
  pub accepted : Reads c order transfer id
  pub protect : Bool
  pub disk : disk_in img ≡ Some (with_protect protect g)
  pub calls : List Call
  pub its : Its calls c
  pub alone : Alone order.drive img calls c

-- where the mark of the command's sector number m stands
abbrev pub place_no : ℕ → List Sector → ℕ
place_no m [] = 0
place_no m (s ∷ before) = cond (eqb m (length before)) s.at (place_no m before)

module _ {From : Controller → Type 0} (w : Written From) where
  abbrev pub left_by : List ℕ
  left_by = image_left w.order.drive w.old w.calls w.c

  abbrev pub done_by : History
  done_by = history_of w.calls w.c no_history

  abbrev pub sectors_by : ℕ
  sectors_by = done_count done_by

  abbrev pub cylinder_of : ℕ
  cylinder_of = head_of w.order w.c

  abbrev pub first_of : Aim
  first_of = record { id = w.id; side = w.order.side }

  abbrev pub aim_of : ℕ → Aim
  aim_of = aim_no w.transfer first_of

  abbrev pub place_of : ℕ → ℕ
  place_of m = place_no m done_by.finished

  -- success was reported
  pub record Succeeded : Type 0 where
    pub waits : (run_calls w.calls w.c).phase ≡ Answering true
    pub normal : result_byte 0 (run_calls w.calls w.c) < 0x40

-- a slot is as it was: mark, address and bytes
abbrev pub SlotStays : Geometry → List ℕ → List ℕ → ℕ → Type 0
SlotStays g img later at = (i : ℕ) → i < slot_length g → get_or later (at + i) 0 ≡ get_or img (at + i) 0

-- a later image holds the sector that stood there: its slot is as it was, and no other slot of its track with an ID
-- has its address
pub record Holds (g : Geometry) (cylinder : ℕ) (aim : Aim) (img later : List ℕ) (at : ℕ) : Type 0 where
  pub stays : SlotStays g img later at
  pub only : (k : ℕ) → Has g cylinder aim.side k → Counts (mark_in g later cylinder aim.side k)
      → id_at later (offset_of g cylinder aim.side k) ≡ aim.id → offset_of g cylinder aim.side k ≡ at

-- ... and so of a write's sector number m
abbrev pub HoldsNo : {From : Controller → Type 0} → Written From → List ℕ → ℕ → Type 0
HoldsNo w later m = Holds w.g (cylinder_of w) (aim_of w m) (left_by w) later (place_of w m)

module _ {From : Controller → Type 0} {img : List ℕ} {g : Geometry} (r : ReadBack From img g) where
  abbrev pub got_by : List ℕ
  got_by = (taken_over r.calls r.c untaken).got

  abbrev pub cylinder_read : ℕ
  cylinder_read = head_of r.order r.c

  abbrev pub first_read : Aim
  first_read = record { id = r.id; side = r.order.side }

  abbrev pub aim_read : ℕ → Aim
  aim_read = aim_no r.transfer first_read

  -- SK skips none of the read's sectors up to number j, if that one was written by such a transfer
  abbrev pub SkipsNone : Transfer → ℕ → Type 0
  SkipsNone written j =
      r.transfer.sk ≡ true
      → (r.transfer.deleted ≡ written.deleted)
      × ((i : ℕ) → i < j → IsOther (with_protect r.protect g) cylinder_read r.transfer first_read img i → ⊥)

-- One sector, whatever else the two commands do: byte number k of a read is of its sector k div P; if that one has the
-- address and the track of sector number m, which the write finished, it is the byte that the host handed over for it.
-- The write may have failed later, or been cut
abbrev pub SectorTrip : (Controller → Type 0) → Type 0
SectorTrip From =
    (w : Written From) (m : ℕ) → m < sectors_by w → (later : List ℕ) → HoldsNo w later m
    → (r : ReadBack From later w.g) → cylinder_read r ≡ cylinder_of w
    → (k : ℕ) → k < length (got_by r) → aim_read r (k / passing w.g) ≡ aim_of w m
    → SkipsNone r w.transfer (k / passing w.g)
    → get_or (got_by r) k 0 ≡ get_or (done_by w).host (m * passing w.g + k % passing w.g) 0

-- a read of the sectors that were written: on the same cylinder, from the same address and side on; with the same EOT,
-- or MT in neither; of the same kind, or of either one if SK is 0
pub record SameSectors {From : Controller → Type 0} {img : List ℕ} (w : Written From) (r : ReadBack From img w.g)
    : Type 0 where
  pub cylinder : cylinder_read r ≡ cylinder_of w
  pub side : r.order.side ≡ w.order.side
  pub id : r.id ≡ w.id
  pub eot : (r.transfer.eot ≡ w.transfer.eot) ⊎ ((r.transfer.mt ≡ false) × (w.transfer.mt ≡ false))
  pub kind : (r.transfer.deleted ≡ w.transfer.deleted) ⊎ (r.transfer.sk ≡ false)

-- the host's bytes come back as far as they are taken, and zeros to the end of the last sector
pub record GivenBack (size : ℕ) (host got : List ℕ) : Type 0 where
  pub inside : length host ≤ size
  pub bytes : (k : ℕ) → k < length got → k < size → get_or got k 0 ≡ get_or host k 0
  pub whole : length got ≡ length host → got ≡ host

abbrev pub RoundTrip : (Controller → Type 0) → Type 0
RoundTrip From =
    (w : Written From) → Succeeded w → (later : List ℕ) → ((m : ℕ) → m < sectors_by w → HoldsNo w later m)
    → (r : ReadBack From later w.g) → SameSectors w r
    → GivenBack (sectors_by w * passing w.g) (done_by w).host (got_by r)
