-- Which images hold a write's sector still (specs/RoundTrip, `Holds`), so that a read gives it back: a sound one with
-- its slot as it was (01 Image sound), the one just left, and what another write, whole or cut, or a change elsewhere
-- leaves of one that holds it. A read leaves the image as it was (specs/HandedOver).
-- Assumes nothing.
use Rattle.std.specs.Prelude.{ℕ, ◌+◌, ◌*◌, ◌<◌, Bool, List, ◌≡◌, get_or, Some}
use Rattle.image.specs.declared.layout.Geometry.{Geometry}
use Rattle.image.specs.Layout.{Has, InSlot}
use Rattle.image.specs.Sound.{Sound}
use Rattle.fdc.specs.declared.record.Controller.{Controller}
use Rattle.demands.specs.PowerCut.{begun_ones, passing, head_of}
use Rattle.demands.specs.RoundTrip.{
  with_protect,
  Written,
  ReadBack,
  left_by,
  done_by,
  sectors_by,
  cylinder_of,
  aim_of,
  place_of,
  Succeeded,
  SlotStays,
  HoldsNo,
  got_by,
  SameSectors,
  GivenBack,
}
use Rattle.demands.specs.FormatScript.{Formats}
use Rattle.demands.specs.Work.{Its, Alone, image_left}
use Rattle.sectors.specs.declared.order.Order.{Order}
use Rattle.sectors.specs.declared.order.Plan.{Plan}
use Rattle.reached.specs.Runs.{Call}
use Rattle.image.specs.Disk.{disk_in}

-- a sound one in which its slot is as it was
abbrev pub SoundHolds : (Controller → Type 0) → Type 0
SoundHolds From =
    (w : Written From) (m : ℕ) → m < sectors_by w
    → (later : List ℕ) (protect : Bool) → Sound (with_protect protect w.g) later
    → SlotStays w.g (left_by w) later (place_of w m) → HoldsNo w later m

-- so of a round trip over a sound image
abbrev pub RoundTripSound : (Controller → Type 0) → Type 0
RoundTripSound From =
    (w : Written From) → Succeeded w → (later : List ℕ) (protect : Bool) → Sound (with_protect protect w.g) later
    → ((m : ℕ) → m < sectors_by w → SlotStays w.g (left_by w) later (place_of w m))
    → (r : ReadBack From later w.g) → SameSectors w r
    → GivenBack (sectors_by w * passing w.g) (done_by w).host (got_by r)

-- the one just left, if it was sound before the write
abbrev pub HeldAtOnce : (Controller → Type 0) → Type 0
HeldAtOnce From =
    (w : Written From) → Sound w.g w.old → (m : ℕ) → m < sectors_by w → HoldsNo w (left_by w) m

-- a write, whole or cut, that neither finished nor began a sector of that address on that track
abbrev pub Aside : {From : Controller → Type 0} → Written From → ℕ → Written From → Type 0
Aside w m v =
    (i : ℕ) → i < sectors_by v + begun_ones (done_by v).begun → cylinder_of v ≡ cylinder_of w → aim_of v i ≡ aim_of w m → ⊥

abbrev pub HeldByWrite : (Controller → Type 0) → Type 0
HeldByWrite From =
    (w : Written From) (m : ℕ) → m < sectors_by w
    → (v : Written From) (protect : Bool) → v.g ≡ with_protect protect w.g
    → Aside w m v → HoldsNo w v.old m → HoldsNo w (left_by v) m

-- whatever changes no byte of that track's slots, as setting the protect byte; or only bytes of another track's slots,
-- as a Format of that one
abbrev pub TrackStays : Geometry → ℕ → ℕ → List ℕ → List ℕ → Type 0
TrackStays g cylinder side img later =
    (k i : ℕ) → Has g cylinder side k → InSlot g cylinder side k i → get_or later i 0 ≡ get_or img i 0

abbrev pub OnlyTrack : Geometry → ℕ → ℕ → List ℕ → List ℕ → Type 0
OnlyTrack g cylinder side img later =
    (i : ℕ) → ((k : ℕ) → Has g cylinder side k → InSlot g cylinder side k i → ⊥) → get_or later i 0 ≡ get_or img i 0

abbrev pub HeldByTrack : (Controller → Type 0) → Type 0
HeldByTrack From =
    (w : Written From) (m : ℕ) → m < sectors_by w → (later next : List ℕ)
    → TrackStays w.g (cylinder_of w) (aim_of w m).side later next
    → HoldsNo w later m → HoldsNo w next m

abbrev pub HeldByOthers : (Controller → Type 0) → Type 0
HeldByOthers From =
    (w : Written From) (m : ℕ) → m < sectors_by w → (later next : List ℕ) (cylinder side : ℕ)
    → OnlyTrack w.g cylinder side later next
    → ((cylinder ≡ cylinder_of w) × (side ≡ (aim_of w m).side) → ⊥)
    → HoldsNo w later m → HoldsNo w next m

-- a Format of another track, whole or cut, of the same disk
abbrev pub HeldByFormat : (Controller → Type 0) → Type 0
HeldByFormat From =
    (w : Written From) (m : ℕ) → m < sectors_by w
    → (c : Controller) → From c → (order : Order) (plan : Plan) → Formats c order plan
    → (old : List ℕ) → disk_in old ≡ Some w.g
    → (calls : List Call) → Its calls c → Alone order.drive old calls c
    → ((head_of order c ≡ cylinder_of w) × (order.side ≡ (aim_of w m).side) → ⊥)
    → HoldsNo w old m → HoldsNo w (image_left order.drive old calls c) m
