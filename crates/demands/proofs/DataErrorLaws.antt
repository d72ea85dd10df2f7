-- Demand 3: the read after the cut ends with the data error (specs/DataError), over every list of calls.
-- Assumes nothing.
use Rattle.std.specs.Prelude.{Some}
use Prim.Native.Nat.{ℕ, ◌+◌, ◌≤◌, ◌<◌}
use native.Mathlib.Omega.{arith}
use mathlib.Core.Bool.{Bool, beq, true, false, not}
use mathlib.Core.List.{List, [], ◌∷◌}
use mathlib.Core.Logic.{◌⊎◌, inl, inr}
use mathlib.Core.Path.{◌≡◌, refl, sym, ap, ◌∙◌}
use lib.ListN.{length, get_or}
use Rattle.sectors.specs.declared.order.Order.{Order}
use Rattle.sectors.specs.declared.order.Transfer.{Transfer}
use Rattle.sectors.specs.Result.{late_bit}
use Rattle.image.specs.declared.layout.Geometry.{Geometry}
use Rattle.image.specs.declared.mark.Mark.TheVariants.{Data}
use Rattle.image.specs.declared.slot.Id.{Id}
use Rattle.image.specs.Disk.{header_in, geometry_in, disk_in}
use Rattle.image.specs.Layout.{track_at, offset_of}
use Rattle.image.specs.Slot.{id_at}
use Rattle.image.specs.Sound.{Sound}
use Rattle.image.proofs.DiskLaws.{fits_present}
use Rattle.image.proofs.MarkLaws.{mark_of_byte}
use Rattle.fdc.specs.declared.record.Controller.{Controller}
use Rattle.demands.specs.DataError.{ReadsThere, DataErrorAt, DataErrorTold, Drained}
use Rattle.demands.specs.DataError.{DataErrorIf, DataErrorInTime, DataError}
use Rattle.demands.specs.History.{Sector, Begun, no_one, some_of, History}
use Rattle.demands.specs.InTime.{Timely}
use Rattle.demands.specs.PowerCut.{Aim, Stands, Spares, AllFinished, BegunHalf, SparesAll}
use Rattle.demands.specs.PowerCut.{SparesBegun, LeftBy, head_of}
use Rattle.demands.specs.Work.{Real, image_left}
use Rattle.demands.specs.Quiet.{Quiet}
use Rattle.demands.proofs.CourseLaws.{low_drive, ends_map}
use Rattle.demands.proofs.CutLaws.{marked_counts}
use Rattle.demands.proofs.EndsLaws.{ends_in_time_quiet}
use Rattle.demands.proofs.PowerCutLaws.{power_cut_quiet}
use Rattle.demands.proofs.QuietLaws.{quiet_real}
use Rattle.demands.proofs.FollowLaws.{StopsAt, site_at, differs, has_before}
use Rattle.demands.proofs.StopLaws.{ReadOver, Serving, timely_serves, ends_so}
use Rattle.demands.proofs.TickRules.{beq_same}

-- the image as left has the disk that it had: no sector of the command touches the header
slot_behind : (g : Geometry) (cylinder side k : ℕ) → 13 ≤ offset_of g cylinder side k
unfolding offset_of track_at
slot_behind g cylinder side k = omega arith

spared : (at done i : ℕ) → 13 ≤ at → i < 8 → Spares at done i
spared at done i h l = (λ e. omega arith, λ a b. omega arith)

stands_behind : (g : Geometry) (old : List ℕ) (cylinder : ℕ) (aim : Aim) (at : ℕ) → Stands g old cylinder aim at
    → 13 ≤ at
stands_behind g old cylinder aim at s = rw s.place (slot_behind g cylinder aim.side s.slot)

header_bytes : (img old : List ℕ) → ((i : ℕ) → i < 8 → get_or img i 0 ≡ get_or old i 0) → length img ≡ length old
    → disk_in img ≡ disk_in old
unfolding disk_in header_in geometry_in
header_bytes img old e l =
    simp (
      e 0 (omega arith),
      e 1 (omega arith),
      e 2 (omega arith),
      e 3 (omega arith),
      e 4 (omega arith),
      e 5 (omega arith),
      e 6 (omega arith),
      e 7 (omega arith),
      l,
    )

module _ (g : Geometry) (cylinder : ℕ) (transfer : Transfer) (aim : Aim) (old img : List ℕ) where
  spares_all : (host : List ℕ) (sectors : List Sector) → AllFinished g cylinder transfer aim old img host sectors
      → (i : ℕ) → i < 8 → SparesAll sectors i
  spares_all host [] all i l = tt
  spares_all host (s ∷ before) all i l =
      (spared s.at _ i (stands_behind g old cylinder _ _ all.0) l, spares_all host before all.3 i l)

  spares_begun : (host : List ℕ) (n : ℕ) (begun : Begun)
      → BegunHalf g cylinder transfer aim old img host n begun → (i : ℕ) → i < 8 → SparesBegun begun i
  spares_begun host n no_one half i l = tt
  spares_begun host n (some_of at bytes) half i l = spared at _ i (stands_behind g old cylinder _ _ half.0) l

  pub disk_left : (h : History) → LeftBy g cylinder transfer aim old img h → disk_in img ≡ disk_in old
  disk_left h left =
      header_bytes img old
      (λ i l. left.others i (spares_all h.host h.finished left.finished i l)
      (spares_begun h.host _ h.begun left.begun i l))
      left.size

  -- the begun sector
  half_of : (host : List ℕ) (n : ℕ) (begun : Begun) (at : ℕ) (bytes : List ℕ) → begun ≡ some_of at bytes
      → BegunHalf g cylinder transfer aim old img host n begun
      → BegunHalf g cylinder transfer aim old img host n (some_of at bytes)
  half_of host n begun at bytes e half = rw e at half

  -- on the image as left the read finds it, and no other slot before it
  starts_broken : (h : History) → LeftBy g cylinder transfer aim old img h → Sound g old → (at : ℕ) (bytes : List ℕ)
      → h.begun ≡ some_of at bytes → (e : Controller) (order : Order) (transfer' : Transfer) (id' : Id)
      → (r : ReadsThere e order transfer' id' g old at)
      → (transfer'.deleted ≡ transfer.deleted) ⊎ (transfer'.sk ≡ false)
      → StopsAt g img (head_of order e) order.side r.slot transfer.deleted true transfer' id'
  starts_broken h left sound at bytes q e order transfer' id' r own =
      let (stands, half) = half_of h.host _ h.begun at bytes q left.begun in
      let place : ℕ → ℕ = λ k. offset_of g (head_of order e) order.side k in
      record {
        reads = r.reads;
        has = r.has;
        mark = rw (← r.there, half.mark) (mark_of_byte (Data transfer.deleted true));
        stops = inl refl;
        not_skipped = turned own;
        address = left.ids _ _ _ r.has ∙ ap (id_at old) (sym r.there) ∙ sym r.address;
        size = ap (λ (i : Id). i.n) (r.address ∙ stands.address) ∙ stands.size;
        first = λ k l m i. sound.once (head_of order e) order.side k r.slot (has_before r.has l) r.has l
            (left.marked _ _ k (has_before r.has l) (marked_counts _ m)).0
            (rw r.there at stands.marked).0
            (sym (left.ids _ _ k (has_before r.has l)) ∙ i ∙ r.address ∙ ap (id_at old) r.there);
      }
    where
      turned : (transfer'.deleted ≡ transfer.deleted) ⊎ (transfer'.sk ≡ false)
          → (transfer.deleted ≡ transfer'.deleted) ⊎ (transfer'.sk ≡ false)
      turned (inl x) = inl (sym x)
      turned (inr x) = inr x

beq_other : (a b : Bool) → (a ≡ b → ⊥) → not (beq b a) ≡ true
beq_other true true e = absurd (e refl)
beq_other true false e = refl
beq_other false true e = refl
beq_other false false e = absurd (e refl)

-- the read is over: as the broken mark says
abbrev Errs : Type 0 → Order → Id → Transfer → Transfer → Geometry → Controller → Type 0
Errs L order id transfer written g c =
    ReadOver true (differs written.deleted transfer) (site_at order.drive order.side g) id L c

-- Demand 3, after the power cut, of a read that is served so
pub data_error_if : (Served : Controller → Type 0) (L : Type 0) → Serving Served L
    → (Ends : Order → Id → Transfer → Transfer → Controller → Type 0)
    → ((order : Order) (id : Id) (transfer written : Transfer) (g : Geometry) (c : Controller)
    → Errs L order id transfer written g c → Ends order id transfer written c)
    → DataErrorIf Served Ends Quiet
data_error_if Served L serving Ends said c qc order transfer id w old g sound calls its alone at bytes q e qe order'
    transfer' id' r own calls' spins alone' more served =
    let present = fits_present old g sound.fits in
    let img : List ℕ = image_left order.drive old calls c in
    let left = power_cut_quiet c qc order transfer id w old g present calls its alone in
    let disk : disk_in img ≡ Some g = disk_left g _ transfer _ old img _ left ∙ present in
    ends_map _ _ (said order' id' transfer' transfer g) calls' e
    (ends_so img g disk order' (low_drive e order' qe r.accepted) (head_of order' e) r.slot transfer' id'
    r.moves transfer.deleted true
    (starts_broken g _ transfer _ old img _ left sound at bytes q e order' transfer' id' r own) Served L serving
    (λ l. refl) calls' e qe refl r.accepted spins alone' served
    (ends_in_time_quiet e qe order' r.accepted img g disk calls' alone' more))

-- ST2 by the kind, ST1 by whether a byte was lost
module _ (order : Order) (id : Id) (transfer written : Transfer) (g : Geometry) (c : Controller) where
  error_at : {L : Type 0} → (o : Errs L order id transfer written g c)
      → DataErrorAt (late_bit o.late + 0x20) order id transfer written c
  error_at o =
      record {
        waits = o.waits;
        st0 = o.st0;
        st1_is = o.st1;
        own_kind = λ k. rw (beq_same _ _ (sym k)) at o.st2;
        other_kind = λ k. rw (beq_other _ _ k) at o.st2;
        address = o.address;
      }

  none_lost : Errs ⊥ order id transfer written g c → DataErrorAt 0x20 order id transfer written c
  none_lost o = go o.late o.lost (error_at o)
    where
      go : (late : Bool) → (late ≡ true → ⊥) → DataErrorAt (late_bit late + 0x20) order id transfer written c
          → DataErrorAt 0x20 order id transfer written c
      go true n d = absurd (n refl)
      go false n d = d

  lost_or_not : Errs (Unit {0}) order id transfer written g c → DataErrorTold order id transfer written c
  lost_or_not o = go o.late (error_at o)
    where
      go : (late : Bool) → DataErrorAt (late_bit late + 0x20) order id transfer written c
          → DataErrorTold order id transfer written c
      go true d = inr d
      go false d = inl d

pub data_error_in_time_quiet : DataErrorInTime Quiet
data_error_in_time_quiet = data_error_if Timely ⊥ timely_serves (DataErrorAt 0x20) none_lost

pub data_error_quiet : DataError Quiet
data_error_quiet =
    data_error_if Drained (Unit {0}) (record { drained = λ c d. d; lost = λ c d l. tt }) DataErrorTold lost_or_not

pub data_error_in_time : DataErrorInTime Real
data_error_in_time c r order transfer id w old g sound calls its alone at bytes q e r' =
    data_error_in_time_quiet c (quiet_real c r) order transfer id w old g sound calls its alone at bytes q e
    (quiet_real e r')

pub data_error : DataError Real
data_error c r order transfer id w old g sound calls its alone at bytes q e r' =
    data_error_quiet c (quiet_real c r) order transfer id w old g sound calls its alone at bytes q e (quiet_real e r')
