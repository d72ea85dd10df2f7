-- A read whose first sector is of the other kind (specs/OtherKind), over every list of calls: that sector stops it
-- (proofs/StopLaws), and a sound image has it once.
-- Assumes nothing.
use Prim.Native.Nat.{ℕ, ◌+◌}
use mathlib.Core.Bool.{Bool, beq, true, false, not}
use mathlib.Core.List.{List}
use mathlib.Core.Logic.{inl, inr}
use mathlib.Core.Path.{◌≡◌, refl, sym, ap, ◌∙◌}
use lib.ListN.{get_or}
use Rattle.sectors.specs.declared.order.Order.{Order}
use Rattle.sectors.specs.declared.order.Transfer.{Transfer}
use Rattle.sectors.specs.Result.{late_bit}
use Rattle.image.specs.declared.layout.Geometry.{Geometry}
use Rattle.image.specs.declared.mark.Mark.TheVariants.{Data}
use Rattle.image.specs.declared.slot.Id.{Id}
use Rattle.image.specs.Mark.{mark_of}
use Rattle.image.specs.Slot.{id_at}
use Rattle.image.specs.Sound.{Sound}
use Rattle.image.proofs.DiskLaws.{fits_present}
use Rattle.image.proofs.MarkLaws.{mark_of_byte}
use Rattle.fdc.specs.declared.record.Controller.{Controller}
use Rattle.demands.specs.Acknowledged.{result_byte}
use Rattle.demands.specs.HandedOver.{Reads, IsGoodOther}
use Rattle.demands.specs.InTime.{Timely}
use Rattle.demands.specs.OtherKind.{OtherEnded, ReadsOther, ReadsOtherInTime}
use Rattle.demands.specs.PowerCut.{Aim, head_of}
use Rattle.demands.specs.Quiet.{Quiet}
use Rattle.demands.specs.Work.{Real}
use Rattle.demands.proofs.CourseLaws.{low_drive, ends_map}
use Rattle.demands.proofs.CutLaws.{marked_counts}
use Rattle.demands.proofs.EndsLaws.{ends_in_time_quiet}
use Rattle.demands.proofs.FollowLaws.{StopsAt, site_at, differs, has_before}
use Rattle.demands.proofs.InTimeLaws.{prompt_in_time_quiet}
use Rattle.demands.proofs.QuietLaws.{quiet_real}
use Rattle.demands.proofs.StopLaws.{ReadOver, timely_serves, ends_so}

not_same : (a : Bool) → not (beq (not a) a) ≡ true
not_same true = refl
not_same false = refl

module _ (order : Order) (transfer : Transfer) (id : Id) (g : Geometry) where
  abbrev aim : Aim
  aim = record { id = id; side = order.side }

  -- 01 Image sound: the search finds that sector, and no other slot before it
  stops_at : (c : Controller) → Reads c order transfer id → transfer.sk ≡ false → (img : List ℕ) → Sound g img
      → (o : IsGoodOther g (head_of order c) transfer aim img 0)
      → StopsAt g img (head_of order c) order.side o.stands.slot (not transfer.deleted) false transfer id
  stops_at c r sk img sound o =
      let s = o.stands in
      let address = ap (id_at img) (sym s.place) ∙ s.address in
      record {
        reads = r.reads;
        has = s.has;
        mark = ap (λ (k : ℕ). mark_of (get_or img k 0)) (sym s.place) ∙ ap mark_of o.mark
            ∙ mark_of_byte (Data (not transfer.deleted) false);
        stops = inr (not_same transfer.deleted);
        not_skipped = inr sk;
        address = address;
        size = s.size;
        first = λ k l m i. sound.once (head_of order c) order.side k s.slot (has_before s.has l) s.has l
            (marked_counts _ m).0 (rw s.place at s.marked).0 (i ∙ sym address);
      }

  ended_so : (c : Controller)
      → ReadOver false (differs (not transfer.deleted) transfer) (site_at order.drive order.side g) id ⊥ c
      → OtherEnded order id c
  ended_so c o = go o.late o.lost o.st1
    where
      go : (late : Bool) → (late ≡ true → ⊥) → result_byte 1 c ≡ late_bit late + 0x00 → OtherEnded order id c
      go true n x = absurd (n refl)
      go false n x =
          record {
            waits = o.waits;
            st0 = o.st0;
            st1 = x;
            st2 = rw (not_same transfer.deleted) at o.st2;
            address = o.address;
          }

pub reads_other_in_time_quiet : ReadsOtherInTime Quiet
reads_other_in_time_quiet c q order transfer id r sk img g sound o calls spins alone timely more =
    let disk = fits_present img g sound.fits in
    ends_map _ _ (ended_so order transfer id g) calls c
    (ends_so img g disk order (low_drive c order q r.accepted) (head_of order c) o.stands.slot transfer id
    r.moves (not transfer.deleted) false (stops_at order transfer id g c r sk img sound o) Timely ⊥ timely_serves
    absurd calls c q refl r.accepted spins alone timely (ends_in_time_quiet c q order r.accepted img g disk calls alone more))

pub reads_other_quiet : ReadsOther Quiet
reads_other_quiet c q order transfer id r sk img g sound o calls spins alone prompt =
    reads_other_in_time_quiet c q order transfer id r sk img g sound o calls spins alone
    (prompt_in_time_quiet c q order transfer id (record { accepted = r.accepted; moves = r.moves }) calls prompt)

pub reads_other_in_time : ReadsOtherInTime Real
reads_other_in_time c r = reads_other_in_time_quiet c (quiet_real c r)

pub reads_other : ReadsOther Real
reads_other c r = reads_other_quiet c (quiet_real c r)
