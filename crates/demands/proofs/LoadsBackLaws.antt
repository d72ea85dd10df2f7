-- What a write acknowledged comes back (specs/LoadsBack): the read succeeds on the image that holds the sectors, and
-- by the round trip its bytes are the host's.
-- Assumes nothing.
use Rattle.std.specs.Prelude.{Some}
use Prim.Native.Nat.{ℕ, zero, suc, ◌+◌, ◌-◌, ◌*◌, ◌<◌, ◌≤◌}
use native.Mathlib.Omega.{arith}
use mathlib.Core.Bool.{Bool, true, false, false≢true}
use mathlib.Core.List.{List, [], ◌∷◌, ◌++◌}
use mathlib.Core.Logic.{inl, inr}
use mathlib.Core.Path.{◌≡◌, refl, sym, ap, ◌∙◌, subst}
use lib.ListN.{length, get_or}
use Rattle.image.specs.declared.layout.Geometry.{Geometry}
use Rattle.image.specs.declared.mark.Mark.TheVariants.{Data}
use Rattle.image.specs.Disk.{disk_in}
use Rattle.image.specs.Layout.{track_length, track_at, offset_of}
use Rattle.image.specs.Mark.{byte_of}
use Rattle.image.specs.Sound.{Sound}
use Rattle.image.proofs.DiskLaws.{fits_present}
use Rattle.sectors.specs.declared.order.Order.{Order}
use Rattle.sectors.specs.declared.order.Transfer.{Transfer}
use Rattle.fdc.specs.declared.record.Controller.{Controller}
use Rattle.reached.specs.Moves.{tick_count}
use Rattle.reached.specs.Runs.{Call, after, run_calls}
use Rattle.demands.specs.Acknowledged.{result_byte, result_id, Acknowledges}
use Rattle.demands.specs.DataError.{Spins}
use Rattle.demands.specs.EndsInTime.{bound_of}
use Rattle.demands.specs.HandedOver.{Taken, untaken, taken_by, taken_over, IsGood, HandedBy}
use Rattle.demands.specs.InTime.{InTime}
use Rattle.demands.specs.LoadsBack.{SameAgain, Loads, LoadsBack}
use Rattle.demands.specs.PowerCut.{Aim, aim_no, Followed, Counts, Stands, head_of, passing}
use Rattle.demands.specs.Quiet.{Quiet}
use Rattle.demands.specs.ReadSucceeds.{AsTaken, TellsAt, ReadTells, AllGood}
use Rattle.demands.specs.RoundTrip.{
  with_protect,
  Written,
  left_by,
  done_by,
  sectors_by,
  cylinder_of,
  first_of,
  aim_of,
  place_of,
  Succeeded,
  SlotStays,
  HoldsNo,
  GivenBack,
}
use Rattle.demands.specs.Succeeds.{Fill, Success}
use Rattle.demands.specs.Work.{Real, Its, Alone, image_left, EndsWith}
use Rattle.demands.proofs.AcknowledgedLaws.{acknowledged_quiet}
use Rattle.demands.proofs.HandedOverLaws.{handed_over_quiet, to_start}
use Rattle.demands.proofs.HeldLaws.{id_same, own_id_lem, sound_holds_quiet}
use Rattle.demands.proofs.QuietLaws.{quiet_real}
use Rattle.demands.proofs.ReadSucceedsLaws.{read_succeeds_in_time_quiet}
use Rattle.demands.proofs.RoundTripLaws.{protect_has, left_of, stood, round_trip_quiet, quiet_write}
use Rattle.demands.proofs.AfterTcLaws.{most_along}
use Rattle.demands.proofs.CourseLaws.{low_drive}

-- The calls of a command that ends within a list: a first part of it.

record Part (P : Controller → Type 0) (Q : Taken → Type 0) (drive : ℕ) (img : List ℕ) (calls : List Call)
    (c : Controller) (t : Taken) : Type 0 where
  part : List Call
  rest : List Call
  split : part ++ rest ≡ calls
  its : Its part c
  alone : Alone drive img part c
  ends : P (run_calls part c)
  along : AsTaken Q part c t
  took : Q (taken_over part c t)

module _ (P : Controller → Type 0) (Q : Taken → Type 0) (drive : ℕ) where
  part_of : (calls : List Call) (c : Controller) (img : List ℕ) (t : Taken) → EndsWith P calls c
      → Alone drive img calls c → AsTaken Q calls c t → Q t → Part P Q drive img calls c t
  unfolding EndsWith Alone AsTaken Its run_calls taken_over
  part_of [] c img t (over, p) a s q =
      record { part = []; rest = []; split = refl; its = tt; alone = tt; ends = p; along = tt; took = q }
  part_of (call ∷ calls) c img t (inl (over, p)) a s q =
      record { part = []; rest = call ∷ calls; split = refl; its = tt; alone = tt; ends = p; along = tt; took = q }
  part_of (call ∷ calls) c img t (inr (w, e)) a s q =
      let (lent, alone) = a w in
      let (now, later) = s w in
      let p = part_of calls (after call c) _ (taken_by call c t) e alone later now in
      record {
        part = call ∷ p.part;
        rest = p.rest;
        split = ap (λ (x : List Call). call ∷ x) p.split;
        its = (w, p.its);
        alone = λ w'. (lent, p.alone);
        ends = p.ends;
        along = λ w'. (now, p.along);
        took = p.took;
      }

-- The image that holds the sectors is good for the read.

good_counts : (d : Bool) → Counts (byte_of (Data d false))
good_counts true = (omega arith, omega arith)
good_counts false = (omega arith, omega arith)

stands_so : (protect : Bool) (g : Geometry) (img : List ℕ) (cylinder : ℕ) (aim : Aim) (at : ℕ)
    → Stands g img cylinder aim at → Stands (with_protect protect g) img cylinder aim at
unfolding offset_of track_at track_length
stands_so protect g img cylinder aim at st =
    record {
      slot = st.slot;
      has = protect_has protect g st.has;
      place = st.place;
      marked = st.marked;
      address = st.address;
      size = st.size;
    }

aim_equal : (t u : Transfer) (a b : Aim) → t.eot ≡ u.eot → t.mt ≡ u.mt → a ≡ b → (j : ℕ)
    → aim_no t a j ≡ aim_no u b j
aim_equal t u a b e f s zero = s
aim_equal t u a b e f s (suc j) = rw (aim_equal t u a b e f s j, e, f)

module _ (w : Written Quiet) (done : Succeeded w) (some : 0 < length (done_by w).host) (later : List ℕ)
    (protect : Bool) (sound : Sound (with_protect protect w.g) later)
    (stays : (m : ℕ) → m < sectors_by w → SlotStays w.g (left_by w) later (place_of w m))
    (c : Controller) (q : Quiet c) (order : Order) (transfer : Transfer) (same : SameAgain w c order transfer) where
  abbrev g' : Geometry
  g' = with_protect protect w.g

  abbrev aim : Aim
  aim = record { id = w.id; side = order.side }

  abbrev bytes : ℕ
  bytes = length (done_by w).host

  abbrev last : ℕ
  last = sectors_by w - 1

  holds : (m : ℕ) → m < sectors_by w → HoldsNo w later m
  holds m l = sound_holds_quiet w m l later protect sound (stays m l)

  aims : (j : ℕ) → aim_no transfer aim j ≡ aim_of w j
  aims = aim_equal transfer w.transfer aim (first_of w) same.eot same.mt (rw same.side)

  mark_later : (m : ℕ) → m < sectors_by w → get_or later (place_of w m) 0 ≡ byte_of (Data w.transfer.deleted false)
  mark_later m l =
      let e : place_of w m + 0 ≡ place_of w m = omega arith in
      (rw e at (stays m l 0 (omega arith))) ∙ (stood w m l).1.mark

  stands_later : (m : ℕ) → m < sectors_by w → Stands w.g later (cylinder_of w) (aim_of w m) (place_of w m)
  stands_later m l =
      let st = (stood w m l).0 in
      record {
        slot = st.slot;
        has = st.has;
        place = st.place;
        marked = rw (mark_later m l) (good_counts w.transfer.deleted);
        address = id_same (left_by w) later (place_of w m) (λ i k. stays m l i (omega arith)) ∙ own_id_lem w m l;
        size = st.size;
      }

  good : (m : ℕ) → m < sectors_by w → IsGood g' (head_of order c) transfer aim later m
  good m l =
      let st = stands_so protect w.g later (cylinder_of w) (aim_of w m) (place_of w m) (stands_later m l) in
      record {
        at = place_of w m;
        stands = subst (λ (x : ℕ). Stands g' later x (aim_no transfer aim m) (place_of w m)) (sym same.cylinder)
            (subst (λ (x : Aim). Stands g' later (cylinder_of w) x (place_of w m)) (sym (aims m)) st);
        mark = mark_later m l ∙ ap (λ (d : Bool). byte_of (Data d false)) (sym same.kind);
      }

  followed : (k : ℕ) → k + 1 < sectors_by w → Followed transfer (aim_no transfer aim k)
  followed k l =
      subst (Followed transfer) (sym (aims k)) (λ e.
      let (m, side) = (left_of w).no_further k (omega arith) (e ∙ same.eot) in
      (same.mt ∙ m, side))

  acks : Acknowledges w.g w.transfer (first_of w) (done_by w) (result_byte 0 (run_calls w.calls w.c))
      (result_byte 1 (run_calls w.calls w.c)) (result_byte 2 (run_calls w.calls w.c))
      (result_id (run_calls w.calls w.c))
  acks =
      acknowledged_quiet w.c w.from w.order w.transfer w.id w.accepted w.old w.g w.disk
      w.calls w.its w.alone done.waits

  -- at least one sector
  one : 0 < sectors_by w
  one = go (sectors_by w) refl
    where
      go : (n : ℕ) → sectors_by w ≡ n → 0 < n
      go zero e = absurd (omega (arith, some, rw e at (acks.normal done.normal).all))
      go (suc n) e = omega arith

  fill : Fill g' bytes last
  fill =
      let e : last + 1 ≡ sectors_by w = omega (arith, one) in
      record { more = acks.no_more one; most = rw e (acks.normal done.normal).all }

  all_good : AllGood g' later (head_of order c) transfer aim last
  all_good =
      record {
        good = λ k l. good k (omega (arith, one));
        on = λ k l. followed k (omega (arith, one));
      }

  module _ (calls : List Call) (spins : Spins order.drive calls c) (alone : Alone order.drive later calls c)
      (timely : InTime calls c) (tells : ReadTells bytes calls c untaken)
      (enough : bound_of w.g ≤ tick_count calls) where
    succeeds : EndsWith (Success order transfer aim last) calls c
    unfolding bound_of
    succeeds =
        read_succeeds_in_time_quiet c q order transfer w.id same.accepted later g' sound bytes last fill all_good
        calls spins alone timely tells enough

    loads : Part (Success order transfer aim last) (TellsAt bytes) order.drive later calls c untaken
        → Loads (Success order transfer aim last) (done_by w).host calls c
    loads p =
        record {
          part = p.part;
          rest = p.rest;
          split = p.split;
          its = p.its;
          ends = p.ends;
          bytes = back.whole (omega (arith, many, few));
        }
      where
        disk : disk_in later ≡ Some g'
        disk = fits_present later g' sound.fits

        handed : HandedBy c (run_calls p.part c) order transfer w.id g' later
            (image_left order.drive later p.part c) (taken_over p.part c untaken)
        handed =
            handed_over_quiet c q order transfer w.id same.accepted later g' disk p.part p.its p.alone

        told : (taken_over p.part c untaken).told ≡ true
        told = ((handed.ends p.ends.waits).normal (omega (arith, p.ends.st0)) p.ends.st2).told

        many : bytes ≤ length (taken_over p.part c untaken).got
        many = p.took.0 told

        none_yet : TellsAt bytes untaken
        none_yet = (λ e. absurd (false≢true e), λ l. absurd (omega (arith, some)))

        few : length (taken_over p.part c untaken).got ≤ bytes
        few =
            most_along g' (head_of order c) order transfer w.id later disk same.accepted.moves
            same.accepted.reads (low_drive c order q same.accepted.accepted) bytes p.part c untaken q p.its
            p.alone (to_start same.accepted.accepted refl refl) p.along none_yet (omega arith)

        back : GivenBack (sectors_by w * passing w.g) (done_by w).host (taken_over p.part c untaken).got
        back =
            round_trip_quiet w done later holds
            (record {
              c = c;
              from = q;
              order = order;
              transfer = transfer;
              id = w.id;
              accepted = same.accepted;
              protect = protect;
              disk = disk;
              calls = p.part;
              its = p.its;
              alone = p.alone;
            })
            (record {
              cylinder = same.cylinder;
              side = same.side;
              id = refl;
              eot = inl same.eot;
              kind = inl same.kind;
            })

pub loads_back_quiet : LoadsBack Quiet
loads_back_quiet w done some later protect sound stays c q order transfer same calls spins alone timely tells enough =
    loads w done some later protect sound stays c q order transfer same calls spins alone timely tells enough
    (part_of _ _ order.drive calls c later untaken
    (succeeds w done some later protect sound stays c q order transfer same calls spins alone timely tells enough)
    alone tells (λ e. absurd (false≢true e), λ l. absurd (omega arith)))

pub loads_back : LoadsBack Real
loads_back w done some later protect sound stays c r order transfer same =
    loads_back_quiet (quiet_write w) (record { waits = done.waits; normal = done.normal }) some later protect sound
    stays c (quiet_real c r) order transfer
    (record {
      accepted = same.accepted;
      cylinder = same.cylinder;
      side = same.side;
      eot = same.eot;
      mt = same.mt;
      kind = same.kind;
    })
