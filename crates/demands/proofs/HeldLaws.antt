-- Which images hold a write's sector still (specs/Held): by what a write leaves, slot by slot (SoundLaws).
-- Assumes nothing.
use Prim.Native.Nat.{ℕ, ◌+◌, ◌<◌, ◌≤◌}
use native.Mathlib.Omega.{arith}
use mathlib.Core.Bool.{Bool, true, false}
use mathlib.Core.List.{List, [], ◌∷◌}
use mathlib.Core.Logic.{◌⊎◌, inl, inr}
use mathlib.Core.Path.{◌≡◌, refl, sym, ap, ◌∙◌}
use lib.ListN.{length, get_or}
use Rattle.image.specs.declared.layout.Geometry.{Geometry}
use Rattle.image.specs.declared.mark.Mark.TheVariants.{Data}
use Rattle.image.specs.Layout.{track_length, track_at, offset_of, Has}
use Rattle.image.specs.Mark.{byte_of}
use Rattle.image.specs.Slot.{id_at}
use Rattle.image.specs.Sound.{mark_in, NoTwins}
use Rattle.image.proofs.LayoutLaws.{slots_share_nothing}
use Rattle.image.proofs.TestLaws.{le_or_lt}
use Rattle.sectors.specs.declared.order.Transfer.{Transfer}
use Rattle.demands.specs.Held.{SoundHolds, RoundTripSound, HeldAtOnce, HeldByWrite, TrackStays, OnlyTrack, HeldByTrack, HeldByOthers, HeldByFormat}
use Rattle.demands.specs.History.{Sector, Begun, no_one, some_of, History}
use Rattle.demands.specs.PowerCut.{Aim, aim_no, Stands, AllFinished, BegunHalf, begun_ones, LeftBy, head_of}
use Rattle.demands.specs.Quiet.{Quiet}
use Rattle.demands.specs.RoundTrip.{
  with_protect,
  Written,
  left_by,
  done_by,
  sectors_by,
  cylinder_of,
  first_of,
  aim_of,
  place_of,
  SlotStays,
  Holds,
}
use Rattle.demands.specs.Work.{Real}
use Rattle.demands.proofs.RoundTripLaws.{
  protect_has,
  stands_protect,
  left_of,
  stood,
  round_trip,
  quiet_write,
}
use Rattle.demands.proofs.SoundLaws.{MissesAll, MissesBegun, missed_stays, left_sound}
use Rattle.demands.proofs.FormatStaysLaws.{format_stays_quiet}
use Rattle.demands.proofs.QuietLaws.{quiet_real}

-- the four bytes of an address
pub id_same : (img later : List ℕ) (at : ℕ) → ((i : ℕ) → i < 5 → get_or later (at + i) 0 ≡ get_or img (at + i) 0)
    → id_at later at ≡ id_at img at
id_same img later at e =
    rw (e 1 (omega arith), e 2 (omega arith), e 3 (omega arith), e 4 (omega arith))

-- a good mark is an ID's
good_some : (d : Bool) → 0 < byte_of (Data d false)
good_some true = omega arith
good_some false = omega arith

module _ (g : Geometry) (cylinder : ℕ) (a : Aim) (img later : List ℕ) (at j : ℕ) (has : Has g cylinder a.side j)
    (place : at ≡ offset_of g cylinder a.side j) where
  -- a track without twins, in which the slot is as it was
  once_holds : NoTwins g later cylinder a.side → 0 < get_or img at 0 → id_at img at ≡ a.id
      → SlotStays g img later at → Holds g cylinder a img later at
  once_holds once some address stays =
      record { stays = stays; only = λ k hk counts e. go k hk counts.0 e (le_or_lt j k) (le_or_lt k j) }
    where
      mark : 0 < mark_in g later cylinder a.side j
      mark =
          let e : at + 0 ≡ at = omega arith in
          let f : get_or later at 0 ≡ get_or img at 0 = rw e at (stays 0 (omega arith)) in
          rw (← place, f) some

      own : id_at later (offset_of g cylinder a.side j) ≡ a.id
      own = sym (ap (id_at later) place) ∙ id_same img later at (λ i l. stays i (omega arith)) ∙ address

      go : (k : ℕ) → Has g cylinder a.side k → 0 < mark_in g later cylinder a.side k
          → id_at later (offset_of g cylinder a.side k) ≡ a.id
          → (j ≤ k) ⊎ (k < j) → (k ≤ j) ⊎ (j < k) → offset_of g cylinder a.side k ≡ at
      go k hk m e (inr l) _ = absurd (once k j hk has l m mark (e ∙ sym own))
      go k hk m e (inl l) (inr l') = absurd (once j k has hk l' mark m (own ∙ sym e))
      go k hk m e (inl l) (inl l') = let same : k ≡ j = omega arith in rw same (sym place)

  -- one in which nothing of its track has changed since
  track_holds : (next : List ℕ) → TrackStays g cylinder a.side later next → Holds g cylinder a img later at
      → Holds g cylinder a img next at
  track_holds next track holds =
      record {
        stays = λ i l.
            track j (at + i) has (record { from = omega (arith, place); below = omega (arith, place) })
            ∙ holds.stays i l;
        only = λ k hk counts e.
            let front : (i : ℕ) → i < 5 → get_or next (offset_of g cylinder a.side k + i) 0
            ≡ get_or later (offset_of g cylinder a.side k + i) 0 =
            λ i l. track k _ hk (record { from = omega arith; below = omega arith }) in
            let mark : mark_in g next cylinder a.side k ≡ mark_in g later cylinder a.side k =
            track k _ hk (record { from = omega arith; below = omega arith }) in
            holds.only k hk (rw mark at counts) (sym (id_same later next _ front) ∙ e);
      }

  -- one that another write has left, none of whose sectors has that address on that track
  module _ (protect : Bool) (cylinder' : ℕ) (transfer : Transfer) (aim : Aim) (next : List ℕ) (h : History)
      (left : LeftBy (with_protect protect g) cylinder' transfer aim later next h)
      (aside : (i : ℕ) → i < length h.finished + begun_ones h.begun → cylinder' ≡ cylinder
      → aim_no transfer aim i ≡ a → ⊥)
      (address : id_at later at ≡ a.id) where
    -- a sector that stands there has that address
    stands_there : (b : Aim) (p : ℕ) → Stands (with_protect protect g) later cylinder' b p → at ≡ p
        → (cylinder' ≡ cylinder) × (b ≡ a)
    stands_there b p st e =
        let st' = stands_protect protect g later cylinder' b p st in
        let (cs, ss, ks) = slots_share_nothing g cylinder' b.side st'.slot cylinder a.side j at st'.has has
        (record { from = omega (arith, st'.place); below = omega (arith, st'.place) })
        (record { from = omega (arith, place); below = omega (arith, place) }) in
        let same : b.id ≡ a.id = sym st.address ∙ sym (ap (id_at later) e) ∙ address in
        (cs, λ i. record { id = same i; side = ss i })

    misses : (fin : List Sector) → length fin ≤ length h.finished
        → AllFinished (with_protect protect g) cylinder' transfer aim later next h.host fin → MissesAll at fin
    misses [] l f = tt
    misses (s ∷ before) l (st, fa, z, rest) = (
      λ e.
          let (cs, same) = stands_there _ s.at st e in
          aside (length before) (omega arith) cs same,
      misses before (omega arith) rest,
    )

    misses_begun : (b : Begun) → b ≡ h.begun
        → BegunHalf (with_protect protect g) cylinder' transfer aim later next h.host (length h.finished) b
        → MissesBegun at b
    misses_begun no_one q f = tt
    misses_begun (some_of p bytes) q (st, half) = λ e.
        let (cs, same) = stands_there _ p st e in
        aside (length h.finished) (rw (← q) (omega arith)) cs same

    write_holds : Holds g cylinder a img later at → Holds g cylinder a img next at
    unfolding offset_of track_at track_length
    write_holds holds =
        record {
          stays = λ i l.
              missed_stays (with_protect protect g) cylinder' transfer aim later next h left cylinder a.side j
              (protect_has protect g has) (rw place at (misses h.finished (omega arith) left.finished))
              (rw place at (misses_begun h.begun refl left.begun)) (at + i)
              (record { from = omega (arith, place); below = omega (arith, place) })
              ∙ holds.stays i l;
          only = λ k hk counts e.
              holds.only k hk (left.marked cylinder a.side k (protect_has protect g hk) counts)
              (sym (left.ids cylinder a.side k (protect_has protect g hk)) ∙ e);
        }

twins_protect : (protect : Bool) (g : Geometry) (img : List ℕ) (c s : ℕ) → NoTwins (with_protect protect g) img c s
    → NoTwins g img c s
unfolding offset_of track_at track_length
twins_protect protect g img c s once j k hj hk = once j k (protect_has protect g hj) (protect_has protect g hk)

only_others : (g : Geometry) (c s d t : ℕ) (img later : List ℕ) → OnlyTrack g d t img later
    → ((d ≡ c) × (t ≡ s) → ⊥) → TrackStays g c s img later
only_others g c s d t img later only apart k i has inside =
    only i (λ j hj own.
    let (cs, ss, ks) = slots_share_nothing g d t j c s k i hj has own inside in apart (cs, ss))

-- a finished sector has its address still
pub own_id_lem : (w : Written Quiet) (m : ℕ) → m < sectors_by w → id_at (left_by w) (place_of w m) ≡ (aim_of w m).id
own_id_lem w m l =
    let st = (stood w m l).0 in
    ap (id_at (left_by w)) st.place ∙ (left_of w).ids _ _ _ st.has ∙ sym (ap (id_at w.old) st.place)
    ∙ st.address

pub sound_holds_quiet : SoundHolds Quiet
sound_holds_quiet w m l later protect sound stays =
    let (st, fin) = stood w m l in
    once_holds w.g (cylinder_of w) (aim_of w m) (left_by w) later (place_of w m) st.slot st.has st.place
    (twins_protect protect w.g later _ _ (sound.once _ _))
    (rw fin.mark (good_some w.transfer.deleted)) (own_id_lem w m l) stays

pub held_at_once_quiet : HeldAtOnce Quiet
held_at_once_quiet w sound m l =
    sound_holds_quiet w m l (left_by w) w.g.protect
    (left_sound w.g _ w.transfer _ w.old _ _ (left_of w) sound) (λ i k. refl)

pub held_by_write_quiet : HeldByWrite Quiet
held_by_write_quiet w m l v protect e aside holds =
    let st = (stood w m l).0 in
    let left : LeftBy (with_protect protect w.g) (cylinder_of v) v.transfer (first_of v) v.old (left_by v)
    (done_by v) = rw e at (left_of v) in
    write_holds w.g (cylinder_of w) (aim_of w m) (left_by w) v.old (place_of w m) st.slot st.has st.place
    protect (cylinder_of v) v.transfer _ (left_by v) (done_by v) left aside
    (id_same (left_by w) v.old (place_of w m) (λ i k. holds.stays i (omega arith)) ∙ own_id_lem w m l) holds

pub held_by_track_quiet : HeldByTrack Quiet
held_by_track_quiet w m l later next track holds =
    let (st, fin) = stood w m l in
    track_holds w.g (cylinder_of w) (aim_of w m) (left_by w) later (place_of w m) st.slot st.has st.place next
    track holds

pub held_by_others_quiet : HeldByOthers Quiet
held_by_others_quiet w m l later next cylinder side only apart =
    held_by_track_quiet w m l later next (only_others w.g _ _ cylinder side later next only apart)

pub held_by_format_quiet : HeldByFormat Quiet
held_by_format_quiet w m l c q order plan f old disk calls its alone apart =
    held_by_others_quiet w m l old _ (head_of order c) order.side
    (format_stays_quiet c q order plan f old w.g disk calls its alone).others apart

pub sound_holds : SoundHolds Real
sound_holds w = sound_holds_quiet (quiet_write w)

pub round_trip_sound : RoundTripSound Real
round_trip_sound w done later protect sound stays =
    round_trip w done later (λ m l. sound_holds w m l later protect sound (stays m l))

pub held_at_once : HeldAtOnce Real
held_at_once w = held_at_once_quiet (quiet_write w)

pub held_by_write : HeldByWrite Real
held_by_write w m l v = held_by_write_quiet (quiet_write w) m l (quiet_write v)

pub held_by_track : HeldByTrack Real
held_by_track w = held_by_track_quiet (quiet_write w)

pub held_by_others : HeldByOthers Real
held_by_others w = held_by_others_quiet (quiet_write w)

pub held_by_format : HeldByFormat Real
held_by_format w m l c r = held_by_format_quiet (quiet_write w) m l c (quiet_real c r)
