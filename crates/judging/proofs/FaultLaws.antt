-- The faults of an image that fits, as 02 2026-04 says them and as the parts of the file have them.
-- Assumes nothing.
use Prim.Native.Nat.{ℕ, zero, suc, ◌+◌, ◌*◌, ◌-◌, ◌<◌}
use native.Mathlib.Omega.{arith}
use mathlib.Core.List.{List, [], ◌∷◌}
use mathlib.Core.Logic.{◌⊎◌, inl, inr, ◌≢◌}
use mathlib.Core.Path.{◌≡◌, refl, ap}
use lib.ListN.{get_or}
use borrow.Author.Tests.{eqb-false, ne_eqb, lt-ltb, ltb-true}
use Rattle.image.specs.declared.layout.Geometry.{Geometry}
use Rattle.image.specs.declared.slot.Id.{Id}
use Rattle.image.specs.declared.slot.Slot.{Slot}
use Rattle.image.specs.Disk.{InRange}
use Rattle.image.specs.Layout.{slot_length, length_of, track_at}
use Rattle.image.proofs.DiskLaws.{within_true, true_within}
use Rattle.image.proofs.LayoutLaws.{length_ge}
use Rattle.judging.specs.declared.fault.Kind.{Kind}
use Rattle.judging.specs.declared.fault.Kind.TheVariants.{Header, Length, Track, Place, Mark, Twice, End}
use Rattle.judging.specs.Verdict.{or_else}
use Rattle.judging.specs.Fault.{field_bytes, TrackFault, PlaceFault, MarkFault, TwiceFault, EndFault}
use Rattle.judging.specs.Twice.{slots_in, same_address}
use Rattle.judging.specs.Judge.{tracks_fault, end_fault}
use Rattle.judging.proofs.BodyLaws.{InBytes, InSlotAt, InTracks, InEnd, part_tracks, part_end}
use Rattle.judging.proofs.PartLaws.{Faults, Part, part_said, part_both}
use Rattle.judging.proofs.TwiceLaws.{group_parts, parts_group, Same, same_parts, parts_same, some_found, some_witness}

-- kinds 3 to 7
abbrev pub InBody : Geometry → List ℕ → Faults
InBody g img Header o = ⊥
InBody g img Length o = ⊥
InBody g img Track o = TrackFault g img o
InBody g img Place o = PlaceFault g img o
InBody g img Mark o = MarkFault g img o
InBody g img Twice o = TwiceFault g img o
InBody g img End o = EndFault g img o

-- one address is four equal bytes
same_id : (a b : Slot) → Same a b → a.id ≡ b.id
same_id a b s =
    let (c, h, n) = group_parts a.id b.id s.group in
    rw (c, h, s.r, n)

module _ (g : Geometry) (img : List ℕ) where
  module _ (c s : ℕ) (lc : c < g.cylinders) (ls : s < g.heads) (o : ℕ) where
    track_said :
        (k : Kind) → InBytes img Track (track_at g c s) (field_bytes 0x02 (2 + g.slots * slot_length g)) k o
        → InBody g img k o
    track_said k (i, l, (e, at, w)) =
        rw e (record {
          cylinder = c;
          side = s;
          byte = i;
          on_disk = lc;
          on_cylinder = ls;
          in_field = l;
          at = at;
          wrong = rw at (eqb-false _ _ w);
        })

    place_said : (k : Kind) → InBytes img Place (track_at g c s + 3) (c ∷ s ∷ []) k o → InBody g img k o
    place_said k (zero, l, (e, at, w)) =
        rw e (record {
          cylinder = c;
          side = s;
          on_disk = lc;
          on_cylinder = ls;
          wrong = inl (omega arith, rw at (eqb-false _ _ w));
        })
    place_said k (suc zero, l, (e, at, w)) =
        rw e (record {
          cylinder = c;
          side = s;
          on_disk = lc;
          on_cylinder = ls;
          wrong = inr (omega arith, rw at (eqb-false _ _ w));
        })
    place_said k (suc (suc i), l, q) = absurd (omega arith)

    slot_said : (k : Kind) → (i : ℕ) × (i < g.slots) × InSlotAt g img c s i k o → InBody g img k o
    slot_said k (i, l, (at, inl (e, high))) =
        rw e (record {
          cylinder = c;
          side = s;
          k = i;
          has = record { on_disk = lc; on_cylinder = ls; on_track = l };
          at = at;
          wrong = ltb-true _ _ high;
        })
    slot_said k (i, l, (at, inr (e, twice))) =
        let (j, b, same) = some_witness (λ j. same_address (slots_in g img c s j) (slots_in g img c s i)) i twice in
        let q = same_parts (slots_in g img c s j) (slots_in g img c s i) same in
        rw e (record {
          cylinder = c;
          side = s;
          j = j;
          k = i;
          has = record { on_disk = lc; on_cylinder = ls; on_track = l };
          earlier = b;
          at = at;
          first = within_true 1 (slots_in g img c s j).mark 5 q.first;
          second = within_true 1 (slots_in g img c s i).mark 5 q.second;
          same = same_id (slots_in g img c s j) (slots_in g img c s i) q;
        })

  said : (r : InRange g) (k : Kind) (o : ℕ) → InTracks g img r k o ⊎ InEnd g img r k o → InBody g img k o
  said r k o (inl (c, s, lc, ls, inl (inl p))) = track_said c s lc ls o k p
  said r k o (inl (c, s, lc, ls, inl (inr p))) = place_said c s lc ls o k p
  said r k o (inl (c, s, lc, ls, inr p)) = slot_said c s lc ls o k p
  said r k o (inr (i, l, (e, at, w))) =
      rw e (record { byte = i; in_field = l; at = at; wrong = rw at (eqb-false _ _ w) })

  placed :
      (o c s : ℕ)
      → ((o ≡ track_at g c s + 3) × (get_or img o 0 ≢ c)) ⊎ ((o ≡ track_at g c s + 4) × (get_or img o 0 ≢ s))
      → InBytes img Place (track_at g c s + 3) (c ∷ s ∷ []) Place o
  placed o c s (inl (at, w)) =
      let e : o ≡ track_at g c s + 3 + 0 = omega arith in
      (0, omega arith, (refl, e, rw (← e) (ne_eqb _ _ w)))
  placed o c s (inr (at, w)) =
      let e : o ≡ track_at g c s + 3 + 1 = omega arith in
      (1, omega arith, (refl, e, rw (← e) (ne_eqb _ _ w)))

  back : (r : InRange g) (k : Kind) (o : ℕ) → InBody g img k o → InTracks g img r k o ⊎ InEnd g img r k o
  back r Header o f = elim f [ ]
  back r Length o f = elim f [ ]
  back r Track o f =
      inl (
        f.cylinder,
        f.side,
        f.on_disk,
        f.on_cylinder,
        inl (inl (
          f.byte,
          f.in_field,
          (refl, f.at, rw (← f.at) (ne_eqb _ _ f.wrong)),
        )),
      )
  back r Place o f =
      inl (f.cylinder, f.side, f.on_disk, f.on_cylinder, inl (inr (placed o f.cylinder f.side f.wrong)))
  back r Mark o f =
      inl (
        f.cylinder,
        f.side,
        f.has.on_disk,
        f.has.on_cylinder,
        inr (
          f.k,
          f.has.on_track,
          (f.at, inl (refl, lt-ltb _ _ f.wrong)),
        ),
      )
  back r Twice o f =
      let slots = slots_in g img f.cylinder f.side in
      let same = parts_same (slots f.j) (slots f.k) (record {
        first = true_within 1 (slots f.j).mark 5 f.first;
        second = true_within 1 (slots f.k).mark 5 f.second;
        group = parts_group (slots f.j).id (slots f.k).id (
          ap (λ (i : Id). i.c) f.same,
          ap (λ (i : Id). i.h) f.same,
          ap (λ (i : Id). i.n) f.same,
        );
        r = ap (λ (i : Id). i.r) f.same;
      }) in
      inl (
        f.cylinder,
        f.side,
        f.has.on_disk,
        f.has.on_cylinder,
        inr (
          f.k,
          f.has.on_track,
          (
            f.at,
            inr (refl, some_found (λ j. same_address (slots j) (slots f.k)) f.k f.j f.earlier same),
          ),
        ),
      )
  back r End o f = inr (f.byte, f.in_field, (refl, f.at, rw (← f.at) (ne_eqb _ _ f.wrong)))

  -- the whole of what follows the header
  pub part_body :
      InRange g → Part 8 (length_of g - 3 + 3) (InBody g img) (or_else (tracks_fault g img) (end_fault g img))
  part_body r =
      part_said (InBody g img) (said r) (back r)
      (part_both (omega (arith, length_ge g)) (omega arith) (part_tracks g img r) (part_end g img r))
