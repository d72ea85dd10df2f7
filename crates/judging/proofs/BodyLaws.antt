-- The parts of an image behind its header (02 2026-04): the fields of a track, its slots, the tracks, the end.
-- Assumes nothing.
use Prim.Native.Nat.{ℕ, suc, ◌+◌, ◌*◌, ◌-◌, ◌/◌, ◌%◌, ◌<◌, ◌≤◌}
use native.Mathlib.Nat.{suc-mul, div-add-mod', div-lt_iff_lt-mul, mod-lt, mul-add-div_right, mul-add-mod_self_right, div-eq_of_lt, mod-eq_of_lt}
use native.Mathlib.Omega.{arith}
use mathlib.Core.Bool.{Bool, true, false, cond, not, false≢true}
use mathlib.Core.List.{List, [], ◌∷◌}
use mathlib.Core.Logic.{◌⊎◌, inl, inr}
use mathlib.Core.Path.{◌≡◌, refl, sym, ◌∙◌}
use lib.Dec.{eqb, ltb}
use lib.ListN.{length, get_or}
use borrow.Author.Tests.{ltb-true}
use Rattle.image.specs.declared.layout.Geometry.{Geometry}
use Rattle.image.specs.Disk.{InRange}
use Rattle.image.specs.Layout.{slot_length, track_length, length_of, track_at, offset_of}
use Rattle.image.proofs.DiskLaws.{within_true}
use Rattle.image.proofs.LayoutLaws.{row_inside}
use Rattle.judging.specs.declared.fault.Kind.{Kind}
use Rattle.judging.specs.declared.fault.Kind.TheVariants.{Track, Place, Mark, Twice, End}
use Rattle.judging.specs.Verdict.{fault, unless, first_of, bytes_fault}
use Rattle.judging.specs.Fault.{field_bytes}
use Rattle.judging.specs.Twice.{slots_in, same_address, twice_at}
use Rattle.judging.specs.Judge.{front_fault, slot_fault, track_fault, tracks_fault, end_fault}
use Rattle.judging.proofs.TwiceLaws.{some_witness, same_parts}
use Rattle.judging.proofs.PartLaws.{
  Faults,
  Told,
  Part,
  part_said,
  part_at,
  part_both,
  part_all,
  Wrong,
  part_byte,
}

-- a run of bytes
abbrev pub InBytes : List ℕ → Kind → ℕ → List ℕ → Faults
InBytes img kind at bytes k o =
    (i : ℕ) × (i < length bytes) × Wrong (eqb (get_or img (at + i) 0) (get_or bytes i 0)) kind (at + i) k o

pub part_bytes :
    (img : List ℕ) (kind : Kind) (at : ℕ) (bytes : List ℕ)
    → Part at (at + length bytes) (InBytes img kind at bytes) (bytes_fault img kind at bytes)
part_bytes img kind at bytes =
    part_at (omega arith) refl
    (part_all (λ i. at + i) (λ i. Wrong (eqb (get_or img (at + i) 0) (get_or bytes i 0)) kind (at + i))
    (λ i. unless (eqb (get_or img (at + i) 0) (get_or bytes i 0)) kind (at + i)) (length bytes)
    (λ i l. (
      omega arith,
      part_at refl (omega arith) (part_byte (eqb (get_or img (at + i) 0) (get_or bytes i 0)) kind (at + i)),
    ))).1

-- a slot: its mark, or its address
abbrev OneOf : ℕ → Bool → Bool → Faults
OneOf at high twice k o = (o ≡ at) × (((k ≡ Mark) × (high ≡ true)) ⊎ ((k ≡ Twice) × (twice ≡ true)))

part_one :
    (at below : ℕ) (high twice : Bool) → at < below → (high ≡ true → twice ≡ true → ⊥)
    → Part at below (OneOf at high twice) (cond high (fault Mark at) (unless (not twice) Twice at))
part_one at below high twice l apart =
    record {
      starts = λ k o p. omega (arith, p.0);
      stops = λ k o p. omega (arith, p.0);
      once = λ j k o p q. once j k p.1 q.1;
      told = go high twice;
    }
  where
    once :
        (j k : Kind) → ((j ≡ Mark) × (high ≡ true)) ⊎ ((j ≡ Twice) × (twice ≡ true))
        → ((k ≡ Mark) × (high ≡ true)) ⊎ ((k ≡ Twice) × (twice ≡ true)) → j ≡ k
    once j k (inl p) (inl q) = p.0 ∙ sym q.0
    once j k (inl p) (inr q) = absurd (apart p.1 q.1)
    once j k (inr p) (inl q) = absurd (apart q.1 p.1)
    once j k (inr p) (inr q) = p.0 ∙ sym q.0

    neither : (k : Kind) → ((k ≡ Mark) × (false ≡ true)) ⊎ ((k ≡ Twice) × (false ≡ true)) → ⊥
    neither k (inl p) = false≢true p.1
    neither k (inr p) = false≢true p.1

    go : (high twice : Bool) → Told (OneOf at high twice) (cond high (fault Mark at) (unless (not twice) Twice at))
    go true u = ((refl, inl (refl, refl)), λ k o p. omega (arith, p.0))
    go false true = ((refl, inr (refl, refl)), λ k o p. omega (arith, p.0))
    go false false = λ k o p. neither k p.1

module _ (g : Geometry) (img : List ℕ) (cylinder side : ℕ) where
  abbrev pub InSlotAt : ℕ → Faults
  InSlotAt k =
      OneOf (offset_of g cylinder side k) (ltb 5 (slots_in g img cylinder side k).mark)
      (twice_at (slots_in g img cylinder side) k)

  -- a mark above 5 has no address
  apart : (k : ℕ) → ltb 5 (slots_in g img cylinder side k).mark ≡ true → twice_at (slots_in g img cylinder side) k ≡ true → ⊥
  apart k high twice =
      let (j, l, s) = some_witness (λ j. same_address (slots_in g img cylinder side j) (slots_in g img cylinder side k)) k twice
      in
      let mark = (slots_in g img cylinder side k).mark in
      let low = within_true 1 mark 5
      (same_parts (slots_in g img cylinder side j) (slots_in g img cylinder side k) s).second in
      omega (arith, ltb-true 5 mark high, low.1)

  pub next_slot_lem : (k : ℕ) → offset_of g cylinder side (suc k) ≡ offset_of g cylinder side k + slot_length g
  unfolding offset_of
  next_slot_lem k = omega (arith, suc-mul k (slot_length g))

  pub first_slot : offset_of g cylinder side 0 ≡ track_at g cylinder side + 5
  unfolding offset_of
  first_slot = omega arith

  pub past_slots : offset_of g cylinder side g.slots ≡ track_at g cylinder side + track_length g
  unfolding offset_of track_length
  past_slots = omega arith

  five : 5 ≤ track_length g
  unfolding track_length
  five = omega arith

  -- a track: its fields, then its slots
  abbrev pub InTrack : Faults
  InTrack k o =
      (InBytes img Track (track_at g cylinder side) (field_bytes 0x02 (2 + g.slots * slot_length g)) k o
      ⊎ InBytes img Place (track_at g cylinder side + 3) (cylinder ∷ side ∷ []) k o)
      ⊎ ((i : ℕ) × (i < g.slots) × InSlotAt i k o)

  part_slots :
      Part (track_at g cylinder side + 5) (track_at g cylinder side + track_length g)
      (λ k o. (i : ℕ) × (i < g.slots) × InSlotAt i k o) (first_of (slot_fault g img cylinder side) g.slots)
  part_slots =
      part_at first_slot past_slots
      (part_all (offset_of g cylinder side) InSlotAt (slot_fault g img cylinder side) g.slots
      (λ i l. (
        omega (arith, next_slot_lem i),
        part_one (offset_of g cylinder side i) (offset_of g cylinder side (suc i)) _ _ (omega (arith, next_slot_lem i)) (apart i),
      ))).1

  pub part_track :
      Part (track_at g cylinder side) (track_at g cylinder side + track_length g) InTrack (track_fault g img cylinder side)
  unfolding track_fault front_fault
  part_track =
      part_both (omega arith) (omega (arith, past_slots, five)) (part_at refl (omega arith)
      (part_both (omega arith) (omega arith)
      (part_bytes img Track (track_at g cylinder side) (field_bytes 0x02 (2 + g.slots * slot_length g)))
      (part_bytes img Place (track_at g cylinder side + 3) (cylinder ∷ side ∷ [])))) part_slots

module _ (g : Geometry) (img : List ℕ) (r : InRange g) where
  -- track t counted over the heads
  track_starts : (t : ℕ) → track_at g (t / g.heads) (t % g.heads) ≡ 8 + t * track_length g
  unfolding track_at
  track_starts t = rw (div-add-mod' t g.heads)

  abbrev pub InTracks : Faults
  InTracks k o =
      (cylinder : ℕ) × (side : ℕ) × (cylinder < g.cylinders) × (side < g.heads) × InTrack g img cylinder side k o

  tracks_end : 8 + g.cylinders * g.heads * track_length g ≡ length_of g - 3
  unfolding length_of
  tracks_end = omega arith

  pub part_tracks : Part 8 (length_of g - 3) InTracks (tracks_fault g img)
  part_tracks =
      part_said InTracks to back (part_at (omega arith) tracks_end (part_all (λ t. 8 + t * track_length g)
      (λ t. InTrack g img (t / g.heads) (t % g.heads)) (λ t. track_fault g img (t / g.heads) (t % g.heads))
      (g.cylinders * g.heads) (λ t l. (
        omega (arith, suc-mul t (track_length g)),
        part_at (track_starts t) (omega (arith, track_starts t, suc-mul t (track_length g)))
            (part_track g img (t / g.heads) (t % g.heads)),
      ))).1)
    where
      to :
          (k : Kind) (o : ℕ)
          → (t : ℕ) × (t < g.cylinders * g.heads) × InTrack g img (t / g.heads) (t % g.heads) k o → InTracks k o
      to k o (t, l, p) =
          let some : 0 < g.heads = omega (arith, r.heads.0) in
          (t / g.heads, t % g.heads, (div-lt_iff_lt-mul some).1 l, mod-lt t some, p)

      back :
          (k : Kind) (o : ℕ) → InTracks k o
          → (t : ℕ) × (t < g.cylinders * g.heads) × InTrack g img (t / g.heads) (t % g.heads) k o
      back k o (c, s, lc, ls, p) =
          let some : 0 < g.heads = omega (arith, r.heads.0) in
          let d : (c * g.heads + s) / g.heads ≡ c
          = mul-add-div_right some c s ∙ (rw (div-eq_of_lt ls) (omega arith)) in
          let m : (c * g.heads + s) % g.heads ≡ s = mul-add-mod_self_right c g.heads s ∙ mod-eq_of_lt ls in
          (c * g.heads + s, omega (arith, row_inside c g.cylinders g.heads lc), rw (d, m) p)

  abbrev pub InEnd : Faults
  InEnd = InBytes img End (length_of g - 3) (field_bytes 0x03 0)

  pub part_end : Part (length_of g - 3) (length_of g - 3 + 3) InEnd (end_fault g img)
  part_end = part_bytes img End (length_of g - 3) (field_bytes 0x03 0)
