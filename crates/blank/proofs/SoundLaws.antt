-- A blank disk byte by byte; from that it is sound, and every slot is the normal sector of its place (02 2026-01).
-- Assumes nothing.
use Prim.Native.Nat.{ℕ, ◌+◌, ◌*◌, ◌-◌, ◌/◌, ◌%◌, ◌≤◌, ◌<◌}
use native.Mathlib.Nat.{mul_assoc, add-mul}
use native.Mathlib.Omega.{arith}
use mathlib.Core.Bool.{Bool, true, false, cond}
use mathlib.Core.List.{List, [], ◌∷◌, ◌++◌}
use mathlib.Core.Path.{◌≡◌, refl, sym, ap, ◌∙◌}
use lib.Dec.{eqb}
use lib.ListN.{length, get_or, take, drop, replicate, length-replicate, get_or-append}
use lib.Seq.{get_or-append-add, get_or-take, get_or-drop, ext_get_or}
use Rattle.image.specs.declared.layout.Geometry.{Geometry}
use Rattle.image.specs.declared.slot.Id.{Id}
use Rattle.image.specs.Layout.{size_of, slot_length, track_length, length_of, track_at, offset_of, Has}
use Rattle.image.specs.Disk.{flag, header_of, in_range, geometry_of}
use Rattle.image.specs.Slot.{slot_at}
use Rattle.image.specs.Sound.{Field, Track, NoTwins, Sound}
use Rattle.image.proofs.LayoutLaws.{row_inside, slot_inside, length_ge}
use Rattle.image.proofs.TestLaws.{both}
use Rattle.blank.specs.Blank.{
  field_of,
  slot_of,
  slots_of,
  track_of,
  cylinder_of,
  tracks_of,
  blank_of,
  takes,
}
use Rattle.blank.specs.Statements.{BlankSound, BlankSlots, BlankMade}
use Rattle.blank.proofs.ListLaws.{turn_at, part_length}
use Rattle.blank.proofs.PartLaws.{
  slot_length_lem,
  slots_length,
  track_length_lem,
  track_is,
  cylinder_length,
  tracks_length,
  length_is,
  blank_length,
}
use Rattle.blank.proofs.RangeLaws.{range_true}

module _ (g : Geometry) (fill : ℕ) where
  -- byte i behind the header
  behind_header :
      (i : ℕ) → get_or (blank_of g fill) (8 + i) 0 ≡ get_or (tracks_of g fill ++ field_of 0x03 []) i 0
  unfolding blank_of
  behind_header i =
      get_or-append-add (field_of 0x01 (g.cylinders ∷ g.heads ∷ g.slots ∷ g.n ∷ flag g.protect ∷ []))
      (tracks_of g fill ++ field_of 0x03 []) i 0

  -- byte m of a track
  track_byte :
      (cylinder side m : ℕ) → cylinder < g.cylinders → side < g.heads → m < track_length g
      → get_or (blank_of g fill) (track_at g cylinder side + m) 0 ≡ get_or (track_of g fill cylinder side) m 0
  unfolding track_at
  track_byte cylinder side m hc hs hm =
      let w : ℕ = g.heads * track_length g in
      let i : ℕ = cylinder * w + (side * track_length g + m) in
      let on = row_inside side g.heads (track_length g) hs in
      let e : 8 + (cylinder * g.heads + side) * track_length g + m ≡ 8 + i = omega (
        arith,
        mul_assoc cylinder g.heads (track_length g),
        add-mul (cylinder * g.heads) side (track_length g),
      ) in
      rw e (behind_header i
      ∙ get_or-append (tracks_of g fill) (field_of 0x03 []) 0 i
      (omega (arith, tracks_length g fill, row_inside cylinder g.cylinders w hc))
      ∙ turn_at (cylinder_of g fill) w (cylinder_length g fill) g.cylinders cylinder (side * track_length g + m) hc
      (omega arith)
      ∙ turn_at (track_of g fill cylinder) (track_length g) (track_length_lem g fill cylinder) g.heads side m hs hm)

  -- byte m of a track's slots
  slots_byte :
      (cylinder side m : ℕ)
      → get_or (track_of g fill cylinder side) (5 + m) 0 ≡ get_or (slots_of g fill cylinder side) m 0
  unfolding track_of
  slots_byte cylinder side m =
      let size : ℕ = length (cylinder ∷ side ∷ slots_of g fill cylinder side) in
      get_or-append-add (0x02 ∷ (size / 256) ∷ (size % 256) ∷ cylinder ∷ side ∷ []) (slots_of g fill cylinder side) m 0

  -- byte m of a slot
  pub slot_byte :
      (cylinder side k m : ℕ) → Has g cylinder side k → m < slot_length g
      → get_or (blank_of g fill) (offset_of g cylinder side k + m) 0 ≡ get_or (slot_of g fill cylinder side k) m 0
  unfolding offset_of
  slot_byte cylinder side k m h l =
      let on = row_inside k g.slots (slot_length g) h.on_track in
      let e : track_at g cylinder side + 5 + k * slot_length g + m
      ≡ track_at g cylinder side + (5 + (k * slot_length g + m)) = omega arith in
      rw e (track_byte cylinder side (5 + (k * slot_length g + m)) h.on_disk h.on_cylinder
      (omega (arith, track_is g))
      ∙ slots_byte cylinder side (k * slot_length g + m)
      ∙ turn_at (slot_of g fill cylinder side) (slot_length g) (slot_length_lem g fill cylinder side) g.slots k m
      h.on_track l)

  -- byte i of the end
  end_byte : (i : ℕ) → get_or (blank_of g fill) (length_of g - 3 + i) 0 ≡ get_or (field_of 0x03 []) i 0
  end_byte i =
      let n : ℕ = length (tracks_of g fill) in
      let e : length_of g - 3 + i ≡ 8 + (n + i) = omega (arith, tracks_length g fill, length_is g) in
      rw e (behind_header (n + i) ∙ get_or-append-add (tracks_of g fill) (field_of 0x03 []) i 0)

  -- a slot's mark, and the four bytes of its address
  module _ (cylinder side k : ℕ) (h : Has g cylinder side k) where
    pub slot_mark_lem : get_or (blank_of g fill) (offset_of g cylinder side k) 0 ≡ 1
    slot_mark_lem =
        let e : offset_of g cylinder side k ≡ offset_of g cylinder side k + 0 = omega arith in
        rw e (slot_byte cylinder side k 0 h (omega arith))

    pub slot_front :
        slot_at (blank_of g fill) (offset_of g cylinder side k)
        ≡ record { mark = 1; id = record { c = cylinder; h = side; r = k + 1; n = g.n } }
    slot_front =
        rw (
          slot_mark_lem,
          slot_byte cylinder side k 1 h (omega arith),
          slot_byte cylinder side k 2 h (omega arith),
          slot_byte cylinder side k 3 h (omega arith),
          slot_byte cylinder side k 4 h (omega arith),
        )

    pub slot_fill :
        take (size_of g.n) (drop (offset_of g cylinder side k + 5) (blank_of g fill)) ≡ replicate (size_of g.n) fill
    slot_fill =
        let b : ℕ = size_of g.n in
        let at : ℕ = offset_of g cylinder side k in
        let size = part_length (blank_of g fill) (at + 5) b
        (omega (arith, blank_length g fill, slot_inside g cylinder side k h)) in
        ext_get_or 0 (take b (drop (at + 5) (blank_of g fill))) (replicate b fill) (size ∙ sym (length-replicate b fill))
        (λ i l.
        let below : i < b = omega arith in
        let e : at + 5 + i ≡ at + (5 + i) = omega arith in
        get_or-take b (drop (at + 5) (blank_of g fill)) i 0 below
        ∙ get_or-drop (at + 5) (blank_of g fill) i 0
        ∙ ap (λ (j : ℕ). get_or (blank_of g fill) j 0) e
        ∙ slot_byte cylinder side k (5 + i) h (omega arith)
        ∙ get_or-append-add (1 ∷ cylinder ∷ side ∷ (k + 1) ∷ g.n ∷ []) (replicate b fill) i 0)

  -- a track's field, cylinder and side
  module _ (cylinder side : ℕ) (hc : cylinder < g.cylinders) (hs : side < g.heads) where
    front_byte :
        (m : ℕ) → m < 5
        → get_or (blank_of g fill) (track_at g cylinder side + m) 0 ≡ get_or (track_of g fill cylinder side) m 0
    front_byte m l = track_byte cylinder side m hc hs (omega (arith, track_is g))

    track_laid : Track g (blank_of g fill) cylinder side
    unfolding track_of
    track_laid =
        let size : length (cylinder ∷ side ∷ slots_of g fill cylinder side) ≡ 2 + g.slots * slot_length g
        = omega (arith, slots_length g fill cylinder side) in
        let e : track_at g cylinder side ≡ track_at g cylinder side + 0 = omega arith in
        record {
          field = record {
            tagged = rw e (front_byte 0 (omega arith));
            high = front_byte 1 (omega arith) ∙ ap (λ (n : ℕ). n / 256) size;
            low = front_byte 2 (omega arith) ∙ ap (λ (n : ℕ). n % 256) size;
          };
          own_cylinder = front_byte 3 (omega arith);
          own_side = front_byte 4 (omega arith);
        }

  blank_header : take 8 (blank_of g fill) ≡ header_of g
  unfolding blank_of
  blank_header = refl

  blank_end : Field (blank_of g fill) (length_of g - 3) 0x03 0
  blank_end =
      let e : length_of g - 3 ≡ length_of g - 3 + 0 = omega arith in
      record { tagged = rw e (end_byte 0); high = end_byte 1; low = end_byte 2 }

  -- R tells the slots of a track apart
  blank_once : (cylinder side : ℕ) → NoTwins g (blank_of g fill) cylinder side
  blank_once cylinder side j k hj hk l a b e =
      let r = ap (λ (i : Id). i.r) e in
      omega (
        arith,
        r,
        slot_byte cylinder side j 3 hj (omega arith),
        slot_byte cylinder side k 3 hk (omega arith),
      )

pub blank_sound : BlankSound
blank_sound g fill r =
    record {
      fits = record { range = r; header = blank_header g fill; size = blank_length g fill };
      tracks = track_laid g fill;
      last = blank_end g fill;
      marks = λ cylinder side k h. omega (arith, slot_mark_lem g fill cylinder side k h);
      once = blank_once g fill;
    }

pub blank_slots : BlankSlots
blank_slots g fill cylinder side k h =
    record { front = slot_front g fill cylinder side k h; bytes = slot_fill g fill cylinder side k h }

-- an answer and what is left in the slice, by the one test of both
answered :
    (t : Bool) (len : ℕ) (img blank : List ℕ) (P : List ℕ → Type 0) → 11 ≤ len → (t ≡ true → P blank)
    → (cond t len 0 ≡ 0 → cond t blank img ≡ img) × ((cond t len 0 ≡ 0 → ⊥) → P (cond t blank img))
answered true len img blank P l f = (λ z. absurd (omega arith), λ n. f refl)
answered false len img blank P l f = (λ z. refl, λ n. absurd (n refl))

-- the maker's answer: 0 and the slice as it was, or a sound image
pub blank_made :
    (img : List ℕ) (cylinders heads slots n protect fill : ℕ) → BlankMade img cylinders heads slots n protect fill
blank_made img cylinders heads slots n protect fill =
    let g : Geometry = geometry_of cylinders heads slots n protect in
    let p = answered (takes (length img) cylinders heads slots n protect) (length_of g) img (blank_of g fill) (Sound g)
    (length_ge g)
    (λ e. blank_sound g fill (range_true cylinders heads slots n protect
    (both (in_range cylinders heads slots n protect) (eqb (length img) (length_of g)) e).0)) in
    record { refused = p.0; made = p.1 }
