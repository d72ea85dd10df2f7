-- `SoundExactly` (02 2026-04, 01 Image sound): no fault is what sound means.
-- Assumes nothing.
use Prim.Native.Nat.{ℕ, zero, suc, ◌+◌, ◌*◌, ◌-◌, ◌<◌, ◌≤◌}
use native.Mathlib.Omega.{arith}
use mathlib.Core.Bool.{Bool, true, false}
use mathlib.Core.List.{List}
use mathlib.Core.Logic.{◌⊎◌, inl, inr, ◌≢◌}
use mathlib.Core.Path.{◌≡◌, refl, sym, ap, ◌∙◌}
use lib.Dec.{eqb}
use lib.ListN.{length, get_or}
use borrow.Author.Tests.{eqb-true, eqb-false}
use Rattle.image.specs.declared.layout.Geometry.{Geometry}
use Rattle.image.specs.Disk.{geometry_in, Fits}
use Rattle.image.specs.Layout.{slot_length, length_of, track_at, offset_of, Has}
use Rattle.image.specs.Sound.{Field, Track, mark_in, NoTwins, Sound}
use Rattle.image.proofs.DiskLaws.{header_geometry}
use Rattle.image.proofs.TestLaws.{le_or_lt}
use Rattle.judging.specs.declared.fault.Kind.{Kind}
use Rattle.judging.specs.declared.fault.Kind.TheVariants as kind
use Rattle.std.specs.Prelude.{Ok, Err}
use Rattle.judging.specs.Verdict.{Verdict}
use Rattle.judging.specs.Fault.{
  field_bytes,
  TrackFault,
  PlaceFault,
  MarkFault,
  TwiceFault,
  EndFault,
  FaultAt,
}
use Rattle.judging.specs.Judge.{header_fault, length_fault, body_fault, judge_of}
use Rattle.judging.specs.Statements.{SoundExactly}
use Rattle.judging.proofs.ExactLaws.{exact}
use Rattle.judging.proofs.HeaderLaws.{right_range, right_header, header_none}
use Rattle.judging.proofs.VerdictLaws.{both_sound, right_sound}

-- what cannot differ is equal
stable : (x y : ℕ) → (x ≢ y → ⊥) → x ≡ y
stable x y n = go (eqb x y) refl
  where
    go : (t : Bool) → eqb x y ≡ t → x ≡ y
    go true e = eqb-true x y e
    go false e = absurd (n (eqb-false x y e))

-- a field byte by byte
field_byte :
    (img : List ℕ) (at tag size : ℕ) → Field img at tag size → (i : ℕ) → i < 3
    → get_or img (at + i) 0 ≡ get_or (field_bytes tag size) i 0
field_byte img at tag size f zero l =
    let e : at + 0 ≡ at = omega arith in
    rw e f.tagged
field_byte img at tag size f (suc zero) l = f.high
field_byte img at tag size f (suc (suc zero)) l = f.low
field_byte img at tag size f (suc (suc (suc i))) l = absurd (omega arith)

byte_field :
    (img : List ℕ) (at tag size : ℕ)
    → ((i : ℕ) → i < 3 → get_or img (at + i) 0 ≡ get_or (field_bytes tag size) i 0) → Field img at tag size
byte_field img at tag size f =
    let e : at ≡ at + 0 = omega arith in
    record { tagged = rw e (f 0 (omega arith)); high = f 1 (omega arith); low = f 2 (omega arith) }

-- a sound image has no fault
module _ (g : Geometry) (img : List ℕ) (s : Sound g img) where
  track_none : (o : ℕ) → TrackFault g img o → ⊥
  track_none o f =
      let t = s.tracks f.cylinder f.side f.on_disk f.on_cylinder in
      f.wrong (rw f.at (field_byte img _ 0x02 _ t.field f.byte f.in_field))

  place_none : (o : ℕ) → PlaceFault g img o → ⊥
  place_none o f = go f.wrong
    where
      go :
          ((o ≡ track_at g f.cylinder f.side + 3) × (get_or img o 0 ≢ f.cylinder))
          ⊎ ((o ≡ track_at g f.cylinder f.side + 4) × (get_or img o 0 ≢ f.side))
          → ⊥
      go (inl (at, w)) = w (rw at (s.tracks f.cylinder f.side f.on_disk f.on_cylinder).own_cylinder)
      go (inr (at, w)) = w (rw at (s.tracks f.cylinder f.side f.on_disk f.on_cylinder).own_side)

  mark_none : (o : ℕ) → MarkFault g img o → ⊥
  mark_none o f = omega (arith, f.wrong, s.marks f.cylinder f.side f.k f.has)

  twice_none : (o : ℕ) → TwiceFault g img o → ⊥
  twice_none o f =
      let before : Has g f.cylinder f.side f.j
      = record {
        on_disk = f.has.on_disk;
        on_cylinder = f.has.on_cylinder;
        on_track = omega (arith, f.earlier, f.has.on_track);
      } in
      s.once f.cylinder f.side f.j f.k before f.has f.earlier (omega (arith, f.first.0))
      (omega (arith, f.second.0)) f.same

  end_none : (o : ℕ) → EndFault g img o → ⊥
  end_none o f = f.wrong (rw f.at (field_byte img _ 0x03 0 s.last f.byte f.in_field))

  own : (h : Geometry) → Fits h img → h ≡ g
  own h f = sym (header_geometry img h f.header) ∙ header_geometry img g s.fits.header

  sound_none : (k : Kind) (o : ℕ) → FaultAt img k o → ⊥
  sound_none kind.Header o f = header_none img g s.fits.range s.fits.header o f
  sound_none kind.Length o f = go f.other
    where
      asked : length img ≡ length_of f.g
      asked =
          s.fits.size
          ∙ ap length_of (sym (header_geometry img g s.fits.header) ∙ header_geometry img f.g f.header)

      go :
          ((length img < length_of f.g) × (o ≡ length img)) ⊎ ((length_of f.g < length img) × (o ≡ length_of f.g))
          → ⊥
      go (inl (l, q)) = omega (arith, asked)
      go (inr (l, q)) = omega (arith, asked)
  sound_none kind.Track o f = track_none o (rw (own f.g f.fits) at f.there)
  sound_none kind.Place o f = place_none o (rw (own f.g f.fits) at f.there)
  sound_none kind.Mark o f = mark_none o (rw (own f.g f.fits) at f.there)
  sound_none kind.Twice o f = twice_none o (rw (own f.g f.fits) at f.there)
  sound_none kind.End o f = end_none o (rw (own f.g f.fits) at f.there)

-- and an image that fits and has none is sound
module _ (g : Geometry) (img : List ℕ) (fits : Fits g img) (none : (k : Kind) (o : ℕ) → FaultAt img k o → ⊥) where
  low : (cylinder side k : ℕ) → Has g cylinder side k → mark_in g img cylinder side k ≤ 5
  low cylinder side k h = go (le_or_lt (mark_in g img cylinder side k) 5)
    where
      go : (mark_in g img cylinder side k ≤ 5) ⊎ (5 < mark_in g img cylinder side k) → mark_in g img cylinder side k ≤ 5
      go (inl a) = a
      go (inr a) =
          absurd (none kind.Mark (offset_of g cylinder side k) (record {
            g = g;
            fits = fits;
            there = record { cylinder = cylinder; side = side; k = k; has = h; at = refl; wrong = a };
          }))

  apart : (cylinder side : ℕ) → NoTwins g img cylinder side
  apart cylinder side j k hj hk l a b e =
      none kind.Twice (offset_of g cylinder side k) (record {
        g = g;
        fits = fits;
        there = record {
          cylinder = cylinder;
          side = side;
          j = j;
          k = k;
          has = hk;
          earlier = l;
          at = refl;
          first = (omega arith, low cylinder side j hj);
          second = (omega arith, low cylinder side k hk);
          same = e;
        };
      })

  in_place :
      (cylinder side o : ℕ) → cylinder < g.cylinders → side < g.heads
      → ((o ≡ track_at g cylinder side + 3) × (get_or img o 0 ≢ cylinder))
      ⊎ ((o ≡ track_at g cylinder side + 4) × (get_or img o 0 ≢ side))
      → ⊥
  in_place cylinder side o lc ls w =
      none kind.Place o (record {
        g = g;
        fits = fits;
        there = record { cylinder = cylinder; side = side; on_disk = lc; on_cylinder = ls; wrong = w };
      })

  framed : (cylinder side : ℕ) → cylinder < g.cylinders → side < g.heads → Track g img cylinder side
  framed cylinder side lc ls =
      record {
        field = byte_field img (track_at g cylinder side) 0x02 (2 + g.slots * slot_length g)
            (λ i l. stable _ _ (λ w. none kind.Track (track_at g cylinder side + i) (record {
              g = g;
              fits = fits;
              there = record {
                cylinder = cylinder;
                side = side;
                byte = i;
                on_disk = lc;
                on_cylinder = ls;
                in_field = l;
                at = refl;
                wrong = w;
              };
            })));
        own_cylinder = stable _ _ (λ w. in_place cylinder side (track_at g cylinder side + 3) lc ls (inl (refl, w)));
        own_side = stable _ _ (λ w. in_place cylinder side (track_at g cylinder side + 4) lc ls (inr (refl, w)));
      }

  none_sound : Sound g img
  none_sound =
      record {
        fits = fits;
        tracks = framed;
        last = byte_field img (length_of g - 3) 0x03 0
            (λ i l. stable _ _ (λ w. none kind.End (length_of g - 3 + i) (record {
              g = g;
              fits = fits;
              there = record { byte = i; in_field = l; at = refl; wrong = w };
            })));
        marks = low;
        once = apart;
      }

-- a sound answer: header and length are right
answered_fits : (img : List ℕ) → judge_of img ≡ Ok tt → Fits (geometry_in img) img
unfolding judge_of body_fault length_fault
answered_fits img e =
    let (h, body) = both_sound (header_fault img) _ e in
    let (size, rest) = both_sound _ _ body in
    record {
      range = right_range img h;
      header = right_header img h;
      size = eqb-true _ _ (right_sound _ kind.Length _ size);
    }

-- 02 2026-04
pub sound_exactly : SoundExactly
sound_exactly img = (
  λ e. (geometry_in img, none_sound (geometry_in img) img (answered_fits img e) (rw e at (exact img).told)),
  λ (g, s). back g s (judge_of img) refl,
)
  where
    back : (g : Geometry) → Sound g img → (v : Verdict) → judge_of img ≡ v → v ≡ Ok tt
    back g s (Ok _) e = refl
    back g s (Err f) e =
        absurd (sound_none g img s f.kind f.at (rw e at (exact img).told).0)
