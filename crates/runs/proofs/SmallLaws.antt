-- The small disk of the runs, one track with sectors 1 and 2 of 256 bytes, is sound (01 Image sound), whatever the two
-- hold.
-- Assumes nothing.
use Prim.Native.Nat.{ℕ, zero, suc, ◌≤◌, ◌<◌}
use native.Mathlib.Omega.{arith}
use mathlib.Core.List.{List}
use mathlib.Core.Path.{◌≡◌, sym, ap, ◌∙◌}
use lib.ListN.{length, get_or, take}
use Rattle.image.specs.declared.slot.Id.{Id}
use Rattle.image.specs.Disk.{header_of}
use Rattle.image.specs.Examples.{disk}
use Rattle.image.specs.Layout.{size_of, track_length, length_of, track_at, offset_of, Has}
use Rattle.image.specs.Sound.{Track, mark_in, NoTwins, Sound}

-- header and length; the track's tag, length, cylinder and side; marks up to 5, 1; R 1 and R 2; the last tag
pub record Small (img : List ℕ) : Type 0 where
  pub header : take 8 img ≡ header_of (disk 1 1 2 1)
  pub size : length img ≡ 538
  pub tag : get_or img 8 0 ≡ 0x02
  pub high : get_or img 9 0 ≡ 0x02
  pub low : get_or img 10 0 ≡ 0x0C
  pub cylinder : get_or img 11 0 ≡ 0
  pub side : get_or img 12 0 ≡ 0
  pub first : get_or img 13 0 ≤ 5
  pub second : get_or img 274 0 ≡ 1
  pub first_r : get_or img 16 0 ≡ 1
  pub second_r : get_or img 277 0 ≡ 2
  pub last : (get_or img 535 0 ≡ 0x03) × (get_or img 536 0 ≡ 0) × (get_or img 537 0 ≡ 0)

module _ (img : List ℕ) (s : Small img) where
  small_track : (cylinder side : ℕ) → cylinder < 1 → side < 1 → Track (disk 1 1 2 1) img cylinder side
  unfolding size_of track_length track_at
  small_track zero zero p q = record {
    field = record { tagged = s.tag; high = s.high; low = s.low };
    own_cylinder = s.cylinder;
    own_side = s.side;
  }
  small_track zero (suc side) p q = absurd (omega arith)
  small_track (suc cylinder) side p q = absurd (omega arith)

  small_marks : (cylinder side k : ℕ) → Has (disk 1 1 2 1) cylinder side k
      → mark_in (disk 1 1 2 1) img cylinder side k ≤ 5
  unfolding size_of track_length track_at offset_of
  small_marks zero zero zero h = s.first
  small_marks zero zero (suc zero) h = omega (arith, s.second)
  small_marks zero zero (suc (suc k)) h = absurd (omega (arith, h.on_track))
  small_marks zero (suc side) k h = absurd (omega (arith, h.on_cylinder))
  small_marks (suc cylinder) side k h = absurd (omega (arith, h.on_disk))

  small_once : (cylinder side : ℕ) → NoTwins (disk 1 1 2 1) img cylinder side
  unfolding size_of track_length track_at offset_of
  small_once zero zero zero (suc zero) p q l m n e =
      let r : ◌≡◌ {A = ℕ} 1 2 = sym s.first_r ∙ (ap (λ (i : Id). i.r) e ∙ s.second_r) in
      omega arith
  small_once zero zero zero zero p q l m n e = omega arith
  small_once zero zero zero (suc (suc k)) p q l m n e = omega (arith, q.on_track)
  small_once zero zero (suc j) k p q l m n e = omega (arith, q.on_track)
  small_once zero (suc side) j k p q l m n e = omega (arith, p.on_cylinder)
  small_once (suc cylinder) side j k p q l m n e = omega (arith, p.on_disk)

  pub small_sound : Sound (disk 1 1 2 1) img
  unfolding size_of track_length length_of
  small_sound = record {
    fits = record {
      range = record {
        cylinders = (omega arith, omega arith);
        heads = (omega arith, omega arith);
        slots = (omega arith, omega arith);
        n = (omega arith, omega arith);
      };
      header = s.header;
      size = s.size;
    };
    tracks = small_track;
    last = record { tagged = s.last.0; high = s.last.1; low = s.last.2 };
    marks = small_marks;
    once = small_once;
  }
