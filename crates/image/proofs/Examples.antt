-- 01 Example 3, 01 Example 4, by computation; and that `Sound` is met, and is not where it must not be.
-- Assumes nothing.
use Rattle.std.specs.Prelude.{Some}
use Prim.Native.Nat.{ℕ, zero, suc, ◌<◌, ◌≤◌}
use native.Mathlib.Omega.{arith}
use mathlib.Core.Path.{◌≡◌, refl, ap}
use Rattle.image.specs.declared.slot.Id.{Id}
use Rattle.image.specs.Layout.{size_of, track_length, length_of, track_at, offset_of, Has}
use Rattle.image.specs.Disk.{header_in, geometry_in, disk_in, Fits}
use Rattle.image.specs.Sound.{Sound, Track, mark_in, NoTwins}
use Rattle.image.specs.Examples.{ImageExamples, disk, sample}

pub image_examples : ImageExamples
unfolding length_of offset_of track_at track_length size_of
image_examples = record { ex3_large = refl; ex3_small = refl; ex4_second_side = refl; ex4_last = refl }

-- any second sector: the image fits, and is answered with its disk
pub sample_fits : (r : ℕ) → Fits (disk 1 1 2 1) (sample r)
unfolding length_of track_length size_of
sample_fits r =
    record {
      range = record {
        cylinders = (omega arith, omega arith);
        heads = (
          omega arith,
          omega arith,
        );
        slots = (omega arith, omega arith);
        n = (omega arith, omega arith);
      };
      header = refl;
      size = refl;
    }

pub sample_present : disk_in (sample 2) ≡ Some (disk 1 1 2 1)
unfolding disk_in header_in geometry_in length_of track_length size_of
sample_present = refl

-- sectors 1 and 2: sound
pub image_sound : Sound (disk 1 1 2 1) (sample 2)
unfolding offset_of track_at length_of track_length size_of
image_sound =
    record {
      fits = sample_fits 2;
      tracks = on_track;
      last = record { tagged = refl; high = refl; low = refl };
      marks = low_mark;
      once = apart;
    }
  where
    on_track : (cylinder side : ℕ) → cylinder < 1 → side < 1 → Track (disk 1 1 2 1) (sample 2) cylinder side
    on_track zero zero h k =
        record { field = record { tagged = refl; high = refl; low = refl }; own_cylinder = refl; own_side = refl }
    on_track zero (suc side) h k = absurd (omega arith)
    on_track (suc cylinder) side h k = absurd (omega arith)

    low_mark : (cylinder side k : ℕ) → Has (disk 1 1 2 1) cylinder side k → mark_in (disk 1 1 2 1)
        (sample 2) cylinder side k ≤ 5
    low_mark zero zero zero h = omega arith
    low_mark zero zero (suc zero) h = omega arith
    low_mark zero zero (suc (suc k)) h = absurd (omega arith)
    low_mark zero (suc side) k h = absurd (omega arith)
    low_mark (suc cylinder) side k h = absurd (omega arith)

    apart : (cylinder side : ℕ) → NoTwins (disk 1 1 2 1) (sample 2) cylinder side
    apart zero zero zero zero hj hk l a b e = absurd (omega arith)
    apart zero zero zero (suc zero) hj hk l a b e = absurd (omega (arith, ap (λ (i : Id). i.r) e))
    apart zero zero zero (suc (suc k)) hj hk l a b e = absurd (omega arith)
    apart zero zero (suc j) k hj hk l a b e = absurd (omega arith)
    apart zero (suc side) j k hj hk l a b e = absurd (omega arith)
    apart (suc cylinder) side j k hj hk l a b e = absurd (omega arith)

-- sector 1 twice: not sound, though it fits
pub twins_unsound : Sound (disk 1 1 2 1) (sample 1) → ⊥
unfolding offset_of track_at track_length size_of
twins_unsound s =
    s.once 0 0 0 1 (record { on_disk = omega arith; on_cylinder = omega arith; on_track = omega arith })
    (record { on_disk = omega arith; on_cylinder = omega arith; on_track = omega arith })
    (omega arith) (omega arith) (omega arith) refl
