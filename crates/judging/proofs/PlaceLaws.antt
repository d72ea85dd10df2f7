-- Laws of `place_of` (02 2026-04): it takes back each slot's offset and each track's (01 Image).
-- Assumes nothing.
use Prim.Native.Nat.{ℕ, ◌+◌, ◌*◌, ◌-◌, ◌/◌, ◌%◌, ◌<◌, ◌≤◌}
use native.Mathlib.Nat.{mul-add-div_right, mul-add-mod_self_right, div-eq_of_lt, mod-eq_of_lt, mul-div_cancel, zero-div}
use native.Mathlib.Omega.{arith}
use mathlib.Core.Path.{◌≡◌, ◌∙◌}
use borrow.Author.Tests.{ne_eqb}
use Rattle.image.specs.declared.layout.Geometry.{Geometry}
use Rattle.image.specs.Layout.{slot_length, track_length, track_at, offset_of, Has}
use Rattle.image.specs.Disk.{InRange}
use Rattle.image.proofs.LayoutLaws.{row_inside, size_ge}
use Rattle.judging.specs.PlaceOf.{place_at, place_of, PlacedExactly}

-- q rows of w and k more, by division
row_div : (w q k : ℕ) → k < w → (q * w + k) / w ≡ q
row_div w q k h = mul-add-div_right {m = w} (omega arith) q k ∙ (rw (div-eq_of_lt h) (omega arith))

row_mod : (w q k : ℕ) → k < w → (q * w + k) % w ≡ k
row_mod w q k h = mul-add-mod_self_right q w k ∙ mod-eq_of_lt h

-- a byte of a track: the numbers of its place
module _ (g : Geometry) (range : InRange g) (c s k m : ℕ) (on_disk : c < g.cylinders) (on_cylinder : s < g.heads)
    (small : k ≤ 255) (inside : m < track_length g) (slot : (m - 5) / slot_length g ≡ k) where
  placed : place_of g (8 + (c * g.heads + s) * track_length g + m) ≡ place_at c s k
  unfolding place_of
  placed =
      let track : ℕ = c * g.heads + s in
      let w : ℕ = track_length g in
      let behind : 8 + track * w + m - 8 ≡ track * w + m = omega arith in
      rw (
        behind,
        row_div w track m inside,
        row_mod w track m inside,
        slot,
        row_div g.heads c s on_cylinder,
        row_mod g.heads c s on_cylinder,
        ne_eqb g.heads 0 (λ e. omega arith),
        mod-eq_of_lt {n = c} {m = 256} (omega (arith, range.cylinders.1)),
        mod-eq_of_lt {n = s} {m = 256} (omega (arith, range.heads.1)),
        mod-eq_of_lt {n = k} {m = 256} (omega arith),
      )

some_slot : (g : Geometry) → 0 < slot_length g
some_slot g = omega (arith, size_ge g.n)

slot_placed :
    (g : Geometry) (cylinder side k : ℕ) → InRange g → Has g cylinder side k
    → place_of g (offset_of g cylinder side k) ≡ place_at cylinder side k
unfolding offset_of track_at track_length
slot_placed g c s k r h =
    let w : ℕ = slot_length g in
    let inside : 5 + k * w < track_length g
    = omega (arith, row_inside k g.slots w h.on_track, some_slot g) in
    let same : 5 + k * w - 5 ≡ k * w = omega arith in
    let at : 8 + (c * g.heads + s) * track_length g + 5 + k * w ≡ 8 + (c * g.heads + s) * track_length g + (5 + k * w)
    = omega arith in
    rw at (placed g r c s k (5 + k * w) h.on_disk h.on_cylinder (omega (arith, r.slots.1, h.on_track)) inside
    (rw same (mul-div_cancel k (some_slot g))))

track_placed :
    (g : Geometry) (cylinder side j : ℕ) → InRange g → cylinder < g.cylinders → side < g.heads → j < 5
    → place_of g (track_at g cylinder side + j) ≡ place_at cylinder side 0
unfolding track_at track_length
track_placed g c s j r lc ls l =
    let none : j - 5 ≡ 0 = omega arith in
    placed g r c s 0 j lc ls (omega arith) (omega arith) (rw none (zero-div (slot_length g)))

-- 02 2026-04: with cylinder, side and slot
pub placed_exactly : PlacedExactly
placed_exactly = record { slot = slot_placed; track = track_placed }
