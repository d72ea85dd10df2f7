-- A sector's bytes, one tick of many.
-- Assumes nothing.
use Prim.Native.Nat.{ℕ, zero, suc, ◌+◌, ◌-◌, ◌≤◌, ◌<◌}
use native.Mathlib.Omega.{arith}
use mathlib.Core.Bool.{Bool, true, false, not, ◌||◌, cond, beq, true≢false, false≢true}
use mathlib.Core.List.{List}
use mathlib.Core.Path.{◌≡◌, refl, sym, ◌∙◌}
use lib.Dec.{eqb, leb}
use borrow.Author.Tests.{leb-false}
use Rattle.image.proofs.LayoutLaws.{size_le}
use Rattle.image.proofs.TestLaws.{by_test}
use Rattle.chip.specs.declared.fifo.Fifo.{Fifo}
use Rattle.chip.specs.Fifo.{full_of, drawn_of}
use Rattle.sectors.specs.declared.work.Site.{Site}
use Rattle.sectors.specs.declared.work.Task.{Task}
use Rattle.sectors.specs.Read.{last_byte}
use Rattle.sectors.specs.Track.{pass_bytes}
use Rattle.many_ticks.specs.declared.sector.Pace.{Pace}
use Rattle.many_ticks.specs.Sector.{pace_of, read_rests, read_fill, reads_of}
use Rattle.many_ticks.specs.Sector.{store_rests, StoredSector, pace_stored, byte_put, sector_stores}

some_left : (left : ℕ) → 0 < left → left ≡ suc (left - 1)
some_left left h = omega arith

pub not-true : (t : Bool) → not t ≡ true → t ≡ false
not-true true h = absurd (false≢true h)
not-true false h = refl

not-false : (t : Bool) → not t ≡ false → t ≡ true
not-false true h = refl
not-false false h = absurd (true≢false h)

pub neither : (t u : Bool) → (t || u) ≡ false → (t ≡ false) × (u ≡ false)
neither true u h = absurd (true≢false h)
neither false u h = (refl, h)

-- a byte more is still in the sector
pub read_room : (site : Site) (task : Task) (efifo : Bool) (done : ℕ) (fifo : Fifo)
    → read_rests site task efifo done fifo ≡ false
    → done + 1 < 1024
read_room site task efifo done fifo h =
    let last = leb-false (pass_bytes site task) (done + 1)
    (neither (fifo.tc || full_of efifo fifo) (last_byte site task done) h).1 in
    omega (arith, last, size_le site.disk.n)

pub store_room : (site : Site) (task : Task) (done : ℕ) (fifo : Fifo)
    → store_rests site task done fifo ≡ false → done < 1024
store_room site task done fifo h =
    let last = leb-false (pass_bytes site task) done
    (neither (leb (pass_bytes site task) done) (eqb fifo.count 0) h).0 in
    omega (arith, last, size_le site.disk.n)

module _ (site : Site) (task : Task) (head slot : ℕ) (efifo : Bool) (fifothr : ℕ) (asks : Bool) where
  module _ (img : List ℕ) (done : ℕ) (fifo : Fifo) where
    abbrev filled : Fifo
    filled = read_fill site head slot img efifo fifothr done fifo

    abbrev reading : ℕ → Pace
    reading left = reads_of site task head slot img efifo fifothr asks left done fifo

    -- what one more tick gives, of those left
    abbrev read_once : ℕ → ℕ → Pace
    read_once left m =
        cond (read_rests site task efifo done fifo) (pace_of done fifo left)
        (cond (beq asks filled.asks)
        (reads_of site task head slot img efifo fifothr asks m (done + 1) filled)
        (pace_of (done + 1) filled m))

    pub reads_none : (left : ℕ) → left ≤ 0 → reading left ≡ pace_of done fifo 0
    unfolding reads_of
    reads_none left h = let e : left ≡ 0 = omega arith in rw e

    reads_once : (m : ℕ) → reading (suc m) ≡ read_once (suc m) m
    unfolding reads_of
    reads_once m = refl

    pub reads_step : (left : ℕ) → 0 < left → reading left ≡ read_once left (left - 1)
    reads_step left h = go left (left - 1) (some_left left h)
      where
        go : (k m : ℕ) → k ≡ suc m → reading k ≡ read_once k m
        go k m e = rw e (reads_once m)

  module _ (done : ℕ) (fifo : Fifo) (a b : List ℕ) where
    abbrev drawn : Fifo
    drawn = drawn_of efifo fifothr fifo

    abbrev storing : ℕ → StoredSector
    storing left = sector_stores site task head slot efifo fifothr asks left done fifo a b

    abbrev store_once : ℕ → ℕ → StoredSector
    store_once left m =
        cond (store_rests site task done fifo) (pace_stored (pace_of done fifo left) a b)
        (cond (beq asks drawn.asks)
        (sector_stores site task head slot efifo fifothr asks m (done + 1) drawn (byte_put site head slot 0 done fifo a)
        (byte_put site head slot 1 done fifo b))
        (pace_stored (pace_of (done + 1) drawn m) (byte_put site head slot 0 done fifo a)
        (byte_put site head slot 1 done fifo b)))

    pub stores_none : (left : ℕ) → left ≤ 0 → storing left ≡ pace_stored (pace_of done fifo 0) a b
    unfolding sector_stores
    stores_none left h = let e : left ≡ 0 = omega arith in rw e

    stores_once : (m : ℕ) → storing (suc m) ≡ store_once (suc m) m
    unfolding sector_stores
    stores_once m = refl

    pub stores_step : (left : ℕ) → 0 < left → storing left ≡ store_once left (left - 1)
    stores_step left h = go left (left - 1) (some_left left h)
      where
        go : (k m : ℕ) → k ≡ suc m → storing k ≡ store_once k m
        go k m e = rw e (stores_once m)

  -- from a loop that stands at so many left, to its end
  module _ (img : List ℕ) (left done : ℕ) (fifo : Fifo) (whole : Pace)
      (run : whole ≡ reads_of site task head slot img efifo fifothr asks left done fifo)
    where
      pub read_over : left ≤ 0 → pace_of done fifo 0 ≡ whole
      read_over none = sym (run ∙ reads_none img done fifo left none)

      pub read_rested : 0 < left → read_rests site task efifo done fifo ≡ true → pace_of done fifo left ≡ whole
      read_rested some rests = let h = run ∙ reads_step img done fifo left some in sym (rw rests at h)

      module _ (some : 0 < left) (rests : read_rests site task efifo done fifo ≡ false) (next : Fifo)
          (fill : next ≡ read_fill site head slot img efifo fifothr done fifo)
        where
          read_moved : whole
              ≡ cond (beq asks next.asks)
              (reads_of site task head slot img efifo fifothr asks (left - 1) (done + 1) next)
              (pace_of (done + 1) next (left - 1))
          read_moved = let h = run ∙ reads_step img done fifo left some in rw (rests, ← fill) at h

          pub read_turned : not (beq asks next.asks) ≡ true → pace_of (done + 1) next (left - 1) ≡ whole
          read_turned t = let h = read_moved in sym (rw (not-true (beq asks next.asks) t) at h)

          pub read_on_lem : not (beq asks next.asks) ≡ false
              → whole ≡ reads_of site task head slot img efifo fifothr asks (left - 1) (done + 1) next
          read_on_lem t = let h = read_moved in rw (not-false (beq asks next.asks) t) at h

  module _ (left done : ℕ) (fifo : Fifo) (a b : List ℕ) (whole : StoredSector)
      (run : whole ≡ sector_stores site task head slot efifo fifothr asks left done fifo a b)
    where
      pub store_over : left ≤ 0 → pace_stored (pace_of done fifo 0) a b ≡ whole
      store_over none = sym (run ∙ stores_none done fifo a b left none)

      pub store_rested : 0 < left → store_rests site task done fifo ≡ true → pace_stored (pace_of done fifo left) a b ≡ whole
      store_rested some rests = let h = run ∙ stores_step done fifo a b left some in sym (rw rests at h)

      module _ (some : 0 < left) (rests : store_rests site task done fifo ≡ false) (next : Fifo) (a' b' : List ℕ)
          (draw : next ≡ drawn_of efifo fifothr fifo)
          (first : a' ≡ byte_put site head slot 0 done fifo a)
          (second : b' ≡ byte_put site head slot 1 done fifo b)
        where
          store_moved : whole
              ≡ cond (beq asks next.asks)
              (sector_stores site task head slot efifo fifothr asks (left - 1) (done + 1) next a' b')
              (pace_stored (pace_of (done + 1) next (left - 1)) a' b')
          store_moved =
              let h = run ∙ stores_step done fifo a b left some in rw (rests, ← draw, ← first, ← second) at h

          pub store_turned : not (beq asks next.asks) ≡ true
              → pace_stored (pace_of (done + 1) next (left - 1)) a' b' ≡ whole
          store_turned t = let h = store_moved in sym (rw (not-true (beq asks next.asks) t) at h)

          pub store_on : not (beq asks next.asks) ≡ false
              → whole ≡ sector_stores site task head slot efifo fifothr asks (left - 1) (done + 1) next a' b'
          store_on t = let h = store_moved in rw (not-false (beq asks next.asks) t) at h

  -- no more ticks are left than there were
  pub reads_left : (img : List ℕ) (n done : ℕ) (fifo : Fifo)
      → (reads_of site task head slot img efifo fifothr asks n done fifo).left ≤ n
  unfolding reads_of
  reads_left img zero done fifo = omega arith
  reads_left img (suc n) done fifo =
      by_test (read_rests site task efifo done fifo) (λ (p : Pace). p.left ≤ suc n) _ _ (λ _. omega arith)
      (λ _. by_test (beq asks (read_fill site head slot img efifo fifothr done fifo).asks)
      (λ (p : Pace). p.left ≤ suc n) _ _
      (λ _. omega (arith, reads_left img n (done + 1) (read_fill site head slot img efifo fifothr done fifo)))
      (λ _. omega arith))

  pub stores_left : (n done : ℕ) (fifo : Fifo) (a b : List ℕ)
      → (sector_stores site task head slot efifo fifothr asks n done fifo a b).pace.left ≤ n
  unfolding sector_stores
  stores_left zero done fifo a b = omega arith
  stores_left (suc n) done fifo a b =
      by_test (store_rests site task done fifo) (λ (s : StoredSector). s.pace.left ≤ suc n) _ _ (λ _. omega arith)
      (λ _. by_test (beq asks (drawn_of efifo fifothr fifo).asks) (λ (s : StoredSector). s.pace.left ≤ suc n) _ _
      (λ _. omega (
        arith,
        stores_left n (done + 1) (drawn_of efifo fifothr fifo) (byte_put site head slot 0 done fifo a)
            (byte_put site head slot 1 done fifo b),
      ))
      (λ _. omega arith))
