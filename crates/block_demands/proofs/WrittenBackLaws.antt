-- After a block is written (02 2026-01; specs/BlockWrites): it is read back, and every other block is where it was.
-- Assumes nothing.
use Prim.Native.Nat.{ℕ, ◌+◌, ◌*◌, ◌/◌, ◌%◌, ◌<◌}
use native.Mathlib.Omega.{arith}
use native.Mathlib.Nat.{div-add-mod'}
use mathlib.Core.List.{List}
use mathlib.Core.Path.{◌≡◌, sym, ap, ◌∙◌, subst}
use lib.ListN.{get_or}
use lib.Seq.{ext_get_or}
use Rattle.image.specs.declared.layout.Geometry.{Geometry}
use Rattle.image.specs.declared.slot.Id.{Id}
use Rattle.image.specs.Layout.{size_of, offset_of, InSlot}
use Rattle.image.specs.Slot.{id_at}
use Rattle.image.specs.Sound.{Sound}
use Rattle.image.proofs.DiskLaws.{fits_present}
use Rattle.image.proofs.LayoutLaws.{slots_share_nothing}
use Rattle.block.specs.Place.{place_of}
use Rattle.block.specs.Request.{read_block, write_block}
use Rattle.block_demands.specs.Asked.{image_of, id_of, Slot}
use Rattle.block_demands.specs.BlockWrites.{Outside, Stored, BlockRoundTrip, BlockApart}
use Rattle.block_demands.proofs.ReadWholeLaws.{block_reads}
use Rattle.block_demands.proofs.WrittenLaws.{block_writes}

-- four bytes that stay are an address that stays
id_stays : (old img : List ℕ) (at : ℕ) → ((k : ℕ) → 0 < k → k < 5 → get_or img (at + k) 0 ≡ get_or old (at + k) 0)
    → id_at img at ≡ id_at old at
id_stays old img at f =
    λ i. record {
      c = f 1 (omega arith) (omega arith) i;
      h = f 2 (omega arith) (omega arith) i;
      r = f 3 (omega arith) (omega arith) i;
      n = f 4 (omega arith) (omega arith) i;
    }

-- the block's slot holds the block now, under mark 1
slot_now : (g : Geometry) (block mark at : ℕ) (old img bytes : List ℕ) → Slot g old block mark at
    → Stored g at old img bytes → Slot g img block 1 at
slot_now g block mark at old img bytes slot stored = record {
  slot = slot.slot;
  has = slot.has;
  place = slot.place;
  address =
      id_stays old img at
      (λ k l m. stored.others (at + k) (record { mark = λ e. omega arith; bytes = λ a b. omega arith }))
      ∙ slot.address;
  marked = stored.mark;
}

pub block_round_trip : BlockRoundTrip
block_round_trip drive block s g bytes asked sound free mark at counts slot drive' s' out any low same size =
    let w = block_writes drive block s g bytes asked sound free mark at counts slot in
    let now : Sound g (image_of drive' s') = rw same w.sound in
    let r = block_reads.good drive' block s' g out
    (record {
      any = any;
      drive_is = low;
      disk = fits_present (image_of drive' s') g now.fits;
      within = asked.within;
      size = size;
    }) now at
    (rw same
    (slot_now g block mark at (image_of drive s) (image_of drive (write_block drive block s bytes).box) bytes slot
    w.stored)) in
    ext_get_or 0 (read_block drive' block s' out).out bytes (r.block_is.size ∙ sym asked.size)
    (λ i l.
    let m : i < size_of g.n = omega (arith, r.block_is.size) in
    r.block_is.bytes i m ∙ ap (λ (img : List ℕ). get_or img (at + 5 + i) 0) same ∙ w.stored.holds i m)

-- a block is told by its place, and its place by its address
same_block : (g : Geometry) (a b : ℕ) → id_of g (place_of g a) ≡ id_of g (place_of g b) → a ≡ b
same_block g a b e =
    let cylinder : a / g.slots / g.heads ≡ b / g.slots / g.heads = ap (λ (x : Id). x.c) e in
    let side : a / g.slots % g.heads ≡ b / g.slots % g.heads = ap (λ (x : Id). x.h) e in
    let sector : a % g.slots ≡ b % g.slots = omega (arith, ap (λ (x : Id). x.r) e) in
    let track : a / g.slots ≡ b / g.slots =
    sym (div-add-mod' (a / g.slots) g.heads) ∙ (λ i. cylinder i * g.heads + side i)
    ∙ div-add-mod' (b / g.slots) g.heads in
    sym (div-add-mod' a g.slots) ∙ (λ i. track i * g.slots + sector i) ∙ div-add-mod' b g.slots

-- two blocks' slots share no byte
module _ (g : Geometry) (block mark at other mark' at' : ℕ) (old : List ℕ) (slot : Slot g old block mark at)
    (slot' : Slot g old other mark' at') (apart : other ≡ block → ⊥) where
  abbrev offset : ℕ → ℕ → ℕ
  offset b k = offset_of g (place_of g b).cylinder (place_of g b).side k

  share : (i : ℕ) → InSlot g (place_of g other).cylinder (place_of g other).side slot'.slot i
      → InSlot g (place_of g block).cylinder (place_of g block).side slot.slot i → ⊥
  share i x y =
      let (c, d, k) = slots_share_nothing g _ _ slot'.slot _ _ slot.slot i slot'.has slot.has x y in
      let places : at' ≡ at = slot'.place ∙ (λ j. offset_of g (c j) (d j) (k j)) ∙ sym slot.place in
      apart (same_block g other block (sym slot'.address ∙ ap (id_at old) places ∙ slot.address))

  pub outside : (k : ℕ) → k < 5 + size_of g.n → Outside g at (at' + k)
  outside k l =
      let x : InSlot g (place_of g other).cylinder (place_of g other).side slot'.slot (at' + k) =
      record { from = omega (arith, slot'.place); below = omega (arith, slot'.place) } in
      record {
        mark = λ e.
            share (at' + k) x (record { from = omega (arith, slot.place); below = omega (arith, slot.place) });
        bytes = λ a b.
            share (at' + k) x (record { from = omega (arith, slot.place); below = omega (arith, slot.place) });
      }

pub block_apart : BlockApart
block_apart drive block s g bytes asked sound free mark at counts slot other mark' at' apart within slot' =
    let w = block_writes drive block s g bytes asked sound free mark at counts slot in
    let old = image_of drive s in
    let img = image_of drive (write_block drive block s bytes).box in
    let stays : (k : ℕ) → k < 5 + size_of g.n → get_or img (at' + k) 0 ≡ get_or old (at' + k) 0 =
    λ k l. w.stored.others (at' + k) (outside g block mark at other mark' at' old slot slot' apart k l) in
    let none : at' + 0 ≡ at' = omega arith in (
      record {
        slot = slot'.slot;
        has = slot'.has;
        place = slot'.place;
        address = id_stays old img at' (λ k l m. stays k (omega arith)) ∙ slot'.address;
        marked =
            subst (λ (i : ℕ). get_or img i 0 ≡ get_or old i 0) none (stays 0 (omega arith)) ∙ slot'.marked;
      },
      λ i l.
          let sum : at' + (5 + i) ≡ at' + 5 + i = omega arith in
          subst (λ (j : ℕ). get_or img j 0 ≡ get_or old j 0) sum (stays (5 + i) (omega arith)),
    )
