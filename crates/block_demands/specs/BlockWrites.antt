-- A block written (02 2026-01): on a sound, unprotected disk with that address the answer is IC 00, the slot holds the
-- caller's bytes under mark 1, and no other byte of either image changed; and what was written is read back.
-- Assumes nothing.
use Rattle.std.specs.Prelude.{ℕ, ◌+◌, ◌<◌, ◌≤◌, false, List, ◌≡◌, length, get_or}
use Rattle.image.specs.declared.layout.Geometry.{Geometry}
use Rattle.image.specs.Layout.{size_of}
use Rattle.image.specs.Sound.{Sound}
use Rattle.demands.specs.PowerCut.{Counts}
use Rattle.block.specs.declared.request.Reply.TheVariants.{Ended}
use Rattle.block.specs.Box.{Box}
use Rattle.block.specs.Place.{blocks_of}
use Rattle.block.specs.Request.{ending_of, read_block, WriteDone, write_block}
use Rattle.block_demands.specs.Asked.{image_of, AnyValid, Asked, Slot}
use Rattle.block_demands.specs.BlockReads.{normal_end, next_id}

-- place i is neither the slot's mark nor one of its bytes
pub record Outside (g : Geometry) (at i : ℕ) : Type 0 where
  pub mark : i ≡ at → ⊥
  pub bytes : at + 5 ≤ i → i < at + 5 + size_of g.n → ⊥

-- the slot holds the bytes under mark 1, and no other byte of the image changed
pub record Stored (g : Geometry) (at : ℕ) (old img bytes : List ℕ) : Type 0 where
  pub mark : get_or img at 0 ≡ 1
  pub holds : (i : ℕ) → i < size_of g.n → get_or img (at + 5 + i) 0 ≡ get_or bytes i 0
  pub others : (i : ℕ) → Outside g at i → get_or img i 0 ≡ get_or old i 0
  pub size : length img ≡ length old

-- a normal end with the next address; the block stored, the other drive's image as it was, and the disk still sound
pub record Written (drive block : ℕ) (s : Box) (g : Geometry) (at : ℕ) (bytes : List ℕ) (w : WriteDone) : Type 0 where
  pub reply : w.reply ≡ Ended (ending_of (normal_end drive g block 0x00 (next_id g block)))
  pub stored : Stored g at (image_of drive s) (image_of drive w.box) bytes
  pub other : (k : ℕ) → (k ≡ drive → ⊥) → image_of k w.box ≡ image_of k s
  pub sound : Sound g (image_of drive w.box)

-- the slot's mark is any of 1 to 5: a bad block is written anew
abbrev pub BlockWrites : Type 0
BlockWrites =
    (drive block : ℕ) (s : Box) (g : Geometry) (bytes : List ℕ) → Asked drive block s g bytes
    → Sound g (image_of drive s) → g.protect ≡ false
    → (mark at : ℕ) → Counts mark → Slot g (image_of drive s) block mark at
    → Written drive block s g at bytes (write_block drive block s bytes)

-- then a read, of either drive and from any other valid record, gives the bytes back
abbrev pub BlockRoundTrip : Type 0
BlockRoundTrip =
    (drive block : ℕ) (s : Box) (g : Geometry) (bytes : List ℕ) → Asked drive block s g bytes
    → Sound g (image_of drive s) → g.protect ≡ false
    → (mark at : ℕ) → Counts mark → Slot g (image_of drive s) block mark at
    → (drive' : ℕ) (s' : Box) (out : List ℕ) → AnyValid s'.controller → drive' < 2
    → image_of drive' s' ≡ image_of drive (write_block drive block s bytes).box → length out ≡ size_of g.n
    → (read_block drive' block s' out).out ≡ bytes

-- and every other block is where it was, with its mark, its address and its bytes
abbrev pub BlockApart : Type 0
BlockApart =
    (drive block : ℕ) (s : Box) (g : Geometry) (bytes : List ℕ) → Asked drive block s g bytes
    → Sound g (image_of drive s) → g.protect ≡ false
    → (mark at : ℕ) → Counts mark → Slot g (image_of drive s) block mark at
    → (other mark' at' : ℕ) → (other ≡ block → ⊥) → other < blocks_of g → Slot g (image_of drive s) other mark' at'
    → Slot g (image_of drive (write_block drive block s bytes).box) other mark' at'
    × ((i : ℕ) → i < size_of g.n
    → get_or (image_of drive (write_block drive block s bytes).box) (at' + 5 + i) 0
    ≡ get_or (image_of drive s) (at' + 5 + i) 0)
