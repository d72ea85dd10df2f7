-- A block read (02 2026-01): "answers with the block or the status bytes". On a sound disk the block under a good mark,
-- normal or deleted, comes whole; at every end the caller's slice holds the bytes that came, and behind them what
-- it held before.
-- Assumes nothing.
use Rattle.std.specs.Prelude.{ℕ, ◌+◌, ◌*◌, ◌<◌, ◌≤◌, false, List, [], ◌∷◌, ◌++◌, ◌≡◌, length, get_or, drop}
use Rattle.chip.specs.Next.{advanced_of}
use Rattle.image.specs.declared.layout.Geometry.{Geometry}
use Rattle.image.specs.declared.slot.Id.{Id}
use Rattle.image.specs.Layout.{size_of}
use Rattle.image.specs.Sound.{Sound}
use Rattle.demands.specs.PowerCut.{Stands}
use Rattle.block.specs.declared.request.Reply.TheVariants.{Ended}
use Rattle.block.specs.Box.{Box}
use Rattle.block.specs.Place.{place_of}
use Rattle.block.specs.declared.request.Ending.{Ending}
use Rattle.block.specs.Request.{ending_of, ReadDone, read_block}
use Rattle.block_demands.specs.Asked.{image_of, Asked, id_of, Slot}

-- the block's address, and 01 Next: the one after it
abbrev pub own_id : Geometry → ℕ → Id
own_id g block = id_of g (place_of g block)

abbrev pub next_id : Geometry → ℕ → Id
next_id g block = advanced_of (own_id g block) g.slots false (place_of g block).side 1

-- IC 00 with side and drive, ST1 00, ST2 as said, and an address
abbrev pub normal_end : ℕ → Geometry → ℕ → ℕ → Id → List ℕ
normal_end drive g block st2 id =
    (4 * (place_of g block).side + drive) ∷ 0x00 ∷ st2 ∷ id.c ∷ id.h ∷ id.r ∷ id.n ∷ []

-- both images are as they were
pub record BothStay (s t : Box) : Type 0 where
  pub first : t.first ≡ s.first
  pub second : t.second ≡ s.second

-- the slice holds the bytes of the slot whose mark is at that place of the image
pub record Filled (g : Geometry) (img : List ℕ) (at : ℕ) (out : List ℕ) : Type 0 where
  pub size : length out ≡ size_of g.n
  pub bytes : (i : ℕ) → i < size_of g.n → get_or out i 0 ≡ get_or img (at + 5 + i) 0

-- the whole block came: a normal end with that ST2 and that address, the block's bytes, and both images as they were
pub record WholeBlock (drive block : ℕ) (s : Box) (g : Geometry) (at st2 : ℕ) (id : Id) (r : ReadDone) : Type 0 where
  pub reply : r.reply ≡ Ended (ending_of (normal_end drive g block st2 id))
  pub block_is : Filled g (image_of drive s) at r.out
  pub images : BothStay s r.box

-- mark 1: the block, and the controller's next address. Mark 2: the block, ST2 40 and its own address
pub record BlockReads : Type 0 where
  pub good : (drive block : ℕ) (s : Box) (g : Geometry) (out : List ℕ) → Asked drive block s g out
      → Sound g (image_of drive s) → (at : ℕ) → Slot g (image_of drive s) block 1 at
      → WholeBlock drive block s g at 0x00 (next_id g block) (read_block drive block s out)
  pub deleted : (drive block : ℕ) (s : Box) (g : Geometry) (out : List ℕ) → Asked drive block s g out
      → Sound g (image_of drive s) → (at : ℕ) → Slot g (image_of drive s) block 2 at
      → WholeBlock drive block s g at 0x40 (own_id g block) (read_block drive block s out)

-- byte i came from byte i of a slot with the block's address on its track
pub record Came (g : Geometry) (img : List ℕ) (block i byte : ℕ) : Type 0 where
  pub at : ℕ
  pub stands : Stands g img (place_of g block).cylinder (record { id = own_id g block; side = (place_of g block).side }) at
  pub is : byte ≡ get_or img (at + 5 + i) 0

-- the request ended with status bytes, and the bytes that came stand first in the slice; behind them it is as it was
pub record SomeCame (drive block : ℕ) (s : Box) (g : Geometry) (out : List ℕ) (r : ReadDone) : Type 0 where
  -- ST0 ST1 ST2 C H R N
  pub status : Ending
  pub reply : r.reply ≡ Ended status
  pub got : List ℕ
  pub out_is : r.out ≡ got ++ drop (length got) out
  pub most : length got ≤ size_of g.n
  pub bytes : (i : ℕ) → i < length got → Came g (image_of drive s) block i (get_or got i 0)
  pub images : BothStay s r.box

-- any end, on any image that fits
abbrev pub BlockLeaves : Type 0
BlockLeaves =
    (drive block : ℕ) (s : Box) (g : Geometry) (out : List ℕ) → Asked drive block s g out
    → SomeCame drive block s g out (read_block drive block s out)
