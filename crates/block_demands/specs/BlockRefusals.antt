-- The refusals of the block service (02 2026-01), each exactly when its row says, in the order 4, 1, 2; before any
-- call, step or store, with record, images and the caller's slice as handed in. And no budget runs out: what is not
-- refused ends with the controller's seven status bytes.
-- Assumes nothing.
use Rattle.std.specs.Prelude.{ℕ, ◌<◌, ◌≤◌, true, false, List, ◌≡◌, length, None, Some}
use Rattle.image.specs.declared.layout.Geometry.{Geometry}
use Rattle.image.specs.Disk.{disk_in}
use Rattle.image.specs.Layout.{size_of}
use Rattle.fdc.specs.Record.{valid_of}
use Rattle.block.specs.declared.request.Ending.{Ending}
use Rattle.block.specs.declared.request.Refusal.{Refusal}
use Rattle.block.specs.declared.request.Reply.TheVariants.{Refused, Ended}
use Rattle.block.specs.Box.{Box}
use Rattle.block.specs.Place.{blocks_of}
use Rattle.block.specs.Request.{number_of, read_with, read_block, written_with, write_block}
use Rattle.block_demands.specs.Asked.{image_of, Asked}

-- no such block: a drive above 1; an image whose header or length does not fit, the motor on or not; a block past the
-- end
pub data NoBlock (drive block : ℕ) (s : Box) : Type 0 where
  no_drive_law : 2 ≤ drive → NoBlock drive block s
  no_disk : disk_in (image_of drive s) ≡ None → NoBlock drive block s
  past_end : (g : Geometry) → disk_in (image_of drive s) ≡ Some g → blocks_of g ≤ block → NoBlock drive block s

-- the slice is not B bytes
pub record OtherSize (drive block : ℕ) (s : Box) (slice : List ℕ) : Type 0 where
  pub g : Geometry
  pub disk : disk_in (image_of drive s) ≡ Some g
  pub within : block < blocks_of g
  pub other : length slice ≡ size_of g.n → ⊥

-- which refusal a request earns, if any
pub data Earns (drive block : ℕ) (s : Box) (slice : List ℕ) : ℕ → Type 0 where
  damaged : valid_of s.controller ≡ false → Earns drive block s slice 4
  no_block : valid_of s.controller ≡ true → NoBlock drive block s → Earns drive block s slice 1
  other_size : valid_of s.controller ≡ true → drive < 2 → OtherSize drive block s slice → Earns drive block s slice 2

-- the refusal of an earned number is the reply, and everything else is as it was handed in
pub record BlockRefusals : Type 0 where
  pub read : (drive block : ℕ) (s : Box) (out : List ℕ) (n : ℕ) → Earns drive block s out n
      → (r : Refusal) × ((number_of r ≡ n) × (read_block drive block s out ≡ read_with (Refused r) s out))
  pub write : (drive block : ℕ) (s : Box) (bytes : List ℕ) (n : ℕ) → Earns drive block s bytes n
      → (r : Refusal) × ((number_of r ≡ n) × (write_block drive block s bytes ≡ written_with (Refused r) s))

-- every wait of the service ends within its budget, from any valid record, on any image that fits: so the reply is
-- neither a refusal nor that a budget ran out
pub record BlockEnds : Type 0 where
  pub read : (drive block : ℕ) (s : Box) (g : Geometry) (out : List ℕ) → Asked drive block s g out
      → (e : Ending) × ((read_block drive block s out).reply ≡ Ended e)
  pub write : (drive block : ℕ) (s : Box) (g : Geometry) (bytes : List ℕ) → Asked drive block s g bytes
      → (e : Ending) × ((write_block drive block s bytes).reply ≡ Ended e)
