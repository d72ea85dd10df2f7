-- The refusals of the block service, and that no budget runs out (02 2026-01, specs/BlockRefusals).
-- Assumes nothing.
use Rattle.std.specs.Prelude.{None, Some}
use Prim.Native.Nat.{ℕ, ◌≤◌}
use native.Mathlib.Omega.{arith}
use mathlib.Core.Bool.{true, false}
use mathlib.Core.List.{List, []}
use mathlib.Core.Path.{◌≡◌, refl, ap, ◌∙◌}
use lib.ListN.{length}
use borrow.Author.Tests.{le-leb, lt-leb, ne_eqb}
use Rattle.image.specs.declared.layout.Geometry.{Geometry}
use Rattle.image.specs.Disk.{disk_in, header_in}
use Rattle.image.specs.Layout.{size_of}
use Rattle.image.specs.Lent.{pick_of}
use Rattle.fdc.specs.Record.{valid_of}
use Rattle.block.specs.declared.request.Refusal.{Refusal}
use Rattle.block.specs.declared.request.Refusal.TheVariants.{DamagedRecord, NoSuchBlock, WrongSize}
use Rattle.block.specs.declared.request.Reply.TheVariants.{Refused}
use Rattle.block.specs.Box.{Box}
use Rattle.block.specs.Place.{blocks_of}
use Rattle.block.specs.Request.{number_of, read_with, read_in, read_block, written_with, write_in, write_block}
use Rattle.block_demands.specs.Asked.{image_of}
use Rattle.block_demands.specs.BlockIsCalls.{BlockIsCalls}
use Rattle.block_demands.specs.BlockRefusals.{
  NoBlock,
  no_drive_law,
  no_disk,
  past_end,
  OtherSize,
  Earns,
  damaged,
  no_block,
  other_size,
}
use Rattle.block_demands.specs.BlockRefusals.{BlockRefusals, BlockEnds}
use Rattle.block_demands.proofs.ReadDoneLaws.{read_calls_lem}
use Rattle.block_demands.proofs.WriteDoneLaws.{write_calls}

pub block_is_calls : BlockIsCalls
block_is_calls = record {
  read = λ drive block s g out asked. read_calls_lem drive block s g out asked;
  write = λ drive block s g bytes asked. write_calls drive block s g bytes asked;
}

pub block_ends : BlockEnds
block_ends = record {
  read = λ drive block s g out asked. (_, (read_calls_lem drive block s g out asked).reply_is);
  write = λ drive block s g bytes asked. (_, (write_calls drive block s g bytes asked).reply_is);
}

-- a drive above 1 has no image, and so no disk
none_picked : (drive : ℕ) (a b : List ℕ) → 2 ≤ drive → pick_of drive a b ≡ []
none_picked drive a b h = rw (ne_eqb drive 0 (λ e. omega arith), ne_eqb drive 1 (λ e. omega arith))

no_bytes_lem : disk_in [] ≡ None
unfolding disk_in header_in
no_bytes_lem = refl

absent : (drive block : ℕ) (s : Box) → 2 ≤ drive → disk_in (image_of drive s) ≡ None
absent drive block s h = ap disk_in (none_picked drive s.first s.second h) ∙ no_bytes_lem

module _ (drive block : ℕ) (s : Box) (slice : List ℕ) where
  read_4 : valid_of s.controller ≡ false → read_block drive block s slice ≡ read_with (Refused DamagedRecord) s slice
  unfolding read_block
  read_4 v = rw v

  write_4 : valid_of s.controller ≡ false → write_block drive block s slice ≡ written_with (Refused DamagedRecord) s
  unfolding write_block
  write_4 v = rw v

  read_none : valid_of s.controller ≡ true → disk_in (image_of drive s) ≡ None
      → read_block drive block s slice ≡ read_with (Refused NoSuchBlock) s slice
  unfolding read_block read_in
  read_none v d = rw (v, d)

  write_none : valid_of s.controller ≡ true → disk_in (image_of drive s) ≡ None
      → write_block drive block s slice ≡ written_with (Refused NoSuchBlock) s
  unfolding write_block write_in
  write_none v d = rw (v, d)

  read_past : valid_of s.controller ≡ true → (g : Geometry) → disk_in (image_of drive s) ≡ Some g
      → blocks_of g ≤ block → read_block drive block s slice ≡ read_with (Refused NoSuchBlock) s slice
  unfolding read_block read_in
  read_past v g d h = rw (v, d, le-leb (blocks_of g) block h)

  write_past : valid_of s.controller ≡ true → (g : Geometry) → disk_in (image_of drive s) ≡ Some g
      → blocks_of g ≤ block → write_block drive block s slice ≡ written_with (Refused NoSuchBlock) s
  unfolding write_block write_in
  write_past v g d h = rw (v, d, le-leb (blocks_of g) block h)

  read_1 : valid_of s.controller ≡ true → NoBlock drive block s
      → read_block drive block s slice ≡ read_with (Refused NoSuchBlock) s slice
  read_1 v (no_drive_law h) = read_none v (absent drive block s h)
  read_1 v (no_disk d) = read_none v d
  read_1 v (past_end g d h) = read_past v g d h

  write_1 : valid_of s.controller ≡ true → NoBlock drive block s
      → write_block drive block s slice ≡ written_with (Refused NoSuchBlock) s
  write_1 v (no_drive_law h) = write_none v (absent drive block s h)
  write_1 v (no_disk d) = write_none v d
  write_1 v (past_end g d h) = write_past v g d h

  read_2 : valid_of s.controller ≡ true → OtherSize drive block s slice
      → read_block drive block s slice ≡ read_with (Refused WrongSize) s slice
  unfolding read_block read_in
  read_2 v o =
      rw (v, o.disk, lt-leb (blocks_of o.g) block o.within, ne_eqb (length slice) (size_of o.g.n) o.other)

  write_2 : valid_of s.controller ≡ true → OtherSize drive block s slice
      → write_block drive block s slice ≡ written_with (Refused WrongSize) s
  unfolding write_block write_in
  write_2 v o =
      rw (v, o.disk, lt-leb (blocks_of o.g) block o.within, ne_eqb (length slice) (size_of o.g.n) o.other)

  reads : (n : ℕ) → Earns drive block s slice n
      → (r : Refusal) × ((number_of r ≡ n) × (read_block drive block s slice ≡ read_with (Refused r) s slice))
  reads n (damaged v) = (DamagedRecord, (refl, read_4 v))
  reads n (no_block v x) = (NoSuchBlock, (refl, read_1 v x))
  reads n (other_size v low o) = (WrongSize, (refl, read_2 v o))

  writes : (n : ℕ) → Earns drive block s slice n
      → (r : Refusal) × ((number_of r ≡ n) × (write_block drive block s slice ≡ written_with (Refused r) s))
  writes n (damaged v) = (DamagedRecord, (refl, write_4 v))
  writes n (no_block v x) = (NoSuchBlock, (refl, write_1 v x))
  writes n (other_size v low o) = (WrongSize, (refl, write_2 v o))

pub block_refusals : BlockRefusals
block_refusals = record {
  read = λ drive block s out n x. reads drive block s out n x;
  write = λ drive block s bytes n x. writes drive block s bytes n x;
}
