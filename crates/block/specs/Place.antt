-- Which sector a block is: document 02, 2026-01, "Block b is sector b mod S plus 1, side the quotient mod heads,
-- cylinder the rest".
-- Assumes nothing.
use Rattle.std.specs.Prelude.{ℕ, ◌+◌, ◌*◌, ◌/◌, ◌%◌, List, None, Some}
use Rattle.image.specs.Disk.{Disk}
use Rattle.image.specs.declared.layout.Geometry.{Geometry}
use Rattle.image.specs.Disk.{disk_in}
use Rattle.image.specs.Layout.{size_of}
use Rattle.block.specs.declared.place.Place.{Place}

-- a disk has a block for each slot
abbrev pub blocks_of : Geometry → ℕ
blocks_of g = g.cylinders * g.heads * g.slots

abbrev pub blocks_on : Disk → ℕ
blocks_on None = 0
blocks_on (Some g) = blocks_of g

abbrev pub bytes_on : Disk → ℕ
bytes_on None = 0
bytes_on (Some g) = size_of g.n

-- of an image: how many, and of how many bytes; 0 where its header or length does not fit
abbrev pub blocks_in : List ℕ → ℕ
blocks_in img = blocks_on (disk_in img)

abbrev pub bytes_in : List ℕ → ℕ
bytes_in img = bytes_on (disk_in img)

abbrev pub place_of : Geometry → ℕ → Place
place_of g block =
    record {
      cylinder = block / g.slots / g.heads;
      side = block / g.slots % g.heads;
      sector = block % g.slots + 1;
    }
