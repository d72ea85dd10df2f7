-- That the premises of the block service's statements are met (02 2026-01): every block of a blank disk is read,
-- whatever its geometry, from any valid record; every reached record is a valid one, and here are some in the phases
-- that matter.
-- Assumes nothing.
use Rattle.std.specs.Prelude.{ℕ, ◌-◌, ◌<◌, true, false, List, [], ◌∷◌, ◌++◌, ◌≡◌, length}
use Rattle.image.specs.declared.layout.Geometry.{Geometry}
use Rattle.image.specs.Disk.{InRange}
use Rattle.image.specs.Layout.{size_of, offset_of}
use Rattle.image.specs.Examples.{disk, sample}
use Rattle.fdc.specs.declared.record.Controller.{Controller}
use Rattle.fdc.specs.Calls.{power_on}
use Rattle.fdc.specs.Registers.{held_in}
use Rattle.reached.specs.Examples.{start, command}
use Rattle.reached.specs.Runs.{writes, ticks, run_calls}
use Rattle.demands.specs.Work.{Real, at_work}
use Rattle.blank.specs.Blank.{blank_of}
use Rattle.block.specs.Box.{Box}
use Rattle.block.specs.Place.{blocks_of, place_of}
use Rattle.block.specs.Request.{read_block}
use Rattle.block_demands.specs.Asked.{image_of, AnyValid}
use Rattle.block_demands.specs.BlockReads.{next_id, WholeBlock}

-- a read of any block of a blank disk, in either drive, gives the whole block
abbrev pub BlankReads : Type 0
BlankReads =
    (g : Geometry) (fill : ℕ) → InRange g
    → (drive : ℕ) → drive < 2 → (s : Box) → AnyValid s.controller → image_of drive s ≡ blank_of g fill
    → (block : ℕ) → block < blocks_of g → (out : List ℕ) → length out ≡ size_of g.n
    → WholeBlock drive block s g
    (offset_of g (place_of g block).cylinder (place_of g block).side ((place_of g block).sector - 1)) 0x00 (next_id g block)
    (read_block drive block s out)

-- a record reached from power-on by public calls may be handed in
abbrev pub ReachedAny : Type 0
ReachedAny = (c : Controller) → Real c → AnyValid c

-- the record after DOR 1C and Configure with that byte: released from reset, gate and the motor of drive 0 on
abbrev configured : ℕ → Controller
configured byte = run_calls (writes 2 0x1C ∷ command (0x13 ∷ 0x00 ∷ byte ∷ 0x00 ∷ [])) start

-- a Read Data of the first sector, after its first tick
abbrev pub in_read : Controller
in_read =
    run_calls
    (writes 2 0x1C
    ∷ (command (0x46 ∷ 0x00 ∷ 0x00 ∷ 0x00 ∷ 0x01 ∷ 0x01 ∷ 0x01 ∷ 0x1B ∷ 0xFF ∷ []) ++ (ticks (sample 1) [] ∷ [])))
    start

-- some records that matter: the FIFO on, POLL 1, held in reset, in mid-command, heads at 80 and 81
pub record AnyExamples : Type 0 where
  pub fifo_on : AnyValid (configured 0x07)
  pub fifo_on_is : (configured 0x07).registers.efifo ≡ false
  pub poll : AnyValid (configured 0x10)
  pub poll_is : (configured 0x10).registers.poll ≡ true
  pub held : AnyValid start
  pub held_is : held_in start.registers.dor ≡ true
  pub working : AnyValid in_read
  pub working_is : at_work in_read.phase ≡ true
  pub heads : AnyValid (power_on 80 81).controller

-- 02 2026-01: "Block b is sector b mod S plus 1, side the quotient mod heads, cylinder the rest", of 80/2/18
pub record PlaceExamples : Type 0 where
  pub first : place_of (disk 80 2 18 2) 0 ≡ record { cylinder = 0; side = 0; sector = 1 }
  pub second : place_of (disk 80 2 18 2) 1 ≡ record { cylinder = 0; side = 0; sector = 2 }
  pub other_side : place_of (disk 80 2 18 2) 18 ≡ record { cylinder = 0; side = 1; sector = 1 }
  pub next_cylinder : place_of (disk 80 2 18 2) 36 ≡ record { cylinder = 1; side = 0; sector = 1 }
  pub last : place_of (disk 80 2 18 2) 2879 ≡ record { cylinder = 79; side = 1; sector = 18 }
