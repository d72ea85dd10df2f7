-- A write by the library's calls alone, from bytes that hold nothing, computed in the check: each premise of
-- `FromFirmware` is met, and one `bel_ticks` makes two stores before DRQ stops it.
-- Assumes nothing.
use Rattle.std.specs.Prelude.{ℕ, false, List, [], ◌∷◌, ◌++◌, ◌≡◌, replicate}
use Rattle.image.specs.declared.slot.Id.{Id}
use Rattle.image.specs.Examples.{disk, sample}
use Rattle.sectors.specs.declared.order.Job.TheVariants.{Move}
use Rattle.sectors.specs.declared.order.Order.{Order}
use Rattle.sectors.specs.declared.order.Pass.TheVariants.{Write}
use Rattle.sectors.specs.declared.order.Transfer.{Transfer}
use Rattle.fdc.specs.declared.record.Controller.{Controller}
use Rattle.fdc.specs.Calls.{power_on}
use Rattle.demands.specs.Work.{Its}
use Rattle.pack.specs.Bytes.{record_size}
use Rattle.firmware.specs.Calls.{World, BelCall, power_on_law, write_port_law, dma_write_law, tick_many, word_to, world_left}
use Rattle.firmware.specs.Made.{box_left, calls_made}
use Rattle.firmware.specs.FromFirmware.{Stays, box_of, Accepted, stores_on}
use Rattle.firmware.specs.Inside.{StoreMade}

-- bytes for a record and no more, a disk of two sectors in drive 0, none in drive 1
abbrev pub blank : World
blank = record { bytes = replicate record_size 0; first = sample 2; second = [] }

abbrev pub command : List ℕ → List BelCall
command [] = []
command (byte ∷ bytes) = write_port_law 5 byte ∷ command bytes

-- motor 0 on, Configure with EFIFO 1; Specify with DMA; Write Data of sector 1, C 0 H 0 N 1, EOT 2
abbrev pub asked : List BelCall
asked =
    write_port_law 2 0x1C
    ∷ (command (0x13 ∷ 0x00 ∷ 0x20 ∷ 0x00 ∷ [])
    ++ (command (0x03 ∷ 0xDF ∷ 0x02 ∷ []) ++ command (0x45 ∷ 0 ∷ 0 ∷ 0 ∷ 1 ∷ 1 ∷ 2 ∷ 0x1B ∷ 0xFF ∷ [])))

abbrev pub begun : World
begun = world_left (power_on_law 0 0 ∷ asked) blank

abbrev pub writer : Controller
writer =
    (box_left asked (record { controller = (power_on 0 0).controller; first = sample 2; second = [] })).controller

abbrev pub written : Transfer
written = record { pass = Write; deleted = false; mt = false; sk = false; eot = 2; dtl = 0 }

abbrev pub sector_one : Id
sector_one = record { c = 0; h = 0; r = 1; n = 1 }

abbrev pub ordered : Order
ordered = record { drive = 0; side = 0; job = Move written sector_one }

-- the first tick's tests turn DRQ on, which stops any number; then a byte comes
abbrev pub served : List BelCall
served = tick_many 9 ∷ dma_write_law 0xA5 0 ∷ []

abbrev pub store_made : ℕ → ℕ → StoreMade
store_made place byte = record { drive = 0; place = place; byte = byte }

pub record FirmwareExamples : Type 0 where
  pub accepted : Accepted begun writer ordered written sector_one (disk 1 1 2 1)
  pub its : Its (calls_made (served ++ (tick_many 100 ∷ [])) (box_of writer begun)) writer
  pub stays : Stays 0 served (box_of writer begun)
  -- INT is on from the reset's release; DRQ after one tick; off after the byte; then the look, the broken mark and the
  -- byte, and DRQ again
  pub first_word : word_to (tick_many 9) begun ≡ 0x100030000
  pub byte_word : word_to (dma_write_law 0xA5 0) (world_left (tick_many 9 ∷ []) begun) ≡ 0x10000
  pub last_word : word_to (tick_many 100) (world_left served begun) ≡ 0x300030000
  pub stores : stores_on 100 (world_left served begun) ≡ store_made 13 3 ∷ store_made 18 0xA5 ∷ []
