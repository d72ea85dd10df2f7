-- What is proved of document 01's calls, of the firmware's bytes: after power-on every record in them is a reached one
-- (`Real`), of which demands 1 to 3 speak; and, as one of them, demand 3 of the images that the firmware holds.
-- Assumes nothing.
use Rattle.std.specs.Prelude.{ℕ, ◌≤◌, ◌<◌, List, [], ◌∷◌, ◌++◌, ◌≡◌, length, take, Some}
use Rattle.image.specs.declared.layout.Geometry.{Geometry}
use Rattle.image.specs.declared.slot.Id.{Id}
use Rattle.image.specs.Disk.{disk_in}
use Rattle.image.specs.Lent.{pick_of}
use Rattle.sectors.specs.declared.order.Order.{Order}
use Rattle.sectors.specs.declared.order.Transfer.{Transfer}
use Rattle.fdc.specs.declared.record.Controller.{Controller}
use Rattle.demands.specs.History.{no_history, history_of}
use Rattle.demands.specs.PowerCut.{Writes, LeftBy, head_of}
use Rattle.demands.specs.Work.{Real, Its}
use Rattle.pack.specs.Back.{HoldsRecord}
use Rattle.pack.specs.Bytes.{record_size, record_in}
use Rattle.firmware.specs.Calls.{World, BelCall, power_on_law, read_port_law, write_port_law, dma_read_law, dma_write_law, tick}
use Rattle.firmware.specs.Calls.{note_change_law, tick_many, lends, world_left}
use Rattle.firmware.specs.Inside.{StoreMade, put_all, stores_in}
use Rattle.firmware.specs.Made.{Box, box_after, calls_made}

-- the numbers of a call are bytes, as its parameters' types have it
abbrev pub OfBelBytes : BelCall → Type 0
OfBelBytes (power_on_law head0 head1) = (head0 < 256) × (head1 < 256)
OfBelBytes (read_port_law offset) = offset < 256
OfBelBytes (write_port_law offset byte) = (offset < 256) × (byte < 256)
OfBelBytes (dma_read_law tc) = tc < 256
OfBelBytes (dma_write_law byte tc) = (byte < 256) × (tc < 256)
OfBelBytes tick = Unit {0}
OfBelBytes (note_change_law drive) = drive < 256
OfBelBytes (tick_many n) = Unit {0}
OfBelBytes (lends a b) = Unit {0}

abbrev pub AllBelBytes : List BelCall → Type 0
AllBelBytes [] = Unit {0}
AllBelBytes (call ∷ calls) = OfBelBytes call × AllBelBytes calls

-- 01 Refusals: nobody else changes the image of that drive: another may be lent for the other drive alone
abbrev pub StaysBy : ℕ → BelCall → Box → Type 0
StaysBy drive (power_on_law head0 head1) x = Unit {0}
StaysBy drive (read_port_law offset) x = Unit {0}
StaysBy drive (write_port_law offset byte) x = Unit {0}
StaysBy drive (dma_read_law tc) x = Unit {0}
StaysBy drive (dma_write_law byte tc) x = Unit {0}
StaysBy drive tick x = Unit {0}
StaysBy drive (note_change_law drive') x = Unit {0}
StaysBy drive (tick_many n) x = Unit {0}
StaysBy drive (lends a b) x = pick_of drive a b ≡ pick_of drive x.first x.second

unfoldable pub Stays : ℕ → List BelCall → Box → Type 0
Stays drive [] x = Unit {0}
Stays drive (call ∷ calls) x = StaysBy drive call x × Stays drive calls (box_after call x)

-- the image of a drive among what is lent
abbrev pub world_image : ℕ → World → List ℕ
world_image drive w = pick_of drive w.first w.second

abbrev pub box_of : Controller → World → Box
box_of c w = record { controller = c; first = w.first; second = w.second }

-- a Write Data or Write Deleted was accepted by a reached record in the bytes, and its drive's image has a disk
pub record Accepted (w : World) (c : Controller) (order : Order) (transfer : Transfer) (id : Id) (g : Geometry)
    : Type 0 where
  pub holds : HoldsRecord w.bytes c
  pub real : Real c
  pub writes : Writes c order transfer id
  pub disk : disk_in (world_image order.drive w) ≡ Some g

-- demand 3 of an image after some of the library's calls
abbrev pub LeftAfter : World → Controller → Order → Transfer → Id → Geometry → List BelCall → List ℕ → Type 0
LeftAfter w c order transfer id g calls img =
    LeftBy g (head_of order c) transfer (record { id = id; side = order.side }) (world_image order.drive w) img
    (history_of (calls_made calls (box_of c w)) c no_history)

-- what is lent after the first i stores of a `bel_ticks`, if they reach memory in their order
abbrev pub stores_on : ℕ → World → List StoreMade
stores_on n w = stores_in n w.first w.second (record_in w.bytes)

abbrev pub inside : ℕ → ℕ → World → World
inside n i w =
    record {
      bytes = w.bytes;
      first = put_all 0 (take i (stores_on n w)) w.first;
      second = put_all 1 (take i (stores_on n w)) w.second;
    }

pub record FromFirmware : Type 0 where
  -- every record after power-on, whatever stood in the bytes and whatever images are lent
  pub real : (w : World) → record_size ≤ length w.bytes → (head0 head1 : ℕ) (calls : List BelCall)
      → AllBelBytes calls → Real (record_in (world_left (power_on_law head0 head1 ∷ calls) w).bytes)
  -- demand 3: after any calls of a write command, `bel_ticks` among them, the image in the firmware's memory
  pub power_cut : (w : World) (c : Controller) (order : Order) (transfer : Transfer) (id : Id) (g : Geometry)
      → Accepted w c order transfer id g → (calls : List BelCall)
      → Its (calls_made calls (box_of c w)) c → Stays order.drive calls (box_of c w)
      → LeftAfter w c order transfer id g calls (world_image order.drive (world_left calls w))
  -- and with the power gone inside a `bel_ticks` of n, after i of its stores: as after j of its ticks
  pub cut_inside : (w : World) (c : Controller) (order : Order) (transfer : Transfer) (id : Id) (g : Geometry)
      → Accepted w c order transfer id g → (calls : List BelCall) (n i : ℕ)
      → Its (calls_made (calls ++ (tick_many n ∷ [])) (box_of c w)) c → Stays order.drive calls (box_of c w)
      → (j : ℕ) × ((j ≤ n)
      × LeftAfter w c order transfer id g (calls ++ (tick_many j ∷ []))
      (world_image order.drive (inside n i (world_left calls w))))
