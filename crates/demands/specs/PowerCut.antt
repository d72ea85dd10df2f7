-- Demand 3: "Power may go after any call of a write command: finished sectors hold exactly the host's bytes under their
-- good mark, the one begun holds new bytes then old ones under the broken mark, every other byte is as it was, the
-- other image untouched."
-- Assumes nothing.
use Rattle.std.specs.Prelude.{ℕ, zero, suc, ◌+◌, ◌*◌, ◌<◌, ◌≤◌, Bool, true, false, cond, List, [], ◌∷◌, ◌⊎◌, ◌≡◌, eqb, length, get_or, Some}
use Rattle.chip.specs.Next.{advanced_of}
use Rattle.sectors.specs.declared.order.Job.TheVariants.{Move}
use Rattle.sectors.specs.declared.order.Order.{Order}
use Rattle.sectors.specs.declared.order.Pass.TheVariants.{Write}
use Rattle.sectors.specs.declared.order.Transfer.{Transfer}
use Rattle.image.specs.declared.layout.Geometry.{Geometry}
use Rattle.image.specs.declared.mark.Mark.TheVariants.{Data}
use Rattle.image.specs.declared.slot.Id.{Id}
use Rattle.image.specs.Disk.{disk_in}
use Rattle.image.specs.Layout.{size_of, offset_of, Has}
use Rattle.image.specs.Mark.{byte_of}
use Rattle.image.specs.Slot.{id_at}
use Rattle.image.specs.Sound.{mark_in}
use Rattle.fdc.specs.declared.record.Controller.{Controller}
use Rattle.fdc.specs.declared.record.Phase.TheVariants.{Starting}
use Rattle.fdc.specs.Record.{drive_at}
use Rattle.reached.specs.Runs.{Call, run_calls}
use Rattle.fdc.specs.Ticks.{image_after}
use Rattle.demands.specs.History.{Sector, Begun, no_one, some_of, History, no_history, history_of}
use Rattle.demands.specs.Work.{Its, Alone, image_left}

-- a Write Data or Write Deleted was accepted: any drive, side, MT, DMA or not, FIFO on or off
pub record Writes (c : Controller) (order : Order) (transfer : Transfer) (id : Id) : Type 0 where
  pub accepted : c.phase ≡ Starting order
  pub moves : order.job ≡ Move transfer id
  pub writes : transfer.pass ≡ Write

-- 01 Next: the address and the side in use of the command's sector number n
pub record Aim : Type 0 where
  pub id : Id
  pub side : ℕ

abbrev pub onward : Transfer → Aim → Aim
onward transfer aim =
    record {
      id = advanced_of aim.id transfer.eot transfer.mt aim.side 1;
      side = cond (eqb aim.id.r transfer.eot) 1 aim.side;
    }

abbrev pub aim_no : Transfer → Aim → ℕ → Aim
aim_no transfer aim zero = aim
aim_no transfer aim (suc n) = onward transfer (aim_no transfer aim n)

-- 01 Next: a sector at EOT is followed by another only with MT on side 0
abbrev pub Followed : Transfer → Aim → Type 0
Followed transfer aim = aim.id.r ≡ transfer.eot → (transfer.mt ≡ true) × (aim.side ≡ 0)

-- the command comes to its sector number m: each one before it is followed by another
abbrev pub InReach : Transfer → Aim → ℕ → Type 0
InReach transfer aim m = (i : ℕ) → i < m → Followed transfer (aim_no transfer aim i)

-- 01 Image: marks above 5 count as 0
abbrev pub Counts : ℕ → Type 0
Counts mark = (0 < mark) × (mark ≤ 5)

-- where a sector of the command stands: in a slot of the track under the head, on the side in use, that matches
-- (01 Search: the mark isn't 0, C H R N equal the command's and N is the header's)
pub record Stands (g : Geometry) (img : List ℕ) (cylinder : ℕ) (aim : Aim) (at : ℕ) : Type 0 where
  pub slot : ℕ
  pub has : Has g cylinder aim.side slot
  pub place : at ≡ offset_of g cylinder aim.side slot
  pub marked : Counts (get_or img at 0)
  pub address : id_at img at ≡ aim.id
  pub size : aim.id.n ≡ g.n

-- P, the bytes of a sector that pass between host and disk: all of its B
abbrev pub passing : Geometry → ℕ
passing g = size_of g.n

-- a finished sector, number n of the command: the good mark of the command's kind, and byte i is the host's byte
-- n x P + i; past the host's bytes it is 0
pub record Finished (g : Geometry) (deleted : Bool) (img host : List ℕ) (n at : ℕ) : Type 0 where
  pub mark : get_or img at 0 ≡ byte_of (Data deleted false)
  pub bytes : (i : ℕ) → i < passing g → get_or img (at + 5 + i) 0 ≡ get_or host (n * passing g + i) 0

-- the begun one, number n: the broken mark, `done` new bytes, then old ones
pub record HalfDone (g : Geometry) (deleted : Bool) (old img host : List ℕ) (n at done : ℕ) : Type 0 where
  pub mark : get_or img at 0 ≡ byte_of (Data deleted true)
  pub short : done ≤ size_of g.n
  pub new_bytes : (i : ℕ) → i < done → get_or img (at + 5 + i) 0 ≡ get_or host (n * passing g + i) 0
  pub old_bytes : (i : ℕ) → done ≤ i → i < size_of g.n → get_or img (at + 5 + i) 0 ≡ get_or old (at + 5 + i) 0

-- how many bytes were stored
abbrev pub begun_bytes : Begun → ℕ
begun_bytes no_one = 0
begun_bytes (some_of at bytes) = length bytes

-- a sector begun counts as one
abbrev pub begun_ones : Begun → ℕ
begun_ones no_one = 0
begun_ones (some_of at bytes) = 1

-- the data bytes stored so far
abbrev pub stored_count : Geometry → History → ℕ
stored_count g h = length h.finished * passing g + begun_bytes h.begun

-- the sectors finished or begun
abbrev pub sector_count : History → ℕ
sector_count h = length h.finished + begun_ones h.begun

-- 02 2026-02: a byte is missing: more data bytes are stored than the host handed over, and TC has not come
pub record Missing (g : Geometry) (h : History) : Type 0 where
  pub beyond : length h.host < stored_count g h
  pub untold : h.told ≡ false

-- a sector that is not full of the host's bytes is the last one
abbrev pub LastShort : Geometry → History → Type 0
LastShort g h = (k : ℕ) → k < sector_count h → length h.host < (k + 1) * passing g → k + 1 ≡ sector_count h

-- place i is neither the mark of the sector there nor one of its stored bytes
abbrev pub Spares : ℕ → ℕ → ℕ → Type 0
Spares at done i = (i ≡ at → ⊥) × (at + 5 ≤ i → i < at + 5 + done → ⊥)

module _ (g : Geometry) (cylinder : ℕ) (transfer : Transfer) (aim : Aim) (old img host : List ℕ) where
  -- every finished sector is the command's sector of its number, and so is the begun one
  abbrev pub AllFinished : List Sector → Type 0
  AllFinished [] = Unit {0}
  AllFinished (s ∷ before) =
      Stands g old cylinder (aim_no transfer aim (length before)) s.at
      × Finished g transfer.deleted img host (length before) s.at
      × (length s.bytes ≡ size_of g.n)
      × AllFinished before

  abbrev pub BegunHalf : ℕ → Begun → Type 0
  BegunHalf n no_one = Unit {0}
  BegunHalf n (some_of at bytes) =
      Stands g old cylinder (aim_no transfer aim n) at
      × HalfDone g transfer.deleted old img host n at (length bytes)

abbrev pub SparesAll : List Sector → ℕ → Type 0
SparesAll [] i = Unit {0}
SparesAll (s ∷ before) i = Spares s.at (length s.bytes) i × SparesAll before i

abbrev pub SparesBegun : Begun → ℕ → Type 0
SparesBegun no_one i = Unit {0}
SparesBegun (some_of at bytes) i = Spares at (length bytes) i

-- what the calls of a write command leave of an image
pub record LeftBy (g : Geometry) (cylinder : ℕ) (transfer : Transfer) (aim : Aim) (old img : List ℕ) (h : History)
    : Type 0 where
  pub finished : AllFinished g cylinder transfer aim old img h.host h.finished
  pub begun : BegunHalf g cylinder transfer aim old img h.host (length h.finished) h.begun
  -- zeros past the host's bytes come after TC, or in the command's last sector (02 2026-02, `ShortIsLast`)
  pub ran_out : length h.host < stored_count g h → (h.told ≡ true) ⊎ LastShort g h
  -- a sector, number k, is begun or finished only with a host byte of its own
  pub fed : (k : ℕ) → k < sector_count h → k * passing g < length h.host
  -- and none past EOT
  pub no_further : (k : ℕ) → k + 1 < sector_count h → Followed transfer (aim_no transfer aim k)
  -- every other byte is as it was
  pub others : (i : ℕ) → SparesAll h.finished i → SparesBegun h.begun i → get_or img i 0 ≡ get_or old i 0
  -- so are the addresses of all slots, and the length
  pub ids : (c s k : ℕ) → Has g c s k → id_at img (offset_of g c s k) ≡ id_at old (offset_of g c s k)
  pub size : length img ≡ length old
  -- a slot with an ID had one before
  pub marked : (c s k : ℕ) → Has g c s k → Counts (mark_in g img c s k) → Counts (mark_in g old c s k)

-- the track's cylinder is the head's
abbrev pub head_of : Order → Controller → ℕ
head_of order c = (drive_at order.drive c.drives).head

-- Demand 3, from every record of a kind: the reached ones (`Real`), or all that are as those (`Quiet`). It asks neither
-- for a sound image nor for one without protection
abbrev pub PowerCut : (Controller → Type 0) → Type 0
PowerCut From =
    (c : Controller) → From c → (order : Order) (transfer : Transfer) (id : Id) → Writes c order transfer id
    → (old : List ℕ) (g : Geometry) → disk_in old ≡ Some g
    → (calls : List Call) → Its calls c → Alone order.drive old calls c
    → LeftBy g (head_of order c) transfer (record { id = id; side = order.side }) old
    (image_left order.drive old calls c) (history_of calls c no_history)

-- the other image untouched, whatever it holds at each tick: of every drive but the command's, and for any command
abbrev pub OtherImage : (Controller → Type 0) → Type 0
OtherImage From =
    (c : Controller) → From c → (order : Order) → c.phase ≡ Starting order → (calls : List Call) → Its calls c
    → (k : ℕ) → (k ≡ order.drive → ⊥) → (a b img : List ℕ) → image_after k a b (run_calls calls c) img ≡ img
