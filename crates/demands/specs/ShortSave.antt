-- The short save (02 2026-02): a host that stops in mid-sector. Once a byte is missing no other one passes and the
-- sector in hand is the command's last; only a cut, a reset, a pulled disk or the motor off leaves a sector broken.
-- Assumes nothing.
use Rattle.std.specs.Prelude.{ℕ, true, false, List, [], ◌∷◌, ◌⊎◌, ◌≡◌, None, Some}
use Rattle.image.specs.Disk.{Disk}
use Rattle.image.specs.declared.layout.Geometry.{Geometry}
use Rattle.image.specs.declared.slot.Id.{Id}
use Rattle.image.specs.Disk.{disk_in}
use Rattle.image.specs.Lent.{pick_of}
use Rattle.sectors.specs.declared.order.Order.{Order}
use Rattle.sectors.specs.declared.order.Transfer.{Transfer}
use Rattle.fdc.specs.declared.record.Controller.{Controller}
use Rattle.fdc.specs.declared.record.Phase.TheVariants.{Answering}
use Rattle.fdc.specs.Ticks.{seen_of}
use Rattle.reached.specs.Moves.{AllCalm}
use Rattle.reached.specs.Runs.{Call, powers, reads, writes, takes, gives, ticks, notes, after, run_calls}
use Rattle.demands.specs.Acknowledged.{result_byte}
use Rattle.demands.specs.History.{History, some_of, no_history, history_of}
use Rattle.demands.specs.PowerCut.{Writes, Missing, sector_count}
use Rattle.demands.specs.Work.{at_work, Its, Alone, image_left}

-- from one moment of a write to a later one: no byte is handed over, with TC or without, and no other sector is begun
pub record NoneFollows (h later : History) : Type 0 where
  pub host : later.host ≡ h.host
  pub told : later.told ≡ h.told
  pub sectors : sector_count later ≡ sector_count h

-- once a byte is missing, whatever calls of the command follow: the request is off for good, and the sector in hand is
-- the command's last
abbrev pub ShortIsLast : (Controller → Type 0) → Type 0
ShortIsLast From =
    (c : Controller) → From c → (order : Order) (transfer : Transfer) (id : Id) → Writes c order transfer id
    → (old : List ℕ) (g : Geometry) → disk_in old ≡ Some g
    → (calls : List Call) → Its calls c → Alone order.drive old calls c
    → Missing g (history_of calls c no_history)
    → (more : List Call) → Its more (run_calls calls c)
    → Alone order.drive (image_left order.drive old calls c) more (run_calls calls c)
    → NoneFollows (history_of calls c no_history) (history_of more (run_calls calls c) (history_of calls c no_history))

-- what the command's ticks saw in its drive, the last one first
unfoldable pub saw_by : ℕ → Call → Controller → List Disk → List Disk
saw_by drive (powers head0 head1) c saw = saw
saw_by drive (reads offset) c saw = saw
saw_by drive (writes offset byte) c saw = saw
saw_by drive (takes tc) c saw = saw
saw_by drive (gives byte tc) c saw = saw
saw_by drive (ticks a b) c saw = seen_of c.registers.dor drive (pick_of drive a b) ∷ saw
saw_by drive (notes drive') c saw = saw

unfoldable pub saw_of : ℕ → List Call → Controller → List Disk → List Disk
saw_of drive [] c saw = saw
saw_of drive (call ∷ calls) c saw = saw_of drive calls (after call c) (saw_by drive call c saw)

-- what the last tick saw, and what the first one met
abbrev pub last_seen : List Disk → Disk
last_seen [] = None
last_seen (d ∷ saw) = d

abbrev pub met_in : List Disk → Disk
met_in [] = None
met_in (d ∷ []) = d
met_in (d ∷ e ∷ saw) = met_in (e ∷ saw)

-- no disk, or one with another header
pub data NotThatDisk (met last : Disk) : Type 0 where
  no_disk : last ≡ None → NotThatDisk met last
  another : (g g' : Geometry) → met ≡ Some g → last ≡ Some g' → (g' ≡ g → ⊥) → NotThatDisk met last

-- the result waits with INT on: ST1 01, or 11 where a byte was missing; its last tick saw no disk or another header
pub record Pulled (e : Controller) (saw : List Disk) : Type 0 where
  pub waits : e.phase ≡ Answering true
  pub st1 : (result_byte 1 e ≡ 0x01) ⊎ (result_byte 1 e ≡ 0x11)
  pub disk : NotThatDisk (met_in saw) (last_seen saw)

-- a write that ended, not by a reset or power-on, with a sector begun, whatever images its ticks were handed
abbrev pub OnlyCutsBreak : (Controller → Type 0) → Type 0
OnlyCutsBreak From =
    (c : Controller) → From c → (order : Order) (transfer : Transfer) (id : Id) → Writes c order transfer id
    → (calls : List Call) → Its calls c → AllCalm calls → at_work (run_calls calls c).phase ≡ false
    → (at : ℕ) (bytes : List ℕ) → (history_of calls c no_history).begun ≡ some_of at bytes
    → Pulled (run_calls calls c) (saw_of order.drive calls c [])
