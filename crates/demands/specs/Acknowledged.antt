-- What a write command's result says of the disk (01 Result, Write, Next; 02 2026-02): success is reported exactly when
-- TC came and every byte that the host handed over is in a finished sector, and the address says how many sectors are
-- safe. A short sector is finished and not acknowledged.
-- Assumes nothing.
use Rattle.std.specs.Prelude.{ℕ, ◌+◌, ◌-◌, ◌*◌, ◌<◌, ◌≤◌, true, false, ◌||◌, cond, List, ◌⊎◌, ◌≡◌, leb, length, get_or, Some}
use Rattle.sectors.specs.declared.order.Order.{Order}
use Rattle.sectors.specs.declared.order.Transfer.{Transfer}
use Rattle.image.specs.declared.layout.Geometry.{Geometry}
use Rattle.image.specs.declared.slot.Id.{Id}
use Rattle.image.specs.Disk.{disk_in}
use Rattle.fdc.specs.declared.record.Controller.{Controller}
use Rattle.fdc.specs.declared.record.Phase.TheVariants.{Starting, Answering}
use Rattle.reached.specs.Moves.{AllCalm}
use Rattle.reached.specs.Runs.{Call, run_calls}
use Rattle.demands.specs.History.{no_one, some_of, History, no_history, history_of}
use Rattle.demands.specs.PowerCut.{Writes, Aim, aim_no, passing}
use Rattle.demands.specs.Work.{at_work, Its, Alone}

-- the sectors finished
abbrev pub done_count : History → ℕ
done_count h = length h.finished

-- 01 Commands: ST0 ST1 ST2 C H R N, before the first of them is taken
abbrev pub result_byte : ℕ → Controller → ℕ
result_byte k c = get_or c.bytes.results k 0

abbrev pub result_id : Controller → Id
result_id c = record { c = result_byte 3 c; h = result_byte 4 c; r = result_byte 5 c; n = result_byte 6 c }

-- TC came, no sector is begun, and every byte that the host handed over is in a finished sector
pub record AllSafe (g : Geometry) (h : History) : Type 0 where
  pub told : h.told ≡ true
  pub none : h.begun ≡ no_one
  pub all : length h.host ≤ done_count h * passing g

-- the sectors up to EOT are all finished, and hold host bytes only
pub record UpToEot (g : Geometry) (transfer : Transfer) (aim : Aim) (h : History) : Type 0 where
  pub none : h.begun ≡ no_one
  pub some : 0 < done_count h
  pub last : (k : ℕ) → k + 1 ≡ done_count h → (aim_no transfer aim k).id.r ≡ transfer.eot
  pub whole : done_count h * passing g ≤ length h.host

-- the number of the sector whose address the result gives: the first one that is not finished, or the last one
-- finished if it is short: TC did not come, and the host's bytes do not fill it
abbrev pub shown_number : Geometry → History → ℕ
shown_number g h =
    cond (h.told || leb (done_count h * passing g) (length h.host)) (done_count h) (done_count h - 1)

-- what ST0, ST1, ST2 and the address say
pub record Acknowledges (g : Geometry) (transfer : Transfer) (aim : Aim) (h : History) (st0 st1 st2 : ℕ) (id : Id) : Type 0
  where
    pub address : id ≡ (aim_no transfer aim (shown_number g h)).id
    -- IC 00 exactly when all is safe
    pub normal : st0 < 0x40 → AllSafe g h
    pub safe : AllSafe g h → st0 < 0x40
    pub clean : st0 < 0x40 → (st1 ≡ 0x00) × (st2 ≡ 0x00)
    -- no sector is finished for which there was no host byte
    pub no_more : 0 < done_count h → (done_count h - 1) * passing g < length h.host
    -- ST1 80: all of them up to EOT; what else was handed over is dropped
    pub past_eot_law : st1 ≡ 0x80 → UpToEot g transfer aim h
    -- a finished sector that is short: ST1 10 alone, also at EOT
    pub short : h.told ≡ false → length h.host < done_count h * passing g → (st1 ≡ 0x10) × (st2 ≡ 0x00)
    -- a begun sector is left only with ST1 01 or, after a missing byte, 11
    pub broken : (at : ℕ) (bytes : List ℕ) → h.begun ≡ some_of at bytes → (st1 ≡ 0x01) ⊎ (st1 ≡ 0x11)

-- after its calls the result waits with INT on
abbrev pub Acknowledged : (Controller → Type 0) → Type 0
Acknowledged From =
    (c : Controller) → From c → (order : Order) (transfer : Transfer) (id : Id) → Writes c order transfer id
    → (old : List ℕ) (g : Geometry) → disk_in old ≡ Some g
    → (calls : List Call) → Its calls c → Alone order.drive old calls c
    → (run_calls calls c).phase ≡ Answering true
    → Acknowledges g transfer (record { id = id; side = order.side }) (history_of calls c no_history)
    (result_byte 0 (run_calls calls c)) (result_byte 1 (run_calls calls c)) (result_byte 2 (run_calls calls c))
    (result_id (run_calls calls c))

-- a data command, Read ID or Format ends with a result, or by a call that is a reset or power-on
abbrev pub ResultWaits : (Controller → Type 0) → Type 0
ResultWaits From =
    (c : Controller) → From c → (order : Order) → c.phase ≡ Starting order → (calls : List Call) → Its calls c
    → AllCalm calls → at_work (run_calls calls c).phase ≡ false → (run_calls calls c).phase ≡ Answering true
