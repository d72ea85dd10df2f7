-- After TC no byte passes (01 Read: "TC empties the FIFO; no byte follows"; 01 FIFO: "after TC off for good"): once it
-- has come with a byte, no later call of the command hands one over or takes one.
-- Assumes nothing.
use Rattle.std.specs.Prelude.{ℕ, true, List, ◌≡◌, Some}
use Rattle.image.specs.declared.layout.Geometry.{Geometry}
use Rattle.image.specs.declared.slot.Id.{Id}
use Rattle.image.specs.Disk.{disk_in}
use Rattle.sectors.specs.declared.order.Order.{Order}
use Rattle.sectors.specs.declared.order.Transfer.{Transfer}
use Rattle.fdc.specs.declared.record.Controller.{Controller}
use Rattle.reached.specs.Runs.{Call, run_calls}
use Rattle.demands.specs.HandedOver.{Reads, untaken, taken_by, taken_over}
use Rattle.demands.specs.History.{no_history, history_by, history_of}
use Rattle.demands.specs.PowerCut.{Writes}
use Rattle.demands.specs.Work.{at_work, Its, Alone}

abbrev pub ReadStops : (Controller → Type 0) → Type 0
ReadStops From =
    (c : Controller) → From c → (order : Order) (transfer : Transfer) (id : Id) → Reads c order transfer id
    → (img : List ℕ) (g : Geometry) → disk_in img ≡ Some g
    → (calls : List Call) → Its calls c → Alone order.drive img calls c → at_work (run_calls calls c).phase ≡ true
    → (taken_over calls c untaken).told ≡ true
    → (call : Call) → taken_by call (run_calls calls c) (taken_over calls c untaken) ≡ taken_over calls c untaken

abbrev pub WriteStops : (Controller → Type 0) → Type 0
WriteStops From =
    (c : Controller) → From c → (order : Order) (transfer : Transfer) (id : Id) → Writes c order transfer id
    → (old : List ℕ) (g : Geometry) → disk_in old ≡ Some g
    → (calls : List Call) → Its calls c → Alone order.drive old calls c → at_work (run_calls calls c).phase ≡ true
    → (history_of calls c no_history).told ≡ true
    → (call : Call) → (history_by call (run_calls calls c) (history_of calls c no_history)).host ≡ (history_of calls c no_history).host
