-- What a write acknowledged comes back (01 Write, Read, Result), and not only if something comes: a later read of the
-- same sectors, served in time, on a sound image with these slots as they were left, ends with success and has handed
-- over the host's bytes.
-- Assumes nothing.
use Rattle.std.specs.Prelude.{ℕ, ◌-◌, ◌<◌, ◌≤◌, Bool, List, ◌++◌, ◌≡◌, length}
use Rattle.sectors.specs.declared.order.Order.{Order}
use Rattle.sectors.specs.declared.order.Transfer.{Transfer}
use Rattle.image.specs.Sound.{Sound}
use Rattle.fdc.specs.declared.record.Controller.{Controller}
use Rattle.reached.specs.Moves.{tick_count}
use Rattle.reached.specs.Runs.{Call, run_calls}
use Rattle.demands.specs.DataError.{Spins}
use Rattle.demands.specs.EndsInTime.{bound_of}
use Rattle.demands.specs.HandedOver.{Reads, untaken, taken_over}
use Rattle.demands.specs.InTime.{InTime}
use Rattle.demands.specs.PowerCut.{head_of}
use Rattle.demands.specs.ReadSucceeds.{ReadTells}
use Rattle.demands.specs.RoundTrip.{
  with_protect,
  Written,
  left_by,
  done_by,
  sectors_by,
  cylinder_of,
  place_of,
  Succeeded,
  SlotStays,
}
use Rattle.demands.specs.Succeeds.{Success}
use Rattle.demands.specs.Work.{Its, Alone}

-- a read of the kind and of the sectors that were written, SK or not
pub record SameAgain {From : Controller → Type 0} (w : Written From) (c : Controller) (order : Order)
    (transfer : Transfer) : Type 0 where
  pub accepted : Reads c order transfer w.id
  pub cylinder : head_of order c ≡ cylinder_of w
  pub side : order.side ≡ w.order.side
  pub eot : transfer.eot ≡ w.transfer.eot
  pub mt : transfer.mt ≡ w.transfer.mt
  pub kind : transfer.deleted ≡ w.transfer.deleted

-- a first part of the calls is the command's, ends it so, and has handed over these bytes and no other
pub record Loads (P : Controller → Type 0) (host : List ℕ) (calls : List Call) (c : Controller) : Type 0 where
  pub part : List Call
  pub rest : List Call
  pub split : part ++ rest ≡ calls
  pub its : Its part c
  pub ends : P (run_calls part c)
  pub bytes : (taken_over part c untaken).got ≡ host

-- the read is told TC with as many bytes as were written
abbrev pub LoadsBack : (Controller → Type 0) → Type 0
LoadsBack From =
    (w : Written From) → Succeeded w → 0 < length (done_by w).host
    → (later : List ℕ) (protect : Bool) → Sound (with_protect protect w.g) later
    → ((m : ℕ) → m < sectors_by w → SlotStays w.g (left_by w) later (place_of w m))
    → (c : Controller) → From c → (order : Order) (transfer : Transfer) → SameAgain w c order transfer
    → (calls : List Call) → Spins order.drive calls c → Alone order.drive later calls c → InTime calls c
    → ReadTells (length (done_by w).host) calls c untaken → bound_of w.g ≤ tick_count calls
    → Loads (Success order transfer (record { id = w.id; side = order.side }) (sectors_by w - 1)) (done_by w).host
    calls c
