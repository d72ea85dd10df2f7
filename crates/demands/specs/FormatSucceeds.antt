-- When a Format succeeds (01 Format, First tick, FIFO and request), and which host is in time for it.
-- Assumes nothing.
use Rattle.std.specs.Prelude.{ℕ, ◌*◌, ◌≤◌, true, false, cond, List, [], ◌∷◌, ◌⊎◌, ◌≡◌, length, ltb, Some}
use Rattle.sectors.specs.declared.order.Order.{Order}
use Rattle.sectors.specs.declared.order.Plan.{Plan}
use Rattle.sectors.specs.Result.{st0_of}
use Rattle.image.specs.declared.layout.Geometry.{Geometry}
use Rattle.image.specs.Disk.{disk_in}
use Rattle.fdc.specs.declared.record.Controller.{Controller}
use Rattle.fdc.specs.declared.record.Phase.TheVariants.{Answering}
use Rattle.reached.specs.Moves.{tick_count}
use Rattle.reached.specs.Runs.{Call, after, run_calls}
use Rattle.demands.specs.Acknowledged.{result_byte, result_id}
use Rattle.demands.specs.DataError.{Spins}
use Rattle.demands.specs.EndsInTime.{bound_of}
use Rattle.demands.specs.FormatScript.{Formats, slot_draws, Allowed}
use Rattle.demands.specs.History.{History, no_history, history_by}
use Rattle.demands.specs.InTime.{AtTick, InTime}
use Rattle.demands.specs.PowerCut.{head_of}
use Rattle.demands.specs.Work.{at_work, Its, Alone, EndsWith}

-- each tick at work finds the request off, or n bytes handed over: the request knows no count (D-114), the host does
unfoldable pub ServedUpTo : ℕ → List Call → Controller → History → Type 0
ServedUpTo n [] c h = Unit {0}
ServedUpTo n (call ∷ calls) c h =
    at_work c.phase ≡ true
    → AtTick (λ e. (e.fifo.asks ≡ false) ⊎ (n ≤ length h.host)) call c
    × ServedUpTo n calls (after call c) (history_by call c h)

-- the result waits with INT on: IC 00 with side and drive, ST1 and ST2 00; head (0 for drives 2, 3), side, SC, N
pub record Formatted (order : Order) (plan : Plan) (cylinder : ℕ) (e : Controller) : Type 0 where
  pub waits : e.phase ≡ Answering true
  pub st0 : result_byte 0 e ≡ st0_of true order.drive order.side
  pub st1 : result_byte 1 e ≡ 0x00
  pub st2 : result_byte 2 e ≡ 0x00
  pub address : result_id e
      ≡ record { c = cond (ltb order.drive 2) cylinder 0; h = order.side; r = plan.sc; n = plan.n }

-- on a disk that it may format, with the motor on, nobody else at the image, served in time, it ends normally
abbrev pub FormatSucceeds : (Controller → Type 0) → Type 0
FormatSucceeds From =
    (c : Controller) → From c → (order : Order) (plan : Plan) → Formats c order plan
    → (old : List ℕ) (g : Geometry) → disk_in old ≡ Some g → Allowed g (head_of order c) order.side plan
    → (calls : List Call) → Spins order.drive calls c → Alone order.drive old calls c → InTime calls c
    → bound_of g ≤ tick_count calls
    → EndsWith (Formatted order plan (head_of order c)) calls c

-- a host that serves each request before the next tick, until it has handed over four bytes for each slot, is in time
abbrev pub FormatServed : (Controller → Type 0) → Type 0
FormatServed From =
    (c : Controller) → From c → (order : Order) (plan : Plan) → Formats c order plan
    → (old : List ℕ) (g : Geometry) → disk_in old ≡ Some g
    → (calls : List Call) → Alone order.drive old calls c → ServedUpTo (plan.sc * slot_draws) calls c no_history
    → InTime calls c

-- in time, no Format ends with ST1 10, whoever changes the image
abbrev pub FormatNeverLate : (Controller → Type 0) → Type 0
FormatNeverLate From =
    (c : Controller) → From c → (order : Order) (plan : Plan) → Formats c order plan
    → (calls : List Call) → Its calls c → InTime calls c → (run_calls calls c).phase ≡ Answering true
    → result_byte 1 (run_calls calls c) ≡ 0x10 → ⊥
