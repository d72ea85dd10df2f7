-- Only a Write or a Format at work stores (01 Calls, 01 Data commands).
-- Assumes nothing.
use Rattle.std.specs.Prelude.{None, Some}
use Prim.Native.Nat.{ℕ, ◌%◌}
use mathlib.Core.Bool.{true, false, not, ◌&&◌}
use mathlib.Core.List.{List}
use mathlib.Core.Path.{◌≡◌, refl}
use lib.Dec.{eqb}
use Rattle.image.proofs.TestLaws.{by_test}
use Rattle.image.specs.Disk.{Disk}
use Rattle.image.specs.Lent.{pick_of, stored_as}
use Rattle.chip.specs.declared.fifo.Fifo.{Fifo}
use Rattle.sectors.specs.declared.order.Job.{Job}
use Rattle.sectors.specs.declared.order.Job.TheVariants.{Identify, Move, Format}
use Rattle.sectors.specs.declared.order.Order.{Order}
use Rattle.sectors.specs.declared.order.Pass.{Pass}
use Rattle.sectors.specs.declared.order.Pass.TheVariants.{Read, Write}
use Rattle.sectors.specs.declared.order.Transfer.{Transfer}
use Rattle.sectors.specs.declared.work.Site.{Site}
use Rattle.sectors.specs.declared.work.Work.{Work}
use Rattle.sectors.specs.declared.work.Work.TheVariants.{Identifying, Moving, Formatting}
use Rattle.image.specs.declared.slot.Id.{Id}
use Rattle.sectors.specs.Result.{end_of}
use Rattle.sectors.specs.Track.{has_track}
use Rattle.engine.specs.First.{changes, misplanned, gate_of, begin_of, entered_of, moving_of}
use Rattle.engine.specs.First.{start_job}
use Rattle.engine.specs.Step.{pass_flow, from_host, flow_of, drive_of}
use Rattle.engine.proofs.KeptLaws.{go_on_kept}
use Rattle.fdc.specs.declared.record.Controller.{Controller}
use Rattle.fdc.specs.declared.record.Phase.{Phase}
use Rattle.fdc.specs.declared.record.Phase.TheVariants.{Idle, Gathering, Starting, Working, Sensing, Answering}
use Rattle.fdc.specs.declared.ticks.Decision.{Decision}
use Rattle.fdc.specs.Record.{drive_at, valid_of}
use Rattle.fdc.specs.Registers.{held_in}
use Rattle.fdc.specs.Ticks.{seen_of, stepped_of, still_of, decided_of, start_tick, work_tick, decide_in, decide_of, ruled_of}
use Rattle.fdc.specs.Ticks.{image_after}
use Rattle.answers.specs.OnlyWrites.{Changes, Storing, suited_in, OnlyWrites}
use Rattle.answers.proofs.FitLaws.{fit_suited, fit_real}

-- the first tick does its tests and stores nothing, whatever the command
moving_nothing : (p : Pass) (transfer : Transfer) (id : Id) (site : Site) (fifo : Fifo)
    → (moving_of p transfer id site fifo).effect ≡ None
unfolding moving_of
moving_nothing Read transfer id site fifo = refl
moving_nothing Write transfer id site fifo = refl

start_nothing : (job : Job) (site : Site) (fifo : Fifo) → (start_job job site fifo).effect ≡ None
unfolding start_job
start_nothing Identify site fifo = refl
start_nothing (Move transfer id) site fifo = moving_nothing transfer.pass transfer id site fifo
start_nothing (Format plan) site fifo = refl

entered_nothing : (disk : Disk) (job : Job) (drive side head : ℕ) (fifo : Fifo)
    → (entered_of (gate_of disk job side head) job drive side head fifo).effect ≡ None
unfolding gate_of entered_of end_of
entered_nothing None job drive side head fifo = refl
entered_nothing (Some g) job drive side head fifo =
    by_test (not (has_track g head side)) (λ gate. (entered_of gate job drive side head fifo).effect ≡ None) _ _
    (λ t. refl)
    (λ t. by_test (changes job && g.protect) (λ gate. (entered_of gate job drive side head fifo).effect ≡ None) _ _
    (λ u. refl)
    (λ u. by_test (misplanned job g) (λ gate. (entered_of gate job drive side head fifo).effect ≡ None) _ _
    (λ m. refl) (λ m. start_nothing job _ fifo)))

pub begin_nothing : (order : Order) (disk : Disk) (head : ℕ) (fifo : Fifo) → (begin_of order disk head fifo).effect ≡ None
unfolding begin_of
begin_nothing order disk head fifo = entered_nothing disk order.job order.drive order.side head fifo

-- a work that is no Write or Format has no bytes from the host
not_from : (work : Work) → (Changes work → ⊥) → from_host (flow_of work) ≡ false
not_from (Identifying site slot passes) n = refl
not_from (Moving site task stage) n = go task.transfer.pass n
  where
    go : (p : Pass) → (p ≡ Write → ⊥) → from_host (pass_flow p) ≡ false
    go Read n = refl
    go Write n = absurd (n refl)
not_from (Formatting site plan form) n = absurd (n tt)

in_phase : (p : Phase) (a b : List ℕ) (c : Controller) → suited_in p ≡ true → (Storing p → ⊥)
    → (decide_in p a b c).effect ≡ None
unfolding decide_in still_of start_tick work_tick decided_of
in_phase Idle a b c s n = refl
in_phase (Gathering entry) a b c s n = refl
in_phase (Starting order) a b c s n = begin_nothing order _ _ c.fifo
in_phase (Working work) a b c s n =
    (go_on_kept work (seen_of c.registers.dor (drive_of work) (pick_of (drive_of work) a b))
    (drive_at (drive_of work % 4) c.drives).head (pick_of (drive_of work) a b) c.fifo c.registers.efifo
    c.registers.fifothr).stores s (not_from work n)
in_phase (Sensing unit) a b c s n = refl
in_phase (Answering loud) a b c s n = refl

ruled_nothing : (a b : List ℕ) (c : Controller) → suited_in c.phase ≡ true → (Storing c.phase → ⊥)
    → (ruled_of a b c).effect ≡ None
unfolding ruled_of decide_of still_of
ruled_nothing a b c s n =
    by_test (valid_of c) (λ (x : Decision). x.effect ≡ None) _ _
    (λ v. by_test (held_in c.registers.dor) (λ (x : Decision). x.effect ≡ None) _ _ (λ t. refl)
    (λ t. in_phase c.phase a b (stepped_of a b c) s n))
    (λ v. refl)

pub nothing_stored : (k d : ℕ) (img : List ℕ) → stored_as d k None img ≡ img
nothing_stored k d img = by_test (eqb d k) (λ (l : List ℕ). l ≡ img) _ _ (λ t. refl) (λ t. refl)

any_record : (c : Controller) → suited_in c.phase ≡ true → (Storing c.phase → ⊥) → (a b : List ℕ) (k : ℕ)
    (img : List ℕ)
    → image_after k a b c img ≡ img
unfolding image_after
any_record c s n a b k img = rw (ruled_nothing a b c s n) (nothing_stored k (ruled_of a b c).drive img)

pub only_writes : OnlyWrites
only_writes = record { reached = λ c r n. any_record c (fit_suited c (fit_real c r)) n; any = any_record }
