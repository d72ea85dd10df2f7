-- A block read from its first call to its last (02 2026-01).
-- Assumes nothing.
use Rattle.std.specs.Prelude.{Some}
use Prim.Native.Nat.{ℕ, ◌<◌}
use native.Mathlib.Omega.{arith}
use mathlib.Core.Bool.{Bool, true, cond, false≢true}
use mathlib.Core.List.{List}
use mathlib.Core.Path.{◌≡◌, refl, sym, ap, ◌∙◌, subst}
use lib.ListN.{replicate}
use Rattle.image.specs.declared.layout.Geometry.{Geometry}
use Rattle.image.specs.Disk.{disk_in}
use Rattle.image.specs.Layout.{size_of}
use Rattle.image.specs.Lent.{pick_of}
use Rattle.chip.specs.declared.fifo.Fifo.{Fifo}
use Rattle.chip.specs.Fifo.{emptied}
use Rattle.sectors.specs.declared.order.Order.{Order}
use Rattle.sectors.specs.declared.order.Pass.TheVariants.{Read}
use Rattle.sectors.specs.declared.order.Transfer.{Transfer}
use Rattle.fdc.specs.declared.record.Controller.{Controller}
use Rattle.fdc.specs.declared.record.Phase.{Phase}
use Rattle.fdc.specs.declared.record.Phase.TheVariants.{Starting}
use Rattle.fdc.specs.Ticks.{image_after}
use Rattle.reached.specs.Good.{Suits}
use Rattle.reached.specs.Runs.{ticks, run_calls}
use Rattle.demands.specs.HandedOver.{Taken, untaken}
use Rattle.demands.specs.Work.{at_work}
use Rattle.demands.proofs.HandedOverLaws.{is_over, to_start, at_it}
use Rattle.demands.proofs.HandedStream.{size_some}
use Rattle.demands.proofs.OtherLaws.{Of, other_tick}
use Rattle.demands.proofs.ReadServedLaws as served
use Rattle.block.specs.declared.place.Place.{Place}
use Rattle.block.specs.declared.request.Reply.TheVariants.{Ended, RanOut}
use Rattle.block.specs.Box.{Box, with_record}
use Rattle.block.specs.Place.{place_of}
use Rattle.block.specs.Ready.{command_of}
use Rattle.block.specs.Request.{budget_of, order_bytes, ending_of, lost_bytes, read_with, read_on, read_block}
use Rattle.block.specs.Serve.{CameRead, reads_of, status_from}
use Rattle.block_demands.specs.Asked.{Asked, transfer_of, id_of, order_of}
use Rattle.block_demands.specs.BlockIsCalls.{Calls}
use Rattle.block_demands.proofs.BegunLaws.{Begun, read_begun}
use Rattle.block_demands.proofs.CourseLaws.{Course, of_two}
use Rattle.block_demands.proofs.InBudgetLaws.{course_runs, InBudget, in_budget}
use Rattle.block_demands.proofs.ReadLoopLaws as looping
use Rattle.block_demands.proofs.RequestLaws.{small, ready_there, waiting, read_goes, here, disk_there, parts}

-- before the first tick the FIFO is empty
pub start_empty : (p : Phase) (n : ℕ) (f : Fifo) (order : Order) → p ≡ Starting order → Suits p n f → f ≡ emptied
start_empty p n f order e s = (rw e at s).1

module _ (drive block : ℕ) (s : Box) (g : Geometry) (out : List ℕ) (asked : Asked drive block s g out) where
  abbrev place : Place
  place = place_of g block

  abbrev pub order : Order
  order = order_of Read drive g place

  abbrev transfer : Transfer
  transfer = transfer_of Read g

  abbrev p : Box
  p = waiting drive block s g out asked

  abbrev a : List ℕ
  a = p.first

  abbrev b : List ℕ
  b = p.second

  -- the record before the first tick
  abbrev pub begins : Controller
  begins = command_of (order_bytes 0x46 drive g place) p.controller

  pub begun : Begun Read drive g place p.controller begins
  begun = read_begun drive g place (small drive block s g out asked) p.controller (here drive block s g out asked)

  pub disk : disk_in (pick_of drive a b) ≡ Some g
  disk = disk_there drive block s g out asked

  pub low : drive < 4
  low = omega (arith, asked.drive_is)

  abbrev L : ℕ
  L = size_of g.n

  abbrev Ready : Controller → Taken → Type 0
  Ready c t = served.Ready order transfer (id_of g place) a b g disk refl refl low place.cylinder L c t

  -- a tick of a read changes neither image
  of_drive : (c : Controller) (t : Taken) → Ready c t → at_work c.phase ≡ true → Of drive c.phase
  of_drive c t r w = go r.run
    where
      go : served.Running order transfer (id_of g place) a b g disk refl refl low place.cylinder L c t
          → Of drive c.phase
      go (is_over n x y) = absurd (false≢true (sym n ∙ w))
      go (to_start e u z) = rw e refl
      go (at_it site task stage e u x) = rw e x.drive_is

  pub keeps : (c : Controller) (t : Taken) → Ready c t → at_work c.phase ≡ true
      → (image_after 0 a b c a ≡ a) × (image_after 1 a b c b ≡ b)
  keeps c t r w =
      of_two
      (λ k. drive ≡ k → image_after k a b c (pick_of k a b) ≡ pick_of k a b
      → (image_after 0 a b c a ≡ a) × (image_after 1 a b c b ≡ b))
      drive asked.drive_is
      (λ e own. (own, other_tick drive 1 (λ x. omega arith) a b c b r.quiet (of_drive c t r w)))
      (λ e own. (other_tick drive 0 (λ x. omega arith) a b c a r.quiet (of_drive c t r w), own))
      refl
      (served.goes_on_lem order transfer (id_of g place) a b g disk refl refl low place.cylinder L (ticks a b) c t r w
      refl).0

  some : 0 < L
  some = size_some g.n

  abbrev Loop : CameRead → Type 0
  Loop r =
      looping.Loop order transfer (id_of g place) a b g disk refl refl low place.cylinder L out asked.size keeps
      (budget_of g) begins untaken r

  abbrev pub served_by : CameRead
  served_by = reads_of (budget_of g) (with_record begins p) out 0

  pub loop : Loop served_by
  loop =
      looping.loop order transfer (id_of g place) a b g disk refl refl low place.cylinder L out asked.size keeps
      (budget_of g) begins untaken out
      (record {
        ready = record {
          quiet = begun.lit.quiet;
          lines = record { motor = begun.lit.motor; gate = begun.lit.gate; dma = begun.lit.dma };
          run = to_start begun.starts begun.head refl;
          told = (λ e. absurd (false≢true e), λ l. absurd (omega (arith, some)));
        };
        lit = begun.lit;
        works = ap at_work begun.starts;
        holds = refl;
        most = omega arith;
      })
      (ap (λ (f : Fifo). f.asks)
      (start_empty begins.phase _ begins.fifo order begun.starts begun.lit.quiet.good.phase))

  pub leads : run_calls loop.calls begins ≡ served_by.box.controller
  leads =
      course_runs drive (budget_of g) (with_record begins p) served_by.came served_by.box loop.calls
      loop.course

  pub ended : InBudget served_by.came served_by.box
  ended =
      in_budget Read drive g place asked.drive_is (with_record begins p) begun.lit.quiet begun.starts disk
      served_by.came served_by.box loop.calls loop.course

  pub read_ends : read_block drive block s out
      ≡ read_with (Ended (ending_of (status_from 7 0 (replicate 7 0) served_by.box.controller).bytes))
      (with_record (status_from 7 0 (replicate 7 0) served_by.box.controller).controller served_by.box)
      served_by.out
  unfolding read_on
  read_ends =
      read_goes drive block s g out asked
      ∙ ap (λ (x : Bool). cond x
      (read_with (Ended (ending_of (status_from 7 0 (replicate 7 0) served_by.box.controller).bytes))
      (with_record (status_from 7 0 (replicate 7 0) served_by.box.controller).controller served_by.box)
      served_by.out) (read_with (RanOut (ending_of (lost_bytes g place))) served_by.box served_by.out))
      ended.came

  pub read_calls_lem : Calls Read drive g place s (read_block drive block s out).box (read_block drive block s out).reply
  read_calls_lem =
      rw read_ends
      (parts Read drive g place s p (ready_there drive block s g out asked).1 begins begun (budget_of g)
      served_by.box loop.calls
      (subst (λ (x : Bool). Course drive (budget_of g) (with_record begins p) x served_by.box loop.calls)
      ended.came loop.course) ended.said ended.left)
