-- A block written, from its first call to its last (02 2026-01).
-- Assumes nothing.
use Rattle.std.specs.Prelude.{Some}
use Prim.Native.Nat.{ℕ, ◌<◌}
use native.Mathlib.Omega.{arith}
use mathlib.Core.Bool.{Bool, cond, false≢true}
use mathlib.Core.List.{List}
use mathlib.Core.Path.{◌≡◌, refl, ap, ◌∙◌, subst}
use lib.ListN.{length, replicate}
use Rattle.image.specs.declared.layout.Geometry.{Geometry}
use Rattle.image.specs.Disk.{disk_in}
use Rattle.chip.specs.declared.fifo.Fifo.{Fifo}
use Rattle.sectors.specs.declared.order.Order.{Order}
use Rattle.sectors.specs.declared.order.Pass.TheVariants.{Write}
use Rattle.sectors.specs.declared.order.Transfer.{Transfer}
use Rattle.fdc.specs.declared.record.Controller.{Controller}
use Rattle.reached.specs.Runs.{run_calls}
use Rattle.demands.specs.History.{no_history}
use Rattle.demands.specs.Work.{at_work}
use Rattle.demands.proofs.HandedStream.{size_some}
use Rattle.demands.proofs.PowerCutLaws.{to_start}
use Rattle.block.specs.declared.place.Place.{Place}
use Rattle.block.specs.declared.request.Reply.TheVariants.{Ended, RanOut}
use Rattle.block.specs.Box.{Box, with_record, Came}
use Rattle.block.specs.Place.{place_of}
use Rattle.block.specs.Ready.{command_of}
use Rattle.block.specs.Request.{budget_of, order_bytes, ending_of, lost_bytes, written_with, write_on, write_block}
use Rattle.block.specs.Serve.{writes_of, status_from}
use Rattle.block_demands.specs.Asked.{image_of, Asked, transfer_of, id_of, order_of}
use Rattle.block_demands.specs.BlockIsCalls.{Calls}
use Rattle.block_demands.proofs.BegunLaws.{Begun, write_begun}
use Rattle.block_demands.proofs.CourseLaws.{Course}
use Rattle.block_demands.proofs.InBudgetLaws.{course_runs, InBudget, in_budget}
use Rattle.block_demands.proofs.ReadDoneLaws.{start_empty}
use Rattle.block_demands.proofs.RequestLaws.{small, ready_there, waiting, write_goes, here, disk_there, parts}
use Rattle.block_demands.proofs.WriteLoopLaws as looping

module _ (drive block : ℕ) (s : Box) (g : Geometry) (bytes : List ℕ) (asked : Asked drive block s g bytes) where
  abbrev place : Place
  place = place_of g block

  abbrev pub order : Order
  order = order_of Write drive g place

  abbrev transfer : Transfer
  transfer = transfer_of Write g

  abbrev p : Box
  p = waiting drive block s g bytes asked

  -- the image that the command meets
  abbrev pub old : List ℕ
  old = image_of drive p

  -- the record before the first tick
  abbrev pub begins : Controller
  begins = command_of (order_bytes 0x45 drive g place) p.controller

  pub begun : Begun Write drive g place p.controller begins
  begun =
      write_begun drive g place (small drive block s g bytes asked) p.controller (here drive block s g bytes asked)

  pub disk : disk_in old ≡ Some g
  disk = disk_there drive block s g bytes asked

  pub sector : place.sector < 256
  sector = (small drive block s g bytes asked).sector

  pub eot : g.slots < 256
  eot = (small drive block s g bytes asked).slots

  some : 0 < length bytes
  some = omega (arith, asked.size, size_some g.n)

  abbrev Loop : Came → Type 0
  Loop r =
      looping.Loop order transfer (id_of g place) old g disk refl refl sector eot asked.drive_is place.cylinder
      bytes (budget_of g) (with_record begins p) no_history r

  abbrev pub served_by : Came
  served_by = writes_of (budget_of g) (with_record begins p) bytes 0

  pub loop : Loop served_by
  loop =
      looping.loop order transfer (id_of g place) old g disk refl refl sector eot asked.drive_is place.cylinder
      bytes (budget_of g) (with_record begins p) no_history
      (record {
        lit = begun.lit;
        works = ap at_work begun.starts;
        run = to_start begun.starts begun.head refl refl;
        told = (λ e. absurd (false≢true e), λ l. absurd (omega (arith, some)));
        host = refl;
        most = omega arith;
      })
      (ap (λ (f : Fifo). f.asks)
      (start_empty begins.phase _ begins.fifo order begun.starts begun.lit.quiet.good.phase))

  pub leads : run_calls loop.calls begins ≡ served_by.box.controller
  leads =
      course_runs drive (budget_of g) (with_record begins p) served_by.came served_by.box loop.calls
      loop.course

  pub ended : InBudget served_by.came served_by.box
  ended =
      in_budget Write drive g place asked.drive_is (with_record begins p) begun.lit.quiet begun.starts disk
      served_by.came served_by.box loop.calls loop.course

  pub write_ends : write_block drive block s bytes
      ≡ written_with (Ended (ending_of (status_from 7 0 (replicate 7 0) served_by.box.controller).bytes))
      (with_record (status_from 7 0 (replicate 7 0) served_by.box.controller).controller served_by.box)
  unfolding write_on
  write_ends =
      write_goes drive block s g bytes asked
      ∙ ap (λ (x : Bool). cond x
      (written_with (Ended (ending_of (status_from 7 0 (replicate 7 0) served_by.box.controller).bytes))
      (with_record (status_from 7 0 (replicate 7 0) served_by.box.controller).controller served_by.box))
      (written_with (RanOut (ending_of (lost_bytes g place))) served_by.box)) ended.came

  pub write_calls : Calls Write drive g place s (write_block drive block s bytes).box
      (write_block drive block s bytes).reply
  write_calls =
      rw write_ends
      (parts Write drive g place s p (ready_there drive block s g bytes asked).1 begins begun (budget_of g)
      served_by.box loop.calls
      (subst (λ (x : Bool). Course drive (budget_of g) (with_record begins p) x served_by.box loop.calls)
      ended.came loop.course) ended.said ended.left)
