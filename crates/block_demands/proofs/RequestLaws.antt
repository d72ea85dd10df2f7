-- A request from its first call to its last (02 2026-01): what each of its three parts comes to.
-- Assumes nothing.
use Rattle.std.specs.Prelude.{Some}
use Prim.Native.Nat.{ℕ, ◌/◌, ◌%◌, ◌<◌, ◌≤◌}
use native.Mathlib.Omega.{arith}
use mathlib.Core.Bool.{Bool, true, false}
use mathlib.Core.List.{List, [], ◌∷◌, ◌++◌}
use mathlib.Core.Logic.{inl, inr}
use mathlib.Core.Path.{◌≡◌, refl, sym, ap, ◌∙◌}
use lib.ListN.{length, replicate}
use borrow.Author.Tests.{lt-leb, eq-eqb, eqb-false}
use Rattle.image.specs.declared.layout.Geometry.{Geometry}
use Rattle.image.specs.Disk.{disk_in, InRange}
use Rattle.image.specs.Layout.{size_of}
use Rattle.image.specs.Lent.{pick_of}
use Rattle.image.proofs.DiskLaws.{present_fits}
use Rattle.block.specs.declared.place.Place.{Place}
use Rattle.block.specs.Box.{Box, with_record}
use Rattle.block.specs.Head.{prepared_of}
use Rattle.block.specs.Place.{blocks_of, place_of}
use Rattle.block.specs.Request.{ending_of, read_on, read_at, read_in, read_block, write_on, write_at, write_in, write_block}
use Rattle.block.proofs.PlaceLaws.{cylinder_on, side_on, sector_on}
use Rattle.block_demands.specs.Asked.{image_of, Asked}
use Rattle.fdc.specs.declared.record.Controller.{Controller}
use Rattle.fdc.specs.declared.record.Phase.TheVariants.{Answering}
use Rattle.fdc.specs.Registers.{held_in}
use Rattle.reached.specs.Runs.{Call, after, run_calls}
use Rattle.sectors.specs.declared.order.Pass.{Pass}
use Rattle.demands.specs.Quiet.{Quiet}
use Rattle.demands.proofs.PowerCutLaws.{idle≢answering}
use Rattle.answers.specs.Registers.{Free}
use Rattle.block.specs.declared.request.Reply.TheVariants.{Ended}
use Rattle.block.specs.Serve.{status_from}
use Rattle.block_demands.specs.BlockIsCalls.{Calls}
use Rattle.block_demands.specs.Made.{box_after, Rests, Idles}
use Rattle.block_demands.proofs.BegunLaws.{Here, Small, Begun}
use Rattle.block_demands.proofs.CourseLaws.{Course}
use Rattle.block_demands.proofs.InBudgetLaws.{course_runs}
use Rattle.block_demands.proofs.LedLaws.{Does, all_boxes, all_handed, made_runs}
use Rattle.block_demands.proofs.MadeLaws.{after_join, run_join, handed_join}
use Rattle.block_demands.proofs.PreparedLaws.{Placed, prepared}
use Rattle.block_demands.proofs.StatusLaws.{status_bytes, status_does}

-- a block's place is on the disk
pub record OnDisk (g : Geometry) (place : Place) : Type 0 where
  pub cylinder : place.cylinder < g.cylinders
  pub side : place.side < g.heads
  pub sector_some : 0 < place.sector
  pub sector : place.sector ≤ g.slots

pub on_disk : (g : Geometry) (block : ℕ) → InRange g → block < blocks_of g → OnDisk g (place_of g block)
on_disk g block range within = record {
  cylinder = cylinder_on g block range within;
  side = side_on g block range;
  sector_some = omega arith;
  sector = omega (arith, sector_on g block range);
}

module _ (drive block : ℕ) (s : Box) (g : Geometry) (slice : List ℕ) (asked : Asked drive block s g slice) where
  range : InRange g
  range = (present_fits (image_of drive s) g asked.disk).range

  abbrev place : Place
  place = place_of g block

  there : OnDisk g place
  there = on_disk g block range asked.within

  pub small : Small drive g place
  small = record {
    drive_is = asked.drive_is;
    cylinder = omega (arith, there.cylinder, range.cylinders.1);
    side = omega (arith, there.side, range.heads.1);
    sector = omega (arith, there.sector, range.slots.1);
    n = omega (arith, range.n.1);
    slots = omega (arith, range.slots.1);
  }

  pub ready_there : ((prepared_of drive place.cylinder s).came ≡ true)
      × Placed drive place.cylinder s (prepared_of drive place.cylinder s).box
  ready_there =
      prepared s drive place.cylinder asked.any.valid asked.any.spec1 asked.drive_is
      (omega (arith, there.cylinder, range.cylinders.1))

  abbrev pub waiting : Box
  waiting = (prepared_of drive place.cylinder s).box

  -- none of the refusals
  pub read_goes : read_block drive block s slice ≡ read_on drive g place waiting slice
  unfolding read_block read_in read_at
  read_goes =
      rw (
        asked.any.valid,
        asked.disk,
        lt-leb (blocks_of g) block asked.within,
        eq-eqb (length slice) (size_of g.n)
            asked.size,
        ready_there.0,
      )

  pub write_goes : write_block drive block s slice ≡ write_on drive g place waiting slice
  unfolding write_block write_in write_at
  write_goes =
      rw (
        asked.any.valid,
        asked.disk,
        lt-leb (blocks_of g) block asked.within,
        eq-eqb (length slice) (size_of g.n)
            asked.size,
        ready_there.0,
      )

  pub here : Here drive place.cylinder waiting.controller
  here =
      let p = ready_there.1 in
      record {
        quiet = p.quiet;
        ready = p.ready;
        none_busy = p.none_busy;
        no_report = p.no_report;
        gate = p.gate;
        dma = p.dma;
        motor = p.motor;
        head = p.head;
      }

  pub image_there : image_of drive waiting ≡ image_of drive s
  image_there =
      let p = ready_there.1 in
      λ i. pick_of drive (p.first i) (p.second i)

  pub disk_there : disk_in (image_of drive waiting) ≡ Some g
  disk_there = rw image_there asked.disk

-- with a result waiting it is not held in reset
pub said_free : (c : Controller) → Quiet c → c.phase ≡ Answering true → Free c
said_free c q said = go (held_in c.registers.dor) refl
  where
    go : (b : Bool) → held_in c.registers.dor ≡ b → Free c
    go true h = absurd (idle≢answering true (sym (q.held h) ∙ said))
    go false h = omega (arith, eqb-false (c.registers.dor / 4 % 2) 0 h)

-- a call that is handed no record at work changes no image
pub rests_idle : (calls : List Call) (c : Controller) → Rests calls c → Idles calls c
unfolding Rests Idles
rests_idle [] c r = tt
rests_idle (call ∷ calls) c r = (inr r.0, rests_idle calls (after call c) r.1)

pub idles_join : (xs ys : List Call) (c : Controller) → Idles xs c → Idles ys (run_calls xs c) → Idles (xs ++ ys) c
unfolding Idles run_calls
idles_join [] ys c h k = k
idles_join (x ∷ xs) ys c h k = (h.0, idles_join xs ys (after x c) h.1 k)

pub placed_idles : (drive cylinder : ℕ) (s t : Box) (p : Placed drive cylinder s t)
    → Idles p.made.calls s.controller
unfolding Idles
placed_idles drive cylinder s t p =
    rw p.calls (inl refl, (inl refl, rests_idle p.later _ p.later_rests))

-- the three parts of a request
module _ (pass : Pass) (drive : ℕ) (g : Geometry) (place : Place) (s p : Box)
    (placed : Placed drive place.cylinder s p) (e : Controller) (begun : Begun pass drive g place p.controller e)
    (n : ℕ) (u : Box) (during : List Call) (course : Course drive n (with_record e p) true u during)
    (said : u.controller.phase ≡ Answering true) (left : u.controller.bytes.left ≡ 7) where
  abbrev first : List Call
  first = placed.made.calls ++ begun.calls

  pub begins : run_calls first s.controller ≡ e
  begins =
      run_join placed.made.calls begun.calls s.controller
      ∙ ap (run_calls begun.calls) (made_runs placed.made) ∙ begun.leads

  pub begins_box : box_after first s ≡ with_record e p
  begins_box =
      after_join placed.made.calls begun.calls s ∙ ap (box_after begun.calls) placed.made.leads
      ∙ all_boxes begun.calls p begun.tickless ∙ ap (λ (x : Controller). with_record x p) begun.leads

  pub goes : run_calls during e ≡ u.controller
  goes = course_runs drive n (with_record e p) true u during course

  pub does : Does u.controller (status_from 7 0 (replicate 7 0) u.controller).controller
  does =
      status_does u.controller course.lit.quiet (said_free u.controller course.lit.quiet said) said left

  unfoldable pub parts : Calls pass drive g place s
      (with_record (status_from 7 0 (replicate 7 0) u.controller).controller u)
      (Ended (ending_of (status_from 7 0 (replicate 7 0) u.controller).bytes))
  parts = record {
    before = first;
    during = during;
    behind = does.calls;
    handed =
        handed_join first (during ++ does.calls) s
        (handed_join placed.made.calls begun.calls s placed.made.handed
        (rw placed.made.leads (all_handed begun.calls p begun.tickless)))
        (rw begins_box
        (handed_join during does.calls (with_record e p) course.handed
        (rw course.leads (all_handed does.calls u does.tickless))));
    leads =
        after_join first (during ++ does.calls) s ∙ ap (box_after (during ++ does.calls)) begins_box
        ∙ after_join during does.calls (with_record e p) ∙ ap (box_after does.calls) course.leads
        ∙ all_boxes does.calls u does.tickless ∙ ap (λ (x : Controller). with_record x u) does.leads;
    still =
        idles_join placed.made.calls begun.calls s.controller
        (placed_idles drive place.cylinder s p placed)
        (rw (made_runs placed.made) (rests_idle begun.calls p.controller begun.rests));
    idle = rw (begins, goes) (rests_idle does.calls u.controller does.rests);
    quiet = rw begins begun.lit.quiet;
    starts = rw begins begun.starts;
    head = rw begins begun.head;
    motor = rw begins begun.lit.motor;
    its = rw begins course.its;
    ends = rw (begins, goes) said;
    reply_is =
        rw (begins, goes)
        (ap (λ (l : List ℕ). Ended (ending_of l))
        (status_bytes u.controller course.lit.quiet (said_free u.controller course.lit.quiet said) said
        left));
  }
