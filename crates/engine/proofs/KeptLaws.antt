-- What a tick of a command keeps to (specs/Kept): of each definition, then of `begin_of` and `go_on_of`, for any record
-- at all.
-- Assumes nothing.
use Rattle.std.specs.Prelude.{None, Result, Ok, Err}
use Prim.Native.Nat.{ℕ, ◌+◌, ◌≤◌}
use native.Mathlib.Omega.{arith}
use mathlib.Core.Bool.{Bool, true, false, ◌&&◌, not, true≢false, false≢true}
use mathlib.Core.List.{List}
use mathlib.Core.Path.{◌≡◌, refl, sym, ap, ◌∙◌}
use lib.Dec.{eqb, leb, ltb}
use borrow.Author.Tests.{leb-false}
use Rattle.image.proofs.TestLaws.{by_test}
use Rattle.image.specs.Disk.{Disk}
use Rattle.image.specs.Lent.{Effect}
use Rattle.image.specs.declared.mark.Mark.{Mark}
use Rattle.image.specs.declared.mark.Mark.TheVariants.{NoId, Data, NoData}
use Rattle.image.specs.declared.slot.Id.{Id}
use Rattle.image.specs.declared.layout.Geometry.{Geometry}
use Rattle.image.specs.Layout.{offset_of, track_at}
use Rattle.chip.specs.declared.fifo.Fifo.{Fifo}
use Rattle.chip.specs.declared.next.Next.{Next}
use Rattle.chip.specs.declared.next.Next.TheVariants.{Ended, PastEot, OtherSide, SameSide}
use Rattle.chip.specs.Fifo.{FitsFifo, emptied, full_of, opened_of, shut}
use Rattle.chip.proofs.FifoLaws.{fits_emptied, fits_filled, fits_drawn, fits_opened, fits_shut}
use Rattle.engine.specs.declared.first.Fault.{Fault}
use Rattle.engine.specs.declared.flow.Flow.{Flow}
use Rattle.engine.specs.declared.flow.Flow.TheVariants.{Quiet, FromHost}
use Rattle.sectors.specs.declared.order.Job.{Job}
use Rattle.sectors.specs.declared.order.Job.TheVariants.{Identify, Move, Format}
use Rattle.sectors.specs.declared.order.Order.{Order}
use Rattle.sectors.specs.declared.order.Pass.{Pass}
use Rattle.sectors.specs.declared.order.Pass.TheVariants.{Read, Write}
use Rattle.sectors.specs.declared.order.Plan.{Plan}
use Rattle.sectors.specs.declared.order.Transfer.{Transfer}
use Rattle.sectors.specs.declared.work.Form.{Form}
use Rattle.sectors.specs.declared.work.Form.TheVariants.{Addressing, Filling, Clearing}
use Rattle.sectors.specs.declared.work.Form.TheVariants as form
use Rattle.sectors.specs.declared.work.Search.{Search}
use Rattle.sectors.specs.declared.work.Sector.{Sector}
use Rattle.sectors.specs.declared.work.Site.{Site}
use Rattle.sectors.specs.declared.work.Stage.{Stage}
use Rattle.sectors.specs.declared.work.Stage.TheVariants.{Searching, Turning, Reading, Draining, Awaiting, Storing}
use Rattle.sectors.specs.declared.work.Step.{Step}
use Rattle.sectors.specs.declared.work.Task.{Task}
use Rattle.sectors.specs.declared.work.Then.TheVariants.{Ends, Works}
use Rattle.sectors.specs.declared.work.Verdict.{Verdict}
use Rattle.sectors.specs.declared.work.Work.{Work}
use Rattle.sectors.specs.declared.work.Work.TheVariants.{Identifying, Moving, Formatting}
use Rattle.engine.specs.First.{pass_writes, task_of, moving_of, start_job, entered_of, begin_of}
use Rattle.sectors.specs.Follow.{fresh_at, followed_of, follow_of, turn_of}
use Rattle.engine.specs.Format.{format_end, forms_of, form_wait, form_await, address_put, address_of, clear_on, formed_of, fill_of, clear_of, form_of}
use Rattle.engine.specs.Kept.{suits, suited, job_flow, then_wait, then_flow, then_drive, then_fifo, store_place, Kept}
use Rattle.sectors.specs.Read.{overrun, sector_over, read_on, read_of, drained_of, drain_of}
use Rattle.engine.specs.ReadId.{no_id_of, no_id_here, id_here, identified_of, identify_of}
use Rattle.sectors.specs.Result.{end_of, late_end, move_end, move_fails, moves_of, tardy}
use Rattle.sectors.specs.Search.{matches, second_pass, not_found, missed_of, with_other, read_found, data_found, bare_found, looked_of, search_of}
use Rattle.engine.specs.Step.{lost_of, stage_of, work_step, go_on_of, site_of, pass_flow, from_host, flow_of, wait_of, drive_of, stage_wait}
use Rattle.sectors.specs.Track.{has_track, stays_of, sector_bytes, data_place, mark_place}
use Rattle.sectors.specs.Write.{underrun, await_of, put_of, dry_of, written_of, store_of}

-- a pass from the host may store
may_store : (p : Pass) (e : Effect) → pass_writes p ≡ true → from_host (pass_flow p) ≡ false → e ≡ None
may_store Read e w h = absurd (false≢true w)
may_store Write e w h = absurd (true≢false h)

-- no mark and no byte of a sector stands in the header
mark_behind : (site : Site) (head slot : ℕ) → 13 ≤ mark_place site head slot
unfolding mark_place offset_of track_at
mark_behind site head slot = omega arith

data_behind : (site : Site) (head slot done : ℕ) → 13 ≤ data_place site head slot done
unfolding data_place
data_behind site head slot done = omega (arith, mark_behind site head slot)

module _ (efifo : Bool) (f : Fifo) (ok : Bool) where
  abbrev Moved : Site → Task → Step → Type 0
  Moved site task s = Kept efifo f ok (pass_flow task.transfer.pass) site.drive s

  abbrev Formed : Site → Step → Type 0
  Formed site s = Kept efifo f ok FromHost site.drive s

  end_kept : (flow : Flow) (at : ℕ) (normal : Bool) (drive side st1 st2 : ℕ) (id : Id) (effect : Effect)
      → (ok ≡ true → from_host flow ≡ false → effect ≡ None)
      → 13 ≤ store_place effect
      → Kept efifo f ok flow at (end_of normal drive side st1 st2 id effect)
  unfolding end_of
  end_kept flow at normal drive side st1 st2 id effect h b = record {
    wait = omega arith;
    over = refl;
    fits = λ p. fits_emptied efifo;
    stores = h;
    behind = b;
    stage = λ o. refl;
    way = refl;
    place = refl;
  }

  module _ (site : Site) (task : Task) where
    move_end_kept : (normal : Bool) (st1 st2 : ℕ) (id : Id) (effect : Effect)
        → (ok ≡ true → from_host (pass_flow task.transfer.pass) ≡ false → effect ≡ None)
        → 13 ≤ store_place effect
        → Moved site task (move_end normal st1 st2 id effect site task)
    unfolding move_end
    move_end_kept normal st1 st2 id effect h b = end_kept _ _ normal _ _ _ _ id effect h b

    fails_kept : (st1 st2 : ℕ) → Moved site task (move_fails st1 st2 site task)
    unfolding move_fails
    fails_kept st1 st2 = move_end_kept false st1 st2 task.id None (λ o h. refl) (omega arith)

    -- 02 2026-02
    late_end_kept : (effect : Effect)
        → (ok ≡ true → from_host (pass_flow task.transfer.pass) ≡ false → effect ≡ None)
        → 13 ≤ store_place effect
        → Moved site task (late_end effect site task)
    unfolding late_end move_end
    late_end_kept effect h b = end_kept _ _ false _ _ _ _ task.id effect h b

    moves_kept : (stage : Stage) (fifo : Fifo) (effect : Effect)
        → stage_wait stage ≤ 63
        → (ok ≡ true → suits task.transfer.pass stage ≡ true)
        → (FitsFifo efifo f → FitsFifo efifo fifo)
        → (ok ≡ true → from_host (pass_flow task.transfer.pass) ≡ false → effect ≡ None)
        → 13 ≤ store_place effect
        → Moved site task (moves_of stage site task fifo effect)
    moves_kept stage fifo effect w s p h b = record {
      wait = w;
      over = refl;
      fits = p;
      stores = h;
      behind = b;
      stage = s;
      way = refl;
      place = refl;
    }

    -- 01 Next
    followed_kept : (n : Next) (slot : ℕ) (fifo : Fifo) (effect : Effect)
        → (FitsFifo efifo f → FitsFifo efifo fifo)
        → (ok ≡ true → from_host (pass_flow task.transfer.pass) ≡ false → effect ≡ None)
        → 13 ≤ store_place effect
        → Moved site task (followed_of n slot site task fifo effect)
    unfolding followed_of
    followed_kept (Ended id) slot fifo effect p h b = move_end_kept true 0 0 id effect h b
    followed_kept (PastEot id) slot fifo effect p h b = move_end_kept false 0x80 0 id effect h b
    followed_kept (OtherSide id) slot fifo effect p h b = record {
      wait = omega arith;
      over = refl;
      fits = p;
      stores = h;
      behind = b;
      stage = λ o. refl;
      way = refl;
      place = refl;
    }
    followed_kept (SameSide id) slot fifo effect p h b = record {
      wait = omega arith;
      over = refl;
      fits = p;
      stores = h;
      behind = b;
      stage = λ o. refl;
      way = refl;
      place = refl;
    }

    follow_kept : (slot : ℕ) (tc : Bool) (fifo : Fifo) (effect : Effect)
        → (FitsFifo efifo f → FitsFifo efifo fifo)
        → (ok ≡ true → from_host (pass_flow task.transfer.pass) ≡ false → effect ≡ None)
        → 13 ≤ store_place effect
        → Moved site task (follow_of slot tc site task fifo effect)
    unfolding follow_of
    follow_kept slot tc fifo effect p h b = followed_kept _ slot fifo effect p h b

    turn_kept : (slot head : ℕ) → Moved site task (turn_of slot site task head f)
    unfolding turn_of
    turn_kept slot head =
        by_test (has_track site.disk head site.side) (Moved site task) _ _
        (λ t. moves_kept (Searching (fresh_at slot)) f None (omega arith) (λ o. refl) (λ p. p) (λ o h. refl)
        (omega arith))
        (λ t. fails_kept 1 0)

    -- 01 Search
    not_found_kept : (look : Search) → Moved site task (not_found look site task)
    unfolding not_found
    not_found_kept look = by_test look.met (Moved site task) _ _ (λ t. fails_kept _ _) (λ t. fails_kept _ _)

    missed_kept : (look : Search) → Moved site task (missed_of look site task f)
    unfolding missed_of
    missed_kept look =
        by_test (second_pass look.slot site.disk.slots look.passes) (Moved site task) _ _
        (λ t. not_found_kept look)
        (λ t. moves_kept (Searching _) f None (omega arith) (λ o. refl) (λ p. p) (λ o h. refl) (omega arith))

    bare_found_kept : (p : Pass) → task.transfer.pass ≡ p → (slot : ℕ)
        → Moved site task (bare_found p slot site task f)
    unfolding bare_found
    bare_found_kept Read e slot = fails_kept 1 1
    bare_found_kept Write e slot =
        moves_kept (Awaiting slot 0) f None (omega arith) (λ o. ap pass_writes e) (λ p. p) (λ o h. refl) (omega arith)

  module _ (site : Site) (task : Task) where
    read_found_kept : (other broken : Bool) (slot : ℕ) → not (pass_writes task.transfer.pass) ≡ true
        → Moved site task (read_found other broken slot site task f)
    unfolding read_found
    read_found_kept other broken slot e =
        by_test (other && task.transfer.sk) (Moved site task) _ _
        (λ t. follow_kept site (with_other other task) slot f.tc f None (λ p. p) (λ o h. refl) (omega arith))
        (λ t. moves_kept site (with_other other task) (Reading _ 0) f None (omega arith) (λ o. e) (λ p. p)
        (λ o h. refl) (omega arith))

    data_found_kept : (p : Pass) → task.transfer.pass ≡ p → (deleted broken : Bool) (slot : ℕ)
        → Moved site task (data_found p deleted broken slot site task f)
    unfolding data_found
    data_found_kept Read e deleted broken slot = read_found_kept _ broken slot (ap (λ (q : Pass). not (pass_writes q)) e)
    data_found_kept Write e deleted broken slot =
        moves_kept site task (Awaiting slot 0) f None (omega arith) (λ o. ap pass_writes e) (λ p. p) (λ o h. refl)
        (omega arith)

    looked_kept : (m : Mark) (id : Id) (look : Search) → Moved site task (looked_of m id look site task f)
    unfolding looked_of
    looked_kept NoId id look = missed_kept site task look
    looked_kept (Data deleted broken) id look =
        by_test (matches id task.id site.disk.n) (Moved site task) _ _
        (λ t. data_found_kept task.transfer.pass refl deleted broken look.slot)
        (λ t. missed_kept site task _)
    looked_kept NoData id look =
        by_test (matches id task.id site.disk.n) (Moved site task) _ _
        (λ t. bare_found_kept site task task.transfer.pass refl look.slot)
        (λ t. missed_kept site task _)

    search_kept : (look : Search) (head : ℕ) (img : List ℕ) → Moved site task (search_of look site task head img f)
    unfolding search_of
    search_kept look head img = looked_kept _ _ look

    -- 01 Read
    read_on_kept : (sector : Sector) (done : ℕ) (fifo : Fifo)
        → (ok ≡ true → not (pass_writes task.transfer.pass) ≡ true) → (FitsFifo efifo f → FitsFifo efifo fifo)
        → Moved site task (read_on sector done site task fifo)
    unfolding read_on
    read_on_kept sector done fifo s p =
        by_test (sector_over site done) (Moved site task) _ _
        (λ t. moves_kept site task (Draining sector 0) fifo None (omega arith) s p (λ o h. refl) (omega arith))
        (λ t. moves_kept site task (Reading sector (done + 1)) fifo None (omega arith) s p (λ o h. refl)
        (omega arith))

    overrun_kept : (sector : Sector) (done : ℕ)
        → (ok ≡ true → not (pass_writes task.transfer.pass) ≡ true)
        → Moved site task (overrun sector done site task)
    unfolding overrun read_on
    overrun_kept sector done s =
        by_test (sector_over site done) (Moved site task) _ _
        (λ t. moves_kept site (tardy task) (Draining sector 0) shut None (omega arith) s (λ p. fits_shut efifo)
        (λ o h. refl) (omega arith))
        (λ t. moves_kept site (tardy task) (Reading sector (done + 1)) shut None (omega arith) s
        (λ p. fits_shut efifo) (λ o h. refl) (omega arith))

    read_kept : (sector : Sector) (done head : ℕ) (img : List ℕ) (fifothr : ℕ)
        → (ok ≡ true → not (pass_writes task.transfer.pass) ≡ true)
        → Moved site task (read_of sector done site task head img f efifo fifothr)
    unfolding read_of
    read_kept sector done head img fifothr s =
        by_test f.tc (Moved site task) _ _
        (λ t. read_on_kept sector done f s (λ p. p))
        (λ t. by_test (full_of efifo f) (Moved site task) _ _
        (λ u. overrun_kept sector done s)
        (λ u. read_on_kept sector done _ s (λ p. fits_filled efifo fifothr _ _ f p)))

    drained_kept : (sector : Sector) → Moved site task (drained_of sector site task f)
    unfolding drained_of
    drained_kept sector =
        by_test sector.broken (Moved site task) _ _
        (λ t. fails_kept site task 0x20 0x20)
        (λ t. by_test task.late (Moved site task) _ _
        (λ l. late_end_kept site task None (λ o h. refl) (omega arith))
        (λ l. by_test sector.other (Moved site task) _ _
        (λ u. move_end_kept site task true 0 0 task.id None (λ o h. refl) (omega arith))
        (λ u. follow_kept site task sector.slot f.tc f None (λ p. p) (λ o h. refl) (omega arith))))

    drain_kept : (sector : Sector) (looks : ℕ) → (ok ≡ true → not (pass_writes task.transfer.pass) ≡ true)
        → Moved site task (drain_of sector looks site task f)
    unfolding drain_of
    drain_kept sector looks s =
        by_test (eqb f.count 0) (Moved site task) _ _
        (λ t. drained_kept sector)
        (λ t. by_test (leb 63 looks) (Moved site task) _ _
        (λ u. late_end_kept site task None (λ o h. refl) (omega arith))
        (λ u. moves_kept site task (Draining sector (looks + 1)) f None
        (omega (arith, leb-false 63 looks u)) s (λ p. p) (λ o h. refl) (omega arith)))

    -- 01 Write
    await_kept : (slot wait head : ℕ) → (ok ≡ true → pass_writes task.transfer.pass ≡ true)
        → Moved site task (await_of slot wait site task head f)
    unfolding await_of
    await_kept slot wait head s =
        by_test (eqb f.count 0) (Moved site task) _ _
        (λ t. by_test (leb 63 wait) (Moved site task) _ _
        (λ u. late_end_kept site task None (λ o h. refl) (omega arith))
        (λ u. moves_kept site task (Awaiting slot (wait + 1)) f None
        (omega (arith, leb-false 63 wait u)) s (λ p. p) (λ o h. refl) (omega arith)))
        (λ t. moves_kept site task (Storing slot 0) f _ (omega arith) s (λ p. p)
        (λ o. may_store task.transfer.pass _ (s o)) (mark_behind site head slot))

    put_kept : (byte slot done head : ℕ) (fifo : Fifo)
        → (ok ≡ true → pass_writes task.transfer.pass ≡ true) → (FitsFifo efifo f → FitsFifo efifo fifo)
        → Moved site task (put_of byte slot done site task head fifo)
    unfolding put_of
    put_kept byte slot done head fifo s p =
        moves_kept site task (Storing slot (done + 1)) fifo _ (omega arith) s p
        (λ o. may_store task.transfer.pass _ (s o)) (data_behind site head slot done)

    dry_kept : (slot done head : ℕ) → (ok ≡ true → pass_writes task.transfer.pass ≡ true)
        → Moved site task (dry_of slot done site task head f)
    unfolding dry_of underrun put_of
    dry_kept slot done head s =
        by_test f.tc (Moved site task) _ _ (λ t. put_kept 0 slot done head f s (λ p. p))
        (λ t. moves_kept site (tardy task) (Storing slot (done + 1)) shut _ (omega arith) s (λ p. fits_shut efifo)
        (λ o. may_store task.transfer.pass _ (s o)) (data_behind site head slot done))

    written_kept : (slot head : ℕ) → (ok ≡ true → pass_writes task.transfer.pass ≡ true)
        → Moved site task (written_of slot site task head f)
    unfolding written_of
    written_kept slot head s =
        by_test task.late (Moved site task) _ _
        (λ t. late_end_kept site task _ (λ o. may_store task.transfer.pass _ (s o)) (mark_behind site head slot))
        (λ t. follow_kept site task slot _ f _ (λ p. p)
        (λ o. may_store task.transfer.pass _ (s o)) (mark_behind site head slot))

    store_kept : (slot done head fifothr : ℕ) → (ok ≡ true → pass_writes task.transfer.pass ≡ true)
        → Moved site task (store_of slot done site task head f efifo fifothr)
    unfolding store_of
    store_kept slot done head fifothr s =
        by_test (leb (sector_bytes site) done) (Moved site task) _ _
        (λ t. written_kept slot head s)
        (λ t. by_test (eqb f.count 0) (Moved site task) _ _
        (λ u. dry_kept slot done head s)
        (λ u. put_kept _ slot done head _ s (λ p. fits_drawn efifo fifothr f p)))

  -- 01 Read ID
  module _ (site : Site) where
    no_id_kept : Kept efifo f ok Quiet site.drive (no_id_of site)
    unfolding no_id_of
    no_id_kept = end_kept _ _ false _ _ 1 0 _ None (λ o h. refl) (omega arith)

    no_id_here_kept : (slot passes : ℕ) → Kept efifo f ok Quiet site.drive (no_id_here slot passes site f)
    unfolding no_id_here
    no_id_here_kept slot passes =
        by_test (second_pass slot site.disk.slots passes) (Kept efifo f ok Quiet site.drive) _ _
        (λ t. no_id_kept)
        (λ t. record {
          wait = omega arith;
          over = refl;
          fits = λ p. p;
          stores = λ o h. refl;
          behind = omega arith;
          stage = λ o. refl;
          way = refl;
          place = refl;
        })

    id_here_kept : (id : Id) → Kept efifo f ok Quiet site.drive (id_here id site)
    unfolding id_here
    id_here_kept id = end_kept _ _ true _ _ 0 0 id None (λ o h. refl) (omega arith)

    identified_kept : (m : Mark) (id : Id) (slot passes : ℕ)
        → Kept efifo f ok Quiet site.drive (identified_of m id slot passes site f)
    unfolding identified_of
    identified_kept NoId id slot passes = no_id_here_kept slot passes
    identified_kept (Data deleted broken) id slot passes = id_here_kept id
    identified_kept NoData id slot passes = id_here_kept id

    identify_kept : (slot passes head : ℕ) (img : List ℕ)
        → Kept efifo f ok Quiet site.drive (identify_of slot passes site head img f)
    unfolding identify_of
    identify_kept slot passes head img = identified_kept _ _ slot passes

  -- 01 Format
  module _ (site : Site) (plan : Plan) (head : ℕ) where
    format_end_kept : (normal : Bool) (st1 done : ℕ) (effect : Effect) → 13 ≤ store_place effect
        → Formed site (format_end normal st1 done effect site plan head)
    unfolding format_end
    format_end_kept normal st1 done effect b = end_kept _ _ normal _ _ st1 0 _ effect (λ o h. absurd (true≢false h)) b

    forms_kept : (form : Form) (fifo : Fifo) (effect : Effect)
        → form_wait form ≤ 63 → (FitsFifo efifo f → FitsFifo efifo fifo) → 13 ≤ store_place effect
        → Formed site (forms_of form site plan fifo effect)
    forms_kept form fifo effect w p b = record {
      wait = w;
      over = refl;
      fits = p;
      stores = λ o h. absurd (true≢false h);
      behind = b;
      stage = λ o. refl;
      way = refl;
      place = refl;
    }

    form_await_kept : (slot wait : ℕ) → Formed site (form_await slot wait site plan head f)
    unfolding form_await
    form_await_kept slot wait =
        by_test (eqb f.count 0) (Formed site) _ _
        (λ t. by_test (leb 63 wait) (Formed site) _ _
        (λ u. format_end_kept false 0x10 slot None (omega arith))
        (λ u. forms_kept (form.Awaiting slot (wait + 1)) f None (omega (arith, leb-false 63 wait u)) (λ p. p)
        (omega arith)))
        (λ t. forms_kept (Addressing slot 0) f _ (omega arith) (λ p. p) (mark_behind site head slot))

    address_put_kept : (slot k : ℕ) (fifo : Fifo) (effect : Effect) → (FitsFifo efifo f → FitsFifo efifo fifo)
        → 13 ≤ store_place effect
        → Formed site (address_put slot k site plan fifo effect)
    unfolding address_put
    address_put_kept slot k fifo effect p b =
        by_test (leb 3 k) (Formed site) _ _
        (λ t. forms_kept (Filling slot 0) fifo effect (omega arith) p b)
        (λ t. forms_kept (Addressing slot (k + 1)) fifo effect (omega arith) p b)

    address_kept : (slot k fifothr : ℕ) → Formed site (address_of slot k site plan head f efifo fifothr)
    unfolding address_of
    address_kept slot k fifothr =
        by_test (eqb f.count 0) (Formed site) _ _
        (λ t. format_end_kept false 0x10 slot None (omega arith))
        (λ t. address_put_kept slot k _ _ (λ p. fits_drawn efifo fifothr f p) (omega (
          arith,
          mark_behind site head slot,
        )))

    clear_on_kept : (slot : ℕ) (effect : Effect) → 13 ≤ store_place effect
        → Formed site (clear_on slot site plan head f effect)
    unfolding clear_on
    clear_on_kept slot effect b =
        by_test (ltb (slot + 1) site.disk.slots) (Formed site) _ _
        (λ t. forms_kept (Clearing (slot + 1)) f effect (omega arith) (λ p. p) b)
        (λ t. format_end_kept true 0 plan.sc effect b)

    formed_kept : (slot : ℕ) (effect : Effect) → 13 ≤ store_place effect
        → Formed site (formed_of slot site plan head f effect)
    unfolding formed_of
    formed_kept slot effect b =
        by_test (ltb (slot + 1) plan.sc) (Formed site) _ _
        (λ t. forms_kept (form.Awaiting (slot + 1) 0) f effect (omega arith) (λ p. p) b)
        (λ t. clear_on_kept slot effect b)

    fill_kept : (slot done fifothr : ℕ) → Formed site (fill_of slot done site plan head f efifo fifothr)
    unfolding fill_of
    fill_kept slot done fifothr =
        by_test (leb (sector_bytes site) done) (Formed site) _ _
        (λ t. formed_kept slot _ (mark_behind site head slot))
        (λ t. forms_kept (Filling slot (done + 1)) f _ (omega arith) (λ p. p) (data_behind site head slot done))

    clear_kept : (slot : ℕ) → Formed site (clear_of slot site plan head f)
    unfolding clear_of
    clear_kept slot = clear_on_kept slot _ (mark_behind site head slot)

    form_kept : (form : Form) (fifothr : ℕ) → Formed site (form_of form site plan head f efifo fifothr)
    unfolding form_of
    form_kept (form.Awaiting slot wait) fifothr = form_await_kept slot wait
    form_kept (Addressing slot k) fifothr = address_kept slot k fifothr
    form_kept (Filling slot done) fifothr = fill_kept slot done fifothr
    form_kept (Clearing slot) fifothr = clear_kept slot

stage_kept : (stage : Stage) (site : Site) (task : Task) (head : ℕ) (img : List ℕ) (fifo : Fifo) (efifo : Bool)
    (fifothr : ℕ)
    → Moved efifo fifo (suits task.transfer.pass stage) site task (stage_of stage site task head img fifo efifo
    fifothr)
unfolding stage_of
stage_kept (Searching look) site task head img fifo efifo fifothr = search_kept efifo fifo true site task look head img
stage_kept (Turning slot) site task head img fifo efifo fifothr = turn_kept efifo fifo true site task slot head
stage_kept (Reading sector done) site task head img fifo efifo fifothr =
    read_kept efifo fifo _ site task sector done head img fifothr (λ o. o)
stage_kept (Draining sector looks) site task head img fifo efifo fifothr =
    drain_kept efifo fifo _ site task sector looks (λ o. o)
stage_kept (Awaiting slot wait) site task head img fifo efifo fifothr =
    await_kept efifo fifo _ site task slot wait head (λ o. o)
stage_kept (Storing slot done) site task head img fifo efifo fifothr =
    store_kept efifo fifo _ site task slot done head fifothr (λ o. o)

work_kept : (work : Work) (head : ℕ) (img : List ℕ) (fifo : Fifo) (efifo : Bool) (fifothr : ℕ)
    → Kept efifo fifo (suited work) (flow_of work) (drive_of work) (work_step work head img fifo efifo fifothr)
unfolding work_step
work_kept (Identifying site slot passes) head img fifo efifo fifothr =
    identify_kept efifo fifo true site slot passes head img
work_kept (Moving site task stage) head img fifo efifo fifothr = stage_kept stage site task head img fifo efifo fifothr
work_kept (Formatting site plan form) head img fifo efifo fifothr =
    form_kept efifo fifo true site plan head form fifothr

lost_kept : (work : Work) (head : ℕ) (fifo : Fifo) (efifo : Bool)
    → Kept efifo fifo (suited work) (flow_of work) (drive_of work) (lost_of work head)
unfolding lost_of
lost_kept (Identifying site slot passes) head fifo efifo = no_id_kept efifo fifo true site
lost_kept (Moving site task stage) head fifo efifo = fails_kept efifo fifo _ site task 1 0
lost_kept (Formatting site plan form) head fifo efifo = format_end_kept efifo fifo true site plan head false 1 _
    None (omega arith)

-- a tick after the first, of any work
pub go_on_kept : (work : Work) (disk : Disk) (head : ℕ) (img : List ℕ) (fifo : Fifo) (efifo : Bool) (fifothr : ℕ)
    → Kept efifo fifo (suited work) (flow_of work) (drive_of work) (go_on_of work disk head img fifo efifo fifothr)
unfolding go_on_of
go_on_kept work disk head img fifo efifo fifothr =
    by_test (stays_of disk (site_of work).disk) (Kept efifo fifo (suited work) (flow_of work) (drive_of work)) _ _
    (λ t. work_kept work head img fifo efifo fifothr)
    (λ t. lost_kept work head fifo efifo)

moving_kept : (p : Pass) (transfer : Transfer) (id : Id) (site : Site) (fifo : Fifo) (efifo : Bool)
    → Kept efifo fifo true (pass_flow transfer.pass) site.drive (moving_of p transfer id site fifo)
unfolding moving_of
moving_kept Read transfer id site fifo efifo =
    moves_kept efifo fifo true site (task_of transfer id) (Searching (fresh_at 0)) fifo None
    (omega arith) (λ o. refl) (λ p. p) (λ o h. refl) (omega arith)
moving_kept Write transfer id site fifo efifo =
    moves_kept efifo fifo true site (task_of transfer id) (Searching (fresh_at 0)) (opened_of fifo) None
    (omega arith) (λ o. refl) (λ p. fits_opened efifo fifo p) (λ o h. refl) (omega arith)

start_kept : (job : Job) (site : Site) (fifo : Fifo) (efifo : Bool)
    → Kept efifo fifo true (job_flow job) site.drive (start_job job site fifo)
unfolding start_job
start_kept Identify site fifo efifo = record {
  wait = omega arith;
  over = refl;
  fits = λ p. p;
  stores = λ o h. refl;
  behind = omega arith;
  stage = λ o. refl;
  way = refl;
  place = refl;
}
start_kept (Move transfer id) site fifo efifo = moving_kept transfer.pass transfer id site fifo efifo
start_kept (Format plan) site fifo efifo =
    forms_kept efifo fifo true site plan 0 (form.Awaiting 0 0) (opened_of fifo) None (omega arith)
    (λ p. fits_opened efifo fifo p) (omega arith)

entered_kept : (gate : Result Geometry Fault) (job : Job) (drive side head : ℕ) (fifo : Fifo) (efifo : Bool)
    → Kept efifo fifo true (job_flow job) drive (entered_of gate job drive side head fifo)
unfolding entered_of
entered_kept (Err fault) job drive side head fifo efifo =
    end_kept efifo fifo true _ _ false drive side _ 0 _ None (λ o h. refl) (omega arith)
entered_kept (Ok g) job drive side head fifo efifo = start_kept job _ fifo efifo

-- the first tick, of any order
pub begin_kept : (order : Order) (disk : Disk) (head : ℕ) (fifo : Fifo) (efifo : Bool)
    → Kept efifo fifo true (job_flow order.job) order.drive (begin_of order disk head fifo)
unfolding begin_of
begin_kept order disk head fifo efifo = entered_kept _ order.job order.drive order.side head fifo efifo

-- 01 Result: every end empties the FIFO
pub kept_end_empties : (efifo : Bool) (f : Fifo) (ok : Bool) (flow : Flow) (drive : ℕ) (s : Step) (v : Verdict)
    → Kept efifo f ok flow drive s → s.then ≡ Ends v → s.fifo ≡ emptied
kept_end_empties efifo f ok flow drive s v k e = k.over ∙ ap (then_fifo s.fifo) e

-- and of the work that goes on: 01 Refusals 4, a wait of 64 at most; its stage suits, its direction and drive are as
-- they were
module _ (efifo : Bool) (f : Fifo) (ok : Bool) (flow : Flow) (drive : ℕ) (s : Step) (w : Work)
    (k : Kept efifo f ok flow drive s) (e : s.then ≡ Works w) where
  pub kept_wait : wait_of w ≤ 64
  kept_wait = omega (arith, k.wait, ap then_wait e)

  pub kept_flow : flow_of w ≡ flow
  kept_flow = sym (ap (then_flow flow) e) ∙ k.way

  pub kept_drive : drive_of w ≡ drive
  kept_drive = sym (ap (then_drive drive) e) ∙ k.place
