-- What a tick of a command leaves of the FIFO's array and count, and how far it counts bytes: of any work at all.
-- Assumes nothing.
use Rattle.std.specs.Prelude.{None, Some}
use Prim.Native.Nat.{ℕ, ◌+◌, ◌≤◌}
use native.Mathlib.Omega.{arith}
use mathlib.Core.Bool.{Bool, true, false, not, ◌&&◌, ◌||◌}
use mathlib.Core.List.{List}
use mathlib.Core.Path.{◌≡◌, refl, ◌∙◌}
use lib.Dec.{eqb, leb, ltb}
use lib.ListN.{length, length-set, length-append, length-drop}
use borrow.Author.Tests.{leb-false}
use Rattle.image.proofs.LayoutLaws.{size_le}
use Rattle.image.proofs.TestLaws.{by_test, or_right}
use Rattle.image.specs.Disk.{Disk}
use Rattle.image.specs.Lent.{Effect}
use Rattle.image.specs.declared.mark.Mark.{Mark}
use Rattle.image.specs.declared.mark.Mark.TheVariants.{NoId, Data, NoData}
use Rattle.image.specs.declared.slot.Id.{Id}
use Rattle.chip.specs.declared.fifo.Fifo.{Fifo}
use Rattle.chip.specs.declared.next.Next.{Next}
use Rattle.chip.specs.declared.next.Next.TheVariants.{Ended, PastEot, OtherSide, SameSide}
use Rattle.chip.specs.Fifo.{capacity_of, emptied, full_of, popped_of, filled_of, taken_of, opened_of, given_of, drawn_of, shut}
use Rattle.sectors.specs.declared.order.Job.{Job}
use Rattle.sectors.specs.declared.order.Job.TheVariants.{Identify, Move, Format}
use Rattle.sectors.specs.declared.order.Order.{Order}
use Rattle.sectors.specs.declared.order.Pass.{Pass}
use Rattle.sectors.specs.declared.order.Pass.TheVariants.{Read, Write}
use Rattle.sectors.specs.declared.order.Plan.{Plan}
use Rattle.sectors.specs.declared.order.Transfer.{Transfer}
use Rattle.sectors.specs.declared.work.Form.{Form}
use Rattle.sectors.specs.declared.work.Form.TheVariants.{Addressing, Filling, Clearing}
use Rattle.sectors.specs.declared.work.Form.TheVariants as form
use Rattle.sectors.specs.declared.work.Search.{Search}
use Rattle.sectors.specs.declared.work.Sector.{Sector}
use Rattle.sectors.specs.declared.work.Site.{Site}
use Rattle.sectors.specs.declared.work.Stage.{Stage}
use Rattle.sectors.specs.declared.work.Stage.TheVariants.{Searching, Turning, Reading, Draining, Awaiting, Storing}
use Rattle.sectors.specs.declared.work.Step.{Step}
use Rattle.sectors.specs.declared.work.Task.{Task}
use Rattle.sectors.specs.declared.work.Then.{Then}
use Rattle.sectors.specs.declared.work.Then.TheVariants.{Ends, Works}
use Rattle.sectors.specs.declared.work.Work.{Work}
use Rattle.sectors.specs.declared.work.Work.TheVariants.{Identifying, Moving, Formatting}
use Rattle.sectors.specs.Follow.{followed_of, follow_of, turn_of}
use Rattle.sectors.specs.Read.{overrun, sector_over, read_on, read_of, drained_of, drain_of}
use Rattle.sectors.specs.Result.{end_of, late_end, move_end, move_fails}
use Rattle.sectors.specs.Search.{matches, second_pass, not_found, missed_of, read_found, data_found, bare_found, looked_of}
use Rattle.sectors.specs.Search.{search_of}
use Rattle.sectors.specs.Track.{has_track, stays_of, sector_bytes}
use Rattle.sectors.specs.Write.{underrun, await_of, put_of, dry_of, written_of, store_of}
use Rattle.engine.specs.First.{changes, misplanned, gate_of, moving_of, start_job, entered_of, begin_of}
use Rattle.engine.specs.Format.{format_end, form_await, address_put, address_of, clear_on, formed_of, fill_of, clear_of, form_of}
use Rattle.engine.specs.ReadId.{no_id_of, no_id_here, id_here, identified_of, identify_of}
use Rattle.engine.specs.Step.{site_of, lost_of, stage_of, work_step, go_on_of}
use Rattle.pack.specs.Flat.{work_flat}

-- the array keeps its sixteen, and a count within its capacity stays so
pub record Room (efifo : Bool) (f g : Fifo) : Type 0 where
  pub sixteen : length f.bytes ≡ 16 → length g.bytes ≡ 16
  pub within : f.count ≤ capacity_of efifo → g.count ≤ capacity_of efifo

pub room_same : (efifo : Bool) (f : Fifo) → Room efifo f f
room_same efifo f = record { sixteen = λ h. h; within = λ h. h }

pub room_emptied : (efifo : Bool) (f : Fifo) → Room efifo f emptied
room_emptied efifo f = record { sixteen = λ h. refl; within = λ h. omega arith }

room_shut : (efifo : Bool) (f : Fifo) → Room efifo f shut
room_shut efifo f = record { sixteen = λ h. refl; within = λ h. omega arith }

room_popped : (efifo : Bool) (f : Fifo) → Room efifo f (popped_of f)
room_popped efifo f =
    record {
      sixteen = λ h. simp (length-append, length-drop) (omega (arith, h));
      within = λ h. omega (arith, h);
    }

room_filled : (efifo : Bool) (fifothr : ℕ) (last : Bool) (byte : ℕ) (f : Fifo)
    → Room efifo f (filled_of efifo fifothr last byte f)
unfolding filled_of
room_filled efifo fifothr last byte f =
    by_test (f.tc || full_of efifo f) (Room efifo f) _ _ (λ t. room_same efifo f)
    (λ t. record {
      sixteen = λ h. length-set f.bytes f.count byte ∙ h;
      within = λ h. omega (arith, leb-false (capacity_of efifo) f.count (or_right f.tc _ t));
    })

pub room_given : (efifo tc : Bool) (byte : ℕ) (f : Fifo) → Room efifo f (given_of efifo tc byte f)
unfolding given_of
room_given efifo tc byte f =
    by_test (full_of efifo f) (Room efifo f) _ _ (λ t. record { sixteen = λ h. h; within = λ h. h })
    (λ t. record {
      sixteen = λ h. length-set f.bytes f.count byte ∙ h;
      within = λ h. omega (arith, leb-false (capacity_of efifo) f.count t);
    })

room_flagged : (efifo : Bool) (f g : Fifo) (asks tc : Bool) → Room efifo f g
    → Room efifo f (record { bytes = g.bytes; count = g.count; asks = asks; tc = tc })
room_flagged efifo f g asks tc r = record { sixteen = r.sixteen; within = r.within }

pub room_taken : (efifo tc : Bool) (f : Fifo) → Room efifo f (taken_of tc f)
unfolding taken_of
room_taken efifo tc f =
    by_test tc (Room efifo f) _ _ (λ t. room_shut efifo f)
    (λ t. room_flagged efifo f _ _ _ (room_popped efifo f))

room_drawn : (efifo : Bool) (fifothr : ℕ) (f : Fifo) → Room efifo f (drawn_of efifo fifothr f)
unfolding drawn_of
room_drawn efifo fifothr f = room_flagged efifo f _ _ _ (room_popped efifo f)

room_opened : (efifo : Bool) (f : Fifo) → Room efifo f (opened_of f)
unfolding opened_of
room_opened efifo f = room_flagged efifo f _ _ _ (room_same efifo f)

-- the bytes of a sector that are counted
abbrev pub then_done : Then → ℕ
then_done (Ends verdict) = 0
then_done (Works work) = (work_flat work).spot.done

pub record Fine (efifo : Bool) (f : Fifo) (s : Step) : Type 0 where
  pub room : Room efifo f s.fifo
  pub done : then_done s.then ≤ 1024

module _ (efifo : Bool) (f : Fifo) where
  abbrev Ok : Step → Type 0
  Ok s = Fine efifo f s

  end_fine : (normal : Bool) (drive side st1 st2 : ℕ) (id : Id) (effect : Effect)
      → Ok (end_of normal drive side st1 st2 id effect)
  unfolding end_of
  end_fine normal drive side st1 st2 id effect = record { room = room_emptied efifo f; done = omega arith }

  module _ (site : Site) (task : Task) where
    move_end_fine : (normal : Bool) (st1 st2 : ℕ) (id : Id) (effect : Effect)
        → Ok (move_end normal st1 st2 id effect site task)
    unfolding move_end
    move_end_fine normal st1 st2 id effect = end_fine normal _ _ _ _ id effect

    late_end_fine : (effect : Effect) → Ok (late_end effect site task)
    unfolding late_end move_end
    late_end_fine effect = end_fine false _ _ _ _ _ effect

    fails_fine : (st1 st2 : ℕ) → Ok (move_fails st1 st2 site task)
    unfolding move_fails
    fails_fine st1 st2 = move_end_fine false st1 st2 _ None

    followed_fine : (n : Next) (slot : ℕ) (fifo : Fifo) (effect : Effect) → Room efifo f fifo
        → Ok (followed_of n slot site task fifo effect)
    unfolding followed_of
    followed_fine (Ended id) slot fifo effect r = move_end_fine true 0 0 id effect
    followed_fine (PastEot id) slot fifo effect r = move_end_fine false 0x80 0 id effect
    followed_fine (OtherSide id) slot fifo effect r = record { room = r; done = omega arith }
    followed_fine (SameSide id) slot fifo effect r = record { room = r; done = omega arith }

    follow_fine : (slot : ℕ) (tc : Bool) (fifo : Fifo) (effect : Effect) → Room efifo f fifo
        → Ok (follow_of slot tc site task fifo effect)
    unfolding follow_of
    follow_fine slot tc fifo effect r = followed_fine _ slot fifo effect r

    turn_fine : (slot head : ℕ) → Ok (turn_of slot site task head f)
    unfolding turn_of
    turn_fine slot head =
        by_test (has_track site.disk head site.side) Ok _ _
        (λ t. record { room = room_same efifo f; done = omega arith }) (λ t. fails_fine 1 0)

    missed_fine : (look : Search) → Ok (missed_of look site task f)
    unfolding missed_of not_found
    missed_fine look =
        by_test (second_pass look.slot site.disk.slots look.passes) Ok _ _
        (λ t. by_test look.met Ok _ _ (λ u. fails_fine _ _) (λ u. fails_fine _ _))
        (λ t. record { room = room_same efifo f; done = omega arith })

    bare_found_fine : (p : Pass) (slot : ℕ) → Ok (bare_found p slot site task f)
    unfolding bare_found
    bare_found_fine Read slot = fails_fine 1 1
    bare_found_fine Write slot = record { room = room_same efifo f; done = omega arith }

  module _ (site : Site) (task : Task) where
    read_on_fine : (sector : Sector) (done : ℕ) (fifo : Fifo) → Room efifo f fifo
        → Ok (read_on sector done site task fifo)
    unfolding read_on
    read_on_fine sector done fifo r =
        by_test (sector_over site done) Ok _ _ (λ t. record { room = r; done = omega arith })
        (λ t. record {
          room = r;
          done = omega (arith, leb-false (sector_bytes site) (done + 1) t, size_le site.disk.n);
        })

  module _ (site : Site) (task : Task) where
    read_found_fine : (other broken : Bool) (slot : ℕ) → Ok (read_found other broken slot site task f)
    unfolding read_found
    read_found_fine other broken slot =
        by_test (other && task.transfer.sk) Ok _ _
        (λ t. follow_fine site _ slot f.tc f None (room_same efifo f))
        (λ t. record { room = room_same efifo f; done = omega arith })

    data_found_fine : (p : Pass) (deleted broken : Bool) (slot : ℕ)
        → Ok (data_found p deleted broken slot site task f)
    unfolding data_found
    data_found_fine Read deleted broken slot = read_found_fine _ broken slot
    data_found_fine Write deleted broken slot = record { room = room_same efifo f; done = omega arith }

    looked_fine : (m : Mark) (id : Id) (look : Search) → Ok (looked_of m id look site task f)
    unfolding looked_of
    looked_fine NoId id look = missed_fine site task look
    looked_fine (Data deleted broken) id look =
        by_test (matches id task.id site.disk.n) Ok _ _
        (λ t. data_found_fine task.transfer.pass deleted broken look.slot) (λ t. missed_fine site task _)
    looked_fine NoData id look =
        by_test (matches id task.id site.disk.n) Ok _ _
        (λ t. bare_found_fine site task task.transfer.pass look.slot) (λ t. missed_fine site task _)

    search_fine : (look : Search) (head : ℕ) (img : List ℕ) → Ok (search_of look site task head img f)
    unfolding search_of
    search_fine look head img = looked_fine _ _ look

    read_fine : (sector : Sector) (done head : ℕ) (img : List ℕ) (fifothr : ℕ)
        → Ok (read_of sector done site task head img f efifo fifothr)
    unfolding read_of overrun
    read_fine sector done head img fifothr =
        by_test f.tc Ok _ _ (λ t. read_on_fine site task sector done f (room_same efifo f))
        (λ t. by_test (full_of efifo f) Ok _ _ (λ u. read_on_fine site _ sector done shut (room_shut efifo f))
        (λ u. read_on_fine site task sector done _ (room_filled efifo fifothr _ _ f)))

    drain_fine : (sector : Sector) (looks : ℕ) → Ok (drain_of sector looks site task f)
    unfolding drain_of drained_of
    drain_fine sector looks =
        by_test (eqb f.count 0) Ok _ _
        (λ t. by_test sector.broken Ok _ _ (λ u. fails_fine site task 0x20 0x20)
        (λ u. by_test task.late Ok _ _ (λ w. late_end_fine site task None)
        (λ w. by_test sector.other Ok _ _ (λ v. move_end_fine site task true 0 0 task.id None)
        (λ v. follow_fine site task sector.slot f.tc f None (room_same efifo f)))))
        (λ t. by_test (leb 63 looks) Ok _ _ (λ u. late_end_fine site task None)
        (λ u. record { room = room_same efifo f; done = omega arith }))

    await_fine : (slot wait head : ℕ) → Ok (await_of slot wait site task head f)
    unfolding await_of
    await_fine slot wait head =
        by_test (eqb f.count 0) Ok _ _
        (λ t. by_test (leb 63 wait) Ok _ _ (λ u. late_end_fine site task None)
        (λ u. record { room = room_same efifo f; done = omega arith }))
        (λ t. record { room = room_same efifo f; done = omega arith })

    store_fine : (slot done head fifothr : ℕ) → Ok (store_of slot done site task head f efifo fifothr)
    unfolding store_of written_of dry_of put_of underrun
    store_fine slot done head fifothr =
        by_test (leb (sector_bytes site) done) Ok _ _
        (λ t. by_test task.late Ok _ _ (λ w. late_end_fine site task _)
        (λ w. follow_fine site task slot _ f _ (room_same efifo f)))
        (λ t. let most : done + 1 ≤ 1024 =
        omega (arith, leb-false (sector_bytes site) done t, size_le site.disk.n) in
        by_test (eqb f.count 0) Ok _ _
        (λ u. by_test f.tc Ok _ _ (λ v. record { room = room_same efifo f; done = most })
        (λ v. record { room = room_shut efifo f; done = most }))
        (λ u. record { room = room_drawn efifo fifothr f; done = most }))

  stage_fine : (stage : Stage) (site : Site) (task : Task) (head : ℕ) (img : List ℕ) (fifothr : ℕ)
      → Ok (stage_of stage site task head img f efifo fifothr)
  unfolding stage_of
  stage_fine (Searching look) site task head img fifothr = search_fine site task look head img
  stage_fine (Turning slot) site task head img fifothr = turn_fine site task slot head
  stage_fine (Reading sector done) site task head img fifothr = read_fine site task sector done head img fifothr
  stage_fine (Draining sector looks) site task head img fifothr = drain_fine site task sector looks
  stage_fine (Awaiting slot wait) site task head img fifothr = await_fine site task slot wait head
  stage_fine (Storing slot done) site task head img fifothr = store_fine site task slot done head fifothr

  identified_fine : (m : Mark) (id : Id) (slot passes : ℕ) (site : Site) → Ok (identified_of m id slot passes site f)
  unfolding identified_of id_here no_id_here no_id_of
  identified_fine NoId id slot passes site =
      by_test (second_pass slot site.disk.slots passes) Ok _ _ (λ t. end_fine false _ _ 1 0 _ None)
      (λ t. record { room = room_same efifo f; done = omega arith })
  identified_fine (Data deleted broken) id slot passes site = end_fine true _ _ 0 0 id None
  identified_fine NoData id slot passes site = end_fine true _ _ 0 0 id None

  module _ (site : Site) (plan : Plan) (head : ℕ) where
    format_end_fine : (normal : Bool) (st1 done : ℕ) (effect : Effect)
        → Ok (format_end normal st1 done effect site plan head)
    unfolding format_end
    format_end_fine normal st1 done effect = end_fine normal _ _ st1 0 _ effect

    clear_on_fine : (slot : ℕ) (effect : Effect) → Ok (clear_on slot site plan head f effect)
    unfolding clear_on
    clear_on_fine slot effect =
        by_test (ltb (slot + 1) site.disk.slots) Ok _ _
        (λ t. record { room = room_same efifo f; done = omega arith })
        (λ t. format_end_fine true 0 plan.sc effect)

    form_fine : (form : Form) (fifothr : ℕ) → Ok (form_of form site plan head f efifo fifothr)
    unfolding form_of form_await address_of address_put fill_of formed_of clear_of
    form_fine (form.Awaiting slot wait) fifothr =
        by_test (eqb f.count 0) Ok _ _
        (λ t. by_test (leb 63 wait) Ok _ _ (λ u. format_end_fine false 0x10 slot None)
        (λ u. record { room = room_same efifo f; done = omega arith }))
        (λ t. record { room = room_same efifo f; done = omega arith })
    form_fine (Addressing slot k) fifothr =
        by_test (eqb f.count 0) Ok _ _ (λ t. format_end_fine false 0x10 slot None)
        (λ t. by_test (leb 3 k) Ok _ _ (λ u. record { room = room_drawn efifo fifothr f; done = omega arith })
        (λ u. record { room = room_drawn efifo fifothr f; done = omega arith }))
    form_fine (Filling slot done) fifothr =
        by_test (leb (sector_bytes site) done) Ok _ _
        (λ t. by_test (ltb (slot + 1) plan.sc) Ok _ _
        (λ u. record { room = room_same efifo f; done = omega arith })
        (λ u. clear_on_fine slot _))
        (λ t. record {
          room = room_same efifo f;
          done = omega (arith, leb-false (sector_bytes site) done t, size_le site.disk.n);
        })
    form_fine (Clearing slot) fifothr = clear_on_fine slot _

  work_fine : (work : Work) (head : ℕ) (img : List ℕ) (fifothr : ℕ) → Ok (work_step work head img f efifo fifothr)
  unfolding work_step identify_of
  work_fine (Identifying site slot passes) head img fifothr = identified_fine _ _ slot passes site
  work_fine (Moving site task stage) head img fifothr = stage_fine stage site task head img fifothr
  work_fine (Formatting site plan form) head img fifothr = form_fine site plan head form fifothr

  lost_fine : (work : Work) (head : ℕ) → Ok (lost_of work head)
  unfolding lost_of no_id_of
  lost_fine (Identifying site slot passes) head = end_fine false _ _ 1 0 _ None
  lost_fine (Moving site task stage) head = fails_fine site task 1 0
  lost_fine (Formatting site plan form) head = format_end_fine site plan head false 1 _ None

  -- a tick after the first, of any work
  pub go_on_fine : (work : Work) (disk : Disk) (head : ℕ) (img : List ℕ) (fifothr : ℕ)
      → Fine efifo f (go_on_of work disk head img f efifo fifothr)
  unfolding go_on_of
  go_on_fine work disk head img fifothr =
      by_test (stays_of disk (site_of work).disk) Ok _ _ (λ t. work_fine work head img fifothr)
      (λ t. lost_fine work head)

  moving_fine : (p : Pass) (transfer : Transfer) (id : Id) (site : Site) → Ok (moving_of p transfer id site f)
  unfolding moving_of
  moving_fine Read transfer id site = record { room = room_same efifo f; done = omega arith }
  moving_fine Write transfer id site = record { room = room_opened efifo f; done = omega arith }

  start_fine : (job : Job) (site : Site) → Ok (start_job job site f)
  unfolding start_job
  start_fine Identify site = record { room = room_same efifo f; done = omega arith }
  start_fine (Move transfer id) site = moving_fine transfer.pass transfer id site
  start_fine (Format plan) site = record { room = room_opened efifo f; done = omega arith }

  -- the first tick, of any order
  pub begin_fine : (order : Order) (disk : Disk) (head : ℕ) → Fine efifo f (begin_of order disk head f)
  unfolding begin_of gate_of entered_of
  begin_fine order None head = end_fine false _ _ 1 0 _ None
  begin_fine order (Some g) head =
      by_test (not (has_track g head order.side))
      (λ gate. Ok (entered_of gate order.job order.drive order.side head f)) _ _
      (λ t. end_fine false _ _ 1 0 _ None)
      (λ t. by_test (changes order.job && g.protect)
      (λ gate. Ok (entered_of gate order.job order.drive order.side head f)) _ _
      (λ u. end_fine false _ _ 2 0 _ None)
      (λ u. by_test (misplanned order.job g)
      (λ gate. Ok (entered_of gate order.job order.drive order.side head f)) _ _
      (λ v. end_fine false _ _ 4 0 _ None)
      (λ v. start_fine order.job _)))
