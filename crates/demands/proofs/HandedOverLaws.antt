-- What a read command hands the host (specs/HandedOver), over every list of its calls: tick by tick at the engine's
-- level, then call by call at the record.
-- Assumes nothing.
use Rattle.std.specs.Prelude.{None, Some}
use Prim.Native.Nat.{ℕ, suc, ◌+◌, ◌-◌, ◌*◌, ◌/◌, ◌%◌, ◌≤◌, ◌<◌}
use native.Mathlib.Nat.{mod-eq_of_lt}
use native.Mathlib.Omega.{arith}
use mathlib.Core.Bool.{Bool, beq, true, false, ◌&&◌, ◌||◌, not, cond, or-true, true≢false, false≢true}
use mathlib.Core.List.{List, [], ◌∷◌}
use mathlib.Core.Logic.{◌⊎◌, inl, inr}
use mathlib.Core.Path.{◌≡◌, refl, sym, ap, ◌∙◌, subst}
use lib.Dec.{eqb, ltb}
use lib.ListN.{length, get_or}
use borrow.Author.Tests.{ltb-true, lt-ltb, le-ltb, eqb-true, not-false}
use Rattle.image.proofs.DiskLaws.{present_fits}
use Rattle.image.proofs.TestLaws.{by_test, both, le_or_lt}
use Rattle.image.specs.Disk.{Disk}
use Rattle.image.specs.declared.layout.Geometry.{Geometry}
use Rattle.image.specs.Lent.{Effect}
use Rattle.image.specs.declared.mark.Mark.{Mark}
use Rattle.image.specs.declared.mark.Mark.TheVariants.{NoId, Data}
use Rattle.image.specs.declared.slot.Id.{Id}
use Rattle.image.specs.Disk.{Fits, disk_in}
use Rattle.image.specs.Layout.{size_of, offset_of, Has}
use Rattle.image.specs.Lent.{pick_of, stored_as}
use Rattle.image.specs.Mark.{byte_of, mark_of}
use Rattle.image.specs.Slot.{id_at}
use Rattle.chip.specs.declared.fifo.Fifo.{Fifo}
use Rattle.chip.specs.Fifo.{emptied, shut, taken_of, front_of}
use Rattle.chip.specs.Fifo.{FitsFifo}
use Rattle.chip.specs.Next.{advanced_of}
use Rattle.sectors.specs.declared.order.Job.TheVariants.{Move}
use Rattle.sectors.specs.declared.order.Order.{Order}
use Rattle.sectors.specs.declared.order.Pass.{Pass}
use Rattle.sectors.specs.declared.order.Pass.TheVariants.{Read, Write}
use Rattle.sectors.specs.declared.order.Transfer.{Transfer}
use Rattle.sectors.specs.declared.work.Sector.{Sector}
use Rattle.sectors.specs.declared.work.Site.{Site}
use Rattle.sectors.specs.declared.work.Stage.{Stage}
use Rattle.sectors.specs.declared.work.Stage.TheVariants.{Searching, Turning, Reading, Draining, Awaiting, Storing}
use Rattle.sectors.specs.declared.work.Step.{Step}
use Rattle.sectors.specs.declared.work.Task.{Task}
use Rattle.sectors.specs.declared.work.Then.{Then}
use Rattle.sectors.specs.declared.work.Then.TheVariants.{Ends, Works}
use Rattle.sectors.specs.declared.work.Verdict.{Verdict}
use Rattle.sectors.specs.declared.work.Work.{Work}
use Rattle.sectors.specs.declared.work.Work.TheVariants.{Identifying, Moving, Formatting}
use Rattle.sectors.specs.Follow.{fresh_at, on_side}
use Rattle.sectors.specs.Result.{st0_of, other_bit, late_bit, end_of, move_end, move_fails, tardy}
use Rattle.sectors.specs.Search.{with_other}
use Rattle.sectors.specs.Track.{has_track, stays_of, mark_place, data_place, next_slot}
use Rattle.engine.specs.First.{changes, gate_of, given_id, moving_of, start_job, entered_of, begin_of}
use Rattle.engine.specs.Step.{from_host, lost_of, stage_of, work_step, go_on_of, pass_flow}
use Rattle.fdc.specs.declared.record.Controller.{Controller}
use Rattle.fdc.specs.declared.record.Phase.{Phase}
use Rattle.fdc.specs.declared.record.Phase.TheVariants.{Starting, Working, Answering}
use Rattle.fdc.specs.declared.ticks.Decision.{Decision}
use Rattle.reached.specs.Good.{Suits}
use Rattle.fdc.specs.Answer.{answer_of}
use Rattle.fdc.specs.Commands.{answered_of}
use Rattle.fdc.specs.Data.{phase_from_host}
use Rattle.fdc.specs.Record.{drive_at, with_fifo, with_phase}
use Rattle.fdc.specs.Registers.{motor_in}
use Rattle.reached.specs.Runs.{Call, ticks, answer_to, after, run_calls}
use Rattle.fdc.specs.Ticks.{seen_of, settled_of, decided_of, ruled_of, tick_of, image_after}
use Rattle.demands.specs.Acknowledged.{result_byte, result_id}
use Rattle.demands.specs.HandedOver.{Taken, untaken, taken_by, taken_over, took_one, IsGood, IsOther, IsGoodOther, Passed, was_read, was_skipped, Ways, Tells, Hands, HandedOver, HandedPlain}
use Rattle.demands.specs.PowerCut.{Followed, InReach, Aim, aim_no, Counts, Stands, head_of, passing}
use Rattle.demands.specs.Work.{at_work, Its, image_by, image_left, Handed, Alone, Real}
use Rattle.demands.proofs.AddressLaws.{onward_turn, onward_stay}
use Rattle.demands.proofs.CallLaws.{tick_starts, tick_works, call_rule, calm_keeps, taken_rule}
use Rattle.demands.proofs.CallRules.{NoTick, MayTake, FifoRule, same, took, gave, TakenRule, none_taken, one_taken, Keeps, CallRule, cut_off, goes_on_lem}
use Rattle.demands.proofs.SplitLaws.{taking_or_not, may_calm, image_same, none_handed}
use Rattle.demands.specs.Quiet.{Quiet}
use Rattle.demands.proofs.CutLaws.{marked_counts, next_slot_below, matches_id, turned_has, not_on}
use Rattle.demands.proofs.HandedStream.{AsksSome, some_emptied, some_shut, some_taken, some_filled, size_some}
use Rattle.demands.proofs.HandedStream.{Flow, flows, ended, flow_fresh, flow_got, flow_next, flow_most, flow_lost}
use Rattle.demands.proofs.HandedStream.{flow_fill, flow_take, flow_skip}
use Rattle.demands.proofs.PowerCutLaws.{idle≢answering}
use Rattle.demands.proofs.QuietLaws.{quiet_real, quiet_after}
use Rattle.demands.proofs.TickRules.{marked, hits, Fails, Filled, NextEnds, NextRule, stops, turns, steps}
use Rattle.demands.proofs.TickRules.{Rule, not_found, no_data, no_side, late, misses, passes, to_write, to_read, skips}
use Rattle.demands.proofs.TickRules.{turned_over, waits, begins, puts, pads, dries, ends_short, finishes, moves}
use Rattle.demands.proofs.TickRules.{moves_last, overruns, overruns_last, drains, data_error, ends_late}
use Rattle.demands.proofs.TickRules.{other_kind, drained, transfer_rule}

none≢data : (d b : Bool) → NoId ≡ Data d b → ⊥
none≢data d b e = let z : ◌≡◌ {A = ℕ} 0 1 = cc in omega arith

-- 01 Image: the byte of a mark
mark_byte : (v : ℕ) (d b : Bool) → mark_of v ≡ Data d b → v ≡ byte_of (Data d b)
unfolding mark_of
mark_byte v d b =
    let Q : Mark → Type 0 = λ m. m ≡ Data d b → v ≡ byte_of (Data d b) in
    by_test (eqb v 1) Q _ _ (λ t e. eqb-true v 1 t ∙ ap byte_of e)
    (λ t. by_test (eqb v 2) Q _ _ (λ t e. eqb-true v 2 t ∙ ap byte_of e)
    (λ t. by_test (eqb v 3) Q _ _ (λ t e. eqb-true v 3 t ∙ ap byte_of e)
    (λ t. by_test (eqb v 4) Q _ _ (λ t e. eqb-true v 4 t ∙ ap byte_of e)
    (λ t. by_test (eqb v 5) Q _ _ (λ t e. eqb-true v 5 t ∙ ap byte_of e) (λ t e. absurd (none≢data d b e))))))

own_kind : (a b : Bool) → not (beq a b) ≡ false → a ≡ b
own_kind true true e = refl
own_kind true false e = absurd (true≢false e)
own_kind false true e = absurd (true≢false e)
own_kind false false e = refl

differs_so : (a b : Bool) → not (beq a b) ≡ true → a ≡ not b
differs_so true true e = absurd (false≢true e)
differs_so true false e = refl
differs_so false true e = refl
differs_so false false e = absurd (false≢true e)

other_one : (a b : Bool) → (a ≡ b → ⊥) → a ≡ not b
other_one true true n = absurd (n refl)
other_one true false n = refl
other_one false true n = refl
other_one false false n = absurd (n refl)

or_first : (a b : Bool) → (a || b) ≡ false → a ≡ false
or_first true b e = absurd (true≢false e)
or_first false b e = refl

or_second : (a b : Bool) → (a ≡ true → ⊥) → (a || b) ≡ true → b ≡ true
or_second true b n e = absurd (n refl)
or_second false b n e = e

set_bit : (a : Bool) → other_bit a ≡ 0x40 → a ≡ true
set_bit true e = refl
set_bit false e = absurd (omega arith)

clear_bit : (a : Bool) → other_bit a ≡ 0x00 → a ≡ false
clear_bit true e = absurd (omega arith)
clear_bit false e = refl

-- no such end beside a late byte's 10 is 80
not_eot : (late : Bool) (st1 : ℕ) → st1 < 0x70 → late_bit late + st1 ≡ 0x80 → ⊥
not_eot true st1 l e = omega arith
not_eot false st1 l e = omega arith

below_70 : (x : ℕ) → (x ≡ 0x01) ⊎ (x ≡ 0x04) → x < 0x70
below_70 x (inl e) = omega arith
below_70 x (inr e) = omega arith

failed_above : (drive side : ℕ) → st0_of false drive side < 0x40 → ⊥
failed_above drive side l = omega arith

-- one aim further
reach_next : (transfer : Transfer) (aim : Aim) (m : ℕ) → InReach transfer aim m → Followed transfer (aim_no transfer aim m)
    → InReach transfer aim (suc m)
reach_next transfer aim m before now i l = go (le_or_lt m i)
  where
    go : (m ≤ i) ⊎ (i < m) → Followed transfer (aim_no transfer aim i)
    go (inl x) = let e : i ≡ m = omega arith in rw e now
    go (inr x) = before i x

module _ (g : Geometry) (cylinder drive : ℕ) (transfer : Transfer) (aim : Aim) (img : List ℕ) where
  abbrev P : ℕ
  P = size_of g.n

  abbrev Good : ℕ → Type 0
  Good m = IsGood g cylinder transfer aim img m

  abbrev Flowing : Bool → (ℕ → ℕ) → ℕ → ℕ → Fifo → Taken → Type 0
  Flowing lost num n done f t = Flow g cylinder transfer aim img num lost n done f t

  abbrev pub Handing : Taken → Type 0
  Handing t = Hands g cylinder transfer aim img t

  abbrev pub Says : (ℕ → ℕ) → ℕ → Verdict → Taken → Type 0
  Says num n verdict t =
      Tells g cylinder transfer aim img num n t verdict.st0 verdict.st1 verdict.st2 verdict.id

  -- n sectors are read, m aims are behind, and the numbers go on from m
  pub record Trail (num : ℕ → ℕ) (n m : ℕ) : Type 0 where
    pub tail : (j i : ℕ) → j ≡ n + i → num j ≡ m + i
    pub rises : (j : ℕ) → j < n → num j < num (suc j)
    pub passed : (i : ℕ) → i < m → Passed g cylinder transfer aim img num n i
    pub plain : transfer.sk ≡ false → (j : ℕ) → num j ≡ j
    pub good : (j : ℕ) → j < n → Good (num j)

  trail_now : (num : ℕ → ℕ) (n m : ℕ) → Trail num n m → num n ≡ m
  trail_now num n m r = r.tail n 0 (omega arith) ∙ omega arith

  pub trail_ways : (num : ℕ → ℕ) (n m : ℕ) → Trail num n m → Ways g cylinder transfer aim img num n
  trail_ways num n m r =
      record {
        rises = r.rises;
        passed = λ i l. r.passed i (omega (arith, trail_now num n m r));
        plain = r.plain;
      }

  pub trail_fresh : Trail (λ j. j) 0 0
  trail_fresh =
      record {
        tail = λ j i e. e;
        rises = λ j l. omega arith;
        passed = λ i l. absurd (omega arith);
        plain = λ p j. refl;
        good = λ j l. absurd (omega arith);
      }

  -- one sector more is read
  trail_next : (num : ℕ → ℕ) (n m : ℕ) → Trail num n m → Good m → Trail num (suc n) (suc m)
  trail_next num n m r last =
      record {
        tail = λ j i e. r.tail j (suc i) (omega arith) ∙ omega arith;
        rises = λ j l. rise j l (le_or_lt n j);
        passed = λ i l. pass i l (le_or_lt m i);
        plain = r.plain;
        good = λ j l. fine j l (le_or_lt n j);
      }
    where
      rise : (j : ℕ) → j < suc n → (n ≤ j) ⊎ (j < n) → num j < num (suc j)
      rise j l (inl x) = omega (arith, r.tail j 0 (omega arith), r.tail (suc j) 1 (omega arith))
      rise j l (inr x) = r.rises j x

      weaken : (i : ℕ) → Passed g cylinder transfer aim img num n i → Passed g cylinder transfer aim img num (suc n) i
      weaken i (was_read j l e) = was_read j (omega arith) e
      weaken i (was_skipped k o) = was_skipped k o

      pass : (i : ℕ) → i < suc m → (m ≤ i) ⊎ (i < m) → Passed g cylinder transfer aim img num (suc n) i
      pass i l (inl x) =
          let z : m ≡ i = omega arith in
          was_read n (omega arith) (trail_now num n m r ∙ z)
      pass i l (inr x) = weaken i (r.passed i x)

      fine : (j : ℕ) → j < suc n → (n ≤ j) ⊎ (j < n) → Good (num j)
      fine j l (inl x) =
          let z : num j ≡ m = r.tail j 0 (omega arith) ∙ omega arith in
          subst Good (sym z) last
      fine j l (inr x) = r.good j x

  -- one is skipped
  abbrev bumped : ℕ → (ℕ → ℕ) → ℕ → ℕ
  bumped n num j = cond (ltb j n) (num j) (suc (num j))

  bump_before : (n : ℕ) (num : ℕ → ℕ) (j : ℕ) → j < n → bumped n num j ≡ num j
  bump_before n num j l = rw (lt-ltb j n l)

  bump_after : (n : ℕ) (num : ℕ → ℕ) (j : ℕ) → n ≤ j → bumped n num j ≡ suc (num j)
  bump_after n num j l = rw (le-ltb j n l)

  trail_skip : (num : ℕ → ℕ) (n m : ℕ) → Trail num n m → transfer.sk ≡ true
      → IsOther g cylinder transfer aim img m → Trail (bumped n num) n (suc m)
  trail_skip num n m r k other =
      record {
        tail = λ j i e. bump_after n num j (omega arith) ∙ omega (arith, r.tail j i e);
        rises = λ j l. rise j l (le_or_lt n (suc j));
        passed = λ i l. pass i l (le_or_lt m i);
        plain = λ p. absurd (true≢false (sym k ∙ p));
        good = λ j l. subst Good (sym (bump_before n num j l)) (r.good j l);
      }
    where
      rise : (j : ℕ) → j < n → (n ≤ suc j) ⊎ (suc j < n) → bumped n num j < bumped n num (suc j)
      rise j l (inl x) = rw (bump_before n num j l, bump_after n num (suc j) x) (omega (arith, r.rises j l))
      rise j l (inr x) = rw (bump_before n num j l, bump_before n num (suc j) x) (r.rises j l)

      still : (i : ℕ) → Passed g cylinder transfer aim img num n i
          → Passed g cylinder transfer aim img (bumped n num) n i
      still i (was_read j l e) = was_read j l (bump_before n num j l ∙ e)
      still i (was_skipped q o) = was_skipped q o

      pass : (i : ℕ) → i < suc m → (m ≤ i) ⊎ (i < m) → Passed g cylinder transfer aim img (bumped n num) n i
      pass i l (inl x) =
          let z : i ≡ m = omega arith in
          was_skipped k (subst (λ (y : ℕ). IsOther g cylinder transfer aim img y) (sym z) other)
      pass i l (inr x) = still i (r.passed i x)

  -- the sector in hand, with what its mark said at the match
  pub record Sees (now : Aim) (other : Bool) (sector : Sector) : Type 0 where
    pub stands : Stands g img cylinder now (offset_of g cylinder now.side sector.slot)
    pub has : Has g cylinder now.side sector.slot
    pub kind : Bool
    pub mark : mark_of (get_or img (offset_of g cylinder now.side sector.slot) 0) ≡ Data kind sector.broken
    pub kind_is : sector.other ≡ not (beq kind transfer.deleted)
    pub other_is : sector.other ≡ true → other ≡ true
    pub own : transfer.sk ≡ true → sector.other ≡ false

  abbrev pub Link : Aim → Bool → Stage → Type 0
  Link now other (Searching look) = Has g cylinder now.side look.slot
  Link now other (Turning slot) = (cylinder < g.cylinders) × (slot < g.slots)
  Link now other (Reading sector done) = Sees now other sector × (done < P)
  Link now other (Draining sector looks) = Sees now other sector
  Link now other (Awaiting slot wait) = ⊥
  Link now other (Storing slot done) = ⊥

  -- the sector in hand is of the other kind
  abbrev pub OtherInHand : Stage → Type 0
  OtherInHand (Searching look) = ⊥
  OtherInHand (Turning slot) = ⊥
  OtherInHand (Reading sector done) = sector.other ≡ true
  OtherInHand (Draining sector looks) = sector.other ≡ true
  OtherInHand (Awaiting slot wait) = ⊥
  OtherInHand (Storing slot done) = ⊥

  -- bytes of the sector in hand that were moved
  abbrev pub done_in : Stage → ℕ
  done_in (Searching look) = 0
  done_in (Turning slot) = 0
  done_in (Reading sector done) = done
  done_in (Draining sector looks) = P
  done_in (Awaiting slot wait) = 0
  done_in (Storing slot done) = 0

  pub done_most : (now : Aim) (other : Bool) (stage : Stage) → Link now other stage → done_in stage ≤ P
  done_most now other (Searching look) l = omega arith
  done_most now other (Turning slot) l = omega arith
  done_most now other (Reading sector done) (s, l) = omega arith
  done_most now other (Draining sector looks) l = omega arith
  done_most now other (Awaiting slot wait) l = absurd l
  done_most now other (Storing slot done) l = absurd l

  -- a read at work
  pub record Busy (site : Site) (task : Task) (stage : Stage) (f : Fifo) (t : Taken) : Type 0 where
    pub num : ℕ → ℕ
    pub n : ℕ
    pub m : ℕ
    pub trail : Trail num n m
    pub disk : site.disk ≡ g
    pub drive_is : site.drive ≡ drive
    pub told_to : task.transfer ≡ transfer
    -- with no sector of the other kind met, none is skipped
    pub clear : task.other ≡ false → (j : ℕ) → num j ≡ j
    -- SK 0: the first sector of the other kind met is the one in hand
    pub shown : transfer.sk ≡ false → task.other ≡ true → OtherInHand stage
    pub side : site.side ≡ (aim_no transfer aim m).side
    pub id : task.id ≡ (aim_no transfer aim m).id
    pub link : Link (aim_no transfer aim m) task.other stage
    -- no aim before the one in hand was the last
    pub reach : InReach transfer aim m
    pub asks : AsksSome f
    pub flow : Flowing task.late num n (done_in stage) f t

  pub busy_hands : {site : Site} {task : Task} {stage : Stage} {f : Fifo} {t : Taken} → Busy site task stage f t
      → Handing t
  busy_hands {site} {task} {stage} {f} {t} b =
      record {
        num = b.num;
        n = b.n;
        ways = trail_ways b.num b.n b.m b.trail;
        bytes = flow_got g cylinder transfer aim img b.num b.flow;
        most = flow_most g cylinder transfer aim img b.num b.flow (done_most _ _ stage b.link);
      }

  -- it is over
  pub record Over (verdict : Verdict) (t : Taken) : Type 0 where
    pub hands : Handing t
    pub says : Says hands.num hands.n verdict t

  abbrev pub OnWork : Work → Fifo → Taken → Type 0
  OnWork (Identifying site slot looks) f t = ⊥
  OnWork (Moving site task stage) f t = Busy site task stage f t
  OnWork (Formatting site plan form) f t = ⊥

  abbrev pub OnThen : Then → Fifo → Taken → Type 0
  OnThen (Ends verdict) f t = Over verdict t
  OnThen (Works work) f t = OnWork work f t

  abbrev pub OnStep : Step → Taken → Type 0
  OnStep o t = (o.effect ≡ None) × OnThen o.then o.fifo t

  -- 01 Result: an end that is no Next
  pub fails_over : (site : Site) (task : Task) (verdict : Verdict) (st1 : ℕ) (t : Taken) → Handing t
      → Fails st1 site task verdict → st1 < 0x70 → Over verdict t
  fails_over site task verdict st1 t h v low =
      record {
        hands = h;
        says = record {
          normal = λ l z. absurd (failed_above site.drive site.side (rw v.st0 at l));
          other = λ k l z. absurd (failed_above site.drive site.side (rw v.st0 at l));
          past_eot_law = λ e. absurd (not_eot task.late st1 low (sym v.st1_is ∙ e));
        };
      }

  module _ (fits : Fits g img) (rd : transfer.pass ≡ Read) (efifo : Bool) (fifothr : ℕ)
      {site : Site} {task : Task} {stage : Stage} {f : Fifo} {t : Taken} (b : Busy site task stage f t) where
    abbrev now : Aim
    now = aim_no transfer aim b.m

    most : done_in stage ≤ P
    most = done_most _ _ stage b.link

    no_write : {A : Type 0} → task.transfer.pass ≡ Write → A
    no_write e =
        let w : ◌≡◌ {A = Pass} Read Write = sym rd ∙ ap (λ (x : Transfer). x.pass) (sym b.told_to) ∙ e in
        let z : ◌≡◌ {A = ℕ} 0 1 = cc in
        absurd (omega arith)

    mark_is : (slot : ℕ) → mark_place site cylinder slot ≡ offset_of g cylinder now.side slot
    unfolding mark_place
    mark_is slot = rw (b.disk, b.side)

    found : (slot : ℕ) → Has g cylinder now.side slot → hits img site cylinder task slot ≡ true
        → Stands g img cylinder now (offset_of g cylinder now.side slot)
    found slot has t =
        let p = mark_is slot in
        let (m, i) = both (marked (mark_of (get_or img (mark_place site cylinder slot) 0))) _ t in
        let (e, n) = matches_id (id_at img (mark_place site cylinder slot)) task.id site.disk.n i in
        let m' : Counts (get_or img (offset_of g cylinder now.side slot) 0) = rw p at (marked_counts _ m) in
        let e' : id_at img (offset_of g cylinder now.side slot) ≡ task.id = rw p at e in
        record {
          slot = slot;
          has = has;
          place = refl;
          marked = m';
          address = e' ∙ b.id;
          size = ap (λ (x : Id). x.n) (sym b.id ∙ sym e) ∙ n ∙ ap (λ (x : Geometry). x.n) b.disk;
        }

    -- to another stage of the same sector
    to : (task' : Task) (stage' : Stage) (f' : Fifo) → task'.transfer ≡ task.transfer → task'.id ≡ task.id
        → (task'.other ≡ false → task.other ≡ false)
        → (transfer.sk ≡ false → task'.other ≡ true → OtherInHand stage') → Link now task'.other stage'
        → AsksSome f' → Flowing task'.late b.num b.n (done_in stage') f' t
        → Busy site task' stage' f' t
    to task' stage' f' e i o sh l a s =
        record {
          num = b.num;
          n = b.n;
          m = b.m;
          trail = b.trail;
          disk = b.disk;
          drive_is = b.drive_is;
          told_to = e ∙ b.told_to;
          clear = λ x. b.clear (o x);
          shown = sh;
          side = b.side;
          id = i ∙ b.id;
          link = l;
          reach = b.reach;
          asks = a;
          flow = s;
        }

    -- the sector in hand is good
    good_now : (sector : Sector) → Sees now task.other sector → sector.broken ≡ false → sector.other ≡ false
        → Good b.m
    good_now sector s whole own =
        let k : s.kind ≡ transfer.deleted = own_kind _ _ (sym s.kind_is ∙ own) in
        let x : mark_of (get_or img (offset_of g cylinder now.side sector.slot) 0) ≡ Data transfer.deleted false =
        s.mark ∙ ap (λ (x : Bool). Data x sector.broken) k ∙ ap (λ (x : Bool). Data transfer.deleted x) whole in
        record { at = _; stands = s.stands; mark = mark_byte _ _ _ x }

    at_eot : (k : ℕ) → k + 1 ≡ suc b.m → task.id.r ≡ task.transfer.eot
        → (aim_no transfer aim k).id.r ≡ transfer.eot
    at_eot k y e = let x : k ≡ b.m = omega arith in rw x (rw (b.id, b.told_to) at e)

    address_of_lem : (id : Id) (k : ℕ) → k ≡ suc b.m
        → id ≡ advanced_of task.id task.transfer.eot task.transfer.mt site.side 1
        → id ≡ (aim_no transfer aim k).id
    address_of_lem id k y e = rw y (e ∙ rw (b.id, b.told_to, b.side))

    -- 01 Next, of a sector read
    next_over : (verdict : Verdict) → f.count ≡ 0 → task.late ≡ false → Flowing task.late b.num b.n P f t
        → Good b.m → (transfer.sk ≡ false → task.other ≡ true → ⊥) → NextEnds f.tc site task verdict
        → Over verdict t
    next_over verdict z nl fl last sh v =
        record {
          hands = record {
            num = b.num;
            n = suc b.n;
            ways = trail_ways b.num (suc b.n) (suc b.m) more;
            bytes = flow_got g cylinder transfer aim img b.num fl;
            most = omega (arith, flow_most g cylinder transfer aim img b.num fl (omega arith));
          };
          says = go fl;
        }
      where
        more : Trail b.num (suc b.n) (suc b.m)
        more = trail_next b.num b.n b.m b.trail last

        there : b.num (suc b.n) ≡ suc b.m
        there = trail_now b.num (suc b.n) (suc b.m) more

        go : Flowing task.late b.num b.n P f t → Says b.num (suc b.n) verdict t
        go (flows a c lo sum all) =
            let v' : NextEnds false site task verdict = rw a at v in
            record {
              normal = λ l y. absurd (failed_above site.drive site.side (rw v'.st0 at l));
              other = λ k l y. absurd (failed_above site.drive site.side (rw v'.st0 at l));
              past_eot_law = λ e. record {
                told = c;
                all = omega (arith, sum, z);
                last = λ k y. at_eot k (y ∙ there) (v'.eot refl);
                good = more.good;
                address = address_of_lem verdict.id _ there v'.id;
              };
            }
        go (ended a c none off all lo hi) =
            let v' : NextEnds true site task verdict = rw a at v in
            record {
              normal = λ l y. record {
                told = c nl;
                some = omega arith;
                above = let q : suc b.n - 1 ≡ b.n = omega arith in rw q (lo nl);
                below = omega (arith, hi);
                good = more.good;
                none = b.clear (clear_bit task.other (sym v'.st2 ∙ y));
                address = address_of_lem verdict.id _ there v'.id;
              };
              other = λ k l y. absurd (sh k (set_bit task.other (sym v'.st2 ∙ y)));
              past_eot_law = λ e. absurd (not_eot task.late 0x00 (omega arith) (sym v'.st1 ∙ e));
            }

    -- 01 Read: the other kind, not skipped: the sector's own address
    other_over : (sector : Sector) (verdict : Verdict) → Sees now task.other sector → sector.broken ≡ false
        → sector.other ≡ true → verdict.st1 ≡ 0x00 → verdict.st2 ≡ other_bit task.other + 0x00
        → verdict.id ≡ task.id → f.count ≡ 0 → task.late ≡ false → Flowing task.late b.num b.n P f t
        → Over verdict t
    unfolding busy_hands
    other_over sector verdict s whole ok z os i none nl fl =
        let st2 : verdict.st2 ≡ 0x40 = os ∙ ap (λ (x : Bool). other_bit x + 0x00) (s.other_is ok) in
        record {
          hands = busy_hands b;
          says = record {
            normal = λ l y. absurd (omega arith);
            other = λ k l y. record {
              above = more fl;
              below = omega (arith, flow_most g cylinder transfer aim img b.num fl (omega arith));
              all = whole_of fl;
              good = b.trail.good;
              other = subst (IsGoodOther g cylinder transfer aim img) (sym there) at_hand;
              address = i ∙ b.id ∙ ap (λ (m : ℕ). (aim_no transfer aim m).id) (sym there);
            };
            past_eot_law = λ y. absurd (omega arith);
          };
        }
      where
        there : b.num b.n ≡ b.m
        there = trail_now b.num b.n b.m b.trail

        more : Flowing task.late b.num b.n P f t → b.n * P < length t.got
        more (flows a c lo sum all) = omega (arith, sum, none, size_some g.n)
        more (ended a c off quiet all lo hi) = lo nl

        whole_of : Flowing task.late b.num b.n P f t → t.told ≡ false → length t.got ≡ (b.n + 1) * P
        whole_of (flows a c lo sum all) u = omega (arith, sum, none)
        whole_of (ended a c off quiet all lo hi) u = absurd (true≢false (sym (c nl) ∙ u))

        kind_is : s.kind ≡ not transfer.deleted
        kind_is = differs_so _ _ (sym s.kind_is ∙ ok)

        at_hand : IsGoodOther g cylinder transfer aim img b.m
        at_hand =
            record {
              at = _;
              stands = s.stands;
              mark = mark_byte _ _ _ (s.mark ∙ ap (λ (x : Bool). Data x sector.broken) kind_is
                  ∙ ap (λ (x : Bool). Data (not transfer.deleted) x) whole);
            }

    -- on to the next aim
    on_turn : (slot : ℕ) (num : ℕ → ℕ) (n : ℕ) (other : Bool) → (other ≡ false → (j : ℕ) → num j ≡ j)
        → (transfer.sk ≡ false → other ≡ true → ⊥) → Has g cylinder now.side slot
        → Trail num n (suc b.m) → Flowing task.late num n 0 f t
        → task.id.r ≡ task.transfer.eot → task.transfer.mt ≡ true → site.side ≡ 0
        → Busy (on_side 1 site) (record {
          transfer = task.transfer;
          id = advanced_of task.id task.transfer.eot task.transfer.mt site.side 1;
          other = other;
          late = task.late;
        }) (Turning (next_slot slot site.disk.slots)) f t
    on_turn slot num n other clear sh has trail fl r mt first =
        let r' : now.id.r ≡ transfer.eot = rw (b.id, b.told_to) at r in
        record {
          num = num;
          n = n;
          m = suc b.m;
          trail = trail;
          disk = b.disk;
          drive_is = b.drive_is;
          told_to = b.told_to;
          clear = clear;
          shown = sh;
          side = sym (onward_turn transfer now r');
          id = rw (b.id, b.told_to, b.side);
          link = (has.on_disk, rw b.disk (next_slot_below slot g.slots fits.range.slots.0));
          reach = reach_next transfer aim b.m b.reach (λ e. (rw b.told_to at mt, sym b.side ∙ first));
          asks = b.asks;
          flow = fl;
        }

    on_step_lem : (slot : ℕ) (num : ℕ → ℕ) (n : ℕ) (other : Bool) → (other ≡ false → (j : ℕ) → num j ≡ j)
        → (transfer.sk ≡ false → other ≡ true → ⊥) → Has g cylinder now.side slot
        → Trail num n (suc b.m) → Flowing task.late num n 0 f t
        → (task.id.r ≡ task.transfer.eot → ⊥)
        → Busy site (record {
          transfer = task.transfer;
          id = advanced_of task.id task.transfer.eot task.transfer.mt site.side 1;
          other = other;
          late = task.late;
        }) (Searching (fresh_at (next_slot slot site.disk.slots))) f t
    on_step_lem slot num n other clear sh has trail fl r =
        let r' : now.id.r ≡ transfer.eot → ⊥ = rw (b.id, b.told_to) at r in
        let stay = onward_stay transfer now r' in
        record {
          num = num;
          n = n;
          m = suc b.m;
          trail = trail;
          disk = b.disk;
          drive_is = b.drive_is;
          told_to = b.told_to;
          clear = clear;
          shown = sh;
          side = b.side ∙ sym stay;
          id = rw (b.id, b.told_to, b.side);
          link = record {
            on_disk = has.on_disk;
            on_cylinder = omega (arith, has.on_cylinder);
            on_track = rw b.disk (next_slot_below slot g.slots fits.range.slots.0);
          };
          reach = reach_next transfer aim b.m b.reach (λ e. absurd (r' e));
          asks = b.asks;
          flow = fl;
        }

    next_step : (sector : Sector) (o : Step) → Sees now task.other sector → sector.broken ≡ false
        → sector.other ≡ false → (transfer.sk ≡ false → task.other ≡ true → ⊥) → f.count ≡ 0 → task.late ≡ false
        → Flowing task.late b.num b.n P f t → NextRule f.tc sector.slot site task f None o
        → OnStep o t
    next_step sector o s whole own sh z nl fl (stops verdict v e) =
        rw e (refl, next_over verdict z nl fl (good_now sector s whole own) sh v)
    next_step sector o s whole own sh z nl fl (turns u r x d e) =
        rw e (
          refl,
          on_turn sector.slot b.num (suc b.n) task.other b.clear sh s.has
              (trail_next b.num b.n b.m b.trail (good_now sector s whole own))
              (flow_next g cylinder transfer aim img b.num fl refl z u) r x d,
        )
    next_step sector o s whole own sh z nl fl (steps u r e) =
        rw e (
          refl,
          on_step_lem sector.slot b.num (suc b.n) task.other b.clear sh s.has
              (trail_next b.num b.n b.m b.trail (good_now sector s whole own))
              (flow_next g cylinder transfer aim img b.num fl refl z u) r,
        )

    -- 01 Next, of a sector skipped
    skip_over : (verdict : Verdict) → transfer.sk ≡ true → IsOther g cylinder transfer aim img b.m
        → FitsFifo efifo f → Flowing task.late b.num b.n 0 f t
        → NextEnds f.tc site (with_other true task) verdict → Over verdict t
    skip_over verdict k other fit (flows a c lo sum all) v =
        let num' : ℕ → ℕ = bumped b.n b.num in
        let trail' : Trail num' b.n (suc b.m) = trail_skip b.num b.n b.m b.trail k other in
        let fl' : Flowing task.late num' b.n 0 f t =
        flow_skip g cylinder transfer aim img b.num num' efifo _ b.n f t fit (bump_before b.n b.num) a
        (flows a c lo sum all) in
        let there : num' b.n ≡ suc b.m = trail_now num' b.n (suc b.m) trail' in
        let v' : NextEnds false site (with_other true task) verdict = rw a at v in
        record {
          hands = record {
            num = num';
            n = b.n;
            ways = trail_ways num' b.n (suc b.m) trail';
            bytes = flow_got g cylinder transfer aim img num' fl';
            most = flow_most g cylinder transfer aim img num' fl' (omega arith);
          };
          says = record {
            normal = λ l y. absurd (failed_above site.drive site.side (rw v'.st0 at l));
            other = λ p l y. absurd (true≢false (sym k ∙ p));
            past_eot_law = λ e. record {
              told = c;
              all = omega (arith, sum, lo);
              last = λ x y. at_eot x (y ∙ there) (v'.eot refl);
              good = trail'.good;
              address = address_of_lem verdict.id _ there v'.id;
            };
          };
        }
    skip_over verdict k other fit (ended a c none off all lo hi) v =
        let v' : NextEnds true site (with_other true task) verdict = rw a at v in
        let w : verdict.st2 ≡ 0x40 = v'.st2 ∙ ap other_bit (or-true task.other) in
        record {
          hands = busy_hands b;
          says = record {
            normal = λ l y. absurd (omega arith);
            other = λ p l y. absurd (true≢false (sym k ∙ p));
            past_eot_law = λ e. absurd (not_eot task.late 0x00 (omega arith) (sym v'.st1 ∙ e));
          };
        }

    skip_step : (slot : ℕ) (o : Step) → transfer.sk ≡ true → IsOther g cylinder transfer aim img b.m
        → Has g cylinder now.side slot → FitsFifo efifo f → Flowing task.late b.num b.n 0 f t
        → NextRule f.tc slot site (with_other true task) f None o → OnStep o t
    skip_step slot o k other has fit fl (stops verdict v e) = rw e (refl, skip_over verdict k other fit fl v)
    skip_step slot o k other has fit fl (turns u r x d e) =
        rw e (
          refl,
          on_turn slot (bumped b.n b.num) b.n (task.other || true) (λ y. absurd (true≢false (sym (or-true task.other) ∙ y))) (λ y e. true≢false (sym k ∙ y)) has
              (trail_skip b.num b.n b.m b.trail k other)
              (flow_skip g cylinder transfer aim img b.num (bumped b.n b.num) efifo _ b.n f t fit
              (bump_before b.n b.num) u fl) r x d,
        )
    skip_step slot o k other has fit fl (steps u r e) =
        rw e (
          refl,
          on_step_lem slot (bumped b.n b.num) b.n (task.other || true) (λ y. absurd (true≢false (sym (or-true task.other) ∙ y))) (λ y e. true≢false (sym k ∙ y)) has
              (trail_skip b.num b.n b.m b.trail k other)
              (flow_skip g cylinder transfer aim img b.num (bumped b.n b.num) efifo _ b.n f t fit
              (bump_before b.n b.num) u fl) r,
        )

    -- 01 Read: one byte further
    fill : (sector : Sector) (done : ℕ) (last : Bool) (f' : Fifo) → FitsFifo efifo f
        → Sees now task.other sector → done < P → Flowing task.late b.num b.n done f t
        → Filled cylinder img efifo fifothr site f sector done last f'
        → AsksSome f' × Flowing task.late b.num b.n (done + 1) f' t
    unfolding data_place
    fill sector done last f' fit s l fl x =
        let p : get_or img (mark_place site cylinder sector.slot + 5 + done) 0
        ≡ get_or img (offset_of g cylinder now.side sector.slot + 5 + done) 0 =
        ap (λ (k : ℕ). get_or img (k + 5 + done) 0) (mark_is sector.slot) in
        let st : Stands g img cylinder (aim_no transfer aim (b.num b.n))
        (offset_of g cylinder now.side sector.slot) =
        subst (λ (k : ℕ). Stands g img cylinder (aim_no transfer aim k) (offset_of g cylinder now.side sector.slot))
        (sym (trail_now b.num b.n b.m b.trail)) s.stands in
        rw x.after (
          some_filled efifo fifothr last _ f b.asks,
          flow_fill g cylinder transfer aim img b.num efifo _ b.n done f t fit fifothr last _ _ fl l st
              (subst (InReach transfer aim) (sym (trail_now b.num b.n b.m b.trail)) b.reach)
              (λ k. record {
                broken = sector.broken;
                is = s.mark ∙ ap (λ (y : Bool). Data y sector.broken) (own_kind _ _ (sym s.kind_is ∙ s.own k));
              })
              p x.room,
        )

    pub busy_rule : (o : Step) → FitsFifo efifo f → o ≡ stage_of stage site task cylinder img f efifo fifothr
        → Rule cylinder img efifo fifothr site task f stage o → OnStep o t
    unfolding stage_of has_track
    busy_rule o fit is (not_found look verdict p h l m x y v e) =
        rw e (refl, fails_over site task verdict x t (busy_hands b) v (below_70 x y))
    busy_rule o fit is (no_data look verdict p h r m v e) =
        rw e (refl, fails_over site task verdict 0x01 t (busy_hands b) v (omega arith))
    busy_rule o fit is (no_side slot verdict p ns v e) =
        rw e (refl, fails_over site task verdict 0x01 t (busy_hands b) v (omega arith))
    busy_rule o fit is (late verdict v l w e) =
        rw e (refl, fails_over site (tardy task) verdict 0x00 t (busy_hands b) v (omega arith))
    busy_rule o fit is (misses look on p h l a q e) =
        let k : Has g cylinder now.side look.slot = rw p at b.link in
        let l' : look.slot + 1 < g.slots = rw b.disk at l in
        rw e (
          refl,
          to task (Searching on) f refl refl (λ y. y) (rw p at b.shown)
              (record { on_disk = k.on_disk; on_cylinder = k.on_cylinder; on_track = omega arith }) b.asks
              (rw p at b.flow),
        )
    busy_rule o fit is (passes look on p h l q a c e) =
        let k : Has g cylinder now.side look.slot = rw p at b.link in
        rw e (
          refl,
          to task (Searching on) f refl refl (λ y. y) (rw p at b.shown)
              (record { on_disk = k.on_disk; on_cylinder = k.on_cylinder; on_track = omega (arith, k.on_track) })
              b.asks (rw p at b.flow),
        )
    busy_rule o fit is (to_write look p h w e) = no_write w
    busy_rule o fit is (to_read look deleted broken other p h r m d ns e) =
        let k : Has g cylinder now.side look.slot = rw p at b.link in
        rw e (
          refl,
          to _ (Reading (record { slot = look.slot; broken = broken; other = other }) 0) f refl refl
              (λ y. or_first task.other other y)
              (λ k y. or_second task.other other ((rw p at b.shown) k) y) (
                record {
                  stands = found look.slot k h;
                  has = k;
                  kind = deleted;
                  mark = rw (mark_is look.slot) at m;
                  kind_is = rw b.told_to at d;
                  other_is = λ y. ap (λ (z : Bool). task.other || z) y ∙ or-true task.other;
                  own = λ y. not_on other (λ z. true≢false (sym y ∙ sym (ap (λ (x : Transfer). x.sk) b.told_to) ∙ ns z));
                },
                size_some g.n,
              ) b.asks (rw p at b.flow),
        )
    busy_rule o fit is (skips look deleted broken p h r x d k n) =
        let has : Has g cylinder now.side look.slot = rw p at b.link in
        let k' : transfer.sk ≡ true = sym (ap (λ (x : Transfer). x.sk) b.told_to) ∙ k in
        let d' : deleted ≡ not transfer.deleted =
        other_one deleted transfer.deleted (λ z. d (z ∙ sym (ap (λ (x : Transfer). x.deleted) b.told_to))) in
        let x' : mark_of (get_or img (offset_of g cylinder now.side look.slot) 0) ≡ Data deleted broken =
        rw (mark_is look.slot) at x in
        skip_step look.slot o k'
        (record {
          at = _;
          stands = found look.slot has h;
          kind = record { broken = broken; is = x' ∙ ap (λ (y : Bool). Data y broken) d' };
        }) has fit (rw p at b.flow) n
    busy_rule o fit is (turned_over slot p e) =
        let (on_disk, on_track) = rw p at b.link in
        let y : has_track site.disk cylinder site.side ≡ true =
        turned_has slot site task cylinder f (sym (rw p at is) ∙ e) in
        let y' : ltb site.side site.disk.heads ≡ true =
        (both (ltb cylinder site.disk.cylinders) (ltb site.side site.disk.heads) y).1 in
        let y'' : ltb now.side g.heads ≡ true = rw (b.disk, b.side) at y' in
        rw e (
          refl,
          to task (Searching (fresh_at slot)) f refl refl (λ y. y) (rw p at b.shown)
              (record { on_disk = on_disk; on_cylinder = ltb-true _ _ y''; on_track = on_track }) b.asks
              (rw p at b.flow),
        )
    busy_rule o fit is (waits slot wait p l e) = absurd (rw p at b.link)
    busy_rule o fit is (begins slot wait p l e) = absurd (rw p at b.link)
    busy_rule o fit is (puts slot done p l c e) = absurd (rw p at b.link)
    busy_rule o fit is (pads slot done p l c u e) = absurd (rw p at b.link)
    busy_rule o fit is (dries slot done p l c u e) = absurd (rw p at b.link)
    busy_rule o fit is (ends_short slot done verdict p l u y v e) = absurd (rw p at b.link)
    busy_rule o fit is (finishes slot done p l u n) = absurd (rw p at b.link)
    busy_rule o fit is (moves sector done f' p l x e) =
        let (s, d) = rw p at b.link in
        let l' : done + 1 < P = rw b.disk at l in
        let (a, fl) = fill sector done false f' fit s d (rw p at b.flow) x in
        rw e (refl, to task (Reading sector (done + 1)) f' refl refl (λ y. y) (rw p at b.shown) (s, l') a fl)
    busy_rule o fit is (moves_last sector done f' p l x e) =
        let (s, d) = rw p at b.link in
        let l' : P ≤ done + 1 = rw b.disk at l in
        let z : done + 1 ≡ P = omega arith in
        let (a, fl) = fill sector done true f' fit s d (rw p at b.flow) x in
        rw e (
          refl,
          to task (Draining sector 0) f' refl refl (λ y. y) (rw p at b.shown) s a
              (subst (λ (k : ℕ). Flowing task.late b.num b.n k f' t) z fl),
        )
    busy_rule o fit is (overruns sector done p l u v e) =
        let (s, d) = rw p at b.link in
        let l' : done + 1 < P = rw b.disk at l in
        rw e (
          refl,
          to (tardy task) (Reading sector (done + 1)) shut refl refl (λ y. y) (rw p at b.shown) (s, l')
              some_shut (flow_lost g cylinder transfer aim img b.num (done + 1) b.flow most),
        )
    busy_rule o fit is (overruns_last sector done p l u v e) =
        let (s, d) = rw p at b.link in
        rw e (
          refl,
          to (tardy task) (Draining sector 0) shut refl refl (λ y. y) (rw p at b.shown) s some_shut
              (flow_lost g cylinder transfer aim img b.num P b.flow most),
        )
    busy_rule o fit is (drains sector looks p l e) =
        rw e (refl, to task (Draining sector (looks + 1)) f refl refl (λ y. y) (rw p at b.shown) (rw p at b.link) b.asks (rw p at b.flow))
    busy_rule o fit is (data_error sector looks verdict p q y v e) =
        rw e (refl, fails_over site task verdict 0x20 t (busy_hands b) v (omega arith))
    busy_rule o fit is (ends_late sector looks verdict p q nl v e) =
        rw e (refl, fails_over site (tardy task) verdict 0x00 t (busy_hands b) v (omega arith))
    busy_rule o fit is (other_kind sector looks verdict p q nl z ok os v zc e) =
        rw e (refl, other_over sector verdict (rw p at b.link) q ok z os v.id zc nl (rw p at b.flow))
    busy_rule o fit is (drained sector looks p q nl ok zc n) =
        next_step sector o (rw p at b.link) q ok (λ k y. true≢false (sym ((rw p at b.shown) k y) ∙ ok)) zc nl
        (rw p at b.flow) n

module _ (g : Geometry) (cylinder : ℕ) (order : Order) (transfer : Transfer) (id : Id) (img : List ℕ)
    (disk : disk_in img ≡ Some g) (moves_it : order.job ≡ Move transfer id) (rd : transfer.pass ≡ Read)
    (hd : order.drive < 4) where
  abbrev drive : ℕ
  drive = order.drive

  abbrev aim : Aim
  aim = record { id = id; side = order.side }

  fits : Fits g img
  fits = present_fits img g disk

  abbrev HandsSo : Taken → Type 0
  HandsSo t = Hands g cylinder transfer aim img t

  abbrev WorksOn : Site → Task → Stage → Fifo → Taken → Type 0
  WorksOn site task stage f t = Busy g cylinder drive transfer aim img site task stage f t

  abbrev Gives : Step → Taken → Type 0
  Gives o t = OnStep g cylinder drive transfer aim img o t

  none_yet : HandsSo untaken
  none_yet =
      record {
        num = λ j. j;
        n = 0;
        ways = trail_ways g cylinder drive transfer aim img (λ j. j) 0 0 (trail_fresh g cylinder drive transfer aim img);
        bytes = λ k l. absurd (omega arith);
        most = omega arith;
      }

  -- an end in the first tick
  shut_over : (st1 st2 : ℕ) → (st1 ≡ 0x80 → ⊥)
      → Over g cylinder drive transfer aim img
      (record { st0 = st0_of false drive order.side; st1 = st1; st2 = st2; id = id }) untaken
  shut_over st1 st2 other =
      record {
        hands = none_yet;
        says = record {
          normal = λ l z. absurd (omega arith);
          other = λ k l z. absurd (omega arith);
          past_eot_law = λ e. absurd (other e);
        };
      }

  -- The first tick.
  first_busy : has_track g cylinder order.side ≡ true
      → Gives (moving_of transfer.pass transfer id (record { drive = drive; side = order.side; disk = g }) emptied) untaken
  unfolding moving_of has_track
  first_busy t =
      let (on_disk, on_cylinder) = both (ltb cylinder g.cylinders) (ltb order.side g.heads) t in
      subst (λ (p : Pass). Gives (moving_of p transfer id (record {
        drive = drive;
        side = order.side;
        disk = g;
      }) emptied) untaken)
      (sym rd) (
        refl,
        record {
          num = λ j. j;
          n = 0;
          m = 0;
          trail = trail_fresh g cylinder drive transfer aim img;
          disk = refl;
          drive_is = refl;
          told_to = refl;
          clear = λ y j. refl;
          shown = λ k y. false≢true y;
          side = refl;
          id = refl;
          link = record {
            on_disk = ltb-true _ _ on_disk;
            on_cylinder = ltb-true _ _ on_cylinder;
            on_track = omega (arith, fits.range.slots.0);
          };
          reach = λ i l. absurd (omega arith);
          asks = some_emptied;
          flow = flow_fresh g cylinder transfer aim img (λ j. j);
        },
      )

  first_present : Gives (begin_of order (Some g) cylinder emptied) untaken
  unfolding begin_of entered_of gate_of start_job given_id end_of
  first_present = rw moves_it
      (by_test (not (has_track g cylinder order.side))
      (λ x. Gives (entered_of x (Move transfer id) drive order.side cylinder emptied) untaken) _ _
      (λ t. (refl, shut_over 0x01 0x00 (λ e. omega arith)))
      (λ t.
      by_test (changes (Move transfer id) && g.protect)
      (λ x. Gives (entered_of x (Move transfer id) drive order.side cylinder emptied) untaken) _ _
      (λ u. (refl, shut_over 0x02 0x00 (λ e. omega arith)))
      (λ u. first_busy (not-false (has_track g cylinder order.side) t))))

  first_absent : Gives (begin_of order None cylinder emptied) untaken
  unfolding begin_of entered_of gate_of given_id end_of
  first_absent = rw moves_it (refl, shut_over 0x01 0x00 (λ e. omega arith))

  first_step : (dor : ℕ) → Gives (begin_of order (seen_of dor drive img) cylinder emptied) untaken
  unfolding seen_of
  first_step dor =
      by_test (motor_in dor drive) (λ (d : Disk). Gives (begin_of order d cylinder emptied) untaken) _ _
      (λ t. rw disk first_present) (λ t. first_absent)

  abbrev lost : Site → Task → Verdict
  lost site task =
      record {
        st0 = st0_of false site.drive site.side;
        st1 = late_bit task.late + 0x01;
        st2 = other_bit task.other + 0x00;
        id = task.id;
      }

  -- A later tick.
  later_step : (efifo : Bool) (fifothr : ℕ) (site : Site) (task : Task) (stage : Stage) (f : Fifo) (t : Taken)
      (seen : Disk) → FitsFifo efifo f → WorksOn site task stage f t
      → Gives (go_on_of (Moving site task stage) seen cylinder img f efifo fifothr) t
  unfolding go_on_of work_step lost_of move_fails move_end end_of
  later_step efifo fifothr site task stage f t seen fit b =
      by_test (stays_of seen site.disk) (λ (o : Step). Gives o t) _ _
      (λ u.
      busy_rule g cylinder drive transfer aim img fits rd efifo fifothr b _ fit refl
      (transfer_rule cylinder img efifo fifothr site task f stage))
      (λ u. (
        refl,
        fails_over g cylinder drive transfer aim img site task (lost site task) 0x01 t
            (busy_hands g cylinder drive transfer aim img b) (record { st0 = refl; st1_is = refl; id = refl })
            (omega arith),
      ))

  abbrev Told : Controller → (t : Taken) → HandsSo t → Type 0
  Told c t h = Tells g cylinder transfer aim img h.num h.n t (result_byte 0 c) (result_byte 1 c) (result_byte 2 c) (result_id c)

  -- The record: the command is over, has not had its first tick, or is at it.
  pub data Run (c : Controller) (t : Taken) : Type 0 where
    is_over : at_work c.phase ≡ false → (h : HandsSo t) → (c.phase ≡ Answering true → Told c t h) → Run c t
    to_start : c.phase ≡ Starting order → (drive_at drive c.drives).head ≡ cylinder → t ≡ untaken → Run c t
    at_it : (site : Site) (task : Task) (stage : Stage) → c.phase ≡ Working (Moving site task stage)
        → (drive_at drive c.drives).head ≡ cylinder → WorksOn site task stage c.fifo t → Run c t

  hands_fresh : (t : Taken) → t ≡ untaken → HandsSo t
  hands_fresh t e = subst HandsSo (sym e) none_yet

  pub run_hands : {c : Controller} {t : Taken} → Run c t → HandsSo t
  run_hands (is_over w k s) = k
  run_hands {c} {t} (to_start p u e) = hands_fresh t e
  run_hands (at_it site task stage p u b) = busy_hands g cylinder drive transfer aim img b

  pub run_told : {c : Controller} {t : Taken} (r : Run c t) → c.phase ≡ Answering true → Told c t (run_hands r)
  unfolding run_hands
  run_told (is_over w k s) e = s e
  run_told (to_start p u z) e = absurd (true≢false (ap at_work (sym p ∙ e)))
  run_told (at_it site task stage p u b) e = absurd (true≢false (ap at_work (sym p ∙ e)))

  settled_run : (then : Then) (f : Fifo) (c : Controller) (t : Taken) → (drive_at drive c.drives).head ≡ cylinder
      → OnThen g cylinder drive transfer aim img then f t → Run (settled_of then f c) t
  unfolding settled_of answered_of with_fifo with_phase
  settled_run (Ends verdict) f c t u k = is_over refl k.hands (λ e. k.says)
  settled_run (Works (Identifying site slot looks)) f c t u k = absurd k
  settled_run (Works (Moving site task stage)) f c t u k = at_it site task stage refl u k
  settled_run (Works (Formatting site plan form)) f c t u k = absurd k

  stored_same : (a b : ℕ) (effect : Effect) → effect ≡ None → stored_as a b effect img ≡ img
  stored_same a b effect e =
      by_test (eqb a b) (λ (l : List ℕ). l ≡ img) _ _ (λ t. rw e) (λ t. refl)

  tick_run : (a b : List ℕ) (c : Controller) (t : Taken) (d : ℕ) (o : Step) → ruled_of a b c ≡ decided_of d o c
      → (drive_at drive c.drives).head ≡ cylinder → Gives o t
      → (image_by drive img (ticks a b) c ≡ img) × Run (after (ticks a b) c) t
  unfolding answer_to tick_of answer_of image_after decided_of
  tick_run a b c t d o e u k =
      subst (λ (x : Decision). (stored_as x.drive drive x.effect img ≡ img) × Run x.controller t) (sym e)
      (stored_same d drive o.effect k.0, settled_run o.then o.fifo c t u k.1)

  head_is : (c : Controller) → (drive_at drive c.drives).head ≡ cylinder
      → (drive_at (drive % 4) c.drives).head ≡ cylinder
  head_is c u = rw (mod-eq_of_lt {n = drive} {m = 4} hd) u

  empty_start : (p : Phase) (n : ℕ) (f : Fifo) → p ≡ Starting order → Suits p n f → f ≡ emptied
  empty_start p n f e s = (rw e at s).1

  run_tick : (a b : List ℕ) (c : Controller) (t : Taken) → Quiet c → at_work c.phase ≡ true
      → pick_of drive a b ≡ img → Run c t → (image_by drive img (ticks a b) c ≡ img) × Run (after (ticks a b) c) t
  run_tick a b c t q w e (is_over n k s) = absurd (false≢true (sym n ∙ w))
  run_tick a b c t q w e (to_start p u f) =
      tick_run a b c t drive _ (tick_starts a b c order q p) u
      (rw (e, f, head_is c u, empty_start c.phase _ c.fifo p q.good.phase) (first_step c.registers.dor))
  run_tick a b c t q w e (at_it site task stage p u k) =
      let lent : pick_of site.drive a b ≡ img = ap (λ (d : ℕ). pick_of d a b) k.drive_is ∙ e in
      let head : (drive_at (site.drive % 4) c.drives).head ≡ cylinder =
      ap (λ (d : ℕ). (drive_at (d % 4) c.drives).head) k.drive_is ∙ head_is c u in
      tick_run a b c t site.drive _ (tick_works a b c (Moving site task stage) q p) u
      (rw (lent, head)
      (later_step c.registers.efifo c.registers.fifothr site task stage c.fifo t _ q.good.fifo k))

  -- A byte to the host.
  busy_taken : (efifo tc : Bool) (site : Site) (task : Task) (stage : Stage) (f : Fifo) (t : Taken) → FitsFifo efifo f
      → f.asks ≡ true → WorksOn site task stage f t
      → WorksOn site task stage (taken_of tc f) (took_one (front_of f) tc t)
  busy_taken efifo tc site task stage f t fit a b =
      record {
        num = b.num;
        n = b.n;
        m = b.m;
        trail = b.trail;
        disk = b.disk;
        drive_is = b.drive_is;
        told_to = b.told_to;
        clear = b.clear;
        shown = b.shown;
        side = b.side;
        id = b.id;
        link = b.link;
        reach = b.reach;
        asks = some_taken tc f;
        flow = flow_take g cylinder transfer aim img b.num efifo _ b.n _ f t fit tc b.flow
            (done_most g cylinder drive transfer aim img _ _ stage b.link) a b.asks;
      }

  -- it takes no byte from the host
  not_from_host : (site : Site) (task : Task) (stage : Stage) (f : Fifo) (t : Taken) (p : Phase) {A : Type 0}
      → WorksOn site task stage f t → p ≡ Working (Moving site task stage) → phase_from_host p ≡ true → A
  not_from_host site task stage f t p b e h =
      let pass : task.transfer.pass ≡ Read = ap (λ (x : Transfer). x.pass) b.told_to ∙ rd in
      let h' : from_host (pass_flow task.transfer.pass) ≡ true = rw e at h in
      absurd (false≢true (sym (ap (λ (x : Pass). from_host (pass_flow x)) pass) ∙ h'))

  -- A call that may hand over a byte.
  taken_run : (call : Call) (c e : Controller) (t : Taken) → Quiet c → at_work c.phase ≡ true → Keeps c e
      → TakenRule call c e → Run c t → Run e (taken_by call c t)
  taken_run call c e t q w k r (is_over n d s) = absurd (false≢true (sym n ∙ w))
  taken_run call c e t q w k (none_taken f n) (to_start p u z) =
      to_start (k.phase ∙ p) (k.heads drive hd ∙ u) (n t ∙ z)
  taken_run call c e t q w k (one_taken tc h a f n) (to_start p u z) = absurd (false≢true (rw p at h))
  taken_run call c e t q w k (none_taken f n) (at_it site task stage p u b) =
      at_it site task stage (k.phase ∙ p) (k.heads drive hd ∙ u) (rw (f, n t) b)
  taken_run call c e t q w k (one_taken tc h a f n) (at_it site task stage p u b) =
      at_it site task stage (k.phase ∙ p) (k.heads drive hd ∙ u)
      (rw (f, n t) (busy_taken c.registers.efifo tc site task stage c.fifo t q.good.fifo a b))

  -- Any other call that is no tick.
  kept_run : (call : Call) (c e : Controller) (t : Taken) → at_work c.phase ≡ true → (MayTake call → ⊥)
      → Keeps c e → FifoRule call c e → Run c t → Run e t
  kept_run call c e t w bare k r (is_over n d s) = absurd (false≢true (sym n ∙ w))
  kept_run call c e t w bare k r (to_start p u z) = to_start (k.phase ∙ p) (k.heads drive hd ∙ u) z
  kept_run call c e t w bare k (same f n) (at_it site task stage p u b) =
      at_it site task stage (k.phase ∙ p) (k.heads drive hd ∙ u) (rw f b)
  kept_run call c e t w bare k (took tc m h f n) (at_it site task stage p u b) = absurd (bare m)
  kept_run call c e t w bare k (gave byte tc h a f n) (at_it site task stage p u b) =
      not_from_host site task stage c.fifo t c.phase b p h

  other_run : (call : Call) (c : Controller) (t : Taken) → Quiet c → at_work c.phase ≡ true → NoTick call
      → (MayTake call → ⊥) → Run c t → Run (after call c) t
  other_run call c t q w n bare r = go (call_rule call c q w n)
    where
      go : CallRule call c (after call c) → Run (after call c) t
      go (cut_off o h) = is_over (ap at_work o) (run_hands r) (λ e. absurd (idle≢answering true (sym o ∙ e)))
      go (goes_on_lem k f) = kept_run call c (after call c) t w bare k f r

  run_after : (call : Call) (c : Controller) (t : Taken) → Quiet c → at_work c.phase ≡ true
      → Handed drive img call → Run c t
      → (image_by drive img call c ≡ img) × Run (after call c) (taken_by call c t)
  unfolding taken_by
  run_after call c t q w e r =
      taking_or_not
      (λ x. Handed drive img x → (image_by drive img x c ≡ img) × Run (after x c) (taken_by x c t))
      (λ a b e. run_tick a b c t q w e r)
      (λ x n may e. (
        image_same drive img x c n,
        taken_run x c (after x c) t q w (calm_keeps x c q w n (may_calm x may)) (taken_rule c q w x may) r,
      ))
      (λ x n bare e. (image_same drive img x c n, rw (none_handed x c t bare) (other_run x c t q w n bare r))) call e

  pub run_all : (calls : List Call) (c : Controller) (t : Taken) → Quiet c → Its calls c
      → Alone drive img calls c → Run c t
      → (image_left drive img calls c ≡ img) × Run (run_calls calls c) (taken_over calls c t)
  unfolding Its Alone image_left taken_over run_calls
  run_all [] c t q i a r = (refl, r)
  run_all (call ∷ calls) c t q i a r =
      let (handed_it, alone) = a i.0 in
      let (same_img, run) = run_after call c t q i.0 handed_it r in
      let alone' : Alone drive img calls (after call c) =
      subst (λ (x : List ℕ). Alone drive x calls (after call c)) same_img alone in
      let (left, end) = run_all calls (after call c) (taken_by call c t) (quiet_after call c q i.0) i.1 alone' run in
      (ap (λ (x : List ℕ). image_left drive x calls (after call c)) same_img ∙ left, end)

pub handed_over_quiet : HandedOver Quiet
handed_over_quiet c quiet order transfer id r img g disk calls its alone =
    let (hd, hs, job) = rw r.accepted at quiet.proper in
    let (left, run) =
    run_all g (head_of order c) order transfer id img disk r.moves r.reads hd calls c untaken quiet its alone
    (to_start r.accepted refl refl) in
    record {
      image = left;
      hands = run_hands g (head_of order c) order transfer id img disk r.moves r.reads hd run;
      ends = run_told g (head_of order c) order transfer id img disk r.moves r.reads hd run;
    }

-- SK 0: the k-th byte is byte k mod P of the command's sector k div P
pub handed_plain_quiet : HandedPlain Quiet
handed_plain_quiet c quiet order transfer id r sk img g disk calls its alone k l =
    let h = (handed_over_quiet c quiet order transfer id r img g disk calls its alone).hands in
    let b = h.bytes k l in
    record {
      at = b.at;
      stands = subst (λ (m : ℕ).
          Stands g img (head_of order c) (aim_no transfer (record { id = id; side = order.side }) m) b.at)
          (h.ways.plain sk (k / passing g)) b.stands;
      reach = subst (InReach transfer (record { id = id; side = order.side })) (h.ways.plain sk (k / passing g)) b.reach;
      is = b.is;
    }

pub handed_over : HandedOver Real
handed_over c r = handed_over_quiet c (quiet_real c r)

pub handed_plain : HandedPlain Real
handed_plain c r = handed_plain_quiet c (quiet_real c r)
