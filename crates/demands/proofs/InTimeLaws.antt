-- Served in time (specs/InTime), over every list of calls: what the FIFO holds while the request is off, tick by tick
-- and call by call, and why no transfer then ends with ST1's bit 10.
-- Assumes nothing.
use Rattle.std.specs.Prelude.{None, Some}
use Prim.Native.Nat.{ℕ, ◌+◌, ◌<◌}
use native.Mathlib.Omega.{arith}
use mathlib.Core.Bool.{Bool, true, false, ◌&&◌, not, true≢false, false≢true}
use mathlib.Core.List.{List, [], ◌∷◌}
use mathlib.Core.Logic.{◌⊎◌, inl, inr}
use mathlib.Core.Path.{◌≡◌, refl, sym, ap, ◌∙◌}
use lib.Dec.{eqb}
use Rattle.image.proofs.TestLaws.{by_test}
use Rattle.image.specs.Disk.{Disk}
use Rattle.image.specs.Lent.{Effect}
use Rattle.image.specs.declared.slot.Id.{Id}
use Rattle.chip.specs.declared.fifo.Fifo.{Fifo}
use Rattle.chip.specs.Fifo.{emptied, taken_of, given_of}
use Rattle.sectors.specs.declared.order.Job.TheVariants.{Move}
use Rattle.sectors.specs.declared.order.Order.{Order}
use Rattle.sectors.specs.declared.order.Pass.{Pass}
use Rattle.sectors.specs.declared.order.Pass.TheVariants.{Read, Write}
use Rattle.sectors.specs.declared.order.Transfer.{Transfer}
use Rattle.sectors.specs.declared.work.Site.{Site}
use Rattle.sectors.specs.declared.work.Stage.{Stage}
use Rattle.sectors.specs.declared.work.Stage.TheVariants.{Searching, Turning, Reading, Draining, Awaiting, Storing}
use Rattle.sectors.specs.declared.work.Step.{Step}
use Rattle.sectors.specs.declared.work.Task.{Task}
use Rattle.sectors.specs.declared.work.Then.{Then}
use Rattle.sectors.specs.declared.work.Then.TheVariants.{Ends, Works}
use Rattle.sectors.specs.declared.work.Verdict.{Verdict}
use Rattle.sectors.specs.declared.work.Work.{Work}
use Rattle.sectors.specs.declared.work.Work.TheVariants.{Identifying, Moving, Formatting}
use Rattle.sectors.specs.Result.{late_bit, end_of, move_end, move_fails}
use Rattle.sectors.specs.Track.{has_track, stays_of}
use Rattle.engine.specs.First.{changes, gate_of, moving_of, start_job, entered_of, begin_of}
use Rattle.engine.specs.Step.{to_host, from_host, lost_of, work_step, go_on_of, pass_flow}
use Rattle.fdc.specs.declared.record.Controller.{Controller}
use Rattle.fdc.specs.declared.record.Phase.{Phase}
use Rattle.fdc.specs.declared.record.Phase.TheVariants.{Idle, Gathering, Starting, Working, Sensing, Answering}
use Rattle.fdc.specs.declared.ticks.Decision.{Decision}
use Rattle.reached.specs.Good.{Suits}
use Rattle.fdc.specs.Commands.{answered_of}
use Rattle.fdc.specs.Record.{with_fifo, with_phase}
use Rattle.reached.specs.Runs.{Call, ticks, after, run_calls}
use Rattle.fdc.specs.Ticks.{settled_of, decided_of, ruled_of}
use Rattle.demands.specs.Acknowledged.{result_byte}
use Rattle.demands.specs.InTime.{Late, LatePhase, AtTick, AtTicks, Timely, InTime, RequestOff, Prompt, late_in, PromptInTime, NeverLate}
use Rattle.demands.specs.Work.{at_work, Its, Real}
use Rattle.demands.proofs.CallLaws.{tick_starts, tick_works, call_rule, after_tick}
use Rattle.demands.proofs.CallRules.{NoTick, FifoRule, same, took, gave, Keeps, CallRule, cut_off, goes_on_lem}
use Rattle.demands.proofs.SplitLaws.{tick_or_not, at_tick_map}
use Rattle.demands.specs.Quiet.{Quiet}
use Rattle.demands.proofs.QuietLaws.{quiet_real, quiet_after}
use Rattle.demands.proofs.RequestLaws.{test_off, ReadServed, off_room, read_empty, read_taken, OffEmpty, off_empty_taken, read_filled, last_filled, WriteServed, ToldSome, write_opened, told_opened, write_given, told_given, write_drawn}
use Rattle.demands.proofs.TickRules.{NextEnds, NextRule, stops, turns, steps, Rule, not_found, no_data, no_side, late, misses, passes, to_write, to_read, skips, turned_over, waits, begins, puts, pads, dries, ends_short, finishes, moves, moves_last, overruns, overruns_last, drains, data_error, ends_late, other_kind, drained, transfer_rule}
use Rattle.demands.proofs.PowerCutLaws.{idle≢answering}

-- A read at a stage, and a write: the stages of the other there are none.

abbrev ReadAt : Fifo → Stage → Type 0
ReadAt f (Searching look) = Unit {0}
ReadAt f (Turning slot) = Unit {0}
ReadAt f (Reading sector done) = Unit {0}
ReadAt f (Draining sector looks) = OffEmpty f
ReadAt f (Awaiting slot wait) = ⊥
ReadAt f (Storing slot done) = ⊥

abbrev WriteAt : Fifo → Stage → Type 0
WriteAt f (Searching look) = ToldSome f
WriteAt f (Turning slot) = ToldSome f
WriteAt f (Reading sector done) = ⊥
WriteAt f (Draining sector looks) = ⊥
WriteAt f (Awaiting slot wait) = ToldSome f
WriteAt f (Storing slot done) = Unit {0}

abbrev Served : Pass → Bool → ℕ → Fifo → Stage → Type 0
Served Read efifo fifothr f stage = ReadServed efifo fifothr f × ReadAt f stage
Served Write efifo fifothr f stage = WriteServed f × WriteAt f stage

-- with the request off nothing is late
read_timely : (efifo : Bool) (fifothr : ℕ) (site : Site) (task : Task) (f : Fifo) (stage : Stage)
    → Served Read efifo fifothr f stage → f.asks ≡ false → Late efifo site task f stage → ⊥
read_timely efifo fifothr site task f (Searching look) s a l = l
read_timely efifo fifothr site task f (Turning slot) s a l = l
read_timely efifo fifothr site task f (Reading sector done) s a l =
    true≢false (sym l.1 ∙ off_room efifo fifothr f s.0 a)
read_timely efifo fifothr site task f (Draining sector looks) s a l = omega (arith, s.1 a, l.0)
read_timely efifo fifothr site task f (Awaiting slot wait) s a l = s.1
read_timely efifo fifothr site task f (Storing slot done) s a l = s.1

write_timely : (efifo : Bool) (fifothr : ℕ) (site : Site) (task : Task) (f : Fifo) (stage : Stage)
    → Served Write efifo fifothr f stage → f.asks ≡ false → Late efifo site task f stage → ⊥
write_timely efifo fifothr site task f (Searching look) s a l = l
write_timely efifo fifothr site task f (Turning slot) s a l = l
write_timely efifo fifothr site task f (Reading sector done) s a l = s.1
write_timely efifo fifothr site task f (Draining sector looks) s a l = s.1
write_timely efifo fifothr site task f (Awaiting slot wait) s a l = go (s.0.some a)
  where
    go : (0 < f.count) ⊎ (f.tc ≡ true) → ⊥
    go (inl p) = omega (arith, l.0)
    go (inr t) = omega (arith, l.0, s.1 t)
write_timely efifo fifothr site task f (Storing slot done) s a l = go (s.0.some a)
  where
    go : (0 < f.count) ⊎ (f.tc ≡ true) → ⊥
    go (inl p) = omega (arith, l.1)
    go (inr t) = true≢false (sym t ∙ l.2)

served_timely : (pass : Pass) (efifo : Bool) (fifothr : ℕ) (site : Site) (task : Task) (f : Fifo) (stage : Stage)
    → Served pass efifo fifothr f stage → f.asks ≡ false → Late efifo site task f stage → ⊥
served_timely Read efifo fifothr site task f stage s a l = read_timely efifo fifothr site task f stage s a l
served_timely Write efifo fifothr site task f stage s a l = write_timely efifo fifothr site task f stage s a l

-- What a tick gives: it goes on with no byte late, or it is over, without ST1's bit 10.

abbrev OnWork : Bool → ℕ → Work → Fifo → Type 0
OnWork efifo fifothr (Identifying site slot looks) f = ⊥
OnWork efifo fifothr (Moving site task stage) f =
    Served task.transfer.pass efifo fifothr f stage × (task.late ≡ false)
OnWork efifo fifothr (Formatting site plan form) f = ⊥

abbrev OnThen : Bool → ℕ → Then → Fifo → Type 0
OnThen efifo fifothr (Ends verdict) f = late_in verdict.st1 ≡ false
OnThen efifo fifothr (Works work) f = OnWork efifo fifothr work f

abbrev Gives : Bool → ℕ → Step → Type 0
Gives efifo fifothr o = OnThen efifo fifothr o.then o.fifo

read≢write : Read ≡ Write → ⊥
read≢write e = let z : ◌≡◌ {A = ℕ} 0 1 = cc in omega arith

module _ (efifo : Bool) (fifothr : ℕ) where
  -- 01 Next
  next_on_time : (tc : Bool) (site : Site) (task : Task) (verdict : Verdict) → task.late ≡ false
      → NextEnds tc site task verdict → late_in verdict.st1 ≡ false
  next_on_time true site task verdict n v = rw (v.st1, n)
  next_on_time false site task verdict n v = rw (v.st1, n)

  read_next : (tc : Bool) (slot : ℕ) (site : Site) (task : Task) (f : Fifo) (effect : Effect) (o : Step)
      → task.transfer.pass ≡ Read → task.late ≡ false → ReadServed efifo fifothr f
      → NextRule tc slot site task f effect o → Gives efifo fifothr o
  read_next tc slot site task f effect o r n s (stops verdict v e) = rw e (next_on_time tc site task verdict n v)
  read_next tc slot site task f effect o r n s (turns u a b c e) = rw (e, r) ((s, tt), n)
  read_next tc slot site task f effect o r n s (steps u a e) = rw (e, r) ((s, tt), n)

  write_next : (slot : ℕ) (site : Site) (task : Task) (f : Fifo) (effect : Effect) (o : Step)
      → task.transfer.pass ≡ Write → task.late ≡ false → WriteServed f
      → NextRule (f.tc && eqb f.count 0) slot site task f effect o → Gives efifo fifothr o
  write_next slot site task f effect o r n s (stops verdict v e) = rw e (next_on_time _ site task verdict n v)
  write_next slot site task f effect o r n s (turns u a b c e) = rw (e, r) ((s, test_off f.tc f.count u), n)
  write_next slot site task f effect o r n s (steps u a e) = rw (e, r) ((s, test_off f.tc f.count u), n)

  -- 01 Search: the ends of a search that failed
  sought : (task : Task) (x : ℕ) (verdict : Verdict) → task.late ≡ false → (x ≡ 0x01) ⊎ (x ≡ 0x04)
      → verdict.st1 ≡ late_bit task.late + x → late_in verdict.st1 ≡ false
  sought task x verdict n (inl z) q = rw (q, n, z)
  sought task x verdict n (inr z) q = rw (q, n, z)

  module _ (head : ℕ) (img : List ℕ) (site : Site) (task : Task) (f : Fifo) (stage : Stage) (o : Step)
      (timely : Late efifo site task f stage → ⊥) (n : task.late ≡ false) where
    -- 01 Search, Read
    read_gives : task.transfer.pass ≡ Read → Served Read efifo fifothr f stage
        → Rule head img efifo fifothr site task f stage o → Gives efifo fifothr o
    read_gives r (s, at) (not_found look verdict p h l k x y v e) = rw e (sought task x verdict n y v.st1_is)
    read_gives r (s, at) (no_data look verdict p h k m v e) = rw e (rw (v.st1_is, n))
    read_gives r (s, at) (no_side slot verdict p ns v e) = rw e (rw (v.st1_is, n))
    read_gives r (s, at) (late verdict v l w e) = absurd (timely l)
    read_gives r (s, at) (misses look on p h l a b e) = rw (e, r) ((s, tt), n)
    read_gives r (s, at) (passes look on p h l z a b e) = rw (e, r) ((s, tt), n)
    read_gives r (s, at) (to_write look p h w e) = absurd (read≢write (sym r ∙ w))
    read_gives r (s, at) (to_read look deleted broken other p h w m d ns e) = rw (e, r) ((s, tt), n)
    read_gives r (s, at) (skips look deleted broken p h w m d k y) =
        read_next _ look.slot site _ f _ o r n s y
    read_gives r (s, at) (turned_over slot p e) = rw (e, r) ((s, tt), n)
    read_gives r (s, at) (waits slot wait p l e) = absurd (rw p at at)
    read_gives r (s, at) (begins slot wait p l e) = absurd (rw p at at)
    read_gives r (s, at) (puts slot done p l c e) = absurd (rw p at at)
    read_gives r (s, at) (pads slot done p l c t e) = absurd (rw p at at)
    read_gives r (s, at) (dries slot done p l c t e) = absurd (rw p at at)
    read_gives r (s, at) (ends_short slot done verdict p l x y v e) = absurd (rw p at at)
    read_gives r (s, at) (finishes slot done p l x y) = absurd (rw p at at)
    read_gives r (s, at) (moves sector done f' p l x e) =
        rw (e, r, x.after) ((read_filled efifo fifothr _ f s x.room false, tt), n)
    read_gives r (s, at) (moves_last sector done f' p l x e) =
        rw (e, r, x.after)
        ((read_filled efifo fifothr _ f s x.room true, last_filled efifo fifothr _ f s x.room), n)
    read_gives r (s, at) (overruns sector done p l x y e) = absurd ((rw p at timely) (x, y))
    read_gives r (s, at) (overruns_last sector done p l x y e) = absurd ((rw p at timely) (x, y))
    read_gives r (s, at) (drains sector looks p l e) = rw (e, r) ((s, rw p at at), n)
    read_gives r (s, at) (data_error sector looks verdict p b y v e) = rw e (rw (v.st1_is, n))
    read_gives r (s, at) (ends_late sector looks verdict p b x v e) = absurd (true≢false (sym x ∙ n))
    read_gives r (s, at) (other_kind sector looks verdict p b x z ok os v zc e) = rw e (rw z)
    read_gives r (s, at) (drained sector looks p b x ok zc y) = read_next _ sector.slot site task f _ o r n s y

    -- 01 Search, Write
    write_gives : task.transfer.pass ≡ Write → Served Write efifo fifothr f stage
        → Rule head img efifo fifothr site task f stage o → Gives efifo fifothr o
    write_gives r (s, at) (not_found look verdict p h l k x y v e) = rw e (sought task x verdict n y v.st1_is)
    write_gives r (s, at) (no_data look verdict p h k m v e) = rw e (rw (v.st1_is, n))
    write_gives r (s, at) (no_side slot verdict p ns v e) = rw e (rw (v.st1_is, n))
    write_gives r (s, at) (late verdict v l w e) = absurd (timely l)
    write_gives r (s, at) (misses look on p h l a b e) = rw (e, r) ((s, rw p at at), n)
    write_gives r (s, at) (passes look on p h l z a b e) = rw (e, r) ((s, rw p at at), n)
    write_gives r (s, at) (to_write look p h w e) = rw (e, r) ((s, rw p at at), n)
    write_gives r (s, at) (to_read look deleted broken other p h w m d ns e) = absurd (read≢write (sym w ∙ r))
    write_gives r (s, at) (skips look deleted broken p h w m d k n) = absurd (read≢write (sym w ∙ r))
    write_gives r (s, at) (turned_over slot p e) = rw (e, r) ((s, rw p at at), n)
    write_gives r (s, at) (waits slot wait p l e) = rw (e, r) ((s, rw p at at), n)
    write_gives r (s, at) (begins slot wait p l e) = rw (e, r) ((s, tt), n)
    write_gives r (s, at) (puts slot done p l c e) = rw (e, r) ((write_drawn efifo fifothr f, tt), n)
    write_gives r (s, at) (pads slot done p l c t e) = rw (e, r) ((s, tt), n)
    write_gives r (s, at) (dries slot done p l c t e) = absurd ((rw p at timely) (l, c, t))
    write_gives r (s, at) (ends_short slot done verdict p l x y v e) = absurd (true≢false (sym x ∙ n))
    write_gives r (s, at) (finishes slot done p l x y) = write_next slot site task f _ o r n s y
    write_gives r (s, at) (moves sector done f' p l x e) = absurd (rw p at at)
    write_gives r (s, at) (moves_last sector done f' p l x e) = absurd (rw p at at)
    write_gives r (s, at) (overruns sector done p l x y e) = absurd (rw p at at)
    write_gives r (s, at) (overruns_last sector done p l x y e) = absurd (rw p at at)
    write_gives r (s, at) (drains sector looks p l e) = absurd (rw p at at)
    write_gives r (s, at) (data_error sector looks verdict p b y v e) = absurd (rw p at at)
    write_gives r (s, at) (ends_late sector looks verdict p b x v e) = absurd (rw p at at)
    write_gives r (s, at) (other_kind sector looks verdict p b x z ok os v zc e) = absurd (rw p at at)
    write_gives r (s, at) (drained sector looks p b x ok zc y) = absurd (rw p at at)

    rule_gives : (pass : Pass) → task.transfer.pass ≡ pass → Served pass efifo fifothr f stage
        → Rule head img efifo fifothr site task f stage o → Gives efifo fifothr o
    rule_gives Read r s k = read_gives r s k
    rule_gives Write r s k = write_gives r s k

  -- a later tick
  later_gives : (site : Site) (task : Task) (stage : Stage) (seen : Disk) (head : ℕ) (img : List ℕ) (f : Fifo)
      → (Late efifo site task f stage → ⊥) → task.late ≡ false → Served task.transfer.pass efifo fifothr f stage
      → Gives efifo fifothr (go_on_of (Moving site task stage) seen head img f efifo fifothr)
  unfolding go_on_of work_step lost_of move_fails move_end end_of
  later_gives site task stage seen head img f timely n s =
      by_test (stays_of seen site.disk) (Gives efifo fifothr) _ _
      (λ t. rule_gives head img site task f stage _ timely n task.transfer.pass refl s
      (transfer_rule head img efifo fifothr site task f stage))
      (λ t. rw n)

  -- the first tick
  moving_gives : (pass : Pass) (transfer : Transfer) (id : Id) (site : Site) → transfer.pass ≡ pass
      → Gives efifo fifothr (moving_of pass transfer id site emptied)
  unfolding moving_of
  moving_gives Read transfer id site r = rw r ((read_empty efifo fifothr, tt), refl)
  moving_gives Write transfer id site r = rw r ((write_opened, told_opened), refl)

  first_gives : (order : Order) (transfer : Transfer) (id : Id) → order.job ≡ Move transfer id → (disk : Disk)
      (head : ℕ) → Gives efifo fifothr (begin_of order disk head emptied)
  unfolding begin_of entered_of gate_of start_job end_of
  first_gives order transfer id j None head = refl
  first_gives order transfer id j (Some g) head = rw j
      (by_test (not (has_track g head order.side))
      (λ x. Gives efifo fifothr (entered_of x (Move transfer id) order.drive order.side head emptied)) _ _
      (λ t. refl)
      (λ t.
      by_test (changes (Move transfer id) && g.protect)
      (λ x. Gives efifo fifothr (entered_of x (Move transfer id) order.drive order.side head emptied)) _ _
      (λ u. refl)
      (λ u. moving_gives transfer.pass transfer id _ refl)))

-- The record: the transfer has not had its first tick, is at it with no byte late, or is over, without ST1's bit 10.
module _ (order : Order) (transfer : Transfer) (id : Id) (job : order.job ≡ Move transfer id) where
  data Runs (c : Controller) : Type 0 where
    starts : c.phase ≡ Starting order → Runs c
    works : (site : Site) (task : Task) (stage : Stage) → c.phase ≡ Working (Moving site task stage)
        → Served task.transfer.pass c.registers.efifo c.registers.fifothr c.fifo stage
        → task.late ≡ false → Runs c
    over : at_work c.phase ≡ false → (c.phase ≡ Answering true → late_in (result_byte 1 c) ≡ false) → Runs c

  settled_runs : (then : Then) (f : Fifo) (c : Controller)
      → OnThen c.registers.efifo c.registers.fifothr then f → Runs (settled_of then f c)
  unfolding settled_of answered_of with_fifo with_phase
  settled_runs (Ends verdict) f c k = over refl (λ e. k)
  settled_runs (Works (Identifying site slot looks)) f c k = absurd k
  settled_runs (Works (Moving site task stage)) f c k = works site task stage refl k.0 k.1
  settled_runs (Works (Formatting site plan form)) f c k = absurd k

  tick_runs : (a b : List ℕ) (c : Controller) (drive : ℕ) (o : Step) → ruled_of a b c ≡ decided_of drive o c
      → Gives c.registers.efifo c.registers.fifothr o → Runs (after (ticks a b) c)
  unfolding decided_of
  tick_runs a b c drive o e k =
      rw (after_tick a b c ∙ ap (λ (d : Decision). d.controller) e) (settled_runs o.then o.fifo c k)

  empty_start : (p : Phase) (n : ℕ) (f : Fifo) → p ≡ Starting order → Suits p n f → f ≡ emptied
  empty_start p n f e s = (rw e at s).1

  run_tick : (a b : List ℕ) (c : Controller) → Quiet c → at_work c.phase ≡ true → Timely c → Runs c
      → Runs (after (ticks a b) c)
  run_tick a b c q w t (starts p) =
      tick_runs a b c order.drive _ (tick_starts a b c order q p)
      (rw (empty_start c.phase _ c.fifo p q.good.phase) (first_gives _ _ order transfer id job _ _))
  run_tick a b c q w t (works site task stage p s n) =
      tick_runs a b c site.drive _ (tick_works a b c (Moving site task stage) q p)
      (later_gives _ _ site task stage _ _ _ c.fifo (rw p at t) n s)
  run_tick a b c q w t (over n k) = absurd (false≢true (sym n ∙ w))

  -- a call that is no tick
  taken_served : (pass : Pass) (efifo : Bool) (fifothr : ℕ) (tc : Bool) (f : Fifo) (stage : Stage)
      → to_host (pass_flow pass) ≡ true → Served pass efifo fifothr f stage
      → Served pass efifo fifothr (taken_of tc f) stage
  taken_served Read efifo fifothr tc f stage t (s, at) = (read_taken efifo fifothr tc f s, go stage at)
    where
      go : (stage : Stage) → ReadAt f stage → ReadAt (taken_of tc f) stage
      go (Searching look) k = tt
      go (Turning slot) k = tt
      go (Reading sector done) k = tt
      go (Draining sector looks) k = off_empty_taken tc f k
      go (Awaiting slot wait) k = absurd k
      go (Storing slot done) k = absurd k
  taken_served Write efifo fifothr tc f stage t s = absurd (false≢true t)

  given_served : (pass : Pass) (efifo : Bool) (fifothr : ℕ) (tc : Bool) (byte : ℕ) (f : Fifo) (stage : Stage)
      → from_host (pass_flow pass) ≡ true → Served pass efifo fifothr f stage
      → Served pass efifo fifothr (given_of efifo tc byte f) stage
  given_served Read efifo fifothr tc byte f stage t s = absurd (false≢true t)
  given_served Write efifo fifothr tc byte f stage t (s, at) = (write_given efifo tc byte f s, go stage at)
    where
      go : (stage : Stage) → WriteAt f stage → WriteAt (given_of efifo tc byte f) stage
      go (Searching look) k = told_given efifo tc byte f k
      go (Turning slot) k = told_given efifo tc byte f k
      go (Reading sector done) k = absurd k
      go (Draining sector looks) k = absurd k
      go (Awaiting slot wait) k = told_given efifo tc byte f k
      go (Storing slot done) k = tt

  kept_runs : (call : Call) (c e : Controller) → at_work c.phase ≡ true → Keeps c e → FifoRule call c e → Runs c
      → Runs e
  kept_runs call c e w k r (starts p) = starts (k.phase ∙ p)
  kept_runs call c e w k (same f n) (works site task stage p s y) =
      works site task stage (k.phase ∙ p) (rw (k.efifo, k.fifothr, f) s) y
  kept_runs call c e w k (took tc m t f n) (works site task stage p s y) =
      works site task stage (k.phase ∙ p)
      (rw (k.efifo, k.fifothr, f) (taken_served task.transfer.pass _ _ tc c.fifo stage (rw p at t) s)) y
  kept_runs call c e w k (gave byte tc t a f n) (works site task stage p s y) =
      works site task stage (k.phase ∙ p)
      (rw (k.efifo, k.fifothr, f) (given_served task.transfer.pass _ _ _ byte c.fifo stage (rw p at t) s)) y
  kept_runs call c e w k r (over n z) = absurd (false≢true (sym n ∙ w))

  call_runs : (call : Call) (c : Controller) → Quiet c → at_work c.phase ≡ true → NoTick call → Runs c
      → Runs (after call c)
  call_runs call c q w n r = go (call_rule call c q w n)
    where
      go : CallRule call c (after call c) → Runs (after call c)
      go (cut_off o h) = over (ap at_work o) (λ e. absurd (idle≢answering true (sym o ∙ e)))
      go (goes_on_lem k f) = kept_runs call c (after call c) w k f r

  runs_after : (call : Call) (c : Controller) → Quiet c → at_work c.phase ≡ true → AtTick Timely call c → Runs c
      → Runs (after call c)
  runs_after call c q w t r =
      tick_or_not
      (λ x. AtTick Timely x c → Runs (after x c))
      (λ a b t. run_tick a b c q w t r)
      (λ x n t. call_runs x c q w n r) call t

  -- 01 FIFO: with the request off a tick finds no byte late
  off_timely : (c : Controller) → Runs c → RequestOff c → Timely c
  off_timely c (starts p) a = rw p (λ l. l)
  off_timely c (works site task stage p s n) a =
      rw p (served_timely task.transfer.pass _ _ site task c.fifo stage s a)
  off_timely c (over n k) a = quiet_timely c.phase n
    where
      quiet_timely : (p : Phase) → at_work p ≡ false → LatePhase c.registers.efifo c.fifo p → ⊥
      quiet_timely Idle n l = l
      quiet_timely (Gathering entry) n l = l
      quiet_timely (Starting order) n l = l
      quiet_timely (Working work) n l = true≢false n
      quiet_timely (Sensing unit) n l = l
      quiet_timely (Answering loud) n l = l

  call_timely : (call : Call) (c : Controller) → Runs c → AtTick RequestOff call c → AtTick Timely call c
  call_timely call c r a = at_tick_map RequestOff Timely call c (off_timely c r) a

  all_timely : (calls : List Call) (c : Controller) → Quiet c → Runs c → Prompt calls c → InTime calls c
  unfolding AtTicks
  all_timely [] c q r p = tt
  all_timely (call ∷ calls) c q r p = λ w.
      let (now, later) = p w in
      let t = call_timely call c r now in
      (t, all_timely calls (after call c) (quiet_after call c q w) (runs_after call c q w t r) later)

  all_run : (calls : List Call) (c : Controller) → Quiet c → Runs c → Its calls c → InTime calls c
      → Runs (run_calls calls c)
  unfolding AtTicks Its run_calls
  all_run [] c q r i t = r
  all_run (call ∷ calls) c q r i t =
      let (now, later) = t i.0 in
      all_run calls (after call c) (quiet_after call c q i.0) (runs_after call c q i.0 now r) i.1 later

  never : (c : Controller) → Runs c → c.phase ≡ Answering true → late_in (result_byte 1 c) ≡ false
  never c (starts p) e = absurd (true≢false (ap at_work (sym p ∙ e)))
  never c (works site task stage p s n) e = absurd (true≢false (ap at_work (sym p ∙ e)))
  never c (over n k) e = k e

pub prompt_in_time_quiet : PromptInTime Quiet
prompt_in_time_quiet c q order transfer id x calls p =
    all_timely order transfer id x.moves calls c q (starts x.accepted) p

pub never_late_quiet : NeverLate Quiet
never_late_quiet c q order transfer id x calls its t e =
    never order transfer id x.moves (run_calls calls c)
    (all_run order transfer id x.moves calls c q (starts x.accepted) its t) e

pub prompt_in_time : PromptInTime Real
prompt_in_time c r = prompt_in_time_quiet c (quiet_real c r)

pub never_late : NeverLate Real
never_late c r = never_late_quiet c (quiet_real c r)
