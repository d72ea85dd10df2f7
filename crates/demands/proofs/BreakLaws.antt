-- What leaves a sector broken (specs/ShortSave): a write that has ended, not by a reset, with a sector begun has ended
-- because its disk was gone, whatever images its ticks were handed.
-- Assumes nothing.
use Rattle.std.specs.Prelude.{None, Some}
use Rattle.image.specs.Lent.{put_at}
use Prim.Native.Nat.{ℕ, ◌+◌, ◌%◌, ◌<◌}
use native.Mathlib.Omega.{arith}
use native.Mathlib.Nat.{mod-eq_of_lt}
use mathlib.Core.Bool.{Bool, true, false, not, ◌&&◌, true≢false, false≢true}
use mathlib.Core.List.{List, [], ◌∷◌, ◌++◌}
use mathlib.Core.Logic.{◌⊎◌, inl, inr}
use mathlib.Core.Path.{◌≡◌, refl, sym, ap, ◌∙◌, subst}
use borrow.Author.Tests.{ne_eqb}
use Rattle.image.proofs.TestLaws.{by_test}
use Rattle.image.specs.Disk.{Disk}
use Rattle.image.specs.declared.layout.Geometry.{Geometry}
use Rattle.image.specs.declared.slot.Id.{Id}
use Rattle.image.specs.Lent.{pick_of}
use Rattle.chip.specs.declared.fifo.Fifo.{Fifo}
use Rattle.chip.specs.Fifo.{emptied}
use Rattle.sectors.specs.declared.order.Job.TheVariants.{Move}
use Rattle.sectors.specs.declared.order.Order.{Order}
use Rattle.sectors.specs.declared.order.Pass.{Pass}
use Rattle.sectors.specs.declared.order.Pass.TheVariants.{Read, Write}
use Rattle.sectors.specs.declared.order.Transfer.{Transfer}
use Rattle.sectors.specs.declared.work.Site.{Site}
use Rattle.sectors.specs.declared.work.Stage.{Stage}
use Rattle.sectors.specs.declared.work.Stage.TheVariants.{Searching, Turning, Reading, Draining, Awaiting, Storing}
use Rattle.sectors.specs.declared.work.Step.{Step}
use Rattle.sectors.specs.declared.work.Task.{Task}
use Rattle.sectors.specs.declared.work.Then.{Then}
use Rattle.sectors.specs.declared.work.Then.TheVariants.{Ends, Works}
use Rattle.sectors.specs.declared.work.Verdict.{Verdict}
use Rattle.sectors.specs.declared.work.Work.{Work}
use Rattle.sectors.specs.declared.work.Work.TheVariants.{Identifying, Moving, Formatting}
use Rattle.sectors.specs.Result.{end_of, move_end, move_fails}
use Rattle.sectors.specs.Track.{has_track, stays_of, mark_place, data_place}
use Rattle.engine.specs.First.{changes, gate_of, moving_of, start_job, entered_of, begin_of}
use Rattle.engine.specs.Step.{lost_of, work_step, go_on_of}
use Rattle.fdc.specs.declared.record.Controller.{Controller}
use Rattle.fdc.specs.declared.record.Phase.{Phase}
use Rattle.fdc.specs.declared.record.Phase.TheVariants.{Starting, Working}
use Rattle.fdc.specs.declared.ticks.Decision.{Decision}
use Rattle.fdc.specs.Answer.{answer_of}
use Rattle.fdc.specs.Commands.{answered_of}
use Rattle.fdc.specs.Record.{drive_at, with_fifo, with_phase}
use Rattle.fdc.specs.Ticks.{seen_of, settled_of, decided_of, ruled_of, tick_of}
use Rattle.reached.specs.Good.{Suits}
use Rattle.reached.specs.Moves.{Calm, AllCalm}
use Rattle.reached.specs.Runs.{Call, powers, reads, writes, takes, gives, ticks, notes, answer_to, after, run_calls}
use Rattle.demands.specs.History.{Begun, no_one, some_of, History, no_history, noted_store, history_by, history_of}
use Rattle.demands.specs.PowerCut.{head_of}
use Rattle.demands.specs.Quiet.{Quiet}
use Rattle.demands.specs.ShortSave.{saw_by, saw_of, last_seen, met_in, NotThatDisk, no_disk, another, Pulled, OnlyCutsBreak}
use Rattle.demands.specs.Work.{Real, at_work, Its}
use Rattle.demands.proofs.CallLaws.{tick_starts, tick_works, call_rule, calm_keeps}
use Rattle.demands.proofs.CallRules.{NoTick, Keeps, CallRule, cut_off, goes_on_lem, same, took, gave}
use Rattle.demands.proofs.CourseLaws.{same_geometry}
use Rattle.demands.proofs.CutLaws.{noted_closed, some≢none, lost_bits}
use Rattle.demands.proofs.QuietLaws.{quiet_real, quiet_after}
use Rattle.demands.proofs.SplitLaws.{tick_or_not}
use Rattle.demands.proofs.TickRules.{
  Waits,
  NextRule,
  stops,
  turns,
  steps,
  Rule,
  not_found,
  no_data,
  no_side,
  late,
  misses,
  passes,
  to_write,
  to_read,
  skips,
  turned_over,
  waits,
  begins,
  puts,
  pads,
  dries,
  ends_short,
  finishes,
  moves,
  moves_last,
  overruns,
  overruns_last,
  drains,
  data_error,
  ends_late,
  other_kind,
  drained,
  transfer_rule,
}

-- a sector begun, whose mark stands there
record BegunAt (at : ℕ) (begun : Begun) : Type 0 where
  bytes : List ℕ
  some : begun ≡ some_of at bytes

-- a sector is begun exactly while it is stored
abbrev Link : Site → ℕ → Begun → Stage → Type 0
Link site head begun (Searching look) = begun ≡ no_one
Link site head begun (Turning slot) = begun ≡ no_one
Link site head begun (Reading sector done) = ⊥
Link site head begun (Draining sector looks) = ⊥
Link site head begun (Awaiting slot wait) = begun ≡ no_one
Link site head begun (Storing slot done) = BegunAt (mark_place site head slot) begun

-- what a tick gives: it goes on, on a disk of which K holds, or is over with no sector begun
abbrev OnWork : (Geometry → Type 0) → ℕ → ℕ → Begun → Work → Type 0
OnWork K drive head begun (Identifying site slot looks) = ⊥
OnWork K drive head begun (Moving site task stage) =
    K site.disk × (site.drive ≡ drive) × (task.transfer.pass ≡ Write) × Link site head begun stage
OnWork K drive head begun (Formatting site plan form) = ⊥

abbrev OnThen : (Geometry → Type 0) → ℕ → ℕ → Begun → Then → Type 0
OnThen K drive head begun (Ends verdict) = begun ≡ no_one
OnThen K drive head begun (Works work) = OnWork K drive head begun work

abbrev Gives : (Geometry → Type 0) → ℕ → ℕ → History → Step → Type 0
Gives K drive head h o = OnThen K drive head (noted_store o.effect h).begun o.then

began : (p v : ℕ) (h : History) → h.begun ≡ no_one → BegunAt p (noted_store (Some (put_at p v)) h).begun
began p v h e = rw e (record { bytes = []; some = refl })

grew : (p v at : ℕ) (h : History) → (p ≡ at → ⊥) → BegunAt at h.begun → BegunAt at (noted_store (Some (put_at p v)) h).begun
grew p v at h n b = rw (b.some, ne_eqb p at n) (record { bytes = b.bytes ++ (v ∷ []); some = refl })

shuts : (p v : ℕ) (h : History) → BegunAt p h.begun → (noted_store (Some (put_at p v)) h).begun ≡ no_one
shuts p v h b = ap (λ (x : History). x.begun) (noted_closed p v p b.bytes h refl b.some)

waits_none : (site : Site) (head : ℕ) (begun : Begun) (stage : Stage) → Waits stage → Link site head begun stage
    → begun ≡ no_one
waits_none site head begun (Searching look) w k = absurd w
waits_none site head begun (Turning slot) w k = absurd w
waits_none site head begun (Reading sector done) w k = absurd w
waits_none site head begun (Draining sector looks) w k = absurd k
waits_none site head begun (Awaiting slot wait) w k = k
waits_none site head begun (Storing slot done) w k = absurd w

module _ (head : ℕ) (img : List ℕ) (efifo : Bool) (fifothr : ℕ) (site : Site) (task : Task) (fifo : Fifo) (h : History)
    (wr : task.transfer.pass ≡ Write) where
  abbrev Same : Geometry → Type 0
  Same g = g ≡ site.disk

  no_read : {A : Type 0} → task.transfer.pass ≡ Read → A
  no_read e =
      let w : ◌≡◌ {A = Pass} Write Read = sym wr ∙ e in
      let z : ◌≡◌ {A = ℕ} 0 1 = cc in
      absurd (omega arith)

  -- a data byte is not stored in the mark's place
  byte_apart : (slot done : ℕ) → data_place site head slot done ≡ mark_place site head slot → ⊥
  unfolding data_place
  byte_apart slot done e = omega arith

  next_gives : (tc : Bool) (slot v : ℕ) (o : Step) → BegunAt (mark_place site head slot) h.begun
      → NextRule tc slot site task fifo (Some (put_at (mark_place site head slot) v)) o → Gives Same site.drive head h o
  next_gives tc slot v o b (stops verdict n e) = rw e (shuts _ v h b)
  next_gives tc slot v o b (turns t r m s e) = rw e (refl, refl, wr, shuts _ v h b)
  next_gives tc slot v o b (steps t r e) = rw e (refl, refl, wr, shuts _ v h b)

  rule_gives : (stage : Stage) (o : Step) → Link site head h.begun stage
      → Rule head img efifo fifothr site task fifo stage o → Gives Same site.drive head h o
  rule_gives stage o k (not_found look verdict p t l m x y v e) = rw e (rw p at k)
  rule_gives stage o k (no_data look verdict p t r m v e) = no_read r
  rule_gives stage o k (no_side slot verdict p ns v e) = rw e (rw p at k)
  rule_gives stage o k (late verdict v l w e) = rw e (waits_none site head h.begun stage w k)
  rule_gives stage o k (misses look on p t l a q e) = rw e (refl, refl, wr, rw p at k)
  rule_gives stage o k (passes look on p t l q a c e) = rw e (refl, refl, wr, rw p at k)
  rule_gives stage o k (to_write look p t w e) = rw e (refl, refl, wr, rw p at k)
  rule_gives stage o k (to_read look deleted broken other p t r m d ns e) = no_read r
  rule_gives stage o k (skips look deleted broken p t r m d s n) = no_read r
  rule_gives stage o k (turned_over slot p e) = rw e (refl, refl, wr, rw p at k)
  rule_gives stage o k (waits slot wait p l e) = rw e (refl, refl, wr, rw p at k)
  rule_gives stage o k (begins slot wait p l e) = rw e (refl, refl, wr, began _ _ h (rw p at k))
  rule_gives stage o k (puts slot done p l c e) = rw e (refl, refl, wr, grew _ _ _ h (byte_apart slot done) (rw p at k))
  rule_gives stage o k (pads slot done p l c t e) =
      rw e (refl, refl, wr, grew _ _ _ h (byte_apart slot done) (rw p at k))
  rule_gives stage o k (dries slot done p l c t e) =
      rw e (refl, refl, wr, grew _ _ _ h (byte_apart slot done) (rw p at k))
  rule_gives stage o k (ends_short slot done verdict p l x y v e) = rw e (shuts _ _ h (rw p at k))
  rule_gives stage o k (finishes slot done p l x n) = next_gives _ slot _ o (rw p at k) n
  rule_gives stage o k (moves sector done fifo' p l x e) = absurd (rw p at k)
  rule_gives stage o k (moves_last sector done fifo' p l x e) = absurd (rw p at k)
  rule_gives stage o k (overruns sector done p l x y e) = absurd (rw p at k)
  rule_gives stage o k (overruns_last sector done p l x y e) = absurd (rw p at k)
  rule_gives stage o k (drains sector looks p l e) = absurd (rw p at k)
  rule_gives stage o k (data_error sector looks verdict p q s v e) = absurd (rw p at k)
  rule_gives stage o k (ends_late sector looks verdict p q x v e) = absurd (rw p at k)
  rule_gives stage o k (other_kind sector looks verdict p q x z ok os v zc e) = absurd (rw p at k)
  rule_gives stage o k (drained sector looks p q x ok zc n) = absurd (rw p at k)

-- 01 Data commands: a drive emptied or header changed later
not_that : (g : Geometry) (seen : Disk) → stays_of seen g ≡ false → NotThatDisk (Some g) seen
unfolding stays_of
not_that g None t = no_disk refl
not_that g (Some g') t = another g g' refl refl (λ e. true≢false (sym (rw e (same_geometry g)) ∙ t))

-- it ends with ST1 01, or 11, and stores nothing
record Lost (o : Step) : Type 0 where
  verdict : Verdict
  ends : o.then ≡ Ends verdict
  bits : (verdict.st1 ≡ 0x01) ⊎ (verdict.st1 ≡ 0x11)

-- a later tick goes by its rule, or finds another disk
abbrev Goes : Site → Disk → ℕ → History → Step → Type 0
Goes site seen head h o =
    Gives (λ g. g ≡ site.disk) site.drive head h o ⊎ (NotThatDisk (Some site.disk) seen × Lost o)

later_gives : (site : Site) (task : Task) (stage : Stage) (seen : Disk) (head : ℕ) (img : List ℕ) (fifo : Fifo)
    (efifo : Bool) (fifothr : ℕ) (h : History) → task.transfer.pass ≡ Write → Link site head h.begun stage
    → Goes site seen head h (go_on_of (Moving site task stage) seen head img fifo efifo fifothr)
unfolding go_on_of work_step lost_of move_fails move_end end_of
later_gives site task stage seen head img fifo efifo fifothr h wr k =
    by_test (stays_of seen site.disk)
    (Goes site seen head h) _ _
    (λ t. inl (rule_gives head img efifo fifothr site task fifo h wr stage _ k
    (transfer_rule head img efifo fifothr site task fifo stage)))
    (λ t. inr (not_that site.disk seen t, record { verdict = _; ends = refl; bits = lost_bits task.late }))

-- the first one
first_gives : (order : Order) (transfer : Transfer) (id : Id) → order.job ≡ Move transfer id → transfer.pass ≡ Write
    → (seen : Disk) (head : ℕ)
    → Gives (λ g. seen ≡ Some g) order.drive head no_history (begin_of order seen head emptied)
unfolding begin_of entered_of gate_of start_job end_of moving_of
first_gives order transfer id j wr None head = refl
first_gives order transfer id j wr (Some g) head = rw j
    (by_test (not (has_track g head order.side))
    (λ x. Gives (λ y. Some g ≡ Some y) order.drive head no_history
    (entered_of x (Move transfer id) order.drive order.side head emptied)) _ _
    (λ t. refl)
    (λ t.
    by_test (changes (Move transfer id) && g.protect)
    (λ x. Gives (λ y. Some g ≡ Some y) order.drive head no_history
    (entered_of x (Move transfer id) order.drive order.side head emptied)) _ _
    (λ u. refl)
    (λ u. rw wr (refl, refl, refl, refl))))

-- The record, call by call.
module _ (order : Order) (transfer : Transfer) (id : Id) (job : order.job ≡ Move transfer id)
    (wr : transfer.pass ≡ Write) (hd : order.drive < 4) (cylinder : ℕ) where
  abbrev drive : ℕ
  drive = order.drive

  -- what the ticks saw: some disk, first that one
  record Met (saw : List Disk) (g : Geometry) : Type 0 where
    top : Disk
    rest : List Disk
    is : saw ≡ top ∷ rest
    met : met_in (top ∷ rest) ≡ Some g

  data Runs (c : Controller) (h : History) (saw : List Disk) : Type 0 where
    starts : c.phase ≡ Starting order → (drive_at drive c.drives).head ≡ cylinder → h ≡ no_history → saw ≡ []
        → Runs c h saw
    works : (site : Site) (task : Task) (stage : Stage) → c.phase ≡ Working (Moving site task stage)
        → (drive_at drive c.drives).head ≡ cylinder → site.drive ≡ drive → task.transfer.pass ≡ Write
        → Link site cylinder h.begun stage → Met saw site.disk → Runs c h saw
    over : at_work c.phase ≡ false
        → ((at : ℕ) (bytes : List ℕ) → h.begun ≡ some_of at bytes → Pulled c saw) → Runs c h saw

  on_then : (then : Then) (fifo : Fifo) (c : Controller) (h : History) (saw : List Disk) (K : Geometry → Type 0)
      → (drive_at drive c.drives).head ≡ cylinder → ((g : Geometry) → K g → Met saw g)
      → OnThen K drive cylinder h.begun then → Runs (settled_of then fifo c) h saw
  unfolding settled_of answered_of with_fifo with_phase
  on_then (Ends verdict) fifo c h saw K u m k = over refl (λ at bytes e. absurd (some≢none at bytes (sym e ∙ k)))
  on_then (Works (Identifying site slot looks)) fifo c h saw K u m k = absurd k
  on_then (Works (Moving site task stage)) fifo c h saw K u m k =
      works site task stage refl u k.1 k.2 k.3 (m site.disk k.0)
  on_then (Works (Formatting site plan form)) fifo c h saw K u m k = absurd k

  lost_then : (then : Then) (fifo : Fifo) (c : Controller) (h : History) (saw : List Disk) (verdict : Verdict)
      → then ≡ Ends verdict → (verdict.st1 ≡ 0x01) ⊎ (verdict.st1 ≡ 0x11) → NotThatDisk (met_in saw) (last_seen saw)
      → Runs (settled_of then fifo c) h saw
  unfolding settled_of answered_of with_fifo with_phase
  lost_then then fifo c h saw verdict e bits n =
      rw e (over refl (λ at bytes x. record { waits = refl; st1 = bits; disk = n }))

  tick_runs : (a b : List ℕ) (c : Controller) (h : History) (saw : List Disk) (d : ℕ) (o : Step)
      → ruled_of a b c ≡ decided_of d o c → Runs (settled_of o.then o.fifo c) (noted_store o.effect h) saw
      → Runs (after (ticks a b) c) (history_by (ticks a b) c h) saw
  unfolding answer_to tick_of answer_of history_by decided_of
  tick_runs a b c h saw d o e k =
      subst (λ (x : Decision). Runs x.controller (noted_store x.effect h) saw) (sym e) k

  head_is : (c : Controller) → (drive_at drive c.drives).head ≡ cylinder
      → (drive_at (drive % 4) c.drives).head ≡ cylinder
  head_is c u = rw (mod-eq_of_lt {n = drive} {m = 4} hd) u

  empty_start : (p : Phase) (n : ℕ) (f : Fifo) → p ≡ Starting order → Suits p n f → f ≡ emptied
  empty_start p n f e s = (rw e at s).1

  run_tick : (a b : List ℕ) (c : Controller) (h : History) (saw : List Disk) → Quiet c → at_work c.phase ≡ true
      → Runs c h saw → Runs (after (ticks a b) c) (history_by (ticks a b) c h) (saw_by drive (ticks a b) c saw)
  unfolding saw_by
  run_tick a b c h saw q w (over n k) = absurd (false≢true (sym n ∙ w))
  run_tick a b c h saw q w (starts p u z s) =
      let seen : Disk = seen_of c.registers.dor drive (pick_of drive a b) in
      tick_runs a b c h (seen ∷ saw) drive _ (tick_starts a b c order q p)
      (rw (z, s, head_is c u, empty_start c.phase _ c.fifo p q.good.phase)
      (on_then _ _ _ _ (seen ∷ []) (λ g. seen ≡ Some g) u
      (λ g e. record { top = seen; rest = []; is = refl; met = e })
      (first_gives order transfer id job wr seen cylinder)))
  run_tick a b c h saw q w (works site task stage p u d wt k m) =
      let seen : Disk = seen_of c.registers.dor drive (pick_of drive a b) in
      let head : (drive_at (site.drive % 4) c.drives).head ≡ cylinder =
      ap (λ (x : ℕ). (drive_at (x % 4) c.drives).head) d ∙ head_is c u in
      let there : seen_of c.registers.dor site.drive (pick_of site.drive a b) ≡ seen =
      ap (λ (x : ℕ). seen_of c.registers.dor x (pick_of x a b)) d in
      tick_runs a b c h (seen ∷ saw) site.drive _ (tick_works a b c (Moving site task stage) q p)
      (rw (there, head)
      (go seen _
      (later_gives site task stage seen cylinder _ c.fifo c.registers.efifo c.registers.fifothr h wt k)))
    where
      go : (seen : Disk) (o : Step) → Goes site seen cylinder h o
          → Runs (settled_of o.then o.fifo c) (noted_store o.effect h) (seen ∷ saw)
      go seen o (inl x) =
          on_then o.then o.fifo c (noted_store o.effect h) (seen ∷ saw) (λ g. g ≡ site.disk) u
          (λ g e. record {
            top = seen;
            rest = m.top ∷ m.rest;
            is = ap (λ (l : List Disk). seen ∷ l) m.is;
            met = m.met ∙ ap Some (sym e);
          })
          (rw d at x)
      go seen o (inr (n, l)) =
          lost_then o.then o.fifo c _ (seen ∷ saw) l.verdict l.ends l.bits
          (rw (m.is, m.met) n)

  -- a calm call that is no tick
  begun_kept : (call : Call) (c e : Controller) (h : History) → CallRule call c e → (history_by call c h).begun ≡ h.begun
  begun_kept call c e h (cut_off o n) = ap (λ (x : History). x.begun) (n h)
  begun_kept call c e h (goes_on_lem k (same f n)) = ap (λ (x : History). x.begun) (n h)
  begun_kept call c e h (goes_on_lem k (took tc m t f n)) = ap (λ (x : History). x.begun) (n h)
  begun_kept call c e h (goes_on_lem k (gave byte tc t a f n)) = ap (λ (x : History). x.begun) (n h)

  -- none is given before the first tick
  host_kept : (call : Call) (c e : Controller) → c.phase ≡ Starting order → CallRule call c e
      → history_by call c no_history ≡ no_history
  host_kept call c e p (cut_off o n) = n no_history
  host_kept call c e p (goes_on_lem k (same f n)) = n no_history
  host_kept call c e p (goes_on_lem k (took tc m t f n)) = n no_history
  host_kept call c e p (goes_on_lem k (gave byte tc t a f n)) = absurd (false≢true (rw p at t))

  saw_kept : (call : Call) (c : Controller) (saw : List Disk) → NoTick call → saw_by drive call c saw ≡ saw
  unfolding saw_by
  saw_kept (powers head0 head1) c saw n = refl
  saw_kept (reads offset) c saw n = refl
  saw_kept (writes offset byte) c saw n = refl
  saw_kept (takes tc) c saw n = refl
  saw_kept (gives byte tc) c saw n = refl
  saw_kept (ticks a b) c saw n = absurd n
  saw_kept (notes drive') c saw n = refl

  call_runs : (call : Call) (c : Controller) (h : History) (saw : List Disk) → Quiet c → at_work c.phase ≡ true
      → NoTick call → Calm call → Runs c h saw → Runs (after call c) (history_by call c h) (saw_by drive call c saw)
  call_runs call c h saw q w n calm r =
      rw (saw_kept call c saw n) (go (calm_keeps call c q w n calm) (call_rule call c q w n) r)
    where
      go : Keeps c (after call c) → CallRule call c (after call c) → Runs c h saw
          → Runs (after call c) (history_by call c h) saw
      go k f (starts p u z s) =
          starts (k.phase ∙ p) (k.heads drive hd ∙ u) (rw z (host_kept call c (after call c) p f)) s
      go k f (works site task stage p u d wt l m) =
          works site task stage (k.phase ∙ p) (k.heads drive hd ∙ u) d wt
          (rw (begun_kept call c (after call c) h f) l) m
      go k f (over o x) = absurd (false≢true (sym o ∙ w))

  runs_after : (call : Call) (c : Controller) (h : History) (saw : List Disk) → Quiet c → at_work c.phase ≡ true
      → Calm call → Runs c h saw → Runs (after call c) (history_by call c h) (saw_by drive call c saw)
  runs_after call c h saw q w calm r =
      tick_or_not
      (λ x. Calm x → Runs (after x c) (history_by x c h) (saw_by drive x c saw))
      (λ a b calm. run_tick a b c h saw q w r)
      (λ x n calm. call_runs x c h saw q w n calm r) call calm

  all_run : (calls : List Call) (c : Controller) (h : History) (saw : List Disk) → Quiet c → Its calls c
      → AllCalm calls → Runs c h saw → Runs (run_calls calls c) (history_of calls c h) (saw_of drive calls c saw)
  unfolding Its history_of run_calls saw_of
  all_run [] c h saw q i calm r = r
  all_run (call ∷ calls) c h saw q i calm r =
      all_run calls (after call c) (history_by call c h) (saw_by drive call c saw) (quiet_after call c q i.0) i.1
      calm.1 (runs_after call c h saw q i.0 calm.0 r)

  broken_so : (c : Controller) (h : History) (saw : List Disk) → Runs c h saw → at_work c.phase ≡ false
      → (at : ℕ) (bytes : List ℕ) → h.begun ≡ some_of at bytes → Pulled c saw
  broken_so c h saw (starts p u z s) w = absurd (true≢false (ap at_work (sym p) ∙ w))
  broken_so c h saw (works site task stage p u d wt l m) w = absurd (true≢false (ap at_work (sym p) ∙ w))
  broken_so c h saw (over n k) w = k

pub only_cuts_break_quiet : OnlyCutsBreak Quiet
only_cuts_break_quiet c q order transfer id w calls its calm over_it =
    let (hd, hs, job) = rw w.accepted at q.proper in
    broken_so order transfer id w.moves w.writes hd (head_of order c) (run_calls calls c) _ _
    (all_run order transfer id w.moves w.writes hd (head_of order c) calls c no_history [] q its calm
    (starts w.accepted refl refl refl))
    over_it

pub only_cuts_break : OnlyCutsBreak Real
only_cuts_break c r = only_cuts_break_quiet c (quiet_real c r)
