-- A byte that was late is told (specs/InTime): from the tick that finds it so, the sector in hand is run to its end,
-- and every end from there on has ST1's bit 10.
-- Assumes nothing.
use Rattle.std.specs.Prelude.{None, Some}
use Prim.Native.Nat.{ℕ}
use native.Mathlib.Omega.{arith}
use mathlib.Core.Bool.{Bool, true, false, not, ◌&&◌, true≢false, false≢true}
use mathlib.Core.List.{List, [], ◌∷◌}
use mathlib.Core.Logic.{inl, inr}
use mathlib.Core.Path.{◌≡◌, refl, sym, ap, ◌∙◌}
use borrow.Author.Tests.{eq-eqb, ne_eqb, le-leb, lt-leb}
use Rattle.image.proofs.TestLaws.{by_test}
use Rattle.image.specs.Disk.{Disk}
use Rattle.image.specs.Lent.{Effect}
use Rattle.image.specs.declared.slot.Id.{Id}
use Rattle.chip.specs.declared.fifo.Fifo.{Fifo}
use Rattle.sectors.specs.declared.order.Job.TheVariants.{Move}
use Rattle.sectors.specs.declared.order.Order.{Order}
use Rattle.sectors.specs.declared.order.Pass.{Pass}
use Rattle.sectors.specs.declared.order.Pass.TheVariants.{Read, Write}
use Rattle.sectors.specs.declared.order.Transfer.{Transfer}
use Rattle.sectors.specs.declared.work.Site.{Site}
use Rattle.sectors.specs.declared.work.Stage.{Stage}
use Rattle.sectors.specs.declared.work.Stage.TheVariants.{Searching, Turning, Reading, Draining, Awaiting, Storing}
use Rattle.sectors.specs.declared.work.Step.{Step}
use Rattle.sectors.specs.declared.work.Task.{Task}
use Rattle.sectors.specs.declared.work.Then.{Then}
use Rattle.sectors.specs.declared.work.Then.TheVariants.{Ends, Works}
use Rattle.sectors.specs.declared.work.Work.{Work}
use Rattle.sectors.specs.declared.work.Work.TheVariants.{Identifying, Moving, Formatting}
use Rattle.sectors.specs.Read.{overrun, sector_over, read_on, read_of, drain_of}
use Rattle.sectors.specs.Result.{end_of, late_end, move_end, move_fails}
use Rattle.sectors.specs.Track.{has_track, stays_of, sector_bytes}
use Rattle.sectors.specs.Write.{underrun, await_of, put_of, dry_of, store_of}
use Rattle.engine.specs.First.{changes, gate_of, moving_of, start_job, entered_of, begin_of}
use Rattle.engine.specs.Step.{lost_of, stage_of, work_step, go_on_of}
use Rattle.fdc.specs.declared.record.Controller.{Controller}
use Rattle.fdc.specs.declared.record.Phase.TheVariants.{Starting, Working, Answering}
use Rattle.fdc.specs.declared.ticks.Decision.{Decision}
use Rattle.fdc.specs.Commands.{answered_of}
use Rattle.fdc.specs.Record.{with_fifo, with_phase}
use Rattle.fdc.specs.Ticks.{settled_of, decided_of, ruled_of}
use Rattle.reached.specs.Runs.{Call, powers, reads, writes, takes, gives, ticks, notes, after, run_calls}
use Rattle.demands.specs.Acknowledged.{result_byte}
use Rattle.demands.specs.InTime.{Late, FindsLate, SomeLate, late_in, LateTold}
use Rattle.demands.specs.Quiet.{Quiet}
use Rattle.demands.specs.Work.{Real, at_work, Its}
use Rattle.demands.proofs.CallLaws.{tick_starts, tick_works, after_tick, call_rule}
use Rattle.demands.proofs.CallRules.{NoTick, CallRule, cut_off, goes_on_lem}
use Rattle.demands.proofs.PowerCutLaws.{idle≢answering}
use Rattle.demands.proofs.QuietLaws.{quiet_real, quiet_after}
use Rattle.demands.proofs.SplitLaws.{tick_or_not}
use Rattle.demands.proofs.TickRules.{
  NextRule,
  stops,
  turns,
  steps,
  Rule,
  not_found,
  no_data,
  no_side,
  late,
  misses,
  passes,
  to_write,
  to_read,
  skips,
  turned_over,
  waits,
  begins,
  puts,
  pads,
  dries,
  ends_short,
  finishes,
  moves,
  moves_last,
  overruns,
  overruns_last,
  drains,
  data_error,
  ends_late,
  other_kind,
  drained,
  transfer_rule,
}

-- the stages in a sector
abbrev InSector : Stage → Type 0
InSector (Searching look) = ⊥
InSector (Turning slot) = ⊥
InSector (Reading sector done) = Unit {0}
InSector (Draining sector looks) = Unit {0}
InSector (Awaiting slot wait) = ⊥
InSector (Storing slot done) = Unit {0}

-- what a tick gives, where a byte is late (b): it goes on in the sector and knows it, or it is over and says it
abbrev Lates : Bool → Task → Stage → Type 0
Lates b task stage = b ≡ true → (task.late ≡ true) × InSector stage

abbrev OnWork : Bool → Work → Type 0
OnWork b (Identifying site slot looks) = ⊥
OnWork b (Moving site task stage) = Lates b task stage
OnWork b (Formatting site plan form) = ⊥

abbrev OnThen : Bool → Then → Type 0
OnThen b (Ends verdict) = b ≡ true → late_in verdict.st1 ≡ true
OnThen b (Works work) = OnWork b work

abbrev Gives : Bool → Step → Type 0
Gives b o = OnThen b o.then

module _ (head : ℕ) (img : List ℕ) (efifo : Bool) (fifothr : ℕ) (site : Site) (task : Task) (fifo : Fifo) where
  -- where Next is taken no byte was late
  next_gives : (b tc : Bool) (slot : ℕ) (work : Task) (effect : Effect) (o : Step) → (b ≡ true → ⊥)
      → NextRule tc slot site work fifo effect o → Gives b o
  next_gives b tc slot work effect o n (stops verdict v e) = rw e (λ y. absurd (n y))
  next_gives b tc slot work effect o n (turns t r m s e) = rw e (λ y. absurd (n y))
  next_gives b tc slot work effect o n (steps t r e) = rw e (λ y. absurd (n y))

  rule_gives : (b : Bool) (stage : Stage) (o : Step) → Lates b task stage
      → Rule head img efifo fifothr site task fifo stage o → Gives b o
  rule_gives b stage o k (not_found look verdict p t l m x y v e) = rw e (λ z. absurd (rw p at (k z).1))
  rule_gives b stage o k (no_data look verdict p t r m v e) = rw e (λ z. absurd (rw p at (k z).1))
  rule_gives b stage o k (no_side slot verdict p ns v e) = rw e (λ z. absurd (rw p at (k z).1))
  rule_gives b stage o k (late verdict v l w e) = rw e (λ z. rw v.st1_is)
  rule_gives b stage o k (misses look on p t l a q e) = rw e (λ z. absurd (rw p at (k z).1))
  rule_gives b stage o k (passes look on p t l q a c e) = rw e (λ z. absurd (rw p at (k z).1))
  rule_gives b stage o k (to_write look p t w e) = rw e (λ z. absurd (rw p at (k z).1))
  rule_gives b stage o k (to_read look deleted broken other p t r m d ns e) = rw e (λ z. absurd (rw p at (k z).1))
  rule_gives b stage o k (skips look deleted broken p t r m d s n) =
      next_gives b _ look.slot _ _ o (λ z. rw p at (k z).1) n
  rule_gives b stage o k (turned_over slot p e) = rw e (λ z. absurd (rw p at (k z).1))
  rule_gives b stage o k (waits slot wait p l e) = rw e (λ z. absurd (rw p at (k z).1))
  rule_gives b stage o k (begins slot wait p l e) = rw e (λ z. absurd (rw p at (k z).1))
  rule_gives b stage o k (puts slot done p l c e) = rw e (λ z. ((k z).0, tt))
  rule_gives b stage o k (pads slot done p l c t e) = rw e (λ z. ((k z).0, tt))
  rule_gives b stage o k (dries slot done p l c t e) = rw e (λ z. (refl, tt))
  rule_gives b stage o k (ends_short slot done verdict p l x y v e) = rw e (λ z. rw v.st1_is)
  rule_gives b stage o k (finishes slot done p l x n) =
      next_gives b _ slot _ _ o (λ z. true≢false (sym (k z).0 ∙ x)) n
  rule_gives b stage o k (moves sector done fifo' p l x e) = rw e (λ z. ((k z).0, tt))
  rule_gives b stage o k (moves_last sector done fifo' p l x e) = rw e (λ z. ((k z).0, tt))
  rule_gives b stage o k (overruns sector done p l x y e) = rw e (λ z. (refl, tt))
  rule_gives b stage o k (overruns_last sector done p l x y e) = rw e (λ z. (refl, tt))
  rule_gives b stage o k (drains sector looks p l e) = rw e (λ z. ((k z).0, tt))
  rule_gives b stage o k (data_error sector looks verdict p q s v e) = rw e (λ z. rw (v.st1_is, (k z).0))
  rule_gives b stage o k (ends_late sector looks verdict p q x v e) = rw e (λ z. rw v.st1_is)
  rule_gives b stage o k (other_kind sector looks verdict p q x z ok os v zc e) =
      rw e (λ y. absurd (true≢false (sym (k y).0 ∙ x)))
  rule_gives b stage o k (drained sector looks p q x ok zc n) =
      next_gives b _ sector.slot _ _ o (λ y. true≢false (sym (k y).0 ∙ x)) n

  -- a tick that finds a byte late
  late_gives : (stage : Stage) → Late efifo site task fifo stage
      → Gives true (stage_of stage site task head img fifo efifo fifothr)
  unfolding stage_of read_of overrun read_on drain_of await_of store_of dry_of underrun put_of late_end move_end end_of
  late_gives (Searching look) l = absurd l
  late_gives (Turning slot) l = absurd l
  late_gives (Reading sector done) l =
      rw (l.0, l.1)
      (by_test (sector_over site done) (Gives true) _ _ (λ t z. (refl, tt)) (λ t z. (refl, tt)))
  late_gives (Draining sector looks) l =
      rw (ne_eqb fifo.count 0 (λ e. omega (arith, l.0)), le-leb 63 looks l.1) (λ z. refl)
  late_gives (Awaiting slot wait) l = rw (eq-eqb fifo.count 0 l.0, le-leb 63 wait l.1) (λ z. refl)
  late_gives (Storing slot done) l =
      rw (lt-leb (sector_bytes site) done l.0, eq-eqb fifo.count 0 l.1, l.2) (λ z. (refl, tt))

  -- a later tick
  later_gives : (b : Bool) (stage : Stage) (seen : Disk) → Lates b task stage
      → Gives b (go_on_of (Moving site task stage) seen head img fifo efifo fifothr)
  unfolding go_on_of work_step lost_of move_fails move_end end_of
  later_gives b stage seen k =
      by_test (stays_of seen site.disk) (Gives b) _ _
      (λ t. rule_gives b stage _ k (transfer_rule head img efifo fifothr site task fifo stage))
      (λ t z. rw (k z).0)

  finds_gives : (stage : Stage) (seen : Disk) → stays_of seen site.disk ≡ true → Late efifo site task fifo stage
      → Gives true (go_on_of (Moving site task stage) seen head img fifo efifo fifothr)
  unfolding go_on_of work_step
  finds_gives stage seen t l = rw t (late_gives stage l)

-- the first tick
moving_gives : (pass : Pass) (transfer : Transfer) (id : Id) (site : Site) (fifo : Fifo)
    → Gives false (moving_of pass transfer id site fifo)
unfolding moving_of
moving_gives Read transfer id site fifo = λ z. absurd (false≢true z)
moving_gives Write transfer id site fifo = λ z. absurd (false≢true z)

first_gives : (order : Order) (transfer : Transfer) (id : Id) → order.job ≡ Move transfer id → (disk : Disk) (head : ℕ)
    (fifo : Fifo) → Gives false (begin_of order disk head fifo)
unfolding begin_of entered_of gate_of start_job end_of
first_gives order transfer id j None head fifo = λ z. absurd (false≢true z)
first_gives order transfer id j (Some g) head fifo = rw j
    (by_test (not (has_track g head order.side))
    (λ x. Gives false (entered_of x (Move transfer id) order.drive order.side head fifo)) _ _
    (λ t z. absurd (false≢true z))
    (λ t.
    by_test (changes (Move transfer id) && g.protect)
    (λ x. Gives false (entered_of x (Move transfer id) order.drive order.side head fifo)) _ _
    (λ u z. absurd (false≢true z))
    (λ u. moving_gives transfer.pass transfer id _ fifo)))

-- The record, call by call; b: a byte was late.
module _ (order : Order) (transfer : Transfer) (id : Id) (job : order.job ≡ Move transfer id) where
  data Runs (b : Bool) (c : Controller) : Type 0 where
    starts : c.phase ≡ Starting order → b ≡ false → Runs b c
    works : (site : Site) (task : Task) (stage : Stage) → c.phase ≡ Working (Moving site task stage)
        → Lates b task stage → Runs b c
    over : at_work c.phase ≡ false
        → (c.phase ≡ Answering true → b ≡ true → late_in (result_byte 1 c) ≡ true) → Runs b c

  settled_runs : (b : Bool) (then : Then) (f : Fifo) (c : Controller) → OnThen b then → Runs b (settled_of then f c)
  unfolding settled_of answered_of with_fifo with_phase
  settled_runs b (Ends verdict) f c k = over refl (λ e z. k z)
  settled_runs b (Works (Identifying site slot looks)) f c k = absurd k
  settled_runs b (Works (Moving site task stage)) f c k = works site task stage refl k
  settled_runs b (Works (Formatting site plan form)) f c k = absurd k

  tick_runs : (b : Bool) (a a' : List ℕ) (c : Controller) (drive : ℕ) (o : Step) → ruled_of a a' c ≡ decided_of drive o c
      → Gives b o → Runs b (after (ticks a a') c)
  unfolding decided_of
  tick_runs b a a' c drive o e k =
      rw (after_tick a a' c ∙ ap (λ (d : Decision). d.controller) e) (settled_runs b o.then o.fifo c k)

  run_tick : (b : Bool) (a a' : List ℕ) (c : Controller) → Quiet c → at_work c.phase ≡ true → Runs b c
      → Runs b (after (ticks a a') c)
  run_tick b a a' c q w (starts p n) =
      tick_runs b a a' c order.drive _ (tick_starts a a' c order q p)
      (rw n (first_gives order transfer id job _ _ c.fifo))
  run_tick b a a' c q w (works site task stage p k) =
      tick_runs b a a' c site.drive _ (tick_works a a' c (Moving site task stage) q p)
      (later_gives _ _ _ _ site task c.fifo b stage _ k)
  run_tick b a a' c q w (over n k) = absurd (false≢true (sym n ∙ w))

  call_runs : (b : Bool) (call : Call) (c : Controller) → Quiet c → at_work c.phase ≡ true → NoTick call → Runs b c
      → Runs b (after call c)
  call_runs b call c q w n r = go (call_rule call c q w n) r
    where
      go : CallRule call c (after call c) → Runs b c → Runs b (after call c)
      go (cut_off o h) r = over (ap at_work o) (λ e z. absurd (idle≢answering true (sym o ∙ e)))
      go (goes_on_lem k f) (starts p m) = starts (k.phase ∙ p) m
      go (goes_on_lem k f) (works site task stage p m) = works site task stage (k.phase ∙ p) m
      go (goes_on_lem k f) (over o m) = absurd (false≢true (sym o ∙ w))

  runs_after : (b : Bool) (call : Call) (c : Controller) → Quiet c → at_work c.phase ≡ true → Runs b c
      → Runs b (after call c)
  runs_after b call c q w r =
      tick_or_not (λ x. Runs b (after x c)) (λ a a'. run_tick b a a' c q w r) (λ x n. call_runs b x c q w n r) call

  -- the call that finds a byte late
  found_runs : (call : Call) (c : Controller) → Quiet c → at_work c.phase ≡ true → Runs false c → FindsLate call c
      → Runs true (after call c)
  found_runs (powers head0 head1) c q w r l = absurd l
  found_runs (reads offset) c q w r l = absurd l
  found_runs (writes offset byte) c q w r l = absurd l
  found_runs (takes tc) c q w r l = absurd l
  found_runs (gives byte tc) c q w r l = absurd l
  found_runs (ticks a a') c q w r l = go r
    where
      go : Runs false c → Runs true (after (ticks a a') c)
      go (starts p n) = absurd (rw p at l.0)
      go (works site task stage p k) =
          tick_runs true a a' c site.drive _ (tick_works a a' c (Moving site task stage) q p)
          (finds_gives _ _ _ _ site task c.fifo stage _ (rw p at l.0) (rw p at l.1))
      go (over n k) = absurd (false≢true (sym n ∙ w))
  found_runs (notes drive) c q w r l = absurd l

  all_run : (b : Bool) (calls : List Call) (c : Controller) → Quiet c → Its calls c → Runs b c
      → Runs b (run_calls calls c)
  unfolding Its run_calls
  all_run b [] c q i r = r
  all_run b (call ∷ calls) c q i r =
      all_run b calls (after call c) (quiet_after call c q i.0) i.1 (runs_after b call c q i.0 r)

  some_run : (calls : List Call) (c : Controller) → Quiet c → Its calls c → Runs false c → SomeLate calls c
      → Runs true (run_calls calls c)
  unfolding Its run_calls SomeLate
  some_run [] c q i r s = absurd s
  some_run (call ∷ calls) c q i r (inl l) =
      all_run true calls (after call c) (quiet_after call c q i.0) i.1 (found_runs call c q i.0 r l)
  some_run (call ∷ calls) c q i r (inr s) =
      some_run calls (after call c) (quiet_after call c q i.0) i.1 (runs_after false call c q i.0 r) s

  told : (c : Controller) → Runs true c → c.phase ≡ Answering true → late_in (result_byte 1 c) ≡ true
  told c (starts p n) e = absurd (true≢false n)
  told c (works site task stage p k) e = absurd (true≢false (ap at_work (sym p ∙ e)))
  told c (over n k) e = k e refl

pub late_told_quiet : LateTold Quiet
late_told_quiet c q order transfer id x calls its s e =
    told order transfer id x.moves (run_calls calls c)
    (some_run order transfer id x.moves calls c q its (starts x.accepted refl) s) e

pub late_told : LateTold Real
late_told c r = late_told_quiet c (quiet_real c r)
