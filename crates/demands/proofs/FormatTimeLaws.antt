-- Which host is in time for a Format, and that in time it never ends with ST1 10 (specs/FormatSucceeds).
-- Assumes nothing.
use Rattle.std.specs.Prelude.{Some}
use Prim.Native.Nat.{ℕ, ◌*◌, ◌≤◌, ◌<◌}
use native.Mathlib.Omega.{arith}
use mathlib.Core.Bool.{Bool, true, false, true≢false, false≢true}
use mathlib.Core.List.{List, [], ◌∷◌}
use mathlib.Core.Logic.{◌⊎◌, inl, inr}
use mathlib.Core.Path.{◌≡◌, refl, sym, ap, ◌∙◌}
use lib.ListN.{length}
use Rattle.image.specs.Disk.{Disk}
use Rattle.image.specs.declared.layout.Geometry.{Geometry}
use Rattle.image.specs.Lent.{Effect}
use Rattle.image.specs.Disk.{disk_in}
use Rattle.image.proofs.TestLaws.{by_test}
use Rattle.chip.specs.declared.fifo.Fifo.{Fifo}
use Rattle.chip.specs.Fifo.{emptied}
use Rattle.chip.specs.Fifo.{FitsFifo}
use Rattle.sectors.specs.declared.order.Job.TheVariants.{Format}
use Rattle.sectors.specs.declared.order.Order.{Order}
use Rattle.sectors.specs.declared.order.Plan.{Plan}
use Rattle.sectors.specs.declared.work.Form.{Form}
use Rattle.sectors.specs.declared.work.Form.TheVariants.{Awaiting, Addressing, Filling, Clearing}
use Rattle.sectors.specs.declared.work.Site.{Site}
use Rattle.sectors.specs.declared.work.Step.{Step}
use Rattle.sectors.specs.declared.work.Then.{Then}
use Rattle.sectors.specs.declared.work.Then.TheVariants.{Ends, Works}
use Rattle.sectors.specs.declared.work.Work.{Work}
use Rattle.sectors.specs.declared.work.Work.TheVariants.{Formatting}
use Rattle.sectors.specs.Result.{end_of}
use Rattle.sectors.specs.Track.{stays_of}
use Rattle.engine.specs.Format.{format_end}
use Rattle.engine.specs.Step.{lost_of, work_step, go_on_of}
use Rattle.fdc.specs.declared.record.Controller.{Controller}
use Rattle.fdc.specs.declared.record.Phase.{Phase}
use Rattle.fdc.specs.declared.record.Phase.TheVariants.{Idle, Gathering, Starting, Working, Sensing, Answering}
use Rattle.fdc.specs.declared.ticks.Decision.{Decision}
use Rattle.fdc.specs.Commands.{answered_of}
use Rattle.fdc.specs.Record.{with_fifo, with_phase}
use Rattle.reached.specs.Runs.{Call, ticks, after, run_calls}
use Rattle.fdc.specs.Ticks.{settled_of, decided_of, ruled_of}
use Rattle.demands.specs.Acknowledged.{result_byte}
use Rattle.demands.specs.FormatScript.{slot_draws, stores_by}
use Rattle.demands.specs.FormatSucceeds.{ServedUpTo, FormatServed, FormatNeverLate}
use Rattle.demands.specs.History.{History, no_history, history_by}
use Rattle.demands.specs.InTime.{LateForm, AtTick, AtTicks, Timely, InTime, RequestOff, Prompt}
use Rattle.demands.specs.PowerCut.{head_of}
use Rattle.demands.specs.Quiet.{Quiet}
use Rattle.demands.specs.Work.{at_work, Its, image_by, Alone, Real}
use Rattle.demands.proofs.CallLaws.{tick_starts, tick_works, call_rule, after_tick}
use Rattle.demands.proofs.CallRules.{same, took, gave, CallRule, cut_off, goes_on_lem}
use Rattle.demands.proofs.SplitLaws.{tick_or_not, at_tick_map}
use Rattle.demands.proofs.FifoStream.{held_none}
use Rattle.demands.proofs.FormatLaws.{site, Busy, Run, is_over, to_start, at_it, head_is, empty_start, run_after}
use Rattle.demands.proofs.FormatRules.{FirstRule, nothing_there, is_protected, is_misplanned, opens, first_rule, ClearRule, clears_on, is_whole, FormRule, late_first, late_later, waits, begins, addresses, addresses_last, fills, marks, marks_last, clears, form_rule, TimelyRule, still_forms, ends_whole, timely_rule}
use Rattle.demands.proofs.PowerCutLaws.{idle≢answering}
use Rattle.demands.proofs.QuietLaws.{quiet_real, quiet_after}
use Rattle.demands.proofs.RequestLaws.{WriteServed, write_opened, write_given, write_drawn}
use Rattle.demands.proofs.ScriptLaws.{drawn_in}

-- a host that always serves each request before the next tick does so up to any number of bytes
pub prompt_served : (n : ℕ) (calls : List Call) (c : Controller) (h : History) → Prompt calls c
    → ServedUpTo n calls c h
unfolding AtTicks ServedUpTo
prompt_served n [] c h p = tt
prompt_served n (call ∷ calls) c h p =
    λ w. (
      at_tick_map RequestOff (λ e. (e.fifo.asks ≡ false) ⊎ (n ≤ length h.host)) call c (λ s. inl s) (p w).0,
      prompt_served n calls (after call c) (history_by call c h) (p w).1,
    )

-- Served up to four bytes for each slot.
module _ (g : Geometry) (cylinder : ℕ) (order : Order) (plan : Plan) (old : List ℕ) (disk : disk_in old ≡ Some g)
    (job : order.job ≡ Format plan) (hd : order.drive < 4) where
  abbrev drive : ℕ
  drive = order.drive

  abbrev here : Site
  here = site g cylinder drive order.side plan old

  abbrev due : ℕ
  due = plan.sc * slot_draws

  abbrev Running : Controller → List ℕ → History → ℕ → Type 0
  Running c img h m = Run g cylinder order plan old disk job hd c img h m

  -- at work, the request is off only with a byte held
  abbrev Serves : Phase → Fifo → Type 0
  Serves Idle fifo = Unit {0}
  Serves (Gathering entry) fifo = Unit {0}
  Serves (Starting order) fifo = Unit {0}
  Serves (Working work) fifo = WriteServed fifo
  Serves (Sensing unit) fifo = Unit {0}
  Serves (Answering loud) fifo = Unit {0}

  abbrev ServesThen : Then → Fifo → Type 0
  ServesThen (Ends verdict) fifo = Unit {0}
  ServesThen (Works work) fifo = WriteServed fifo

  -- where a byte is due one is held
  module _ (efifo : Bool) (fifo : Fifo) (img host : List ℕ) (m : ℕ) (fits : FitsFifo efifo fifo)
      (request : WriteServed fifo) (served : (fifo.asks ≡ false) ⊎ (due ≤ length host)) where
    abbrev At : Form → Type 0
    At form = Busy g cylinder drive order.side plan old efifo form fifo img host m

    not_late : (form : Form) → At form → drawn_in g cylinder order.side plan form < due → fifo.count ≡ 0 → ⊥
    not_late form b l z = go served
      where
        held_some : (0 < fifo.count) ⊎ (fifo.tc ≡ true) → ⊥
        held_some (inl p) = omega arith
        held_some (inr t) = true≢false (sym t ∙ b.off)

        go : (fifo.asks ≡ false) ⊎ (due ≤ length host) → ⊥
        go (inl a) = held_some (request.some a)
        go (inr h) = omega (arith, held_none efifo fifo fits host _ z b.stream)

    in_time_law : (form : Form) → At form → LateForm fifo form → ⊥
    in_time_law (Awaiting slot wait) b (z, k) = not_late (Awaiting slot wait) b (omega (arith, b.inside)) z
    in_time_law (Addressing slot k) b z =
        not_late (Addressing slot k) b (omega (arith, b.inside.0, b.inside.1)) z
    in_time_law (Filling slot done) b l = l
    in_time_law (Clearing slot) b l = l

  -- a tick leaves it so
  module _ (efifo : Bool) (fifothr : ℕ) (fifo : Fifo) (request : WriteServed fifo) where
    clear_serves : (slot : ℕ) (effect : Effect) (o : Step)
        → ClearRule cylinder efifo fifothr here plan fifo slot effect o
        → ServesThen o.then o.fifo
    clear_serves slot effect o (clears_on k eq) = rw eq request
    clear_serves slot effect o (is_whole k eq) = rw eq tt

    rule_serves : (form : Form) (o : Step) → FormRule cylinder efifo fifothr here plan fifo form o
        → ServesThen o.then o.fifo
    rule_serves form o (late_first slot wait e z k eq) = rw eq tt
    rule_serves form o (late_later slot k e z eq) = rw eq tt
    rule_serves form o (waits slot wait e z k eq) = rw eq request
    rule_serves form o (begins slot wait e p eq) = rw eq request
    rule_serves form o (addresses slot k e p l eq) = rw eq (write_drawn efifo fifothr fifo)
    rule_serves form o (addresses_last slot k e p l eq) = rw eq (write_drawn efifo fifothr fifo)
    rule_serves form o (fills slot done e l eq) = rw eq request
    rule_serves form o (marks slot done e l h eq) = rw eq request
    rule_serves form o (marks_last slot done e l h r) = clear_serves slot _ o r
    rule_serves form o (clears slot e r) = clear_serves slot _ o r

    later_serves : (form : Form) (seen : Disk) (img : List ℕ)
        → ServesThen (go_on_of (Formatting here plan form) seen cylinder img fifo efifo fifothr).then
        (go_on_of (Formatting here plan form) seen cylinder img fifo efifo fifothr).fifo
    unfolding go_on_of work_step lost_of format_end end_of
    later_serves form seen img =
        by_test (stays_of seen g) (λ (o : Step). ServesThen o.then o.fifo) _ _
        (λ t. rule_serves form _ (form_rule cylinder efifo fifothr here plan fifo form)) (λ t. tt)

  first_serves : (disk : Disk) (o : Step) → FirstRule drive order.side plan cylinder emptied disk o
      → ServesThen o.then o.fifo
  first_serves disk o (nothing_there k eq) = rw eq tt
  first_serves disk o (is_protected h e p eq) = rw eq tt
  first_serves disk o (is_misplanned h e k eq) = rw eq tt
  first_serves disk o (opens h e a eq) = rw eq write_opened

  -- The record.

  settled_serves : (t : Then) (fifo : Fifo) (c : Controller) → ServesThen t fifo
      → Serves (settled_of t fifo c).phase (settled_of t fifo c).fifo
  unfolding settled_of answered_of with_fifo with_phase
  settled_serves (Ends verdict) fifo c s = tt
  settled_serves (Works work) fifo c s = s

  tick_serves : (a b : List ℕ) (c : Controller) (d : ℕ) (o : Step) → ruled_of a b c ≡ decided_of d o c
      → ServesThen o.then o.fifo → Serves (after (ticks a b) c).phase (after (ticks a b) c).fifo
  unfolding decided_of
  tick_serves a b c d o e s =
      rw (after_tick a b c ∙ ap (λ (x : Decision). x.controller) e) (settled_serves o.then o.fifo c s)

  run_tick_serves : (a b : List ℕ) (c : Controller) (img : List ℕ) (h : History) (m : ℕ) → Quiet c
      → at_work c.phase ≡ true → Serves c.phase c.fifo → Running c img h m
      → Serves (after (ticks a b) c).phase (after (ticks a b) c).fifo
  run_tick_serves a b c img h m q w s (is_over n k t) = absurd (false≢true (sym n ∙ w))
  run_tick_serves a b c img h m q w s (to_start p u i f z) =
      tick_serves a b c drive _ (tick_starts a b c order q p)
      (rw (
        head_is g cylinder order plan old disk job hd c u,
        empty_start g cylinder order plan old disk job hd c.phase _ c.fifo p q.good.phase,
      ) (first_serves _ _ (first_rule order plan cylinder emptied _ job)))
  run_tick_serves a b c img h m q w s (at_it form p u k) =
      tick_serves a b c drive _ (tick_works a b c (Formatting here plan form) q p)
      (rw (head_is g cylinder order plan old disk job hd c u)
      (later_serves c.registers.efifo c.registers.fifothr c.fifo (rw p at s) form _ _))

  -- a call that is no tick
  kept_serves : (call : Call) (c e : Controller) (img : List ℕ) (h : History) (m : ℕ) → at_work c.phase ≡ true
      → CallRule call c e → Serves c.phase c.fifo → Running c img h m → Serves e.phase e.fifo
  kept_serves call c e img h m w (cut_off o n) s r = rw o tt
  kept_serves call c e img h m w (goes_on_lem k f) s (is_over n d t) = absurd (false≢true (sym n ∙ w))
  kept_serves call c e img h m w (goes_on_lem k f) s (to_start p u i x z) = rw (k.phase, p) tt
  kept_serves call c e img h m w (goes_on_lem k (same f n)) s (at_it form p u b) = rw (k.phase, f) s
  kept_serves call c e img h m w (goes_on_lem k (took tc y t f n)) s (at_it form p u b) =
      absurd (false≢true (rw p at t))
  kept_serves call c e img h m w (goes_on_lem k (gave byte tc t a f n)) s (at_it form p u b) =
      rw (k.phase, f, p) (write_given c.registers.efifo _ byte c.fifo (rw p at s))

  serves_after : (call : Call) (c : Controller) (img : List ℕ) (h : History) (m : ℕ) → Quiet c
      → at_work c.phase ≡ true
      → Serves c.phase c.fifo → Running c img h m → Serves (after call c).phase (after call c).fifo
  serves_after call c img h m q w s r =
      tick_or_not
      (λ x. Serves (after x c).phase (after x c).fifo)
      (λ a b. run_tick_serves a b c img h m q w s r)
      (λ x n. kept_serves x c (after x c) img h m w (call_rule x c q w n) s r) call

  abbrev Served : History → Controller → Type 0
  Served h c = (c.fifo.asks ≡ false) ⊎ (due ≤ length h.host)

  run_timely : (c : Controller) (img : List ℕ) (h : History) (m : ℕ) → Quiet c → at_work c.phase ≡ true
      → Serves c.phase c.fifo → Running c img h m → Served h c → Timely c
  run_timely c img h m q w s (is_over n k t) v = absurd (false≢true (sym n ∙ w))
  run_timely c img h m q w s (to_start p u i f z) v = λ l. rw p at l
  run_timely c img h m q w s (at_it form p u b) v =
      λ l. in_time_law c.registers.efifo c.fifo img h.host m q.good.fifo (rw p at s) v form b (rw p at l)

  at_timely : (call : Call) (c : Controller) (img : List ℕ) (h : History) (m : ℕ) → Quiet c → at_work c.phase ≡ true
      → Serves c.phase c.fifo → Running c img h m → AtTick (Served h) call c → AtTick Timely call c
  at_timely call c img h m q w s r v = at_tick_map (Served h) Timely call c (run_timely c img h m q w s r) v

  served_timely : (calls : List Call) (c : Controller) (img : List ℕ) (h : History) (m : ℕ) → Quiet c
      → Serves c.phase c.fifo → Running c img h m → Alone drive img calls c → ServedUpTo due calls c h
      → InTime calls c
  unfolding AtTicks Alone ServedUpTo
  served_timely [] c img h m q s r alone served = tt
  served_timely (call ∷ calls) c img h m q s r alone served =
      λ w.
      let (handed_it, alone') = alone w in
      let (served_it, served') = served w in (
        at_timely call c img h m q w s r served_it,
        served_timely calls (after call c) (image_by drive img call c) (history_by call c h) (stores_by call c m)
            (quiet_after call c q w) (serves_after call c img h m q w s r)
            (run_after g cylinder order plan old disk job hd call c img h m q w handed_it r) alone' served',
      )

pub format_served_quiet : FormatServed Quiet
format_served_quiet c q order plan f old g disk calls alone served =
    let (hd, hs, told) = rw f.accepted at q.proper in
    served_timely g (head_of order c) order plan old disk f.formats hd calls c old no_history 0 q
    (rw f.accepted tt) (to_start f.accepted refl refl refl refl) alone served

pub format_served : FormatServed Real
format_served c r = format_served_quiet c (quiet_real c r)

-- In time it never ends with ST1 10, whoever changes the image.

-- at work it is a Format; over, its result says no 10
data Forming (c : Controller) : Type 0 where
  over : at_work c.phase ≡ false → (c.phase ≡ Answering true → result_byte 1 c ≡ 0x10 → ⊥) → Forming c
  starting : (order : Order) (plan : Plan) → c.phase ≡ Starting order → order.job ≡ Format plan → Forming c
  forming : (at : Site) (plan : Plan) (form : Form) → c.phase ≡ Working (Formatting at plan form) → Forming c

-- what a tick gives
record IsForm (work : Work) : Type 0 where
  at : Site
  plan : Plan
  form : Form
  is : work ≡ Formatting at plan form

abbrev is_form : (at : Site) (plan : Plan) (form : Form) → IsForm (Formatting at plan form)
is_form at plan form = record { at = at; plan = plan; form = form; is = refl }

abbrev NotLate : Then → Type 0
NotLate (Ends verdict) = verdict.st1 ≡ 0x10 → ⊥
NotLate (Works work) = IsForm work

first_not_late : (d side : ℕ) (plan : Plan) (head : ℕ) (fifo : Fifo) (disk : Disk) (o : Step)
    → FirstRule d side plan head fifo disk o → NotLate o.then
first_not_late d side plan head fifo disk o (nothing_there k eq) = rw eq (λ f. omega arith)
first_not_late d side plan head fifo disk o (is_protected h e p eq) = rw eq (λ f. omega arith)
first_not_late d side plan head fifo disk o (is_misplanned h e k eq) = rw eq (λ f. omega arith)
first_not_late d side plan head fifo disk o (opens h e a eq) = rw eq (is_form _ _ _)

module _ (head : ℕ) (efifo : Bool) (fifothr : ℕ) (at : Site) (plan : Plan) (fifo : Fifo) where
  rule_not_late : (o : Step) → TimelyRule head efifo fifothr at plan fifo o → NotLate o.then
  rule_not_late o (still_forms form fifo' effect eq) = rw eq (is_form _ _ _)
  rule_not_late o (ends_whole effect eq) = rw eq (λ f. omega arith)

  later_not_late : (form : Form) (seen : Disk) (img : List ℕ) → (LateForm fifo form → ⊥)
      → NotLate (go_on_of (Formatting at plan form) seen head img fifo efifo fifothr).then
  unfolding go_on_of work_step lost_of format_end end_of
  later_not_late form seen img timely =
      by_test (stays_of seen at.disk) (λ (o : Step). NotLate o.then) _ _
      (λ t. rule_not_late _ (timely_rule head efifo fifothr at plan fifo form _ timely
      (form_rule head efifo fifothr at plan fifo form)))
      (λ t f. omega arith)

settled_forming : (t : Then) (fifo : Fifo) (c : Controller) → NotLate t → Forming (settled_of t fifo c)
unfolding settled_of answered_of with_fifo with_phase
settled_forming (Ends verdict) fifo c n = over refl (λ p r. n r)
settled_forming (Works work) fifo c n = forming n.at n.plan n.form (ap Working n.is)

tick_forming : (a b : List ℕ) (c : Controller) (d : ℕ) (o : Step) → ruled_of a b c ≡ decided_of d o c
    → NotLate o.then → Forming (after (ticks a b) c)
unfolding decided_of
tick_forming a b c d o e n =
    rw (after_tick a b c ∙ ap (λ (x : Decision). x.controller) e) (settled_forming o.then o.fifo c n)

ticks_forming : (a b : List ℕ) (c : Controller) → Quiet c → at_work c.phase ≡ true → Timely c → Forming c
    → Forming (after (ticks a b) c)
ticks_forming a b c q w s (over n t) = absurd (false≢true (sym n ∙ w))
ticks_forming a b c q w s (starting order plan p job) =
    tick_forming a b c _ _ (tick_starts a b c order q p)
    (first_not_late order.drive order.side plan _ _ _ _ (first_rule order plan _ _ _ job))
ticks_forming a b c q w s (forming at plan form p) =
    tick_forming a b c _ _ (tick_works a b c (Formatting at plan form) q p)
    (later_not_late _ _ _ at plan _ form _ _ (rw p at s))

forming_after : (call : Call) (c : Controller) → Quiet c → at_work c.phase ≡ true → AtTick Timely call c → Forming c
    → Forming (after call c)
forming_after call c q w s f =
    tick_or_not
    (λ x. AtTick Timely x c → Forming (after x c))
    (λ a b s. ticks_forming a b c q w s f)
    (λ x n s. kept (after x c) x (call_rule x c q w n) f) call s
  where
    kept : (e : Controller) (call : Call) → CallRule call c e → Forming c → Forming e
    kept e call (cut_off o n) f = over (ap at_work o) (λ p r. idle≢answering true (sym o ∙ p))
    kept e call (goes_on_lem k g) (over n t) = absurd (false≢true (sym n ∙ w))
    kept e call (goes_on_lem k g) (starting order plan p job) = starting order plan (k.phase ∙ p) job
    kept e call (goes_on_lem k g) (forming at plan form p) = forming at plan form (k.phase ∙ p)

run_forming : (calls : List Call) (c : Controller) → Quiet c → Its calls c → InTime calls c → Forming c
    → Forming (run_calls calls c)
unfolding Its AtTicks run_calls
run_forming [] c q i s f = f
run_forming (call ∷ calls) c q i s f =
    let (timely, later) = s i.0 in
    run_forming calls (after call c) (quiet_after call c q i.0) i.1 later (forming_after call c q
    i.0 timely f)

pub format_never_late_quiet : FormatNeverLate Quiet
format_never_late_quiet c q order plan f calls its timely e r =
    go (run_forming calls c q its timely (starting order plan f.accepted f.formats))
  where
    go : Forming (run_calls calls c) → ⊥
    go (over n t) = t e r
    go (starting order plan p job) = true≢false (ap at_work (sym p ∙ e))
    go (forming at plan form p) = true≢false (ap at_work (sym p ∙ e))

pub format_never_late : FormatNeverLate Real
format_never_late c r = format_never_late_quiet c (quiet_real c r)
