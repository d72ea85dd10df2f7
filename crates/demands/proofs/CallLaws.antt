-- A call of a command at work, at the record: a tick is the engine's decision, and any other call is `CallRule`
-- (01 Calls, Registers MSR and DRQ, FIFO and request).
-- Assumes nothing.
use Prim.Native.Nat.{ℕ, ◌%◌}
use mathlib.Core.Bool.{Bool, true, false, ◌&&◌, false≢true, and-false}
use mathlib.Core.List.{List}
use mathlib.Core.Path.{◌≡◌, refl, sym, ap, ◌∙◌}
use lib.Dec.{eqb, leb}
use borrow.Author.Tests.{ne_eqb}
use Rattle.image.proofs.TestLaws.{by_test}
use Rattle.image.specs.Lent.{pick_of}
use Rattle.chip.specs.declared.fifo.Fifo.{Fifo}
use Rattle.chip.specs.declared.refusal.Refusal.{Refusal}
use Rattle.chip.specs.Fifo.{FitsFifo}
use Rattle.chip.proofs.FifoLaws.{handed_fits}
use Rattle.drive.specs.declared.Drive.{Drive}
use Rattle.sectors.specs.declared.order.Order.{Order}
use Rattle.sectors.specs.declared.work.Work.{Work}
use Rattle.engine.specs.First.{begin_of}
use Rattle.engine.specs.Step.{drive_of, go_on_of}
use Rattle.fdc.specs.declared.answer.Reply.{Reply}
use Rattle.fdc.specs.declared.answer.Reply.TheVariants.{Done, Byte, Refused}
use Rattle.fdc.specs.declared.record.Bytes.{Bytes}
use Rattle.fdc.specs.declared.record.Controller.{Controller}
use Rattle.fdc.specs.declared.record.Phase.{Phase}
use Rattle.fdc.specs.declared.record.Phase.TheVariants.{Idle, Starting, Working}
use Rattle.fdc.specs.declared.record.Registers.{Registers}
use Rattle.fdc.specs.declared.answer.Answer.{Answer}
use Rattle.fdc.specs.Answer.{answer_of}
use Rattle.fdc.specs.Calls.{power_on}
use Rattle.fdc.specs.Data.{phase_to_host, phase_from_host}
use Rattle.fdc.specs.Record.{fresh_of, drive_at}
use Rattle.fdc.specs.Ticks.{seen_of, decided_of, start_tick, work_tick, decide_in, decide_of, ruled_of, tick_of}
use Rattle.reached.specs.Moves.{Calm}
use Rattle.reached.specs.Runs.{Call, powers, reads, writes, takes, gives, ticks, notes, answer_to, after}
use Rattle.reached.proofs.GoodLaws.{good_valid}
use Rattle.reached.proofs.MoveLaws.{calm_stays}
use Rattle.reached.proofs.RuleLaws.{collects_unengaged, rule_of}
use Rattle.reached.proofs.Rules.{engaged, Restarts, by_power, by_dor, by_dsr, DriveRule, kept, noted, powered, reset, restarted, released, sensed, set_off, ticked, Takes, by_read, by_cycle, Gives, by_write, by_dma, Told, Rest, refuses, shows, steps, flags, sets, anew, gathers, says, idles, specifies, configures, senses, starts, acts}
use Rattle.reached.proofs.Rules.{took_byte, gave_byte}
use Rattle.demands.specs.HandedOver.{Taken, took_one, taken_by}
use Rattle.demands.specs.History.{History, handed, history_by}
use Rattle.demands.specs.Quiet.{Quiet}
use Rattle.demands.specs.Work.{at_work}
use Rattle.demands.proofs.CallRules.{NoTick, FifoRule, same, MayTake, TakenRule, none_taken, one_taken, took, gave, Keeps, CallRule, cut_off, goes_on_lem}
use Rattle.demands.proofs.QuietLaws.{at_work_law, quiet_stepped, quiet_free}

-- the tick
tick_decides : (a b : List ℕ) (c : Controller) → Quiet c → at_work c.phase ≡ true
    → ruled_of a b c ≡ decide_in c.phase a b c
unfolding ruled_of decide_of
tick_decides a b c q w = simp (good_valid c q.good, quiet_free c q w, quiet_stepped a b c q w)

pub tick_starts : (a b : List ℕ) (c : Controller) (order : Order) → Quiet c → c.phase ≡ Starting order
    → ruled_of a b c
    ≡ decided_of order.drive
    (begin_of order (seen_of c.registers.dor order.drive (pick_of order.drive a b))
    (drive_at (order.drive % 4) c.drives).head c.fifo)
    c
unfolding decide_in start_tick
tick_starts a b c order q e =
    tick_decides a b c q (ap at_work e) ∙ ap (λ (p : Phase). decide_in p a b c) e

pub tick_works : (a b : List ℕ) (c : Controller) (work : Work) → Quiet c → c.phase ≡ Working work
    → ruled_of a b c
    ≡ decided_of (drive_of work)
    (go_on_of work (seen_of c.registers.dor (drive_of work) (pick_of (drive_of work) a b))
    (drive_at (drive_of work % 4) c.drives).head (pick_of (drive_of work) a b) c.fifo c.registers.efifo
    c.registers.fifothr)
    c
unfolding decide_in work_tick
tick_works a b c work q e =
    tick_decides a b c q (ap at_work e) ∙ ap (λ (p : Phase). decide_in p a b c) e

-- 01 Calls: a tick's record
pub after_tick : (a b : List ℕ) (c : Controller) → after (ticks a b) c ≡ (ruled_of a b c).controller
unfolding answer_to tick_of answer_of
after_tick a b c = refl

abbrev power : Call → Bool
power (powers head0 head1) = true
power (reads offset) = false
power (writes offset byte) = false
power (takes tc) = false
power (gives byte tc) = false
power (ticks a b) = false
power (notes drive) = false

abbrev NoPower : Call → Type 0
NoPower call = (head0 head1 : ℕ) → call ≡ powers head0 head1 → ⊥

no_power : (call : Call) → power call ≡ false → NoPower call
no_power call z head0 head1 e = false≢true (sym z ∙ ap power e)

module _ (call : Call) (c : Controller) where
  -- calls that hand over no byte leave the history
  abbrev Unheard : Type 0
  Unheard = (h : History) → history_by call c h ≡ h

  reads_unheard : (offset : ℕ) → call ≡ reads offset → Unheard
  unfolding history_by
  reads_unheard offset e h = rw e

  takes_unheard : (tc : Bool) → Takes call tc → Unheard
  unfolding history_by
  takes_unheard tc (by_read e) h = rw e
  takes_unheard tc (by_cycle tc' e) h = rw e

  takes_may : (tc : Bool) → Takes call tc → MayTake call
  takes_may tc (by_read e) = rw e tt
  takes_may tc (by_cycle tc' e) = rw e tt

  notes_unheard : (drive : ℕ) → call ≡ notes drive → Unheard
  unfolding history_by
  notes_unheard drive e h = rw e

  writes_unheard : (offset byte : ℕ) → call ≡ writes offset byte → (offset ≡ 5 → ⊥) → Unheard
  unfolding history_by
  writes_unheard offset byte e o h = rw e (simp (ne_eqb offset 5 o))

  restarts_unheard : Restarts call → Unheard
  unfolding history_by
  restarts_unheard (by_power head0 head1 e) h = rw e
  restarts_unheard (by_dor byte e held) h = rw e
  restarts_unheard (by_dsr byte e strobe) h = rw e

  -- a byte that is handed over
  gives_heard : (byte : ℕ) (tc : Bool) → Gives call byte tc → (answer_to call c).reply ≡ Done → (h : History)
      → history_by call c h ≡ handed byte tc h
  unfolding history_by
  gives_heard byte tc (by_write e) d h = rw e (simp (rw e at d))
  gives_heard byte tc (by_dma tc' e) d h = rw e (simp (rw e at d))

  -- heads move in ticks only, or are given anew
  head_rule : NoPower call → NoTick call → (p : Phase) (k : ℕ) (e : Drive) → DriveRule call c p k e
      → e.head ≡ (drive_at k c.drives).head
  head_rule z n p k e kept = refl
  head_rule z n p k e noted = refl
  head_rule z n p k e (powered head h x y q) = absurd (z x y q)
  head_rule z n p k e (reset r) = refl
  head_rule z n p k e (restarted report r) = refl
  head_rule z n p k e (released report h) = refl
  head_rule z n p k e (sensed f x) = refl
  head_rule z n p k e (set_off f i b motion h) = refl
  head_rule z n p k e (ticked x y q f mounted) = absurd (rw q at n)

-- a refusal leaves the history
refused_unheard : (call : Call) (c : Controller) (refusal : Refusal) → NoTick call
    → (answer_to call c).reply ≡ Refused refusal → (h : History) → history_by call c h ≡ h
unfolding history_by
refused_unheard (powers head0 head1) c refusal n e h = refl
refused_unheard (reads offset) c refusal n e h = refl
refused_unheard (writes offset byte) c refusal n e h = simp (e, and-false)
refused_unheard (takes tc) c refusal n e h = refl
refused_unheard (gives byte tc) c refusal n e h = simp e
refused_unheard (ticks a b) c refusal n e h = absurd n
refused_unheard (notes drive) c refusal n e h = refl

-- and takes nothing
refused_untaken : (call : Call) (c : Controller) (refusal : Refusal) → MayTake call
    → (answer_to call c).reply ≡ Refused refusal → (t : Taken) → taken_by call c t ≡ t
unfolding taken_by
refused_untaken (powers head0 head1) c refusal m e t = absurd m
refused_untaken (reads offset) c refusal m e t =
    rw e (by_test (eqb offset 5) (λ (x : Taken). x ≡ t) _ _ (λ _. refl) (λ _. refl))
refused_untaken (writes offset byte) c refusal m e t = absurd m
refused_untaken (takes tc) c refusal m e t = simp e
refused_untaken (gives byte tc) c refusal m e t = absurd m
refused_untaken (ticks a b) c refusal m e t = absurd m
refused_untaken (notes drive) c refusal m e t = absurd m

-- `CallRule`, with why a command is cut off: no calm call does it
data Way (call : Call) (c e : Controller) : Type 0 where
  cut : (Calm call → ⊥) → e.phase ≡ Idle → ((h : History) → history_by call c h ≡ h) → Way call c e
  on : e.phase ≡ c.phase → e.registers.efifo ≡ c.registers.efifo
      → e.registers.fifothr ≡ c.registers.fifothr → FifoRule call c e → Way call c e

module _ (call : Call) (c : Controller) (w : at_work c.phase ≡ true) where
  -- what a call does only while no command is at work
  elsewhere : {A : Type 0} → engaged c.phase ≡ false → A
  elsewhere f = absurd (false≢true (sym (at_work_law c.phase ∙ f) ∙ w))

  told_elsewhere : {A : Type 0} (command : List ℕ) → Told call c command → A
  told_elsewhere command t = elsewhere (collects_unengaged c t.byte t.entry t.by)

  -- `e` is the record after the call, part by part
  module _ (e : Controller) (n : NoTick call) where
    way : (ds : List Drive) (reply : Reply) (r : Registers) (f : Fifo) (b : Bytes) (p : Phase)
        → (answer_to call c).reply ≡ reply → e.registers ≡ r → e.fifo ≡ f → e.phase ≡ p
        → Rest call c ds reply r f b p → Way call c e
    way ds reply r f b p y er ef ep (refuses refusal) = on ep (rw er) (rw er) (same ef (refused_unheard call c refusal n y))
    way ds reply r f b p y er ef ep (shows offset byte q o) =
        on ep (rw er) (rw er) (same ef (reads_unheard call c offset q))
    way ds reply r f b p y er ef ep (steps a b' q) = absurd (rw q at n)
    way ds reply r f b p y er ef ep (flags drive q) = on ep (rw er) (rw er) (same ef (notes_unheard call c drive q))
    way ds reply r f b p y er ef ep (sets offset byte q o m s) =
        on ep (rw er s.efifo) (rw er s.fifothr) (same ef (writes_unheard call c offset byte q o))
    way ds reply r f b p y er ef ep (anew x reply' m i t s still) =
        cut (λ calm. calm_stays call calm x) ep (restarts_unheard call c x)
    way ds reply r f b p y er ef ep (took_byte tc x work q h asks) =
        on ep (rw er) (rw er) (took tc (takes_may call c tc x) (ap phase_to_host q ∙ h) ef (takes_unheard call c tc x))
    way ds reply r f b p y er ef ep (gave_byte byte tc x work q h asks) =
        on ep (rw er) (rw er) (gave byte tc (ap phase_from_host q ∙ h) asks ef (gives_heard call c byte tc x y))
    way ds reply r f b p y er ef ep (gathers b' t l o m k) = told_elsewhere _ t
    way ds reply r f b p y er ef ep (says h free reply' results left l m k) = elsewhere h
    way ds reply r f b p y er ef ep (idles h free reply') = elsewhere h
    way ds reply r f b p y er ef ep (specifies command t h second) = told_elsewhere command t
    way ds reply r f b p y er ef ep (configures command t h byte track) = told_elsewhere command t
    way ds reply r f b p y er ef ep (senses command t h unit) = told_elsewhere command t
    way ds reply r f b p y er ef ep (starts command t h order o) = told_elsewhere command t
    way ds reply r f b p y er ef ep (acts a b' q h s x) = absurd (rw q at n)

  ruled : NoTick call → Way call c (after call c)
  ruled n = way (after call c) n _ _ _ _ _ _ refl refl refl refl (rule_of call c).rest

  keeps : NoPower call → NoTick call → (after call c).phase ≡ c.phase
      → (after call c).registers.efifo ≡ c.registers.efifo
      → (after call c).registers.fifothr ≡ c.registers.fifothr → Keeps c (after call c)
  keeps z n p f t = record {
    phase = p;
    heads = λ k l. head_rule call c z n _ k _ ((rule_of call c).drives k l);
    efifo = f;
    fifothr = t;
  }

  by_way : NoPower call → NoTick call → Way call c (after call c) → CallRule call c (after call c)
  by_way z n (cut r p h) = cut_off p h
  by_way z n (on p f t x) = goes_on_lem (keeps z n p f t) x

  by_calm : NoTick call → Calm call → Way call c (after call c) → Keeps c (after call c)
  by_calm n calm (cut r p h) = absurd (r calm)
  by_calm n calm (on p f t x) = keeps (λ head0 head1 e. calm_stays call calm (by_power head0 head1 e)) n p f t

  -- what a call that may hand the host a byte hands over
  module _ (e : Controller) (m : MayTake call) (fits : FitsFifo c.registers.efifo c.fifo) where
    restarts_none : {A : Type 0} → Restarts call → A
    restarts_none (by_power head0 head1 q) = absurd (rw q at m)
    restarts_none (by_dor byte q held) = absurd (rw q at m)
    restarts_none (by_dsr byte q strobe) = absurd (rw q at m)

    gives_none : {A : Type 0} (byte : ℕ) (tc : Bool) → Gives call byte tc → A
    gives_none byte tc (by_write q) = absurd (rw q at m)
    gives_none byte tc (by_dma tc' q) = absurd (rw q at m)

    shown : (offset : ℕ) → call ≡ reads offset → (offset ≡ 5 → ⊥) → (t : Taken) → taken_by call c t ≡ t
    unfolding taken_by
    shown offset q o t = rw q (simp (ne_eqb offset 5 o))

    taken_one : (tc : Bool) → Takes call tc → (byte : ℕ) → (answer_to call c).reply ≡ Byte byte → (t : Taken)
        → taken_by call c t ≡ took_one byte tc t
    unfolding taken_by
    taken_one tc (by_read q) byte y t = rw q (simp (rw q at y))
    taken_one tc (by_cycle tc' q) byte y t = rw q (simp (rw q at y))

    taken_way : (ds : List Drive) (reply : Reply) (r : Registers) (f : Fifo) (b : Bytes) (p : Phase)
        → (answer_to call c).reply ≡ reply → e.fifo ≡ f → Rest call c ds reply r f b p → TakenRule call c e
    taken_way ds reply r f b p y ef (refuses refusal) = none_taken ef (refused_untaken call c refusal m y)
    taken_way ds reply r f b p y ef (shows offset byte q o) = none_taken ef (shown offset q o)
    taken_way ds reply r f b p y ef (steps a b' q) = absurd (rw q at m)
    taken_way ds reply r f b p y ef (flags drive q) = absurd (rw q at m)
    taken_way ds reply r f b p y ef (sets offset byte q o n s) = absurd (rw q at m)
    taken_way ds reply r f b p y ef (anew x reply' n i t s still) = restarts_none x
    taken_way ds reply r f b p y ef (took_byte tc x work q h asks) =
        one_taken tc (ap phase_to_host q ∙ h) asks ef
        (taken_one tc x _ (y ∙ ap Byte (handed_fits c.registers.efifo c.fifo fits)))
    taken_way ds reply r f b p y ef (gave_byte byte tc x work q h asks) = gives_none byte tc x
    taken_way ds reply r f b p y ef (gathers b' t l o n k) = told_elsewhere _ t
    taken_way ds reply r f b p y ef (says h free reply' results left l n k) = elsewhere h
    taken_way ds reply r f b p y ef (idles h free reply') = elsewhere h
    taken_way ds reply r f b p y ef (specifies command t h second) = told_elsewhere command t
    taken_way ds reply r f b p y ef (configures command t h byte track) = told_elsewhere command t
    taken_way ds reply r f b p y ef (senses command t h unit) = told_elsewhere command t
    taken_way ds reply r f b p y ef (starts command t h order o) = told_elsewhere command t
    taken_way ds reply r f b p y ef (acts a b' q h s x) = absurd (rw q at m)

-- power-on begins anew
powers_anew : (head0 head1 : ℕ) → (power_on head0 head1).controller.phase ≡ Idle
unfolding power_on answer_of fresh_of
powers_anew head0 head1 =
    by_test (leb head0 81 && leb head1 81) (λ (a : Answer). a.controller.phase ≡ Idle) _ _ (λ _. refl)
    (λ _. refl)

pub call_rule : (call : Call) (c : Controller) → Quiet c → at_work c.phase ≡ true → NoTick call
    → CallRule call c (after call c)
unfolding answer_to history_by
call_rule (powers head0 head1) c q w n = cut_off (powers_anew head0 head1) (λ h. refl)
call_rule (reads offset) c q w n = by_way _ c w (no_power (reads offset) refl) n (ruled (reads offset) c w n)
call_rule (writes offset byte) c q w n =
    by_way _ c w (no_power (writes offset byte) refl) n (ruled (writes offset byte) c w n)
call_rule (takes tc) c q w n = by_way _ c w (no_power (takes tc) refl) n (ruled (takes tc) c w n)
call_rule (gives byte tc) c q w n = by_way _ c w (no_power (gives byte tc) refl) n (ruled (gives byte tc) c w n)
call_rule (ticks a b) c q w n = absurd n
call_rule (notes drive) c q w n = by_way _ c w (no_power (notes drive) refl) n (ruled (notes drive) c w n)

-- a calm call keeps a command at work
pub calm_keeps : (call : Call) (c : Controller) → Quiet c → at_work c.phase ≡ true → NoTick call → Calm call
    → Keeps c (after call c)
calm_keeps call c q w n calm = by_calm call c w n calm (ruled call c w n)

module _ (c : Controller) (q : Quiet c) (w : at_work c.phase ≡ true) where
  pub taken_rule : (call : Call) → MayTake call → TakenRule call c (after call c)
  taken_rule call m =
      taken_way call c w (after call c) m q.good.fifo _ _ _ _ _ _ refl refl (rule_of call c).rest
