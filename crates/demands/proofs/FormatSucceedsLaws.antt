-- When a Format succeeds (specs/FormatSucceeds): with the motor on its disk stays as it was, since its stores are
-- behind the header; served in time no end is left but the normal one, and the bound's ticks bring it.
-- Assumes nothing.
use Rattle.std.specs.Prelude.{None, Some}
use Prim.Native.Nat.{ℕ, ◌<◌}
use mathlib.Core.Bool.{Bool, true, false, true≢false, false≢true}
use mathlib.Core.List.{List, [], ◌∷◌}
use mathlib.Core.Logic.{◌⊎◌, inl, inr}
use mathlib.Core.Path.{◌≡◌, refl, sym, ap, ◌∙◌}
use Rattle.image.specs.declared.layout.Geometry.{Geometry}
use Rattle.image.specs.Disk.{disk_in}
use Rattle.image.specs.Lent.{pick_of}
use Rattle.chip.specs.declared.fifo.Fifo.{Fifo}
use Rattle.chip.specs.Fifo.{emptied, opened_of}
use Rattle.sectors.specs.declared.order.Job.TheVariants.{Format}
use Rattle.sectors.specs.declared.order.Order.{Order}
use Rattle.sectors.specs.declared.order.Plan.{Plan}
use Rattle.sectors.specs.declared.work.Form.{Form}
use Rattle.sectors.specs.declared.work.Form.TheVariants.{Awaiting}
use Rattle.sectors.specs.declared.work.Site.{Site}
use Rattle.sectors.specs.declared.work.Step.{Step}
use Rattle.sectors.specs.declared.work.Then.{Then}
use Rattle.sectors.specs.declared.work.Then.TheVariants as then
use Rattle.sectors.specs.declared.work.Verdict.{Verdict}
use Rattle.sectors.specs.declared.work.Work.TheVariants.{Formatting}
use Rattle.sectors.specs.Track.{stays_of}
use Rattle.engine.specs.First.{begin_of}
use Rattle.engine.specs.Format.{forms_of}
use Rattle.engine.specs.Step.{work_step, go_on_of}
use Rattle.fdc.specs.declared.record.Controller.{Controller}
use Rattle.fdc.specs.declared.ticks.Decision.{Decision}
use Rattle.fdc.specs.Commands.{answered_of}
use Rattle.reached.specs.Moves.{Calm}
use Rattle.fdc.specs.Record.{with_fifo, with_phase}
use Rattle.fdc.specs.Registers.{motor_in}
use Rattle.reached.specs.Runs.{Call, ticks, after}
use Rattle.fdc.specs.Ticks.{seen_of, settled_of, decided_of, ruled_of}
use Rattle.demands.specs.DataError.{Spins}
use Rattle.demands.specs.FormatScript.{stores_by, Allowed}
use Rattle.demands.specs.FormatSucceeds.{Formatted, FormatSucceeds}
use Rattle.demands.specs.History.{History, no_history, history_by}
use Rattle.demands.specs.InTime.{LateForm, AtTick, AtTicks, Timely, InTime}
use Rattle.demands.specs.PowerCut.{head_of}
use Rattle.demands.specs.Quiet.{Quiet}
use Rattle.demands.specs.Work.{at_work, image_by, Handed, Alone, EndsWith, Anyhow, Real}
use Rattle.demands.proofs.CallLaws.{tick_starts, tick_works, calm_keeps, after_tick}
use Rattle.demands.proofs.SplitLaws.{tick_or_not}
use Rattle.demands.proofs.CourseLaws.{same_geometry}
use Rattle.demands.proofs.EndsLaws.{ends_in_time_quiet}
use Rattle.demands.proofs.FormatLaws.{site, Run, is_over, to_start, at_it, run_formatted, head_is, empty_start, run_after}
use Rattle.demands.proofs.FormatRules.{form_verdict, first_rule, allowed_opens, form_rule, TimelyRule, still_forms, ends_whole, timely_rule}
use Rattle.demands.proofs.FormatStaysLaws.{left_disk}
use Rattle.demands.proofs.QuietLaws.{quiet_real, quiet_after}

module _ (g : Geometry) (cylinder : ℕ) (order : Order) (plan : Plan) (old : List ℕ) (disk : disk_in old ≡ Some g)
    (job : order.job ≡ Format plan) (hd : order.drive < 4) (ok : Allowed g cylinder order.side plan) where
  abbrev drive : ℕ
  drive = order.drive

  abbrev here : Site
  here = site g cylinder drive order.side plan old

  -- a tick that ends the command ends it normally
  abbrev WellThen : Then → Type 0
  WellThen (then.Ends verdict) = verdict ≡ form_verdict true 0x00 plan.sc drive order.side plan cylinder
  WellThen (then.Works work) = Unit {0}

  -- The first tick.
  first_well : (dor : ℕ) → motor_in dor drive ≡ true
      → begin_of order (seen_of dor drive old) cylinder emptied
      ≡ forms_of (Awaiting 0 0) here plan (opened_of emptied) None
  unfolding seen_of
  first_well dor motor =
      rw (motor, disk)
      (allowed_opens drive order.side plan cylinder emptied g _ ok
      (first_rule order plan cylinder emptied (Some g) job))

  -- A later tick.
  module _ (efifo : Bool) (fifothr : ℕ) (fifo : Fifo) where
    rule_well : (o : Step) → TimelyRule cylinder efifo fifothr here plan fifo o → WellThen o.then
    rule_well o (still_forms form fifo' effect eq) = rw eq tt
    rule_well o (ends_whole effect eq) = rw eq refl

    later_well : (form : Form) (dor : ℕ) (img : List ℕ) → motor_in dor drive ≡ true → disk_in img ≡ Some g
        → (LateForm fifo form → ⊥)
        → WellThen (go_on_of (Formatting here plan form) (seen_of dor drive img) cylinder img fifo efifo fifothr).then
    unfolding go_on_of work_step seen_of stays_of
    later_well form dor img motor there timely =
        rw (motor, there, same_geometry g)
        (rule_well _ (timely_rule cylinder efifo fifothr here plan fifo form _ timely
        (form_rule cylinder efifo fifothr here plan fifo form)))

  -- The record.

  abbrev Done : Controller → Type 0
  Done c = Formatted order plan cylinder c

  abbrev Fine : Controller → Type 0
  Fine c = Done c ⊎ (at_work c.phase ≡ true)

  over_done : (c : Controller) → at_work c.phase ≡ false → Fine c → Done c
  over_done c n (inl d) = d
  over_done c n (inr w) = absurd (true≢false (sym w ∙ n))

  settled_fine : (t : Then) (fifo : Fifo) (c : Controller) → WellThen t → Fine (settled_of t fifo c)
  unfolding settled_of answered_of with_fifo with_phase
  settled_fine (then.Ends verdict) fifo c e =
      inl (record {
        waits = refl;
        st0 = ap (λ (v : Verdict). v.st0) e;
        st1 = ap (λ (v : Verdict). v.st1) e;
        st2 = ap (λ (v : Verdict). v.st2) e;
        address = ap (λ (v : Verdict). v.id) e;
      })
  settled_fine (then.Works work) fifo c w = inr refl

  tick_fine : (a b : List ℕ) (c : Controller) (d : ℕ) (o : Step) → ruled_of a b c ≡ decided_of d o c
      → WellThen o.then → Fine (after (ticks a b) c)
  unfolding decided_of
  tick_fine a b c d o e w =
      rw (after_tick a b c ∙ ap (λ (x : Decision). x.controller) e) (settled_fine o.then o.fifo c w)

  abbrev Running : Controller → List ℕ → History → ℕ → Type 0
  Running c img h m = Run g cylinder order plan old disk job hd c img h m

  -- its stores leave the header as it was
  run_disk : (c : Controller) (img : List ℕ) (h : History) (m : ℕ) → Running c img h m → disk_in img ≡ Some g
  run_disk c img h m r =
      left_disk g cylinder order.side drive plan h.host old img m
      (run_formatted g cylinder order plan old disk job hd r).left ∙ disk

  run_tick_fine : (a b : List ℕ) (c : Controller) (img : List ℕ) (h : History) (m : ℕ) → Quiet c
      → at_work c.phase ≡ true → motor_in c.registers.dor drive ≡ true → pick_of drive a b ≡ img → Timely c
      → disk_in img ≡ Some g → Running c img h m → Fine (after (ticks a b) c)
  run_tick_fine a b c img h m q w motor e s there (is_over n k t) = absurd (false≢true (sym n ∙ w))
  run_tick_fine a b c img h m q w motor e s there (to_start p u i f z) =
      tick_fine a b c drive _ (tick_starts a b c order q p)
      (rw (
        e,
        i,
        head_is g cylinder order plan old disk job hd c u,
        empty_start g cylinder order plan old disk job hd c.phase _ c.fifo p q.good.phase,
        first_well c.registers.dor motor,
      ) tt)
  run_tick_fine a b c img h m q w motor e s there (at_it form p u k) =
      tick_fine a b c drive _ (tick_works a b c (Formatting here plan form) q p)
      (rw (e, head_is g cylinder order plan old disk job hd c u)
      (later_well c.registers.efifo c.registers.fifothr c.fifo form c.registers.dor img motor there
      (rw p at s)))

  -- a calm call that is no tick keeps it at work
  fine_after : (call : Call) (c : Controller) (img : List ℕ) (h : History) (m : ℕ) → Quiet c → at_work c.phase ≡ true
      → motor_in c.registers.dor drive ≡ true → Calm call → Handed drive img call → AtTick Timely call c
      → Running c img h m → Fine (after call c)
  fine_after call c img h m q w motor calm e s r =
      tick_or_not
      (λ x. Calm x → Handed drive img x → AtTick Timely x c → Fine (after x c))
      (λ a b calm e s. run_tick_fine a b c img h m q w motor e s (run_disk c img h m r) r)
      (λ x n calm e s. inr (ap at_work (calm_keeps x c q w n calm).phase ∙ w)) call calm e s

  ends_well : (calls : List Call) (c : Controller) (img : List ℕ) (h : History) (m : ℕ) → Quiet c → Running c img h m
      → Fine c → Spins drive calls c → Alone drive img calls c → InTime calls c → EndsWith Anyhow calls c
      → EndsWith Done calls c
  unfolding EndsWith Spins Alone AtTicks
  ends_well [] c img h m q r f spins alone timely any = (any.0, over_done c any.0 f)
  ends_well (call ∷ calls) c img h m q r f spins alone timely (inl over) = inl (over.0, over_done c over.0 f)
  ends_well (call ∷ calls) c img h m q r f spins alone timely (inr (w, any)) =
      let (calm, spins') = spins.1 w in
      let (handed_it, alone') = alone w in
      let (timely_it, timely') = timely w in
      inr (
        w,
        ends_well calls (after call c) (image_by drive img call c) (history_by call c h) (stores_by call c m)
            (quiet_after call c q w)
            (run_after g cylinder order plan old disk job hd call c img h m q w handed_it r)
            (fine_after call c img h m q w spins.0 calm handed_it timely_it r)
            spins' alone' timely' any,
      )

-- 01 Format: allowed, with the motor on, nobody else at the image, served in time, it ends normally
pub format_succeeds_quiet : FormatSucceeds Quiet
format_succeeds_quiet c q order plan f old g disk ok calls spins alone timely bound =
    let (hd, hs, told) = rw f.accepted at q.proper in
    ends_well g (head_of order c) order plan old disk f.formats hd ok calls c old no_history 0 q
    (to_start f.accepted refl refl refl refl) (inr (ap at_work f.accepted)) spins alone timely
    (ends_in_time_quiet c q order f.accepted old g disk calls alone bound)

pub format_succeeds : FormatSucceeds Real
format_succeeds c r = format_succeeds_quiet c (quiet_real c r)
