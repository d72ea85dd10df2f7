-- What a write command's result says of the disk (specs/Acknowledged), over every list of its calls: the ends by their
-- rules are in CutLaws, the lists in PowerCutLaws. And that a command ends with a result, or by a reset.
-- Assumes nothing.
use Prim.Native.Nat.{ℕ}
use mathlib.Core.Bool.{true, true≢false, false≢true}
use mathlib.Core.List.{List, [], ◌∷◌}
use mathlib.Core.Logic.{◌⊎◌, inl, inr}
use mathlib.Core.Path.{◌≡◌, refl, sym, ap, ◌∙◌}
use Rattle.chip.specs.declared.fifo.Fifo.{Fifo}
use Rattle.sectors.specs.declared.work.Step.{Step}
use Rattle.sectors.specs.declared.work.Then.{Then}
use Rattle.sectors.specs.declared.work.Then.TheVariants.{Ends, Works}
use Rattle.fdc.specs.declared.record.Controller.{Controller}
use Rattle.fdc.specs.declared.record.Phase.{Phase}
use Rattle.fdc.specs.declared.record.Phase.TheVariants.{Idle, Gathering, Starting, Working, Sensing, Answering}
use Rattle.fdc.specs.declared.ticks.Decision.{Decision}
use Rattle.fdc.specs.Commands.{answered_of}
use Rattle.reached.specs.Moves.{Calm, AllCalm}
use Rattle.fdc.specs.Record.{with_fifo, with_phase}
use Rattle.reached.specs.Runs.{Call, ticks, after, run_calls}
use Rattle.fdc.specs.Ticks.{settled_of, decided_of, ruled_of}
use Rattle.demands.specs.Acknowledged.{Acknowledged, ResultWaits}
use Rattle.demands.specs.Work.{at_work, Its, Real}
use Rattle.demands.proofs.CallLaws.{tick_starts, tick_works, calm_keeps, after_tick}
use Rattle.demands.proofs.SplitLaws.{tick_or_not}
use Rattle.demands.specs.Quiet.{Quiet}
use Rattle.demands.proofs.PowerCutLaws.{run_told, ran}
use Rattle.demands.proofs.QuietLaws.{quiet_real, quiet_after}

pub acknowledged_quiet : Acknowledged Quiet
acknowledged_quiet c q order transfer id w old g disk calls its alone e =
    run_told _ _ _ _ _ _ _ _ _ _ _ _ (ran c q order transfer id w old g disk calls its alone) e

pub acknowledged : Acknowledged Real
acknowledged c r = acknowledged_quiet c (quiet_real c r)

-- at work, or the result waits
abbrev pub OnOrSaid : Controller → Type 0
OnOrSaid c = (at_work c.phase ≡ true) ⊎ (c.phase ≡ Answering true)

settled_said : (then : Then) (fifo : Fifo) (c : Controller) → OnOrSaid (settled_of then fifo c)
unfolding settled_of with_fifo with_phase answered_of
settled_said (Ends verdict) fifo c = inr refl
settled_said (Works work) fifo c = inl refl

pub tick_said : (a b : List ℕ) (c : Controller) (drive : ℕ) (o : Step) → ruled_of a b c ≡ decided_of drive o c
    → OnOrSaid (after (ticks a b) c)
unfolding decided_of
tick_said a b c drive o e =
    rw (after_tick a b c ∙ ap (λ (d : Decision). d.controller) e) (settled_said o.then o.fifo c)

pub phase_said : (a b : List ℕ) (c : Controller) (p : Phase) → c.phase ≡ p → at_work p ≡ true → Quiet c
    → OnOrSaid (after (ticks a b) c)
phase_said a b c Idle e w q = absurd (false≢true w)
phase_said a b c (Gathering entry) e w q = absurd (false≢true w)
phase_said a b c (Starting order) e w q = tick_said a b c _ _ (tick_starts a b c order q e)
phase_said a b c (Working work) e w q = tick_said a b c _ _ (tick_works a b c work q e)
phase_said a b c (Sensing unit) e w q = absurd (false≢true w)
phase_said a b c (Answering loud) e w q = absurd (false≢true w)

call_said : (call : Call) (c : Controller) → Quiet c → at_work c.phase ≡ true → Calm call → OnOrSaid (after call c)
call_said call c q w calm =
    tick_or_not
    (λ x. Calm x → OnOrSaid (after x c))
    (λ a b calm. phase_said a b c c.phase refl w q)
    (λ x n calm. inl (ap at_work (calm_keeps x c q w n calm).phase ∙ w)) call calm

run_said : (calls : List Call) (c : Controller) → Quiet c → OnOrSaid c → Its calls c → AllCalm calls
    → OnOrSaid (run_calls calls c)
unfolding Its run_calls
run_said [] c q o i calm = o
run_said (call ∷ calls) c q o i calm =
    run_said calls (after call c) (quiet_after call c q i.0) (call_said call c q i.0 calm.0) i.1 calm.1

pub result_waits_quiet : ResultWaits Quiet
result_waits_quiet c q order p calls its calm over =
    go (run_said calls c q (inl (ap at_work p)) its calm)
  where
    go : OnOrSaid (run_calls calls c) → (run_calls calls c).phase ≡ Answering true
    go (inl w) = absurd (true≢false (sym w ∙ over))
    go (inr e) = e

pub result_waits : ResultWaits Real
result_waits c r = result_waits_quiet c (quiet_real c r)
