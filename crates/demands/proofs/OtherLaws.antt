-- Demand 3, the other image (specs/PowerCut): no call of a command changes the image of a drive that is not its own.
-- Assumes nothing.
use Rattle.std.specs.Prelude.{None}
use Prim.Native.Nat.{ℕ}
use mathlib.Core.Bool.{Bool, true, false, false≢true}
use mathlib.Core.List.{List, [], ◌∷◌}
use mathlib.Core.Path.{◌≡◌, refl, sym, ap, ◌∙◌, subst}
use lib.Dec.{eqb}
use borrow.Author.Tests.{ne_eqb}
use Rattle.image.proofs.TestLaws.{by_test}
use Rattle.image.specs.Lent.{stored_as}
use Rattle.chip.specs.declared.fifo.Fifo.{Fifo}
use Rattle.sectors.specs.declared.work.Step.{Step}
use Rattle.sectors.specs.declared.work.Then.{Then}
use Rattle.sectors.specs.declared.work.Then.TheVariants.{Ends, Works}
use Rattle.engine.specs.Kept.{then_drive}
use Rattle.engine.specs.Step.{drive_of}
use Rattle.engine.proofs.KeptLaws.{begin_kept, go_on_kept}
use Rattle.fdc.specs.declared.record.Controller.{Controller}
use Rattle.fdc.specs.declared.record.Phase.{Phase}
use Rattle.fdc.specs.declared.record.Phase.TheVariants.{Idle, Gathering, Starting, Working, Sensing, Answering}
use Rattle.fdc.specs.declared.ticks.Decision.{Decision}
use Rattle.fdc.specs.Answer.{answer_of}
use Rattle.fdc.specs.Commands.{answered_of}
use Rattle.fdc.specs.Record.{valid_of, with_fifo, with_phase}
use Rattle.fdc.specs.Registers.{held_in}
use Rattle.reached.specs.Runs.{Call, answer_to, after, run_calls}
use Rattle.fdc.specs.Ticks.{stepped_of, still_of, settled_of, decided_of, decide_in, decide_of, ruled_of, tick_of, image_after}
use Rattle.demands.specs.PowerCut.{OtherImage}
use Rattle.demands.specs.Work.{at_work, Its, Real}
use Rattle.demands.proofs.CallLaws.{tick_starts, tick_works, call_rule}
use Rattle.demands.proofs.CallRules.{NoTick, CallRule, cut_off, goes_on_lem}
use Rattle.demands.proofs.SplitLaws.{tick_or_not}
use Rattle.demands.specs.Quiet.{Quiet}
use Rattle.demands.proofs.QuietLaws.{quiet_real, quiet_after}

-- a phase at work is of that drive
abbrev pub Of : ℕ → Phase → Type 0
Of drive Idle = Unit {0}
Of drive (Gathering entry) = Unit {0}
Of drive (Starting order) = order.drive ≡ drive
Of drive (Working work) = drive_of work ≡ drive
Of drive (Sensing unit) = Unit {0}
Of drive (Answering loud) = Unit {0}

over_of : (drive : ℕ) (p : Phase) → at_work p ≡ false → Of drive p
over_of drive Idle e = tt
over_of drive (Gathering entry) e = tt
over_of drive (Starting order) e = absurd (false≢true (sym e))
over_of drive (Working work) e = absurd (false≢true (sym e))
over_of drive (Sensing unit) e = tt
over_of drive (Answering loud) e = tt

settled_of_lem : (drive : ℕ) (then : Then) (fifo : Fifo) (c : Controller) → then_drive drive then ≡ drive
    → Of drive (settled_of then fifo c).phase
unfolding settled_of answered_of with_fifo with_phase
settled_of_lem drive (Ends verdict) fifo c e = tt
settled_of_lem drive (Works work) fifo c e = e

module _ (drive : ℕ) where
  -- a tick of a command at work decides for its drive, and goes on at it
  record Decides (x : Decision) : Type 0 where
    where_to : x.drive ≡ drive
    goes : Of drive x.controller.phase

  decided : (d : ℕ) (o : Step) (c : Controller) → d ≡ drive → then_drive d o.then ≡ d → Decides (decided_of d o c)
  unfolding decided_of
  decided d o c e k =
      record {
        where_to = e;
        goes = settled_of_lem drive o.then o.fifo c (subst (λ (n : ℕ). then_drive n
            o.then ≡ n) e k);
      }

  works : (a b : List ℕ) (c : Controller) → Quiet c → at_work c.phase ≡ true → Of drive c.phase
      → Decides (ruled_of a b c)
  works a b c q w o = go c.phase refl
    where
      go : (p : Phase) → c.phase ≡ p → Decides (ruled_of a b c)
      go Idle e = absurd (false≢true (rw e at w))
      go (Gathering entry) e = absurd (false≢true (rw e at w))
      go (Starting order) e =
          rw (tick_starts a b c order q e)
          (decided order.drive _ c (rw e at o) (begin_kept order _ _ c.fifo c.registers.efifo).place)
      go (Working work) e =
          rw (tick_works a b c work q e)
          (decided (drive_of work) _ c (rw e at o) (go_on_kept work _ _ _ c.fifo c.registers.efifo
          c.registers.fifothr).place)
      go (Sensing unit) e = absurd (false≢true (rw e at w))
      go (Answering loud) e = absurd (false≢true (rw e at w))

  -- no command at work: a tick stores nothing
  still : (p : Phase) (a b : List ℕ) (c : Controller) → at_work p ≡ false → (decide_in p a b c).effect ≡ None
  unfolding decide_in still_of
  still Idle a b c e = refl
  still (Gathering entry) a b c e = refl
  still (Starting order) a b c e = absurd (false≢true (sym e))
  still (Working work) a b c e = absurd (false≢true (sym e))
  still (Sensing unit) a b c e = refl
  still (Answering loud) a b c e = refl

  pub rests : (a b : List ℕ) (c : Controller) → at_work c.phase ≡ false → (ruled_of a b c).effect ≡ None
  unfolding ruled_of decide_of still_of
  rests a b c e =
      by_test (valid_of c) (λ (x : Decision). x.effect ≡ None) _ _
      (λ v.
      by_test (held_in c.registers.dor) (λ (x : Decision). x.effect ≡ None) _ _ (λ t. refl)
      (λ t. still c.phase a b (stepped_of a b c) e))
      (λ v. refl)

  kept_same : (k d : ℕ) (img : List ℕ) → stored_as d k None img ≡ img
  kept_same k d img = by_test (eqb d k) (λ (l : List ℕ). l ≡ img) _ _ (λ t. refl) (λ t. refl)

  pub other_tick : (k : ℕ) → (k ≡ drive → ⊥) → (a b : List ℕ) (c : Controller) (img : List ℕ) → Quiet c
      → Of drive c.phase
      → image_after k a b c img ≡ img
  unfolding image_after
  other_tick k n a b c img q o = go (at_work c.phase) refl
    where
      go : (t : Bool) → at_work c.phase ≡ t → stored_as (ruled_of a b c).drive k (ruled_of a b c).effect img ≡ img
      go true w = rw (ne_eqb (ruled_of a b c).drive k (λ e. n (sym e ∙ (works a b c q w o).where_to)))
      go false w = rw (rests a b c w) (kept_same k (ruled_of a b c).drive img)

  call_of : (call : Call) (c : Controller) → Quiet c → at_work c.phase ≡ true → Of drive c.phase → NoTick call
      → Of drive (after call c).phase
  call_of call c q w o n = go (call_rule call c q w n)
    where
      go : CallRule call c (after call c) → Of drive (after call c).phase
      go (cut_off e h) = over_of drive (after call c).phase (ap at_work e)
      go (goes_on_lem k f) = subst (Of drive) (sym k.phase) o

  of_after : (call : Call) (c : Controller) → Quiet c → at_work c.phase ≡ true → Of drive c.phase
      → Of drive (after call c).phase
  unfolding answer_to tick_of answer_of
  of_after call c q w o =
      tick_or_not
      (λ x. Of drive (after x c).phase)
      (λ a b. (works a b c q w o).goes)
      (λ x n. call_of x c q w o n) call

  of_run : (calls : List Call) (c : Controller) → Quiet c → Its calls c → Of drive c.phase
      → (k : ℕ) → (k ≡ drive → ⊥) → (a b img : List ℕ) → image_after k a b (run_calls calls c) img ≡ img
  unfolding Its run_calls
  of_run [] c q i o k n a b img = other_tick k n a b c img q o
  of_run (call ∷ calls) c q i o k n a b img =
      of_run calls (after call c) (quiet_after call c q i.0) i.1 (of_after call c q i.0 o) k n a b img

-- Demand 3: the other image untouched, whatever it holds at each tick
pub other_image_quiet : OtherImage Quiet
other_image_quiet c q order e calls its k n a b img =
    of_run order.drive calls c q its (subst (Of order.drive) (sym e) refl) k n a b img

pub other_image : OtherImage Real
other_image c r = other_image_quiet c (quiet_real c r)
