-- A protected image never changes (01 Data commands, first tick and "header changed later").
-- Assumes nothing.
use Rattle.std.specs.Prelude.{None}
use Prim.Native.Nat.{ℕ, ◌%◌}
use mathlib.Core.Bool.{Bool, true, false, and-false}
use mathlib.Core.List.{List, [], ◌∷◌}
use mathlib.Core.Path.{◌≡◌, refl, sym, ◌∙◌, ap, subst}
use lib.Dec.{eqb}
use borrow.Author.Tests.{eqb-true}
use Rattle.image.proofs.TestLaws.{by_test}
use Rattle.image.specs.Disk.{Disk}
use Rattle.image.specs.declared.layout.Geometry.{Geometry}
use Rattle.image.specs.Lent.{Effect}
use Rattle.image.specs.Layout.{same_of}
use Rattle.image.specs.Lent.{pick_of, stored_in}
use Rattle.chip.specs.declared.fifo.Fifo.{Fifo}
use Rattle.sectors.specs.declared.work.Work.{Work}
use Rattle.sectors.specs.declared.work.Work.TheVariants.{Identifying, Moving, Formatting}
use Rattle.sectors.specs.Result.{end_of, move_end, move_fails}
use Rattle.sectors.specs.Track.{stays_of}
use Rattle.engine.specs.Format.{format_end}
use Rattle.engine.specs.ReadId.{no_id_of}
use Rattle.engine.specs.Step.{site_of, drive_of, flow_of, from_host, lost_of, go_on_of}
use Rattle.engine.proofs.KeptLaws.{go_on_kept}
use Rattle.fdc.specs.declared.record.Controller.{Controller}
use Rattle.fdc.specs.declared.record.Phase.{Phase}
use Rattle.fdc.specs.declared.record.Phase.TheVariants.{Idle, Gathering, Starting, Working, Sensing, Answering}
use Rattle.fdc.specs.Record.{drive_at}
use Rattle.fdc.specs.Registers.{motor_in}
use Rattle.reached.specs.Runs.{Call, powers, reads, writes, takes, gives, ticks, notes, after}
use Rattle.fdc.specs.Ticks.{seen_of, decided_of, image_after}
use Rattle.answers.specs.OnlyWrites.{Storing, Locked, AllHanded, ProtectedStays}
use Rattle.demands.specs.Work.{Real, AllOfBytes, Handed, image_by, image_left}
use Rattle.demands.proofs.CallLaws.{tick_works}
use Rattle.demands.proofs.QuietLaws.{quiet_real}
use Rattle.answers.proofs.FitLaws.{FitWork, fit_real, real_after}
use Rattle.answers.proofs.OnlyWritesLaws.{only_writes}

lost_nothing : (work : Work) (head : ℕ) → (lost_of work head).effect ≡ None
unfolding lost_of no_id_of move_fails move_end format_end end_of
lost_nothing (Identifying site slot passes) head = refl
lost_nothing (Moving site task stage) head = refl
lost_nothing (Formatting site plan form) head = refl

-- a protected disk is not the one that a Write or Format met
seen_other : (dor drive : ℕ) (img : List ℕ) (met : Geometry) → Locked img → met.protect ≡ false
    → stays_of (seen_of dor drive img) met ≡ false
unfolding seen_of stays_of same_of
seen_other dor drive img met l p =
    by_test (motor_in dor drive) (λ (d : Disk). stays_of d met ≡ false) _ _
    (λ t. rw l.1.0 (simp (l.1.1, p, and-false)))
    (λ t. refl)

locked_nothing : (work : Work) (dor head : ℕ) (img : List ℕ) (fifo : Fifo) (efifo : Bool) (fifothr : ℕ) → Locked img
    → FitWork work → (go_on_of work (seen_of dor (drive_of work) img) head img fifo efifo fifothr).effect ≡ None
unfolding go_on_of
locked_nothing work dor head img fifo efifo fifothr l s = go (from_host (flow_of work)) refl
  where
    go : (t : Bool) → from_host (flow_of work) ≡ t
        → (go_on_of work (seen_of dor (drive_of work) img) head img fifo efifo fifothr).effect ≡ None
    go false f =
        (go_on_kept work (seen_of dor (drive_of work) img) head img fifo efifo fifothr).stores s.suits f
    go true f =
        rw (seen_other dor (drive_of work) img (site_of work).disk l (s.unlocked f)) (lost_nothing work head)

-- a tick
module _ (c : Controller) (r : Real c) (k : ℕ) (a b : List ℕ) (l : Locked (pick_of k a b)) where
  works_locked : (work : Work) → c.phase ≡ Working work → FitWork work
      → image_after k a b c (pick_of k a b) ≡ pick_of k a b
  unfolding image_after decided_of
  works_locked work e s =
      rw (tick_works a b c work (quiet_real c r) e)
      (by_test (eqb (drive_of work) k) (λ (x : List ℕ). x ≡ pick_of k a b) _ _
      (λ t. ap (λ (f : Effect). stored_in f (pick_of k a b)) (none (eqb-true (drive_of work) k t)))
      (λ t. refl))
    where
      none : drive_of work ≡ k
          → (go_on_of work (seen_of c.registers.dor (drive_of work) (pick_of (drive_of work) a b))
          (drive_at (drive_of work % 4) c.drives).head (pick_of (drive_of work) a b) c.fifo c.registers.efifo
          c.registers.fifothr).effect
          ≡ None
      none q =
          locked_nothing work c.registers.dor (drive_at (drive_of work % 4) c.drives).head
          (pick_of (drive_of work) a b) c.fifo c.registers.efifo c.registers.fifothr
          (subst (λ (j : ℕ). Locked (pick_of j a b)) (sym q) l) s

  tick_locked : image_after k a b c (pick_of k a b) ≡ pick_of k a b
  tick_locked = go c.phase refl
    where
      others : (p : Phase) → c.phase ≡ p → (Storing p → ⊥) → image_after k a b c (pick_of k a b) ≡ pick_of k a b
      others p e n = only_writes.reached c r (λ s. n (rw e at s)) a b k (pick_of k a b)

      go : (p : Phase) → c.phase ≡ p → image_after k a b c (pick_of k a b) ≡ pick_of k a b
      go Idle e = others Idle e (λ s. s)
      go (Gathering entry) e = others (Gathering entry) e (λ s. s)
      go (Starting order) e = others (Starting order) e (λ s. s)
      go (Working work) e = works_locked work e (rw e at (fit_real c r).phase)
      go (Sensing unit) e = others (Sensing unit) e (λ s. s)
      go (Answering loud) e = others (Answering loud) e (λ s. s)

-- and any call, and a list of them
call_locked : (call : Call) (c : Controller) → Real c → (k : ℕ) (img : List ℕ) → Locked img → Handed k img call
    → image_by k img call c ≡ img
call_locked (powers head0 head1) c r k img l h = refl
call_locked (reads offset) c r k img l h = refl
call_locked (writes offset byte) c r k img l h = refl
call_locked (takes tc) c r k img l h = refl
call_locked (gives byte tc) c r k img l h = refl
call_locked (ticks a b) c r k img l h =
    subst (λ (x : List ℕ). Locked x → image_after k a b c x ≡ x) h (tick_locked c r k a b) l
call_locked (notes drive) c r k img l h = refl

list_locked : (calls : List Call) (c : Controller) → Real c → (k : ℕ) (img : List ℕ) → Locked img → AllOfBytes calls
    → AllHanded k img calls → image_left k img calls c ≡ img
unfolding image_left AllHanded
list_locked [] c r k img l o h = refl
list_locked (call ∷ calls) c r k img l o h =
    ap (λ (x : List ℕ). image_left k x calls (after call c)) (call_locked call c r k img l h.0)
    ∙ list_locked calls (after call c) (real_after call c o.0 r) k img l o.1 h.1

pub protected_stays : ProtectedStays
protected_stays = record { tick = tick_locked; list = λ c r k img l calls o h. list_locked calls c r k img l o h }
