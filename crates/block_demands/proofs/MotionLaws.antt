-- Ticks until INT (02 2026-01; 01 Stepping): of a record that waits while one head moves, and no other, they change
-- that drive alone; INT comes with the last tick due.
-- Assumes nothing.
use Prim.Native.Nat.{ℕ, zero, suc, ◌/◌, ◌%◌, ◌<◌, ◌≤◌}
use native.Mathlib.Omega.{arith}
use mathlib.Core.Bool.{Bool, true, false, not, and-false}
use mathlib.Core.List.{List, [], ◌∷◌}
use mathlib.Core.Path.{◌≡◌, refl, sym, ap, ◌∙◌}
use lib.Dec.{eqb}
use borrow.Author.Tests.{eq-eqb, eqb-true}
use Rattle.image.specs.Lent.{stored_as}
use Rattle.image.proofs.TestLaws.{by_test}
use Rattle.drive.specs.declared.Drive.{Drive}
use Rattle.drive.specs.Step.{tick_drive}
use Rattle.fdc.specs.declared.record.Controller.{Controller}
use Rattle.fdc.specs.declared.record.Phase.TheVariants.{Idle}
use Rattle.fdc.specs.declared.record.Registers.{Registers}
use Rattle.fdc.specs.declared.ticks.Decision.{Decision}
use Rattle.fdc.specs.Answer.{answer_of}
use Rattle.fdc.specs.Record.{drive_at, with_drives}
use Rattle.fdc.specs.Registers.{gate_in, report_at, pending_in, int_of}
use Rattle.fdc.specs.Ticks.{seen_of, present_in, tick_all, stepped_of, still_of, decide_in, decide_of, ruled_of, tick_of}
use Rattle.fdc.specs.Ticks.{image_after}
use Rattle.fdc.proofs.StandLaws.{tick_stands}
use Rattle.reached.specs.Runs.{ticks, answer_to, run_calls}
use Rattle.reached.proofs.GoodLaws.{good_valid}
use Rattle.demands.specs.Quiet.{Quiet}
use Rattle.demands.specs.Work.{at_work}
use Rattle.demands.proofs.QuietLaws.{quiet_run}
use Rattle.answers.specs.Registers.{of_report}
use Rattle.answers.proofs.RegisterLaws.{interrupts_int}
use Rattle.block.specs.Box.{Box, tick_answer, ticked, Came, came_with}
use Rattle.block.specs.Head.{wait_of}
use Rattle.block_demands.specs.Made.{box_after, AllHanded, Rests}
use Rattle.block_demands.proofs.CourseLaws.{ticked_by}
use Rattle.block_demands.proofs.LedLaws.{Led, led_join}
use Rattle.block_demands.proofs.ReadyLaws.{Stands}
use Rattle.block_demands.proofs.SenseLaws.{Rested, each_other}

-- a tick of a record that waits: the drives step, and that is all
module _ (s : Box) (r : Rested s.controller) where
  abbrev stepped : Controller
  stepped = stepped_of s.first s.second s.controller

  idle_rules : ruled_of s.first s.second s.controller ≡ still_of stepped
  unfolding ruled_of decide_of decide_in
  idle_rules = rw (good_valid s.controller r.quiet.good, r.free, r.idle)

  tick_record : (tick_answer s).controller ≡ stepped
  unfolding tick_of answer_of still_of
  tick_record = ap (λ (d : Decision). d.controller) idle_rules

  tick_int : (tick_answer s).int ≡ int_of stepped
  unfolding tick_of answer_of still_of
  tick_int = ap (λ (d : Decision). int_of d.controller) idle_rules

  tick_image : (k : ℕ) (img : List ℕ) → image_after k s.first s.second s.controller img ≡ img
  unfolding image_after still_of
  tick_image k img =
      ap (λ (d : Decision). stored_as d.drive k d.effect img) idle_rules
      ∙ by_test (eqb 0 k) (λ (l : List ℕ). l ≡ img) _ _ (λ _. refl) (λ _. refl)

  ticked_record : (ticked s).controller ≡ stepped
  unfolding ticked
  ticked_record = tick_record

  tick_led : Led s (ticked s)
  unfolding ticked box_after AllHanded Rests
  tick_led = record {
    made = record {
      calls = ticks s.first s.second ∷ [];
      bytes = (tt, tt);
      handed = ((refl, refl), tt);
      leads = sym (ticked_by s);
    };
    rests = (ap at_work r.idle, tt);
    first = tick_image 0 s.first;
    second = tick_image 1 s.second;
  }

  tick_quiet : Quiet stepped
  unfolding run_calls answer_to
  tick_quiet = rw tick_record at (quiet_run (ticks s.first s.second ∷ []) s.controller (tt, tt) r.quiet)

  tick_rested : Rested stepped
  unfolding stepped_of with_drives
  tick_rested = record { quiet = tick_quiet; idle = r.idle; bytes = r.bytes; free = r.free }

stepped_one : (a b : List ℕ) (c : Controller) (k : ℕ) → k < 4 → c.registers.spec1 ≡ 0xF0
    → (mounted : Bool) × (drive_at k (stepped_of a b c).drives ≡ tick_drive k mounted 63 (drive_at k c.drives))
unfolding stepped_of tick_all with_drives
stepped_one a b c zero h e = (present_in (seen_of c.registers.dor 0 a), rw e)
stepped_one a b c (suc zero) h e = (present_in (seen_of c.registers.dor 1 b), rw e)
stepped_one a b c (suc (suc zero)) h e = (false, rw e)
stepped_one a b c (suc (suc (suc zero))) h e = (false, rw e)
stepped_one a b c (suc (suc (suc (suc k)))) h e = absurd (omega arith)

stepped_registers : (a b : List ℕ) (c : Controller) → (stepped_of a b c).registers ≡ c.registers
unfolding stepped_of with_drives
stepped_registers a b c = refl

-- 01 Registers INT: of a record that waits, while no report is pending
no_report : (drives : List Drive) (k : ℕ) → (drive_at k drives).report ≡ 0 → report_at k drives ≡ false
no_report drives k e = ap not (eq-eqb (drive_at k drives).report 0 e)

int_off : (c : Controller) → c.phase ≡ Idle → ((k : ℕ) → k < 4 → (drive_at k c.drives).report ≡ 0) → int_of c ≡ false
unfolding int_of pending_in
int_off c i f =
    simp (
      i,
      no_report c.drives 0 (f 0 (omega arith)),
      no_report c.drives 1 (f 1 (omega arith)),
      no_report c.drives 2 (f 2 (omega arith)),
      no_report c.drives 3 (f 3 (omega arith)),
      and-false,
    )

int_on : (c : Controller) (k : ℕ) → k < 4 → gate_in c.registers.dor ≡ true
    → ((drive_at k c.drives).report ≡ 0 → ⊥) → int_of c ≡ true
int_on c k h g n = interrupts_int c (eqb-true (c.registers.dor / 8 % 2) 1 g) (of_report k h n)

-- the record c with drive k changed to one of which P holds
pub record Moving (P : Drive → Type 0) (k : ℕ) (c e : Controller) : Type 0 where
  pub rested : Rested e
  pub registers : e.registers ≡ c.registers
  pub drive : P (drive_at k e.drives)
  pub others : (j : ℕ) → j < 4 → (j ≡ k → ⊥) → drive_at j e.drives ≡ drive_at j c.drives

wait_now : (n : ℕ) (s : Box) → (tick_answer s).int ≡ true → wait_of (suc n) s ≡ came_with true (ticked s)
unfolding wait_of
wait_now n s e = rw e

wait_on : (n : ℕ) (s : Box) → (tick_answer s).int ≡ false → wait_of (suc n) s ≡ wait_of n (ticked s)
unfolding wait_of
wait_on n s e = rw e

-- A motion that goes on with a number of ticks due, told by P, and what it is when it is over, told by Q.
module _
    (c : Controller)
    (unit k : ℕ)
    (low : k < 4)
    (stands : Stands unit c)
    (P : ℕ → Drive → Type 0)
    (Q : Drive → Type 0)
    (quiet : (due : ℕ) (d : Drive) → P due d → d.report ≡ 0)
    (loud : (d : Drive) → Q d → d.report ≡ 0 → ⊥)
    (goes : (mounted : Bool) (due : ℕ) (d : Drive) → 1 ≤ due → P (suc due) d → P due (tick_drive k mounted 63 d))
    (ends : (mounted : Bool) (d : Drive) → P 1 d → Q (tick_drive k mounted 63 d))
  where
    pub record Awaited (s : Box) (w : Came) : Type 0 where
      pub came : w.came ≡ true
      pub led : Led s w.box
      pub moved : Moving Q k c w.box.controller

    -- one tick
    moves : (R S : Drive → Type 0) (s : Box)
        → ((mounted : Bool) (d : Drive) → R d → S (tick_drive k mounted 63 d))
        → Moving R k c s.controller → Moving S k c (ticked s).controller
    moves R S s f m =
        let t : s.controller.registers.spec1 ≡ 0xF0 =
        ap (λ (x : Registers). x.spec1) m.registers ∙ stands.spec1 in
        let (mounted, e) = stepped_one s.first s.second s.controller k low t in
        rw (ticked_record s m.rested) (record {
          rested = tick_rested s m.rested;
          registers = stepped_registers s.first s.second s.controller ∙ m.registers;
          drive = rw e (f mounted _ m.drive);
          others = λ j h n.
              let (mounted', e') = stepped_one s.first s.second s.controller j h t in
              let d : drive_at j s.controller.drives ≡ drive_at j c.drives = m.others j h n in
              e' ∙ ap (tick_drive j mounted' 63) d
              ∙ tick_stands j mounted' 63 (drive_at j c.drives) (stands.still j h);
        })

    none_reports : (due : ℕ) (e : Controller) → Moving (P due) k c e
        → (j : ℕ) → j < 4 → (drive_at j e.drives).report ≡ 0
    none_reports due e m =
        each_other k (λ (j : ℕ). j < 4 → (drive_at j e.drives).report ≡ 0) (λ h. quiet due _ m.drive)
        (λ j n h. ap (λ (d : Drive). d.report) (m.others j h n) ∙ stands.reports j h)

    int_before : (due : ℕ) (s : Box) → Rested s.controller → Moving (P due) k c (ticked s).controller
        → (tick_answer s).int ≡ false
    int_before due s r m =
        let e = rw (ticked_record s r) at m in
        tick_int s r ∙ int_off _ e.rested.idle (none_reports due _ e)

    int_after : (s : Box) → Rested s.controller → Moving Q k c (ticked s).controller → (tick_answer s).int ≡ true
    int_after s r m =
        let e = rw (ticked_record s r) at m in
        tick_int s r
        ∙ int_on _ k low (ap (λ (x : Registers). gate_in x.dor) e.registers ∙ stands.gate) (loud _ e.drive)

    last : (n : ℕ) (s : Box) → Moving (P 1) k c s.controller → Awaited s (wait_of (suc n) s)
    last n s m =
        let e = moves (P 1) Q s ends m in
        rw (wait_now n s (int_after s m.rested e)) (record { came = refl; led = tick_led s m.rested; moved = e })

    more : (n due : ℕ) (s : Box) → 1 ≤ due → Moving (P (suc due)) k c s.controller
        → (Moving (P due) k c (ticked s).controller → Awaited (ticked s) (wait_of n (ticked s)))
        → Awaited s (wait_of (suc n) s)
    more n due s h m f =
        let e = moves (P (suc due)) (P due) s (λ mounted d p. goes mounted due d h p) m in
        let w = f e in
        rw (wait_on n s (int_before due s m.rested e)) (record {
          came = w.came;
          led = led_join (tick_led s m.rested) w.led;
          moved = w.moved;
        })

    pub waits : (due budget : ℕ) (s : Box) → 1 ≤ due → due ≤ budget → Moving (P due) k c s.controller
        → Awaited s (wait_of budget s)
    waits zero budget s h l m = absurd (omega arith)
    waits (suc due) zero s h l m = absurd (omega arith)
    waits (suc zero) (suc n) s h l m = last n s m
    waits (suc (suc due)) (suc n) s h l m =
        more n (suc due) s (omega arith) m (λ e. waits (suc due) n (ticked s) (omega arith) (omega arith) e)
