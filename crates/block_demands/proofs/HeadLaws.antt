-- Recalibrate and Seek, from the command to the report that is taken (02 2026-01; 01 Stepping): the head goes to
-- cylinder 0, by a second Recalibrate where it stood at 80 or 81, and then to the block's cylinder.
-- Assumes nothing.
use Prim.Native.Nat.{ℕ, zero, suc, ◌+◌, ◌-◌, ◌*◌, ◌%◌, ◌<◌, ◌≤◌}
use native.Mathlib.Omega.{arith}
use mathlib.Core.Bool.{Bool, true, false, ◌&&◌, cond}
use mathlib.Core.List.{List, [], ◌∷◌}
use mathlib.Core.Logic.{◌⊎◌, inl, inr}
use mathlib.Core.Path.{◌≡◌, refl, sym, ap, ◌∙◌}
use lib.Dec.{eqb, ltb}
use lib.ListN.{set}
use borrow.Author.Tests.{eq-eqb, ne_eqb, eqb-true, eqb-false, lt-ltb, le-ltb, lt-leb}
use Rattle.image.proofs.TestLaws.{by_test, le_or_lt}
use Rattle.drive.specs.declared.Drive.{Drive}
use Rattle.drive.specs.declared.Motion.{Motion}
use Rattle.drive.specs.Drive.{distance, recalibrate_steps, sensed_drive}
use Rattle.drive.specs.Due.{head_after, SeekDue, Recalibrates, MotionOver, recalibrate_report, over_after}
use Rattle.drive.specs.Step.{tick_drive}
use Rattle.drive.proofs.StepLaws.{seek_begins, seek_goes_on, seek_ends, recalibrate_begins, recalibrate_goes_on}
use Rattle.drive.proofs.StepLaws.{recalibrate_ends, head_out}
use Rattle.fdc.specs.declared.record.Controller.{Controller}
use Rattle.fdc.specs.declared.record.Registers.{Registers}
use Rattle.fdc.specs.Commands.{step_time}
use Rattle.fdc.specs.Record.{drive_at}
use Rattle.fdc.specs.Registers.{held_in, gate_in, motor_in}
use Rattle.demands.specs.Quiet.{AllBytes, StandsStill}
use Rattle.demands.specs.Work.{at_work}
use Rattle.answers.specs.Accepts.{after_bytes, Moves}
use Rattle.answers.proofs.AcceptLaws.{accepts}
use Rattle.block.specs.Box.{Box, with_record, Came}
use Rattle.block.specs.Head.{wait_of, Moved, moved_with, report_taken, moved_of, recalibrated_once, homed_of, sought_of}
use Rattle.block.specs.Head.{position_of}
use Rattle.block.specs.Ready.{command_of, sense_of}
use Rattle.block_demands.proofs.LedLaws.{Does, does_quiet, Led, does_led, led_none, led_join}
use Rattle.block_demands.proofs.MotionLaws.{Moving, waits}
use Rattle.block_demands.proofs.ReadyLaws.{command_runs, command_does, Stands}
use Rattle.block_demands.proofs.SenseLaws.{rested_ready, Sensing, senses_at, each_other, same_drive}
use Rattle.block_demands.proofs.SenseLaws.{other_drive}

-- a Seek or Recalibrate is over and its report taken
pub record Arrived (drive pcn st0 head : ℕ) (s : Box) (m : Moved) : Type 0 where
  pub came : m.came ≡ true
  pub st0_is : m.st0 ≡ st0
  pub led : Led s m.box
  pub stands : Stands drive m.box.controller
  pub head_is : (drive_at drive m.box.controller.drives).head ≡ head
  pub pcn_is : (drive_at drive m.box.controller.drives).pcn ≡ pcn

-- the report that ended it is the only one
module _ (drive : ℕ) (low : drive < 4) (c : Controller) (stands : Stands drive c) (pcn st0 final : ℕ)
    (some : st0 ≡ 0 → ⊥) (no_80 : st0 ≡ 0x80 → ⊥) (e : Controller)
    (m : Moving (MotionOver pcn st0 final) drive c e) where
  senses : ((sense_of e).st0 ≡ (drive_at drive e.drives).report)
      × Sensing e (sense_of e).controller (set e.drives drive (sensed_drive (drive_at drive e.drives)))
  senses =
      senses_at e m.rested drive low (λ q. some (sym m.drive.report_is ∙ q))
      (λ q. no_80 (sym m.drive.report_is ∙ q))
      (λ j h.
      ap (λ (d : Drive). d.report) (m.others j (omega arith) (λ q. omega arith))
      ∙ stands.reports j (omega arith))

  sensed_st0 : (sense_of e).st0 ≡ st0
  sensed_st0 = senses.0 ∙ m.drive.report_is

  abbrev then : Controller
  then = (sense_of e).controller

  its_drive : drive_at drive then.drives ≡ sensed_drive (drive_at drive e.drives)
  its_drive = same_drive e m.rested drive low then senses.1.drives_are

  other_drives : (j : ℕ) → j < 4 → (j ≡ drive → ⊥) → drive_at j then.drives ≡ drive_at j c.drives
  other_drives j h n = other_drive e m.rested drive low then senses.1.drives_are j n ∙ m.others j h n

  same_registers : then.registers ≡ c.registers
  same_registers = senses.1.registers ∙ m.registers

  sensed_stands : Stands drive then
  sensed_stands = record {
    rested = senses.1.rested;
    none =
        each_other drive (λ (j : ℕ). j < 4 → (drive_at j then.drives).busy ≡ false)
        (λ h. ap (λ (d : Drive). d.busy) its_drive)
        (λ j n h. ap (λ (d : Drive). d.busy) (other_drives j h n) ∙ stands.none j h);
    still =
        each_other drive (λ (j : ℕ). j < 4 → StandsStill (drive_at j then.drives))
        (λ h. ap (λ (d : Drive). d.motion) its_drive ∙ m.drive.still)
        (λ j n h. ap (λ (d : Drive). d.motion) (other_drives j h n) ∙ stands.still j h);
    reports =
        each_other drive (λ (j : ℕ). j < 4 → (drive_at j then.drives).report ≡ 0)
        (λ h. ap (λ (d : Drive). d.report) its_drive)
        (λ j n h. ap (λ (d : Drive). d.report) (other_drives j h n) ∙ stands.reports j h);
    gate = ap (λ (r : Registers). gate_in r.dor) same_registers ∙ stands.gate;
    motor = ap (λ (r : Registers). motor_in r.dor drive) same_registers ∙ stands.motor;
    spec1 = ap (λ (r : Registers). r.spec1) same_registers ∙ stands.spec1;
    spec2 = ap (λ (r : Registers). r.spec2) same_registers ∙ stands.spec2;
  }

  sensed_head : (drive_at drive then.drives).head ≡ final
  sensed_head = ap (λ (d : Drive). d.head) its_drive ∙ m.drive.head

  sensed_pcn : (drive_at drive then.drives).pcn ≡ pcn
  sensed_pcn = ap (λ (d : Drive). d.pcn) its_drive ∙ m.drive.pcn_is

taken_came : (w : Came) → w.came ≡ true
    → report_taken w
    ≡ moved_with true (sense_of w.box.controller).st0
    (with_record (sense_of w.box.controller).controller w.box)
taken_came w e = rw e

-- from the command on
module _
    (s : Box)
    (drive : ℕ)
    (low : drive < 4)
    (stands : Stands drive s.controller)
    (P : ℕ → Drive → Type 0)
    (pcn st0 final : ℕ)
    (some : st0 ≡ 0 → ⊥)
    (no_80 : st0 ≡ 0x80 → ⊥)
    (quiet : (due : ℕ) (d : Drive) → P due d → d.report ≡ 0)
    (goes : (mounted : Bool) (due : ℕ) (d : Drive) → 1 ≤ due → P (suc due) d → P due (tick_drive drive mounted 63 d))
    (ends : (mounted : Bool) (d : Drive) → P 1 d → MotionOver pcn st0 final (tick_drive drive mounted 63 d))
  where
    arrives : (bytes : List ℕ) (budget due : ℕ) → AllBytes bytes → 1 ≤ due → due ≤ budget
        → Moving (P due) drive s.controller (command_of bytes s.controller)
        → Arrived drive pcn st0 final s (moved_of budget bytes s)
    unfolding moved_of
    arrives bytes budget due b h l m =
        let t : Box = with_record (command_of bytes s.controller) s in
        let d : Does s.controller (command_of bytes s.controller) =
        command_does bytes s.controller b (ap at_work m.rested.idle) in
        let w = waits s.controller drive drive low stands P (MotionOver pcn st0 final) quiet
        (λ x q z. some (sym q.report_is ∙ z)) goes ends due budget t h l m in
        let e = (wait_of budget t).box.controller in
        rw (taken_came (wait_of budget t) w.came) (record {
          came = refl;
          st0_is = sensed_st0 drive low s.controller stands pcn st0 final some no_80 e w.moved;
          led =
              led_join (does_led s d)
              (led_join w.led
              (does_led (wait_of budget t).box
              (senses drive low s.controller stands pcn st0 final some no_80 e w.moved).1.does));
          stands = sensed_stands drive low s.controller stands pcn st0 final some no_80 e w.moved;
          head_is = sensed_head drive low s.controller stands pcn st0 final some no_80 e w.moved;
          pcn_is = sensed_pcn drive low s.controller stands pcn st0 final some no_80 e w.moved;
        })

-- n steps of 63 ticks, or one tick where none is due
over_least : (n : ℕ) → 1 ≤ over_after n 63
over_least zero = omega arith
over_least (suc n) = rw (ne_eqb (suc n) 0 (λ q. omega arith)) (omega arith)

over_most : (n most : ℕ) → n ≤ most → 1 ≤ most → over_after n 63 ≤ most * 63
over_most zero most h l = omega arith
over_most (suc n) most h l = rw (ne_eqb (suc n) 0 (λ q. omega arith)) (omega arith)

-- the record after the command's bytes
module _ (c : Controller) (drive : ℕ) (low : drive < 4) (stands : Stands drive c) (bytes : List ℕ) (b : AllBytes bytes)
    (motion : Motion) (m : Moves c (after_bytes bytes c) drive motion) where
  abbrev told : Controller
  told = command_of bytes c

  accepted_moves : Moves c told drive motion
  accepted_moves = rw (command_runs bytes c) m

  set_off : (P : Drive → Type 0)
      → P (record {
        head = (drive_at drive c.drives).head;
        pcn = (drive_at drive c.drives).pcn;
        changed = (drive_at drive c.drives).changed;
        busy = true;
        report = 0;
        motion = motion;
      })
      → Moving P drive c told
  set_off P p =
      let a = accepted_moves in
      record {
        rested = record {
          quiet = does_quiet (command_does bytes c b (ap at_work a.idle)) stands.rested.quiet;
          idle = a.idle;
          bytes = a.bytes;
          free = ap (λ (r : Registers). held_in r.dor) a.registers ∙ stands.rested.free;
        };
        registers = a.registers;
        drive = rw a.drive p;
        others = λ j h n. a.others j n;
      }

-- SRT F is 63 ticks
step_time_lem : (drive : ℕ) (c : Controller) → Stands drive c → step_time c ≡ 63
step_time_lem drive c stands = rw stands.spec1

-- 01 Stepping: where Recalibrate leaves the head of drive 0 or 1, and in how many steps
steps_are : (drive head : ℕ) → drive < 2
    → (recalibrate_steps drive head ≤ 79) × (head - recalibrate_steps drive head ≡ head - 79)
steps_are drive head two = rw (lt-ltb drive 2 two) (go (le_or_lt 79 head))
  where
    go : (79 ≤ head) ⊎ (head < 79)
        → (cond (ltb head 79) head 79 ≤ 79) × (head - cond (ltb head 79) head 79 ≡ head - 79)
    go (inl h) = rw (le-ltb head 79 h) (omega arith, refl)
    go (inr h) = rw (lt-ltb head 79 h) (omega arith, omega arith)

report_some : (drive final : ℕ) → 0x20 ≤ recalibrate_report drive final
report_some drive final =
    by_test (ltb drive 2 && eqb final 0) (λ (n : ℕ). 0x20 ≤ n + drive % 4) 0x20 0x70 (λ _. omega arith)
    (λ _. omega arith)

report_most : (drive final : ℕ) → recalibrate_report drive final ≤ 0x73
report_most drive final =
    by_test (ltb drive 2 && eqb final 0) (λ (n : ℕ). n + drive % 4 ≤ 0x73) 0x20 0x70 (λ _. omega arith)
    (λ _. omega arith)

-- Recalibrate
module _ (s : Box) (drive : ℕ) (two : drive < 2) (stands : Stands drive s.controller) where
  abbrev at : Drive
  at = drive_at drive s.controller.drives

  abbrev steps : ℕ
  steps = recalibrate_steps drive at.head

  final_is : head_after drive false steps at.head ≡ at.head - 79
  final_is = head_out drive steps at.head two ∙ (steps_are drive at.head two).1

  recalibrate_told : Moving (Recalibrates drive 63 at.pcn (at.head - 79) (over_after steps 63)) drive
      s.controller (command_of (0x07 ∷ drive ∷ []) s.controller)
  recalibrate_told =
      let m : drive % 4 ≡ drive = omega arith in
      let free : (drive_at (drive % 4) s.controller.drives).busy ≡ false = rw m (stands.none drive (omega arith)) in
      set_off s.controller drive (omega arith) stands (0x07 ∷ drive ∷ []) (omega arith, (omega arith, tt)) _
      (rw (m, step_time_lem drive s.controller stands) at
      ((accepts s.controller).recalibrate drive (rested_ready s.controller stands.rested) free))
      _ (rw (← final_is) (recalibrate_begins drive 63 (omega arith) at))

  recalibrates : Arrived drive 0 (recalibrate_report drive (at.head - 79)) (at.head - 79) s (recalibrated_once drive s)
  recalibrates =
      let final : ℕ = at.head - 79 in
      arrives s drive (omega arith) stands (Recalibrates drive 63 at.pcn final) 0 (recalibrate_report drive final)
      final
      (λ q. omega (arith, report_some drive final)) (λ q. omega (arith, report_most drive final))
      (λ due x g. g.quiet)
      (λ mounted due x h g. recalibrate_goes_on drive 63 (omega arith) mounted at.pcn final x due h g)
      (λ mounted x g. recalibrate_ends drive 63 (omega arith) mounted at.pcn final x g)
      (0x07 ∷ drive ∷ []) (79 * 63) (over_after steps 63) (omega arith, (omega arith, tt)) (over_least steps)
      (over_most steps 79 (steps_are drive at.head two).0 (omega arith)) recalibrate_told

-- 01 Stepping: 20 + drive at cylinder 0, 70 + drive elsewhere
report_home : (drive final : ℕ) → drive < 2 → final ≡ 0 → recalibrate_report drive final ≡ 0x20 + drive % 4
report_home drive final two z = rw (lt-ltb drive 2 two, eq-eqb final 0 z)

report_away : (drive final : ℕ) → drive < 2 → (final ≡ 0 → ⊥) → recalibrate_report drive final ≡ 0x70 + drive % 4
report_away drive final two n = rw (lt-ltb drive 2 two, ne_eqb final 0 n)

home_once : (drive : ℕ) (s : Box) → (recalibrated_once drive s).came ≡ true
    → ((recalibrated_once drive s).st0 ≡ 0x70 + drive % 4 → ⊥) → homed_of drive s ≡ recalibrated_once drive s
unfolding homed_of
home_once drive s c n = rw (c, ne_eqb (recalibrated_once drive s).st0 (0x70 + drive % 4) n)

home_twice : (drive : ℕ) (s : Box) → (recalibrated_once drive s).came ≡ true
    → (recalibrated_once drive s).st0 ≡ 0x70 + drive % 4
    → homed_of drive s ≡ recalibrated_once drive (recalibrated_once drive s).box
unfolding homed_of
home_twice drive s c e = rw (c, eq-eqb (recalibrated_once drive s).st0 (0x70 + drive % 4) e)

-- the head stands on cylinder 0, with PCN 0
pub record Homed (drive : ℕ) (s : Box) (m : Moved) : Type 0 where
  pub came : m.came ≡ true
  pub led : Led s m.box
  pub stands : Stands drive m.box.controller
  pub head_is : (drive_at drive m.box.controller.drives).head ≡ 0
  pub pcn_is : (drive_at drive m.box.controller.drives).pcn ≡ 0

module _ (drive : ℕ) (two : drive < 2) where
  once_homes : (s : Box) → Stands drive s.controller → (drive_at drive s.controller.drives).head ≤ 79
      → Homed drive s (recalibrated_once drive s)
  once_homes s stands h =
      let a = recalibrates s drive two stands in
      let z : (at s drive two stands).head - 79 ≡ 0 = omega arith in
      record { came = a.came; led = a.led; stands = a.stands; head_is = a.head_is ∙ z; pcn_is = a.pcn_is }

  -- from 79 or below
  near_homes : (s : Box) → Stands drive s.controller → (drive_at drive s.controller.drives).head ≤ 79
      → Homed drive s (homed_of drive s)
  near_homes s stands h =
      let a = recalibrates s drive two stands in
      let z : (at s drive two stands).head - 79 ≡ 0 = omega arith in
      let r = a.st0_is ∙ report_home drive _ two z in
      rw (home_once drive s a.came (λ q. omega (arith, r))) (once_homes s stands h)

  -- from 80 or 81 a second one is needed
  far_homes : (s : Box) → Stands drive s.controller → 79 < (drive_at drive s.controller.drives).head
      → (drive_at drive s.controller.drives).head ≤ 81 → Homed drive s (homed_of drive s)
  far_homes s stands h l =
      let a = recalibrates s drive two stands in
      let r = a.st0_is ∙ report_away drive ((at s drive two stands).head - 79) two (λ q. omega arith) in
      let b = once_homes (recalibrated_once drive s).box a.stands (omega (arith, a.head_is)) in
      rw (home_twice drive s a.came r) (record {
        came = b.came;
        led = led_join a.led b.led;
        stands = b.stands;
        head_is = b.head_is;
        pcn_is = b.pcn_is;
      })

  pub homes : (s : Box) → Stands drive s.controller → Homed drive s (homed_of drive s)
  homes s stands = go (le_or_lt (drive_at drive s.controller.drives).head 79)
    where
      go : ((drive_at drive s.controller.drives).head ≤ 79) ⊎ (79 < (drive_at drive s.controller.drives).head)
          → Homed drive s (homed_of drive s)
      go (inl h) = near_homes s stands h
      go (inr h) = far_homes s stands h (stands.rested.quiet.good.drives.each drive (omega arith)).head

-- where n steps in leave the head of drive 0 or 1
head_in_lem : (number n head : ℕ) → number < 2 → head + n ≤ 81 → head_after number true n head ≡ head + n
head_in_lem number zero head h l = omega arith
head_in_lem number (suc n) head h l =
    rw (lt-leb 2 number (omega arith), lt-ltb head 81 (omega arith))
    (head_in_lem number n (head + 1) h (omega arith) ∙ one_on_lem n head)
  where
    one_on_lem : (n head : ℕ) → head + 1 + n ≡ head + suc n
    one_on_lem n head = omega arith

-- the head stands on the cylinder
pub record OnCylinder (drive cylinder : ℕ) (s : Box) (m : Moved) : Type 0 where
  pub came : m.came ≡ true
  pub led : Led s m.box
  pub stands : Stands drive m.box.controller
  pub head_is : (drive_at drive m.box.controller.drives).head ≡ cylinder

-- 01 Stepping: Seek, from cylinder 0 with PCN 0
module _ (s : Box) (drive cylinder : ℕ) (two : drive < 2) (some : 1 ≤ cylinder) (most : cylinder ≤ 81)
    (stands : Stands drive s.controller) (head : (drive_at drive s.controller.drives).head ≡ 0)
    (pcn : (drive_at drive s.controller.drives).pcn ≡ 0) where
  abbrev here : Drive
  here = drive_at drive s.controller.drives

  inwards : ltb here.pcn cylinder ≡ true
  inwards = lt-ltb here.pcn cylinder (omega arith)

  far : distance here.pcn cylinder ≡ cylinder
  far = rw inwards (omega arith)

  reaches : head_after drive (ltb here.pcn cylinder) (distance here.pcn cylinder) here.head ≡ cylinder
  reaches = rw (inwards, head) (head_in_lem drive (cylinder - here.pcn) 0 two (omega arith) ∙ omega arith)

  seek_told : Moving (SeekDue drive 63 here.pcn cylinder cylinder (over_after (distance here.pcn cylinder) 63))
      drive s.controller (command_of (0x0F ∷ drive ∷ cylinder ∷ []) s.controller)
  seek_told =
      let m : drive % 4 ≡ drive = omega arith in
      let free : (drive_at (drive % 4) s.controller.drives).busy ≡ false = rw m (stands.none drive (omega arith)) in
      set_off s.controller drive (omega arith) stands (0x0F ∷ drive ∷ cylinder ∷ [])
      (omega arith, (omega arith, (omega arith, tt))) _
      (rw (m, step_time_lem drive s.controller stands) at
      ((accepts s.controller).seek drive cylinder (rested_ready s.controller stands.rested) free))
      _ (rw reaches at (seek_begins drive 63 (omega arith) here cylinder))

  seeks : Arrived drive cylinder (0x20 + drive % 4) cylinder s (moved_of (81 * 63) (0x0F ∷ drive ∷ cylinder ∷ []) s)
  seeks =
      arrives s drive (omega arith) stands (SeekDue drive 63 here.pcn cylinder cylinder) cylinder
      (0x20 + drive % 4) cylinder
      (λ q. omega arith) (λ q. omega arith)
      (λ due x g. g.quiet)
      (λ mounted due x h g. seek_goes_on drive 63 (omega arith) mounted here.pcn cylinder cylinder x due h g)
      (λ mounted x g. seek_ends drive 63 (omega arith) mounted here.pcn cylinder cylinder x g)
      (0x0F ∷ drive ∷ cylinder ∷ []) (81 * 63) (over_after (distance here.pcn cylinder) 63)
      (omega arith, (omega arith, (omega arith, tt))) (over_least (distance here.pcn cylinder))
      (over_most (distance here.pcn cylinder) 81 (omega (arith, far)) (omega arith)) seek_told

module _ (drive cylinder : ℕ) (two : drive < 2) (most : cylinder ≤ 81) where
  pub sought : (s : Box) → Stands drive s.controller → (drive_at drive s.controller.drives).head ≡ 0
      → (drive_at drive s.controller.drives).pcn ≡ 0 → OnCylinder drive cylinder s (sought_of drive cylinder s)
  unfolding sought_of
  sought s stands head pcn =
      by_test (eqb cylinder 0) (OnCylinder drive cylinder s) _ _
      (λ e. record {
        came = refl;
        led = led_none s;
        stands = stands;
        head_is = head ∙ sym (eqb-true cylinder 0 e);
      })
      (λ e.
      let n = eqb-false cylinder 0 e in
      let a = seeks s drive cylinder two (omega arith) most stands head pcn in
      record { came = a.came; led = a.led; stands = a.stands; head_is = a.head_is })

  position_is : (s : Box) → (homed_of drive s).came ≡ true
      → position_of drive cylinder s ≡ sought_of drive cylinder (homed_of drive s).box
  unfolding position_of
  position_is s e = rw e

  pub positions : (s : Box) → Stands drive s.controller → OnCylinder drive cylinder s (position_of drive cylinder s)
  positions s stands =
      let a = homes drive two s stands in
      let b = sought (homed_of drive s).box a.stands a.head_is a.pcn_is in
      rw (position_is s a.came) (record {
        came = b.came;
        led = led_join a.led b.led;
        stands = b.stands;
        head_is = b.head_is;
      })
