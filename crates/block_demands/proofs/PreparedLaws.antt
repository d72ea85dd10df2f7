-- Everything before the data command (02 2026-01): from any valid record the controller ends up waiting for it, its
-- drive's motor on, the head on the block's cylinder, and both images as they were.
-- Assumes nothing.
use Prim.Native.Nat.{ℕ, ◌<◌, ◌≤◌}
use native.Mathlib.Omega.{arith}
use mathlib.Core.Bool.{true, false}
use mathlib.Core.List.{List, [], ◌∷◌}
use mathlib.Core.Path.{◌≡◌, refl, ap, ◌∙◌}
use Rattle.fdc.specs.declared.record.Controller.{Controller}
use Rattle.fdc.specs.Record.{drive_at, valid_of}
use Rattle.fdc.specs.Registers.{held_in, gate_in, motor_in, dma_in}
use Rattle.reached.specs.Runs.{Call, reads, writes, answer_to, after, run_calls}
use Rattle.demands.specs.Quiet.{Each, StandsStill, Quiet}
use Rattle.demands.specs.Work.{at_work}
use Rattle.answers.specs.Accepts.{Ready}
use Rattle.answers.specs.CommandResults.{NoneBusy}
use Rattle.block.specs.Box.{Box, with_record, came_with}
use Rattle.block.specs.Head.{position_of, prepared_of}
use Rattle.block.specs.Ready.{dor_for, shown_dor, ready_of}
use Rattle.block_demands.specs.Made.{Made, Rests}
use Rattle.block_demands.proofs.HeadLaws.{OnCylinder, positions}
use Rattle.block_demands.proofs.LedLaws.{Led, tickless_made, does_led, led_join}
use Rattle.block_demands.proofs.MadeLaws.{made_join}
use Rattle.block_demands.proofs.ReadyLaws.{dor_held, dor_byte, read_same, Readied, readies}
use Rattle.block_demands.proofs.SenseLaws.{rested_ready}

-- the head stands on the cylinder, and the controller waits for a command
pub record Placed (drive cylinder : ℕ) (s t : Box) : Type 0 where
  pub made : Made s t
  -- DOR is read and the reset written; from then on no call is handed a record at work, and before only if the request
  -- was handed one
  pub held : ℕ
  pub later : List Call
  pub calls : made.calls ≡ reads 2 ∷ writes 2 held ∷ later
  pub reset : held_in held ≡ true
  pub later_rests : Rests later (after (writes 2 held) (after (reads 2) s.controller))
  pub rests : at_work s.controller.phase ≡ false → Rests made.calls s.controller
  pub first : t.first ≡ s.first
  pub second : t.second ≡ s.second
  pub quiet : Quiet t.controller
  pub ready : Ready t.controller
  pub none_busy : NoneBusy t.controller
  pub still : Each StandsStill t.controller.drives
  pub no_report : (k : ℕ) → k < 4 → (drive_at k t.controller.drives).report ≡ 0
  pub gate : gate_in t.controller.registers.dor ≡ true
  pub dma : dma_in t.controller.registers.spec2 ≡ true
  pub motor : motor_in t.controller.registers.dor drive ≡ true
  pub head : (drive_at drive t.controller.drives).head ≡ cylinder

module _ (s : Box) (drive cylinder : ℕ) (v : valid_of s.controller ≡ true)
    (b : s.controller.registers.spec1 < 256) (two : drive < 2) (most : cylinder ≤ 81) where
  abbrev low : ℕ
  low = dor_for drive true (shown_dor s.controller)

  abbrev begun : Controller
  begun = after (writes 2 low) s.controller

  readied : Readied drive s.controller (ready_of drive s.controller)
  readied = readies drive two s.controller v b

  abbrev waiting : Box
  waiting = with_record (ready_of drive s.controller).controller s

  on_cylinder : OnCylinder drive cylinder waiting (position_of drive cylinder waiting)
  on_cylinder = positions drive cylinder two most waiting readied.stands

  -- the reset
  reads_same : after (reads 2) s.controller ≡ s.controller
  unfolding answer_to
  reads_same = read_same drive two s.controller v b

  begun_by : run_calls (reads 2 ∷ writes 2 low ∷ []) s.controller ≡ begun
  unfolding run_calls
  begun_by = ap (after (writes 2 low)) reads_same

  abbrev begins : Made s (with_record begun s)
  begins =
      tickless_made (reads 2 ∷ writes 2 low ∷ []) s begun
      (omega arith, ((omega arith, dor_byte drive (shown_dor s.controller) true), tt)) (refl, (refl, tt)) begun_by

  -- and all behind it
  goes_on_lem : Led (with_record begun s) (position_of drive cylinder waiting).box
  goes_on_lem = led_join (does_led (with_record begun s) readied.does) on_cylinder.led

  prepared_is : prepared_of drive cylinder s
      ≡ came_with (position_of drive cylinder waiting).came (position_of drive cylinder waiting).box
  unfolding prepared_of
  prepared_is = rw readied.came

  placed : Placed drive cylinder s (position_of drive cylinder waiting).box
  unfolding made_join tickless_made Rests
  placed =
      let stands = on_cylinder.stands in
      let later_rests : Rests goes_on_lem.made.calls (after (writes 2 low) (after (reads 2) s.controller))
      = rw reads_same goes_on_lem.rests in
      record {
        made = made_join begins goes_on_lem.made;
        held = low;
        later = goes_on_lem.made.calls;
        calls = refl;
        reset = dor_held drive (shown_dor s.controller);
        later_rests = later_rests;
        rests = λ w. (w, (ap (λ (x : Controller). at_work x.phase) reads_same ∙ w, later_rests));
        first = goes_on_lem.first;
        second = goes_on_lem.second;
        quiet = stands.rested.quiet;
        ready = rested_ready _ stands.rested;
        none_busy = stands.none;
        still = stands.still;
        no_report = stands.reports;
        gate = stands.gate;
        dma = ap dma_in stands.spec2;
        motor = stands.motor;
        head = on_cylinder.head_is;
      }

-- 02 2026-01: what comes before the data command never runs out
pub prepared : (s : Box) (drive cylinder : ℕ) → valid_of s.controller ≡ true → s.controller.registers.spec1 < 256
    → drive < 2 → cylinder ≤ 81
    → ((prepared_of drive cylinder s).came ≡ true) × Placed drive cylinder s (prepared_of drive cylinder s).box
prepared s drive cylinder v b two most =
    rw (prepared_is s drive cylinder v b two most)
    ((on_cylinder s drive cylinder v b two most).came, placed s drive cylinder v b two most)
