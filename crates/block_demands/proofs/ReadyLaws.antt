-- The controller made ready (02 2026-01): reset by DOR and released, its reports taken, Specify F0 00: from any valid
-- record it then waits for a command, with no drive busy and no head moving.
-- Assumes nothing.
use Prim.Native.Nat.{ℕ, zero, suc, ◌+◌, ◌*◌, ◌/◌, ◌%◌, ◌<◌, ◌≤◌}
use native.Mathlib.Omega.{arith}
use mathlib.Core.Bool.{Bool, true, false, not, ◌||◌}
use mathlib.Core.List.{List, [], ◌∷◌}
use mathlib.Core.Logic.{◌⊎◌, inl, inr}
use mathlib.Core.Path.{◌≡◌, refl, sym, ap, ◌∙◌}
use lib.Dec.{eqb}
use borrow.Author.Tests.{eq-eqb, ne_eqb}
use Rattle.drive.specs.declared.Drive.{Drive}
use Rattle.drive.specs.declared.Motion.TheVariants.{Still}
use Rattle.drive.specs.Drive.{reset_drive}
use Rattle.fdc.specs.declared.record.Controller.{Controller}
use Rattle.fdc.specs.declared.record.Phase.TheVariants.{Idle}
use Rattle.fdc.specs.declared.record.Registers.{Registers}
use Rattle.fdc.specs.Answer.{answer_of}
use Rattle.fdc.specs.Calls.{port_of, read_reg, read_port}
use Rattle.fdc.specs.Record.{no_bytes, drive_at, valid_of, with_registers, with_drives}
use Rattle.fdc.specs.Registers.{held_in, gate_in, motor_in, bit}
use Rattle.fdc.specs.Reset.{reset_all, reset_of, report_all, released_by, released_of, with_dor, wrote_dor}
use Rattle.reached.specs.Runs.{writes, answer_to, after, run_calls}
use Rattle.reached.proofs.GoodLaws.{good_valid}
use Rattle.demands.specs.Quiet.{AllBytes, Each, StandsStill, Quiet}
use Rattle.demands.specs.Work.{AllOfBytes, at_work}
use Rattle.demands.proofs.QuietLaws.{reset_quiet}
use Rattle.answers.specs.Accepts.{sends, Specified}
use Rattle.answers.specs.CommandResults.{NoneBusy}
use Rattle.answers.proofs.AcceptLaws.{settings}
use Rattle.answers.proofs.RefusalLaws.{below}
use Rattle.answers.proofs.RegisterLaws.{after_dor}
use Rattle.answers.proofs.ResetTableLaws.{Alike}
use Rattle.block.specs.Ready.{weight_of, dor_for, shown_dor, reset_for, command_of, Waited, clear_of, specified, ready_of}
use Rattle.block_demands.specs.Made.{Rests}
use Rattle.block_demands.proofs.LedLaws.{Does, does_join, does_quiet, AllAtFifo, fifo_does}
use Rattle.block_demands.proofs.SenseLaws.{Rested, rested_ready, Cleared, clears}

-- 01 Registers DOR: the byte that is written
record Bits (v x y z : ℕ) : Type 0 where
  free : v / 4 % 2 ≡ z
  gate : v / 8 % 2 ≡ 1
  motor0 : v / 16 % 2 ≡ y
  motor1 : v / 32 % 2 ≡ x
  byte : v < 256

bits : (q x y z w : ℕ) → q ≤ 3 → x ≤ 1 → y ≤ 1 → z ≤ 1 → w ≤ 1
    → Bits (q * 64 + x * 32 + y * 16 + 8 + z * 4 + w * 1) x y z
bits q x y z w hq hx hy hz hw = record {
  free = omega arith;
  gate = omega arith;
  motor0 = omega arith;
  motor1 = omega arith;
  byte = omega arith;
}

weight_is : (t : Bool) (n : ℕ) → weight_of t n ≡ bit t * n
weight_is true n = omega arith
weight_is false n = omega arith

bit_le : (t : Bool) → bit t ≤ 1
bit_le true = omega arith
bit_le false = omega arith

weighed : (q : ℕ) (t u z one : Bool) → q ≤ 3
    → Bits (q * 0x40 + weight_of t 0x20 + weight_of u 0x10 + 0x08 + weight_of z 0x04 + weight_of one 0x01) (bit t) (bit u)
    (bit z)
weighed q t u z one h =
    rw (weight_is t 0x20, weight_is u 0x10, weight_is z 0x04, weight_is one 0x01)
    (bits q (bit t) (bit u) (bit z) (bit one) h (bit_le t) (bit_le u) (bit_le z) (bit_le one))

dor_bits : (drive dor : ℕ) (held : Bool)
    → Bits (dor_for drive held dor) (bit (eqb drive 1 || eqb (dor / 0x20 % 2) 1))
    (bit (not (eqb drive 1) || eqb (dor / 0x10 % 2) 1)) (bit (not held))
unfolding dor_for
dor_bits drive dor held =
    weighed (dor / 0x40 % 4) (eqb drive 1 || eqb (dor / 0x20 % 2) 1) (not (eqb drive 1) || eqb (dor / 0x10 % 2) 1)
    (not held) (eqb drive 1) (omega arith)

module _ (drive dor : ℕ) where
  pub dor_held : held_in (dor_for drive true dor) ≡ true
  dor_held = eq-eqb _ 0 (dor_bits drive dor true).free

  pub dor_free : held_in (dor_for drive false dor) ≡ false
  dor_free =
      let f : dor_for drive false dor / 4 % 2 ≡ 1 = (dor_bits drive dor false).free in
      ne_eqb (dor_for drive false dor / 4 % 2) 0 (λ e. omega arith)

  pub dor_gate : gate_in (dor_for drive false dor) ≡ true
  dor_gate = eq-eqb _ 1 (dor_bits drive dor false).gate

  pub dor_byte : (held : Bool) → dor_for drive held dor < 256
  dor_byte held = (dor_bits drive dor held).byte

pub dor_motor : (drive dor : ℕ) → drive < 2 → motor_in (dor_for drive false dor) drive ≡ true
unfolding motor_in
dor_motor zero dor h = eq-eqb _ 1 (dor_bits 0 dor false).motor0
dor_motor (suc zero) dor h = eq-eqb _ 1 (dor_bits 1 dor false).motor1
dor_motor (suc (suc drive)) dor h = absurd (omega arith)

-- the bytes of a command are calls
pub command_runs : (bytes : List ℕ) (c : Controller) → command_of bytes c ≡ run_calls (sends bytes) c
unfolding command_of run_calls answer_to
command_runs [] c = refl
command_runs (byte ∷ bytes) c = command_runs bytes (after (writes 5 byte) c)

sends_bytes : (bytes : List ℕ) → AllBytes bytes → AllOfBytes (sends bytes)
sends_bytes [] b = tt
sends_bytes (byte ∷ bytes) b = ((omega arith, b.0), sends_bytes bytes b.1)

sends_fifo : (bytes : List ℕ) → AllAtFifo (sends bytes)
sends_fifo [] = tt
sends_fifo (byte ∷ bytes) = (refl, sends_fifo bytes)

pub command_does : (bytes : List ℕ) (c : Controller) → AllBytes bytes → at_work (command_of bytes c).phase ≡ false
    → Does c (command_of bytes c)
command_does bytes c b w =
    fifo_does (sends bytes) c (command_of bytes c) (sends_bytes bytes b) (sends_fifo bytes)
    (sym (command_runs bytes c)) w

-- 01 Registers reset: held, and released: the record waits, the drives stand still where they were, with reports C0 to
-- C3 or with none
pub record Restarted (c e : Controller) (byte : ℕ) : Type 0 where
  pub idle : e.phase ≡ Idle
  pub bytes : e.bytes ≡ no_bytes
  pub dor : e.registers.dor ≡ byte
  pub alike : (k : ℕ) → k < 4 → Alike (reset_drive (drive_at k c.drives)) (drive_at k e.drives)
  pub reports : ((k : ℕ) → k < 4 → (drive_at k e.drives).report ≡ 0)
      ⊎ ((k : ℕ) → k < 4 → (drive_at k e.drives).report ≡ 0xC0 + k)

like : (d : Drive) (report : ℕ)
    → Alike (reset_drive d) (record {
      head = d.head;
      pcn = 0;
      changed = d.changed;
      busy = false;
      report = report;
      motion = Still;
    })
like d report = record { head = refl; pcn = refl; changed = refl; busy = refl; motion = refl }

module _ (c : Controller) (low high : ℕ) where
  abbrev at : ℕ → Drive
  at k = drive_at k c.drives

  restarted_by : (poll : Bool) → Restarted c (with_dor high (released_by poll (with_dor low (reset_of c)))) high
  unfolding with_dor with_registers released_by reset_of reset_all report_all with_drives
  restarted_by true = record {
    idle = refl;
    bytes = refl;
    dor = refl;
    alike = λ k h.
        below k (λ (j : ℕ). Alike (reset_drive (drive_at j c.drives)) (drive_at j (reset_all c.drives))) h
        (like (at 0) 0) (like (at 1) 0) (like (at 2) 0) (like (at 3) 0);
    reports = inl (λ k h.
        below k (λ (j : ℕ). (drive_at j (reset_all c.drives)).report ≡ 0) h refl refl refl refl);
  }
  restarted_by false = record {
    idle = refl;
    bytes = refl;
    dor = refl;
    alike = λ k h.
        below k
        (λ (j : ℕ). Alike (reset_drive (drive_at j c.drives)) (drive_at j (report_all (reset_all c.drives)))) h
        (like (at 0) 0xC0) (like (at 1) 0xC1) (like (at 2) 0xC2) (like (at 3) 0xC3);
    reports = inr (λ k h.
        below k (λ (j : ℕ). (drive_at j (report_all (reset_all c.drives))).report ≡ 0xC0 + j) h refl refl refl refl);
  }

  held_is : valid_of c ≡ true → held_in low ≡ true → after (writes 2 low) c ≡ with_dor low (reset_of c)
  unfolding wrote_dor
  held_is v h = after_dor c low v ∙ rw h

  free_is : (e : Controller) → valid_of e ≡ true → held_in e.registers.dor ≡ true → held_in high ≡ false
      → after (writes 2 high) e ≡ with_dor high (released_of e)
  unfolding wrote_dor
  free_is e v h f = after_dor e high v ∙ rw (f, h)

  held_dor : (with_dor low (reset_of c)).registers.dor ≡ low
  unfolding with_dor with_registers
  held_dor = refl

  pub restarts : valid_of c ≡ true → c.registers.spec1 < 256 → held_in low ≡ true → held_in high ≡ false
      → Restarted c (after (writes 2 high) (after (writes 2 low) c)) high
  unfolding released_of
  restarts v b h f =
      let q : Quiet (after (writes 2 low) c) = reset_quiet c v b low h in
      let e = held_is v h in
      let is : held_in (after (writes 2 low) c).registers.dor ≡ true =
      ap (λ (x : Controller). held_in x.registers.dor) e ∙ ap held_in held_dor ∙ h in
      rw (free_is (after (writes 2 low) c) (good_valid _ q.good) is f, e) (restarted_by _)

-- what the commands of a request find: a record that waits, DMA, no drive busy, no report, no head moving, steps of 63
-- ticks
pub record Stands (drive : ℕ) (c : Controller) : Type 0 where
  pub rested : Rested c
  pub none : NoneBusy c
  pub still : Each StandsStill c.drives
  pub reports : (k : ℕ) → k < 4 → (drive_at k c.drives).report ≡ 0
  pub gate : gate_in c.registers.dor ≡ true
  pub motor : motor_in c.registers.dor drive ≡ true
  pub spec1 : c.registers.spec1 ≡ 0xF0
  pub spec2 : c.registers.spec2 ≡ 0x00

abbrev specifies : Controller → Controller
specifies c = command_of (0x03 ∷ 0xF0 ∷ 0x00 ∷ []) c

-- 01 Commands Specify
module _ (c : Controller) (r : Rested c) (none : NoneBusy c) where
  specified_is : Specified c (specifies c) 0xF0 0x00
  specified_is =
      rw (command_runs (0x03 ∷ 0xF0 ∷ 0x00 ∷ []) c) ((settings c).specify 0xF0 0x00 (rested_ready c r) none)

  specify_does : Does c (specifies c)
  specify_does =
      command_does (0x03 ∷ 0xF0 ∷ 0x00 ∷ []) c (omega arith, (omega arith, (omega arith, tt)))
      (ap at_work specified_is.over.idle)

  specify_rested : Rested (specifies c)
  specify_rested = record {
    quiet = does_quiet specify_does r.quiet;
    idle = specified_is.over.idle;
    bytes = specified_is.over.bytes;
    free = ap held_in specified_is.over.dor ∙ r.free;
  }

  specify_stands : (drive : ℕ) → Each StandsStill c.drives
      → ((k : ℕ) → k < 4 → (drive_at k c.drives).report ≡ 0)
      → gate_in c.registers.dor ≡ true → motor_in c.registers.dor drive ≡ true
      → Stands drive (specifies c)
  specify_stands drive still reports gate motor =
      let d : (specifies c).drives ≡ c.drives = specified_is.over.drives in
      let o : (specifies c).registers.dor ≡ c.registers.dor = specified_is.over.dor in
      record {
        rested = specify_rested;
        none = rw d none;
        still = rw d still;
        reports = rw d reports;
        gate = rw o gate;
        motor = rw o motor;
        spec1 = specified_is.spec1;
        spec2 = specified_is.spec2;
      }

-- from any valid record
pub record Readied (drive : ℕ) (c : Controller) (w : Waited) : Type 0 where
  pub came : w.came ≡ true
  pub does : Does (after (writes 2 (dor_for drive true (shown_dor c))) c) w.controller
  pub stands : Stands drive w.controller

specified_came : (w : Waited) → w.came ≡ true
    → specified w ≡ record { came = true; controller = specifies w.controller }
specified_came w e = rw e

module _ (drive : ℕ) (two : drive < 2) (c : Controller) (v : valid_of c ≡ true) (b : c.registers.spec1 < 256) where
  abbrev low : ℕ
  low = dor_for drive true (shown_dor c)

  abbrev high : ℕ
  high = dor_for drive false (shown_dor c)

  abbrev started : Controller
  started = after (writes 2 low) c

  -- a read of DOR changes nothing
  pub read_same : (read_port 2 c).controller ≡ c
  unfolding read_port port_of read_reg answer_of
  read_same = rw v

  reset_is : reset_for drive c ≡ after (writes 2 high) started
  unfolding reset_for answer_to
  reset_is = ap (λ (x : Controller). after (writes 2 high) (after (writes 2 low) x)) read_same

  pub started_quiet : Quiet started
  started_quiet = reset_quiet c v b low (dor_held drive (shown_dor c))

  held_idle : (with_dor low (reset_of c)).phase ≡ Idle
  unfolding with_dor with_registers reset_of
  held_idle = refl

  started_rests : at_work started.phase ≡ false
  started_rests =
      ap (λ (x : Controller). at_work x.phase) (held_is c low high v (dor_held drive (shown_dor c)))
      ∙ ap at_work held_idle

  release_does : Does started (reset_for drive c)
  unfolding run_calls Rests
  release_does = record {
    calls = writes 2 high ∷ [];
    bytes = ((omega arith, dor_byte drive (shown_dor c) false), tt);
    tickless = (refl, tt);
    rests = (started_rests, tt);
    leads = sym reset_is;
  }

  restarted : Restarted c (reset_for drive c) high
  restarted = rw reset_is (restarts c low high v b (dor_held drive (shown_dor c)) (dor_free drive (shown_dor c)))

  reset_rested : Rested (reset_for drive c)
  reset_rested = record {
    quiet = does_quiet release_does started_quiet;
    idle = restarted.idle;
    bytes = restarted.bytes;
    free = ap held_in restarted.dor ∙ dor_free drive (shown_dor c);
  }

  cleared : Cleared (reset_for drive c) (clear_of 5 (reset_for drive c))
  cleared = go restarted.reports
    where
      go : ((k : ℕ) → k < 4 → (drive_at k (reset_for drive c).drives).report ≡ 0)
          ⊎ ((k : ℕ) → k < 4 → (drive_at k (reset_for drive c).drives).report ≡ 0xC0 + k)
          → Cleared (reset_for drive c) (clear_of 5 (reset_for drive c))
      go (inl f) =
          clears 0 4 4 (reset_for drive c) (omega arith) (omega arith) (record {
            rested = reset_rested;
            none = λ k h. (restarted.alike k h).busy;
            below = f;
            above = λ i h l. absurd (omega arith);
          })
      go (inr f) =
          clears 4 4 0 (reset_for drive c) (omega arith) (omega arith) (record {
            rested = reset_rested;
            none = λ k h. (restarted.alike k h).busy;
            below = λ i h. absurd (omega arith);
            above = λ i h l. f i l;
          })

  abbrev clear : Controller
  clear = (clear_of 5 (reset_for drive c)).controller

  clear_none : NoneBusy clear
  clear_none k h = (cleared.alike k h).busy ∙ (restarted.alike k h).busy

  clear_still : Each StandsStill clear.drives
  clear_still k h = (cleared.alike k h).motion ∙ (restarted.alike k h).motion

  clear_dor : clear.registers.dor ≡ high
  clear_dor = ap (λ (x : Registers). x.dor) cleared.registers ∙ restarted.dor

  -- 02 2026-01: DOR, Sense Interrupt until 80, Specify F0 00
  pub readies : Readied drive c (ready_of drive c)
  unfolding ready_of
  readies =
      rw (specified_came (clear_of 5 (reset_for drive c)) cleared.came) (record {
        came = refl;
        does = does_join release_does (does_join cleared.does (specify_does clear cleared.rested clear_none));
        stands =
            specify_stands clear cleared.rested clear_none drive clear_still cleared.reports
            (ap gate_in clear_dor ∙ dor_gate drive (shown_dor c))
            (ap (λ (x : ℕ). motor_in x drive) clear_dor ∙ dor_motor drive (shown_dor c) two);
      })
