-- Reset's table of what goes and what stays, by DOR and by DSR (01 Registers).
-- Assumes nothing.
use Rattle.std.specs.Prelude.{None}
use Prim.Native.Nat.{ℕ, ◌/◌, ◌%◌, ◌<◌}
use native.Mathlib.Omega.{arith}
use mathlib.Core.Bool.{Bool, true, false, and-false}
use mathlib.Core.List.{List}
use mathlib.Core.Path.{◌≡◌, refl, ◌∙◌, ap}
use lib.Dec.{eqb}
use borrow.Author.Tests.{eq-eqb, ne_eqb}
use Rattle.image.proofs.TestLaws.{by_test}
use Rattle.image.specs.Lent.{stored_as}
use Rattle.drive.specs.declared.Drive.{Drive}
use Rattle.drive.specs.Drive.{reported_of}
use Rattle.fdc.specs.declared.record.Bytes.{Bytes}
use Rattle.fdc.specs.declared.record.Controller.{Controller}
use Rattle.fdc.specs.declared.record.Registers.{Registers}
use Rattle.fdc.specs.declared.ticks.Decision.{Decision}
use Rattle.fdc.specs.Answer.{answer_of}
use Rattle.fdc.specs.Calls.{port_of, write_reg, write_port}
use Rattle.fdc.specs.Record.{drive_at, valid_of, with_registers, with_drives}
use Rattle.fdc.specs.Reset.{reset_of, released_by, released_of, with_dor, with_rate, wrote_dor, wrote_dsr}
use Rattle.reached.specs.Runs.{writes, answer_to, after}
use Rattle.fdc.specs.Ticks.{image_after, still_of, decide_of, ruled_of, tick_of}
use Rattle.reached.proofs.ResetLaws.{reset_drive_lem, release_drive}
use Rattle.answers.specs.Registers.{Undamaged, Held, Free}
use Rattle.answers.specs.Resets.{Reset, ResetTable, HeldTick}
use Rattle.answers.proofs.RegisterLaws.{undamaged_valid, after_dor}

-- a drive that differs at most in its report
pub record Alike (d e : Drive) : Type 0 where
  pub head : e.head ≡ d.head
  pub pcn : e.pcn ≡ d.pcn
  pub changed : e.changed ≡ d.changed
  pub busy : e.busy ≡ d.busy
  pub motion : e.motion ≡ d.motion

alike_self : (d : Drive) → Alike d d
alike_self d = record { head = refl; pcn = refl; changed = refl; busy = refl; motion = refl }

alike_reported : (report : ℕ) (d : Drive) → Alike d (reported_of report d)
alike_reported report d = record { head = refl; pcn = refl; changed = refl; busy = refl; motion = refl }

-- with POLL 1 a release changes nothing
polled : (c : Controller) → c.registers.poll ≡ true → released_of c ≡ c
unfolding released_of released_by
polled c t = rw t

-- a release changes reports alone
released_alike : (k : ℕ) (c : Controller) → k < 4 → Alike (drive_at k c.drives) (drive_at k (released_of c).drives)
released_alike k c h = go c.registers.poll refl
  where
    go : (t : Bool) → c.registers.poll ≡ t → Alike (drive_at k c.drives) (drive_at k (released_of c).drives)
    go true t = rw (polled c t) (alike_self _)
    go false t = rw (release_drive k c h t) (alike_reported _ _)

-- and no other part of the record
pub record Rest (c e : Controller) : Type 0 where
  pub registers : e.registers ≡ c.registers
  pub fifo : e.fifo ≡ c.fifo
  pub bytes : e.bytes ≡ c.bytes
  pub phase : e.phase ≡ c.phase

released_rest : (c : Controller) → Rest c (released_of c)
unfolding released_of released_by with_drives
released_rest c =
    by_test c.registers.poll (Rest c) _ _
    (λ _. record { registers = refl; fifo = refl; bytes = refl; phase = refl })
    (λ _. record { registers = refl; fifo = refl; bytes = refl; phase = refl })

module _ (c : Controller) (byte : ℕ) where
  -- the calls
  dor_resets : Undamaged c → byte / 4 % 2 ≡ 0 → after (writes 2 byte) c ≡ with_dor byte (reset_of c)
  unfolding wrote_dor
  dor_resets u e = after_dor c byte (undamaged_valid c u) ∙ rw (eq-eqb (byte / 4 % 2) 0 e)

  dor_releases : Undamaged c → Held c → byte / 4 % 2 ≡ 1 → after (writes 2 byte) c ≡ with_dor byte (released_of c)
  unfolding wrote_dor
  dor_releases u h e =
      after_dor c byte (undamaged_valid c u)
      ∙ rw (ne_eqb (byte / 4 % 2) 0 (λ q. omega arith), eq-eqb (c.registers.dor / 4 % 2) 0 h)

  after_dsr : valid_of c ≡ true → after (writes 4 byte) c ≡ wrote_dsr byte c
  unfolding answer_to write_port port_of write_reg answer_of
  after_dsr t = rw (t, after)

  dsr_resets : Undamaged c → Free c → byte / 128 ≡ 1
      → after (writes 4 byte) c ≡ with_rate byte (released_of (reset_of c))
  unfolding wrote_dsr
  dsr_resets u f e =
      after_dsr (undamaged_valid c u)
      ∙ rw (eq-eqb (byte / 128) 1 e, ne_eqb (c.registers.dor / 4 % 2) 0 (λ q. omega arith))

  dsr_nothing : Undamaged c → Held c → after (writes 4 byte) c ≡ with_rate byte c
  unfolding wrote_dsr
  dsr_nothing u h =
      after_dsr (undamaged_valid c u) ∙ simp (eq-eqb (c.registers.dor / 4 % 2) 0 h, and-false)

  -- what they leave
  dor_reset : Reset c (with_dor byte (reset_of c))
  unfolding with_dor with_registers reset_of
  dor_reset = record {
    command = (refl, refl);
    steps = λ k h. ap (λ (d : Drive). d.motion) (reset_drive_lem k c h);
    fifo = refl;
    results = refl;
    busy = λ k h. ap (λ (d : Drive). d.busy) (reset_drive_lem k c h);
    pcn = λ k h. ap (λ (d : Drive). d.pcn) (reset_drive_lem k c h);
    efifo = refl;
    fifothr = refl;
    pretrk = refl;
    eis = refl;
    poll = refl;
    tdr = refl;
    spec1 = refl;
    spec2 = refl;
    head = λ k h. ap (λ (d : Drive). d.head) (reset_drive_lem k c h);
    changed = λ k h. ap (λ (d : Drive). d.changed) (reset_drive_lem k c h);
  }

  dsr_reset : Reset c (with_rate byte (released_of (reset_of c)))
  unfolding with_rate with_registers reset_of with_dor
  dsr_reset =
      let rest = released_rest (reset_of c) in
      let r = dor_reset in
      let like : (k : ℕ) → k < 4 → Alike (drive_at k (reset_of c).drives) (drive_at k (released_of (reset_of c)).drives)
      = λ k h. released_alike k (reset_of c) h in
      record {
        command = (rest.phase ∙ r.command.0, ap (λ (x : Bytes). x.gathered) rest.bytes ∙ r.command.1);
        steps = λ k h. (like k h).motion ∙ r.steps k h;
        fifo = rest.fifo ∙ r.fifo;
        results = ap (λ (x : Bytes). x.left) rest.bytes ∙ r.results;
        busy = λ k h. (like k h).busy ∙ r.busy k h;
        pcn = λ k h. (like k h).pcn ∙ r.pcn k h;
        efifo = ap (λ (x : Registers). x.efifo) rest.registers ∙ r.efifo;
        fifothr = ap (λ (x : Registers). x.fifothr) rest.registers ∙ r.fifothr;
        pretrk = ap (λ (x : Registers). x.pretrk) rest.registers ∙ r.pretrk;
        eis = ap (λ (x : Registers). x.eis) rest.registers ∙ r.eis;
        poll = ap (λ (x : Registers). x.poll) rest.registers ∙ r.poll;
        tdr = ap (λ (x : Registers). x.tdr) rest.registers ∙ r.tdr;
        spec1 = ap (λ (x : Registers). x.spec1) rest.registers ∙ r.spec1;
        spec2 = ap (λ (x : Registers). x.spec2) rest.registers ∙ r.spec2;
        head = λ k h. (like k h).head ∙ r.head k h;
        changed = λ k h. (like k h).changed ∙ r.changed k h;
      }

  reset_poll : (reset_of c).registers.poll ≡ c.registers.poll
  unfolding reset_of
  reset_poll = refl

  reset_rate : (reset_of c).registers.rate ≡ c.registers.rate
  unfolding reset_of
  reset_rate = refl

  reset_dor : (released_of (reset_of c)).registers.dor ≡ c.registers.dor
  unfolding reset_of
  reset_dor = ap (λ (x : Registers). x.dor) (released_rest (reset_of c)).registers

  pub reset_table : ResetTable c byte
  unfolding with_dor with_rate with_registers
  reset_table = record {
    by_dor = λ u e. rw (dor_resets u e) dor_reset;
    dor_reports = λ u e k h.
        ap (λ (x : Controller). (drive_at k x.drives).report) (dor_resets u e)
        ∙ ap (λ (d : Drive). d.report) (reset_drive_lem k c h);
    dor_kept = λ u e. (
      ap (λ (x : Controller). x.registers.dor) (dor_resets u e),
      ap (λ (x : Controller). x.registers.rate) (dor_resets u e) ∙ reset_rate,
    );
    by_dsr = λ u f e. rw (dsr_resets u f e) dsr_reset;
    dsr_kept = λ u f e. (
      ap (λ (x : Controller). x.registers.dor) (dsr_resets u f e) ∙ reset_dor,
      ap (λ (x : Controller). x.registers.rate) (dsr_resets u f e),
    );
    dsr_reports = λ u f e p k h.
        ap (λ (x : Controller). (drive_at k x.drives).report) (dsr_resets u f e)
        ∙ ap (λ (d : Drive). d.report) (release_drive k (reset_of c) h (reset_poll ∙ p));
    dsr_quiet = λ u f e p k h.
        ap (λ (x : Controller). (drive_at k x.drives).report) (dsr_resets u f e)
        ∙ ap (λ (x : Controller). (drive_at k x.drives).report) (polled (reset_of c) (reset_poll ∙ p))
        ∙ ap (λ (d : Drive). d.report) (reset_drive_lem k c h);
    released = λ u held e p k h.
        ap (λ (x : Controller). (drive_at k x.drives).report) (dor_releases u held e)
        ∙ ap (λ (d : Drive). d.report) (release_drive k c h p);
    released_quiet = λ u held e p.
        ap (λ (x : Controller). x.drives) (dor_releases u held e) ∙ ap (λ (x : Controller). x.drives) (polled c p);
    dsr_held = dsr_nothing;
  }

held_still : (a b : List ℕ) (c : Controller) → Held c → ruled_of a b c ≡ still_of c
unfolding ruled_of decide_of
held_still a b c h =
    by_test (valid_of c) (λ (d : Decision). d ≡ still_of c) _ _ (λ _. rw (eq-eqb _ _ h)) (λ _. refl)

pub held_tick : (c : Controller) (a b : List ℕ) → HeldTick c a b
unfolding answer_to tick_of answer_of image_after still_of
held_tick c a b = record {
  stays = λ h. ap (λ (d : Decision). d.controller) (held_still a b c h);
  images = λ h k img. ap (λ (d : Decision). stored_as d.drive k d.effect img) (held_still a b c h) ∙ still k img;
}
  where
    still : (k : ℕ) (img : List ℕ) → stored_as 0 k None img ≡ img
    still k img = by_test (eqb 0 k) (λ (l : List ℕ). l ≡ img) _ _ (λ _. refl) (λ _. refl)
