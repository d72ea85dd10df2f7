-- What every record reached from power-on by calls of bytes keeps to beside `Good`: held in reset it is idle and no
-- head moves, no head moves while a command is at work, what a command was told is bytes (01 Registers, Commands,
-- Stepping).
-- Assumes nothing.
use Prim.Native.Nat.{ℕ, zero, suc, ◌<◌}
use native.Mathlib.Omega.{arith}
use mathlib.Core.Bool.{Bool, true, false, ◌||◌, true≢false, false≢true}
use mathlib.Core.List.{List, [], ◌∷◌}
use mathlib.Core.Logic.{◌⊎◌, inl, inr}
use mathlib.Core.Path.{◌≡◌, refl, sym, ap, ◌∙◌}
use lib.Dec.{eqb, leb, ltb}
use lib.ListN.{get_or, set, replicate}
use Rattle.image.proofs.TestLaws.{by_test}
use Rattle.chip.specs.declared.fifo.Fifo.{Fifo}
use Rattle.chip.proofs.FifoLaws.{fits_emptied}
use Rattle.drive.specs.declared.Drive.{Drive}
use Rattle.drive.specs.declared.Motion.{Motion}
use Rattle.drive.specs.declared.Motion.TheVariants.{Still, Seeking, Recalibrating}
use Rattle.drive.specs.Step.{stepped, sought, recalibrated, seek_tick, recalibrate_tick, tick_in}
use Rattle.drive.specs.Step.{tick_drive}
use Rattle.sectors.specs.declared.order.Order.{Order}
use Rattle.sectors.specs.declared.work.Step.{Step}
use Rattle.sectors.specs.declared.work.Then.{Then}
use Rattle.sectors.specs.declared.work.Then.TheVariants.{Ends, Works}
use Rattle.fdc.specs.declared.answer.Reply.{Reply}
use Rattle.fdc.specs.declared.record.Bytes.{Bytes}
use Rattle.fdc.specs.declared.record.Controller.{Controller}
use Rattle.fdc.specs.declared.record.Phase.{Phase}
use Rattle.fdc.specs.declared.record.Phase.TheVariants.{Idle, Gathering, Starting, Working, Sensing, Answering}
use Rattle.fdc.specs.declared.record.Registers.{Registers}
use Rattle.fdc.specs.Answer.{answer_of}
use Rattle.fdc.specs.Calls.{port_of, write_reg, power_on, write_port}
use Rattle.fdc.specs.Commands.{move_order, format_order, identify_order}
use Rattle.fdc.specs.Record.{no_bytes, fresh_of, drive_at, with_registers}
use Rattle.fdc.specs.Registers.{held_in, any_busy}
use Rattle.fdc.specs.Reset.{reset_all, reset_of, with_dor, wrote_dor}
use Rattle.fdc.specs.Ticks.{stepped_of}
use Rattle.fdc.proofs.StandLaws.{tick_stands, stepped_stands}
use Rattle.fdc.proofs.ValidLaws.{Valid, true_valid}
use Rattle.reached.specs.Good.{Good}
use Rattle.reached.specs.Runs.{Call, powers, writes, answer_to, after, run_calls}
use Rattle.reached.proofs.GoodLaws.{four_of, good_power_on, good_after}
use Rattle.reached.proofs.RuleLaws.{each_of, collects_unengaged, rule_of}
use Rattle.reached.proofs.Rules.{engaged, DriveRule, kept, noted, powered, reset, restarted, released, sensed, set_off, ticked, Told, Orders, moving, formatting, identifying, Acts, begins, goes_on_lem, bytes_then, phase_then, Rest, refuses, shows, steps, flags, sets, anew, took_byte, gave_byte, gathers, says, idles, specifies, configures, senses, starts, acts}
use Rattle.demands.specs.Work.{OfBytes, AllOfBytes, Real, at_work, Its}
use Rattle.demands.specs.Quiet.{ResetQuiet, Proper, AllBytes, Each, StandsStill, Settled, Quiet}

-- lists of bytes
bytes_zeros : (n : ℕ) → AllBytes (replicate n 0)
bytes_zeros zero = tt
bytes_zeros (suc n) = (omega arith, bytes_zeros n)

bytes_set : (bytes : List ℕ) (k byte : ℕ) → byte < 256 → AllBytes bytes → AllBytes (set bytes k byte)
bytes_set [] k byte h all = tt
bytes_set (x ∷ bytes) zero byte h all = (h, all.1)
bytes_set (x ∷ bytes) (suc k) byte h all = (all.0, bytes_set bytes k byte h all.1)

bytes_at : (bytes : List ℕ) (k : ℕ) → AllBytes bytes → get_or bytes k 0 < 256
bytes_at [] k all = omega arith
bytes_at (x ∷ bytes) zero all = all.0
bytes_at (x ∷ bytes) (suc k) all = bytes_at bytes k all.1

never : {A : Type 0} (t : Bool) → t ≡ false → t ≡ true → A
never t f e = absurd (false≢true (sym f ∙ e))

-- no busy bit is on
none_of : (a b c d : Bool) → (a || b || c || d) ≡ false
    → (a ≡ false) × (b ≡ false) × (c ≡ false) × (d ≡ false)
none_of true b c d f = absurd (true≢false f)
none_of false true c d f = absurd (true≢false f)
none_of false false true d f = absurd (true≢false f)
none_of false false false d f = (refl, refl, refl, f)

not_busy : (k : ℕ) (drives : List Drive) → k < 4 → any_busy drives ≡ false → (drive_at k drives).busy ≡ false
unfolding any_busy
not_busy k drives h f =
    go k h (none_of (drive_at 0 drives).busy (drive_at 1 drives).busy (drive_at 2 drives).busy (drive_at 3 drives).busy
    f)
  where
    go : (k : ℕ) → k < 4 → ((drive_at 0 drives).busy ≡ false) × ((drive_at 1 drives).busy ≡ false)
        × ((drive_at 2 drives).busy ≡ false) × ((drive_at 3 drives).busy ≡ false) → (drive_at k drives).busy ≡ false
    go zero h p = p.0
    go (suc zero) h p = p.1
    go (suc (suc zero)) h p = p.2
    go (suc (suc (suc zero))) h p = p.3
    go (suc (suc (suc (suc k)))) h p = absurd (omega arith)

-- 01 Commands (house): a data command is accepted only while no busy bit is on
none_busy : (drives : List Drive) → any_busy drives ≡ false → Each Settled drives → Each StandsStill drives
none_busy drives f all k h = stands (drive_at k drives) (not_busy k drives h f) (all k h)
  where
    stands : (d : Drive) → d.busy ≡ false → Settled d → StandsStill d
    stands d f (inl e) = e
    stands d f (inr p) = never _ f p.0

-- the tick of a drive: one that stands still has none
settled_in : (motion : Motion) (number : ℕ) (mounted : Bool) (step : ℕ) (d : Drive)
    → (d.busy ≡ true) × (d.report ≡ 0) → Settled (tick_in motion number mounted step d)
unfolding tick_in seek_tick recalibrate_tick sought recalibrated stepped
settled_in Still number mounted step d p = inr p
settled_in (Seeking target n wait) number mounted step d p =
    by_test (ltb 1 wait) Settled _ _ (λ _. inr p)
    (λ _. by_test (eqb n 0) Settled _ _ (λ _. inl refl)
    (λ _. by_test (leb n 1) Settled _ _ (λ _. inl refl) (λ _. inr p)))
settled_in (Recalibrating n wait) number mounted step d p =
    by_test (ltb 1 wait) Settled _ _ (λ _. inr p)
    (λ _. by_test (eqb n 0) Settled _ _ (λ _. inl refl)
    (λ _. by_test (leb n 1) Settled _ _ (λ _. inl refl) (λ _. inr p)))

settled_tick : (number : ℕ) (mounted : Bool) (step : ℕ) (d : Drive) → Settled d
    → Settled (tick_drive number mounted step d)
unfolding tick_drive
settled_tick number mounted step d (inl e) = rw (tick_stands number mounted step d e) (inl e)
settled_tick number mounted step d (inr p) = settled_in d.motion number mounted step d p

-- a drive that stands still or is busy with no report, after a call
settled_rule : (call : Call) (c : Controller) (p : Phase) (k : ℕ) (e : Drive) → DriveRule call c p k e
    → (held_in c.registers.dor ≡ true → StandsStill (drive_at k c.drives)) → Settled (drive_at k c.drives)
    → Settled e
settled_rule call c p k e kept r s = s
settled_rule call c p k e noted r s = s
settled_rule call c p k e (powered head h x y q) r s = inl refl
settled_rule call c p k e (reset x) r s = inl refl
settled_rule call c p k e (restarted report x) r s = inl refl
settled_rule call c p k e (released report h) r s = inl (r h)
settled_rule call c p k e (sensed f n) r s = inl (stands s)
  where
    stands : Settled (drive_at k c.drives) → StandsStill (drive_at k c.drives)
    stands (inl e) = e
    stands (inr p) = absurd (n p.1)
settled_rule call c p k e (set_off f i b motion h) r s = inr (refl, refl)
settled_rule call c p k e (ticked x y q f mounted) r s = settled_tick k mounted _ (drive_at k c.drives) s

-- one that stands still, where no Seek or Recalibrate is accepted
stands_rule : (call : Call) (c : Controller) (p : Phase) (k : ℕ) (e : Drive) → DriveRule call c p k e
    → (held_in c.registers.dor ≡ false → p ≡ Idle → ⊥) → StandsStill (drive_at k c.drives) → StandsStill e
stands_rule call c p k e kept o s = s
stands_rule call c p k e noted o s = s
stands_rule call c p k e (powered head h x y q) o s = refl
stands_rule call c p k e (reset x) o s = refl
stands_rule call c p k e (restarted report x) o s = refl
stands_rule call c p k e (released report h) o s = s
stands_rule call c p k e (sensed f n) o s = s
stands_rule call c p k e (set_off f i b motion h) o s = absurd (o f i)
stands_rule call c p k e (ticked x y q f mounted) o s = rw (tick_stands k mounted _ (drive_at k c.drives) s) s

pub at_work_law : (p : Phase) → at_work p ≡ engaged p
at_work_law Idle = refl
at_work_law (Gathering entry) = refl
at_work_law (Starting order) = refl
at_work_law (Working work) = refl
at_work_law (Sensing unit) = refl
at_work_law (Answering loud) = refl

-- 01 Commands: what an order was told is bytes
proper_order : (command : List ℕ) (order : Order) → Orders command order → AllBytes command → Proper (Starting order)
unfolding move_order format_order identify_order
proper_order command order (moving pass deleted) all =
    (omega arith, omega arith, (bytes_at command 4 all, bytes_at command 6 all))
proper_order command order formatting all = (omega arith, omega arith, tt)
proper_order command order identifying all = (omega arith, omega arith, tt)

acts_works : (a b : List ℕ) (c : Controller) (s : Step) → Acts a b c s → at_work c.phase ≡ true
acts_works a b c s (begins order head e) = ap at_work e
acts_works a b c s (goes_on_lem work head e) = ap at_work e

-- a byte written while no command is at work is below 256
abbrev Bytewise : Call → Controller → Type 0
Bytewise call c = (byte : ℕ) → call ≡ writes 5 byte → at_work c.phase ≡ false → byte < 256

module _ (call : Call) (c : Controller) (drives : List Drive) (bytewise : Bytewise call c) (q : Quiet c) where
  -- what `Quiet` says of all but the drives, and what it needs of them
  record Calms (r : Registers) (b : Bytes) (p : Phase) : Type 0 where
    held : held_in r.dor ≡ true → p ≡ Idle
    was : held_in r.dor ≡ true → (held_in c.registers.dor ≡ true) ⊎ Each StandsStill drives
    stood : at_work p ≡ true → (at_work c.phase ≡ true) ⊎ (any_busy c.drives ≡ false)
    proper : Proper p
    command : AllBytes b.command
    spec1 : r.spec1 < 256

  same : Calms c.registers c.bytes c.phase
  same = record {
    held = q.held;
    was = λ h. inl h;
    stood = λ w. inl w;
    proper = q.proper;
    command = q.inner.command;
    spec1 = q.inner.spec1;
  }

  told_bytes : (command : List ℕ) → Told call c command → AllBytes command
  told_bytes command t =
      rw t.bytes
      (bytes_set t.from.command t.from.gathered t.byte
      (bytewise t.byte t.it (at_work_law c.phase ∙ collects_unengaged c t.byte t.entry t.by))
      (from_bytes t.whence))
    where
      from_bytes : (t.from ≡ c.bytes) ⊎ (t.from ≡ no_bytes) → AllBytes t.from.command
      from_bytes (inl e) = rw e q.inner.command
      from_bytes (inr e) = rw e (bytes_zeros 9)

  -- not held, and no command at work after it
  resting : (r : Registers) (b : Bytes) (p : Phase) → held_in r.dor ≡ false → at_work p ≡ false → Proper p
      → AllBytes b.command → r.spec1 < 256 → Calms r b p
  resting r b p f w proper all s = record {
    held = λ h. never _ f h;
    was = λ h. never _ f h;
    stood = λ h. never _ w h;
    proper = proper;
    command = all;
    spec1 = s;
  }

  acting : (then : Then) → held_in c.registers.dor ≡ false → at_work c.phase ≡ true
      → Calms c.registers (bytes_then then c.bytes) (phase_then then)
  acting (Ends v) f w = resting _ _ _ f refl tt (bytes_zeros 9) q.inner.spec1
  acting (Works work) f w = record {
    held = λ h. never _ f h;
    was = λ h. inl h;
    stood = λ _. inl w;
    proper = tt;
    command = q.inner.command;
    spec1 = q.inner.spec1;
  }

  calms : (reply : Reply) (r : Registers) (f : Fifo) (b : Bytes) (p : Phase) → Rest call c drives reply r f b p
      → Calms r b p
  calms reply r f b p (refuses refusal) = same
  calms reply r f b p (shows offset byte e o) = same
  calms reply r f b p (steps x y e) = same
  calms reply r f b p (flags drive e) = same
  calms reply r f b p (sets offset byte e o n s) = record {
    held = λ h. q.held (s.held h);
    was = λ h. inl (s.held h);
    stood = λ w. inl w;
    proper = q.proper;
    command = q.inner.command;
    spec1 = rw s.spec1 q.inner.spec1;
  }
  calms reply r f b p (anew x reply' n e t s still) = record {
    held = λ _. refl;
    was = λ _. inr still;
    stood = λ w. absurd (false≢true w);
    proper = tt;
    command = bytes_zeros 9;
    spec1 = byte s;
  }
    where
      byte : (n.spec1 ≡ 0) ⊎ (n.spec1 ≡ c.registers.spec1) → n.spec1 < 256
      byte (inl e) = omega (arith, e)
      byte (inr e) = rw e q.inner.spec1
  calms reply r f b p (took_byte tc x work e h asks) = same
  calms reply r f b p (gave_byte byte tc x work e h asks) = same
  calms reply r f b p (gathers b' t l o m k) =
      resting _ _ _ t.free refl tt (told_bytes _ t) q.inner.spec1
  calms reply r f b p (says h free reply' results left l m k) =
      resting _ _ _ free refl tt (bytes_zeros 9) q.inner.spec1
  calms reply r f b p (idles h free reply') = resting _ _ _ free refl tt (bytes_zeros 9) q.inner.spec1
  calms reply r f b p (specifies command t h second) =
      resting _ _ _ t.free refl tt (bytes_zeros 9) (bytes_at command 1 (told_bytes command t))
  calms reply r f b p (configures command t h byte track) =
      resting _ _ _ t.free refl tt (bytes_zeros 9) q.inner.spec1
  calms reply r f b p (senses command t h unit) =
      resting _ _ _ t.free refl tt (bytes_zeros 9) q.inner.spec1
  calms reply r f b p (starts command t h order o) = record {
    held = λ e. never _ t.free e;
    was = λ e. inl e;
    stood = λ _. inr h;
    proper = proper_order command order o (told_bytes command t);
    command = bytes_zeros 9;
    spec1 = q.inner.spec1;
  }
  calms reply r f b p (acts x y e h s a) = acting s.then h (acts_works x y c s a)

quiet_by : (call : Call) (c : Controller) → Bytewise call c → Quiet c → Quiet (after call c)
quiet_by call c bytewise q =
    let u = rule_of call c in
    let z = calms call c _ bytewise q _ _ _ _ _ u.rest in
    record {
      good = good_after call c q.good;
      held = z.held;
      still = λ w k l. stands_rule call c _ k _ (u.drives k l) (λ f i. false≢true (sym (ap at_work i) ∙ w))
          (stood (z.stood w) k l);
      proper = z.proper;
      inner = record {
        drives = λ k l. settled_rule call c _ k _ (u.drives k l) (λ h. q.inner.rests h k l) (q.inner.drives k l);
        rests = λ h. rests (z.was h);
        command = z.command;
        spec1 = z.spec1;
      };
    }
  where
    stood : (at_work c.phase ≡ true) ⊎ (any_busy c.drives ≡ false) → Each StandsStill c.drives
    stood (inl w) = q.still w
    stood (inr f) = none_busy c.drives f q.inner.drives

    rests : (held_in c.registers.dor ≡ true) ⊎ Each StandsStill (after call c).drives
        → Each StandsStill (after call c).drives
    rests (inl h) k l =
        stands_rule call c _ k _ ((rule_of call c).drives k l) (λ f i. never _ f h) (q.inner.rests h k l)
    rests (inr all) k l = all k l

-- 01 Refusals: what a real record keeps to, any call of a command at work keeps
pub quiet_after : (call : Call) (c : Controller) → Quiet c → at_work c.phase ≡ true → Quiet (after call c)
quiet_after call c q w = quiet_by call c (λ byte e f. never _ f w) q

-- so that the record stays so through the command's calls
pub quiet_its : (calls : List Call) (c : Controller) → Quiet c → Its calls c → Quiet (run_calls calls c)
unfolding Its run_calls
quiet_its [] c q i = q
quiet_its (call ∷ calls) c q i = quiet_its calls (after call c) (quiet_after call c q i.0) i.1

pub quiet_run : (calls : List Call) (c : Controller) → AllOfBytes calls → Quiet c → Quiet (run_calls calls c)
unfolding run_calls
quiet_run [] c b q = q
quiet_run (call ∷ calls) c b q =
    quiet_run calls (after call c) b.1 (quiet_by call c (λ byte e w. of_bytes b.0 byte e) q)
  where
    of_bytes : OfBytes call → (byte : ℕ) → call ≡ writes 5 byte → byte < 256
    of_bytes o byte e = (rw e at o).1

quiet_fresh : Quiet (fresh_of 0 0)
unfolding power_on answer_of fresh_of
quiet_fresh = record {
  good = good_power_on 0 0;
  held = λ _. refl;
  still = λ w. absurd (false≢true w);
  proper = tt;
  inner = record {
    drives = each_of Settled _ _ _ _ (inl refl) (inl refl) (inl refl) (inl refl);
    rests = λ _. each_of StandsStill _ _ _ _ refl refl refl refl;
    command = bytes_zeros 9;
    spec1 = omega arith;
  };
}

quiet_power_on : (head0 head1 : ℕ) → Quiet (power_on head0 head1).controller
unfolding answer_to
quiet_power_on head0 head1 =
    quiet_by (powers head0 head1) (fresh_of 0 0) (λ byte e w. let z : ◌≡◌ {A = ℕ} 0 1 = cc in absurd (omega arith))
    quiet_fresh

pub quiet_real : (c : Controller) → Real c → Quiet c
quiet_real c r = rw (← r.run) (quiet_run r.calls _ r.bytes (quiet_power_on r.head0 r.head1))

-- 01 Commands Specify: SRT and HUT are a byte
pub spec1_real : (c : Controller) → Real c → c.registers.spec1 < 256
spec1_real c r = (quiet_real c r).inner.spec1

pub quiet_stepped : (a b : List ℕ) (c : Controller) → Quiet c → at_work c.phase ≡ true → stepped_of a b c ≡ c
quiet_stepped a b c q w = stepped_stands a b c q.good.drives.long (q.still w)

-- a record at work is not held in reset
pub quiet_free : (c : Controller) → Quiet c → at_work c.phase ≡ true → held_in c.registers.dor ≡ false
quiet_free c q w = go (held_in c.registers.dor) refl
  where
    go : (b : Bool) → held_in c.registers.dor ≡ b → held_in c.registers.dor ≡ false
    go true h = absurd (false≢true (sym (ap at_work (q.held h)) ∙ w))
    go false h = h

-- 01 Registers reset: of any valid record, reached or not
good_reset : (byte : ℕ) (c : Controller) → Valid c → Good (with_dor byte (reset_of c))
unfolding reset_of reset_all with_dor with_registers
good_reset byte c v = record {
  drives =
      four_of _ _ _ _ (record { head = v.head0; count = omega arith }) (record { head = v.head1; count = omega arith })
      (record { head = v.head2; count = omega arith }) (record { head = v.head3; count = omega arith });
  fifo = fits_emptied true;
  fifothr = omega arith;
  left = omega arith;
  phase = (refl, refl);
}

pub reset_quiet : ResetQuiet
unfolding answer_to write_port port_of write_reg wrote_dor answer_of reset_of reset_all with_dor with_registers
reset_quiet c v h byte held =
    rw (v, after)
    (rw held
    (record {
      good = good_reset byte c (true_valid c v);
      held = λ _. refl;
      still = λ w. absurd (false≢true w);
      proper = tt;
      inner = record {
        drives = each_of Settled _ _ _ _ (inl refl) (inl refl) (inl refl) (inl refl);
        rests = λ _. each_of StandsStill _ _ _ _ refl refl refl refl;
        command = bytes_zeros 9;
        spec1 = h;
      };
    }))
