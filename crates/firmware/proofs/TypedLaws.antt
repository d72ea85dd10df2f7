-- A record that the machine's types allow (pack's `Typed`) is one after every call too, whatever the call's numbers and
-- the images; and a tick leaves a valid record valid (01 Refusals 4).
-- Assumes nothing.
use Prim.Native.Nat.{ℕ, zero, suc, ◌-◌, ◌/◌, ◌≤◌, ◌<◌}
use native.Mathlib.Omega.{arith}
use mathlib.Core.Bool.{Bool, true, false}
use mathlib.Core.List.{List, [], ◌∷◌}
use mathlib.Core.Path.{◌≡◌, refl}
use lib.Dec.{eqb, leb, ltb}
use lib.ListN.{length}
use Rattle.image.proofs.TestLaws.{by_test}
use Rattle.chip.specs.declared.fifo.Fifo.{Fifo}
use Rattle.chip.proofs.StepLaws.{step_most}
use Rattle.drive.specs.declared.Drive.{Drive}
use Rattle.drive.specs.declared.Motion.{Motion}
use Rattle.drive.specs.declared.Motion.TheVariants.{Still, Seeking, Recalibrating}
use Rattle.drive.specs.Drive.{countdown_of}
use Rattle.drive.specs.Step.{on_tick, sought, recalibrated, stepped, seek_tick, recalibrate_tick, tick_in}
use Rattle.drive.specs.Step.{tick_drive}
use Rattle.sectors.specs.declared.order.Job.{Job}
use Rattle.sectors.specs.declared.order.Job.TheVariants.{Identify, Move}
use Rattle.sectors.specs.declared.order.Job.TheVariants as job
use Rattle.sectors.specs.declared.work.Step.{Step}
use Rattle.sectors.specs.declared.work.Then.{Then}
use Rattle.sectors.specs.declared.work.Then.TheVariants.{Ends, Works}
use Rattle.fdc.specs.declared.answer.Reply.{Reply}
use Rattle.fdc.specs.declared.record.Bytes.{Bytes}
use Rattle.fdc.specs.declared.record.Controller.{Controller}
use Rattle.fdc.specs.declared.record.Phase.{Phase}
use Rattle.fdc.specs.declared.record.Registers.{Registers}
use Rattle.fdc.specs.Calls.{power_on}
use Rattle.fdc.specs.Record.{fresh_of, drive_at, valid_of}
use Rattle.fdc.specs.Ticks.{tick_of}
use Rattle.reached.specs.Runs.{Call, powers, ticks, answer_to, after, run_calls}
use Rattle.firmware.proofs.NumbersLaws.{acts_fine, valid_kept}
use Rattle.reached.proofs.RuleLaws.{told_room, rule_of}
use Rattle.reached.proofs.Rules.{DriveRule, kept, noted, powered, reset, restarted, released, sensed, set_off, ticked, bytes_then, phase_then, Rest, refuses, shows, steps, flags, sets, anew, took_byte, gave_byte, gathers, says, idles, specifies, configures, senses, starts, acts}
use Rattle.firmware.proofs.StepShapeLaws.{room_taken, room_given, then_done}
use Rattle.pack.specs.Back.{DrivesFit, Typed}
use Rattle.pack.specs.Bytes.{course_of}
use Rattle.pack.specs.Flat.{job_flat, phase_flat}

-- a wait of 16 bits
abbrev Brief : Drive → Type 0
Brief d = (course_of d.motion).wait < 0x10000

record FourBrief (drives : List Drive) : Type 0 where
  long : length drives ≡ 4
  each : (k : ℕ) → k < 4 → Brief (drive_at k drives)

brief_of : (drives : List Drive) → DrivesFit drives → FourBrief drives
brief_of drives f = record { long = f.long; each = each }
  where
    each : (k : ℕ) → k < 4 → Brief (drive_at k drives)
    each zero h = f.wait0
    each (suc zero) h = f.wait1
    each (suc (suc zero)) h = f.wait2
    each (suc (suc (suc zero))) h = f.wait3
    each (suc (suc (suc (suc k)))) h = absurd (omega arith)

fit_of : (drives : List Drive) → FourBrief drives → DrivesFit drives
fit_of drives f =
    record {
      long = f.long;
      wait0 = f.each 0 (omega arith);
      wait1 = f.each 1 (omega arith);
      wait2 = f.each 2 (omega arith);
      wait3 = f.each 3 (omega arith);
    }

fit_four : (a b c d : Drive) → Brief a → Brief b → Brief c → Brief d → DrivesFit (a ∷ b ∷ c ∷ d ∷ [])
fit_four a b c d wa wb wc wd = record { long = refl; wait0 = wa; wait1 = wb; wait2 = wc; wait3 = wd }

-- what calls and ticks do to a drive
brief_motion : (m : Motion) → countdown_of m ≤ 1000 → (course_of m).wait < 0x10000
brief_motion Still h = omega arith
brief_motion (Seeking target n wait) h = omega arith
brief_motion (Recalibrating n wait) h = omega arith

brief_on_tick : (on : ℕ → ℕ → Motion) (end : Drive → Drive) (goes_in : Bool) (number : ℕ) (mounted : Bool)
    (pace n wait : ℕ) (d : Drive) → ((s w : ℕ) → (course_of (on s w)).wait ≡ w) → ((e : Drive) → Brief (end e))
    → pace ≤ 1000 → wait < 0x10000 → Brief (on_tick on end goes_in number mounted pace n wait d)
brief_on_tick on end goes_in number mounted pace n wait d o e h l =
    by_test (ltb 1 wait) Brief _ _ (λ t. omega (arith, o n (wait - 1)))
    (λ t. by_test (eqb n 0) Brief _ _ (λ u. e d)
    (λ u. by_test (leb n 1) Brief _ _ (λ v. e _) (λ v. omega (arith, o (n - 1) pace))))

brief_tick_in : (m : Motion) (number : ℕ) (mounted : Bool) (pace : ℕ) (d : Drive) → pace ≤ 1000
    → (course_of m).wait < 0x10000 → Brief d → Brief (tick_in m number mounted pace d)
unfolding tick_in seek_tick recalibrate_tick sought recalibrated stepped
brief_tick_in Still number mounted pace d h l b = b
brief_tick_in (Seeking target n wait) number mounted pace d h l b =
    brief_on_tick (Seeking target) (sought number target) (ltb d.pcn target) number mounted pace n wait d
    (λ s w. refl) (λ e. omega arith) h l
brief_tick_in (Recalibrating n wait) number mounted pace d h l b =
    brief_on_tick Recalibrating (recalibrated number) false number mounted pace n wait d (λ s w. refl)
    (λ e. omega arith) h l

brief_tick : (number : ℕ) (mounted : Bool) (pace : ℕ) (d : Drive) → pace ≤ 1000 → Brief d
    → Brief (tick_drive number mounted pace d)
unfolding tick_drive
brief_tick number mounted pace d h b = brief_tick_in d.motion number mounted pace d h b b

brief_rule : (call : Call) (c : Controller) (p : Phase) (k : ℕ) (e : Drive) → DriveRule call c p k e
    → Brief (drive_at k c.drives) → Brief e
brief_rule call c p k e kept b = b
brief_rule call c p k e noted b = b
brief_rule call c p k e (powered head h x y q) b = omega arith
brief_rule call c p k e (reset r) b = omega arith
brief_rule call c p k e (restarted report r) b = omega arith
brief_rule call c p k e (released report h) b = b
brief_rule call c p k e (sensed f n) b = b
brief_rule call c p k e (set_off f i x motion h) b = brief_motion motion h
brief_rule call c p k e (ticked x y q f mounted) b =
    brief_tick k mounted _ (drive_at k c.drives) (step_most (c.registers.spec1 / 16)) b

-- how far bytes are counted, as the record's bytes have it
job_done : (drive side : ℕ) (j : Job) → (job_flat drive side j).spot.done < 0x10000
job_done drive side Identify = omega arith
job_done drive side (Move transfer id) = omega arith
job_done drive side (job.Format plan) = omega arith

-- what `Typed` says of all but the drives
record Shapes (f : Fifo) (b : Bytes) (p : Phase) : Type 0 where
  fifo : length f.bytes ≡ 16
  command : length b.command ≡ 9
  results : length b.results ≡ 7
  done : (phase_flat p).spot.done < 0x10000

module _ (call : Call) (c : Controller) (t : Typed c) where
  same : Shapes c.fifo c.bytes c.phase
  same = record { fifo = t.fifo; command = t.command; results = t.results; done = t.done }

  settled : (s : Step) (then : Then) → length s.fifo.bytes ≡ 16 → then_done then ≤ 1024
      → Shapes s.fifo (bytes_then then c.bytes) (phase_then then)
  settled s (Ends v) h d = record { fifo = h; command = refl; results = refl; done = omega arith }
  settled s (Works work) h d =
      record { fifo = h; command = t.command; results = t.results; done = omega (arith, d) }

  shapes : (ds : List Drive) (reply : Reply) (r : Registers) (f : Fifo) (b : Bytes) (p : Phase)
      → Rest call c ds reply r f b p → Shapes f b p
  shapes ds reply r f b p (refuses refusal) = same
  shapes ds reply r f b p (shows offset byte q o) = same
  shapes ds reply r f b p (steps x y q) = same
  shapes ds reply r f b p (flags drive q) = same
  shapes ds reply r f b p (sets offset byte q o n s) = same
  shapes ds reply r f b p (anew x reply' n e z s still) =
      record { fifo = refl; command = refl; results = refl; done = omega arith }
  shapes ds reply r f b p (took_byte tc x work q h asks) =
      record {
        fifo = (room_taken true tc c.fifo).sixteen t.fifo;
        command = t.command;
        results = t.results;
        done = t.done;
      }
  shapes ds reply r f b p (gave_byte byte tc x work q h asks) =
      record {
        fifo = (room_given c.registers.efifo _ byte c.fifo).sixteen t.fifo;
        command = t.command;
        results = t.results;
        done = t.done;
      }
  shapes ds reply r f b p (gathers b' u l o m k) =
      record {
        fifo = t.fifo;
        command = told_room call c _ u t.command;
        results = k t.results;
        done = omega arith;
      }
  shapes ds reply r f b p (says h free reply' results left l m k) =
      record { fifo = t.fifo; command = refl; results = k t.results; done = omega arith }
  shapes ds reply r f b p (idles h free reply') =
      record { fifo = t.fifo; command = refl; results = refl; done = omega arith }
  shapes ds reply r f b p (specifies command u h second) =
      record { fifo = t.fifo; command = refl; results = refl; done = omega arith }
  shapes ds reply r f b p (configures command u h byte track) =
      record { fifo = refl; command = refl; results = refl; done = omega arith }
  shapes ds reply r f b p (senses command u h unit) =
      record { fifo = t.fifo; command = refl; results = refl; done = omega arith }
  shapes ds reply r f b p (starts command u h order o) =
      record {
        fifo = t.fifo;
        command = refl;
        results = refl;
        done = job_done order.drive order.side order.job;
      }
  shapes ds reply r f b p (acts x y q h s a) =
      let k = acts_fine x y c s a in settled s s.then (k.room.sixteen t.fifo) k.done

pub typed_after : (call : Call) (c : Controller) → Typed c → Typed (after call c)
typed_after call c t =
    let u = rule_of call c in
    let s = shapes call c t _ _ _ _ _ _ u.rest in
    record {
      drives =
          fit_of _
          (record {
            long = u.long t.drives.long;
            each = λ k l. brief_rule call c _ k _ (u.drives k l) ((brief_of c.drives t.drives).each k l);
          });
      fifo = s.fifo;
      command = s.command;
      results = s.results;
      done = s.done;
    }

pub typed_fresh : (head0 head1 : ℕ) → Typed (fresh_of head0 head1)
unfolding fresh_of
typed_fresh head0 head1 =
    record {
      drives = fit_four _ _ _ _ (omega arith) (omega arith) (omega arith) (omega arith);
      fifo = refl;
      command = refl;
      results = refl;
      done = omega arith;
    }

pub typed_power_on : (head0 head1 : ℕ) → Typed (power_on head0 head1).controller
unfolding answer_to
typed_power_on head0 head1 = typed_after (powers head0 head1) (fresh_of 0 0) (typed_fresh 0 0)

pub typed_run : (calls : List Call) (c : Controller) → Typed c → Typed (run_calls calls c)
unfolding run_calls
typed_run [] c t = t
typed_run (call ∷ calls) c t = typed_run calls (after call c) (typed_after call c t)

-- 01 Refusals 4: a tick damages no record
pub valid_ticked : (a b : List ℕ) (c : Controller) → valid_of c ≡ true → valid_of (tick_of a b c).controller ≡ true
unfolding answer_to
valid_ticked a b c v = valid_kept (ticks a b) c v
