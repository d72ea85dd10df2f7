-- What every record reached from power-on keeps to (01 Refusals 4, "No record reached from power-on by calls earns 4").
-- Assumes nothing.
use Prim.Native.Nat.{ℕ, ◌/◌, ◌≤◌}
use native.Mathlib.Omega.{arith}
use mathlib.Core.Bool.{true, false, true≢false}
use mathlib.Core.List.{List, [], ◌∷◌}
use mathlib.Core.Path.{◌≡◌, refl}
use Rattle.chip.specs.declared.codes.Entry.{Entry}
use Rattle.chip.specs.declared.fifo.Fifo.{Fifo}
use Rattle.chip.specs.Fifo.{emptied, FitsFifo}
use Rattle.chip.proofs.CodeLaws.{entry_bytes_range}
use Rattle.chip.proofs.FifoLaws.{fits_emptied, fits_taken, fits_given}
use Rattle.chip.proofs.StepLaws.{step_most}
use Rattle.drive.specs.declared.Drive.{Drive}
use Rattle.drive.specs.Drive.{fresh_drive}
use Rattle.drive.specs.Due.{Within}
use Rattle.drive.proofs.DriveLaws.{within_fresh, within_reset, within_reported, within_sensed, within_noted, within_tick}
use Rattle.sectors.specs.declared.work.Step.{Step}
use Rattle.sectors.specs.declared.work.Then.{Then}
use Rattle.sectors.specs.declared.work.Then.TheVariants.{Ends, Works}
use Rattle.sectors.specs.declared.work.Work.{Work}
use Rattle.engine.specs.Kept.{then_wait, then_fifo}
use Rattle.fdc.specs.declared.answer.Reply.{Reply}
use Rattle.fdc.specs.declared.record.Bytes.{Bytes}
use Rattle.fdc.specs.declared.record.Controller.{Controller}
use Rattle.fdc.specs.declared.record.Phase.{Phase}
use Rattle.fdc.specs.declared.record.Phase.TheVariants.{Idle, Gathering, Starting, Working, Sensing, Answering}
use Rattle.fdc.specs.declared.record.Registers.{Registers}
use Rattle.fdc.specs.Calls.{power_on}
use Rattle.fdc.specs.Record.{result_room, fresh_of, drive_at, phase_wait, valid_of}
use Rattle.fdc.proofs.ValidLaws.{valid_true}
use Rattle.reached.specs.Good.{Four, Suits, Good}
use Rattle.reached.specs.Runs.{Call, powers, answer_to, after, run_calls, Reached}
use Rattle.reached.proofs.Rules.{engaged, DriveRule, kept, noted, powered, reset, restarted, released, sensed, set_off, ticked, Collects, first, further, Told, Acts, begins, goes_on_lem, bytes_then, phase_then, Rest, refuses, shows, steps, flags, sets, anew, took_byte, gave_byte, gathers, says, idles, specifies, configures, senses, starts, acts}
use Rattle.reached.proofs.RuleLaws.{each_of, collects_unengaged, acts_kept, rule_of}

pub four_of : (a b c d : Drive) → Within a → Within b → Within c → Within d → Four (a ∷ b ∷ c ∷ d ∷ [])
four_of a b c d wa wb wc wd = record { long = refl; each = each_of Within a b c d wa wb wc wd }

-- of any phase, at most nine command bytes and a wait of at most 64
gathered_le : (p : Phase) (n : ℕ) (f : Fifo) → Suits p n f → n ≤ 9
gathered_le Idle n f s = omega (arith, s.0)
gathered_le (Gathering entry) n f s = omega (arith, s.0, s.1)
gathered_le (Starting order) n f s = omega (arith, s.0)
gathered_le (Working work) n f s = omega (arith, s.0)
gathered_le (Sensing unit) n f s = omega (arith, s.0)
gathered_le (Answering loud) n f s = omega (arith, s.0)

wait_le : (p : Phase) (n : ℕ) (f : Fifo) → Suits p n f → phase_wait p ≤ 64
wait_le Idle n f s = omega arith
wait_le (Gathering entry) n f s = omega arith
wait_le (Starting order) n f s = omega arith
wait_le (Working work) n f s = s.1
wait_le (Sensing unit) n f s = omega arith
wait_le (Answering loud) n f s = omega arith

pub good_valid : (c : Controller) → Good c → valid_of c ≡ true
good_valid c g = valid_true c (record {
  fifo = g.fifo.within;
  gathered = gathered_le c.phase _ _ g.phase;
  left = g.left;
  head0 = (g.drives.each 0 (omega arith)).head;
  head1 = (g.drives.each 1 (omega arith)).head;
  head2 = (g.drives.each 2 (omega arith)).head;
  head3 = (g.drives.each 3 (omega arith)).head;
  fifothr = g.fifothr;
  wait = wait_le c.phase _ _ g.phase;
  count0 = (g.drives.each 0 (omega arith)).count;
  count1 = (g.drives.each 1 (omega arith)).count;
  count2 = (g.drives.each 2 (omega arith)).count;
  count3 = (g.drives.each 3 (omega arith)).count;
})

-- 01 Refusals 4: what a call makes of a drive within its bounds
pub within_rule : (call : Call) (c : Controller) (p : Phase) (k : ℕ) (e : Drive) → DriveRule call c p k e
    → Within (drive_at k c.drives) → Within e
within_rule call c p k e kept w = w
within_rule call c p k e noted w = within_noted _ w
within_rule call c p k e (powered head h x y q) w = within_fresh head h
within_rule call c p k e (reset r) w = within_reset _ w
within_rule call c p k e (restarted report r) w = within_reported _ (within_reset _ w) report
within_rule call c p k e (released report h) w = within_reported _ w report
within_rule call c p k e (sensed f n) w = within_sensed _ w
within_rule call c p k e (set_off f i b motion h) w = record { head = w.head; count = h }
within_rule call c p k e (ticked a b q f mounted) w =
    within_tick k mounted _ (step_most (c.registers.spec1 / 16)) _ w

-- of a record that is good, what its phase says: no command at work, so that the FIFO is empty; or one, so that no
-- command byte is kept
empty_of : (p : Phase) (n : ℕ) (f : Fifo) → engaged p ≡ false → Suits p n f → f ≡ emptied
empty_of Idle n f h s = s.1
empty_of (Gathering entry) n f h s = s.2
empty_of (Starting order) n f h s = absurd (true≢false h)
empty_of (Working work) n f h s = absurd (true≢false h)
empty_of (Sensing unit) n f h s = s.1
empty_of (Answering loud) n f h s = s.1

none_of : (a b : List ℕ) (c : Controller) (s : Step) → Acts a b c s → Good c → c.bytes.gathered ≡ 0
none_of a b c s (begins order head e) g = go c.phase e g.phase
  where
    go : (p : Phase) → p ≡ Starting order → Suits p c.bytes.gathered c.fifo → c.bytes.gathered ≡ 0
    go p q s = (rw q at s).0
none_of a b c s (goes_on_lem work head e) g = go c.phase e g.phase
  where
    go : (p : Phase) → p ≡ Working work → Suits p c.bytes.gathered c.fifo → c.bytes.gathered ≡ 0
    go p q s = (rw q at s).0

suits_fifo : (p : Phase) (work : Work) (n : ℕ) (f g : Fifo) → p ≡ Working work → Suits p n f → Suits p n g
suits_fifo p work n f g q s = rw q (rw q at s)

entry_le : (c : Controller) (byte : ℕ) (entry : Entry) → Collects c byte entry → Good c → entry.bytes ≤ 9
entry_le c byte entry (first e) g = (entry_bytes_range byte).1
entry_le c byte entry (further entry' e) g = go c.phase e g.phase
  where
    go : (p : Phase) → p ≡ Gathering entry → Suits p c.bytes.gathered c.fifo → entry.bytes ≤ 9
    go p q s = (rw q at s).1

-- what `Good` says of all but the drives
record Holds (r : Registers) (f : Fifo) (b : Bytes) (p : Phase) : Type 0 where
  fifo : FitsFifo r.efifo f
  fifothr : r.fifothr ≤ 15
  left : b.left ≤ result_room
  phase : Suits p b.gathered f

module _ (call : Call) (c : Controller) (g : Good c) where
  same : Holds c.registers c.fifo c.bytes c.phase
  same = record { fifo = g.fifo; fifothr = g.fifothr; left = g.left; phase = g.phase }

  empty : engaged c.phase ≡ false → c.fifo ≡ emptied
  empty h = empty_of c.phase c.bytes.gathered c.fifo h g.phase

  told_empty : (command : List ℕ) → Told call c command → c.fifo ≡ emptied
  told_empty command t = empty (collects_unengaged c t.byte t.entry t.by)

  settled : (s : Step) (then : Then) → c.bytes.gathered ≡ 0 → FitsFifo c.registers.efifo s.fifo
      → s.fifo ≡ then_fifo s.fifo then → then_wait then ≤ 63
      → Holds c.registers s.fifo (bytes_then then c.bytes) (phase_then then)
  settled s (Ends v) n f e w = record { fifo = f; fifothr = g.fifothr; left = omega arith; phase = (refl, e) }
  settled s (Works work) n f e w = record { fifo = f; fifothr = g.fifothr; left = g.left; phase = (n, omega arith) }

  holds : (drives : List Drive) (reply : Reply) (r : Registers) (f : Fifo) (b : Bytes) (p : Phase)
      → Rest call c drives reply r f b p → Holds r f b p
  holds ds reply r f b p (refuses refusal) = same
  holds ds reply r f b p (shows offset byte q o) = same
  holds ds reply r f b p (steps x y q) = same
  holds ds reply r f b p (flags drive q) = same
  holds ds reply r f b p (sets offset byte q o n s) = record {
    fifo = rw s.efifo g.fifo;
    fifothr = rw s.fifothr g.fifothr;
    left = g.left;
    phase = g.phase;
  }
  holds ds reply r f b p (anew x reply' n e t s m) = record {
    fifo = rw e (fits_emptied true);
    fifothr = omega (arith, t);
    left = omega arith;
    phase = (refl, refl);
  }
  holds ds reply r f b p (took_byte tc x work q h asks) = record {
    fifo = fits_taken c.registers.efifo tc c.fifo g.fifo;
    fifothr = g.fifothr;
    left = g.left;
    phase = suits_fifo c.phase work _ c.fifo _ q g.phase;
  }
  holds ds reply r f b p (gave_byte byte tc x work q h asks) = record {
    fifo = fits_given c.registers.efifo _ byte c.fifo g.fifo;
    fifothr = g.fifothr;
    left = g.left;
    phase = suits_fifo c.phase work _ c.fifo _ q g.phase;
  }
  holds ds reply r f b p (gathers b' t l o m k) = record {
    fifo = g.fifo;
    fifothr = g.fifothr;
    left = m g.left;
    phase = (l, entry_le c t.byte t.entry t.by g, told_empty _ t);
  }
  holds ds reply r f b p (says h free reply' results left l m k) = record {
    fifo = g.fifo;
    fifothr = g.fifothr;
    left = m g.left;
    phase = (refl, empty h);
  }
  holds ds reply r f b p (idles h free reply') = record {
    fifo = g.fifo;
    fifothr = g.fifothr;
    left = omega arith;
    phase = (refl, empty h);
  }
  holds ds reply r f b p (specifies command t h second) = record {
    fifo = g.fifo;
    fifothr = g.fifothr;
    left = omega arith;
    phase = (refl, told_empty command t);
  }
  holds ds reply r f b p (configures command t h byte track) = record {
    fifo = fits_emptied _;
    fifothr = omega arith;
    left = omega arith;
    phase = (refl, refl);
  }
  holds ds reply r f b p (senses command t h unit) = record {
    fifo = g.fifo;
    fifothr = g.fifothr;
    left = omega arith;
    phase = (refl, told_empty command t);
  }
  holds ds reply r f b p (starts command t h order o) = record {
    fifo = g.fifo;
    fifothr = g.fifothr;
    left = omega arith;
    phase = (refl, told_empty command t);
  }
  holds ds reply r f b p (acts x y q h s a) =
      let k = acts_kept x y c s a in
      settled s s.then (none_of x y c s a g) (k.2 g.fifo) k.1 k.0

pub good_after : (call : Call) (c : Controller) → Good c → Good (after call c)
good_after call c g =
    let u = rule_of call c in
    let h = holds call c g _ _ _ _ _ _ u.rest in
    record {
      drives = record {
        long = u.long g.drives.long;
        each = λ k l. within_rule call c _ k _ (u.drives k l) (g.drives.each k l);
      };
      fifo = h.fifo;
      fifothr = h.fifothr;
      left = h.left;
      phase = h.phase;
    }

good_fresh : Good (fresh_of 0 0)
unfolding fresh_of
good_fresh =
    let w : Within (fresh_drive 0) = within_fresh 0 (omega arith) in
    record {
      drives = four_of _ _ _ _ w w w w;
      fifo = fits_emptied true;
      fifothr = omega arith;
      left = omega arith;
      phase = (refl, refl);
    }

pub good_power_on : (head0 head1 : ℕ) → Good (power_on head0 head1).controller
unfolding answer_to
good_power_on head0 head1 = good_after (powers head0 head1) (fresh_of 0 0) good_fresh

pub good_run : (calls : List Call) (c : Controller) → Good c → Good (run_calls calls c)
unfolding run_calls
good_run [] c g = g
good_run (call ∷ calls) c g = good_run calls (after call c) (good_after call c g)

pub good_reached : (c : Controller) → Reached c → Good c
good_reached c r = rw (← r.run) (good_run r.calls _ (good_power_on r.head0 r.head1))

-- 01 Refusals: no record reached from power-on by calls earns 4
pub reached_never_4 : (c : Controller) → Reached c → valid_of c ≡ true
reached_never_4 c r = good_valid c (good_reached c r)
