-- Sense Interrupt until it answers 80 (02 2026-01; 01 Commands Sense Interrupt): the reports go one by one, the lowest
-- drive's first, and nothing else is changed.
-- Assumes nothing.
use Prim.Native.Nat.{ℕ, zero, suc, ◌+◌, ◌/◌, ◌%◌, ◌<◌, ◌≤◌}
use native.Mathlib.Omega.{arith}
use mathlib.Core.Bool.{true, false}
use mathlib.Core.List.{List, [], ◌∷◌}
use mathlib.Core.Logic.{◌⊎◌, inl, inr}
use mathlib.Core.Path.{◌≡◌, refl, sym, ap, ◌∙◌}
use lib.ListN.{length, get_or, set}
use lib.Seq.{get_or-set_same, get_or-set_other}
use borrow.Author.Tests.{ne_eqb, eqb-false}
use Rattle.image.proofs.TestLaws.{le_or_lt}
use Rattle.chip.specs.declared.codes.Kind.TheVariants.{SenseInterrupt}
use Rattle.chip.specs.Commands.{kind_of}
use Rattle.drive.specs.declared.Drive.{Drive}
use Rattle.drive.specs.Drive.{sensed_drive}
use Rattle.fdc.specs.declared.record.Bytes.{Bytes}
use Rattle.fdc.specs.declared.record.Controller.{Controller}
use Rattle.fdc.specs.declared.record.Phase.TheVariants.{Idle, Answering}
use Rattle.fdc.specs.declared.record.Registers.{Registers}
use Rattle.fdc.specs.Answer.{value_of}
use Rattle.fdc.specs.Commands.{answered_of, said_of, said_two, sensed_of}
use Rattle.fdc.specs.Record.{no_bytes, drive_at, with_drive, with_drives}
use Rattle.fdc.specs.Registers.{held_in}
use Rattle.reached.specs.Runs.{Call, reads, writes, answer_to, after, run_calls}
use Rattle.reached.proofs.GoodLaws.{good_valid}
use Rattle.demands.specs.Quiet.{Quiet}
use Rattle.demands.specs.Work.{AllOfBytes, at_work}
use Rattle.demands.proofs.QuietLaws.{quiet_run}
use Rattle.answers.specs.Accepts.{Ready}
use Rattle.answers.specs.CommandResults.{NoneBusy}
use Rattle.answers.specs.ReadsOut.{Waiting, after_reads, TakenOut}
use Rattle.answers.proofs.AcceptLaws.{whole, completes}
use Rattle.answers.proofs.CommandLaws.{run_sense, lowest_is, none_is, sense_none, sense_at}
use Rattle.answers.proofs.ReadsOutLaws.{reads_out}
use Rattle.answers.proofs.RefusalLaws.{valid_no_fault}
use Rattle.answers.proofs.ResetTableLaws.{Alike}
use Rattle.block.specs.Ready.{first_sensed, sense_of, Waited, clear_of}
use Rattle.block_demands.proofs.LedLaws.{Does, does_join, does_quiet, AllAtFifo, fifo_does}

-- it waits for a command, with no byte of one, and is not held in reset
pub record Rested (c : Controller) : Type 0 where
  pub quiet : Quiet c
  pub idle : c.phase ≡ Idle
  pub bytes : c.bytes ≡ no_bytes
  pub free : held_in c.registers.dor ≡ false

pub rested_ready : (c : Controller) → Rested c → Ready c
rested_ready c r = record {
  undamaged = valid_no_fault c (good_valid c r.quiet.good);
  free = omega (arith, eqb-false (c.registers.dor / 4 % 2) 0 r.free);
  idle = r.idle;
  room = ap (λ (b : Bytes). length b.command) r.bytes;
  four = r.quiet.good.drives.long;
}

-- one byte, or two
module _ (c : Controller) where
  first_value : value_of (first_sensed c).reply ≡ value_of (answer_to (reads 5) (after (writes 5 0x08) c)).reply
  unfolding answer_to
  first_value = refl

  one_byte : value_of (first_sensed c).reply ≡ 0x80
      → ((sense_of c).st0 ≡ 0x80) × ((sense_of c).controller ≡ run_calls (writes 5 0x08 ∷ reads 5 ∷ []) c)
  unfolding sense_of run_calls answer_to
  one_byte e = rw (e, sense_of) (refl, refl)

  two_bytes : (first : ℕ) → (first ≡ 0x80 → ⊥) → value_of (first_sensed c).reply ≡ first
      → ((sense_of c).st0 ≡ first)
      × ((sense_of c).controller ≡ run_calls (writes 5 0x08 ∷ reads 5 ∷ reads 5 ∷ []) c)
  unfolding sense_of run_calls answer_to
  two_bytes first n e = rw (e, ne_eqb first 0x80 n, sense_of) (refl, refl)

-- what Sense Interrupt leaves, of the drives in hand
record Answers (c e : Controller) (drives : List Drive) (first left : ℕ) : Type 0 where
  waits : e.phase ≡ Answering false
  count : e.bytes.left ≡ left
  byte : get_or e.bytes.results 0 0 ≡ first
  registers : e.registers ≡ c.registers
  drives_are : e.drives ≡ drives

-- and what is left when its bytes are taken
record Taken (c e : Controller) (drives : List Drive) : Type 0 where
  idle : e.phase ≡ Idle
  bytes : e.bytes ≡ no_bytes
  registers : e.registers ≡ c.registers
  drives_are : e.drives ≡ drives

pub record Sensing (c e : Controller) (drives : List Drive) : Type 0 where
  pub does : Does c e
  pub rested : Rested e
  pub registers : e.registers ≡ c.registers
  pub drives_are : e.drives ≡ drives

module _ (c : Controller) (r : Rested c) where
  abbrev sent : Controller
  sent = whole c (rested_ready c r) (0x08 ∷ [])

  runs : after (writes 5 0x08) c ≡ sensed_of sent
  unfolding run_calls kind_of
  runs = completes c (rested_ready c r) 0x08 [] SenseInterrupt refl refl ∙ run_sense sent

  answers_none : ((k : ℕ) → k < 4 → (drive_at k c.drives).report ≡ 0)
      → Answers c (after (writes 5 0x08) c) c.drives 0x80 1
  unfolding said_of answered_of
  answers_none f =
      rw (runs ∙ sense_none sent (none_is c.drives f))
      (record { waits = refl; count = refl; byte = refl; registers = refl; drives_are = refl })

  answers_at : (k : ℕ) → k < 4 → ((drive_at k c.drives).report ≡ 0 → ⊥)
      → ((j : ℕ) → j < k → (drive_at j c.drives).report ≡ 0)
      → Answers c (after (writes 5 0x08) c) (set c.drives k (sensed_drive (drive_at k c.drives)))
      (drive_at k c.drives).report 2
  unfolding said_two answered_of with_drive with_drives
  answers_at k low n f =
      rw (runs ∙ sense_at sent k low (lowest_is c.drives k low n f))
      (record { waits = refl; count = refl; byte = refl; registers = refl; drives_are = refl })

  -- its bytes taken
  module _ (drives : List Drive) (first left : ℕ) (some : 0 < left)
      (a : Answers c (after (writes 5 0x08) c) drives first left) where
    sent_quiet : Quiet (after (writes 5 0x08) c)
    unfolding run_calls
    sent_quiet = quiet_run (writes 5 0x08 ∷ []) c ((omega arith, omega arith), tt) r.quiet

    sent_waits : Waiting (after (writes 5 0x08) c) false left
    sent_waits = record {
      undamaged = valid_no_fault _ (good_valid _ sent_quiet.good);
      free =
          ap (λ (x : Registers). x.dor / 4 % 2) a.registers
          ∙ omega (arith, eqb-false (c.registers.dor / 4 % 2) 0 r.free);
      answers = a.waits;
      left = a.count;
    }

    out : TakenOut (after (writes 5 0x08) c) left
    out = reads_out.any _ false left some sent_waits

    first_is : value_of (first_sensed c).reply ≡ first
    unfolding run_calls
    first_is =
        first_value c ∙ ap value_of (out.byte 0 some) ∙ a.byte

    taken : Taken c (after_reads left (after (writes 5 0x08) c)) drives
    taken = record {
      idle = out.idle.0;
      bytes = out.idle.1;
      registers = (out.else left (omega arith)).registers ∙ a.registers;
      drives_are = (out.else left (omega arith)).drives ∙ a.drives_are;
    }

  rested_after : (calls : List Call) (e : Controller) (drives : List Drive) → AllOfBytes calls → AllAtFifo calls
      → e ≡ run_calls calls c → Taken c e drives → Sensing c e drives
  rested_after calls e drives b f l t =
      let d : Does c e = fifo_does calls c e b f (sym l) (ap at_work t.idle) in
      record {
        does = d;
        rested = record {
          quiet = does_quiet d r.quiet;
          idle = t.idle;
          bytes = t.bytes;
          free = ap (λ (x : Registers). held_in x.dor) t.registers ∙ r.free;
        };
        registers = t.registers;
        drives_are = t.drives_are;
      }

  -- 01 Commands Sense Interrupt: with no report it answers 80 alone
  pub senses_none : ((k : ℕ) → k < 4 → (drive_at k c.drives).report ≡ 0)
      → ((sense_of c).st0 ≡ 0x80) × Sensing c (sense_of c).controller c.drives
  unfolding run_calls
  senses_none f =
      let a = answers_none f in
      let (st0, leads) = one_byte c (first_is _ _ 1 (omega arith) a) in (
        st0,
        rested_after (writes 5 0x08 ∷ reads 5 ∷ []) _ _ ((omega arith, omega arith), (omega arith, tt))
            (refl, (refl, tt)) leads (rw leads (taken _ _ 1 (omega arith) a)),
      )

  -- else the report of the lowest drive, whose busy bit goes with it
  pub senses_at : (k : ℕ) → k < 4 → ((drive_at k c.drives).report ≡ 0 → ⊥)
      → ((drive_at k c.drives).report ≡ 0x80 → ⊥)
      → ((j : ℕ) → j < k → (drive_at j c.drives).report ≡ 0)
      → ((sense_of c).st0 ≡ (drive_at k c.drives).report)
      × Sensing c (sense_of c).controller (set c.drives k (sensed_drive (drive_at k c.drives)))
  unfolding run_calls
  senses_at k low n m f =
      let a = answers_at k low n f in
      let (st0, leads) = two_bytes c _ m (first_is _ _ 2 (omega arith) a) in (
        st0,
        rested_after (writes 5 0x08 ∷ reads 5 ∷ reads 5 ∷ []) _ _
            ((omega arith, omega arith), (omega arith, (omega arith, tt))) (refl, (refl, (refl, tt)))
            leads (rw leads (taken _ _ 2 (omega arith) a)),
      )

abbrev report : ℕ → Controller → ℕ
report k c = (drive_at k c.drives).report

-- the reports are gone, and nothing else of the drives
pub record Cleared (c : Controller) (w : Waited) : Type 0 where
  pub came : w.came ≡ true
  pub does : Does c w.controller
  pub rested : Rested w.controller
  pub registers : w.controller.registers ≡ c.registers
  pub reports : (k : ℕ) → k < 4 → report k w.controller ≡ 0
  pub alike : (k : ℕ) → k < 4 → Alike (drive_at k c.drives) (drive_at k w.controller.drives)

alike_of : (d e : Drive) → e ≡ d → Alike d e
alike_of d e q =
    rw q (record { head = refl; pcn = refl; changed = refl; busy = refl; motion = refl })

alike_join : (d e f : Drive) → Alike d e → Alike e f → Alike d f
alike_join d e f p q = record {
  head = q.head ∙ p.head;
  pcn = q.pcn ∙ p.pcn;
  changed = q.changed ∙ p.changed;
  busy = q.busy ∙ p.busy;
  motion = q.motion ∙ p.motion;
}

alike_sensed : (d : Drive) → d.busy ≡ false → Alike d (sensed_drive d)
alike_sensed d b = record { head = refl; pcn = refl; changed = refl; busy = sym b; motion = refl }

clear_now : (m : ℕ) (c : Controller) → (sense_of c).st0 ≡ 0x80
    → clear_of (suc m) c ≡ record { came = true; controller = (sense_of c).controller }
unfolding clear_of
clear_now m c e = rw e

clear_on_lem : (m : ℕ) (c : Controller) (first : ℕ) → (sense_of c).st0 ≡ first → (first ≡ 0x80 → ⊥)
    → clear_of (suc m) c ≡ clear_of m (sense_of c).controller
unfolding clear_of
clear_on_lem m c first e n = rw (e, ne_eqb first 0x80 n)

-- one number and each other
pub each_other : (k : ℕ) (P : ℕ → Type 0) → P k → ((j : ℕ) → (j ≡ k → ⊥) → P j) → (j : ℕ) → P j
each_other k P p f j = go (le_or_lt j k) (le_or_lt k j)
  where
    go : (j ≤ k) ⊎ (k < j) → (k ≤ j) ⊎ (j < k) → P j
    go (inl a) (inl b) = let q : j ≡ k = omega arith in rw q p
    go (inl a) (inr b) = f j (λ q. omega arith)
    go (inr a) b = f j (λ q. omega arith)

-- the drives that a report was taken from
module _ (c : Controller) (r : Rested c) (k : ℕ) (low : k < 4) (e : Controller)
    (is : e.drives ≡ set c.drives k (sensed_drive (drive_at k c.drives))) where
  pub same_drive : drive_at k e.drives ≡ sensed_drive (drive_at k c.drives)
  same_drive =
      ap (drive_at k) is ∙ get_or-set_same c.drives k _ _ (omega (arith, r.quiet.good.drives.long))

  pub other_drive : (j : ℕ) → (j ≡ k → ⊥) → drive_at j e.drives ≡ drive_at j c.drives
  other_drive j n = ap (drive_at j) is ∙ get_or-set_other c.drives k j _ _ n

  all_alike : (drive_at k c.drives).busy ≡ false → (j : ℕ) → Alike (drive_at j c.drives) (drive_at j e.drives)
  all_alike b =
      each_other k (λ (j : ℕ). Alike (drive_at j c.drives) (drive_at j e.drives))
      (rw same_drive (alike_sensed _ b)) (λ j n. alike_of _ _ (other_drive j n))

-- the drives below j have no report, and those from j on that of a reset
pub record Pends (j : ℕ) (c : Controller) : Type 0 where
  pub rested : Rested c
  pub none : NoneBusy c
  pub below : (i : ℕ) → i < j → report i c ≡ 0
  pub above : (i : ℕ) → j ≤ i → i < 4 → report i c ≡ 0xC0 + i

clear_none : (m : ℕ) (c : Controller) → Pends 4 c → Cleared c (clear_of (suc m) c)
clear_none m c p =
    let (st0, t) = senses_none c p.rested p.below in
    rw (clear_now m c st0) (record {
      came = refl;
      does = t.does;
      rested = t.rested;
      registers = t.registers;
      reports = λ k h. ap (λ (x : List Drive). (drive_at k x).report) t.drives_are ∙ p.below k h;
      alike = λ k h. alike_of _ _ (ap (drive_at k) t.drives_are);
    })

module _ (j : ℕ) (c : Controller) (low : j < 4) (p : Pends j c) where
  here : report j c ≡ 0xC0 + j
  here = p.above j (omega arith) low

  senses_here : ((sense_of c).st0 ≡ report j c)
      × Sensing c (sense_of c).controller (set c.drives j (sensed_drive (drive_at j c.drives)))
  senses_here = senses_at c p.rested j low (λ q. omega (arith, here)) (λ q. omega (arith, here)) p.below

  next_alike : (i : ℕ) → Alike (drive_at i c.drives) (drive_at i (sense_of c).controller.drives)
  next_alike = all_alike c p.rested j low (sense_of c).controller senses_here.1.drives_are (p.none j low)

  next_report : (i : ℕ) → (i ≡ j → ⊥) → report i (sense_of c).controller ≡ report i c
  next_report i n =
      ap (λ (d : Drive). d.report)
      (other_drive c p.rested j low (sense_of c).controller senses_here.1.drives_are i n)

  next_none : report j (sense_of c).controller ≡ 0
  next_none =
      ap (λ (d : Drive). d.report)
      (same_drive c p.rested j low (sense_of c).controller senses_here.1.drives_are)

  next_below : (i : ℕ) → i < j + 1 → report i (sense_of c).controller ≡ 0
  next_below i h = go (le_or_lt j i)
    where
      go : (j ≤ i) ⊎ (i < j) → report i (sense_of c).controller ≡ 0
      go (inl a) = let q : i ≡ j = omega arith in rw q next_none
      go (inr a) = next_report i (λ q. omega arith) ∙ p.below i a

  next_pends : Pends (j + 1) (sense_of c).controller
  next_pends = record {
    rested = senses_here.1.rested;
    none = λ k h. (next_alike k).busy ∙ p.none k h;
    below = next_below;
    above = λ i a b. next_report i (λ q. omega arith) ∙ p.above i (omega arith) b;
  }

  clear_more : (m : ℕ) → Cleared (sense_of c).controller (clear_of m (sense_of c).controller)
      → Cleared c (clear_of (suc m) c)
  clear_more m w =
      rw (clear_on_lem m c _ senses_here.0 (λ q. omega (arith, here))) (record {
        came = w.came;
        does = does_join senses_here.1.does w.does;
        rested = w.rested;
        registers = w.registers ∙ senses_here.1.registers;
        reports = w.reports;
        alike = λ k h. alike_join _ _ _ (next_alike k) (w.alike k h);
      })

-- at most four reports, and then 80 comes
pub clears : (n m j : ℕ) (c : Controller) → n + j ≡ 4 → n ≤ m → Pends j c → Cleared c (clear_of (suc m) c)
clears zero m j c s l p = let q : j ≡ 4 = omega arith in clear_none m c (rw q at p)
clears (suc n) zero j c s l p = absurd (omega arith)
clears (suc n) (suc m) j c s l p =
    clear_more j c (omega arith) p (suc m)
    (clears n m (j + 1) (sense_of c).controller (omega arith) (omega arith) (next_pends j c (omega arith) p))
