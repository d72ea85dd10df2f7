-- The results of the commands that move no data (01 Commands).
-- Assumes nothing.
use Prim.Native.Nat.{ℕ, zero, suc, ◌+◌, ◌/◌, ◌%◌, ◌<◌}
use native.Mathlib.Omega.{arith}
use mathlib.Core.Bool.{Bool, true, false, not, ◌&&◌, ◌||◌, cond, and-false, or-true}
use mathlib.Core.List.{List}
use mathlib.Core.Path.{◌≡◌, refl, ◌∙◌, ap}
use lib.Dec.{eqb, ltb}
use lib.ListN.{length}
use lib.Seq.{get_or-set_same}
use borrow.Author.Tests.{eq-eqb, ne_eqb}
use Rattle.image.proofs.TestLaws.{by_test}
use Rattle.chip.specs.declared.codes.Kind.{Kind}
use Rattle.chip.specs.declared.codes.Kind.TheVariants.{Unknown, SenseInterrupt, Version}
use Rattle.chip.specs.Commands.{kind_of, byte_count, entry_of}
use Rattle.chip.specs.Fifo.{emptied}
use Rattle.drive.specs.declared.Drive.{Drive}
use Rattle.drive.specs.Drive.{sensed_drive}
use Rattle.image.specs.Lent.{pick_of}
use Rattle.fdc.specs.declared.record.Controller.{Controller}
use Rattle.fdc.specs.declared.record.Phase.{Phase}
use Rattle.fdc.specs.declared.record.Phase.TheVariants.{Sensing}
use Rattle.fdc.specs.declared.ticks.Decision.{Decision}
use Rattle.fdc.specs.Answer.{answer_of}
use Rattle.fdc.specs.Calls.{port_of, write_reg, write_port}
use Rattle.fdc.specs.Commands.{answered_of, said_of, said_two, reporter_of, sensed_of, ran_of, run_of, gathered_of, goes_on}
use Rattle.fdc.specs.Commands.{begun_of}
use Rattle.fdc.specs.Data.{offered_of, write_fifo}
use Rattle.fdc.specs.Record.{no_bytes, drive_at, with_bytes, with_drive, with_drives}
use Rattle.fdc.specs.Registers.{held_in, any_busy, dma_in, report_at, phase_status, msr_of}
use Rattle.reached.specs.Runs.{writes, ticks, answer_to, after}
use Rattle.fdc.specs.Ticks.{seen_of, protected_in, stepped_of, st3_of, sensed_at, still_of, decide_in, decide_of, ruled_of}
use Rattle.reached.specs.Good.{Good}
use Rattle.reached.proofs.GoodLaws.{good_reached}
use Rattle.answers.specs.CommandResults.{Said, Waits, report_of, CommandResults}
use Rattle.demands.specs.Work.{Real}
use Rattle.answers.proofs.Answers.{real_reached}
use Rattle.demands.proofs.CallLaws.{after_tick}
use Rattle.demands.proofs.QuietLaws.{quiet_real}
use Rattle.answers.proofs.RefusalLaws.{below, busy_le}
use Rattle.answers.proofs.RegisterLaws.{real_valid, free_msr}

-- the record without its command bytes
abbrev cleared : Controller → Controller
cleared c = with_bytes no_bytes c

module _ (c : Controller) (w : Waits c) where
  good : Good c
  good = good_reached c (real_reached c w.real)

  -- MSR shows 80 and the busy drives, so a byte may be written
  in_turn_lem : msr_of c / 64 ≡ 2
  in_turn_lem =
      let m = free_msr c w.free in
      let s : phase_status c.phase (dma_in c.registers.spec2) c.fifo.asks
      ≡ 0x80 = ap (λ (p : Phase). phase_status p (dma_in c.registers.spec2) c.fifo.asks) w.idle in
      omega (arith, busy_le c.drives)

  after_code : (code : ℕ) → after (writes 5 code) c ≡ begun_of code c
  unfolding answer_to write_port port_of write_reg write_fifo answer_of offered_of
  after_code code =
      rw (real_valid c w.real, after) (rw (eq-eqb (msr_of c / 64) 2 in_turn_lem, w.idle))

  pub none_held : c.fifo ≡ emptied
  none_held = (rw w.idle at good.phase).1

  -- a command of one byte is complete at once
  begun_one : (code : ℕ) (kind : Kind) → kind_of code ≡ kind → byte_count kind ≡ 1
      → begun_of code c ≡ run_of kind (gathered_of code (cleared c))
  unfolding begun_of goes_on entry_of gathered_of with_bytes
  begun_one code kind e b =
      rw (e, b)

  same_drives : (code : ℕ) → (gathered_of code (cleared c)).drives ≡ c.drives
  unfolding gathered_of with_bytes
  same_drives code = refl

said_one : (byte : ℕ) (e : Controller) → Said (said_of byte e) byte 0 1
unfolding said_of answered_of
said_one byte e = record { waits = refl; count = refl; bytes = refl }

said_two_lem : (first second : ℕ) (e : Controller) → Said (said_two first second e) first second 2
unfolding said_two answered_of
said_two_lem first second e = record { waits = refl; count = refl; bytes = refl }

two_drives : (first second : ℕ) (e : Controller) → (said_two first second e).drives ≡ e.drives
unfolding said_two answered_of
two_drives first second e = refl

pub none_busy : (drives : List Drive) → ((k : ℕ) → k < 4 → (drive_at k drives).busy ≡ false) → any_busy drives ≡ false
unfolding any_busy
none_busy drives n = simp (n 0 (omega arith), n 1 (omega arith), n 2 (omega arith), n 3 (omega arith))

pub one_busy : (drives : List Drive) (k : ℕ) → k < 4 → (drive_at k drives).busy ≡ true → any_busy drives ≡ true
unfolding any_busy
one_busy drives k h =
    below k (λ (j : ℕ). (drive_at j drives).busy ≡ true
    → ((drive_at 0 drives).busy || (drive_at 1 drives).busy || (drive_at 2 drives).busy || (drive_at 3 drives).busy) ≡ true) h
    (λ e. rw e) (λ e. simp (e, or-true)) (λ e. simp (e, or-true)) (λ e. simp (e, or-true))

-- what runs
run_unknown : (e : Controller) → run_of Unknown e ≡ said_of 0x80 e
unfolding run_of ran_of
run_unknown e =
    by_test (any_busy e.drives && true) (λ (x : Controller). x ≡ said_of 0x80 e) _ _ (λ _. refl) (λ _. refl)

run_version : (e : Controller) → any_busy e.drives ≡ false → run_of Version e ≡ said_of 0x90 e
unfolding run_of ran_of
run_version e b = rw b

run_busy : (e : Controller) → any_busy e.drives ≡ true → run_of Version e ≡ said_of 0x80 e
unfolding run_of ran_of
run_busy e b = rw b

pub run_sense : (e : Controller) → run_of SenseInterrupt e ≡ sensed_of e
unfolding run_of ran_of
run_sense e = simp and-false

-- the lowest drive with a report
no_report : (drives : List Drive) (k : ℕ) → (drive_at k drives).report ≡ 0 → report_at k drives ≡ false
no_report drives k e = ap not (eq-eqb (drive_at k drives).report 0 e)

a_report : (drives : List Drive) (k : ℕ) → ((drive_at k drives).report ≡ 0 → ⊥) → report_at k drives ≡ true
a_report drives k n = ap not (ne_eqb (drive_at k drives).report 0 n)

pub lowest_is : (drives : List Drive) (k : ℕ) → k < 4 → ((drive_at k drives).report ≡ 0 → ⊥)
    → ((j : ℕ) → j < k → (drive_at j drives).report ≡ 0) → reporter_of drives ≡ k
unfolding reporter_of
lowest_is drives zero h n f = rw (a_report drives 0 n)
lowest_is drives (suc zero) h n f = rw (no_report drives 0 (f 0 (omega arith)), a_report drives 1 n)
lowest_is drives (suc (suc zero)) h n f =
    rw (no_report drives 0 (f 0 (omega arith)), no_report drives 1 (f 1 (omega arith)), a_report drives 2 n)
lowest_is drives (suc (suc (suc zero))) h n f =
    rw (
      no_report drives 0 (f 0 (omega arith)),
      no_report drives 1 (f 1 (omega arith)),
      no_report drives 2 (f 2 (omega arith)),
      a_report drives 3 n,
    )
lowest_is drives (suc (suc (suc (suc k)))) h n f = absurd (omega arith)

pub none_is : (drives : List Drive) → ((j : ℕ) → j < 4 → (drive_at j drives).report ≡ 0) → reporter_of drives ≡ 4
unfolding reporter_of
none_is drives f =
    rw (
      no_report drives 0 (f 0 (omega arith)),
      no_report drives 1 (f 1 (omega arith)),
      no_report drives 2 (f 2 (omega arith)),
      no_report drives 3 (f 3 (omega arith)),
    )

pub sense_none : (e : Controller) → reporter_of e.drives ≡ 4 → sensed_of e ≡ said_of 0x80 e
unfolding sensed_of
sense_none e q = rw q

pub sense_at : (e : Controller) (k : ℕ) → k < 4 → reporter_of e.drives ≡ k
    → sensed_of e
    ≡ said_two (drive_at k e.drives).report (drive_at k e.drives).pcn
    (with_drive k (sensed_drive (drive_at k e.drives)) e)
unfolding sensed_of
sense_at e k h q =
    let m : k % 4 ≡ k = omega arith in
    rw (q, ne_eqb k 4 (λ z. omega arith), m)

with_drive_lem : (e : Controller) (k : ℕ) (d : Drive) → k < length e.drives → drive_at k (with_drive k d e).drives ≡ d
unfolding with_drive with_drives
with_drive_lem e k d h = get_or-set_same e.drives k d _ h

module _ (c : Controller) (k : ℕ) (w : Waits c) (low : k < 4) (n : report_of k c ≡ 0 → ⊥)
    (f : (j : ℕ) → j < k → report_of j c ≡ 0) where
  senses : after (writes 5 0x08) c
      ≡ said_two (drive_at k c.drives).report (drive_at k c.drives).pcn
      (with_drive k (sensed_drive (drive_at k c.drives)) (gathered_of 0x08 (cleared c)))
  unfolding gathered_of with_bytes kind_of
  senses =
      after_code c w 0x08 ∙ begun_one c w 0x08 SenseInterrupt refl refl ∙ run_sense (gathered_of 0x08 (cleared c))
      ∙ sense_at (gathered_of 0x08 (cleared c)) k low (lowest_is c.drives k low n f)

  senses_drive : drive_at k (after (writes 5 0x08) c).drives ≡ sensed_drive (drive_at k c.drives)
  unfolding gathered_of with_bytes
  senses_drive =
      ap (λ (x : Controller). drive_at k x.drives) senses
      ∙ ap (λ (l : List Drive). drive_at k l) (two_drives _ _ (with_drive k (sensed_drive (drive_at k c.drives))
      (gathered_of 0x08 (cleared c))))
      ∙ with_drive_lem (gathered_of 0x08 (cleared c)) k (sensed_drive (drive_at k c.drives))
      (omega (arith, (good c w).drives.long))

-- Sense Drive
module _ (c : Controller) (unit : ℕ) (a b : List ℕ) (r : Real c) (e : c.phase ≡ Sensing unit) where
  not_held : held_in c.registers.dor ≡ false
  not_held = go (held_in c.registers.dor) refl
    where
      go : (t : Bool) → held_in c.registers.dor ≡ t → t ≡ false
      go false t = refl
      go true t =
          let i = (quiet_real c r).held t in
          let z : ◌≡◌ {A = ℕ} 0 1 = cc in
          absurd (omega arith)

  senses_unit : after (ticks a b) c ≡ sensed_at unit (pick_of (unit % 4) a b) (stepped_of a b c)
  unfolding ruled_of decide_of decide_in still_of
  senses_unit =
      after_tick a b c ∙ ap (λ (x : Decision). x.controller) decides
    where
      decides : ruled_of a b c ≡ still_of (sensed_at unit (pick_of (unit % 4) a b) (stepped_of a b c))
      decides = rw (real_valid c r, not_held, e)

  st3_said : Said (after (ticks a b) c)
      (0x28 + cond (protected_in (seen_of c.registers.dor (unit % 4) (pick_of (unit % 4) a b))) 0x40 0
      + cond (ltb (unit % 4) 2 && eqb (drive_at (unit % 4) (after (ticks a b) c).drives).head 0) 0x10 0 + unit % 8)
      0 1
  unfolding sensed_at st3_of said_of answered_of stepped_of with_drives
  st3_said = rw senses_unit (record { waits = refl; count = refl; bytes = refl })

pub command_results : CommandResults
unfolding kind_of
command_results = record {
  unknown = λ c code w e.
      rw (after_code c w code, begun_one c w code Unknown e refl, run_unknown (gathered_of code (cleared c)))
      (said_one 0x80 _);
  version = λ c w n.
      rw (
        after_code c w 0x10,
        begun_one c w 0x10 Version refl refl,
        run_version (gathered_of 0x10 (cleared c)) (ap any_busy (same_drives c w 0x10) ∙ none_busy c.drives n),
      ) (said_one 0x90 _);
  busy = λ c k w h b.
      rw (
        after_code c w 0x10,
        begun_one c w 0x10 Version refl refl,
        run_busy (gathered_of 0x10 (cleared c)) (ap any_busy (same_drives c w 0x10) ∙ one_busy c.drives k h b),
      ) (said_one 0x80 _);
  sensed = λ c k w h n f. rw (senses c k w h n f) (said_two_lem _ _ _);
  taken = λ c k w h n f.
      let d = senses_drive c k w h n f in
      (ap (λ (d : Drive). d.report) d, ap (λ (d : Drive). d.busy) d);
  none = λ c w f.
      rw (
        after_code c w 0x08,
        begun_one c w 0x08 SenseInterrupt refl refl,
        run_sense (gathered_of 0x08 (cleared c)),
        sense_none (gathered_of 0x08 (cleared c)) (ap reporter_of (same_drives c w 0x08) ∙ none_is c.drives f),
      ) (said_one 0x80 _);
  st3 = st3_said;
}
