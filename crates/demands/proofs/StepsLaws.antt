-- Demand 1 of Seek and Recalibrate (01 Stepping): from the call that completes the command, over every list of calls
-- that are no power-on and no reset, over at exactly n x T ticks. T is above 0, as a Specify byte is a byte.
-- Assumes nothing.
use Prim.Native.Nat.{ℕ, ◌+◌, ◌/◌, ◌%◌, ◌<◌}
use native.Mathlib.Omega.{arith}
use mathlib.Core.Bool.{Bool, true, false, not, ◌&&◌, false≢true}
use mathlib.Core.List.{List, [], ◌∷◌, ◌++◌}
use mathlib.Core.Path.{◌≡◌, refl, sym, ap, ◌∙◌, subst}
use lib.Dec.{eqb, ltb}
use lib.Seq.{get_or-set_same}
use borrow.Author.Tests.{eq-eqb, le-ltb}
use Rattle.image.proofs.TestLaws.{by_test, both}
use Rattle.chip.specs.declared.codes.Entry.{Entry}
use Rattle.chip.specs.declared.codes.Kind.{Kind}
use Rattle.chip.specs.declared.codes.Kind.TheVariants.{Seek, Recalibrate}
use Rattle.drive.specs.declared.Drive.{Drive}
use Rattle.drive.specs.Drive.{seek_of, recalibrate_of}
use Rattle.fdc.specs.declared.answer.Answer.{Answer}
use Rattle.fdc.specs.declared.answer.Reply.TheVariants.{Done}
use Rattle.fdc.specs.declared.record.Controller.{Controller}
use Rattle.fdc.specs.Answer.{answer_of}
use Rattle.fdc.specs.Calls.{port_of, write_reg, write_port, power_on}
use Rattle.fdc.specs.Commands.{heeds_of, idled_of, gathered_of, goes_on, step_time, run_of, ran_of, sought_of, recalibrated_of}
use Rattle.fdc.specs.Data.{offered_of, write_fifo}
use Rattle.fdc.specs.Record.{drive_at, with_bytes, with_drives, with_drive}
use Rattle.fdc.specs.Registers.{held_in, bit, busy_bits, any_busy, msr_of}
use Rattle.reached.specs.Runs.{Call, writes, answer_to, after, run_calls, Reached}
use Rattle.fdc.proofs.BeginLaws.{one_more_below}
use Rattle.reached.proofs.GoodLaws.{good_valid}
use Rattle.reached.proofs.SeekLaws.{seek_on_time, recalibrate_on_time}
use Rattle.demands.specs.EndsInTime.{Completes, byte_no, SeeksOnTime, RecalibratesOnTime}
use Rattle.demands.specs.Work.{Real}
use Rattle.demands.specs.Quiet.{Quiet}
use Rattle.demands.proofs.QuietLaws.{quiet_real, spec1_real}

run_more : (calls more : List Call) (c : Controller) → run_calls (calls ++ more) c ≡ run_calls more (run_calls calls c)
unfolding run_calls
run_more [] more c = refl
run_more (call ∷ calls) more c = run_more calls more (after call c)

-- a real record after one call more
reached_after : (call : Call) (c : Controller) → Real c → Reached (after call c)
unfolding run_calls
reached_after call c r = record {
  head0 = r.head0;
  head1 = r.head1;
  calls = r.calls ++ (call ∷ []);
  run = run_more r.calls (call ∷ []) (power_on r.head0 r.head1).controller ∙ ap (after call) r.run;
}

bit_below : (b : Bool) → bit b < 2
bit_below true = omega arith
bit_below false = omega arith

busy_below : (d : List Drive) → busy_bits d < 16
unfolding busy_bits
busy_below d = omega (
  arith,
  bit_below (drive_at 0 d).busy,
  bit_below (drive_at 1 d).busy,
  bit_below (drive_at 2 d).busy,
  bit_below (drive_at 3 d).busy,
)

-- 01 Commands (house): a busy bit keeps none of these back
run_heeds : (kind : Kind) (c : Controller) → heeds_of kind ≡ true → run_of kind c ≡ ran_of kind c
unfolding run_of
run_heeds kind c h =
    by_test (any_busy c.drives && not (heeds_of kind)) (λ (x : Controller). x ≡ ran_of kind c) _ _
    (λ t. absurd (false≢true (sym (ap not h) ∙ (both (any_busy c.drives) (not (heeds_of kind)) t).1)))
    (λ t. refl)

goes_run : (kind : Kind) (c : Controller) (entry : Entry) → ltb c.bytes.gathered entry.bytes ≡ false
    → entry.kind ≡ kind → heeds_of kind ≡ true → goes_on entry c ≡ ran_of kind c
unfolding goes_on
goes_run kind c entry l e h = rw (l, e) (run_heeds kind c h)

gathered_more : (byte : ℕ) (c : Controller) → c.bytes.gathered < 9
    → (gathered_of byte c).bytes.gathered ≡ c.bytes.gathered + 1
unfolding gathered_of with_bytes
gathered_more byte c h = one_more_below c.bytes.gathered h

module _ (kind : Kind) (byte : ℕ) (c : Controller) (done : Completes kind byte c) where
  quiet : Quiet c
  quiet = quiet_real c done.real

  -- command bytes are gathered, so it is not held in reset
  free : held_in c.registers.dor ≡ false
  free = go (held_in c.registers.dor) refl
    where
      go : (t : Bool) → held_in c.registers.dor ≡ t → held_in c.registers.dor ≡ false
      go true h =
          let p = quiet.held h in
          let g = done.gathers in
          let z : ◌≡◌ {A = ℕ} 0 1 = cc in
          absurd (omega arith)
      go false h = h

  -- 01 Registers MSR: 90, so the byte is taken
  taken : eqb (msr_of c / 64) 2 ≡ true
  unfolding msr_of
  taken = rw (free, done.gathers) (upper (busy_bits c.drives) (busy_below c.drives))
    where
      upper : (n : ℕ) → n < 16 → eqb ((0x90 + n) / 64) 2 ≡ true
      upper n h = eq-eqb ((0x90 + n) / 64) 2 (omega arith)

  written : write_port 5 byte c ≡ answer_of Done (goes_on done.entry (gathered_of byte c))
  unfolding write_port port_of write_reg write_fifo offered_of
  written = rw (good_valid c quiet.good, taken, done.gathers)

  ran_is : heeds_of kind ≡ true → after (writes 5 byte) c ≡ ran_of kind (gathered_of byte c)
  unfolding answer_to answer_of
  ran_is h =
      ap (λ (x : Answer). x.controller) written
      ∙ goes_run kind (gathered_of byte c) done.entry complete done.kind_is h
    where
      below : c.bytes.gathered < 9
      below = let s = rw done.gathers at quiet.good.phase in omega (arith, s.1, done.last)

      complete : ltb (gathered_of byte c).bytes.gathered done.entry.bytes ≡ false
      complete = le-ltb (gathered_of byte c).bytes.gathered done.entry.bytes
          (omega (arith, gathered_more byte c below, done.last))

module _ (byte : ℕ) (c : Controller) where
  -- the record that a Seek or a Recalibrate leaves, its drive's motion begun
  abbrev began : ℕ → Drive → Controller
  began k d = idled_of (with_drive k d (gathered_of byte c))

  module _ (kind : Kind) (done : Completes kind byte c) (k : ℕ) (low : k < 4) where
    began_drive : (d : Drive) → drive_at k (began k d).drives ≡ d
    unfolding idled_of with_drive with_drives gathered_of with_bytes
    began_drive d =
        get_or-set_same c.drives k d _ (omega (arith, (quiet kind byte c done).good.drives.long))

    began_spec1 : (d : Drive) → (began k d).registers.spec1 < 256
    unfolding idled_of with_drive with_drives gathered_of with_bytes
    began_spec1 d = spec1_real c done.real

    began_free : (d : Drive) → held_in (began k d).registers.dor ≡ false
    unfolding idled_of with_drive with_drives gathered_of with_bytes
    began_free d = free kind byte c done

  sought : (k target : ℕ) (d : Drive) → Completes Seek byte c → byte_no 1 byte c % 4 ≡ k → byte_no 2 byte c ≡ target
      → drive_at k c.drives ≡ d → d.busy ≡ false → after (writes 5 byte) c ≡ began k (seek_of target (step_time c) d)
  unfolding ran_of sought_of gathered_of with_bytes
  sought k target d done e t x f =
      ran_is Seek byte c done refl
      ∙ rw (e, t, x, f)

  recalibrated : (k : ℕ) (d : Drive) → Completes Recalibrate byte c → byte_no 1 byte c % 4 ≡ k
      → drive_at k c.drives ≡ d → d.busy ≡ false
      → after (writes 5 byte) c ≡ began k (recalibrate_of k (step_time c) d)
  unfolding ran_of recalibrated_of gathered_of with_bytes
  recalibrated k d done e x f =
      ran_is Recalibrate byte c done refl
      ∙ rw (e, x, f)

-- 01 Stepping
pub seeks_on_time : SeeksOnTime
unfolding idled_of with_drive with_drives gathered_of with_bytes
seeks_on_time c byte done k target d e t x f =
    let low : k < 4 = omega arith in
    let s = sought byte c k target d done e t x f in
    let d' = seek_of target (step_time c) d in
    let reached : Reached (began byte c k d') = subst Reached s (reached_after (writes 5 byte) c done.real) in
    rw s
    (seek_on_time k low (began byte c k d') reached (began_spec1 byte c Seek done k low d')
    (began_free byte c Seek done k low d') d target (began_drive byte c Seek done k low d'))

pub recalibrates_on_time : RecalibratesOnTime
unfolding idled_of with_drive with_drives gathered_of with_bytes
recalibrates_on_time c byte done k d e x f =
    let low : k < 4 = omega arith in
    let s = recalibrated byte c k d done e x f in
    let d' = recalibrate_of k (step_time c) d in
    let reached : Reached (began byte c k d') = subst Reached s (reached_after (writes 5 byte) c done.real) in
    rw s
    (recalibrate_on_time k low (began byte c k d') reached (began_spec1 byte c Recalibrate done k low d')
    (began_free byte c Recalibrate done k low d') d (began_drive byte c Recalibrate done k low d'))
