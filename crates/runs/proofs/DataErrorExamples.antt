-- The read after a cut: the premises of `data_error_in_time` and of `data_error`, met at once.
-- Assumes nothing.
use Prim.Native.Nat.{ℕ, zero, suc, ◌≤◌}
use native.Mathlib.Omega.{arith}
use borrow.Author.Rules.{rules}
use mathlib.Core.Bool.{Bool, true, false, ◌&&◌}
use mathlib.Core.List.{List, [], ◌∷◌, ◌++◌}
use mathlib.Core.Logic.{inl}
use mathlib.Core.Path.{◌≡◌, refl, sym, ap, ◌∙◌}
use Rattle.image.specs.Examples.{disk, sample}
use Rattle.image.specs.Layout.{size_of, track_length, track_at, offset_of}
use Rattle.image.specs.Lent.{stored_as}
use Rattle.image.proofs.TestLaws.{both}
use Rattle.image.specs.Sound.{Sound}
use Rattle.fdc.specs.declared.record.Controller.{Controller}
use Rattle.fdc.specs.declared.record.Registers.{Registers}
use Rattle.fdc.specs.declared.record.Phase.TheVariants.{Starting}
use Rattle.reached.specs.Moves.{tick_count}
use Rattle.fdc.specs.Registers.{motor_in}
use Rattle.fdc.specs.Answer.{answer_of}
use Rattle.reached.specs.Runs.{reads, takes, ticks, answer_to, after, run_calls}
use Rattle.fdc.specs.Ticks.{ruled_of, tick_of, image_after}
use Rattle.runs.specs.CutExamples.{writer, written, sector_one, ordered}
use Rattle.demands.specs.DataError.{ReadsThere, Spins, Drained}
use Rattle.runs.specs.DataErrorExamples.{
  wrote,
  asks,
  reader,
  sector_two,
  read,
  read_order,
  left_image,
  taking,
  read_calls,
  late_calls,
  DataErrorExample,
}
use Rattle.runs.specs.Host.{idle}
use Rattle.runs.specs.Whole.{handing}
use Rattle.runs.proofs.Open.{all_open}
use Rattle.runs.proofs.SpinLaws.{tick_registers, take_registers, dma_spins, ticks_longer, handing_ticks}
use Rattle.runs.proofs.SmallLaws.{small_sound}
use Rattle.runs.proofs.Tests.{all_off, off_prompt, is_drained, drained_at}
use Rattle.runs.proofs.WholeLaws.{handing_alone}
use Rattle.demands.specs.EndsInTime.{bound_of}
use Rattle.demands.specs.History.{History}
use Rattle.demands.specs.PowerCut.{head_of}
use Rattle.demands.specs.InTime.{AtTicks}
use Rattle.demands.specs.Work.{Real, at_work, Alone}
use Rattle.runs.proofs.CutExamples.{cut_examples}
use Rattle.demands.proofs.DataErrorLaws.{data_error, data_error_in_time}
use Rattle.demands.proofs.InTimeLaws.{prompt_in_time}

-- each tick is handed the image as the tick before left it
taking_alone : (n : ℕ) (c : Controller) (img : List ℕ) → Alone 0 img (taking n c img) c
unfolding Alone
taking_alone zero c img = tt
taking_alone (suc n) c img = λ w. (refl, λ w'. (tt, taking_alone n _ _))

taking_ticks : (n : ℕ) (c : Controller) (img : List ℕ) → tick_count (taking n c img) ≡ n
taking_ticks zero c img = refl
taking_ticks (suc n) c img =
    let e = taking_ticks n (after (takes false) (after (ticks img []) c)) (image_after 0 img [] c img) in
    omega arith

taking_spins : (n : ℕ) (c : Controller) (img : List ℕ) → motor_in c.registers.dor 0 ≡ true
    → Spins 0 (taking n c img) c
unfolding Spins
taking_spins zero c img m = m
taking_spins (suc n) c img m =
    let t = ap (λ (r : Registers). motor_in r.dor 0) (tick_registers img [] c) ∙ m in
    let k = ap (λ (r : Registers). motor_in r.dor 0) (take_registers false (after (ticks img []) c)) ∙ t in
    (m, λ w. (tt, (t, λ w'. (tt, taking_spins n _ _ k))))

-- the image is sound: two slots, of R 1 and R 2
pub sample_sound : Sound (disk 1 1 2 1) (sample 2)
sample_sound =
    small_sound (sample 2)
    (record {
      header = refl;
      size = refl;
      tag = refl;
      high = refl;
      low = refl;
      cylinder = refl;
      side = refl;
      first = omega arith;
      second = refl;
      first_r = refl;
      second_r = refl;
      last = (refl, refl, refl);
    })

-- the read's record: the head at 0, the motor on, the read accepted
reader_is : (head_of read_order reader ≡ 0) × (motor_in reader.registers.dor 0 ≡ true)
    × (reader.phase ≡ Starting read_order)
unfolding all_open
reader_is = (refl, refl, refl)

reader_real : Real reader
reader_real = record { head0 = 0; head1 = 0; calls = asks; bytes = search rules; run = refl }

reader_reads : ReadsThere reader read_order read sector_two (disk 1 1 2 1) (sample 2) 274
unfolding size_of track_length track_at offset_of
reader_reads = record {
  accepted = reader_is.2;
  moves = refl;
  reads = refl;
  slot = 1;
  has = rw reader_is.0 (record { on_disk = omega arith; on_cylinder = omega arith; on_track = omega arith });
  there = rw reader_is.0;
  address = refl;
}

enough : bound_of (disk 1 1 2 1) ≤ tick_count read_calls
unfolding bound_of size_of
enough = rw (taking_ticks 1980 reader left_image) (omega arith)

late_enough : bound_of (disk 1 1 2 1) ≤ tick_count late_calls
unfolding bound_of size_of
late_enough = rw (handing_ticks 0 (idle 260 ++ idle 1720) reader left_image) (omega arith)

-- n ticks and no byte taken, in one pass: the record then, and whether no tick was the 64th look that finds bytes
record Left : Type 0 where
  now : Controller
  drained : Bool

unfoldable leaves : ℕ → Controller → List ℕ → Bool → Left
leaves zero c img t = record { now = c; drained = t }
leaves (suc n) c img t =
    let d = ruled_of img [] c in
    leaves n d.controller (stored_as d.drive 0 d.effect img) (t && is_drained c)

leaves_now : (n : ℕ) (c : Controller) (img : List ℕ) (t : Bool)
    → (leaves n c img t).now ≡ run_calls (handing 0 (idle n) c img) c
unfolding leaves run_calls answer_to tick_of answer_of image_after
leaves_now zero c img t = refl
leaves_now (suc n) c img t = leaves_now n _ _ _

leaves_drained : (n : ℕ) (c : Controller) (img : List ℕ) (t : Bool) → (leaves n c img t).drained ≡ true
    → (t ≡ true) × AtTicks Drained (handing 0 (idle n) c img) c
unfolding leaves AtTicks answer_to tick_of answer_of image_after
leaves_drained zero c img t e = (e, tt)
leaves_drained (suc n) c img t e =
    let (o, rest) = leaves_drained n _ _ _ e in
    let (before, now) = both t (is_drained c) o in
    (before, λ w. (drained_at c now, rest))

-- the results, each tick's request, and its looks: one equation, so that the image that the cut left is worked out once
record Data : Type 0 where
  results : List ℕ
  off : Bool
  late_results : List ℕ
  late_on : Bool
  drained : Bool

abbrev read_in : Controller → List ℕ → Data
read_in c img =
    let left = leaves 260 c img true in
    record {
      results = (run_calls (taking 260 c img) c).bytes.results;
      off = all_off (taking 1980 c img) c;
      late_results = left.now.bytes.results;
      late_on = at_work left.now.phase;
      drained = left.drained;
    }

read_goes : read_in reader left_image
    ≡ record {
      results = 0x40 ∷ 0x20 ∷ 0x20 ∷ 0 ∷ 0 ∷ 2 ∷ 1 ∷ [];
      off = true;
      late_results = 0x40 ∷ 0x30 ∷ 0x20 ∷ 0 ∷ 0 ∷ 2 ∷ 1 ∷ [];
      late_on = false;
      drained = true;
    }
unfolding all_open all_off leaves
read_goes = refl

late_now : (leaves 260 reader left_image true).now ≡ run_calls (handing 0 (idle 260) reader left_image) reader
late_now = leaves_now 260 reader left_image true

late_drained : AtTicks Drained late_calls reader
late_drained =
    ticks_longer 0 Drained (idle 260) (idle 1720) reader left_image
    (leaves_drained 260 reader left_image true (ap (λ (d : Data). d.drained) read_goes)).1
    (sym (ap (λ (c : Controller). at_work c.phase) late_now) ∙ ap (λ (d : Data). d.late_on) read_goes)

pub data_error_example : DataErrorExample
data_error_example =
    let cut = cut_examples.in_second in
    let begun = ap (λ (h : History). h.begun) cut.history in
    let spins = taking_spins 1980 reader left_image reader_is.1 in
    let alone = taking_alone 1980 reader left_image in
    let prompt = off_prompt read_calls reader (ap (λ (d : Data). d.off) read_goes) in
    let late_spins = dma_spins 0 (idle 260 ++ idle 1720) reader left_image refl reader_is.1 in
    let late_alone = handing_alone 0 (omega arith) (idle 260 ++ idle 1720) reader left_image in
    record {
      writer_real = cut.real;
      writer_writes = cut.accepted;
      sound = sample_sound;
      its = cut.its;
      alone = cut.alone;
      begun = begun;
      reader_real = reader_real;
      reader_reads = reader_reads;
      spins = spins;
      alone_too = alone;
      enough = enough;
      prompt = prompt;
      ends =
          data_error_in_time (writer true) cut.real ordered written sector_one cut.accepted (sample 2)
          (disk 1 1 2 1) sample_sound wrote cut.its cut.alone 274 _ begun
          reader reader_real read_order read sector_two reader_reads (inl refl) read_calls spins alone enough
          (prompt_in_time reader reader_real read_order read sector_two
          (record { accepted = reader_reads.accepted; moves = reader_reads.moves })
          read_calls prompt);
      result = ap (λ (d : Data). d.results) read_goes;
      late_spins = late_spins;
      late_alone = late_alone;
      late_enough = late_enough;
      late_drained = late_drained;
      late_ends =
          data_error (writer true) cut.real ordered written sector_one cut.accepted (sample 2)
          (disk 1 1 2 1) sample_sound wrote cut.its cut.alone 274 _ begun
          reader reader_real read_order read sector_two reader_reads (inl refl) late_calls late_spins late_alone
          late_enough late_drained;
      late_result =
          sym (ap (λ (c : Controller). c.bytes.results) late_now) ∙ ap (λ (d : Data). d.late_results) read_goes;
    }
