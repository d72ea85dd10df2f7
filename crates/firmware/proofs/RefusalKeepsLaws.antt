-- A word that says a refusal leaves what is lent as it was; 5 has a fresh record (specs/Lists).
-- Assumes nothing.
use Prim.Native.Nat.{ℕ, ◌+◌, ◌/◌, ◌%◌, ◌<◌, ◌≤◌}
use native.Mathlib.Omega.{arith}
use Rattle.std.specs.Prelude.{Option, None, Some}
use mathlib.Core.Bool.{Bool, true, false, ◌&&◌, ◌||◌}
use mathlib.Core.List.{List}
use mathlib.Core.Logic.{◌⊎◌, inl, inr}
use mathlib.Core.Path.{◌≡◌, refl, sym, ap, subst, ◌∙◌}
use lib.Dec.{eqb, leb}
use lib.ListN.{length, get_or}
use borrow.Author.Tests.{le-leb}
use Rattle.image.proofs.TestLaws.{by_test, le_or_lt}
use Rattle.chip.specs.Fifo.{front_of, handed_of}
use Rattle.engine.specs.declared.flow.Flow.{Flow}
use Rattle.engine.specs.declared.flow.Flow.TheVariants.{Quiet, ToHost, FromHost}
use Rattle.engine.specs.Step.{flow_of}
use Rattle.fdc.specs.declared.answer.Answer.{Answer}
use Rattle.fdc.specs.declared.ports.Port.{Port}
use Rattle.fdc.specs.declared.ports.Port.TheVariants.{Dor, Tdr, Status, Data, Input}
use Rattle.fdc.specs.declared.record.Controller.{Controller}
use Rattle.fdc.specs.declared.record.Phase.{Phase}
use Rattle.fdc.specs.declared.record.Phase.TheVariants.{Idle, Gathering, Starting, Working, Sensing, Answering}
use Rattle.fdc.specs.Answer.{value_of, number_in, answer_of}
use Rattle.fdc.specs.Calls.{port_of, read_reg, power_on, read_port, dma_read}
use Rattle.fdc.specs.Data.{read_in, read_fifo, phase_to_host}
use Rattle.fdc.specs.Record.{fresh_of, valid_of, drive_at}
use Rattle.fdc.proofs.DmaLaws.{dma_read_is}
use Rattle.fdc.specs.Registers.{held_in, motor_in, dma_in, bit, busy_bits, flow_status, phase_status, msr_of, drq_of, dir_of}
use Rattle.reached.specs.Runs.{Call, powers, reads, writes, takes, gives, notes, answer_to}
use Rattle.reached.specs.Runs.{ticks}
use Rattle.demands.specs.Quiet.{AllBytes}
use Rattle.answers.specs.Refusals.{Row, Given, number_to, ReadsNothing}
use Rattle.answers.proofs.RefusalLaws.{refused_exactly}
use Rattle.pack.specs.Back.{HoldsRecord}
use Rattle.pack.specs.Bytes.{record_size, record_in, is_record, stored_of}
use Rattle.pack.specs.Places.{registers_row, fifo_row, result_row, dor_at}
use Rattle.many_ticks.specs.Run.{Ran, refused_of, many_ticks}
use Rattle.capi.specs.Calls.{set_in, word_back, power_word, image_from, long_from, first_from, second_from}
use Rattle.capi.specs.Word.{no_record, word_of, long_of}
use Rattle.capi.proofs.KeepLaws.{refusal_keeps_bytes}
use Rattle.capi.proofs.WordLaws.{word_apart}
use Rattle.firmware.specs.Calls.{World, BelCall, power_on_law, read_port_law, write_port_law, dma_read_law, dma_write_law, tick}
use Rattle.firmware.specs.Calls.{note_change_law, tick_many, lends, word_to, bytes_after, first_after, second_after}
use Rattle.firmware.specs.Calls.{world_after}
use Rattle.firmware.specs.Lists.{NeedsRecord, refusal_in, Left, RefusalKeeps}
use Rattle.firmware.proofs.AnyBytesLaws.{bytes_at, same_world, no_record_law, too_few}
use Rattle.firmware.proofs.ListLaws.{holds_stored}
use Rattle.firmware.proofs.RanLaws.{ticks_refused, ticks_nothing}
use Rattle.firmware.proofs.TypedLaws.{typed_fresh}

-- a value that is read is a byte, where the three are that it may come from
module _ (c : Controller) (dor : c.registers.dor < 256) (front : front_of c.fifo < 256)
    (result : get_or c.bytes.results 0 0 < 256) where
  abbrev Small : Answer → Type 0
  Small answer = value_of answer.reply < 0x100

  handed_small : handed_of c.fifo < 0x100
  handed_small = by_test (eqb c.fifo.count 0) (λ (n : ℕ). n < 0x100) _ _ (λ _. omega arith) (λ _. front)

  bit_small : (on : Bool) → bit on ≤ 1
  bit_small true = omega arith
  bit_small false = omega arith

  flow_small : (flow : Flow) (dma asks : Bool) → flow_status flow dma asks ≤ 0xF0
  flow_small Quiet dma asks = omega arith
  flow_small ToHost true asks = omega arith
  flow_small ToHost false true = omega arith
  flow_small ToHost false false = omega arith
  flow_small FromHost true asks = omega arith
  flow_small FromHost false true = omega arith
  flow_small FromHost false false = omega arith

  phase_small : (p : Phase) (dma asks : Bool) → phase_status p dma asks ≤ 0xF0
  phase_small Idle dma asks = omega arith
  phase_small (Gathering entry) dma asks = omega arith
  phase_small (Starting order) dma asks = omega arith
  phase_small (Working work) dma asks = flow_small (flow_of work) dma asks
  phase_small (Sensing unit) dma asks = omega arith
  phase_small (Answering loud) dma asks = omega arith

  msr_small : msr_of c < 0x100
  unfolding msr_of busy_bits
  msr_small =
      by_test (held_in c.registers.dor) (λ (n : ℕ). n < 0x100) _ _ (λ _. omega arith)
      (λ _. omega (
        arith,
        phase_small c.phase (dma_in c.registers.spec2) c.fifo.asks,
        bit_small (drive_at 0 c.drives).busy,
        bit_small (drive_at 1 c.drives).busy,
        bit_small (drive_at 2 c.drives).busy,
        bit_small (drive_at 3 c.drives).busy,
      ))

  dir_small : dir_of c < 0x100
  unfolding dir_of
  dir_small =
      by_test
      (motor_in c.registers.dor c.registers.dor
      && (leb 2 (c.registers.dor % 4) || (drive_at (c.registers.dor % 4) c.drives).changed))
      (λ (n : ℕ). n < 0x100) 0x80 0x00 (λ _. omega arith) (λ _. omega arith)

  read_in_small : (p : Phase) → Small (read_in p c)
  unfolding read_in answer_of
  read_in_small Idle = omega arith
  read_in_small (Gathering entry) = omega arith
  read_in_small (Starting order) = omega arith
  read_in_small (Working work) = handed_small
  read_in_small (Sensing unit) = omega arith
  read_in_small (Answering loud) = result

  read_reg_small : (port : Option Port) → Small (read_reg port c)
  unfolding read_reg read_fifo answer_of
  read_reg_small None = omega arith
  read_reg_small (Some Dor) = dor
  read_reg_small (Some Tdr) = omega arith
  read_reg_small (Some Status) = msr_small
  read_reg_small (Some Data) =
      by_test (eqb (msr_of c / 64) 3) Small (read_in c.phase c) _ (λ _. read_in_small c.phase) (λ _. omega arith)
  read_reg_small (Some Input) = dir_small

  read_small : (offset : ℕ) → Small (answer_to (reads offset) c)
  unfolding answer_to read_port answer_of
  read_small offset = by_test (valid_of c) Small _ _ (λ _. read_reg_small (port_of offset)) (λ _. omega arith)

  take_small : (tc : Bool) → Small (answer_to (takes tc) c)
  unfolding answer_to dma_read answer_of
  take_small tc =
      by_test (valid_of c) Small _ _
      (λ _. rw (dma_read_is tc c)
      (by_test (drq_of c && phase_to_host c.phase) Small _ _ (λ _. handed_small) (λ _. omega arith)))
      (λ _. omega arith)

-- 01 Refusals 5 is power-on's alone
abbrev NoPower : Call → Type 0
NoPower (powers head0 head1) = ⊥
NoPower (reads offset) = Unit {0}
NoPower (writes offset byte) = Unit {0}
NoPower (takes tc) = Unit {0}
NoPower (gives byte tc) = Unit {0}
NoPower (ticks a b) = Unit {0}
NoPower (notes drive) = Unit {0}

no_row : (call : Call) (c : Controller) → NoPower call → Row 5 call c → ⊥
no_row (powers head0 head1) c n r = n
no_row (reads offset) c n (inl r) = omega (arith, r.0)
no_row (reads offset) c n (inr r) = omega (arith, r.0)
no_row (writes offset byte) c n (inl r) = omega (arith, r.0)
no_row (writes offset byte) c n (inr r) = omega (arith, r.0)
no_row (takes tc) c n r = omega (arith, r.0)
no_row (gives byte tc) c n r = omega (arith, r.0)
no_row (ticks a b) c n r = r
no_row (notes drive) c n r = omega (arith, r.0)

not_given : (call : Call) (c : Controller) → NoPower call → Given 5 call c → ⊥
not_given call c n (inl g) = omega (arith, g.0)
not_given call c n (inr g) = no_row call c n g.1

not_five : (call : Call) (c : Controller) → NoPower call → number_to call c ≡ 5 → ⊥
not_five call c n five = not_given call c n ((refused_exactly.exactly 5 call c (omega arith)).0 five)

nothing_small : (call : Call) (c : Controller) → ReadsNothing call → value_of (answer_to call c).reply < 0x100
nothing_small call c n = omega (arith, refused_exactly.nothing_read call c n)

-- a word that says an answer
left_by_lem : (w after : World) (word : ℕ) (answer : Answer) → value_of answer.reply < 0x100
    → refusal_in word ≡ refusal_in (word_of answer) → (refusal_in word ≡ 0 → ⊥) → (number_in answer.reply ≡ 5 → ⊥)
    → ((number_in answer.reply ≡ 0 → ⊥) → after ≡ w) → Left (refusal_in word) w after
left_by_lem w after word answer v e refused other kept =
    let n : refusal_in word ≡ number_in answer.reply =
    e ∙ (word_apart answer.reply answer.int answer.drq v).number in
    (λ five. absurd (other (sym n ∙ five)), λ _. kept (λ z. refused (n ∙ z)))

long_refusal : (word made : ℕ) → refusal_in (long_of word made) ≡ refusal_in word
long_refusal word made = omega arith

-- on bytes that are a record
module _ (w : World) (all : AllBytes w.bytes) (good : is_record w.bytes ≡ true) where
  abbrev c : Controller
  c = record_in w.bytes

  abbrev Keeps : BelCall → Type 0
  Keeps call = (refusal_in (word_to call w) ≡ 0 → ⊥) → Left (refusal_in (word_to call w)) w (world_after call w)

  -- the three that a value may be read from
  is_byte : (k : ℕ) → get_or w.bytes k 0 < 256
  is_byte k = bytes_at w.bytes k all

  read_fits : (offset : ℕ) → value_of (answer_to (reads offset) c).reply < 0x100
  unfolding record_in
  read_fits offset = read_small c (is_byte (registers_row + dor_at)) (is_byte fifo_row) (is_byte result_row) offset

  take_fits : (tc : Bool) → value_of (answer_to (takes tc) c).reply < 0x100
  unfolding record_in
  take_fits tc = take_small c (is_byte (registers_row + dor_at)) (is_byte fifo_row) (is_byte result_row) tc

  -- a call of the record alone
  plain : (call : BelCall) (own : Call) → word_to call w ≡ word_back w.bytes (answer_to own c) → NoPower own
      → value_of (answer_to own c).reply < 0x100
      → ((number_to own c ≡ 0 → ⊥) → world_after call w ≡ w) → Keeps call
  unfolding word_back
  plain call own e n v kept refused =
      left_by_lem w (world_after call w) (word_to call w) (answer_to own c) v (ap refusal_in (e ∙ rw good)) refused
      (not_five own c n) kept

  -- many ticks: a refusal is 4, of a damaged record, and none is made
  many : (n : ℕ) → Keeps (tick_many n)
  unfolding word_to bytes_after first_after second_after long_from first_from second_from answer_of
  many n refused =
      let a : List ℕ = w.first in
      let b : List ℕ = w.second in
      let r : Ran = many_ticks n a b c in
      let word : word_to (tick_many n) w ≡ long_of (word_of r.answer) r.made = rw good in
      let is : (number_in r.answer.reply ≡ 0 → ⊥) → r ≡ refused_of a b c = ticks_refused n a b c in
      left_by_lem w (world_after (tick_many n) w) (word_to (tick_many n) w) r.answer (omega (arith, ticks_nothing n a b c))
      (ap refusal_in word ∙ long_refusal (word_of r.answer) r.made) refused
      (λ five. absurd (omega (arith, five, ap (λ (q : Ran). number_in q.answer.reply) (is (λ z. omega arith)))))
      (λ z. same_world w (tick_many n) (refusal_keeps_bytes w.bytes r.answer z).0
      (rw good (ap (λ (q : Ran). q.first) (is z))) (rw good (ap (λ (q : Ran). q.second) (is z))))

  keeps : (call : BelCall) → NeedsRecord call → Keeps call
  unfolding word_to bytes_after first_after second_after answer_to image_from
  keeps (power_on_law head0 head1) n = absurd n
  keeps (read_port_law offset) n =
      plain (read_port_law offset) (reads offset) refl tt (read_fits offset)
      (λ r. same_world w (read_port_law offset) (refusal_keeps_bytes w.bytes (answer_to (reads offset) c) r).0 refl refl)
  keeps (write_port_law offset byte) n =
      plain (write_port_law offset byte) (writes offset byte) refl tt (nothing_small (writes offset byte) c tt)
      (λ r. same_world w (write_port_law offset byte)
      (refusal_keeps_bytes w.bytes (answer_to (writes offset byte) c) r).0 refl refl)
  keeps (dma_read_law tc) n =
      plain (dma_read_law tc) (takes (set_in tc)) refl tt (take_fits (set_in tc))
      (λ r. same_world w (dma_read_law tc) (refusal_keeps_bytes w.bytes (answer_to (takes (set_in tc)) c) r).1 refl refl)
  keeps (dma_write_law byte tc) n =
      plain (dma_write_law byte tc) (gives byte (set_in tc)) refl tt (nothing_small (gives byte (set_in tc)) c tt)
      (λ r. same_world w (dma_write_law byte tc)
      (refusal_keeps_bytes w.bytes (answer_to (gives byte (set_in tc)) c) r).1 refl refl)
  keeps tick n =
      let own : Call = ticks w.first w.second in
      plain tick own refl tt (nothing_small own c tt)
      (λ r. same_world w tick (refusal_keeps_bytes w.bytes (answer_to own c) r).0
      (rw good (refused_exactly.images own c (omega arith) 0 w.first))
      (rw good (refused_exactly.images own c (omega arith) 1 w.second)))
  keeps (note_change_law drive) n =
      plain (note_change_law drive) (notes drive) refl tt (nothing_small (notes drive) c tt)
      (λ r. same_world w (note_change_law drive) (refusal_keeps_bytes w.bytes (answer_to (notes drive) c) r).0 refl refl)
  keeps (tick_many m) n = many m
  keeps (lends a b) n = absurd n

-- power-on with enough bytes is refused with 5 alone
abbrev Powered : Answer → Type 0
Powered answer = (number_in answer.reply ≡ 0) ⊎ ((number_in answer.reply ≡ 5) × (answer.controller ≡ fresh_of 0 0))

power_answer : (head0 head1 : ℕ) → Powered (power_on head0 head1)
unfolding power_on answer_of
power_answer head0 head1 =
    by_test (leb head0 81 && leb head1 81) Powered _ _ (λ _. inl refl) (λ _. inr (refl, refl))

powered : (w : World) → record_size ≤ length w.bytes → (head0 head1 : ℕ)
    → (refusal_in (word_to (power_on_law head0 head1) w) ≡ 0 → ⊥)
    → Left (refusal_in (word_to (power_on_law head0 head1) w)) w (world_after (power_on_law head0 head1) w)
unfolding word_to bytes_after first_after second_after power_word answer_to
powered w long head0 head1 refused = go (power_answer head0 head1)
  where
    answer : Answer
    answer = power_on head0 head1

    none : value_of answer.reply ≡ 0
    none = refused_exactly.nothing_read (powers head0 head1) (fresh_of 0 0) tt

    small : value_of answer.reply < 0x100
    small = omega (arith, none)

    said : word_to (power_on_law head0 head1) w ≡ word_of answer
    said = rw (le-leb record_size (length w.bytes) long)

    number : refusal_in (word_to (power_on_law head0 head1) w) ≡ number_in answer.reply
    number = ap refusal_in said ∙ (word_apart answer.reply answer.int answer.drq small).number

    go : Powered answer → Left (refusal_in (word_to (power_on_law head0 head1) w)) w (world_after (power_on_law head0 head1) w)
    go (inl z) = absurd (refused (number ∙ z))
    go (inr q) = (
      λ five. (
        subst (λ (c : Controller). HoldsRecord (stored_of c w.bytes) (fresh_of 0 0)) (sym q.1)
            (holds_stored (fresh_of 0 0) w.bytes long (typed_fresh 0 0)),
        (refl, refl),
      ),
      λ other. absurd (other (number ∙ q.0)),
    )

-- no record, or too few bytes for one: 4
left_none : (w after : World) (word : ℕ) → (word ≡ no_record) × (after ≡ w) → Left (refusal_in word) w after
left_none w after word e =
    let four : refusal_in word ≡ 4 = ap refusal_in e.0 in
    (λ five. absurd (omega (arith, four, five)), λ _. e.1)

on_bytes : (w : World) → AllBytes w.bytes → (call : BelCall) → NeedsRecord call
    → (refusal_in (word_to call w) ≡ 0 → ⊥) → Left (refusal_in (word_to call w)) w (world_after call w)
on_bytes w all call n refused = go (is_record w.bytes) refl
  where
    go : (t : Bool) → is_record w.bytes ≡ t → Left (refusal_in (word_to call w)) w (world_after call w)
    go true e = keeps w all e call n refused
    go false e = left_none w (world_after call w) (word_to call w) (no_record_law w e call n)

on_power : (w : World) (head0 head1 : ℕ) → (record_size ≤ length w.bytes) ⊎ (length w.bytes < record_size)
    → (refusal_in (word_to (power_on_law head0 head1) w) ≡ 0 → ⊥)
    → Left (refusal_in (word_to (power_on_law head0 head1) w)) w (world_after (power_on_law head0 head1) w)
on_power w head0 head1 (inl h) refused = powered w h head0 head1 refused
on_power w head0 head1 (inr h) refused =
    left_none w (world_after (power_on_law head0 head1) w) (word_to (power_on_law head0 head1) w) (too_few w h head0 head1)

pub refusal_keeps : RefusalKeeps
unfolding word_to
refusal_keeps w all (power_on_law head0 head1) r = on_power w head0 head1 (le_or_lt record_size (length w.bytes)) r
refusal_keeps w all (read_port_law offset) r = on_bytes w all (read_port_law offset) tt r
refusal_keeps w all (write_port_law offset byte) r = on_bytes w all (write_port_law offset byte) tt r
refusal_keeps w all (dma_read_law tc) r = on_bytes w all (dma_read_law tc) tt r
refusal_keeps w all (dma_write_law byte tc) r = on_bytes w all (dma_write_law byte tc) tt r
refusal_keeps w all tick r = on_bytes w all tick tt r
refusal_keeps w all (note_change_law drive) r = on_bytes w all (note_change_law drive) tt r
refusal_keeps w all (tick_many n) r = on_bytes w all (tick_many n) tt r
refusal_keeps w all (lends a b) r = absurd (r refl)
