-- The library's bytes hold the record of document 01's calls, over every list of them (specs/Lists).
-- Assumes nothing.
use Prim.Native.Nat.{ℕ, ◌≤◌}
use native.Mathlib.Omega.{arith}
use mathlib.Core.List.{List, [], ◌∷◌, ◌++◌}
use mathlib.Core.Path.{◌≡◌, refl, sym, ap, subst, ◌∙◌}
use lib.Dec.{eqb}
use lib.ListN.{length, drop}
use borrow.Author.Tests.{le-leb, eqb-false}
use Rattle.image.proofs.TestLaws.{by_test}
use Rattle.fdc.specs.declared.answer.Answer.{Answer}
use Rattle.fdc.specs.declared.record.Controller.{Controller}
use Rattle.fdc.specs.Answer.{number_in, answer_of}
use Rattle.fdc.specs.Record.{with_fifo}
use Rattle.reached.specs.Runs.{Call, reads, writes, takes, gives, notes, answer_to, after, run_calls}
use Rattle.reached.specs.Runs.{ticks}
use Rattle.fdc.specs.Ticks.{tick_reply}
use Rattle.demands.specs.Work.{image_left}
use Rattle.answers.specs.Refusals.{kept_by}
use Rattle.answers.proofs.RefusalLaws.{refused_exactly}
use Rattle.pack.specs.Back.{HoldsRecord, Typed}
use Rattle.pack.specs.Bytes.{record_size, stored_of, fifo_stored}
use Rattle.pack.proofs.BackLaws.{holds}
use Rattle.pack.proofs.CycleLaws.{holds_fifo, read_keeps, write_keeps}
use Rattle.pack.proofs.PutLaws.{record_long}
use Rattle.many_ticks.specs.Run.{Ran, many_ticks}
use Rattle.capi.specs.Calls.{set_in, written_back, word_back, bytes_from, cycled_of, cycle_from, power_word}
use Rattle.capi.specs.Calls.{image_from, long_from, first_from, second_from}
use Rattle.capi.specs.Word.{word_of, long_of}
use Rattle.firmware.specs.Calls.{World, BelCall, power_on_law, read_port_law, write_port_law, dma_read_law, dma_write_law, tick}
use Rattle.firmware.specs.Calls.{note_change_law, tick_many, lends, word_to, bytes_after, first_after, second_after}
use Rattle.firmware.specs.Calls.{world_after, world_left}
use Rattle.firmware.specs.Made.{Box, ticks_made, calls_in, box_by, lent, box_after, box_left, calls_made, word_by}
use Rattle.firmware.specs.Lists.{ShowsBox, OverLists}
use Rattle.firmware.proofs.RanLaws.{ticks_are, last_record, ticks_refused}
use Rattle.firmware.proofs.TypedLaws.{typed_after, typed_run, typed_power_on}

-- what a store leaves
pub holds_stored : (c : Controller) (l : List ℕ) → record_size ≤ length l → Typed c → HoldsRecord (stored_of c l) c
unfolding stored_of
holds_stored c l h t = rw (le-leb record_size (length l) h) (holds c (drop record_size l) t)

module _ (l : List ℕ) (c : Controller) (h : HoldsRecord l c) where
  -- after an answer that, where it refuses, has the record as it was
  holds_written : (answer : Answer) → Typed answer.controller
      → ((number_in answer.reply ≡ 0 → ⊥) → answer.controller ≡ c) → HoldsRecord (bytes_from l answer) answer.controller
  unfolding bytes_from written_back
  holds_written answer t kept =
      rw h.good
      (by_test (eqb (number_in answer.reply) 0) (λ (m : List ℕ). HoldsRecord m answer.controller) _ _
      (λ e. holds_stored answer.controller l (record_long l h.good) t)
      (λ e. rw (kept (eqb-false _ _ e)) h))

  -- and after a DMA cycle, which writes the FIFO alone
  holds_cycled : (answer : Answer) → Typed answer.controller
      → with_fifo answer.controller.fifo c ≡ answer.controller
      → ((number_in answer.reply ≡ 0 → ⊥) → answer.controller ≡ c) → HoldsRecord (cycle_from l answer) answer.controller
  unfolding cycle_from cycled_of fifo_stored
  holds_cycled answer t only kept =
      rw h.good
      (by_test (eqb (number_in answer.reply) 0) (λ (m : List ℕ). HoldsRecord m answer.controller) _ _
      (λ e. rw (le-leb record_size (length l) (record_long l h.good))
      (rw (h.back, only) at (holds_fifo answer.controller.fifo l t.fifo h.good)))
      (λ e. rw (kept (eqb-false _ _ e)) h))

-- 01 Refusals: a refusal returns the record as handed in
refused_kept : (call : Call) (c : Controller) → kept_by call c ≡ c → (number_in (answer_to call c).reply ≡ 0 → ⊥)
    → after call c ≡ c
refused_kept call c e n = refused_exactly.kept call c (omega arith) ∙ e

pub lent_record : (call : BelCall) (x : Box) → (lent call x).controller ≡ x.controller
lent_record (power_on_law head0 head1) x = refl
lent_record (read_port_law offset) x = refl
lent_record (write_port_law offset byte) x = refl
lent_record (dma_read_law tc) x = refl
lent_record (dma_write_law byte tc) x = refl
lent_record tick x = refl
lent_record (note_change_law drive) x = refl
lent_record (tick_many n) x = refl
lent_record (lends a b) x = refl

-- one call, on bytes that hold the record
abbrev lent_as : List ℕ → Box → World
lent_as l x = record { bytes = l; first = x.first; second = x.second }

module _ (l : List ℕ) (x : Box) (h : HoldsRecord l x.controller) (t : Typed x.controller) where
  long : record_size ≤ length l
  long = record_long l h.good

  -- a call whose refusal keeps the record
  plain : (call : Call) → kept_by call x.controller ≡ x.controller
      → HoldsRecord (bytes_from l (answer_to call x.controller)) (after call x.controller)
  plain call e =
      holds_written l x.controller h (answer_to call x.controller) (typed_after call x.controller t)
      (refused_kept call x.controller e)

  cycle : (call : Call) → kept_by call x.controller ≡ x.controller
      → with_fifo (after call x.controller).fifo x.controller ≡ after call x.controller
      → HoldsRecord (cycle_from l (answer_to call x.controller)) (after call x.controller)
  cycle call e only =
      holds_cycled l x.controller h (answer_to call x.controller) (typed_after call x.controller t) only
      (refused_kept call x.controller e)

  many : (n : ℕ)
      → HoldsRecord (bytes_from l (many_ticks n x.first x.second x.controller).answer)
      (run_calls (ticks_made n x.first x.second x.controller) x.controller)
  unfolding answer_of
  many n =
      let r = many_ticks n x.first x.second x.controller in
      let calls = ticks_made n x.first x.second x.controller in
      let e : r.answer.controller ≡ run_calls calls x.controller =
      ap (λ (q : Ran). q.answer.controller) (ticks_are n x.first x.second x.controller)
      ∙ last_record calls (answer_of (tick_reply x.controller) x.controller) x.controller refl in
      subst (HoldsRecord (bytes_from l r.answer)) e
      (holds_written l x.controller h r.answer (subst Typed (sym e) (typed_run calls x.controller t))
      (λ refused. ap (λ (q : Ran). q.answer.controller)
      (ticks_refused n x.first x.second x.controller refused)))

  bytes_hold : (call : BelCall) → HoldsRecord (bytes_after call (lent_as l x)) (box_after call x).controller
  unfolding bytes_after calls_in run_calls answer_to
  bytes_hold (power_on_law head0 head1) = holds_stored _ l long (typed_power_on head0 head1)
  bytes_hold (read_port_law offset) = rw h.back (plain (reads offset) refl)
  bytes_hold (write_port_law offset byte) = rw h.back (plain (writes offset byte) refl)
  bytes_hold (dma_read_law tc) = rw h.back (cycle (takes (set_in tc)) refl (read_keeps (set_in tc) x.controller))
  bytes_hold (dma_write_law byte tc) =
      rw h.back (cycle (gives byte (set_in tc)) refl (write_keeps byte (set_in tc) x.controller))
  bytes_hold tick = rw h.back (plain (ticks x.first x.second) refl)
  bytes_hold (note_change_law drive) = rw h.back (plain (notes drive) refl)
  bytes_hold (tick_many n) = rw h.back (many n)
  bytes_hold (lends a b) = h

  first_is : (call : BelCall) → first_after call (lent_as l x) ≡ (box_after call x).first
  unfolding first_after calls_in image_left image_from first_from
  first_is (power_on_law head0 head1) = refl
  first_is (read_port_law offset) = refl
  first_is (write_port_law offset byte) = refl
  first_is (dma_read_law tc) = refl
  first_is (dma_write_law byte tc) = refl
  first_is tick = rw (h.good, h.back)
  first_is (note_change_law drive) = refl
  first_is (tick_many n) =
      rw (h.good, h.back) (ap (λ (q : Ran). q.first) (ticks_are n x.first x.second x.controller))
  first_is (lends a b) = refl

  second_is : (call : BelCall) → second_after call (lent_as l x) ≡ (box_after call x).second
  unfolding second_after calls_in image_left image_from second_from
  second_is (power_on_law head0 head1) = refl
  second_is (read_port_law offset) = refl
  second_is (write_port_law offset byte) = refl
  second_is (dma_read_law tc) = refl
  second_is (dma_write_law byte tc) = refl
  second_is tick = rw (h.good, h.back)
  second_is (note_change_law drive) = refl
  second_is (tick_many n) =
      rw (h.good, h.back) (ap (λ (q : Ran). q.second) (ticks_are n x.first x.second x.controller))
  second_is (lends a b) = refl

  word_is : (call : BelCall) → word_to call (lent_as l x) ≡ word_by call x
  unfolding word_to word_by answer_to power_word word_back long_from calls_in
  word_is (power_on_law head0 head1) = rw (le-leb record_size (length l) long)
  word_is (read_port_law offset) = rw (h.good, h.back)
  word_is (write_port_law offset byte) = rw (h.good, h.back)
  word_is (dma_read_law tc) = rw (h.good, h.back)
  word_is (dma_write_law byte tc) = rw (h.good, h.back)
  word_is tick = rw (h.good, h.back)
  word_is (note_change_law drive) = rw (h.good, h.back)
  word_is (tick_many n) =
      rw (h.good, h.back)
      (ap (λ (q : Ran). long_of (word_of q.answer) q.made) (ticks_are n x.first x.second x.controller))
  word_is (lends a b) = refl

-- what is lent, by its bytes and the box
same_world : (w : World) (x : Box) → ShowsBox w x → w ≡ lent_as w.bytes x
same_world w x s = rw (← s.first, ← s.second)

abbrev Stepped : BelCall → Box → World → Type 0
Stepped call x w = ShowsBox (world_after call w) (box_after call x) × (word_to call w ≡ word_by call x)

one_call : (w : World) (x : Box) → ShowsBox w x → Typed x.controller → (call : BelCall) → Stepped call x w
one_call w x s t call =
    subst (Stepped call x) (sym (same_world w x s)) (
      record {
        record_is = bytes_hold w.bytes x s.record_is t call;
        first = first_is w.bytes x s.record_is t call;
        second = second_is w.bytes x s.record_is t call;
      },
      word_is w.bytes x s.record_is t call,
    )

typed_box : (x : Box) → Typed x.controller → (call : BelCall) → Typed (box_after call x).controller
typed_box x t call =
    subst Typed (sym (lent_record call (box_by (calls_in call x) x))) (typed_run (calls_in call x) x.controller t)

run_more : (calls more : List Call) (c : Controller) → run_calls (calls ++ more) c ≡ run_calls more (run_calls calls c)
unfolding run_calls
run_more [] more c = refl
run_more (call ∷ calls) more c = run_more calls more (after call c)

pub over_lists : OverLists
unfolding world_left box_left calls_made run_calls
over_lists w x s t [] = record { shows = s; run = refl; word = λ next. (one_call w x s t next).1 }
over_lists w x s t (call ∷ calls) =
    let f = over_lists (world_after call w) (box_after call x) (one_call w x s t call).0 (typed_box x t call) calls in
    record {
      shows = f.shows;
      run =
          f.run
          ∙ ap (run_calls (calls_made calls (box_after call x))) (lent_record call (box_by (calls_in call x) x))
          ∙ sym (run_more (calls_in call x) (calls_made calls (box_after call x)) x.controller);
      word = f.word;
    }
