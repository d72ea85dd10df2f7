-- A DMA cycle changes the FIFO alone, and the record's bytes tell what it answers (01 FIFO, Refusals 3).
-- Assumes nothing.
use Prim.Native.Nat.{ℕ, ◌+◌, ◌≤◌}
use mathlib.Core.Bool.{Bool, true, false, ◌&&◌, cond, false≢true, and-false, and-true, or-false}
use mathlib.Core.List.{List, ◌++◌}
use mathlib.Core.Path.{◌≡◌, refl}
use native.Mathlib.Omega.{arith}
use lib.Dec.{eqb, leb}
use lib.ListN.{length, drop, take-append-drop}
use lib.Seq.{sets, sets-eq, drop-drop}
use borrow.Author.Tests.{le-leb, eqb-true}
use Rattle.image.proofs.TestLaws.{by_test, both}
use Rattle.chip.specs.declared.fifo.Fifo.{Fifo}
use Rattle.chip.specs.Fifo.{capacity_of, handed_of, taken_of, given_of}
use Rattle.engine.specs.Step.{pass_flow, stage_wait}
use Rattle.sectors.specs.declared.work.Stage.{Stage}
use Rattle.sectors.specs.declared.order.Pass.{Pass}
use Rattle.sectors.specs.declared.order.Pass.TheVariants.{Read, Write}
use Rattle.sectors.specs.declared.work.Work.TheVariants.{Moving}
use Rattle.fdc.specs.declared.answer.Answer.{Answer}
use Rattle.fdc.specs.declared.answer.Reply.TheVariants.{Done, Byte}
use Rattle.fdc.specs.declared.record.Controller.{Controller}
use Rattle.fdc.specs.declared.record.Phase.TheVariants.{Working}
use Rattle.fdc.specs.Calls.{dma_read, dma_write}
use Rattle.fdc.specs.Data.{phase_to_host, phase_from_host, moved_of, cycle_of, dma_read_of, dma_write_of}
use Rattle.fdc.specs.Answer.{answer_of}
use Rattle.fdc.specs.Record.{with_fifo, valid_of}
use Rattle.fdc.specs.Registers.{gate_in, dma_in, pending_in, flow_asks, int_of, drq_of}
use Rattle.fdc.proofs.DmaLaws.{dma_read_is, dma_write_is}
use Rattle.pack.specs.declared.flat.Spot.{Spot}
use Rattle.pack.specs.Back.{HoldsRecord}
use Rattle.pack.specs.Bytes.{byte_at, flag_at, row_at, at_most, pass_numbered, motion_of, fifo_bytes, flow_bytes, fifo_in}
use Rattle.pack.specs.Bytes.{site_in, task_from, spot_in, flat_in, record_size, fifo_put, record_in, drives_ok, flow_ok}
use Rattle.pack.specs.Bytes.{flat_ok, cases_ok, is_record}
use Rattle.pack.specs.Flat.{stage_from, work_from, phase_from}
use Rattle.pack.specs.Places.{version, registers_row, drive_row, flow_row, command_row, result_row, phase_row, site_row}
use Rattle.pack.specs.Places.{task_row, spot_row, version_at, dor_at, spec2_at, efifo_at, fifothr_at, head_at, motion_at}
use Rattle.pack.specs.Places.{count_at, asks_at, gathered_at, left_at, tag_at, work_at, pass_at, spot_count_at}
use Rattle.pack.specs.Cycle.{asked_in, fifo_bounded, counts_bounded, bounded_in, still_in, drives_still, cycles_in}
use Rattle.pack.specs.Cycle.{reading_in, writing_in}
use Rattle.pack.proofs.BackLaws.{spelt, spelt_part, fifo_back, flow_ok_lem}
use Rattle.pack.proofs.PutLaws.{record_long}

-- what is written at place k: before it and behind it what stood there, the next n bytes written out
put_between : (vs l : List ℕ) (k n : ℕ) → k + length vs + n ≤ length l
    → sets l k vs ≡ spelt 0 l 0 k ++ vs ++ (spelt 0 l (k + length vs) n ++ drop (k + length vs + n) l)
put_between vs l k n h =
    let front : 0 + k ≤ length l = omega arith in
    let fits : k + length vs ≤ length l = omega arith in
    rw (
      spelt_part 0 l 0 k front,
      spelt_part 0 l (k + length vs) n h,
      ← drop-drop n (k + length vs) l,
      take-append-drop n (drop (k + length vs) l),
    ) (sets-eq vs l k fits)

-- a record's bytes with the FIFO's rows anew
abbrev between : Fifo → List ℕ → List ℕ
between f l = spelt 0 l 0 0x50 ++ (fifo_bytes f ++ flow_bytes f) ++ (spelt 0 l 0x70 0x60 ++ drop record_size l)

fifo_between : (f : Fifo) (l : List ℕ) → record_size ≤ length l → fifo_put f l ≡ between f l
unfolding fifo_put
fifo_between f l h = put_between (fifo_bytes f ++ flow_bytes f) l 0x50 0x60 h

-- every other part is read as before
other_parts : (f : Fifo) (l : List ℕ)
    → record_in (between f l) ≡ with_fifo (fifo_in (fifo_bytes f) (flow_bytes f)) (record_in l)
unfolding record_in with_fifo
other_parts f l = refl

-- a test that can't be false
told : (t : Bool) → (t ≡ false → false ≡ true) → t ≡ true
told true f = refl
told false f = f refl

cases_kept : (f : Fifo) (l : List ℕ) → cases_ok l ≡ true → cases_ok (between f l) ≡ true
unfolding cases_ok drives_ok flat_ok
cases_kept f l h =
    let flow : flow_ok (row_at l flow_row) ≡ true = told (flow_ok (row_at l flow_row)) (λ e. simp (e, and-false) at h) in
    rw (flow_ok_lem f) (rw flow at h)

between_long : (f : Fifo) (l : List ℕ) → record_size ≤ length (between f l)
between_long f l = omega arith

-- the record with that FIFO
pub holds_fifo : (f : Fifo) (l : List ℕ) → length f.bytes ≡ 16 → is_record l ≡ true
    → HoldsRecord (fifo_put f l) (with_fifo f (record_in l))
unfolding is_record
holds_fifo f l sixteen h =
    let long : record_size ≤ length l = record_long l h in
    let e = both (eqb (byte_at l version_at) version) (cases_ok l) (rw (le-leb record_size (length l) long) at h) in
    rw (fifo_between f l long)
    (record {
      good =
          rw (le-leb record_size (length (between f l)) (between_long f l), e.0) (cases_kept f l e.1);
      back = rw (fifo_back f sixteen) at (other_parts f l);
    })

-- what the tests say of the bytes
record Cycles (l : List ℕ) : Type 0 where
  gate : gate_in (byte_at (row_at l registers_row) dor_at) ≡ true
  dma : dma_in (byte_at (row_at l registers_row) spec2_at) ≡ true
  asks : flag_at (row_at l flow_row) asks_at ≡ true
  phase : byte_at (row_at l phase_row) tag_at ≡ 3
  work : byte_at (row_at l phase_row) work_at ≡ 1
  count : leb (byte_at (row_at l flow_row) count_at) (capacity_of (flag_at (row_at l registers_row) efifo_at)) ≡ true
  gathered : at_most (row_at l command_row) gathered_at 9 ≡ true
  left : at_most (row_at l result_row) left_at 7 ≡ true
  fifothr : at_most (row_at l registers_row) fifothr_at 15 ≡ true
  wait : at_most (row_at l spot_row) spot_count_at 64 ≡ true
  head0 : at_most (row_at l (drive_row 0)) head_at 81 ≡ true
  head1 : at_most (row_at l (drive_row 1)) head_at 81 ≡ true
  head2 : at_most (row_at l (drive_row 2)) head_at 81 ≡ true
  head3 : at_most (row_at l (drive_row 3)) head_at 81 ≡ true
  still0 : eqb (byte_at (row_at l (drive_row 0)) motion_at) 0 ≡ true
  still1 : eqb (byte_at (row_at l (drive_row 1)) motion_at) 0 ≡ true
  still2 : eqb (byte_at (row_at l (drive_row 2)) motion_at) 0 ≡ true
  still3 : eqb (byte_at (row_at l (drive_row 3)) motion_at) 0 ≡ true

cycles_told : (l : List ℕ) → cycles_in l ≡ true → Cycles l
unfolding cycles_in asked_in fifo_bounded counts_bounded bounded_in still_in drives_still
cycles_told l h =
    record {
      gate = told (gate_in (byte_at (row_at l registers_row) dor_at)) (λ e. rw e at h);
      dma = told (dma_in (byte_at (row_at l registers_row) spec2_at)) (λ e. simp (e, and-false) at h);
      asks = told (flag_at (row_at l flow_row) asks_at) (λ e. simp (e, and-false) at h);
      phase = eqb-true _ _ (told (eqb (byte_at (row_at l phase_row) tag_at) 3) (λ e. simp (e, and-false) at h));
      work = eqb-true _ _ (told (eqb (byte_at (row_at l phase_row) work_at) 1) (λ e. simp (e, and-false) at h));
      count =
          told (leb (byte_at (row_at l flow_row) count_at) (capacity_of (flag_at (row_at l registers_row) efifo_at)))
          (λ e. simp (e, and-false) at h);
      gathered = told (at_most (row_at l command_row) gathered_at 9) (λ e. simp (e, and-false) at h);
      left = told (at_most (row_at l result_row) left_at 7) (λ e. simp (e, and-false) at h);
      fifothr = told (at_most (row_at l registers_row) fifothr_at 15) (λ e. simp (e, and-false) at h);
      wait = told (at_most (row_at l spot_row) spot_count_at 64) (λ e. simp (e, and-false) at h);
      head0 = told (at_most (row_at l (drive_row 0)) head_at 81) (λ e. simp (e, and-false) at h);
      head1 = told (at_most (row_at l (drive_row 1)) head_at 81) (λ e. simp (e, and-false) at h);
      head2 = told (at_most (row_at l (drive_row 2)) head_at 81) (λ e. simp (e, and-false) at h);
      head3 = told (at_most (row_at l (drive_row 3)) head_at 81) (λ e. simp (e, and-false) at h);
      still0 = told (eqb (byte_at (row_at l (drive_row 0)) motion_at) 0) (λ e. simp (e, and-false) at h);
      still1 = told (eqb (byte_at (row_at l (drive_row 1)) motion_at) 0) (λ e. simp (e, and-false) at h);
      still2 = told (eqb (byte_at (row_at l (drive_row 2)) motion_at) 0) (λ e. simp (e, and-false) at h);
      still3 = told (eqb (byte_at (row_at l (drive_row 3)) motion_at) 0) (λ e. simp (e, and-false) at h);
    }

-- a count within the bound of a wait, whatever it counts
wait_within : (spot : Spot) → leb spot.count 64 ≡ true → leb (stage_wait (stage_from spot)) 64 ≡ true
unfolding stage_from
wait_within spot h =
    let P : Stage → Type 0 = λ s. leb (stage_wait s) 64 ≡ true in
    by_test (eqb spot.stage 0) P _ _ (λ _. refl)
    (λ _. by_test (eqb spot.stage 1) P _ _ (λ _. refl)
    (λ _. by_test (eqb spot.stage 2) P _ _ (λ _. refl)
    (λ _. by_test (eqb spot.stage 3) P _ _ (λ _. h)
    (λ _. by_test (eqb spot.stage 4) P _ _ (λ _. h) (λ _. refl)))))

phase_moving : (l : List ℕ) → Cycles l
    → phase_from (flat_in l)
    ≡ Working
    (Moving (site_in (row_at l site_row)) (task_from (row_at l task_row)) (stage_from (spot_in (row_at l spot_row))))
unfolding phase_from work_from
phase_moving l k = rw (k.phase, k.work)

-- 01 Refusals 4: the record is not damaged
cycle_valid : (l : List ℕ) → Cycles l → valid_of (record_in l) ≡ true
unfolding valid_of record_in motion_of
cycle_valid l k =
    simp (
      phase_moving l k,
      k.count,
      k.gathered,
      k.left,
      k.head0,
      k.head1,
      k.head2,
      k.head3,
      k.fifothr,
      wait_within (spot_in (row_at l spot_row)) k.wait,
      k.still0,
      k.still1,
      k.still2,
      k.still3,
    )

-- 01 Registers INT and DRQ: the lines after a cycle, whatever it does to the FIFO: INT is on for a drive's report alone
pub cycle_int : (f : Fifo) (l : List ℕ) → cycles_in l ≡ true
    → int_of (with_fifo f (record_in l)) ≡ pending_in (record_in l).drives
unfolding int_of with_fifo record_in
cycle_int f l h =
    let k : Cycles l = cycles_told l h in
    simp (k.gate, phase_moving l k, k.dma, or-false)

pass_asks : (pass : Pass) (asks : Bool) → flow_asks (pass_flow pass) asks ≡ asks
pass_asks Read asks = refl
pass_asks Write asks = refl

pub cycle_drq : (f : Fifo) (l : List ℕ) → cycles_in l ≡ true → drq_of (with_fifo f (record_in l)) ≡ f.asks
unfolding drq_of with_fifo record_in
cycle_drq f l h =
    let k : Cycles l = cycles_told l h in
    rw (k.gate, k.dma, phase_moving l k, pass_asks (task_from (row_at l task_row)).transfer.pass f.asks)

pass_told : (n : ℕ) (l : List ℕ)
    → cond (leb record_size (length l)) (cycles_in l && eqb (byte_at (row_at l task_row) pass_at) n) false ≡ true
    → (cycles_in l ≡ true) × (byte_at (row_at l task_row) pass_at ≡ n)
pass_told n l h = go (leb record_size (length l)) h
  where
    go : (t : Bool) → cond t (cycles_in l && eqb (byte_at (row_at l task_row) pass_at) n) false ≡ true
        → (cycles_in l ≡ true) × (byte_at (row_at l task_row) pass_at ≡ n)
    go true g =
        let e = both (cycles_in l) (eqb (byte_at (row_at l task_row) pass_at) n) g in
        (e.0, eqb-true (byte_at (row_at l task_row) pass_at) n e.1)
    go false g = absurd (false≢true g)

pub reading_told : (l : List ℕ) → reading_in l ≡ true → (cycles_in l ≡ true) × (byte_at (row_at l task_row) pass_at ≡ 0)
unfolding reading_in
reading_told l h = pass_told 0 l h

pub writing_told : (l : List ℕ) → writing_in l ≡ true → (cycles_in l ≡ true) × (byte_at (row_at l task_row) pass_at ≡ 1)
unfolding writing_in
writing_told l h = pass_told 1 l h

-- 01 FIFO: the host takes the front byte
pub reading_cycle : (tc : Bool) (l : List ℕ) → reading_in l ≡ true
    → dma_read tc (record_in l)
    ≡ answer_of (Byte (handed_of (record_in l).fifo)) (with_fifo (taken_of tc (record_in l).fifo) (record_in l))
unfolding dma_read moved_of cycle_of dma_read_of drq_of record_in pass_numbered
reading_cycle tc l h =
    let g = reading_told l h in
    let k : Cycles l = cycles_told l g.0 in
    rw (cycle_valid l k, k.gate, k.dma, phase_moving l k, g.1, k.asks)

-- 01 FIFO: the host gives a byte; a transfer hears TC
pub writing_cycle : (byte : ℕ) (tc : Bool) (l : List ℕ) → writing_in l ≡ true
    → dma_write byte tc (record_in l)
    ≡ answer_of Done
    (with_fifo (given_of (record_in l).registers.efifo tc byte (record_in l).fifo) (record_in l))
unfolding dma_write moved_of cycle_of dma_write_of drq_of record_in pass_numbered
writing_cycle byte tc l h =
    let g = writing_told l h in
    let k : Cycles l = cycles_told l g.0 in
    rw (cycle_valid l k, k.gate, k.dma, phase_moving l k, g.1, k.asks, and-true)

-- a cycle hands back the record with another FIFO, or as it was
pub read_keeps : (tc : Bool) (c : Controller) → with_fifo (dma_read tc c).controller.fifo c ≡ (dma_read tc c).controller
unfolding dma_read answer_of with_fifo
read_keeps tc c =
    let P : Answer → Type 0 = λ a. with_fifo a.controller.fifo c ≡ a.controller in
    by_test (valid_of c) P _ _
    (λ _. rw (dma_read_is tc c) (by_test (drq_of c && phase_to_host c.phase) P _ _ (λ _. refl) (λ _. refl)))
    (λ _. refl)

pub write_keeps : (byte : ℕ) (tc : Bool) (c : Controller)
    → with_fifo (dma_write byte tc c).controller.fifo c ≡ (dma_write byte tc c).controller
unfolding dma_write answer_of with_fifo
write_keeps byte tc c =
    let P : Answer → Type 0 = λ a. with_fifo a.controller.fifo c ≡ a.controller in
    by_test (valid_of c) P _ _
    (λ _. rw (dma_write_is byte tc c) (by_test (drq_of c && phase_from_host c.phase) P _ _ (λ _. refl) (λ _. refl)))
    (λ _. refl)
