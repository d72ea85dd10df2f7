-- The library on bytes of any kind: those that hold a record, those that hold none, and power-on (specs/Lists).
-- Assumes nothing.
use Prim.Native.Nat.{ℕ, zero, suc, ◌+◌, ◌<◌, ◌≤◌}
use native.Mathlib.Omega.{arith}
use mathlib.Core.Bool.{false}
use mathlib.Core.List.{List, [], ◌∷◌, ◌++◌}
use mathlib.Core.Path.{◌≡◌, refl, ◌∙◌}
use lib.Dec.{eqb, leb}
use lib.ListN.{length, get_or, set, drop}
use lib.Seq.{sets, drop-set-lt}
use borrow.Author.Tests.{lt-leb}
use Rattle.image.proofs.TestLaws.{by_test}
use Rattle.chip.specs.declared.fifo.Fifo.{Fifo}
use Rattle.drive.specs.declared.Motion.{Motion}
use Rattle.sectors.specs.declared.order.Job.{Job}
use Rattle.sectors.specs.declared.work.Form.{Form}
use Rattle.sectors.specs.declared.work.Stage.{Stage}
use Rattle.sectors.specs.declared.work.Work.{Work}
use Rattle.fdc.specs.declared.answer.Answer.{Answer}
use Rattle.fdc.specs.declared.record.Controller.{Controller}
use Rattle.fdc.specs.declared.record.Phase.{Phase}
use Rattle.fdc.specs.Answer.{number_in}
use Rattle.fdc.specs.Calls.{power_on}
use Rattle.demands.specs.Quiet.{AllBytes}
use Rattle.pack.specs.declared.flat.Flat.{Flat}
use Rattle.pack.specs.declared.flat.Spot.{Spot}
use Rattle.pack.specs.Back.{Typed}
use Rattle.pack.specs.Bytes.{wide_of, byte_at, record_size, record_in, is_record, course_of, motion_of, flat_in, fifo_bytes}
use Rattle.pack.specs.Bytes.{flow_bytes, record_bytes, fifo_put, stored_of, fifo_stored}
use Rattle.pack.specs.Places.{drive_row, fifo_row, spot_row, wait_at, done_at}
use Rattle.pack.specs.Flat.{stage_spot, form_spot, job_flat, work_flat, phase_flat, stage_from, form_from, job_from, work_from, phase_from}
use Rattle.pack.proofs.BackLaws.{version_refused, zeros_refused}
use Rattle.capi.specs.Calls.{written_back, cycled_of, word_back, bytes_from, cycle_from, power_word, image_from, long_from}
use Rattle.capi.specs.Calls.{first_from, second_from}
use Rattle.capi.specs.Word.{no_record}
use Rattle.firmware.specs.Calls.{World, BelCall, power_on_law, read_port_law, write_port_law, dma_read_law, dma_write_law, tick}
use Rattle.firmware.specs.Calls.{note_change_law, tick_many, lends, word_to, bytes_after, first_after, second_after}
use Rattle.firmware.specs.Calls.{world_after, world_left}
use Rattle.firmware.specs.Lists.{NeedsRecord, AnyBytes}
use Rattle.firmware.proofs.ListLaws.{holds_stored}
use Rattle.firmware.proofs.TypedLaws.{typed_power_on}

pub bytes_at : (bytes : List ℕ) (k : ℕ) → AllBytes bytes → get_or bytes k 0 < 256
bytes_at [] k all = omega arith
bytes_at (x ∷ bytes) zero all = all.0
bytes_at (x ∷ bytes) (suc k) all = bytes_at bytes k all.1

-- the numbers of 16 bits that are read from bytes
wide_brief : (bytes : List ℕ) (k : ℕ) → AllBytes bytes → wide_of (byte_at bytes k) (byte_at bytes (k + 1)) < 0x10000
wide_brief bytes k all = omega (arith, bytes_at bytes k all, bytes_at bytes (k + 1) all)

motion_brief : (tag target steps wait : ℕ) → wait < 0x10000 → (course_of (motion_of tag target steps wait)).wait < 0x10000
unfolding motion_of
motion_brief tag target steps wait h =
    by_test (eqb tag 0) (λ (m : Motion). (course_of m).wait < 0x10000) _ _ (λ _. omega arith)
    (λ _. by_test (eqb tag 1) (λ (m : Motion). (course_of m).wait < 0x10000) _ _ (λ _. h) (λ _. h))

stage_done : (spot : Spot) → spot.done < 0x10000 → (stage_spot (stage_from spot)).done < 0x10000
unfolding stage_from
stage_done spot h =
    let P : Stage → Type 0 = λ s. (stage_spot s).done < 0x10000 in
    by_test (eqb spot.stage 0) P _ _ (λ _. omega arith)
    (λ _. by_test (eqb spot.stage 1) P _ _ (λ _. omega arith)
    (λ _. by_test (eqb spot.stage 2) P _ _ (λ _. h)
    (λ _. by_test (eqb spot.stage 3) P _ _ (λ _. omega arith)
    (λ _. by_test (eqb spot.stage 4) P _ _ (λ _. omega arith) (λ _. h)))))

form_done : (spot : Spot) → spot.done < 0x10000 → (form_spot (form_from spot)).done < 0x10000
unfolding form_from
form_done spot h =
    let P : Form → Type 0 = λ s. (form_spot s).done < 0x10000 in
    by_test (eqb spot.form 0) P _ _ (λ _. omega arith)
    (λ _. by_test (eqb spot.form 1) P _ _ (λ _. omega arith)
    (λ _. by_test (eqb spot.form 2) P _ _ (λ _. h) (λ _. omega arith)))

phase_done : (f : Flat) → f.spot.done < 0x10000 → (phase_flat (phase_from f)).spot.done < 0x10000
unfolding phase_from job_from work_from
phase_done f h =
    let P : Phase → Type 0 = λ p. (phase_flat p).spot.done < 0x10000 in
    let J : Job → Type 0 = λ j. (job_flat f.site.drive f.site.side j).spot.done < 0x10000 in
    let W : Work → Type 0 = λ w. (work_flat w).spot.done < 0x10000 in
    by_test (eqb f.tag 0) P _ _ (λ _. omega arith)
    (λ _. by_test (eqb f.tag 1) P _ _ (λ _. omega arith)
    (λ _. by_test (eqb f.tag 2) P _ _
    (λ _. by_test (eqb f.work 0) J _ _ (λ _. omega arith)
    (λ _. by_test (eqb f.work 1) J _ _ (λ _. omega arith) (λ _. omega arith)))
    (λ _. by_test (eqb f.tag 3) P _ _
    (λ _. by_test (eqb f.work 0) W _ _ (λ _. omega arith)
    (λ _. by_test (eqb f.work 1) W _ _ (λ _. stage_done f.spot h) (λ _. form_done f.spot h)))
    (λ _. by_test (eqb f.tag 4) P _ _ (λ _. omega arith) (λ _. omega arith)))))

typed_bytes : (l : List ℕ) → AllBytes l → Typed (record_in l)
unfolding record_in
typed_bytes l all =
    record {
      drives =
          record {
            long = refl;
            wait0 = motion_brief _ _ _ _ (wide_brief l (drive_row 0 + wait_at) all);
            wait1 = motion_brief _ _ _ _ (wide_brief l (drive_row 1 + wait_at) all);
            wait2 = motion_brief _ _ _ _ (wide_brief l (drive_row 2 + wait_at) all);
            wait3 = motion_brief _ _ _ _ (wide_brief l (drive_row 3 + wait_at) all);
          };
      fifo = refl;
      command = refl;
      results = refl;
      done = phase_done (flat_in l) (wide_brief l (spot_row + done_at) all);
    }

-- what is lent after a call, part by part
pub same_world : (w : World) (call : BelCall) → bytes_after call w ≡ w.bytes → first_after call w ≡ w.first
    → second_after call w ≡ w.second → world_after call w ≡ w
same_world w call b f s = rw (b, f, s)

pub no_record_law : (w : World) → is_record w.bytes ≡ false → (call : BelCall) → NeedsRecord call
    → (word_to call w ≡ no_record) × (world_after call w ≡ w)
unfolding word_to bytes_after first_after second_after word_back bytes_from cycle_from image_from long_from first_from second_from
no_record_law w h (power_on_law head0 head1) n = absurd n
no_record_law w h (read_port_law offset) n = (rw h, rw h)
no_record_law w h (write_port_law offset byte) n = (rw h, rw h)
no_record_law w h (dma_read_law tc) n = (rw h, rw h)
no_record_law w h (dma_write_law byte tc) n = (rw h, rw h)
no_record_law w h tick n = (rw h, rw h)
no_record_law w h (note_change_law drive) n = (rw h, rw h)
no_record_law w h (tick_many m) n = (rw h, rw h)
no_record_law w h (lends a b) n = absurd n

pub too_few : (w : World) → length w.bytes < record_size → (head0 head1 : ℕ)
    → (word_to (power_on_law head0 head1) w ≡ no_record) × (world_after (power_on_law head0 head1) w ≡ w)
unfolding word_to bytes_after first_after second_after power_word stored_of
too_few w h head0 head1 =
    let e = lt-leb record_size (length w.bytes) h in
    (rw e, rw e)

-- what is written is the record's
abbrev Behind : List ℕ → List ℕ → Type 0
Behind l after = drop record_size after ≡ drop record_size l

behind_stored : (c : Controller) (l : List ℕ) → Behind l (stored_of c l)
unfolding stored_of record_bytes
behind_stored c l = by_test (leb record_size (length l)) (Behind l) _ _ (λ _. refl) (λ _. refl)

drop_sets : (vs l : List ℕ) (i n : ℕ) → i + length vs ≤ n → drop n (sets l i vs) ≡ drop n l
drop_sets [] l i n h = refl
drop_sets (v ∷ vs) l i n h = drop_sets vs (set l i v) (suc i) n (omega arith) ∙ drop-set-lt n l i v (omega arith)

behind_fifo : (f : Fifo) (l : List ℕ) → Behind l (fifo_stored f l)
unfolding fifo_stored fifo_put
behind_fifo f l =
    by_test (leb record_size (length l)) (Behind l) _ _
    (λ _. drop_sets (fifo_bytes f ++ flow_bytes f) l fifo_row record_size (omega arith)) (λ _. refl)

behind_written : (answer : Answer) (l : List ℕ) → Behind l (bytes_from l answer)
unfolding bytes_from written_back
behind_written answer l =
    by_test (is_record l) (Behind l) _ _
    (λ _. by_test (eqb (number_in answer.reply) 0) (Behind l) _ _ (λ _. behind_stored answer.controller l)
    (λ _. refl))
    (λ _. refl)

behind_cycled : (answer : Answer) (l : List ℕ) → Behind l (cycle_from l answer)
unfolding cycle_from cycled_of
behind_cycled answer l =
    by_test (is_record l) (Behind l) _ _
    (λ _. by_test (eqb (number_in answer.reply) 0) (Behind l) _ _ (λ _. behind_fifo answer.controller.fifo l)
    (λ _. refl))
    (λ _. refl)

behind_call : (call : BelCall) (w : World) → Behind w.bytes (bytes_after call w)
unfolding bytes_after
behind_call (power_on_law head0 head1) w = behind_stored (power_on head0 head1).controller w.bytes
behind_call (read_port_law offset) w = behind_written _ w.bytes
behind_call (write_port_law offset byte) w = behind_written _ w.bytes
behind_call (dma_read_law tc) w = behind_cycled _ w.bytes
behind_call (dma_write_law byte tc) w = behind_cycled _ w.bytes
behind_call tick w = behind_written _ w.bytes
behind_call (note_change_law drive) w = behind_written _ w.bytes
behind_call (tick_many n) w = behind_written _ w.bytes
behind_call (lends a b) w = refl

behind_list : (calls : List BelCall) (w : World) → Behind w.bytes (world_left calls w).bytes
unfolding world_left
behind_list [] w = refl
behind_list (call ∷ calls) w = behind_list calls (world_after call w) ∙ behind_call call w

pub any_bytes : (w : World) → AnyBytes w
unfolding bytes_after first_after second_after
any_bytes w =
    record {
      typed = typed_bytes w.bytes;
      powered = λ h head0 head1. (
        record {
          record_is = holds_stored (power_on head0 head1).controller w.bytes h (typed_power_on head0 head1);
          first = refl;
          second = refl;
        },
        typed_power_on head0 head1,
      );
      short = too_few w;
      no_record_law = no_record_law w;
      another_version = version_refused w.bytes;
      zeros = λ n e. rw e (zeros_refused n);
      behind = λ calls. behind_list calls w;
    }
