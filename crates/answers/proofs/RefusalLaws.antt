-- Refusals: each number exactly when its row says, and what a refusal gives (01 Refusals by number).
-- Assumes nothing.
use Prim.Native.Nat.{ℕ, zero, suc, ◌+◌, ◌/◌, ◌%◌, ◌<◌, ◌≤◌}
use native.Mathlib.Omega.{arith}
use Rattle.std.specs.Prelude.{Option}
use mathlib.Core.Bool.{Bool, true, false, not, ◌&&◌, cond, true≢false, false≢true}
use mathlib.Core.List.{List}
use mathlib.Core.Logic.{◌⊎◌, inl, inr, ⊎_elim}
use mathlib.Core.Path.{◌≡◌, refl, sym, ◌∙◌, ap, subst}
use lib.Dec.{eqb, leb}
use borrow.Author.Tests.{eqb-true, eqb-false, leb-true, leb-false, not-true, not-false}
use Rattle.image.proofs.TestLaws.{by_test, both, le_or_lt}
use Rattle.chip.specs.declared.refusal.Refusal.{Refusal}
use Rattle.chip.specs.declared.refusal.Refusal.TheVariants as refusal
use Rattle.chip.specs.Refusals.{number_of}
use Rattle.chip.specs.Fifo.{capacity_of}
use Rattle.drive.specs.declared.Drive.{Drive}
use Rattle.drive.specs.Drive.{countdown_of}
use Rattle.engine.specs.declared.flow.Flow.{Flow}
use Rattle.engine.specs.declared.flow.Flow.TheVariants.{Quiet, ToHost, FromHost}
use Rattle.engine.specs.Step.{to_host, from_host, flow_of}
use Rattle.fdc.specs.declared.record.Controller.{Controller}
use Rattle.fdc.specs.declared.record.Phase.{Phase}
use Rattle.fdc.specs.declared.record.Phase.TheVariants.{Idle, Gathering, Starting, Working, Sensing, Answering}
use Rattle.fdc.specs.declared.answer.Answer.{Answer}
use Rattle.fdc.specs.declared.answer.Reply.{Reply}
use Rattle.fdc.specs.declared.answer.Reply.TheVariants.{Done, Byte, Refused}
use Rattle.fdc.specs.declared.ports.Port.{Port}
use Rattle.fdc.specs.Answer.{value_of, number_in, answer_of}
use Rattle.fdc.specs.Calls.{port_of, read_reg, write_reg, power_on, read_port, write_port, dma_read, dma_write, note_change}
use Rattle.fdc.specs.Data.{phase_to_host, phase_from_host, read_in, read_fifo, write_fifo, dma_read_of}
use Rattle.fdc.specs.Data.{dma_write_of}
use Rattle.fdc.specs.Record.{drive_at, phase_wait, valid_of}
use Rattle.fdc.specs.Registers.{bit, busy_bits, flow_status, phase_status, dma_in, held_in, gate_in, phase_asks, flow_asks}
use Rattle.fdc.specs.Registers.{msr_of, int_of, drq_of}
use Rattle.reached.specs.Runs.{Call, powers, reads, writes, takes, gives, ticks, notes, answer_to, after}
use Rattle.fdc.specs.Ticks.{still_of, ruled_of, tick_of, image_after}
use Rattle.fdc.proofs.DmaLaws.{dma_read_is, dma_write_is}
use Rattle.fdc.proofs.ValidLaws.{valid_true, true_valid}
use Rattle.answers.specs.Refusals.{Fault, fifo_above, command_above, results_above, head_above, fifothr_above}
use Rattle.answers.specs.Refusals.{wait_above, countdown_above, Damaged, NoPort, OutOfTurn}
use Rattle.answers.specs.Refusals.{HeadAbove, Row, Given, number_to, kept_by, ReadsNothing}
use Rattle.answers.specs.Refusals.{RefusedExactly}
use Rattle.demands.specs.Work.{image_by}

-- 4: the six faults are what `valid_of` tests
pub below : (k : ℕ) (P : ℕ → Type 0) → k < 4 → P 0 → P 1 → P 2 → P 3 → P k
below zero P h p0 p1 p2 p3 = p0
below (suc zero) P h p0 p1 p2 p3 = p1
below (suc (suc zero)) P h p0 p1 p2 p3 = p2
below (suc (suc (suc zero))) P h p0 p1 p2 p3 = p3
below (suc (suc (suc (suc k)))) P h p0 p1 p2 p3 = absurd (omega arith)

pub valid_no_fault : (c : Controller) → valid_of c ≡ true → Fault c → ⊥
valid_no_fault c t (fifo_above h) = omega (arith, (true_valid c t).fifo)
valid_no_fault c t (command_above h) = omega (arith, (true_valid c t).gathered)
valid_no_fault c t (results_above h) = omega (arith, (true_valid c t).left)
valid_no_fault c t (head_above k l h) =
    let v = true_valid c t in
    omega (
      arith,
      below k (λ (j : ℕ). (drive_at j c.drives).head ≤ 81) l v.head0 v.head1 v.head2 v.head3,
    )
valid_no_fault c t (fifothr_above h) = omega (arith, (true_valid c t).fifothr)
valid_no_fault c t (wait_above h) = omega (arith, (true_valid c t).wait)
valid_no_fault c t (countdown_above k l h) =
    let v = true_valid c t in
    omega (
      arith,
      below k (λ (j : ℕ). countdown_of (drive_at j c.drives).motion ≤ 1000) l v.count0 v.count1 v.count2
          v.count3,
    )

module _ (c : Controller) (f : valid_of c ≡ false) where
  -- either a number is above its bound, and that is the fault, or it is not
  either : (m n : ℕ) → (n < m → Fault c) → (m ≤ n → Fault c) → Fault c
  either m n above go = ⊎_elim go above (le_or_lt m n)

  pub invalid_fault : Fault c
  invalid_fault =
      either c.fifo.count (capacity_of c.registers.efifo) fifo_above (λ fifo.
      either c.bytes.gathered 9 command_above (λ gathered.
      either c.bytes.left 7 results_above (λ left.
      either (drive_at 0 c.drives).head 81 (head_above 0 (omega arith)) (λ head0.
      either (drive_at 1 c.drives).head 81 (head_above 1 (omega arith)) (λ head1.
      either (drive_at 2 c.drives).head 81 (head_above 2 (omega arith)) (λ head2.
      either (drive_at 3 c.drives).head 81 (head_above 3 (omega arith)) (λ head3.
      either c.registers.fifothr 15 fifothr_above (λ fifothr.
      either (phase_wait c.phase) 64 wait_above (λ wait.
      either (countdown_of (drive_at 0 c.drives).motion) 1000 (countdown_above 0 (omega arith)) (λ count0.
      either (countdown_of (drive_at 1 c.drives).motion) 1000 (countdown_above 1 (omega arith)) (λ count1.
      either (countdown_of (drive_at 2 c.drives).motion) 1000 (countdown_above 2 (omega arith)) (λ count2.
      either (countdown_of (drive_at 3 c.drives).motion) 1000 (countdown_above 3 (omega arith)) (λ count3.
      absurd (false≢true (sym f ∙ valid_true c (record {
        fifo = fifo;
        gathered = gathered;
        left = left;
        head0 = head0;
        head1 = head1;
        head2 = head2;
        head3 = head3;
        fifothr = fifothr;
        wait = wait;
        count0 = count0;
        count1 = count1;
        count2 = count2;
        count3 = count3;
      }))))))))))))))))

-- how a call was answered: by 4, by another number, or not refused
data Told (call : Call) (c : Controller) (a : Answer) : Type 0 where
  damaged : Damaged call c → a ≡ answer_of (Refused refusal.Damaged) c → Told call c a
  refused : (Damaged call c → ⊥) → (why : Refusal) → Row (number_of why) call c
      → a ≡ answer_of (Refused why) (kept_by call c) → Told call c a
  passed : (Damaged call c → ⊥) → ((n : ℕ) → Row n call c → ⊥) → (reply : Reply) (e : Controller)
      → number_in reply ≡ 0 → (ReadsNothing call → value_of reply ≡ 0) → a ≡ answer_of reply e → Told call c a

-- 1: the ports that are there
port_there : (offset k : ℕ) → offset ≡ k → 1 < k → k < 8 → (k ≡ 6 → ⊥) → NoPort offset → ⊥
port_there offset k e l h n (inl p) = omega arith
port_there offset k e l h n (inr (inl p)) = omega arith
port_there offset k e l h n (inr (inr (inl p))) = n (sym e ∙ p)
port_there offset k e l h n (inr (inr (inr p))) = omega arith

no_port : (offset : ℕ) → (offset ≡ 2 → ⊥) → (offset ≡ 3 → ⊥) → (offset ≡ 4 → ⊥) → (offset ≡ 5 → ⊥)
    → (offset ≡ 7 → ⊥) → NoPort offset
no_port zero n2 n3 n4 n5 n7 = inl refl
no_port (suc zero) n2 n3 n4 n5 n7 = inr (inl refl)
no_port (suc (suc zero)) n2 n3 n4 n5 n7 = absurd (n2 refl)
no_port (suc (suc (suc zero))) n2 n3 n4 n5 n7 = absurd (n3 refl)
no_port (suc (suc (suc (suc zero)))) n2 n3 n4 n5 n7 = absurd (n4 refl)
no_port (suc (suc (suc (suc (suc zero))))) n2 n3 n4 n5 n7 = absurd (n5 refl)
no_port (suc (suc (suc (suc (suc (suc zero)))))) n2 n3 n4 n5 n7 = inr (inr (inl refl))
no_port (suc (suc (suc (suc (suc (suc (suc zero))))))) n2 n3 n4 n5 n7 = absurd (n7 refl)
no_port (suc (suc (suc (suc (suc (suc (suc (suc k)))))))) n2 n3 n4 n5 n7 = inr (inr (inr (omega arith)))

-- 2: MSR is a byte, so that its upper two bits are what `/ 64` leaves
bit_le : (b : Bool) → bit b ≤ 1
bit_le true = omega arith
bit_le false = omega arith

pub busy_le : (drives : List Drive) → busy_bits drives ≤ 15
unfolding busy_bits
busy_le drives =
    omega (
      arith,
      bit_le (drive_at 0 drives).busy,
      bit_le (drive_at 1 drives).busy,
      bit_le (drive_at 2 drives).busy,
      bit_le (drive_at 3 drives).busy,
    )

flow_le : (f : Flow) (dma asks : Bool) → flow_status f dma asks ≤ 0xF0
flow_le Quiet dma asks = omega arith
flow_le ToHost true asks = omega arith
flow_le ToHost false true = omega arith
flow_le ToHost false false = omega arith
flow_le FromHost true asks = omega arith
flow_le FromHost false true = omega arith
flow_le FromHost false false = omega arith

status_le : (p : Phase) (dma asks : Bool) → phase_status p dma asks ≤ 0xF0
status_le Idle dma asks = omega arith
status_le (Gathering entry) dma asks = omega arith
status_le (Starting order) dma asks = omega arith
status_le (Working work) dma asks = flow_le (flow_of work) dma asks
status_le (Sensing unit) dma asks = omega arith
status_le (Answering loud) dma asks = omega arith

pub msr_byte : (c : Controller) → msr_of c ≤ 255
unfolding msr_of
msr_byte c =
    by_test (held_in c.registers.dor) (λ (n : ℕ). n ≤ 255) _ _ (λ _. omega arith)
    (λ _. omega (
      arith,
      status_le c.phase (dma_in c.registers.spec2) c.fifo.asks,
      busy_le c.drives,
    ))

-- of two bits: those that a FIFO access wants, or one of them is wrong
two_bits : (m want other : ℕ) → m ≤ 255 → want ≤ 1 → other ≤ 1 → (want ≡ other → ⊥) → (m / 64 ≡ 2 + want → ⊥)
    → (m / 128 % 2 ≡ 0) ⊎ (m / 64 % 2 ≡ other)
two_bits m want other l w o d n = ⊎_elim (λ h. inl (omega arith)) (λ h. inr (omega arith)) (le_or_lt (m / 128) 0)

-- a read that is in turn is answered with a byte
data Reads (c : Controller) (a : Answer) : Type 0 where
  byte_of : (byte : ℕ) (e : Controller) → a ≡ answer_of (Byte byte) e → Reads c a

free_msr : (c : Controller) → msr_of c / 64 ≡ 3
    → (phase_status c.phase (dma_in c.registers.spec2) c.fifo.asks + busy_bits c.drives) / 64 ≡ 3
unfolding msr_of
free_msr c e = go (held_in c.registers.dor) e
  where
    go : (t : Bool)
        → cond t 0 (phase_status c.phase (dma_in c.registers.spec2) c.fifo.asks + busy_bits c.drives) / 64
        ≡ 3
        → (phase_status c.phase (dma_in c.registers.spec2) c.fifo.asks + busy_bits c.drives) / 64 ≡ 3
    go true h = absurd (omega arith)
    go false h = h

reads_in : (p : Phase) (c : Controller) (dma asks : Bool)
    → (phase_status p dma asks + busy_bits c.drives) / 64 ≡ 3 → Reads c (read_in p c)
unfolding read_in
reads_in Idle c dma asks e = absurd (omega (arith, busy_le c.drives))
reads_in (Gathering entry) c dma asks e = absurd (omega (arith, busy_le c.drives))
reads_in (Starting order) c dma asks e = absurd (omega (arith, busy_le c.drives))
reads_in (Working work) c dma asks e = byte_of _ _ refl
reads_in (Sensing unit) c dma asks e = absurd (omega (arith, busy_le c.drives))
reads_in (Answering loud) c dma asks e = byte_of _ _ refl

-- 3: a line that is on has one direction
flow_way : (f : Flow) (asks : Bool) → flow_asks f asks ≡ true → to_host f ≡ not (from_host f)
flow_way Quiet asks e = absurd (false≢true e)
flow_way ToHost asks e = refl
flow_way FromHost asks e = refl

phase_way : (p : Phase) (asks : Bool) → phase_asks p asks ≡ true → phase_to_host p ≡ not (phase_from_host p)
phase_way Idle asks e = absurd (false≢true e)
phase_way (Gathering entry) asks e = absurd (false≢true e)
phase_way (Starting order) asks e = absurd (false≢true e)
phase_way (Working work) asks e = flow_way (flow_of work) asks e
phase_way (Sensing unit) asks e = absurd (false≢true e)
phase_way (Answering loud) asks e = absurd (false≢true e)

way : (c : Controller) → drq_of c ≡ true → phase_to_host c.phase ≡ not (phase_from_host c.phase)
unfolding drq_of
way c t =
    phase_way c.phase c.fifo.asks
    (both (gate_in c.registers.dor && dma_in c.registers.spec2) _ t).1

-- a cycle of a line that is on and not of the other direction, and of any other
on_line : (drq own other : Bool) → (drq ≡ true → own ≡ not other) → (drq && own) ≡ true
    → (drq ≡ false) ⊎ (other ≡ true) → ⊥
on_line true true true w t o = false≢true (sym (w refl))
on_line true true false w t (inl e) = true≢false e
on_line true true false w t (inr e) = false≢true e
on_line true false other w t o = false≢true t
on_line false own other w t o = false≢true t

off_line : (drq own other : Bool) → (drq ≡ true → own ≡ not other) → (drq && own) ≡ false
    → (drq ≡ false) ⊎ (other ≡ true)
off_line true true other w t = absurd (true≢false t)
off_line true false true w t = inr refl
off_line true false false w t = absurd (false≢true (w refl))
off_line false own other w t = inl refl

back : (a b : Bool) → a ≡ not b → b ≡ not a
back true true e = absurd (true≢false e)
back true false e = refl
back false true e = refl
back false false e = absurd (false≢true e)

module _ (c : Controller) where
  -- a record without a fault
  module _ (t : valid_of c ≡ true) where
    sane : Fault c → ⊥
    sane = valid_no_fault c t

    -- an access to a port other than the FIFO
    read_passes : (offset k : ℕ) → offset ≡ k → 1 < k → k < 8 → (k ≡ 6 → ⊥) → (k ≡ 5 → ⊥) → (n : ℕ)
        → Row n (reads offset) c → ⊥
    read_passes offset k e l h n6 n5 n (inl p) = port_there offset k e l h n6 p.1
    read_passes offset k e l h n6 n5 n (inr p) = n5 (sym e ∙ p.1.0)

    write_passes : (offset byte k : ℕ) → offset ≡ k → 1 < k → k < 8 → (k ≡ 6 → ⊥) → (k ≡ 5 → ⊥) → (n : ℕ)
        → Row n (writes offset byte) c → ⊥
    write_passes offset byte k e l h n6 n5 n (inl p) = port_there offset k e l h n6 p.1
    write_passes offset byte k e l h n6 n5 n (inr p) = n5 (sym e ∙ p.1.0)

    -- and to the FIFO in turn
    read_turn : (offset : ℕ) → offset ≡ 5 → msr_of c / 64 ≡ 3 → (n : ℕ) → Row n (reads offset) c → ⊥
    read_turn offset e m n (inl p) = port_there offset 5 e (omega arith) (omega arith) (λ q. omega arith) p.1
    read_turn offset e m n (inr (p, (q, inl r))) = omega arith
    read_turn offset e m n (inr (p, (q, inr r))) = omega arith

    write_turn : (offset byte : ℕ) → offset ≡ 5 → msr_of c / 64 ≡ 2 → (n : ℕ) → Row n (writes offset byte) c → ⊥
    write_turn offset byte e m n (inl p) = port_there offset 5 e (omega arith) (omega arith) (λ q. omega arith) p.1
    write_turn offset byte e m n (inr (p, (q, inl r))) = omega arith
    write_turn offset byte e m n (inr (p, (q, inr r))) = omega arith

    turn_3 : (offset : ℕ) → offset ≡ 5 → (msr_of c / 64 ≡ 3 → ⊥) → OutOfTurn offset 0 c
    turn_3 offset e m = (e, two_bits (msr_of c) 1 0 (msr_byte c) (omega arith) (omega arith) (λ q. omega arith) m)

    turn_2 : (offset : ℕ) → offset ≡ 5 → (msr_of c / 64 ≡ 2 → ⊥) → OutOfTurn offset 1 c
    turn_2 offset e m = (e, two_bits (msr_of c) 0 1 (msr_byte c) (omega arith) (omega arith) (λ q. omega arith) m)

    told_byte : (offset : ℕ) (a : Answer) → ((n : ℕ) → Row n (reads offset) c → ⊥) → Reads c a
        → Told (reads offset) c a
    told_byte offset a none (byte_of byte e q) = passed sane none (Byte byte) e refl (λ z. absurd z) q

    told_fifo_read : (offset : ℕ) → offset ≡ 5 → Told (reads offset) c (read_fifo c)
    unfolding read_fifo
    told_fifo_read offset e =
        by_test (eqb (msr_of c / 64) 3) (Told (reads offset) c) _ _
        (λ m. told_byte offset _ (read_turn offset e (eqb-true _ 3 m))
        (reads_in c.phase c _ _ (free_msr c (eqb-true _ 3 m))))
        (λ m. refused sane refusal.Turn (inr (refl, turn_3 offset e (eqb-false _ 3 m))) refl)

    told_read : (offset : ℕ) → Told (reads offset) c (read_reg (port_of offset) c)
    unfolding port_of read_reg
    told_read offset =
        let P : Option Port → Type 0 = λ p. Told (reads offset) c (read_reg p c) in
        by_test (eqb offset 2) P _ _
        (λ e. passed sane (read_passes offset 2 (eqb-true _ 2 e) (omega arith) (omega arith) (λ q. omega arith)
        (λ q. omega arith))
        _ _ refl (λ z. absurd z) refl)
        (λ n2. by_test (eqb offset 3) P _ _
        (λ e. passed sane (read_passes offset 3 (eqb-true _ 3 e) (omega arith) (omega arith) (λ q. omega arith)
        (λ q. omega arith))
        _ _ refl (λ z. absurd z) refl)
        (λ n3. by_test (eqb offset 4) P _ _
        (λ e. passed sane (read_passes offset 4 (eqb-true _ 4 e) (omega arith) (omega arith) (λ q. omega arith)
        (λ q. omega arith))
        _ _ refl (λ z. absurd z) refl)
        (λ n4. by_test (eqb offset 5) P _ _
        (λ e. told_fifo_read offset (eqb-true _ 5 e))
        (λ n5. by_test (eqb offset 7) P _ _
        (λ e. passed sane (read_passes offset 7 (eqb-true _ 7 e) (omega arith) (omega arith) (λ q. omega arith)
        (λ q. omega arith))
        _ _ refl (λ z. absurd z) refl)
        (λ n7. refused sane refusal.Port (inl (
          refl,
          no_port offset (eqb-false _ 2 n2) (eqb-false _ 3 n3)
              (eqb-false _ 4 n4) (eqb-false _ 5 n5) (eqb-false _ 7 n7),
        )) refl)))))

    told_fifo_write : (offset byte : ℕ) → offset ≡ 5 → Told (writes offset byte) c (write_fifo byte c)
    unfolding write_fifo
    told_fifo_write offset byte e =
        by_test (eqb (msr_of c / 64) 2) (Told (writes offset byte) c) _ _
        (λ m. passed sane (write_turn offset byte e (eqb-true _ 2 m)) _ _ refl (λ _. refl) refl)
        (λ m. refused sane refusal.Turn (inr (refl, turn_2 offset e (eqb-false _ 2 m))) refl)

    told_write : (offset byte : ℕ) → Told (writes offset byte) c (write_reg (port_of offset) byte c)
    unfolding port_of write_reg
    told_write offset byte =
        let P : Option Port → Type 0 = λ p. Told (writes offset byte) c (write_reg p byte c) in
        by_test (eqb offset 2) P _ _
        (λ e. passed sane (write_passes offset byte 2 (eqb-true _ 2 e) (omega arith) (omega arith) (λ q. omega arith)
        (λ q. omega arith)) _ _ refl (λ _. refl) refl)
        (λ n2. by_test (eqb offset 3) P _ _
        (λ e. passed sane (write_passes offset byte 3 (eqb-true _ 3 e) (omega arith) (omega arith) (λ q. omega arith)
        (λ q. omega arith)) _ _ refl (λ _. refl) refl)
        (λ n3. by_test (eqb offset 4) P _ _
        (λ e. passed sane (write_passes offset byte 4 (eqb-true _ 4 e) (omega arith) (omega arith) (λ q. omega arith)
        (λ q. omega arith)) _ _ refl (λ _. refl) refl)
        (λ n4. by_test (eqb offset 5) P _ _
        (λ e. told_fifo_write offset byte (eqb-true _ 5 e))
        (λ n5. by_test (eqb offset 7) P _ _
        (λ e. passed sane (write_passes offset byte 7 (eqb-true _ 7 e) (omega arith) (omega arith) (λ q. omega arith)
        (λ q. omega arith)) _ _ refl (λ _. refl) refl)
        (λ n7. refused sane refusal.Port (inl (
          refl,
          no_port offset (eqb-false _ 2 n2) (eqb-false _ 3 n3)
              (eqb-false _ 4 n4) (eqb-false _ 5 n5) (eqb-false _ 7 n7),
        )) refl)))))

    told_take : (tc : Bool) → Told (takes tc) c (dma_read_of tc c)
    told_take tc =
        rw (dma_read_is tc c)
        (by_test (drq_of c && phase_to_host c.phase) (Told (takes tc) c) _ _
        (λ e. passed sane
        (λ n r. on_line (drq_of c) (phase_to_host c.phase) (phase_from_host c.phase) (way c) e r.1)
        _ _ refl (λ z. absurd z) refl)
        (λ e. refused sane refusal.Line
        (refl, off_line (drq_of c) (phase_to_host c.phase) (phase_from_host c.phase) (way c) e) refl))

    told_give : (byte : ℕ) (tc : Bool) → Told (gives byte tc) c (dma_write_of byte tc c)
    told_give byte tc =
        let away : drq_of c ≡ true → phase_from_host c.phase ≡ not (phase_to_host c.phase)
        = λ t. back (phase_to_host c.phase) (phase_from_host c.phase) (way c t) in
        rw (dma_write_is byte tc c)
        (by_test (drq_of c && phase_from_host c.phase) (Told (gives byte tc) c) _ _
        (λ e. passed sane (λ n r. on_line (drq_of c) (phase_from_host c.phase) (phase_to_host c.phase) away e r.1)
        _ _ refl (λ _. refl) refl)
        (λ e. refused sane refusal.Line
        (refl, off_line (drq_of c) (phase_from_host c.phase) (phase_to_host c.phase) away e) refl))

  told : (call : Call) → Told call c (answer_to call c)
  unfolding answer_to power_on read_port write_port dma_read dma_write tick_of ruled_of still_of note_change
  told (powers head0 head1) =
      by_test (leb head0 81 && leb head1 81) (Told (powers head0 head1) c) _ _
      (λ t. passed (λ z. z) (low t) _ _ refl (λ _. refl) refl)
      (λ t. refused (λ z. z) refusal.Head (refl, high (leb head0 81) (leb head1 81) refl refl t) refl)
    where
      low : (leb head0 81 && leb head1 81) ≡ true → (n : ℕ) → Row n (powers head0 head1) c → ⊥
      low t n (e, inl h) = omega (arith, leb-true head0 81 (both _ (leb head1 81) t).0)
      low t n (e, inr h) = omega (arith, leb-true head1 81 (both (leb head0 81) _ t).1)

      high : (x y : Bool) → leb head0 81 ≡ x → leb head1 81 ≡ y → (x && y) ≡ false → HeadAbove head0 head1
      high true true p q t = absurd (true≢false t)
      high true false p q t = inr (leb-false head1 81 q)
      high false y p q t = inl (leb-false head0 81 p)
  told (reads offset) =
      by_test (valid_of c) (Told (reads offset) c) _ _ (λ t. told_read t offset)
      (λ f. damaged (invalid_fault c f) refl)
  told (writes offset byte) =
      by_test (valid_of c) (Told (writes offset byte) c) _ _ (λ t. told_write t offset byte)
      (λ f. damaged (invalid_fault c f) refl)
  told (takes tc) =
      by_test (valid_of c) (Told (takes tc) c) _ _ (λ t. told_take t tc) (λ f. damaged (invalid_fault c f) refl)
  told (gives byte tc) =
      by_test (valid_of c) (Told (gives byte tc) c) _ _ (λ t. told_give t byte tc)
      (λ f. damaged (invalid_fault c f) refl)
  told (ticks a b) = go (valid_of c) refl
    where
      go : (t : Bool) → valid_of c ≡ t → Told (ticks a b) c (tick_of a b c)
      go true t = passed (valid_no_fault c t) (λ n z. z) Done (ruled_of a b c).controller refl (λ _. refl) (rw t)
      go false f = damaged (invalid_fault c f) (rw f)
  told (notes drive) =
      by_test (not (valid_of c)) (Told (notes drive) c) _ _
      (λ f. damaged (invalid_fault c (not-true _ f)) refl)
      (λ t. by_test (leb 2 drive) (Told (notes drive) c) _ _
      (λ h. refused (valid_no_fault c (not-false _ t)) refusal.Drive (refl, omega (arith, leb-true 2 drive h)) refl)
      (λ h. passed (valid_no_fault c (not-false _ t)) (λ n r. omega (arith, leb-false 2 drive h)) _ _ refl (λ _. refl)
      refl))

port_5 : (offset : ℕ) → offset ≡ 5 → NoPort offset → ⊥
port_5 offset e p = port_there offset 5 e (omega arith) (omega arith) (λ z. omega arith) p

-- no call has two rows at once
one_row : (m n : ℕ) (call : Call) (c : Controller) → Row m call c → Row n call c → m ≡ n
one_row m n (powers head0 head1) c p q = p.0 ∙ sym q.0
one_row m n (reads offset) c (inl p) (inl q) = p.0 ∙ sym q.0
one_row m n (reads offset) c (inl p) (inr q) = absurd (port_5 offset q.1.0 p.1)
one_row m n (reads offset) c (inr p) (inl q) = absurd (port_5 offset p.1.0 q.1)
one_row m n (reads offset) c (inr p) (inr q) = p.0 ∙ sym q.0
one_row m n (writes offset byte) c (inl p) (inl q) = p.0 ∙ sym q.0
one_row m n (writes offset byte) c (inl p) (inr q) = absurd (port_5 offset q.1.0 p.1)
one_row m n (writes offset byte) c (inr p) (inl q) = absurd (port_5 offset p.1.0 q.1)
one_row m n (writes offset byte) c (inr p) (inr q) = p.0 ∙ sym q.0
one_row m n (takes tc) c p q = p.0 ∙ sym q.0
one_row m n (gives byte tc) c p q = p.0 ∙ sym q.0
one_row m n (ticks a b) c p q = absurd p
one_row m n (notes drive) c p q = p.0 ∙ sym q.0

-- a damaged record is handed back, but power-on is handed none
kept_damaged : (call : Call) (c : Controller) → Damaged call c → kept_by call c ≡ c
kept_damaged (powers head0 head1) c d = absurd d
kept_damaged (reads offset) c d = refl
kept_damaged (writes offset byte) c d = refl
kept_damaged (takes tc) c d = refl
kept_damaged (gives byte tc) c d = refl
kept_damaged (ticks a b) c d = refl
kept_damaged (notes drive) c d = refl

module _ (call : Call) (c : Controller) where
  number : (reply : Reply) (e : Controller) → answer_to call c ≡ answer_of reply e → number_to call c ≡ number_in reply
  unfolding answer_of
  number reply e q = ap (λ (a : Answer). number_in a.reply) q

  given_of_lem : (n : ℕ) → 0 < n → number_to call c ≡ n → Told call c (answer_to call c) → Given n call c
  given_of_lem n h e (damaged d q) = inl (sym e ∙ number _ _ q, d)
  given_of_lem n h e (refused f why r q) =
      inr (f, subst (λ (m : ℕ). Row m call c) (sym (number _ _ q) ∙ e) r)
  given_of_lem n h e (passed f g reply k z v q) = absurd (omega (arith, number _ _ q))

  of_given : (n : ℕ) → Given n call c → Told call c (answer_to call c) → number_to call c ≡ n
  of_given n (inl g) (damaged d q) = number _ _ q ∙ sym g.0
  of_given n (inl g) (refused f why r q) = absurd (f g.1)
  of_given n (inl g) (passed f none reply k z v q) = absurd (f g.1)
  of_given n (inr g) (damaged d q) = absurd (g.0 d)
  of_given n (inr g) (refused f why r q) = number _ _ q ∙ one_row _ n call c r g.1
  of_given n (inr g) (passed f none reply k z v q) = absurd (none n g.1)

  value_of_lem : Told call c (answer_to call c) → 0 < number_to call c → value_of (answer_to call c).reply ≡ 0
  unfolding answer_of
  value_of_lem (damaged d q) h = ap (λ (a : Answer). value_of a.reply) q
  value_of_lem (refused f why r q) h = ap (λ (a : Answer). value_of a.reply) q
  value_of_lem (passed f none reply k z v q) h = absurd (omega (arith, number _ _ q))

  kept_of_lem : Told call c (answer_to call c) → 0 < number_to call c → after call c ≡ kept_by call c
  unfolding answer_of
  kept_of_lem (damaged d q) h = ap (λ (a : Answer). a.controller) q ∙ sym (kept_damaged call c d)
  kept_of_lem (refused f why r q) h = ap (λ (a : Answer). a.controller) q
  kept_of_lem (passed f none reply k z v q) h = absurd (omega (arith, number _ _ q))

  nothing_of : Told call c (answer_to call c) → ReadsNothing call → value_of (answer_to call c).reply ≡ 0
  unfolding answer_of
  nothing_of (damaged d q) h = ap (λ (a : Answer). value_of a.reply) q
  nothing_of (refused f why r q) h = ap (λ (a : Answer). value_of a.reply) q
  nothing_of (passed f none reply k z v q) h = ap (λ (a : Answer). value_of a.reply) q ∙ v h

  abbrev Lined : Answer → Type 0
  Lined a = (a.int ≡ int_of a.controller) × (a.drq ≡ drq_of a.controller)

  lined : (reply : Reply) (e : Controller) → answer_to call c ≡ answer_of reply e → Lined (answer_to call c)
  unfolding answer_of
  lined reply e q = rw q (refl, refl)

  lines_of : Told call c (answer_to call c) → Lined (answer_to call c)
  lines_of (damaged d q) = lined _ _ q
  lines_of (refused f why r q) = lined _ _ q
  lines_of (passed f none reply k z v q) = lined _ _ q

same : {A : Type 0} (t : Bool) (x : A) → cond t x x ≡ x
same true x = refl
same false x = refl

-- a tick that is refused has a damaged record
tick_fault : (a b : List ℕ) (c : Controller) → 0 < number_to (ticks a b) c → valid_of c ≡ false
unfolding answer_to tick_of answer_of
tick_fault a b c h = go (valid_of c) refl
  where
    go : (t : Bool) → valid_of c ≡ t → t ≡ false
    go true t = absurd (omega (arith, rw t at h))
    go false t = refl

images_of : (call : Call) (c : Controller) → 0 < number_to call c → (k : ℕ) (img : List ℕ) → image_by k img call c ≡ img
unfolding image_after ruled_of still_of
images_of (powers head0 head1) c h k img = refl
images_of (reads offset) c h k img = refl
images_of (writes offset byte) c h k img = refl
images_of (takes tc) c h k img = refl
images_of (gives byte tc) c h k img = refl
images_of (ticks a b) c h k img = rw (tick_fault a b c h) (same (eqb 0 k) img)
images_of (notes drive) c h k img = refl

pub refused_exactly : RefusedExactly
refused_exactly = record {
  exactly = λ n call c h. (λ e. given_of_lem call c n h e (told c call), λ g. of_given call c n g (told c call));
  value = λ call c h. value_of_lem call c (told c call) h;
  kept = λ call c h. kept_of_lem call c (told c call) h;
  images = images_of;
  int = λ call c. (lines_of call c (told c call)).0;
  drq = λ call c. (lines_of call c (told c call)).1;
  nothing_read = λ call c h. nothing_of call c (told c call) h;
}
