-- The registers and lines as the calls show them (01 Registers): MSR by phase, INT, DRQ, read-back, DIR, power-on
-- values.
-- Assumes nothing.
use Prim.Native.Nat.{ℕ, ◌+◌, ◌*◌, ◌/◌, ◌%◌, ◌^◌, ◌<◌, ◌≤◌}
use native.Mathlib.Omega.{arith}
use mathlib.Core.Bool.{Bool, true, false, not, ◌&&◌, ◌||◌, cond, false≢true, or-true}
use mathlib.Core.Logic.{◌⊎◌, inl, inr, ◌↔◌}
use mathlib.Core.Path.{◌≡◌, refl, sym, ◌∙◌, ap}
use lib.Dec.{leb}
use borrow.Author.Tests.{eqb-true, eqb-false, eq-eqb, ne_eqb, le-leb, lt-leb, not-true}
use Rattle.image.proofs.TestLaws.{by_test, both}
use Rattle.engine.specs.declared.flow.Flow.{Flow}
use Rattle.engine.specs.declared.flow.Flow.TheVariants.{Quiet, ToHost, FromHost}
use Rattle.sectors.specs.declared.order.Pass.{Pass}
use Rattle.sectors.specs.declared.order.Pass.TheVariants.{Read, Write}
use Rattle.sectors.specs.declared.work.Work.{Work}
use Rattle.sectors.specs.declared.work.Work.TheVariants.{Identifying, Moving, Formatting}
use Rattle.engine.specs.Step.{pass_flow, flow_of}
use Rattle.fdc.specs.declared.record.Controller.{Controller}
use Rattle.fdc.specs.declared.record.Phase.{Phase}
use Rattle.fdc.specs.declared.record.Phase.TheVariants.{Idle, Gathering, Starting, Working, Sensing, Answering}
use Rattle.fdc.specs.Answer.{answer_of}
use Rattle.fdc.specs.Calls.{port_of, read_reg, write_reg, power_on, read_port, write_port}
use Rattle.fdc.specs.Record.{drive_at, valid_of, fresh_of, with_registers}
use Rattle.fdc.specs.Registers.{bit, held_in, gate_in, motor_in, dma_in, report_at, busy_bits, pending_in, flow_status}
use Rattle.fdc.specs.Registers.{phase_status}
use Rattle.fdc.specs.Registers.{msr_of, flow_asks, phase_asks, loud_in, int_of, drq_of, dir_of}
use Rattle.fdc.specs.Reset.{with_dor, with_tdr, wrote_dor}
use Rattle.reached.specs.Runs.{Call, powers, writes, answer_to, after}
use Rattle.reached.proofs.GoodLaws.{good_valid, good_after, good_reached}
use Rattle.answers.specs.Registers.{Undamaged, Held, Free, GateOn, Dma, NonDma, reads_as, Shows, MsrByPhase}
use Rattle.answers.specs.Registers.{MovesBytes}
use Rattle.answers.specs.Registers.{Requests, asks_for, Interrupts, of_report, of_result, of_request, Lines}
use Rattle.answers.specs.Registers.{RegistersBack}
use Rattle.answers.specs.Registers.{drive_selected, MotorOn, Dir, PowerOn, PowerOnValues}
use Rattle.demands.specs.Work.{Real}
use Rattle.answers.proofs.Answers.{real_reached}
use Rattle.answers.proofs.RefusalLaws.{below, invalid_fault, valid_no_fault, busy_le, refused_exactly}

pub undamaged_valid : (c : Controller) → Undamaged c → valid_of c ≡ true
undamaged_valid c u = go (valid_of c) refl
  where
    go : (t : Bool) → valid_of c ≡ t → t ≡ true
    go true e = refl
    go false e = absurd (u (invalid_fault c e))

-- a reached record has no fault
pub real_valid : (c : Controller) → Real c → valid_of c ≡ true
real_valid c r = good_valid c (good_reached c (real_reached c r))

pub real_undamaged : (c : Controller) → Real c → Undamaged c
real_undamaged c r = valid_no_fault c (real_valid c r)

-- MSR
module _ (c : Controller) where
  reads_msr : valid_of c ≡ true → reads_as 4 c ≡ msr_of c
  unfolding answer_to read_port port_of read_reg answer_of
  reads_msr t = rw t

  pub free_msr : Free c
      → msr_of c ≡ phase_status c.phase (dma_in c.registers.spec2) c.fifo.asks + busy_bits c.drives
  unfolding msr_of
  free_msr f = rw (ne_eqb (c.registers.dor / 4 % 2) 0 (λ e. omega arith))

  shows : (upper : ℕ) → phase_status c.phase (dma_in c.registers.spec2) c.fifo.asks ≡ upper
      → upper / 16 * 16 ≡ upper → Shows upper c
  shows upper e m u f =
      omega (arith, reads_msr (undamaged_valid c u), free_msr f, e, busy_le c.drives)

  in_phase : (p : Phase) (upper : ℕ) → c.phase ≡ p
      → phase_status p (dma_in c.registers.spec2) c.fifo.asks ≡ upper → upper / 16 * 16 ≡ upper → Shows upper c
  in_phase p upper e s m =
      shows upper (ap (λ (q : Phase). phase_status q (dma_in c.registers.spec2) c.fifo.asks) e ∙ s) m

  non_dma : NonDma c → dma_in c.registers.spec2 ≡ false
  non_dma n = ne_eqb (c.registers.spec2 % 2) 0 (λ e. omega arith)

  dma_status : (f : Flow) (asks : Bool) → flow_status f true asks ≡ 0x10
  dma_status Quiet asks = refl
  dma_status ToHost asks = refl
  dma_status FromHost asks = refl

  sixteen : (t : Bool) (x y : ℕ) → x / 16 * 16 ≡ x → y / 16 * 16 ≡ y → cond t x y / 16 * 16 ≡ cond t x y
  sixteen true x y p q = p
  sixteen false x y p q = q

  status_16 : (p : Phase) (dma asks : Bool) → phase_status p dma asks % 16 ≡ 0
  status_16 Idle dma asks = refl
  status_16 (Gathering entry) dma asks = refl
  status_16 (Starting order) dma asks = refl
  status_16 (Working work) dma asks = go (flow_of work) dma asks
    where
      go : (f : Flow) (dma asks : Bool) → flow_status f dma asks % 16 ≡ 0
      go Quiet dma asks = refl
      go ToHost true asks = refl
      go ToHost false true = refl
      go ToHost false false = refl
      go FromHost true asks = refl
      go FromHost false true = refl
      go FromHost false false = refl
  status_16 (Sensing unit) dma asks = refl
  status_16 (Answering loud) dma asks = refl

  bit_iff : (t : Bool) (n : ℕ) → n ≡ bit t → (n ≡ 1) ↔ (t ≡ true)
  bit_iff true n e = (λ _. refl, λ _. e)
  bit_iff false n e = (λ h. absurd (omega arith), λ h. absurd (false≢true h))

  bit_le : (t : Bool) → bit t ≤ 1
  bit_le true = omega arith
  bit_le false = omega arith

  low_bit : (k : ℕ) → k < 4 → Undamaged c → Free c → reads_as 4 c / 2 ^ k % 2 ≡ bit (drive_at k c.drives).busy
  unfolding busy_bits
  low_bit k h u f =
      let m = reads_msr (undamaged_valid c u) ∙ free_msr f in
      let s = status_16 c.phase (dma_in c.registers.spec2) c.fifo.asks in
      let b0 = bit_le (drive_at 0 c.drives).busy in
      let b1 = bit_le (drive_at 1 c.drives).busy in
      let b2 = bit_le (drive_at 2 c.drives).busy in
      let b3 = bit_le (drive_at 3 c.drives).busy in
      below k (λ (j : ℕ). reads_as 4 c / 2 ^ j % 2 ≡ bit (drive_at j c.drives).busy) h (omega arith) (omega arith)
      (omega arith) (omega arith)

  held_msr : Undamaged c → Held c → reads_as 4 c ≡ 0x00
  unfolding msr_of
  held_msr u h = reads_msr (undamaged_valid c u) ∙ rw (eq-eqb (c.registers.dor / 4 % 2) 0 h)

  pub msr_by_phase : MsrByPhase c
  msr_by_phase = record {
    idle = λ e. in_phase Idle 0x80 e refl refl;
    gathering = λ entry e. in_phase (Gathering entry) 0x90 e refl refl;
    answering = λ loud e. in_phase (Answering loud) 0xD0 e refl refl;
    in_dma = λ work e d.
        in_phase (Working work) 0x10 e
        (ap (λ (t : Bool). flow_status (flow_of work) t c.fifo.asks) (eq-eqb (c.registers.spec2 % 2) 0 d)
        ∙ dma_status (flow_of work) c.fifo.asks) refl;
    starting = λ order e. in_phase (Starting order) 0x10 e refl refl;
    identifying = λ site slot passes e. in_phase (Working (Identifying site slot passes)) 0x10 e refl refl;
    sensing = λ unit e. in_phase (Sensing unit) 0x10 e refl refl;
    to_host_law = λ site task stage e p n.
        in_phase (Working (Moving site task stage)) _ e (rw (p, non_dma n))
        (sixteen c.fifo.asks 0xF0 0x70 refl refl);
    from_host_law = λ site task stage e p n.
        in_phase (Working (Moving site task stage)) _ e (rw (p, non_dma n))
        (sixteen c.fifo.asks 0xB0 0x30 refl refl);
    formatting = λ site plan form e n.
        in_phase (Working (Formatting site plan form)) _ e (rw (non_dma n))
        (sixteen c.fifo.asks 0xB0 0x30 refl refl);
    busy = λ k h u f. bit_iff (drive_at k c.drives).busy _ (low_bit k h u f);
    held = held_msr;
  }

-- INT AND DRQ
either : (a b : Bool) → (a || b) ≡ true → (a ≡ true) ⊎ (b ≡ true)
either true b e = inl refl
either false b e = inr e

pass_asks : (p : Pass) (asks : Bool) → flow_asks (pass_flow p) asks ≡ asks
pass_asks Read asks = refl
pass_asks Write asks = refl

module _ (c : Controller) where
  -- a request
  asks_requests : phase_asks c.phase c.fifo.asks ≡ true → Requests c
  asks_requests = go c.phase refl
    where
      of_work : (work : Work) → c.phase ≡ Working work → flow_asks (flow_of work) c.fifo.asks ≡ true → Requests c
      of_work (Identifying site slot passes) e h = absurd (false≢true h)
      of_work (Moving site task stage) e h =
          asks_for _ e tt (sym (pass_asks task.transfer.pass c.fifo.asks) ∙ h)
      of_work (Formatting site plan form) e h = asks_for _ e tt h

      go : (p : Phase) → c.phase ≡ p → phase_asks p c.fifo.asks ≡ true → Requests c
      go Idle e h = absurd (false≢true h)
      go (Gathering entry) e h = absurd (false≢true h)
      go (Starting order) e h = absurd (false≢true h)
      go (Working work) e h = of_work work e h
      go (Sensing unit) e h = absurd (false≢true h)
      go (Answering loud) e h = absurd (false≢true h)

  pub requests_asks : Requests c → phase_asks c.phase c.fifo.asks ≡ true
  requests_asks (asks_for work e m h) = rw e (go work m)
    where
      go : (w : Work) → MovesBytes w → flow_asks (flow_of w) c.fifo.asks ≡ true
      go (Identifying site slot passes) m = absurd m
      go (Moving site task stage) m = pass_asks task.transfer.pass c.fifo.asks ∙ h
      go (Formatting site plan form) m = h

  -- a result with no byte taken
  loud_result : loud_in c.phase ≡ true → c.phase ≡ Answering true
  loud_result = go c.phase refl
    where
      go : (p : Phase) → c.phase ≡ p → loud_in p ≡ true → c.phase ≡ Answering true
      go Idle e h = absurd (false≢true h)
      go (Gathering entry) e h = absurd (false≢true h)
      go (Starting order) e h = absurd (false≢true h)
      go (Working work) e h = absurd (false≢true h)
      go (Sensing unit) e h = absurd (false≢true h)
      go (Answering loud) e h = e ∙ ap Answering h

  -- a report
  report_of_lem : (k : ℕ) → k < 4 → report_at k c.drives ≡ true → Interrupts c
  report_of_lem k h t = of_report k h (eqb-false (drive_at k c.drives).report 0 (not-true _ t))

  pending_reports : pending_in c.drives ≡ true → Interrupts c
  unfolding pending_in
  pending_reports t = from_3 (either (report_at 0 c.drives || report_at 1 c.drives || report_at 2 c.drives) _ t)
    where
      from_1 : (report_at 0 c.drives ≡ true) ⊎ (report_at 1 c.drives ≡ true) → Interrupts c
      from_1 (inl e) = report_of_lem 0 (omega arith) e
      from_1 (inr e) = report_of_lem 1 (omega arith) e

      from_2 : ((report_at 0 c.drives || report_at 1 c.drives) ≡ true) ⊎ (report_at 2 c.drives ≡ true)
          → Interrupts c
      from_2 (inl e) = from_1 (either (report_at 0 c.drives) _ e)
      from_2 (inr e) = report_of_lem 2 (omega arith) e

      from_3 : ((report_at 0 c.drives || report_at 1 c.drives || report_at 2 c.drives) ≡ true)
          ⊎ (report_at 3 c.drives ≡ true) → Interrupts c
      from_3 (inl e) = from_2 (either (report_at 0 c.drives || report_at 1 c.drives) _ e)
      from_3 (inr e) = report_of_lem 3 (omega arith) e

  reports_pending : (k : ℕ) → k < 4 → report_at k c.drives ≡ true → pending_in c.drives ≡ true
  unfolding pending_in
  reports_pending k h =
      below k (λ (j : ℕ). report_at j c.drives ≡ true
      → (report_at 0 c.drives || report_at 1 c.drives || report_at 2 c.drives || report_at 3 c.drives) ≡ true) h
      (λ e. rw e) (λ e. simp (e, or-true)) (λ e. simp (e, or-true)) (λ e. simp (e, or-true))

  not_dma : (not (dma_in c.registers.spec2)) ≡ true → NonDma c
  not_dma e = omega (arith, eqb-false (c.registers.spec2 % 2) 0 (not-true _ e))

  gate_true : GateOn c → gate_in c.registers.dor ≡ true
  gate_true g = eq-eqb (c.registers.dor / 8 % 2) 1 (omega arith)

  pub int_interrupts : int_of c ≡ true → GateOn c × Interrupts c
  unfolding int_of
  int_interrupts t =
      let (g, w) = both (gate_in c.registers.dor) _ t in (
        omega (arith, eqb-true (c.registers.dor / 8 % 2) 1 g),
        go (either (pending_in c.drives || loud_in c.phase) _ w),
      )
    where
      first : (pending_in c.drives ≡ true) ⊎ (loud_in c.phase ≡ true) → Interrupts c
      first (inl e) = pending_reports e
      first (inr e) = of_result (loud_result e)

      go : ((pending_in c.drives || loud_in c.phase) ≡ true)
          ⊎ ((not (dma_in c.registers.spec2) && phase_asks c.phase c.fifo.asks) ≡ true) → Interrupts c
      go (inl e) = first (either (pending_in c.drives) _ e)
      go (inr e) =
          let (n, q) = both (not (dma_in c.registers.spec2)) _ e in
          of_request (not_dma n) (asks_requests q)

  pub interrupts_int : GateOn c → Interrupts c → int_of c ≡ true
  unfolding int_of
  interrupts_int g (of_report k h n) =
      rw (
        gate_true g,
        reports_pending k h (ap not (ne_eqb (drive_at k c.drives).report 0 n)),
      )
  interrupts_int g (of_result e) = simp (gate_true g, ap loud_in e, or-true)
  interrupts_int g (of_request n r) =
      simp (gate_true g, non_dma c n, requests_asks r, or-true)

  drq_requests : drq_of c ≡ true → GateOn c × (Dma c × Requests c)
  unfolding drq_of
  drq_requests t =
      let (gd, q) = both (gate_in c.registers.dor && dma_in c.registers.spec2) _ t in
      let (g, d) = both (gate_in c.registers.dor) _ gd in (
        omega (arith, eqb-true (c.registers.dor / 8 % 2) 1 g),
        (eqb-true (c.registers.spec2 % 2) 0 d, asks_requests q),
      )

  requests_drq : GateOn c → Dma c → Requests c → drq_of c ≡ true
  unfolding drq_of
  requests_drq g d r =
      simp (gate_true g, eq-eqb (c.registers.spec2 % 2) 0 d, requests_asks r)

pub lines : Lines
lines = record {
  int = λ call c. (
    λ e. int_interrupts (after call c) (sym (refused_exactly.int call c) ∙ e),
    λ p. refused_exactly.int call c ∙ interrupts_int (after call c) p.0 p.1,
  );
  drq = λ call c. (
    λ e. drq_requests (after call c) (sym (refused_exactly.drq call c) ∙ e),
    λ p. refused_exactly.drq call c ∙ requests_drq (after call c) p.0 p.1.0 p.1.1,
  );
}

-- READ-BACK
pub after_valid : (call : Call) (c : Controller) → Real c → valid_of (after call c) ≡ true
after_valid call c r = good_valid _ (good_after call c (good_reached c (real_reached c r)))

module _ (c : Controller) (byte : ℕ) where
  wrote_dor_lem : (wrote_dor byte c).registers.dor ≡ byte
  unfolding wrote_dor with_dor with_registers
  wrote_dor_lem =
      by_test (held_in byte) (λ (e : Controller). e.registers.dor ≡ byte) _ _ (λ _. refl)
      (λ _. by_test (held_in c.registers.dor) (λ (e : Controller). e.registers.dor ≡ byte) _ _ (λ _. refl)
      (λ _. refl))

  pub after_dor : valid_of c ≡ true → after (writes 2 byte) c ≡ wrote_dor byte c
  unfolding answer_to write_port port_of write_reg answer_of
  after_dor t = rw (t, after)

  after_tdr : valid_of c ≡ true → (after (writes 3 byte) c).registers.tdr ≡ byte % 4
  unfolding answer_to write_port port_of write_reg answer_of with_tdr with_registers
  after_tdr t = rw (t, after)

reads_dor : (e : Controller) → valid_of e ≡ true → reads_as 2 e ≡ e.registers.dor
unfolding answer_to read_port port_of read_reg answer_of
reads_dor e t = rw t

reads_tdr : (e : Controller) → valid_of e ≡ true → reads_as 3 e ≡ e.registers.tdr % 4
unfolding answer_to read_port port_of read_reg answer_of
reads_tdr e t = rw t

pub read_back : RegistersBack
read_back = record {
  dor = λ c byte r.
      reads_dor (after (writes 2 byte) c) (after_valid (writes 2 byte) c r)
      ∙ ap (λ (e : Controller). e.registers.dor) (after_dor c byte (real_valid c r)) ∙ wrote_dor_lem c byte;
  tdr = λ c byte r.
      reads_tdr (after (writes 3 byte) c) (after_valid (writes 3 byte) c r)
      ∙ omega (arith, after_tdr c byte (real_valid c r));
}

-- DIR
module _ (c : Controller) where
  reads_dir : Undamaged c → reads_as 7 c ≡ dir_of c
  unfolding answer_to read_port port_of read_reg answer_of
  reads_dir u = rw (undamaged_valid c u)

  dir_changed : MotorOn c → (2 ≤ drive_selected c) ⊎ ((drive_at (drive_selected c) c.drives).changed ≡ true) → dir_of c ≡ 0x80
  unfolding dir_of motor_in
  dir_changed m (inl h) = rw (eq-eqb (c.registers.dor / 2 ^ (4 + drive_selected c) % 2) 1 m, le-leb 2 (drive_selected c) h)
  dir_changed m (inr h) = simp (eq-eqb (c.registers.dor / 2 ^ (4 + drive_selected c) % 2) 1 m, h, or-true)

  dir_unchanged : drive_selected c < 2 → (drive_at (drive_selected c) c.drives).changed ≡ false → dir_of c ≡ 0x00
  unfolding dir_of
  dir_unchanged h e =
      simp (lt-leb 2 (drive_selected c) h, e)
      (by_test (motor_in c.registers.dor c.registers.dor && false) (λ (n : ℕ). n ≡ 0) _ _
      (λ t. absurd (false≢true (both (motor_in c.registers.dor c.registers.dor) _ t).1)) (λ _. refl))

  dir_off : (MotorOn c → ⊥) → dir_of c ≡ 0x00
  unfolding dir_of motor_in
  dir_off n = rw (ne_eqb (c.registers.dor / 2 ^ (4 + drive_selected c) % 2) 1 n)

  pub dir : Dir c
  dir = record {
    changed = λ u m h. reads_dir u ∙ dir_changed m h;
    unchanged = λ u h e. reads_dir u ∙ dir_unchanged h e;
    motor_off = λ u n. reads_dir u ∙ dir_off n;
  }

-- POWER-ON
after_power : (c : Controller) (head0 head1 : ℕ) → head0 ≤ 81 → head1 ≤ 81
    → after (powers head0 head1) c ≡ fresh_of head0 head1
unfolding answer_to power_on answer_of
after_power c head0 head1 h k =
    let t : (leb head0 81 && leb head1 81) ≡ true = simp (le-leb head0 81 h, le-leb head1 81 k) in
    rw (t, after)

fresh_is : (head0 head1 : ℕ) → PowerOn head0 head1 (fresh_of head0 head1)
unfolding fresh_of
fresh_is head0 head1 = record {
  dor = refl;
  tdr = refl;
  spec1 = refl;
  spec2 = refl;
  efifo = refl;
  fifothr = refl;
  pretrk = refl;
  eis = refl;
  poll = refl;
  rate = refl;
  pcn = λ k h. below k (λ (j : ℕ). (drive_at j (fresh_of head0 head1).drives).pcn ≡ 0) h refl refl refl refl;
  changed = λ k h. below k (λ (j : ℕ). (drive_at j (fresh_of head0 head1).drives).changed ≡ true) h refl refl refl refl;
  head_0 = refl;
  head_1 = refl;
}

pub power_on_values : PowerOnValues
power_on_values c head0 head1 h k = rw (after_power c head0 head1 h k) (fresh_is head0 head1)
