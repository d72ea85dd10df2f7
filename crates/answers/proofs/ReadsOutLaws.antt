-- So many reads of port 5 give the result's bytes in order (01 Commands, 01 Registers INT).
-- Assumes nothing.
use Prim.Native.Nat.{ℕ, zero, suc, ◌+◌, ◌-◌, ◌/◌, ◌%◌, ◌<◌, ◌≤◌}
use native.Mathlib.Omega.{arith}
use mathlib.Core.Bool.{Bool, true, false, false≢true}
use mathlib.Core.List.{List, [], ◌∷◌, ◌++◌}
use mathlib.Core.Logic.{◌⊎◌, inl, inr, ◌↔◌}
use mathlib.Core.Path.{◌≡◌, refl, sym, ◌∙◌, ap}
use lib.ListN.{length, get_or, replicate}
use borrow.Author.Tests.{eqb-false, eq-eqb, le-leb, lt-leb}
use Rattle.image.proofs.TestLaws.{le_or_lt}
use Rattle.fdc.specs.declared.answer.Answer.{Answer}
use Rattle.fdc.specs.declared.answer.Reply.TheVariants.{Byte}
use Rattle.fdc.specs.declared.record.Controller.{Controller}
use Rattle.fdc.specs.declared.record.Phase.{Phase}
use Rattle.fdc.specs.declared.record.Phase.TheVariants.{Idle, Gathering, Starting, Working, Sensing, Answering}
use Rattle.fdc.specs.Answer.{answer_of}
use Rattle.fdc.specs.Calls.{port_of, read_reg, read_port}
use Rattle.fdc.specs.Commands.{answered_of, idled_of}
use Rattle.fdc.specs.Data.{shifted, result_taken, read_in, read_fifo}
use Rattle.fdc.specs.Record.{result_room, no_bytes}
use Rattle.fdc.specs.Registers.{held_in, dma_in, phase_status, msr_of, loud_in, phase_asks, int_of}
use Rattle.reached.specs.Runs.{reads, answer_to, after, run_calls}
use Rattle.fdc.proofs.ValidLaws.{valid_true, true_valid}
use Rattle.answers.specs.ReadsOut.{Waiting, after_reads, Pending, of_drive, SameElse, TakenOut, ReadsOut}
use Rattle.answers.specs.Registers.{Undamaged, Free, GateOn, Interrupts, of_report, of_result, of_request}
use Rattle.demands.specs.Work.{Real}
use Rattle.demands.proofs.QuietLaws.{quiet_real}
use Rattle.answers.proofs.FitLaws.{fit_real}
use Rattle.answers.proofs.RefusalLaws.{busy_le, valid_no_fault}
use Rattle.answers.proofs.RegisterLaws.{undamaged_valid, free_msr, int_interrupts, interrupts_int}
use Rattle.answers.proofs.RegisterLaws.{requests_asks, real_undamaged}

-- one read
module _ (c : Controller) (loud : Bool) (n : ℕ) (w : Waiting c loud n) where
  -- MSR shows D0 and the busy drives
  in_turn_lem : msr_of c / 64 ≡ 3
  in_turn_lem =
      let m = free_msr c w.free in
      let s : phase_status c.phase (dma_in c.registers.spec2) c.fifo.asks
      ≡ 0xD0 = ap (λ (p : Phase). phase_status p (dma_in c.registers.spec2) c.fifo.asks) w.answers in
      omega (arith, busy_le c.drives)

  read_one : answer_to (reads 5) c ≡ answer_of (Byte (get_or c.bytes.results 0 0)) (result_taken c)
  unfolding answer_to read_port port_of read_reg read_fifo read_in
  read_one = rw (undamaged_valid c w.undamaged, eq-eqb (msr_of c / 64) 3 in_turn_lem, w.answers)

  read_reply : (answer_to (reads 5) c).reply ≡ Byte (get_or c.bytes.results 0 0)
  unfolding answer_of
  read_reply = ap (λ (a : Answer). a.reply) read_one

  read_record : after (reads 5) c ≡ result_taken c
  unfolding answer_of
  read_record = ap (λ (a : Answer). a.controller) read_one

taken_last : (c : Controller) → c.bytes.left ≡ 1 → result_taken c ≡ idled_of c
unfolding result_taken
taken_last c e = rw (le-leb c.bytes.left 1 (omega arith))

taken_more : (c : Controller) (m : ℕ) → c.bytes.left ≡ suc (suc m)
    → result_taken c ≡ answered_of false (shifted c.bytes.results) (suc m) c
unfolding result_taken
taken_more c m e =
    let d : c.bytes.left - 1 ≡ suc m = omega arith in
    rw (lt-leb c.bytes.left 1 (omega arith), d)

answered_undamaged : (c : Controller) (l : List ℕ) (m : ℕ) → Undamaged c → m ≤ 7 → Undamaged (answered_of false l m c)
unfolding answered_of
answered_undamaged c l m u h =
    let v = true_valid c (undamaged_valid c u) in
    valid_no_fault _ (valid_true _ (record {
      fifo = v.fifo;
      gathered = omega arith;
      left = h;
      head0 = v.head0;
      head1 = v.head1;
      head2 = v.head2;
      head3 = v.head3;
      fifothr = v.fifothr;
      wait = omega arith;
      count0 = v.count0;
      count1 = v.count1;
      count2 = v.count2;
      count3 = v.count3;
    }))

-- the bytes that a read leaves are those behind the first
zeros_at : (n j : ℕ) → ◌≡◌ {A = ℕ} (get_or (replicate n 0) j 0) 0
zeros_at zero j = refl
zeros_at (suc n) zero = refl
zeros_at (suc n) (suc j) = zeros_at n j

append_zeros : (l : List ℕ) (n j : ℕ) → get_or (l ++ replicate n 0) j 0 ≡ get_or l j 0
append_zeros [] n j = zeros_at n j
append_zeros (x ∷ l) n zero = refl
append_zeros (x ∷ l) n (suc j) = append_zeros l n j

shifted_at : (l : List ℕ) (j : ℕ) → get_or (shifted l) j 0 ≡ get_or l (suc j) 0
shifted_at [] j = zeros_at result_room j
shifted_at (x ∷ l) j = append_zeros l (result_room - length l) j

abbrev still_loud : ℕ → Bool → Bool
still_loud zero loud = loud
still_loud (suc k) loud = false

quiet_stays : (k : ℕ) → still_loud k false ≡ false
quiet_stays zero = refl
quiet_stays (suc k) = refl

-- after k reads, of n results
record Out (c e : Controller) (loud : Bool) (k n : ℕ) : Type 0 where
  waits : Waiting e (still_loud k loud) e.bytes.left
  count : k + e.bytes.left ≡ n
  results : (j : ℕ) → get_or e.bytes.results j 0 ≡ get_or c.bytes.results (k + j) 0
  same : SameElse c e

same_else : (c e f : Controller) → SameElse c e → SameElse e f → SameElse c f
same_else c e f s t = record {
  registers = t.registers ∙ s.registers;
  drives = t.drives ∙ s.drives;
  fifo = t.fifo ∙ s.fifo;
}

-- a read that is not the last
answered_out : (c : Controller) (loud : Bool) (m : ℕ) → Waiting c loud (suc (suc m))
    → Out c (answered_of false (shifted c.bytes.results) (suc m) c) loud 1 (suc (suc m))
unfolding answered_of
answered_out c loud m w = record {
  waits = record {
    undamaged =
        answered_undamaged c _ (suc m) w.undamaged
        (omega (arith, (true_valid c (undamaged_valid c w.undamaged)).left, w.left));
    free = w.free;
    answers = refl;
    left = refl;
  };
  count = omega arith;
  results = λ j. shifted_at c.bytes.results j ∙ ap (λ (i : ℕ). get_or c.bytes.results i 0) (omega arith);
  same = record { registers = refl; drives = refl; fifo = refl };
}

first_out : (c : Controller) (loud : Bool) (m : ℕ) → Waiting c loud (suc (suc m))
    → Out c (after (reads 5) c) loud 1 (suc (suc m))
first_out c loud m w = rw (read_record c loud _ w ∙ taken_more c m w.left) (answered_out c loud m w)

out_at : (k n : ℕ) (c : Controller) (loud : Bool) → k < n → Waiting c loud n → Out c (after_reads k c) loud k n
unfolding run_calls
out_at zero n c loud h w = record {
  waits = record { undamaged = w.undamaged; free = w.free; answers = w.answers; left = refl };
  count = omega (arith, w.left);
  results = λ j. ap (λ (i : ℕ). get_or c.bytes.results i 0) (omega arith);
  same = record { registers = refl; drives = refl; fifo = refl };
}
out_at (suc k) zero c loud h w = absurd (omega arith)
out_at (suc k) (suc zero) c loud h w = absurd (omega arith)
out_at (suc k) (suc (suc m)) c loud h w =
    let f = first_out c loud m w in
    let l : (after (reads 5) c).bytes.left ≡ suc m = omega (arith, f.count) in
    let o = out_at k (suc m) (after (reads 5) c) false (omega arith) (rw l at f.waits) in
    record {
      waits = rw (quiet_stays k) at o.waits;
      count = omega (arith, o.count);
      results = λ j. o.results j ∙ f.results (k + j) ∙ ap (λ (i : ℕ). get_or c.bytes.results i 0) (omega arith);
      same = same_else c _ _ f.same o.same;
    }

-- one read more than k
reads_more : (k : ℕ) (c : Controller) → after_reads (suc k) c ≡ after (reads 5) (after_reads k c)
unfolding run_calls
reads_more zero c = refl
reads_more (suc k) c = reads_more k (after (reads 5) c)

idled_same : (c e : Controller) → SameElse c e → SameElse c (idled_of e)
unfolding idled_of
idled_same c e s = record { registers = s.registers; drives = s.drives; fifo = s.fifo }

idled_idle : (e : Controller) → ((idled_of e).phase ≡ Idle) × ((idled_of e).bytes ≡ no_bytes)
unfolding idled_of
idled_idle e = (refl, refl)

-- INT of a record that has no result with all its bytes and asks for none
abbrev Calm : Phase → Type 0
Calm p = (loud_in p ≡ false) × ((asks : Bool) → phase_asks p asks ≡ false)

calm_int : (c e : Controller) → SameElse c e → Calm e.phase → (int_of e ≡ true) ↔ (GateOn c × Pending c)
calm_int c e s calm = (λ t. to (int_interrupts e t), λ p. from p.0 p.1)
  where
    pends : Interrupts e → Pending c
    pends (of_report k h n) = of_drive k h (rw s.drives at n)
    pends (of_result p) = absurd (false≢true (sym calm.0 ∙ ap loud_in p))
    pends (of_request n r) = absurd (false≢true (sym (calm.1 e.fifo.asks) ∙ requests_asks e r))

    to : GateOn e × Interrupts e → GateOn c × Pending c
    to p = (rw s.registers at p.0, pends p.1)

    from : GateOn c → Pending c → int_of e ≡ true
    from g (of_drive k h n) = interrupts_int e (rw s.registers g) (of_report k h (rw s.drives n))

module _ (c : Controller) (loud : Bool) (m : ℕ) (w : Waiting c loud (suc m)) where
  -- the last read
  last_out : after_reads (suc m) c ≡ idled_of (after_reads m c)
  last_out =
      let o = out_at m (suc m) c loud (omega arith) w in
      reads_more m c ∙ read_record _ _ _ o.waits ∙ taken_last (after_reads m c) (omega (arith, o.count))

  at_byte : (k : ℕ) → k < suc m → (answer_to (reads 5) (after_reads k c)).reply ≡ Byte (get_or c.bytes.results k 0)
  at_byte k h =
      let o = out_at k (suc m) c loud h w in
      read_reply _ _ _ o.waits ∙ ap Byte (o.results 0 ∙ ap (λ (i : ℕ). get_or c.bytes.results i 0) (omega arith))

  at_rest : (k : ℕ) → 0 < k → k < suc m
      → ((after_reads k c).phase ≡ Answering false) × (k + (after_reads k c).bytes.left ≡ suc m)
  at_rest zero l h = absurd (omega arith)
  at_rest (suc k) l h =
      let o = out_at (suc k) (suc m) c loud h w in
      (o.waits.answers, o.count)

  at_else : (k : ℕ) → k ≤ suc m → SameElse c (after_reads k c)
  at_else k h = go (le_or_lt (suc m) k)
    where
      go : (suc m ≤ k) ⊎ (k < suc m) → SameElse c (after_reads k c)
      go (inl l) =
          let e : k ≡ suc m = omega arith in
          rw (e, last_out) (idled_same c _ (out_at m (suc m) c loud (omega arith) w).same)
      go (inr l) = (out_at k (suc m) c loud l w).same

  at_calm : (k : ℕ) → 0 < k → k ≤ suc m → Calm (after_reads k c).phase
  at_calm k p h = go (le_or_lt (suc m) k)
    where
      go : (suc m ≤ k) ⊎ (k < suc m) → Calm (after_reads k c).phase
      go (inl l) =
          let e : k ≡ suc m = omega arith in
          rw (e, last_out, (idled_idle (after_reads m c)).0) (refl, λ asks. refl)
      go (inr l) = rw (at_rest k p l).0 (refl, λ asks. refl)

  taken_out : TakenOut c (suc m)
  taken_out = record {
    byte = at_byte;
    rest = at_rest;
    idle = rw last_out (idled_idle (after_reads m c));
    int = λ k p h. calm_int c (after_reads k c) (at_else k h) (at_calm k p h);
    else = at_else;
  }

reads_any : (c : Controller) (loud : Bool) (n : ℕ) → 0 < n → Waiting c loud n → TakenOut c n
reads_any c loud zero h w = absurd (omega arith)
reads_any c loud (suc m) h w = taken_out c loud m w

-- a reached record that answers is not held in reset
answers_free : (c : Controller) (loud : Bool) → Real c → c.phase ≡ Answering loud → Free c
answers_free c loud r e = go (held_in c.registers.dor) refl
  where
    answering : Phase → Bool
    answering Idle = false
    answering (Gathering entry) = false
    answering (Starting order) = false
    answering (Working work) = false
    answering (Sensing unit) = false
    answering (Answering loud) = true

    go : (t : Bool) → held_in c.registers.dor ≡ t → Free c
    go true h = absurd (false≢true (sym (ap answering ((quiet_real c r).held h)) ∙ ap answering e))
    go false h = omega (arith, eqb-false (c.registers.dor / 4 % 2) 0 h)

reached_waits : (c : Controller) (loud : Bool) (n : ℕ) → Real c → c.phase ≡ Answering loud → c.bytes.left ≡ n
    → Waiting c loud n
reached_waits c loud n r e l = record {
  undamaged = real_undamaged c r;
  free = answers_free c loud r e;
  answers = e;
  left = l;
}

pub reads_out : ReadsOut
reads_out = record {
  seven = λ c w. taken_out c true 6 w;
  reached = λ c r e. reached_waits c true 7 r e (rw e at (fit_real c r).left);
  any = reads_any;
  reached_any = λ c r e. (reached_waits c false c.bytes.left r e refl, rw e at (fit_real c r).left);
}
