-- The FIFO served, a cycle, a tick and a result byte at a time (02 2026-01).
-- Assumes nothing.
use Prim.Native.Nat.{ℕ, zero, suc, ◌+◌, ◌-◌, ◌≤◌, ◌<◌}
use native.Mathlib.Omega.{arith}
use mathlib.Core.Bool.{Bool, true, false, cond, true≢false}
use mathlib.Core.List.{List}
use mathlib.Core.Path.{◌≡◌, refl, ap, ◌∙◌}
use lib.Dec.{eqb, eqb-suc-suc}
use lib.ListN.{length, get_or, set, length-set}
use Rattle.image.proofs.TestLaws.{by_test}
use Rattle.fdc.specs.declared.answer.Answer.{Answer}
use Rattle.fdc.specs.declared.record.Controller.{Controller}
use Rattle.fdc.specs.Answer.{value_of}
use Rattle.fdc.specs.Calls.{read_port, dma_read, dma_write}
use Rattle.fdc.specs.Ticks.{tick_of, image_after}
use Rattle.block.specs.declared.serve.Passed.{Passed}
use Rattle.block.specs.Box.{Box, box_of, Came, came_with}
use Rattle.block.specs.Serve.{Taking, taking, took_of, takes_of, CameRead, came_read, reads_of}
use Rattle.block.specs.Serve.{giving, gave_of, gives_of, writes_of, Status, status_with, status_from}
use Rattle.block.proofs.BoxLaws.{ticked_box}

-- the byte in hand is the last: so many are left
left_one : (n k : ℕ) → k < n → eqb (n - k) 1 ≡ eqb (n - (k + 1)) 0
left_one n k h =
    let e : n - k ≡ suc (n - (k + 1)) = omega arith in
    rw e (eqb-suc-suc (n - (k + 1)) 0)

-- no cycle is made
stays : {A : Type 0} (t : Bool) (x y : A) → t ≡ false → cond t x y ≡ y
stays true x y e = absurd (true≢false e)
stays false x y e = refl

-- a byte is taken
take_step : (n : ℕ) (last next : Answer) (out : List ℕ) (k byte : ℕ)
    → last.drq ≡ true
    → next ≡ dma_read (eqb n 0) last.controller
    → byte ≡ value_of next.reply
    → takes_of (suc n) (taking last out k) ≡ takes_of n (taking next (set out k byte) (k + 1))
unfolding takes_of took_of
take_step n last next out k byte drq dma value = rw (drq, value, dma)

module _
    (last : Answer)
    (out : List ℕ)
    (k : ℕ)
    (whole : Taking)
    (run : whole ≡ takes_of (length out - k) (taking last out k))
  where
    pub take_on : (next : Answer) (byte : ℕ)
        → k < length out
        → last.drq ≡ true
        → next ≡ dma_read (eqb (length out - k) 1) last.controller
        → byte ≡ value_of next.reply
        → whole ≡ takes_of (length (set out k byte) - (k + 1)) (taking next (set out k byte) (k + 1))
    take_on next byte h drq dma value =
        let e : length out - k ≡ suc (length out - (k + 1)) = omega arith in
        rw length-set
        (run ∙ ap (λ (n : ℕ). takes_of n (taking last out k)) e
        ∙ take_step (length out - (k + 1)) last next out k byte drq (rw (left_one (length out) k h) at dma) value)

    -- DRQ is off
    pub take_off : k < length out → last.drq ≡ false → whole ≡ taking last out k
    unfolding takes_of
    take_off h off =
        let e : length out - k ≡ suc (length out - (k + 1)) = omega arith in
        run ∙ ap (λ (n : ℕ). takes_of n (taking last out k)) e ∙ stays last.drq _ (taking last out k) off

    -- no byte is left
    pub take_over : length out ≤ k → whole ≡ taking last out k
    unfolding takes_of
    take_over h =
        let e : length out - k ≡ 0 = omega arith in
        rw e at run

-- the caller's block keeps its length
pub taken_length : (n : ℕ) (t : Taking) → length (takes_of n t).out ≡ length t.out
unfolding takes_of took_of
taken_length zero t = refl
taken_length (suc n) t =
    by_test t.answer.drq (λ (r : Taking). length r.out ≡ length t.out) (takes_of n (took_of (eqb n 0) t)) t
    (λ e. taken_length n (took_of (eqb n 0) t) ∙ length-set t.out t.done _) (λ e. refl)

-- a byte is given
give_step : (n : ℕ) (last next : Answer) (bytes : List ℕ) (k : ℕ)
    → last.drq ≡ true
    → next ≡ dma_write (get_or bytes k 0) (eqb n 0) last.controller
    → gives_of (suc n) bytes (giving last k) ≡ gives_of n bytes (giving next (k + 1))
unfolding gives_of gave_of
give_step n last next bytes k drq dma = rw (drq, dma)

module _
    (last : Answer)
    (bytes : List ℕ)
    (k : ℕ)
    (whole : Passed)
    (run : whole ≡ gives_of (length bytes - k) bytes (giving last k))
  where
    pub give_on : (next : Answer)
        → k < length bytes
        → last.drq ≡ true
        → next ≡ dma_write (get_or bytes k 0) (eqb (length bytes - k) 1) last.controller
        → whole ≡ gives_of (length bytes - (k + 1)) bytes (giving next (k + 1))
    give_on next h drq dma =
        let e : length bytes - k ≡ suc (length bytes - (k + 1)) = omega arith in
        run ∙ ap (λ (n : ℕ). gives_of n bytes (giving last k)) e
        ∙ give_step (length bytes - (k + 1)) last next bytes k drq (rw (left_one (length bytes) k h) at dma)

    pub give_off : k < length bytes → last.drq ≡ false → whole ≡ giving last k
    unfolding gives_of
    give_off h off =
        let e : length bytes - k ≡ suc (length bytes - (k + 1)) = omega arith in
        run ∙ ap (λ (n : ℕ). gives_of n bytes (giving last k)) e ∙ stays last.drq _ (giving last k) off

    pub give_over : length bytes ≤ k → whole ≡ giving last k
    unfolding gives_of
    give_over h =
        let e : length bytes - k ≡ 0 = omega arith in
        rw e at run

-- a tick, and what is passed after it
module _
    (c : Controller)
    (next : Answer)
    (a b x y : List ℕ)
    (tick : next ≡ tick_of a b c)
    (first : x ≡ image_after 0 a b c a)
    (second : y ≡ image_after 1 a b c b)
    (budget i : ℕ)
    (some : i < budget)
  where
    one_less : budget - i ≡ suc (budget - (i + 1))
    one_less = omega arith

    module _
        (out : List ℕ)
        (done : ℕ)
        (whole : CameRead)
        (run : whole ≡ reads_of (budget - i) (box_of c a b) out done)
      where
        -- no INT
        pub read_on_lem : (out' : List ℕ) (p : Passed) → next.int ≡ false
            → taking p.answer out' p.done ≡ takes_of (length out - done) (taking next out done)
            → whole ≡ reads_of (budget - (i + 1)) (box_of p.answer.controller x y) out' p.done
        unfolding reads_of
        read_on_lem out' p low passed =
            rw (one_less, ticked_box c next a b x y tick first second, ← tick, ← passed, low) at run

        -- INT
        pub read_came : next.int ≡ true → whole ≡ came_read true (box_of next.controller x y) out
        unfolding reads_of
        read_came high = rw (one_less, ticked_box c next a b x y tick first second, ← tick, high) at run

    module _
        (bytes : List ℕ)
        (done : ℕ)
        (whole : Came)
        (run : whole ≡ writes_of (budget - i) (box_of c a b) bytes done)
      where
        pub write_on_lem : (p : Passed) → next.int ≡ false
            → p ≡ gives_of (length bytes - done) bytes (giving next done)
            → whole ≡ writes_of (budget - (i + 1)) (box_of p.answer.controller x y) bytes p.done
        unfolding writes_of
        write_on_lem p low passed =
            rw (one_less, ticked_box c next a b x y tick first second, ← tick, ← passed, low) at run

        pub write_came : next.int ≡ true → whole ≡ came_with true (box_of next.controller x y)
        unfolding writes_of
        write_came high = rw (one_less, ticked_box c next a b x y tick first second, ← tick, high) at run

-- none is left
pub read_over : (budget i : ℕ) (s : Box) (out : List ℕ) (done : ℕ) (whole : CameRead)
    → whole ≡ reads_of (budget - i) s out done
    → budget ≤ i
    → whole ≡ came_read false s out
unfolding reads_of
read_over budget i s out done whole run h =
    let e : budget - i ≡ 0 = omega arith in
    rw e at run

pub write_over : (budget i : ℕ) (s : Box) (bytes : List ℕ) (done : ℕ) (whole : Came)
    → whole ≡ writes_of (budget - i) s bytes done
    → budget ≤ i
    → whole ≡ came_with false s
unfolding writes_of
write_over budget i s bytes done whole run h =
    let e : budget - i ≡ 0 = omega arith in
    rw e at run

-- a result byte is taken, or all are
module _ (k : ℕ) (bytes : List ℕ) (c : Controller) (whole : Status) (run : whole ≡ status_from (7 - k) k bytes c) where
  pub status_on : (d : Controller) (byte : ℕ)
      → k < 7
      → d ≡ (read_port 5 c).controller
      → byte ≡ value_of (read_port 5 c).reply
      → whole ≡ status_from (7 - (k + 1)) (k + 1) (set bytes k byte) d
  unfolding status_from
  status_on d byte h p q =
      let e : 7 - k ≡ suc (7 - (k + 1)) = omega arith in
      rw (q, p) (rw e at run)

  pub status_over : 7 ≤ k → whole ≡ status_with bytes c
  unfolding status_from
  status_over h =
      let e : 7 - k ≡ 0 = omega arith in
      rw e at run
