-- The seven status bytes (block/specs/Serve: statusFrom) are the result's (02 2026-01).
-- Assumes nothing.
use Prim.Native.Nat.{ℕ, ◌<◌}
use native.Mathlib.Omega.{arith}
use mathlib.Core.Bool.{true}
use mathlib.Core.List.{[], ◌∷◌}
use mathlib.Core.Path.{◌≡◌, refl, sym, ap, ◌∙◌}
use lib.ListN.{replicate}
use Rattle.fdc.specs.declared.record.Controller.{Controller}
use Rattle.fdc.specs.declared.record.Phase.TheVariants.{Answering}
use Rattle.fdc.specs.Answer.{value_of}
use Rattle.reached.specs.Runs.{reads, answer_to, run_calls}
use Rattle.reached.proofs.GoodLaws.{good_valid}
use Rattle.demands.specs.Acknowledged.{result_byte}
use Rattle.demands.specs.Quiet.{Quiet}
use Rattle.demands.specs.Work.{at_work}
use Rattle.answers.specs.ReadsOut.{TakenOut, after_reads}
use Rattle.answers.specs.Registers.{Free}
use Rattle.answers.proofs.ReadsOutLaws.{reads_out}
use Rattle.answers.proofs.RefusalLaws.{valid_no_fault}
use Rattle.block.specs.Serve.{status_from}
use Rattle.block_demands.specs.BlockIsCalls.{result_of}
use Rattle.block_demands.proofs.LedLaws.{Does, fifo_does}

-- with the result waiting
module _ (c : Controller) (q : Quiet c) (free : Free c) (said : c.phase ≡ Answering true) (left : c.bytes.left ≡ 7)
  where
    out : TakenOut c 7
    out = reads_out.seven c (record {
      undamaged = valid_no_fault c (good_valid c q.good);
      free = free;
      answers = said;
      left = left;
    })

    abbrev value : ℕ → ℕ
    value k = value_of (answer_to (reads 5) (after_reads k c)).reply

    value_is : (k : ℕ) → k < 7 → value k ≡ result_byte k c
    value_is k h = ap value_of (out.byte k h)

    reads_bytes : (status_from 7 0 (replicate 7 0) c).bytes
        ≡ value 0 ∷ value 1 ∷ value 2 ∷ value 3 ∷ value 4 ∷ value 5 ∷ value 6 ∷ []
    unfolding status_from run_calls answer_to
    reads_bytes = refl

    pub status_bytes : (status_from 7 0 (replicate 7 0) c).bytes ≡ result_of c
    status_bytes =
        reads_bytes
        ∙ (λ i. value_is 0 (omega arith) i ∷ value_is 1 (omega arith) i ∷ value_is 2 (omega arith) i
        ∷ value_is 3 (omega arith) i ∷ value_is 4 (omega arith) i ∷ value_is 5 (omega arith) i
        ∷ value_is 6 (omega arith) i ∷ [])

    status_reads : (status_from 7 0 (replicate 7 0) c).controller ≡ after_reads 7 c
    unfolding status_from run_calls answer_to
    status_reads = refl

    pub status_does : Does c (status_from 7 0 (replicate 7 0) c).controller
    status_does =
        fifo_does (replicate 7 (reads 5)) c _
        (omega arith, (omega arith, (omega arith, (omega arith, (omega arith, (omega arith, (omega arith, tt)))))))
        (refl, (refl, (refl, (refl, (refl, (refl, (refl, tt))))))) (sym status_reads)
        (rw status_reads (ap at_work out.idle.0))
