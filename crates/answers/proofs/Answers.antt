-- One answer for all seven calls, and no refusal 4 from power-on (01 Contracts, 01 Refusals).
-- Assumes nothing.
use native.Mathlib.Omega.{arith}
use mathlib.Core.Logic.{inl, inr}
use mathlib.Core.Path.{◌≡◌}
use Rattle.fdc.specs.declared.record.Controller.{Controller}
use Rattle.reached.specs.Runs.{Call, powers, reads, writes, takes, gives, ticks, notes, Reached}
use Rattle.reached.proofs.GoodLaws.{reached_never_4}
use Rattle.fdc.proofs.AnswerLaws.{only_one}
use Rattle.answers.specs.Answers.{AnswerMade, OneAnswer, NeverFour}
use Rattle.answers.specs.Refusals.{Fault, Damaged, Row, Given}
use Rattle.demands.specs.Work.{Real}
use Rattle.answers.proofs.RefusalLaws.{valid_no_fault, refused_exactly}

pub one_answer : OneAnswer
one_answer call c a b o p x y =
    let answer : o.answer ≡ p.answer = only_one x.answer y.answer in
    let first : o.first ≡ p.first = only_one x.first y.first in
    let second : o.second ≡ p.second = only_one x.second y.second in
    go o p answer first second
  where
    go : (o p : AnswerMade) → o.answer ≡ p.answer → o.first ≡ p.first → o.second ≡ p.second → o ≡ p
    go o p e f g = λ i. record { answer = e i; first = f i; second = g i }

-- a record that the demands speak of is reached
pub real_reached : (c : Controller) → Real c → Reached c
real_reached c r = record { head0 = r.head0; head1 = r.head1; calls = r.calls; run = r.run }

damaged_fault : (call : Call) (c : Controller) → Damaged call c → Fault c
damaged_fault (powers head0 head1) c d = absurd d
damaged_fault (reads offset) c d = d
damaged_fault (writes offset byte) c d = d
damaged_fault (takes tc) c d = d
damaged_fault (gives byte tc) c d = d
damaged_fault (ticks a b) c d = d
damaged_fault (notes drive) c d = d

no_row_4 : (call : Call) (c : Controller) → Row 4 call c → ⊥
no_row_4 (powers head0 head1) c r = omega (arith, r.0)
no_row_4 (reads offset) c (inl r) = omega (arith, r.0)
no_row_4 (reads offset) c (inr r) = omega (arith, r.0)
no_row_4 (writes offset byte) c (inl r) = omega (arith, r.0)
no_row_4 (writes offset byte) c (inr r) = omega (arith, r.0)
no_row_4 (takes tc) c r = omega (arith, r.0)
no_row_4 (gives byte tc) c r = omega (arith, r.0)
no_row_4 (ticks a b) c r = r
no_row_4 (notes drive) c r = omega (arith, r.0)

pub never_four : NeverFour
never_four c r call e = go ((refused_exactly.exactly 4 call c (omega arith)).0 e)
  where
    go : Given 4 call c → ⊥
    go (inl g) = valid_no_fault c (reached_never_4 c (real_reached c r)) (damaged_fault call c g.1)
    go (inr g) = no_row_4 call c g.1
