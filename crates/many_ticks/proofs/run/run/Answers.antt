-- A line changed: no tick more.
-- Assumes nothing.
use Rattle.std.proofs.Common.{sym, ◌∙◌}
use Rattle.many_ticks.proofs.RunLaws.{stops}
use Rattle.many_ticks.proofs.run.run.Goals as goal

pub returns-then-differ : goal.returns-then-differ
returns-then-differ c =
    sym (stops c.args.n c.loop-left.left c.loop-left.answer c.tick-next.result c.loop-left.a c.loop-left.b
    c.tick-next.new.a c.tick-next.new.b _ c.loop-left-test.true c.loop-left.invariant.0
    (rw c.answer-answer.ensures at c.loop-left.invariant.1) c.tick-next.ensures.answer c.tick-next.ensures.first
    c.tick-next.ensures.second (sym c.differ.ensures ∙ c.if-differ.true))
