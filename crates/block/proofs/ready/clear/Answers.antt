-- `block::ready::clear` meets its contract.
use Rattle.std.proofs.Common.{sym}
use Rattle.block.proofs.ReadyLaws.{clear_on_lem, clear_came}
use Rattle.block.proofs.ready.clear.Goals as goal

-- it is 80
pub returns-then-sense-eq128 : goal.returns-then-sense-eq128
returns-then-sense-eq128 c =
    sym
    (clear_came c.loop.c c.sense.new.c c.sense.result 5 c.loop.counter _ c.loop.invariant c.loop-test.true
    c.sense.ensures c.if-sense-eq128.true)

-- one more is sensed
pub loop-preserved : goal.loop-preserved
loop-preserved c =
    clear_on_lem c.loop.c c.sense.new.c c.sense.result 5 c.loop.counter _ c.loop.invariant c.loop-test.true
    c.sense.ensures c.if-sense-eq128.false
