-- `block::head::wait` meets its contract.
use Rattle.std.proofs.Common.{sym}
use Rattle.block.proofs.HeadLaws.{wait_came}
use Rattle.block.proofs.head.wait.Goals as goal

-- INT
pub returns-then-answer : goal.returns-then-answer
returns-then-answer c =
    let loop = c.loop in
    let tick = c.tick-answer in
    sym
    (wait_came loop.c tick.result loop.a loop.b tick.new.a tick.new.b _ tick.ensures.answer tick.ensures.first
    tick.ensures.second c.args.budget loop.counter loop.invariant c.loop-test.true c.if-answer.true)
