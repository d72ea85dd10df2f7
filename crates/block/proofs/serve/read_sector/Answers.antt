-- `block::serve::read_sector` meets its contract.
use Rattle.std.proofs.Common.{sym}
use Rattle.block.proofs.ServeLaws.{read_came}
use Rattle.block.proofs.serve.read_sector.Goals as goal

-- INT
pub returns-then-answer : goal.returns-then-answer
returns-then-answer c =
    let loop = c.loop in
    let tick = c.tick-answer in
    sym
    (read_came loop.c tick.result loop.a loop.b tick.new.a tick.new.b tick.ensures.answer tick.ensures.first
    tick.ensures.second c.args.budget loop.counter c.loop-test.true loop.out loop.done _ loop.invariant
    c.if-answer.true)
