-- `block::serve::write_sector` meets its contract.
use Rattle.std.proofs.Common.{sym}
use Rattle.block.proofs.ServeLaws.{write_came}
use Rattle.block.proofs.serve.write_sector.Goals as goal

-- INT
pub returns-then-answer : goal.returns-then-answer
returns-then-answer c =
    let loop = c.loop in
    let tick = c.tick-answer in
    sym
    (write_came loop.c tick.result loop.a loop.b tick.new.a tick.new.b tick.ensures.answer tick.ensures.first
    tick.ensures.second c.args.budget loop.counter c.loop-test.true c.args.bytes.now loop.done _ loop.invariant
    c.if-answer.true)
