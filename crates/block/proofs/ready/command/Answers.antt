-- `block::ready::command` meets its contract.
use Rattle.std.proofs.Common.{sym}
use Rattle.block.proofs.ReadyLaws.{command_on, command_over}
use Rattle.block.proofs.ready.command.Goals as goal

pub loop-byte-preserved : goal.loop-byte-preserved
loop-byte-preserved c =
    command_on c.args.bytes.now c.loop-byte.byte-index c.loop-byte.c _ c.loop-byte.invariant c.write.new.c
    c.loop-byte-test.true c.write.ensures

pub returns : goal.returns
returns c =
    sym
    (command_over c.args.bytes.now c.loop-byte.byte-index c.loop-byte.c _ c.loop-byte.invariant c.loop-byte-test.false)
