-- `block::request::asked` meets its contract.
use Rattle.block.proofs.PlaceLaws.{disk_range}
use Rattle.block.proofs.request.asked.Goals as goal

pub of-place-requires-clause-in_range : goal.of-place-requires-clause-in_range
of-place-requires-clause-in_range c = disk_range c.args.img.now c.in-Some.disk c.in-Some.ensures
