-- `chip::codes::line_at` meets its contract (01 Commands): the rule is computed at all 256 codes and compared
-- with the table.
use borrow.Author.Rules.{rules}
use Rattle.chip.specs.Commands.{kind_of, table_line}
use Rattle.chip.proofs.TableLaws.{at}
use Rattle.chip.proofs.codes.line_at.Goals as goal

pub returns : goal.returns
unfolding kind_of
returns c = rw c.from.ensures (at (λ n. table_line (kind_of n)) 256 c.args.code (search rules))
