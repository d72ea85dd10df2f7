-- Before each turn the parts passed are put.
use Rattle.blank.proofs.ListLaws.{Turned}
use Rattle.blank.proofs.parts.put_parts.Given as goal

abbrev pub invariant-loop-k : goal.invariant-loop-k
invariant-loop-k g l = Turned g.part l.size l.count l.fn.s l.s l.k
