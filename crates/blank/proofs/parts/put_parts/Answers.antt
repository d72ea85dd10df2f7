-- One part more is put.
use Rattle.std.proofs.Common.{ℕ, ◌≡◌, ◌*◌, ap}
use Rattle.blank.proofs.ListLaws.{turned_next, turned_part}
use Rattle.blank.proofs.parts.put_parts.Goals as goal

pub loop-k-preserved : goal.loop-k-preserved
loop-k-preserved g c =
    let (held, (whole, (callable, (puts, long)))) = c.requires in
    let at = c.loop-k in
    let size = c.args.size in
    let e : c.from.result * size ≡ at.k * size = ap (λ (i : ℕ). i * size) c.from.ensures in
    turned_next g.part size c.args.count c.args.s.now _ at.k long whole at.invariant _ _ e
    c.loop-k-test.true (puts _ _ at.k c.loop-k-test.true
    (turned_part g.part size c.args.count c.args.s.now _ at.k long whole at.invariant _ e
    c.loop-k-test.true) c.put.ensures)
