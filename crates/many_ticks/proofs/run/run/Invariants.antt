-- The ticks left, made from where the loop stands, end where all of them end from the start.
-- Assumes nothing.
use Rattle.std.proofs.Common.{◌≡◌, ◌-◌, ◌≤◌}
use Rattle.many_ticks.specs.Run.{ran_with, ran_for}
use Rattle.many_ticks.proofs.run.run.Given as goal

abbrev pub invariant-loop-left : goal.invariant-loop-left
invariant-loop-left l =
    (l.left ≤ l.n)
    × (ran_for l.rest (ran_with l.initial.answer (l.n - l.rest) l.initial.a l.initial.b)
    ≡ ran_for l.left (ran_with l.answer (l.n - l.left) l.a l.b))
