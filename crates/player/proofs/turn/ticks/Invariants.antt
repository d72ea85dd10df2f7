-- The ticks left, from what was reached, lead to what all of them do; no image changes its length.
-- Assumes nothing.
use Rattle.std.proofs.Common.{◌≡◌, ◌-◌, length}
use Rattle.player.specs.Turn.{still, turn_ticks_from}
use Rattle.player.proofs.turn.ticks.Given as goal

abbrev pub invariant-loop : goal.invariant-loop
invariant-loop l =
    (length l.a ≡ length l.initial.a)
    × (length l.b ≡ length l.initial.b)
    × (turn_ticks_from (l.n - l.counter) (still l.answer l.a l.b)
    ≡ turn_ticks_from l.n (still l.initial.answer l.initial.a l.initial.b))
