-- One name for all that a closed run computes with: `unfolding all_open` opens the machine from the ports down to the
-- image, and what is read off a list of calls.
-- Assumes nothing.
use Rattle.reached.proofs.Open.{calls_open}
use Rattle.demands.specs.HandedOver.{taken_by, taken_over}
use Rattle.demands.specs.History.{history_by, history_of}
use Rattle.demands.specs.Work.{image_left}

unfoldable pub all_open : Unit {0}
unfolding calls_open history_by history_of taken_by taken_over image_left
all_open = tt
