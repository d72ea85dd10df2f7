-- Each turn of `files::keep::keep_all` looks at a byte at least: what is left of the image is its measure.
use Rattle.std.proofs.Common.{◌≤◌, ◌-◌, length}
use Rattle.files.proofs.keep.keep_all.Given as goal

abbrev pub invariant-loop-at : goal.invariant-loop-at
invariant-loop-at g l = l.at ≤ length l.image

abbrev pub decreases-loop-at : goal.decreases-loop-at
decreases-loop-at g l = length l.image - l.at
