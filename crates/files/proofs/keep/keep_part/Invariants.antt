-- Each turn of `files::keep::keep_part` passes a byte at least: what is left of the file's part is its measure.
use Rattle.std.proofs.Common.{◌-◌, length}
use Rattle.files.proofs.keep.keep_part.Given as goal

abbrev pub decreases-loop-i : goal.decreases-loop-i
decreases-loop-i g l = length l.old - l.i
