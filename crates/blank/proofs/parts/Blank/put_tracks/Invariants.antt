-- The parts of a disk are its cylinders.
use Rattle.blank.specs.Blank.{cylinder_of}
use Rattle.blank.proofs.parts.Blank.put_tracks.Given as goal

abbrev pub ghost-put_parts : goal.ghost-put_parts
ghost-put_parts a = cylinder_of a.put.0.now.g a.put.0.now.fill
