-- The parts of a cylinder are its tracks.
use Rattle.blank.specs.Blank.{track_of}
use Rattle.blank.proofs.parts.Blank.put_cylinder.Given as goal

abbrev pub ghost-put_parts : goal.ghost-put_parts
ghost-put_parts a = track_of a.put.0.now.g a.put.0.now.fill a.put.1.now
