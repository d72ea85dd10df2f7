-- The parts of a track are its slots.
use Rattle.blank.specs.Blank.{slot_of}
use Rattle.blank.proofs.parts.Blank.put_track.Given as goal

abbrev pub ghost-put_parts : goal.ghost-put_parts
ghost-put_parts a = slot_of a.put.0.now.g a.put.0.now.fill a.put.1.now a.put.2.now
