-- What it means that bytes hold a record, and that a record is one that the machine's types allow.
-- Assumes nothing.
use Rattle.std.specs.Prelude.{ℕ, ◌<◌, true, List, ◌≡◌, length}
use Rattle.drive.specs.declared.Drive.{Drive}
use Rattle.fdc.specs.declared.record.Controller.{Controller}
use Rattle.fdc.specs.Record.{drive_at}
use Rattle.pack.specs.Bytes.{course_of, record_in, is_record}
use Rattle.pack.specs.Flat.{phase_flat}

-- the bytes are a record, and it is that one
pub record HoldsRecord (l : List ℕ) (c : Controller) : Type 0 where
  pub good : is_record l ≡ true
  pub back : record_in l ≡ c

-- numbers of 16 bits fit, and the drives are four
pub record DrivesFit (drives : List Drive) : Type 0 where
  pub long : length drives ≡ 4
  pub wait0 : (course_of (drive_at 0 drives).motion).wait < 0x10000
  pub wait1 : (course_of (drive_at 1 drives).motion).wait < 0x10000
  pub wait2 : (course_of (drive_at 2 drives).motion).wait < 0x10000
  pub wait3 : (course_of (drive_at 3 drives).motion).wait < 0x10000

-- a record that the machine's types allow
pub record Typed (c : Controller) : Type 0 where
  pub drives : DrivesFit c.drives
  pub fifo : length c.fifo.bytes ≡ 16
  pub command : length c.bytes.command ≡ 9
  pub results : length c.bytes.results ≡ 7
  pub done : (phase_flat c.phase).spot.done < 0x10000
