-- The record as bytes (house): each field has a place of its own in a row of sixteen (Places), a number of 16 bits its
-- high byte first, a flag is 0 or 1, a case its number, and what a case does not carry is 0. A phase's fields are Flat.
-- Assumes nothing.
use Rattle.std.specs.Prelude.{ℕ, ◌+◌, ◌*◌, ◌/◌, ◌%◌, Bool, false, ◌&&◌, cond, List, [], ◌∷◌, ◌++◌, eqb, leb, length, get_or, drop}
use Rattle.std.proofs.lemmas.List.Edits.{sets}
use Rattle.chip.specs.declared.fifo.Fifo.{Fifo}
use Rattle.chip.specs.Commands.{kind_number, kind_numbered}
use Rattle.drive.specs.declared.Drive.{Drive}
use Rattle.drive.specs.declared.Motion.{Motion}
use Rattle.drive.specs.declared.Motion.TheVariants.{Still, Seeking, Recalibrating}
use Rattle.sectors.specs.declared.order.Pass.{Pass}
use Rattle.sectors.specs.declared.order.Pass.TheVariants.{Read, Write}
use Rattle.sectors.specs.declared.order.Plan.{Plan}
use Rattle.sectors.specs.declared.work.Site.{Site}
use Rattle.sectors.specs.declared.work.Task.{Task}
use Rattle.fdc.specs.declared.record.Bytes.{Bytes}
use Rattle.fdc.specs.declared.record.Controller.{Controller}
use Rattle.fdc.specs.declared.record.Registers.{Registers}
use Rattle.fdc.specs.Record.{drive_at, fresh_of}
use Rattle.pack.specs.declared.drives.Course.{Course}
use Rattle.pack.specs.declared.flat.Flat.{Flat}
use Rattle.pack.specs.declared.flat.Spot.{Spot}
use Rattle.pack.specs.Flat.{phase_flat, phase_from}
use Rattle.pack.specs.Places.{version, registers_row, drive_row, fifo_row, flow_row, command_row, result_row}
use Rattle.pack.specs.Places.{phase_row, site_row, task_row, spot_row, version_at, dor_at, tdr_at, rate_at, spec1_at}
use Rattle.pack.specs.Places.{spec2_at, eis_at, efifo_at, poll_at, fifothr_at, pretrk_at, head_at, pcn_at, changed_at}
use Rattle.pack.specs.Places.{busy_at, report_at, motion_at, target_at, steps_at, wait_at, count_at, asks_at, tc_at}
use Rattle.pack.specs.Places.{gathered_at, left_at, tag_at, kind_at, due_at, unit_at, loud_at, work_at, drive_number_at}
use Rattle.pack.specs.Places.{side_at, cylinders_at, heads_at, slots_at, disk_size_at, protect_at, plan_size_at, sc_at}
use Rattle.pack.specs.Places.{fill_at, pass_at, deleted_at, mt_at, sk_at, eot_at, dtl_at, c_at, h_at, r_at, n_at}
use Rattle.pack.specs.Places.{task_other_at, task_late_at, stage_at, form_at, slot_at, spot_count_at, met_at}
use Rattle.pack.specs.Places.{wrong_at, bad_at, broken_at, other_at, done_at}

abbrev pub bit_of : Bool → ℕ
bit_of flag = cond flag 1 0

abbrev pub high_of : ℕ → ℕ
high_of x = x / 256 % 256

abbrev pub low_of : ℕ → ℕ
low_of x = x % 256

abbrev pub wide_of : ℕ → ℕ → ℕ
wide_of high low = high * 256 + low

abbrev pub pass_number : Pass → ℕ
pass_number Read = 0
pass_number Write = 1

unfoldable pub pass_numbered : ℕ → Pass
pass_numbered n = cond (eqb n 0) Read Write

-- a byte, and a flag, at a place
abbrev pub byte_at : List ℕ → ℕ → ℕ
byte_at l k = get_or l k 0

abbrev pub flag_at : List ℕ → ℕ → Bool
flag_at l k = eqb (get_or l k 0) 1

-- sixteen bytes from a place on
abbrev pub row_at : List ℕ → ℕ → List ℕ
row_at l at =
    byte_at l at ∷ byte_at l (at + 1) ∷ byte_at l (at + 2) ∷ byte_at l (at + 3) ∷ byte_at l (at + 4) ∷ byte_at l (at + 5)
    ∷ byte_at l (at + 6) ∷ byte_at l (at + 7) ∷ byte_at l (at + 8) ∷ byte_at l (at + 9) ∷ byte_at l (at + 10)
    ∷ byte_at l (at + 11) ∷ byte_at l (at + 12) ∷ byte_at l (at + 13) ∷ byte_at l (at + 14) ∷ byte_at l (at + 15) ∷ []

-- the version and the registers
abbrev pub registers_bytes : Registers → List ℕ
registers_bytes r =
    version ∷ r.dor ∷ r.tdr ∷ r.rate ∷ r.spec1 ∷ r.spec2 ∷ bit_of r.eis ∷ bit_of r.efifo
    ∷ bit_of r.poll ∷ r.fifothr ∷ r.pretrk ∷ 0 ∷ 0 ∷ 0 ∷ 0 ∷ 0 ∷ []

abbrev pub registers_in : List ℕ → Registers
registers_in row =
    record {
      dor = byte_at row dor_at;
      tdr = byte_at row tdr_at;
      rate = byte_at row rate_at;
      spec1 = byte_at row spec1_at;
      spec2 = byte_at row spec2_at;
      eis = flag_at row eis_at;
      efifo = flag_at row efifo_at;
      poll = flag_at row poll_at;
      fifothr = byte_at row fifothr_at;
      pretrk = byte_at row pretrk_at;
    }

-- house: the motions by number
abbrev pub course_of : Motion → Course
course_of Still = record { tag = 0; target = 0; steps = 0; wait = 0 }
course_of (Seeking target steps wait) = record { tag = 1; target = target; steps = steps; wait = wait }
course_of (Recalibrating steps wait) = record { tag = 2; target = 0; steps = steps; wait = wait }

unfoldable pub motion_of : ℕ → ℕ → ℕ → ℕ → Motion
motion_of tag target steps wait =
    cond (eqb tag 0) Still (cond (eqb tag 1) (Seeking target steps wait) (Recalibrating steps wait))

-- a motion's five bytes, and the room behind them
abbrev pub motion_bytes : Course → List ℕ
motion_bytes course =
    course.tag ∷ course.target ∷ course.steps ∷ high_of course.wait ∷ low_of course.wait
    ∷ 0 ∷ 0 ∷ 0 ∷ 0 ∷ 0 ∷ 0 ∷ []

-- a drive
abbrev pub drive_bytes : Drive → List ℕ
drive_bytes d =
    d.head ∷ d.pcn ∷ bit_of d.changed ∷ bit_of d.busy ∷ d.report ∷ motion_bytes (course_of d.motion)

abbrev pub drive_from : List ℕ → Drive
drive_from row =
    record {
      head = byte_at row head_at;
      pcn = byte_at row pcn_at;
      changed = flag_at row changed_at;
      busy = flag_at row busy_at;
      report = byte_at row report_at;
      motion =
          motion_of (byte_at row motion_at) (byte_at row target_at) (byte_at row steps_at)
          (wide_of (byte_at row wait_at) (byte_at row (wait_at + 1)));
    }

-- the FIFO's bytes, and what stands beside them
abbrev pub fifo_bytes : Fifo → List ℕ
fifo_bytes f = row_at f.bytes 0

abbrev pub flow_bytes : Fifo → List ℕ
flow_bytes f =
    f.count ∷ bit_of f.asks ∷ bit_of f.tc ∷ 0 ∷ 0 ∷ 0 ∷ 0 ∷ 0 ∷ 0 ∷ 0 ∷ 0 ∷ 0 ∷ 0 ∷ 0 ∷ 0 ∷ 0 ∷ []

abbrev pub fifo_in : List ℕ → List ℕ → Fifo
fifo_in row flow =
    record { bytes = row; count = byte_at flow count_at; asks = flag_at flow asks_at; tc = flag_at flow tc_at }

-- command bytes, and result bytes
abbrev pub command_bytes : Bytes → List ℕ
command_bytes b =
    byte_at b.command 0 ∷ byte_at b.command 1 ∷ byte_at b.command 2 ∷ byte_at b.command 3
    ∷ byte_at b.command 4 ∷ byte_at b.command 5 ∷ byte_at b.command 6 ∷ byte_at b.command 7
    ∷ byte_at b.command 8 ∷ 0 ∷ 0 ∷ 0 ∷ 0 ∷ 0 ∷ 0 ∷ b.gathered ∷ []

abbrev pub result_bytes : Bytes → List ℕ
result_bytes b =
    byte_at b.results 0 ∷ byte_at b.results 1 ∷ byte_at b.results 2 ∷ byte_at b.results 3
    ∷ byte_at b.results 4 ∷ byte_at b.results 5 ∷ byte_at b.results 6 ∷ 0 ∷ 0 ∷ 0 ∷ 0 ∷ 0 ∷ 0 ∷ 0 ∷ 0
    ∷ b.left ∷ []

abbrev pub gathered_in : List ℕ → List ℕ → Bytes
gathered_in command results =
    record {
      command =
          byte_at command 0 ∷ byte_at command 1 ∷ byte_at command 2 ∷ byte_at command 3 ∷ byte_at command 4
          ∷ byte_at command 5 ∷ byte_at command 6 ∷ byte_at command 7 ∷ byte_at command 8 ∷ [];
      gathered = byte_at command gathered_at;
      results =
          byte_at results 0 ∷ byte_at results 1 ∷ byte_at results 2 ∷ byte_at results 3 ∷ byte_at results 4
          ∷ byte_at results 5 ∷ byte_at results 6 ∷ [];
      left = byte_at results left_at;
    }

-- the phase
abbrev pub head_bytes : Flat → List ℕ
head_bytes f =
    f.tag ∷ kind_number f.entry.kind ∷ f.entry.bytes ∷ f.unit ∷ bit_of f.loud ∷ f.work
    ∷ 0 ∷ 0 ∷ 0 ∷ 0 ∷ 0 ∷ 0 ∷ 0 ∷ 0 ∷ 0 ∷ 0 ∷ []

-- where a command works, and a Format's plan
abbrev pub site_bytes : Site → Plan → List ℕ
site_bytes s p =
    s.drive ∷ s.side ∷ s.disk.cylinders ∷ s.disk.heads ∷ s.disk.slots ∷ s.disk.n
    ∷ bit_of s.disk.protect ∷ 0 ∷ p.n ∷ p.sc ∷ p.fill ∷ 0 ∷ 0 ∷ 0 ∷ 0 ∷ 0 ∷ []

abbrev pub site_in : List ℕ → Site
site_in row =
    record {
      drive = byte_at row drive_number_at;
      side = byte_at row side_at;
      disk =
          record {
            cylinders = byte_at row cylinders_at;
            heads = byte_at row heads_at;
            slots = byte_at row slots_at;
            n = byte_at row disk_size_at;
            protect = flag_at row protect_at;
          };
    }

abbrev pub plan_in : List ℕ → Plan
plan_in row = record { n = byte_at row plan_size_at; sc = byte_at row sc_at; fill = byte_at row fill_at }

-- a transfer with the sector in hand
abbrev pub task_bytes : Task → List ℕ
task_bytes t =
    pass_number t.transfer.pass ∷ bit_of t.transfer.deleted ∷ bit_of t.transfer.mt
    ∷ bit_of t.transfer.sk ∷ t.transfer.eot ∷ t.transfer.dtl ∷ 0 ∷ 0 ∷ t.id.c ∷ t.id.h ∷ t.id.r ∷ t.id.n
    ∷ bit_of t.other ∷ bit_of t.late ∷ 0 ∷ 0 ∷ []

abbrev pub task_from : List ℕ → Task
task_from row =
    record {
      transfer =
          record {
            pass = pass_numbered (byte_at row pass_at);
            deleted = flag_at row deleted_at;
            mt = flag_at row mt_at;
            sk = flag_at row sk_at;
            eot = byte_at row eot_at;
            dtl = byte_at row dtl_at;
          };
      id = record { c = byte_at row c_at; h = byte_at row h_at; r = byte_at row r_at; n = byte_at row n_at };
      other = flag_at row task_other_at;
      late = flag_at row task_late_at;
    }

-- a stage
abbrev pub spot_bytes : Spot → List ℕ
spot_bytes s =
    s.stage ∷ s.form ∷ s.slot ∷ s.count ∷ bit_of s.met ∷ bit_of s.wrong ∷ bit_of s.bad
    ∷ bit_of s.broken ∷ bit_of s.other ∷ 0 ∷ high_of s.done ∷ low_of s.done ∷ 0 ∷ 0 ∷ 0 ∷ 0 ∷ []

abbrev pub spot_in : List ℕ → Spot
spot_in row =
    record {
      stage = byte_at row stage_at;
      form = byte_at row form_at;
      slot = byte_at row slot_at;
      count = byte_at row spot_count_at;
      met = flag_at row met_at;
      wrong = flag_at row wrong_at;
      bad = flag_at row bad_at;
      broken = flag_at row broken_at;
      other = flag_at row other_at;
      done = wide_of (byte_at row done_at) (byte_at row (done_at + 1));
    }

-- the rows of a phase
abbrev pub flat_of : List ℕ → List ℕ → List ℕ → List ℕ → Flat
flat_of head site task spot =
    record {
      tag = byte_at head tag_at;
      entry = record { kind = kind_numbered (byte_at head kind_at); bytes = byte_at head due_at };
      unit = byte_at head unit_at;
      loud = flag_at head loud_at;
      work = byte_at head work_at;
      site = site_in site;
      task = task_from task;
      plan = plan_in site;
      spot = spot_in spot;
    }

abbrev pub flat_in : List ℕ → Flat
flat_in l = flat_of (row_at l phase_row) (row_at l site_row) (row_at l task_row) (row_at l spot_row)

-- the whole record: thirteen rows
abbrev pub record_size : ℕ
record_size = 0xD0

abbrev pub drives_bytes : List Drive → List ℕ
drives_bytes drives =
    drive_bytes (drive_at 0 drives) ++ drive_bytes (drive_at 1 drives) ++ drive_bytes (drive_at 2 drives)
    ++ drive_bytes (drive_at 3 drives)

abbrev pub flat_bytes : Flat → List ℕ
flat_bytes f = head_bytes f ++ site_bytes f.site f.plan ++ task_bytes f.task ++ spot_bytes f.spot

unfoldable pub record_bytes : Controller → List ℕ
record_bytes c =
    registers_bytes c.registers ++ drives_bytes c.drives ++ (fifo_bytes c.fifo ++ flow_bytes c.fifo)
    ++ (command_bytes c.bytes ++ result_bytes c.bytes) ++ flat_bytes (phase_flat c.phase)

-- the drives, the FIFO, the bytes of a command, and a phase, written to their rows
unfoldable pub drives_put : List Drive → List ℕ → List ℕ
drives_put drives l =
    sets
    (sets
    (sets (sets l (drive_row 0) (drive_bytes (drive_at 0 drives))) (drive_row 1) (drive_bytes (drive_at 1 drives)))
    (drive_row 2) (drive_bytes (drive_at 2 drives)))
    (drive_row 3) (drive_bytes (drive_at 3 drives))

unfoldable pub fifo_put : Fifo → List ℕ → List ℕ
fifo_put f l = sets (sets l fifo_row (fifo_bytes f)) flow_row (flow_bytes f)

unfoldable pub gathered_put : Bytes → List ℕ → List ℕ
gathered_put b l = sets (sets l command_row (command_bytes b)) result_row (result_bytes b)

unfoldable pub flat_put : Flat → List ℕ → List ℕ
flat_put f l =
    sets
    (sets (sets (sets l phase_row (head_bytes f)) site_row (site_bytes f.site f.plan)) task_row (task_bytes f.task))
    spot_row (spot_bytes f.spot)

abbrev pub drives_in : List ℕ → List Drive
drives_in l =
    drive_from (row_at l (drive_row 0)) ∷ drive_from (row_at l (drive_row 1)) ∷ drive_from (row_at l (drive_row 2))
    ∷ drive_from (row_at l (drive_row 3)) ∷ []

unfoldable pub record_in : List ℕ → Controller
record_in l =
    record {
      registers = registers_in (row_at l registers_row);
      drives = drives_in l;
      fifo = fifo_in (row_at l fifo_row) (row_at l flow_row);
      bytes = gathered_in (row_at l command_row) (row_at l result_row);
      phase = phase_from (flat_in l);
    }

-- house: bytes are a record where they are enough, the first is this layout's version, each flag is 0 or 1, and each
-- case's number is one of its cases'; room, and the places that the case at hand does not use, are not looked at
abbrev pub at_most : List ℕ → ℕ → ℕ → Bool
at_most l k n = leb (byte_at l k) n

unfoldable pub registers_ok : List ℕ → Bool
registers_ok row = at_most row eis_at 1 && at_most row efifo_at 1 && at_most row poll_at 1

unfoldable pub drive_ok : List ℕ → Bool
drive_ok row = at_most row changed_at 1 && at_most row busy_at 1 && at_most row motion_at 2

unfoldable pub flow_ok : List ℕ → Bool
flow_ok row = at_most row asks_at 1 && at_most row tc_at 1

unfoldable pub head_ok : List ℕ → Bool
head_ok row = at_most row tag_at 5 && at_most row kind_at 13 && at_most row loud_at 1 && at_most row work_at 2

unfoldable pub site_ok : List ℕ → Bool
site_ok row = at_most row protect_at 1

unfoldable pub task_ok : List ℕ → Bool
task_ok row =
    at_most row pass_at 1 && at_most row deleted_at 1 && at_most row mt_at 1 && at_most row sk_at 1
    && at_most row task_other_at 1 && at_most row task_late_at 1

unfoldable pub spot_ok : List ℕ → Bool
spot_ok row =
    at_most row stage_at 5 && at_most row form_at 3 && at_most row met_at 1 && at_most row wrong_at 1 && at_most row bad_at 1
    && at_most row broken_at 1 && at_most row other_at 1

unfoldable pub drives_ok : List ℕ → Bool
drives_ok l =
    drive_ok (row_at l (drive_row 0)) && drive_ok (row_at l (drive_row 1)) && drive_ok (row_at l (drive_row 2))
    && drive_ok (row_at l (drive_row 3))

unfoldable pub flat_ok : List ℕ → Bool
flat_ok l =
    head_ok (row_at l phase_row) && site_ok (row_at l site_row) && task_ok (row_at l task_row) && spot_ok (row_at l spot_row)

unfoldable pub cases_ok : List ℕ → Bool
cases_ok l = registers_ok (row_at l registers_row) && drives_ok l && flow_ok (row_at l flow_row) && flat_ok l

unfoldable pub is_record : List ℕ → Bool
is_record l = cond (leb record_size (length l)) (eqb (byte_at l version_at) version && cases_ok l) false

-- the record written to the bytes lent: those behind it stay, and too few stay as they are
unfoldable pub stored_of : Controller → List ℕ → List ℕ
stored_of c l = cond (leb record_size (length l)) (record_bytes c ++ drop record_size l) l

-- the FIFO alone written to its rows
unfoldable pub fifo_stored : Fifo → List ℕ → List ℕ
fifo_stored f l = cond (leb record_size (length l)) (fifo_put f l) l

-- the record in enough bytes; in too few, one as after power-on
unfoldable pub loaded_of : List ℕ → Controller
loaded_of l = cond (leb record_size (length l)) (record_in l) (fresh_of 0 0)
