-- For each premise of demand 1 (specs/EndsInTime) a closed example that meets it: real records at which a Read, a
-- Write, a Read ID, a Format and a Sense Drive were accepted, or a Seek and a Recalibrate are complete but for their
-- last byte; an image; and lists of calls, of which some are run.
-- Assumes nothing.
use Rattle.std.specs.Prelude.{None, Some}
use Prim.Native.Nat.{ℕ, zero, suc, ◌%◌}
use native.Mathlib.Omega.{arith}
use mathlib.Core.Bool.{Bool, true, false, ◌&&◌}
use mathlib.Core.List.{List, [], ◌∷◌, ◌++◌}
use mathlib.Core.Path.{◌≡◌, refl}
use lib.Dec.{ltb}
use borrow.Author.Tests.{ltb-true}
use Rattle.image.specs.Disk.{disk_in}
use Rattle.chip.specs.Commands.{entry_of}
use Rattle.fdc.specs.Commands.{step_time}
use Rattle.reached.specs.Runs.{run_calls}
use Rattle.fdc.specs.Ticks.{seen_of}
use Rattle.image.specs.Disk.{header_of}
use Rattle.image.specs.Examples.{disk, sector}
use Rattle.image.proofs.TestLaws.{both}
use Rattle.chip.specs.declared.codes.Kind.TheVariants.{Seek, Recalibrate}
use Rattle.drive.specs.declared.Drive.{Drive}
use Rattle.drive.specs.Due.{MotionOver}
use Rattle.drive.specs.Drive.{fresh_drive, reported_of}
use Rattle.sectors.specs.declared.order.Job.{Job}
use Rattle.sectors.specs.declared.order.Job.TheVariants.{Identify, Move, Format}
use Rattle.sectors.specs.declared.order.Order.{Order}
use Rattle.sectors.specs.declared.order.Pass.{Pass}
use Rattle.sectors.specs.declared.order.Pass.TheVariants.{Read, Write}
use Rattle.fdc.specs.declared.record.Controller.{Controller}
use Rattle.fdc.specs.declared.record.Phase.TheVariants.{Starting, Sensing, Answering}
use Rattle.reached.specs.Examples.{start, command, readied, bare}
use Rattle.reached.specs.Moves.{AllCalm, tick_count}
use Rattle.fdc.specs.Record.{drive_at}
use Rattle.reached.specs.Runs.{Call, writes, gives, ticks, after}
use Rattle.demands.specs.EndsInTime.{bound_of, Completes, byte_no}
use Rattle.demands.specs.Work.{AllOfBytes, Real, at_work, image_by, Alone, EndsWith, Anyhow}
use Rattle.demands.proofs.EndsLaws.{ends_in_time, ends_in_one, senses_in_one}
use Rattle.demands.proofs.StepsLaws.{seeks_on_time, recalibrates_on_time}
use Rattle.runs.proofs.Open.{all_open}

-- one track with one sector; its field is 2 + 261 = 263 bytes long, 01 07
abbrev small : List ℕ
small = header_of (disk 1 1 1 1) ++ ((0x02 ∷ 0x01 ∷ 0x07 ∷ 0 ∷ 0 ∷ []) ++ (sector 1 ++ (0x03 ∷ 0 ∷ 0 ∷ [])))

-- motor 0 on, Configure, and command bytes written
abbrev wrote : List ℕ → List Call
wrote bytes = readied 0x1C ++ command bytes

abbrev given : List ℕ → Controller
given bytes = run_calls (wrote bytes) start

abbrev all_below : List ℕ → Bool
all_below [] = true
all_below (byte ∷ bytes) = ltb byte 256 && all_below bytes

command_bytes_lem : (bytes : List ℕ) → all_below bytes ≡ true → AllOfBytes (command bytes)
command_bytes_lem [] h = tt
command_bytes_lem (byte ∷ bytes) h =
    let b = both (ltb byte 256) (all_below bytes) h in
    ((omega arith, ltb-true byte 256 b.0), command_bytes_lem bytes b.1)

given_real : (bytes : List ℕ) → all_below bytes ≡ true → Real (given bytes)
given_real bytes h = record {
  head0 = 0;
  head1 = 0;
  calls = wrote bytes;
  bytes = ((omega arith, omega arith), command_bytes_lem (0x13 ∷ 0x00 ∷ 0x20 ∷ 0x00 ∷ bytes) h);
  run = refl;
}

-- n ticks, handed the image as the command leaves it; after each the host offers a byte by DMA, asked for or not
unfoldable pub hosted : ℕ → List ℕ → Controller → List Call
hosted zero img c = []
hosted (suc n) img c =
    ticks img [] ∷ gives 0xA5 false
    ∷ hosted n (image_by 0 img (ticks img []) c) (after (gives 0xA5 false) (after (ticks img []) c))

hosted_alone : (n : ℕ) (img : List ℕ) (c : Controller) → Alone 0 img (hosted n img c) c
unfolding Alone hosted
hosted_alone zero img c = tt
hosted_alone (suc n) img c = λ w. (refl, λ v. (tt, hosted_alone n _ _))

hosted_ticks : (n : ℕ) (img : List ℕ) (c : Controller) → tick_count (hosted n img c) ≡ n
unfolding hosted
hosted_ticks zero img c = refl
hosted_ticks (suc n) img c = omega (
  arith,
  hosted_ticks n (image_by 0 img (ticks img []) c)
      (after (gives 0xA5 false) (after (ticks img []) c)),
)

-- n ticks without a byte from the host
abbrev unserved : ℕ → List Call
unserved zero = []
unserved (suc n) = ticks small [] ∷ unserved n

-- Read Data and Write Data of sector 1, C 0 H 0 N 1, EOT 1; Read ID; Format of SC 1, N 1, fill E5; Sense Drive
abbrev read_bytes : List ℕ
read_bytes = 0x46 ∷ 0 ∷ 0 ∷ 0 ∷ 1 ∷ 1 ∷ 1 ∷ 0x1B ∷ 0xFF ∷ []

abbrev write_bytes : List ℕ
write_bytes = 0x45 ∷ 0 ∷ 0 ∷ 0 ∷ 1 ∷ 1 ∷ 1 ∷ 0x1B ∷ 0xFF ∷ []

abbrev id_bytes : List ℕ
id_bytes = 0x4A ∷ 0 ∷ []

abbrev format_bytes : List ℕ
format_bytes = 0x4D ∷ 0 ∷ 1 ∷ 1 ∷ 0x1B ∷ 0xE5 ∷ []

abbrev sense_bytes : List ℕ
sense_bytes = 0x04 ∷ 0 ∷ []

-- of drive 0, side 0
abbrev ordered : Job → Order
ordered job = record { drive = 0; side = 0; job = job }

abbrev moves : Pass → Job
moves pass =
    Move (record { pass = pass; deleted = false; mt = false; sk = false; eot = 1; dtl = 0 })
    (record { c = 0; h = 0; r = 1; n = 1 })

-- what the premises ask, by computing
pub record Met : Type 0 where
  pub disk_there : disk_in small ≡ Some (disk 1 1 1 1)
  pub bound : bound_of (disk 1 1 1 1) ≡ 1312
  pub read_accepted : (given read_bytes).phase ≡ Starting (ordered (moves Read))
  pub write_accepted : (given write_bytes).phase ≡ Starting (ordered (moves Write))
  pub id_accepted : (given id_bytes).phase ≡ Starting (ordered Identify)
  pub format_accepted : (given format_bytes).phase ≡ Starting (ordered (Format (record { n = 1; sc = 1; fill = 0xE5 })))
  pub sense_accepted : (given sense_bytes).phase ≡ Sensing 0
  pub empty : seen_of (given read_bytes).registers.dor 0 [] ≡ None
  -- not served, the Read ends with ST1 10 at its 259th tick, and not before (02 2026-02)
  pub read_on_lem : at_work (run_calls (unserved 258) (given read_bytes)).phase ≡ true
  pub read_over : (run_calls (unserved 259) (given read_bytes)).bytes.results
      ≡ 0x40 ∷ 0x10 ∷ 0x00 ∷ 0 ∷ 0 ∷ 1 ∷ 1 ∷ []
  -- the Read ID has its ID at its second
  pub id_over : (run_calls (hosted 2 small (given id_bytes)) (given id_bytes)).bytes.results
      ≡ 0x00 ∷ 0x00 ∷ 0x00 ∷ 0 ∷ 0 ∷ 1 ∷ 1 ∷ []
  -- the Write ends with ST1 80 at its 260th
  pub write_over : (run_calls (hosted 260 small (given write_bytes)) (given write_bytes)).bytes.results
      ≡ 0x40 ∷ 0x80 ∷ 0x00 ∷ 1 ∷ 0 ∷ 1 ∷ 1 ∷ []
  -- and the Format at its 263rd, one slot done
  pub format_over : (run_calls (hosted 263 small (given format_bytes)) (given format_bytes)).bytes.results
      ≡ 0x00 ∷ 0x00 ∷ 0x00 ∷ 0 ∷ 0 ∷ 1 ∷ 1 ∷ []
  -- one tick before they go on
  pub write_on_lem : at_work (run_calls (hosted 259 small (given write_bytes)) (given write_bytes)).phase ≡ true
  pub format_on : at_work (run_calls (hosted 262 small (given format_bytes)) (given format_bytes)).phase ≡ true
  -- with the host's first byte after its 65th tick the Write is not over at its 320th: a bound that leaves B out, here
  -- 288, does not hold
  pub write_slow :
      at_work (run_calls (hosted 256 small (run_calls (unserved 64) (given write_bytes)))
      (run_calls (unserved 64) (given write_bytes))).phase
      ≡ true

pub met : Met
unfolding all_open bound_of hosted
met = record {
  disk_there = refl;
  bound = refl;
  read_accepted = refl;
  write_accepted = refl;
  id_accepted = refl;
  format_accepted = refl;
  sense_accepted = refl;
  empty = refl;
  read_on_lem = refl;
  read_over = refl;
  id_over = refl;
  write_over = refl;
  format_over = refl;
  write_on_lem = refl;
  format_on = refl;
  write_slow = refl;
}

-- so they are over within the bound's 1,312 ticks: a Read, a Write, a Read ID, a Format
ends : (bytes : List ℕ) → all_below bytes ≡ true → (job : Job) → (given bytes).phase ≡ Starting (ordered job)
    → EndsWith Anyhow (hosted 1312 small (given bytes)) (given bytes)
ends bytes h job e =
    ends_in_time (given bytes) (given_real bytes h) (ordered job) e small (disk 1 1 1 1) met.disk_there
    (hosted 1312 small (given bytes)) (hosted_alone 1312 small (given bytes))
    (omega (arith, met.bound, hosted_ticks 1312 small (given bytes)))

pub read_ends : EndsWith Anyhow (hosted 1312 small (given read_bytes)) (given read_bytes)
read_ends = ends read_bytes refl (moves Read) met.read_accepted

pub write_ends : EndsWith Anyhow (hosted 1312 small (given write_bytes)) (given write_bytes)
write_ends = ends write_bytes refl (moves Write) met.write_accepted

pub id_ends : EndsWith Anyhow (hosted 1312 small (given id_bytes)) (given id_bytes)
id_ends = ends id_bytes refl Identify met.id_accepted

pub format_ends : EndsWith Anyhow (hosted 1312 small (given format_bytes)) (given format_bytes)
format_ends = ends format_bytes refl (Format (record { n = 1; sc = 1; fill = 0xE5 })) met.format_accepted

-- 01 Example 9: a Read on an empty drive, and 01 Example 8: Sense Drive, each over at the next tick
pub empty_ends : (after bare (given read_bytes)).phase ≡ Answering true
empty_ends =
    ends_in_one (given read_bytes) (given_real read_bytes refl) (ordered (moves Read)) met.read_accepted [] []
    met.empty

pub sense_ends : (after bare (given sense_bytes)).phase ≡ Answering false
sense_ends = senses_in_one (given sense_bytes) (given_real sense_bytes refl) 0 met.sense_accepted [] []

-- Specify SRT F, T 63 ticks; then a Seek of drive 0 without its NCN, and a Recalibrate without its drive
abbrev seek_bytes : List ℕ
seek_bytes = 0x03 ∷ 0xF0 ∷ 0x02 ∷ 0x0F ∷ 0 ∷ []

abbrev recalibrate_bytes : List ℕ
recalibrate_bytes = 0x03 ∷ 0xF0 ∷ 0x02 ∷ 0x07 ∷ []

-- drive 0 as the reset's release leaves it
abbrev released : Drive
released = reported_of 0xC0 (fresh_drive 0)

-- ticks without images
abbrev bares : ℕ → List Call
bares zero = []
bares (suc n) = bare ∷ bares n

bares_calm : (n : ℕ) → AllCalm (bares n)
bares_calm zero = tt
bares_calm (suc n) = (tt, bares_calm n)

pub record StepsMet : Type 0 where
  pub seek : Completes Seek 1 (given seek_bytes)
  pub seek_drive : byte_no 1 1 (given seek_bytes) % 4 ≡ 0
  pub seek_target : byte_no 2 1 (given seek_bytes) ≡ 1
  pub seek_free : drive_at 0 (given seek_bytes).drives ≡ released
  pub seek_ticks : step_time (given seek_bytes) ≡ 63
  pub recalibrate : Completes Recalibrate 0 (given recalibrate_bytes)
  pub recalibrate_drive : byte_no 1 0 (given recalibrate_bytes) % 4 ≡ 0
  pub recalibrate_free : drive_at 0 (given recalibrate_bytes).drives ≡ released
  -- 01 Stepping: one step at T 63, over at the 63rd tick; the report waits, 20, and not before
  pub seek_on : (drive_at 0 (run_calls (bares 62) (after (writes 5 1) (given seek_bytes))).drives).report ≡ 0
  pub seek_over : (drive_at 0 (run_calls (bares 63) (after (writes 5 1) (given seek_bytes))).drives).report ≡ 0x20
  pub recalibrate_over :
      (drive_at 0 (after bare (after (writes 5 0) (given recalibrate_bytes))).drives).report ≡ 0x20

pub steps_met : StepsMet
unfolding all_open
steps_met = record {
  seek = record {
    real = given_real seek_bytes refl;
    entry = entry_of 0x0F;
    gathers = refl;
    kind_is = refl;
    last = refl;
  };
  seek_drive = refl;
  seek_target = refl;
  seek_free = refl;
  seek_ticks = refl;
  recalibrate = record {
    real = given_real recalibrate_bytes refl;
    entry = entry_of 0x07;
    gathers = refl;
    kind_is = refl;
    last = refl;
  };
  recalibrate_drive = refl;
  recalibrate_free = refl;
  seek_on = refl;
  seek_over = refl;
  recalibrate_over = refl;
}

-- and so does the theorem say
pub seek_ends : MotionOver 1 0x20 1
    (drive_at 0 (after bare (run_calls (bares 62) (after (writes 5 1) (given seek_bytes)))).drives)
seek_ends =
    (seeks_on_time (given seek_bytes) 1 steps_met.seek 0 1 released steps_met.seek_drive steps_met.seek_target
    steps_met.seek_free refl).last (bares 62) (bares_calm 62) (omega (arith, steps_met.seek_ticks)) [] []

pub recalibrate_ends : MotionOver 0 0x20 0 (drive_at 0 (after bare (after (writes 5 0) (given recalibrate_bytes))).drives)
unfolding run_calls
recalibrate_ends =
    (recalibrates_on_time (given recalibrate_bytes) 0 steps_met.recalibrate 0 released
    steps_met.recalibrate_drive steps_met.recalibrate_free refl).last [] tt refl [] []
