-- Reading back what was written is the record (house).
-- Assumes nothing.
use Prim.Native.Nat.{ℕ, zero, suc, ◌+◌, ◌≤◌, ◌<◌}
use mathlib.Core.Bool.{Bool, true, false, ◌&&◌, cond}
use mathlib.Core.List.{List, [], ◌∷◌, ◌++◌}
use mathlib.Core.Path.{◌≡◌, refl, ap, ◌∙◌}
use native.Mathlib.Omega.{arith}
use lib.Dec.{eqb, leb}
use lib.ListN.{length, get_or, take, drop, replicate}
use lib.Seq.{drop-cons, take_all}
use borrow.Author.Tests.{le-leb, ne_eqb}
use Rattle.chip.specs.declared.codes.Kind.{Kind}
use Rattle.chip.specs.declared.codes.Kind.TheVariants.{Unknown, ReadData, ReadDeleted, WriteData, WriteDeleted, ReadId}
use Rattle.chip.specs.declared.codes.Kind.TheVariants.{Format, Recalibrate, SenseInterrupt, Specify, SenseDrive, Seek}
use Rattle.chip.specs.declared.codes.Kind.TheVariants.{Version, Configure}
use Rattle.chip.specs.declared.fifo.Fifo.{Fifo}
use Rattle.chip.specs.Commands.{kind_number, kind_numbered}
use Rattle.drive.specs.declared.Drive.{Drive}
use Rattle.drive.specs.declared.Motion.{Motion}
use Rattle.drive.specs.declared.Motion.TheVariants.{Still, Seeking, Recalibrating}
use Rattle.sectors.specs.declared.order.Pass.{Pass}
use Rattle.sectors.specs.declared.order.Pass.TheVariants.{Read, Write}
use Rattle.sectors.specs.declared.work.Task.{Task}
use Rattle.fdc.specs.declared.record.Bytes.{Bytes}
use Rattle.fdc.specs.declared.record.Controller.{Controller}
use Rattle.fdc.specs.declared.record.Registers.{Registers}
use Rattle.fdc.specs.Record.{drive_at, no_drive}
use Rattle.pack.specs.declared.flat.Flat.{Flat}
use Rattle.pack.specs.declared.flat.Spot.{Spot}
use Rattle.pack.specs.Back.{HoldsRecord, Typed}
use Rattle.pack.specs.Bytes.{bit_of, high_of, low_of, wide_of, pass_number, pass_numbered, byte_at, registers_bytes}
use Rattle.pack.specs.Bytes.{registers_in, course_of, motion_of, drive_bytes, drive_from, fifo_bytes, flow_bytes, fifo_in}
use Rattle.pack.specs.Bytes.{command_bytes, result_bytes, gathered_in, head_bytes, site_bytes, task_bytes, task_from}
use Rattle.pack.specs.Bytes.{spot_bytes, spot_in, flat_of, record_bytes, record_in, record_size, registers_ok, drive_ok}
use Rattle.pack.specs.Bytes.{flow_ok, head_ok, site_ok, task_ok, spot_ok, drives_ok, flat_ok, cases_ok, is_record}
use Rattle.pack.specs.Flat.{phase_flat, phase_from}
use Rattle.pack.specs.Places.{version, version_at}
use Rattle.pack.proofs.FlatLaws.{phase_back, FlatWithin, phase_within}

flag_back : (flag : Bool) → eqb (bit_of flag) 1 ≡ flag
flag_back true = refl
flag_back false = refl

pass_back : (pass : Pass) → pass_numbered (pass_number pass) ≡ pass
unfolding pass_numbered
pass_back Read = refl
pass_back Write = refl

kind_back : (kind : Kind) → kind_numbered (kind_number kind) ≡ kind
unfolding kind_numbered
kind_back Unknown = refl
kind_back ReadData = refl
kind_back ReadDeleted = refl
kind_back WriteData = refl
kind_back WriteDeleted = refl
kind_back ReadId = refl
kind_back Format = refl
kind_back Recalibrate = refl
kind_back SenseInterrupt = refl
kind_back Specify = refl
kind_back SenseDrive = refl
kind_back Seek = refl
kind_back Version = refl
kind_back Configure = refl

wide_back : (x : ℕ) → x < 0x10000 → wide_of (high_of x) (low_of x) ≡ x
wide_back x h = omega arith

motion_back : (motion : Motion)
    → motion_of (course_of motion).tag (course_of motion).target (course_of motion).steps (course_of motion).wait
    ≡ motion
unfolding motion_of
motion_back Still = refl
motion_back (Seeking target steps wait) = refl
motion_back (Recalibrating steps wait) = refl

-- the n elements from place k on, written out
abbrev pub spelt : {A : Type 0} → A → List A → ℕ → ℕ → List A
spelt d l k zero = []
spelt d l k (suc n) = get_or l k d ∷ spelt d l (suc k) n

pub spelt_part : {A : Type 0} (d : A) (l : List A) (k n : ℕ) → k + n ≤ length l → spelt d l k n ≡ take n (drop k l)
spelt_part d l k zero h = refl
spelt_part d l k (suc n) h =
    let below : k < length l = omega arith in
    let rest : suc k + n ≤ length l = omega arith in
    rw (drop-cons l k d below) (ap (λ r. get_or l k d ∷ r) (spelt_part d l (suc k) n rest))

pub spelt_whole : {A : Type 0} (d : A) (l : List A) (n : ℕ) → length l ≡ n → spelt d l 0 n ≡ l
spelt_whole d l n e =
    let h : 0 + n ≤ length l = omega arith in
    let g : length l ≤ n = omega arith in
    spelt_part d l 0 n h ∙ take_all n l g

registers_back : (r : Registers) → registers_in (registers_bytes r) ≡ r
registers_back r = rw (flag_back r.eis, flag_back r.efifo, flag_back r.poll)

drive_back : (d : Drive) → (course_of d.motion).wait < 0x10000 → drive_from (drive_bytes d) ≡ d
drive_back d h =
    rw (flag_back d.changed, flag_back d.busy, wide_back (course_of d.motion).wait h, motion_back d.motion)

pub fifo_back : (f : Fifo) → length f.bytes ≡ 16 → fifo_in (fifo_bytes f) (flow_bytes f) ≡ f
fifo_back f h = rw (flag_back f.asks, flag_back f.tc, spelt_whole 0 f.bytes 16 h)

gathered_back : (b : Bytes) → length b.command ≡ 9 → length b.results ≡ 7
    → gathered_in (command_bytes b) (result_bytes b) ≡ b
gathered_back b h g = rw (spelt_whole 0 b.command 9 h, spelt_whole 0 b.results 7 g)

task_back : (t : Task) → task_from (task_bytes t) ≡ t
task_back t =
    rw (
      pass_back t.transfer.pass,
      flag_back t.transfer.deleted,
      flag_back t.transfer.mt,
      flag_back t.transfer.sk,
      flag_back t.other,
      flag_back t.late,
    )

spot_back : (s : Spot) → s.done < 0x10000 → spot_in (spot_bytes s) ≡ s
spot_back s h =
    rw (
      flag_back s.met,
      flag_back s.wrong,
      flag_back s.bad,
      flag_back s.broken,
      flag_back s.other,
      wide_back s.done h,
    )

-- a phase's rows, read
abbrev flat_back_lem : Flat → Flat
flat_back_lem f = flat_of (head_bytes f) (site_bytes f.site f.plan) (task_bytes f.task) (spot_bytes f.spot)

flat_back : (f : Flat) → f.spot.done < 0x10000 → flat_back_lem f ≡ f
flat_back f h =
    rw (
      kind_back f.entry.kind,
      flag_back f.loud,
      flag_back f.site.disk.protect,
      task_back f.task,
      spot_back f.spot h,
    )

-- each row is read where it was written
parts : (c : Controller) (rest : List ℕ)
    → record_in (record_bytes c ++ rest)
    ≡ record {
      registers = registers_in (registers_bytes c.registers);
      drives =
          drive_from (drive_bytes (drive_at 0 c.drives))
          ∷ drive_from (drive_bytes (drive_at 1 c.drives))
          ∷ drive_from (drive_bytes (drive_at 2 c.drives))
          ∷ drive_from (drive_bytes (drive_at 3 c.drives))
          ∷ [];
      fifo = fifo_in (fifo_bytes c.fifo) (flow_bytes c.fifo);
      bytes = gathered_in (command_bytes c.bytes) (result_bytes c.bytes);
      phase = phase_from (flat_back_lem (phase_flat c.phase));
    }
unfolding record_in record_bytes
parts c rest = refl

pub read_back : (c : Controller) (rest : List ℕ) → Typed c → record_in (record_bytes c ++ rest) ≡ c
read_back c rest t =
    parts c rest
    ∙ rw (
      registers_back c.registers,
      drive_back (drive_at 0 c.drives) t.drives.wait0,
      drive_back (drive_at 1 c.drives) t.drives.wait1,
      drive_back (drive_at 2 c.drives) t.drives.wait2,
      drive_back (drive_at 3 c.drives) t.drives.wait3,
      spelt_whole no_drive c.drives 4 t.drives.long,
      fifo_back c.fifo t.fifo,
      gathered_back c.bytes t.command t.results,
      flat_back (phase_flat c.phase) t.done,
      phase_back c.phase,
    )

pub flag_within : (flag : Bool) → leb (bit_of flag) 1 ≡ true
flag_within true = refl
flag_within false = refl

pass_within : (pass : Pass) → leb (pass_number pass) 1 ≡ true
pass_within Read = refl
pass_within Write = refl

kind_within : (kind : Kind) → leb (kind_number kind) 13 ≡ true
kind_within Unknown = refl
kind_within ReadData = refl
kind_within ReadDeleted = refl
kind_within WriteData = refl
kind_within WriteDeleted = refl
kind_within ReadId = refl
kind_within Format = refl
kind_within Recalibrate = refl
kind_within SenseInterrupt = refl
kind_within Specify = refl
kind_within SenseDrive = refl
kind_within Seek = refl
kind_within Version = refl
kind_within Configure = refl

course_within : (motion : Motion) → leb (course_of motion).tag 2 ≡ true
course_within Still = refl
course_within (Seeking target steps wait) = refl
course_within (Recalibrating steps wait) = refl

long : (c : Controller) (rest : List ℕ) → record_size ≤ length (record_bytes c ++ rest)
unfolding record_bytes
long c rest = omega arith

-- what is written has its flags and cases in range
registers_ok_lem : (r : Registers) → registers_ok (registers_bytes r) ≡ true
unfolding registers_ok
registers_ok_lem r = rw (flag_within r.eis, flag_within r.efifo, flag_within r.poll)

drive_ok_lem : (d : Drive) → drive_ok (drive_bytes d) ≡ true
unfolding drive_ok
drive_ok_lem d = rw (flag_within d.changed, flag_within d.busy, course_within d.motion)

pub flow_ok_lem : (f : Fifo) → flow_ok (flow_bytes f) ≡ true
unfolding flow_ok
flow_ok_lem f = rw (flag_within f.asks, flag_within f.tc)

-- a phase's rows
abbrev flat_good : Flat → Bool
flat_good f =
    head_ok (head_bytes f) && site_ok (site_bytes f.site f.plan) && task_ok (task_bytes f.task)
    && spot_ok (spot_bytes f.spot)

flat_ok_lem : (f : Flat) → FlatWithin f → flat_good f ≡ true
unfolding head_ok site_ok task_ok spot_ok
flat_ok_lem f w =
    simp (flag_within, pass_within, kind_within, w.tag, w.work, w.stage, w.form)

ok_parts : (c : Controller) (rest : List ℕ)
    → cases_ok (record_bytes c ++ rest)
    ≡ registers_ok (registers_bytes c.registers)
    && (drive_ok (drive_bytes (drive_at 0 c.drives)) && drive_ok (drive_bytes (drive_at 1 c.drives))
    && drive_ok (drive_bytes (drive_at 2 c.drives)) && drive_ok (drive_bytes (drive_at 3 c.drives)))
    && flow_ok (flow_bytes c.fifo) && flat_good (phase_flat c.phase)
unfolding cases_ok drives_ok flat_ok record_bytes
ok_parts c rest = refl

pub cases_ok_lem : (c : Controller) (rest : List ℕ) → cases_ok (record_bytes c ++ rest) ≡ true
cases_ok_lem c rest =
    ok_parts c rest
    ∙ rw (
      registers_ok_lem c.registers,
      drive_ok_lem (drive_at 0 c.drives),
      drive_ok_lem (drive_at 1 c.drives),
      drive_ok_lem (drive_at 2 c.drives),
      drive_ok_lem (drive_at 3 c.drives),
      flow_ok_lem c.fifo,
      flat_ok_lem (phase_flat c.phase) (phase_within c.phase),
    )

version_first : (c : Controller) (rest : List ℕ) → byte_at (record_bytes c ++ rest) version_at ≡ version
unfolding record_bytes
version_first c rest = refl

pub is_record_lem : (c : Controller) (rest : List ℕ) → is_record (record_bytes c ++ rest) ≡ true
unfolding is_record
is_record_lem c rest =
    rw (
      le-leb record_size (length (record_bytes c ++ rest)) (long c rest),
      version_first c rest,
      cases_ok_lem c rest,
    )

pub holds : (c : Controller) (rest : List ℕ) → Typed c → HoldsRecord (record_bytes c ++ rest) c
holds c rest t = record { good = is_record_lem c rest; back = read_back c rest t }

-- house: another version's bytes are no record
pub version_refused : (l : List ℕ) → (byte_at l version_at ≡ version → ⊥) → is_record l ≡ false
unfolding is_record
version_refused l h = rw (ne_eqb (byte_at l version_at) version h) (same_both (leb record_size (length l)))
  where
    same_both : (t : Bool) → cond t false false ≡ false
    same_both true = refl
    same_both false = refl

-- house: nor is memory that was never powered on, however much it is
zeros_first : (n : ℕ) → byte_at (replicate n 0) version_at ≡ 0
zeros_first zero = refl
zeros_first (suc n) = refl

pub zeros_refused : (n : ℕ) → is_record (replicate n 0) ≡ false
zeros_refused n = version_refused (replicate n 0) (λ e. omega (arith, zeros_first n, e))
