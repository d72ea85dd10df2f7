-- The controller made ready for a request: document 02, 2026-01: "turns the motor on"; the order of calls: DOR with
-- the drive's motor, gate, drive and bit 2 low, then high (other motors kept); Sense Interrupt until 80;
-- Specify F0 00.
-- Assumes nothing.
use Rattle.std.specs.Prelude.{ℕ, zero, suc, ◌+◌, ◌*◌, ◌/◌, ◌%◌, Bool, true, false, not, ◌||◌, cond, List, [], ◌∷◌, eqb}
use Rattle.std.specs.Prelude.{Result, Ok, Err}
use Rattle.fdc.specs.declared.answer.Answer.{Answer}
use Rattle.fdc.specs.declared.record.Controller.{Controller}
use Rattle.fdc.specs.Answer.{value_of}
use Rattle.fdc.specs.Calls.{read_port, write_port}
use Rattle.block.specs.declared.ready.Late.{Late}

-- whether what a call waited for came within its budget
abbrev pub in_time : {A : Type 0} → Result A Late → Bool
in_time (Ok value) = true
in_time (Err e) = false

abbrev pub weight_of : Bool → ℕ → ℕ
weight_of on byte = cond on byte 0

-- 01 Registers DOR: motors bits 4-7, gate 3, not-reset 2, drive 1-0; of the two drives that have images the second or
-- the first
unfoldable pub dor_for : ℕ → Bool → ℕ → ℕ
dor_for drive held dor =
    dor / 0x40 % 4 * 0x40
    + weight_of (eqb drive 1 || eqb (dor / 0x20 % 2) 1) 0x20
    + weight_of (not (eqb drive 1) || eqb (dor / 0x10 % 2) 1) 0x10
    + 0x08
    + weight_of (not held) 0x04
    + weight_of (eqb drive 1) 0x01

-- what DOR shows
abbrev pub shown_dor : Controller → ℕ
shown_dor c = value_of (read_port 2 c).reply

unfoldable pub reset_for : ℕ → Controller → Controller
reset_for drive c =
    (write_port 2 (dor_for drive false (shown_dor c))
    (write_port 2 (dor_for drive true (shown_dor c)) (read_port 2 c).controller).controller).controller

-- the bytes of a command, one after the other
unfoldable pub command_of : List ℕ → Controller → Controller
command_of [] c = c
command_of (byte ∷ bytes) c = command_of bytes (write_port 5 byte c).controller

-- 01 Commands Sense Interrupt: ST0 and PCN, or 80 alone
abbrev pub first_sensed : Controller → Answer
first_sensed c = read_port 5 (write_port 5 0x08 c).controller

-- what it answers, and what it leaves
pub record Sensed : Type 0 where
  pub st0 : ℕ
  pub controller : Controller

abbrev pub sensed_with : ℕ → Controller → Sensed
sensed_with st0 c = record { st0 = st0; controller = c }

unfoldable pub sense_of : Controller → Sensed
sense_of c =
    cond (eqb (value_of (first_sensed c).reply) 0x80)
    (sensed_with (value_of (first_sensed c).reply) (first_sensed c).controller)
    (sensed_with (value_of (first_sensed c).reply) (read_port 5 (first_sensed c).controller).controller)

-- whether what was waited for came within its budget, and what is left then
pub record Waited : Type 0 where
  pub came : Bool
  pub controller : Controller

abbrev pub waited_with : Bool → Controller → Waited
waited_with came c = record { came = came; controller = c }

-- until 80, so many at most
unfoldable pub clear_of : ℕ → Controller → Waited
clear_of zero c = waited_with false c
clear_of (suc n) c =
    cond (eqb (sense_of c).st0 0x80) (waited_with true (sense_of c).controller)
    (clear_of n (sense_of c).controller)

abbrev pub specified : Waited → Waited
specified w =
    cond w.came
    (waited_with true (command_of (0x03 ∷ 0xF0 ∷ 0x00 ∷ []) w.controller))
    w

-- a reset leaves four reports at most, and then 80 comes
unfoldable pub ready_of : ℕ → Controller → Waited
ready_of drive c = specified (clear_of 5 (reset_for drive c))
