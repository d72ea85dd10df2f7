-- Demand 1, refusals: document 01, Refusals by number. Each row of its table is a sentence of its own, of the call and
-- of the record that it is handed; which record a refusal hands back, its value, its lines and the images are said
-- below.
-- Assumes nothing.
use Rattle.std.specs.Prelude.{ℕ, ◌/◌, ◌%◌, ◌<◌, Bool, true, false, List, ◌⊎◌, ◌↔◌, ◌≡◌}
use Rattle.chip.specs.Fifo.{capacity_of}
use Rattle.drive.specs.Drive.{countdown_of}
use Rattle.fdc.specs.declared.record.Controller.{Controller}
use Rattle.fdc.specs.Answer.{value_of, number_in}
use Rattle.fdc.specs.Data.{phase_to_host, phase_from_host}
use Rattle.fdc.specs.Record.{drive_at, fresh_of, phase_wait}
use Rattle.fdc.specs.Registers.{msr_of, int_of, drq_of}
use Rattle.reached.specs.Runs.{Call, powers, reads, writes, takes, gives, ticks, notes, answer_to, after}
use Rattle.demands.specs.Work.{image_by}

-- 01 Refusals 4: the record has a FIFO count above its capacity, over 9 command or 7 result bytes, a head above 81,
-- FIFOTHR above 15, a wait above 64 or a step countdown above 1000
pub data Fault (c : Controller) : Type 0 where
  fifo_above : capacity_of c.registers.efifo < c.fifo.count → Fault c
  command_above : 9 < c.bytes.gathered → Fault c
  results_above : 7 < c.bytes.left → Fault c
  head_above : (k : ℕ) → k < 4 → 81 < (drive_at k c.drives).head → Fault c
  fifothr_above : 15 < c.registers.fifothr → Fault c
  wait_above : 64 < phase_wait c.phase → Fault c
  countdown_above : (k : ℕ) → k < 4 → 1000 < countdown_of (drive_at k c.drives).motion → Fault c

-- power-on is handed no record
abbrev pub Damaged : Call → Controller → Type 0
Damaged (powers head0 head1) c = ⊥
Damaged (reads offset) c = Fault c
Damaged (writes offset byte) c = Fault c
Damaged (takes tc) c = Fault c
Damaged (gives byte tc) c = Fault c
Damaged (ticks a b) c = Fault c
Damaged (notes drive) c = Fault c

-- 01 Refusals 1: port offset is 0, 1, 6 or above 7
abbrev pub NoPort : ℕ → Type 0
NoPort offset = (offset ≡ 0) ⊎ ((offset ≡ 1) ⊎ ((offset ≡ 6) ⊎ (7 < offset)))

-- MSR's bit 7 is RQM, its bit 6 DIO: 1 to the host, 0 from it
abbrev pub rqm_of : Controller → ℕ
rqm_of c = msr_of c / 128 % 2

abbrev pub dio_of : Controller → ℕ
dio_of c = msr_of c / 64 % 2

-- 01 Refusals 2: FIFO (offset 5) accessed while RQM is 0 or DIO has the other direction
abbrev pub OutOfTurn : ℕ → ℕ → Controller → Type 0
OutOfTurn offset other c = (offset ≡ 5) × ((rqm_of c ≡ 0) ⊎ (dio_of c ≡ other))

-- 01 Refusals 3: DMA cycle while the DRQ line is off or of the other direction
abbrev pub OffLine : Bool → Controller → Type 0
OffLine other c = (drq_of c ≡ false) ⊎ (other ≡ true)

-- 01 Refusals 5: power-on with a head position above 81
abbrev pub HeadAbove : ℕ → ℕ → Type 0
HeadAbove head0 head1 = (81 < head0) ⊎ (81 < head1)

-- 01 Refusals: the rows after 4, by call: number n is given to it, and when. A tick has none
abbrev pub Row : ℕ → Call → Controller → Type 0
Row n (powers head0 head1) c = (n ≡ 5) × HeadAbove head0 head1
Row n (reads offset) c = ((n ≡ 1) × NoPort offset) ⊎ ((n ≡ 2) × OutOfTurn offset 0 c)
Row n (writes offset byte) c = ((n ≡ 1) × NoPort offset) ⊎ ((n ≡ 2) × OutOfTurn offset 1 c)
Row n (takes tc) c = (n ≡ 3) × OffLine (phase_from_host c.phase) c
Row n (gives byte tc) c = (n ≡ 3) × OffLine (phase_to_host c.phase) c
Row n (ticks a b) c = ⊥
Row n (notes drive) c = (n ≡ 6) × (1 < drive)

-- 01 Refusals: order: 4, then the others
abbrev pub Given : ℕ → Call → Controller → Type 0
Given n call c = ((n ≡ 4) × Damaged call c) ⊎ ((Damaged call c → ⊥) × Row n call c)

-- the number that a call answers; 0 is none
abbrev pub number_to : Call → Controller → ℕ
number_to call c = number_in (answer_to call c).reply

-- 01 Refusals: a refusal returns the record as handed in (5: a fresh record with heads at 0)
abbrev pub kept_by : Call → Controller → Controller
kept_by (powers head0 head1) c = fresh_of 0 0
kept_by (reads offset) c = c
kept_by (writes offset byte) c = c
kept_by (takes tc) c = c
kept_by (gives byte tc) c = c
kept_by (ticks a b) c = c
kept_by (notes drive) c = c

-- a call that reads nothing
abbrev pub ReadsNothing : Call → Type 0
ReadsNothing (powers head0 head1) = Unit {0}
ReadsNothing (reads offset) = ⊥
ReadsNothing (writes offset byte) = Unit {0}
ReadsNothing (takes tc) = ⊥
ReadsNothing (gives byte tc) = Unit {0}
ReadsNothing (ticks a b) = Unit {0}
ReadsNothing (notes drive) = Unit {0}

-- Demand 1, of any record, reached or not, and any call
pub record RefusedExactly : Type 0 where
  -- each number exactly when its row says
  pub exactly : (n : ℕ) (call : Call) (c : Controller) → 0 < n → (number_to call c ≡ n) ↔ Given n call c
  -- a refusal returns its number and value 0 ..
  pub value : (call : Call) (c : Controller) → 0 < number_to call c → value_of (answer_to call c).reply ≡ 0
  -- .. and the record; images stay, whatever they hold
  pub kept : (call : Call) (c : Controller) → 0 < number_to call c → after call c ≡ kept_by call c
  pub images : (call : Call) (c : Controller) → 0 < number_to call c → (k : ℕ) (img : List ℕ)
      → image_by k img call c ≡ img
  -- the lines are that record's, in every answer
  pub int : (call : Call) (c : Controller) → (answer_to call c).int ≡ int_of (after call c)
  pub drq : (call : Call) (c : Controller) → (answer_to call c).drq ≡ drq_of (after call c)
  -- value 0 where nothing is read
  pub nothing_read : (call : Call) (c : Controller) → ReadsNothing call → value_of (answer_to call c).reply ≡ 0
