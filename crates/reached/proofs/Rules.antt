-- A call by rules, on any record: what becomes of each drive (`DriveRule`) and of the rest (`Rest`), a rule for each leaf
-- of the seven calls (01 What the box models, Refusals, Registers, Commands, FIFO and request). Each rule carries what
-- holds where it is taken. What the records keep to is then one function over each of the two; `RuleLaws` has that every
-- call is by these rules.
-- Assumes nothing.
use Prim.Native.Nat.{ℕ, ◌/◌, ◌≤◌, ◌<◌}
use mathlib.Core.Bool.{Bool, true, false, ◌&&◌}
use mathlib.Core.List.{List, [], ◌∷◌}
use mathlib.Core.Logic.{◌⊎◌}
use mathlib.Core.Path.{◌≡◌}
use lib.Dec.{eqb}
use lib.ListN.{length, get_or, set, replicate}
use Rattle.image.specs.Lent.{pick_of}
use Rattle.chip.specs.declared.codes.Entry.{Entry}
use Rattle.chip.specs.declared.fifo.Fifo.{Fifo}
use Rattle.chip.specs.declared.refusal.Refusal.{Refusal}
use Rattle.chip.specs.Fifo.{emptied, handed_of, taken_of, given_of}
use Rattle.drive.specs.declared.Drive.{Drive}
use Rattle.drive.specs.declared.Motion.{Motion}
use Rattle.drive.specs.declared.Motion.TheVariants.{Still}
use Rattle.drive.specs.Drive.{fresh_drive, reported_of, sensed_drive, noted_of, accepted, countdown_of}
use Rattle.drive.specs.Drive.{reset_drive}
use Rattle.drive.specs.Step.{tick_drive}
use Rattle.sectors.specs.declared.order.Order.{Order}
use Rattle.sectors.specs.declared.order.Pass.{Pass}
use Rattle.sectors.specs.declared.work.Step.{Step}
use Rattle.sectors.specs.declared.work.Then.{Then}
use Rattle.sectors.specs.declared.work.Then.TheVariants.{Ends, Works}
use Rattle.sectors.specs.declared.work.Work.{Work}
use Rattle.engine.specs.First.{begin_of}
use Rattle.engine.specs.Step.{to_host, from_host, flow_of, drive_of, go_on_of}
use Rattle.chip.specs.Commands.{entry_of}
use Rattle.fdc.specs.declared.answer.Answer.{Answer}
use Rattle.fdc.specs.declared.answer.Reply.{Reply}
use Rattle.fdc.specs.declared.answer.Reply.TheVariants.{Done, Byte, Refused}
use Rattle.fdc.specs.declared.record.Bytes.{Bytes}
use Rattle.fdc.specs.declared.record.Controller.{Controller}
use Rattle.fdc.specs.declared.record.Phase.{Phase}
use Rattle.fdc.specs.declared.record.Phase.TheVariants.{Idle, Gathering, Starting, Working, Sensing, Answering}
use Rattle.fdc.specs.declared.record.Registers.{Registers}
use Rattle.fdc.specs.Commands.{specified_of, configured_of, move_order, format_order, identify_order, step_time}
use Rattle.fdc.specs.Data.{phase_hears}
use Rattle.fdc.specs.Record.{result_room, padded, no_bytes, drive_at}
use Rattle.fdc.specs.Registers.{held_in, any_busy}
use Rattle.fdc.specs.Ticks.{seen_of}
use Rattle.reached.specs.Runs.{Call, powers, reads, writes, takes, gives, ticks, notes}

-- a data command, Read ID or Format is at work
abbrev pub engaged : Phase → Bool
engaged Idle = false
engaged (Gathering entry) = false
engaged (Starting order) = true
engaged (Working work) = true
engaged (Sensing unit) = false
engaged (Answering loud) = false

-- power-on, and the software resets
pub data Restarts (call : Call) : Type 0 where
  by_power : (head0 head1 : ℕ) → call ≡ powers head0 head1 → Restarts call
  by_dor : (byte : ℕ) → call ≡ writes 2 byte → held_in byte ≡ true → Restarts call
  by_dsr : (byte : ℕ) → call ≡ writes 4 byte → eqb (byte / 128) 1 ≡ true → Restarts call

-- drive k after a call, p being the phase after it
pub data DriveRule (call : Call) (c : Controller) (p : Phase) (k : ℕ) : Drive → Type 0 where
  kept : DriveRule call c p k (drive_at k c.drives)
  noted : DriveRule call c p k (noted_of (drive_at k c.drives))
  powered : (head : ℕ) → head ≤ 81 → (head0 head1 : ℕ) → call ≡ powers head0 head1 → DriveRule call c p k (fresh_drive head)
  reset : Restarts call → DriveRule call c p k (reset_drive (drive_at k c.drives))
  restarted : (report : ℕ) → Restarts call → DriveRule call c p k (reported_of report (reset_drive (drive_at k c.drives)))
  released : (report : ℕ) → held_in c.registers.dor ≡ true
      → DriveRule call c p k (reported_of report (drive_at k c.drives))
  sensed : held_in c.registers.dor ≡ false → ((drive_at k c.drives).report ≡ 0 → ⊥)
      → DriveRule call c p k (sensed_drive (drive_at k c.drives))
  set_off : held_in c.registers.dor ≡ false → p ≡ Idle → (drive_at k c.drives).busy ≡ false
      → (motion : Motion) → countdown_of motion ≤ 1000 → DriveRule call c p k (accepted motion (drive_at k c.drives))
  ticked : (a b : List ℕ) → call ≡ ticks a b → held_in c.registers.dor ≡ false → (mounted : Bool)
      → DriveRule call c p k (tick_drive k mounted (step_time c) (drive_at k c.drives))

-- what a write to DOR, TDR, DSR or CCR that is no reset leaves; it may release one
pub record SameSettings (r n : Registers) : Type 0 where
  pub held : held_in n.dor ≡ true → held_in r.dor ≡ true
  pub spec1 : n.spec1 ≡ r.spec1
  pub efifo : n.efifo ≡ r.efifo
  pub fifothr : n.fifothr ≡ r.fifothr

-- a byte passes by DMA or by the data register, which has no TC
pub data Takes (call : Call) : Bool → Type 0 where
  by_read : call ≡ reads 5 → Takes call false
  by_cycle : (tc : Bool) → call ≡ takes tc → Takes call tc

pub data Gives (call : Call) (byte : ℕ) : Bool → Type 0 where
  by_write : call ≡ writes 5 byte → Gives call byte false
  by_dma : (tc : Bool) → call ≡ gives byte tc → Gives call byte tc

-- which entry of the table a command byte goes by
pub data Collects (c : Controller) (byte : ℕ) : Entry → Type 0 where
  first : c.phase ≡ Idle → Collects c byte (entry_of byte)
  further : (entry : Entry) → c.phase ≡ Gathering entry → Collects c byte entry

-- a command byte is written, and these are then the command's
pub record Told (call : Call) (c : Controller) (command : List ℕ) : Type 0 where
  pub byte : ℕ
  pub entry : Entry
  pub it : call ≡ writes 5 byte
  pub free : held_in c.registers.dor ≡ false
  pub by : Collects c byte entry
  -- the first byte is byte 0, whatever was held
  pub from : Bytes
  pub whence : (from ≡ c.bytes) ⊎ (from ≡ no_bytes)
  pub bytes : command ≡ set from.command from.gathered byte

pub data Orders (command : List ℕ) : Order → Type 0 where
  moving : (pass : Pass) (deleted : Bool) → Orders command (move_order command pass deleted)
  formatting : Orders command (format_order command)
  identifying : Orders command (identify_order command)

-- the engine's step in a tick of a command
pub data Acts (a b : List ℕ) (c : Controller) : Step → Type 0 where
  begins : (order : Order) (head : ℕ) → c.phase ≡ Starting order
      → Acts a b c
      (begin_of order (seen_of c.registers.dor order.drive (pick_of order.drive a b)) head c.fifo)
  goes_on_lem : (work : Work) (head : ℕ) → c.phase ≡ Working work
      → Acts a b c
      (go_on_of work (seen_of c.registers.dor (drive_of work) (pick_of (drive_of work) a b)) head
      (pick_of (drive_of work) a b) c.fifo c.registers.efifo c.registers.fifothr)

-- results wait; the command bytes have done their work
abbrev pub waiting : List ℕ → ℕ → Bytes
waiting results left = record { command = replicate 9 0; gathered = 0; results = results; left = left }

abbrev pub bytes_then : Then → Bytes → Bytes
bytes_then (Ends v) bytes =
    waiting (padded (v.st0 ∷ v.st1 ∷ v.st2 ∷ v.id.c ∷ v.id.h ∷ v.id.r ∷ v.id.n ∷ [])) 7
bytes_then (Works work) bytes = bytes

abbrev pub phase_then : Then → Phase
phase_then (Ends v) = Answering true
phase_then (Works work) = Working work

-- the reply, and all but the drives; they are named where none of them moves
pub data Rest (call : Call) (c : Controller) (drives : List Drive) : Reply → Registers → Fifo → Bytes → Phase → Type 0 where
  -- as it was: a refusal, a register read, a tick in which drives step at most, the disk-change note
  refuses : (refusal : Refusal) → Rest call c drives (Refused refusal) c.registers c.fifo c.bytes c.phase
  shows : (offset byte : ℕ) → call ≡ reads offset → (offset ≡ 5 → ⊥)
      → Rest call c drives (Byte byte) c.registers c.fifo c.bytes c.phase
  steps : (a b : List ℕ) → call ≡ ticks a b → Rest call c drives Done c.registers c.fifo c.bytes c.phase
  flags : (drive : ℕ) → call ≡ notes drive → Rest call c drives Done c.registers c.fifo c.bytes c.phase
  -- registers
  sets : (offset byte : ℕ) → call ≡ writes offset byte → (offset ≡ 5 → ⊥) → (n : Registers)
      → SameSettings c.registers n → Rest call c drives Done n c.fifo c.bytes c.phase
  anew : Restarts call → (reply : Reply) (n : Registers) → n.efifo ≡ true → n.fifothr ≡ 0
      → (n.spec1 ≡ 0) ⊎ (n.spec1 ≡ c.registers.spec1) → ((k : ℕ) → k < 4 → (drive_at k drives).motion ≡ Still)
      → Rest call c drives reply n emptied no_bytes Idle
  -- a byte of a transfer
  took_byte : (tc : Bool) → Takes call tc → (work : Work) → c.phase ≡ Working work → to_host (flow_of work) ≡ true
      → c.fifo.asks ≡ true
      → Rest call c drives (Byte (handed_of c.fifo)) c.registers (taken_of tc c.fifo) c.bytes c.phase
  gave_byte : (byte : ℕ) (tc : Bool) → Gives call byte tc → (work : Work) → c.phase ≡ Working work
      → from_host (flow_of work) ≡ true → c.fifo.asks ≡ true
      → Rest call c drives Done c.registers (given_of c.registers.efifo (tc && phase_hears c.phase) byte c.fifo)
      c.bytes c.phase
  -- a command byte of several
  gathers : (b : Bytes) (t : Told call c b.command) → b.gathered < t.entry.bytes → b.gathered ≤ 9
      → (c.bytes.left ≤ result_room → b.left ≤ result_room) → (length c.bytes.results ≡ result_room → length b.results ≡ result_room)
      → Rest call c drives Done c.registers c.fifo b (Gathering t.entry)
  -- bytes to be taken, none of a data command; or nothing more
  says : engaged c.phase ≡ false → held_in c.registers.dor ≡ false → (reply : Reply) (results : List ℕ) (left : ℕ)
      → 1 ≤ left → (c.bytes.left ≤ result_room → left ≤ result_room) → (length c.bytes.results ≡ result_room → length results ≡ result_room)
      → Rest call c drives reply c.registers c.fifo (waiting results left) (Answering false)
  idles : engaged c.phase ≡ false → held_in c.registers.dor ≡ false → (reply : Reply)
      → Rest call c drives reply c.registers c.fifo no_bytes Idle
  -- 01 Commands (house): these are carried out only while no busy bit is on
  specifies : (command : List ℕ) → Told call c command → any_busy c.drives ≡ false → (second : ℕ)
      → Rest call c drives Done (specified_of c.registers (get_or command 1 0) second) c.fifo no_bytes Idle
  configures : (command : List ℕ) → Told call c command → any_busy c.drives ≡ false → (byte track : ℕ)
      → Rest call c drives Done (configured_of c.registers byte track) emptied no_bytes Idle
  senses : (command : List ℕ) → Told call c command → any_busy c.drives ≡ false → (unit : ℕ)
      → Rest call c drives Done c.registers c.fifo no_bytes (Sensing unit)
  starts : (command : List ℕ) → Told call c command → any_busy c.drives ≡ false → (order : Order)
      → Orders command order → Rest call c drives Done c.registers c.fifo no_bytes (Starting order)
  -- a tick of a command at work
  acts : (a b : List ℕ) → call ≡ ticks a b → held_in c.registers.dor ≡ false → (s : Step) → Acts a b c s
      → Rest call c drives Done c.registers s.fifo (bytes_then s.then c.bytes) (phase_then s.then)

pub record Ruled (call : Call) (c : Controller) (a : Answer) : Type 0 where
  pub rest :
      Rest call c a.controller.drives a.reply a.controller.registers a.controller.fifo a.controller.bytes
      a.controller.phase
  pub drives : (k : ℕ) → k < 4 → DriveRule call c a.controller.phase k (drive_at k a.controller.drives)
  pub long : length c.drives ≡ 4 → length a.controller.drives ≡ 4
