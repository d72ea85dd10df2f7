-- A call of a command at work, rule by rule, at the record: what a tick decides, and what any other call leaves as it
-- is.
-- Assumes nothing.
use Prim.Native.Nat.{ℕ, ◌<◌}
use mathlib.Core.Bool.{Bool, true, ◌&&◌}
use mathlib.Core.Path.{◌≡◌}
use Rattle.chip.specs.Fifo.{front_of, taken_of, given_of}
use Rattle.fdc.specs.declared.record.Controller.{Controller}
use Rattle.fdc.specs.declared.record.Phase.TheVariants.{Idle}
use Rattle.fdc.specs.Data.{phase_to_host, phase_from_host, phase_hears}
use Rattle.fdc.specs.Record.{drive_at}
use Rattle.reached.specs.Runs.{Call, powers, reads, writes, takes, gives, ticks, notes}
use Rattle.demands.specs.HandedOver.{Taken, took_one, taken_by}
use Rattle.demands.specs.History.{History, history_by, handed}

abbrev pub NoTick : Call → Type 0
NoTick (powers head0 head1) = Unit {0}
NoTick (reads offset) = Unit {0}
NoTick (writes offset byte) = Unit {0}
NoTick (takes tc) = Unit {0}
NoTick (gives byte tc) = Unit {0}
NoTick (ticks a b) = ⊥
NoTick (notes drive) = Unit {0}

-- a call that may hand the host a byte
abbrev pub MayTake : Call → Type 0
MayTake (powers head0 head1) = ⊥
MayTake (reads offset) = Unit {0}
MayTake (writes offset byte) = ⊥
MayTake (takes tc) = Unit {0}
MayTake (gives byte tc) = ⊥
MayTake (ticks a b) = ⊥
MayTake (notes drive) = ⊥

-- the FIFO after a call that is no tick, and what the call adds to the history
pub data FifoRule (call : Call) (c e : Controller) : Type 0 where
  same : e.fifo ≡ c.fifo → ((h : History) → history_by call c h ≡ h) → FifoRule call c e
  took : (tc : Bool) → MayTake call → phase_to_host c.phase ≡ true → e.fifo ≡ taken_of tc c.fifo
      → ((h : History) → history_by call c h ≡ h) → FifoRule call c e
  gave : (byte : ℕ) (tc : Bool) → phase_from_host c.phase ≡ true → c.fifo.asks ≡ true
      → e.fifo ≡ given_of c.registers.efifo (tc && phase_hears c.phase) byte c.fifo
      → ((h : History) → history_by call c h ≡ handed byte tc h) → FifoRule call c e

-- the FIFO after a call that may hand the host a byte, and what it adds to what the host took
pub data TakenRule (call : Call) (c e : Controller) : Type 0 where
  none_taken : e.fifo ≡ c.fifo → ((t : Taken) → taken_by call c t ≡ t) → TakenRule call c e
  one_taken : (tc : Bool) → phase_to_host c.phase ≡ true → c.fifo.asks ≡ true → e.fifo ≡ taken_of tc c.fifo
      → ((t : Taken) → taken_by call c t ≡ took_one (front_of c.fifo) tc t) → TakenRule call c e

-- what stays while a command goes on: its phase, the heads, EFIFO and FIFOTHR
pub record Keeps (c e : Controller) : Type 0 where
  pub phase : e.phase ≡ c.phase
  pub heads : (k : ℕ) → k < 4 → (drive_at k e.drives).head ≡ (drive_at k c.drives).head
  pub efifo : e.registers.efifo ≡ c.registers.efifo
  pub fifothr : e.registers.fifothr ≡ c.registers.fifothr

-- a call that is no tick, of a command at work: power-on and resets end it, any other keeps it
pub data CallRule (call : Call) (c e : Controller) : Type 0 where
  cut_off : e.phase ≡ Idle → ((h : History) → history_by call c h ≡ h) → CallRule call c e
  goes_on_lem : Keeps c e → FifoRule call c e → CallRule call c e
