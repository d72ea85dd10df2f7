-- A motor that is on stays on over ticks and DMA cycles (01 Registers DOR), which reset nothing, and a run may go on
-- after its command.
-- Assumes nothing.
use Prim.Native.Nat.{ℕ, ◌+◌}
use mathlib.Core.Bool.{Bool, true, false, ◌&&◌, false≢true, true≢false}
use mathlib.Core.List.{List, [], ◌∷◌, ◌++◌}
use mathlib.Core.Path.{◌≡◌, refl, sym, ap, ap₂, ◌∙◌}
use Rattle.image.proofs.TestLaws.{by_test}
use Rattle.sectors.specs.declared.work.Then.{Then}
use Rattle.sectors.specs.declared.work.Then.TheVariants.{Ends, Works}
use Rattle.chip.specs.declared.fifo.Fifo.{Fifo}
use Rattle.fdc.specs.declared.answer.Answer.{Answer}
use Rattle.fdc.specs.declared.record.Controller.{Controller}
use Rattle.fdc.specs.declared.record.Registers.{Registers}
use Rattle.fdc.specs.declared.record.Phase.{Phase}
use Rattle.fdc.specs.declared.record.Phase.TheVariants.{Idle, Gathering, Starting, Working, Sensing, Answering}
use Rattle.fdc.specs.declared.ticks.Decision.{Decision}
use Rattle.fdc.specs.Answer.{answer_of}
use Rattle.fdc.specs.Calls.{dma_read, dma_write}
use Rattle.fdc.specs.Commands.{answered_of, said_of}
use Rattle.fdc.specs.Data.{phase_to_host, phase_from_host}
use Rattle.reached.specs.Moves.{AllCalm, tick_one, tick_count}
use Rattle.fdc.specs.Record.{with_drives, with_fifo, with_phase, valid_of}
use Rattle.fdc.specs.Registers.{held_in, motor_in, drq_of}
use Rattle.reached.specs.Runs.{Call, powers, reads, writes, takes, gives, ticks, notes, answer_to, after, run_calls}
use Rattle.fdc.specs.Ticks.{stepped_of, sensed_at, still_of, settled_of, decided_of, decide_in, decide_of, ruled_of}
use Rattle.fdc.specs.Ticks.{start_tick, work_tick, tick_of}
use Rattle.fdc.proofs.DmaLaws.{dma_read_is, dma_write_is}
use Rattle.demands.specs.DataError.{Spins}
use Rattle.demands.specs.InTime.{AtTicks}
use Rattle.demands.specs.Work.{at_work}
use Rattle.runs.specs.Whole.{lending, handing}

-- a tick and a DMA cycle leave the registers
settled_registers : (then : Then) (fifo : Fifo) (c : Controller) → (settled_of then fifo c).registers ≡ c.registers
unfolding settled_of with_fifo with_phase answered_of
settled_registers (Ends verdict) fifo c = refl
settled_registers (Works work) fifo c = refl

decided_registers : (p : Phase) (a b : List ℕ) (c : Controller)
    → (decide_in p a b c).controller.registers ≡ c.registers
unfolding decide_in still_of start_tick work_tick decided_of sensed_at said_of answered_of
decided_registers Idle a b c = refl
decided_registers (Gathering entry) a b c = refl
decided_registers (Starting order) a b c = settled_registers _ _ c
decided_registers (Working work) a b c = settled_registers _ _ c
decided_registers (Sensing unit) a b c = refl
decided_registers (Answering loud) a b c = refl

pub tick_registers : (a b : List ℕ) (c : Controller) → (after (ticks a b) c).registers ≡ c.registers
unfolding answer_to tick_of answer_of ruled_of decide_of still_of stepped_of with_drives
tick_registers a b c =
    by_test (valid_of c) (λ (d : Decision). d.controller.registers ≡ c.registers) _ _
    (λ _. by_test (held_in c.registers.dor) (λ (d : Decision). d.controller.registers ≡ c.registers) _ _
    (λ _. refl) (λ _. decided_registers c.phase a b (stepped_of a b c)))
    (λ _. refl)

pub take_registers : (tc : Bool) (c : Controller) → (after (takes tc) c).registers ≡ c.registers
unfolding answer_to dma_read answer_of with_fifo
take_registers tc c =
    by_test (valid_of c) (λ (a : Answer). a.controller.registers ≡ c.registers) _ _
    (λ _. rw (dma_read_is tc c)
    (by_test (drq_of c && phase_to_host c.phase) (λ (a : Answer). a.controller.registers ≡ c.registers) _ _
    (λ _. refl) (λ _. refl)))
    (λ _. refl)

give_registers : (byte : ℕ) (tc : Bool) (c : Controller) → (after (gives byte tc) c).registers ≡ c.registers
unfolding answer_to dma_write answer_of with_fifo
give_registers byte tc c =
    by_test (valid_of c) (λ (a : Answer). a.controller.registers ≡ c.registers) _ _
    (λ _. rw (dma_write_is byte tc c)
    (by_test (drq_of c && phase_from_host c.phase) (λ (a : Answer). a.controller.registers ≡ c.registers) _ _
    (λ _. refl) (λ _. refl)))
    (λ _. refl)

-- ticks and DMA cycles only
abbrev pub dma_test : Call → Bool
dma_test (powers head0 head1) = false
dma_test (reads offset) = false
dma_test (writes offset byte) = false
dma_test (takes tc) = true
dma_test (gives byte tc) = true
dma_test (ticks a b) = true
dma_test (notes drive) = false

abbrev pub dma_tests : List Call → Bool
dma_tests [] = true
dma_tests (call ∷ calls) = dma_test call && dma_tests calls

module _ (drive : ℕ) where
  pub dma_spins : (calls : List Call) (c : Controller) (img : List ℕ) → dma_tests calls ≡ true
      → motor_in c.registers.dor drive ≡ true → Spins drive (handing drive calls c img) c
  unfolding Spins
  dma_spins [] c img t m = m
  dma_spins (powers head0 head1 ∷ calls) c img t m = absurd (false≢true t)
  dma_spins (reads offset ∷ calls) c img t m = absurd (false≢true t)
  dma_spins (writes offset byte ∷ calls) c img t m = absurd (false≢true t)
  dma_spins (takes tc ∷ calls) c img t m = (
    m,
    λ w. (
      tt,
      dma_spins calls _ _ t (ap (λ (r : Registers). motor_in r.dor drive) (take_registers tc c) ∙ m),
    ),
  )
  dma_spins (gives byte tc ∷ calls) c img t m = (
    m,
    λ w. (
      tt,
      dma_spins calls _ _ t (ap (λ (r : Registers). motor_in r.dor drive) (give_registers byte tc c) ∙ m),
    ),
  )
  dma_spins (ticks a b ∷ calls) c img t m = (
    m,
    λ w. (
      tt,
      dma_spins calls _ _ t (ap (λ (r : Registers). motor_in r.dor drive) (tick_registers _ _ c) ∙ m),
    ),
  )
  dma_spins (notes drive' ∷ calls) c img t m = absurd (false≢true t)

  pub dma_calm : (calls last : List Call) (c : Controller) (img : List ℕ) → dma_tests calls ≡ true → AllCalm last
      → AllCalm (handing drive calls c img ++ last)
  dma_calm [] last c img t calm = calm
  dma_calm (powers head0 head1 ∷ calls) last c img t calm = absurd (false≢true t)
  dma_calm (reads offset ∷ calls) last c img t calm = absurd (false≢true t)
  dma_calm (writes offset byte ∷ calls) last c img t calm = absurd (false≢true t)
  dma_calm (takes tc ∷ calls) last c img t calm = (tt, dma_calm calls last _ _ t calm)
  dma_calm (gives byte tc ∷ calls) last c img t calm = (tt, dma_calm calls last _ _ t calm)
  dma_calm (ticks a b ∷ calls) last c img t calm = (tt, dma_calm calls last _ _ t calm)
  dma_calm (notes drive' ∷ calls) last c img t calm = absurd (false≢true t)

  -- after the command nothing is asked
  ticks_over : (P : Controller → Type 0) (calls : List Call) (c : Controller) → at_work c.phase ≡ false
      → AtTicks P calls c
  unfolding AtTicks
  ticks_over P [] c e = tt
  ticks_over P (call ∷ calls) c e = λ w. absurd (true≢false (sym w ∙ e))

  pub ticks_longer : (P : Controller → Type 0) (calls more : List Call) (c : Controller) (img : List ℕ)
      → AtTicks P (handing drive calls c img) c → at_work (run_calls (handing drive calls c img) c).phase ≡ false
      → AtTicks P (handing drive (calls ++ more) c img) c
  unfolding AtTicks run_calls
  ticks_longer P [] more c img p e = ticks_over P (handing drive more c img) c e
  ticks_longer P (call ∷ calls) more c img p e = λ w.
      ((p w).0, ticks_longer P calls more _ _ (p w).1 e)

  lending_ticks : (img : List ℕ) (call : Call) → tick_one (lending drive img call) ≡ tick_one call
  lending_ticks img (powers head0 head1) = refl
  lending_ticks img (reads offset) = refl
  lending_ticks img (writes offset byte) = refl
  lending_ticks img (takes tc) = refl
  lending_ticks img (gives byte tc) = refl
  lending_ticks img (ticks a b) = refl
  lending_ticks img (notes drive') = refl

  pub handing_ticks : (calls : List Call) (c : Controller) (img : List ℕ)
      → tick_count (handing drive calls c img) ≡ tick_count calls
  handing_ticks [] c img = refl
  handing_ticks (call ∷ calls) c img = ap₂ ◌+◌ (lending_ticks img call) (handing_ticks calls _ _)
