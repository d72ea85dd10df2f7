-- Every call, on any record, is by the rules of `Rules`.
-- Assumes nothing.
use Prim.Native.Nat.{ℕ, zero, suc, ◌+◌, ◌-◌, ◌/◌, ◌%◌, ◌≤◌, ◌<◌}
use native.Mathlib.Omega.{arith}
use Rattle.std.specs.Prelude.{Option, None, Some}
use mathlib.Core.Bool.{Bool, true, false, not, ◌&&◌, cond, true≢false, false≢true}
use mathlib.Core.List.{List, [], ◌∷◌}
use mathlib.Core.Logic.{◌⊎◌, inl, inr}
use mathlib.Core.Path.{◌≡◌, refl, sym, ap, ◌∙◌}
use lib.Dec.{eqb, leb, ltb}
use lib.ListN.{length, get_or, set, length-set}
use borrow.Author.Tests.{eqb-true, eqb-false, eq-eqb, leb-true, leb-false, ltb-true}
use Rattle.image.proofs.TestLaws.{by_test, both}
use Rattle.image.specs.Lent.{pick_of}
use Rattle.chip.specs.declared.codes.Entry.{Entry}
use Rattle.chip.specs.declared.codes.Kind.{Kind}
use Rattle.chip.specs.declared.codes.Kind.TheVariants.{Unknown, ReadData, ReadDeleted, WriteData, WriteDeleted, ReadId, Format, Recalibrate, SenseInterrupt, Specify, SenseDrive, Seek, Version, Configure}
use Rattle.chip.specs.declared.refusal.Refusal.TheVariants.{Damaged}
use Rattle.chip.specs.Commands.{entry_of}
use Rattle.chip.proofs.StepLaws.{step_most}
use Rattle.drive.specs.declared.Drive.{Drive}
use Rattle.drive.specs.declared.Motion.{Motion}
use Rattle.drive.specs.declared.Motion.TheVariants.{Still, Seeking, Recalibrating}
use Rattle.drive.specs.Drive.{distance, recalibrate_steps, first_wait, noted_of, accepted, countdown_of}
use Rattle.engine.specs.declared.flow.Flow.{Flow}
use Rattle.engine.specs.declared.flow.Flow.TheVariants.{Quiet, ToHost, FromHost}
use Rattle.sectors.specs.declared.order.Order.{Order}
use Rattle.sectors.specs.declared.work.Step.{Step}
use Rattle.sectors.specs.declared.work.Then.{Then}
use Rattle.sectors.specs.declared.work.Then.TheVariants.{Ends, Works}
use Rattle.sectors.specs.declared.work.Work.{Work}
use Rattle.engine.specs.Kept.{then_wait, then_fifo}
use Rattle.engine.specs.Step.{to_host, from_host, flow_of, drive_of}
use Rattle.engine.proofs.KeptLaws.{begin_kept, go_on_kept}
use Rattle.fdc.specs.declared.answer.Reply.{Reply}
use Rattle.fdc.specs.declared.answer.Reply.TheVariants.{Done, Byte, Refused}
use Rattle.fdc.specs.declared.ports.Port.{Port}
use Rattle.fdc.specs.declared.ports.Port.TheVariants.{Dor, Tdr, Status, Data, Input}
use Rattle.fdc.specs.declared.record.Bytes.{Bytes}
use Rattle.fdc.specs.declared.record.Controller.{Controller}
use Rattle.fdc.specs.declared.record.Phase.{Phase}
use Rattle.fdc.specs.declared.record.Phase.TheVariants.{Idle, Gathering, Starting, Working, Sensing, Answering}
use Rattle.fdc.specs.declared.ticks.Decision.{Decision}
use Rattle.fdc.specs.Answer.{answer_of}
use Rattle.fdc.specs.Calls.{port_of, read_reg, write_reg, power_on, read_port, write_port, dma_read, dma_write, note_change}
use Rattle.fdc.specs.Commands.{answered_of, said_of, said_two, idled_of, lowest, specify_of, configure_of, sensing_of, reporter_of, sensed_of, step_time, sought_of, recalibrated_of, started_of, ran_of, heeds_of, run_of, gathered_of, goes_on, begun_of}
use Rattle.fdc.specs.Data.{shifted, result_taken, read_in, read_fifo, offered_of, write_fifo, phase_to_host, phase_from_host, dma_read_of, dma_write_of}
use Rattle.fdc.specs.Record.{result_room, fresh_of, no_bytes, drive_at, with_registers, with_drives, with_fifo, with_bytes, with_phase, with_drive, valid_of}
use Rattle.fdc.specs.Registers.{held_in, gate_in, dma_in, bit, busy_bits, flow_status, phase_status, msr_of, flow_asks, phase_asks, drq_of, any_busy}
use Rattle.fdc.specs.Reset.{reset_all, reset_of, report_all, released_by, released_of, with_dor, with_tdr, with_rate, wrote_dor, wrote_dsr}
use Rattle.chip.specs.Fifo.{FitsFifo}
use Rattle.fdc.specs.Ticks.{seen_of, tick_all, stepped_of, sensed_at, still_of, settled_of, decided_of, start_tick, work_tick, decide_in, decide_of, ruled_of, tick_of}
use Rattle.fdc.proofs.BeginLaws.{one_more_le}
use Rattle.fdc.proofs.DmaLaws.{dma_read_is, dma_write_is}
use Rattle.fdc.proofs.PadLaws.{length_shifted}
use Rattle.reached.specs.Runs.{Call, powers, reads, writes, takes, gives, ticks, notes, answer_to}
use Rattle.reached.proofs.Rules.{engaged, Restarts, by_power, by_dor, by_dsr, DriveRule, kept, noted, powered, reset, restarted, released, sensed, set_off, ticked, SameSettings, by_read, by_cycle, by_write, by_dma, Collects, first, further, Told, Orders, moving, formatting, identifying, Acts, begins, goes_on_lem, bytes_then, phase_then, Rest, refuses, shows, steps, flags, sets, anew, took_byte, gave_byte, gathers, says, idles, specifies, configures, senses, starts, acts, Ruled}

-- offset 2 is DOR, 4 DSR, 5 the data register
abbrev AtPort : Option Port → ℕ → Type 0
AtPort None offset = offset ≡ 5 → ⊥
AtPort (Some Dor) offset = offset ≡ 2
AtPort (Some Tdr) offset = offset ≡ 5 → ⊥
AtPort (Some Status) offset = offset ≡ 4
AtPort (Some Data) offset = offset ≡ 5
AtPort (Some Input) offset = offset ≡ 5 → ⊥

port_at : (offset : ℕ) → AtPort (port_of offset) offset
unfolding port_of
port_at offset = go (eqb offset 2) refl (eqb offset 3) refl (eqb offset 4) refl (eqb offset 5) refl (eqb offset 7) refl
  where
    go : (a : Bool) → eqb offset 2 ≡ a → (b : Bool) → eqb offset 3 ≡ b → (c : Bool) → eqb offset 4 ≡ c
        → (d : Bool) → eqb offset 5 ≡ d → (e : Bool) → eqb offset 7 ≡ e
        → AtPort (cond a (Some Dor) (cond b (Some Tdr) (cond c (Some Status) (cond d (Some Data) (cond e (Some Input) None))))) offset
    go true p b q c r d s e t = eqb-true offset 2 p
    go false p true q c r d s e t = λ x. omega (arith, eqb-true offset 3 q)
    go false p false q true r d s e t = eqb-true offset 4 r
    go false p false q false r true s e t = eqb-true offset 5 s
    go false p false q false r false s true t = eqb-false offset 5 s
    go false p false q false r false s false t = eqb-false offset 5 s

-- 01 Registers MSR: held in reset it is 00; else its two upper bits go by phase, flow, DMA and request
answers_free : (c : Controller) (n : ℕ) → 1 ≤ n → eqb (msr_of c / 64) n ≡ true → held_in c.registers.dor ≡ false
unfolding msr_of
answers_free c n some = go (held_in c.registers.dor) _
  where
    go : (t : Bool) (m : ℕ) → eqb (cond t 0 m / 64) n ≡ true → t ≡ false
    go true m e = let z : 0 / 64 ≡ n = eqb-true (0 / 64) n e in absurd (omega arith)
    go false m e = refl

busy_below : (drives : List Drive) → busy_bits drives < 16
unfolding busy_bits
busy_below drives =
    let a = one (drive_at 0 drives).busy in
    let b = one (drive_at 1 drives).busy in
    let c = one (drive_at 2 drives).busy in
    let d = one (drive_at 3 drives).busy in
    omega arith
  where
    one : (t : Bool) → bit t ≤ 1
    one true = omega arith
    one false = omega arith

-- an MSR of that upper half is not of that turn
wrong_turn : {A : Type 0} (half n busy : ℕ) → busy < 16 → ((half + 15) / 64 < n) ⊎ (n < half / 64)
    → eqb ((half + busy) / 64) n ≡ true → A
wrong_turn half n busy h (inl o) e = let z : (half + busy) / 64 ≡ n = eqb-true _ n e in absurd (omega arith)
wrong_turn half n busy h (inr o) e = let z : (half + busy) / 64 ≡ n = eqb-true _ n e in absurd (omega arith)

read_turn : (f : Flow) (dma asks : Bool) (busy : ℕ) → busy < 16 → eqb ((flow_status f dma asks + busy) / 64) 3 ≡ true
    → (to_host f ≡ true) × (asks ≡ true)
read_turn Quiet dma asks busy h e = wrong_turn 0x10 3 busy h (inl (omega arith)) e
read_turn ToHost true asks busy h e = wrong_turn 0x10 3 busy h (inl (omega arith)) e
read_turn ToHost false true busy h e = (refl, refl)
read_turn ToHost false false busy h e = wrong_turn 0x70 3 busy h (inl (omega arith)) e
read_turn FromHost true asks busy h e = wrong_turn 0x10 3 busy h (inl (omega arith)) e
read_turn FromHost false true busy h e = wrong_turn 0xB0 3 busy h (inl (omega arith)) e
read_turn FromHost false false busy h e = wrong_turn 0x30 3 busy h (inl (omega arith)) e

write_turn : (f : Flow) (dma asks : Bool) (busy : ℕ) → busy < 16 → eqb ((flow_status f dma asks + busy) / 64) 2 ≡ true
    → (from_host f ≡ true) × (asks ≡ true)
write_turn Quiet dma asks busy h e = wrong_turn 0x10 2 busy h (inl (omega arith)) e
write_turn ToHost true asks busy h e = wrong_turn 0x10 2 busy h (inl (omega arith)) e
write_turn ToHost false true busy h e = wrong_turn 0xF0 2 busy h (inr (omega arith)) e
write_turn ToHost false false busy h e = wrong_turn 0x70 2 busy h (inl (omega arith)) e
write_turn FromHost true asks busy h e = wrong_turn 0x10 2 busy h (inl (omega arith)) e
write_turn FromHost false true busy h e = (refl, refl)
write_turn FromHost false false busy h e = wrong_turn 0x30 2 busy h (inl (omega arith)) e

-- 01 Registers DRQ: a line that is on is a request of a command at work
drq_works : (c : Controller) → drq_of c ≡ true → (work : Work) × (c.phase ≡ Working work) × (c.fifo.asks ≡ true)
unfolding drq_of
drq_works c e =
    go c.phase
    (both (gate_in c.registers.dor && dma_in c.registers.spec2) (phase_asks c.phase c.fifo.asks) e).1
  where
    flows : (f : Flow) → flow_asks f c.fifo.asks ≡ true → c.fifo.asks ≡ true
    flows Quiet e = absurd (false≢true e)
    flows ToHost e = e
    flows FromHost e = e

    go : (p : Phase) → phase_asks p c.fifo.asks ≡ true → (work : Work) × (p ≡ Working work) × (c.fifo.asks ≡ true)
    go Idle e = absurd (false≢true e)
    go (Gathering entry) e = absurd (false≢true e)
    go (Starting order) e = absurd (false≢true e)
    go (Working work) e = (work, refl, flows (flow_of work) e)
    go (Sensing unit) e = absurd (false≢true e)
    go (Answering loud) e = absurd (false≢true e)

-- the drive whose report is taken has one
reporter_reports : (drives : List Drive) → eqb (reporter_of drives) 4 ≡ false
    → (drive_at (reporter_of drives % 4) drives).report ≡ 0 → ⊥
unfolding reporter_of
reporter_reports drives e z = go _ refl _ refl _ refl _ refl e z
  where
    none : (k : ℕ) → not (eqb (drive_at k drives).report 0) ≡ true → (drive_at k drives).report ≡ 0 → ⊥
    none k t z = false≢true (ap not (sym (eq-eqb (drive_at k drives).report 0 z)) ∙ t)

    go : (a : Bool) → not (eqb (drive_at 0 drives).report 0) ≡ a
        → (b : Bool) → not (eqb (drive_at 1 drives).report 0) ≡ b
        → (c : Bool) → not (eqb (drive_at 2 drives).report 0) ≡ c
        → (d : Bool) → not (eqb (drive_at 3 drives).report 0) ≡ d
        → eqb (lowest a b c d) 4 ≡ false → (drive_at (lowest a b c d % 4) drives).report ≡ 0 → ⊥
    go true p b q c r d s e z = none 0 p z
    go false p true q c r d s e z = none 1 q z
    go false p false q true r d s e z = none 2 r z
    go false p false q false r true s e z = none 3 s z
    go false p false q false r false s e z = true≢false e

first_wait_le : (n wait : ℕ) → wait ≤ 1000 → first_wait n wait ≤ 1000
first_wait_le n wait h = by_test (eqb n 0) (λ (n : ℕ). n ≤ 1000) _ _ (λ _. omega arith) (λ _. h)

-- drive k of drives of which one is written anew
one_set : (drives : List Drive) (j k : ℕ) (d : Drive)
    → ((k ≡ j) × (drive_at k (set drives j d) ≡ d)) ⊎ (drive_at k (set drives j d) ≡ drive_at k drives)
one_set [] j k d = inr refl
one_set (x ∷ drives) zero zero d = inl (refl, refl)
one_set (x ∷ drives) zero (suc k) d = inr refl
one_set (x ∷ drives) (suc j) zero d = inr refl
one_set (x ∷ drives) (suc j) (suc k) d = up (one_set drives j k d)
  where
    up : ((k ≡ j) × (drive_at k (set drives j d) ≡ d)) ⊎ (drive_at k (set drives j d) ≡ drive_at k drives)
        → ((suc k ≡ suc j) × (drive_at k (set drives j d) ≡ d)) ⊎ (drive_at k (set drives j d) ≡ drive_at k drives)
    up (inl p) = inl (ap (λ (n : ℕ). suc n) p.0, p.1)
    up (inr e) = inr e

-- what holds of four drives
each_at : (P : ℕ → Drive → Type 0) (a b c d : Drive) → P 0 a → P 1 b → P 2 c → P 3 d → (k : ℕ) → k < 4
    → P k (drive_at k (a ∷ b ∷ c ∷ d ∷ []))
each_at P a b c d pa pb pc pd zero h = pa
each_at P a b c d pa pb pc pd (suc zero) h = pb
each_at P a b c d pa pb pc pd (suc (suc zero)) h = pc
each_at P a b c d pa pb pc pd (suc (suc (suc zero))) h = pd
each_at P a b c d pa pb pc pd (suc (suc (suc (suc k)))) h = absurd (omega arith)

pub each_of : (P : Drive → Type 0) (a b c d : Drive) → P a → P b → P c → P d → (k : ℕ) → k < 4
    → P (drive_at k (a ∷ b ∷ c ∷ d ∷ []))
each_of P a b c d pa pb pc pd k h = each_at (λ (n : ℕ) (x : Drive). P x) a b c d pa pb pc pd k h

abbrev Stands : Drive → Type 0
Stands d = d.motion ≡ Still

-- the rules of drives: all as they were, one written anew, all anew
module _ (call : Call) (c : Controller) (p : Phase) where
  abbrev Drives : List Drive → Type 0
  Drives drives = (k : ℕ) → k < 4 → DriveRule call c p k (drive_at k drives)

  drives_kept : Drives c.drives
  drives_kept k h = kept

  drives_set : (j : ℕ) (d : Drive) → DriveRule call c p j d → Drives (set c.drives j d)
  drives_set j d r k h = go (one_set c.drives j k d)
    where
      go : ((k ≡ j) × (drive_at k (set c.drives j d) ≡ d)) ⊎ (drive_at k (set c.drives j d) ≡ drive_at k c.drives)
          → DriveRule call c p k (drive_at k (set c.drives j d))
      go (inl q) = rw (q.1, q.0) r
      go (inr e) = rw e kept

  each : (x y z w : Drive) → DriveRule call c p 0 x → DriveRule call c p 1 y → DriveRule call c p 2 z
      → DriveRule call c p 3 w → Drives (x ∷ y ∷ z ∷ w ∷ [])
  each x y z w = each_at (λ (k : ℕ) (e : Drive). DriveRule call c p k e) x y z w

  drives_reset : Restarts call → Drives (reset_all c.drives)
  unfolding reset_all
  drives_reset r = each _ _ _ _ (reset r) (reset r) (reset r) (reset r)

  drives_restarted : Restarts call → Drives (report_all (reset_all c.drives))
  unfolding reset_all report_all
  drives_restarted r = each _ _ _ _ (restarted _ r) (restarted _ r) (restarted _ r) (restarted _ r)

  drives_released : held_in c.registers.dor ≡ true → Drives (report_all c.drives)
  unfolding report_all
  drives_released e = each _ _ _ _ (released _ e) (released _ e) (released _ e) (released _ e)

  drives_ticked : (a b : List ℕ) → call ≡ ticks a b → held_in c.registers.dor ≡ false
      → (m0 m1 : Bool) → Drives (tick_all c.drives m0 m1 (step_time c))
  unfolding tick_all
  drives_ticked a b q f m0 m1 =
      each _ _ _ _ (ticked a b q f m0) (ticked a b q f m1) (ticked a b q f false) (ticked a b q f false)

  drives_powered : (head0 head1 x y : ℕ) → head0 ≤ 81 → head1 ≤ 81 → call ≡ powers x y
      → Drives (fresh_of head0 head1).drives
  unfolding fresh_of
  drives_powered head0 head1 x y l m e =
      each _ _ _ _ (powered head0 l x y e) (powered head1 m x y e) (powered 0 (omega arith) x y e)
      (powered 0 (omega arith) x y e)

-- all drives as they were; the whole record as it was
module _ (call : Call) (c : Controller) where
  leaves : (reply : Reply) (e : Controller) → e.drives ≡ c.drives
      → Rest call c e.drives reply e.registers e.fifo e.bytes e.phase → Ruled call c (answer_of reply e)
  unfolding answer_of
  leaves reply e d r = record { rest = r; drives = λ k h. rw d kept; long = λ l. rw d l }

  same : (reply : Reply) → Rest call c c.drives reply c.registers c.fifo c.bytes c.phase
      → Ruled call c (answer_of reply c)
  same reply r = leaves reply c refl r

-- a command byte comes while no command is at work
pub collects_unengaged : (c : Controller) (byte : ℕ) (entry : Entry) → Collects c byte entry
    → engaged c.phase ≡ false
collects_unengaged c byte entry (first e) = ap engaged e
collects_unengaged c byte entry (further entry' e) = ap engaged e

-- with their room
pub told_room : (call : Call) (c : Controller) (command : List ℕ) (t : Told call c command)
    → length c.bytes.command ≡ 9 → length command ≡ 9
told_room call c command t l =
    rw t.bytes (length-set t.from.command t.from.gathered t.byte ∙ go t.whence)
  where
    go : (t.from ≡ c.bytes) ⊎ (t.from ≡ no_bytes) → length t.from.command ≡ 9
    go (inl e) = rw e l
    go (inr e) = rw e

-- the commands
module _ (call : Call) (c : Controller) (b : Bytes) (t : Told call c b.command) where
  unengaged : engaged c.phase ≡ false
  unengaged = collects_unengaged c t.byte t.entry t.by

  abbrev Left : Controller → Type 0
  Left e = Ruled call c (answer_of Done e)

  said : (byte : ℕ) → Left (said_of byte (with_bytes b c))
  unfolding said_of answered_of with_bytes
  said byte = leaves call c _ _ refl (says unengaged t.free Done _ 1 (omega arith) (λ _. omega arith) (λ _. refl))

  idled : (j : ℕ) (d : Drive) → DriveRule call c Idle j d → Left (idled_of (with_drive j d (with_bytes b c)))
  unfolding idled_of with_drive with_drives with_bytes answer_of
  idled j d r =
      record {
        rest = idles unengaged t.free Done;
        drives = drives_set call c Idle j d r;
        long = λ l. length-set c.drives j d ∙ l;
      }

  started : (order : Order) → Orders b.command order → any_busy c.drives ≡ false
      → Left (started_of order (with_bytes b c))
  unfolding started_of with_phase idled_of with_bytes
  started order o f = leaves call c _ _ refl (starts b.command t f order o)

  -- 01 Commands Seek, Recalibrate: 80 for a busy drive (house)
  set_moving : (k : ℕ) (motion : Motion) → countdown_of motion ≤ 1000
      → Left
      (cond (drive_at k c.drives).busy (said_of 0x80 (with_bytes b c))
      (idled_of (with_drive k (accepted motion (drive_at k c.drives)) (with_bytes b c))))
  set_moving k motion h =
      by_test (drive_at k c.drives).busy Left _ _ (λ _. said 0x80)
      (λ f. idled k _ (set_off t.free refl f motion h))

  sought : Left (sought_of (with_bytes b c))
  unfolding sought_of with_bytes
  sought =
      let k : ℕ = get_or b.command 1 0 % 4 in
      let target : ℕ = get_or b.command 2 0 in
      let n : ℕ = distance (drive_at k c.drives).pcn target in
      set_moving k (Seeking target n (first_wait n (step_time c)))
      (first_wait_le n (step_time c) (step_most (c.registers.spec1 / 16)))

  recalibrated : Left (recalibrated_of (with_bytes b c))
  unfolding recalibrated_of with_bytes
  recalibrated =
      let k : ℕ = get_or b.command 1 0 % 4 in
      let n : ℕ = recalibrate_steps k (drive_at k c.drives).head in
      set_moving k (Recalibrating n (first_wait n (step_time c)))
      (first_wait_le n (step_time c) (step_most (c.registers.spec1 / 16)))

  interrupted : Left (sensed_of (with_bytes b c))
  unfolding sensed_of said_two answered_of with_drive with_drives with_bytes answer_of
  interrupted =
      by_test (eqb (reporter_of c.drives) 4) Left _ _ (λ _. said 0x80)
      (λ f. record {
        rest = says unengaged t.free Done _ 2 (omega arith) (λ _. omega arith) (λ _. refl);
        drives = drives_set call c _ (reporter_of c.drives % 4) _ (sensed t.free (reporter_reports c.drives f));
        long = λ l. length-set c.drives (reporter_of c.drives % 4) _ ∙ l;
      })

  -- a complete command, where none is busy or it heeds no busy bit
  ran : (kind : Kind) → (heeds_of kind ≡ false → any_busy c.drives ≡ false) → Left (ran_of kind (with_bytes b c))
  unfolding ran_of specify_of configure_of sensing_of with_phase idled_of with_registers with_fifo with_bytes
  ran Unknown f = said 0x80
  ran ReadData f = started _ (moving _ _) (f refl)
  ran ReadDeleted f = started _ (moving _ _) (f refl)
  ran WriteData f = started _ (moving _ _) (f refl)
  ran WriteDeleted f = started _ (moving _ _) (f refl)
  ran ReadId f = started _ identifying (f refl)
  ran Format f = started _ formatting (f refl)
  ran Recalibrate f = recalibrated
  ran SenseInterrupt f = interrupted
  ran Specify f = leaves call c _ _ refl (specifies b.command t (f refl) _)
  ran SenseDrive f = leaves call c _ _ refl (senses b.command t (f refl) _)
  ran Seek f = sought
  ran Version f = said 0x90
  ran Configure f = leaves call c _ _ refl (configures b.command t (f refl) (get_or b.command 2 0) (get_or b.command 3 0))

  run : (kind : Kind) → Left (run_of kind (with_bytes b c))
  unfolding run_of with_bytes
  run kind =
      by_test (any_busy c.drives && not (heeds_of kind)) Left _ _ (λ _. said 0x80)
      (λ f. ran kind (λ h. none (any_busy c.drives) (heeds_of kind) f h))
    where
      none : (a b : Bool) → (a && not b) ≡ false → b ≡ false → a ≡ false
      none true true f h = absurd (true≢false h)
      none true false f h = absurd (true≢false f)
      none false b f h = refl

  collected : b.gathered ≤ 9 → (c.bytes.left ≤ result_room → b.left ≤ result_room) → (length c.bytes.results ≡ result_room → length b.results ≡ result_room)
      → Left (goes_on t.entry (with_bytes b c))
  unfolding goes_on with_phase with_bytes answer_of
  collected n p q =
      by_test (ltb b.gathered t.entry.bytes) Left _ _
      (λ l. leaves call c _ _ refl (gathers b t (ltb-true _ _ l) n p q))
      (λ _. run t.entry.kind)

-- the data register: a read
module _ (c : Controller) (e : eqb (msr_of c / 64) 3 ≡ true) where
  read_free : held_in c.registers.dor ≡ false
  read_free = answers_free c 3 (omega arith) e

  read_works : (work : Work) → c.phase ≡ Working work → (to_host (flow_of work) ≡ true) × (c.fifo.asks ≡ true)
  unfolding msr_of
  read_works work p = read_turn (flow_of work) _ _ _ (busy_below c.drives) (rw (read_free, p) at e)

  read_in_lem : (p : Phase) → c.phase ≡ p → Ruled (reads 5) c (read_in p c)
  unfolding read_in result_taken idled_of answered_of with_fifo answer_of
  read_in_lem Idle q = same (reads 5) c _ (refuses _)
  read_in_lem (Gathering entry) q = same (reads 5) c _ (refuses _)
  read_in_lem (Starting order) q = same (reads 5) c _ (refuses _)
  read_in_lem (Working work) q =
      leaves (reads 5) c _ _ refl (took_byte false (by_read refl) work q (read_works work q).0 (read_works work q).1)
  read_in_lem (Sensing unit) q = same (reads 5) c _ (refuses _)
  read_in_lem (Answering loud) q =
      by_test (leb c.bytes.left 1) (λ (x : Controller). Ruled (reads 5) c (answer_of (Byte (get_or c.bytes.results 0 0)) x)) _ _
      (λ _. leaves (reads 5) c _ _ refl (idles (ap engaged q) read_free _))
      (λ t. leaves (reads 5) c _ _ refl (says (ap engaged q) read_free _ (shifted c.bytes.results) (c.bytes.left - 1) (omega (arith, leb-false c.bytes.left 1 t)) (λ l. omega arith) (λ l. length_shifted c.bytes.results l)))

-- and a write
module _ (byte : ℕ) (c : Controller) (e : eqb (msr_of c / 64) 2 ≡ true) where
  write_free : held_in c.registers.dor ≡ false
  write_free = answers_free c 2 (omega arith) e

  write_turned : (p : Phase) → c.phase ≡ p
      → eqb ((phase_status p (dma_in c.registers.spec2) c.fifo.asks + busy_bits c.drives) / 64) 2 ≡ true
  unfolding msr_of
  write_turned p q = rw (write_free, q) at e

  told : (entry : Entry) → Collects c byte entry → (from : Bytes) → (from ≡ c.bytes) ⊎ (from ≡ no_bytes)
      → Told (writes 5 byte) c (set from.command from.gathered byte)
  told entry by from w = record {
    byte = byte;
    entry = entry;
    it = refl;
    free = write_free;
    by = by;
    from = from;
    whence = w;
    bytes = refl;
  }

  offered : (p : Phase) → c.phase ≡ p → Ruled (writes 5 byte) c (answer_of Done (offered_of p byte c))
  unfolding offered_of begun_of gathered_of with_bytes with_fifo answer_of goes_on entry_of told
  offered Idle q =
      collected (writes 5 byte) c (gathered_of byte (with_bytes no_bytes c)).bytes (told _ (first q) no_bytes (inr refl))
      (one_more_le 0) (λ _. omega arith) (λ _. refl)
  offered (Gathering entry) q =
      collected (writes 5 byte) c (gathered_of byte c).bytes (told _ (further entry q) c.bytes (inl refl))
      (one_more_le c.bytes.gathered) (λ l. l) (λ l. l)
  offered (Starting order) q = wrong_turn 0x10 2 _ (busy_below c.drives) (inl (omega arith)) (write_turned _ q)
  offered (Working work) q =
      let z = write_turn (flow_of work) _ _ _ (busy_below c.drives) (write_turned _ q) in
      leaves (writes 5 byte) c _ _ refl (gave_byte byte false (by_write refl) work q z.0 z.1)
  offered (Sensing unit) q = wrong_turn 0x10 2 _ (busy_below c.drives) (inl (omega arith)) (write_turned _ q)
  offered (Answering loud) q = wrong_turn 0xD0 2 _ (busy_below c.drives) (inr (omega arith)) (write_turned _ q)

-- the DMA cycles
take_rule : (tc : Bool) (c : Controller) → Ruled (takes tc) c (dma_read_of tc c)
unfolding with_fifo answer_of
take_rule tc c =
    rw (dma_read_is tc c) (by_test (drq_of c && phase_to_host c.phase) (Ruled (takes tc) c) _ _
    (λ t. let (line, to) = both (drq_of c) (phase_to_host c.phase) t in
    let (work, p, asks) = drq_works c line in
    leaves (takes tc) c _ _ refl (took_byte tc (by_cycle tc refl) work p (sym (ap phase_to_host p) ∙ to) asks))
    (λ _. same (takes tc) c _ (refuses _)))

give_rule : (byte : ℕ) (tc : Bool) (c : Controller) → Ruled (gives byte tc) c (dma_write_of byte tc c)
unfolding with_fifo answer_of
give_rule byte tc c =
    rw (dma_write_is byte tc c) (by_test (drq_of c && phase_from_host c.phase) (Ruled (gives byte tc) c) _ _
    (λ t. let (line, from) = both (drq_of c) (phase_from_host c.phase) t in
    let (work, p, asks) = drq_works c line in
    leaves (gives byte tc) c _ _ refl (gave_byte byte tc (by_dma tc refl) work p (sym (ap phase_from_host p) ∙ from) asks))
    (λ _. same (gives byte tc) c _ (refuses _)))

-- the registers
read_rule : (offset : ℕ) (p : Option Port) (c : Controller) → AtPort p offset → Ruled (reads offset) c (read_reg p c)
unfolding read_reg read_fifo
read_rule offset None c o = same (reads offset) c _ (refuses _)
read_rule offset (Some Dor) c o = same (reads offset) c _ (shows offset _ refl (λ x. omega arith))
read_rule offset (Some Tdr) c o = same (reads offset) c _ (shows offset _ refl o)
read_rule offset (Some Status) c o = same (reads offset) c _ (shows offset _ refl (λ x. omega arith))
read_rule offset (Some Data) c o =
    rw o
    (by_test (eqb (msr_of c / 64) 3) (Ruled (reads 5) c) _ _ (λ e. read_in_lem c e c.phase refl)
    (λ _. same (reads 5) c _ (refuses _)))
read_rule offset (Some Input) c o = same (reads offset) c _ (shows offset _ refl o)

-- a release, by POLL
releasing : (P : Controller → Type 0) (e : Controller) → P e → P (with_drives (report_all e.drives) e) → P (released_of e)
unfolding released_of released_by
releasing P e x y = by_test e.registers.poll P _ _ (λ _. x) (λ _. y)

module _ (offset byte : ℕ) (c : Controller) where
  abbrev Wrote : Controller → Type 0
  Wrote e = Ruled (writes offset byte) c (answer_of Done e)

  wrote_dor_lem : offset ≡ 2 → Wrote (wrote_dor byte c)
  unfolding wrote_dor with_dor with_registers with_drives reset_of report_all reset_all answer_of
  wrote_dor_lem o =
      by_test (held_in byte) Wrote _ _
      (λ h. let r : Restarts (writes offset byte) = by_dor byte (ap (λ (n : ℕ). writes n byte) o) h in
      record {
        rest = anew r Done _ refl refl (inr refl) (each_of Stands _ _ _ _ refl refl refl refl);
        drives = drives_reset (writes offset byte) c Idle r;
        long = λ _. refl;
      })
      (λ f. by_test (held_in c.registers.dor) Wrote _ _
      (λ h. releasing (λ (x : Controller). Wrote (with_dor byte x)) c (leaves (writes offset byte) c _ _ refl (keeps _ f))
      (record {
        rest = keeps _ f;
        drives = drives_released (writes offset byte) c _ h;
        long = λ _. refl;
      }))
      (λ _. leaves (writes offset byte) c _ _ refl (keeps _ f)))
    where
      keeps : (drives : List Drive) → held_in byte ≡ false
          → Rest (writes offset byte) c drives Done (with_dor byte c).registers c.fifo c.bytes c.phase
      keeps drives f =
          sets offset byte refl (λ x. omega arith) _
          (record { held = λ h. absurd (false≢true (sym f ∙ h)); spec1 = refl; efifo = refl; fifothr = refl })

  -- a write that sets the rate or TDR
  set_three : (n : _) → (offset ≡ 5 → ⊥) → SameSettings c.registers n → Wrote (with_registers n c)
  unfolding with_registers answer_of
  set_three n o s =
      leaves (writes offset byte) c _ _ refl (sets offset byte refl o n s)

  wrote_rate : (offset ≡ 5 → ⊥) → Wrote (with_rate byte c)
  unfolding with_rate
  wrote_rate o = set_three _ o (record { held = λ h. h; spec1 = refl; efifo = refl; fifothr = refl })

  wrote_dsr_lem : offset ≡ 4 → Wrote (wrote_dsr byte c)
  unfolding wrote_dsr with_rate with_registers with_drives reset_of report_all reset_all answer_of
  wrote_dsr_lem o =
      by_test (eqb (byte / 128) 1 && not (held_in c.registers.dor)) Wrote _ _
      (λ t. let r : Restarts (writes offset byte) = by_dsr byte (ap (λ (n : ℕ). writes n byte) o)
      (both (eqb (byte / 128) 1) (not (held_in c.registers.dor)) t).0 in
      releasing (λ (x : Controller). Wrote (with_rate byte x)) (reset_of c)
      (record {
        rest = anew r Done _ refl refl (inr refl) (each_of Stands _ _ _ _ refl refl refl refl);
        drives = drives_reset (writes offset byte) c Idle r;
        long = λ _. refl;
      })
      (record {
        rest = anew r Done _ refl refl (inr refl) (each_of Stands _ _ _ _ refl refl refl refl);
        drives = drives_restarted (writes offset byte) c Idle r;
        long = λ _. refl;
      }))
      (λ _. wrote_rate (λ x. omega arith))

  write_rule : (p : Option Port) → AtPort p offset → Ruled (writes offset byte) c (write_reg p byte c)
  unfolding write_reg write_fifo with_tdr
  write_rule None o = same (writes offset byte) c _ (refuses _)
  write_rule (Some Dor) o = wrote_dor_lem o
  write_rule (Some Tdr) o = set_three _ o (record { held = λ h. h; spec1 = refl; efifo = refl; fifothr = refl })
  write_rule (Some Status) o = wrote_dsr_lem o
  write_rule (Some Data) o =
      rw o
      (by_test (eqb (msr_of c / 64) 2) (Ruled (writes 5 byte) c) _ _ (λ e. offered byte c e c.phase refl)
      (λ _. same (writes 5 byte) c _ (refuses _)))
  write_rule (Some Input) o = wrote_rate o

-- the tick
module _ (a b : List ℕ) (c : Controller) where
  abbrev Ticked : Controller → Type 0
  Ticked e = Ruled (ticks a b) c (answer_of Done e)

  settled : held_in c.registers.dor ≡ false → (s : Step) → Acts a b c s
      → Ticked (settled_of s.then s.fifo (stepped_of a b c))
  unfolding settled_of stepped_of tick_all with_fifo with_phase with_drives answered_of answer_of
  settled f s x =
      go s.then (acts a b refl f s x)
    where
      go : (then : Then)
          → Rest (ticks a b) c (stepped_of a b c).drives Done c.registers s.fifo (bytes_then then c.bytes)
          (phase_then then)
          → Ticked (settled_of then s.fifo (stepped_of a b c))
      go (Ends v) r = record { rest = r; drives = drives_ticked (ticks a b) c _ a b refl f _ _; long = λ _. refl }
      go (Works w) r = record { rest = r; drives = drives_ticked (ticks a b) c _ a b refl f _ _; long = λ _. refl }

  only_stepped : held_in c.registers.dor ≡ false → Ticked (stepped_of a b c)
  unfolding stepped_of tick_all with_drives answer_of
  only_stepped f =
      record { rest = steps a b refl; drives = drives_ticked (ticks a b) c _ a b refl f _ _; long = λ _. refl }

  decided_in : (p : Phase) → c.phase ≡ p → held_in c.registers.dor ≡ false
      → Ticked (decide_in p a b (stepped_of a b c)).controller
  unfolding decide_in still_of start_tick work_tick decided_of sensed_at said_of answered_of stepped_of tick_all with_drives answer_of
  decided_in Idle q f = only_stepped f
  decided_in (Gathering entry) q f = only_stepped f
  decided_in (Starting order) q f = settled f _ (begins order _ q)
  decided_in (Working work) q f = settled f _ (goes_on_lem work _ q)
  decided_in (Sensing unit) q f =
      record {
        rest = says (ap engaged q) f Done _ 1 (omega arith) (λ _. omega arith) (λ _. refl);
        drives = drives_ticked (ticks a b) c _ a b refl f _ _;
        long = λ _. refl;
      }
  decided_in (Answering loud) q f = only_stepped f

  decided : Ticked (decide_of a b c).controller
  unfolding decide_of still_of
  decided =
      by_test (held_in c.registers.dor) (λ (d : Decision). Ticked d.controller) _ _
      (λ _. same (ticks a b) c _ (steps a b refl))
      (λ f. decided_in c.phase refl f)

  tick_rule : Ruled (ticks a b) c (tick_of a b c)
  unfolding tick_of ruled_of still_of
  tick_rule = go (valid_of c)
    where
      go : (t : Bool)
          → Ruled (ticks a b) c (answer_of (cond t Done (Refused Damaged)) (cond t (decide_of a b c) (still_of c)).controller)
      go true = decided
      go false = same (ticks a b) c _ (refuses _)

-- power-on
power_rule : (head0 head1 : ℕ) (c : Controller) → Ruled (powers head0 head1) c (power_on head0 head1)
unfolding power_on fresh_of answer_of
power_rule head0 head1 c =
    by_test (leb head0 81 && leb head1 81) (Ruled (powers head0 head1) c) _ _
    (λ t. let (h, k) = both (leb head0 81) (leb head1 81) t in
    fresh_rule Done head0 head1 (leb-true head0 81 h) (leb-true head1 81 k))
    (λ _. fresh_rule (Refused _) 0 0 (omega arith) (omega arith))
  where
    fresh_rule : (reply : Reply) (x y : ℕ) → x ≤ 81 → y ≤ 81 → Ruled (powers head0 head1) c (answer_of reply (fresh_of x y))
    fresh_rule reply x y h k =
        record {
          rest = anew (by_power head0 head1 refl) reply _ refl refl (inl refl) (each_of Stands _ _ _ _ refl refl refl refl);
          drives = drives_powered (powers head0 head1) c Idle x y head0 head1 h k refl;
          long = λ _. refl;
        }

note_rule : (drive : ℕ) (c : Controller)
    → Ruled (notes drive) c (answer_of Done (with_drive (drive % 4) (noted_of (drive_at (drive % 4) c.drives)) c))
unfolding with_drive with_drives answer_of
note_rule drive c =
    record {
      rest = flags drive refl;
      drives = drives_set (notes drive) c _ (drive % 4) _ noted;
      long = λ l. length-set c.drives (drive % 4) _ ∙ l;
    }

pub rule_of : (call : Call) (c : Controller) → Ruled call c (answer_to call c)
unfolding answer_to read_port write_port dma_read dma_write note_change
rule_of (powers head0 head1) c = power_rule head0 head1 c
rule_of (reads offset) c =
    by_test (valid_of c) (Ruled (reads offset) c) _ _ (λ _. read_rule offset (port_of offset) c (port_at offset))
    (λ _. same (reads offset) c _ (refuses _))
rule_of (writes offset byte) c =
    by_test (valid_of c) (Ruled (writes offset byte) c) _ _
    (λ _. write_rule offset byte c (port_of offset) (port_at offset))
    (λ _. same (writes offset byte) c _ (refuses _))
rule_of (takes tc) c =
    by_test (valid_of c) (Ruled (takes tc) c) _ _ (λ _. take_rule tc c) (λ _. same (takes tc) c _ (refuses _))
rule_of (gives byte tc) c =
    by_test (valid_of c) (Ruled (gives byte tc) c) _ _ (λ _. give_rule byte tc c)
    (λ _. same (gives byte tc) c _ (refuses _))
rule_of (ticks a b) c = tick_rule a b c
rule_of (notes drive) c =
    by_test (not (valid_of c)) (Ruled (notes drive) c) _ _ (λ _. same (notes drive) c _ (refuses _))
    (λ _. by_test (leb 2 drive) (Ruled (notes drive) c) _ _ (λ _. same (notes drive) c _ (refuses _))
    (λ _. note_rule drive c))

-- what the engine's step keeps to
pub acts_kept : (a b : List ℕ) (c : Controller) (s : Step) → Acts a b c s
    → (then_wait s.then ≤ 63) × (s.fifo ≡ then_fifo s.fifo s.then)
    × (FitsFifo c.registers.efifo c.fifo → FitsFifo c.registers.efifo s.fifo)
acts_kept a b c s (begins order head e) =
    let k = begin_kept order (seen_of c.registers.dor order.drive (pick_of order.drive a b)) head c.fifo
    c.registers.efifo in
    (k.wait, k.over, k.fits)
acts_kept a b c s (goes_on_lem work head e) =
    let img : List ℕ = pick_of (drive_of work) a b in
    let k = go_on_kept work (seen_of c.registers.dor (drive_of work) img) head img c.fifo c.registers.efifo
    c.registers.fifothr in
    (k.wait, k.over, k.fits)
