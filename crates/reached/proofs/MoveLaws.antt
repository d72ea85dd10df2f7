-- When a Seek or Recalibrate is over, over every list of calls (01 Stepping): n x T ticks after its acceptance, one
-- where no step is due, whatever calls come between that are no power-on and no reset.
-- Assumes nothing.
use Prim.Native.Nat.{ℕ, zero, suc, ◌+◌, ◌-◌, ◌/◌, ◌≤◌, ◌<◌}
use native.Mathlib.Omega.{arith}
use mathlib.Core.Bool.{Bool, true, false, true≢false, false≢true, or-true}
use mathlib.Core.List.{List, [], ◌∷◌}
use mathlib.Core.Path.{◌≡◌, refl, sym, ap, ◌∙◌}
use Rattle.chip.specs.declared.fifo.Fifo.{Fifo}
use Rattle.chip.specs.Stepping.{step_ticks}
use Rattle.drive.specs.declared.Drive.{Drive}
use Rattle.drive.specs.declared.Motion.{Motion}
use Rattle.drive.specs.Due.{Goes}
use Rattle.drive.specs.Step.{tick_drive}
use Rattle.sectors.specs.declared.work.Then.{Then}
use Rattle.sectors.specs.declared.work.Then.TheVariants.{Ends, Works}
use Rattle.fdc.specs.declared.answer.Reply.{Reply}
use Rattle.fdc.specs.declared.record.Bytes.{Bytes}
use Rattle.fdc.specs.declared.record.Controller.{Controller}
use Rattle.fdc.specs.declared.record.Phase.{Phase}
use Rattle.fdc.specs.declared.record.Phase.TheVariants.{Idle, Gathering, Starting, Working, Sensing, Answering}
use Rattle.fdc.specs.declared.record.Registers.{Registers}
use Rattle.fdc.specs.declared.ticks.Decision.{Decision}
use Rattle.fdc.specs.Answer.{answer_of}
use Rattle.fdc.specs.Commands.{answered_of, said_of}
use Rattle.fdc.specs.Record.{drive_at, with_drives, with_fifo, with_phase, valid_of}
use Rattle.fdc.specs.Registers.{held_in, any_busy}
use Rattle.fdc.specs.Ticks.{seen_of, present_in, tick_all, stepped_of, sensed_at, still_of, settled_of, decided_of, start_tick, work_tick, decide_in, decide_of, ruled_of, tick_of}
use Rattle.reached.specs.Good.{Good}
use Rattle.reached.specs.Moves.{Calm, AllCalm, tick_one, tick_count, Awake, Same, OnTime}
use Rattle.reached.specs.Runs.{Call, powers, reads, writes, takes, gives, ticks, notes, answer_to, after, run_calls}
use Rattle.reached.proofs.GoodLaws.{good_valid, good_after}
use Rattle.reached.proofs.RuleLaws.{rule_of}
use Rattle.reached.proofs.Rules.{Restarts, by_power, by_dor, by_dsr, DriveRule, kept, noted, powered, reset, restarted, released, sensed, set_off, ticked, Rest, refuses, shows, steps, flags, sets, anew, took_byte, gave_byte, gathers, says, idles, specifies, configures, senses, starts, acts}

-- what goes on goes on in a drive that is the same but for its change flag
pub goes_same : (on : ℕ → ℕ → Motion) (goes_in : Bool) (number step pcn final due : ℕ) (d e : Drive) → Same d e
    → Goes on goes_in number step pcn final due d → Goes on goes_in number step pcn final due e
goes_same on goes_in number step pcn final due d e s g = record {
  steps = g.steps;
  wait = g.wait;
  motion = s.motion ∙ g.motion;
  left = g.left;
  waits = g.waits;
  none = g.none;
  head = rw s.head g.head;
  from = s.pcn ∙ g.from;
  quiet = s.report ∙ g.quiet;
  busy = s.busy ∙ g.busy;
}

any_busy_lem : (k : ℕ) (drives : List Drive) → k < 4 → (drive_at k drives).busy ≡ true → any_busy drives ≡ true
unfolding any_busy
any_busy_lem zero drives h e = simp e
any_busy_lem (suc zero) drives h e = simp (e, or-true)
any_busy_lem (suc (suc zero)) drives h e = simp (e, or-true)
any_busy_lem (suc (suc (suc zero))) drives h e = simp (e, or-true)
any_busy_lem (suc (suc (suc (suc k)))) drives h e = absurd (omega arith)

-- a calm call is no power-on and no reset
pub calm_stays : (call : Call) → Calm call → Restarts call → ⊥
calm_stays call calm (by_power head0 head1 e) = rw e at calm
calm_stays call calm (by_dor byte e h) = false≢true (sym ((rw e at calm).0 refl) ∙ h)
calm_stays call calm (by_dsr byte e h) = false≢true (sym ((rw e at calm).1 refl) ∙ h)

-- A drive that a Seek or Recalibrate has made busy, and that has not reported, in a call that is calm.
module _ (call : Call) (c : Controller) (calm : Calm call) (step : ℕ) (awake : Awake step c.registers) (k : ℕ)
    (busy : (drive_at k c.drives).busy ≡ true) (quiet : (drive_at k c.drives).report ≡ 0) where
  same_rule : (p : Phase) (e : Drive) → tick_one call ≡ 0 → DriveRule call c p k e → Same (drive_at k c.drives) e
  same_rule p e z kept = record { head = refl; pcn = refl; busy = refl; report = refl; motion = refl }
  same_rule p e z noted = record { head = refl; pcn = refl; busy = refl; report = refl; motion = refl }
  same_rule p e z (powered head h x y q) = absurd (calm_stays call calm (by_power x y q))
  same_rule p e z (reset r) = absurd (calm_stays call calm r)
  same_rule p e z (restarted report r) = absurd (calm_stays call calm r)
  same_rule p e z (released report h) = absurd (false≢true (sym awake.free ∙ h))
  same_rule p e z (sensed f n) = absurd (n quiet)
  same_rule p e z (set_off f i b motion h) = absurd (false≢true (sym b ∙ busy))
  same_rule p e z (ticked x y q f mounted) = let o : ◌≡◌ {A = ℕ} 1 0 = sym (ap tick_one q) ∙ z in absurd (omega arith)

  -- 01 Commands (house): while it is busy there is no Specify
  awake_rule : (drives : List Drive) (reply : Reply) (r : Registers) (f : Fifo) (b : Bytes) (p : Phase) → k < 4
      → Rest call c drives reply r f b p → Awake step r
  awake_rule ds reply r f b p l (refuses refusal) = awake
  awake_rule ds reply r f b p l (shows offset byte q o) = awake
  awake_rule ds reply r f b p l (steps x y q) = awake
  awake_rule ds reply r f b p l (flags drive q) = awake
  awake_rule ds reply r f b p l (sets offset byte q o n s) =
      record { free = go (held_in n.dor) refl; steps = rw s.spec1 awake.steps }
    where
      go : (t : Bool) → held_in n.dor ≡ t → held_in n.dor ≡ false
      go true e = absurd (false≢true (sym awake.free ∙ s.held e))
      go false e = e
  awake_rule ds reply r f b p l (anew x reply' n e t s m) = absurd (calm_stays call calm x)
  awake_rule ds reply r f b p l (took_byte tc x work q h asks) = awake
  awake_rule ds reply r f b p l (gave_byte byte tc x work q h asks) = awake
  awake_rule ds reply r f b p l (gathers b' t m x n o) = awake
  awake_rule ds reply r f b p l (says h free reply' results left m n o) = awake
  awake_rule ds reply r f b p l (idles h free reply') = awake
  awake_rule ds reply r f b p l (specifies command t h second) =
      absurd (true≢false (sym (any_busy_lem k c.drives l busy) ∙ h))
  awake_rule ds reply r f b p l (configures command t h byte track) =
      record { free = awake.free; steps = awake.steps }
  awake_rule ds reply r f b p l (senses command t h unit) = awake
  awake_rule ds reply r f b p l (starts command t h order o) = awake
  awake_rule ds reply r f b p l (acts x y q h s a) = awake

-- a tick: each drive has its own
settled_drives : (then : Then) (c : Controller) → ((fifo : _) → (settled_of then fifo c).drives ≡ c.drives)
unfolding settled_of with_fifo with_phase answered_of
settled_drives (Ends verdict) c fifo = refl
settled_drives (Works work) c fifo = refl

pub decide_in_drives : (p : Phase) (a b : List ℕ) (c : Controller) → (decide_in p a b c).controller.drives ≡ c.drives
unfolding decide_in still_of start_tick work_tick decided_of sensed_at said_of answered_of
decide_in_drives Idle a b c = refl
decide_in_drives (Gathering entry) a b c = refl
decide_in_drives (Starting order) a b c = settled_drives _ c _
decide_in_drives (Working work) a b c = settled_drives _ c _
decide_in_drives (Sensing unit) a b c = refl
decide_in_drives (Answering loud) a b c = refl

-- drive k of four that have had a tick
ticked_one : (k : ℕ) (drives : List Drive) (m0 m1 : Bool) (step : ℕ) → k < 4
    → (mounted : Bool) × (drive_at k (tick_all drives m0 m1 step) ≡ tick_drive k mounted step (drive_at k drives))
unfolding tick_all
ticked_one zero drives m0 m1 step h = (m0, refl)
ticked_one (suc zero) drives m0 m1 step h = (m1, refl)
ticked_one (suc (suc zero)) drives m0 m1 step h = (false, refl)
ticked_one (suc (suc (suc zero))) drives m0 m1 step h = (false, refl)
ticked_one (suc (suc (suc (suc k)))) drives m0 m1 step h = absurd (omega arith)

ruled_is : (a b : List ℕ) (c : Controller) → valid_of c ≡ true → held_in c.registers.dor ≡ false
    → ruled_of a b c ≡ decide_in c.phase a b (stepped_of a b c)
unfolding ruled_of decide_of
ruled_is a b c v h = simp (v, h)

module _ (k step : ℕ) (low : k < 4) where
  after_tick : (a b : List ℕ) (c : Controller) → Good c → Awake step c.registers
      → (mounted : Bool) × (drive_at k (after (ticks a b) c).drives ≡ tick_drive k mounted step (drive_at k c.drives))
  unfolding answer_to tick_of answer_of stepped_of with_drives
  after_tick a b c g w =
      let e : ruled_of a b c ≡ decide_in c.phase a b (stepped_of a b c) = ruled_is a b c (good_valid c g) w.free in
      let m0 : Bool = present_in (seen_of c.registers.dor 0 a) in
      let m1 : Bool = present_in (seen_of c.registers.dor 1 b) in
      let (mounted, t) = ticked_one k c.drives m0 m1 (step_ticks (c.registers.spec1 / 16)) low in (
        mounted,
        ap (λ (d : Decision). drive_at k d.controller.drives) e
            ∙ ap (drive_at k) (decide_in_drives c.phase a b (stepped_of a b c))
            ∙ t
            ∙ ap (λ (n : ℕ). tick_drive k mounted n (drive_at k c.drives)) w.steps,
      )

  -- A motion that goes on with a number of ticks due, told by P, and what it is when it is over, told by Q.
  module _
      (P : ℕ → Drive → Type 0)
      (Q : Drive → Type 0)
      (same : (due : ℕ) (d e : Drive) → Same d e → P due d → P due e)
      (busy : (due : ℕ) (d : Drive) → P due d → d.busy ≡ true)
      (quiet : (due : ℕ) (d : Drive) → P due d → d.report ≡ 0)
      (goes : (mounted : Bool) (due : ℕ) (d : Drive) → 1 ≤ due → P (suc due) d → P due (tick_drive k mounted step d))
      (ends : (mounted : Bool) (d : Drive) → P 1 d → Q (tick_drive k mounted step d))
    where
      pub record Going (due : ℕ) (c : Controller) : Type 0 where
        pub good : Good c
        pub awake : Awake step c.registers
        pub drive : P due (drive_at k c.drives)

      going_awake : (call : Call) (due : ℕ) (c : Controller) → Calm call → Going due c
          → Awake step (after call c).registers
      going_awake call due c q g =
          awake_rule call c q step g.awake k (busy due _ g.drive) (quiet due _ g.drive) _ _ _ _ _ _ low
          (rule_of call c).rest

      -- a call that is no tick
      going_call : (call : Call) (due : ℕ) (c : Controller) → Calm call → tick_one call ≡ 0 → Going due c
          → Going due (after call c)
      going_call call due c q z g = record {
        good = good_after call c g.good;
        awake = going_awake call due c q g;
        drive =
            same due _ _
            (same_rule call c q step g.awake k (busy due _ g.drive) (quiet due _ g.drive) _ _ z
            ((rule_of call c).drives k low))
            g.drive;
      }

      going_tick : (a b : List ℕ) (due : ℕ) (c : Controller) → 1 ≤ due → Going (suc due) c
          → Going due (after (ticks a b) c)
      going_tick a b due c more g =
          let (mounted, e) = after_tick a b c g.good g.awake in
          record {
            good = good_after (ticks a b) c g.good;
            awake = going_awake (ticks a b) (suc due) c tt g;
            drive = rw e (goes mounted due _ more g.drive);
          }

      pub going_ends : (a b : List ℕ) (c : Controller) → Going 1 c → Q (drive_at k (after (ticks a b) c).drives)
      going_ends a b c g =
          let (mounted, e) = after_tick a b c g.good g.awake in
          rw e (ends mounted _ g.drive)

      none : (due : ℕ) (c : Controller) → Going (0 + suc due) c → Going (suc due) c
      none due c g = let e : 0 + suc due ≡ suc due = omega arith in rw e at g

      going_one : (call : Call) (due : ℕ) (c : Controller) → Calm call → Going (tick_one call + suc due) c
          → Going (suc due) (after call c)
      going_one (powers head0 head1) due c q g = absurd q
      going_one (reads offset) due c q g = going_call (reads offset) _ c q refl (none due c g)
      going_one (writes offset byte) due c q g = going_call (writes offset byte) _ c q refl (none due c g)
      going_one (takes tc) due c q g = going_call (takes tc) _ c q refl (none due c g)
      going_one (gives byte tc) due c q g = going_call (gives byte tc) _ c q refl (none due c g)
      going_one (ticks a b) due c q g =
          let e : 1 + suc due ≡ suc (suc due) = omega arith in
          going_tick a b _ c (omega arith) (rw e at g)
      going_one (notes drive) due c q g = going_call (notes drive) _ c q refl (none due c g)

      going_run : (calls : List Call) (due : ℕ) (c : Controller) → AllCalm calls → Going (tick_count calls + suc due) c
          → Going (suc due) (run_calls calls c)
      unfolding run_calls
      going_run [] due c q g = none due c g
      going_run (call ∷ calls) due c q g =
          let e : tick_one call + tick_count calls + suc due ≡ tick_one call + suc (tick_count calls + due) = omega arith in
          let e' : suc (tick_count calls + due) ≡ tick_count calls + suc due = omega arith in
          let h : Going (suc (tick_count calls + due)) (after call c) = going_one call _ c q.0 (rw e at g) in
          going_run calls due _ q.1 (rw e' at h)

      -- over at exactly `due` ticks
      pub on_time : (due : ℕ) (c : Controller) → Going due c → OnTime P Q k due c
      on_time due c g = record { before = before; last = last }
        where
          at : (calls : List Call) (rest : ℕ) → AllCalm calls → due ≡ tick_count calls + suc rest
              → Going (suc rest) (run_calls calls c)
          at calls rest q e = going_run calls rest c q (rw e at g)

          before : (calls : List Call) → AllCalm calls → tick_count calls < due → P (due - tick_count calls)
              (drive_at k (run_calls calls c).drives)
          before calls q h =
              let e : due - tick_count calls ≡ suc (due - tick_count calls - 1) = omega arith in
              rw e (at calls (due - tick_count calls - 1) q (omega arith)).drive

          last : (calls : List Call) → AllCalm calls → tick_count calls + 1 ≡ due → (a b : List ℕ)
              → Q (drive_at k (after (ticks a b) (run_calls calls c)).drives)
          last calls q h a b = going_ends a b _ (at calls 0 q (omega arith))
