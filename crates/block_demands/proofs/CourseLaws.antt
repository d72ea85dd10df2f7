-- A data command served by the block service, call by call (02 2026-01): motor, gate and DMA are on, no report is
-- pending, and so INT tells its end.
-- Assumes nothing.
use Prim.Native.Nat.{ℕ, suc, ◌≤◌, ◌<◌}
use native.Mathlib.Omega.{arith}
use mathlib.Core.Bool.{Bool, true, false, true≢false, false≢true}
use mathlib.Core.List.{List, [], ◌∷◌}
use mathlib.Core.Logic.{◌⊎◌, inl, inr}
use mathlib.Core.Path.{◌≡◌, refl, sym, ap, ◌∙◌, subst}
use Rattle.image.specs.Lent.{pick_of}
use Rattle.image.proofs.TestLaws.{le_or_lt}
use Rattle.chip.specs.declared.fifo.Fifo.{Fifo}
use Rattle.sectors.specs.declared.work.Step.{Step}
use Rattle.sectors.specs.declared.work.Then.{Then}
use Rattle.sectors.specs.declared.work.Then.TheVariants.{Ends, Works}
use Rattle.fdc.specs.declared.record.Controller.{Controller}
use Rattle.fdc.specs.declared.record.Phase.{Phase}
use Rattle.fdc.specs.declared.record.Phase.TheVariants.{Idle, Gathering, Starting, Working, Sensing, Answering}
use Rattle.fdc.specs.declared.ticks.Decision.{Decision}
use Rattle.fdc.specs.Answer.{answer_of}
use Rattle.fdc.specs.Commands.{answered_of}
use Rattle.fdc.specs.Record.{with_fifo, with_phase}
use Rattle.fdc.specs.Registers.{gate_in, dma_in, motor_in, loud_in, pending_in, int_of}
use Rattle.fdc.specs.Ticks.{settled_of, decided_of, ruled_of, tick_of}
use Rattle.reached.specs.Moves.{tick_count}
use Rattle.reached.specs.Runs.{Call, powers, reads, writes, takes, gives, ticks, notes, answer_to, after}
use Rattle.demands.specs.DataError.{Spins}
use Rattle.demands.specs.InTime.{AtTicks, Prompt}
use Rattle.demands.specs.Quiet.{Quiet}
use Rattle.demands.specs.Work.{at_work, Its, Alone}
use Rattle.demands.proofs.AcknowledgedLaws.{OnOrSaid, phase_said}
use Rattle.demands.proofs.CallLaws.{tick_starts, tick_works, after_tick}
use Rattle.demands.proofs.QuietLaws.{quiet_after}
use Rattle.block.specs.Box.{Box, tick_answer, ticked}
use Rattle.block_demands.specs.Made.{box_by, box_after, AllHanded}

pub record Lit (drive : ℕ) (c : Controller) : Type 0 where
  pub quiet : Quiet c
  pub motor : motor_in c.registers.dor drive ≡ true
  pub gate : gate_in c.registers.dor ≡ true
  pub dma : dma_in c.registers.spec2 ≡ true
  pub silent : pending_in c.drives ≡ false

-- a tick of a command at work leaves registers and drives
pub record Leaves (c e : Controller) : Type 0 where
  pub registers : e.registers ≡ c.registers
  pub drives : e.drives ≡ c.drives

settled_leaves : (then : Then) (f : Fifo) (c : Controller) → Leaves c (settled_of then f c)
unfolding settled_of with_fifo with_phase answered_of
settled_leaves (Ends verdict) f c = record { registers = refl; drives = refl }
settled_leaves (Works work) f c = record { registers = refl; drives = refl }

decided_leaves : (a b : List ℕ) (c : Controller) (drive : ℕ) (o : Step) → ruled_of a b c ≡ decided_of drive o c
    → Leaves c (after (ticks a b) c)
unfolding decided_of
decided_leaves a b c drive o e =
    rw (after_tick a b c ∙ ap (λ (d : Decision). d.controller) e) (settled_leaves o.then o.fifo c)

phase_leaves : (a b : List ℕ) (c : Controller) (p : Phase) → c.phase ≡ p → at_work p ≡ true → Quiet c
    → Leaves c (after (ticks a b) c)
phase_leaves a b c Idle e w q = absurd (false≢true w)
phase_leaves a b c (Gathering entry) e w q = absurd (false≢true w)
phase_leaves a b c (Starting order) e w q = decided_leaves a b c _ _ (tick_starts a b c order q e)
phase_leaves a b c (Working work) e w q = decided_leaves a b c _ _ (tick_works a b c work q e)
phase_leaves a b c (Sensing unit) e w q = absurd (false≢true w)
phase_leaves a b c (Answering loud) e w q = absurd (false≢true w)

pub tick_leaves : (a b : List ℕ) (c : Controller) → Quiet c → at_work c.phase ≡ true → Leaves c (after (ticks a b) c)
tick_leaves a b c q w = phase_leaves a b c c.phase refl w q

pub lit_left : (drive : ℕ) (c e : Controller) → Lit drive c → Quiet e → Leaves c e → Lit drive e
lit_left drive c e l q k = record {
  quiet = q;
  motor = rw k.registers l.motor;
  gate = rw k.registers l.gate;
  dma = rw k.registers l.dma;
  silent = rw k.drives l.silent;
}

pub lit_tick : (drive : ℕ) (a b : List ℕ) (c : Controller) → Lit drive c → at_work c.phase ≡ true
    → Lit drive (after (ticks a b) c)
lit_tick drive a b c l w =
    lit_left drive c (after (ticks a b) c) l (quiet_after (ticks a b) c l.quiet w) (tick_leaves a b c l.quiet w)

-- at work or said, after a tick
pub tick_says : (drive : ℕ) (a b : List ℕ) (c : Controller) → Lit drive c → at_work c.phase ≡ true
    → OnOrSaid (after (ticks a b) c)
tick_says drive a b c l w = phase_said a b c c.phase refl w l.quiet

-- a result has seven bytes
settled_seven : (then : Then) (f : Fifo) (c : Controller) → (settled_of then f c).phase ≡ Answering true
    → (settled_of then f c).bytes.left ≡ 7
unfolding settled_of with_fifo with_phase answered_of
settled_seven (Ends verdict) f c e = refl
settled_seven (Works work) f c e = absurd (true≢false (ap at_work e))

decided_seven : (a b : List ℕ) (c : Controller) (drive : ℕ) (o : Step) → ruled_of a b c ≡ decided_of drive o c
    → (after (ticks a b) c).phase ≡ Answering true → (after (ticks a b) c).bytes.left ≡ 7
unfolding decided_of
decided_seven a b c drive o e =
    rw (after_tick a b c ∙ ap (λ (d : Decision). d.controller) e) (settled_seven o.then o.fifo c)

phase_seven : (a b : List ℕ) (c : Controller) (p : Phase) → c.phase ≡ p → at_work p ≡ true → Quiet c
    → (after (ticks a b) c).phase ≡ Answering true → (after (ticks a b) c).bytes.left ≡ 7
phase_seven a b c Idle e w q = absurd (false≢true w)
phase_seven a b c (Gathering entry) e w q = absurd (false≢true w)
phase_seven a b c (Starting order) e w q = decided_seven a b c _ _ (tick_starts a b c order q e)
phase_seven a b c (Working work) e w q = decided_seven a b c _ _ (tick_works a b c work q e)
phase_seven a b c (Sensing unit) e w q = absurd (false≢true w)
phase_seven a b c (Answering loud) e w q = absurd (false≢true w)

tick_seven : (a b : List ℕ) (c : Controller) → Quiet c → at_work c.phase ≡ true
    → (after (ticks a b) c).phase ≡ Answering true → (after (ticks a b) c).bytes.left ≡ 7
tick_seven a b c q w = phase_seven a b c c.phase refl w q

quiet_loud : (p : Phase) → at_work p ≡ true → loud_in p ≡ false
quiet_loud Idle w = refl
quiet_loud (Gathering entry) w = refl
quiet_loud (Starting order) w = refl
quiet_loud (Working work) w = refl
quiet_loud (Sensing unit) w = refl
quiet_loud (Answering loud) w = absurd (false≢true w)

-- INT is off at work, and on when the result waits
pub int_works : (drive : ℕ) (c : Controller) → Lit drive c → at_work c.phase ≡ true → int_of c ≡ false
unfolding int_of
int_works drive c l w = simp (l.gate, l.silent, l.dma, quiet_loud c.phase w)

pub int_said : (drive : ℕ) (c : Controller) → Lit drive c → c.phase ≡ Answering true → int_of c ≡ true
unfolding int_of
int_said drive c l e = simp (l.gate, l.silent, ap loud_in e)

pub tick_int : (s : Box) → (tick_answer s).int ≡ int_of (after (ticks s.first s.second) s.controller)
unfolding tick_of answer_of answer_to
tick_int s = refl

pub ticked_by : (s : Box) → ticked s ≡ box_by (ticks s.first s.second) s
unfolding ticked answer_to
ticked_by s = refl

-- the command has ended, with the result waiting; or it is at work after so many ticks
abbrev pub Come : Bool → ℕ → ℕ → Box → Type 0
Come came n made u =
    ((came ≡ true) × (u.controller.phase ≡ Answering true) × (u.controller.bytes.left ≡ 7))
    ⊎ ((came ≡ false) × (n ≤ made) × (at_work u.controller.phase ≡ true))

come_on : (came : Bool) (n m made more : ℕ) (u : Box) → (n ≤ made → m ≤ more) → Come came n made u → Come came m more u
come_on came n m made more u f (inl x) = inl x
come_on came n m made more u f (inr x) = inr (x.0, f x.1, x.2)

-- The calls of the command from a box on: up to its end, or so many ticks.
pub record Course (drive n : ℕ) (s : Box) (came : Bool) (u : Box) (calls : List Call) : Type 0 where
  pub its : Its calls s.controller
  pub handed : AllHanded calls s
  pub leads : box_after calls s ≡ u
  pub spins : Spins drive calls s.controller
  pub prompt : Prompt calls s.controller
  pub lit : Lit drive u.controller
  pub ends : Come came n (tick_count calls) u

module _ (drive : ℕ) (s : Box) (l : Lit drive s.controller) (w : at_work s.controller.phase ≡ true) where
  pub course_none : Course drive 0 s false s []
  unfolding Its AllHanded box_after Spins AtTicks
  course_none = record {
    its = tt;
    handed = tt;
    leads = refl;
    spins = l.motor;
    prompt = tt;
    lit = l;
    ends = inr (refl, omega arith, w);
  }

  -- a tick with the request off: the last one, or one of more
  module _ (off : s.controller.fifo.asks ≡ false) where
    abbrev tick : Call
    tick = ticks s.first s.second

    pub course_end : (n : ℕ) → (after tick s.controller).phase ≡ Answering true
        → Course drive (suc n) s true (ticked s) (tick ∷ [])
    unfolding Its AllHanded box_after Spins AtTicks
    course_end n e = record {
      its = (w, tt);
      handed = ((refl, refl), tt);
      leads = sym (ticked_by s);
      spins = (l.motor, λ _. (tt, (lit_tick drive s.first s.second s.controller l w).motor));
      prompt = λ _. (off, tt);
      lit = rw (ticked_by s) (lit_tick drive s.first s.second s.controller l w);
      ends = inl (
        refl,
        rw (ticked_by s) e,
        rw (ticked_by s)
            (tick_seven s.first s.second s.controller l.quiet w e),
      );
    }

    pub course_tick : (n : ℕ) (came : Bool) (u : Box) (calls : List Call) → Course drive n (ticked s) came u calls
        → Course drive (suc n) s came u (tick ∷ calls)
    unfolding Its AllHanded box_after Spins AtTicks
    course_tick n came u calls c' =
        let c = rw (ticked_by s) at c' in
        record {
          its = (w, c.its);
          handed = ((refl, refl), c.handed);
          leads = c.leads;
          spins = (l.motor, λ _. (tt, c.spins));
          prompt = λ _. (off, c.prompt);
          lit = c.lit;
          ends = come_on came n (suc n) _ _ u (λ x. omega (arith, x)) c.ends;
        }

  -- a cycle, either way
  pub course_take : (n : ℕ) (tc came : Bool) (u : Box) (calls : List Call)
      → Course drive n (box_by (takes tc) s) came u calls → Course drive n s came u (takes tc ∷ calls)
  unfolding Its AllHanded box_after Spins AtTicks
  course_take n tc came u calls c = record {
    its = (w, c.its);
    handed = (tt, c.handed);
    leads = c.leads;
    spins = (l.motor, λ _. (tt, c.spins));
    prompt = λ _. (tt, c.prompt);
    lit = c.lit;
    ends = come_on came n n _ _ u (λ x. omega (arith, x)) c.ends;
  }

  pub course_give : (n byte : ℕ) (tc came : Bool) (u : Box) (calls : List Call)
      → Course drive n (box_by (gives byte tc) s) came u calls → Course drive n s came u (gives byte tc ∷ calls)
  unfolding Its AllHanded box_after Spins AtTicks
  course_give n byte tc came u calls c = record {
    its = (w, c.its);
    handed = (tt, c.handed);
    leads = c.leads;
    spins = (l.motor, λ _. (tt, c.spins));
    prompt = λ _. (tt, c.prompt);
    lit = c.lit;
    ends = come_on came n n _ _ u (λ x. omega (arith, x)) c.ends;
  }

-- nobody else changes either image
pub alone_first : (calls : List Call) (s : Box) → AllHanded calls s → Alone 0 s.first calls s.controller
unfolding AllHanded Alone
alone_first [] s h = tt
alone_first (powers x y ∷ calls) s h = λ _. (tt, alone_first calls _ h.1)
alone_first (reads x ∷ calls) s h = λ _. (tt, alone_first calls _ h.1)
alone_first (writes x y ∷ calls) s h = λ _. (tt, alone_first calls _ h.1)
alone_first (takes tc ∷ calls) s h = λ _. (tt, alone_first calls _ h.1)
alone_first (gives x tc ∷ calls) s h = λ _. (tt, alone_first calls _ h.1)
alone_first (ticks a b ∷ calls) s h = λ _. (h.0.0, alone_first calls _ h.1)
alone_first (notes x ∷ calls) s h = λ _. (tt, alone_first calls _ h.1)

pub alone_second : (calls : List Call) (s : Box) → AllHanded calls s → Alone 1 s.second calls s.controller
unfolding AllHanded Alone
alone_second [] s h = tt
alone_second (powers x y ∷ calls) s h = λ _. (tt, alone_second calls _ h.1)
alone_second (reads x ∷ calls) s h = λ _. (tt, alone_second calls _ h.1)
alone_second (writes x y ∷ calls) s h = λ _. (tt, alone_second calls _ h.1)
alone_second (takes tc ∷ calls) s h = λ _. (tt, alone_second calls _ h.1)
alone_second (gives x tc ∷ calls) s h = λ _. (tt, alone_second calls _ h.1)
alone_second (ticks a b ∷ calls) s h = λ _. (h.0.1, alone_second calls _ h.1)
alone_second (notes x ∷ calls) s h = λ _. (tt, alone_second calls _ h.1)

-- drive 0 or 1
pub of_two : (P : ℕ → Type 0) (drive : ℕ) → drive < 2 → P 0 → P 1 → P drive
of_two P drive h p q = go (le_or_lt 1 drive)
  where
    go : (1 ≤ drive) ⊎ (drive < 1) → P drive
    go (inl x) = let e : 1 ≡ drive = omega arith in subst P e q
    go (inr x) = let e : 0 ≡ drive = omega arith in subst P e p

pub alone_picked : (drive : ℕ) → drive < 2 → (calls : List Call) (s : Box) → AllHanded calls s
    → Alone drive (pick_of drive s.first s.second) calls s.controller
alone_picked drive low calls s h =
    of_two (λ k. Alone k (pick_of k s.first s.second) calls s.controller) drive low (alone_first calls s h)
    (alone_second calls s h)
