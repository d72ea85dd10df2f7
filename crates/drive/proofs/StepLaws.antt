-- When a Seek or Recalibrate is over (01 Stepping): each tick takes one from the ticks due, and the last one due
-- ends it.
-- Assumes nothing.
use Prim.Native.Nat.{ℕ, zero, suc, ◌+◌, ◌-◌, ◌%◌, ◌≤◌, ◌<◌}
use native.Mathlib.Nat.{suc-mul}
use native.Mathlib.Omega.{arith}
use mathlib.Core.Bool.{Bool, true, false, cond}
use mathlib.Core.Path.{◌≡◌, refl, sym, ap, ◌∙◌, subst}
use lib.Dec.{eqb, ltb}
use borrow.Author.Tests.{ltb-true, ltb-false, eq-eqb, ne_eqb, lt-leb}
use Rattle.drive.specs.declared.Drive.{Drive}
use Rattle.drive.specs.declared.Motion.{Motion}
use Rattle.drive.specs.declared.Motion.TheVariants.{Seeking, Recalibrating}
use Rattle.drive.specs.declared.Course.TheVariants.{To, Out}
use Rattle.drive.specs.Course.{course_step}
use Rattle.drive.specs.Drive.{distance, first_wait, recalibrate_steps, accepted, seek_of, recalibrate_of}
use Rattle.drive.specs.Due.{head_after, due_of, Goes, SeekDue, Recalibrates, MotionOver, recalibrate_report, over_after}
use Rattle.drive.specs.Step.{
  stepped,
  moving,
  sought,
  recalibrated,
  on_step,
  on_tick,
  seek_step,
  seek_tick,
  recalibrate_step,
  recalibrate_tick,
  tick_in,
  tick_drive,
}

-- what a step leaves of a drive but its head and change flag
abbrev Arrives : (Drive → Drive) → ℕ → ℕ → Drive → Type 0
Arrives end pcn final r = (x : Drive) × (r ≡ end x) × (x.head ≡ final) × (x.pcn ≡ pcn) × (x.busy ≡ true)

module _
    (on : ℕ → ℕ → Motion)
    (end : Drive → Drive)
    (goes_in : Bool)
    (number ticks pcn final : ℕ)
    (pos : 1 ≤ ticks)
    (mounted : Bool)
    (d : Drive)
  where
    -- more than one tick is due: one less
    goes_on_lem : (due : ℕ) → 1 ≤ due → (g : Goes on goes_in number ticks pcn final (suc due) d)
        → Goes on goes_in number ticks pcn final due (on_tick on end goes_in number mounted ticks g.steps g.wait d)
    unfolding stepped
    goes_on_lem due more g = go (ltb 1 g.wait) refl g.steps g.left g.none g.head
      where
        go : (t : Bool) → ltb 1 g.wait ≡ t → (steps : ℕ) → due_of ticks steps g.wait ≡ suc due
            → (steps ≡ 0 → g.wait ≡ 1)
            → head_after number goes_in steps d.head ≡ final
            → Goes on goes_in number ticks pcn final due
            (cond t (moving (on steps (g.wait - 1)) d)
            (cond (eqb steps 0) (end d) (on_step on end goes_in number mounted ticks steps d)))
        go true e zero left none head = absurd (omega (arith, none refl, ltb-true 1 g.wait e))
        go true e (suc n) left none head = record {
          steps = suc n;
          wait = g.wait - 1;
          motion = refl;
          left = omega (arith, ltb-true 1 g.wait e);
          waits = omega (arith, ltb-true 1 g.wait e);
          none = λ z. absurd (omega arith);
          head = head;
          from = g.from;
          quiet = g.quiet;
          busy = g.busy;
        }
        go false e zero left none head = absurd (omega (arith, none refl))
        go false e (suc zero) left none head = absurd (omega (arith, ltb-false 1 g.wait e))
        go false e (suc (suc n)) left none head =
            let minus : suc (suc n) - 1 ≡ suc n = omega arith in
            rw (ne_eqb (suc (suc n)) 0 (λ z. omega arith), lt-leb (suc (suc n)) 1 (omega arith), minus) (record {
              steps = suc n;
              wait = ticks;
              motion = refl;
              left = omega (arith, ltb-false 1 g.wait e, suc-mul n ticks);
              waits = pos;
              none = λ z. absurd (omega arith);
              head = head;
              from = g.from;
              quiet = g.quiet;
              busy = g.busy;
            })

    -- the last tick due ends it
    ends_now : (g : Goes on goes_in number ticks pcn final 1 d)
        → Arrives end pcn final (on_tick on end goes_in number mounted ticks g.steps g.wait d)
    unfolding stepped
    ends_now g = go (ltb 1 g.wait) refl g.steps g.left g.none g.head
      where
        go : (t : Bool) → ltb 1 g.wait ≡ t → (steps : ℕ) → due_of ticks steps g.wait ≡ 1
            → (steps ≡ 0 → g.wait ≡ 1)
            → head_after number goes_in steps d.head ≡ final
            → Arrives end pcn final
            (cond t (moving (on steps (g.wait - 1)) d)
            (cond (eqb steps 0) (end d) (on_step on end goes_in number mounted ticks steps d)))
        go true e zero left none head = absurd (omega (arith, ltb-true 1 g.wait e))
        go true e (suc n) left none head = absurd (omega (arith, ltb-true 1 g.wait e))
        go false e zero left none head = (d, refl, head, g.from, g.busy)
        go false e (suc zero) left none head =
            (stepped number mounted goes_in d, refl, head, g.from, g.busy)
        go false e (suc (suc n)) left none head = absurd (omega (arith, suc-mul n ticks, g.waits))

module _ (number ticks : ℕ) (pos : 1 ≤ ticks) (mounted : Bool) (pcn target final : ℕ) (d : Drive) where
  -- the direction is that from the PCN at the command
  as_seek : (P : Drive → Type 0) {due : ℕ} (g : SeekDue number ticks pcn target final due d)
      → P (on_tick (Seeking target) (sought number target) (ltb pcn target) number mounted ticks g.steps g.wait d)
      → P (tick_drive number mounted ticks d)
  unfolding tick_drive tick_in seek_tick
  as_seek P g p =
      subst (λ (m : Motion). P (tick_in m number mounted ticks d)) (sym g.motion)
      (subst
      (λ (t : Bool). P (on_tick (Seeking target) (sought number target) t number mounted ticks g.steps g.wait d))
      (sym (ap (λ (n : ℕ). ltb n target) g.from))
      p)

  -- 01 Stepping: a tick of a Seek takes one from the ticks due
  pub seek_goes_on : (due : ℕ) → 1 ≤ due → SeekDue number ticks pcn target final (suc due) d
      → SeekDue number ticks pcn target final due (tick_drive number mounted ticks d)
  seek_goes_on due more g =
      as_seek (SeekDue number ticks pcn target final due) g
      (goes_on_lem (Seeking target) (sought number target) (ltb pcn target) number ticks pcn final pos mounted d due more g)

  -- and the last one due ends it: PCN is NCN, report 20 + drive
  pub seek_ends : SeekDue number ticks pcn target final 1 d
      → MotionOver target (0x20 + number % 4) final (tick_drive number mounted ticks d)
  unfolding sought
  seek_ends g =
      as_seek (MotionOver target (0x20 + number % 4) final) g
      (over (ends_now (Seeking target) (sought number target) (ltb pcn target) number ticks pcn final pos mounted d g))
    where
      over : {r : Drive} → Arrives (sought number target) pcn final r → MotionOver target (0x20 + number % 4) final r
      over (x, e, h, p, b) = rw e (record { still = refl; pcn_is = refl; report_is = refl; head = h; busy = b })

module _ (number ticks : ℕ) (pos : 1 ≤ ticks) (mounted : Bool) (pcn final : ℕ) (d : Drive) where
  as_recalibrate : (P : Drive → Type 0) {due : ℕ} (g : Recalibrates number ticks pcn final due d)
      → P (on_tick Recalibrating (recalibrated number) false number mounted ticks g.steps g.wait d)
      → P (tick_drive number mounted ticks d)
  unfolding tick_drive tick_in recalibrate_tick
  as_recalibrate P g p = subst (λ (m : Motion). P (tick_in m number mounted ticks d)) (sym g.motion) p

  pub recalibrate_goes_on : (due : ℕ) → 1 ≤ due → Recalibrates number ticks pcn final (suc due) d
      → Recalibrates number ticks pcn final due (tick_drive number mounted ticks d)
  recalibrate_goes_on due more g =
      as_recalibrate (Recalibrates number ticks pcn final due) g
      (goes_on_lem Recalibrating (recalibrated number) false number ticks pcn final pos mounted d due more g)

  -- 01 Stepping: PCN 0; report 20 + drive, or 70 + drive if the head isn't at 0
  pub recalibrate_ends : Recalibrates number ticks pcn final 1 d
      → MotionOver 0 (recalibrate_report number final) final (tick_drive number mounted ticks d)
  unfolding recalibrated
  recalibrate_ends g =
      as_recalibrate (MotionOver 0 (recalibrate_report number final) final) g
      (over (ends_now Recalibrating (recalibrated number) false number ticks pcn final pos mounted d g))
    where
      over : {r : Drive} → Arrives (recalibrated number) pcn final r → MotionOver 0 (recalibrate_report number final) final r
      over (x, e, h, p, b) =
          rw e (record {
            still = refl;
            pcn_is = refl;
            report_is = ap (λ (n : ℕ). recalibrate_report number n) h;
            head = h;
            busy = b;
          })

-- 01 Stepping: at its acceptance n x T ticks are due, or one where no step is
due_at_first : (ticks n : ℕ) → due_of ticks n (first_wait n ticks) ≡ over_after n ticks
due_at_first ticks zero = refl
due_at_first ticks (suc n) = rw (ne_eqb (suc n) 0 (λ z. omega arith)) (omega (arith, suc-mul n ticks))

first_waits : (ticks n : ℕ) → 1 ≤ ticks → 1 ≤ first_wait n ticks
first_waits ticks zero h = omega arith
first_waits ticks (suc n) h = rw (ne_eqb (suc n) 0 (λ z. omega arith)) h

first_none : (ticks n : ℕ) → n ≡ 0 → first_wait n ticks ≡ 1
first_none ticks n e = rw (eq-eqb n 0 e)

module _ (number ticks : ℕ) (pos : 1 ≤ ticks) (d : Drive) where
  begins : (on : ℕ → ℕ → Motion) (goes_in : Bool) (n : ℕ)
      → Goes on goes_in number ticks d.pcn (head_after number goes_in n d.head) (over_after n ticks)
      (accepted (on n (first_wait n ticks)) d)
  begins on goes_in n = record {
    steps = n;
    wait = first_wait n ticks;
    motion = refl;
    left = due_at_first ticks n;
    waits = first_waits ticks n pos;
    none = first_none ticks n;
    head = refl;
    from = refl;
    quiet = refl;
    busy = refl;
  }

  -- 01 Stepping: |NCN - PCN| steps
  pub seek_begins : (target : ℕ)
      → SeekDue number ticks d.pcn target (head_after number (ltb d.pcn target) (distance d.pcn target) d.head)
      (over_after (distance d.pcn target) ticks) (seek_of target ticks d)
  seek_begins target = begins (Seeking target) (ltb d.pcn target) (distance d.pcn target)

  -- 01 Stepping: out until the head is at 0, at most 79 times
  pub recalibrate_begins :
      Recalibrates number ticks d.pcn (head_after number false (recalibrate_steps number d.head) d.head)
      (over_after (recalibrate_steps number d.head) ticks) (recalibrate_of number ticks d)
  recalibrate_begins = begins Recalibrating false (recalibrate_steps number d.head)

-- where n steps out leave the head of drive 0 or 1
pub head_out : (number n head : ℕ) → number < 2 → head_after number false n head ≡ head - n
head_out number zero head h = omega arith
head_out number (suc n) head h =
    rw (lt-leb 2 number (omega arith)) (head_out number n (head - 1) h ∙ less n head)
  where
    less : (n head : ℕ) → head - 1 - n ≡ head - suc n
    less n head = omega arith

-- a step of the course of a Seek is a Seek's, and of that of a Recalibrate a Recalibrate's
pub course_seeks :
    (number : ℕ) (mounted : Bool) (ticks target steps : ℕ) (d : Drive)
    → course_step (To target) number mounted ticks steps d ≡ seek_step number mounted ticks target steps d
unfolding seek_step
course_seeks number mounted ticks target steps d = refl

pub course_recalibrates :
    (number : ℕ) (mounted : Bool) (ticks steps : ℕ) (d : Drive)
    → course_step Out number mounted ticks steps d ≡ recalibrate_step number mounted ticks steps d
unfolding recalibrate_step
course_recalibrates number mounted ticks steps d = refl
