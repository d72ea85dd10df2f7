-- There is a host that serves a read promptly and gives TC with byte L (specs/ReadSucceeds): before each tick it takes
-- what is asked for.
-- Assumes nothing.
use Rattle.std.specs.Prelude.{Some}
use Prim.Native.Nat.{ℕ, zero, suc, ◌+◌, ◌≤◌, ◌<◌}
use native.Mathlib.Omega.{arith}
use mathlib.Core.Bool.{Bool, true, false, ◌||◌, true≢false, false≢true}
use mathlib.Core.List.{List, [], ◌∷◌, ◌++◌}
use mathlib.Core.Logic.{◌⊎◌, inl, inr}
use mathlib.Core.Path.{◌≡◌, refl, sym, ap, ◌∙◌, subst}
use lib.Dec.{eqb}
use lib.ListN.{length, length-append}
use borrow.Author.Tests.{eqb-true, eq-eqb}
use Rattle.image.specs.declared.layout.Geometry.{Geometry}
use Rattle.image.specs.declared.slot.Id.{Id}
use Rattle.image.specs.Disk.{disk_in}
use Rattle.image.specs.Lent.{pick_of}
use Rattle.image.proofs.TestLaws.{le_or_lt}
use Rattle.chip.specs.declared.fifo.Fifo.{Fifo}
use Rattle.chip.specs.Fifo.{emptied, front_of, taken_of}
use Rattle.chip.proofs.FifoLaws.{handed_fits}
use Rattle.sectors.specs.declared.order.Job.TheVariants.{Move}
use Rattle.sectors.specs.declared.order.Order.{Order}
use Rattle.sectors.specs.declared.order.Pass.TheVariants.{Read}
use Rattle.sectors.specs.declared.order.Transfer.{Transfer}
use Rattle.sectors.specs.declared.work.Step.{Step}
use Rattle.sectors.specs.declared.work.Then.{Then}
use Rattle.sectors.specs.declared.work.Then.TheVariants.{Ends, Works}
use Rattle.sectors.specs.declared.work.Work.TheVariants.{Moving}
use Rattle.fdc.specs.declared.answer.Answer.{Answer}
use Rattle.fdc.specs.declared.answer.Reply.TheVariants.{Byte}
use Rattle.fdc.specs.declared.record.Controller.{Controller}
use Rattle.fdc.specs.declared.record.Phase.{Phase}
use Rattle.fdc.specs.declared.record.Phase.TheVariants.{Starting}
use Rattle.fdc.specs.declared.record.Registers.{Registers}
use Rattle.fdc.specs.declared.ticks.Decision.{Decision}
use Rattle.fdc.specs.Answer.{answer_of}
use Rattle.fdc.specs.Calls.{dma_read}
use Rattle.fdc.specs.Commands.{answered_of}
use Rattle.fdc.specs.Data.{phase_to_host}
use Rattle.reached.specs.Good.{Suits}
use Rattle.reached.specs.Moves.{tick_count}
use Rattle.fdc.specs.Record.{with_fifo, with_phase}
use Rattle.fdc.specs.Registers.{gate_in, dma_in, motor_in, drq_of}
use Rattle.reached.specs.Runs.{Call, takes, ticks, answer_to, after, run_calls}
use Rattle.fdc.specs.Ticks.{settled_of, decided_of, ruled_of}
use Rattle.fdc.proofs.DmaLaws.{dma_read_is}
use Rattle.reached.proofs.GoodLaws.{good_valid}
use Rattle.demands.specs.DataError.{Spins}
use Rattle.demands.specs.HandedOver.{Taken, untaken, took_one, took_by, taken_by, taken_over}
use Rattle.demands.specs.InTime.{AtTicks}
use Rattle.demands.specs.PowerCut.{head_of}
use Rattle.demands.specs.Quiet.{Quiet}
use Rattle.demands.specs.ReadSucceeds.{AsTaken, TellsAt, Serves, ReadServable}
use Rattle.demands.specs.Work.{Real, at_work, Its, image_by, image_left, Handed, Alone}
use Rattle.demands.proofs.CallLaws.{tick_starts, tick_works, after_tick}
use Rattle.demands.proofs.CourseLaws.{low_drive}
use Rattle.demands.proofs.HandedOverLaws.{done_in, Run, is_over, to_start, at_it, run_all}
use Rattle.demands.proofs.HandedStream.{Flow, flows, ended}
use Rattle.demands.proofs.QuietLaws.{quiet_real, quiet_after}

-- a tick leaves the registers
settled_registers : (then : Then) (f : Fifo) (c : Controller) → (settled_of then f c).registers ≡ c.registers
unfolding settled_of with_fifo with_phase answered_of
settled_registers (Ends verdict) f c = refl
settled_registers (Works work) f c = refl

pub tick_registers : (a b : List ℕ) (c : Controller) (drive : ℕ) (o : Step) → ruled_of a b c ≡ decided_of drive o c
    → (after (ticks a b) c).registers ≡ c.registers
unfolding decided_of
tick_registers a b c drive o e =
    ap (λ (x : Controller). x.registers) (after_tick a b c) ∙ ap (λ (x : Decision). x.controller.registers) e
    ∙ settled_registers o.then o.fifo c

-- 01 Registers DRQ, Refusals 3: a cycle with the line on, to the host, hands over a byte
module _ (tc : Bool) (c : Controller) (q : Quiet c) (line : drq_of c ≡ true) (to : phase_to_host c.phase ≡ true) where
  pub takes_answer : answer_to (takes tc) c ≡ answer_of (Byte (front_of c.fifo)) (with_fifo (taken_of tc c.fifo) c)
  unfolding answer_to dma_read
  takes_answer =
      rw (good_valid c q.good, dma_read_is tc c, line, to, handed_fits c.registers.efifo c.fifo q.good.fifo)

  pub takes_record : after (takes tc) c ≡ with_fifo (taken_of tc c.fifo) c
  unfolding answer_of
  takes_record = ap (λ (x : Answer). x.controller) takes_answer

  pub takes_byte : (t : Taken) → taken_by (takes tc) c t ≡ took_one (front_of c.fifo) tc t
  unfolding taken_by answer_of
  takes_byte t = ap (λ (x : Answer). took_by tc x.reply t) takes_answer

pub took_registers : (tc : Bool) (c : Controller) → (with_fifo (taken_of tc c.fifo) c).registers ≡ c.registers
unfolding with_fifo
took_registers tc c = refl

took_count : (tc : Bool) (c : Controller) (m : ℕ) → c.fifo.count ≤ suc m
    → (with_fifo (taken_of tc c.fifo) c).fifo.count ≤ m
unfolding with_fifo taken_of
took_count true c m l = omega arith
took_count false c m l = omega arith

module _ (order : Order) (transfer : Transfer) (id : Id) (a b : List ℕ) (g : Geometry)
    (disk : disk_in (pick_of order.drive a b) ≡ Some g) (job : order.job ≡ Move transfer id)
    (rd : transfer.pass ≡ Read) (low : order.drive < 4) (cylinder L : ℕ) where
  abbrev drive : ℕ
  drive = order.drive

  abbrev img : List ℕ
  img = pick_of order.drive a b

  abbrev pub Running : Controller → Taken → Type 0
  Running c t = Run g cylinder order transfer id img disk job rd low c t

  -- motor, gate and DMA are on
  pub record Lines (r : Registers) : Type 0 where
    pub motor : motor_in r.dor drive ≡ true
    pub gate : gate_in r.dor ≡ true
    pub dma : dma_in r.spec2 ≡ true

  pub record Ready (c : Controller) (t : Taken) : Type 0 where
    pub quiet : Quiet c
    pub lines : Lines c.registers
    pub run : Running c t
    pub told : TellsAt L t

  abbrev Host : ℕ → Controller → Taken → Type 0
  Host k c t = Serves drive L k img c t

  -- over, it is served by any ticks
  idle : ℕ → List Call
  idle zero = []
  idle (suc k) = ticks a b ∷ idle k

  idle_long : (k : ℕ) → k ≤ tick_count (idle k)
  unfolding idle
  idle_long zero = omega arith
  idle_long (suc k) = omega (arith, idle_long k)

  none : (c : Controller) (t : Taken) → Ready c t → Host 0 c t
  unfolding Spins Alone AtTicks AsTaken
  none c t r =
      record { calls = []; spins = r.lines.motor; alone = tt; prompt = tt; tells = tt; long = omega arith }

  over : (k : ℕ) (c : Controller) (t : Taken) → Ready c t → at_work c.phase ≡ false → Host (suc k) c t
  unfolding idle Spins Alone AtTicks AsTaken
  over k c t r n =
      record {
        calls = ticks a b ∷ idle k;
        spins = (r.lines.motor, λ w. absurd (false≢true (sym n ∙ w)));
        alone = λ w. absurd (false≢true (sym n ∙ w));
        prompt = λ w. absurd (false≢true (sym n ∙ w));
        tells = λ w. absurd (false≢true (sym n ∙ w));
        long = omega (arith, idle_long k);
      }

  -- what a call leaves
  pub goes_on_lem : (call : Call) (c : Controller) (t : Taken) → Ready c t → at_work c.phase ≡ true → Handed drive img call
      → (image_by drive img call c ≡ img) × Running (after call c) (taken_by call c t)
  unfolding Its Alone image_left taken_over run_calls
  goes_on_lem call c t r w h =
      run_all g cylinder order transfer id img disk job rd low (call ∷ []) c t r.quiet (w, tt) (λ w. (h, tt))
      r.run

  -- a tick, with the request off
  ticked : (k : ℕ) (c : Controller) (t : Taken) → Ready c t → at_work c.phase ≡ true → c.fifo.asks ≡ false
      → ((c : Controller) (t : Taken) → Ready c t → Host k c t) → Host (suc k) c t
  unfolding Spins Alone AtTicks AsTaken taken_by
  ticked k c t r w off rest =
      let (same, run) = goes_on_lem (ticks a b) c t r w refl in
      let h : Host k (after (ticks a b) c) t =
      rest (after (ticks a b) c) t
      (record {
        quiet = quiet_after (ticks a b) c r.quiet w;
        lines = subst Lines (sym (kept r.run)) r.lines;
        run = run;
        told = r.told;
      }) in
      record {
        calls = ticks a b ∷ h.calls;
        spins = (r.lines.motor, λ w. (tt, h.spins));
        alone = λ w. (
          refl,
          subst (λ (x : List ℕ). Alone drive x h.calls (after (ticks a b) c)) (sym same) h.alone,
        );
        prompt = λ w. (off, h.prompt);
        tells = λ w. (r.told, h.tells);
        long = omega (arith, h.long);
      }
    where
      kept : Running c t → (after (ticks a b) c).registers ≡ c.registers
      kept (is_over n x s) = absurd (false≢true (sym n ∙ w))
      kept (to_start p u z) = tick_registers a b c _ _ (tick_starts a b c order r.quiet p)
      kept (at_it site task stage p u x) =
          tick_registers a b c _ _ (tick_works a b c (Moving site task stage) r.quiet p)

  -- a request on is one of a read that TC has not stopped
  pub record Asks (c : Controller) (t : Taken) : Type 0 where
    pub some : 0 < c.fifo.count
    pub to : phase_to_host c.phase ≡ true
    pub line : drq_of c ≡ true
    pub untold : t.told ≡ false

  empty_start : (p : Phase) (n : ℕ) (f : Fifo) → p ≡ Starting order → Suits p n f → f ≡ emptied
  empty_start p n f e s = (rw e at s).1

  pub asking : (c : Controller) (t : Taken) → Ready c t → at_work c.phase ≡ true → c.fifo.asks ≡ true → Asks c t
  unfolding drq_of
  asking c t r w on = go r.run
    where
      go : Running c t → Asks c t
      go (is_over n x s) = absurd (false≢true (sym n ∙ w))
      go (to_start p u z) =
          let e = empty_start c.phase _ c.fifo p r.quiet.good.phase in
          absurd (false≢true (ap (λ (f : Fifo). f.asks) (sym e) ∙ on))
      go (at_it site task stage p u x) =
          let pass : task.transfer.pass ≡ Read = ap (λ (y : Transfer). y.pass) x.told_to ∙ rd in
          record {
            some = x.asks on;
            to = rw (p, pass) refl;
            line = simp (r.lines.gate, r.lines.dma, p, pass, on);
            untold = untold x.flow;
          }
        where
          untold : Flow g cylinder transfer (record { id = id; side = order.side }) img x.num task.late x.n
              (done_in g cylinder drive transfer (record { id = id; side = order.side }) img stage) c.fifo t
              → t.told ≡ false
          untold (flows y z lo sum all) = z
          untold (ended y z nil off all lo hi) = absurd (true≢false (sym on ∙ off))

  -- TC comes with byte L
  abbrev pub now_tc : Taken → Bool
  now_tc t = eqb (length t.got + 1) L

  pub told_next : (byte : ℕ) (t : Taken) → t.told ≡ false → TellsAt L t → TellsAt L (took_one byte (now_tc t) t)
  told_next byte t u x = (
    λ e. omega (arith, size, eqb-true (length t.got + 1) L (sym only ∙ e)),
    λ l. only ∙ eq-eqb (length t.got + 1) L (omega (arith, size, fewer (le_or_lt L (length t.got)))),
  )
    where
      size : length (t.got ++ (byte ∷ [])) ≡ length t.got + 1
      size = length-append t.got (byte ∷ [])

      only : (t.told || now_tc t) ≡ now_tc t
      only = rw u

      fewer : (L ≤ length t.got) ⊎ (length t.got < L) → length t.got < L
      fewer (inl m) = absurd (false≢true (sym u ∙ x.1 m))
      fewer (inr m) = m

  -- a byte, with the request on
  took : (k : ℕ) (c : Controller) (t : Taken) (tc : Bool) → tc ≡ now_tc t → Ready c t
      → at_work c.phase ≡ true → Asks c t
      → ((c' : Controller) (t' : Taken) → Ready c' t' → c' ≡ with_fifo (taken_of tc c.fifo) c → Host k c' t')
      → Host k c t
  unfolding Spins Alone AtTicks AsTaken
  took k c t tc e r w y rest =
      let kept = takes_record tc c r.quiet y.line y.to in
      let byte = takes_byte tc c r.quiet y.line y.to t in
      let told : TellsAt L (taken_by (takes tc) c t) =
      rw (byte, e) (told_next (front_of c.fifo) t y.untold r.told) in
      let h : Host k (after (takes tc) c) (taken_by (takes tc) c t) =
      rest (after (takes tc) c) (taken_by (takes tc) c t)
      (record {
        quiet = quiet_after (takes tc) c r.quiet w;
        lines = subst Lines (sym (ap (λ (x : Controller). x.registers) kept ∙ took_registers tc c)) r.lines;
        run = (goes_on_lem (takes tc) c t r w tt).1;
        told = told;
      }) kept in
      record {
        calls = takes tc ∷ h.calls;
        spins = (r.lines.motor, λ w. (tt, h.spins));
        alone = λ w. (tt, h.alone);
        prompt = λ w. (tt, h.prompt);
        tells = λ w. (told, h.tells);
        long = omega (arith, h.long);
      }

  -- bytes until the request is off, then a tick
  served : (k m : ℕ) → ((c : Controller) (t : Taken) → Ready c t → Host k c t)
      → (c : Controller) (t : Taken) → Ready c t → c.fifo.count ≤ m → Host (suc k) c t
  served k zero rest c t r l = go (at_work c.phase) refl c.fifo.asks refl
    where
      go : (w : Bool) → at_work c.phase ≡ w → (on : Bool) → c.fifo.asks ≡ on → Host (suc k) c t
      go false n on x = over k c t r n
      go true w false off = ticked k c t r w off rest
      go true w true on = absurd (omega (arith, (asking c t r w on).some))
  served k (suc m) rest c t r l =
      go (λ c' t' r' h. served k m rest c' t' r' h) (at_work c.phase) refl c.fifo.asks refl
    where
      go : ((c' : Controller) (t' : Taken) → Ready c' t' → c'.fifo.count ≤ m → Host (suc k) c' t')
          → (w : Bool) → at_work c.phase ≡ w → (on : Bool) → c.fifo.asks ≡ on → Host (suc k) c t
      go fewer false n on x = over k c t r n
      go fewer true w false off = ticked k c t r w off rest
      go fewer true w true on =
          took (suc k) c t _ refl r w (asking c t r w on)
          (λ c' t' r' e. fewer c' t' r'
          (subst (λ (x : Controller). x.fifo.count ≤ m) (sym e) (took_count _ c m l)))

  serve : (k : ℕ) (c : Controller) (t : Taken) → Ready c t → Host k c t
  serve zero c t r = none c t r
  serve (suc k) c t r = served k c.fifo.count (serve k) c t r (omega arith)

pub read_servable_quiet : ReadServable Quiet
read_servable_quiet c q order transfer id r motor gate dma a b g disk L k some =
    let low = low_drive c order q r.accepted in
    serve order transfer id a b g disk r.moves r.reads low (head_of order c) L k c untaken
    (record {
      quiet = q;
      lines = record { motor = motor; gate = gate; dma = dma };
      run = to_start r.accepted refl refl;
      told = (λ e. absurd (false≢true e), λ l. absurd (omega arith));
    })

pub read_servable : ReadServable Real
read_servable c r = read_servable_quiet c (quiet_real c r)
