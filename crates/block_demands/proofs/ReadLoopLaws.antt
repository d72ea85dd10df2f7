-- The loop that serves a read (block/specs/Serve: reads_of), as calls of the command (02 2026-01).
-- Assumes nothing.
use Rattle.std.specs.Prelude.{Some}
use Prim.Native.Nat.{ℕ, zero, suc, ◌+◌, ◌-◌, ◌≤◌, ◌<◌}
use native.Mathlib.Omega.{arith}
use mathlib.Core.Bool.{Bool, true, false, cond, and-false}
use mathlib.Core.List.{List, [], ◌∷◌, ◌++◌}
use mathlib.Core.Logic.{inl, inr}
use mathlib.Core.Path.{◌≡◌, refl, sym, ap, ◌∙◌, subst}
use lib.Dec.{eqb}
use lib.ListN.{length, set, length-append}
use borrow.Author.Tests.{eq-eqb, ne_eqb}
use Rattle.image.specs.declared.layout.Geometry.{Geometry}
use Rattle.image.specs.declared.slot.Id.{Id}
use Rattle.image.specs.Disk.{disk_in}
use Rattle.image.specs.Lent.{pick_of}
use Rattle.chip.specs.declared.fifo.Fifo.{Fifo}
use Rattle.chip.specs.Fifo.{front_of, taken_of}
use Rattle.engine.specs.declared.flow.Flow.{Flow}
use Rattle.engine.specs.declared.flow.Flow.TheVariants as flow
use Rattle.sectors.specs.declared.order.Job.TheVariants.{Move}
use Rattle.sectors.specs.declared.order.Order.{Order}
use Rattle.sectors.specs.declared.order.Pass.TheVariants.{Read}
use Rattle.sectors.specs.declared.order.Transfer.{Transfer}
use Rattle.fdc.specs.declared.answer.Answer.{Answer}
use Rattle.fdc.specs.declared.answer.Reply.TheVariants.{Byte}
use Rattle.fdc.specs.declared.record.Controller.{Controller}
use Rattle.fdc.specs.declared.record.Phase.TheVariants.{Answering}
use Rattle.fdc.specs.Answer.{answer_of, value_of}
use Rattle.fdc.specs.Calls.{dma_read}
use Rattle.fdc.specs.Record.{with_fifo}
use Rattle.fdc.specs.Registers.{flow_asks, phase_flow, drq_of}
use Rattle.fdc.specs.Ticks.{tick_of, image_after}
use Rattle.reached.specs.Runs.{Call, takes, ticks, answer_to, after}
use Rattle.demands.specs.HandedOver.{Taken, took_one, taken_by, taken_over}
use Rattle.demands.specs.ReadSucceeds.{AsTaken, TellsAt, ReadTells}
use Rattle.demands.specs.Work.{at_work}
use Rattle.demands.proofs.AcknowledgedLaws.{OnOrSaid}
use Rattle.demands.proofs.AfterTcLaws.{read_off}
use Rattle.demands.proofs.QuietLaws.{quiet_after}
use Rattle.demands.proofs.ReadServedLaws as served
use Rattle.block.specs.Box.{Box, box_of, with_record, tick_answer, ticked}
use Rattle.block.specs.Serve.{Taking, taking, took_of, takes_of, CameRead, came_read, taken_after, reads_of}
use Rattle.block_demands.proofs.CourseLaws.{
  Lit,
  Leaves,
  lit_left,
  lit_tick,
  tick_says,
  int_works,
  int_said,
  tick_int,
}
use Rattle.block_demands.proofs.CourseLaws.{Course, course_none, course_end, course_tick, course_take}
use Rattle.block_demands.proofs.FilledLaws.{filled, filled_next, filled_length}

-- the line is off where nothing is asked for
flow_off : (f : Flow) → flow_asks f false ≡ false
flow_off flow.Quiet = refl
flow_off flow.ToHost = refl
flow_off flow.FromHost = refl

pub drq_off : (c : Controller) → c.fifo.asks ≡ false → drq_of c ≡ false
unfolding drq_of
drq_off c off = simp (off, flow_off (phase_flow c.phase), and-false)

pub took_leaves : (f : Fifo) (c : Controller) → Leaves c (with_fifo f c)
unfolding with_fifo
took_leaves f c = record { registers = refl; drives = refl }

pub took_phase : (f : Fifo) (c : Controller) → at_work c.phase ≡ true → at_work (with_fifo f c).phase ≡ true
unfolding with_fifo
took_phase f c w = w

pub same_tc : (m len L : ℕ) → suc m + len ≡ L → eqb m 0 ≡ eqb (len + 1) L
same_tc zero len L e = sym (eq-eqb (len + 1) L (omega arith))
same_tc (suc m) len L e = ne_eqb (suc m) 0 (λ x. omega arith) ∙ sym (ne_eqb (len + 1) L (λ x. omega arith))

module _ (order : Order) (transfer : Transfer) (id : Id) (a b : List ℕ) (g : Geometry)
    (disk : disk_in (pick_of order.drive a b) ≡ Some g) (job : order.job ≡ Move transfer id)
    (rd : transfer.pass ≡ Read) (low : order.drive < 4) (cylinder L : ℕ) (out₀ : List ℕ) (size : length out₀ ≡ L)
    -- a tick of a read changes neither image
    (keeps : (c : Controller) (t : Taken) → served.Ready order transfer id a b g disk job rd low cylinder L c t
    → at_work c.phase ≡ true → (image_after 0 a b c a ≡ a) × (image_after 1 a b c b ≡ b))
  where
    abbrev drive : ℕ
    drive = order.drive

    -- the host has taken so many bytes, and the caller's slice holds them
    pub record At (c : Controller) (t : Taken) (out : List ℕ) : Type 0 where
      pub ready : served.Ready order transfer id a b g disk job rd low cylinder L c t
      pub lit : Lit drive c
      pub works : at_work c.phase ≡ true
      pub holds : out ≡ filled t.got out₀
      pub most : length t.got ≤ L

    pub record Loop (n : ℕ) (c : Controller) (t : Taken) (r : CameRead) : Type 0 where
      pub calls : List Call
      pub course : Course drive n (box_of c a b) r.came r.box calls
      pub tells : ReadTells L calls c t
      pub out : r.out ≡ filled (taken_over calls c t).got out₀
      pub most : length (taken_over calls c t).got ≤ L
      pub first : r.box.first ≡ a
      pub second : r.box.second ≡ b

    abbrev Rest : ℕ → Type 0
    Rest n =
        (c : Controller) (t : Taken) (out : List ℕ) → At c t out → c.fifo.asks ≡ false
        → Loop n c t (reads_of n (box_of c a b) out (length t.got))

    -- the bytes asked for, then the rest
    abbrev onward : ℕ → Taking → CameRead
    onward n u = reads_of n (box_of u.answer.controller a b) u.out u.done

    stop : (n : ℕ) → Rest n → (c : Controller) (t : Taken) (out : List ℕ) (answer : Answer) → At c t out
        → answer.controller ≡ c → c.fifo.asks ≡ false → Loop n c t (onward n (taking answer out (length t.got)))
    stop n rest c t out answer x e off =
        rw e (rest c t out x off)

    takes_drq : (tc : Bool) (c : Controller) (f : Fifo) (byte : ℕ)
        → answer_to (takes tc) c ≡ answer_of (Byte byte) (with_fifo f c)
        → ((dma_read tc c).controller ≡ after (takes tc) c) × ((dma_read tc c).drq ≡ drq_of (after (takes tc) c))
        × (value_of (dma_read tc c).reply ≡ byte)
    unfolding answer_to answer_of
    takes_drq tc c f byte e = (
      refl,
      ap (λ (x : Answer). x.drq) e ∙ sym (ap (λ (x : Answer). drq_of x.controller) e),
      ap (λ (x : Answer). value_of x.reply) e,
    )

    grow : (c : Controller) (t : Taken) (n : ℕ) (tc : Bool) → Lit drive c → at_work c.phase ≡ true
        → TellsAt L (taken_by (takes tc) c t) → (r : CameRead)
        → Loop n (after (takes tc) c) (taken_by (takes tc) c t) r → Loop n c t r
    unfolding AsTaken taken_over
    grow c t n tc l w told r k = record {
      calls = takes tc ∷ k.calls;
      course = course_take drive (box_of c a b) l w n tc r.came r.box k.calls k.course;
      tells = λ _. (told, k.tells);
      out = k.out;
      most = k.most;
      first = k.first;
      second = k.second;
    }

    -- a byte is taken
    one : (n m : ℕ) → ((c : Controller) (t : Taken) (out : List ℕ) (answer : Answer) → At c t out
        → answer.controller ≡ c → answer.drq ≡ drq_of c → m + length t.got ≡ L
        → Loop n c t (onward n (takes_of m (taking answer out (length t.got)))))
        → (c : Controller) (t : Taken) (out : List ℕ) (answer : Answer) → At c t out
        → answer.controller ≡ c → suc m + length t.got ≡ L → c.fifo.asks ≡ true
        → Loop n c t (onward n (takes_of m (took_of (eqb m 0) (taking answer out (length t.got)))))
    unfolding took_of
    one n m fewer c t out answer x e sum on =
        let tc : Bool = eqb m 0 in
        let asks = served.asking order transfer id a b g disk job rd low cylinder L c t x.ready x.works on in
        let kept = served.takes_record tc c x.ready.quiet asks.line asks.to in
        let byte = served.takes_byte tc c x.ready.quiet asks.line asks.to t in
        let (ctl, drq, value) =
        takes_drq tc c _ _ (served.takes_answer tc c x.ready.quiet asks.line asks.to) in
        let t₁ = taken_by (takes tc) c t in
        let c₁ = after (takes tc) c in
        let front : ℕ = front_of c.fifo in
        let grown : t₁.got ≡ t.got ++ (front ∷ []) = ap (λ (y : Taken). y.got) byte in
        let long : length t₁.got ≡ length t.got + 1 = ap length grown ∙ length-append t.got (front ∷ []) in
        let out₁ : List ℕ = set out (length t.got) (value_of (dma_read tc c).reply) in
        let holds : out₁ ≡ filled t₁.got out₀ =
        ap (λ (y : ℕ). set out (length t.got) y) value
        ∙ ap (λ (y : List ℕ). set y (length t.got) front) x.holds
        ∙ filled_next t.got out₀ front (omega (arith, size))
        ∙ ap (λ (y : List ℕ). filled y out₀) (sym grown) in
        let told : TellsAt L t₁ =
        subst (TellsAt L) (sym byte)
        (subst (λ (y : Bool). TellsAt L (took_one front y t)) (sym (same_tc m (length t.got) L sum))
        (served.told_next order transfer id a b g disk job rd low cylinder L front t asks.untold
        x.ready.told)) in
        let leaves : Leaves c c₁ = rw kept (took_leaves (taken_of tc c.fifo) c) in
        let quiet = quiet_after (takes tc) c x.ready.quiet x.works in
        let lit : Lit drive c₁ = lit_left drive c c₁ x.lit quiet leaves in
        let next : Loop n c₁ t₁ (onward n (takes_of m (taking (dma_read tc c) out₁ (length t₁.got)))) =
        fewer c₁ t₁ out₁ (dma_read tc c)
        (record {
          ready = record {
            quiet = quiet;
            lines = record { motor = lit.motor; gate = lit.gate; dma = lit.dma };
            run = (served.goes_on_lem order transfer id a b g disk job rd low cylinder L (takes tc) c t x.ready
                x.works tt).1;
            told = told;
          };
          lit = lit;
          works = rw kept (took_phase (taken_of tc c.fifo) c x.works);
          holds = holds;
          most = omega (arith, long);
        }) ctl drq (omega (arith, long)) in
        rw (e, ← long) (grow c t n tc x.lit x.works told _ next)

    -- all that is asked for, as long as bytes are left
    bytes : (n : ℕ) → Rest n → (m : ℕ) (c : Controller) (t : Taken) (out : List ℕ) (answer : Answer) → At c t out
        → answer.controller ≡ c → answer.drq ≡ drq_of c → m + length t.got ≡ L
        → Loop n c t (onward n (takes_of m (taking answer out (length t.got))))
    unfolding takes_of took_of
    bytes n rest zero c t out answer x e d sum =
        stop n rest c t out answer x e
        (read_off g cylinder order transfer id _ disk job rd low c t x.ready.run x.works
        (x.ready.told.1 (omega arith)))
    bytes n rest (suc m) c t out answer x e d sum =
        go (λ c t out answer x e d sum. bytes n rest m c t out answer x e d sum) c.fifo.asks refl
      where
        line : c.fifo.asks ≡ true → drq_of c ≡ true
        line on = (served.asking order transfer id a b g disk job rd low cylinder L c t x.ready x.works on).line

        go : ((c : Controller) (t : Taken) (out : List ℕ) (answer : Answer) → At c t out
            → answer.controller ≡ c → answer.drq ≡ drq_of c → m + length t.got ≡ L
            → Loop n c t (onward n (takes_of m (taking answer out (length t.got)))))
            → (asks : Bool) → c.fifo.asks ≡ asks
            → Loop n c t (onward n (takes_of (suc m) (taking answer out (length t.got))))
        go fewer true on = rw (d ∙ line on) (one n m fewer c t out answer x e sum on)
        go fewer false off = rw (d ∙ drq_off c off) (stop n rest c t out answer x e off)

    tick_drq : (c : Controller) → ((tick_answer (box_of c a b)).controller ≡ after (ticks a b) c)
        × ((tick_answer (box_of c a b)).drq ≡ drq_of (after (ticks a b) c))
    unfolding tick_of answer_of answer_to
    tick_drq c = (refl, refl)

    ticked_box : (c : Controller) (t : Taken) → served.Ready order transfer id a b g disk job rd low cylinder L c t
        → at_work c.phase ≡ true → ticked (box_of c a b) ≡ box_of (after (ticks a b) c) a b
    unfolding ticked answer_to
    ticked_box c t r w =
        let (first, second) = keeps c t r w in
        λ i. box_of (after (ticks a b) c) (first i) (second i)

    tick_ready : (c : Controller) (t : Taken) (out : List ℕ) → At c t out → at_work (after (ticks a b) c).phase ≡ true
        → At (after (ticks a b) c) t out
    unfolding taken_by
    tick_ready c t out x w =
        let lit = lit_tick drive a b c x.lit x.works in
        record {
          ready = record {
            quiet = lit.quiet;
            lines = record { motor = lit.motor; gate = lit.gate; dma = lit.dma };
            run = (served.goes_on_lem order transfer id a b g disk job rd low cylinder L (ticks a b) c t x.ready
                x.works refl).1;
            told = x.ready.told;
          };
          lit = lit;
          works = w;
          holds = x.holds;
          most = x.most;
        }

    -- what the definition does after a tick, by INT
    reads_said : (n : ℕ) (s : Box) (out : List ℕ) (done : ℕ) → (tick_answer s).int ≡ true
        → reads_of (suc n) s out done ≡ came_read true (ticked s) out
    unfolding reads_of
    reads_said n s out done e =
        ap (λ (on : Bool). cond on (came_read true (ticked s) out)
        (reads_of n (with_record (taken_after s out done).answer.controller (ticked s)) (taken_after s out done).out
        (taken_after s out done).done)) e

    reads_on : (n : ℕ) (s u : Box) (out : List ℕ) (done : ℕ) → (tick_answer s).int ≡ false → ticked s ≡ u
        → reads_of (suc n) s out done
        ≡ reads_of n (with_record (taken_after s out done).answer.controller u) (taken_after s out done).out
        (taken_after s out done).done
    unfolding reads_of
    reads_on n s u out done e f =
        ap (λ (on : Bool). cond on (came_read true (ticked s) out)
        (reads_of n (with_record (taken_after s out done).answer.controller (ticked s)) (taken_after s out done).out
        (taken_after s out done).done)) e
        ∙ ap (λ (x : Box). reads_of n (with_record (taken_after s out done).answer.controller x)
        (taken_after s out done).out (taken_after s out done).done) f

    -- one tick more, and the rest
    tick_grow : (c : Controller) (t : Taken) (out : List ℕ) → At c t out → c.fifo.asks ≡ false → (n : ℕ)
        (r : CameRead) → Loop n (after (ticks a b) c) t r → Loop (suc n) c t r
    unfolding AsTaken taken_over taken_by
    tick_grow c t out x off n r k = record {
      calls = ticks a b ∷ k.calls;
      course = course_tick drive (box_of c a b) x.lit x.works off n r.came r.box k.calls
          (rw (ticked_box c t x.ready x.works) k.course);
      tells = λ _. (x.ready.told, k.tells);
      out = k.out;
      most = k.most;
      first = k.first;
      second = k.second;
    }

    tick_last : (c : Controller) (t : Taken) (out : List ℕ) → At c t out → c.fifo.asks ≡ false → (n : ℕ)
        → (after (ticks a b) c).phase ≡ Answering true → Loop (suc n) c t (came_read true (ticked (box_of c a b)) out)
    unfolding AsTaken taken_over taken_by
    tick_last c t out x off n e = record {
      calls = ticks a b ∷ [];
      course = course_end drive (box_of c a b) x.lit x.works off n e;
      tells = λ _. (x.ready.told, tt);
      out = x.holds;
      most = x.most;
      first = ap (λ (y : Box). y.first) (ticked_box c t x.ready x.works);
      second = ap (λ (y : Box). y.second) (ticked_box c t x.ready x.works);
    }

    pub loop : (n : ℕ) → Rest n
    unfolding reads_of AsTaken taken_over
    loop zero c t out x off = record {
      calls = [];
      course = course_none drive (box_of c a b) x.lit x.works;
      tells = tt;
      out = x.holds;
      most = x.most;
      first = refl;
      second = refl;
    }
    loop (suc n) c t out x off = go (loop n) (tick_says drive a b c x.lit x.works)
      where
        lit : Lit drive (after (ticks a b) c)
        lit = lit_tick drive a b c x.lit x.works

        go : Rest n → OnOrSaid (after (ticks a b) c)
            → Loop (suc n) c t (reads_of (suc n) (box_of c a b) out (length t.got))
        go rest (inr e) =
            subst (Loop (suc n) c t)
            (sym (reads_said n (box_of c a b) out (length t.got)
            (tick_int (box_of c a b) ∙ int_said drive (after (ticks a b) c) lit e)))
            (tick_last c t out x off n e)
        go rest (inl w) =
            let long : length out ≡ L =
            ap length x.holds ∙ filled_length t.got out₀ (omega (arith, size, x.most)) ∙ size in
            subst (Loop (suc n) c t)
            (sym (reads_on n (box_of c a b) (box_of (after (ticks a b) c) a b) out (length t.got)
            (tick_int (box_of c a b) ∙ int_works drive (after (ticks a b) c) lit w)
            (ticked_box c t x.ready x.works)))
            (tick_grow c t out x off n _
            (bytes n rest (length out - length t.got) (after (ticks a b) c) t out (tick_answer (box_of c a b))
            (tick_ready c t out x w) (tick_drq c).0 (tick_drq c).1 (omega (arith, long, x.most))))
