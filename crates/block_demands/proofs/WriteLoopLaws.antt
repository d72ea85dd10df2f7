-- The loop that serves a write (block/specs/Serve: writes_of), as calls of the command (02 2026-01).
-- Assumes nothing.
use Rattle.std.specs.Prelude.{Some}
use Prim.Native.Nat.{ℕ, zero, suc, ◌+◌, ◌-◌, ◌≤◌, ◌<◌}
use native.Mathlib.Omega.{arith}
use mathlib.Core.Bool.{Bool, true, false, ◌||◌, cond, true≢false, false≢true, and-true}
use mathlib.Core.List.{List, [], ◌∷◌, ◌++◌}
use mathlib.Core.Logic.{◌⊎◌, inl, inr}
use mathlib.Core.Path.{◌≡◌, refl, sym, ap, ◌∙◌, subst}
use lib.Dec.{eqb}
use lib.ListN.{length, get_or, take, length-append}
use borrow.Author.Tests.{eqb-true, eq-eqb}
use Rattle.image.specs.declared.layout.Geometry.{Geometry}
use Rattle.image.specs.declared.slot.Id.{Id}
use Rattle.image.specs.Disk.{disk_in}
use Rattle.image.specs.Lent.{pick_of}
use Rattle.image.proofs.TestLaws.{le_or_lt}
use Rattle.chip.specs.declared.fifo.Fifo.{Fifo}
use Rattle.chip.specs.Fifo.{emptied, given_of}
use Rattle.sectors.specs.declared.order.Job.TheVariants.{Move}
use Rattle.sectors.specs.declared.order.Order.{Order}
use Rattle.sectors.specs.declared.order.Pass.TheVariants.{Write}
use Rattle.sectors.specs.declared.order.Transfer.{Transfer}
use Rattle.fdc.specs.declared.answer.Answer.{Answer}
use Rattle.fdc.specs.declared.answer.Reply.TheVariants.{Done}
use Rattle.fdc.specs.declared.record.Controller.{Controller}
use Rattle.fdc.specs.declared.record.Phase.{Phase}
use Rattle.fdc.specs.declared.record.Phase.TheVariants.{Starting, Answering}
use Rattle.fdc.specs.Answer.{answer_of}
use Rattle.fdc.specs.Calls.{dma_write}
use Rattle.fdc.specs.Data.{phase_from_host, phase_hears}
use Rattle.fdc.specs.Record.{with_fifo}
use Rattle.fdc.specs.Registers.{drq_of}
use Rattle.fdc.specs.Ticks.{tick_of, ruled_of, image_after}
use Rattle.fdc.proofs.DmaLaws.{dma_write_is}
use Rattle.reached.specs.Good.{Suits}
use Rattle.reached.specs.Runs.{Call, gives, ticks, answer_to, after}
use Rattle.reached.proofs.GoodLaws.{good_valid}
use Rattle.demands.specs.History.{History, handed, taken, history_by, history_of}
use Rattle.demands.specs.Quiet.{Quiet}
use Rattle.demands.specs.Succeeds.{Noting, Tells, WriteTells}
use Rattle.demands.specs.Work.{at_work}
use Rattle.demands.proofs.AcknowledgedLaws.{OnOrSaid}
use Rattle.demands.proofs.AfterTcLaws.{write_off}
use Rattle.demands.proofs.LeftLaws.{noted_host, noted_told}
use Rattle.demands.proofs.PowerCutLaws as cutting
use Rattle.demands.proofs.QuietLaws.{quiet_after}
use Rattle.block.specs.declared.serve.Passed.{Passed}
use Rattle.block.specs.Box.{Box, with_record, tick_answer, ticked, Came, came_with}
use Rattle.block.specs.Serve.{giving, gave_of, gives_of, given_after, writes_of}
use Rattle.block_demands.specs.Made.{box_by}
use Rattle.block_demands.proofs.CourseLaws.{
  Lit,
  Leaves,
  lit_left,
  lit_tick,
  tick_says,
  int_works,
  int_said,
  tick_int,
  ticked_by,
}
use Rattle.block_demands.proofs.CourseLaws.{Course, course_none, course_end, course_tick, course_give, of_two}
use Rattle.block_demands.proofs.ReadLoopLaws.{drq_off, took_leaves, took_phase, same_tc}

-- the bytes handed over are the caller's first ones
abbrev pub Starts : List ℕ → List ℕ → Type 0
Starts host bytes = host ≡ take (length host) bytes

take_next : (n : ℕ) (l : List ℕ) → n < length l → take n l ++ (get_or l n 0 ∷ []) ≡ take (suc n) l
take_next n [] h = absurd (omega arith)
take_next zero (x ∷ l) h = refl
take_next (suc n) (x ∷ l) h = ap (λ (y : List ℕ). x ∷ y) (take_next n l (omega arith))

starts_next : (host bytes : List ℕ) → length host < length bytes → Starts host bytes
    → Starts (host ++ (get_or bytes (length host) 0 ∷ [])) bytes
starts_next host bytes h e =
    let long : suc (length host) ≡ length (host ++ (get_or bytes (length host) 0 ∷ [])) =
    sym (length-append host (get_or bytes (length host) 0 ∷ []) ∙ omega arith) in
    ap (λ (x : List ℕ). x ++ (get_or bytes (length host) 0 ∷ [])) e ∙ take_next (length host) bytes h
    ∙ ap (λ (n : ℕ). take n bytes) long

-- 01 Refusals 3: a cycle with the line on, from the host, takes a byte
module _ (byte : ℕ) (tc : Bool) (c : Controller) (q : Quiet c) (line : drq_of c ≡ true)
    (from : phase_from_host c.phase ≡ true) (hears : phase_hears c.phase ≡ true) where
  gives_answer : answer_to (gives byte tc) c
      ≡ answer_of Done (with_fifo (given_of c.registers.efifo tc byte c.fifo) c)
  unfolding answer_to dma_write
  gives_answer = rw (good_valid c q.good, dma_write_is byte tc c, line, from, hears, and-true tc)

  gives_record : after (gives byte tc) c ≡ with_fifo (given_of c.registers.efifo tc byte c.fifo) c
  unfolding answer_of
  gives_record = ap (λ (x : Answer). x.controller) gives_answer

  gives_history : (h : History) → history_by (gives byte tc) c h ≡ handed byte tc h
  unfolding history_by answer_of
  gives_history h = rw (ap (λ (x : Answer). taken x.reply) gives_answer)

  gives_lines : ((dma_write byte tc c).controller ≡ after (gives byte tc) c)
      × ((dma_write byte tc c).drq ≡ drq_of (after (gives byte tc) c))
  unfolding answer_to answer_of
  gives_lines = (
    refl,
    ap (λ (x : Answer). x.drq) gives_answer ∙ sym (ap (λ (x : Answer). drq_of x.controller) gives_answer),
  )

module _ (order : Order) (transfer : Transfer) (id : Id) (old : List ℕ) (g : Geometry) (disk : disk_in old ≡ Some g)
    (job : order.job ≡ Move transfer id) (wr : transfer.pass ≡ Write) (hr : id.r < 256) (he : transfer.eot < 256)
    (low : order.drive < 2) (cylinder : ℕ) (bytes : List ℕ) where
  abbrev drive : ℕ
  drive = order.drive

  abbrev L : ℕ
  L = length bytes

  pub four : order.drive < 4
  four = omega arith

  abbrev Running : Controller → List ℕ → History → Type 0
  Running c img h = cutting.Run g cylinder order transfer id old disk job wr hr he four c img h

  abbrev image_of : Box → List ℕ
  image_of s = pick_of drive s.first s.second

  -- the host has handed over so many bytes
  pub record At (s : Box) (h : History) : Type 0 where
    pub lit : Lit drive s.controller
    pub works : at_work s.controller.phase ≡ true
    pub run : Running s.controller (image_of s) h
    pub told : Tells L h
    pub host : Starts h.host bytes
    pub most : length h.host ≤ L

  pub record Loop (n : ℕ) (s : Box) (h : History) (r : Came) : Type 0 where
    pub calls : List Call
    pub course : Course drive n s r.came r.box calls
    pub tells : WriteTells L calls s.controller h
    pub host : Starts (history_of calls s.controller h).host bytes

  abbrev Rest : ℕ → Type 0
  Rest n =
      (s : Box) (h : History) → At s h → s.controller.fifo.asks ≡ false
      → Loop n s h (writes_of n s bytes (length h.host))

  -- a request is one of a write that TC has not stopped
  record Asks (c : Controller) (h : History) : Type 0 where
    from : phase_from_host c.phase ≡ true
    hears : phase_hears c.phase ≡ true
    line : drq_of c ≡ true
    untold : h.told ≡ false

  empty_start : (p : Phase) (n : ℕ) (f : Fifo) → p ≡ Starting order → Suits p n f → f ≡ emptied
  empty_start p n f e s = (rw e at s).1

  not_told : (b : Bool) → (b ≡ true → ⊥) → b ≡ false
  not_told true n = absurd (n refl)
  not_told false n = refl

  asking : (s : Box) (h : History) → At s h → s.controller.fifo.asks ≡ true → Asks s.controller h
  unfolding drq_of
  asking s h x on = go x.run
    where
      go : Running s.controller (image_of s) h → Asks s.controller h
      go (cutting.is_over n k t) = absurd (false≢true (sym n ∙ x.works))
      go (cutting.to_start p u i z) =
          let e = empty_start s.controller.phase _ s.controller.fifo p x.lit.quiet.good.phase in
          absurd (false≢true (ap (λ (f : Fifo). f.asks) (sym e) ∙ on))
      go (cutting.at_it site task stage p u b) =
          let pass : task.transfer.pass ≡ Write = ap (λ (y : Transfer). y.pass) b.told_to ∙ wr in
          record {
            from = rw (p, pass) refl;
            hears = rw p refl;
            line = simp (x.lit.gate, x.lit.dma, p, pass, on);
            untold = not_told h.told
                (λ t. true≢false (sym on
                ∙ write_off g cylinder order transfer id old disk job wr hr he four _ _ h x.run x.works t));
          }

  told_next : (byte : ℕ) (h : History) → h.told ≡ false → Tells L h
      → Tells L (handed byte (eqb (length h.host + 1) L) h)
  told_next byte h u x = (
    λ e. omega (arith, size, eqb-true (length h.host + 1) L (sym only ∙ e)),
    λ l. only ∙ eq-eqb (length h.host + 1) L (omega (arith, size, fewer (le_or_lt L (length h.host)))),
  )
    where
      size : length (h.host ++ (byte ∷ [])) ≡ length h.host + 1
      size = length-append h.host (byte ∷ [])

      only : (h.told || eqb (length h.host + 1) L) ≡ eqb (length h.host + 1) L
      only = rw u

      fewer : (L ≤ length h.host) ⊎ (length h.host < L) → length h.host < L
      fewer (inl m) = absurd (false≢true (sym u ∙ x.1 m))
      fewer (inr m) = m

  -- the bytes asked for, then the rest
  abbrev onward : ℕ → Box → Passed → Came
  onward n s p = writes_of n (with_record p.answer.controller s) bytes p.done

  stop : (n : ℕ) → Rest n → (s : Box) (h : History) (answer : Answer) → At s h → answer.controller ≡ s.controller
      → s.controller.fifo.asks ≡ false → Loop n s h (onward n s (giving answer (length h.host)))
  stop n rest s h answer x e off = rw e (rest s h x off)

  grow : (s : Box) (h : History) (n byte : ℕ) (tc : Bool) → Lit drive s.controller
      → at_work s.controller.phase ≡ true → Tells L (history_by (gives byte tc) s.controller h) → (r : Came)
      → Loop n (box_by (gives byte tc) s) (history_by (gives byte tc) s.controller h) r → Loop n s h r
  unfolding Noting history_of
  grow s h n byte tc l w told r k = record {
    calls = gives byte tc ∷ k.calls;
    course = course_give drive s l w n byte tc r.came r.box k.calls k.course;
    tells = λ _. (told, k.tells);
    host = k.host;
  }

  -- a byte is given
  one : (n m : ℕ) → ((s : Box) (h : History) (answer : Answer) → At s h
      → answer.controller ≡ s.controller → answer.drq ≡ drq_of s.controller → m + length h.host ≡ L
      → Loop n s h (onward n s (gives_of m bytes (giving answer (length h.host)))))
      → (s : Box) (h : History) (answer : Answer) → At s h
      → answer.controller ≡ s.controller → suc m + length h.host ≡ L → s.controller.fifo.asks ≡ true
      → Loop n s h (onward n s (gives_of m bytes (gave_of (eqb m 0) bytes (giving answer (length h.host)))))
  unfolding gave_of
  one n m fewer s h answer x e sum on =
      let tc : Bool = eqb m 0 in
      let c = s.controller in
      let byte : ℕ = get_or bytes (length h.host) 0 in
      let asks = asking s h x on in
      let q = x.lit.quiet in
      let kept = gives_record byte tc c q asks.line asks.from asks.hears in
      let gain = gives_history byte tc c q asks.line asks.from asks.hears h in
      let (ctl, drq) = gives_lines byte tc c q asks.line asks.from asks.hears in
      let h₁ = history_by (gives byte tc) c h in
      let s₁ = box_by (gives byte tc) s in
      let grown : h₁.host ≡ h.host ++ (byte ∷ []) = ap (λ (y : History). y.host) gain in
      let long : length h₁.host ≡ length h.host + 1 = ap length grown ∙ length-append h.host (byte ∷ []) in
      let told : Tells L h₁ =
      subst (Tells L) (sym gain)
      (subst (λ (y : Bool). Tells L (handed byte y h)) (sym (same_tc m (length h.host) L sum))
      (told_next byte h asks.untold x.told)) in
      let f = given_of c.registers.efifo tc byte c.fifo in
      let leaves : Leaves c (after (gives byte tc) c) = rw kept (took_leaves f c) in
      let quiet = quiet_after (gives byte tc) c q x.works in
      let next : Loop n s₁ h₁ (onward n s₁ (gives_of m bytes (giving (dma_write byte tc c) (length h₁.host)))) =
      fewer s₁ h₁ (dma_write byte tc c)
      (record {
        lit = lit_left drive c (after (gives byte tc) c) x.lit quiet leaves;
        works = rw kept (took_phase f c x.works);
        run = cutting.run_after g cylinder order transfer id old disk job wr hr he four (gives byte tc) c (image_of s) h
            q x.works tt x.run;
        told = told;
        host = subst (λ (y : List ℕ). Starts y bytes) (sym grown) (starts_next h.host bytes (omega arith) x.host);
        most = omega (arith, long);
      }) ctl drq (omega (arith, long)) in
      rw (e, ← long) (grow s h n byte tc x.lit x.works told _ next)

  -- all that is asked for, as long as bytes are left
  all : (n : ℕ) → Rest n → (m : ℕ) (s : Box) (h : History) (answer : Answer) → At s h
      → answer.controller ≡ s.controller → answer.drq ≡ drq_of s.controller → m + length h.host ≡ L
      → Loop n s h (onward n s (gives_of m bytes (giving answer (length h.host))))
  unfolding gives_of gave_of
  all n rest zero s h answer x e d sum =
      stop n rest s h answer x e
      (write_off g cylinder order transfer id old disk job wr hr he four _ _ h x.run x.works
      (x.told.1 (omega arith)))
  all n rest (suc m) s h answer x e d sum =
      go (λ s h answer x e d sum. all n rest m s h answer x e d sum) s.controller.fifo.asks refl
    where
      go : ((s : Box) (h : History) (answer : Answer) → At s h
          → answer.controller ≡ s.controller → answer.drq ≡ drq_of s.controller → m + length h.host ≡ L
          → Loop n s h (onward n s (gives_of m bytes (giving answer (length h.host)))))
          → (asks : Bool) → s.controller.fifo.asks ≡ asks
          → Loop n s h (onward n s (gives_of (suc m) bytes (giving answer (length h.host))))
      go fewer true on = rw (d ∙ (asking s h x on).line) (one n m fewer s h answer x e sum on)
      go fewer false off = rw (d ∙ drq_off s.controller off) (stop n rest s h answer x e off)

  tick_lines : (s : Box) → ((tick_answer s).controller ≡ (ticked s).controller)
      × ((tick_answer s).drq ≡ drq_of (ticked s).controller)
  unfolding tick_of answer_of ticked
  tick_lines s = (refl, refl)

  tick_image : (s : Box) → image_of (ticked s) ≡ image_after drive s.first s.second s.controller (image_of s)
  unfolding ticked
  tick_image s =
      of_two (λ k. pick_of k (ticked s).first (ticked s).second
      ≡ image_after k s.first s.second s.controller (pick_of k s.first s.second)) drive low refl refl

  abbrev tick_of' : Box → Call
  tick_of' s = ticks s.first s.second

  tick_host : (s : Box) (h : History) → (history_by (tick_of' s) s.controller h).host ≡ h.host
  unfolding history_by
  tick_host s h = noted_host (ruled_of s.first s.second s.controller).effect h

  tick_told : (s : Box) (h : History) → (history_by (tick_of' s) s.controller h).told ≡ h.told
  unfolding history_by
  tick_told s h = noted_told (ruled_of s.first s.second s.controller).effect h

  tells_same : (h k : History) → k.host ≡ h.host → k.told ≡ h.told → Tells L h → Tells L k
  tells_same h k e f x = rw (e, f) x

  tick_at : (s : Box) (h : History) → At s h → at_work (after (tick_of' s) s.controller).phase ≡ true
      → At (ticked s) (history_by (tick_of' s) s.controller h)
  tick_at s h x w =
      let lit = lit_tick drive s.first s.second s.controller x.lit x.works in
      let run =
      cutting.run_after g cylinder order transfer id old disk job wr hr he four (tick_of' s) s.controller
      (image_of s) h x.lit.quiet x.works refl x.run in
      record {
        lit = rw (ticked_by s) lit;
        works = rw (ticked_by s) w;
        run = rw (tick_image s, ticked_by s) run;
        told = tells_same h (history_by (tick_of' s) s.controller h) (tick_host s h) (tick_told s h) x.told;
        host = rw (tick_host s h) x.host;
        most = rw (tick_host s h) x.most;
      }

  -- what the definition does after a tick, by INT
  writes_said : (n : ℕ) (s : Box) (done : ℕ) → (tick_answer s).int ≡ true
      → writes_of (suc n) s bytes done ≡ came_with true (ticked s)
  unfolding writes_of
  writes_said n s done e =
      ap (λ (on : Bool). cond on (came_with true (ticked s))
      (writes_of n (with_record (given_after s bytes done).answer.controller (ticked s)) bytes
      (given_after s bytes done).done)) e

  writes_on : (n : ℕ) (s : Box) (done : ℕ) → (tick_answer s).int ≡ false
      → writes_of (suc n) s bytes done
      ≡ writes_of n (with_record (given_after s bytes done).answer.controller (ticked s)) bytes
      (given_after s bytes done).done
  unfolding writes_of
  writes_on n s done e =
      ap (λ (on : Bool). cond on (came_with true (ticked s))
      (writes_of n (with_record (given_after s bytes done).answer.controller (ticked s)) bytes
      (given_after s bytes done).done)) e

  tick_grow : (s : Box) (h : History) → At s h → s.controller.fifo.asks ≡ false → (n : ℕ) (r : Came)
      → Loop n (ticked s) (history_by (tick_of' s) s.controller h) r → Loop (suc n) s h r
  unfolding Noting history_of
  tick_grow s h x off n r k' =
      let k = rw (ticked_by s) at k' in
      record {
        calls = tick_of' s ∷ k.calls;
        course = course_tick drive s x.lit x.works off n r.came r.box k.calls
            (rw (ticked_by s) k.course);
        tells = λ _. (
          tells_same h (history_by (tick_of' s) s.controller h) (tick_host s h) (tick_told s h) x.told,
          k.tells,
        );
        host = k.host;
      }

  tick_last : (s : Box) (h : History) → At s h → s.controller.fifo.asks ≡ false → (n : ℕ)
      → (after (tick_of' s) s.controller).phase ≡ Answering true → Loop (suc n) s h (came_with true (ticked s))
  unfolding Noting history_of
  tick_last s h x off n e = record {
    calls = tick_of' s ∷ [];
    course = course_end drive s x.lit x.works off n e;
    tells = λ _. (tells_same h (history_by (tick_of' s) s.controller h) (tick_host s h) (tick_told s h) x.told, tt);
    host = rw (tick_host s h) x.host;
  }

  pub loop : (n : ℕ) → Rest n
  unfolding writes_of Noting history_of
  loop zero s h x off = record {
    calls = [];
    course = course_none drive s x.lit x.works;
    tells = tt;
    host = x.host;
  }
  loop (suc n) s h x off = go (loop n) (tick_says drive s.first s.second s.controller x.lit x.works)
    where
      lit : Lit drive (after (tick_of' s) s.controller)
      lit = lit_tick drive s.first s.second s.controller x.lit x.works

      go : Rest n → OnOrSaid (after (tick_of' s) s.controller)
          → Loop (suc n) s h (writes_of (suc n) s bytes (length h.host))
      go rest (inr e) =
          subst (Loop (suc n) s h)
          (sym (writes_said n s (length h.host)
          (tick_int s ∙ int_said drive (after (tick_of' s) s.controller) lit e)))
          (tick_last s h x off n e)
      go rest (inl w) =
          let h₁ = history_by (tick_of' s) s.controller h in
          let same : length h₁.host ≡ length h.host = ap length (tick_host s h) in
          subst (Loop (suc n) s h)
          (sym (writes_on n s (length h.host)
          (tick_int s ∙ int_works drive (after (tick_of' s) s.controller) lit w)))
          (tick_grow s h x off n _
          (subst
          (λ (d : ℕ). Loop n (ticked s) h₁ (onward n (ticked s) (gives_of (L - d) bytes (giving (tick_answer s) d))))
          same
          (all n rest (L - length h₁.host) (ticked s) h₁ (tick_answer s)
          (tick_at s h x w) (tick_lines s).0 (tick_lines s).1 (omega (arith, same, x.most)))))
