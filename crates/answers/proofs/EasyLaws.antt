-- What document 01 says is easy to get wrong, at the record (01 Easy to get wrong).
-- Assumes nothing.
use Prim.Native.Nat.{ℕ, ◌+◌, ◌%◌, ◌<◌, ◌≤◌}
use native.Mathlib.Omega.{arith}
use mathlib.Core.Bool.{Bool, true, false, false≢true, ◌&&◌}
use mathlib.Core.List.{List}
use mathlib.Core.Logic.{◌⊎◌, inl, inr}
use mathlib.Core.Path.{◌≡◌, refl, ◌∙◌, ap}
use lib.Dec.{eqb}
use lib.ListN.{get_or}
use lib.Seq.{get_or-set_other}
use borrow.Author.Tests.{eq-eqb, ne_eqb, lt-leb}
use Rattle.image.proofs.TestLaws.{by_test, le_or_lt}
use Rattle.chip.specs.declared.fifo.Fifo.{Fifo}
use Rattle.chip.specs.Next.{next_of, advanced_of}
use Rattle.chip.proofs.NextLaws.{advanced_below, advanced_r_at_eot}
use Rattle.sectors.specs.declared.work.Site.{Site}
use Rattle.sectors.specs.declared.work.Stage.{Stage}
use Rattle.sectors.specs.declared.work.Stage.TheVariants.{Searching, Turning, Storing}
use Rattle.sectors.specs.declared.work.Step.{Step}
use Rattle.sectors.specs.declared.work.Task.{Task}
use Rattle.sectors.specs.declared.work.Then.{Then}
use Rattle.sectors.specs.declared.work.Then.TheVariants.{Ends, Works}
use Rattle.sectors.specs.declared.work.Verdict.{Verdict}
use Rattle.sectors.specs.declared.work.Work.{Work}
use Rattle.sectors.specs.declared.work.Work.TheVariants.{Moving}
use Rattle.sectors.specs.Follow.{fresh_at, with_id, on_side, followed_of, follow_of}
use Rattle.sectors.specs.Result.{end_of, move_end, moves_of}
use Rattle.engine.specs.Step.{stage_of, work_step}
use Rattle.sectors.specs.Track.{mark_place, data_place, next_slot}
use Rattle.sectors.specs.Write.{underrun, put_of, dry_of, store_of}
use Rattle.engine.proofs.EasyLaws.{follow_normal_had_tc}
use Rattle.image.specs.Lent.{Effect}
use Rattle.image.specs.declared.slot.Id.{Id}
use Rattle.image.specs.Layout.{size_of, offset_of}
use Rattle.image.specs.Lent.{stored_as}
use Rattle.fdc.specs.declared.record.Controller.{Controller}
use Rattle.fdc.specs.declared.record.Phase.TheVariants.{Working, Answering}
use Rattle.fdc.specs.declared.ticks.Decision.{Decision}
use Rattle.fdc.specs.Commands.{answered_of}
use Rattle.fdc.specs.Record.{with_fifo, with_phase}
use Rattle.reached.specs.Runs.{ticks, after}
use Rattle.fdc.specs.Ticks.{settled_of, decided_of, image_after}
use Rattle.demands.specs.Acknowledged.{result_byte}
use Rattle.answers.specs.EasyToGetWrong.{Seeks, seeks, EasyNext, EasyToGetWrong}
use Rattle.answers.specs.Results.{During, AtNext, head_at, next_id}
use Rattle.demands.proofs.CallLaws.{after_tick}
use Rattle.answers.proofs.ResetTableLaws.{reset_table}
use Rattle.answers.proofs.ResultLaws.{later_is, staged, Follows, follows, at_next, result_bytes_lem}

module _ (c : Controller) (site : Site) (task : Task) (a b : List ℕ) (stage : Stage) (other : Bool) where
  -- the record after a tick that follows on
  followed : (tc : Bool) → During c (Moving site task stage) a b → (slot : ℕ) (effect : Effect) (work : Task)
      → staged c site task a b stage ≡ follow_of slot tc site work c.fifo effect
      → after (ticks a b) c
      ≡ settled_of (follow_of slot tc site work c.fifo effect).then
      (follow_of slot tc site work c.fifo effect).fifo c
  unfolding work_step decided_of
  followed tc d slot effect work e =
      after_tick a b c ∙ ap (λ (x : Decision). x.controller) (later_is c a b (Moving site task stage) _ d e)

  r_byte : During c (Moving site task stage) a b → AtNext c site task a b stage true other
      → result_byte 5 (after (ticks a b) c) ≡ (next_id site task).r
  r_byte d n = ap (λ (l : List ℕ). get_or l 5 0) ((result_bytes_lem.next c site task a b).by_tc stage other d n).bytes

  goes_on_lem : (slot : ℕ) (effect : Effect) (work : Task) → (work.id.r ≡ work.transfer.eot → ⊥)
      → follow_of slot false site work c.fifo effect
      ≡ moves_of (Searching (fresh_at (next_slot slot site.disk.slots))) site
      (with_id (advanced_of work.id work.transfer.eot work.transfer.mt site.side 1) work) c.fifo effect
  unfolding follow_of next_of followed_of
  goes_on_lem slot effect work n = rw (ne_eqb work.id.r work.transfer.eot n)

  turns_over : (slot : ℕ) (effect : Effect) (work : Task) → work.id.r ≡ work.transfer.eot
      → (work.transfer.mt && eqb site.side 0) ≡ true
      → follow_of slot false site work c.fifo effect
      ≡ moves_of (Turning (next_slot slot site.disk.slots)) (on_side 1 site)
      (with_id (advanced_of work.id work.transfer.eot work.transfer.mt site.side 1) work) c.fifo effect
  unfolding follow_of next_of followed_of
  turns_over slot effect work e m = rw (eq-eqb work.id.r work.transfer.eot e, m)

  settled_works : (work : Work) (fifo : Fifo) → (settled_of (Works work) fifo c).phase ≡ Working work
  unfolding settled_of with_fifo with_phase
  settled_works work fifo = refl

  seeks_on : During c (Moving site task stage) a b → (task.id.r ≡ task.transfer.eot → ⊥)
      → Follows c site task a b stage false other → Seeks (after (ticks a b) c) ((task.id.r + 1) % 256)
  seeks_on d n (follows slot effect work i t o y e) =
      let below : (work.id.r ≡ work.transfer.eot) → ⊥ = λ q. n (rw (i, t) at q) in
      seeks site _ _
      (ap (λ (x : Controller). x.phase) (followed false d slot effect work e)
      ∙ ap (λ (s : Step). (settled_of s.then s.fifo c).phase) (goes_on_lem slot effect work below)
      ∙ settled_works _ _)
      (ap (λ (x : Id). x.r) (advanced_below work.id work.transfer.eot work.transfer.mt site.side 1 below)
      ∙ rw i)

  seeks_turned : During c (Moving site task stage) a b → task.id.r ≡ task.transfer.eot
      → task.transfer.mt ≡ true → site.side ≡ 0 → Follows c site task a b stage false other
      → Seeks (after (ticks a b) c) 1
  seeks_turned d r m z (follows slot effect work i t o y e) =
      let at_eot : work.id.r ≡ work.transfer.eot = rw (i, t) r in
      let turns : (work.transfer.mt && eqb site.side 0) ≡ true = rw (t, m, eq-eqb site.side 0 z) in
      seeks (on_side 1 site) _ _
      (ap (λ (x : Controller). x.phase) (followed false d slot effect work e)
      ∙ ap (λ (s : Step). (settled_of s.then s.fifo c).phase) (turns_over slot effect work at_eot turns)
      ∙ settled_works _ _)
      (advanced_r_at_eot work.id work.transfer.eot work.transfer.mt site.side 1 at_eot)

  settled_ends : (v : Verdict) (fifo : Fifo) → result_byte 0 (settled_of (Ends v) fifo c) ≡ v.st0
  unfolding settled_of with_fifo answered_of
  settled_ends v fifo = refl

  -- an end without TC
  no_tc_ends : (then : Then) (fifo : Fifo) → ((v : Verdict) → then ≡ Ends v → v.st0 < 0x40 → ⊥)
      → (settled_of then fifo c).phase ≡ Answering true → 0x40 ≤ result_byte 0 (settled_of then fifo c)
  no_tc_ends (Ends v) fifo f e = go (le_or_lt 0x40 v.st0)
    where
      go : (0x40 ≤ v.st0) ⊎ (v.st0 < 0x40) → 0x40 ≤ result_byte 0 (settled_of (Ends v) fifo c)
      go (inl h) = rw (settled_ends v fifo) h
      go (inr h) = absurd (f v refl h)
  no_tc_ends (Works work) fifo f e =
      let w = settled_works work fifo in
      let z : ◌≡◌ {A = ℕ} 0 1 = cc in
      absurd (omega arith)

  no_tc : During c (Moving site task stage) a b → Follows c site task a b stage false other
      → (after (ticks a b) c).phase ≡ Answering true → 0x40 ≤ result_byte 0 (after (ticks a b) c)
  no_tc d (follows slot effect work i t o y e) p =
      let s = followed false d slot effect work e in
      rw s (no_tc_ends _ _
      (λ v q h. false≢true (follow_normal_had_tc slot site work c.fifo effect false v q h)) (rw s at p))

  easy_next : EasyNext c site task a b stage other
  easy_next = record {
    r_once = λ d n h.
        r_byte d n
        ∙ ap (λ (x : Id). x.r) (advanced_below task.id task.transfer.eot task.transfer.mt site.side 1 h);
    r_at_eot = λ d n h.
        r_byte d n ∙ advanced_r_at_eot task.id task.transfer.eot task.transfer.mt site.side 1 h;
    r_goes_on = λ d n h. seeks_on d h (at_next c site task a b stage false other n);
    r_turns = λ d n h m z. seeks_turned d h m z (at_next c site task a b stage false other n);
    no_tc = λ d n p. no_tc d (at_next c site task a b stage false other n) p;
  }

-- the mark while a byte is left
module _ (site : Site) (task : Task) (head slot done : ℕ) (drive k : ℕ) (img : List ℕ) where
  abbrev Kept : Step → Type 0
  Kept s =
      get_or (stored_as drive k s.effect img) (mark_place site head slot) 0 ≡ get_or img (mark_place site head slot) 0

  kept_put : (byte : ℕ) (work : Task) (fifo : Fifo) → Kept (put_of byte slot done site work head fifo)
  unfolding put_of data_place
  kept_put byte work fifo =
      by_test (eqb drive k)
      (λ (l : List ℕ). get_or l (mark_place site head slot) 0 ≡ get_or img (mark_place site head slot) 0) _ _
      (λ _. get_or-set_other img _ (mark_place site head slot) byte 0 (λ e. omega arith))
      (λ _. refl)

  kept_dry : (fifo : Fifo) → Kept (dry_of slot done site task head fifo)
  unfolding dry_of underrun
  kept_dry fifo = by_test fifo.tc Kept _ _ (λ _. kept_put 0 task fifo) (λ _. kept_put 0 _ _)

  kept_store : (fifo : Fifo) (efifo : Bool) (fifothr : ℕ) → done < size_of site.disk.n
      → Kept (store_of slot done site task head fifo efifo fifothr)
  unfolding store_of
  kept_store fifo efifo fifothr h =
      rw (lt-leb (size_of site.disk.n) done h)
      (by_test (eqb fifo.count 0) Kept _ _ (λ _. kept_dry fifo) (λ _. kept_put _ task _))

mark_waits : (c : Controller) (site : Site) (task : Task) (a b : List ℕ) (slot done : ℕ)
    → During c (Moving site task (Storing slot done)) a b → done < size_of site.disk.n → (k : ℕ) (img : List ℕ)
    → get_or (image_after k a b c img) (offset_of site.disk (head_at site.drive c) site.side slot) 0
    ≡ get_or img (offset_of site.disk (head_at site.drive c) site.side slot) 0
unfolding image_after decided_of work_step stage_of mark_place
mark_waits c site task a b slot done d h k img =
    rw (later_is c a b (Moving site task (Storing slot done)) _ d refl)
    (kept_store site task (head_at site.drive c) slot done site.drive k img c.fifo c.registers.efifo
    c.registers.fifothr h)

pub easy_to_get_wrong : EasyToGetWrong
easy_to_get_wrong = record {
  next = easy_next;
  pcn_dor = λ c byte k u e h.
      (((reset_table c byte).by_dor u e).pcn k h, ((reset_table c byte).by_dor u e).head k h);
  pcn_dsr = λ c byte k u f e h.
      (((reset_table c byte).by_dsr u f e).pcn k h, ((reset_table c byte).by_dsr u f e).head k h);
  mark_waits = mark_waits;
}
