-- Demand 3, the power cut (specs/PowerCut): over every list of a write command's calls, what is left of the image.
-- Assumes nothing.
use Rattle.std.specs.Prelude.{None, Some}
use Prim.Native.Nat.{ℕ, ◌+◌, ◌*◌, ◌%◌, ◌<◌}
use native.Mathlib.Nat.{mod-eq_of_lt}
use native.Mathlib.Omega.{arith}
use mathlib.Core.Bool.{Bool, true, false, not, ◌&&◌, ◌||◌, or-true, false≢true, true≢false}
use mathlib.Core.List.{List, [], ◌∷◌}
use mathlib.Core.Logic.{◌⊎◌, inl, inr}
use mathlib.Core.Path.{◌≡◌, refl, sym, ap, ◌∙◌, subst}
use lib.Dec.{ltb}
use borrow.Author.Tests.{ltb-true, eq-eqb, not-false}
use Rattle.image.proofs.DiskLaws.{present_fits}
use Rattle.image.proofs.TestLaws.{by_test, both}
use Rattle.image.specs.Disk.{Disk}
use Rattle.image.specs.declared.layout.Geometry.{Geometry}
use Rattle.image.specs.declared.slot.Id.{Id}
use Rattle.image.specs.Disk.{Fits, disk_in}
use Rattle.image.specs.Layout.{size_of}
use Rattle.image.specs.Lent.{pick_of, stored_as}
use Rattle.chip.specs.declared.fifo.Fifo.{Fifo}
use Rattle.chip.specs.Fifo.{full_of, emptied, opened_of, given_of}
use Rattle.chip.specs.Fifo.{FitsFifo}
use Rattle.sectors.specs.declared.order.Job.TheVariants.{Move}
use Rattle.sectors.specs.declared.order.Order.{Order}
use Rattle.sectors.specs.declared.order.Pass.{Pass}
use Rattle.sectors.specs.declared.order.Pass.TheVariants.{Write}
use Rattle.sectors.specs.declared.order.Transfer.{Transfer}
use Rattle.sectors.specs.declared.work.Site.{Site}
use Rattle.sectors.specs.declared.work.Stage.{Stage}
use Rattle.sectors.specs.declared.work.Step.{Step}
use Rattle.sectors.specs.declared.work.Task.{Task}
use Rattle.sectors.specs.declared.work.Then.{Then}
use Rattle.sectors.specs.declared.work.Then.TheVariants.{Ends, Works}
use Rattle.sectors.specs.declared.work.Work.TheVariants.{Identifying, Moving, Formatting}
use Rattle.engine.specs.First.{changes, gate_of, given_id, moving_of, start_job, entered_of, begin_of}
use Rattle.sectors.specs.declared.work.Verdict.{Verdict}
use Rattle.sectors.specs.Result.{st0_of, other_bit, late_bit, end_of, move_end, move_fails}
use Rattle.engine.specs.Step.{to_host, lost_of, work_step, go_on_of, pass_flow}
use Rattle.sectors.specs.Track.{has_track, stays_of}
use Rattle.fdc.specs.declared.record.Controller.{Controller}
use Rattle.fdc.specs.declared.record.Phase.{Phase}
use Rattle.fdc.specs.declared.record.Phase.TheVariants.{Idle, Starting, Working, Answering}
use Rattle.fdc.specs.declared.ticks.Decision.{Decision}
use Rattle.reached.specs.Good.{Suits}
use Rattle.fdc.specs.Answer.{answer_of}
use Rattle.fdc.specs.Commands.{answered_of}
use Rattle.fdc.specs.Data.{phase_to_host, phase_hears}
use Rattle.fdc.specs.Record.{drive_at, with_fifo, with_phase}
use Rattle.fdc.specs.Registers.{motor_in}
use Rattle.reached.specs.Runs.{Call, ticks, answer_to, after, run_calls}
use Rattle.fdc.specs.Ticks.{seen_of, settled_of, decided_of, ruled_of, tick_of, image_after}
use Rattle.demands.specs.Acknowledged.{result_byte, result_id, Acknowledges}
use Rattle.demands.specs.History.{History, no_history, noted_store, handed, history_by, history_of}
use Rattle.demands.specs.PowerCut.{Writes, Aim, aim_no, head_of, stored_count, PowerCut}
use Rattle.demands.specs.Work.{at_work, Its, image_by, image_left, Handed, Alone, Real}
use Rattle.demands.proofs.CallLaws.{tick_starts, tick_works, call_rule}
use Rattle.demands.proofs.CallRules.{NoTick, FifoRule, same, took, gave, Keeps, CallRule, cut_off, goes_on_lem}
use Rattle.demands.proofs.SplitLaws.{tick_or_not, image_same}
use Rattle.demands.specs.Quiet.{Quiet}
use Rattle.demands.proofs.CutLaws.{some≢none, not_80, lost_bits, shown_all, Sofar, Busy, Says, OnThen, OnStep, ended_says, busy_rule}
use Rattle.demands.proofs.FifoStream.{Open, open_opened, open_given, stream_fresh, stream_within, held_given}
use Rattle.demands.proofs.LeftLaws.{left_fresh, left_handed}
use Rattle.demands.proofs.QuietLaws.{quiet_real, quiet_after}
use Rattle.demands.proofs.TickRules.{transfer_rule}

-- TC of a byte that was taken: the FIFO has it, and so has the history
told_tc : (efifo tc hears told : Bool) (byte : ℕ) (f : Fifo) → f.asks ≡ true → Open efifo f
    → (given_of efifo (tc && hears) byte f).tc ≡ true → (told || tc) ≡ true
unfolding given_of
told_tc efifo tc hears told byte f a o e =
    let e' : (f.tc || (tc && hears)) ≡ true = rw (o.room a) at e in
    let e'' : (tc && hears) ≡ true = rw (o.before_tc a) at e' in
    rw ((both tc hears e'').0, or-true told)

heard_tc : (efifo tc hears told : Bool) (byte : ℕ) (f : Fifo) → hears ≡ true → f.asks ≡ true → Open efifo f
    → (told ≡ true → f.tc ≡ true) → (told || tc) ≡ true → (given_of efifo (tc && hears) byte f).tc ≡ true
unfolding given_of
heard_tc efifo tc hears true byte f y a o k e = rw (o.room a, k refl)
heard_tc efifo tc hears false byte f y a o k e = rw (o.room a, e, y, or-true f.tc)

given_some : (efifo tc : Bool) (byte : ℕ) (f : Fifo) → full_of efifo f ≡ false → 0 < (given_of efifo tc byte f).count
unfolding given_of
given_some efifo tc byte f e = rw e (omega arith)

pub idle≢answering : (loud : Bool) → Idle ≡ Answering loud → ⊥
idle≢answering loud e = let z : ◌≡◌ {A = ℕ} 0 1 = cc in omega arith

module _ (g : Geometry) (cylinder : ℕ) (order : Order) (transfer : Transfer) (id : Id) (old : List ℕ)
    (disk : disk_in old ≡ Some g) (moves : order.job ≡ Move transfer id) (wr : transfer.pass ≡ Write)
    (hr : id.r < 256) (he : transfer.eot < 256) (hd : order.drive < 4) where
  abbrev drive : ℕ
  drive = order.drive

  abbrev aim : Aim
  aim = record { id = id; side = order.side }

  fits : Fits g old
  fits = present_fits old g disk

  abbrev Done : List ℕ → History → Type 0
  Done img h = Sofar g cylinder drive transfer aim old img h

  abbrev WorksOn : Bool → Site → Task → Stage → Fifo → List ℕ → History → Type 0
  WorksOn efifo site task stage fifo img h = Busy g cylinder drive transfer aim old efifo site task stage fifo img h

  abbrev Gives : Bool → Step → List ℕ → History → Type 0
  Gives efifo o img h = OnStep g cylinder drive transfer aim old efifo o img h

  abbrev SaysSo : Verdict → History → Type 0
  SaysSo verdict h = Says g cylinder drive transfer aim old verdict h

  -- 01 Data commands: an end in the first tick says that nothing is done
  shut_says : (st1 st2 : ℕ) → (st1 ≡ 0x80 → ⊥)
      → SaysSo (record { st0 = st0_of false drive order.side; st1 = st1; st2 = st2; id = id }) no_history
  shut_says st1 st2 other =
      record {
        address = ap (λ (k : ℕ). (aim_no transfer aim k).id) (sym (shown_all g no_history (inr (omega arith))));
        normal = λ l. absurd (omega arith);
        safe = λ a. absurd (false≢true a.told);
        clean = λ l. absurd (omega arith);
        no_more = λ l. absurd (omega arith);
        past_eot_law = λ e. absurd (other e);
        short = λ t l. absurd (omega arith);
        broken = λ at bytes e. absurd (some≢none at bytes (sym e));
      }

  done_fresh : Done old no_history
  done_fresh = left_fresh g cylinder transfer aim old fits hr

  -- The first tick.
  module _ (efifo : Bool) where
    first_busy : has_track g cylinder order.side ≡ true
        → Gives efifo (moving_of transfer.pass transfer id
        (record { drive = drive; side = order.side; disk = g }) emptied) old no_history
    unfolding moving_of opened_of has_track
    first_busy t =
        let (on_disk, on_cylinder) = both (ltb cylinder g.cylinders) (ltb order.side g.heads) t in
        subst (λ (p : Pass). Gives efifo (moving_of p transfer id (record {
          drive = drive;
          side = order.side;
          disk = g;
        }) emptied) old no_history)
        (sym wr)
        (record {
          disk = refl;
          drive_is = refl;
          told_to = refl;
          plain = refl;
          side = refl;
          id = refl;
          all = λ m l. absurd (omega arith);
          on = λ k l. absurd (omega arith);
          link = (
            record {
              on_disk = ltb-true _ _ on_disk;
              on_cylinder = ltb-true _ _ on_cylinder;
              on_track = omega (arith, fits.range.slots.0);
            },
            refl,
          );
          request = open_opened efifo;
          stream = stream_fresh (0 * size_of g.n + 0) false (omega arith);
          tc = λ e n. absurd (false≢true e);
          heard = λ e. absurd (false≢true e);
          late = λ e. absurd (false≢true e);
          timely = λ n. refl;
          more = λ e n. absurd (false≢true e);
          sofar = done_fresh;
        })

    first_present : Gives efifo (begin_of order (Some g) cylinder emptied) old no_history
    unfolding begin_of entered_of gate_of start_job given_id end_of
    first_present = rw moves
        (by_test (not (has_track g cylinder order.side))
        (λ x. Gives efifo (entered_of x (Move transfer id) drive order.side cylinder emptied) old no_history) _ _
        (λ t. (done_fresh, shut_says 0x01 0x00 (λ e. omega arith)))
        (λ t.
        by_test (changes (Move transfer id) && g.protect)
        (λ x. Gives efifo (entered_of x (Move transfer id) drive order.side cylinder emptied) old no_history) _ _
        (λ u. (done_fresh, shut_says 0x02 0x00 (λ e. omega arith)))
        (λ u. first_busy (not-false (has_track g cylinder order.side) t))))

    first_absent : Gives efifo (begin_of order None cylinder emptied) old no_history
    unfolding begin_of entered_of gate_of given_id end_of
    first_absent = rw moves (done_fresh, shut_says 0x01 0x00 (λ e. omega arith))

    first_step : (dor : ℕ) → Gives efifo (begin_of order (seen_of dor drive old) cylinder emptied) old no_history
    unfolding seen_of
    first_step dor =
        by_test (motor_in dor drive) (λ (d : Disk). Gives efifo (begin_of order d cylinder emptied) old no_history) _ _
        (λ t. rw disk first_present) (λ t. first_absent)

  -- 01 Data commands: a drive emptied or header changed later
  abbrev lost : Site → Task → Verdict
  lost site task =
      record {
        st0 = st0_of false site.drive site.side;
        st1 = late_bit task.late + 0x01;
        st2 = other_bit task.other + 0x00;
        id = task.id;
      }

  -- A later tick.
  later_step : (efifo : Bool) (fifothr : ℕ) (site : Site) (task : Task) (stage : Stage) (fifo : Fifo) (img : List ℕ)
      (h : History) (seen : Disk) → FitsFifo efifo fifo → WorksOn efifo site task stage fifo img h
      → Gives efifo (go_on_of (Moving site task stage) seen cylinder img fifo efifo fifothr) img h
  unfolding go_on_of work_step lost_of move_fails move_end end_of
  later_step efifo fifothr site task stage fifo img h seen f b =
      by_test (stays_of seen site.disk) (λ (o : Step). Gives efifo o img h) _ _
      (λ t.
      busy_rule g cylinder drive transfer aim old fits hr he wr efifo fifothr b _ f refl
      (transfer_rule cylinder img efifo fifothr site task fifo stage))
      (λ t. (
        b.sofar,
        ended_says g cylinder drive transfer aim old fits hr he wr efifo fifothr b (lost site task) f refl refl
            (not_80 task.late 0x01 (inl refl)) (inr (lost_bits task.late)),
      ))

  -- what the result in the record says
  abbrev Told : Controller → History → Type 0
  Told c h = Acknowledges g transfer aim h (result_byte 0 c) (result_byte 1 c) (result_byte 2 c) (result_id c)

  -- The record: the command is over, has not had its first tick, or is at it.
  pub data Run (c : Controller) (img : List ℕ) (h : History) : Type 0 where
    is_over : at_work c.phase ≡ false → Done img h → (c.phase ≡ Answering true → Told c h) → Run c img h
    to_start : c.phase ≡ Starting order → (drive_at drive c.drives).head ≡ cylinder → img ≡ old → h ≡ no_history
        → Run c img h
    at_it : (site : Site) (task : Task) (stage : Stage) → c.phase ≡ Working (Moving site task stage)
        → (drive_at drive c.drives).head ≡ cylinder → WorksOn c.registers.efifo site task stage c.fifo img h
        → Run c img h

  pub run_done : {c : Controller} {img : List ℕ} {h : History} → Run c img h → Done img h
  run_done (is_over w k t) = k
  run_done (to_start p u i e) = rw (i, e) done_fresh
  run_done (at_it site task stage p u b) = b.sofar

  pub run_told : {c : Controller} {img : List ℕ} {h : History} → Run c img h → c.phase ≡ Answering true → Told c h
  run_told (is_over w k t) e = t e
  run_told (to_start p u i z) e = absurd (true≢false (ap at_work (sym p ∙ e)))
  run_told (at_it site task stage p u b) e = absurd (true≢false (ap at_work (sym p ∙ e)))

  settled_run : (then : Then) (fifo : Fifo) (c : Controller) (img : List ℕ) (h : History)
      → (drive_at drive c.drives).head ≡ cylinder
      → OnThen g cylinder drive transfer aim old c.registers.efifo then fifo img h
      → Run (settled_of then fifo c) img h
  unfolding settled_of answered_of with_fifo with_phase
  settled_run (Ends verdict) fifo c img h u k = is_over refl k.0 (λ e. k.1)
  settled_run (Works (Identifying site slot looks)) fifo c img h u k = absurd k
  settled_run (Works (Moving site task stage)) fifo c img h u k = at_it site task stage refl u k
  settled_run (Works (Formatting site plan form)) fifo c img h u k = absurd k

  tick_run : (a b : List ℕ) (c : Controller) (img : List ℕ) (h : History) (d : ℕ) (o : Step)
      → ruled_of a b c ≡ decided_of d o c
      → d ≡ drive → (drive_at drive c.drives).head ≡ cylinder → Gives c.registers.efifo o img h
      → Run (after (ticks a b) c) (image_by drive img (ticks a b) c) (history_by (ticks a b) c h)
  unfolding answer_to tick_of answer_of image_after history_by decided_of
  tick_run a b c img h d o e q u k =
      subst
      (λ (x : Decision). Run x.controller (stored_as x.drive drive x.effect img) (noted_store x.effect h)) (sym e)
      (rw (eq-eqb d drive q) (settled_run o.then o.fifo c _ _ u k))

  -- the head's cylinder, as a tick asks for it
  head_is : (c : Controller) → (drive_at drive c.drives).head ≡ cylinder
      → (drive_at (drive % 4) c.drives).head ≡ cylinder
  head_is c u = rw (mod-eq_of_lt {n = drive} {m = 4} hd) u

  empty_start : (p : Phase) (n : ℕ) (f : Fifo) → p ≡ Starting order → Suits p n f → f ≡ emptied
  empty_start p n f e s = (rw e at s).1

  run_tick : (a b : List ℕ) (c : Controller) (img : List ℕ) (h : History) → Quiet c → at_work c.phase ≡ true
      → pick_of drive a b ≡ img → Run c img h
      → Run (after (ticks a b) c) (image_by drive img (ticks a b) c) (history_by (ticks a b) c h)
  run_tick a b c img h q w e (is_over n k t) = absurd (false≢true (sym n ∙ w))
  run_tick a b c img h q w e (to_start p u i f) =
      tick_run a b c img h drive _ (tick_starts a b c order q p) refl u
      (rw (e, i, f, head_is c u, empty_start c.phase _ c.fifo p q.good.phase)
      (first_step c.registers.efifo c.registers.dor))
  run_tick a b c img h q w e (at_it site task stage p u k) =
      let lent : pick_of site.drive a b ≡ img = ap (λ (d : ℕ). pick_of d a b) k.drive_is ∙ e in
      let head : (drive_at (site.drive % 4) c.drives).head ≡ cylinder =
      ap (λ (d : ℕ). (drive_at (d % 4) c.drives).head) k.drive_is ∙ head_is c u in
      tick_run a b c img h site.drive _ (tick_works a b c (Moving site task stage) q p) k.drive_is u
      (rw (lent, head)
      (later_step c.registers.efifo c.registers.fifothr site task stage c.fifo img h _ q.good.fifo k))

  -- A byte from the host.
  busy_given : (efifo : Bool) (site : Site) (task : Task) (stage : Stage) (fifo : Fifo) (img : List ℕ) (h : History)
      (byte : ℕ) (tc hears : Bool) → hears ≡ true → FitsFifo efifo fifo → fifo.asks ≡ true → WorksOn efifo site task stage fifo img h
      → WorksOn efifo site task stage (given_of efifo (tc && hears) byte fifo) img (handed byte tc h)
  busy_given efifo site task stage fifo img h byte tc hears y f a b =
      let within = stream_within h.host _ (stored_count g h) fifo.tc (b.request.before_tc a) b.stream in
      record {
        disk = b.disk;
        drive_is = b.drive_is;
        told_to = b.told_to;
        plain = b.plain;
        side = b.side;
        id = b.id;
        all = b.all;
        on = b.on;
        link = b.link;
        request = open_given efifo (tc && hears) byte fifo a b.request;
        stream = held_given efifo fifo f h.host (stored_count g h) (tc && hears) byte a b.request b.stream;
        tc = λ e n. told_tc efifo tc hears h.told byte fifo a b.request e;
        heard = heard_tc efifo tc hears h.told byte fifo y a b.request b.heard;
        late = λ t. absurd (omega (arith, (b.late t).beyond));
        timely = b.timely;
        more = λ t n. given_some efifo (tc && hears) byte fifo (b.request.room a);
        sofar = left_handed g cylinder transfer aim old fits hr img h b.sofar byte tc within;
      }

  -- it takes no byte to the host
  not_to_host : (efifo : Bool) (site : Site) (task : Task) (stage : Stage) (fifo : Fifo) (img : List ℕ)
      (h : History) (p : Phase) {A : Type 0} → WorksOn efifo site task stage fifo img h
      → p ≡ Working (Moving site task stage)
      → phase_to_host p ≡ true → A
  not_to_host efifo site task stage fifo img h p b e t =
      let pass : task.transfer.pass ≡ Write = ap (λ (x : Transfer). x.pass) b.told_to ∙ wr in
      let t' : to_host (pass_flow task.transfer.pass) ≡ true = rw e at t in
      absurd (false≢true (sym (ap (λ (x : Pass). to_host (pass_flow x)) pass) ∙ t'))

  -- A call that is no tick.
  kept_run : (call : Call) (c e : Controller) (img : List ℕ) (h : History) → Quiet c → at_work c.phase ≡ true
      → Keeps c e → FifoRule call c e → Run c img h → Run e img (history_by call c h)
  kept_run call c e img h q w k r (is_over n d t) = absurd (false≢true (sym n ∙ w))
  kept_run call c e img h q w k (same f n) (to_start p u i z) =
      to_start (k.phase ∙ p) (k.heads drive hd ∙ u) i (n h ∙ z)
  kept_run call c e img h q w k (took tc m t f n) (to_start p u i z) = absurd (false≢true (rw p at t))
  kept_run call c e img h q w k (gave byte tc t a f n) (to_start p u i z) = absurd (false≢true (rw p at t))
  kept_run call c e img h q w k (same f n) (at_it site task stage p u b) =
      at_it site task stage (k.phase ∙ p) (k.heads drive hd ∙ u) (rw (k.efifo, f, n h) b)
  kept_run call c e img h q w k (took tc m t f n) (at_it site task stage p u b) =
      not_to_host c.registers.efifo site task stage c.fifo img h c.phase b p t
  kept_run call c e img h q w k (gave byte tc t a f n) (at_it site task stage p u b) =
      at_it site task stage (k.phase ∙ p) (k.heads drive hd ∙ u)
      (rw (k.efifo, f, n h)
      (busy_given c.registers.efifo site task stage c.fifo img h byte tc (phase_hears c.phase)
      (rw p) q.good.fifo a b))

  call_run : (call : Call) (c : Controller) (img : List ℕ) (h : History) → Quiet c → at_work c.phase ≡ true
      → NoTick call → Run c img h → Run (after call c) (image_by drive img call c) (history_by call c h)
  call_run call c img h q w n r = rw (image_same drive img call c n) (go (call_rule call c q w n))
    where
      go : CallRule call c (after call c) → Run (after call c) img (history_by call c h)
      go (cut_off o same_h) =
          is_over (ap at_work o) (rw (same_h h) (run_done r)) (λ e. absurd (idle≢answering true (sym o ∙ e)))
      go (goes_on_lem k f) = kept_run call c (after call c) img h q w k f r

  pub run_after : (call : Call) (c : Controller) (img : List ℕ) (h : History) → Quiet c → at_work c.phase ≡ true
      → Handed drive img call → Run c img h → Run (after call c) (image_by drive img call c) (history_by call c h)
  run_after call c img h q w e r =
      tick_or_not
      (λ x. Handed drive img x → Run (after x c) (image_by drive img x c) (history_by x c h))
      (λ a b e. run_tick a b c img h q w e r)
      (λ x n e. call_run x c img h q w n r) call e

  pub run_all : (calls : List Call) (c : Controller) (img : List ℕ) (h : History) → Quiet c → Its calls c
      → Alone drive img calls c → Run c img h → Run (run_calls calls c) (image_left drive img calls c) (history_of calls c h)
  unfolding Its Alone image_left history_of run_calls
  run_all [] c img h q i a r = r
  run_all (call ∷ calls) c img h q i a r =
      let (handed_it, alone) = a i.0 in
      run_all calls (after call c) (image_by drive img call c) (history_by call c h) (quiet_after call c q i.0)
      i.1 alone
      (run_after call c img h q i.0 handed_it r)

-- after any of a write command's calls
module _ (c : Controller) (quiet : Quiet c) (order : Order) (transfer : Transfer) (id : Id)
    (w : Writes c order transfer id)
    (old : List ℕ) (g : Geometry) (disk : disk_in old ≡ Some g) (calls : List Call) (its : Its calls c)
    (alone : Alone order.drive old calls c) where
  pub proper : (order.drive < 4) × (order.side < 2) × (id.r < 256) × (transfer.eot < 256)
  proper =
      let (hd, hs, job) = rw w.accepted at quiet.proper in
      let (hr, he) = rw w.moves at job in
      (hd, hs, hr, he)

  pub ran : Run g (head_of order c) order transfer id old disk w.moves w.writes proper.2 proper.3 proper.0
      (run_calls calls c) (image_left order.drive old calls c) (history_of calls c no_history)
  ran =
      run_all g (head_of order c) order transfer id old disk w.moves w.writes proper.2 proper.3 proper.0
      calls c old no_history quiet its alone (to_start w.accepted refl refl refl)

-- Demand 3: finished sectors, the one begun, every other byte, after any of a write command's calls
pub power_cut_quiet : PowerCut Quiet
power_cut_quiet c q order transfer id w old g disk calls its alone =
    run_done _ _ _ _ _ _ _ _ _ _ _ _ (ran c q order transfer id w old g disk calls its alone)

pub power_cut : PowerCut Real
power_cut c r = power_cut_quiet c (quiet_real c r)
