-- A tick of a Format, rule by rule: the view of its first tick, and of `form_of` where the disk is as it was, that the
-- theorems over lists of calls go by (01 Format, First tick). Each rule carries what holds where it is taken, and what
-- it gives, as equations.
-- Assumes nothing.
use Rattle.std.specs.Prelude.{None, Some}
use Rattle.image.specs.Lent.{put_at}
use Prim.Native.Nat.{ℕ, ◌+◌, ◌≤◌, ◌<◌}
use native.Mathlib.Omega.{arith}
use mathlib.Core.Bool.{Bool, true, false, not, ◌&&◌, true≢false, false≢true}
use mathlib.Core.Path.{◌≡◌, refl, sym, ap, ◌∙◌, subst}
use lib.Dec.{eqb, leb, ltb}
use borrow.Author.Tests.{leb-true, leb-false, ltb-true, ltb-false, lt-ltb, le-ltb, eqb-true, eqb-false, eq-eqb, ne_eqb, not-false}
use Rattle.image.proofs.TestLaws.{by_test, both}
use Rattle.image.specs.Disk.{Disk}
use Rattle.image.specs.declared.layout.Geometry.{Geometry}
use Rattle.image.specs.Lent.{Effect}
use Rattle.image.specs.declared.mark.Mark.TheVariants.{NoId, Data}
use Rattle.image.specs.Mark.{byte_of}
use Rattle.chip.specs.declared.fifo.Fifo.{Fifo}
use Rattle.chip.specs.Fifo.{opened_of, drawn_of, front_of}
use Rattle.sectors.specs.declared.order.Job.{Job}
use Rattle.sectors.specs.declared.order.Job.TheVariants.{Format}
use Rattle.sectors.specs.declared.order.Order.{Order}
use Rattle.sectors.specs.declared.order.Plan.{Plan}
use Rattle.sectors.specs.declared.work.Form.{Form}
use Rattle.sectors.specs.declared.work.Form.TheVariants.{Awaiting, Addressing, Filling, Clearing}
use Rattle.sectors.specs.declared.work.Site.{Site}
use Rattle.sectors.specs.declared.work.Step.{Step}
use Rattle.sectors.specs.declared.work.Verdict.{Verdict}
use Rattle.sectors.specs.Result.{st0_of, end_of}
use Rattle.sectors.specs.Track.{has_track, data_place, mark_place, sector_bytes}
use Rattle.engine.specs.First.{changes, misplanned, gate_of, given_id, start_job, entered_of, begin_of}
use Rattle.engine.specs.Format.{format_id, format_end, forms_of, form_await, address_put, address_of, clear_on, formed_of, fill_of, clear_of, form_of}
use Rattle.demands.specs.FormatScript.{Allowed}
use Rattle.demands.specs.InTime.{LateForm}
use Rattle.demands.proofs.RequestLaws.{or_off}
use Rattle.demands.proofs.TickRules.{ends_with, pos_ne}

pub present_same : (g h : Geometry) → Some g ≡ Some h → g ≡ h
present_same g h e = cc

pub absent≢present : (g : Geometry) → None ≡ Some g → ⊥
absent≢present g e = let z : ◌≡◌ {A = ℕ} 0 1 = cc in omega arith

-- 01 Format, Result: what an end says
abbrev pub form_verdict : Bool → ℕ → ℕ → ℕ → ℕ → Plan → ℕ → Verdict
form_verdict normal st1 done drive side plan head =
    record { st0 = st0_of normal drive side; st1 = st1; st2 = 0x00; id = format_id plan drive head side done }

-- the first tick
module _ (drive side : ℕ) (plan : Plan) (head : ℕ) (fifo : Fifo) where
  pub data FirstRule (disk : Disk) (o : Step) : Type 0 where
    nothing_there : ((g : Geometry) → disk ≡ Some g → Allowed g head side plan → ⊥)
        → o ≡ ends_with (form_verdict false 0x01 0 drive side plan head) None → FirstRule disk o
    is_protected : (g : Geometry) → disk ≡ Some g → g.protect ≡ true
        → o ≡ ends_with (form_verdict false 0x02 0 drive side plan head) None → FirstRule disk o
    is_misplanned : (g : Geometry) → disk ≡ Some g → (Allowed g head side plan → ⊥)
        → o ≡ ends_with (form_verdict false 0x04 0 drive side plan head) None → FirstRule disk o
    opens : (g : Geometry) → disk ≡ Some g → Allowed g head side plan
        → o ≡ forms_of (Awaiting 0 0) (record { drive = drive; side = side; disk = g }) plan (opened_of fifo) None
        → FirstRule disk o

  -- 01 Data commands: Format with N not the header's, SC 0 or SC above S
  planned : (g : Geometry) → misplanned (Format plan) g ≡ false
      → (plan.n ≡ g.n) × (0 < plan.sc) × (plan.sc ≤ g.slots)
  planned g e =
      let (a, b) = or_off _ (ltb g.slots plan.sc) e in
      let (n, z) = or_off _ (eqb plan.sc 0) a in (
        eqb-true plan.n g.n (not-false (eqb plan.n g.n) n),
        pos_ne plan.sc (eqb-false plan.sc 0 z),
        ltb-false g.slots plan.sc b,
      )

  unplanned : (g : Geometry) → misplanned (Format plan) g ≡ true → Allowed g head side plan → ⊥
  unplanned g e a =
      true≢false (sym e ∙ rw (
        eq-eqb plan.n g.n a.size,
        ne_eqb plan.sc 0 (λ q. omega (arith, a.some)),
        le-ltb g.slots plan.sc a.most,
      ) refl)

  -- no such track or side
  trackless : (g : Geometry) → not (has_track g head side) ≡ true
      → (g' : Geometry) → Some g ≡ Some g' → Allowed g' head side plan → ⊥
  unfolding has_track
  trackless g t g' e a =
      let s : g' ≡ g = present_same g' g (sym e) in
      let b : Allowed g head side plan = rw s at a in
      false≢true (rw (lt-ltb head g.cylinders b.on_disk, lt-ltb side g.heads b.on_cylinder) at t)

  entered_rule : (disk : Disk)
      → FirstRule disk (entered_of (gate_of disk (Format plan) side head) (Format plan) drive side head fifo)
  unfolding gate_of has_track entered_of given_id start_job end_of
  entered_rule None = nothing_there (λ g e a. absent≢present g e) refl
  entered_rule (Some g) =
      by_test (not (has_track g head side))
      (λ x. FirstRule (Some g) (entered_of x (Format plan) drive side head fifo)) _ _
      (λ t. nothing_there (trackless g t) refl)
      (λ t.
      by_test (changes (Format plan) && g.protect)
      (λ x. FirstRule (Some g) (entered_of x (Format plan) drive side head fifo)) _ _
      (λ u. is_protected g refl u refl)
      (λ u.
      by_test (misplanned (Format plan) g)
      (λ x. FirstRule (Some g) (entered_of x (Format plan) drive side head fifo)) _ _
      (λ v. is_misplanned g refl (unplanned g v) refl)
      (λ v.
      let (on_disk, on_cylinder) = both (ltb head g.cylinders) (ltb side g.heads) (not-false _ t) in
      let (size, some, most) = planned g v in
      opens g refl (record {
        on_disk = ltb-true _ _ on_disk;
        on_cylinder = ltb-true _ _ on_cylinder;
        unprotected = u;
        size = size;
        some = some;
        most = most;
      }) refl)))

-- of an accepted Format
pub first_rule : (order : Order) (plan : Plan) (head : ℕ) (fifo : Fifo) (disk : Disk) → order.job ≡ Format plan
    → FirstRule order.drive order.side plan head fifo disk (begin_of order disk head fifo)
unfolding begin_of
first_rule order plan head fifo disk job =
    subst
    (λ (j : Job). FirstRule order.drive order.side plan head fifo disk
    (entered_of (gate_of disk j order.side head) j order.drive order.side head fifo)) (sym job)
    (entered_rule order.drive order.side plan head fifo disk)

-- on a disk that may be formatted nothing else is left
pub allowed_opens : (drive side : ℕ) (plan : Plan) (head : ℕ) (fifo : Fifo) (g : Geometry) (o : Step)
    → Allowed g head side plan → FirstRule drive side plan head fifo (Some g) o
    → o ≡ forms_of (Awaiting 0 0) (record { drive = drive; side = side; disk = g }) plan (opened_of fifo) None
allowed_opens drive side plan head fifo g o ok (nothing_there k eq) = absurd (k g refl ok)
allowed_opens drive side plan head fifo g o ok (is_protected h e p eq) =
    absurd (true≢false (sym p ∙ ap (λ (x : Geometry). x.protect) (present_same h g (sym e)) ∙ ok.unprotected))
allowed_opens drive side plan head fifo g o ok (is_misplanned h e k eq) =
    absurd (k (rw (present_same h g (sym e)) ok))
allowed_opens drive side plan head fifo g o ok (opens h e a eq) = rw (present_same g h e) eq

module _ (head : ℕ) (efifo : Bool) (fifothr : ℕ) (site : Site) (plan : Plan) (fifo : Fifo) where
  -- behind slot `slot`, where no slot is to be formatted any more: the next one is to be cleared, or it is over
  pub data ClearRule (slot : ℕ) (effect : Effect) (o : Step) : Type 0 where
    clears_on : slot + 1 < site.disk.slots → o ≡ forms_of (Clearing (slot + 1)) site plan fifo effect
        → ClearRule slot effect o
    is_whole : site.disk.slots ≤ slot + 1
        → o ≡ ends_with (form_verdict true 0x00 plan.sc site.drive site.side plan head) effect
        → ClearRule slot effect o

  pub data FormRule (form : Form) (o : Step) : Type 0 where
    late_first : (slot wait : ℕ) → form ≡ Awaiting slot wait → fifo.count ≡ 0 → 63 ≤ wait
        → o ≡ ends_with (form_verdict false 0x10 slot site.drive site.side plan head) None → FormRule form o
    late_later : (slot k : ℕ) → form ≡ Addressing slot k → fifo.count ≡ 0
        → o ≡ ends_with (form_verdict false 0x10 slot site.drive site.side plan head) None → FormRule form o
    waits : (slot wait : ℕ) → form ≡ Awaiting slot wait → fifo.count ≡ 0 → wait < 63
        → o ≡ forms_of (Awaiting slot (wait + 1)) site plan fifo None → FormRule form o
    begins : (slot wait : ℕ) → form ≡ Awaiting slot wait → 0 < fifo.count
        → o ≡ forms_of (Addressing slot 0) site plan fifo (Some (put_at (mark_place site head slot) (byte_of NoId)))
        → FormRule form o
    addresses : (slot k : ℕ) → form ≡ Addressing slot k → 0 < fifo.count → k < 3
        → o ≡ forms_of (Addressing slot (k + 1)) site plan (drawn_of efifo fifothr fifo)
        (Some (put_at (mark_place site head slot + 1 + k) (front_of fifo)))
        → FormRule form o
    addresses_last : (slot k : ℕ) → form ≡ Addressing slot k → 0 < fifo.count → 3 ≤ k
        → o ≡ forms_of (Filling slot 0) site plan (drawn_of efifo fifothr fifo)
        (Some (put_at (mark_place site head slot + 1 + k) (front_of fifo)))
        → FormRule form o
    fills : (slot done : ℕ) → form ≡ Filling slot done → done < sector_bytes site
        → o ≡ forms_of (Filling slot (done + 1)) site plan fifo
        (Some (put_at (data_place site head slot done) plan.fill))
        → FormRule form o
    marks : (slot done : ℕ) → form ≡ Filling slot done → sector_bytes site ≤ done → slot + 1 < plan.sc
        → o ≡ forms_of (Awaiting (slot + 1) 0) site plan fifo
        (Some (put_at (mark_place site head slot) (byte_of (Data false false))))
        → FormRule form o
    marks_last : (slot done : ℕ) → form ≡ Filling slot done → sector_bytes site ≤ done → plan.sc ≤ slot + 1
        → ClearRule slot (Some (put_at (mark_place site head slot) (byte_of (Data false false)))) o
        → FormRule form o
    clears : (slot : ℕ) → form ≡ Clearing slot → ClearRule slot (Some (put_at (mark_place site head slot) (byte_of NoId))) o
        → FormRule form o

  pos_of : eqb fifo.count 0 ≡ false → 0 < fifo.count
  pos_of t = pos_ne fifo.count (eqb-false fifo.count 0 t)

  clear_rule : (slot : ℕ) (effect : Effect) → ClearRule slot effect (clear_on slot site plan head fifo effect)
  unfolding clear_on format_end end_of
  clear_rule slot effect =
      by_test (ltb (slot + 1) site.disk.slots) (ClearRule slot effect) _ _
      (λ t. clears_on (ltb-true (slot + 1) site.disk.slots t) refl)
      (λ t. is_whole (ltb-false (slot + 1) site.disk.slots t) refl)

  await_rule : (slot wait : ℕ) → FormRule (Awaiting slot wait) (form_await slot wait site plan head fifo)
  unfolding form_await format_end end_of
  await_rule slot wait =
      by_test (eqb fifo.count 0) (FormRule (Awaiting slot wait)) _ _
      (λ t. by_test (leb 63 wait) (FormRule (Awaiting slot wait)) _ _
      (λ u. late_first slot wait refl (eqb-true fifo.count 0 t) (leb-true 63 wait u) refl)
      (λ u. waits slot wait refl (eqb-true fifo.count 0 t) (leb-false 63 wait u) refl))
      (λ t. begins slot wait refl (pos_of t) refl)

  address_rule : (slot k : ℕ) → FormRule (Addressing slot k) (address_of slot k site plan head fifo efifo fifothr)
  unfolding address_of address_put format_end end_of
  address_rule slot k =
      by_test (eqb fifo.count 0) (FormRule (Addressing slot k)) _ _
      (λ t. late_later slot k refl (eqb-true fifo.count 0 t) refl)
      (λ t. by_test (leb 3 k) (FormRule (Addressing slot k)) _ _
      (λ u. addresses_last slot k refl (pos_of t) (leb-true 3 k u) refl)
      (λ u. addresses slot k refl (pos_of t) (leb-false 3 k u) refl))

  fill_rule : (slot done : ℕ) → FormRule (Filling slot done) (fill_of slot done site plan head fifo efifo fifothr)
  unfolding fill_of formed_of
  fill_rule slot done =
      by_test (leb (sector_bytes site) done) (FormRule (Filling slot done)) _ _
      (λ t. by_test (ltb (slot + 1) plan.sc) (FormRule (Filling slot done)) _ _
      (λ u. marks slot done refl (leb-true (sector_bytes site) done t) (ltb-true (slot + 1) plan.sc u) refl)
      (λ u. marks_last slot done refl (leb-true (sector_bytes site) done t) (ltb-false (slot + 1) plan.sc u)
      (clear_rule slot _)))
      (λ t. fills slot done refl (leb-false (sector_bytes site) done t) refl)

  pub form_rule : (form : Form) → FormRule form (form_of form site plan head fifo efifo fifothr)
  unfolding form_of clear_of
  form_rule (Awaiting slot wait) = await_rule slot wait
  form_rule (Addressing slot k) = address_rule slot k
  form_rule (Filling slot done) = fill_rule slot done
  form_rule (Clearing slot) = clears slot refl (clear_rule slot _)

  -- in time, a tick goes on or ends the command normally
  pub data TimelyRule (o : Step) : Type 0 where
    still_forms : (form : Form) (fifo' : Fifo) (effect : Effect) → o ≡ forms_of form site plan fifo' effect
        → TimelyRule o
    ends_whole : (effect : Effect)
        → o ≡ ends_with (form_verdict true 0x00 plan.sc site.drive site.side plan head) effect → TimelyRule o

  clear_timely : (slot : ℕ) (effect : Effect) (o : Step) → ClearRule slot effect o → TimelyRule o
  clear_timely slot effect o (clears_on k eq) = still_forms _ _ _ eq
  clear_timely slot effect o (is_whole k eq) = ends_whole _ eq

  pub timely_rule : (form : Form) (o : Step) → (LateForm fifo form → ⊥) → FormRule form o → TimelyRule o
  timely_rule form o timely (late_first slot wait e z k eq) = absurd ((rw e at timely) (z, k))
  timely_rule form o timely (late_later slot k e z eq) = absurd ((rw e at timely) z)
  timely_rule form o timely (waits slot wait e z k eq) = still_forms _ _ _ eq
  timely_rule form o timely (begins slot wait e p eq) = still_forms _ _ _ eq
  timely_rule form o timely (addresses slot k e p l eq) = still_forms _ _ _ eq
  timely_rule form o timely (addresses_last slot k e p l eq) = still_forms _ _ _ eq
  timely_rule form o timely (fills slot done e l eq) = still_forms _ _ _ eq
  timely_rule form o timely (marks slot done e l h eq) = still_forms _ _ _ eq
  timely_rule form o timely (marks_last slot done e l h r) = clear_timely slot _ o r
  timely_rule form o timely (clears slot e r) = clear_timely slot _ o r
