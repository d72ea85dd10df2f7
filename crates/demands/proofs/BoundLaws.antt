-- 01 End, at the engine's level: how many ticks a command has left at most, and that every tick of it makes them fewer.
-- Each search but the last finds a slot; on one side the numbers sought, from R up to EOT, are all different, so that a
-- slot is found once: the slots of the side whose number is still to come pay for what is still to be found.
-- Assumes nothing.
use Rattle.std.specs.Prelude.{None, Some}
use Prim.Native.Nat.{ℕ, suc, ◌+◌, ◌*◌, ◌-◌, ◌≤◌, ◌<◌}
use native.Mathlib.Nat.{mul-le-mul_right, le-mul_of_pos_right}
use native.Mathlib.Omega.{arith}
use mathlib.Core.Bool.{Bool, true, false, ◌&&◌, ◌||◌, not, cond}
use mathlib.Core.List.{List}
use mathlib.Core.Logic.{◌⊎◌, inl, inr}
use mathlib.Core.Path.{◌≡◌, refl, ap, ◌∙◌}
use lib.Dec.{eqb, leb, ltb}
use lib.ListN.{set}
use lib.Seq.{get_or-set_other}
use borrow.Author.Tests.{leb-true, leb-false, ltb-true, ltb-false, eqb-true, eqb-false, eq-eqb, ne_eqb, lt-ltb, le-ltb}
use Rattle.image.specs.Disk.{Disk}
use Rattle.image.specs.declared.layout.Geometry.{Geometry}
use Rattle.image.specs.Lent.{Effect}
use Rattle.image.specs.declared.mark.Mark.{Mark}
use Rattle.image.specs.declared.mark.Mark.TheVariants.{NoId, Data, NoData}
use Rattle.image.specs.declared.slot.Id.{Id}
use Rattle.image.specs.Layout.{size_of, slot_length, offset_of}
use Rattle.image.specs.Lent.{stored_in}
use Rattle.image.specs.Mark.{mark_of}
use Rattle.image.proofs.LayoutLaws.{row_once, size_ge}
use Rattle.image.proofs.TestLaws.{by_test, both, or_right}
use Rattle.chip.specs.declared.fifo.Fifo.{Fifo}
use Rattle.chip.specs.Fifo.{front_of}
use Rattle.chip.specs.Next.{on_by_one}
use Rattle.chip.proofs.NextLaws.{advanced_below, advanced_r_at_eot}
use Rattle.sectors.specs.declared.order.Job.{Job}
use Rattle.sectors.specs.declared.order.Job.TheVariants.{Identify, Move, Format}
use Rattle.sectors.specs.declared.order.Order.{Order}
use Rattle.sectors.specs.declared.order.Pass.{Pass}
use Rattle.sectors.specs.declared.order.Pass.TheVariants.{Read, Write}
use Rattle.sectors.specs.declared.order.Plan.{Plan}
use Rattle.sectors.specs.declared.order.Transfer.{Transfer}
use Rattle.sectors.specs.declared.work.Form.{Form}
use Rattle.sectors.specs.declared.work.Form.TheVariants.{Addressing, Filling, Clearing}
use Rattle.sectors.specs.declared.work.Form.TheVariants as form
use Rattle.sectors.specs.declared.work.Site.{Site}
use Rattle.sectors.specs.declared.work.Stage.{Stage}
use Rattle.sectors.specs.declared.work.Stage.TheVariants.{Searching, Turning, Reading, Draining, Awaiting, Storing}
use Rattle.sectors.specs.declared.work.Step.{Step}
use Rattle.sectors.specs.declared.work.Task.{Task}
use Rattle.sectors.specs.declared.work.Then.{Then}
use Rattle.sectors.specs.declared.work.Then.TheVariants.{Ends, Works}
use Rattle.sectors.specs.declared.work.Verdict.{Verdict}
use Rattle.sectors.specs.declared.work.Work.{Work}
use Rattle.sectors.specs.declared.work.Work.TheVariants.{Identifying, Moving, Formatting}
use Rattle.engine.specs.First.{changes, misplanned, gate_of, task_of, moving_of, start_job, entered_of, begin_of}
use Rattle.engine.specs.Format.{format_end, forms_of, form_await, address_put, address_of, clear_on, formed_of, fill_of, clear_of, form_of}
use Rattle.engine.specs.ReadId.{no_id_of, no_id_here, id_here, identified_of, identify_of}
use Rattle.sectors.specs.Result.{end_of, move_end, move_fails, goes_of}
use Rattle.sectors.specs.Search.{slot_of, matches, second_pass, passes_after}
use Rattle.engine.specs.Step.{site_of, lost_of, work_step, go_on_of}
use Rattle.sectors.specs.Track.{has_track, stays_of, next_slot, mark_place, data_place, sector_bytes}
use Rattle.sectors.specs.Write.{written_mark}
use Rattle.demands.specs.EndsInTime.{bound_of}
use Rattle.demands.specs.Quiet.{ProperJob}
use Rattle.fdc.specs.Registers.{bit}
use Rattle.demands.proofs.CountLaws.{bit_le, count, count_le, count_ext, count_less, count_pos, near, near_self, near_next, near_gone}
use Rattle.demands.proofs.TickRules.{marked, hits, ends_with, NextRule, stops, turns, steps, Rule, not_found, no_data, no_side, late, misses, passes, to_write, to_read, skips, turned_over, waits, begins, puts, pads, dries, ends_short, finishes, moves, moves_last, overruns, overruns_last, drains, data_error, ends_late, other_kind, drained, transfer_rule}

-- 01 End: one search with what it finds, at most
unfoldable pub cost : Geometry → ℕ
cost g = 2 * g.slots + size_of g.n + 70

-- the slots of the side in use whose sector number is one from r up to EOT
unfoldable pub ahead : List ℕ → Site → ℕ → ℕ → ℕ → ℕ
ahead img site head r eot = count (λ i. near r eot (slot_of img site head i).id.r) site.disk.slots

-- of the sectors after the one in hand, on this side
unfoldable pub later : List ℕ → Site → ℕ → ℕ → ℕ → ℕ
later img site head r eot = cond (eqb r eot) 0 (ahead img site head (on_by_one r) eot)

-- the other side is still to come
unfoldable pub turns_left : Bool → ℕ → ℕ
turns_left mt side = bit (mt && eqb side 0)

-- what n sectors more on this side, and the other side, may cost
unfoldable pub rest_of : Geometry → Bool → ℕ → ℕ → ℕ
rest_of g mt side n = turns_left mt side * ((g.slots + 1) * cost g) + n * cost g

abbrev ahead_of : List ℕ → Site → ℕ → Task → ℕ
ahead_of img site head task =
    rest_of site.disk task.transfer.mt site.side (ahead img site head task.id.r task.transfer.eot)

abbrev later_of : List ℕ → Site → ℕ → Task → ℕ
later_of img site head task =
    rest_of site.disk task.transfer.mt site.side (later img site head task.id.r task.transfer.eot)

-- ticks left, at most: of a transfer
unfoldable pub stage_left : List ℕ → ℕ → Site → Task → Stage → ℕ
stage_left img head site task (Searching look) =
    ahead_of img site head task + ((1 - look.passes) * site.disk.slots + (site.disk.slots - look.slot))
stage_left img head site task (Turning slot) = site.disk.slots * cost site.disk + 2 * site.disk.slots + 1
stage_left img head site task (Reading sector done) =
    later_of img site head task + (2 * site.disk.slots + 65 + (sector_bytes site - done))
stage_left img head site task (Draining sector looks) =
    later_of img site head task + (2 * site.disk.slots + 1 + (64 - looks))
stage_left img head site task (Awaiting slot wait) =
    later_of img site head task + (2 * site.disk.slots + 2 + sector_bytes site + (64 - wait))
stage_left img head site task (Storing slot done) =
    later_of img site head task + (2 * site.disk.slots + 1 + (sector_bytes site - done))

-- of a Format, which looks at no address
unfoldable pub form_left : Site → Form → ℕ
form_left site (form.Awaiting slot wait) =
    (site.disk.slots - 1 - slot) * (sector_bytes site + 71) + (sector_bytes site + 7 + (64 - wait))
form_left site (Addressing slot k) =
    (site.disk.slots - 1 - slot) * (sector_bytes site + 71) + (sector_bytes site + 3 + (4 - k))
form_left site (Filling slot done) =
    (site.disk.slots - 1 - slot) * (sector_bytes site + 71) + (2 + (sector_bytes site - done))
form_left site (Clearing slot) = site.disk.slots - slot

unfoldable pub work_left : List ℕ → ℕ → Work → ℕ
work_left img head (Identifying site slot round) =
    (1 - round) * site.disk.slots + (site.disk.slots - slot)
work_left img head (Moving site task stage) = stage_left img head site task stage
work_left img head (Formatting site plan form) = form_left site form

abbrev pub then_left : List ℕ → ℕ → Then → ℕ
then_left img head (Ends verdict) = 0
then_left img head (Works work) = work_left img head work

-- what a command keeps to from its first tick on
abbrev pub ProperStage : Site → Stage → Type 0
ProperStage site (Searching look) = (look.slot < site.disk.slots) × (look.passes ≤ 1)
ProperStage site (Turning slot) = (slot < site.disk.slots) × (site.side ≡ 1)
ProperStage site (Reading sector done) = (sector.slot < site.disk.slots) × (done < sector_bytes site)
ProperStage site (Draining sector looks) = (sector.slot < site.disk.slots) × (looks ≤ 63)
ProperStage site (Awaiting slot wait) = (slot < site.disk.slots) × (wait ≤ 63)
ProperStage site (Storing slot done) = (slot < site.disk.slots) × (done ≤ sector_bytes site)

abbrev pub ProperTask : Task → Type 0
ProperTask task = (task.id.r < 256) × (task.transfer.eot < 256)

abbrev pub ProperForm : Site → Form → Type 0
ProperForm site (form.Awaiting slot wait) = (slot < site.disk.slots) × (wait ≤ 63)
ProperForm site (Addressing slot k) = slot < site.disk.slots
ProperForm site (Filling slot done) = slot < site.disk.slots
ProperForm site (Clearing slot) = slot < site.disk.slots

abbrev pub ProperWork : Work → Type 0
ProperWork (Identifying site slot round) = (slot < site.disk.slots) × (round ≤ 1)
ProperWork (Moving site task stage) = ProperTask task × ProperStage site stage
ProperWork (Formatting site plan form) = (plan.sc ≤ site.disk.slots) × ProperForm site form

abbrev pub ProperThen : Geometry → Then → Type 0
ProperThen g (Ends verdict) = Unit {0}
ProperThen g (Works work) = ((site_of work).disk ≡ g) × ProperWork work

-- a tick that makes fewer of m ticks left, on the image as it leaves it, and keeps to that
pub record Falls (g : Geometry) (img : List ℕ) (head m : ℕ) (o : Step) : Type 0 where
  pub less : then_left (stored_in o.effect img) head o.then < m
  pub proper : ProperThen g o.then

cost_is : (g : Geometry) → cost g ≡ 2 * g.slots + size_of g.n + 70
unfolding cost
cost_is g = refl

bound_is : (g : Geometry) → bound_of g ≡ 2 * (g.slots + 1) * cost g
unfolding bound_of cost
bound_is g = refl

-- what is left on a side falls with every sector found
module _ (img : List ℕ) (site : Site) (head : ℕ) where
  ahead_le : (r eot : ℕ) → ahead img site head r eot ≤ site.disk.slots
  unfolding ahead
  ahead_le r eot = count_le _ site.disk.slots

  later_last : (r eot : ℕ) → r ≡ eot → later img site head r eot ≡ 0
  unfolding later
  later_last r eot e = rw (eq-eqb r eot e)

  later_step : (r eot : ℕ) → (r ≡ eot → ⊥) → later img site head r eot ≡ ahead img site head (on_by_one r) eot
  unfolding later
  later_step r eot n = rw (ne_eqb r eot n)

  pub hit_number : (task : Task) (slot : ℕ) → hits img site head task slot ≡ true
      → (slot_of img site head slot).id.r ≡ task.id.r
  hit_number task slot t =
      let id = (slot_of img site head slot).id in
      let m = (both (marked (mark_of (slot_of img site head slot).mark)) (matches id task.id site.disk.n) t).1 in
      let c = eqb id.c task.id.c in
      let h = eqb id.h task.id.h in
      let r = eqb id.r task.id.r in
      let n = eqb id.n task.id.n in
      let a = (both (c && h && r && n) (eqb id.n site.disk.n) m).0 in
      let b = (both (c && h && r) n a).0 in
      eqb-true id.r task.id.r (both (c && h) r b).1

  found : (task : Task) (slot : ℕ) → ProperTask task → slot < site.disk.slots
      → hits img site head task slot ≡ true
      → later img site head task.id.r task.transfer.eot
      < ahead img site head task.id.r task.transfer.eot
  unfolding later ahead
  found task slot w h t =
      let r = task.id.r in
      let eot = task.transfer.eot in
      let e = hit_number task slot t in
      let here : near r eot (slot_of img site head slot).id.r ≡ true = rw e (near_self r eot w.0) in
      by_test (eqb r eot) (λ n. n < count (λ i. near r eot (slot_of img site head i).id.r) site.disk.slots) _ _
      (λ l. count_pos _ slot site.disk.slots here h)
      (λ l. count_less _ _ (λ i a. near_next r eot _ w.0 w.1 (eqb-false r eot l) a) slot
      (rw e (near_gone r eot w.0 w.1 (eqb-false r eot l))) here site.disk.slots h)

-- the arithmetic of the costs
module _ (g : Geometry) (mt : Bool) (side : ℕ) where
  rest_0 : (n : ℕ) → turns_left mt side ≡ 0 → rest_of g mt side n ≡ n * cost g
  unfolding rest_of
  rest_0 n e = rw e (omega arith)

  rest_1 : (n : ℕ) → turns_left mt side ≡ 1 → rest_of g mt side n ≡ g.slots * cost g + cost g + n * cost g
  unfolding rest_of
  rest_1 n e = rw e (omega arith)

  -- a sector fewer to come is one cost less
  rest_less : (n m : ℕ) → n < m → rest_of g mt side n + cost g ≤ rest_of g mt side m
  unfolding rest_of
  rest_less n m h = omega (arith, mul-le-mul_right (cost g) h)

  turns_le : turns_left mt side ≤ 1
  unfolding turns_left
  turns_le = bit_le (mt && eqb side 0)

  turns_one : mt ≡ true → side ≡ 0 → turns_left mt side ≡ 1
  unfolding turns_left
  turns_one p q = rw (p, q)

  turns_none : side ≡ 1 → turns_left mt side ≡ 0
  unfolding turns_left
  turns_none e = go mt
    where
      go : (b : Bool) → bit (b && eqb side 0) ≡ 0
      go true = rw e refl
      go false = refl

module _ (img : List ℕ) (head : ℕ) (site : Site) (task : Task) where
  -- a match pays for its sector
  paid : (slot : ℕ) → ProperTask task → slot < site.disk.slots → hits img site head task slot ≡ true
      → later_of img site head task + (2 * site.disk.slots + sector_bytes site + 70) ≤ ahead_of img site head task
  paid slot w h t = omega (
    arith,
    cost_is site.disk,
    rest_less site.disk task.transfer.mt site.side _ _ (found img site head task slot w h t),
  )

  search_cost : ahead_of img site head task + 2 * site.disk.slots < bound_of site.disk
  unfolding rest_of
  search_cost =
      let K = cost site.disk in
      let S = site.disk.slots in
      let side = turns_left task.transfer.mt site.side in
      let n = ahead img site head task.id.r task.transfer.eot in
      let t : side * ((S + 1) * K) ≤ 1 * ((S + 1) * K) = mul-le-mul_right ((S + 1) * K) (turns_le site.disk
      task.transfer.mt site.side) in
      let a : n * K ≤ S * K = mul-le-mul_right K (ahead_le img site head task.id.r task.transfer.eot) in
      omega (arith, bound_is site.disk, cost_is site.disk)

  -- a command that is not over has ticks left
  stage_pos : (stage : Stage) → ProperStage site stage → 0 < stage_left img head site task stage
  unfolding stage_left
  stage_pos (Searching look) w = omega arith
  stage_pos (Turning slot) w = omega arith
  stage_pos (Reading sector done) w = omega arith
  stage_pos (Draining sector looks) w = omega arith
  stage_pos (Awaiting slot wait) w = omega arith
  stage_pos (Storing slot done) w = omega arith

form_cost : (site : Site) → form_left site (form.Awaiting 0 0) < bound_of site.disk
unfolding bound_of form_left
form_cost site =
    let l : site.disk.slots - 1 - 0 ≤ site.disk.slots = omega arith in
    omega (arith, mul-le-mul_right (sector_bytes site + 71) l)

form_pos : (site : Site) (f : Form) → ProperForm site f → 0 < form_left site f
unfolding form_left
form_pos site (form.Awaiting slot wait) w = omega arith
form_pos site (Addressing slot k) w = omega arith
form_pos site (Filling slot done) w = omega arith
form_pos site (Clearing slot) w = omega arith

pub work_pos : (img : List ℕ) (head : ℕ) (work : Work) → ProperWork work → 0 < work_left img head work
unfolding work_left
work_pos img head (Identifying site slot round) w = omega arith
work_pos img head (Moving site task stage) w = stage_pos img head site task stage w.1
work_pos img head (Formatting site plan form) w = form_pos site form w.1

-- a Write stores marks and data only: the addresses of the track stay
module _ (img : List ℕ) (head : ℕ) (site : Site) where
  Kept : List ℕ → Type 0
  Kept jmg = (i : ℕ) → (slot_of jmg site head i).id.r ≡ (slot_of img site head i).id.r

  put_apart : (slot k i at byte : ℕ) → at ≡ mark_place site head slot + k → k < slot_length site.disk → (k ≡ 3 → ⊥)
      → (slot_of (set img at byte) site head i).id.r ≡ (slot_of img site head i).id.r
  unfolding mark_place offset_of
  put_apart slot k i at byte e h n =
      get_or-set_other img at _ byte 0
      (λ p. n (row_once (slot_length site.disk) slot i k 3 h (omega arith) (omega arith)).1)

  mark_apart : (slot byte : ℕ) → Kept (set img (mark_place site head slot) byte)
  unfolding Kept
  mark_apart slot byte i = put_apart slot 0 i _ byte (omega arith) (omega arith) (λ e. omega arith)

  data_apart : (slot done byte : ℕ) → done < sector_bytes site → Kept (set img (data_place site head slot done) byte)
  unfolding Kept data_place
  data_apart slot done byte h i = put_apart slot (5 + done) i _ byte (omega arith) (omega arith) (λ e. omega arith)

  module _ (jmg : List ℕ) (same : Kept jmg) where
    ahead_same : (r eot : ℕ) → ahead jmg site head r eot ≡ ahead img site head r eot
    unfolding ahead Kept
    ahead_same r eot = count_ext _ _ (λ i. rw (same i)) site.disk.slots

    later_same : (r eot : ℕ) → later jmg site head r eot ≡ later img site head r eot
    unfolding later
    later_same r eot = rw (ahead_same (on_by_one r) eot)

    stage_same : (task : Task) (stage : Stage) → stage_left jmg head site task stage ≡ stage_left img head site task stage
    unfolding stage_left
    stage_same task (Searching look) = rw (ahead_same task.id.r task.transfer.eot)
    stage_same task (Turning slot) = refl
    stage_same task (Reading sector done) = rw (later_same task.id.r task.transfer.eot)
    stage_same task (Draining sector looks) = rw (later_same task.id.r task.transfer.eot)
    stage_same task (Awaiting slot wait) = rw (later_same task.id.r task.transfer.eot)
    stage_same task (Storing slot done) = rw (later_same task.id.r task.transfer.eot)

next_slot_below : (slot slots : ℕ) → 0 < slots → next_slot slot slots < slots
next_slot_below slot slots h =
    by_test (ltb (slot + 1) slots) (λ n. n < slots) _ _ (λ t. ltb-true _ _ t) (λ t. h)

-- a tick that ends the command
end_falls : (g : Geometry) (img : List ℕ) (head m : ℕ) (verdict : Verdict) (effect : Effect) → 0 < m
    → Falls g img head m (ends_with verdict effect)
end_falls g img head m verdict effect h = record { less = h; proper = tt }

-- 01 Next
module _ (img : List ℕ) (head slot : ℕ) (site : Site) (task : Task) (fifo : Fifo) (effect : Effect) (tc : Bool) where
  next_left : (o : Step) → NextRule tc slot site task fifo effect o → Kept img head site (stored_in effect img)
      → then_left (stored_in effect img) head o.then ≤ later_of img site head task + 2 * site.disk.slots
  unfolding work_left stage_left
  next_left o (stops v n e) s = rw e (omega arith)
  next_left o (turns t a b c e) s =
      rw (e, later_last img site head task.id.r task.transfer.eot a)
      (omega (
        arith,
        rest_1 site.disk task.transfer.mt site.side 0
            (turns_one site.disk task.transfer.mt site.side b c),
        cost_is site.disk,
      ))
  next_left o (steps t n e) s =
      rw (
        e,
        advanced_below task.id task.transfer.eot task.transfer.mt site.side 1 n,
        ahead_same img head site (stored_in effect img) s (on_by_one task.id.r) task.transfer.eot,
        later_step img site head task.id.r task.transfer.eot n,
      )
      (omega arith)

  next_proper : (o : Step) → NextRule tc slot site task fifo effect o → ProperTask task → 0 < site.disk.slots
      → ProperThen site.disk o.then
  next_proper o (stops v n e) w h = rw e tt
  next_proper o (turns t a b c e) w h =
      rw e (
        refl,
        (
          (
            omega (arith, advanced_r_at_eot task.id task.transfer.eot task.transfer.mt site.side 1 a),
            w.1,
          ),
          (next_slot_below slot site.disk.slots h, refl),
        ),
      )
  next_proper o (steps t n e) w h =
      rw e (
        refl,
        (
          (
            rw (advanced_below task.id task.transfer.eot task.transfer.mt site.side 1 n) (omega arith),
            w.1,
          ),
          (next_slot_below slot site.disk.slots h, omega arith),
        ),
      )

  next_falls : (m : ℕ) (o : Step) → NextRule tc slot site task fifo effect o → ProperTask task → 0 < site.disk.slots
      → Kept img head site (stored_in effect img) → later_of img site head task + 2 * site.disk.slots < m
      → o.effect ≡ effect → Falls site.disk img head m o
  next_falls m o r w h s l e = record {
    less = rw e (omega (arith, next_left o r s));
    proper = next_proper o r w h;
  }

  next_effect : (o : Step) → NextRule tc slot site task fifo effect o → o.effect ≡ effect
  next_effect o (stops v n e) = ap (λ (s : Step). s.effect) e
  next_effect o (turns t a b c e) = ap (λ (s : Step). s.effect) e
  next_effect o (steps t n e) = ap (λ (s : Step). s.effect) e

-- every tick of a transfer
module _ (head : ℕ) (img : List ℕ) (efifo : Bool) (fifothr : ℕ) (site : Site) (task : Task) (fifo : Fifo)
    (some : 0 < site.disk.slots) (w : ProperTask task) where
  all_kept : Kept img head site img
  unfolding Kept
  all_kept i = refl

  rule_falls : (stage : Stage) (o : Step) → Rule head img efifo fifothr site task fifo stage o → ProperStage site stage
      → Falls site.disk img head (stage_left img head site task stage) o
  unfolding work_left stage_left
  rule_falls stage o (not_found look verdict p h l k x y f e) q =
      rw e (end_falls _ img head _ verdict None (stage_pos img head site task stage q))
  rule_falls stage o (no_data look verdict p h k m f e) q =
      rw e (end_falls _ img head _ verdict None (stage_pos img head site task stage q))
  rule_falls stage o (no_side slot verdict p ns f e) q =
      rw e (end_falls _ img head _ verdict None (stage_pos img head site task stage q))
  rule_falls stage o (late verdict f l x e) q =
      rw e (end_falls _ img head _ verdict None (stage_pos img head site task stage q))
  rule_falls stage o (misses look on p h l a b e) q =
      let q' = rw p at q in
      rw (e, p) (record { less = rw (a, b) (omega arith); proper = (refl, (w, (omega arith, omega arith))) })
  rule_falls stage o (passes look on p h l z a b e) q =
      let q' = rw p at q in
      rw (e, p) (record { less = rw (a, b, z) (omega arith); proper = (refl, (w, (omega arith, omega arith))) })
  rule_falls stage o (to_write look p h k e) q =
      let q' = rw p at q in
      rw (e, p) (record {
        less = omega (arith, paid img head site task look.slot w q'.0 h);
        proper = (refl, (w, (q'.0, omega arith)));
      })
  rule_falls stage o (to_read look deleted broken other p h k m n ns e) q =
      let q' = rw p at q in
      rw (e, p) (record {
        less = omega (arith, paid img head site task look.slot w q'.0 h);
        proper = (refl, (w, (q'.0, omega (arith, size_ge site.disk.n))));
      })
  rule_falls stage o (skips look deleted broken p h k m n z r) q =
      let q' = rw p at q in
      rw p (next_falls img head look.slot site _ fifo None _ _ o r w some all_kept
      (omega (arith, paid img head site task look.slot w q'.0 h))
      (next_effect img head look.slot site _ fifo None _ o r))
  rule_falls stage o (turned_over slot p e) q =
      let q' = rw p at q in
      let K = cost site.disk in
      let S = site.disk.slots in
      let n = ahead img site head task.id.r task.transfer.eot in
      let a : n * K ≤ S * K = mul-le-mul_right K (ahead_le img site head task.id.r task.transfer.eot) in
      rw (e, p) (record {
        less = omega (
          arith,
          rest_0 site.disk task.transfer.mt site.side n
              (turns_none site.disk task.transfer.mt site.side q'.1),
        );
        proper = (refl, (w, (q'.0, omega arith)));
      })
  rule_falls stage o (waits slot wait p l e) q =
      let q' = rw p at q in
      rw (e, p) (record { less = omega arith; proper = (refl, (w, (q'.0, omega arith))) })
  rule_falls stage o (begins slot wait p l e) q =
      let q' = rw p at q in
      rw (e, p) (record {
        less = rw (later_same img head site _ (mark_apart img head site slot (written_mark true task)) task.id.r
            task.transfer.eot)
            (omega arith);
        proper = (refl, (w, (q'.0, omega arith)));
      })
  rule_falls stage o (puts slot done p l k e) q =
      let q' = rw p at q in
      rw (e, p) (record {
        less = rw (later_same img head site _ (data_apart img head site slot done (front_of fifo) l) task.id.r
            task.transfer.eot) (omega arith);
        proper = (refl, (w, (q'.0, omega arith)));
      })
  rule_falls stage o (pads slot done p l k t e) q =
      let q' = rw p at q in
      rw (e, p) (record {
        less = rw (later_same img head site _ (data_apart img head site slot done 0x00 l) task.id.r
            task.transfer.eot) (omega arith);
        proper = (refl, (w, (q'.0, omega arith)));
      })
  rule_falls stage o (dries slot done p l k t e) q =
      let q' = rw p at q in
      rw (e, p) (record {
        less = rw (later_same img head site _ (data_apart img head site slot done 0x00 l) task.id.r
            task.transfer.eot) (omega arith);
        proper = (refl, (w, (q'.0, omega arith)));
      })
  rule_falls stage o (ends_short slot done verdict p l x y f e) q =
      rw e (end_falls _ img head _ verdict _ (stage_pos img head site task stage q))
  rule_falls stage o (finishes slot done p l x r) q =
      let q' = rw p at q in
      rw p (next_falls img head slot site task fifo _ _ _ o r w some
      (mark_apart img head site slot (written_mark false task))
      (omega arith) (next_effect img head slot site task fifo _ _ o r))
  rule_falls stage o (moves sector done f p l x e) q =
      let q' = rw p at q in
      rw (e, p) (record { less = omega arith; proper = (refl, (w, (q'.0, l))) })
  rule_falls stage o (moves_last sector done f p l x e) q =
      let q' = rw p at q in
      rw (e, p) (record { less = omega arith; proper = (refl, (w, (q'.0, omega arith))) })
  rule_falls stage o (overruns sector done p l x y e) q =
      let q' = rw p at q in
      rw (e, p) (record { less = omega arith; proper = (refl, (w, (q'.0, l))) })
  rule_falls stage o (overruns_last sector done p l x y e) q =
      let q' = rw p at q in
      rw (e, p) (record { less = omega arith; proper = (refl, (w, (q'.0, omega arith))) })
  rule_falls stage o (drains sector looks p l e) q =
      let q' = rw p at q in
      rw (e, p) (record { less = omega arith; proper = (refl, (w, (q'.0, omega arith))) })
  rule_falls stage o (data_error sector looks verdict p b s f e) q =
      rw e (end_falls _ img head _ verdict None (stage_pos img head site task stage q))
  rule_falls stage o (ends_late sector looks verdict p b x v e) q =
      rw e (end_falls _ img head _ verdict None (stage_pos img head site task stage q))
  rule_falls stage o (other_kind sector looks verdict p b x z ok os v zc e) q =
      rw e (end_falls _ img head _ verdict None (stage_pos img head site task stage q))
  rule_falls stage o (drained sector looks p b x ok zc r) q =
      let q' = rw p at q in
      rw p (next_falls img head sector.slot site task fifo None _ _ o r w some all_kept
      (omega arith) (next_effect img head sector.slot site task fifo None _ o r))

-- 01 Read ID
module _ (img : List ℕ) (head : ℕ) (site : Site) (fifo : Fifo) (slot round : ℕ)
    (w : ProperWork (Identifying site slot round))
  where
    abbrev IdFalls : Step → Type 0
    IdFalls o = Falls site.disk img head (work_left img head (Identifying site slot round)) o

    id_ends : (verdict : Verdict) → IdFalls (ends_with verdict None)
    id_ends verdict =
        end_falls site.disk img head _ verdict None (work_pos img head (Identifying site slot round) w)

    no_id_falls : IdFalls (no_id_here slot round site fifo)
    unfolding no_id_here no_id_of end_of work_left
    no_id_falls =
        by_test (second_pass slot slots round) IdFalls _ _
        (λ t. id_ends _)
        (λ t. go (leb slots (slot + 1)) refl (leb 1 round) refl t)
      where
        slots : ℕ
        slots = site.disk.slots

        go : (a : Bool) → leb slots (slot + 1) ≡ a → (b : Bool) → leb 1 round ≡ b → (a && b) ≡ false
            → IdFalls (goes_of (Identifying site (next_slot slot slots) (passes_after slot slots round)) fifo None)
        go true l b m t =
            let k = leb-true slots (slot + 1) l in
            let m' : leb 1 round ≡ false = m ∙ t in
            let z : round ≡ 0 = omega (arith, leb-false 1 round m') in
            rw (l, le-ltb (slot + 1) slots k)
            (record { less = rw z (omega arith); proper = (refl, (omega arith, omega arith)) })
        go false l b m t =
            let k = leb-false slots (slot + 1) l in
            rw (l, lt-ltb (slot + 1) slots k)
            (record { less = omega arith; proper = (refl, (k, w.1)) })

    identified_falls : (mark : Mark) (id : Id) → IdFalls (identified_of mark id slot round site fifo)
    unfolding identified_of id_here end_of
    identified_falls NoId id = no_id_falls
    identified_falls (Data deleted broken) id = id_ends _
    identified_falls NoData id = id_ends _

-- 01 Format
more_slots : (slots slot w : ℕ) → slot + 1 < slots → (slots - 1 - slot) * w ≡ (slots - 1 - (slot + 1)) * w + w
more_slots slots slot w h =
    let e : slots - 1 - slot ≡ suc (slots - 1 - (slot + 1)) = omega arith in
    rw e (omega arith)

module _ (img : List ℕ) (head : ℕ) (site : Site) (plan : Plan) (fifo : Fifo) (sc : plan.sc ≤ site.disk.slots) where
  abbrev FormFalls : Form → Step → Type 0
  FormFalls f o = Falls site.disk img head (form_left site f) o

  form_ends : (f : Form) (verdict : Verdict) (effect : Effect) → ProperForm site f
      → FormFalls f (ends_with verdict effect)
  form_ends f verdict effect w = end_falls site.disk img head _ verdict effect (form_pos site f w)

  -- from one stage to another, with fewer ticks left there
  form_goes : (f f' : Form) (fifo' : Fifo) (effect : Effect) → form_left site f' < form_left site f → ProperForm site f'
      → FormFalls f (forms_of f' site plan fifo' effect)
  unfolding work_left
  form_goes f f' fifo' effect l w = record { less = l; proper = (refl, (sc, w)) }

  await_falls : (slot wait : ℕ) → ProperForm site (form.Awaiting slot wait)
      → FormFalls (form.Awaiting slot wait) (form_await slot wait site plan head fifo)
  unfolding form_await format_end end_of form_left
  await_falls slot wait w =
      by_test (eqb fifo.count 0) (FormFalls (form.Awaiting slot wait)) _ _
      (λ t. by_test (leb 63 wait) (FormFalls (form.Awaiting slot wait)) _ _
      (λ u. form_ends (form.Awaiting slot wait) _ None w)
      (λ u. let l = leb-false 63 wait u in
      form_goes (form.Awaiting slot wait) (form.Awaiting slot (wait + 1)) fifo None (omega arith)
      (w.0, omega arith)))
      (λ t. form_goes (form.Awaiting slot wait) (Addressing slot 0) fifo _ (omega arith) w.0)

  put_falls : (slot k : ℕ) (fifo' : Fifo) (effect : Effect) → ProperForm site (Addressing slot k)
      → FormFalls (Addressing slot k) (address_put slot k site plan fifo' effect)
  unfolding address_put form_left
  put_falls slot k fifo' effect w =
      by_test (leb 3 k) (FormFalls (Addressing slot k)) _ _
      (λ t. form_goes (Addressing slot k) (Filling slot 0) fifo' effect (omega arith) w)
      (λ t. let l = leb-false 3 k t in
      form_goes (Addressing slot k) (Addressing slot (k + 1)) fifo' effect (omega arith) w)

  address_falls : (slot k : ℕ) (efifo : Bool) (fifothr : ℕ) → ProperForm site (Addressing slot k)
      → FormFalls (Addressing slot k) (address_of slot k site plan head fifo efifo fifothr)
  unfolding address_of format_end end_of
  address_falls slot k efifo fifothr w =
      by_test (eqb fifo.count 0) (FormFalls (Addressing slot k)) _ _
      (λ t. form_ends (Addressing slot k) _ None w)
      (λ t. put_falls slot k _ _ w)

  clear_on_falls : (f : Form) (slot : ℕ) (effect : Effect) → ProperForm site f
      → (slot + 1 < site.disk.slots → site.disk.slots - (slot + 1) < form_left site f)
      → FormFalls f (clear_on slot site plan head fifo effect)
  unfolding clear_on format_end end_of form_left
  clear_on_falls f slot effect w l =
      by_test (ltb (slot + 1) site.disk.slots) (FormFalls f) _ _
      (λ t. let k = ltb-true (slot + 1) site.disk.slots t in form_goes f (Clearing (slot + 1)) fifo effect (l k) k)
      (λ t. form_ends f _ effect w)

  formed_falls : (slot done : ℕ) (effect : Effect) → ProperForm site (Filling slot done)
      → FormFalls (Filling slot done) (formed_of slot site plan head fifo effect)
  unfolding formed_of form_left
  formed_falls slot done effect w =
      let slots = site.disk.slots in
      let b = sector_bytes site + 71 in
      let b_pos : 0 < b = omega arith in
      by_test (ltb (slot + 1) plan.sc) (FormFalls (Filling slot done)) _ _
      (λ t. let k : slot + 1 < slots = omega (arith, ltb-true (slot + 1) plan.sc t) in
      form_goes (Filling slot done) (form.Awaiting (slot + 1) 0) fifo effect
      (omega (arith, more_slots slots slot b k)) (k, omega arith))
      (λ t. clear_on_falls (Filling slot done) slot effect w
      (λ k. omega (arith, le-mul_of_pos_right (slots - 1 - slot) b_pos)))

  fill_falls : (slot done : ℕ) (efifo : Bool) (fifothr : ℕ) → ProperForm site (Filling slot done)
      → FormFalls (Filling slot done) (fill_of slot done site plan head fifo efifo fifothr)
  unfolding fill_of form_left
  fill_falls slot done efifo fifothr w =
      by_test (leb (sector_bytes site) done) (FormFalls (Filling slot done)) _ _
      (λ t. formed_falls slot done _ w)
      (λ t. let l = leb-false (sector_bytes site) done t in
      form_goes (Filling slot done) (Filling slot (done + 1)) fifo _ (omega arith) w)

  form_falls : (f : Form) (efifo : Bool) (fifothr : ℕ) → ProperForm site f
      → FormFalls f (form_of f site plan head fifo efifo fifothr)
  unfolding form_of clear_of form_left
  form_falls (form.Awaiting slot wait) efifo fifothr w = await_falls slot wait w
  form_falls (Addressing slot k) efifo fifothr w = address_falls slot k efifo fifothr w
  form_falls (Filling slot done) efifo fifothr w = fill_falls slot done efifo fifothr w
  form_falls (Clearing slot) efifo fifothr w = clear_on_falls (Clearing slot) slot _ w (λ k. omega arith)

-- a tick after the first, of any work: fewer ticks are left
module _ (img : List ℕ) (head : ℕ) (fifo : Fifo) (efifo : Bool) (fifothr : ℕ) where
  abbrev WorkFalls : Work → Step → Type 0
  WorkFalls work o = Falls (site_of work).disk img head (work_left img head work) o

  lost_falls : (work : Work) → ProperWork work → WorkFalls work (lost_of work head)
  unfolding lost_of no_id_of move_fails move_end format_end end_of
  lost_falls (Identifying site slot round) w =
      end_falls _ img head _ _ None (work_pos img head (Identifying site slot round) w)
  lost_falls (Moving site task stage) w =
      end_falls _ img head _ _ None (work_pos img head (Moving site task stage) w)
  lost_falls (Formatting site plan form) w =
      end_falls _ img head _ _ None (work_pos img head (Formatting site plan form) w)

  work_falls : (work : Work) → 0 < (site_of work).disk.slots → ProperWork work
      → WorkFalls work (work_step work head img fifo efifo fifothr)
  unfolding work_step identify_of work_left
  work_falls (Identifying site slot round) some w = identified_falls img head site fifo slot round w _ _
  work_falls (Moving site task stage) some w =
      rule_falls head img efifo fifothr site task fifo some w.0 stage _
      (transfer_rule head img efifo fifothr site task fifo stage) w.1
  work_falls (Formatting site plan form) some w = form_falls img head site plan fifo w.0 form efifo fifothr w.1

  pub go_on_falls : (work : Work) (disk : Disk) → 0 < (site_of work).disk.slots → ProperWork work
      → WorkFalls work (go_on_of work disk head img fifo efifo fifothr)
  unfolding go_on_of
  go_on_falls work disk some w =
      by_test (stays_of disk (site_of work).disk) (WorkFalls work) _ _
      (λ t. work_falls work some w)
      (λ t. lost_falls work w)

-- 01 End: the first tick, of any order: fewer than the bound are left
module _ (g : Geometry) (img : List ℕ) (head : ℕ) (fifo : Fifo) (drive side : ℕ) (some : 0 < g.slots) where
  abbrev FirstFalls : Step → Type 0
  FirstFalls o = Falls g img head (bound_of g) o

  bound_pos : 0 < bound_of g
  bound_pos = omega (arith, bound_is g, cost_is g)

  first_site : Site
  first_site = record { drive = drive; side = side; disk = g }

  moving_falls : (pass : Pass) (transfer : Transfer) (id : Id) → id.r < 256 → transfer.eot < 256
      → FirstFalls (moving_of pass transfer id first_site fifo)
  unfolding moving_of work_left stage_left first_site
  moving_falls Read transfer id r eot = record {
    less = omega (arith, search_cost img head first_site (task_of transfer id));
    proper = (refl, ((r, eot), (some, omega arith)));
  }
  moving_falls Write transfer id r eot = record {
    less = omega (arith, search_cost img head first_site (task_of transfer id));
    proper = (refl, ((r, eot), (some, omega arith)));
  }

  start_falls : (job : Job) → ProperJob job → misplanned job g ≡ false → FirstFalls (start_job job first_site fifo)
  unfolding start_job work_left first_site
  start_falls Identify p m =
      record { less = omega (arith, bound_is g, cost_is g); proper = (refl, (some, omega arith)) }
  start_falls (Move transfer id) p m = moving_falls transfer.pass transfer id p.0 p.1
  start_falls (Format plan) p m =
      let wrong = not (eqb plan.n g.n) || eqb plan.sc 0 in
      let l : plan.sc ≤ g.slots = ltb-false g.slots plan.sc (or_right wrong (ltb g.slots plan.sc) m) in
      record { less = form_cost first_site; proper = (refl, (l, (some, omega arith))) }

  entered_falls : (job : Job) → ProperJob job
      → FirstFalls (entered_of (gate_of (Some g) job side head) job drive side head fifo)
  unfolding gate_of entered_of end_of first_site
  entered_falls job p =
      by_test (not (has_track g head side)) (λ gate. FirstFalls (entered_of gate job drive side head fifo)) _ _
      (λ t. end_falls g img head _ _ None bound_pos)
      (λ t. by_test (changes job && g.protect) (λ gate. FirstFalls (entered_of gate job drive side head fifo)) _ _
      (λ u. end_falls g img head _ _ None bound_pos)
      (λ u. by_test (misplanned job g) (λ gate. FirstFalls (entered_of gate job drive side head fifo)) _ _
      (λ m. end_falls g img head _ _ None bound_pos)
      (λ m. start_falls job p m)))

  pub begin_falls : (order : Order) → order.drive ≡ drive → order.side ≡ side → ProperJob order.job → (disk : Disk)
      → (disk ≡ None) ⊎ (disk ≡ Some g) → FirstFalls (begin_of order disk head fifo)
  unfolding begin_of gate_of entered_of end_of
  begin_falls order d s p disk (inl e) = rw e (end_falls g img head _ _ None bound_pos)
  begin_falls order d s p disk (inr e) = rw (e, d, s) (entered_falls order.job p)
