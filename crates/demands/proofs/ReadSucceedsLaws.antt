-- A read that is served promptly on a good disk ends with success (specs/ReadSucceeds), over every list of calls: each
-- tick and each byte taken keeps the command on its course through the sectors 0 to `last`.
-- Assumes nothing.
use Rattle.std.specs.Prelude.{None, Some}
use Prim.Native.Nat.{ℕ, suc, ◌+◌, ◌*◌, ◌%◌, ◌≤◌, ◌<◌}
use native.Mathlib.Nat.{mod-eq_of_lt, mul-le-mul_right}
use native.Mathlib.Omega.{arith}
use mathlib.Core.Bool.{Bool, true, false, true≢false, false≢true}
use mathlib.Core.List.{List, [], ◌∷◌}
use mathlib.Core.Logic.{◌⊎◌, inl, inr}
use mathlib.Core.Path.{◌≡◌, refl, sym, ap, ◌∙◌, subst}
use lib.ListN.{length, get_or}
use borrow.Author.Tests.{eq-eqb, lt-ltb}
use Rattle.image.specs.declared.layout.Geometry.{Geometry}
use Rattle.image.specs.declared.mark.Mark.TheVariants.{Data}
use Rattle.image.specs.declared.slot.Id.{Id}
use Rattle.image.specs.Disk.{disk_in}
use Rattle.image.specs.Layout.{size_of, offset_of, Has}
use Rattle.image.specs.Lent.{pick_of}
use Rattle.image.specs.Mark.{mark_of}
use Rattle.image.specs.Slot.{id_at}
use Rattle.image.specs.Sound.{Sound}
use Rattle.image.proofs.DiskLaws.{fits_present}
use Rattle.image.proofs.MarkLaws.{mark_of_byte}
use Rattle.image.proofs.TestLaws.{both, le_or_lt}
use Rattle.chip.specs.declared.fifo.Fifo.{Fifo}
use Rattle.chip.specs.Fifo.{emptied, front_of, taken_of}
use Rattle.chip.specs.Fifo.{FitsFifo}
use Rattle.sectors.specs.declared.order.Job.TheVariants.{Move}
use Rattle.sectors.specs.declared.order.Order.{Order}
use Rattle.sectors.specs.declared.order.Pass.{Pass}
use Rattle.sectors.specs.declared.order.Pass.TheVariants.{Read}
use Rattle.sectors.specs.declared.order.Transfer.{Transfer}
use Rattle.sectors.specs.declared.work.Sector.{Sector}
use Rattle.sectors.specs.declared.work.Site.{Site}
use Rattle.sectors.specs.declared.work.Stage.{Stage}
use Rattle.sectors.specs.declared.work.Stage.TheVariants.{Searching, Turning, Reading, Draining, Awaiting, Storing}
use Rattle.sectors.specs.declared.work.Step.{Step}
use Rattle.sectors.specs.declared.work.Task.{Task}
use Rattle.sectors.specs.declared.work.Verdict.{Verdict}
use Rattle.sectors.specs.declared.work.Work.TheVariants.{Moving}
use Rattle.sectors.specs.Follow.{fresh_at}
use Rattle.sectors.specs.Result.{moves_of}
use Rattle.sectors.specs.Search.{matches}
use Rattle.sectors.specs.Track.{has_track, stays_of, mark_place, data_place, next_slot}
use Rattle.engine.specs.First.{gate_of, task_of, moving_of, start_job, entered_of, begin_of}
use Rattle.engine.specs.Step.{from_host, stage_of, work_step, go_on_of, pass_flow}
use Rattle.fdc.specs.declared.record.Controller.{Controller}
use Rattle.fdc.specs.declared.record.Phase.{Phase}
use Rattle.fdc.specs.declared.record.Phase.TheVariants.{Starting, Working}
use Rattle.fdc.specs.Commands.{answered_of}
use Rattle.fdc.specs.Data.{phase_from_host}
use Rattle.reached.specs.Good.{Suits}
use Rattle.reached.specs.Moves.{Calm, tick_count}
use Rattle.fdc.specs.Record.{drive_at, with_fifo, with_phase}
use Rattle.fdc.specs.Registers.{motor_in}
use Rattle.reached.specs.Runs.{Call, reads, ticks, after}
use Rattle.fdc.specs.Ticks.{seen_of, settled_of, decided_of, ruled_of, image_after}
use Rattle.demands.specs.DataError.{Spins}
use Rattle.demands.specs.EndsInTime.{bound_of}
use Rattle.demands.specs.HandedOver.{Taken, untaken, took_one, taken_by}
use Rattle.demands.specs.InTime.{Late, Timely, AtTick, AtTicks, InTime}
use Rattle.demands.specs.PowerCut.{Aim, aim_no, head_of}
use Rattle.demands.specs.Quiet.{Quiet}
use Rattle.demands.specs.ReadSucceeds.{AsTaken, TellsAt, AllGood, ReadSucceeds, ReadSucceedsInTime, UntoldRead}
use Rattle.demands.specs.ReadSucceeds.{ReadReachesEot}
use Rattle.demands.specs.Succeeds.{Fill, EndedAt, LastOne}
use Rattle.demands.specs.Work.{Real, at_work, image_by, Handed, Alone, Anyhow, EndsWith}
use Rattle.demands.proofs.AddressLaws.{onward_turn, onward_stay}
use Rattle.demands.proofs.CallLaws.{tick_starts, tick_works, call_rule, calm_keeps, taken_rule}
use Rattle.demands.proofs.CallRules.{NoTick, MayTake, FifoRule, same, took, gave, TakenRule, none_taken}
use Rattle.demands.proofs.SplitLaws.{taking_or_not, image_same, none_handed}
use Rattle.demands.proofs.CallRules.{one_taken, Keeps, CallRule, cut_off, goes_on_lem}
use Rattle.demands.proofs.CutLaws.{marked_counts, matches_id, next_slot_below}
use Rattle.demands.proofs.CourseLaws.{same_geometry, tick_record, tick_head, tick_image, low_drive}
use Rattle.demands.proofs.EndsLaws.{ends_in_time_quiet}
use Rattle.demands.proofs.FollowLaws.{site_at, data≢none, read≢write, mark_kind}
use Rattle.demands.proofs.HandedOverLaws.{done_in}
use Rattle.demands.proofs.HandedStream.{AsksSome, some_emptied, some_taken, some_filled, size_some, Flow, flows}
use Rattle.demands.proofs.HandedStream.{ended, flow_fresh, flow_next, flow_fill, flow_take}
use Rattle.demands.proofs.InTimeLaws.{prompt_in_time_quiet}
use Rattle.demands.proofs.QuietLaws.{quiet_real, quiet_after}
use Rattle.demands.proofs.SearchLaws.{Ahead, ahead_fresh, ahead_misses, ahead_passes, ahead_found}
use Rattle.demands.proofs.TickRules.{beq_same, marked, hits, ends_with, NextEnds, NextRule, stops, turns, steps}
use Rattle.demands.proofs.TickRules.{Filled, Rule, not_found, no_data, no_side, late, misses, passes, to_write}
use Rattle.demands.proofs.TickRules.{to_read, skips, turned_over, waits, begins, puts, pads, dries, ends_short}
use Rattle.demands.proofs.TickRules.{finishes, moves, overruns, overruns_last, ends_late}
use Rattle.demands.proofs.TickRules.{moves_last, drains, data_error, other_kind, drained, transfer_rule}

-- which of n and last is before: by the bytes
before_last : (p n last got L : ℕ) → got ≡ n * p + p → got < L → L ≤ (last + 1) * p → n < last
before_last p n last got L e l h = go (le_or_lt last n)
  where
    go : (last ≤ n) ⊎ (n < last) → n < last
    go (inl m) =
        let x : last + 1 ≤ n + 1 = omega arith in
        absurd (omega (arith, mul-le-mul_right p x))
    go (inr m) = m

is_last : (p n last got L : ℕ) → got ≤ n * p + p → L ≤ got → last * p < L → n ≤ last → n ≡ last
is_last p n last got L e l h k = go (le_or_lt last n)
  where
    go : (last ≤ n) ⊎ (n < last) → n ≡ last
    go (inl m) = omega arith
    go (inr m) =
        let x : n + 1 ≤ last = omega arith in
        absurd (omega (arith, mul-le-mul_right p x))

-- what is known of a command and its host: `Told` of what the host took so far; the sectors 0 to `last`; and at a
-- sector's end either the next sector is one of these, or it was the last, and `normal` says whether TC came
record Plan (g : Geometry) (cylinder : ℕ) (transfer : Transfer) (aim : Aim) (img : List ℕ) (Told : Taken → Type 0)
    (normal : Bool) (last : ℕ) : Type 0 where
  sound : Sound g img
  reads : transfer.pass ≡ Read
  all : AllGood g img cylinder transfer aim last
  told : (n : ℕ) (t : Taken) → Told t → n ≤ last → t.told ≡ true → length t.got ≤ n * size_of g.n + size_of g.n
      → (n ≡ last) × (normal ≡ true)
  untold : (n : ℕ) (t : Taken) → Told t → n ≤ last → t.told ≡ false
      → length t.got ≡ n * size_of g.n + size_of g.n → (n < last) ⊎ ((n ≡ last) × (normal ≡ false))
  at_eot : normal ≡ false → LastOne transfer (aim_no transfer aim last)

module _ (g : Geometry) (cylinder drive : ℕ) (transfer : Transfer) (aim : Aim) (img : List ℕ) (Told : Taken → Type 0)
    (normal : Bool) (last : ℕ) (plan : Plan g cylinder transfer aim img Told normal last) where
  abbrev P : ℕ
  P = size_of g.n

  abbrev site_no : ℕ → Site
  site_no n = site_at drive (aim_no transfer aim n).side g

  abbrev task_no : ℕ → Task
  task_no n = task_of transfer (aim_no transfer aim n).id

  -- the sector in hand: good, and of the command's kind
  abbrev sector_at : ℕ → Sector
  sector_at slot = record { slot = slot; broken = false; other = false }

  -- on the way to the end of the sector in that slot
  abbrev On : ℕ → Stage → Type 0
  On slot (Searching look) = Ahead g.slots slot look
  On slot (Turning from) = from < g.slots
  On slot (Reading sector done) = (sector ≡ sector_at slot) × (done < P)
  On slot (Draining sector looks) = sector ≡ sector_at slot
  On slot (Awaiting from wait) = ⊥
  On slot (Storing from done) = ⊥

  abbrev bytes_in : Stage → ℕ
  bytes_in stage = done_in g cylinder drive transfer aim img stage

  abbrev Flowing : ℕ → ℕ → Fifo → Taken → Type 0
  Flowing n done f t = Flow g cylinder transfer aim img (λ j. j) false n done f t

  -- at sector number n
  record Course (n : ℕ) (stage : Stage) (f : Fifo) (t : Taken) : Type 0 where
    within : n ≤ last
    on : On (plan.all.good n within).stands.slot stage
    asks : AsksSome f
    flow : Flowing n (bytes_in stage) f t

  -- what a tick gives
  data Gives (t : Taken) (o : Step) : Type 0 where
    goes : (n : ℕ) (stage : Stage) (f : Fifo) → Course n stage f t → o ≡ moves_of stage (site_no n) (task_no n) f None
        → Gives t o
    ends : (verdict : Verdict) → NextEnds normal (site_no last) (task_no last) verdict → o ≡ ends_with verdict None
        → Gives t o

  -- The sector number n on the disk.
  module _ (n : ℕ) (l : n ≤ last) where
    abbrev now : Aim
    now = aim_no transfer aim n

    abbrev slot : ℕ
    slot = (plan.all.good n l).stands.slot

    abbrev has : Has g cylinder now.side slot
    has = (plan.all.good n l).stands.has

    mark_there : mark_of (get_or img (offset_of g cylinder now.side slot) 0) ≡ Data transfer.deleted false
    mark_there =
        ap (λ (k : ℕ). mark_of (get_or img k 0)) (sym (plan.all.good n l).stands.place) ∙ ap mark_of (plan.all.good n l).mark
        ∙ mark_of_byte (Data transfer.deleted false)

    id_there : id_at img (offset_of g cylinder now.side slot) ≡ now.id
    id_there = ap (id_at img) (sym (plan.all.good n l).stands.place) ∙ (plan.all.good n l).stands.address

    hit : hits img (site_no n) cylinder (task_no n) slot ≡ true
    unfolding mark_place
    hit =
        simp (
          mark_there,
          eq-eqb _ _ (ap (λ (i : Id). i.c) id_there),
          eq-eqb _ _ (ap (λ (i : Id). i.h) id_there),
          eq-eqb _ _ (ap (λ (i : Id). i.r) id_there),
          eq-eqb _ _ (ap (λ (i : Id). i.n) id_there),
          eq-eqb _ _ (ap (λ (i : Id). i.n) id_there ∙ (plan.all.good n l).stands.size),
        )

    -- 01 Image sound: no other slot of the track matches
    only : (k : ℕ) → k < g.slots → hits img (site_no n) cylinder (task_no n) k ≡ true → k ≡ slot
    unfolding mark_place
    only k lk m =
        let at : ℕ = offset_of g cylinder now.side k in
        let (is, eq) = both (marked (mark_of (get_or img at 0))) (matches (id_at img at) now.id g.n) m in
        let e : id_at img at ≡ id_at img (offset_of g cylinder now.side slot) =
        (matches_id (id_at img at) now.id g.n eq).0 ∙ sym id_there in
        go (le_or_lt k slot) (le_or_lt slot k) (marked_counts _ is).0 e
      where
        has_k : Has g cylinder now.side k
        has_k = record { on_disk = has.on_disk; on_cylinder = has.on_cylinder; on_track = lk }

        some : 0 < get_or img (offset_of g cylinder now.side slot) 0
        some = rw (plan.all.good n l).stands.place at (plan.all.good n l).stands.marked.0

        go : (k ≤ slot) ⊎ (slot < k) → (slot ≤ k) ⊎ (k < slot) → 0 < get_or img (offset_of g cylinder now.side k) 0
            → id_at img (offset_of g cylinder now.side k) ≡ id_at img (offset_of g cylinder now.side slot)
            → k ≡ slot
        go (inl a) (inl b) p e = omega arith
        go (inl a) (inr b) p e = absurd (plan.sound.once cylinder now.side k slot has_k has b p some e)
        go (inr a) b p e = absurd (plan.sound.once cylinder now.side slot k has has_k a some p (sym e))

    mark_here : (k : ℕ) → k < g.slots → hits img (site_no n) cylinder (task_no n) k ≡ true
        → mark_of (get_or img (mark_place (site_no n) cylinder k) 0) ≡ Data transfer.deleted false
    unfolding mark_place
    mark_here k lk m = rw (only k lk m) mark_there

    has_side : has_track g cylinder now.side ≡ true
    unfolding has_track
    has_side = simp (lt-ltb cylinder g.cylinders has.on_disk, lt-ltb now.side g.heads has.on_cylinder)

  -- A tick.
  module _ (efifo : Bool) (fifothr n : ℕ) (stage : Stage) (f : Fifo) (t : Taken) (fit : FitsFifo efifo f)
      (told : Told t) (w : Course n stage f t) (timely : Late efifo (site_no n) (task_no n) f stage → ⊥) where
    abbrev here : ℕ
    here = (plan.all.good n w.within).stands.slot

    abbrev at_now : Has g cylinder (aim_no transfer aim n).side here
    at_now = (plan.all.good n w.within).stands.has

    -- to another stage of the same sector
    to : (stage' : Stage) (f' : Fifo) → On here stage' → AsksSome f' → Flowing n (bytes_in stage') f' t
        → Course n stage' f' t
    to stage' f' o a s = record { within = w.within; on = o; asks = a; flow = s }

    -- 01 Read: one byte further
    fill : (sector : Sector) (done : ℕ) (end : Bool) (f' : Fifo) → sector ≡ sector_at here → done < P
        → Flowing n done f t → Filled cylinder img efifo fifothr (site_no n) f sector done end f'
        → AsksSome f' × Flowing n (done + 1) f' t
    unfolding data_place mark_place
    fill sector done end f' s l fl x =
        let p : get_or img (offset_of g cylinder (aim_no transfer aim n).side sector.slot + 5 + done) 0
        ≡ get_or img ((plan.all.good n w.within).at + 5 + done) 0 =
        ap (λ (k : ℕ). get_or img (k + 5 + done) 0)
        (ap (λ (y : Sector). offset_of g cylinder (aim_no transfer aim n).side y.slot) s
        ∙ sym (plan.all.good n w.within).stands.place) in
        rw x.after (
          some_filled efifo fifothr end _ f w.asks,
          flow_fill g cylinder transfer aim img (λ j. j) efifo false n done f t fit fifothr end _ _ fl l
              (plan.all.good n w.within).stands (λ i before. plan.all.on i (omega (arith, w.within)))
              (λ k. record {
                broken = false;
                is = ap mark_of (plan.all.good n w.within).mark ∙ mark_of_byte (Data transfer.deleted false);
              })
              p x.room,
        )

    -- 01 Next: without TC the next sector is one of the command's, or this was the last
    more : f.tc ≡ false → f.count ≡ 0 → Flowing n P f t → (n < last) ⊎ ((n ≡ last) × (normal ≡ false))
    more u z (flows a b lo sum all) = plan.untold n t told w.within b (omega (arith, sum, z))
    more u z (ended a b none off all lo hi) = absurd (true≢false (sym a ∙ u))

    slots_some : 1 ≤ g.slots
    slots_some = omega (arith, at_now.on_track)

    over_at : (verdict : Verdict) (tc' : Bool) → n ≡ last → tc' ≡ normal → NextEnds tc' (site_no n) (task_no n) verdict
        → NextEnds normal (site_no last) (task_no last) verdict
    over_at verdict tc' q u v = rw (q, u) at v

    next : (o : Step) → f.count ≡ 0 → Flowing n P f t → NextRule f.tc here (site_no n) (task_no n) f None o
        → Gives t o
    next o z fl (stops verdict v e) = go fl
      where
        no_more : f.tc ≡ false → (n < last) ⊎ ((n ≡ last) × (normal ≡ false)) → Gives t o
        no_more u (inl l) = let (m, s) = plan.all.on n l (v.eot u) in absurd (v.no_turn u m s)
        no_more u (inr (q, x)) = ends verdict (over_at verdict f.tc q (u ∙ sym x) v) e

        go : Flowing n P f t → Gives t o
        go (flows a b lo sum all) = no_more a (more a z fl)
        go (ended a b none off all lo hi) =
            let (q, x) = plan.told n t told w.within (b refl) hi in
            ends verdict (over_at verdict f.tc q (a ∙ sym x) v) e
    next o z fl (turns u r m d e) = go (more u z fl)
      where
        go : (n < last) ⊎ ((n ≡ last) × (normal ≡ false)) → Gives t o
        go (inl l) =
            goes (suc n) (Turning (next_slot here g.slots)) f
            (record {
              within = l;
              on = next_slot_below here g.slots slots_some;
              asks = w.asks;
              flow = flow_next g cylinder transfer aim img (λ j. j) fl refl z u;
            })
            (rw (onward_turn transfer (aim_no transfer aim n) r) e)
        go (inr (q, x)) = absurd ((plan.at_eot x).no_turn m (ap (λ (k : ℕ). (aim_no transfer aim k).side) (sym q) ∙ d))
    next o z fl (steps u r e) = go (more u z fl)
      where
        go : (n < last) ⊎ ((n ≡ last) × (normal ≡ false)) → Gives t o
        go (inl l) =
            goes (suc n) (Searching (fresh_at (next_slot here g.slots))) f
            (record {
              within = l;
              on = ahead_fresh g.slots _ _ (next_slot_below here g.slots slots_some);
              asks = w.asks;
              flow = flow_next g cylinder transfer aim img (λ j. j) fl refl z u;
            })
            (rw (onward_stay transfer (aim_no transfer aim n) r) e)
        go (inr (q, x)) = absurd (r (ap (λ (k : ℕ). (aim_no transfer aim k).id.r) q ∙ (plan.at_eot x).eot))

    course_rule : (o : Step) → Rule cylinder img efifo fifothr (site_no n) (task_no n) f stage o → Gives t o
    course_rule o (not_found look verdict p h l k x y v e) =
        let a : Ahead g.slots here look = rw p at w.on in
        absurd
        (ahead_found img (site_no n) cylinder (task_no n) here at_now.on_track (hit n w.within) look a h l k)
    course_rule o (no_data look verdict p h r m v e) =
        let a : Ahead g.slots here look = rw p at w.on in
        absurd (data≢none _ _ (sym (mark_here n w.within look.slot a.on_track h) ∙ m))
    course_rule o (no_side slot verdict p ns v e) = absurd (true≢false (sym (has_side n w.within) ∙ ns))
    course_rule o (late verdict v l k e) = absurd (timely l)
    course_rule o (misses look on p h l s q e) =
        let a : Ahead g.slots here look = rw p at w.on in
        goes n (Searching on) f
        (to (Searching on) f
        (ahead_misses img (site_no n) cylinder (task_no n) here at_now.on_track (hit n w.within) look a h on l s q)
        w.asks (rw p at w.flow)) e
    course_rule o (passes look on p h l z s q e) =
        let a : Ahead g.slots here look = rw p at w.on in
        goes n (Searching on) f
        (to (Searching on) f
        (ahead_passes img (site_no n) cylinder (task_no n) here at_now.on_track (hit n w.within) look a h on s q)
        w.asks (rw p at w.flow)) e
    course_rule o (to_write look p h k e) = absurd (read≢write transfer.pass plan.reads k)
    course_rule o (to_read look deleted broken other p h k m d ns e) =
        let a : Ahead g.slots here look = rw p at w.on in
        let (kind, whole) = mark_kind _ _ _ _ _ (mark_here n w.within look.slot a.on_track h) m in
        let own : other ≡ false = d ∙ beq_same _ _ kind in
        goes n (Reading (sector_at here) 0) f
        (to (Reading (sector_at here) 0) f (refl, size_some g.n) w.asks (rw p at w.flow))
        (rw (only n w.within look.slot a.on_track h, whole, own) at e)
    course_rule o (skips look deleted broken p h k m d s x) =
        let a : Ahead g.slots here look = rw p at w.on in
        absurd (d (mark_kind _ _ _ _ _ (mark_here n w.within look.slot a.on_track h) m).0)
    course_rule o (turned_over slot p e) =
        goes n (Searching (fresh_at slot)) f
        (to (Searching (fresh_at slot)) f (ahead_fresh g.slots _ slot (rw p at w.on)) w.asks
        (rw p at w.flow)) e
    course_rule o (waits slot wait p l e) = absurd (rw p at w.on)
    course_rule o (begins slot wait p l e) = absurd (rw p at w.on)
    course_rule o (puts slot done p l c e) = absurd (rw p at w.on)
    course_rule o (pads slot done p l c u e) = absurd (rw p at w.on)
    course_rule o (dries slot done p l c u e) = absurd (rw p at w.on)
    course_rule o (ends_short slot done verdict p l u y v e) = absurd (rw p at w.on)
    course_rule o (finishes slot done p l u x) = absurd (rw p at w.on)
    course_rule o (moves sector done f' p l x e) =
        let (s, d) = rw p at w.on in
        let (a, fl) = fill sector done false f' s d (rw p at w.flow) x in
        goes n (Reading sector (done + 1)) f' (to (Reading sector (done + 1)) f' (s, l) a fl) e
    course_rule o (moves_last sector done f' p l x e) =
        let (s, d) = rw p at w.on in
        let z : done + 1 ≡ P = omega arith in
        let (a, fl) = fill sector done true f' s d (rw p at w.flow) x in
        goes n (Draining sector 0) f'
        (to (Draining sector 0) f' s a (subst (λ (k : ℕ). Flowing n k f' t) z fl)) e
    course_rule o (overruns sector done p l u v e) = absurd (timely (rw p (u, v)))
    course_rule o (overruns_last sector done p l u v e) = absurd (timely (rw p (u, v)))
    course_rule o (drains sector looks p l e) =
        goes n (Draining sector (looks + 1)) f
        (to (Draining sector (looks + 1)) f (rw p at w.on) w.asks (rw p at w.flow)) e
    course_rule o (data_error sector looks verdict p q y v e) =
        let s : sector ≡ sector_at here = rw p at w.on in
        absurd (false≢true (sym (ap (λ (y : Sector). y.broken) s) ∙ q))
    course_rule o (ends_late sector looks verdict p q y v e) = absurd (false≢true y)
    course_rule o (other_kind sector looks verdict p q y z ok os v zc e) =
        let s : sector ≡ sector_at here = rw p at w.on in
        absurd (false≢true (sym (ap (λ (y : Sector). y.other) s) ∙ ok))
    course_rule o (drained sector looks p q y ok zc x) =
        let s : sector ≡ sector_at here = rw p at w.on in
        next o zc (rw p at w.flow) (rw s at x)

-- The record.
module _ (g : Geometry) (cylinder : ℕ) (order : Order) (transfer : Transfer) (id : Id) (img : List ℕ)
    (Told : Taken → Type 0) (normal : Bool) (last : ℕ)
    (plan : Plan g cylinder transfer (record { id = id; side = order.side }) img Told normal last)
    (low : order.drive < 4) (job : order.job ≡ Move transfer id) where
  abbrev aim : Aim
  aim = record { id = id; side = order.side }

  abbrev drive : ℕ
  drive = order.drive

  abbrev OnCourse : ℕ → Stage → Fifo → Taken → Type 0
  OnCourse n stage f t = Course g cylinder drive transfer aim img Told normal last plan n stage f t

  abbrev Leads : Taken → Step → Type 0
  Leads t o = Gives g cylinder drive transfer aim img Told normal last plan t o

  abbrev site_in : ℕ → Site
  site_in n = site_at drive (aim_no transfer aim n).side g

  abbrev task_in : ℕ → Task
  task_in n = task_of transfer (aim_no transfer aim n).id

  abbrev Said : Controller → Type 0
  Said c = EndedAt normal order transfer aim last c

  -- not yet started, at one of its sectors, or over
  data Way (c : Controller) (t : Taken) : Type 0 where
    starts : c.phase ≡ Starting order → t ≡ untaken → Way c t
    works : (n : ℕ) (stage : Stage) → c.phase ≡ Working (Moving (site_in n) (task_in n) stage)
        → OnCourse n stage c.fifo t → Way c t
    over : Said c → Way c t

  record Follows (c : Controller) (t : Taken) : Type 0 where
    quiet : Quiet c
    head_is : (drive_at drive c.drives).head ≡ cylinder
    told : Told t
    way : Way c t

  not_over : (c : Controller) {A : Type 0} → at_work c.phase ≡ true → Said c → A
  not_over c w s = absurd (false≢true (sym (ap at_work s.waits) ∙ w))

  disk : disk_in img ≡ Some g
  disk = fits_present img g plan.sound.fits

  seen : (dor : ℕ) → motor_in dor drive ≡ true → seen_of dor drive img ≡ Some g
  unfolding seen_of
  seen dor m = rw (m, disk)

  -- the first tick: the tests are passed, and the search starts at slot 0
  first_has : Has g cylinder order.side (plan.all.good 0 (omega arith)).stands.slot
  first_has = (plan.all.good 0 (omega arith)).stands.has

  begun : (f : Fifo)
      → begin_of order (Some g) cylinder f ≡ moves_of (Searching (fresh_at 0)) (site_in 0) (task_in 0) f None
  unfolding begin_of gate_of entered_of start_job moving_of has_track
  begun f =
      simp (
        job,
        plan.reads,
        lt-ltb cylinder g.cylinders first_has.on_disk,
        lt-ltb order.side g.heads first_has.on_cylinder,
      )

  first_course : (f : Fifo) (t : Taken) → t ≡ untaken → f ≡ emptied → OnCourse 0 (Searching (fresh_at 0)) f t
  first_course f t u e =
      rw (u, e) record {
        within = omega arith;
        on = ahead_fresh g.slots _ 0 (omega (arith, first_has.on_track));
        asks = some_emptied;
        flow = flow_fresh g cylinder transfer aim img (λ j. j);
      }

  -- a later tick
  gone_on : (n : ℕ) (stage : Stage) (f : Fifo) (efifo : Bool) (fifothr : ℕ)
      → go_on_of (Moving (site_in n) (task_in n) stage) (Some g) cylinder img f efifo fifothr
      ≡ stage_of stage (site_in n) (task_in n) cylinder img f efifo fifothr
  unfolding go_on_of stays_of work_step
  gone_on n stage f efifo fifothr = simp (same_geometry g)

  -- where a tick's step leads
  landed : (c : Controller) (t : Taken) (o : Step) → Leads t o → Way (settled_of o.then o.fifo c) t
  unfolding settled_of with_fifo with_phase answered_of
  landed c t o (goes n stage f w e) = rw e (works n stage refl w)
  landed c t o (ends verdict v e) =
      rw e (over (record { waits = refl; st0 = v.st0; st1 = omega (arith, v.st1); st2 = v.st2; address = v.id }))

  no_effect : (t : Taken) (o : Step) → Leads t o → o.effect ≡ None
  no_effect t o (goes n stage f w e) = rw e
  no_effect t o (ends verdict v e) = rw e

  module _ (a b : List ℕ) (c : Controller) (t : Taken) (f : Follows c t)
      (motor : motor_in c.registers.dor drive ≡ true) (lent : pick_of drive a b ≡ img) (timely : Timely c) where
    heads : (drive_at (drive % 4) c.drives).head ≡ cylinder
    heads = rw (mod-eq_of_lt {n = drive} {m = 4} low) f.head_is

    first_step : c.phase ≡ Starting order
        → ruled_of a b c
        ≡ decided_of drive (moves_of (Searching (fresh_at 0)) (site_in 0) (task_in 0) c.fifo None) c
    first_step p = tick_starts a b c order f.quiet p ∙ rw (lent, seen _ motor, heads, begun c.fifo)

    later_step : (n : ℕ) (stage : Stage) → c.phase ≡ Working (Moving (site_in n) (task_in n) stage)
        → ruled_of a b c
        ≡ decided_of drive
        (stage_of stage (site_in n) (task_in n) cylinder img c.fifo c.registers.efifo c.registers.fifothr) c
    later_step n stage p =
        tick_works a b c (Moving (site_in n) (task_in n) stage) f.quiet p
        ∙ rw (lent, seen _ motor, heads, gone_on n stage c.fifo c.registers.efifo c.registers.fifothr)

    -- a tick of it at work is such a step
    step_of : at_work c.phase ≡ true → Way c t
        → (o : Step) × (ruled_of a b c ≡ decided_of drive o c) × Leads t o
    step_of w (starts p u) = (
      _,
      first_step p,
      goes 0 (Searching (fresh_at 0)) c.fifo
          (first_course c.fifo t u (empty _ _ _ p f.quiet.good.phase)) refl,
    )
      where
        empty : (p : Phase) (n : ℕ) (f : Fifo) → p ≡ Starting order → Suits p n f → f ≡ emptied
        empty p n f e s = (rw e at s).1
    step_of w (works n stage p on) = (
      _,
      later_step n stage p,
      course_rule g cylinder drive transfer aim img Told normal last plan c.registers.efifo
          c.registers.fifothr n stage c.fifo t f.quiet.good.fifo f.told on (rw p at timely) _
          (transfer_rule cylinder img c.registers.efifo c.registers.fifothr (site_in n) (task_in n) c.fifo
          stage),
    )
    step_of w (over s) = not_over c w s

    follow_tick : at_work c.phase ≡ true → Follows (after (ticks a b) c) t × (image_after drive a b c img ≡ img)
    follow_tick w =
        let (o, e, on) = step_of w f.way in (
          record {
            quiet = quiet_after (ticks a b) c f.quiet w;
            head_is = tick_head a b drive o c e ∙ f.head_is;
            told = f.told;
            way = subst (λ (x : Controller). Way x t) (sym (tick_record a b drive o c e)) (landed c t o on);
          },
          tick_image a b drive o c e drive (no_effect t o on) img,
        )

  -- A byte to the host.
  course_taken : (efifo tc : Bool) (n : ℕ) (stage : Stage) (f : Fifo) (t : Taken) → FitsFifo efifo f
      → f.asks ≡ true → OnCourse n stage f t → OnCourse n stage (taken_of tc f) (took_one (front_of f) tc t)
  course_taken efifo tc n stage f t fit a w =
      record {
        within = w.within;
        on = w.on;
        asks = some_taken tc f;
        flow = flow_take g cylinder transfer aim img (λ j. j) efifo false n _ f t fit tc w.flow
            (most stage w.on) a w.asks;
      }
    where
      most : (stage : Stage)
          → On g cylinder drive transfer aim img Told normal last plan (plan.all.good n w.within).stands.slot stage
          → done_in g cylinder drive transfer aim img stage ≤ size_of g.n
      most (Searching look) o = omega arith
      most (Turning from) o = omega arith
      most (Reading sector done) (s, l) = omega arith
      most (Draining sector looks) o = omega arith
      most (Awaiting from wait) o = absurd o
      most (Storing from done) o = absurd o

  taken_way : (call : Call) (c e : Controller) (t : Taken) → Quiet c → at_work c.phase ≡ true → Keeps c e
      → TakenRule call c e → Way c t → Way e (taken_by call c t)
  taken_way call c e t q w k r (over s) = not_over c w s
  taken_way call c e t q w k (none_taken f n) (starts p u) = starts (k.phase ∙ p) (n t ∙ u)
  taken_way call c e t q w k (one_taken tc h a f n) (starts p u) = absurd (false≢true (rw p at h))
  taken_way call c e t q w k (none_taken f n) (works m stage p on) = works m stage (k.phase ∙ p) (rw (f, n t) on)
  taken_way call c e t q w k (one_taken tc h a f n) (works m stage p on) =
      works m stage (k.phase ∙ p)
      (rw (f, n t) (course_taken c.registers.efifo tc m stage c.fifo t q.good.fifo a on))

  -- Any other call that is no tick.
  from_none : (n : ℕ) (stage : Stage) (p : Phase) {A : Type 0} → p ≡ Working (Moving (site_in n) (task_in n) stage)
      → phase_from_host p ≡ true → A
  from_none n stage p e h =
      let h' : from_host (pass_flow transfer.pass) ≡ true = rw e at h in
      absurd (false≢true (sym (ap (λ (x : Pass). from_host (pass_flow x)) plan.reads) ∙ h'))

  kept_way : (call : Call) (c e : Controller) (t : Taken) → at_work c.phase ≡ true → (MayTake call → ⊥) → Keeps c e
      → FifoRule call c e → Way c t → Way e t
  kept_way call c e t w bare k r (over s) = not_over c w s
  kept_way call c e t w bare k r (starts p u) = starts (k.phase ∙ p) u
  kept_way call c e t w bare k (same f n) (works m stage p on) = works m stage (k.phase ∙ p) (rw f on)
  kept_way call c e t w bare k (took tc m h f n) (works i stage p on) = absurd (bare m)
  kept_way call c e t w bare k (gave byte tc h a f n) (works m stage p on) = from_none m stage c.phase p h

  module _ (call : Call) (c : Controller) (t : Taken) (f : Follows c t) (w : at_work c.phase ≡ true)
      (n : NoTick call) (calm : Calm call) where
    keeps : Keeps c (after call c)
    keeps = calm_keeps call c f.quiet w n calm

    followed_on : Told (taken_by call c t) → Way (after call c) (taken_by call c t)
        → Follows (after call c) (taken_by call c t)
    followed_on told way =
        record {
          quiet = quiet_after call c f.quiet w;
          head_is = keeps.heads drive low ∙ f.head_is;
          told = told;
          way = way;
        }

    after_take : MayTake call → Told (taken_by call c t) → Follows (after call c) (taken_by call c t)
    after_take m told =
        followed_on told
        (taken_way call c (after call c) t f.quiet w keeps (taken_rule c f.quiet w call m) f.way)

    after_other : (MayTake call → ⊥) → taken_by call c t ≡ t → Follows (after call c) (taken_by call c t)
    after_other bare u = followed_on (rw u f.told) (rw u (go (call_rule call c f.quiet w n)))
      where
        go : CallRule call c (after call c) → Way (after call c) t
        go (cut_off o h) = absurd (false≢true (ap at_work (sym o ∙ keeps.phase) ∙ w))
        go (goes_on_lem k r) = kept_way call c (after call c) t w bare k r f.way

  follow_any : (call : Call) (c : Controller) (t : Taken) → Follows c t → motor_in c.registers.dor drive ≡ true
      → at_work c.phase ≡ true → Calm call → Handed drive img call → AtTick Timely call c → Told (taken_by call c t)
      → Follows (after call c) (taken_by call c t) × (image_by drive img call c ≡ img)
  unfolding taken_by
  follow_any call c t f m w calm lent timely told =
      taking_or_not
      (λ x. Calm x → Handed drive img x → AtTick Timely x c → Told (taken_by x c t)
      → Follows (after x c) (taken_by x c t) × (image_by drive img x c ≡ img))
      (λ a b calm lent timely told. follow_tick a b c t f m lent timely w)
      (λ x n may calm lent timely told. (after_take x c t f w n calm may told, image_same drive img x c n))
      (λ x n bare calm lent timely told. (
        after_other x c t f w n calm bare (none_handed x c t bare),
        image_same drive img x c n,
      ))
      call calm lent timely told

  -- what is over has ended so
  over_so : (c : Controller) (t : Taken) → Follows c t → at_work c.phase ≡ false → Said c
  over_so c t f a = go f.way
    where
      go : Way c t → Said c
      go (starts p u) = absurd (true≢false (sym (ap at_work p) ∙ a))
      go (works n stage p on) = absurd (true≢false (sym (ap at_work p) ∙ a))
      go (over s) = s

  -- if it ends, it ends so
  ends_so : (calls : List Call) (c : Controller) (t : Taken) → Follows c t → Spins drive calls c
      → Alone drive img calls c → InTime calls c → AsTaken Told calls c t → EndsWith Anyhow calls c
      → EndsWith Said calls c
  unfolding EndsWith Spins Alone AtTicks AsTaken
  ends_so [] c t f s l i r (a, u) = (a, over_so c t f a)
  ends_so (call ∷ calls) c t f s l i r (inl (a, u)) = inl (a, over_so c t f a)
  ends_so (call ∷ calls) c t f s l i r (inr (w, rest)) =
      let (calm, spins) = s.1 w in
      let (lent, alone) = l w in
      let (timely, later) = i w in
      let (told, tells) = r w in
      let (f', still) = follow_any call c t f s.0 w calm lent timely told in
      inr (w, ends_so calls (after call c) (taken_by call c t) f' spins (rw still at alone) later tells rest)

  ends_said : (calls : List Call) (c : Controller) → Quiet c → c.phase ≡ Starting order
      → (drive_at drive c.drives).head ≡ cylinder → Told untaken → Spins drive calls c → Alone drive img calls c
      → InTime calls c → AsTaken Told calls c untaken → bound_of g ≤ tick_count calls → EndsWith Said calls c
  ends_said calls c q p h none spins alone timely tells more =
      ends_so calls c untaken (record { quiet = q; head_is = h; told = none; way = starts p refl }) spins alone timely
      tells (ends_in_time_quiet c q order p img g disk calls alone more)

-- With TC: the bytes end in sector `last`.
told_plan : (g : Geometry) (cylinder : ℕ) (transfer : Transfer) (aim : Aim) (img : List ℕ) (bytes last : ℕ)
    → Fill g bytes last → Sound g img → transfer.pass ≡ Read → AllGood g img cylinder transfer aim last
    → Plan g cylinder transfer aim img (TellsAt bytes) true last
told_plan g cylinder transfer aim img bytes last fill sound rd all =
    record {
      sound = sound;
      reads = rd;
      all = all;
      told = λ n t x l u m. (is_last (size_of g.n) n last (length t.got) bytes m (x.0 u) fill.more l, refl);
      untold = λ n t x l u m.
          inl (before_last (size_of g.n) n last (length t.got) bytes m (fewer t x u) fill.most);
      at_eot = λ e. absurd (true≢false e);
    }
  where
    fewer : (t : Taken) → TellsAt bytes t → t.told ≡ false → length t.got < bytes
    fewer t x u = go (le_or_lt bytes (length t.got))
      where
        go : (bytes ≤ length t.got) ⊎ (length t.got < bytes) → length t.got < bytes
        go (inl m) = absurd (false≢true (sym u ∙ x.1 m))
        go (inr m) = m

pub read_succeeds_in_time_quiet : ReadSucceedsInTime Quiet
read_succeeds_in_time_quiet c q order transfer id r img g sound bytes last fill all calls spins alone timely tells
    enough =
    ends_said g (head_of order c) order transfer id img (TellsAt bytes) true last
    (told_plan g _ transfer _ img bytes last fill sound r.reads all)
    (low_drive c order q r.accepted) r.moves calls c q r.accepted refl
    (λ e. absurd (false≢true e), λ l. absurd (omega (arith, fill.more))) spins alone timely tells enough

pub read_succeeds_quiet : ReadSucceeds Quiet
read_succeeds_quiet c q order transfer id r img g sound bytes last fill all calls spins alone prompt =
    read_succeeds_in_time_quiet c q order transfer id r img g sound bytes last fill all calls spins alone
    (prompt_in_time_quiet c q order transfer id (record { accepted = r.accepted; moves = r.moves }) calls prompt)

-- Without: they end at EOT.
pub read_reaches_eot_quiet : ReadReachesEot Quiet
read_reaches_eot_quiet c q order transfer id r img g sound last all eot calls spins alone timely tells enough =
    ends_said g (head_of order c) order transfer id img UntoldRead false last plan (low_drive c order q r.accepted)
    r.moves calls c q r.accepted refl refl spins alone timely tells enough
  where
    last_or_not : (n : ℕ) → n ≤ last → (last ≤ n) ⊎ (n < last) → (n < last) ⊎ ((n ≡ last) × (false ≡ false))
    last_or_not n l (inl m) = inr (omega arith, refl)
    last_or_not n l (inr m) = inl m

    plan : Plan g (head_of order c) transfer (record { id = id; side = order.side }) img UntoldRead false last
    plan =
        record {
          sound = sound;
          reads = r.reads;
          all = all;
          told = λ n t x l u m. absurd (false≢true (sym x ∙ u));
          untold = λ n t x l u m. last_or_not n l (le_or_lt last n);
          at_eot = λ e. eot;
        }

pub read_succeeds_in_time : ReadSucceedsInTime Real
read_succeeds_in_time c r = read_succeeds_in_time_quiet c (quiet_real c r)

pub read_succeeds : ReadSucceeds Real
read_succeeds c r = read_succeeds_quiet c (quiet_real c r)

pub read_reaches_eot : ReadReachesEot Real
read_reaches_eot c r = read_reaches_eot_quiet c (quiet_real c r)
