-- A write that is served promptly on a good disk ends with success, and without TC at EOT (specs/Succeeds), over every
-- list of calls: beside what PowerCutLaws carries, the sector sought still lies ahead of the search, and no end is met
-- but Next's behind the last sector.
-- Assumes nothing.
use Rattle.std.specs.Prelude.{None, Some}
use Prim.Native.Nat.{ℕ, zero, suc, ◌+◌, ◌*◌, ◌%◌, ◌≤◌, ◌<◌}
use native.Mathlib.Nat.{mod-eq_of_lt}
use native.Mathlib.Omega.{arith}
use mathlib.Core.Bool.{Bool, true, false, ◌&&◌, cond, true≢false, false≢true}
use mathlib.Core.List.{List, [], ◌∷◌}
use mathlib.Core.Logic.{◌⊎◌, inl, inr}
use mathlib.Core.Path.{◌≡◌, refl, sym, ap, ◌∙◌, subst}
use lib.Dec.{eqb}
use lib.ListN.{length, get_or, length-append}
use borrow.Author.Tests.{eqb-true, eqb-false, eq-eqb, lt-ltb}
use Rattle.image.proofs.DiskLaws.{present_fits}
use Rattle.image.proofs.LayoutLaws.{product_le}
use Rattle.image.proofs.MarkLaws.{mark_of_byte}
use Rattle.image.proofs.TestLaws.{le_or_lt}
use Rattle.image.specs.declared.layout.Geometry.{Geometry}
use Rattle.image.specs.Lent.{Effect}
use Rattle.image.specs.declared.mark.Mark.TheVariants.{Data}
use Rattle.image.specs.declared.slot.Id.{Id}
use Rattle.image.specs.Disk.{Fits, disk_in}
use Rattle.image.specs.Layout.{size_of, offset_of, Has}
use Rattle.image.specs.Lent.{pick_of, stored_in, stored_as}
use Rattle.image.specs.Mark.{mark_of}
use Rattle.image.specs.Slot.{id_at}
use Rattle.image.specs.Sound.{mark_in}
use Rattle.chip.specs.declared.fifo.Fifo.{Fifo}
use Rattle.chip.specs.Fifo.{emptied, opened_of}
use Rattle.chip.specs.Fifo.{FitsFifo}
use Rattle.sectors.specs.declared.order.Job.TheVariants.{Move}
use Rattle.sectors.specs.declared.order.Order.{Order}
use Rattle.sectors.specs.declared.order.Pass.{Pass}
use Rattle.sectors.specs.declared.order.Pass.TheVariants.{Read, Write}
use Rattle.sectors.specs.declared.order.Transfer.{Transfer}
use Rattle.sectors.specs.declared.work.Search.{Search}
use Rattle.sectors.specs.declared.work.Site.{Site}
use Rattle.sectors.specs.declared.work.Stage.{Stage}
use Rattle.sectors.specs.declared.work.Stage.TheVariants.{Searching, Turning, Reading, Draining, Awaiting, Storing}
use Rattle.sectors.specs.declared.work.Step.{Step}
use Rattle.sectors.specs.declared.work.Task.{Task}
use Rattle.sectors.specs.declared.work.Then.{Then}
use Rattle.sectors.specs.declared.work.Then.TheVariants.{Ends, Works}
use Rattle.sectors.specs.declared.work.Verdict.{Verdict}
use Rattle.sectors.specs.declared.work.Work.{Work}
use Rattle.sectors.specs.declared.work.Work.TheVariants.{Identifying, Moving, Formatting}
use Rattle.sectors.specs.Follow.{fresh_at}
use Rattle.sectors.specs.Result.{st0_of, other_bit, moves_of}
use Rattle.sectors.specs.Search.{matches}
use Rattle.sectors.specs.Track.{has_track, stays_of, mark_place, sector_bytes}
use Rattle.engine.specs.First.{gate_of, task_of, moving_of, start_job, entered_of, begin_of}
use Rattle.engine.specs.Step.{stage_of, work_step, go_on_of}
use Rattle.fdc.specs.declared.record.Controller.{Controller}
use Rattle.fdc.specs.declared.record.Phase.{Phase}
use Rattle.fdc.specs.declared.record.Phase.TheVariants.{Idle, Gathering, Starting, Working, Sensing, Answering}
use Rattle.fdc.specs.declared.ticks.Decision.{Decision}
use Rattle.reached.specs.Good.{Suits}
use Rattle.fdc.specs.Answer.{answer_of}
use Rattle.fdc.specs.Commands.{answered_of}
use Rattle.reached.specs.Moves.{Calm, tick_count}
use Rattle.fdc.specs.Record.{drive_at, with_fifo, with_phase}
use Rattle.fdc.specs.Registers.{motor_in}
use Rattle.reached.specs.Runs.{Call, ticks, answer_to, after}
use Rattle.fdc.specs.Ticks.{seen_of, settled_of, decided_of, ruled_of, tick_of, image_after}
use Rattle.demands.specs.DataError.{Spins}
use Rattle.demands.specs.EndsInTime.{bound_of}
use Rattle.demands.specs.History.{Sector, Begun, no_one, some_of, History, no_history, history_by}
use Rattle.demands.specs.InTime.{Late, AtTick, AtTicks, Timely, InTime}
use Rattle.demands.specs.PowerCut.{Aim, aim_no, Counts, Stands, Spares, AllFinished, BegunHalf, SparesAll, SparesBegun, LeftBy, Writes, head_of, passing, stored_count}
use Rattle.demands.specs.Quiet.{Quiet}
use Rattle.demands.specs.Succeeds.{
  Writable,
  IsThere,
  AllThere,
  Fill,
  Noting,
  Tells,
  EndedAt,
  WriteSucceeds,
  WriteSucceedsInTime,
  LastOne,
  Untold,
  WriteReachesEot,
}
use Rattle.demands.specs.Work.{at_work, image_by, Handed, Alone, Anyhow, Real, EndsWith}
use Rattle.demands.proofs.CallLaws.{tick_starts, tick_works, call_rule, calm_keeps}
use Rattle.demands.proofs.CallRules.{NoTick, same, took, gave, CallRule, cut_off, goes_on_lem}
use Rattle.demands.proofs.SplitLaws.{tick_or_not, image_same}
use Rattle.demands.proofs.CutLaws.{next_slot_below, Busy, Half}
use Rattle.demands.proofs.CourseLaws.{same_geometry}
use Rattle.demands.proofs.DataErrorLaws.{disk_left}
use Rattle.demands.proofs.EndsLaws.{ends_in_time_quiet}
use Rattle.demands.proofs.FifoStream.{stream_within, held_more, held_none}
use Rattle.demands.proofs.InTimeLaws.{prompt_in_time_quiet}
use Rattle.demands.proofs.LeftLaws.{front_differs, noted_host}
use Rattle.demands.proofs.PowerCutLaws.{Run, is_over, to_start, at_it, run_after}
use Rattle.demands.proofs.QuietLaws.{quiet_real, quiet_after}
use Rattle.demands.proofs.RequestLaws.{test_on, test_off}
use Rattle.demands.proofs.SearchLaws.{Ahead, ahead_fresh, ahead_misses, ahead_passes, ahead_found}
use Rattle.demands.proofs.TickRules.{
  marked,
  hits,
  NextEnds,
  NextRule,
  stops,
  turns,
  steps,
  Rule,
  not_found,
  no_data,
  no_side,
  late,
  misses,
  passes,
  to_write,
  to_read,
  skips,
  turned_over,
  waits,
  begins,
  puts,
  pads,
  dries,
  ends_short,
  finishes,
  moves,
  moves_last,
  overruns,
  overruns_last,
  drains,
  data_error,
  ends_late,
  other_kind,
  drained,
  transfer_rule,
}

-- a mark of 1 to 5 is an ID
pub counts_marked : (v : ℕ) → Counts v → marked (mark_of v) ≡ true
unfolding mark_of
counts_marked zero c = absurd (omega arith)
counts_marked (suc zero) c = refl
counts_marked (suc (suc zero)) c = refl
counts_marked (suc (suc (suc zero))) c = refl
counts_marked (suc (suc (suc (suc zero)))) c = refl
counts_marked (suc (suc (suc (suc (suc zero))))) c = refl
counts_marked (suc (suc (suc (suc (suc (suc v)))))) c = absurd (omega (arith, c.1))

-- an address matches itself
matches_same : (id : Id) (n : ℕ) → id.n ≡ n → matches id id n ≡ true
matches_same id n e =
    simp (
      eq-eqb id.c id.c refl,
      eq-eqb id.h id.h refl,
      eq-eqb id.r id.r refl,
      eq-eqb id.n id.n refl,
      eq-eqb id.n n e,
    )

-- whole sectors are counted by their bytes
fewer : (a b p : ℕ) → a * p < b * p → a < b
fewer a b p l = go (le_or_lt b a)
  where
    go : (b ≤ a) ⊎ (a < b) → a < b
    go (inl m) = absurd (omega (arith, product_le b p a p m (omega arith)))
    go (inr m) = m

-- What was on the track before is there still: a write keeps the address of every slot and takes no mark away.
module _ (g : Geometry) (cylinder : ℕ) (transfer : Transfer) (aim : Aim) (old img : List ℕ) (fits : Fits g old)
    (cyl side k : ℕ) (has : Has g cyl side k) where
  abbrev place : ℕ
  place = offset_of g cyl side k

  abbrev IsMarked : Type 0
  IsMarked = marked (mark_of (get_or img place 0)) ≡ true

  -- a mark's place is the mark of a sector or none of its places
  mark_or_spared : (a : Aim) (at done : ℕ) (deleted broken : Bool) → Stands g old cylinder a at → done ≤ size_of g.n
      → mark_of (get_or img at 0) ≡ Data deleted broken → IsMarked ⊎ Spares at done place
  mark_or_spared a at done deleted broken st l m = go (eqb place at) refl
    where
      go : (t : Bool) → eqb place at ≡ t → IsMarked ⊎ Spares at done place
      go true e = inl (ap marked (ap (λ (p : ℕ). mark_of (get_or img p 0)) (eqb-true place at e) ∙ m))
      go false e =
          let n = eqb-false place at e in
          inr (
            n,
            λ x y. front_differs g cylinder old fits a at place st (record { from = omega arith; below = omega arith })
                cyl side k 0 has (omega arith) (λ z. n (omega arith)) (omega arith),
          )

  all_marked : (host : List ℕ) (fin : List Sector) → AllFinished g cylinder transfer aim old img host fin
      → IsMarked ⊎ SparesAll fin place
  all_marked host [] f = inr tt
  all_marked host (s ∷ before) (sa, fa, za, rest) =
      go (mark_or_spared _ s.at (length s.bytes) _ _ sa (omega arith)
      (ap mark_of fa.mark ∙ mark_of_byte (Data transfer.deleted false)))
      (all_marked host before rest)
    where
      go : IsMarked ⊎ Spares s.at (length s.bytes) place → IsMarked ⊎ SparesAll before place
          → IsMarked ⊎ SparesAll (s ∷ before) place
      go (inl x) y = inl x
      go (inr x) (inl y) = inl y
      go (inr x) (inr y) = inr (x, y)

  begun_marked : (host : List ℕ) (n : ℕ) (begun : Begun) → BegunHalf g cylinder transfer aim old img host n begun
      → IsMarked ⊎ SparesBegun begun place
  begun_marked host n no_one f = inr tt
  begun_marked host n (some_of at bytes) (sa, fa) =
      mark_or_spared _ at (length bytes) _ _ sa fa.short
      (ap mark_of fa.mark ∙ mark_of_byte (Data transfer.deleted true))

  mark_kept : (h : History) → LeftBy g cylinder transfer aim old img h → Counts (mark_in g old cyl side k) → IsMarked
  mark_kept h left counts =
      go (all_marked h.host h.finished left.finished) (begun_marked h.host _ h.begun left.begun)
    where
      go : IsMarked ⊎ SparesAll h.finished place → IsMarked ⊎ SparesBegun h.begun place → IsMarked
      go (inl x) y = x
      go (inr x) (inl y) = y
      go (inr x) (inr y) = ap (λ (v : ℕ). marked (mark_of v)) (left.others place x y) ∙ counts_marked _ counts

and_on : (a b : Bool) → a ≡ true → b ≡ true → (a && b) ≡ true
and_on a b p q = rw (p, q)

mark_at_lem : (g : Geometry) (site : Site) (head side slot : ℕ) → site.disk ≡ g → site.side ≡ side
    → mark_place site head slot ≡ offset_of g head side slot
unfolding mark_place
mark_at_lem g site head side slot disk s = rw (disk, s)

-- 01 Search: a sector that stood on the track matches still
stands_hits : (g : Geometry) (cylinder : ℕ) (transfer : Transfer) (first : Aim) (old img : List ℕ) (h : History)
    (site : Site) (task : Task) (aim : Aim) (at : ℕ) → Fits g old → LeftBy g cylinder transfer first old img h
    → site.disk ≡ g → site.side ≡ aim.side → task.id ≡ aim.id → (st : Stands g old cylinder aim at)
    → hits img site cylinder task st.slot ≡ true
stands_hits g cylinder transfer first old img h site task aim at fits left disk side id st =
    let p = mark_at_lem g site cylinder aim.side st.slot disk side in
    let old_mark : Counts (mark_in g old cylinder aim.side st.slot) = rw st.place at st.marked in
    let m =
    mark_kept g cylinder transfer first old img fits cylinder aim.side st.slot st.has h left old_mark in
    let e : id_at img (mark_place site cylinder st.slot) ≡ task.id =
    ap (id_at img) p ∙ left.ids cylinder aim.side st.slot st.has ∙ ap (id_at old) (sym st.place)
    ∙ st.address ∙ sym id in
    let n : task.id.n ≡ site.disk.n =
    ap (λ (x : Id). x.n) id ∙ st.size ∙ ap (λ (x : Geometry). x.n) (sym disk) in
    and_on _ _ (ap (λ (x : ℕ). marked (mark_of (get_or img x 0))) p ∙ m)
    (ap (λ (x : Id). matches x task.id site.disk.n) e ∙ matches_same task.id site.disk.n n)

-- the slots of the track that match all lie ahead of the search, and no byte of the sector in hand was missing
abbrev Seeks : ℕ → List ℕ → Site → Task → Search → Type 0
Seeks cylinder img site task look =
    (k : ℕ) → k < site.disk.slots → hits img site cylinder task k ≡ true → Ahead site.disk.slots k look

abbrev OnStage : ℕ → List ℕ → Site → Task → Stage → Type 0
OnStage cylinder img site task (Searching look) = Seeks cylinder img site task look
OnStage cylinder img site task (Turning slot) = Unit {0}
OnStage cylinder img site task (Reading sector done) = Unit {0}
OnStage cylinder img site task (Draining sector looks) = Unit {0}
OnStage cylinder img site task (Awaiting slot wait) = Unit {0}
OnStage cylinder img site task (Storing slot done) = task.late ≡ false

abbrev OnWork : ℕ → List ℕ → Work → Type 0
OnWork cylinder img (Identifying site slot looks) = Unit {0}
OnWork cylinder img (Moving site task stage) = OnStage cylinder img site task stage
OnWork cylinder img (Formatting site plan form) = Unit {0}

abbrev OnPhase : ℕ → List ℕ → Phase → Type 0
OnPhase cylinder img Idle = Unit {0}
OnPhase cylinder img (Gathering entry) = Unit {0}
OnPhase cylinder img (Starting order) = Unit {0}
OnPhase cylinder img (Working work) = OnWork cylinder img work
OnPhase cylinder img (Sensing unit) = Unit {0}
OnPhase cylinder img (Answering loud) = Unit {0}

-- how it is to end: with TC that comes with byte number `bytes`, or at EOT, without TC
data Plan (g : Geometry) (transfer : Transfer) (aim : Aim) (last : ℕ) : Type 0 where
  by_tc : (bytes : ℕ) → Fill g bytes last → Plan g transfer aim last
  by_eot : LastOne transfer (aim_no transfer aim last) → Plan g transfer aim last

module _ {g : Geometry} {transfer : Transfer} {aim : Aim} {last : ℕ} where
  abbrev tc_of : Plan g transfer aim last → Bool
  tc_of (by_tc bytes fill) = true
  tc_of (by_eot one) = false

  -- what the host keeps to
  abbrev Keeping : Plan g transfer aim last → History → Type 0
  Keeping (by_tc bytes fill) h = Tells bytes h
  Keeping (by_eot one) h = Untold h

  -- and so: no byte comes behind TC
  abbrev Few : Plan g transfer aim last → History → Type 0
  Few (by_tc bytes fill) h = length h.host ≤ bytes
  Few (by_eot one) h = Unit {0}

module _ (g : Geometry) (cylinder drive : ℕ) (transfer : Transfer) (aim : Aim) (old : List ℕ) (fits : Fits g old)
    (wr : transfer.pass ≡ Write) (last : ℕ) (there : AllThere g old cylinder transfer aim last) where
  -- 01 Result, of the end that is meant
  record Well (tc : Bool) (verdict : Verdict) : Type 0 where
    st0 : verdict.st0 ≡ st0_of tc drive (aim_no transfer aim last).side
    st1 : verdict.st1 ≡ cond tc 0x00 0x80
    st2 : verdict.st2 ≡ 0x00
    id : verdict.id ≡ (aim_no transfer aim (suc last)).id

  -- what a tick gives: it goes on, or it is over and all is well
  abbrev OnThen : Bool → List ℕ → Then → Type 0
  OnThen tc img (Ends verdict) = Well tc verdict
  OnThen tc img (Works work) = OnWork cylinder img work

  abbrev Gives : Bool → Step → List ℕ → Type 0
  Gives tc o img = OnThen tc (stored_in o.effect img) o.then

  module _ (efifo : Bool) (fifothr : ℕ) {site : Site} {task : Task} {stage : Stage} {fifo : Fifo} {img : List ℕ}
      {h : History} (b : Busy g cylinder drive transfer aim old efifo site task stage fifo img h)
      (f : FitsFifo efifo fifo) where
    abbrev now : ℕ
    now = length h.finished

    some_slots : 1 ≤ site.disk.slots
    some_slots = rw b.disk fits.range.slots.0

    -- a sector that is full
    record Full : Type 0 where
      done : ℕ
      slot : ℕ
      half : Half g cylinder drive transfer aim old h.begun (aim_no transfer aim now) slot done
      full : sector_bytes site ≤ done

    stored : Full → stored_count g h ≡ suc now * passing g
    stored x =
        let full' : size_of g.n ≤ x.done = rw b.disk at x.full in
        let (hand, part) = rw x.half.some at b.sofar.begun in
        let k : stored_count g h ≡ now * size_of g.n + length x.half.bytes = rw x.half.some in
        omega (arith, x.half.size, part.short)

    -- 01 Next: an end behind sector number `last`, and none before it but with TC
    last_well : (tc : Bool) (verdict : Verdict) → task.late ≡ false → now ≡ last → NextEnds tc site task verdict
        → Well tc verdict
    last_well tc verdict n e w =
        record {
          st0 = w.st0 ∙ rw (b.drive_is, b.side, e);
          st1 = w.st1 ∙ rw n (omega arith);
          st2 = w.st2 ∙ ap other_bit b.plain;
          id = w.id ∙ rw (b.id, b.told_to, b.side, e);
        }

    none_before : (verdict : Verdict) → now < last → NextEnds false site task verdict → ⊥
    none_before verdict l w =
        let eot : (aim_no transfer aim now).id.r ≡ transfer.eot = rw (b.id, b.told_to) at (w.eot refl) in
        let (mt, side) = there.on now l eot in
        w.no_turn refl (ap (λ (x : Transfer). x.mt) b.told_to ∙ mt) (b.side ∙ side)

    abbrev AtNext : Verdict → Type 0
    AtNext verdict = NextEnds (fifo.tc && eqb fifo.count 0) site task verdict

    -- By TC.
    module _ (total : ℕ) (fill : Fill g total last) (few : length h.host ≤ total) (tells : Tells total h) where
      -- before TC bytes are still to come
      to_come : fifo.tc ≡ false → length h.host < total
      to_come off = go (le_or_lt total (length h.host))
        where
          go : (total ≤ length h.host) ⊎ (length h.host < total) → length h.host < total
          go (inl l) = absurd (true≢false (sym (b.heard (tells.1 l)) ∙ off))
          go (inr l) = l

      -- a sector for which there is a byte, or one to come, is one of the command's
      one_of_them : (n : ℕ) → n * passing g < total → n ≤ last
      one_of_them n l = let m = fewer n (last + 1) (passing g) (omega (arith, fill.most)) in omega arith

      tc_low : now ≤ last
      tc_low = one_of_them now (go fifo.tc refl h.begun refl)
        where
          go : (t : Bool) → fifo.tc ≡ t → (begun : Begun) → h.begun ≡ begun → now * passing g < total
          go false t begun e =
              let w = stream_within h.host _ (stored_count g h) fifo.tc t b.stream in
              omega (arith, to_come t)
          go true t no_one e =
              let w = held_more efifo fifo f h.host (stored_count g h) (b.more t e) b.stream in
              omega arith
          go true t (some_of at bytes) e = let w = b.sofar.fed now (rw e (omega arith)) in omega arith

      -- after TC and with nothing held a full sector is the last one
      is_last : Full → task.late ≡ false → fifo.tc ≡ true → fifo.count ≡ 0 → now ≡ last
      is_last x n t z =
          let all = held_none efifo fifo f h.host (stored_count g h) z b.stream in
          let some = tells.0 (b.tc t n) in
          let l = fewer last (suc now) (passing g) (omega (arith, fill.more, stored x)) in
          omega (arith, tc_low)

      -- else it is not
      not_last : Full → (fifo.tc && eqb fifo.count 0) ≡ false → now < last
      not_last x e = one_of_them (suc now) (go fifo.tc refl)
        where
          go : (t : Bool) → fifo.tc ≡ t → suc now * passing g < total
          go false t =
              let w = stream_within h.host _ (stored_count g h) fifo.tc t b.stream in
              omega (arith, stored x, to_come t)
          go true t =
              let some = test_off fifo.tc fifo.count e t in
              let w = held_more efifo fifo f h.host (stored_count g h) some b.stream in
              omega (arith, stored x)

      tc_well : Full → task.late ≡ false → (verdict : Verdict) → AtNext verdict → Well true verdict
      tc_well x n verdict v = go (fifo.tc && eqb fifo.count 0) refl v
        where
          go : (t : Bool) → (fifo.tc && eqb fifo.count 0) ≡ t → NextEnds t site task verdict → Well true verdict
          go true t w =
              let (tc, z) = test_on fifo.tc fifo.count t in
              last_well true verdict n (is_last x n tc z) w
          go false t w = absurd (none_before verdict (not_last x t) w)

    -- At EOT.
    module _ (one : LastOne transfer (aim_no transfer aim last)) (untold : Untold h) where
      eot_low : now ≤ last
      eot_low = go (le_or_lt now last)
        where
          go : (now ≤ last) ⊎ (last < now) → now ≤ last
          go (inl l) = l
          go (inr l) = let (mt, side) = b.on last l one.eot in absurd (one.no_turn mt side)

      eot_well : task.late ≡ false → (verdict : Verdict) → AtNext verdict → Well false verdict
      eot_well n verdict v = go (fifo.tc && eqb fifo.count 0) refl v (le_or_lt last now)
        where
          go : (t : Bool) → (fifo.tc && eqb fifo.count 0) ≡ t → NextEnds t site task verdict
              → (last ≤ now) ⊎ (now < last) → Well false verdict
          go true t w c = absurd (true≢false (sym (b.tc (test_on fifo.tc fifo.count t).0 n) ∙ untold))
          go false t w (inl l) = last_well false verdict n (omega (arith, eot_low)) w
          go false t w (inr l) = absurd (none_before verdict l w)

    low : (plan : Plan g transfer aim last) → Few plan h → Keeping plan h → now ≤ last
    low (by_tc total fill) few tells = tc_low total fill few tells
    low (by_eot one) few untold = eot_low one untold

    next_well : (plan : Plan g transfer aim last) → Few plan h → Keeping plan h → Full → task.late ≡ false
        → (verdict : Verdict) → AtNext verdict → Well (tc_of plan) verdict
    next_well (by_tc total fill) few tells x n verdict v = tc_well total fill few tells x n verdict v
    next_well (by_eot one) few untold x n verdict v = eot_well one untold n verdict v

    -- Either way.
    module _ (plan : Plan g transfer aim last) (few : Few plan h) (keeps : Keeping plan h) where
      abbrev Goes : Step → Type 0
      Goes o = Gives (tc_of plan) o img

      -- 01 Next
      next_goes : (o : Step) (effect : Effect) (x : Full) → task.late ≡ false
          → NextRule (fifo.tc && eqb fifo.count 0) x.slot site task fifo effect o → Goes o
      next_goes o effect x n (stops verdict v e) = rw e (next_well plan few keeps x n verdict v)
      next_goes o effect x n (turns u r t d e) = rw e tt
      next_goes o effect x n (steps u r e) =
          rw e (λ k l hit. ahead_fresh _ k _ (next_slot_below x.slot site.disk.slots some_slots))

      is_there : IsThere g old cylinder (aim_no transfer aim now)
      is_there = there.there now (low plan few keeps)

      -- the sector in hand is on the track
      on_track : (k : ℕ) × (k < site.disk.slots) × (hits img site cylinder task k ≡ true)
      on_track = (
        is_there.stands.slot,
        omega (arith, is_there.stands.has.on_track, ap (λ (x : Geometry). x.slots) b.disk),
        stands_hits g cylinder transfer aim old img h site task (aim_no transfer aim now) is_there.at fits b.sofar
            b.disk b.side b.id is_there.stands,
      )

      has_side : has_track site.disk cylinder site.side ≡ true
      unfolding has_track
      has_side =
          rw (
            b.disk,
            b.side,
            lt-ltb cylinder g.cylinders is_there.stands.has.on_disk,
            lt-ltb (aim_no transfer aim now).side g.heads is_there.stands.has.on_cylinder,
          )

      no_read : {A : Type 0} → task.transfer.pass ≡ Read → A
      no_read e =
          let w : ◌≡◌ {A = Pass} Write Read = sym wr ∙ ap (λ (t : Transfer). t.pass) (sym b.told_to) ∙ e in
          let z : ◌≡◌ {A = ℕ} 0 1 = cc in
          absurd (omega arith)

      -- a tick of it, by its rule
      rule_goes : (o : Step) → (Late efifo site task fifo stage → ⊥) → OnStage cylinder img site task stage
          → Rule cylinder img efifo fifothr site task fifo stage o → Goes o
      rule_goes o timely w (not_found look verdict p t l m x y v e) =
          let (k, inside, hit) = on_track in
          let seeks : Seeks cylinder img site task look = rw p at w in
          absurd (ahead_found img site cylinder task k inside hit look (seeks k inside hit) t l m)
      rule_goes o timely w (no_data look verdict p t r m v e) = no_read r
      rule_goes o timely w (no_side slot verdict p ns v e) = absurd (true≢false (sym has_side ∙ ns))
      rule_goes o timely w (late verdict v l x e) = absurd (timely l)
      rule_goes o timely w (misses look on p t l a q e) =
          let seeks : Seeks cylinder img site task look = rw p at w in
          rw e (λ k inside hit. ahead_misses img site cylinder task k inside hit look (seeks k inside hit) t on l a q)
      rule_goes o timely w (passes look on p t l q a c e) =
          let seeks : Seeks cylinder img site task look = rw p at w in
          rw e (λ k inside hit. ahead_passes img site cylinder task k inside hit look (seeks k inside hit) t on a c)
      rule_goes o timely w (to_write look p t k e) = rw e tt
      rule_goes o timely w (to_read look deleted broken other p t r m d ns e) = no_read r
      rule_goes o timely w (skips look deleted broken p t r m d k n) = no_read r
      rule_goes o timely w (turned_over slot p e) =
          let (on_disk, inside, none) = rw p at b.link in
          rw e (λ k l hit. ahead_fresh _ k slot (rw b.disk inside))
      rule_goes o timely w (waits slot wait p l e) = rw e tt
      rule_goes o timely w (begins slot wait p l e) =
          let (hand, none) = rw p at b.link in
          rw e (b.timely none)
      rule_goes o timely w (puts slot done p l c e) = rw e (rw p at w)
      rule_goes o timely w (pads slot done p l c t e) = rw e (rw p at w)
      rule_goes o timely w (dries slot done p l c t e) = absurd ((rw p at timely) (l, c, t))
      rule_goes o timely w (ends_short slot done verdict p l x y v e) = absurd (true≢false (sym x ∙ (rw p at w)))
      rule_goes o timely w (finishes slot done p l x n) =
          let (hand, half) = rw p at b.link in
          next_goes o _ (record { done = done; slot = slot; half = half; full = l }) x n
      rule_goes o timely w (moves sector done fifo' p l x e) = absurd (rw p at b.link)
      rule_goes o timely w (moves_last sector done fifo' p l x e) = absurd (rw p at b.link)
      rule_goes o timely w (overruns sector done p l x y e) = absurd (rw p at b.link)
      rule_goes o timely w (overruns_last sector done p l x y e) = absurd (rw p at b.link)
      rule_goes o timely w (drains sector looks p l e) = absurd (rw p at b.link)
      rule_goes o timely w (data_error sector looks verdict p q s v e) = absurd (rw p at b.link)
      rule_goes o timely w (ends_late sector looks verdict p q x v e) = absurd (rw p at b.link)
      rule_goes o timely w (other_kind sector looks verdict p q x z ok os v zc e) = absurd (rw p at b.link)
      rule_goes o timely w (drained sector looks p q x ok zc n) = absurd (rw p at b.link)

-- The record, call by call.
module _ (g : Geometry) (cylinder : ℕ) (order : Order) (transfer : Transfer) (id : Id) (old : List ℕ)
    (disk : disk_in old ≡ Some g) (moves_it : order.job ≡ Move transfer id) (wr : transfer.pass ≡ Write)
    (hr : id.r < 256) (he : transfer.eot < 256) (hd : order.drive < 4) (open_to : g.protect ≡ false)
    (last : ℕ) (there : AllThere g old cylinder transfer (record { id = id; side = order.side }) last)
    (plan : Plan g transfer (record { id = id; side = order.side }) last) where
  abbrev drive : ℕ
  drive = order.drive

  abbrev aim : Aim
  aim = record { id = id; side = order.side }

  abbrev Running : Controller → List ℕ → History → Type 0
  Running c img h = Run g cylinder order transfer id old disk moves_it wr hr he hd c img h

  -- it is over as it is to be
  abbrev Closed : Controller → Type 0
  Closed e = EndedAt (tc_of plan) order transfer aim last e

  fits : Fits g old
  fits = present_fits old g disk

  abbrev OnGood : List ℕ → Then → Type 0
  OnGood img then = OnThen g cylinder drive transfer aim old fits wr last there (tc_of plan) img then

  abbrev GivesGood : Step → List ℕ → Type 0
  GivesGood o img = Gives g cylinder drive transfer aim old fits wr last there (tc_of plan) o img

  -- what is said of a record on course
  abbrev OnCourse : Controller → List ℕ → Type 0
  OnCourse c img = OnPhase cylinder img c.phase × (at_work c.phase ≡ false → Closed c)

  settled_course : (then : Then) (fifo : Fifo) (c : Controller) (img : List ℕ) → OnGood img then
      → OnCourse (settled_of then fifo c) img
  unfolding settled_of answered_of with_fifo with_phase
  settled_course (Ends verdict) fifo c img k =
      (tt, λ e. record { waits = refl; st0 = k.st0; st1 = k.st1; st2 = k.st2; address = k.id })
  settled_course (Works work) fifo c img k = (k, λ e. absurd (true≢false e))

  tick_course : (a b : List ℕ) (c : Controller) (img : List ℕ) (d : ℕ) (o : Step) → ruled_of a b c ≡ decided_of d o c
      → d ≡ drive → GivesGood o img → OnCourse (after (ticks a b) c) (image_by drive img (ticks a b) c)
  unfolding answer_to tick_of answer_of image_after decided_of
  tick_course a b c img d o e q k =
      subst (λ (x : Decision). OnCourse x.controller (stored_as x.drive drive x.effect img)) (sym e)
      (rw (eq-eqb d drive q) (settled_course o.then o.fifo c _ k))

  -- the disk seen while the motor is on
  seen : (dor : ℕ) (img : List ℕ) → disk_in img ≡ Some g → motor_in dor drive ≡ true
      → seen_of dor drive img ≡ Some g
  unfolding seen_of
  seen dor img d m = rw (m, d)

  -- the first tick: the tests are passed, and the search starts at slot 0
  begun : begin_of order (Some g) cylinder emptied
      ≡ moves_of (Searching (fresh_at 0)) (record { drive = drive; side = order.side; disk = g }) (task_of transfer id)
      (opened_of emptied) None
  unfolding begin_of gate_of entered_of start_job moving_of has_track
  begun =
      let has = (there.there 0 (omega arith)).stands.has in
      simp (
        moves_it,
        wr,
        open_to,
        lt-ltb cylinder g.cylinders has.on_disk,
        lt-ltb order.side g.heads has.on_cylinder,
      )

  -- a later one
  gone_on : (site : Site) (task : Task) (stage : Stage) (img : List ℕ) (fifo : Fifo) (efifo : Bool) (fifothr : ℕ)
      → site.disk ≡ g
      → go_on_of (Moving site task stage) (Some g) cylinder img fifo efifo fifothr
      ≡ stage_of stage site task cylinder img fifo efifo fifothr
  unfolding go_on_of stays_of work_step
  gone_on site task stage img fifo efifo fifothr e = simp (e, same_geometry g)

  head_is : (c : Controller) → (drive_at drive c.drives).head ≡ cylinder
      → (drive_at (drive % 4) c.drives).head ≡ cylinder
  head_is c u = rw (mod-eq_of_lt {n = drive} {m = 4} hd) u

  empty_start : (p : Phase) (n : ℕ) (f : Fifo) → p ≡ Starting order → Suits p n f → f ≡ emptied
  empty_start p n f e s = (rw e at s).1

  tick_on : (a b : List ℕ) (c : Controller) (img : List ℕ) (h : History) → Quiet c → at_work c.phase ≡ true
      → pick_of drive a b ≡ img → motor_in c.registers.dor drive ≡ true → Timely c → Few plan h
      → Keeping plan h → OnPhase cylinder img c.phase → Running c img h
      → OnCourse (after (ticks a b) c) (image_by drive img (ticks a b) c)
  tick_on a b c img h q w lent m timely few tells on (is_over n k t) = absurd (false≢true (sym n ∙ w))
  tick_on a b c img h q w lent m timely few tells on (to_start p u i f) =
      tick_course a b c img drive
      (moves_of (Searching (fresh_at 0)) (record { drive = drive; side = order.side; disk = g }) (task_of transfer id)
      (opened_of emptied) None)
      (tick_starts a b c order q p
      ∙ rw (
        lent,
        i,
        seen c.registers.dor old disk m,
        head_is c u,
        empty_start c.phase _ c.fifo p q.good.phase,
        begun,
      ))
      refl
      (λ k l hit. ahead_fresh _ k 0 (omega (arith, fits.range.slots.0)))
  tick_on a b c img h q w lent m timely few tells on (at_it site task stage p u k) =
      let lent' : pick_of site.drive a b ≡ img = ap (λ (d : ℕ). pick_of d a b) k.drive_is ∙ lent in
      let head : (drive_at (site.drive % 4) c.drives).head ≡ cylinder =
      ap (λ (d : ℕ). (drive_at (d % 4) c.drives).head) k.drive_is ∙ head_is c u in
      let present : disk_in img ≡ Some g = disk_left g cylinder transfer aim old img h k.sofar ∙ disk in
      let see : seen_of c.registers.dor site.drive img ≡ Some g =
      ap (λ (d : ℕ). seen_of c.registers.dor d img) k.drive_is ∙ seen c.registers.dor img present m in
      tick_course a b c img site.drive
      (stage_of stage site task cylinder img c.fifo c.registers.efifo c.registers.fifothr)
      (tick_works a b c (Moving site task stage) q p
      ∙ rw (
        lent',
        see,
        head,
        gone_on site task stage img c.fifo c.registers.efifo c.registers.fifothr k.disk,
      ))
      k.drive_is
      (rule_goes g cylinder drive transfer aim old fits wr last there c.registers.efifo
      c.registers.fifothr k q.good.fifo plan few tells _ (rw p at timely) (rw p at on)
      (transfer_rule cylinder img c.registers.efifo c.registers.fifothr site task c.fifo stage))

  -- no byte behind TC
  more_room : (total : ℕ) (fill : Fill g total last) (call : Call) (c : Controller) (img : List ℕ) (h : History)
      → Quiet c → at_work c.phase ≡ true → length h.host ≤ total → Tells total h → Running c img h
      → CallRule call c (after call c) → length (history_by call c h).host ≤ total
  more_room total fill call c img h q w few tells r (cut_off o n) = rw (n h) few
  more_room total fill call c img h q w few tells r (goes_on_lem k (same f n)) = rw (n h) few
  more_room total fill call c img h q w few tells r (goes_on_lem k (took tc m t f n)) = rw (n h) few
  more_room total fill call c img h q w few tells r (goes_on_lem k (gave byte tc t a f n)) =
      let l = room r in
      rw (n h) (omega (arith, length-append h.host (byte ∷ [])))
    where
      room : Running c img h → length h.host < total
      room (is_over o d x) = absurd (false≢true (sym o ∙ w))
      room (to_start p u i z) = absurd (false≢true (rw p at t))
      room (at_it site task stage p u b) =
          to_come g cylinder drive transfer aim old fits wr last there c.registers.efifo 0 b q.good.fifo total
          fill few tells (b.request.before_tc a)

  few_after : (plan : Plan g transfer aim last) (call : Call) (c : Controller) (img : List ℕ) (h : History) → Quiet c
      → at_work c.phase ≡ true → Few plan h → Keeping plan h → Running c img h → CallRule call c (after call c)
      → Few plan (history_by call c h)
  few_after (by_tc total fill) call c img h q w few tells r k = more_room total fill call c img h q w few tells r k
  few_after (by_eot one) call c img h q w few tells r k = tt

  few_tick : (plan : Plan g transfer aim last) (a b : List ℕ) (c : Controller) (h : History) → Few plan h
      → Few plan (history_by (ticks a b) c h)
  unfolding history_by
  few_tick (by_tc total fill) a b c h few = rw (noted_host (ruled_of a b c).effect h) few
  few_tick (by_eot one) a b c h few = tt

  record Course (c : Controller) (img : List ℕ) (h : History) : Type 0 where
    quiet : Quiet c
    run : Running c img h
    on : OnCourse c img
    few : Few plan h
    keeping : Keeping plan h

  ran : (call : Call) (c : Controller) (img : List ℕ) (h : History) → Course c img h → at_work c.phase ≡ true
      → Handed drive img call → Running (after call c) (image_by drive img call c) (history_by call c h)
  ran call c img h k w lent =
      run_after g cylinder order transfer id old disk moves_it wr hr he hd call c img h k.quiet w lent k.run

  -- a calm call that is no tick
  kept_course : (call : Call) (c : Controller) (img : List ℕ) → Quiet c → at_work c.phase ≡ true → NoTick call
      → Calm call → OnPhase cylinder img c.phase → OnCourse (after call c) (image_by drive img call c)
  kept_course call c img q w n calm on =
      let k = calm_keeps call c q w n calm in
      rw (image_same drive img call c n)
      (rw k.phase on, λ e. absurd (true≢false (sym w ∙ ap at_work (sym k.phase) ∙ e)))

  call_course : (call : Call) (c : Controller) (img : List ℕ) (h : History) → Course c img h → at_work c.phase ≡ true
      → NoTick call → Calm call → Handed drive img call → Keeping plan (history_by call c h)
      → Course (after call c) (image_by drive img call c) (history_by call c h)
  call_course call c img h k w n calm lent tells =
      record {
        quiet = quiet_after call c k.quiet w;
        run = ran call c img h k w lent;
        on = kept_course call c img k.quiet w n calm k.on.0;
        few = few_after plan call c img h k.quiet w k.few k.keeping k.run
            (call_rule call c k.quiet w n);
        keeping = tells;
      }

  course_after : (call : Call) (c : Controller) (img : List ℕ) (h : History) → Course c img h
      → at_work c.phase ≡ true → motor_in c.registers.dor drive ≡ true → Calm call → Handed drive img call
      → AtTick Timely call c → Keeping plan (history_by call c h)
      → Course (after call c) (image_by drive img call c) (history_by call c h)
  course_after call c img h k w m calm lent timely tells =
      tick_or_not
      (λ x. Calm x → Handed drive img x → AtTick Timely x c → Keeping plan (history_by x c h)
      → Course (after x c) (image_by drive img x c) (history_by x c h))
      tick_course
      (λ x n calm lent timely tells. call_course x c img h k w n calm lent tells) call calm lent timely tells
    where
      tick_course : (a b : List ℕ) → Calm (ticks a b) → Handed drive img (ticks a b) → AtTick Timely (ticks a b) c
          → Keeping plan (history_by (ticks a b) c h)
          → Course (after (ticks a b) c) (image_by drive img (ticks a b) c) (history_by (ticks a b) c h)
      tick_course a b calm lent timely tells =
          record {
            quiet = quiet_after (ticks a b) c k.quiet w;
            run = ran (ticks a b) c img h k w lent;
            on = tick_on a b c img h k.quiet w lent m timely k.few k.keeping k.on.0 k.run;
            few = few_tick plan a b c h k.few;
            keeping = tells;
          }

  -- if it ends, it ends so
  ends_well : (calls : List Call) (c : Controller) (img : List ℕ) (h : History) → Course c img h → Spins drive calls c
      → Alone drive img calls c → InTime calls c → Noting (Keeping plan) calls c h → EndsWith Anyhow calls c
      → EndsWith Closed calls c
  unfolding EndsWith Spins Alone AtTicks Noting
  ends_well [] c img h k s l n t (a, u) = (a, k.on.1 a)
  ends_well (call ∷ calls) c img h k s l n t (inl (a, u)) = inl (a, k.on.1 a)
  ends_well (call ∷ calls) c img h k s l n t (inr (w, rest)) =
      let (calm, spins) = s.1 w in
      let (lent, alone) = l w in
      let (timely, later) = n w in
      let (tells, telling) = t w in
      inr (
        w,
        ends_well calls (after call c) (image_by drive img call c) (history_by call c h)
            (course_after call c img h k w s.0 calm lent timely tells) spins alone later telling rest,
      )

-- from the record that accepted the command
module _ (c : Controller) (q : Quiet c) (order : Order) (transfer : Transfer) (id : Id)
    (w : Writes c order transfer id) (old : List ℕ) (g : Geometry) (disk : Writable g old) (last : ℕ)
    (there : AllThere g old (head_of order c) transfer (record { id = id; side = order.side }) last) where
  ends_by_plan : (plan : Plan g transfer (record { id = id; side = order.side }) last) → Few plan no_history
      → Keeping plan no_history → (calls : List Call) → Spins order.drive calls c → Alone order.drive old calls c
      → InTime calls c → Noting (Keeping plan) calls c no_history → bound_of g ≤ tick_count calls
      → EndsWith (EndedAt (tc_of plan) order transfer (record { id = id; side = order.side }) last) calls c
  ends_by_plan plan few keeping calls spins alone timely noting more =
      let (hd, hs, job) = rw w.accepted at q.proper in
      let (hr, he) = rw w.moves at job in
      ends_well g (head_of order c) order transfer id old disk.present w.moves w.writes hr he hd
      disk.unprotected last there plan calls c old no_history
      (record {
        quiet = q;
        run = to_start w.accepted refl refl refl;
        on = (rw w.accepted tt, λ e. absurd (true≢false (sym (ap at_work w.accepted) ∙ e)));
        few = few;
        keeping = keeping;
      })
      spins alone timely noting (ends_in_time_quiet c q order w.accepted old g disk.present calls alone more)

pub write_succeeds_in_time_quiet : WriteSucceedsInTime Quiet
write_succeeds_in_time_quiet c q order transfer id w old g disk total last fill there calls spins alone timely
    tells more =
    ends_by_plan c q order transfer id w old g disk last there (by_tc total fill) (omega arith)
    (λ e. absurd (false≢true e), λ l. absurd (omega (arith, fill.more)))
    calls spins alone timely tells more

pub write_succeeds_quiet : WriteSucceeds Quiet
write_succeeds_quiet c q order transfer id w old g disk total last fill there calls spins alone prompt tells
    more =
    write_succeeds_in_time_quiet c q order transfer id w old g disk total last fill there calls spins alone
    (prompt_in_time_quiet c q order transfer id (record { accepted = w.accepted; moves = w.moves }) calls prompt)
    tells more

pub write_reaches_eot_quiet : WriteReachesEot Quiet
write_reaches_eot_quiet c q order transfer id w old g disk last there one calls spins alone timely untold
    more =
    ends_by_plan c q order transfer id w old g disk last there (by_eot one) tt refl calls spins alone timely
    untold more

pub write_succeeds_in_time : WriteSucceedsInTime Real
write_succeeds_in_time c r = write_succeeds_in_time_quiet c (quiet_real c r)

pub write_succeeds : WriteSucceeds Real
write_succeeds c r = write_succeeds_quiet c (quiet_real c r)

pub write_reaches_eot : WriteReachesEot Real
write_reaches_eot c r = write_reaches_eot_quiet c (quiet_real c r)
