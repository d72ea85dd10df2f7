-- A write command at work, tick by tick, at the engine's level: what it has left of the image so far, and where it
-- stands (01 Search, Write, Next).
-- Assumes nothing.
use Rattle.std.specs.Prelude.{None, Some}
use Rattle.image.specs.Lent.{put_at}
use Prim.Native.Nat.{ℕ, zero, suc, ◌+◌, ◌-◌, ◌*◌, ◌≤◌, ◌<◌}
use native.Mathlib.Omega.{arith}
use mathlib.Core.Bool.{Bool, true, false, ◌&&◌, cond, true≢false, false≢true, or-true}
use mathlib.Core.List.{List, [], ◌∷◌, ◌++◌}
use mathlib.Core.Logic.{◌⊎◌, inl, inr}
use mathlib.Core.Path.{◌≡◌, refl, sym, ap, ◌∙◌, subst}
use lib.Dec.{eqb, ltb}
use lib.ListN.{length, get_or, set, length-append, get_or-eq_default}
use borrow.Author.Tests.{ltb-true, eqb-true, eq-eqb, ne_eqb, le-leb, lt-leb}
use Rattle.image.proofs.TestLaws.{by_test, both, le_or_lt}
use Rattle.image.specs.declared.layout.Geometry.{Geometry}
use Rattle.image.specs.declared.mark.Mark.TheVariants.{Data}
use Rattle.image.specs.declared.slot.Id.{Id}
use Rattle.image.specs.Disk.{Fits}
use Rattle.image.specs.Layout.{size_of, offset_of, Has}
use Rattle.image.specs.Lent.{stored_in}
use Rattle.image.specs.Mark.{byte_of, mark_of}
use Rattle.image.specs.Slot.{id_at}
use Rattle.chip.specs.declared.fifo.Fifo.{Fifo}
use Rattle.chip.specs.Fifo.{held, front_of, drawn_of, shut}
use Rattle.chip.specs.Next.{advanced_of}
use Rattle.chip.specs.Fifo.{FitsFifo}
use Rattle.sectors.specs.declared.order.Pass.{Pass}
use Rattle.sectors.specs.declared.order.Pass.TheVariants.{Read, Write}
use Rattle.sectors.specs.declared.order.Transfer.{Transfer}
use Rattle.sectors.specs.declared.work.Site.{Site}
use Rattle.sectors.specs.declared.work.Stage.{Stage}
use Rattle.sectors.specs.declared.work.Stage.TheVariants.{Searching, Turning, Reading, Draining, Awaiting, Storing}
use Rattle.sectors.specs.declared.work.Step.{Step}
use Rattle.sectors.specs.declared.work.Task.{Task}
use Rattle.sectors.specs.declared.work.Then.{Then}
use Rattle.sectors.specs.declared.work.Then.TheVariants.{Ends, Works}
use Rattle.sectors.specs.declared.work.Work.{Work}
use Rattle.sectors.specs.declared.work.Work.TheVariants.{Identifying, Moving, Formatting}
use Rattle.sectors.specs.Follow.{fresh_at, turn_of}
use Rattle.sectors.specs.declared.work.Verdict.{Verdict}
use Rattle.sectors.specs.Result.{st0_of, other_bit, late_bit, end_of, move_end, move_fails, moves_of, tardy}
use Rattle.sectors.specs.Search.{matches}
use Rattle.engine.specs.Step.{stage_of}
use Rattle.sectors.specs.Track.{has_track, mark_place, data_place, next_slot, sector_bytes}
use Rattle.sectors.specs.Write.{written_mark}
use Rattle.demands.specs.Acknowledged.{AllSafe, Acknowledges, done_count, shown_number}
use Rattle.demands.specs.History.{Begun, no_one, some_of, History, noted_store}
use Rattle.demands.specs.PowerCut.{Aim, aim_no, Followed, Counts, Stands, HalfDone, LeftBy, stored_count, Missing}
use Rattle.demands.proofs.AddressLaws.{AllBehind, all_step, all_turn, onward_turn, onward_stay}
use Rattle.demands.proofs.FifoStream.{Open, Stream, dried, open_drawn, open_shut, stream_within, held_drawn, held_dry, held_more, held_none}
use Rattle.demands.proofs.LeftLaws.{left_begins, left_puts, left_finishes}
use Rattle.demands.proofs.RequestLaws.{test_on, test_off}
use Rattle.demands.proofs.TickRules.{marked, hits, Waits, NextEnds, NextRule, stops, turns, steps, Rule, not_found, no_data, no_side, late, misses, passes, to_write, to_read, skips, turned_over, waits, begins, puts, pads, dries, ends_short, finishes, moves, moves_last, overruns, overruns_last, drains, data_error, ends_late, other_kind, drained}

-- the slot after the one used is one of the track's
pub next_slot_below : (slot slots : ℕ) → 1 ≤ slots → next_slot slot slots < slots
next_slot_below slot slots h =
    by_test (ltb (slot + 1) slots) (λ (n : ℕ). n < slots) (slot + 1) 0 (λ t. ltb-true (slot + 1) slots t)
    (λ t. omega arith)

-- an address that matches is the one sought
pub matches_id : (id wanted : Id) (n : ℕ) → matches id wanted n ≡ true → (id ≡ wanted) × (id.n ≡ n)
matches_id id wanted n t =
    let (chrn, n'') = both _ (eqb id.n n) t in
    let (chr, n') = both _ (eqb id.n wanted.n) chrn in
    let (ch, r) = both _ (eqb id.r wanted.r) chr in
    let (c, h) = both (eqb id.c wanted.c) (eqb id.h wanted.h) ch in
    let e : id ≡ record { c = wanted.c; h = wanted.h; r = wanted.r; n = wanted.n } =
    rw (
      ← eqb-true id.c wanted.c c,
      ← eqb-true id.h wanted.h h,
      ← eqb-true id.r wanted.r r,
      ← eqb-true id.n wanted.n n',
    ) in
    (e, eqb-true id.n n n'')

-- a mark that is an ID is 1 to 5
pub marked_counts : (v : ℕ) → marked (mark_of v) ≡ true → Counts v
unfolding mark_of
marked_counts zero t = absurd (false≢true t)
marked_counts (suc v) t = (omega arith, at_most (le_or_lt 6 (suc v)))
  where
    at_most : (6 ≤ suc v) ⊎ (suc v < 6) → suc v ≤ 5
    at_most (inl l) =
        absurd (false≢true (rw (
          ne_eqb (suc v) 1 (λ e. omega arith),
          ne_eqb (suc v) 2 (λ e. omega arith),
          ne_eqb (suc v) 3 (λ e. omega arith),
          ne_eqb (suc v) 4 (λ e. omega arith),
          ne_eqb (suc v) 5 (λ e. omega arith),
        ) at t))
    at_most (inr l) = omega arith

-- 01 Next: after a turn it goes on only where the track has that side
pub turned_has : (slot : ℕ) (site : Site) (task : Task) (head : ℕ) (fifo : Fifo)
    → turn_of slot site task head fifo ≡ moves_of (Searching (fresh_at slot)) site task fifo None
    → has_track site.disk head site.side ≡ true
unfolding turn_of move_fails move_end end_of
turned_has slot site task head fifo =
    by_test (has_track site.disk head site.side)
    (λ (s : Step). s ≡ moves_of (Searching (fresh_at slot)) site task fifo None
    → has_track site.disk head site.side ≡ true)
    _ _ (λ t e. t) (λ t e. let f = ap (λ (s : Step). s.then) e in let z : ◌≡◌ {A = ℕ} 0 1 = cc in absurd (omega arith))

-- a task that differs at most in a late byte
record SameOrder (task task' : Task) : Type 0 where
  transfer : task'.transfer ≡ task.transfer
  other : task'.other ≡ task.other
  id : task'.id ≡ task.id

same_order : (task : Task) → SameOrder task task
same_order task = record { transfer = refl; other = refl; id = refl }

-- The history after a store.

abbrev grown : ℕ → List ℕ → History → History
grown at bytes h = record { host = h.host; told = h.told; finished = h.finished; begun = some_of at bytes }

abbrev pub closed : ℕ → List ℕ → History → History
closed at bytes h =
    record {
      host = h.host;
      told = h.told;
      finished = record { at = at; bytes = bytes } ∷ h.finished;
      begun = no_one;
    }

noted_began : (p v at : ℕ) (h : History) → p ≡ at → h.begun ≡ no_one → noted_store (Some (put_at p v)) h ≡ grown at [] h
noted_began p v at h e b = rw (b, e)

noted_grown : (p v at : ℕ) (bytes : List ℕ) (h : History) → p ≡ at + 5 + length bytes → h.begun ≡ some_of at bytes
    → noted_store (Some (put_at p v)) h ≡ grown at (bytes ++ (v ∷ [])) h
noted_grown p v at bytes h e b = rw (b, ne_eqb p at (λ t. omega arith))

pub noted_closed : (p v at : ℕ) (bytes : List ℕ) (h : History) → p ≡ at → h.begun ≡ some_of at bytes
    → noted_store (Some (put_at p v)) h ≡ closed at bytes h
noted_closed p v at bytes h e b = rw (b, eq-eqb p at e)

pub some≢none : (at : ℕ) (bytes : List ℕ) → some_of at bytes ≡ no_one → ⊥
some≢none at bytes e = let z : ◌≡◌ {A = ℕ} 0 1 = cc in omega arith

-- the ends of a search beside a late byte's 10
pub not_80 : (late : Bool) (x : ℕ) → (x ≡ 0x01) ⊎ (x ≡ 0x04) → late_bit late + x ≡ 0x80 → ⊥
not_80 true x (inl y) z = omega arith
not_80 true x (inr y) z = omega arith
not_80 false x (inl y) z = omega arith
not_80 false x (inr y) z = omega arith

-- 01 Data commands: a drive emptied or header changed later, beside a late byte's 10
pub lost_bits : (b : Bool) → (late_bit b + 0x01 ≡ 0x01) ⊎ (late_bit b + 0x01 ≡ 0x11)
lost_bits true = inr refl
lost_bits false = inl refl

pub not_on : (b : Bool) → (b ≡ true → ⊥) → b ≡ false
not_on true n = absurd (n refl)
not_on false n = refl

-- the number of the sector whose address the result gives
pub shown_all : (g : Geometry) (h : History) → (h.told ≡ true) ⊎ (done_count h * size_of g.n ≤ length h.host)
    → shown_number g h ≡ done_count h
shown_all g h (inl t) = rw t
shown_all g h (inr l) = rw (le-leb (done_count h * size_of g.n) (length h.host) l, or-true h.told)

shown_short : (g : Geometry) (h : History) → h.told ≡ false → length h.host < done_count h * size_of g.n
    → shown_number g h ≡ done_count h - 1
shown_short g h t l = rw (t, lt-leb (done_count h * size_of g.n) (length h.host) l)

-- 01 Result: IC
normal_below : (drive side : ℕ) → st0_of true drive side < 0x40
normal_below drive side = omega arith

failed_above : (drive side : ℕ) → st0_of false drive side < 0x40 → ⊥
failed_above drive side l = omega arith

module _ (g : Geometry) (cylinder drive : ℕ) (transfer : Transfer) (aim : Aim) (old : List ℕ) where
  -- what is left of the image so far
  abbrev pub Sofar : List ℕ → History → Type 0
  Sofar img h = LeftBy g cylinder transfer aim old img h

  -- the aim of the sector in hand
  abbrev pub aim_now : History → Aim
  aim_now h = aim_no transfer aim (length h.finished)

  -- the sector in hand stands there
  abbrev pub InHand : Aim → ℕ → Type 0
  InHand now slot = Stands g old cylinder now (offset_of g cylinder now.side slot)

  -- a sector begun, with so many bytes in
  pub record Half (begun : Begun) (now : Aim) (slot done : ℕ) : Type 0 where
    pub bytes : List ℕ
    pub some : begun ≡ some_of (offset_of g cylinder now.side slot) bytes
    pub size : length bytes ≡ done

  -- what a stage says of the slot and of the sector begun; a write neither reads nor drains
  abbrev pub Link : Aim → Begun → Stage → Type 0
  Link now begun (Searching look) = Has g cylinder now.side look.slot × (begun ≡ no_one)
  Link now begun (Turning slot) = (cylinder < g.cylinders) × (slot < g.slots) × (begun ≡ no_one)
  Link now begun (Reading sector done) = ⊥
  Link now begun (Draining sector looks) = ⊥
  Link now begun (Awaiting slot wait) = InHand now slot × (begun ≡ no_one)
  Link now begun (Storing slot done) = InHand now slot × Half begun now slot done

  -- a write at work: it goes by its order, its sectors are apart, its stage says which one is begun, and the FIFO holds
  -- what of the host's bytes is not stored yet
  pub record Busy (efifo : Bool) (site : Site) (task : Task) (stage : Stage) (fifo : Fifo) (img : List ℕ) (h : History)
      : Type 0 where
    pub disk : site.disk ≡ g
    pub drive_is : site.drive ≡ drive
    pub told_to : task.transfer ≡ transfer
    pub plain : task.other ≡ false
    pub side : site.side ≡ (aim_now h).side
    pub id : task.id ≡ (aim_now h).id
    pub all : AllBehind transfer aim (length h.finished)
    pub on : (k : ℕ) → k < length h.finished → Followed transfer (aim_no transfer aim k)
    pub link : Link (aim_now h) h.begun stage
    pub request : Open efifo fifo
    pub stream : Stream h.host (held fifo) (stored_count g h) fifo.tc
    pub tc : fifo.tc ≡ true → task.late ≡ false → h.told ≡ true
    pub heard : h.told ≡ true → fifo.tc ≡ true
    -- 02 2026-02: a byte comes late in a sector begun, and is missing there
    pub late : task.late ≡ true → Missing g h
    pub timely : h.begun ≡ no_one → task.late ≡ false
    -- after TC a sector is sought only for bytes that are held
    pub more : fifo.tc ≡ true → h.begun ≡ no_one → 0 < fifo.count
    pub sofar : Sofar img h

  -- after a tick: it goes on, or it is over
  abbrev pub OnWork : Bool → Work → Fifo → List ℕ → History → Type 0
  OnWork efifo (Identifying site slot looks) fifo img h = ⊥
  OnWork efifo (Moving site task stage) fifo img h = Busy efifo site task stage fifo img h
  OnWork efifo (Formatting site plan form) fifo img h = ⊥

  -- what its result says of what it has done
  abbrev pub Says : Verdict → History → Type 0
  Says verdict h = Acknowledges g transfer aim h verdict.st0 verdict.st1 verdict.st2 verdict.id

  abbrev pub OnThen : Bool → Then → Fifo → List ℕ → History → Type 0
  OnThen efifo (Ends verdict) fifo img h = Sofar img h × Says verdict h
  OnThen efifo (Works work) fifo img h = OnWork efifo work fifo img h

  abbrev pub OnStep : Bool → Step → List ℕ → History → Type 0
  OnStep efifo o img h = OnThen efifo o.then o.fifo (stored_in o.effect img) (noted_store o.effect h)

  module _ (fits : Fits g old) (hr : aim.id.r < 256) (he : transfer.eot < 256) (wr : transfer.pass ≡ Write)
      (efifo : Bool) (fifothr : ℕ) where
    -- a tick that stores nothing goes to another stage with the same sector
    busy_to : {site : Site} {task : Task} {stage : Stage} {fifo : Fifo} {img : List ℕ} {h : History} (stage' : Stage)
        → Busy efifo site task stage fifo img h → Link (aim_now h) h.begun stage'
        → Busy efifo site task stage' fifo img h
    busy_to stage' b l =
        record {
          disk = b.disk;
          drive_is = b.drive_is;
          told_to = b.told_to;
          plain = b.plain;
          side = b.side;
          id = b.id;
          all = b.all;
          on = b.on;
          link = l;
          request = b.request;
          stream = b.stream;
          tc = b.tc;
          heard = b.heard;
          late = b.late;
          timely = b.timely;
          more = b.more;
          sofar = b.sofar;
        }

    -- it is a write
    no_read : {site : Site} {task : Task} {stage : Stage} {fifo : Fifo} {img : List ℕ} {h : History} {A : Type 0}
        → Busy efifo site task stage fifo img h → task.transfer.pass ≡ Read → A
    no_read b e =
        let w : ◌≡◌ {A = Pass} Write Read = sym wr ∙ ap (λ (t : Transfer). t.pass) (sym b.told_to) ∙ e in
        let z : ◌≡◌ {A = ℕ} 0 1 = cc in
        absurd (omega arith)

    -- the mark's place, by the geometry
    mark_is : {site : Site} {task : Task} {stage : Stage} {fifo : Fifo} {img : List ℕ} {h : History} (slot : ℕ)
        → Busy efifo site task stage fifo img h
        → mark_place site cylinder slot ≡ offset_of g cylinder (aim_now h).side slot
    unfolding mark_place
    mark_is slot b = rw (b.disk, b.side)

    -- 01 Search: a match is of the sector sought, in the image as it was
    found : {site : Site} {task : Task} {stage : Stage} {fifo : Fifo} {img : List ℕ} {h : History} (slot : ℕ)
        → Busy efifo site task stage fifo img h → Has g cylinder (aim_now h).side slot
        → hits img site cylinder task slot ≡ true → InHand (aim_now h) slot
    found {site} {task} {stage} {fifo} {img} {h} slot b has t =
        let p : mark_place site cylinder slot ≡ offset_of g cylinder (aim_now h).side slot = mark_is slot b in
        let (m, i) = both (marked (mark_of (get_or img (mark_place site cylinder slot) 0))) _ t in
        let (e, n) = matches_id (id_at img (mark_place site cylinder slot)) task.id site.disk.n i in
        let m' : Counts (get_or img (offset_of g cylinder (aim_now h).side slot) 0) = rw p at (marked_counts _ m) in
        let e' : id_at img (offset_of g cylinder (aim_now h).side slot) ≡ task.id = rw p at e in
        record {
          slot = slot;
          has = has;
          place = refl;
          marked = b.sofar.marked cylinder (aim_now h).side slot has m';
          address = sym (b.sofar.ids cylinder (aim_now h).side slot has) ∙ e' ∙ b.id;
          size = ap (λ (x : Id). x.n) (sym b.id ∙ sym e) ∙ n ∙ ap (λ (x : Geometry). x.n) b.disk;
        }

    -- a store goes to the next byte of the same sector
    busy_stored : {site : Site} {task : Task} {stage : Stage} {fifo : Fifo} {img : List ℕ} {h : History} (task' : Task)
        (slot done : ℕ) (fifo' : Fifo) (img' bytes : List ℕ) → Busy efifo site task stage fifo img h
        → SameOrder task task' → InHand (aim_now h) slot → length bytes ≡ done → Open efifo fifo'
        → Stream h.host (held fifo') (length h.finished * size_of g.n + length bytes) fifo'.tc
        → (fifo'.tc ≡ true → task'.late ≡ false → h.told ≡ true) → (h.told ≡ true → fifo'.tc ≡ true)
        → (task'.late ≡ true → Missing g (grown (offset_of g cylinder (aim_now h).side slot) bytes h))
        → Sofar img' (grown (offset_of g cylinder (aim_now h).side slot) bytes h)
        → Busy efifo site task' (Storing slot done) fifo' img'
        (grown (offset_of g cylinder (aim_now h).side slot) bytes h)
    busy_stored task' slot done fifo' img' bytes b same hand z o s t u m k =
        record {
          disk = b.disk;
          drive_is = b.drive_is;
          told_to = same.transfer ∙ b.told_to;
          plain = same.other ∙ b.plain;
          side = b.side;
          id = same.id ∙ b.id;
          all = b.all;
          on = b.on;
          link = (hand, record { bytes = bytes; some = refl; size = z });
          request = o;
          stream = s;
          tc = t;
          heard = u;
          late = m;
          timely = λ e. absurd (some≢none _ _ e);
          more = λ x e. absurd (some≢none _ _ e);
          sofar = k;
        }

    module _ {site : Site} {task : Task} {stage : Stage} {fifo : Fifo} {img : List ℕ} {h : History}
        (b : Busy efifo site task stage fifo img h) where
      abbrev here : ℕ → ℕ
      here slot = offset_of g cylinder (aim_now h).side slot

      -- what is handed over and not stored, with no sector begun
      none_stream : h.begun ≡ no_one → Stream h.host (held fifo) (length h.finished * size_of g.n) fifo.tc
      none_stream none =
          let k : stored_count g h ≡ length h.finished * size_of g.n = rw none (omega arith) in
          rw k at b.stream

      -- a command at work has not all safe
      at_risk : FitsFifo efifo fifo → AllSafe g h → ⊥
      at_risk f a =
          omega (
            arith,
            a.all,
            held_more efifo fifo f h.host _ (b.more (b.heard a.told) a.none) (none_stream a.none),
          )

      no_more_of : (img : List ℕ) (h : History) → Sofar img h → 0 < length h.finished
          → (length h.finished - 1) * size_of g.n < length h.host
      no_more_of img h k l = k.fed (length h.finished - 1) (omega arith)

      -- the sectors finished so far are all full of the host's bytes, or TC came
      all_full : (h.told ≡ true) ⊎ (length h.finished * size_of g.n ≤ length h.host)
      all_full = go h.begun refl
        where
          with_none : h.begun ≡ no_one → (t : Bool) → fifo.tc ≡ t
              → (h.told ≡ true) ⊎ (length h.finished * size_of g.n ≤ length h.host)
          with_none none true e = inl (b.tc e (b.timely none))
          with_none none false e = inr (stream_within h.host _ _ fifo.tc e (none_stream none))

          go : (x : Begun) → h.begun ≡ x
              → (h.told ≡ true) ⊎ (length h.finished * size_of g.n ≤ length h.host)
          go no_one e = with_none e fifo.tc refl
          go (some_of at bytes) e =
              let own = b.sofar.fed (length h.finished) (rw e (omega arith)) in
              inr (omega arith)

      not_short : h.told ≡ false → length h.host < length h.finished * size_of g.n → ⊥
      not_short t l = go all_full
        where
          go : (h.told ≡ true) ⊎ (length h.finished * size_of g.n ≤ length h.host) → ⊥
          go (inl x) = true≢false (sym x ∙ t)
          go (inr x) = omega arith

      -- 01 Result: an end that is no Next
      pub ended_says : (verdict : Verdict) → FitsFifo efifo fifo
          → verdict.st0 ≡ st0_of false site.drive site.side → verdict.id ≡ task.id
          → (verdict.st1 ≡ 0x80 → ⊥)
          → (h.begun ≡ no_one) ⊎ ((verdict.st1 ≡ 0x01) ⊎ (verdict.st1 ≡ 0x11)) → Says verdict h
      ended_says verdict f st0 id other why =
          record {
            address = id ∙ b.id ∙ ap (λ (k : ℕ). (aim_no transfer aim k).id) (sym (shown_all g h all_full));
            normal = λ l. absurd (failed_above site.drive site.side (rw st0 at l));
            safe = λ a. absurd (at_risk f a);
            clean = λ l. absurd (failed_above site.drive site.side (rw st0 at l));
            no_more = no_more_of img h b.sofar;
            past_eot_law = λ e. absurd (other e);
            short = λ t l. absurd (not_short t l);
            broken = λ at bytes e. left why at bytes e;
          }
        where
          left : (h.begun ≡ no_one) ⊎ ((verdict.st1 ≡ 0x01) ⊎ (verdict.st1 ≡ 0x11)) → (at : ℕ) (bytes : List ℕ)
              → h.begun ≡ some_of at bytes → (verdict.st1 ≡ 0x01) ⊎ (verdict.st1 ≡ 0x11)
          left (inl none) at bytes e = absurd (some≢none at bytes (sym e ∙ none))
          left (inr t) at bytes e = t

      -- 01 Write: the broken mark
      busy_begins : (slot : ℕ) → FitsFifo efifo fifo → 0 < fifo.count → InHand (aim_now h) slot → h.begun ≡ no_one
          → Busy efifo site task (Storing slot 0) fifo (set img (mark_place site cylinder slot) (written_mark true task))
          (noted_store (Some (put_at (mark_place site cylinder slot) (written_mark true task))) h)
      busy_begins slot f c hand none =
          let p = mark_is slot b in
          let v : written_mark true task ≡ byte_of (Data transfer.deleted true) = rw b.told_to in
          let left = left_begins g cylinder transfer aim old fits hr img h b.sofar none b.all (here slot) hand
          (held_more efifo fifo f h.host _ c (none_stream none)) b.on in
          let note = noted_began (here slot) (byte_of (Data transfer.deleted true)) (here slot) h refl none in
          let s : Stream h.host (held fifo) (length h.finished * size_of g.n + 0) fifo.tc =
          rw none at b.stream in
          rw (p, v, note)
          (busy_stored task slot 0 fifo _ [] b (same_order task) hand refl b.request s b.tc b.heard
          (λ t. absurd (true≢false (sym t ∙ b.timely none)))
          (rw note at left))

      -- 01 Write: one byte, the host's, or a zero after TC or where a byte is missing
      busy_puts : (task' : Task) (slot done v : ℕ) (fifo' : Fifo) → SameOrder task task' → InHand (aim_now h) slot
          → Half h.begun (aim_now h) slot done → done < sector_bytes site
          → v ≡ get_or h.host (stored_count g h) 0 → Open efifo fifo'
          → Stream h.host (held fifo') (stored_count g h + 1) fifo'.tc
          → (fifo'.tc ≡ true → task'.late ≡ false → h.told ≡ true) → (h.told ≡ true → fifo'.tc ≡ true)
          → (task'.late ≡ true → (length h.host ≤ stored_count g h) × (h.told ≡ false))
          → Busy efifo site task' (Storing slot (done + 1)) fifo' (set img (data_place site cylinder slot done) v)
          (noted_store (Some (put_at (data_place site cylinder slot done) v)) h)
      unfolding data_place
      busy_puts task' slot done v fifo' same hand half l e o s t u y =
          let bytes = half.bytes in
          let p : mark_place site cylinder slot + 5 + done ≡ here slot + 5 + length bytes =
          omega (arith, mark_is slot b, half.size) in
          let short : length bytes < size_of g.n = rw half.size (rw b.disk at l) in
          let k : stored_count g h ≡ length h.finished * size_of g.n + length bytes = rw half.some in
          let e' : v ≡ get_or h.host (length h.finished * size_of g.n + length bytes) 0 = rw k at e in
          let s' : Stream h.host (held fifo') (length h.finished * size_of g.n + length bytes + 1)
          fifo'.tc = rw k at s in
          let left =
          left_puts g cylinder transfer aim old fits hr img h b.sofar (here slot) bytes half.some b.all
          (here slot + 5 + length bytes) v short refl e' in
          let note = noted_grown (here slot + 5 + length bytes) v (here slot) bytes h refl half.some in
          let n : length (bytes ++ (v ∷ [])) ≡ length bytes + 1 = length-append bytes (v ∷ []) in
          let m : length h.finished * size_of g.n + length bytes + 1
          ≡ length h.finished * size_of g.n + length (bytes ++ (v ∷ [])) = omega arith in
          rw (p, note)
          (busy_stored task' slot (done + 1) fifo' _ (bytes ++ (v ∷ [])) b same hand (omega (arith, half.size)) o
          (subst (λ (j : ℕ). Stream h.host (held fifo') j fifo'.tc) m s') t u
          (λ q. record { beyond = omega (arith, (y q).0); untold = (y q).1 })
          (rw note at left))

      -- 01 Write: the good mark
      closes : (slot done : ℕ) → InHand (aim_now h) slot → (half : Half h.begun (aim_now h) slot done)
          → sector_bytes site ≤ done
          → Sofar (set img (mark_place site cylinder slot) (written_mark false task)) (closed (here slot) half.bytes h)
          × (stored_count g h ≡ stored_count g (closed (here slot) half.bytes h))
      closes slot done hand half l =
          let bytes = half.bytes in
          let p = mark_is slot b in
          let v : written_mark false task ≡ byte_of (Data transfer.deleted false) = rw b.told_to in
          let hd : Stands g old cylinder (aim_now h) (here slot)
          × HalfDone g transfer.deleted old img h.host (length h.finished) (here slot) (length bytes) =
          rw half.some at b.sofar.begun in
          let l' : size_of g.n ≤ done = rw b.disk at l in
          let z : length bytes ≡ size_of g.n = omega (arith, half.size, hd.1.short) in
          let left =
          left_finishes g cylinder transfer aim old fits hr img h b.sofar (here slot) bytes half.some
          b.all z in
          let note = noted_closed (here slot) (byte_of (Data transfer.deleted false)) (here slot) bytes h refl
          half.some in
          let k : stored_count g h ≡ length h.finished * size_of g.n + length bytes = rw half.some in (
            rw (p, v) (rw note at left),
            omega arith,
          )

      -- 02 2026-02: a byte was missing: it ends with this sector
      short_says : (at : ℕ) (bytes : List ℕ) (img' : List ℕ) (verdict : Verdict) → task.late ≡ true
          → verdict.st0 ≡ st0_of false site.drive site.side → verdict.st1 ≡ 0x10 → verdict.st2 ≡ 0x00
          → verdict.id ≡ task.id
          → stored_count g h ≡ stored_count g (closed at bytes h)
          → Sofar img' (closed at bytes h)
          → Says verdict (closed at bytes h)
      short_says at bytes img' verdict tardily st0 st1 st2 id n k =
          let m = b.late tardily in
          let few : length h.host < suc (length h.finished) * size_of g.n = omega (arith, m.beyond) in
          let one : suc (length h.finished) - 1 ≡ length h.finished = omega arith in
          record {
            address = id ∙ b.id ∙ ap (λ (k : ℕ). (aim_no transfer aim k).id)
                (sym (shown_short g (closed at bytes h) m.untold few ∙ one));
            normal = λ l. absurd (failed_above site.drive site.side (rw st0 at l));
            safe = λ a. absurd (true≢false (sym a.told ∙ m.untold));
            clean = λ l. absurd (failed_above site.drive site.side (rw st0 at l));
            no_more = no_more_of img' _ k;
            past_eot_law = λ e. absurd (omega (arith, st1));
            short = λ t l. (st1, st2);
            broken = λ x y e. absurd (some≢none x y (sym e));
          }

      -- 01 Next, Result: where Next ends it
      next_says : (at : ℕ) (bytes : List ℕ) (img' : List ℕ) (verdict : Verdict) → FitsFifo efifo fifo
          → task.late ≡ false → NextEnds (fifo.tc && eqb fifo.count 0) site task verdict
          → stored_count g h ≡ stored_count g (closed at bytes h)
          → Sofar img' (closed at bytes h)
          → Says verdict (closed at bytes h)
      next_says at bytes img' verdict f on_time v n k = go (fifo.tc && eqb fifo.count 0) refl v
        where
          k_is : stored_count g h ≡ suc (length h.finished) * size_of g.n
          k_is = n ∙ omega arith

          stream' : Stream h.host (held fifo) (suc (length h.finished) * size_of g.n) fifo.tc
          stream' = rw k_is at b.stream

          address_is : verdict.id ≡ advanced_of task.id task.transfer.eot task.transfer.mt site.side 1
              → (h.told ≡ true) ⊎ (suc (length h.finished) * size_of g.n ≤ length h.host)
              → verdict.id ≡ (aim_no transfer aim (shown_number g (closed at bytes h))).id
          address_is e full =
              let there : verdict.id ≡ (aim_no transfer aim (suc (length h.finished))).id =
              e ∙ rw (b.id, b.told_to, b.side) in
              there ∙ ap (λ (k : ℕ). (aim_no transfer aim k).id) (sym (shown_all g (closed at bytes h) full))

          st1_is : (t : Bool) → NextEnds t site task verdict → verdict.st1 ≡ cond t 0x00 0x80
          st1_is t w = w.st1 ∙ rw on_time (omega arith)

          at_eot : (m : ℕ) → m + 1 ≡ suc (length h.finished) → task.id.r ≡ task.transfer.eot
              → (aim_no transfer aim m).id.r ≡ transfer.eot
          at_eot m z e =
              let y : m ≡ length h.finished = omega arith in
              rw y (rw (b.id, b.told_to) at e)

          go : (t : Bool) → (fifo.tc && eqb fifo.count 0) ≡ t → NextEnds t site task verdict
              → Says verdict (closed at bytes h)
          go true t w =
              let (tc, z) = test_on fifo.tc fifo.count t in
              let told = b.tc tc on_time in
              let st1 : verdict.st1 ≡ 0x00 = st1_is true w in
              record {
                address = address_is w.id (inl told);
                normal = λ l. record {
                  told = told;
                  none = refl;
                  all = held_none efifo fifo f h.host _ z stream';
                };
                safe = λ a. rw w.st0 (normal_below site.drive site.side);
                clean = λ l. (st1, w.st2 ∙ ap other_bit b.plain);
                no_more = no_more_of img' _ k;
                past_eot_law = λ e. absurd (omega arith);
                short = λ t l. absurd (true≢false (sym told ∙ t));
                broken = λ x y e. absurd (some≢none x y (sym e));
              }
          go false t w =
              let on = test_off fifo.tc fifo.count t in
              let whole = within fifo.tc refl on in
              record {
                address = address_is w.id (inr whole);
                normal = λ l. absurd (failed_above site.drive site.side (rw w.st0 at l));
                safe = λ a. absurd (omega (
                  arith,
                  a.all,
                  held_more efifo fifo f h.host _ (on (b.heard a.told)) stream',
                ));
                clean = λ l. absurd (failed_above site.drive site.side (rw w.st0 at l));
                no_more = no_more_of img' _ k;
                past_eot_law = λ e. record {
                  none = refl;
                  some = omega arith;
                  last = λ m z. at_eot m z (w.eot refl);
                  whole = whole;
                };
                short = λ t l. absurd (omega arith);
                broken = λ x y e. absurd (some≢none x y (sym e));
              }
            where
              within : (t : Bool) → fifo.tc ≡ t → (fifo.tc ≡ true → 0 < fifo.count)
                  → suc (length h.finished) * size_of g.n ≤ length h.host
              within true e on = omega (arith, held_more efifo fifo f h.host _ (on e) stream')
              within false e on = stream_within h.host _ _ fifo.tc e stream'

      -- one sector more that is followed by another
      one_on_lem : (k : ℕ) → (length h.finished ≤ k) ⊎ (k < length h.finished) → k < suc (length h.finished)
          → Followed transfer (aim_now h) → Followed transfer (aim_no transfer aim k)
      one_on_lem k (inl a) l here = let z : k ≡ length h.finished = omega arith in rw z here
      one_on_lem k (inr a) l here = b.on k a

      -- and Next in that same tick
      busy_next : (slot done : ℕ) (o : Step) → FitsFifo efifo fifo → InHand (aim_now h) slot
          → Half h.begun (aim_now h) slot done → sector_bytes site ≤ done → task.late ≡ false
          → NextRule (fifo.tc && eqb fifo.count 0) slot site task fifo (Some (put_at (mark_place site cylinder slot) (written_mark false task))) o
          → OnStep efifo o img h
      busy_next slot done o f hand half l on_time (stops verdict v e) =
          let note = noted_closed (mark_place site cylinder slot) (written_mark false task) (here slot)
          half.bytes h (mark_is slot b) half.some in
          let (k, n) = closes slot done hand half l in
          rw (e, note) (k, next_says _ half.bytes _ verdict f on_time v n k)
      busy_next slot done o f hand half l on_time (turns u r t d e) =
          let note = noted_closed (mark_place site cylinder slot) (written_mark false task) (here slot)
          half.bytes h (mark_is slot b) half.some in
          let (k, n) = closes slot done hand half l in
          let r' : (aim_now h).id.r ≡ transfer.eot = rw (b.id, b.told_to) at r in
          let z : (aim_now h).side ≡ 0 = sym b.side ∙ d in
          let t' : transfer.mt ≡ true = rw b.told_to at t in
          rw (e, note)
          (record {
            disk = b.disk;
            drive_is = b.drive_is;
            told_to = b.told_to;
            plain = b.plain;
            side = sym (onward_turn transfer (aim_now h) r');
            id = rw (b.id, b.told_to, b.side);
            all = all_turn transfer aim (length h.finished) b.all hr r' z;
            on = λ k x. one_on_lem k (le_or_lt (length h.finished) k) x (λ q. (t', z));
            link = (hand.has.on_disk, rw b.disk (next_slot_below slot g.slots fits.range.slots.0), refl);
            request = b.request;
            stream = subst (λ (j : ℕ). Stream h.host (held fifo) j fifo.tc) n b.stream;
            tc = b.tc;
            heard = b.heard;
            late = λ x. absurd (true≢false (sym x ∙ on_time));
            timely = λ x. on_time;
            more = λ x y. test_off fifo.tc fifo.count u x;
            sofar = k;
          })
      busy_next slot done o f hand half l on_time (steps u r e) =
          let note = noted_closed (mark_place site cylinder slot) (written_mark false task) (here slot)
          half.bytes h (mark_is slot b) half.some in
          let (k, n) = closes slot done hand half l in
          let r' : (aim_now h).id.r ≡ transfer.eot → ⊥ = rw (b.id, b.told_to) at r in
          let stay = onward_stay transfer (aim_now h) r' in
          rw (e, note)
          (record {
            disk = b.disk;
            drive_is = b.drive_is;
            told_to = b.told_to;
            plain = b.plain;
            side = b.side ∙ sym stay;
            id = rw (b.id, b.told_to, b.side);
            all = all_step transfer aim (length h.finished) b.all hr he r';
            on = λ k x. one_on_lem k (le_or_lt (length h.finished) k) x (λ q. absurd (r' q));
            link = (
              record {
                on_disk = hand.has.on_disk;
                on_cylinder = omega (arith, hand.has.on_cylinder);
                on_track = rw b.disk (next_slot_below slot g.slots fits.range.slots.0);
              },
              refl,
            );
            request = b.request;
            stream = subst (λ (j : ℕ). Stream h.host (held fifo) j fifo.tc) n b.stream;
            tc = b.tc;
            heard = b.heard;
            late = λ x. absurd (true≢false (sym x ∙ on_time));
            timely = λ x. on_time;
            more = λ x y. test_off fifo.tc fifo.count u x;
            sofar = k;
          })

      -- it waits with no sector begun
      waits_none : (x : Stage) → Waits x → Link (aim_now h) h.begun x → h.begun ≡ no_one
      waits_none (Searching look) w k = absurd w
      waits_none (Turning slot) w k = absurd w
      waits_none (Reading sector done) w k = absurd w
      waits_none (Draining sector looks) w k = absurd k
      waits_none (Awaiting slot wait) w k = k.1
      waits_none (Storing slot done) w k = absurd w

      -- a tick of it, by its rule
      pub busy_rule : (o : Step) → FitsFifo efifo fifo → o ≡ stage_of stage site task cylinder img fifo efifo fifothr
          → Rule cylinder img efifo fifothr site task fifo stage o → OnStep efifo o img h
      unfolding stage_of has_track drawn_of
      busy_rule o f is (not_found look verdict p t l m x y v e) =
          let (k, none) = rw p at b.link in
          rw e (
            b.sofar,
            ended_says verdict f v.st0 v.id
                (λ z. not_80 task.late x y (sym v.st1_is ∙ z)) (inl none),
          )
      busy_rule o f is (no_data look verdict p t r m v e) = no_read b r
      busy_rule o f is (no_side slot verdict p ns v e) =
          let (on_disk, on_track, none) = rw p at b.link in
          rw e (
            b.sofar,
            ended_says verdict f v.st0 v.id
                (λ z. not_80 task.late 0x01 (inl refl) (sym v.st1_is ∙ z)) (inl none),
          )
      busy_rule o f is (late verdict v l w e) =
          rw e (
            b.sofar,
            ended_says verdict f v.st0 v.id (λ z. omega (arith, v.st1_is))
                (inl (waits_none stage w b.link)),
          )
      busy_rule o f is (misses look on p t l a q e) =
          let (k, none) = rw p at b.link in
          let l' : look.slot + 1 < g.slots = rw b.disk at l in
          rw e
          (busy_to (Searching on) b (
            record {
              on_disk = k.on_disk;
              on_cylinder = k.on_cylinder;
              on_track = omega arith;
            },
            none,
          ))
      busy_rule o f is (passes look on p t l q a c e) =
          let (k, none) = rw p at b.link in
          rw e
          (busy_to (Searching on) b (
            record {
              on_disk = k.on_disk;
              on_cylinder = k.on_cylinder;
              on_track = omega (arith, k.on_track);
            },
            none,
          ))
      busy_rule o f is (to_write look p t w e) =
          let (k, none) = rw p at b.link in
          rw e (busy_to (Awaiting look.slot 0) b (found look.slot b k t, none))
      busy_rule o f is (to_read look deleted broken other p t r m d ns e) = no_read b r
      busy_rule o f is (skips look deleted broken p t r m d k n) = no_read b r
      busy_rule o f is (turned_over slot p e) =
          let (on_disk, on_track, none) = rw p at b.link in
          let t : has_track site.disk cylinder site.side ≡ true =
          turned_has slot site task cylinder fifo (sym (rw p at is) ∙ e) in
          let t' : ltb site.side site.disk.heads ≡ true =
          (both (ltb cylinder site.disk.cylinders) (ltb site.side site.disk.heads) t).1 in
          let t'' : ltb (aim_now h).side g.heads ≡ true = rw (b.disk, b.side) at t' in
          rw e
          (busy_to (Searching (fresh_at slot)) b
          (record { on_disk = on_disk; on_cylinder = ltb-true _ _ t''; on_track = on_track }, none))
      busy_rule o f is (waits slot wait p l e) = rw e (busy_to (Awaiting slot (wait + 1)) b (rw p at b.link))
      busy_rule o f is (begins slot wait p l e) =
          let (hand, none) = rw p at b.link in
          rw e (busy_begins slot f l hand none)
      busy_rule o f is (puts slot done p l c e) =
          let (hand, half) = rw p at b.link in
          let (v, s) = held_drawn efifo fifo f h.host (stored_count g h) fifothr c b.stream in
          rw e
          (busy_puts task slot done (front_of fifo) (drawn_of efifo fifothr fifo) (same_order task) hand half l v
          (open_drawn efifo fifothr fifo b.request) s b.tc b.heard
          (λ t. absurd (omega (arith, (b.late t).beyond, held_more efifo fifo f h.host _ c b.stream))))
      busy_rule o f is (pads slot done p l c t e) =
          let (hand, half) = rw p at b.link in
          let (v, s) = held_dry efifo fifo f h.host (stored_count g h) c t b.stream in
          rw e
          (busy_puts task slot done 0 fifo (same_order task) hand half l (sym v) b.request s b.tc b.heard
          (λ t. (omega (arith, (b.late t).beyond), (b.late t).untold)))
      busy_rule o f is (dries slot done p l c t e) =
          let (hand, half) = rw p at b.link in
          let none = held_none efifo fifo f h.host (stored_count g h) c b.stream in
          rw e
          (busy_puts (tardy task) slot done 0 shut (record { transfer = refl; other = refl; id = refl }) hand half l
          (sym (get_or-eq_default h.host 0 none)) (open_shut efifo) (dried refl refl (omega arith))
          (λ x y. absurd (true≢false y)) (λ x. refl)
          (λ x. (none, not_on h.told (λ y. true≢false (sym (b.heard y) ∙ t)))))
      busy_rule o f is (ends_short slot done verdict p l y st2 v e) =
          let (hand, half) = rw p at b.link in
          let note = noted_closed (mark_place site cylinder slot) (written_mark false task) (here slot)
          half.bytes h (mark_is slot b) half.some in
          let (k, n) = closes slot done hand half l in
          rw (e, note) (
            k,
            short_says _ half.bytes _ verdict y v.st0 v.st1_is (st2 ∙ ap (λ (x : Bool). other_bit x + 0x00) b.plain)
                v.id n k,
          )
      busy_rule o f is (finishes slot done p l y n) =
          let (hand, half) = rw p at b.link in
          busy_next slot done o f hand half l y n
      busy_rule o f is (moves sector done fifo' p l x e) = absurd (rw p at b.link)
      busy_rule o f is (moves_last sector done fifo' p l x e) = absurd (rw p at b.link)
      busy_rule o f is (overruns sector done p l x y e) = absurd (rw p at b.link)
      busy_rule o f is (overruns_last sector done p l x y e) = absurd (rw p at b.link)
      busy_rule o f is (drains sector looks p l e) = absurd (rw p at b.link)
      busy_rule o f is (data_error sector looks verdict p q s v e) = absurd (rw p at b.link)
      busy_rule o f is (ends_late sector looks verdict p q z v e) = absurd (rw p at b.link)
      busy_rule o f is (other_kind sector looks verdict p q y z ok os v zc e) = absurd (rw p at b.link)
      busy_rule o f is (drained sector looks p q y ok zc n) = absurd (rw p at b.link)
