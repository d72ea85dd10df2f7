-- While a sector's bytes pass and nothing else moves, the ticks made the short way are those of the rules (01 Calls,
-- Read, Write).
-- Assumes nothing.
use Rattle.std.specs.Prelude.{Option, None, Some}
use Rattle.image.specs.Lent.{put_at}
use Prim.Native.Nat.{ℕ, zero, suc, ◌+◌, ◌-◌, ◌%◌, ◌≤◌, ◌<◌}
use native.Mathlib.Omega.{arith}
use mathlib.Core.Bool.{Bool, true, false, not, ◌||◌, cond, beq}
use mathlib.Core.List.{List, []}
use mathlib.Core.Path.{◌≡◌, refl, sym, ◌∙◌, subst}
use lib.Dec.{eqb, leb}
use lib.ListN.{length, get_or, set}
use borrow.Author.Tests.{leb-false}
use Rattle.image.specs.Lent.{Effect}
use Rattle.image.specs.Disk.{disk_in}
use Rattle.image.specs.Lent.{pick_of, stored_as}
use Rattle.image.proofs.DiskLaws.{store_keeps_disk}
use Rattle.image.proofs.TestLaws.{by_test, both, beq_self, beq_true}
use Rattle.chip.specs.declared.fifo.Fifo.{Fifo}
use Rattle.chip.specs.Fifo.{capacity_of, full_of, front_of, filled_of, drawn_of}
use Rattle.sectors.specs.declared.work.Sector.{Sector}
use Rattle.sectors.specs.declared.work.Site.{Site}
use Rattle.sectors.specs.declared.work.Stage.{Stage}
use Rattle.sectors.specs.declared.work.Stage.TheVariants.{Searching, Turning, Reading, Draining, Awaiting, Storing}
use Rattle.sectors.specs.declared.work.Task.{Task}
use Rattle.sectors.specs.declared.work.Then.TheVariants.{Works}
use Rattle.sectors.specs.declared.work.Work.{Work}
use Rattle.sectors.specs.declared.work.Work.TheVariants.{Identifying, Moving, Formatting}
use Rattle.sectors.specs.Read.{last_byte, read_on, read_of}
use Rattle.sectors.specs.Result.{moves_of}
use Rattle.sectors.specs.Track.{stays_of, pass_bytes, data_place}
use Rattle.sectors.specs.Write.{put_of, store_of}
use Rattle.engine.specs.Step.{stage_of, stage_wait, go_on_of}
use Rattle.engine.specs.Step.{work_step}
use Rattle.engine.proofs.KeptLaws.{go_on_kept}
use Rattle.fdc.specs.declared.answer.Answer.{Answer}
use Rattle.fdc.specs.declared.answer.Reply.TheVariants.{Done}
use Rattle.fdc.specs.declared.record.Controller.{Controller}
use Rattle.fdc.specs.declared.record.Phase.{Phase}
use Rattle.fdc.specs.declared.record.Phase.TheVariants.{Idle, Gathering, Starting, Working, Sensing, Answering}
use Rattle.fdc.specs.Answer.{answer_of}
use Rattle.fdc.specs.Record.{drive_at, with_fifo, with_phase, valid_of}
use Rattle.fdc.specs.Registers.{held_in, int_of, drq_of}
use Rattle.fdc.specs.Ticks.{seen_of, settled_of, decided_of, work_tick, decide_in, decide_of, ruled_of, tick_of, image_after}
use Rattle.fdc.specs.Ticks.{all_stand}
use Rattle.fdc.proofs.StandLaws.{all_still, stepped_stands}
use Rattle.fdc.proofs.ValidLaws.{Valid, valid_true, true_valid}
use Rattle.many_ticks.specs.declared.sector.Pace.{Pace}
use Rattle.many_ticks.specs.Sector.{pace_of, read_rests, read_fill, reads_of}
use Rattle.many_ticks.specs.Sector.{store_rests, StoredSector, pace_stored, byte_put, sector_stores}
use Rattle.many_ticks.proofs.RunLaws.{run_step}
use Rattle.many_ticks.proofs.SectorLaws.{not-true, neither, reads_left, stores_left}
use Rattle.many_ticks.specs.Run.{Ran, ran_with, ran_on, changed_in, ran_for, onward_of, no_tick_made}
use Rattle.many_ticks.specs.declared.stream.Stream.{Stream}
use Rattle.many_ticks.specs.declared.stream.Stream.TheVariants.{Reads, Stores}
use Rattle.many_ticks.specs.Stream.{stage_stream, work_stream, phase_stream}
use Rattle.many_ticks.specs.Stream.{meets_of, kept, rests_of, stream_in}

-- the lines as they are
unchanged : (x : Answer) → changed_in x x ≡ false
unchanged x = rw (beq_self x.int, beq_self x.drq)

stay : (n : ℕ) (r : Ran) → ran_for n r ≡ onward_of r.answer n r
stay n r = rw (unchanged r.answer)

-- no store
none_stored : (drive k : ℕ) (img : List ℕ) → stored_as drive k None img ≡ img
none_stored drive k img = go (eqb drive k)
  where
    go : (t : Bool) → cond t img img ≡ img
    go true = refl
    go false = refl

-- a store behind the header keeps the disk of the drive that it goes to
disk_picked : (drive at byte : ℕ) (a b : List ℕ) → 13 ≤ at
    → disk_in (pick_of drive (stored_as drive 0 (Some (put_at at byte)) a) (stored_as drive 1 (Some (put_at at byte)) b))
    ≡ disk_in (pick_of drive a b)
disk_picked drive at byte a b h = go (eqb drive 0) (eqb drive 1)
  where
    go : (t u : Bool)
        → disk_in (cond t (cond t (set a at byte) a) (cond u (cond u (set b at byte) b) []))
        ≡ disk_in (cond t a (cond u b []))
    go true u = store_keeps_disk a at byte (omega arith)
    go false true = store_keeps_disk b at byte (omega arith)
    go false false = refl

-- nothing but a sector's bytes moves
pub record Steady (site : Site) (a b : List ℕ) (c : Controller) : Type 0 where
  pub free : held_in c.registers.dor ≡ false
  pub stand : all_stand c.drives ≡ true
  pub four : length c.drives ≡ 4
  pub there : stays_of (seen_of c.registers.dor site.drive (pick_of site.drive a b)) site.disk ≡ true

-- a byte more
filled_count : (efifo : Bool) (fifothr : ℕ) (byte : ℕ) (fifo : Fifo) → fifo.tc ≡ false → full_of efifo fifo ≡ false
    → (filled_of efifo fifothr false byte fifo).count ≡ fifo.count + 1
unfolding filled_of
filled_count efifo fifothr byte fifo t f = rw (t, f)

module _ (c : Controller) (site : Site) (task : Task) where
  -- the record at a stage of the transfer
  abbrev pub at_of : Stage → Fifo → Controller
  at_of stage fifo = with_fifo fifo (with_phase (Working (Moving site task stage)) c)

  abbrev shown : Stage → Fifo → Answer
  shown stage fifo = answer_of Done (at_of stage fifo)

  abbrev pub head_of : ℕ
  head_of = (drive_at (site.drive % 4) c.drives).head

  pub at_start : (stage : Stage) → c.phase ≡ Working (Moving site task stage) → at_of stage c.fifo ≡ c
  unfolding with_fifo with_phase
  at_start stage e = rw (← e)

  -- the lines go by the request
  same_int : (stage stage' : Stage) (fifo fifo' : Fifo) → fifo.asks ≡ fifo'.asks
      → int_of (at_of stage fifo) ≡ int_of (at_of stage' fifo')
  unfolding int_of with_fifo with_phase
  same_int stage stage' fifo fifo' e = rw e

  same_drq : (stage stage' : Stage) (fifo fifo' : Fifo) → fifo.asks ≡ fifo'.asks
      → drq_of (at_of stage fifo) ≡ drq_of (at_of stage' fifo')
  unfolding drq_of with_fifo with_phase
  same_drq stage stage' fifo fifo' e = rw e

  onward_same : (stage stage' : Stage) (fifo fifo' : Fifo) (left : ℕ) (r : Ran) → fifo.asks ≡ fifo'.asks
      → onward_of (shown stage fifo) left r ≡ onward_of (shown stage' fifo') left r
  unfolding answer_of
  onward_same stage stage' fifo fifo' left r e =
      rw (same_int stage stage' fifo fifo' e, same_drq stage stage' fifo fifo' e)

  -- a tick that leaves the lines, and the ticks after it
  join : (stage stage' : Stage) (fifo fifo' : Fifo) (n left m : ℕ) (a b a' b' : List ℕ) (r : Ran)
      → fifo.asks ≡ fifo'.asks
      → ran_for (suc n) (ran_with (shown stage fifo) m a b)
      ≡ onward_of (shown stage fifo) n (ran_with (shown stage' fifo') (m + 1) a' b')
      → ran_for n (ran_with (shown stage' fifo') (m + 1) a' b') ≡ onward_of (shown stage' fifo') left r
      → ran_for (suc n) (ran_with (shown stage fifo) m a b) ≡ onward_of (shown stage fifo) left r
  join stage stage' fifo fifo' n left m a b a' b' r e one later =
      one
      ∙ onward_same stage stage' fifo fifo' n _ e
      ∙ sym (stay n (ran_with (shown stage' fifo') (m + 1) a' b'))
      ∙ later
      ∙ onward_same stage' stage fifo' fifo left r (sym e)

  settled_at : (stage stage' : Stage) (fifo fifo' : Fifo)
      → settled_of (Works (Moving site task stage')) fifo' (at_of stage fifo) ≡ at_of stage' fifo'
  unfolding settled_of with_fifo with_phase
  settled_at stage stage' fifo fifo' = refl

  module _ (a b : List ℕ) (s : Steady site a b c) where
    tick_at : (stage : Stage) (fifo : Fifo) → valid_of (at_of stage fifo) ≡ true
        → ruled_of a b (at_of stage fifo)
        ≡ decided_of site.drive
        (stage_of stage site task head_of (pick_of site.drive a b) fifo c.registers.efifo c.registers.fifothr)
        (at_of stage fifo)
    unfolding ruled_of decide_of decide_in work_tick go_on_of work_step with_fifo with_phase
    tick_at stage fifo v =
        rw (v, s.free, stepped_stands a b (at_of stage fifo) s.four (all_still c.drives s.stand), s.there)

    -- one tick more, that ends nothing
    ticked_at : (stage stage' : Stage) (fifo fifo' : Fifo) (e : Effect) (m : ℕ) → valid_of (at_of stage fifo) ≡ true
        → stage_of stage site task head_of (pick_of site.drive a b) fifo c.registers.efifo c.registers.fifothr
        ≡ moves_of stage' site task fifo' e
        → ran_on (ran_with (shown stage fifo) m a b)
        ≡ ran_with (shown stage' fifo') (m + 1) (stored_as site.drive 0 e a) (stored_as site.drive 1 e b)
    unfolding ran_on tick_of image_after decided_of answer_of ruled_of
    ticked_at stage stage' fifo fifo' e m v step =
        rw (tick_at stage fifo v, step, v, settled_at stage stage' fifo fifo')

    once : (stage stage' : Stage) (fifo fifo' : Fifo) (e : Effect) (m n : ℕ) → valid_of (at_of stage fifo) ≡ true
        → stage_of stage site task head_of (pick_of site.drive a b) fifo c.registers.efifo c.registers.fifothr
        ≡ moves_of stage' site task fifo' e
        → ran_for (suc n) (ran_with (shown stage fifo) m a b)
        ≡ onward_of (shown stage fifo) n
        (ran_with (shown stage' fifo') (m + 1) (stored_as site.drive 0 e a) (stored_as site.drive 1 e b))
    once stage stage' fifo fifo' e m n v step =
        let h = run_step n (ran_with (shown stage fifo) m a b) in
        rw (ticked_at stage stage' fifo fifo' e m v step) at h

  -- another FIFO and another byte of the sector
  module _ (stage stage' : Stage) (fifo fifo' : Fifo) (calm : stage_wait stage' ≤ 64) where
    swapped : Valid (at_of stage fifo) → fifo'.count ≤ capacity_of c.registers.efifo → Valid (at_of stage' fifo')
    unfolding with_fifo with_phase
    swapped v within = record {
      fifo = within;
      gathered = v.gathered;
      left = v.left;
      head0 = v.head0;
      head1 = v.head1;
      head2 = v.head2;
      head3 = v.head3;
      fifothr = v.fifothr;
      wait = calm;
      count0 = v.count0;
      count1 = v.count1;
      count2 = v.count2;
      count3 = v.count3;
    }

  -- a byte to the host that is not the last, with room for it
  read_moves : (sector : Sector) (done head : ℕ) (img : List ℕ) (fifo : Fifo) (efifo : Bool) (fifothr : ℕ)
      → read_rests site task efifo done fifo ≡ false
      → stage_of (Reading sector done) site task head img fifo efifo fifothr
      ≡ moves_of (Reading sector (done + 1)) site task (read_fill site head sector.slot img efifo fifothr done fifo)
      None
  unfolding stage_of read_of read_on
  read_moves sector done head img fifo efifo fifothr rests =
      let tests = neither (fifo.tc || full_of efifo fifo) (last_byte site task done) rests in
      let first = neither fifo.tc (full_of efifo fifo) tests.0 in
      rw (first.0, first.1, tests.1)

  filled_valid : (sector : Sector) (done done' head : ℕ) (img : List ℕ) (fifo : Fifo) (fifothr : ℕ)
      → read_rests site task c.registers.efifo done fifo ≡ false
      → valid_of (at_of (Reading sector done) fifo) ≡ true
      → valid_of
      (at_of (Reading sector done')
      (read_fill site head sector.slot img c.registers.efifo fifothr done fifo)) ≡ true
  filled_valid sector done done' head img fifo fifothr rests v =
      let tests = neither (fifo.tc || full_of c.registers.efifo fifo) (last_byte site task done) rests in
      let first = neither fifo.tc (full_of c.registers.efifo fifo) tests.0 in
      let old = true_valid _ v in
      let room : fifo.count < capacity_of c.registers.efifo = leb-false _ _ first.1 in
      let some = filled_count c.registers.efifo fifothr (get_or img (data_place site head sector.slot done) 0) fifo
      first.0 first.1 in
      valid_true _
      (swapped (Reading sector done) (Reading sector done') fifo _ (omega arith) old (omega (arith, some)))

  -- so many ticks of a Read
  module _ (sector : Sector) (a b : List ℕ) (s : Steady site a b c) (asks : Bool) where
    abbrev paced : ℕ → ℕ → Fifo → Pace
    paced n done fifo =
        reads_of site task head_of sector.slot (pick_of site.drive a b) c.registers.efifo c.registers.fifothr
        asks n done fifo

    -- what the ticks are by the rules, in terms of how far the short way came
    abbrev ReadFrom : ℕ → ℕ → ℕ → Fifo → Pace → Type 0
    ReadFrom n m done fifo p =
        ran_for n (ran_with (shown (Reading sector done) fifo) m a b)
        ≡ onward_of (shown (Reading sector done) fifo) p.left
        (ran_with (shown (Reading sector p.done) p.fifo) (m + n - p.left) a b)

    read_stays : (n m done : ℕ) (fifo : Fifo) → ReadFrom n m done fifo (pace_of done fifo n)
    read_stays n m done fifo =
        let z : m + n - n ≡ m = omega arith in rw z (stay n (ran_with (shown (Reading sector done) fifo) m a b))

    abbrev filled : ℕ → Fifo → Fifo
    filled done fifo =
        read_fill site head_of sector.slot (pick_of site.drive a b) c.registers.efifo c.registers.fifothr done
        fifo

    read_goes : (n m done : ℕ) (fifo : Fifo) → valid_of (at_of (Reading sector done) fifo) ≡ true
        → read_rests site task c.registers.efifo done fifo ≡ false
        → ran_for (suc n) (ran_with (shown (Reading sector done) fifo) m a b)
        ≡ onward_of (shown (Reading sector done) fifo) n
        (ran_with (shown (Reading sector (done + 1)) (filled done fifo)) (m + 1) a b)
    read_goes n m done fifo v rests =
        let h = once a b s (Reading sector done) (Reading sector (done + 1)) fifo (filled done fifo) None m n v
        (read_moves sector done head_of (pick_of site.drive a b) fifo c.registers.efifo c.registers.fifothr
        rests) in
        rw (none_stored site.drive 0 a, none_stored site.drive 1 b) at h

    reads_run : (n m done : ℕ) (fifo : Fifo) → valid_of (at_of (Reading sector done) fifo) ≡ true → fifo.asks ≡ asks
        → ReadFrom n m done fifo (paced n done fifo)
    unfolding reads_of
    reads_run zero m done fifo v e = read_stays 0 m done fifo
    reads_run (suc n) m done fifo v e =
        let next : Fifo = filled done fifo in
        by_test (read_rests site task c.registers.efifo done fifo) (ReadFrom (suc n) m done fifo) _ _
        (λ _. read_stays (suc n) m done fifo)
        (λ rests. by_test (beq asks next.asks) (ReadFrom (suc n) m done fifo) _ _
        (λ same.
        let q : asks ≡ next.asks = beq_true _ _ same in
        let later = reads_run n (m + 1) (done + 1) next
        (filled_valid sector done (done + 1) head_of (pick_of site.drive a b) fifo c.registers.fifothr rests v)
        (sym q) in
        let y : m + 1 + n ≡ m + suc n = omega arith in
        join (Reading sector done) (Reading sector (done + 1)) fifo next n _ m a b a b _ (e ∙ q)
        (read_goes n m done fifo v rests) (rw y at later))
        (λ _.
        let z : m + suc n - n ≡ m + 1 = omega arith in
        rw z (read_goes n m done fifo v rests)))

  -- a byte from the host, with one there
  store_moves : (slot done head : ℕ) (img : List ℕ) (fifo : Fifo) (efifo : Bool) (fifothr : ℕ)
      → store_rests site task done fifo ≡ false
      → stage_of (Storing slot done) site task head img fifo efifo fifothr
      ≡ moves_of (Storing slot (done + 1)) site task (drawn_of efifo fifothr fifo)
      (Some (put_at (data_place site head slot done) (front_of fifo)))
  unfolding stage_of store_of put_of
  store_moves slot done head img fifo efifo fifothr rests =
      let tests = neither (leb (pass_bytes site task) done) (eqb fifo.count 0) rests in rw (tests.0, tests.1)

  drawn_valid : (slot done done' : ℕ) (fifo : Fifo) (fifothr : ℕ) → valid_of (at_of (Storing slot done) fifo) ≡ true
      → valid_of (at_of (Storing slot done') (drawn_of c.registers.efifo fifothr fifo)) ≡ true
  unfolding drawn_of with_fifo with_phase
  drawn_valid slot done done' fifo fifothr v =
      let old = true_valid _ v in
      let within : fifo.count ≤ capacity_of c.registers.efifo = old.fifo in
      valid_true _ (swapped (Storing slot done) (Storing slot done') fifo _ (omega arith) old (omega arith))

  -- so many ticks of a Write
  module _ (slot : ℕ) (asks : Bool) where
    abbrev put : ℕ → ℕ → Fifo → List ℕ → List ℕ
    put k done fifo img = byte_put site head_of slot k done fifo img

    abbrev drawn : Fifo → Fifo
    drawn fifo = drawn_of c.registers.efifo c.registers.fifothr fifo

    abbrev storing : ℕ → ℕ → Fifo → List ℕ → List ℕ → StoredSector
    storing n done fifo a b =
        sector_stores site task head_of slot c.registers.efifo c.registers.fifothr asks n done fifo a b

    abbrev StoredFrom : ℕ → ℕ → ℕ → Fifo → List ℕ → List ℕ → StoredSector → Type 0
    StoredFrom n m done fifo a b p =
        ran_for n (ran_with (shown (Storing slot done) fifo) m a b)
        ≡ onward_of (shown (Storing slot done) fifo) p.pace.left
        (ran_with (shown (Storing slot p.pace.done) p.pace.fifo) (m + n - p.pace.left) p.first p.second)

    store_stays : (n m done : ℕ) (fifo : Fifo) (a b : List ℕ)
        → StoredFrom n m done fifo a b (pace_stored (pace_of done fifo n) a b)
    store_stays n m done fifo a b =
        let z : m + n - n ≡ m = omega arith in rw z (stay n (ran_with (shown (Storing slot done) fifo) m a b))

    store_goes : (n m done : ℕ) (fifo : Fifo) (a b : List ℕ) → Steady site a b c
        → valid_of (at_of (Storing slot done) fifo) ≡ true → store_rests site task done fifo ≡ false
        → ran_for (suc n) (ran_with (shown (Storing slot done) fifo) m a b)
        ≡ onward_of (shown (Storing slot done) fifo) n
        (ran_with (shown (Storing slot (done + 1)) (drawn fifo)) (m + 1) (put 0 done fifo a) (put 1 done fifo b))
    store_goes n m done fifo a b s v rests =
        once a b s (Storing slot done) (Storing slot (done + 1)) fifo (drawn fifo)
        (Some (put_at (data_place site head_of slot done) (front_of fifo))) m n v
        (store_moves slot done head_of (pick_of site.drive a b) fifo c.registers.efifo c.registers.fifothr rests)

    -- 01 Image: no store touches the header
    put_behind : (done : ℕ) (fifo : Fifo) (a b : List ℕ) → Steady site a b c → store_rests site task done fifo ≡ false
        → 13 ≤ data_place site head_of slot done
    unfolding go_on_of work_step
    put_behind done fifo a b s rests =
        let img = pick_of site.drive a b in
        let efifo = c.registers.efifo in
        let fifothr = c.registers.fifothr in
        let kept =
        (go_on_kept (Moving site task (Storing slot done)) (seen_of c.registers.dor site.drive img) head_of img fifo
        efifo fifothr).behind in
        rw (s.there, store_moves slot done head_of img fifo efifo fifothr rests) at kept

    put_steady : (done : ℕ) (fifo : Fifo) (a b : List ℕ) → Steady site a b c → store_rests site task done fifo ≡ false
        → Steady site (put 0 done fifo a) (put 1 done fifo b) c
    unfolding seen_of
    put_steady done fifo a b s rests = record {
      free = s.free;
      stand = s.stand;
      four = s.four;
      there =
          rw (disk_picked site.drive (data_place site head_of slot done) (front_of fifo) a b
          (put_behind done fifo a b s rests))
          s.there;
    }

    stores_run : (n m done : ℕ) (fifo : Fifo) (a b : List ℕ) → Steady site a b c
        → valid_of (at_of (Storing slot done) fifo) ≡ true → fifo.asks ≡ asks
        → StoredFrom n m done fifo a b (storing n done fifo a b)
    unfolding sector_stores
    stores_run zero m done fifo a b s v e = store_stays 0 m done fifo a b
    stores_run (suc n) m done fifo a b s v e =
        by_test (store_rests site task done fifo) (StoredFrom (suc n) m done fifo a b) _ _
        (λ _. store_stays (suc n) m done fifo a b)
        (λ rests. by_test (beq asks (drawn fifo).asks) (StoredFrom (suc n) m done fifo a b) _ _
        (λ same.
        let q : asks ≡ (drawn fifo).asks = beq_true _ _ same in
        let later = stores_run n (m + 1) (done + 1) (drawn fifo) (put 0 done fifo a) (put 1 done fifo b)
        (put_steady done fifo a b s rests) (drawn_valid slot done (done + 1) fifo c.registers.fifothr v) (sym q) in
        let y : m + 1 + n ≡ m + suc n = omega arith in
        join (Storing slot done) (Storing slot (done + 1)) fifo (drawn fifo) n _ m a b (put 0 done fifo a)
        (put 1 done fifo b) _ (e ∙ q) (store_goes n m done fifo a b s v rests) (rw y at later))
        (λ _.
        let z : m + suc n - n ≡ m + 1 = omega arith in
        rw z (store_goes n m done fifo a b s v rests)))

-- what a stream says of its record
abbrev Meant : List ℕ → List ℕ → Controller → Option Stream → Type 0
Meant a b c None = Unit {0}
Meant a b c (Some (Reads site task sector done)) =
    Steady site a b c × (c.phase ≡ Working (Moving site task (Reading sector done)))
Meant a b c (Some (Stores site task slot done)) =
    Steady site a b c × (c.phase ≡ Working (Moving site task (Storing slot done)))

module _ (a b : List ℕ) (c : Controller) (four : length c.drives ≡ 4) where
  steady_by : (site : Site) → rests_of c ≡ true → meets_of c.registers.dor site a b ≡ true → Steady site a b c
  unfolding rests_of meets_of
  steady_by site r m =
      let p = both (not (held_in c.registers.dor)) (all_stand c.drives) r in
      record { free = not-true _ p.0; stand = p.1; four = four; there = m }

  stage_meant : (site : Site) (task : Task) (stage : Stage) → rests_of c ≡ true
      → c.phase ≡ Working (Moving site task stage)
      → Meant a b c (kept c.registers.dor (stage_stream site task stage) a b)
  unfolding kept
  stage_meant site task (Searching look) r e = tt
  stage_meant site task (Turning slot) r e = tt
  stage_meant site task (Reading sector done) r e =
      by_test (meets_of c.registers.dor site a b) (Meant a b c) _ _ (λ m. (steady_by site r m, e)) (λ _. tt)
  stage_meant site task (Draining sector looks) r e = tt
  stage_meant site task (Awaiting slot wait) r e = tt
  stage_meant site task (Storing slot done) r e =
      by_test (meets_of c.registers.dor site a b) (Meant a b c) _ _ (λ m. (steady_by site r m, e)) (λ _. tt)

  work_meant : (work : Work) → rests_of c ≡ true → c.phase ≡ Working work
      → Meant a b c (kept c.registers.dor (work_stream work) a b)
  unfolding kept
  work_meant (Identifying site slot passes) r e = tt
  work_meant (Moving site task stage) r e = stage_meant site task stage r e
  work_meant (Formatting site plan form) r e = tt

  phase_meant : (p : Phase) → rests_of c ≡ true → c.phase ≡ p
      → Meant a b c (kept c.registers.dor (phase_stream p) a b)
  unfolding kept
  phase_meant Idle r e = tt
  phase_meant (Gathering entry) r e = tt
  phase_meant (Starting order) r e = tt
  phase_meant (Working work) r e = work_meant work r e
  phase_meant (Sensing unit) r e = tt
  phase_meant (Answering loud) r e = tt

  meant : Meant a b c (stream_in a b c)
  unfolding stream_in
  meant = by_test (rests_of c) (Meant a b c) _ _ (λ r. phase_meant c.phase r refl) (λ _. tt)

  module _ (v : valid_of c ≡ true) (n : ℕ) where
    -- 01 Read: the ticks by the rules are those made the short way
    pub reads_ticks : (site : Site) (task : Task) (sector : Sector) (done : ℕ) (p : Pace)
        → stream_in a b c ≡ Some (Reads site task sector done)
        → p
        ≡ reads_of site task (drive_at (site.drive % 4) c.drives).head sector.slot (pick_of site.drive a b)
        c.registers.efifo c.registers.fifothr c.fifo.asks n done c.fifo
        → (p.left ≤ n)
        × (onward_of (answer_of Done c) p.left
        (ran_with (answer_of Done (at_of c site task (Reading sector p.done) p.fifo)) (n - p.left) a b)
        ≡ ran_for n (no_tick_made a b c))
    reads_ticks site task sector done p stream pace =
        let m : Meant a b c (Some (Reads site task sector done)) = subst (Meant a b c) stream meant in
        let start = at_start c site task (Reading sector done) m.1 in
        let ran = reads_run c site task sector a b m.0 c.fifo.asks n 0 done c.fifo (rw start v) refl in
        let few = reads_left site task (head_of c site task) sector.slot c.registers.efifo c.registers.fifothr
        c.fifo.asks (pick_of site.drive a b) n done c.fifo in
        let all : 0 + n ≡ n = omega arith in
        (rw (← pace) at few, sym (rw (start, all, ← pace) at ran))

    -- 01 Write
    pub stores_ticks : (site : Site) (task : Task) (slot done : ℕ) (p : Pace) (a' b' : List ℕ)
        → stream_in a b c ≡ Some (Stores site task slot done)
        → pace_stored p a' b'
        ≡ sector_stores site task (drive_at (site.drive % 4) c.drives).head slot c.registers.efifo
        c.registers.fifothr c.fifo.asks n done c.fifo a b
        → (p.left ≤ n)
        × (onward_of (answer_of Done c) p.left
        (ran_with (answer_of Done (at_of c site task (Storing slot p.done) p.fifo)) (n - p.left) a' b')
        ≡ ran_for n (no_tick_made a b c))
    stores_ticks site task slot done p a' b' stream pace =
        let m : Meant a b c (Some (Stores site task slot done)) = subst (Meant a b c) stream meant in
        let start = at_start c site task (Storing slot done) m.1 in
        let ran = stores_run c site task slot c.fifo.asks n 0 done c.fifo a b m.0 (rw start v) refl in
        let few = stores_left site task (head_of c site task) slot c.registers.efifo c.registers.fifothr
        c.fifo.asks n done c.fifo a b in
        let all : 0 + n ≡ n = omega arith in
        (rw (← pace) at few, sym (rw (start, all, ← pace) at ran))
