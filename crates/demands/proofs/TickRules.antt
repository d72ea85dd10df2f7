-- A tick of a command at work, rule by rule: the view of `go_on_of` that the theorems over lists of calls go by. Each
-- rule carries what holds where it is taken, and what it gives, as equations.
-- Assumes nothing.
use Rattle.std.specs.Prelude.{None, Some}
use Rattle.image.specs.Lent.{put_at}
use Prim.Native.Nat.{ℕ, zero, suc, ◌+◌, ◌≤◌, ◌<◌}
use native.Mathlib.Omega.{arith}
use mathlib.Core.Bool.{Bool, beq, true, false, ◌&&◌, not, cond, true≢false}
use mathlib.Core.List.{List}
use mathlib.Core.Logic.{◌⊎◌, inl, inr}
use mathlib.Core.Path.{◌≡◌, refl, sym, ap, ◌∙◌}
use lib.Dec.{eqb, leb}
use lib.ListN.{get_or}
use borrow.Author.Tests.{leb-true, leb-false, eqb-true, eqb-false, eq-eqb, lt-ltb, le-ltb}
use Rattle.image.proofs.TestLaws.{by_test, both}
use Rattle.chip.specs.declared.fifo.Fifo.{Fifo}
use Rattle.chip.specs.declared.next.Next.{Next}
use Rattle.chip.specs.Fifo.{front_of, filled_of, drawn_of, emptied, full_of, shut}
use Rattle.chip.specs.Next.{advanced_of, next_of}
use Rattle.sectors.specs.declared.order.Pass.{Pass}
use Rattle.sectors.specs.declared.order.Pass.TheVariants.{Read, Write}
use Rattle.sectors.specs.declared.work.Search.{Search}
use Rattle.sectors.specs.declared.work.Sector.{Sector}
use Rattle.sectors.specs.declared.work.Site.{Site}
use Rattle.sectors.specs.declared.work.Stage.{Stage}
use Rattle.sectors.specs.declared.work.Stage.TheVariants.{Searching, Turning, Reading, Draining, Awaiting, Storing}
use Rattle.sectors.specs.declared.work.Step.{Step}
use Rattle.sectors.specs.declared.work.Task.{Task}
use Rattle.sectors.specs.declared.work.Then.TheVariants.{Ends}
use Rattle.sectors.specs.declared.work.Verdict.{Verdict}
use Rattle.sectors.specs.Follow.{fresh_at, with_id, on_side, followed_of, follow_of, turn_of}
use Rattle.sectors.specs.Read.{overrun, last_byte, sector_over, read_on, read_of, drained_of, drain_of}
use Rattle.sectors.specs.Result.{st0_of, other_bit, late_bit, end_of, late_end, move_end, move_fails, moves_of, tardy}
use Rattle.sectors.specs.Search.{slot_of, matches, with_other, second_pass, one_on, missed_of, read_found, data_found, bare_found, looked_of, search_of}
use Rattle.sectors.specs.Search as finding
use Rattle.engine.specs.Step.{stage_of}
use Rattle.sectors.specs.Track.{has_track, next_slot, mark_place, data_place, pass_bytes, sector_bytes}
use Rattle.sectors.specs.Write.{written_mark, underrun, await_of, put_of, dry_of, written_of, store_of}
use Rattle.image.specs.Lent.{Effect}
use Rattle.image.specs.declared.mark.Mark.{Mark}
use Rattle.image.specs.declared.mark.Mark.TheVariants.{NoId, Data, NoData}
use Rattle.image.specs.Mark.{mark_of}
use Rattle.demands.specs.InTime.{Late}

-- the slot has an ID, and it is the one sought
abbrev pub marked : Mark → Bool
marked NoId = false
marked (Data deleted broken) = true
marked NoData = true

abbrev pub hits : List ℕ → Site → ℕ → Task → ℕ → Bool
hits img site head task slot =
    marked (mark_of (slot_of img site head slot).mark)
    && matches (slot_of img site head slot).id task.id site.disk.n

-- a tick that ends the command, with this verdict
abbrev pub ends_with : Verdict → Effect → Step
ends_with verdict effect = record { then = Ends verdict; fifo = emptied; effect = effect }

-- 01 Result: of an end that is no Next: 40, this ST1 beside the 10 of a late byte, the sector in hand
pub record Fails (st1 : ℕ) (site : Site) (task : Task) (verdict : Verdict) : Type 0 where
  pub st0 : verdict.st0 ≡ st0_of false site.drive site.side
  pub st1_is : verdict.st1 ≡ late_bit task.late + st1
  pub id : verdict.id ≡ task.id

-- 02 2026-02: of an end for which a byte was late: 40, ST1 10, the sector in hand
abbrev pub LateEnds : Site → Task → Verdict → Type 0
LateEnds site task verdict = Fails 0x00 site (tardy task) verdict

-- the stages that end when they have waited too long
abbrev pub Waits : Stage → Type 0
Waits (Searching look) = ⊥
Waits (Turning slot) = ⊥
Waits (Reading sector done) = ⊥
Waits (Draining sector looks) = Unit {0}
Waits (Awaiting slot wait) = Unit {0}
Waits (Storing slot done) = ⊥

-- 01 Read: of a sector of the other kind: IC 00, the sector in hand
pub record EndsInHand (site : Site) (task : Task) (verdict : Verdict) : Type 0 where
  pub st0 : verdict.st0 ≡ st0_of true site.drive site.side
  pub id : verdict.id ≡ task.id

-- 01 Next, Result: where Next ends it: normally with TC, else at EOT with 40 and ST1 80; the address is the next one
pub record NextEnds (tc : Bool) (site : Site) (task : Task) (verdict : Verdict) : Type 0 where
  pub st0 : verdict.st0 ≡ st0_of tc site.drive site.side
  pub st1 : verdict.st1 ≡ late_bit task.late + cond tc 0x00 0x80
  pub st2 : verdict.st2 ≡ other_bit task.other
  pub id : verdict.id ≡ advanced_of task.id task.transfer.eot task.transfer.mt site.side 1
  pub eot : tc ≡ false → task.id.r ≡ task.transfer.eot
  pub no_turn : tc ≡ false → task.transfer.mt ≡ true → site.side ≡ 0 → ⊥

-- 01 Next, of a sector finished or skipped
pub data NextRule (tc : Bool) (slot : ℕ) (site : Site) (task : Task) (fifo : Fifo) (effect : Effect) (o : Step)
    : Type 0 where
  stops : (verdict : Verdict) → NextEnds tc site task verdict → o ≡ ends_with verdict effect
      → NextRule tc slot site task fifo effect o
  turns : tc ≡ false → task.id.r ≡ task.transfer.eot → task.transfer.mt ≡ true → site.side ≡ 0
      → o ≡ moves_of (Turning (next_slot slot site.disk.slots)) (on_side 1 site)
      (with_id (advanced_of task.id task.transfer.eot task.transfer.mt site.side 1) task) fifo effect
      → NextRule tc slot site task fifo effect o
  steps : tc ≡ false → (task.id.r ≡ task.transfer.eot → ⊥)
      → o ≡ moves_of (Searching (fresh_at (next_slot slot site.disk.slots))) site
      (with_id (advanced_of task.id task.transfer.eot task.transfer.mt site.side 1) task) fifo effect
      → NextRule tc slot site task fifo effect o

-- 01 Read: one byte further: the FIFO gets the sector's byte, unless TC came; it was not full
pub record Filled (head : ℕ) (img : List ℕ) (efifo : Bool) (fifothr : ℕ) (site : Site) (fifo : Fifo) (sector : Sector)
    (done : ℕ) (last : Bool) (fifo' : Fifo) : Type 0 where
  pub room : fifo.tc ≡ false → full_of efifo fifo ≡ false
  pub after : fifo' ≡ filled_of efifo fifothr last (get_or img (data_place site head sector.slot done) 0) fifo

-- a tick of a transfer whose disk is as it was
pub data Rule (head : ℕ) (img : List ℕ) (efifo : Bool) (fifothr : ℕ) (site : Site) (task : Task) (fifo : Fifo)
    (stage : Stage) (o : Step) : Type 0 where
  -- the ends that are no Next, nor of a sector read to its end: ST1 01, 04 (not found), 10 (late), 01 with ST2 01
  not_found : (look : Search) (verdict : Verdict) → stage ≡ Searching look → hits img site head task look.slot ≡ false
      → site.disk.slots ≤ look.slot + 1 → 1 ≤ look.passes
      → (st1 : ℕ) → (st1 ≡ 0x01) ⊎ (st1 ≡ 0x04) → Fails st1 site task verdict → o ≡ ends_with verdict None
      → Rule head img efifo fifothr site task fifo stage o
  no_data : (look : Search) (verdict : Verdict) → stage ≡ Searching look → hits img site head task look.slot ≡ true
      → task.transfer.pass ≡ Read → mark_of (slot_of img site head look.slot).mark ≡ NoData
      → Fails 0x01 site task verdict → o ≡ ends_with verdict None → Rule head img efifo fifothr site task fifo stage o
  no_side : (slot : ℕ) (verdict : Verdict) → stage ≡ Turning slot → has_track site.disk head site.side ≡ false
      → Fails 0x01 site task verdict → o ≡ ends_with verdict None
      → Rule head img efifo fifothr site task fifo stage o
  late : (verdict : Verdict) → LateEnds site task verdict → Late efifo site task fifo stage → Waits stage
      → o ≡ ends_with verdict None
      → Rule head img efifo fifothr site task fifo stage o
  -- the search
  misses : (look on : Search) → stage ≡ Searching look → hits img site head task look.slot ≡ false
      → look.slot + 1 < site.disk.slots → on.slot ≡ look.slot + 1 → on.passes ≡ look.passes
      → o ≡ moves_of (Searching on) site task fifo None → Rule head img efifo fifothr site task fifo stage o
  passes : (look on : Search) → stage ≡ Searching look → hits img site head task look.slot ≡ false
      → site.disk.slots ≤ look.slot + 1 → look.passes ≡ 0 → on.slot ≡ 0 → on.passes ≡ 1
      → o ≡ moves_of (Searching on) site task fifo None → Rule head img efifo fifothr site task fifo stage o
  to_write : (look : Search) → stage ≡ Searching look → hits img site head task look.slot ≡ true
      → task.transfer.pass ≡ Write → o ≡ moves_of (Awaiting look.slot 0) site task fifo None
      → Rule head img efifo fifothr site task fifo stage o
  to_read : (look : Search) (deleted broken other : Bool) → stage ≡ Searching look
      → hits img site head task look.slot ≡ true → task.transfer.pass ≡ Read
      → mark_of (slot_of img site head look.slot).mark ≡ Data deleted broken
      → other ≡ not (beq deleted task.transfer.deleted) → (other ≡ true → task.transfer.sk ≡ false)
      → o ≡ moves_of (Reading (record { slot = look.slot; broken = broken; other = other }) 0) site
      (with_other other task) fifo None
      → Rule head img efifo fifothr site task fifo stage o
  skips : (look : Search) (deleted broken : Bool) → stage ≡ Searching look
      → hits img site head task look.slot ≡ true → task.transfer.pass ≡ Read
      → mark_of (slot_of img site head look.slot).mark ≡ Data deleted broken
      → (deleted ≡ task.transfer.deleted → ⊥) → task.transfer.sk ≡ true → NextRule fifo.tc look.slot site (with_other true task) fifo None o
      → Rule head img efifo fifothr site task fifo stage o
  turned_over : (slot : ℕ) → stage ≡ Turning slot → o ≡ moves_of (Searching (fresh_at slot)) site task fifo None
      → Rule head img efifo fifothr site task fifo stage o
  -- the write
  waits : (slot wait : ℕ) → stage ≡ Awaiting slot wait → wait < 63
      → o ≡ moves_of (Awaiting slot (wait + 1)) site task fifo None
      → Rule head img efifo fifothr site task fifo stage o
  begins : (slot wait : ℕ) → stage ≡ Awaiting slot wait → 0 < fifo.count
      → o ≡ moves_of (Storing slot 0) site task fifo (Some (put_at (mark_place site head slot) (written_mark true task)))
      → Rule head img efifo fifothr site task fifo stage o
  puts : (slot done : ℕ) → stage ≡ Storing slot done → done < pass_bytes site task → 0 < fifo.count
      → o ≡ moves_of (Storing slot (done + 1)) site task (drawn_of efifo fifothr fifo)
      (Some (put_at (data_place site head slot done) (front_of fifo)))
      → Rule head img efifo fifothr site task fifo stage o
  pads : (slot done : ℕ) → stage ≡ Storing slot done → done < sector_bytes site → fifo.count ≡ 0 → fifo.tc ≡ true
      → o ≡ moves_of (Storing slot (done + 1)) site task fifo (Some (put_at (data_place site head slot done) 0x00))
      → Rule head img efifo fifothr site task fifo stage o
  -- a byte is missing: the first of the zeros
  dries : (slot done : ℕ) → stage ≡ Storing slot done → done < pass_bytes site task → fifo.count ≡ 0 → fifo.tc ≡ false
      → o ≡ moves_of (Storing slot (done + 1)) site (tardy task) shut (Some (put_at (data_place site head slot done) 0x00))
      → Rule head img efifo fifothr site task fifo stage o
  -- and the good mark of such a sector
  ends_short : (slot done : ℕ) (verdict : Verdict) → stage ≡ Storing slot done → sector_bytes site ≤ done
      → task.late ≡ true → verdict.st2 ≡ other_bit task.other + 0x00 → LateEnds site task verdict
      → o ≡ ends_with verdict (Some (put_at (mark_place site head slot) (written_mark false task)))
      → Rule head img efifo fifothr site task fifo stage o
  finishes : (slot done : ℕ) → stage ≡ Storing slot done → sector_bytes site ≤ done → task.late ≡ false
      → NextRule (fifo.tc && eqb fifo.count 0) slot site task fifo (Some (put_at (mark_place site head slot) (written_mark false task))) o
      → Rule head img efifo fifothr site task fifo stage o
  -- the read
  moves : (sector : Sector) (done : ℕ) (fifo' : Fifo) → stage ≡ Reading sector done → done + 1 < sector_bytes site
      → Filled head img efifo fifothr site fifo sector done false fifo'
      → o ≡ moves_of (Reading sector (done + 1)) site task fifo' None
      → Rule head img efifo fifothr site task fifo stage o
  moves_last : (sector : Sector) (done : ℕ) (fifo' : Fifo) → stage ≡ Reading sector done → sector_bytes site ≤ done + 1
      → Filled head img efifo fifothr site fifo sector done true fifo'
      → o ≡ moves_of (Draining sector 0) site task fifo' None → Rule head img efifo fifothr site task fifo stage o
  -- the FIFO is full: the byte is lost
  overruns : (sector : Sector) (done : ℕ) → stage ≡ Reading sector done → done + 1 < sector_bytes site
      → fifo.tc ≡ false → full_of efifo fifo ≡ true
      → o ≡ moves_of (Reading sector (done + 1)) site (tardy task) shut None
      → Rule head img efifo fifothr site task fifo stage o
  overruns_last : (sector : Sector) (done : ℕ) → stage ≡ Reading sector done → sector_bytes site ≤ done + 1
      → fifo.tc ≡ false → full_of efifo fifo ≡ true
      → o ≡ moves_of (Draining sector 0) site (tardy task) shut None
      → Rule head img efifo fifothr site task fifo stage o
  drains : (sector : Sector) (looks : ℕ) → stage ≡ Draining sector looks → looks < 63
      → o ≡ moves_of (Draining sector (looks + 1)) site task fifo None
      → Rule head img efifo fifothr site task fifo stage o
  data_error : (sector : Sector) (looks : ℕ) (verdict : Verdict) → stage ≡ Draining sector looks
      → sector.broken ≡ true → verdict.st2 ≡ other_bit task.other + 0x20
      → Fails 0x20 site task verdict → o ≡ ends_with verdict None → Rule head img efifo fifothr site task fifo stage o
  -- a sector of which a byte was lost, at its end
  ends_late : (sector : Sector) (looks : ℕ) (verdict : Verdict) → stage ≡ Draining sector looks
      → sector.broken ≡ false → task.late ≡ true → LateEnds site task verdict → o ≡ ends_with verdict None
      → Rule head img efifo fifothr site task fifo stage o
  other_kind : (sector : Sector) (looks : ℕ) (verdict : Verdict) → stage ≡ Draining sector looks
      → sector.broken ≡ false → task.late ≡ false → verdict.st1 ≡ 0x00 → sector.other ≡ true
      → verdict.st2 ≡ other_bit task.other + 0x00
      → EndsInHand site task verdict → fifo.count ≡ 0 → o ≡ ends_with verdict None
      → Rule head img efifo fifothr site task fifo stage o
  drained : (sector : Sector) (looks : ℕ) → stage ≡ Draining sector looks → sector.broken ≡ false
      → task.late ≡ false → sector.other ≡ false → fifo.count ≡ 0
      → NextRule fifo.tc sector.slot site task fifo None o → Rule head img efifo fifothr site task fifo stage o

-- 01 Next
module _ (slot : ℕ) (site : Site) (task : Task) (fifo : Fifo) (effect : Effect) where
  pub follow_rule : (tc : Bool) → NextRule tc slot site task fifo effect (follow_of slot tc site task fifo effect)
  unfolding follow_of followed_of next_of move_end end_of
  follow_rule tc =
      let id = task.id in
      let eot = task.transfer.eot in
      let mt = task.transfer.mt in
      let P : Next → Type 0 = λ n. NextRule tc slot site task fifo effect (followed_of n slot site task fifo effect) in
      by_test tc P _ _
      (λ t. stops _ (record {
        st0 = rw t;
        st1 = rw t;
        st2 = omega arith;
        id = refl;
        eot = λ f. absurd (true≢false (sym t ∙ f));
        no_turn = λ f. absurd (true≢false (sym t ∙ f));
      }) refl)
      (λ t. by_test (eqb id.r eot) P _ _
      (λ r. by_test (mt && eqb site.side 0) P _ _
      (λ m. let b = both mt (eqb site.side 0) m in turns t (eqb-true _ _ r) b.0 (eqb-true _ _ b.1) refl)
      (λ m. stops _ (record {
        st0 = rw t;
        st1 = rw t;
        st2 = omega arith;
        id = refl;
        eot = λ f. eqb-true _ _ r;
        no_turn = λ f x y. true≢false (sym (rw (x, eq-eqb site.side 0 y)) ∙ m);
      }) refl))
      (λ r. steps t (eqb-false _ _ r) refl))

pub pos_ne : (n : ℕ) → (n ≡ 0 → ⊥) → 0 < n
pos_ne zero h = absurd (h refl)
pos_ne (suc n) h = omega arith

pub beq_same : (a b : Bool) → a ≡ b → not (beq a b) ≡ false
beq_same true b e = rw (← e) refl
beq_same false b e = rw (← e) refl

module _ (head : ℕ) (img : List ℕ) (efifo : Bool) (fifothr : ℕ) (site : Site) (task : Task) (fifo : Fifo) where
  abbrev R : Stage → Step → Type 0
  R stage o = Rule head img efifo fifothr site task fifo stage o

  -- a failing end, as `move_fails` makes it
  as_said : {st1 st2 : ℕ}
      → Fails st1 site task
      (record {
        st0 = st0_of false site.drive site.side;
        st1 = late_bit task.late + st1;
        st2 = st2;
        id = task.id;
      })
  as_said = record { st0 = refl; st1_is = refl; id = refl }

  -- and one for which a byte was late
  as_late : {st2 : ℕ}
      → LateEnds site task
      (record {
        st0 = st0_of false site.drive site.side;
        st1 = 0x10;
        st2 = st2;
        id = task.id;
      })
  as_late = record { st0 = refl; st1_is = refl; id = refl }

  -- the slot's address is the one sought; and a hit, by the slot's mark
  abbrev same_at : Search → Bool
  same_at look = matches (slot_of img site head look.slot).id task.id site.disk.n

  abbrev hit_by : Search → Mark → Bool
  hit_by look mark = marked mark && same_at look

  pos_of : eqb fifo.count 0 ≡ false → 0 < fifo.count
  pos_of t = pos_ne fifo.count (eqb-false fifo.count 0 t)

  -- 01 Search
  fails_rule : (look look' : Search) → hits img site head task look.slot ≡ false
      → site.disk.slots ≤ look.slot + 1 → 1 ≤ look.passes → R (Searching look) (finding.not_found look' site task)
  unfolding finding.not_found move_fails move_end end_of
  fails_rule look look' h l k =
      by_test look'.met (R (Searching look)) _ _
      (λ t. not_found look _ refl h l k 0x04 (inr refl) as_said refl)
      (λ t. not_found look _ refl h l k 0x01 (inl refl) as_said refl)

  missed_rule : (look look' : Search) → look'.slot ≡ look.slot → look'.passes ≡ look.passes
      → hits img site head task look.slot ≡ false → R (Searching look) (missed_of look' site task fifo)
  unfolding missed_of
  missed_rule look look' s p h =
      by_test (second_pass look'.slot slots look'.passes) (R (Searching look)) _ _
      (λ t. let b = both (leb slots (look'.slot + 1)) (leb 1 look'.passes) t in
      fails_rule look look' h
      (omega (arith, leb-true slots (look'.slot + 1) b.0))
      (omega (arith, leb-true 1 look'.passes b.1)))
      (λ t. go (leb slots (look'.slot + 1)) refl (leb 1 look'.passes) refl t)
    where
      slots : ℕ
      slots = site.disk.slots

      go : (a : Bool) → leb slots (look'.slot + 1) ≡ a → (b : Bool) → leb 1 look'.passes ≡ b → (a && b) ≡ false
          → R (Searching look) (moves_of (Searching (one_on look' slots)) site task fifo None)
      go true l b m t =
          let k = leb-true slots (look'.slot + 1) l in
          let m' : leb 1 look'.passes ≡ false = m ∙ t in
          passes look (one_on look' slots) refl h (omega arith)
          (omega (arith, leb-false 1 look'.passes m'))
          (rw (le-ltb (look'.slot + 1) slots k))
          (rw l) refl
      go false l b m t =
          let k = leb-false slots (look'.slot + 1) l in
          misses look (one_on look' slots) refl h (omega arith)
          (rw (lt-ltb (look'.slot + 1) slots k, s))
          (rw l p) refl

  -- 01 Read: at the match
  read_rule_at : (look : Search) (deleted broken other : Bool)
      → other ≡ not (beq deleted task.transfer.deleted)
      → hits img site head task look.slot ≡ true → task.transfer.pass ≡ Read
      → mark_of (slot_of img site head look.slot).mark ≡ Data deleted broken
      → R (Searching look) (read_found other broken look.slot site task fifo)
  unfolding read_found
  read_rule_at look deleted broken true o h w m =
      by_test task.transfer.sk (R (Searching look)) _ _
      (λ t. skips look deleted broken refl h w m (λ e. true≢false (o ∙ beq_same _ _ e)) t
      (follow_rule look.slot site (with_other true task) fifo None fifo.tc))
      (λ t. to_read look deleted broken true refl h w m o (λ x. t) refl)
  read_rule_at look deleted broken false o h w m = to_read look deleted broken false refl h w m o (λ x. absurd (true≢false (sym x))) refl

  data_rule : (look : Search) (deleted broken : Bool) (pass : Pass) → task.transfer.pass ≡ pass
      → hits img site head task look.slot ≡ true
      → mark_of (slot_of img site head look.slot).mark ≡ Data deleted broken
      → R (Searching look) (data_found pass deleted broken look.slot site task fifo)
  unfolding data_found
  data_rule look deleted broken Read w h m = read_rule_at look deleted broken _ refl h w m
  data_rule look deleted broken Write w h m = to_write look refl h w refl

  bare_rule : (look : Search) (pass : Pass) → task.transfer.pass ≡ pass
      → hits img site head task look.slot ≡ true → mark_of (slot_of img site head look.slot).mark ≡ NoData
      → R (Searching look) (bare_found pass look.slot site task fifo)
  unfolding bare_found move_fails move_end end_of
  bare_rule look Read w h m = no_data look _ refl h w m as_said refl
  bare_rule look Write w h m = to_write look refl h w refl

  looked_rule : (look : Search) (mark : Mark) → mark_of (slot_of img site head look.slot).mark ≡ mark
      → R (Searching look) (looked_of mark (slot_of img site head look.slot).id look site task fifo)
  unfolding looked_of
  looked_rule look NoId e = missed_rule look look refl refl (ap (hit_by look) e)
  looked_rule look (Data deleted broken) e =
      by_test (same_at look) (R (Searching look)) _ _
      (λ t. data_rule look deleted broken task.transfer.pass refl (ap (hit_by look) e ∙ t) e)
      (λ t. missed_rule look _ refl refl (ap (hit_by look) e ∙ t))
  looked_rule look NoData e =
      by_test (same_at look) (R (Searching look)) _ _
      (λ t. bare_rule look task.transfer.pass refl (ap (hit_by look) e ∙ t) e)
      (λ t. missed_rule look _ refl refl (ap (hit_by look) e ∙ t))

  -- 01 Read
  on_rule : (sector : Sector) (done : ℕ) (f : Fifo)
      → ((last : Bool) → last_byte site task done ≡ last → Filled head img efifo fifothr site fifo sector done last f)
      → R (Reading sector done) (read_on sector done site task f)
  unfolding read_on
  on_rule sector done f into =
      by_test (sector_over site done) (R (Reading sector done)) _ _
      (λ t. moves_last sector done f refl (leb-true _ _ t) (into true t) refl)
      (λ t. moves sector done f refl (leb-false _ _ t) (into false t) refl)

  filled_told : (last : Bool) (byte : ℕ) → fifo.tc ≡ true → filled_of efifo fifothr last byte fifo ≡ fifo
  unfolding filled_of
  filled_told last byte t = rw t

  over_rule : (sector : Sector) (done : ℕ) → fifo.tc ≡ false → full_of efifo fifo ≡ true
      → R (Reading sector done) (overrun sector done site task)
  unfolding overrun read_on
  over_rule sector done t u =
      by_test (sector_over site done) (R (Reading sector done)) _ _
      (λ l. overruns_last sector done refl (leb-true _ _ l) t u refl)
      (λ l. overruns sector done refl (leb-false _ _ l) t u refl)

  read_rule : (sector : Sector) (done : ℕ)
      → R (Reading sector done) (read_of sector done site task head img fifo efifo fifothr)
  unfolding read_of
  read_rule sector done =
      by_test fifo.tc (R (Reading sector done)) _ _
      (λ t. on_rule sector done fifo (λ last l. record {
        room = λ f. absurd (true≢false (sym t ∙ f));
        after = sym (filled_told last _ t);
      }))
      (λ t. by_test (full_of efifo fifo) (R (Reading sector done)) _ _
      (λ u. over_rule sector done t u)
      (λ u. on_rule sector done _ (λ last l. record { room = λ f. u; after = rw l })))

  drained_rule : (sector : Sector) (looks : ℕ) → fifo.count ≡ 0
      → R (Draining sector looks) (drained_of sector site task fifo)
  unfolding drained_of late_end move_fails move_end end_of
  drained_rule sector looks z =
      by_test sector.broken (R (Draining sector looks)) _ _
      (λ t. data_error sector looks _ refl t refl as_said refl)
      (λ t. by_test task.late (R (Draining sector looks)) _ _
      (λ l. ends_late sector looks _ refl t l as_late refl)
      (λ l. by_test sector.other (R (Draining sector looks)) _ _
      (λ u. other_kind sector looks _ refl t l (ap (λ (b : Bool). late_bit b + 0x00) l) u refl
      (record { st0 = refl; id = refl }) z refl)
      (λ u. drained sector looks refl t l u z (follow_rule sector.slot site task fifo None fifo.tc))))

  drain_rule : (sector : Sector) (looks : ℕ) → R (Draining sector looks) (drain_of sector looks site task fifo)
  unfolding drain_of late_end move_end end_of
  drain_rule sector looks =
      by_test (eqb fifo.count 0) (R (Draining sector looks)) _ _
      (λ t. drained_rule sector looks (eqb-true fifo.count 0 t))
      (λ t. by_test (leb 63 looks) (R (Draining sector looks)) _ _
      (λ u. late _ as_late (pos_of t, leb-true 63 looks u) tt refl)
      (λ u. drains sector looks refl (leb-false 63 looks u) refl))

  -- 01 Write
  await_rule : (slot wait : ℕ) → R (Awaiting slot wait) (await_of slot wait site task head fifo)
  unfolding await_of late_end move_end end_of
  await_rule slot wait =
      by_test (eqb fifo.count 0) (R (Awaiting slot wait)) _ _
      (λ t. by_test (leb 63 wait) (R (Awaiting slot wait)) _ _
      (λ u. late _ as_late (eqb-true fifo.count 0 t, leb-true 63 wait u) tt refl)
      (λ u. waits slot wait refl (leb-false 63 wait u) refl))
      (λ t. begins slot wait refl (pos_of t) refl)

  dry_rule : (slot done : ℕ) → done < sector_bytes site → fifo.count ≡ 0
      → R (Storing slot done) (dry_of slot done site task head fifo)
  unfolding dry_of underrun put_of
  dry_rule slot done l z =
      by_test fifo.tc (R (Storing slot done)) _ _
      (λ t. pads slot done refl l z t refl)
      (λ t. dries slot done refl l z t refl)

  written_rule : (slot done : ℕ) → sector_bytes site ≤ done
      → R (Storing slot done) (written_of slot site task head fifo)
  unfolding written_of late_end move_end end_of
  written_rule slot done l =
      by_test task.late (R (Storing slot done)) _ _
      (λ t. ends_short slot done _ refl l t refl as_late refl)
      (λ t. finishes slot done refl l t (follow_rule slot site task fifo _ _))

  store_rule : (slot done : ℕ)
      → R (Storing slot done) (store_of slot done site task head fifo efifo fifothr)
  unfolding store_of put_of
  store_rule slot done =
      by_test (leb (sector_bytes site) done) (R (Storing slot done)) _ _
      (λ t. written_rule slot done (leb-true _ _ t))
      (λ t. by_test (eqb fifo.count 0) (R (Storing slot done)) _ _
      (λ u. dry_rule slot done (leb-false _ _ t) (eqb-true fifo.count 0 u))
      (λ u. puts slot done refl (leb-false _ _ t) (pos_of u) refl))

  turn_rule : (slot : ℕ) → R (Turning slot) (turn_of slot site task head fifo)
  unfolding turn_of move_fails move_end end_of
  turn_rule slot =
      by_test (has_track site.disk head site.side) (R (Turning slot)) _ _
      (λ t. turned_over slot refl refl)
      (λ t. no_side slot _ refl t as_said refl)

-- a tick of a transfer whose disk is as it was goes by one of the rules
pub transfer_rule : (head : ℕ) (img : List ℕ) (efifo : Bool) (fifothr : ℕ) (site : Site) (task : Task) (fifo : Fifo)
    (stage : Stage)
    → Rule head img efifo fifothr site task fifo stage (stage_of stage site task head img fifo efifo fifothr)
unfolding stage_of search_of
transfer_rule head img efifo fifothr site task fifo (Searching look) =
    looked_rule head img efifo fifothr site task fifo look _ refl
transfer_rule head img efifo fifothr site task fifo (Turning slot) =
    turn_rule head img efifo fifothr site task fifo slot
transfer_rule head img efifo fifothr site task fifo (Reading sector done) =
    read_rule head img efifo fifothr site task fifo sector done
transfer_rule head img efifo fifothr site task fifo (Draining sector looks) =
    drain_rule head img efifo fifothr site task fifo sector looks
transfer_rule head img efifo fifothr site task fifo (Awaiting slot wait) =
    await_rule head img efifo fifothr site task fifo slot wait
transfer_rule head img efifo fifothr site task fifo (Storing slot done) =
    store_rule head img efifo fifothr site task fifo slot done
