-- Write commands to the end that is meant (specs/SucceedsExamples): each premise of the two theorems is met by a test
-- that computes, and the theorems give the end.
-- Assumes nothing.
use Prim.Native.Nat.{ℕ, zero, suc, ◌≤◌, ◌<◌}
use native.Mathlib.Omega.{arith}
use mathlib.Core.Bool.{Bool, beq, true, false, ◌&&◌, not, cond, false≢true}
use mathlib.Core.List.{List, [], ◌∷◌, ◌++◌}
use mathlib.Core.Logic.{◌⊎◌, inl, inr}
use mathlib.Core.Path.{◌≡◌, refl, sym, ◌∙◌}
use lib.Dec.{leb}
use lib.ListN.{length}
use borrow.Author.Tests.{leb-true, le-leb}
use Rattle.image.proofs.TestLaws.{both, beq_true, le_or_lt}
use Rattle.image.specs.Disk.{header_in, geometry_in, disk_in}
use Rattle.image.specs.Examples.{disk, sample}
use Rattle.image.specs.Layout.{size_of, track_length, length_of, track_at, offset_of}
use Rattle.chip.specs.Next.{advanced_of}
use Rattle.fdc.specs.declared.record.Controller.{Controller}
use Rattle.reached.specs.Moves.{AllCalm, tick_count}
use Rattle.fdc.specs.Registers.{motor_in}
use Rattle.reached.specs.Runs.{Call, ticks, answer_to, after}
use Rattle.fdc.specs.Ticks.{image_after}
use Rattle.demands.specs.DataError.{Spins}
use Rattle.demands.specs.EndsInTime.{bound_of}
use Rattle.demands.specs.History.{History, no_history, history_by}
use Rattle.demands.specs.InTime.{AtTicks, Prompt}
use Rattle.demands.specs.PowerCut.{aim_no}
use Rattle.demands.specs.Succeeds.{Writable, IsThere, AllThere, Fill, Noting, Tells, LastOne, Untold}
use Rattle.demands.specs.Work.{at_work}
use Rattle.demands.proofs.InTimeLaws.{prompt_in_time}
use Rattle.demands.proofs.SucceedsLaws.{write_succeeds, write_reaches_eot}
use Rattle.runs.specs.CutExamples.{writer, written, sector_one, ordered, offer, rest_of, served, down, full}
use Rattle.runs.specs.SucceedsExamples.{from_one, five_bytes, both_sectors, SucceedsExamples}
use Rattle.runs.proofs.CutExamples.{served_alone, accepts, reached, head_zero}
use Rattle.runs.proofs.Open.{all_open}
use Rattle.runs.proofs.Tests.{off_at, not_off, off_at_lem}

-- no call is a reset; there are so many ticks
served_calm : (dma : Bool) (host : List ℕ) (n : ℕ) (c : Controller) (img : List ℕ) → AllCalm (served dma host n c img)
served_calm dma host zero c img = tt
served_calm true host (suc n) c img = (tt, (tt, served_calm true (rest_of (answer_to (offer true host) c).reply host) n _ _))
served_calm false host (suc n) c img =
    ((λ e. absurd (omega arith), λ e. absurd (omega arith)), (tt, served_calm false (rest_of (answer_to (offer false host) c).reply host) n _ _))

served_ticks : (dma : Bool) (host : List ℕ) (n : ℕ) (c : Controller) (img : List ℕ)
    → tick_count (served dma host n c img) ≡ n
served_ticks dma host zero c img = refl
served_ticks true host (suc n) c img =
    omega (
      arith,
      served_ticks true (rest_of (answer_to (offer true host) c).reply host) n
          (after (ticks img []) (after (offer true host) c)) (image_after 0 img [] (after (offer true host) c) img),
    )
served_ticks false host (suc n) c img =
    omega (
      arith,
      served_ticks false (rest_of (answer_to (offer false host) c).reply host) n
          (after (ticks img []) (after (offer false host) c)) (image_after 0 img [] (after (offer false host) c) img),
    )

-- the premises over the calls, as one test
unfoldable fine : (History → Bool) → List Call → Controller → History → Bool
fine test [] c h = motor_in c.registers.dor 0
fine test (call ∷ calls) c h =
    motor_in c.registers.dor 0
    && cond (at_work c.phase)
    (off_at call c && test (history_by call c h) && fine test calls (after call c) (history_by call c h)) true

module _ (test : History → Bool) (P : History → Type 0) (means : (h : History) → test h ≡ true → P h) where
  record Met (calls : List Call) (c : Controller) (h : History) : Type 0 where
    spins : Spins 0 calls c
    prompt : Prompt calls c
    noting : Noting P calls c h

  fine_met : (calls : List Call) (c : Controller) (h : History) → fine test calls c h ≡ true → AllCalm calls
      → Met calls c h
  unfolding fine Spins AtTicks Noting
  fine_met [] c h e calm = record { spins = e; prompt = tt; noting = tt }
  fine_met (call ∷ calls) c h e calm =
      let (motor, rest) = both (motor_in c.registers.dor 0) _ e in
      let later : at_work c.phase ≡ true → Met calls (after call c) (history_by call c h) =
      λ w. fine_met calls (after call c) (history_by call c h) (now w rest).2 calm.1 in
      record {
        spins = (motor, λ w. (calm.0, (later w).spins));
        prompt = λ w. (off_at_lem call c (now w rest).0, (later w).prompt);
        noting = λ w. (means (history_by call c h) (now w rest).1, (later w).noting);
      }
    where
      now : at_work c.phase ≡ true
          → cond (at_work c.phase)
          (off_at call c && test (history_by call c h) && fine test calls (after call c) (history_by call c h)) true
          ≡ true
          → (off_at call c ≡ true) × (test (history_by call c h) ≡ true)
          × (fine test calls (after call c) (history_by call c h) ≡ true)
      now w r =
          let (this, rest) = both (off_at call c && test (history_by call c h)) _ (rw w at r) in
          let (off, says) = both (off_at call c) _ this in
          (off, says, rest)

abbrev pub tells_test : ℕ → History → Bool
tells_test bytes h = beq h.told (leb bytes (length h.host))

pub tells_met : (bytes : ℕ) (h : History) → tells_test bytes h ≡ true → Tells bytes h
tells_met bytes h e =
    let q = beq_true h.told (leb bytes (length h.host)) e in
    (λ x. leb-true _ _ (sym q ∙ x), λ l. q ∙ le-leb _ _ l)

abbrev untold_test : History → Bool
untold_test h = not h.told

-- the command and the disk
mounts : Writable (disk 1 1 2 1) (sample 2)
unfolding header_in geometry_in disk_in size_of track_length length_of
mounts = record { present = refl; unprotected = refl }

-- its sectors: slot k is number k
first_there : IsThere (disk 1 1 2 1) (sample 2) 0 (aim_no written from_one 0)
unfolding offset_of track_at track_length size_of
first_there =
    record {
      at = 13;
      stands = record {
        slot = 0;
        has = record { on_disk = omega arith; on_cylinder = omega arith; on_track = omega arith };
        place = refl;
        marked = (omega arith, omega arith);
        address = refl;
        size = refl;
      };
    }

second_there : IsThere (disk 1 1 2 1) (sample 2) 0 (aim_no written from_one 1)
unfolding offset_of track_at track_length size_of advanced_of
second_there =
    record {
      at = 274;
      stands = record {
        slot = 1;
        has = record { on_disk = omega arith; on_cylinder = omega arith; on_track = omega arith };
        place = refl;
        marked = (omega arith, omega arith);
        address = refl;
        size = refl;
      };
    }

one_there : AllThere (disk 1 1 2 1) (sample 2) 0 written from_one 0
one_there =
    record {
      there = λ k l. let z : k ≡ 0 = omega arith in rw z first_there;
      on = λ k l. absurd (omega arith);
    }

both_there : AllThere (disk 1 1 2 1) (sample 2) 0 written from_one 1
both_there = record { there = λ k l. go k (le_or_lt 1 k) l; on = λ k l e. absurd (below k l e) }
  where
    go : (k : ℕ) → (1 ≤ k) ⊎ (k < 1) → k ≤ 1 → IsThere (disk 1 1 2 1) (sample 2) 0 (aim_no written from_one k)
    go k (inl a) l = let z : k ≡ 1 = omega arith in rw z second_there
    go k (inr a) l = let z : k ≡ 0 = omega arith in rw z first_there

    below : (k : ℕ) → k < 1 → (aim_no written from_one k).id.r ≡ 2 → ⊥
    below k l e =
        let z : k ≡ 0 = omega arith in
        let e' : (aim_no written from_one 0).id.r ≡ 2 = rw z at e in
        omega arith

fills : Fill (disk 1 1 2 1) 5 0
unfolding size_of
fills = record { more = omega arith; most = omega arith }

last_one : LastOne written (aim_no written from_one 1)
unfolding advanced_of
last_one = record { eot = refl; no_turn = λ e z. false≢true e }

bound_is : bound_of (disk 1 1 2 1) ≡ 1980
unfolding bound_of size_of
bound_is = refl

record Tested : Type 0 where
  five : fine (tells_test 5) five_bytes (writer true) no_history ≡ true
  both_full : fine untold_test both_sectors (writer false) no_history ≡ true

tested : Tested
unfolding all_open fine
tested = record { five = refl; both_full = refl }

pub succeeds_examples : SucceedsExamples
succeeds_examples =
    let five = fine_met (tells_test 5) (Tells 5) (tells_met 5) five_bytes (writer true) no_history tested.five
    (served_calm true (down 5) 1980 (writer true) (sample 2)) in
    let filled = fine_met untold_test Untold (λ h e. not_off h.told e) both_sectors (writer false) no_history
    tested.both_full (served_calm false (full ++ down 3) 1980 (writer false) (sample 2)) in
    record {
      by_dma = write_succeeds (writer true) (reached true) ordered written sector_one (accepts true) (sample 2)
          (disk 1 1 2 1) mounts 5 0 fills (rw (head_zero true) one_there) five_bytes five.spins
          (served_alone true (down 5) 1980 (writer true) (sample 2)) five.prompt five.noting
          (omega (arith, bound_is, served_ticks true (down 5) 1980 (writer true) (sample 2)));
      by_port = write_reaches_eot (writer false) (reached false) ordered written sector_one (accepts false) (sample 2)
          (disk 1 1 2 1) mounts 1 (rw (head_zero false) both_there) last_one both_sectors filled.spins
          (served_alone false (full ++ down 3) 1980 (writer false) (sample 2))
          (prompt_in_time (writer false) (reached false) ordered written sector_one
          (record { accepted = (accepts false).accepted; moves = (accepts false).moves }) both_sectors filled.prompt)
          filled.noting
          (omega (arith, bound_is, served_ticks false (full ++ down 3) 1980 (writer false) (sample 2)));
    }
