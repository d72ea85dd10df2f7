-- The runs of specs/SuccessRuns: the premises by tests that compute, the ends by the theorems.
-- Assumes nothing.
use Prim.Native.Nat.{ℕ, ◌≤◌, ◌<◌}
use native.Mathlib.Omega.{arith}
use mathlib.Core.Bool.{Bool, beq, true, false, ◌&&◌, not, cond, false≢true}
use mathlib.Core.List.{List, [], ◌∷◌}
use mathlib.Core.Logic.{◌⊎◌, inl, inr}
use mathlib.Core.Path.{◌≡◌, refl, sym, ap, ◌∙◌}
use lib.Dec.{leb}
use lib.ListN.{length}
use borrow.Author.Tests.{leb-true, le-leb}
use Rattle.image.proofs.TestLaws.{both, beq_true, le_or_lt}
use Rattle.image.specs.Examples.{disk}
use Rattle.chip.specs.Next.{advanced_of}
use Rattle.image.specs.Layout.{size_of, track_length, track_at, offset_of}
use Rattle.fdc.specs.declared.record.Controller.{Controller}
use Rattle.reached.specs.Runs.{Call, after}
use Rattle.demands.specs.EndsInTime.{bound_of}
use Rattle.demands.specs.HandedOver.{Reads, Taken, untaken, taken_by, IsGood}
use Rattle.demands.specs.History.{History, no_history, history_by}
use Rattle.demands.specs.PowerCut.{Writes, aim_no, head_of}
use Rattle.demands.specs.ReadSucceeds.{AsTaken, TellsAt, AllGood, UntoldRead}
use Rattle.demands.specs.Succeeds.{Writable, IsThere, AllThere, Fill, Noting, Tells, LastOne}
use Rattle.demands.specs.Work.{at_work}
use Rattle.demands.proofs.InTimeLaws.{prompt_in_time}
use Rattle.demands.proofs.ReadSucceedsLaws.{read_succeeds, read_reaches_eot}
use Rattle.demands.proofs.SucceedsLaws.{write_succeeds}
use Rattle.runs.specs.AckExamples.{writing}
use Rattle.runs.specs.CutExamples.{sector_one}
use Rattle.runs.specs.HandedExamples.{reading, past_eot}
use Rattle.runs.specs.Host.{double}
use Rattle.runs.specs.PromptRuns.{wrote, left, back, LongRun}
use Rattle.runs.specs.SuccessRuns.{long_write, long_read, long_eot, SuccessRuns}
use Rattle.runs.specs.SucceedsExamples.{from_one}
use Rattle.runs.specs.Whole.{WholeOutcome, asked_by, calls_of}
use Rattle.runs.proofs.HandedExamples.{handed_examples}
use Rattle.runs.proofs.Open.{all_open}
use Rattle.runs.proofs.PromptRuns.{long_run, prompt_runs}
use Rattle.runs.proofs.SucceedsExamples.{tells_test, tells_met}
use Rattle.runs.proofs.Tests.{not_off}

-- TC by number, over the calls, as tests
unfoldable all_note : (History → Bool) → List Call → Controller → History → Bool
all_note test [] c h = true
all_note test (call ∷ calls) c h =
    cond (at_work c.phase)
    (test (history_by call c h) && all_note test calls (after call c) (history_by call c h)) true

note_all : (test : History → Bool) (P : History → Type 0) → ((h : History) → test h ≡ true → P h)
    → (calls : List Call) (c : Controller) (h : History) → all_note test calls c h ≡ true → Noting P calls c h
unfolding all_note Noting
note_all test P means [] c h e = tt
note_all test P means (call ∷ calls) c h e = λ w.
    let (now, later) = both (test (history_by call c h)) _ (rw w at e) in
    (means (history_by call c h) now, note_all test P means calls _ _ later)

unfoldable all_take_lem : (Taken → Bool) → List Call → Controller → Taken → Bool
all_take_lem test [] c t = true
all_take_lem test (call ∷ calls) c t =
    cond (at_work c.phase)
    (test (taken_by call c t) && all_take_lem test calls (after call c) (taken_by call c t)) true

take_all : (test : Taken → Bool) (P : Taken → Type 0) → ((t : Taken) → test t ≡ true → P t)
    → (calls : List Call) (c : Controller) (t : Taken) → all_take_lem test calls c t ≡ true → AsTaken P calls c t
unfolding all_take_lem AsTaken
take_all test P means [] c t e = tt
take_all test P means (call ∷ calls) c t e = λ w.
    let (now, later) = both (test (taken_by call c t)) _ (rw w at e) in
    (means (taken_by call c t) now, take_all test P means calls _ _ later)

abbrev tells_at_lem : ℕ → Taken → Bool
tells_at_lem bytes t = beq t.told (leb bytes (length t.got))

tells_at : (bytes : ℕ) (t : Taken) → tells_at_lem bytes t ≡ true → TellsAt bytes t
tells_at bytes t e =
    let q = beq_true t.told (leb bytes (length t.got)) e in
    (λ x. leb-true _ _ (sym q ∙ x), λ l. q ∙ le-leb _ _ l)

abbrev untold : Taken → Bool
untold t = not t.told

write_notes : all_note (tells_test 260) (calls_of long_write) (asked_by wrote) no_history ≡ true
unfolding all_open all_note
write_notes = refl

read_takes : all_take_lem (tells_at_lem 260) (calls_of long_read) (asked_by back) untaken ≡ true
unfolding all_open all_take_lem
read_takes = refl

eot_takes : all_take_lem untold (calls_of long_eot) (asked_by past_eot) untaken ≡ true
unfolding all_open all_take_lem
eot_takes = refl

-- all heads stand at 0
pub heads : (head_of wrote.order (asked_by wrote) ≡ 0) × (head_of back.order (asked_by back) ≡ 0)
    × (head_of past_eot.order (asked_by past_eot) ≡ 0)
unfolding all_open
heads = (refl, refl, refl)

-- number 0 and number 1: slot 0 and slot 1
by_two : (P : ℕ → Type 0) → P 0 → P 1 → (k : ℕ) → k ≤ 1 → P k
by_two P zeroth first k l = go (le_or_lt 1 k)
  where
    go : (1 ≤ k) ⊎ (k < 1) → P k
    go (inl a) = let z : k ≡ 1 = omega arith in rw z first
    go (inr a) = let z : k ≡ 0 = omega arith in rw z zeroth

wrote_there : AllThere (disk 1 1 2 1) (double 1) 0 (writing false false 2) from_one 1
unfolding offset_of track_at track_length size_of advanced_of
wrote_there =
    record {
      there =
          by_two (λ k. IsThere (disk 1 1 2 1) (double 1) 0 (aim_no (writing false false 2) from_one k))
          (record {
            at = 13;
            stands = record {
              slot = 0;
              has = record { on_disk = omega arith; on_cylinder = omega arith; on_track = omega arith };
              place = refl;
              marked = (omega arith, omega arith);
              address = refl;
              size = refl;
            };
          })
          (record {
            at = 274;
            stands = record {
              slot = 1;
              has = record { on_disk = omega arith; on_cylinder = omega arith; on_track = omega arith };
              place = refl;
              marked = (omega arith, omega arith);
              address = refl;
              size = refl;
            };
          });
      on = λ k l e.
          let z : k ≡ 0 = omega arith in
          let e' : (aim_no (writing false false 2) from_one 0).id.r ≡ 2 = rw z at e in
          absurd (omega arith);
    }

back_good : AllGood (disk 1 1 2 1) left 0 (reading false false false 2) from_one 1
unfolding offset_of track_at track_length size_of advanced_of
back_good =
    record {
      good =
          by_two (λ k. IsGood (disk 1 1 2 1) 0 (reading false false false 2) from_one left k)
          (record {
            at = 13;
            stands = record {
              slot = 0;
              has = record { on_disk = omega arith; on_cylinder = omega arith; on_track = omega arith };
              place = refl;
              marked = (omega arith, omega arith);
              address = refl;
              size = refl;
            };
            mark = refl;
          })
          (record {
            at = 274;
            stands = record {
              slot = 1;
              has = record { on_disk = omega arith; on_cylinder = omega arith; on_track = omega arith };
              place = refl;
              marked = (omega arith, omega arith);
              address = refl;
              size = refl;
            };
            mark = refl;
          });
      on = λ k l e.
          let z : k ≡ 0 = omega arith in
          let e' : (aim_no (reading false false false 2) from_one 0).id.r ≡ 2 = rw z at e in
          absurd (omega arith);
    }

eot_sector : AllGood (disk 1 1 2 1) (double 1) 0 (reading false false false 1) from_one 0
unfolding offset_of track_at track_length size_of
eot_sector =
    record {
      good = λ k l.
          let z : k ≡ 0 = omega arith in
          rw z
          (record {
            at = 13;
            stands = record {
              slot = 0;
              has = record { on_disk = omega arith; on_cylinder = omega arith; on_track = omega arith };
              place = refl;
              marked = (omega arith, omega arith);
              address = refl;
              size = refl;
            };
            mark = refl;
          });
      on = λ k l. absurd (omega arith);
    }

fills : Fill (disk 1 1 2 1) 260 1
unfolding size_of
fills = record { more = omega arith; most = omega arith }

last_one : LastOne (reading false false false 1) (aim_no (reading false false false 1) from_one 0)
last_one = record { eot = refl; no_turn = λ e z. false≢true e }

eot_long : LongRun long_eot
unfolding all_open bound_of
eot_long =
    long_run past_eot 1721 handed_examples.past_eot_served
    (ap (λ (o : WholeOutcome). o.phase) handed_examples.past_eot_run.outcome) (omega arith) refl refl (omega arith)

pub wrote_accepts : Writes (asked_by wrote) wrote.order (writing false false 2) sector_one
unfolding all_open
wrote_accepts = record { accepted = refl; moves = refl; writes = refl }

pub back_accepts : Reads (asked_by back) back.order (reading false false false 2) sector_one
unfolding all_open
back_accepts = record { accepted = refl; moves = refl; reads = refl }

eot_accepts : Reads (asked_by past_eot) past_eot.order (reading false false false 1) sector_one
unfolding all_open
eot_accepts = record { accepted = refl; moves = refl; reads = refl }

writable : Writable (disk 1 1 2 1) (double 1)
writable = record { present = prompt_runs.written.mounted; unprotected = refl }

there : AllThere (disk 1 1 2 1) (double 1) (head_of wrote.order (asked_by wrote)) (writing false false 2) from_one 1
there = rw heads.0 wrote_there

good : AllGood (disk 1 1 2 1) left (head_of back.order (asked_by back)) (reading false false false 2) from_one 1
good = rw heads.1 back_good

eot_good : AllGood (disk 1 1 2 1) (double 1) (head_of past_eot.order (asked_by past_eot)) (reading false false false 1)
    from_one 0
eot_good = rw heads.2 eot_sector

pub success_runs : SuccessRuns
success_runs =
    let long_write_here = prompt_runs.write_long in
    let long_read_here = prompt_runs.read_long in
    let notes =
    note_all (tells_test 260) (Tells 260) (tells_met 260) (calls_of long_write) (asked_by wrote) no_history write_notes in
    let takes =
    take_all (tells_at_lem 260) (TellsAt 260) (tells_at 260) (calls_of long_read) (asked_by back) untaken read_takes in
    let untolds =
    take_all untold UntoldRead (λ t e. not_off t.told e) (calls_of long_eot) (asked_by past_eot) untaken eot_takes in
    record {
      writable = writable;
      fill = fills;
      there = there;
      write_tells = notes;
      good = good;
      read_tells = takes;
      write_success =
          write_succeeds (asked_by wrote) prompt_runs.written.real wrote.order (writing false false 2) sector_one
          wrote_accepts (double 1) (disk 1 1 2 1) writable 260 1 fills there (calls_of long_write) long_write_here.spins
          long_write_here.alone long_write_here.served notes long_write_here.enough;
      read_success =
          read_succeeds (asked_by back) prompt_runs.read.real back.order (reading false false false 2) sector_one
          back_accepts left (disk 1 1 2 1) prompt_runs.sound_left 260 1 fills good (calls_of long_read)
          long_read_here.spins long_read_here.alone long_read_here.served takes long_read_here.enough;
      eot_long = eot_long;
      eot_good = eot_good;
      eot_last = last_one;
      eot_untold = untolds;
      reaches_eot =
          let real = handed_examples.past_eot_run.real in
          read_reaches_eot (asked_by past_eot) real past_eot.order (reading false false false 1) sector_one eot_accepts
          (double 1) (disk 1 1 2 1) prompt_runs.sound 0 eot_good last_one (calls_of long_eot) eot_long.spins
          eot_long.alone
          (prompt_in_time (asked_by past_eot) real past_eot.order (reading false false false 1) sector_one
          (record { accepted = eot_accepts.accepted; moves = eot_accepts.moves }) (calls_of long_eot)
          eot_long.served)
          untolds eot_long.enough;
    }
