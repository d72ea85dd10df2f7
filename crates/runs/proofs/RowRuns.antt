-- The runs of specs/RowRuns, each by its row of the result table: the premises are met by computing.
-- Assumes nothing.
use Rattle.std.specs.Prelude.{Some}
use Prim.Native.Nat.{ℕ}
use native.Mathlib.Omega.{arith}
use mathlib.Core.Bool.{Bool, true, false, true≢false, false≢true}
use mathlib.Core.List.{List, [], ◌∷◌, ◌++◌}
use mathlib.Core.Logic.{inl, inr}
use mathlib.Core.Path.{◌≡◌, refl, ap, ◌∙◌}
use lib.ListN.{set}
use Rattle.reached.specs.Runs.{Call, reads, writes, takes, gives, ticks}
use Rattle.image.specs.declared.slot.Id.{Id}
use Rattle.image.specs.Examples.{disk}
use Rattle.image.specs.Layout.{size_of}
use Rattle.image.specs.Lent.{pick_of}
use Rattle.chip.specs.Fifo.{capacity_of}
use Rattle.sectors.specs.declared.order.Transfer.{Transfer}
use Rattle.sectors.specs.declared.work.Stage.{Stage}
use Rattle.sectors.specs.declared.work.Stage.TheVariants.{Reading, Draining, Storing}
use Rattle.sectors.specs.declared.work.Work.{Work}
use Rattle.sectors.specs.declared.work.Work.TheVariants.{Moving}
use Rattle.engine.specs.Examples.{chrn_of}
use Rattle.engine.specs.Step.{drive_of, site_of}
use Rattle.fdc.specs.declared.record.Controller.{Controller}
use Rattle.fdc.specs.declared.record.Phase.{Phase}
use Rattle.fdc.specs.declared.record.Phase.TheVariants.{Working}
use Rattle.fdc.specs.Ticks.{seen_of}
use Rattle.answers.specs.Results.{During, drained, stored, skipped}
use Rattle.runs.specs.AckExamples.{writing}
use Rattle.runs.specs.HandedExamples.{reading}
use Rattle.runs.specs.RowRuns.{row_given, box, on, row_reading, row_writing, move, format, marks, good}
use Rattle.runs.specs.RowRuns.{RowEnds, RowLasts, RowGoesOn, RowRuns}
use Rattle.runs.proofs.Open.{all_open}
use Rattle.runs.proofs.Tests.{byte_tests, all_of_tests}
use Rattle.demands.specs.Work.{Real, at_work}
use Rattle.answers.proofs.ResultLaws.{result_bytes_lem}

pub real_box : (head : ℕ) (calls : List Call) → byte_tests calls ≡ true → Real (box head calls)
real_box head calls t =
    record { head0 = head; head1 = 0; calls = calls; bytes = all_of_tests calls t; run = refl }

-- what a late row asks of the record before its tick: one equation, so that its calls are run once
record Sight : Type 0 where
  phase : Phase
  dor : ℕ
  capacity : ℕ
  tc : Bool
  count : ℕ

abbrev sight_of : Controller → Sight
sight_of c =
    record {
      phase = c.phase;
      dor = c.registers.dor;
      capacity = capacity_of c.registers.efifo;
      tc = c.fifo.tc;
      count = c.fifo.count;
    }

-- motor 0 on, FIFO off
abbrev sight : Work → Bool → ℕ → Sight
sight work tc count = record { phase = Working work; dor = 0x1C; capacity = 1; tc = tc; count = count }

module _ (img : List ℕ) (calls : List Call) (bytes : byte_tests calls ≡ true) (work : Work) (tc : Bool) (count : ℕ)
    (seen : seen_of 0x1C (drive_of work) (pick_of (drive_of work) img []) ≡ Some (site_of work).disk)
    (e : sight_of (box 0 calls) ≡ sight work tc count) where
  during : During (box 0 calls) work img []
  during =
      record {
        real = real_box 0 calls bytes;
        works = ap (λ (s : Sight). s.phase) e;
        stays = ap (λ (s : Sight). seen_of s.dor (drive_of work) (pick_of (drive_of work) img [])) e ∙ seen;
      }

  lasts : (st0 st1 st2 : ℕ) (id : Id) → RowEnds 0 calls img st0 st1 st2 id → RowLasts 0 calls img st0 st1 st2 id
  lasts st0 st1 st2 id ends = record { on = ap (λ (s : Sight). at_work s.phase) e; ends = ends }

-- a transfer of sector 1
abbrev moving : Transfer → Bool → Bool → Stage → Work
moving transfer other late stage =
    Moving (record { drive = 0; side = 0; disk = disk 1 1 2 1 })
    (record { transfer = transfer; id = chrn_of 0 0 1; other = other; late = late }) stage

-- a read that the host leaves
abbrev leaves : ℕ → List Call
leaves mark = row_given (move 0x46 1 2) (on 258 (marks mark 1))

abbrev left_at : Bool → Bool → Work
left_at broken other =
    moving (reading false false false 2) other true
    (Draining (record { slot = 0; broken = broken; other = other }) 0)

good_sight : sight_of (box 0 (leaves 1)) ≡ sight (left_at false false) true 0
unfolding all_open
good_sight = refl

broken_sight : sight_of (box 0 (leaves 3)) ≡ sight (left_at true false) true 0
unfolding all_open
broken_sight = refl

other_sight : sight_of (box 0 (leaves 2)) ≡ sight (left_at false true) true 0
unfolding all_open
other_sight = refl

-- its last byte but one not taken
abbrev last_not : List Call
last_not = row_given (move 0x46 1 2) (on 2 (marks 1 1) ++ (row_reading 254 (marks 1 1) ++ on 1 (marks 1 1)))

abbrev last_not_at : Work
last_not_at = moving (reading false false false 2) false false (Reading good 255)

last_sight : sight_of (box 0 last_not) ≡ sight last_not_at false 1
unfolding all_open
last_sight = refl

-- one byte of a write, and zeros
abbrev one_byte_lem : List Call
one_byte_lem = row_given (move 0x45 1 2) (on 2 (marks 1 1) ++ (row_writing 1 (marks 1 1) ++ on 256 (marks 1 1)))

abbrev one_byte_at : Work
one_byte_at = moving (writing false false 2) false true (Storing 0 256)

short_sight : sight_of (box 0 one_byte_lem) ≡ sight one_byte_at true 0
unfolding all_open
short_sight = refl

-- the disk that each of them sees
marks_seen : (mark : ℕ) → seen_of 0x1C 0 (pick_of 0 (marks mark 1) []) ≡ Some (disk 1 1 2 1)
unfolding all_open
marks_seen mark = refl

record LateRows : Type 0 where
  last : RowGoesOn last_not (marks 1 1) (reading false false false 2) (Draining good 0)
  good_one : RowLasts 0 (leaves 1) (marks 1 1) 0x40 0x10 0x00 (chrn_of 0 0 1)
  broken_one : RowLasts 0 (leaves 3) (marks 3 1) 0x40 0x30 0x20 (chrn_of 0 0 1)
  other_one : RowLasts 0 (leaves 2) (marks 2 1) 0x40 0x10 0x40 (chrn_of 0 0 1)
  short : RowLasts 0 one_byte_lem (marks 1 1) 0x40 0x10 0x00 (chrn_of 0 0 1)

late_rows : LateRows
unfolding size_of
late_rows = record {
  last =
      (result_bytes_lem.reads _ _ _ (marks 1 1) []).overrun_last _ _
      (during (marks 1 1) last_not refl last_not_at false 1 (marks_seen 1) last_sight)
      (ap (λ (s : Sight). s.tc) last_sight)
      (omega (
        arith,
        ap (λ (s : Sight). s.capacity) last_sight,
        ap (λ (s : Sight). s.count) last_sight,
      ))
      (omega arith);
  good_one =
      lasts (marks 1 1) (leaves 1) refl (left_at false false) true 0 (marks_seen 1) good_sight _ _ _ _
      ((result_bytes_lem.reads _ _ _ (marks 1 1) []).late _ _
      (during (marks 1 1) (leaves 1) refl (left_at false false) true 0 (marks_seen 1) good_sight)
      (ap (λ (s : Sight). s.count) good_sight) refl refl);
  broken_one =
      lasts (marks 3 1) (leaves 3) refl (left_at true false) true 0 (marks_seen 3) broken_sight _ _ _ _
      ((result_bytes_lem.reads _ _ _ (marks 3 1) []).data_error _ _
      (during (marks 3 1) (leaves 3) refl (left_at true false) true 0 (marks_seen 3) broken_sight)
      (ap (λ (s : Sight). s.count) broken_sight) refl);
  other_one =
      lasts (marks 2 1) (leaves 2) refl (left_at false true) true 0 (marks_seen 2) other_sight _ _ _ _
      ((result_bytes_lem.reads _ _ _ (marks 2 1) []).late _ _
      (during (marks 2 1) (leaves 2) refl (left_at false true) true 0 (marks_seen 2) other_sight)
      (ap (λ (s : Sight). s.count) other_sight) refl refl);
  short =
      lasts (marks 1 1) one_byte_lem refl one_byte_at true 0 (marks_seen 1) short_sight _ _ _ _
      ((result_bytes_lem.writes _ _ _ (marks 1 1) []).short _ _
      (during (marks 1 1) one_byte_lem refl one_byte_at true 0 (marks_seen 1) short_sight) (omega arith) refl);
}

pub row_runs : RowRuns
unfolding all_open
row_runs = record {
  empty =
      result_bytes_lem.first.empty _ _ [] []
      (record { real = real_box 0 (row_given (move 0x46 1 2) []) refl; accepted = refl }) refl;
  no_track =
      result_bytes_lem.first.no_track _ _ (marks 1 1) [] _
      (record { real = real_box 5 (row_given (move 0x46 1 2) []) refl; accepted = refl }) refl (inl (omega arith));
  protected =
      result_bytes_lem.first.protected _ _ (set (marks 1 1) 7 1) [] _
      (record {
        real = real_box 0 (row_given (move 0x45 1 2) []) refl;
        accepted = refl;
      }) refl (omega arith, omega arith) refl refl;
  misplanned =
      result_bytes_lem.first.misplanned _ _ (marks 1 1) [] _ _
      (record {
        real = real_box 0 (row_given (format 3) []) refl;
        accepted = refl;
      }) refl (omega arith, omega arith) refl refl (inr (inr (omega arith)));
  no_id_law =
      (result_bytes_lem.search _ _ _ (marks 0 0) []).no_id_law _
      (record {
        real = real_box 0 (row_given (move 0x46 1 2) (on 4 (marks 0 0))) refl;
        works = refl;
        stays = refl;
      }) (omega arith, omega arith) refl refl;
  others_met =
      (result_bytes_lem.search _ _ _ (marks 1 0) []).others_met _
      (record {
        real = real_box 0 (row_given (move 0x46 3 4) (on 4 (marks 1 0))) refl;
        works = refl;
        stays = refl;
      }) (omega arith, omega arith) refl refl;
  other_id =
      (result_bytes_lem.search _ _ _ (marks 1 1) []).other_id _
      (record {
        real = real_box 0 (row_given (move 0x46 3 4) (on 4 (marks 1 1))) refl;
        works = refl;
        stays = refl;
      }) (omega arith, omega arith) tt (λ e. omega (arith, ap (λ (i : Id). i.r) e.0));
  no_data_law =
      (result_bytes_lem.search _ _ _ (marks 5 1) []).no_data_law _
      (record {
        real = real_box 0 (row_given (move 0x46 1 2) (on 1 (marks 5 1))) refl;
        works = refl;
        stays = refl;
      }) refl refl (refl, refl);
  no_side_law =
      (result_bytes_lem.search _ _ _ (marks 1 1) []).no_side_law _
      (record {
        real =
            real_box 0
            (row_given (move 0xC6 1 1) (on 2 (marks 1 1) ++ (row_reading 256 (marks 1 1) ++ on 1 (marks 1 1))))
            refl;
        works = refl;
        stays = refl;
      }) (inr (omega arith));
  overrun =
      (result_bytes_lem.reads _ _ _ (marks 1 1) []).overrun _ _
      (record {
        real = real_box 0 (row_given (move 0x46 1 2) (on 3 (marks 1 1))) refl;
        works = refl;
        stays = refl;
      }) refl (omega arith) (omega arith);
  overrun_last = late_rows.last;
  not_taken =
      (result_bytes_lem.reads _ _ _ (marks 1 1) []).not_taken _ _
      (record {
        real =
            real_box 0
            (row_given (move 0x46 1 2) (on 2 (marks 1 1) ++ (row_reading 255 (marks 1 1) ++ on 64 (marks 1 1))))
            refl;
        works = refl;
        stays = refl;
      }) (omega arith) (omega arith);
  data_error =
      (result_bytes_lem.reads _ _ _ (marks 3 1) []).data_error _ _
      (record {
        real = real_box 0 (row_given (move 0x46 1 2) (on 2 (marks 3 1) ++ row_reading 256 (marks 3 1))) refl;
        works = refl;
        stays = refl;
      }) refl refl;
  other_kind =
      (result_bytes_lem.reads _ _ _ (marks 2 1) []).other_kind _ _
      (record {
        real = real_box 0 (row_given (move 0x46 1 2) (on 2 (marks 2 1) ++ row_reading 256 (marks 2 1))) refl;
        works = refl;
        stays = refl;
      }) refl refl refl refl;
  late = late_rows.good_one;
  late_data_error = late_rows.broken_one;
  late_other = late_rows.other_one;
  no_byte =
      (result_bytes_lem.writes _ _ _ (marks 1 1) []).no_byte _ _
      (record {
        real = real_box 0 (row_given (move 0x45 1 2) (on 65 (marks 1 1))) refl;
        works = refl;
        stays = refl;
      }) refl (omega arith);
  underrun =
      (result_bytes_lem.writes _ _ _ (marks 1 1) []).underrun _ _
      (record {
        real =
            real_box 0
            (row_given (move 0x45 1 2) (on 2 (marks 1 1) ++ (row_writing 1 (marks 1 1) ++ on 1 (marks 1 1))))
            refl;
        works = refl;
        stays = refl;
      }) refl (omega arith) refl;
  short = late_rows.short;
  by_tc =
      (result_bytes_lem.next _ _ _ (marks 1 1) []).by_tc _ false
      (record {
        real =
            real_box 0
            (row_given (move 0x46 1 2) (on 2 (marks 1 1) ++ (ticks (marks 1 1) [] ∷ takes true ∷ on 255 (marks 1 1))))
            refl;
        works = refl;
        stays = refl;
      }) (drained _ _ refl refl refl refl refl refl refl);
  stored =
      (result_bytes_lem.next _ _ _ (marks 1 1) []).by_tc _ false
      (record {
        real = real_box 0 (row_given (move 0x45 1 2) (on 2 (marks 1 1) ++ (gives 0xA5 true ∷ on 257 (marks 1 1)))) refl;
        works = refl;
        stays = refl;
      }) (stored _ _ refl (omega arith) refl refl refl);
  past_eot_law =
      (result_bytes_lem.next _ _ _ (marks 1 1) []).past_eot_law _ false
      (record {
        real = real_box 0 (row_given (move 0x46 1 1) (on 2 (marks 1 1) ++ row_reading 256 (marks 1 1))) refl;
        works = refl;
        stays = refl;
      }) (drained _ _ refl refl refl refl refl refl refl) refl (λ t z. false≢true t);
  skipped =
      (result_bytes_lem.next _ _ _ (marks 2 1) []).past_eot_law _ true
      (record {
        real = real_box 0 (row_given (move 0x66 1 1) (on 1 (marks 2 1))) refl;
        works = refl;
        stays = refl;
      }) (skipped _ true false refl refl refl refl refl (refl, refl) true≢false refl refl) refl (λ t z. false≢true t);
  found =
      (result_bytes_lem.read_id _ _ (marks 1 1) []).found _ _
      (record { real = real_box 0 (row_given (0x4A ∷ 0 ∷ []) (on 1 (marks 1 1))) refl; works = refl; stays = refl }) tt;
  none =
      (result_bytes_lem.read_id _ _ (marks 0 0) []).none _ _
      (record {
        real = real_box 0 (row_given (0x4A ∷ 0 ∷ []) (on 4 (marks 0 0))) refl;
        works = refl;
        stays = refl;
      }) (omega arith, omega arith) refl;
  form_no_byte =
      (result_bytes_lem.format _ _ _ (marks 1 1) []).no_byte _ _
      (record {
        real = real_box 0 (row_given (format 2) (on 64 (marks 1 1))) refl;
        works = refl;
        stays = refl;
      }) refl (omega arith);
  form_missing =
      (result_bytes_lem.format _ _ _ (marks 1 1) []).missing _ _
      (record {
        real = real_box 0 (row_given (format 2) (on 1 (marks 1 1) ++ (row_writing 1 (marks 1 1) ++ on 1 (marks 1 1)))) refl;
        works = refl;
        stays = refl;
      }) refl;
  form_filled =
      (result_bytes_lem.format _ _ _ (marks 1 1) []).filled _ _
      (record {
        real =
            real_box 0
            (row_given (format 2)
            (on 1 (marks 1 1)
            ++ (row_writing 5 (marks 1 1) ++ (on 257 (marks 1 1) ++ (row_writing 5 (marks 1 1) ++ on 256 (marks 1 1))))))
            refl;
        works = refl;
        stays = refl;
      }) (omega arith) (omega arith) (omega arith);
  form_cleared =
      (result_bytes_lem.format _ _ _ (marks 1 1) []).cleared _
      (record {
        real = real_box 0 (row_given (format 1) (on 1 (marks 1 1) ++ (row_writing 5 (marks 1 1) ++ on 257 (marks 1 1)))) refl;
        works = refl;
        stays = refl;
      }) (omega arith);
  lost =
      (result_bytes_lem.lost _ [] []).moves _ _ _ (real_box 0 (row_given (move 0x46 1 2) (on 1 (marks 1 1))) refl) refl tt;
  late_lost =
      (result_bytes_lem.lost _ [] []).moves _ _ _ (real_box 0 (row_given (move 0x46 1 2) (on 4 (marks 1 1))) refl) refl tt;
  lost_id =
      (result_bytes_lem.lost _ [] []).identifies _ _ _
      (real_box 0 (row_given (0x4A ∷ 0 ∷ []) (on 1 (marks 1 1))) refl) refl tt;
  lost_format =
      (result_bytes_lem.lost _ [] []).formats _ _ _ (real_box 0 (row_given (format 2) (on 1 (marks 1 1))) refl) refl tt;
}
