-- Closed runs (specs/Whole) in one pass over the calls: `goes` runs the machine once and keeps all that the statements
-- ask for; its laws say that it is what they say. So a run is one equation that computes.
-- Assumes nothing.
use Rattle.std.specs.Prelude.{Some}
use Prim.Native.Nat.{ℕ, zero, suc, ◌<◌}
use native.Mathlib.Omega.{arith}
use mathlib.Core.Bool.{Bool, true, false, ◌&&◌, not, cond}
use mathlib.Core.List.{List, [], ◌∷◌, ◌++◌}
use mathlib.Core.Path.{◌≡◌, refl, sym, ap, ap₂, ◌∙◌, subst}
use lib.Dec.{eqb}
use Rattle.image.specs.declared.slot.Id.{Id}
use Rattle.image.specs.Disk.{disk_in}
use Rattle.image.specs.Lent.{stored_as}
use Rattle.image.proofs.TestLaws.{both}
use Rattle.sectors.specs.declared.order.Job.TheVariants.{Format}
use Rattle.sectors.specs.declared.order.Plan.{Plan}
use Rattle.sectors.specs.declared.order.Transfer.{Transfer}
use Rattle.fdc.specs.declared.record.Controller.{Controller}
use Rattle.fdc.specs.declared.record.Phase.{Phase}
use Rattle.fdc.specs.declared.record.Phase.TheVariants.{Starting, Answering}
use Rattle.fdc.specs.Answer.{answer_of}
use Rattle.reached.specs.Runs.{Call, powers, reads, writes, takes, gives, ticks, notes, answer_to, after, run_calls}
use Rattle.fdc.specs.Ticks.{ruled_of, tick_of, image_after}
use Rattle.demands.specs.Acknowledged.{result_byte, result_id, Acknowledges}
use Rattle.demands.specs.HandedOver.{Reads, HandedBy, Taken, untaken, took_by, taken_by, taken_over}
use Rattle.demands.specs.History.{History, no_history, noted_store, handed, taken, history_by, history_of}
use Rattle.demands.specs.InTime.{AtTicks, Prompt}
use Rattle.demands.specs.PowerCut.{Writes}
use Rattle.demands.specs.Work.{Real, at_work, Its, Alone, Handed, image_left}
use Rattle.runs.specs.Whole.{
  WholeGiven,
  WholeOutcome,
  Served,
  asking,
  asked_by,
  lending,
  handing,
  calls_of,
  now_by,
  done_by,
  left_by,
  further,
  more_calls,
  wrote_of,
  took_of,
  WriteRun,
  ReadRun,
  FormatRun,
}
use Rattle.demands.proofs.AcknowledgedLaws.{acknowledged}
use Rattle.demands.proofs.HandedOverLaws.{handed_over}
use Rattle.runs.proofs.Tests.{byte_tests, all_of_tests, not_off}

-- the record at the end; whether each call was handed a record at work, and each tick one with the request off; what a
-- write was handed and did, and what was taken
pub record Seen : Type 0 where
  pub now : Controller
  pub work : Bool
  pub off : Bool
  pub history : History
  pub took : Taken
  pub left : List ℕ

unfoldable pub goes : ℕ → List Call → Controller → List ℕ → Bool → Bool → History → Taken → Seen
goes drive [] c img work off h t = record { now = c; work = work; off = off; history = h; took = t; left = img }
goes drive (powers head0 head1 ∷ calls) c img work off h t =
    goes drive calls (after (powers head0 head1) c) img (work && at_work c.phase) off h t
goes drive (reads offset ∷ calls) c img work off h t =
    let a = answer_to (reads offset) c in
    goes drive calls a.controller img (work && at_work c.phase) off h
    (cond (eqb offset 5) (took_by false a.reply t) t)
goes drive (writes offset byte ∷ calls) c img work off h t =
    let a = answer_to (writes offset byte) c in
    goes drive calls a.controller img (work && at_work c.phase) off
    (cond (eqb offset 5 && taken a.reply) (handed byte false h) h) t
goes drive (takes tc ∷ calls) c img work off h t =
    let a = answer_to (takes tc) c in
    goes drive calls a.controller img (work && at_work c.phase) off h (took_by tc a.reply t)
goes drive (gives byte tc ∷ calls) c img work off h t =
    let a = answer_to (gives byte tc) c in
    goes drive calls a.controller img (work && at_work c.phase) off
    (cond (taken a.reply) (handed byte tc h) h) t
goes drive (ticks a b ∷ calls) c img work off h t =
    let d = ruled_of (cond (eqb drive 0) img []) (cond (eqb drive 1) img []) c in
    goes drive calls d.controller (stored_as d.drive drive d.effect img) (work && at_work c.phase)
    (off && not c.fifo.asks) (noted_store d.effect h) t
goes drive (notes drive' ∷ calls) c img work off h t =
    goes drive calls (after (notes drive') c) img (work && at_work c.phase) off h t

-- on from what was seen; a run goes on where its first part ends
abbrev pub goes_on : ℕ → List Call → Seen → Seen
goes_on drive calls s = goes drive calls s.now s.left s.work s.off s.history s.took

goes_more : (drive : ℕ) (calls more : List Call) (c : Controller) (img : List ℕ) (work off : Bool) (h : History)
    (t : Taken)
    → goes drive (calls ++ more) c img work off h t ≡ goes_on drive more (goes drive calls c img work off h t)
unfolding goes
goes_more drive [] more c img work off h t = refl
goes_more drive (powers head0 head1 ∷ calls) more c img work off h t = goes_more drive calls more _ _ _ _ _ _
goes_more drive (reads offset ∷ calls) more c img work off h t = goes_more drive calls more _ _ _ _ _ _
goes_more drive (writes offset byte ∷ calls) more c img work off h t = goes_more drive calls more _ _ _ _ _ _
goes_more drive (takes tc ∷ calls) more c img work off h t = goes_more drive calls more _ _ _ _ _ _
goes_more drive (gives byte tc ∷ calls) more c img work off h t = goes_more drive calls more _ _ _ _ _ _
goes_more drive (ticks a b ∷ calls) more c img work off h t = goes_more drive calls more _ _ _ _ _ _
goes_more drive (notes drive' ∷ calls) more c img work off h t = goes_more drive calls more _ _ _ _ _ _

goes_now : (drive : ℕ) (calls : List Call) (c : Controller) (img : List ℕ) (work off : Bool) (h : History)
    (t : Taken)
    → (goes drive calls c img work off h t).now ≡ run_calls (handing drive calls c img) c
unfolding goes run_calls answer_to tick_of answer_of image_after
goes_now drive [] c img work off h t = refl
goes_now drive (powers head0 head1 ∷ calls) c img work off h t = goes_now drive calls _ _ _ _ _ _
goes_now drive (reads offset ∷ calls) c img work off h t = goes_now drive calls _ _ _ _ _ _
goes_now drive (writes offset byte ∷ calls) c img work off h t = goes_now drive calls _ _ _ _ _ _
goes_now drive (takes tc ∷ calls) c img work off h t = goes_now drive calls _ _ _ _ _ _
goes_now drive (gives byte tc ∷ calls) c img work off h t = goes_now drive calls _ _ _ _ _ _
goes_now drive (ticks a b ∷ calls) c img work off h t = goes_now drive calls _ _ _ _ _ _
goes_now drive (notes drive' ∷ calls) c img work off h t = goes_now drive calls _ _ _ _ _ _

goes_wrote : (drive : ℕ) (calls : List Call) (c : Controller) (img : List ℕ) (work off : Bool) (h : History)
    (t : Taken)
    → (goes drive calls c img work off h t).history ≡ history_of (handing drive calls c img) c h
unfolding goes history_of history_by answer_to tick_of answer_of image_after
goes_wrote drive [] c img work off h t = refl
goes_wrote drive (powers head0 head1 ∷ calls) c img work off h t = goes_wrote drive calls _ _ _ _ _ _
goes_wrote drive (reads offset ∷ calls) c img work off h t = goes_wrote drive calls _ _ _ _ _ _
goes_wrote drive (writes offset byte ∷ calls) c img work off h t = goes_wrote drive calls _ _ _ _ _ _
goes_wrote drive (takes tc ∷ calls) c img work off h t = goes_wrote drive calls _ _ _ _ _ _
goes_wrote drive (gives byte tc ∷ calls) c img work off h t = goes_wrote drive calls _ _ _ _ _ _
goes_wrote drive (ticks a b ∷ calls) c img work off h t = goes_wrote drive calls _ _ _ _ _ _
goes_wrote drive (notes drive' ∷ calls) c img work off h t = goes_wrote drive calls _ _ _ _ _ _

goes_took : (drive : ℕ) (calls : List Call) (c : Controller) (img : List ℕ) (work off : Bool) (h : History)
    (t : Taken)
    → (goes drive calls c img work off h t).took ≡ taken_over (handing drive calls c img) c t
unfolding goes taken_over taken_by answer_to tick_of answer_of image_after
goes_took drive [] c img work off h t = refl
goes_took drive (powers head0 head1 ∷ calls) c img work off h t = goes_took drive calls _ _ _ _ _ _
goes_took drive (reads offset ∷ calls) c img work off h t = goes_took drive calls _ _ _ _ _ _
goes_took drive (writes offset byte ∷ calls) c img work off h t = goes_took drive calls _ _ _ _ _ _
goes_took drive (takes tc ∷ calls) c img work off h t = goes_took drive calls _ _ _ _ _ _
goes_took drive (gives byte tc ∷ calls) c img work off h t = goes_took drive calls _ _ _ _ _ _
goes_took drive (ticks a b ∷ calls) c img work off h t = goes_took drive calls _ _ _ _ _ _
goes_took drive (notes drive' ∷ calls) c img work off h t = goes_took drive calls _ _ _ _ _ _

goes_left : (drive : ℕ) (calls : List Call) (c : Controller) (img : List ℕ) (work off : Bool) (h : History)
    (t : Taken)
    → (goes drive calls c img work off h t).left ≡ image_left drive img (handing drive calls c img) c
unfolding goes image_left answer_to tick_of answer_of image_after
goes_left drive [] c img work off h t = refl
goes_left drive (powers head0 head1 ∷ calls) c img work off h t = goes_left drive calls _ _ _ _ _ _
goes_left drive (reads offset ∷ calls) c img work off h t = goes_left drive calls _ _ _ _ _ _
goes_left drive (writes offset byte ∷ calls) c img work off h t = goes_left drive calls _ _ _ _ _ _
goes_left drive (takes tc ∷ calls) c img work off h t = goes_left drive calls _ _ _ _ _ _
goes_left drive (gives byte tc ∷ calls) c img work off h t = goes_left drive calls _ _ _ _ _ _
goes_left drive (ticks a b ∷ calls) c img work off h t = goes_left drive calls _ _ _ _ _ _
goes_left drive (notes drive' ∷ calls) c img work off h t = goes_left drive calls _ _ _ _ _ _

-- a call at work, and then the rest
at_work_law : (work now : Bool) {A : Type 0} → ((work && now) ≡ true) × A → (work ≡ true) × ((now ≡ true) × A)
at_work_law work now (e, rest) =
    let (before, here) = both work now e in
    (before, (here, rest))

goes_its : (drive : ℕ) (calls : List Call) (c : Controller) (img : List ℕ) (work off : Bool) (h : History)
    (t : Taken)
    → (goes drive calls c img work off h t).work ≡ true → (work ≡ true) × Its (handing drive calls c img) c
unfolding goes Its answer_to tick_of answer_of image_after
goes_its drive [] c img work off h t e = (e, tt)
goes_its drive (powers head0 head1 ∷ calls) c img work off h t e = at_work_law work _ (goes_its drive calls _ _ _ _ _ _ e)
goes_its drive (reads offset ∷ calls) c img work off h t e = at_work_law work _ (goes_its drive calls _ _ _ _ _ _ e)
goes_its drive (writes offset byte ∷ calls) c img work off h t e = at_work_law work _ (goes_its drive calls _ _ _ _ _ _ e)
goes_its drive (takes tc ∷ calls) c img work off h t e = at_work_law work _ (goes_its drive calls _ _ _ _ _ _ e)
goes_its drive (gives byte tc ∷ calls) c img work off h t e = at_work_law work _ (goes_its drive calls _ _ _ _ _ _ e)
goes_its drive (ticks a b ∷ calls) c img work off h t e = at_work_law work _ (goes_its drive calls _ _ _ _ _ _ e)
goes_its drive (notes drive' ∷ calls) c img work off h t e = at_work_law work _ (goes_its drive calls _ _ _ _ _ _ e)

goes_off : (drive : ℕ) (calls : List Call) (c : Controller) (img : List ℕ) (work off : Bool) (h : History)
    (t : Taken)
    → (goes drive calls c img work off h t).off ≡ true → (off ≡ true) × Prompt (handing drive calls c img) c
unfolding goes AtTicks answer_to tick_of answer_of image_after
goes_off drive [] c img work off h t e = (e, tt)
goes_off drive (powers head0 head1 ∷ calls) c img work off h t e =
    let (o, rest) = goes_off drive calls _ _ _ _ _ _ e in
    (o, λ w. (tt, rest))
goes_off drive (reads offset ∷ calls) c img work off h t e =
    let (o, rest) = goes_off drive calls _ _ _ _ _ _ e in
    (o, λ w. (tt, rest))
goes_off drive (writes offset byte ∷ calls) c img work off h t e =
    let (o, rest) = goes_off drive calls _ _ _ _ _ _ e in
    (o, λ w. (tt, rest))
goes_off drive (takes tc ∷ calls) c img work off h t e =
    let (o, rest) = goes_off drive calls _ _ _ _ _ _ e in
    (o, λ w. (tt, rest))
goes_off drive (gives byte tc ∷ calls) c img work off h t e =
    let (o, rest) = goes_off drive calls _ _ _ _ _ _ e in
    (o, λ w. (tt, rest))
goes_off drive (ticks a b ∷ calls) c img work off h t e =
    let (o, rest) = goes_off drive calls _ _ _ _ _ _ e in
    let (before, now) = both off (not c.fifo.asks) o in
    (before, λ w. (not_off c.fifo.asks now, rest))
goes_off drive (notes drive' ∷ calls) c img work off h t e =
    let (o, rest) = goes_off drive calls _ _ _ _ _ _ e in
    (o, λ w. (tt, rest))

lent : (drive : ℕ) → drive < 2 → (img : List ℕ) (call : Call) → Handed drive img (lending drive img call)
lent drive p img (powers head0 head1) = tt
lent drive p img (reads offset) = tt
lent drive p img (writes offset byte) = tt
lent drive p img (takes tc) = tt
lent drive p img (gives byte tc) = tt
lent zero p img (ticks a b) = refl
lent (suc zero) p img (ticks a b) = refl
lent (suc (suc k)) p img (ticks a b) = absurd (omega arith)
lent drive p img (notes drive') = tt

pub handing_alone : (drive : ℕ) → drive < 2 → (calls : List Call) (c : Controller) (img : List ℕ)
    → Alone drive img (handing drive calls c img) c
unfolding Alone
handing_alone drive p [] c img = tt
handing_alone drive p (call ∷ calls) c img = λ w. (lent drive p img call, handing_alone drive p calls _ _)

pub real_asked : (x : WholeGiven) → byte_tests (asking x) ≡ true → Real (asked_by x)
real_asked x t =
    record {
      head0 = x.head0;
      head1 = x.head1;
      calls = asking x;
      bytes = all_of_tests (asking x) t;
      run = refl;
    }

-- a run in one pass
abbrev pub seen_in : WholeGiven → Seen
seen_in x = goes x.order.drive x.does (asked_by x) x.img true true no_history untaken

pub record Summary : Type 0 where
  pub outcome : WholeOutcome
  pub work : Bool
  pub off : Bool

abbrev pub wrote_in : WholeGiven → Summary
wrote_in x =
    let seen = seen_in x in
    record { outcome = wrote_of seen.now seen.history; work = seen.work; off = seen.off }

abbrev pub took_in : WholeGiven → Summary
took_in x =
    let seen = seen_in x in
    record { outcome = took_of seen.now seen.took; work = seen.work; off = seen.off }

-- the commands' calls, each tick with the request off or not
abbrev pub sums : WholeOutcome → Bool → Summary
sums o off = record { outcome = o; work = true; off = off }

-- a Format's
pub record Formed : Type 0 where
  pub phase : Phase
  pub result : List ℕ
  pub host : List ℕ
  pub left : List ℕ
  pub work : Bool

abbrev pub formed_in : WholeGiven → Formed
formed_in x =
    let seen = seen_in x in
    record {
      phase = seen.now.phase;
      result = seen.now.bytes.results;
      host = seen.history.host;
      left = seen.left;
      work = seen.work;
    }

abbrev pub forms : List ℕ → List ℕ → List ℕ → Formed
forms result host left =
    record { phase = Answering true; result = result; host = host; left = left; work = true }

module _ (x : WholeGiven) where
  pub wrote_in_lem : (seen_in x).history ≡ done_by x
  wrote_in_lem = goes_wrote x.order.drive x.does (asked_by x) x.img true true no_history untaken

  pub its_in : (seen_in x).work ≡ true → Its (calls_of x) (asked_by x)
  its_in e = (goes_its x.order.drive x.does (asked_by x) x.img true true no_history untaken e).1

  pub alone_in : x.order.drive < 2 → Alone x.order.drive x.img (calls_of x) (asked_by x)
  alone_in p = handing_alone x.order.drive p x.does (asked_by x) x.img

  now_in : (seen_in x).now ≡ now_by x
  now_in = goes_now x.order.drive x.does (asked_by x) x.img true true no_history untaken

  pub left_in : (seen_in x).left ≡ left_by x
  left_in = goes_left x.order.drive x.does (asked_by x) x.img true true no_history untaken

  -- the same of what the host does then
  pub more_in : (more : List Call) → seen_in (further more x) ≡ goes_on x.order.drive more (seen_in x)
  more_in more = goes_more x.order.drive x.does more (asked_by x) x.img true true no_history untaken

  pub more_its : (more : List Call) → (goes_on x.order.drive more (seen_in x)).work ≡ true
      → Its (more_calls more x) (now_by x)
  more_its more e =
      subst (λ (c : Controller). Its (handing x.order.drive more c (left_by x)) c) now_in
      (subst (λ (img : List ℕ). Its (handing x.order.drive more (seen_in x).now img) (seen_in x).now) left_in
      (goes_its x.order.drive more _ _ _ _ _ _ e).1)

  pub more_alone : (more : List Call) → x.order.drive < 2
      → Alone x.order.drive (left_by x) (more_calls more x) (now_by x)
  more_alone more p = handing_alone x.order.drive p more (now_by x) (left_by x)

  served_in : (seen_in x).off ≡ true → Served x
  served_in e = (goes_off x.order.drive x.does (asked_by x) x.img true true no_history untaken e).1

  pub format_run : (plan : Plan) (result host left : List ℕ) → byte_tests (asking x) ≡ true
      → (asked_by x).phase ≡ Starting x.order → x.order.job ≡ Format plan → disk_in x.img ≡ Some x.disk
      → x.order.drive < 2 → formed_in x ≡ forms result host left → FormatRun x result host left
  format_run plan result host left bytes accepted formats mounted p e =
      record {
        real = real_asked x bytes;
        plan = plan;
        accepted = accepted;
        formats = formats;
        mounted = mounted;
        its = its_in (ap (λ (s : Formed). s.work) e);
        alone = alone_in p;
        ends = sym (ap (λ (c : Controller). c.phase) now_in) ∙ ap (λ (s : Formed). s.phase) e;
        result_is = sym (ap (λ (c : Controller). c.bytes.results) now_in) ∙ ap (λ (s : Formed). s.result) e;
        host_is = sym (ap (λ (h : History). h.host) wrote_in_lem) ∙ ap (λ (s : Formed). s.host) e;
        left_is = sym left_in ∙ ap (λ (s : Formed). s.left) e;
      }

module _ (x : WholeGiven) (o : WholeOutcome) (transfer : Transfer) (id : Id) where
  pub write_run : (off : Bool) → byte_tests (asking x) ≡ true → Writes (asked_by x) x.order transfer id
      → disk_in x.img ≡ Some x.disk → x.order.drive < 2 → wrote_in x ≡ sums o off → WriteRun x o
  write_run off bytes accepted mounted p e =
      record {
        real = real_asked x bytes;
        transfer = transfer;
        id = id;
        accepted = accepted;
        mounted = mounted;
        its = its_in x (ap (λ (s : Summary). s.work) e);
        alone = alone_in x p;
        outcome = sym (ap₂ wrote_of (now_in x) (wrote_in_lem x)) ∙ ap (λ (s : Summary). s.outcome) e;
      }

  pub read_run : (off : Bool) → byte_tests (asking x) ≡ true → Reads (asked_by x) x.order transfer id
      → disk_in x.img ≡ Some x.disk → x.order.drive < 2 → took_in x ≡ sums o off → ReadRun x o
  read_run off bytes accepted mounted p e =
      let took = goes_took x.order.drive x.does (asked_by x) x.img true true no_history untaken in
      record {
        real = real_asked x bytes;
        transfer = transfer;
        id = id;
        accepted = accepted;
        mounted = mounted;
        its = its_in x (ap (λ (s : Summary). s.work) e);
        alone = alone_in x p;
        outcome = sym (ap₂ took_of (now_in x) took) ∙ ap (λ (s : Summary). s.outcome) e;
      }

pub write_served : (x : WholeGiven) (o : WholeOutcome) → wrote_in x ≡ sums o true → Served x
write_served x o e = served_in x (ap (λ (s : Summary). s.off) e)

pub read_served : (x : WholeGiven) (o : WholeOutcome) → took_in x ≡ sums o true → Served x
read_served x o e = served_in x (ap (λ (s : Summary). s.off) e)

-- so the theorems speak of each of them
pub write_acknowledged : (x : WholeGiven) (o : WholeOutcome) (w : WriteRun x o) → o.phase ≡ Answering true
    → Acknowledges x.disk w.transfer (record { id = w.id; side = x.order.side })
    (history_of (calls_of x) (asked_by x) no_history) (result_byte 0 (run_calls (calls_of x) (asked_by x)))
    (result_byte 1 (run_calls (calls_of x) (asked_by x))) (result_byte 2 (run_calls (calls_of x) (asked_by x)))
    (result_id (run_calls (calls_of x) (asked_by x)))
write_acknowledged x o w e =
    acknowledged (asked_by x) w.real x.order w.transfer w.id w.accepted x.img x.disk w.mounted
    (calls_of x) w.its w.alone (ap (λ (s : WholeOutcome). s.phase) w.outcome ∙ e)

pub read_handed : (x : WholeGiven) (o : WholeOutcome) (r : ReadRun x o)
    → HandedBy (asked_by x) (run_calls (calls_of x) (asked_by x)) x.order r.transfer r.id x.disk x.img
    (image_left x.order.drive x.img (calls_of x) (asked_by x)) (taken_over (calls_of x) (asked_by x) untaken)
read_handed x o r =
    handed_over (asked_by x) r.real x.order r.transfer r.id r.accepted x.img x.disk r.mounted
    (calls_of x) r.its r.alone
