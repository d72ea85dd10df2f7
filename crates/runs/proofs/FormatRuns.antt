-- The runs of specs/FormatRuns: the premises by tests that compute, the ends by the theorems.
-- Assumes nothing.
use Rattle.std.specs.Prelude.{None, Some}
use Rattle.image.specs.Lent.{put_at}
use Prim.Native.Nat.{ℕ, ◌≤◌}
use native.Mathlib.Omega.{arith}
use mathlib.Core.Bool.{Bool, true, false, cond, ◌&&◌}
use mathlib.Core.List.{List, [], ◌∷◌, ◌++◌}
use mathlib.Core.Logic.{◌⊎◌, inr}
use mathlib.Core.Path.{◌≡◌, refl, ap, ◌∙◌}
use lib.Dec.{eqb}
use lib.ListN.{length, take, length-append}
use Rattle.image.specs.Lent.{Effect}
use Rattle.image.specs.Examples.{disk}
use Rattle.image.specs.Layout.{size_of}
use Rattle.image.proofs.TestLaws.{by_test}
use Rattle.fdc.specs.declared.record.Controller.{Controller}
use Rattle.reached.specs.Examples.{bare}
use Rattle.reached.specs.Moves.{tick_count}
use Rattle.fdc.specs.Registers.{motor_in}
use Rattle.reached.specs.Runs.{Call, powers, reads, writes, takes, gives, ticks, notes, answer_to, after, run_calls}
use Rattle.fdc.specs.Ticks.{ruled_of}
use Rattle.demands.specs.DataError.{Spins}
use Rattle.demands.specs.EndsInTime.{bound_of}
use Rattle.demands.specs.FormatScript.{Formats, Stored, applied, stores_of, Allowed, FormattedBy}
use Rattle.demands.specs.FormatSucceeds.{ServedUpTo}
use Rattle.demands.specs.History.{History, Begun, no_one, some_of, no_history, stored_by, noted_store, handed, taken, history_by}
use Rattle.demands.specs.History.{history_of}
use Rattle.demands.specs.InTime.{AtTick, InTime}
use Rattle.demands.specs.PowerCut.{head_of}
use Rattle.demands.specs.Work.{Alone}
use Rattle.demands.proofs.FormatLaws.{format_script}
use Rattle.demands.proofs.FormatSucceedsLaws.{format_succeeds}
use Rattle.demands.proofs.FormatTimeLaws.{prompt_served, format_served}
use Rattle.runs.specs.FormatExamples.{one, format_left}
use Rattle.runs.specs.FormatRuns.{long_one, plan, address, script, FormatRuns}
use Rattle.runs.specs.Host.{idle, poured, double}
use Rattle.runs.specs.Whole.{asked_by, handing, calls_of}
use Rattle.runs.proofs.FormatExamples.{formatted}
use Rattle.runs.proofs.Open.{all_open}
use Rattle.runs.proofs.SpinLaws.{dma_spins, handing_ticks}
use Rattle.runs.proofs.Tests.{all_off, off_prompt}
use Rattle.runs.proofs.WholeLaws.{alone_in}

-- the bytes handed over stay handed over
module _ (n : ℕ) (h : History) (more : n ≤ length h.host) where
  still_stored : (at byte : ℕ) (begun : Begun) → n ≤ length (stored_by at byte begun h).host
  still_stored at byte no_one = more
  still_stored at byte (some_of mark bytes) =
      by_test (eqb at mark) (λ (h' : History). n ≤ length h'.host) _ _ (λ _. more) (λ _. more)

  still_noted : (effect : Effect) → n ≤ length (noted_store effect h).host
  still_noted None = more
  still_noted (Some put) = still_stored put.at put.byte h.begun

  one_more_lem : (test : Bool) (byte : ℕ) (tc : Bool) → n ≤ length (cond test (handed byte tc h) h).host
  one_more_lem test byte tc =
      by_test test (λ (h' : History). n ≤ length h'.host) _ _
      (λ _. omega (arith, more, length-append h.host (byte ∷ []))) (λ _. more)

  still_more : (call : Call) (c : Controller) → n ≤ length (history_by call c h).host
  unfolding history_by
  still_more (powers head0 head1) c = more
  still_more (reads offset) c = more
  still_more (writes offset byte) c =
      one_more_lem (eqb offset 5 && taken (answer_to (writes offset byte) c).reply) byte false
  still_more (takes tc) c = more
  still_more (gives byte tc) c = one_more_lem (taken (answer_to (gives byte tc) c).reply) byte tc
  still_more (ticks a b) c = still_noted (ruled_of a b c).effect
  still_more (notes drive) c = more

  at_tick : (call : Call) (c : Controller)
      → AtTick (λ e. (e.fifo.asks ≡ false) ⊎ (n ≤ length h.host)) call c
  at_tick (powers head0 head1) c = tt
  at_tick (reads offset) c = tt
  at_tick (writes offset byte) c = tt
  at_tick (takes tc) c = tt
  at_tick (gives byte tc) c = tt
  at_tick (ticks a b) c = inr more
  at_tick (notes drive) c = tt

all_handed : (n : ℕ) (calls : List Call) (c : Controller) (h : History) → n ≤ length h.host
    → ServedUpTo n calls c h
unfolding ServedUpTo
all_handed n [] c h more = tt
all_handed n (call ∷ calls) c h more =
    λ w. (at_tick n h more call c, all_handed n calls (after call c) (history_by call c h) (still_more n h more call c))

-- and so a host that has handed all over is served for good
served_longer : (drive n : ℕ) (calls more : List Call) (c : Controller) (img : List ℕ) (h : History)
    → ServedUpTo n (handing drive calls c img) c h → n ≤ length (history_of (handing drive calls c img) c h).host
    → ServedUpTo n (handing drive (calls ++ more) c img) c h
unfolding ServedUpTo history_of
served_longer drive n [] more c img h s all = all_handed n (handing drive more c img) c h all
served_longer drive n (call ∷ calls) more c img h s all =
    λ w. ((s w).0, served_longer drive n calls more _ _ _ (s w).1 all)

accepts : Formats (asked_by one) one.order plan
unfolding all_open
accepts = record { accepted = refl; formats = refl }

head : head_of one.order (asked_by one) ≡ 0
unfolding all_open
head = refl

motor : motor_in (asked_by one).registers.dor 1 ≡ true
unfolding all_open
motor = refl

allowed : Allowed (disk 1 1 2 1) (head_of one.order (asked_by one)) 0 plan
allowed =
    rw head
    (record {
      on_disk = omega arith;
      on_cylinder = omega arith;
      unprotected = refl;
      size = refl;
      some = omega arith;
      most = omega arith;
    })

spins : Spins 1 (calls_of long_one) (asked_by one)
spins = dma_spins 1 long_one.does (asked_by one) (double 1) refl motor

alone : Alone 1 (double 1) (calls_of long_one) (asked_by one)
alone = alone_in long_one (omega arith)

enough : bound_of (disk 1 1 2 1) ≤ tick_count (calls_of long_one)
unfolding bound_of size_of
enough = rw (handing_ticks 1 long_one.does (asked_by one) (double 1)) (omega arith)

-- the first tick finds the request off, and then come the four
abbrev opening : List Call
opening = bare ∷ poured false address

opening_off : all_off (handing 1 opening (asked_by one) (double 1)) (asked_by one) ≡ true
unfolding all_open all_off
opening_off = refl

opening_host : (history_of (handing 1 opening (asked_by one) (double 1)) (asked_by one) no_history).host ≡ address
unfolding all_open
opening_host = refl

opened : (more : List Call) → ServedUpTo 4 (handing 1 (opening ++ more) (asked_by one) (double 1)) (asked_by one) no_history
opened more =
    let calls = handing 1 opening (asked_by one) (double 1) in
    served_longer 1 4 opening more (asked_by one) (double 1) no_history
    (prompt_served 4 calls (asked_by one) no_history (off_prompt calls (asked_by one) opening_off))
    (rw opening_host (omega arith))

served : ServedUpTo 4 (calls_of long_one) (asked_by one) no_history
served = opened (idle 263 ++ idle 1716)

in_time_law : (calls : List Call) → Alone 1 (double 1) calls (asked_by one) → ServedUpTo 4 calls (asked_by one) no_history
    → InTime calls (asked_by one)
in_time_law =
    format_served (asked_by one) formatted.real one.order plan accepts (double 1) (disk 1 1 2 1)
    formatted.mounted

stores : stores_of (calls_of one) (asked_by one) 0 ≡ 263
unfolding all_open stores_of
stores = refl

size : length script ≡ 263
unfolding size_of
size = refl

all_of_it : take 263 script ≡ script
unfolding size_of
all_of_it = refl

pub format_runs : FormatRuns
format_runs =
    let long_in_time = in_time_law (calls_of long_one) alone served in
    let success =
    format_succeeds (asked_by one) formatted.real one.order plan accepts (double 1) (disk 1 1 2 1)
    formatted.mounted allowed (calls_of long_one) spins alone long_in_time enough in
    let by_stores =
    format_script (asked_by one) formatted.real one.order plan accepts (double 1) (disk 1 1 2 1)
    formatted.mounted (calls_of one) formatted.its formatted.alone in
    let by_script :
    FormattedBy (disk 1 1 2 1) 0 1 0 plan address 263 (double 1) format_left (run_calls (calls_of one) (asked_by one)) =
    rw (head, formatted.host_is, stores, formatted.left_is) at by_stores in
    record {
      accepted = accepts;
      allowed = allowed;
      spins = spins;
      alone = alone;
      served = served;
      enough = enough;
      in_time_law = long_in_time;
      success = rw head at success;
      never_late = in_time_law (calls_of one) formatted.alone (opened (idle 263));
      stores = stores;
      size = size;
      formatted = by_script;
      whole = by_script.left.image ∙ ap (λ (s : List Stored). applied s (double 1)) all_of_it;
    }
