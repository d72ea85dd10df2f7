-- After TC the request is off, and so no byte passes (specs/AfterTc).
-- Assumes nothing.
use Rattle.std.specs.Prelude.{Some}
use Prim.Native.Nat.{ℕ, ◌<◌, ◌+◌, ◌≤◌}
use mathlib.Core.Bool.{Bool, true, false, true≢false, false≢true}
use mathlib.Core.List.{List, [], ◌∷◌}
use mathlib.Core.Path.{◌≡◌, refl, sym, ap, ◌∙◌, subst}
use Rattle.chip.specs.declared.fifo.Fifo.{Fifo}
use Rattle.image.specs.declared.layout.Geometry.{Geometry}
use Rattle.image.specs.declared.slot.Id.{Id}
use Rattle.image.specs.Disk.{disk_in}
use Rattle.sectors.specs.declared.order.Job.TheVariants.{Move}
use Rattle.sectors.specs.declared.order.Order.{Order}
use Rattle.sectors.specs.declared.order.Pass.TheVariants.{Read, Write}
use Rattle.sectors.specs.declared.order.Transfer.{Transfer}
use Rattle.fdc.specs.declared.record.Controller.{Controller}
use Rattle.reached.specs.Runs.{Call, powers, reads, writes, takes, gives, ticks, notes, answer_to, after, run_calls}
use Rattle.fdc.specs.Ticks.{ruled_of}
use Rattle.demands.specs.AfterTc.{ReadStops, WriteStops}
use Rattle.demands.specs.HandedOver.{Taken, untaken, taken_by, taken_over, took_by}
use Rattle.demands.specs.History.{History, history_by}
use Rattle.demands.specs.PowerCut.{Aim, head_of}
use Rattle.demands.specs.Quiet.{Quiet}
use Rattle.demands.specs.Work.{Real, at_work, Its, Alone, image_left}
use Rattle.demands.proofs.CallLaws.{taken_rule}
use Rattle.demands.proofs.CallRules.{TakenRule, none_taken, one_taken}
use Rattle.demands.proofs.SplitLaws.{tick_or_not, taking_or_not, none_handed}
use Rattle.demands.proofs.LeftLaws.{noted_host}
use Rattle.demands.proofs.HandedOverLaws as handing
use Rattle.demands.proofs.HandedStream.{Flow, flows, ended}
use Rattle.demands.proofs.PowerCutLaws as cutting
use Rattle.demands.proofs.QuietLaws.{quiet_real, quiet_after, quiet_its}
use Rattle.demands.proofs.CutLaws.{not_on}
use Rattle.demands.proofs.ShortLaws.{none_given_off}
use mathlib.Core.Logic.{◌⊎◌, inl, inr}
use native.Mathlib.Omega.{arith}
use lib.Dec.{eqb}
use lib.ListN.{length, length-append}
use Rattle.image.proofs.TestLaws.{by_test, le_or_lt}
use Rattle.fdc.specs.declared.answer.Reply.{Reply}
use Rattle.fdc.specs.declared.answer.Reply.TheVariants.{Done, Byte, Refused}
use Rattle.demands.specs.ReadSucceeds.{AsTaken, TellsAt}

-- with the request off no call takes a byte from the box
none_taken_off : (call : Call) (c : Controller) (t : Taken) → Quiet c → at_work c.phase ≡ true
    → c.fifo.asks ≡ false → taken_by call c t ≡ t
none_taken_off call c t q w off =
    taking_or_not
    (λ x. taken_by x c t ≡ t)
    (λ a b. none_handed (ticks a b) c t (λ m. m))
    (λ x n may. by x (taken_rule c q w x may))
    (λ x n bare. none_handed x c t bare) call
  where
    by : (call : Call) → TakenRule call c (after call c) → taken_by call c t ≡ t
    by call (none_taken f n) = n t
    by call (one_taken tc h a f n) = absurd (true≢false (sym a ∙ off))

-- nor gives it one
none_given : (call : Call) (c : Controller) (h : History) → Quiet c → at_work c.phase ≡ true
    → c.fifo.asks ≡ false → (history_by call c h).host ≡ h.host
unfolding history_by
none_given call c h q w off =
    tick_or_not
    (λ x. (history_by x c h).host ≡ h.host)
    (λ a b. noted_host (ruled_of a b c).effect h)
    (λ x n. ap (λ (y : History). y.host) (none_given_off x c h q w n off)) call

-- told, the request is off
flow_off : (g : Geometry) (cylinder : ℕ) (transfer : Transfer) (aim : Aim) (img : List ℕ) (num : ℕ → ℕ)
    {late : Bool} {n done : ℕ} {f : Fifo} {t : Taken} → Flow g cylinder transfer aim img num late n done f t
    → t.told ≡ true → f.asks ≡ false
flow_off g cylinder transfer aim img num (flows a n lo sum all) told = absurd (false≢true (sym n ∙ told))
flow_off g cylinder transfer aim img num (ended a n none off all lo hi) told = off

pub read_off : (g : Geometry) (cylinder : ℕ) (order : Order) (transfer : Transfer) (id : Id) (img : List ℕ)
    (disk : disk_in img ≡ Some g) (moves_it : order.job ≡ Move transfer id) (rd : transfer.pass ≡ Read)
    (hd : order.drive < 4) (e : Controller) (t : Taken)
    → handing.Run g cylinder order transfer id img disk moves_it rd hd e t → at_work e.phase ≡ true → t.told ≡ true
    → e.fifo.asks ≡ false
read_off g cylinder order transfer id img disk moves_it rd hd e t (handing.is_over o h s) work told =
    absurd (false≢true (sym o ∙ work))
read_off g cylinder order transfer id img disk moves_it rd hd e t (handing.to_start p u z) work told =
    absurd (false≢true (sym (ap (λ (x : Taken). x.told) z) ∙ told))
read_off g cylinder order transfer id img disk moves_it rd hd e t (handing.at_it site task stage p u b) work told =
    flow_off g cylinder transfer _ img b.num b.flow told

pub write_off : (g : Geometry) (cylinder : ℕ) (order : Order) (transfer : Transfer) (id : Id) (old : List ℕ)
    (disk : disk_in old ≡ Some g) (moves_it : order.job ≡ Move transfer id) (wr : transfer.pass ≡ Write)
    (hr : id.r < 256) (he : transfer.eot < 256) (hd : order.drive < 4) (e : Controller) (img : List ℕ) (h : History)
    → cutting.Run g cylinder order transfer id old disk moves_it wr hr he hd e img h → at_work e.phase ≡ true
    → h.told ≡ true → e.fifo.asks ≡ false
write_off g cylinder order transfer id old disk moves_it wr hr he hd e img h (cutting.is_over o d x) work told =
    absurd (false≢true (sym o ∙ work))
write_off g cylinder order transfer id old disk moves_it wr hr he hd e img h (cutting.to_start p u i z) work told =
    absurd (false≢true (sym (ap (λ (x : History). x.told) z) ∙ told))
write_off g cylinder order transfer id old disk moves_it wr hr he hd e img h (cutting.at_it site task stage p u b) work
    told =
    not_on e.fifo.asks (λ a. true≢false (sym (b.heard told) ∙ b.request.before_tc a))

pub read_stops_quiet : ReadStops Quiet
read_stops_quiet c q order transfer id r img g disk calls its alone work told call =
    let (hd, hs, job) = rw r.accepted at q.proper in
    let run = (handing.run_all g (head_of order c) order transfer id img disk r.moves r.reads hd calls c untaken q its
    alone (handing.to_start r.accepted refl refl)).1 in
    none_taken_off call (run_calls calls c) _ (quiet_its calls c q its) work
    (read_off g (head_of order c) order transfer id img disk r.moves r.reads hd _ _ run work told)

pub write_stops_quiet : WriteStops Quiet
write_stops_quiet c q order transfer id w old g disk calls its alone work told call =
    none_given call (run_calls calls c) _ (quiet_its calls c q its) work
    (write_off g (head_of order c) order transfer id old disk w.moves w.writes _ _ _ _ _ _
    (cutting.ran c q order transfer id w old g disk calls its alone) work told)

pub read_stops : ReadStops Real
read_stops c r = read_stops_quiet c (quiet_real c r)

pub write_stops : WriteStops Real
write_stops c r = write_stops_quiet c (quiet_real c r)

-- a call hands over at most one byte
one_more_lem : (tc : Bool) (reply : Reply) (t : Taken) → length (took_by tc reply t).got ≤ length t.got + 1
one_more_lem tc Done t = omega arith
one_more_lem tc (Byte byte) t = omega (arith, length-append t.got (byte ∷ []))
one_more_lem tc (Refused refusal) t = omega arith

takes_one : (call : Call) (c : Controller) (t : Taken) → length (taken_by call c t).got ≤ length t.got + 1
unfolding taken_by
takes_one (powers head0 head1) c t = omega arith
takes_one (reads offset) c t =
    by_test (eqb offset 5) (λ (x : Taken). length x.got ≤ length t.got + 1) _ _ (λ e. one_more_lem false (answer_to (reads offset) c).reply t)
    (λ e. omega arith)
takes_one (writes offset byte) c t = omega arith
takes_one (takes tc) c t = one_more_lem tc (answer_to (takes tc) c).reply t
takes_one (gives byte tc) c t = omega arith
takes_one (ticks a b) c t = omega arith
takes_one (notes drive) c t = omega arith

-- a host that tells TC with byte number L takes no more
module _ (g : Geometry) (cylinder : ℕ) (order : Order) (transfer : Transfer) (id : Id) (img : List ℕ)
    (disk : disk_in img ≡ Some g) (moves_it : order.job ≡ Move transfer id) (rd : transfer.pass ≡ Read)
    (hd : order.drive < 4) (L : ℕ) where
  most_after : (call : Call) (c : Controller) (t : Taken) → Quiet c → at_work c.phase ≡ true
      → handing.Run g cylinder order transfer id img disk moves_it rd hd c t → TellsAt L t → length t.got ≤ L
      → length (taken_by call c t).got ≤ L
  most_after call c t q w run tells le = go t.told refl
    where
      fewer : t.told ≡ false → (L ≤ length t.got) ⊎ (length t.got < L) → length t.got < L
      fewer e (inl m) = absurd (false≢true (sym e ∙ tells.1 m))
      fewer e (inr m) = m

      go : (b : Bool) → t.told ≡ b → length (taken_by call c t).got ≤ L
      go true e =
          rw (none_taken_off call c t q w (read_off g cylinder order transfer id img disk moves_it rd hd c t run w e)) le
      go false e = omega (arith, takes_one call c t, fewer e (le_or_lt L (length t.got)))

  pub most_along : (calls : List Call) (c : Controller) (t : Taken) → Quiet c → Its calls c
      → Alone order.drive img calls c → handing.Run g cylinder order transfer id img disk moves_it rd hd c t
      → AsTaken (TellsAt L) calls c t → TellsAt L t → length t.got ≤ L → length (taken_over calls c t).got ≤ L
  unfolding Its Alone image_left taken_over run_calls AsTaken
  most_along [] c t q its alone run along tells le = le
  most_along (call ∷ calls) c t q its alone run along tells le =
      let (lent, rest) = alone its.0 in
      let (now, later) = along its.0 in
      let (still, run') =
      handing.run_all g cylinder order transfer id img disk moves_it rd hd (call ∷ []) c t q (its.0, tt)
      (λ w. (lent, tt)) run in
      most_along calls (after call c) (taken_by call c t) (quiet_after call c q its.0) its.1
      (subst (λ (x : List ℕ). Alone order.drive x calls (after call c)) still rest) run' later now
      (most_after call c t q its.0 run tells le)
