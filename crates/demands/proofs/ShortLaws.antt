-- Once a byte of a write is missing none follows, and its sector is the last one (specs/ShortSave).
-- Assumes nothing.
use Rattle.std.specs.Prelude.{None, Some}
use Rattle.image.specs.Lent.{put_at}
use Prim.Native.Nat.{ℕ, ◌+◌, ◌*◌, ◌<◌, ◌≤◌}
use native.Mathlib.Omega.{arith}
use mathlib.Core.Bool.{Bool, true, false, true≢false, false≢true}
use mathlib.Core.List.{List, [], ◌∷◌}
use mathlib.Core.Logic.{◌⊎◌, inl, inr}
use mathlib.Core.Path.{◌≡◌, refl, sym, ◌∙◌}
use lib.Dec.{eqb}
use lib.ListN.{length, length-append}
use Rattle.image.proofs.TestLaws.{by_test, le_or_lt}
use Rattle.image.specs.declared.layout.Geometry.{Geometry}
use Rattle.image.specs.Lent.{Effect}
use Rattle.image.specs.declared.slot.Id.{Id}
use Rattle.image.specs.Disk.{disk_in}
use Rattle.sectors.specs.declared.order.Job.TheVariants.{Move}
use Rattle.sectors.specs.declared.order.Order.{Order}
use Rattle.sectors.specs.declared.order.Pass.TheVariants.{Write}
use Rattle.sectors.specs.declared.order.Transfer.{Transfer}
use Rattle.fdc.specs.declared.record.Controller.{Controller}
use Rattle.fdc.specs.Ticks.{ruled_of}
use Rattle.reached.specs.Runs.{Call, after, run_calls}
use Rattle.demands.specs.History.{Begun, no_one, some_of, History, no_history, stored_by, noted_store, history_by, history_of}
use Rattle.demands.specs.PowerCut.{Aim, LeftBy, BegunHalf, stored_count, sector_count, Missing, passing, head_of}
use Rattle.demands.specs.Quiet.{Quiet}
use Rattle.demands.specs.ShortSave.{ShortIsLast}
use Rattle.demands.specs.Work.{Real, at_work, Its, Alone, image_by, image_left}
use Rattle.demands.proofs.CallLaws.{call_rule}
use Rattle.demands.proofs.CallRules.{NoTick, CallRule, cut_off, goes_on_lem, same, took, gave}
use Rattle.demands.proofs.CutLaws.{not_on}
use Rattle.demands.proofs.FifoStream.{stream_shut}
use Rattle.demands.proofs.LeftLaws.{noted_host, noted_told}
use Rattle.demands.proofs.PowerCutLaws.{Run, is_over, to_start, at_it, run_done, run_after, run_all, ran, proper}
use Rattle.demands.proofs.QuietLaws.{quiet_real, quiet_after, quiet_its}
use Rattle.demands.proofs.SplitLaws.{tick_or_not}

-- with the request off a call that is no tick adds nothing
pub none_given_off : (call : Call) (c : Controller) (h : History) → Quiet c → at_work c.phase ≡ true → NoTick call
    → c.fifo.asks ≡ false → history_by call c h ≡ h
none_given_off call c h q w n off = go (call_rule call c q w n)
  where
    go : CallRule call c (after call c) → history_by call c h ≡ h
    go (cut_off o e) = e h
    go (goes_on_lem k (same f e)) = e h
    go (goes_on_lem k (took tc m p f e)) = e h
    go (goes_on_lem k (gave byte tc p a f e)) = absurd (true≢false (sym a ∙ off))

-- a store leaves no fewer bytes stored, and no fewer sectors
module _ (g : Geometry) (cylinder : ℕ) (transfer : Transfer) (aim : Aim) (old img : List ℕ) where
  stored_more : (effect : Effect) (h : History) → LeftBy g cylinder transfer aim old img h
      → stored_count g h ≤ stored_count g (noted_store effect h)
  stored_more None h left = omega arith
  stored_more (Some put) h left = go h.begun refl left.begun
    where
      go : (b : Begun) → h.begun ≡ b
          → BegunHalf g cylinder transfer aim old img h.host (length h.finished) h.begun
          → stored_count g h ≤ stored_count g (stored_by put.at put.byte h.begun h)
      go no_one e half = rw e (omega arith)
      go (some_of mark bytes) e half =
          let (st, hd) = rw e at half in
          rw e
          (by_test (eqb put.at mark)
          (λ (x : History). length h.finished * passing g + length bytes ≤ stored_count g x) _ _
          (λ t. omega (arith, hd.short))
          (λ t. omega (arith, length-append bytes (put.byte ∷ []))))

  -- no sector has more bytes than it holds
  stored_most : (h : History) → LeftBy g cylinder transfer aim old img h → stored_count g h ≤ sector_count h * passing g
  stored_most h left = go h.begun refl left.begun
    where
      go : (b : Begun) → h.begun ≡ b
          → BegunHalf g cylinder transfer aim old img h.host (length h.finished) h.begun
          → stored_count g h ≤ sector_count h * passing g
      go no_one e half = rw e (omega arith)
      go (some_of mark bytes) e half =
          let (st, hd) = rw e at half in
          rw e (omega (arith, hd.short))

sectors_more : (effect : Effect) (h : History) → sector_count h ≤ sector_count (noted_store effect h)
sectors_more None h = omega arith
sectors_more (Some put) h = go h.begun refl
  where
    go : (b : Begun) → h.begun ≡ b → sector_count h ≤ sector_count (stored_by put.at put.byte h.begun h)
    go no_one e = rw e (omega arith)
    go (some_of mark bytes) e =
        rw e
        (by_test (eqb put.at mark) (λ (x : History). length h.finished + 1 ≤ sector_count x) _ _
        (λ t. omega arith) (λ t. omega arith))

module _ (g : Geometry) (cylinder : ℕ) (order : Order) (transfer : Transfer) (id : Id) (old : List ℕ)
    (disk : disk_in old ≡ Some g) (moves : order.job ≡ Move transfer id) (wr : transfer.pass ≡ Write)
    (hr : id.r < 256) (he : transfer.eot < 256) (hd : order.drive < 4) where
  abbrev Running : Controller → List ℕ → History → Type 0
  Running c img h = Run g cylinder order transfer id old disk moves wr hr he hd c img h

  -- a byte is missing: the request is off
  missing_off : (c : Controller) (img : List ℕ) (h : History) → Running c img h → at_work c.phase ≡ true
      → Missing g h → c.fifo.asks ≡ false
  missing_off c img h (is_over o d x) w m = absurd (false≢true (sym o ∙ w))
  missing_off c img h (to_start p u i z) w m = let l = rw z at m.beyond in absurd (omega arith)
  missing_off c img h (at_it site task stage p u b) w m =
      let shut = stream_shut h.host _ (stored_count g h) c.fifo.tc b.stream m.beyond in
      not_on c.fifo.asks (λ a. true≢false (sym shut ∙ b.request.before_tc a))

  -- what a later moment has of it
  record Stays (h later : History) : Type 0 where
    host : later.host ≡ h.host
    told : later.told ≡ h.told
    stored : stored_count g h ≤ stored_count g later
    sectors : sector_count h ≤ sector_count later

  stays_still : (h : History) → Stays h h
  stays_still h = record { host = refl; told = refl; stored = omega arith; sectors = omega arith }

  stays_on : (h k l : History) → Stays h k → Stays k l → Stays h l
  stays_on h k l a b = record {
    host = b.host ∙ a.host;
    told = b.told ∙ a.told;
    stored = omega (arith, a.stored, b.stored);
    sectors = omega (arith, a.sectors, b.sectors);
  }

  call_stays : (call : Call) (c : Controller) (img : List ℕ) (h : History) → Quiet c → at_work c.phase ≡ true
      → Running c img h → Missing g h → Stays h (history_by call c h)
  unfolding history_by
  call_stays call c img h q w r m =
      tick_or_not (λ x. Stays h (history_by x c h))
      (λ a b. record {
        host = noted_host (ruled_of a b c).effect h;
        told = noted_told (ruled_of a b c).effect h;
        stored = stored_more g cylinder transfer _ old img (ruled_of a b c).effect h
            (run_done g cylinder order transfer id old disk moves wr hr he hd r);
        sectors = sectors_more (ruled_of a b c).effect h;
      })
      (λ x n. rw (none_given_off x c h q w n (missing_off c img h r w m)) (stays_still h))
      call

  all_stay : (calls : List Call) (c : Controller) (img : List ℕ) (h : History) → Quiet c → Its calls c
      → Alone order.drive img calls c → Running c img h → Missing g h → Stays h (history_of calls c h)
  unfolding Its Alone history_of
  all_stay [] c img h q i a r m = stays_still h
  all_stay (call ∷ calls) c img h q i a r m =
      let (lent, alone) = a i.0 in
      let s = call_stays call c img h q i.0 r m in
      stays_on h (history_by call c h) _ s
      (all_stay calls (after call c) (image_by order.drive img call c) (history_by call c h)
      (quiet_after call c q i.0) i.1 alone
      (run_after g cylinder order transfer id old disk moves wr hr he hd call c img h q i.0 lent r)
      (record {
        beyond = rw s.host (omega (arith, m.beyond, s.stored));
        untold = s.told ∙ m.untold;
      }))

  -- a sector more would have a host byte of its own
  same_count : (img img' : List ℕ) (h later : History) → Missing g h → Stays h later
      → LeftBy g cylinder transfer (record { id = id; side = order.side }) old img h
      → LeftBy g cylinder transfer (record { id = id; side = order.side }) old img' later
      → sector_count later ≡ sector_count h
  same_count img img' h later m s before left = go (le_or_lt (sector_count later) (sector_count h))
    where
      go : (sector_count later ≤ sector_count h) ⊎ (sector_count h < sector_count later)
          → sector_count later ≡ sector_count h
      go (inl l) = omega (arith, s.sectors)
      go (inr l) =
          let fed = rw s.host at (left.fed (sector_count h) l) in
          absurd (omega (arith, m.beyond, stored_most g cylinder transfer _ old img h before))

pub short_is_last_quiet : ShortIsLast Quiet
short_is_last_quiet c q order transfer id w old g disk calls its alone missing more its' alone' =
    let (hd, hs, hr, he) = proper c q order transfer id w old g disk calls its alone in
    let img : List ℕ = image_left order.drive old calls c in
    let h : History = history_of calls c no_history in
    let now = ran c q order transfer id w old g disk calls its alone in
    let quiet = quiet_its calls c q its in
    let s = all_stay g (head_of order c) order transfer id old disk w.moves w.writes hr he hd more
    (run_calls calls c) img h quiet its' alone' now missing in
    let left = run_done g (head_of order c) order transfer id old disk w.moves w.writes hr he hd
    (run_all g (head_of order c) order transfer id old disk w.moves w.writes hr he hd more (run_calls calls c) img h
    quiet its' alone' now) in
    record {
      host = s.host;
      told = s.told;
      sectors = same_count g (head_of order c) order transfer id old disk w.moves w.writes hr he hd _ _ h _ missing s
          (run_done g (head_of order c) order transfer id old disk w.moves w.writes hr he hd now) left;
    }

pub short_is_last : ShortIsLast Real
short_is_last c r = short_is_last_quiet c (quiet_real c r)
