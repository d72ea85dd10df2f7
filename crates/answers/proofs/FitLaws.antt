-- What every reached record has beside `Good`: room for nine command bytes, as the array's type has it, a stage that
-- suits its transfer, and as many results as its phase says.
-- Assumes nothing.
use Rattle.std.specs.Prelude.{None, Some}
use Prim.Native.Nat.{ℕ, ◌<◌}
use native.Mathlib.Omega.{arith}
use mathlib.Core.Bool.{Bool, true, false, not, ◌&&◌, cond, false≢true}
use mathlib.Core.List.{List, [], ◌∷◌, ◌++◌}
use mathlib.Core.Logic.{inr}
use mathlib.Core.Path.{◌≡◌, refl, sym, ◌∙◌, ap}
use lib.Dec.{leb}
use lib.ListN.{length}
use Rattle.image.proofs.TestLaws.{by_test}
use Rattle.image.specs.Lent.{pick_of}
use Rattle.chip.specs.declared.fifo.Fifo.{Fifo}
use Rattle.drive.specs.declared.Drive.{Drive}
use Rattle.image.specs.Disk.{Disk}
use Rattle.image.specs.declared.layout.Geometry.{Geometry}
use Rattle.image.specs.declared.slot.Id.{Id}
use Rattle.image.specs.Disk.{disk_in}
use Rattle.image.proofs.DiskLaws.{present_fits}
use Rattle.sectors.specs.declared.order.Job.{Job}
use Rattle.sectors.specs.declared.order.Job.TheVariants.{Identify, Move}
use Rattle.sectors.specs.declared.order.Job.TheVariants as job
use Rattle.sectors.specs.declared.order.Order.{Order}
use Rattle.sectors.specs.declared.order.Pass.{Pass}
use Rattle.sectors.specs.declared.order.Pass.TheVariants.{Read, Write}
use Rattle.sectors.specs.declared.order.Transfer.{Transfer}
use Rattle.sectors.specs.declared.work.Site.{Site}
use Rattle.sectors.specs.declared.work.Work.{Work}
use Rattle.sectors.specs.Result.{end_of}
use Rattle.sectors.specs.Track.{has_track}
use Rattle.sectors.specs.declared.work.Step.{Step}
use Rattle.sectors.specs.declared.work.Then.{Then}
use Rattle.sectors.specs.declared.work.Then.TheVariants.{Ends, Works}
use Rattle.engine.specs.First.{changes, misplanned, gate_of, begin_of, entered_of, moving_of}
use Rattle.engine.specs.First.{start_job, pass_writes}
use Rattle.engine.specs.Kept.{suited, then_suited, then_flow}
use Rattle.engine.specs.Step.{site_of, drive_of, flow_of, from_host, go_on_of}
use Rattle.engine.proofs.KeptLaws.{begin_kept, go_on_kept}
use Rattle.fdc.specs.declared.answer.Answer.{Answer}
use Rattle.fdc.specs.declared.answer.Reply.{Reply}
use Rattle.fdc.specs.declared.record.Bytes.{Bytes}
use Rattle.fdc.specs.declared.record.Controller.{Controller}
use Rattle.fdc.specs.declared.record.Registers.{Registers}
use Rattle.fdc.specs.declared.record.Phase.{Phase}
use Rattle.fdc.specs.declared.record.Phase.TheVariants.{Idle, Gathering, Starting, Working, Sensing, Answering}
use Rattle.fdc.specs.Answer.{answer_of}
use Rattle.fdc.specs.Calls.{power_on}
use Rattle.fdc.specs.Record.{fresh_of}
use Rattle.fdc.specs.Registers.{motor_in}
use Rattle.fdc.specs.Ticks.{seen_of}
use Rattle.reached.specs.Runs.{Call, after, run_calls}
use Rattle.reached.proofs.RuleLaws.{told_room, rule_of}
use Rattle.reached.proofs.Rules.{Acts, begins, goes_on_lem, bytes_then, phase_then, Rest, refuses, shows, steps, flags, sets, anew, took_byte, gave_byte, gathers, says, idles, specifies, configures, senses, starts, acts}
use Rattle.answers.specs.OnlyWrites.{suited_in}
use Rattle.demands.specs.Work.{OfBytes, AllOfBytes, Real}
use Rattle.demands.proofs.BoundLaws.{ProperWork, ProperThen, begin_falls, go_on_falls}
use Rattle.demands.specs.Quiet.{ProperJob, Proper, Quiet}
use Rattle.demands.proofs.QuietLaws.{quiet_real}

-- a result with no byte taken has all seven, any other has one at least
abbrev pub LeavesBy : Bool → ℕ → Type 0
LeavesBy true n = n ≡ 7
LeavesBy false n = 0 < n

abbrev pub Leaves : Phase → ℕ → Type 0
Leaves Idle n = Unit {0}
Leaves (Gathering entry) n = Unit {0}
Leaves (Starting order) n = Unit {0}
Leaves (Working work) n = Unit {0}
Leaves (Sensing unit) n = Unit {0}
Leaves (Answering loud) n = LeavesBy loud n

-- a Write or Format at work met an image without protection
abbrev pub Unlocked : Work → Type 0
Unlocked work = from_host (flow_of work) ≡ true → (site_of work).disk.protect ≡ false

pub record FitWork (work : Work) : Type 0 where
  pub suits : suited work ≡ true
  pub slots : 0 < (site_of work).disk.slots
  pub proper : ProperWork work
  pub unlocked : Unlocked work

abbrev pub FitPhase : Phase → Type 0
FitPhase Idle = Unit {0}
FitPhase (Gathering entry) = Unit {0}
FitPhase (Starting order) = Unit {0}
FitPhase (Working work) = FitWork work
FitPhase (Sensing unit) = Unit {0}
FitPhase (Answering loud) = Unit {0}

abbrev ThenFit : Then → Type 0
ThenFit (Ends verdict) = Unit {0}
ThenFit (Works work) = FitWork work

abbrev ThenUnlocked : Then → Type 0
ThenUnlocked (Ends verdict) = Unit {0}
ThenUnlocked (Works work) = Unlocked work

together : (t : Then) (g : Geometry) → 0 < g.slots → then_suited t ≡ true → ProperThen g t → ThenUnlocked t → ThenFit t
together (Ends verdict) g h s p u = tt
together (Works work) g h s p u = record { suits = s; slots = rw p.0 h; proper = p.1; unlocked = u }

-- the first tick
moving_unlocked : (p : Pass) (transfer : Transfer) (id : Id) (site : Site) (fifo : Fifo) → transfer.pass ≡ p
    → (pass_writes p && site.disk.protect) ≡ false → ThenUnlocked (moving_of p transfer id site fifo).then
unfolding moving_of
moving_unlocked Read transfer id site fifo e b = λ h. absurd (false≢true (rw e at h))
moving_unlocked Write transfer id site fifo e b = λ h. b

start_unlocked : (job : Job) (site : Site) (fifo : Fifo) → (changes job && site.disk.protect) ≡ false
    → ThenUnlocked (start_job job site fifo).then
unfolding start_job
start_unlocked Identify site fifo b = λ h. absurd (false≢true h)
start_unlocked (Move transfer id) site fifo b = moving_unlocked transfer.pass transfer id site fifo refl b
start_unlocked (job.Format plan) site fifo b = λ h. b

begin_unlocked : (order : Order) (g : Geometry) (head : ℕ) (fifo : Fifo)
    → ThenUnlocked (begin_of order (Some g) head fifo).then
unfolding begin_of gate_of entered_of end_of
begin_unlocked order g head fifo =
    by_test (not (has_track g head order.side))
    (λ gate. ThenUnlocked (entered_of gate order.job order.drive order.side head fifo).then) _ _ (λ t. tt)
    (λ t. by_test (changes order.job && g.protect)
    (λ gate. ThenUnlocked (entered_of gate order.job order.drive order.side head fifo).then) _ _ (λ u. tt)
    (λ u. by_test (misplanned order.job g)
    (λ gate. ThenUnlocked (entered_of gate order.job order.drive order.side head fifo).then) _ _ (λ m. tt)
    (λ m. start_unlocked order.job _ fifo u)))

first_sound : (order : Order) (disk : Disk) (head : ℕ) (fifo : Fifo) (efifo : Bool) → ProperJob order.job
    → ((g : Geometry) → disk ≡ Some g → 0 < g.slots) → ThenFit (begin_of order disk head fifo).then
unfolding begin_of gate_of entered_of end_of
first_sound order None head fifo efifo p some = tt
first_sound order (Some g) head fifo efifo p some =
    together (begin_of order (Some g) head fifo).then g (some g refl) ((begin_kept order (Some g) head fifo efifo).stage refl)
    (begin_falls g [] head fifo order.drive order.side (some g refl) order refl refl p (Some g) (inr refl)
    ).proper
    (begin_unlocked order g head fifo)

-- each later one
kept_unlocked : (t : Then) (work : Work) → Unlocked work → then_flow (flow_of work) t ≡ flow_of work
    → ProperThen (site_of work).disk t → ThenUnlocked t
kept_unlocked (Ends verdict) work u f p = tt
kept_unlocked (Works next) work u f p = λ h. rw p.0 (u (rw f at h))

later_sound : (work : Work) (disk : Disk) (head : ℕ) (img : List ℕ) (fifo : Fifo) (efifo : Bool) (fifothr : ℕ)
    → FitWork work → ThenFit (go_on_of work disk head img fifo efifo fifothr).then
later_sound work disk head img fifo efifo fifothr s =
    let k = go_on_kept work disk head img fifo efifo fifothr in
    let p = (go_on_falls img head fifo efifo fifothr work disk s.slots s.proper).proper in
    let t = (go_on_of work disk head img fifo efifo fifothr).then in
    together t (site_of work).disk s.slots (k.stage s.suits) p (kept_unlocked t work s.unlocked k.way p)

-- a disk that is seen has slots
seen_slots : (dor drive : ℕ) (img : List ℕ) (g : Geometry) → seen_of dor drive img ≡ Some g → 0 < g.slots
unfolding seen_of
seen_slots dor drive img g = go (motor_in dor drive)
  where
    there : Disk → Bool
    there None = false
    there (Some g) = true

    go : (t : Bool) → cond t (disk_in img) None ≡ Some g → 0 < g.slots
    go true e = omega (arith, (present_fits img g e).range.slots.0)
    go false e = absurd (false≢true (ap there e))

-- all but the drives
record Fits (b : Bytes) (p : Phase) : Type 0 where
  room : length b.command ≡ 9
  phase : FitPhase p
  left : Leaves p b.left

pub record Fit (c : Controller) : Type 0 where
  pub room : length c.bytes.command ≡ 9
  pub phase : FitPhase c.phase
  pub left : Leaves c.phase c.bytes.left

-- the engine's step
acts_fit : (a b : List ℕ) (c : Controller) (s : Step) → Acts a b c s → Proper c.phase → FitPhase c.phase
    → ThenFit s.then
acts_fit a b c s (begins order head e) q f = go c.phase e q
  where
    go : (p : Phase) → p ≡ Starting order → Proper p
        → ThenFit (begin_of order (seen_of c.registers.dor order.drive (pick_of order.drive a b)) head c.fifo).then
    go p e q =
        first_sound order _ head c.fifo c.registers.efifo (rw e at q).2
        (seen_slots c.registers.dor order.drive (pick_of order.drive a b))
acts_fit a b c s (goes_on_lem work head e) q f = go c.phase e f
  where
    go : (p : Phase) → p ≡ Working work → FitPhase p
        → ThenFit
        (go_on_of work (seen_of c.registers.dor (drive_of work) (pick_of (drive_of work) a b)) head
        (pick_of (drive_of work) a b) c.fifo c.registers.efifo c.registers.fifothr).then
    go p e f =
        later_sound work _ head (pick_of (drive_of work) a b) c.fifo c.registers.efifo c.registers.fifothr
        (rw e at f)

module _ (call : Call) (c : Controller) (q : Quiet c) (z : Fit c) where
  same : Fits c.bytes c.phase
  same = record { room = z.room; phase = z.phase; left = z.left }

  settled : (then : Then) → ThenFit then → Fits (bytes_then then c.bytes) (phase_then then)
  settled (Ends v) f = record { room = refl; phase = tt; left = refl }
  settled (Works work) f = record { room = z.room; phase = f; left = tt }

  fits : (ds : List Drive) (reply : Reply) (r : Registers) (f : Fifo) (b : Bytes) (p : Phase)
      → Rest call c ds reply r f b p → Fits b p
  fits ds reply r f b p (refuses refusal) = same
  fits ds reply r f b p (shows offset byte e o) = same
  fits ds reply r f b p (steps x y e) = same
  fits ds reply r f b p (flags drive e) = same
  fits ds reply r f b p (sets offset byte e o n s) = same
  fits ds reply r f b p (anew x reply' n e t s still) = record { room = refl; phase = tt; left = tt }
  fits ds reply r f b p (took_byte tc x work e h asks) = same
  fits ds reply r f b p (gave_byte byte tc x work e h asks) = same
  fits ds reply r f b p (gathers b' t l o m k) = record {
    room = told_room call c _ t z.room;
    phase = tt;
    left = tt;
  }
  fits ds reply r f b p (says h free reply' results left l m k) = record { room = refl; phase = tt; left = l }
  fits ds reply r f b p (idles h free reply') = record { room = refl; phase = tt; left = tt }
  fits ds reply r f b p (specifies command t h second) = record { room = refl; phase = tt; left = tt }
  fits ds reply r f b p (configures command t h byte track) = record { room = refl; phase = tt; left = tt }
  fits ds reply r f b p (senses command t h unit) = record { room = refl; phase = tt; left = tt }
  fits ds reply r f b p (starts command t h order o) = record { room = refl; phase = tt; left = tt }
  fits ds reply r f b p (acts x y e h s a) = settled s.then (acts_fit x y c s a q.proper z.phase)

pub fit_after : (call : Call) (c : Controller) → Quiet c → Fit c → Fit (after call c)
fit_after call c q z =
    let s = fits call c q z _ _ _ _ _ _ (rule_of call c).rest in
    record { room = s.room; phase = s.phase; left = s.left }

fit_power : (head0 head1 : ℕ) → Fit (power_on head0 head1).controller
unfolding power_on answer_of fresh_of
fit_power head0 head1 =
    by_test (leb head0 81 && leb head1 81) (λ (a : Answer). Fit a.controller) _ _
    (λ _. record { room = refl; phase = tt; left = tt })
    (λ _. record { room = refl; phase = tt; left = tt })

pub real_after : (call : Call) (c : Controller) → OfBytes call → Real c → Real (after call c)
unfolding run_calls
real_after call c o r = record {
  head0 = r.head0;
  head1 = r.head1;
  calls = r.calls ++ (call ∷ []);
  bytes = longer r.calls r.bytes;
  run = run_longer r.calls _ ∙ ap (after call) r.run;
}
  where
    longer : (calls : List Call) → AllOfBytes calls → AllOfBytes (calls ++ (call ∷ []))
    longer [] a = (o, tt)
    longer (first ∷ calls) a = (a.0, longer calls a.1)

    run_longer : (calls : List Call) (e : Controller)
        → run_calls (calls ++ (call ∷ [])) e ≡ after call (run_calls calls e)
    run_longer [] e = refl
    run_longer (first ∷ calls) e = run_longer calls (after first e)

fit_run : (calls : List Call) (c : Controller) → AllOfBytes calls → Real c → Fit c → Fit (run_calls calls c)
unfolding run_calls
fit_run [] c o r f = f
fit_run (call ∷ calls) c o r f =
    fit_run calls (after call c) o.1 (real_after call c o.0 r) (fit_after call c (quiet_real c r) f)

real_power : (head0 head1 : ℕ) → Real (power_on head0 head1).controller
unfolding run_calls
real_power head0 head1 = record { head0 = head0; head1 = head1; calls = []; bytes = tt; run = refl }

suited_in_lem : (p : Phase) → FitPhase p → suited_in p ≡ true
suited_in_lem Idle s = refl
suited_in_lem (Gathering entry) s = refl
suited_in_lem (Starting order) s = refl
suited_in_lem (Working work) s = s.suits
suited_in_lem (Sensing unit) s = refl
suited_in_lem (Answering loud) s = refl

pub fit_suited : (c : Controller) → Fit c → suited_in c.phase ≡ true
fit_suited c f = suited_in_lem c.phase f.phase

pub fit_real : (c : Controller) → Real c → Fit c
fit_real c r =
    rw (sym r.run)
    (fit_run r.calls _ r.bytes (real_power r.head0 r.head1) (fit_power r.head0 r.head1))
