-- Premises over a list of calls, by tests that a closed run computes: its numbers are bytes, it is the command's, each
-- tick finds the request off, or is not the 64th look that finds bytes.
-- Assumes nothing.
use mathlib.Core.Bool.{Bool, true, false, ◌&&◌, ◌||◌, not, cond, false≢true}
use mathlib.Core.List.{List, [], ◌∷◌}
use mathlib.Core.Path.{◌≡◌, refl}
use lib.Dec.{eqb, leb, ltb}
use borrow.Author.Tests.{eqb-true, le-leb, ltb-true}
use Rattle.image.proofs.TestLaws.{both}
use Rattle.sectors.specs.declared.work.Stage.{Stage}
use Rattle.sectors.specs.declared.work.Stage.TheVariants.{Searching, Turning, Reading, Draining, Awaiting, Storing}
use Rattle.sectors.specs.declared.work.Work.{Work}
use Rattle.sectors.specs.declared.work.Work.TheVariants.{Identifying, Moving, Formatting}
use Rattle.fdc.specs.declared.record.Controller.{Controller}
use Rattle.fdc.specs.declared.record.Phase.{Phase}
use Rattle.fdc.specs.declared.record.Phase.TheVariants.{Idle, Gathering, Starting, Working, Sensing, Answering}
use Rattle.reached.specs.Runs.{Call, powers, reads, writes, takes, gives, ticks, notes, after}
use Rattle.demands.specs.DataError.{Drained}
use Rattle.demands.specs.InTime.{AtTick, AtTicks, RequestOff, Prompt}
use Rattle.demands.specs.Work.{OfBytes, AllOfBytes, at_work, Its}

-- its numbers are bytes
abbrev pub byte_test : Call → Bool
byte_test (powers head0 head1) = ltb head0 256 && ltb head1 256
byte_test (reads offset) = ltb offset 256
byte_test (writes offset byte) = ltb offset 256 && ltb byte 256
byte_test (takes tc) = true
byte_test (gives byte tc) = ltb byte 256
byte_test (ticks a b) = true
byte_test (notes drive) = ltb drive 256

abbrev pub byte_tests : List Call → Bool
byte_tests [] = true
byte_tests (call ∷ calls) = byte_test call && byte_tests calls

of_test : (call : Call) → byte_test call ≡ true → OfBytes call
of_test (powers head0 head1) t =
    let (p, q) = both (ltb head0 256) _ t in
    (ltb-true head0 256 p, ltb-true head1 256 q)
of_test (reads offset) t = ltb-true offset 256 t
of_test (writes offset byte) t =
    let (p, q) = both (ltb offset 256) _ t in
    (ltb-true offset 256 p, ltb-true byte 256 q)
of_test (takes tc) t = tt
of_test (gives byte tc) t = ltb-true byte 256 t
of_test (ticks a b) t = tt
of_test (notes drive) t = ltb-true drive 256 t

pub all_of_tests : (calls : List Call) → byte_tests calls ≡ true → AllOfBytes calls
all_of_tests [] t = tt
all_of_tests (call ∷ calls) t =
    let (p, q) = both (byte_test call) (byte_tests calls) t in
    (of_test call p, all_of_tests calls q)

-- at work at each call
unfoldable pub all_work : List Call → Controller → Bool
all_work [] c = true
all_work (call ∷ calls) c = at_work c.phase && all_work calls (after call c)

pub work_its : (calls : List Call) (c : Controller) → all_work calls c ≡ true → Its calls c
unfolding all_work Its
work_its [] c e = tt
work_its (call ∷ calls) c e =
    let (now, later) = both (at_work c.phase) (all_work calls (after call c)) e in
    (now, work_its calls (after call c) later)

-- the request off at each tick
abbrev pub off_at : Call → Controller → Bool
off_at (powers head0 head1) c = true
off_at (reads offset) c = true
off_at (writes offset byte) c = true
off_at (takes tc) c = true
off_at (gives byte tc) c = true
off_at (ticks a b) c = not c.fifo.asks
off_at (notes drive) c = true

unfoldable pub all_off : List Call → Controller → Bool
all_off [] c = true
all_off (call ∷ calls) c = cond (at_work c.phase) (off_at call c && all_off calls (after call c)) true

pub not_off : (t : Bool) → not t ≡ true → t ≡ false
not_off true e = absurd (false≢true e)
not_off false e = refl

pub off_at_lem : (call : Call) (c : Controller) → off_at call c ≡ true → AtTick RequestOff call c
off_at_lem (powers head0 head1) c e = tt
off_at_lem (reads offset) c e = tt
off_at_lem (writes offset byte) c e = tt
off_at_lem (takes tc) c e = tt
off_at_lem (gives byte tc) c e = tt
off_at_lem (ticks a b) c e = not_off c.fifo.asks e
off_at_lem (notes drive) c e = tt

pub off_prompt : (calls : List Call) (c : Controller) → all_off calls c ≡ true → Prompt calls c
unfolding all_off AtTicks
off_prompt [] c e = tt
off_prompt (call ∷ calls) c e = λ w.
    let (now, later) = both (off_at call c) (all_off calls (after call c)) (rw w at e) in
    (off_at_lem call c now, off_prompt calls (after call c) later)

-- the 64th look after a read's last byte, or a later one
abbrev last_look : Stage → Bool
last_look (Searching look) = false
last_look (Turning slot) = false
last_look (Reading sector done) = false
last_look (Draining sector looks) = leb 63 looks
last_look (Awaiting slot wait) = false
last_look (Storing slot done) = false

abbrev last_look_of : Work → Bool
last_look_of (Identifying site slot passes) = false
last_look_of (Moving site task stage) = last_look stage
last_look_of (Formatting site plan form) = false

abbrev last_look_in : Phase → Bool
last_look_in Idle = false
last_look_in (Gathering entry) = false
last_look_in (Starting order) = false
last_look_in (Working work) = last_look_of work
last_look_in (Sensing unit) = false
last_look_in (Answering loud) = false

-- it finds none
abbrev pub is_drained : Controller → Bool
is_drained c = not (last_look_in c.phase) || eqb c.fifo.count 0

pub drained_at : (c : Controller) → is_drained c ≡ true → Drained c
drained_at c t site task sector looks p l = eqb-true _ _ (rw (le-leb 63 looks l) at (rw p at t))
