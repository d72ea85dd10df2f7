-- What is proved of document 01's calls, of the firmware's bytes (specs/FromFirmware).
-- Assumes nothing.
use Rattle.std.specs.Prelude.{None, Some}
use Rattle.image.specs.Lent.{put_at}
use Prim.Native.Nat.{ℕ, zero, suc, ◌≤◌}
use native.Mathlib.Omega.{arith}
use mathlib.Core.Bool.{Bool, true, false, cond}
use mathlib.Core.List.{List, [], ◌∷◌, ◌++◌, append-nil, append_assoc}
use mathlib.Core.Path.{◌≡◌, refl, sym, ap, subst, ◌∙◌}
use lib.Dec.{eqb}
use lib.ListN.{length, take}
use lib.Seq.{take-nil}
use borrow.Author.Tests.{eqb-true}
use Rattle.image.specs.declared.layout.Geometry.{Geometry}
use Rattle.image.specs.Lent.{Effect}
use Rattle.image.specs.declared.slot.Id.{Id}
use Rattle.image.specs.Lent.{pick_of, stored_in, stored_as}
use Rattle.sectors.specs.declared.order.Order.{Order}
use Rattle.sectors.specs.declared.order.Transfer.{Transfer}
use Rattle.fdc.specs.declared.record.Controller.{Controller}
use Rattle.fdc.specs.Calls.{power_on}
use Rattle.fdc.specs.Record.{valid_of}
use Rattle.fdc.specs.Registers.{int_of, drq_of}
use Rattle.reached.specs.Runs.{Call, powers, reads, writes, takes, gives, notes, answer_to, after, run_calls}
use Rattle.reached.specs.Runs.{ticks}
use Rattle.fdc.specs.Ticks.{ruled_of, image_after}
use Rattle.demands.specs.Work.{AllOfBytes, Real, Its, image_by, image_left, Handed, Alone}
use Rattle.demands.proofs.PowerCutLaws.{power_cut}
use Rattle.pack.specs.Back.{HoldsRecord, Typed}
use Rattle.pack.specs.Bytes.{record_size, record_in}
use Rattle.many_ticks.specs.Run.{Ran, changed, many_ticks}
use Rattle.firmware.specs.Calls.{World, BelCall, power_on_law, read_port_law, write_port_law, dma_read_law, dma_write_law, tick}
use Rattle.firmware.specs.Calls.{note_change_law, tick_many, lends, world_after, world_left}
use Rattle.firmware.specs.Made.{Box, tick_calls, ticks_made, calls_in, box_by, box_after, box_left, calls_made}
use Rattle.firmware.specs.Inside.{StoreMade, put_all, stores_in, ImagesOf}
use Rattle.firmware.specs.Lists.{ShowsBox}
use Rattle.firmware.specs.FromFirmware.{StaysBy, Stays, world_image, box_of, Accepted, LeftAfter, inside}
use Rattle.firmware.specs.FromFirmware.{FromFirmware}
use Rattle.firmware.specs.FromFirmware.{AllBelBytes}
use Rattle.firmware.proofs.AnyBytesLaws.{any_bytes}
use Rattle.firmware.proofs.InsideLaws.{made_short, made_most, stores_in_order}
use Rattle.firmware.proofs.ListLaws.{over_lists, lent_record}
use Rattle.firmware.proofs.RanLaws.{ticks_are}
use Rattle.firmware.proofs.TypedLaws.{typed_power_on, typed_run}

-- the numbers of the calls made are bytes
bytes_join : (calls more : List Call) → AllOfBytes calls → AllOfBytes more → AllOfBytes (calls ++ more)
bytes_join [] more p q = q
bytes_join (call ∷ calls) more p q = (p.0, bytes_join calls more p.1 q)

from_bytes : (n : ℕ) (a b : List ℕ) (c : Controller) → AllOfBytes (tick_calls n a b c)
unfolding tick_calls
from_bytes zero a b c = tt
from_bytes (suc n) a b c =
    go (changed (int_of c) (drq_of c) (answer_to (ticks a b) c).int (answer_to (ticks a b) c).drq)
    (from_bytes n (image_after 0 a b c a) (image_after 1 a b c b) (after (ticks a b) c))
  where
    rest : List Call
    rest = tick_calls n (image_after 0 a b c a) (image_after 1 a b c b) (after (ticks a b) c)

    go : (t : Bool) → AllOfBytes rest → AllOfBytes (ticks a b ∷ cond t [] rest)
    go true later = (tt, tt)
    go false later = (tt, later)

made_bytes : (n : ℕ) (a b : List ℕ) (c : Controller) → AllOfBytes (ticks_made n a b c)
unfolding ticks_made
made_bytes n a b c = go (valid_of c)
  where
    go : (t : Bool) → AllOfBytes (cond t (tick_calls n a b c) [])
    go true = from_bytes n a b c
    go false = tt

in_bytes : (call : BelCall) (x : Box) → AllBelBytes (call ∷ []) → AllOfBytes (calls_in call x)
unfolding calls_in
in_bytes (power_on_law head0 head1) x o = (o.0, tt)
in_bytes (read_port_law offset) x o = (o.0, tt)
in_bytes (write_port_law offset byte) x o = (o.0, tt)
in_bytes (dma_read_law tc) x o = (tt, tt)
in_bytes (dma_write_law byte tc) x o = (o.0.0, tt)
in_bytes tick x o = (tt, tt)
in_bytes (note_change_law drive) x o = (o.0, tt)
in_bytes (tick_many n) x o = made_bytes n x.first x.second x.controller
in_bytes (lends a b) x o = tt

all_bytes : (calls : List BelCall) (x : Box) → AllBelBytes calls → AllOfBytes (calls_made calls x)
unfolding calls_made
all_bytes [] x o = tt
all_bytes (call ∷ calls) x o =
    bytes_join (calls_in call x) (calls_made calls (box_after call x)) (in_bytes call x (o.0, tt))
    (all_bytes calls (box_after call x) o.1)

-- the image of a drive, picked before or after
tick_pick : (drive : ℕ) (p q a b : List ℕ) (c : Controller)
    → image_after drive p q c (pick_of drive a b) ≡ pick_of drive (image_after 0 p q c a) (image_after 1 p q c b)
unfolding image_after
tick_pick drive p q a b c = go (eqb drive 0) (eqb drive 1) refl refl
  where
    at : ℕ
    at = (ruled_of p q c).drive

    effect : Effect
    effect = (ruled_of p q c).effect

    nowhere : (t : Bool) (e : Effect) → cond t (stored_in e []) [] ≡ []
    nowhere true None = refl
    nowhere true (Some put) = refl
    nowhere false e = refl

    go : (t u : Bool) → eqb drive 0 ≡ t → eqb drive 1 ≡ u
        → stored_as at drive effect (cond t a (cond u b []))
        ≡ cond t (stored_as at 0 effect a) (cond u (stored_as at 1 effect b) [])
    go true u z o = ap (λ (k : ℕ). stored_as at k effect a) (eqb-true drive 0 z)
    go false true z o = ap (λ (k : ℕ). stored_as at k effect b) (eqb-true drive 1 o)
    go false false z o = nowhere (eqb at drive) effect

by_pick : (drive : ℕ) (a b : List ℕ) (call : Call) (c : Controller)
    → image_by drive (pick_of drive a b) call c ≡ pick_of drive (image_by 0 a call c) (image_by 1 b call c)
by_pick drive a b (powers head0 head1) c = refl
by_pick drive a b (reads offset) c = refl
by_pick drive a b (writes offset byte) c = refl
by_pick drive a b (takes tc) c = refl
by_pick drive a b (gives byte tc) c = refl
by_pick drive a b (ticks p q) c = tick_pick drive p q a b c
by_pick drive a b (notes drive') c = refl

-- each tick is handed the images as they are
abbrev FedBy : List ℕ → List ℕ → Call → Type 0
FedBy a b (powers head0 head1) = Unit {0}
FedBy a b (reads offset) = Unit {0}
FedBy a b (writes offset byte) = Unit {0}
FedBy a b (takes tc) = Unit {0}
FedBy a b (gives byte tc) = Unit {0}
FedBy a b (ticks p q) = (p ≡ a) × (q ≡ b)
FedBy a b (notes drive) = Unit {0}

unfoldable Fed : List Call → List ℕ → List ℕ → Controller → Type 0
Fed [] a b c = Unit {0}
Fed (call ∷ calls) a b c = FedBy a b call × Fed calls (image_by 0 a call c) (image_by 1 b call c) (after call c)

fed_from : (n : ℕ) (a b : List ℕ) (c : Controller) → Fed (tick_calls n a b c) a b c
unfolding tick_calls Fed
fed_from zero a b c = tt
fed_from (suc n) a b c =
    go (changed (int_of c) (drq_of c) (answer_to (ticks a b) c).int (answer_to (ticks a b) c).drq)
    (fed_from n first second (after (ticks a b) c))
  where
    first : List ℕ
    first = image_after 0 a b c a

    second : List ℕ
    second = image_after 1 a b c b

    rest : List Call
    rest = tick_calls n first second (after (ticks a b) c)

    go : (t : Bool) → Fed rest first second (after (ticks a b) c) → Fed (ticks a b ∷ cond t [] rest) a b c
    go true later = ((refl, refl), tt)
    go false later = ((refl, refl), later)

fed_made : (n : ℕ) (a b : List ℕ) (c : Controller) → Fed (ticks_made n a b c) a b c
unfolding ticks_made Fed
fed_made n a b c = go (valid_of c)
  where
    go : (t : Bool) → Fed (cond t (tick_calls n a b c) []) a b c
    go true = fed_from n a b c
    go false = tt

fed_in : (call : BelCall) (x : Box) → Fed (calls_in call x) x.first x.second x.controller
unfolding calls_in Fed
fed_in (power_on_law head0 head1) x = (tt, tt)
fed_in (read_port_law offset) x = (tt, tt)
fed_in (write_port_law offset byte) x = (tt, tt)
fed_in (dma_read_law tc) x = (tt, tt)
fed_in (dma_write_law byte tc) x = (tt, tt)
fed_in tick x = ((refl, refl), tt)
fed_in (note_change_law drive) x = (tt, tt)
fed_in (tick_many n) x = fed_made n x.first x.second x.controller
fed_in (lends a b) x = tt

handed : (drive : ℕ) (a b : List ℕ) (call : Call) → FedBy a b call → Handed drive (pick_of drive a b) call
handed drive a b (powers head0 head1) f = tt
handed drive a b (reads offset) f = tt
handed drive a b (writes offset byte) f = tt
handed drive a b (takes tc) f = tt
handed drive a b (gives byte tc) f = tt
handed drive a b (ticks p q) f = rw (f.0, f.1)
handed drive a b (notes drive') f = tt

-- what some calls leave of the picked image, and that nobody else changed it
left_pick : (drive : ℕ) (calls : List Call) (a b : List ℕ) (c : Controller)
    → image_left drive (pick_of drive a b) calls c ≡ pick_of drive (image_left 0 a calls c) (image_left 1 b calls c)
unfolding image_left
left_pick drive [] a b c = refl
left_pick drive (call ∷ calls) a b c =
    rw (by_pick drive a b call c) (left_pick drive calls (image_by 0 a call c) (image_by 1 b call c) (after call c))

left_more : (k : ℕ) (img : List ℕ) (calls more : List Call) (c : Controller)
    → image_left k img (calls ++ more) c ≡ image_left k (image_left k img calls c) more (run_calls calls c)
unfolding image_left run_calls
left_more k img [] more c = refl
left_more k img (call ∷ calls) more c = left_more k (image_by k img call c) calls more (after call c)

alone_fed : (drive : ℕ) (calls more : List Call) (a b : List ℕ) (c : Controller) → Fed calls a b c
    → Alone drive (pick_of drive (image_left 0 a calls c) (image_left 1 b calls c)) more (run_calls calls c)
    → Alone drive (pick_of drive a b) (calls ++ more) c
unfolding Fed Alone image_left run_calls
alone_fed drive [] more a b c f alone = alone
alone_fed drive (call ∷ calls) more a b c f alone = λ _. (
  handed drive a b call f.0,
  rw (by_pick drive a b call c)
      (alone_fed drive calls more (image_by 0 a call c) (image_by 1 b call c) (after call c) f.1 alone),
)

-- another image for the other drive alone
lent_pick : (drive : ℕ) (call : BelCall) (x : Box) → StaysBy drive call x
    → pick_of drive (box_after call x).first (box_after call x).second
    ≡ pick_of drive (box_by (calls_in call x) x).first (box_by (calls_in call x) x).second
unfolding calls_in image_left
lent_pick drive (power_on_law head0 head1) x s = refl
lent_pick drive (read_port_law offset) x s = refl
lent_pick drive (write_port_law offset byte) x s = refl
lent_pick drive (dma_read_law tc) x s = refl
lent_pick drive (dma_write_law byte tc) x s = refl
lent_pick drive tick x s = refl
lent_pick drive (note_change_law drive') x s = refl
lent_pick drive (tick_many n) x s = refl
lent_pick drive (lends a b) x s = s

-- over the library's calls
record Own (drive : ℕ) (calls : List BelCall) (x : Box) : Type 0 where
  alone : Alone drive (pick_of drive x.first x.second) (calls_made calls x) x.controller
  image : image_left drive (pick_of drive x.first x.second) (calls_made calls x) x.controller
      ≡ pick_of drive (box_left calls x).first (box_left calls x).second

own : (drive : ℕ) (calls : List BelCall) (x : Box) → Stays drive calls x → Own drive calls x
unfolding calls_made box_left Stays Alone image_left
own drive [] x s = record { alone = tt; image = refl }
own drive (call ∷ calls) x s =
    let o = own drive calls (box_after call x) s.1 in
    let p = lent_pick drive call x s.0 in
    let e = lent_record call (box_by (calls_in call x) x) in
    let more = calls_made calls (box_after call x) in
    let y = box_by (calls_in call x) x in
    record {
      alone =
          alone_fed drive (calls_in call x) more x.first x.second x.controller (fed_in call x)
          (subst (Alone drive (pick_of drive y.first y.second) more) e
          (subst (λ (img : List ℕ). Alone drive img more (box_after call x).controller) p o.alone));
      image =
          left_more drive (pick_of drive x.first x.second) (calls_in call x) more x.controller
          ∙ ap (λ (img : List ℕ). image_left drive img more (run_calls (calls_in call x) x.controller))
          (left_pick drive (calls_in call x) x.first x.second x.controller ∙ sym p)
          ∙ ap (image_left drive (pick_of drive (box_after call x).first (box_after call x).second) more) (sym e)
          ∙ o.image;
    }

-- what is lent, as a box
shows_of : (w : World) (c : Controller) → HoldsRecord w.bytes c → ShowsBox w (box_of c w)
shows_of w c h = record { record_is = h; first = refl; second = refl }

typed_real : (c : Controller) → Real c → Typed c
typed_real c r = rw (← r.run) (typed_run r.calls _ (typed_power_on r.head0 r.head1))

real_after : (w : World) → record_size ≤ length w.bytes → (head0 head1 : ℕ) (calls : List BelCall) → AllBelBytes calls
    → Real (record_in (world_left (power_on_law head0 head1 ∷ calls) w).bytes)
unfolding world_left
real_after w long head0 head1 calls o =
    let p = (any_bytes w).powered long head0 head1 in
    let x = box_of (power_on head0 head1).controller w in
    let f = over_lists (world_after (power_on_law head0 head1) w) x p.0 p.1 calls in
    record {
      head0 = head0;
      head1 = head1;
      calls = calls_made calls x;
      bytes = all_bytes calls x o;
      run = sym (f.shows.record_is.back ∙ f.run);
    }

-- lists of the library's calls, one behind the other
calls_more : (calls more : List BelCall) (x : Box)
    → calls_made (calls ++ more) x ≡ calls_made calls x ++ calls_made more (box_left calls x)
unfolding calls_made box_left
calls_more [] more x = refl
calls_more (call ∷ calls) more x =
    ap (λ (l : List Call). calls_in call x ++ l) (calls_more calls more (box_after call x))
    ∙ sym (append_assoc (calls_in call x) (calls_made calls (box_after call x)) _)

world_more : (calls more : List BelCall) (w : World) → world_left (calls ++ more) w ≡ world_left more (world_left calls w)
unfolding world_left
world_more [] more w = refl
world_more (call ∷ calls) more w = world_more calls more (world_after call w)

stays_more : (drive n : ℕ) (calls : List BelCall) (x : Box) → Stays drive calls x
    → Stays drive (calls ++ (tick_many n ∷ [])) x
unfolding Stays
stays_more drive n [] x s = (tt, tt)
stays_more drive n (call ∷ calls) x s = (s.0, stays_more drive n calls (box_after call x) s.1)

box_more : (calls : List BelCall) (n : ℕ) (x : Box)
    → box_left (calls ++ (tick_many n ∷ [])) x
    ≡ box_by (ticks_made n (box_left calls x).first (box_left calls x).second (box_left calls x).controller)
    (box_left calls x)
unfolding box_left calls_in
box_more [] n x = refl
box_more (call ∷ calls) n x = box_more calls n (box_after call x)

-- the calls of a list that ends with many ticks
one_made : (n : ℕ) (y : Box) → calls_made (tick_many n ∷ []) y ≡ ticks_made n y.first y.second y.controller
unfolding calls_made calls_in
one_made n y = append-nil (ticks_made n y.first y.second y.controller)

ends_made : (calls : List BelCall) (n : ℕ) (x : Box)
    → calls_made (calls ++ (tick_many n ∷ [])) x
    ≡ calls_made calls x
    ++ ticks_made n (box_left calls x).first (box_left calls x).second (box_left calls x).controller
ends_made calls n x =
    calls_more calls (tick_many n ∷ []) x ∙ ap (λ (l : List Call). calls_made calls x ++ l) (one_made n (box_left calls x))

-- fewer calls of a command
its_short : (calls more : List Call) (j : ℕ) (c : Controller) → Its (calls ++ more) c → Its (calls ++ take j more) c
unfolding Its
its_short (call ∷ calls) more j c its = (its.0, its_short calls more j (after call c) its.1)
its_short [] more j c its = first more j c its
  where
    first : (l : List Call) (j : ℕ) (c : Controller) → Its l c → Its (take j l) c
    first [] j c its = subst (λ (l : List Call). Its l c) (sym (take-nil j)) tt
    first (call ∷ l) zero c its = tt
    first (call ∷ l) (suc j) c its = (its.0, first l j (after call c) its.1)

module _ (w : World) (c : Controller) (order : Order) (transfer : Transfer) (id : Id) (g : Geometry)
    (accepted : Accepted w c order transfer id g) where
  follows : (calls : List BelCall) → ShowsBox (world_left calls w) (box_left calls (box_of c w))
  follows calls = (over_lists w (box_of c w) (shows_of w c accepted.holds) (typed_real c accepted.real) calls).shows

  cut : (calls : List BelCall) → Its (calls_made calls (box_of c w)) c → Stays order.drive calls (box_of c w)
      → LeftAfter w c order transfer id g calls (world_image order.drive (world_left calls w))
  cut calls its stays =
      let o = own order.drive calls (box_of c w) stays in
      let f = follows calls in
      subst (LeftAfter w c order transfer id g calls) (o.image ∙ rw (f.first, f.second))
      (power_cut c accepted.real order transfer id accepted.writes (world_image order.drive w) g accepted.disk
      (calls_made calls (box_of c w)) its o.alone)

  -- after some calls, many ticks
  module _ (calls : List BelCall) (n i : ℕ) where
    abbrev y : Box
    y = box_left calls (box_of c w)

    abbrev v : World
    v = world_left calls w

    abbrev stores : List StoreMade
    stores = take i (stores_in n y.first y.second y.controller)

    -- those of a run of j, in the firmware's memory
    images : (j : ℕ)
        → ImagesOf j y.first y.second y.controller (put_all 0 stores y.first) (put_all 1 stores y.second)
        → world_image order.drive (world_left (calls ++ (tick_many j ∷ [])) w) ≡ world_image order.drive (inside n i v)
    images j at =
        let f = follows (calls ++ (tick_many j ∷ [])) in
        let s = follows calls in
        let box = box_more calls j (box_of c w) in
        let ran = ticks_are j y.first y.second y.controller in
        let first : (world_left (calls ++ (tick_many j ∷ [])) w).first ≡ put_all 0 stores y.first =
        f.first ∙ ap (λ (z : Box). z.first) box ∙ sym (ap (λ (r : Ran). r.first) ran) ∙ sym at.first_is in
        let second : (world_left (calls ++ (tick_many j ∷ [])) w).second ≡ put_all 1 stores y.second =
        f.second ∙ ap (λ (z : Box). z.second) box ∙ sym (ap (λ (r : Ran). r.second) ran) ∙ sym at.second_is in
        rw (first, second, s.first, s.second, s.record_is.back)

    cut_in : Its (calls_made (calls ++ (tick_many n ∷ [])) (box_of c w)) c → Stays order.drive calls (box_of c w)
        → (j : ℕ) × ((j ≤ n)
        × LeftAfter w c order transfer id g (calls ++ (tick_many j ∷ [])) (world_image order.drive (inside n i v)))
    cut_in its stays =
        let (j, at) = (stores_in_order n y.first y.second y.controller).each i in
        let made : (many_ticks n y.first y.second y.controller).made
        ≡ length (ticks_made n y.first y.second y.controller) =
        ap (λ (r : Ran). r.made) (ticks_are n y.first y.second y.controller) in
        let most = made_most n y.first y.second y.controller in
        let short = made_short n j y.first y.second y.controller (omega (arith, at.0, made)) in
        let its' : Its (calls_made (calls ++ (tick_many j ∷ [])) (box_of c w)) c =
        rw (ends_made calls j (box_of c w), ← short)
        (its_short (calls_made calls (box_of c w)) _ j c (rw (ends_made calls n (box_of c w)) at its)) in (
          j,
          (
            omega (arith, at.0, made, most),
            subst (LeftAfter w c order transfer id g (calls ++ (tick_many j ∷ []))) (images j at.1)
                (cut (calls ++ (tick_many j ∷ [])) its' (stays_more order.drive j calls (box_of c w) stays)),
          ),
        )

pub from_firmware : FromFirmware
from_firmware =
    record {
      real = real_after;
      power_cut = cut;
      cut_inside = cut_in;
    }
