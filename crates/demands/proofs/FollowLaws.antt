-- A read that its first sector stops, under a broken mark or, with SK 0, under one of the other kind: every tick of it
-- goes on towards that sector's end, and it ends there, with the 10 of a late byte or without (01 Search, Read).
-- Assumes nothing.
use Rattle.std.specs.Prelude.{None}
use Prim.Native.Nat.{ℕ, ◌+◌, ◌≤◌, ◌<◌}
use native.Mathlib.Omega.{arith}
use mathlib.Core.Bool.{Bool, beq, true, false, ◌&&◌, not, cond, true≢false}
use mathlib.Core.List.{List}
use mathlib.Core.Logic.{◌⊎◌, inl, inr}
use mathlib.Core.Path.{◌≡◌, refl, sym, ap, ◌∙◌}
use lib.Dec.{eqb}
use lib.ListN.{get_or}
use borrow.Author.Tests.{eqb-true, eq-eqb}
use Rattle.chip.specs.declared.fifo.Fifo.{Fifo}
use Rattle.chip.specs.Fifo.{shut}
use Rattle.sectors.specs.declared.order.Pass.{Pass}
use Rattle.sectors.specs.declared.order.Pass.TheVariants.{Read, Write}
use Rattle.sectors.specs.declared.order.Transfer.{Transfer}
use Rattle.sectors.specs.declared.work.Sector.{Sector}
use Rattle.sectors.specs.declared.work.Site.{Site}
use Rattle.sectors.specs.declared.work.Stage.{Stage}
use Rattle.sectors.specs.declared.work.Stage.TheVariants.{Searching, Turning, Reading, Draining, Awaiting, Storing}
use Rattle.sectors.specs.declared.work.Step.{Step}
use Rattle.sectors.specs.declared.work.Task.{Task}
use Rattle.sectors.specs.declared.work.Verdict.{Verdict}
use Rattle.engine.specs.First.{task_of}
use Rattle.sectors.specs.Result.{st0_of, other_bit, late_bit, moves_of}
use Rattle.sectors.specs.Search.{matches}
use Rattle.sectors.specs.Track.{mark_place}
use Rattle.image.specs.declared.layout.Geometry.{Geometry}
use Rattle.image.specs.declared.mark.Mark.{Mark}
use Rattle.image.specs.declared.mark.Mark.TheVariants.{Data, NoData}
use Rattle.image.specs.declared.slot.Id.{Id}
use Rattle.image.specs.Layout.{offset_of, Has}
use Rattle.image.specs.Mark.{mark_of}
use Rattle.image.specs.Slot.{id_at}
use Rattle.image.proofs.TestLaws.{both, le_or_lt}
use Rattle.demands.specs.InTime.{Late}
use Rattle.demands.proofs.TickRules.{
  marked,
  hits,
  ends_with,
  Waits,
  Rule,
  not_found,
  no_data,
  no_side,
  late,
  misses,
  passes,
  to_write,
  to_read,
  skips,
  turned_over,
  waits,
  begins,
  puts,
  pads,
  dries,
  ends_short,
  finishes,
  moves,
  moves_last,
  overruns,
  overruns_last,
  drains,
  data_error,
  ends_late,
  other_kind,
  drained,
}

-- the mark is of the other kind
abbrev pub differs : Bool → Transfer → Bool
differs kind transfer = not (beq kind transfer.deleted)

-- the command's first sector is slot t, under a mark that stops it, of the command's own kind or not skipped; no slot
-- before it has its address
pub record StopsAt (g : Geometry) (img : List ℕ) (head side t : ℕ) (kind broken : Bool) (transfer : Transfer) (id : Id)
    : Type 0 where
  pub reads : transfer.pass ≡ Read
  pub has : Has g head side t
  pub mark : mark_of (get_or img (offset_of g head side t) 0) ≡ Data kind broken
  pub stops : (broken ≡ true) ⊎ (differs kind transfer ≡ true)
  pub not_skipped : (kind ≡ transfer.deleted) ⊎ (transfer.sk ≡ false)
  pub address : id_at img (offset_of g head side t) ≡ id
  pub size : id.n ≡ g.n
  pub first : (k : ℕ) → k < t → marked (mark_of (get_or img (offset_of g head side k) 0)) ≡ true
      → id_at img (offset_of g head side k) ≡ id → ⊥

pub has_before : {g : Geometry} {cylinder side k j : ℕ} → Has g cylinder side k → j < k → Has g cylinder side j
has_before has l =
    record { on_disk = has.on_disk; on_cylinder = has.on_cylinder; on_track = omega (arith, has.on_track) }

-- on the way to that sector's end
abbrev pub OnStage : Bool → Bool → ℕ → Stage → Type 0
OnStage broken other t (Searching look) = look.slot ≤ t
OnStage broken other t (Turning slot) = ⊥
OnStage broken other t (Reading sector done) = (sector.broken ≡ broken) × (sector.other ≡ other)
OnStage broken other t (Draining sector looks) = (sector.broken ≡ broken) × (sector.other ≡ other)
OnStage broken other t (Awaiting slot wait) = ⊥
OnStage broken other t (Storing slot done) = ⊥

abbrev pub site_at : ℕ → ℕ → Geometry → Site
site_at drive side g = record { drive = drive; side = side; disk = g }

-- 01 Read: other kind of mark: ST2 40 from the match on
abbrev pub other_in : Bool → Stage → Bool
other_in other (Searching look) = false
other_in other (Turning slot) = false
other_in other (Reading sector done) = other
other_in other (Draining sector looks) = other
other_in other (Awaiting slot wait) = false
other_in other (Storing slot done) = false

abbrev pub task_on : Bool → Bool → Transfer → Id → Stage → Task
task_on other lost transfer id stage =
    record { transfer = transfer; id = id; other = other_in other stage; late = lost }

-- 01 Read: broken, in ST1 and ST2
abbrev pub error_bit : Bool → ℕ
error_bit broken = cond broken 0x20 0x00

-- broken 40, ST1 20, ST2 20 or 60, else IC 00, ST1 00, ST2 40; beside it ST1's 10 of a late byte; the sector's address
abbrev pub EndsSo : Bool → Bool → Bool → Site → Id → Verdict → Type 0
EndsSo broken other lost site id v =
    (v.st0 ≡ st0_of (not broken) site.drive site.side) × (v.st1 ≡ late_bit lost + error_bit broken)
    × (v.st2 ≡ other_bit other + error_bit broken) × (v.id ≡ id)

-- what a tick of it gives; L is what a lost byte stands for
pub data Follow (broken other : Bool) (t : ℕ) (site : Site) (transfer : Transfer) (id : Id) (L : Type 0) (o : Step)
    : Type 0 where
  goes : (lost : Bool) (stage : Stage) (fifo : Fifo) → (lost ≡ true → L) → OnStage broken other t stage
      → o ≡ moves_of stage site (task_on other lost transfer id stage) fifo None
      → Follow broken other t site transfer id L o
  ends : (lost : Bool) (verdict : Verdict) → (lost ≡ true → L) → EndsSo broken other lost site id verdict
      → o ≡ ends_with verdict None
      → Follow broken other t site transfer id L o

abbrev id_of : ℕ → ℕ → ℕ → ℕ → Id
id_of c h r n = record { c = c; h = h; r = r; n = n }

same_id : (x y : Id) → x.c ≡ y.c → x.h ≡ y.h → x.r ≡ y.r → x.n ≡ y.n → x ≡ y
same_id x y p q r s =
    ap (λ (v : ℕ). id_of v x.h x.r x.n) p ∙ ap (λ (v : ℕ). id_of y.c v x.r x.n) q
    ∙ ap (λ (v : ℕ). id_of y.c y.h v x.n) r ∙ ap (λ (v : ℕ). id_of y.c y.h y.r v) s

-- 01 Search: what matches has that address
pub matched : (x y : Id) (n : ℕ) → matches x y n ≡ true → (x ≡ y) × (x.n ≡ n)
matched x y n m =
    let c : Bool = eqb x.c y.c in
    let h : Bool = eqb x.h y.h in
    let r : Bool = eqb x.r y.r in
    let (m4, e5) = both (c && h && r && eqb x.n y.n) (eqb x.n n) m in
    let (m3, e4) = both (c && h && r) (eqb x.n y.n) m4 in
    let (m2, e3) = both (c && h) r m3 in
    let (e1, e2) = both c h m2 in
    (same_id x y (eqb-true _ _ e1) (eqb-true _ _ e2) (eqb-true _ _ e3) (eqb-true _ _ e4), eqb-true _ _ e5)

pub data≢none : (deleted broken : Bool) → Data deleted broken ≡ NoData → ⊥
data≢none deleted broken e = let z : ◌≡◌ {A = ℕ} 0 1 = cc in omega arith

pub read≢write : (p : Pass) → p ≡ Read → p ≡ Write → ⊥
read≢write p e f = let z : ◌≡◌ {A = ℕ} 0 1 = cc in omega arith

-- the two facts of a mark
pub mark_kind : (m : Mark) (a b c d : Bool) → m ≡ Data a b → m ≡ Data c d → (c ≡ a) × (d ≡ b)
mark_kind m a b c d e f = (cc, cc)

module _ (g : Geometry) (img : List ℕ) (head drive side t : ℕ) (kind broken : Bool) (transfer : Transfer)
    (id : Id) (b : StopsAt g img head side t kind broken transfer id) where
  hit : hits img (site_at drive side g) head (task_of transfer id) t ≡ true
  unfolding mark_place
  hit =
      simp (
        b.mark,
        eq-eqb _ _ (ap (λ (i : Id). i.c) b.address),
        eq-eqb _ _ (ap (λ (i : Id). i.h) b.address),
        eq-eqb _ _ (ap (λ (i : Id). i.r) b.address),
        eq-eqb _ _ (ap (λ (i : Id). i.n) b.address),
        eq-eqb _ _ (ap (λ (i : Id). i.n) b.address ∙ b.size),
      )

  -- a slot looked at on the way that does not match lies before t
  before : (slot : ℕ) → slot ≤ t → hits img (site_at drive side g) head (task_of transfer id) slot ≡ false → slot < t
  before slot l m = go (le_or_lt t slot)
    where
      go : (t ≤ slot) ⊎ (slot < t) → slot < t
      go (inl a) = let e : slot ≡ t = omega arith in absurd (true≢false (sym hit ∙ (rw e at m)))
      go (inr a) = a

  -- and one that matches is t
  here : (slot : ℕ) → slot ≤ t → hits img (site_at drive side g) head (task_of transfer id) slot ≡ true → slot ≡ t
  unfolding mark_place
  here slot l m =
      let at : ℕ = offset_of g head side slot in
      let (is, same) = both (marked (mark_of (get_or img at 0))) (matches (id_at img at) id g.n) m in
      go (le_or_lt t slot) is (matched (id_at img at) id g.n same).0
    where
      go : (t ≤ slot) ⊎ (slot < t) → marked (mark_of (get_or img (offset_of g head side slot) 0)) ≡ true
          → id_at img (offset_of g head side slot) ≡ id → slot ≡ t
      go (inl a) is e = omega arith
      go (inr a) is e = absurd (b.first slot a is e)

  -- its mark, read where the search looks
  mark_here : (slot : ℕ) → slot ≤ t → hits img (site_at drive side g) head (task_of transfer id) slot ≡ true
      → mark_of (get_or img (mark_place (site_at drive side g) head slot) 0) ≡ Data kind broken
  unfolding mark_place
  mark_here slot l m = rw (here slot l m) b.mark

  abbrev other : Bool
  other = differs kind transfer

  abbrev site : Site
  site = site_at drive side g

  -- it is not skipped
  no_skip : (k : Bool) → k ≡ kind → (k ≡ transfer.deleted → ⊥) → transfer.sk ≡ true → ⊥
  no_skip k e n s = go b.not_skipped
    where
      go : (kind ≡ transfer.deleted) ⊎ (transfer.sk ≡ false) → ⊥
      go (inl x) = n (e ∙ x)
      go (inr x) = true≢false (sym s ∙ x)

  -- a lost byte is L, and only under a broken mark; no look is the 64th that finds bytes
  module _ (efifo : Bool) (fifothr : ℕ) (fifo : Fifo) (lost : Bool) (stage : Stage) (o : Step) (L : Type 0)
      (was : lost ≡ true → L) (only : L → broken ≡ true)
      (is : Late efifo site (task_on other lost transfer id stage) fifo stage → L)
      (none : Late efifo site (task_on other lost transfer id stage) fifo stage → Waits stage → ⊥) where
    -- its mark stops it
    not_on : (sector : Sector) → OnStage broken other t (Draining sector 0) → sector.broken ≡ false
        → sector.other ≡ false → ⊥
    not_on sector (x, y) whole own = go b.stops
      where
        go : (broken ≡ true) ⊎ (differs kind transfer ≡ true) → ⊥
        go (inl z) = true≢false (sym z ∙ sym x ∙ whole)
        go (inr z) = true≢false (sym z ∙ sym y ∙ own)

    pub follow_rule : OnStage broken other t stage
        → Rule head img efifo fifothr site (task_on other lost transfer id stage) fifo stage o
        → Follow broken other t site transfer id L o
    follow_rule w (not_found look verdict p m l n x y f e) =
        let u : look.slot ≤ t = rw p at w in
        absurd (omega (arith, before look.slot u m, b.has.on_track))
    follow_rule w (no_data look verdict p m k d f e) =
        let u : look.slot ≤ t = rw p at w in
        absurd (data≢none _ _ (sym (mark_here look.slot u m) ∙ d))
    follow_rule w (no_side slot verdict p ns f e) = absurd (rw p at w)
    follow_rule w (late verdict f l k e) = absurd (none l k)
    follow_rule w (misses look on p m l s q e) =
        let u : look.slot ≤ t = rw p at w in
        goes lost (Searching on) fifo was (omega (arith, before look.slot u m)) (rw p at e)
    follow_rule w (passes look on p m l z s q e) =
        let u : look.slot ≤ t = rw p at w in
        absurd (omega (arith, before look.slot u m, b.has.on_track))
    follow_rule w (to_write look p m k e) = absurd (read≢write transfer.pass b.reads k)
    follow_rule w (to_read look deleted broken' other' p m k d f ns e) =
        let u : look.slot ≤ t = rw p at w in
        let (same, whole) = mark_kind _ _ _ _ _ (mark_here look.slot u m) d in
        let f' : other' ≡ other = rw same at f in
        goes lost (Reading (record { slot = look.slot; broken = broken'; other = other }) 0) fifo was (whole, refl)
        (rw (p, f') at e)
    follow_rule w (skips look deleted broken' p m k d f z n) =
        let u : look.slot ≤ t = rw p at w in
        absurd (no_skip deleted (mark_kind _ _ _ _ _ (mark_here look.slot u m) d).0 f z)
    follow_rule w (turned_over slot p e) = absurd (rw p at w)
    follow_rule w (waits slot wait p l e) = absurd (rw p at w)
    follow_rule w (begins slot wait p l e) = absurd (rw p at w)
    follow_rule w (puts slot done p l k e) = absurd (rw p at w)
    follow_rule w (pads slot done p l k z e) = absurd (rw p at w)
    follow_rule w (dries slot done p l k z e) = absurd (rw p at w)
    follow_rule w (ends_short slot done verdict p l k z f e) = absurd (rw p at w)
    follow_rule w (finishes slot done p l k n) = absurd (rw p at w)
    follow_rule w (moves sector done fifo' p l x e) =
        goes lost (Reading sector (done + 1)) fifo' was (rw p at w) (rw p at e)
    follow_rule w (moves_last sector done fifo' p l x e) =
        goes lost (Draining sector 0) fifo' was (rw p at w) (rw p at e)
    follow_rule w (overruns sector done p l u v e) =
        goes true (Reading sector (done + 1)) shut (λ _. is (rw p (u, v))) (rw p at w) (rw p at e)
    follow_rule w (overruns_last sector done p l u v e) =
        goes true (Draining sector 0) shut (λ _. is (rw p (u, v))) (rw p at w) (rw p at e)
    follow_rule w (drains sector looks p l e) =
        goes lost (Draining sector (looks + 1)) fifo was (rw p at w) (rw p at e)
    follow_rule w (data_error sector looks verdict p k y f e) =
        let u : OnStage broken other t (Draining sector looks) = rw p at w in
        let is : broken ≡ true = sym u.0 ∙ k in
        ends lost verdict was (rw is (f.st0, f.st1_is, rw p at y, f.id)) e
    follow_rule w (ends_late sector looks verdict p k y f e) =
        let u : OnStage broken other t (Draining sector looks) = rw p at w in
        absurd (true≢false (sym (only (was y)) ∙ sym u.0 ∙ k))
    follow_rule w (other_kind sector looks verdict p k y z ok os v zc e) =
        let u : OnStage broken other t (Draining sector looks) = rw p at w in
        let is : broken ≡ false = sym u.0 ∙ k in
        ends lost verdict was (rw (is, y) (v.st0, z, rw p at os, v.id)) e
    follow_rule w (drained sector looks p k y ok zc n) = absurd (not_on sector (rw p at w) k ok)
