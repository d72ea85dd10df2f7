-- What a write acknowledged, a read gives back (specs/RoundTrip): from what a write leaves (`LeftBy`), what it
-- acknowledges and what a read hands over (`Hands`), with no machine here.
-- Assumes nothing.
use Prim.Native.Nat.{ℕ, zero, suc, ◌+◌, ◌-◌, ◌*◌, ◌/◌, ◌%◌, ◌<◌, ◌≤◌}
use native.Mathlib.Nat.{div-add-mod', div-lt_iff_lt-mul, mod-lt}
use native.Mathlib.Omega.{arith}
use mathlib.Core.Bool.{Bool, true, false, not, true≢false, false≢true, cond}
use mathlib.Core.List.{List, [], ◌∷◌}
use mathlib.Core.Logic.{◌⊎◌, inl, inr}
use mathlib.Core.Path.{◌≡◌, refl, sym, ap, ◌∙◌, subst}
use lib.Dec.{eqb}
use lib.ListN.{length, get_or}
use lib.Seq.{ext_get_or}
use borrow.Author.Tests.{eqb-true, eqb-false, ne_eqb}
use Rattle.image.specs.declared.layout.Geometry.{Geometry}
use Rattle.image.specs.declared.mark.Mark.{Mark}
use Rattle.image.specs.declared.mark.Mark.TheVariants.{NoId, Data, NoData}
use Rattle.image.specs.Layout.{size_of, track_length, track_at, offset_of, Has}
use Rattle.image.specs.Mark.{byte_of, mark_of}
use Rattle.image.specs.Slot.{id_at}
use Rattle.image.proofs.MarkLaws.{mark_of_byte}
use Rattle.image.proofs.TestLaws.{le_or_lt}
use Rattle.chip.specs.Next.{advanced_of}
use Rattle.sectors.specs.declared.order.Transfer.{Transfer}
use Rattle.demands.specs.HandedOver.{
  Taken,
  untaken,
  taken_over,
  OfKind,
  IsOther,
  Passed,
  was_read,
  was_skipped,
  Ways,
  Hands,
}
use Rattle.demands.specs.History.{Sector}
use Rattle.demands.specs.PowerCut.{
  Aim,
  onward,
  aim_no,
  Followed,
  InReach,
  Counts,
  Stands,
  Finished,
  AllFinished,
  LeftBy,
  passing,
}
use Rattle.demands.specs.Quiet.{Quiet}
use Rattle.demands.specs.RoundTrip.{
  with_protect,
  Written,
  ReadBack,
  place_no,
  left_by,
  done_by,
  sectors_by,
  cylinder_of,
  first_of,
  aim_of,
  place_of,
  Holds,
  HoldsNo,
  got_by,
  cylinder_read,
  first_read,
  aim_read,
  SkipsNone,
  SectorTrip,
  SameSectors,
  RoundTrip,
}
use Rattle.demands.specs.Work.{Real}
use Rattle.demands.proofs.AcknowledgedLaws.{acknowledged_quiet}
use Rattle.demands.proofs.HandedOverLaws.{handed_over_quiet}
use Rattle.demands.proofs.HandedStream.{size_some}
use Rattle.demands.proofs.PowerCutLaws.{power_cut_quiet}
use Rattle.demands.proofs.QuietLaws.{quiet_real}

-- Two geometries that differ in the protect byte have the same slots.

module _ (protect : Bool) (g : Geometry) where
  offset_protect : (c s k : ℕ) → offset_of (with_protect protect g) c s k ≡ offset_of g c s k
  unfolding offset_of track_at track_length
  offset_protect c s k = refl

  has_protect : {c s k : ℕ} → Has (with_protect protect g) c s k → Has g c s k
  has_protect h = record { on_disk = h.on_disk; on_cylinder = h.on_cylinder; on_track = h.on_track }

  pub protect_has : {c s k : ℕ} → Has g c s k → Has (with_protect protect g) c s k
  protect_has h = record { on_disk = h.on_disk; on_cylinder = h.on_cylinder; on_track = h.on_track }

  pub stands_protect : (img : List ℕ) (cylinder : ℕ) (aim : Aim) (at : ℕ)
      → Stands (with_protect protect g) img cylinder aim at → Stands g img cylinder aim at
  stands_protect img cylinder aim at st =
      record {
        slot = st.slot;
        has = has_protect st.has;
        place = st.place ∙ offset_protect cylinder aim.side st.slot;
        marked = st.marked;
        address = st.address;
        size = st.size;
      }

-- The sectors finished, by number.

module _ (g : Geometry) (cylinder : ℕ) (transfer : Transfer) (aim : Aim) (old img host : List ℕ) where
  -- number m stands at its place, under the good mark, with its bytes
  sector_no : (fin : List Sector) → AllFinished g cylinder transfer aim old img host fin
      → (m : ℕ) → m < length fin
      → Stands g old cylinder (aim_no transfer aim m) (place_no m fin)
      × Finished g transfer.deleted img host m (place_no m fin)
  sector_no [] f m l = absurd (omega arith)
  sector_no (s ∷ before) (st, fa, z, rest) m l = go (eqb m (length before)) refl (sector_no before rest m)
    where
      go : (b : Bool) → eqb m (length before) ≡ b
          → (m < length before → Stands g old cylinder (aim_no transfer aim m) (place_no m before)
          × Finished g transfer.deleted img host m (place_no m before))
          → Stands g old cylinder (aim_no transfer aim m) (cond b s.at (place_no m before))
          × Finished g transfer.deleted img host m (cond b s.at (place_no m before))
      go true e r = rw (eqb-true m (length before) e) (st, fa)
      go false e r = r (omega (arith, eqb-false m (length before) e))

-- A read's numbers: as long as none is skipped, number j of those read is number j of the command.

module _ (g : Geometry) (cylinder : ℕ) (transfer : Transfer) (aim : Aim) (img : List ℕ) (num : ℕ → ℕ) (n : ℕ)
    (ways : Ways g cylinder transfer aim img num n) where
  rises_by : (d i j : ℕ) → j ≤ n → i + d ≡ j → num i + d ≤ num j
  rises_by zero i j l e = let same : i ≡ j = omega arith in rw same (omega arith)
  rises_by (suc d) i j l e =
      omega (arith, ways.rises i (omega arith), rises_by d (suc i) j l (omega arith))

  none_over : (j : ℕ) → j ≤ n → (IsOther g cylinder transfer aim img j → ⊥) → ((i : ℕ) → i < j → num i < j) → num j ≤ j
  none_over j l none before = go (le_or_lt (num j) j)
    where
      not_passed : j < num j → Passed g cylinder transfer aim img num n j → ⊥
      not_passed m (was_read i k e) = at_it (le_or_lt j i)
        where
          at_it : (j ≤ i) ⊎ (i < j) → ⊥
          at_it (inl a) = omega (arith, rises_by (i - j) j i (omega arith) (omega arith))
          at_it (inr a) = omega (arith, before i a)
      not_passed m (was_skipped sk other) = none other

      go : (num j ≤ j) ⊎ (j < num j) → num j ≤ j
      go (inl m) = m
      go (inr m) =
          absurd (not_passed m (ways.passed j (omega (arith, rises_by (n - j) j n (omega arith) (omega arith)))))

  num_same : (j : ℕ) → j ≤ n → ((i : ℕ) → i ≤ j → IsOther g cylinder transfer aim img i → ⊥) → num j ≡ j
  num_same zero l none = omega (arith, none_over 0 l (none 0 (omega arith)) (λ i k. absurd (omega arith)))
  num_same (suc j) l none =
      let same = num_same j (omega arith) (λ i k. none i (omega arith)) in
      let most = none_over (suc j) l (none (suc j) (omega arith))
      (λ i k. omega (arith, rises_by (j - i) i j (omega arith) (omega arith), same)) in
      omega (arith, ways.rises j (omega arith), same, most)

-- The sector in which a byte lies that was taken: one of those read, or the one in hand; and none behind EOT.

module _ (g : Geometry) (cylinder : ℕ) (transfer : Transfer) (aim : Aim) (img : List ℕ) (t : Taken)
    (hands : Hands g cylinder transfer aim img t) (k : ℕ) (l : k < length t.got) where
  among : k / passing g ≤ hands.n
  among =
      let below : k / passing g < suc hands.n = (div-lt_iff_lt-mul {x = k} {y = suc hands.n} (size_some g.n)).1
      (omega (arith, hands.most)) in
      omega arith

  in_reach : InReach transfer aim (k / passing g)
  in_reach i b =
      let far = rises_by g cylinder transfer aim img hands.num hands.n hands.ways (k / passing g) 0
      (k / passing g) among (omega arith) in
      (hands.bytes k l).reach i (omega arith)

-- One sector of a write on a later image that holds it.

-- a mark of one kind is none of the other
abbrev kind_of : Mark → Bool
kind_of NoId = false
kind_of (Data deleted broken) = deleted
kind_of NoData = false

no_self : (d : Bool) → d ≡ not d → ⊥
no_self true e = true≢false e
no_self false e = false≢true e

one_kind : (d e b : Bool) → e ≡ d → Data d false ≡ Data (not e) b → ⊥
one_kind d e b s q = no_self e (s ∙ ap kind_of q)

module _ (g : Geometry) (cylinder : ℕ) (deleted : Bool) (a : Aim) (img later host : List ℕ) (m at : ℕ)
    (fin : Finished g deleted img host m at) (holds : Holds g cylinder a img later at) where
  held_place : (p : ℕ) → Stands g later cylinder a p → p ≡ at
  held_place p st =
      st.place
      ∙ holds.only st.slot st.has (subst (λ (q : ℕ). Counts (get_or later q 0)) st.place st.marked)
      (sym (ap (id_at later) st.place) ∙ st.address)

  held_byte : (p i : ℕ) → Stands g later cylinder a p → i < size_of g.n
      → get_or later (p + 5 + i) 0 ≡ get_or host (m * size_of g.n + i) 0
  held_byte p i st l =
      let e : p + 5 + i ≡ at + (5 + i) = omega (arith, held_place p st) in
      let f : at + (5 + i) ≡ at + 5 + i = omega arith in
      ap (λ (q : ℕ). get_or later q 0) e ∙ holds.stays (5 + i) (omega arith) ∙ ap (λ (q : ℕ). get_or img q 0) f
      ∙ fin.bytes i l

  held_mark : (p : ℕ) → Stands g later cylinder a p → get_or later p 0 ≡ byte_of (Data deleted false)
  held_mark p st =
      let e : p ≡ at + 0 = omega (arith, held_place p st) in
      let f : at + 0 ≡ at = omega arith in
      ap (λ (q : ℕ). get_or later q 0) e ∙ holds.stays 0 (omega arith) ∙ ap (λ (q : ℕ). get_or img q 0) f ∙ fin.mark

  held_own : (p : ℕ) (kind : Bool) → Stands g later cylinder a p → kind ≡ deleted
      → OfKind (not kind) (get_or later p 0) → ⊥
  held_own p kind st e other =
      one_kind deleted kind other.broken e
      (sym (ap mark_of (held_mark p st) ∙ mark_of_byte (Data deleted false)) ∙ other.is)

-- A read of it.

module _ (g : Geometry) (cylinder : ℕ) (deleted : Bool) (a : Aim) (img later host : List ℕ) (m at : ℕ)
    (fin : Finished g deleted img host m at) (holds : Holds g cylinder a img later at)
    (protect : Bool) (transfer : Transfer) (aim : Aim) (t : Taken)
    (hands : Hands (with_protect protect g) cylinder transfer aim later t) where
  abbrev Other : ℕ → Type 0
  Other i = IsOther (with_protect protect g) cylinder transfer aim later i

  not_other : (j : ℕ) → aim_no transfer aim j ≡ a → transfer.deleted ≡ deleted → Other j → ⊥
  not_other j e kind other =
      held_own g cylinder deleted a img later host m at fin holds other.at transfer.deleted
      (subst (λ (x : Aim). Stands g later cylinder x other.at) e
      (stands_protect protect g later cylinder _ other.at other.stands))
      kind other.kind

  -- the sector in which byte k lies
  abbrev no : ℕ → ℕ
  no k = k / passing g

  plain : (k : ℕ) → k < length t.got → aim_no transfer aim (no k) ≡ a
      → (transfer.sk ≡ true → (transfer.deleted ≡ deleted) × ((i : ℕ) → i < no k → Other i → ⊥))
      → hands.num (no k) ≡ no k
  plain k l e free = go transfer.sk refl
    where
      none : (transfer.deleted ≡ deleted) × ((i : ℕ) → i < no k → Other i → ⊥) → (i : ℕ) → i ≤ no k
          → (no k ≤ i) ⊎ (i < no k) → Other i → ⊥
      none (kind, before) i b (inr c) other = before i c other
      none (kind, before) i b (inl c) other =
          let same : i ≡ no k = omega arith in
          not_other i (ap (aim_no transfer aim) same ∙ e) kind other

      go : (b : Bool) → transfer.sk ≡ b → hands.num (no k) ≡ no k
      go true sk =
          num_same (with_protect protect g) cylinder transfer aim later hands.num hands.n hands.ways (no k)
          (among (with_protect protect g) cylinder transfer aim later t hands k l)
          (λ i b. none (free sk) i b (le_or_lt (no k) i))
      go false sk = hands.ways.plain sk (no k)

  sector_back : (k : ℕ) → k < length t.got → aim_no transfer aim (no k) ≡ a
      → (transfer.sk ≡ true → (transfer.deleted ≡ deleted) × ((i : ℕ) → i < no k → Other i → ⊥))
      → get_or t.got k 0 ≡ get_or host (m * passing g + k % passing g) 0
  sector_back k l e free =
      let comes = hands.bytes k l in
      let same : aim_no transfer aim (hands.num (no k)) ≡ a = ap (aim_no transfer aim) (plain k l e free) ∙ e in
      let stands : Stands g later cylinder a comes.at =
      subst (λ (x : Aim). Stands g later cylinder x comes.at) same
      (stands_protect protect g later cylinder _ comes.at comes.stands) in
      comes.is
      ∙ held_byte g cylinder deleted a img later host m at fin holds comes.at (k % passing g) stands
      (mod-lt k (size_some g.n))

-- Two commands go on alike, if both go on: EOT is the same, or neither turns over (01 Next).

abbrev Alike : Transfer → Transfer → Type 0
Alike t u = (t.eot ≡ u.eot) ⊎ ((t.mt ≡ false) × (u.mt ≡ false))

onward_same : (t u : Transfer) (x : Aim) → Alike t u → Followed t x → Followed u x → onward t x ≡ onward u x
unfolding advanced_of
onward_same t u x alike ft fu = go alike
  where
    off : (x.id.r ≡ t.eot → ⊥) → (x.id.r ≡ u.eot → ⊥) → onward t x ≡ onward u x
    off a b = rw (ne_eqb x.id.r t.eot a, ne_eqb x.id.r u.eot b)

    at_eot : (b : Bool) → eqb x.id.r t.eot ≡ b → t.eot ≡ u.eot → onward t x ≡ onward u x
    at_eot true q e =
        let here = eqb-true x.id.r t.eot q in
        rw (← e, (ft here).0, (fu (here ∙ e)).0)
    at_eot false q e = off (eqb-false x.id.r t.eot q) (λ z. eqb-false x.id.r t.eot q (z ∙ sym e))

    go : Alike t u → onward t x ≡ onward u x
    go (inl e) = at_eot (eqb x.id.r t.eot) refl e
    go (inr (tm, um)) = off (λ e. true≢false (sym (ft e).0 ∙ tm)) (λ e. true≢false (sym (fu e).0 ∙ um))

aim_same : (t u : Transfer) (a b : Aim) → Alike t u → a ≡ b → (j : ℕ) → InReach t a j → InReach u b j
    → aim_no t a j ≡ aim_no u b j
aim_same t u a b alike s zero rt ru = s
aim_same t u a b alike s (suc j) rt ru =
    let before = aim_same t u a b alike s j (λ i l. rt i (omega arith)) (λ i l. ru i (omega arith)) in
    ap (onward t) before
    ∙ onward_same t u (aim_no u b j) alike (subst (Followed t) before (rt j (omega arith))) (ru j (omega arith))

-- The write and the read.

module _ (w : Written Quiet) where
  pub left_of : LeftBy w.g (cylinder_of w) w.transfer (first_of w) w.old (left_by w) (done_by w)
  left_of =
      power_cut_quiet w.c w.from w.order w.transfer w.id w.accepted w.old w.g w.disk
      w.calls w.its w.alone

  pub stood : (m : ℕ) → m < sectors_by w
      → Stands w.g w.old (cylinder_of w) (aim_of w m) (place_of w m)
      × Finished w.g w.transfer.deleted (left_by w) (done_by w).host m (place_of w m)
  stood = sector_no w.g (cylinder_of w) w.transfer _ w.old (left_by w) (done_by w).host (done_by w).finished
      left_of.finished

  module _ (later : List ℕ) (r : ReadBack Quiet later w.g) (cylinder : cylinder_read r ≡ cylinder_of w) where
    handed : Hands (with_protect r.protect w.g) (cylinder_read r) r.transfer (first_read r) later
        (taken_over r.calls r.c untaken)
    handed =
        (handed_over_quiet r.c r.from r.order r.transfer r.id r.accepted later
        (with_protect r.protect w.g) r.disk r.calls r.its r.alone).hands

    there : (m : ℕ) → HoldsNo w later m
        → Holds w.g (cylinder_read r) (aim_of w m) (left_by w) later (place_of w m)
    there m holds =
        subst (λ (x : ℕ). Holds w.g x (aim_of w m) (left_by w) later (place_of w m)) (sym cylinder) holds

    trip : (m : ℕ) → m < sectors_by w → HoldsNo w later m → (k : ℕ) → k < length (got_by r)
        → aim_read r (k / passing w.g) ≡ aim_of w m → SkipsNone r w.transfer (k / passing w.g)
        → get_or (got_by r) k 0 ≡ get_or (done_by w).host (m * passing w.g + k % passing w.g) 0
    trip m l holds =
        sector_back w.g (cylinder_read r) w.transfer.deleted (aim_of w m) (left_by w) later (done_by w).host m
        (place_of w m) (stood m l).1 (there m holds) r.protect r.transfer (first_read r) _ handed

    own : (m j : ℕ) → m < sectors_by w → HoldsNo w later m → aim_read r j ≡ aim_of w m
        → r.transfer.deleted ≡ w.transfer.deleted
        → IsOther (with_protect r.protect w.g) (cylinder_read r) r.transfer (first_read r) later j → ⊥
    own m j l holds =
        not_other w.g (cylinder_read r) w.transfer.deleted (aim_of w m) (left_by w) later (done_by w).host m
        (place_of w m) (stood m l).1 (there m holds) r.protect r.transfer (first_read r) _ handed j

pub sector_trip_quiet : SectorTrip Quiet
sector_trip_quiet w m l later holds r cylinder = trip w later r cylinder m l holds

module _ (w : Written Quiet) (later : List ℕ) (holds : (m : ℕ) → m < sectors_by w → HoldsNo w later m)
    (r : ReadBack Quiet later w.g) (same : SameSectors w r) where
  abbrev P : ℕ
  P = passing w.g

  -- as far as bytes are taken, the read's sectors are the write's
  module _ (k : ℕ) (lk : k < length (got_by r)) where
    aims : (j : ℕ) → j ≤ k / P → j < sectors_by w → aim_read r j ≡ aim_of w j
    aims j l ls =
        aim_same r.transfer w.transfer (first_read r) (first_of w) same.eot (rw (same.id, same.side)) j
        (λ i b. in_reach (with_protect r.protect w.g) (cylinder_read r) r.transfer (first_read r) later _
        (handed w later r same.cylinder) k lk i (omega arith))
        (λ i b. (left_of w).no_further i (omega arith))

    no_skip : k / P < sectors_by w → SkipsNone r w.transfer (k / P)
    no_skip l sk = go same.kind
      where
        go : (r.transfer.deleted ≡ w.transfer.deleted) ⊎ (r.transfer.sk ≡ false)
            → (r.transfer.deleted ≡ w.transfer.deleted)
            × ((i : ℕ) → i < k / P
            → IsOther (with_protect r.protect w.g) (cylinder_read r) r.transfer (first_read r) later i → ⊥)
        go (inl e) = (
          e,
          λ i li. own w later r same.cylinder i i (omega arith) (holds i (omega arith))
              (aims i (omega arith) (omega arith)) e,
        )
        go (inr e) = absurd (true≢false (sym sk ∙ e))

    back : k < sectors_by w * P → get_or (got_by r) k 0 ≡ get_or (done_by w).host k 0
    back ls =
        let l : k / P < sectors_by w = (div-lt_iff_lt-mul {x = k} {y = sectors_by w} (size_some w.g.n)).1 ls in
        trip w later r same.cylinder (k / P) l (holds (k / P) l) k lk (aims (k / P) (omega arith) l) (no_skip l)
        ∙ ap (λ (x : ℕ). get_or (done_by w).host x 0) (div-add-mod' k P)

pub round_trip_quiet : RoundTrip Quiet
round_trip_quiet w done later holds r same =
    let safe : length (done_by w).host ≤ sectors_by w * passing w.g =
    ((acknowledged_quiet w.c w.from w.order w.transfer w.id w.accepted w.old w.g w.disk
    w.calls w.its w.alone done.waits).normal done.normal).all in
    record {
      inside = safe;
      bytes = back w later holds r same;
      whole = λ e. ext_get_or 0 (got_by r) (done_by w).host e (λ k l. back w later holds r same k l (omega arith));
    }

-- The reached records.

abbrev pub quiet_write : Written Real → Written Quiet
quiet_write w =
    record {
      c = w.c;
      from = quiet_real w.c w.from;
      order = w.order;
      transfer = w.transfer;
      id = w.id;
      accepted = w.accepted;
      old = w.old;
      g = w.g;
      disk = w.disk;
      calls = w.calls;
      its = w.its;
      alone = w.alone;
    }

abbrev pub quiet_read : {img : List ℕ} {g : Geometry} → ReadBack Real img g → ReadBack Quiet img g
quiet_read r =
    record {
      c = r.c;
      from = quiet_real r.c r.from;
      order = r.order;
      transfer = r.transfer;
      id = r.id;
      accepted = r.accepted;
      protect = r.protect;
      disk = r.disk;
      calls = r.calls;
      its = r.its;
      alone = r.alone;
    }

pub sector_trip : SectorTrip Real
sector_trip w m l later holds r = sector_trip_quiet (quiet_write w) m l later holds (quiet_read r)

pub round_trip : RoundTrip Real
round_trip w done later holds r same =
    round_trip_quiet (quiet_write w) (record { waits = done.waits; normal = done.normal }) later holds (quiet_read r)
    (record {
      cylinder = same.cylinder;
      side = same.side;
      id = same.id;
      eot = same.eot;
      kind = same.kind;
    })
