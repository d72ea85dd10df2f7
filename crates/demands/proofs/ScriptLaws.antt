-- The script of a Format (specs/FormatScript), store by store: the part of it that each stage has behind it, what one
-- store more makes of that part, and that a byte more from the host changes none of it. No machine here.
-- Assumes nothing.
use Prim.Native.Nat.{ℕ, zero, suc, ◌+◌, ◌-◌, ◌*◌, ◌≤◌, ◌<◌}
use native.Mathlib.Omega.{arith}
use mathlib.Core.Bool.{false}
use mathlib.Core.List.{List, [], ◌∷◌, ◌++◌, append-nil, append_assoc}
use mathlib.Core.Logic.{◌⊎◌, inl, inr}
use mathlib.Core.Path.{◌≡◌, refl, sym, ap, ◌∙◌}
use lib.ListN.{length, set, take, length-append, get_or-append}
use lib.Seq.{take_at}
use Rattle.image.proofs.LayoutLaws.{row_inside, row_once}
use Rattle.image.proofs.TestLaws.{le_or_lt}
use Rattle.image.specs.declared.layout.Geometry.{Geometry}
use Rattle.image.specs.declared.mark.Mark.{Mark}
use Rattle.image.specs.declared.mark.Mark.TheVariants.{NoId, Data}
use Rattle.image.specs.Layout.{size_of}
use Rattle.engine.specs.Format.{done_of}
use Rattle.sectors.specs.declared.order.Plan.{Plan}
use Rattle.sectors.specs.declared.work.Form.{Form}
use Rattle.sectors.specs.declared.work.Form.TheVariants.{Awaiting, Addressing, Filling, Clearing}
use Rattle.demands.specs.FormatScript.{Stored, applied, in_turn, slot_draws, slot_stores, marking, addressing, filling, slot_script, script_of, SlotsDone}

-- Stores in turn.

pub applied_append : (p q : List Stored) (img : List ℕ) → applied (p ++ q) img ≡ applied q (applied p img)
applied_append [] q img = refl
applied_append (s ∷ p) q img = applied_append p q (set img s.at s.byte)

in_turn_length : (w n : ℕ) (f : ℕ → List Stored) → ((i : ℕ) → length (f i) ≡ w) → length (in_turn n f) ≡ n * w
in_turn_length w zero f e = omega arith
in_turn_length w (suc n) f e =
    length-append (in_turn n f) (f n) ∙ omega (arith, in_turn_length w n f e, e n)

in_turn_same : (n : ℕ) (f h : ℕ → List Stored) → ((i : ℕ) → i < n → f i ≡ h i) → in_turn n f ≡ in_turn n h
in_turn_same zero f h e = refl
in_turn_same (suc n) f h e = rw (in_turn_same n f h (λ i l. e i (omega arith)), e n (omega arith))

-- the first part of a list
record Starts (p l : List Stored) : Type 0 where
  rest : List Stored
  is : l ≡ p ++ rest

starts_refl : (p : List Stored) → Starts p p
starts_refl p = record { rest = []; is = sym (append-nil p) }

starts_more : (p q l : List Stored) → Starts p q → Starts p (q ++ l)
starts_more p q l s = record { rest = s.rest ++ l; is = rw s.is (append_assoc p s.rest l) }

starts_behind : (p q l : List Stored) → Starts q l → Starts (p ++ q) (p ++ l)
starts_behind p q l s = record { rest = s.rest; is = rw s.is (sym (append_assoc p q s.rest)) }

starts_trans : (p q l : List Stored) → Starts p q → Starts q l → Starts p l
starts_trans p q l s t =
    record { rest = s.rest ++ t.rest; is = t.is ∙ rw s.is (append_assoc p s.rest t.rest) }

in_turn_starts : (k n : ℕ) (f : ℕ → List Stored) → k ≤ n → Starts (in_turn k f) (in_turn n f)
in_turn_starts k zero f l = let z : k ≡ 0 = omega arith in rw z (starts_refl [])
in_turn_starts k (suc n) f l = go (le_or_lt k n) (λ h. in_turn_starts k n f h)
  where
    go : (k ≤ n) ⊎ (n < k) → (k ≤ n → Starts (in_turn k f) (in_turn n f)) → Starts (in_turn k f) (in_turn n f ++ f n)
    go (inl h) ih = starts_more (in_turn k f) (in_turn n f) (f n) (ih h)
    go (inr h) ih = let z : k ≡ suc n = omega arith in rw z (starts_refl (in_turn n f ++ f n))

module _ (g : Geometry) (cylinder side : ℕ) (plan : Plan) where
  abbrev mark : Mark → ℕ → List Stored
  mark m k = marking g cylinder side m k

  module _ (host : List ℕ) where
    abbrev address : ℕ → ℕ → List Stored
    address k i = addressing g cylinder side plan host k i

    abbrev fill : ℕ → ℕ → List Stored
    fill k i = filling g cylinder side plan host k i

    abbrev whole : ℕ → List Stored
    whole k = slot_script g cylinder side plan host k

    abbrev pub script : List Stored
    script = script_of g cylinder side plan host

    -- a slot's part up to its last byte
    abbrev begun : ℕ → ℕ → List Stored
    begun slot done = mark NoId slot ++ in_turn 4 (address slot) ++ in_turn done (fill slot)

    -- the part of the script that a stage has behind it
    abbrev pub so_far : Form → List Stored
    so_far (Awaiting slot wait) = in_turn slot whole
    so_far (Addressing slot k) = in_turn slot whole ++ (mark NoId slot ++ in_turn k (address slot))
    so_far (Filling slot done) = in_turn slot whole ++ begun slot done
    so_far (Clearing slot) = in_turn plan.sc whole ++ in_turn (slot - plan.sc) (λ i. mark NoId (plan.sc + i))

  -- how long it is
  abbrev pub place_of : Form → ℕ
  place_of (Awaiting slot wait) = slot * slot_stores g
  place_of (Addressing slot k) = slot * slot_stores g + 1 + k
  place_of (Filling slot done) = slot * slot_stores g + 5 + done
  place_of (Clearing slot) = plan.sc * slot_stores g + (slot - plan.sc)

  -- the host's bytes in it
  abbrev pub drawn_in : Form → ℕ
  drawn_in (Awaiting slot wait) = slot * slot_draws
  drawn_in (Addressing slot k) = slot * slot_draws + k
  drawn_in (Filling slot done) = slot * slot_draws + 4
  drawn_in (Clearing slot) = plan.sc * slot_draws

  -- a stage that the script has
  abbrev pub InScript : Form → Type 0
  InScript (Awaiting slot wait) = slot < plan.sc
  InScript (Addressing slot k) = (slot < plan.sc) × (k < 4)
  InScript (Filling slot done) = (slot < plan.sc) × (done ≤ size_of g.n)
  InScript (Clearing slot) = (plan.sc ≤ slot) × (slot < g.slots)

  module _ (host : List ℕ) where
    one_length : (n : ℕ) (f : ℕ → List Stored) → ((i : ℕ) → length (f i) ≡ 1) → length (in_turn n f) ≡ n
    one_length n f e = in_turn_length 1 n f e ∙ omega arith

    pub begun_length : (slot done : ℕ) → length (begun host slot done) ≡ 5 + done
    begun_length slot done =
        length-append (mark NoId slot ++ in_turn 4 (address host slot)) (in_turn done (fill host slot))
        ∙ omega (arith, one_length done (fill host slot) (λ i. refl))

    pub whole_length : (slot : ℕ) → length (whole host slot) ≡ slot_stores g
    whole_length slot =
        length-append (begun host slot (size_of g.n)) (mark (Data false false) slot)
        ∙ omega (arith, begun_length slot (size_of g.n))

    pub slots_length : (n : ℕ) → length (in_turn n (whole host)) ≡ n * slot_stores g
    slots_length n = in_turn_length (slot_stores g) n (whole host) whole_length

    pub clears_length : (n : ℕ) → length (in_turn n (λ i. mark NoId (plan.sc + i))) ≡ n
    clears_length n = one_length n (λ i. mark NoId (plan.sc + i)) (λ i. refl)

    pub script_length : length (script host) ≡ plan.sc * slot_stores g + (g.slots - plan.sc)
    script_length =
        length-append (in_turn plan.sc (whole host)) _
        ∙ omega (arith, slots_length plan.sc, clears_length (g.slots - plan.sc))

    pub so_far_length : (form : Form) → length (so_far host form) ≡ place_of form
    so_far_length (Awaiting slot wait) = slots_length slot
    so_far_length (Addressing slot k) =
        length-append (in_turn slot (whole host)) (mark NoId slot ++ in_turn k (address host slot))
        ∙ omega (
          arith,
          slots_length slot,
          one_length k (address host slot) (λ i. refl),
        )
    so_far_length (Filling slot done) =
        length-append (in_turn slot (whole host)) (begun host slot done)
        ∙ omega (arith, slots_length slot, begun_length slot done)
    so_far_length (Clearing slot) =
        length-append (in_turn plan.sc (whole host)) _
        ∙ omega (arith, slots_length plan.sc, clears_length (slot - plan.sc))

    -- it is a first part of the script
    slots_start : (slot : ℕ) (p : List Stored) → slot < plan.sc → Starts p (whole host slot)
        → Starts (in_turn slot (whole host) ++ p) (script host)
    slots_start slot p l s =
        let behind = starts_behind (in_turn slot (whole host)) p (whole host slot) s in
        let up : Starts (in_turn slot (whole host) ++ whole host slot) (in_turn plan.sc (whole host)) =
        in_turn_starts (suc slot) plan.sc (whole host) (omega arith) in
        starts_more _ (in_turn plan.sc (whole host)) _ (starts_trans _ _ _ behind up)

    begun_starts : (slot done : ℕ) → done ≤ size_of g.n → Starts (begun host slot done) (whole host slot)
    begun_starts slot done l =
        starts_more _ (begun host slot (size_of g.n)) (mark (Data false false) slot)
        (starts_behind (mark NoId slot ++ in_turn 4 (address host slot)) _ _
        (in_turn_starts done (size_of g.n) (fill host slot) l))

    address_starts : (slot k : ℕ) → k ≤ 4
        → Starts (mark NoId slot ++ in_turn k (address host slot)) (whole host slot)
    address_starts slot k l =
        let in_address = starts_behind (mark NoId slot) _ _ (in_turn_starts k 4 (address host slot) l) in
        starts_more _ (begun host slot (size_of g.n)) (mark (Data false false) slot)
        (starts_more _ (mark NoId slot ++ in_turn 4 (address host slot)) (in_turn (size_of g.n)
        (fill host slot)) in_address)

    so_far_starts : (form : Form) → InScript form → Starts (so_far host form) (script host)
    so_far_starts (Awaiting slot wait) l =
        starts_more _ (in_turn plan.sc (whole host)) _ (in_turn_starts slot plan.sc (whole host) (omega arith))
    so_far_starts (Addressing slot k) l = slots_start slot _ l.0 (address_starts slot k (omega arith))
    so_far_starts (Filling slot done) l = slots_start slot _ l.0 (begun_starts slot done l.1)
    so_far_starts (Clearing slot) l =
        starts_behind (in_turn plan.sc (whole host)) _ _
        (in_turn_starts (slot - plan.sc) (g.slots - plan.sc) (λ i. mark NoId (plan.sc + i)) (omega arith))

    pub so_far_take : (form : Form) (m : ℕ) → InScript form → m ≡ place_of form → take m (script host) ≡ so_far host form
    so_far_take form m l e =
        let s = so_far_starts form l in
        rw s.is (take_at (so_far host form) s.rest m (so_far_length form ∙ sym e))

    -- One store more.

    pub so_far_addresses : (slot k : ℕ) → k < 3
        → so_far host (Addressing slot (k + 1)) ≡ so_far host (Addressing slot k) ++ address host slot k
    so_far_addresses slot k l =
        let e : k + 1 ≡ suc k = omega arith in
        rw e (sym (append_assoc (in_turn slot (whole host)) (mark NoId slot ++ in_turn k (address host slot))
        (address host slot k)))

    pub so_far_addressed : (slot : ℕ)
        → so_far host (Filling slot 0) ≡ so_far host (Addressing slot 3) ++ address host slot 3
    so_far_addressed slot =
        sym (append_assoc (in_turn slot (whole host)) (mark NoId slot ++ in_turn 3 (address host slot))
        (address host slot 3))

    pub so_far_fills : (slot done : ℕ)
        → so_far host (Filling slot (done + 1)) ≡ so_far host (Filling slot done) ++ fill host slot done
    so_far_fills slot done =
        let e : done + 1 ≡ suc done = omega arith in
        rw e (
        ap (λ (l : List Stored). in_turn slot (whole host) ++ l)
        (sym (append_assoc (mark NoId slot ++ in_turn 4 (address host slot)) (in_turn done (fill host slot))
        (fill host slot done)))
        ∙ sym (append_assoc (in_turn slot (whole host)) (begun host slot done) (fill host slot done))
        )

    pub so_far_marks : (slot : ℕ)
        → so_far host (Awaiting (slot + 1) 0)
        ≡ so_far host (Filling slot (size_of g.n)) ++ mark (Data false false) slot
    so_far_marks slot =
        let e : slot + 1 ≡ suc slot = omega arith in
        rw e (sym (append_assoc (in_turn slot (whole host)) (begun host slot (size_of g.n)) (mark
        (Data false false) slot)))

    pub so_far_clears : (slot : ℕ) → plan.sc ≤ slot
        → so_far host (Clearing (slot + 1)) ≡ so_far host (Clearing slot) ++ mark NoId slot
    so_far_clears slot l =
        let e : slot + 1 - plan.sc ≡ suc (slot - plan.sc) = omega arith in
        let f : plan.sc + (slot - plan.sc) ≡ slot = omega arith in
        rw (e, f) (sym (append_assoc (in_turn plan.sc (whole host)) (in_turn (slot - plan.sc) (λ i. mark NoId
        (plan.sc + i)))
        (mark NoId slot)))

    -- the last slot formatted: what follows is to be cleared
    pub so_far_turns : so_far host (Clearing plan.sc) ≡ so_far host (Awaiting plan.sc 0)
    so_far_turns =
        let z : plan.sc - plan.sc ≡ 0 = omega arith in
        rw z (append-nil (in_turn plan.sc (whole host)))

    pub so_far_whole : plan.sc ≤ g.slots → so_far host (Clearing g.slots) ≡ script host
    so_far_whole l = refl

  -- One byte more from the host.
  module _ (host : List ℕ) (byte : ℕ) where
    abbrev grown : List ℕ
    grown = host ++ (byte ∷ [])

    address_grown : (slot i : ℕ) → slot * slot_draws + i < length host → address grown slot i ≡ address host slot i
    address_grown slot i l = rw (get_or-append host (byte ∷ []) 0 (slot * slot_draws + i) l)

    addresses_grown : (slot k : ℕ) → slot * slot_draws + k ≤ length host
        → in_turn k (address grown slot) ≡ in_turn k (address host slot)
    addresses_grown slot k l =
        in_turn_same k (address grown slot) (address host slot) (λ i h. address_grown slot i (omega arith))

    whole_grown : (slot : ℕ) → slot * slot_draws + 4 ≤ length host → whole grown slot ≡ whole host slot
    whole_grown slot l =
        ap (λ (a : List Stored). mark NoId slot ++ a ++ in_turn (size_of g.n) (fill host slot) ++ mark
        (Data false false) slot)
        (addresses_grown slot 4 l)

    slots_grown : (slot : ℕ) → slot * slot_draws ≤ length host → in_turn slot (whole grown) ≡ in_turn slot (whole host)
    slots_grown slot l = in_turn_same slot (whole grown) (whole host) (λ i h. whole_grown i (omega arith))

    pub so_far_grown : (form : Form) → drawn_in form ≤ length host → so_far grown form ≡ so_far host form
    so_far_grown (Awaiting slot wait) l = slots_grown slot l
    so_far_grown (Addressing slot k) l =
        rw (slots_grown slot (omega arith), addresses_grown slot k l)
    so_far_grown (Filling slot done) l =
        ap (λ (p : List Stored). p ++ begun grown slot done) (slots_grown slot (omega arith))
        ∙ ap (λ (a : List Stored). in_turn slot (whole host) ++ (mark NoId slot ++ a ++ in_turn done (fill host slot)))
        (addresses_grown slot 4 l)
    so_far_grown (Clearing slot) l = rw (slots_grown plan.sc l)

  -- Where a stage stands in the script.

  abbrev L : ℕ
  L = slot_stores g

  below_slots : (slot : ℕ) → slot < plan.sc → slot * L + L ≤ plan.sc * L
  below_slots slot l = row_inside slot plan.sc L l

  pub place_inside : (host : List ℕ) (form : Form) → InScript form → place_of form < length (script host)
  place_inside host (Awaiting slot wait) l = omega (arith, script_length host, below_slots slot l)
  place_inside host (Addressing slot k) l = omega (arith, script_length host, below_slots slot l.0)
  place_inside host (Filling slot done) l = omega (arith, script_length host, below_slots slot l.0)
  place_inside host (Clearing slot) l = omega (arith, script_length host)

  pub script_some : (host : List ℕ) → 0 < g.slots → 0 < length (script host)
  script_some host some = go plan.sc refl
    where
      go : (n : ℕ) → plan.sc ≡ n → 0 < length (script host)
      go zero e = omega (arith, script_length host)
      go (suc n) e = omega (arith, script_length host, below_slots n (omega arith))

  pub stage_done : (form : Form) → InScript form → SlotsDone g plan (place_of form) (done_of form plan)
  stage_done (Awaiting slot wait) l =
      record { most = omega arith; whole = omega arith; next = λ h. omega arith }
  stage_done (Addressing slot k) l =
      record { most = omega arith; whole = omega arith; next = λ h. omega arith }
  stage_done (Filling slot done) l =
      record { most = omega arith; whole = omega arith; next = λ h. omega arith }
  stage_done (Clearing slot) l =
      record { most = omega arith; whole = omega arith; next = λ h. absurd (omega arith) }

  -- What m stores rest on.

  pub record Fed (host : List ℕ) (m : ℕ) : Type 0 where
    pub begun : (k : ℕ) → k < plan.sc → k * L < m → k * slot_draws < length host
    pub fed : (k i : ℕ) → k < plan.sc → i < 4 → k * L + 1 + i < m → k * slot_draws + i < length host

  pub fed_none : (host : List ℕ) → Fed host 0
  fed_none host = record { begun = λ k l h. absurd (omega arith); fed = λ k i l h j. absurd (omega arith) }

  pub fed_grown : (host : List ℕ) (byte m : ℕ) → Fed host m → Fed (host ++ (byte ∷ [])) m
  fed_grown host byte m f = record {
    begun = λ k l h. omega (arith, f.begun k l h, length-append host (byte ∷ []));
    fed = λ k i l h j. omega (arith, f.fed k i l h j, length-append host (byte ∷ []));
  }

  -- the host's byte that the next store of a stage rests on
  abbrev pub Needs : List ℕ → Form → Type 0
  Needs host (Awaiting slot wait) = slot * slot_draws < length host
  Needs host (Addressing slot k) = slot * slot_draws + k < length host
  Needs host (Filling slot done) = Unit {0}
  Needs host (Clearing slot) = Unit {0}

  module _ (host : List ℕ) where
    -- the store number m is that of no slot's mark and of no address, but as the stage says
    begun_at : (form : Form) → InScript form → Needs host form → (k : ℕ) → k < plan.sc → k * L ≡ place_of form
        → k * slot_draws < length host
    begun_at (Awaiting slot wait) l n k h e =
        let (s, z) = row_once L k slot 0 0 (omega arith) (omega arith) (omega arith) in rw s n
    begun_at (Addressing slot j) l n k h e =
        let (s, z) = row_once L k slot 0 (1 + j) (omega arith) (omega arith) (omega arith) in absurd (omega arith)
    begun_at (Filling slot done) l n k h e =
        let (s, z) = row_once L k slot 0 (5 + done) (omega arith) (omega arith) (omega arith) in absurd (omega arith)
    begun_at (Clearing slot) l n k h e = absurd (omega (arith, below_slots k h))

    fed_at : (form : Form) → InScript form → Needs host form → (k i : ℕ) → k < plan.sc → i < 4
        → k * L + 1 + i ≡ place_of form → k * slot_draws + i < length host
    fed_at (Awaiting slot wait) l n k i h j e =
        let (s, z) = row_once L k slot (1 + i) 0 (omega arith) (omega arith) (omega arith) in absurd (omega arith)
    fed_at (Addressing slot a) l n k i h j e =
        let (s, z) = row_once L k slot (1 + i) (1 + a) (omega arith) (omega arith) (omega arith) in
        let t : i ≡ a = omega arith in
        rw (s, t) n
    fed_at (Filling slot done) l n k i h j e =
        let (s, z) = row_once L k slot (1 + i) (5 + done) (omega arith) (omega arith) (omega arith) in
        absurd (omega arith)
    fed_at (Clearing slot) l n k i h j e = absurd (omega (arith, below_slots k h))

    pub fed_on : (form : Form) (m : ℕ) → InScript form → Needs host form → m ≡ place_of form → Fed host m
        → Fed host (m + 1)
    fed_on form m l n e f = record {
      begun = λ k h j. go_begun k h j (le_or_lt m (k * L));
      fed = λ k i h a j. go_fed k i h a j (le_or_lt m (k * L + 1 + i));
    }
      where
        go_begun : (k : ℕ) → k < plan.sc → k * L < m + 1 → (m ≤ k * L) ⊎ (k * L < m) → k * slot_draws < length host
        go_begun k h j (inl a) = begun_at form l n k h (omega arith)
        go_begun k h j (inr a) = f.begun k h a

        go_fed : (k i : ℕ) → k < plan.sc → i < 4 → k * L + 1 + i < m + 1
            → (m ≤ k * L + 1 + i) ⊎ (k * L + 1 + i < m) → k * slot_draws + i < length host
        go_fed k i h a j (inl b) = fed_at form l n k i h a (omega arith)
        go_fed k i h a j (inr b) = f.fed k i h a b
