-- What a Format leaves, slot by slot (specs/FormatSlots): a place holds the last byte that the script's first part
-- stores there, else what it held.
-- Assumes nothing.
use Prim.Native.Nat.{ℕ, zero, suc, ◌+◌, ◌-◌, ◌*◌, ◌<◌, ◌≤◌}
use native.Mathlib.Omega.{arith}
use mathlib.Core.Bool.{Bool, true, false, cond}
use mathlib.Core.List.{List, [], ◌∷◌, ◌++◌, append-nil, append_assoc}
use mathlib.Core.Logic.{◌⊎◌, inl, inr}
use mathlib.Core.Path.{◌≡◌, refl, sym, ap, ◌∙◌, subst}
use lib.Dec.{eqb}
use lib.ListN.{length, get_or, set, take, length-set, length-append}
use lib.Seq.{get_or-set_same, get_or-set_other, take-append-le, take-append-add, take_at}
use borrow.Author.Tests.{eqb-true, eqb-false, eq-eqb, ne_eqb}
use Rattle.image.proofs.DiskLaws.{present_fits}
use Rattle.image.proofs.LayoutLaws.{slot_inside, slots_share_nothing}
use Rattle.image.proofs.TestLaws.{le_or_lt}
use Rattle.image.specs.declared.layout.Geometry.{Geometry}
use Rattle.image.specs.declared.mark.Mark.{Mark}
use Rattle.image.specs.declared.mark.Mark.TheVariants.{NoId, Data}
use Rattle.image.specs.Disk.{Fits}
use Rattle.image.specs.Layout.{size_of, offset_of, InSlot}
use Rattle.image.specs.Mark.{byte_of}
use Rattle.sectors.specs.declared.order.Plan.{Plan}
use Rattle.demands.specs.FormatScript.{Stored, applied, in_turn, slot_draws, laid_down, slot_stores, marking, addressing, filling, slot_script, script_of, Allowed, LeftByStores}
use Rattle.demands.specs.FormatSlots.{SlotsLeft, FormatSlots}
use Rattle.demands.specs.PowerCut.{head_of}
use Rattle.demands.specs.Quiet.{Quiet}
use Rattle.demands.specs.Work.{Real}
use Rattle.demands.proofs.FormatLaws.{format_script_quiet}
use Rattle.demands.proofs.FormatStaysLaws.{All, all_append, all_in_turn, all_take, all_map, InOf, mark_in_lem, slot_in_lem, has_slot}
use Rattle.demands.proofs.QuietLaws.{quiet_real}
use Rattle.demands.proofs.ScriptLaws.{begun_length, whole_length, slots_length, clears_length, script_length}

-- The byte that stands at a place after stores.

abbrev value_at : List Stored → ℕ → ℕ → ℕ
value_at [] p d = d
value_at (s ∷ l) p d = value_at l p (cond (eqb s.at p) s.byte d)

set_value : (img : List ℕ) (at byte p : ℕ) → p < length img
    → get_or (set img at byte) p 0 ≡ cond (eqb at p) byte (get_or img p 0)
set_value img at byte p l = go (eqb at p) refl
  where
    go : (t : Bool) → eqb at p ≡ t → get_or (set img at byte) p 0 ≡ cond (eqb at p) byte (get_or img p 0)
    go true e = let z : at ≡ p = eqb-true at p e in rw (e, z) (get_or-set_same img p byte 0 l)
    go false e = rw e (get_or-set_other img at p byte 0 (λ f. eqb-false at p e (sym f)))

applied_value : (l : List Stored) (img : List ℕ) (p : ℕ) → p < length img
    → get_or (applied l img) p 0 ≡ value_at l p (get_or img p 0)
applied_value [] img p h = refl
applied_value (s ∷ l) img p h =
    applied_value l (set img s.at s.byte) p (rw (length-set img s.at s.byte) h)
    ∙ ap (λ (d : ℕ). value_at l p d) (set_value img s.at s.byte p h)

value_append : (a b : List Stored) (p d : ℕ) → value_at (a ++ b) p d ≡ value_at b p (value_at a p d)
value_append [] b p d = refl
value_append (s ∷ a) b p d = value_append a b p (cond (eqb s.at p) s.byte d)

-- none of them is made there
abbrev OffPlace : ℕ → Stored → Type 0
OffPlace p s = s.at ≡ p → ⊥

value_none : (l : List Stored) (p d : ℕ) → All (OffPlace p) l → value_at l p d ≡ d
value_none [] p d a = refl
value_none (s ∷ l) p d a = rw (ne_eqb s.at p a.0) (value_none l p d a.1)

-- one in turn is
value_turn : (n : ℕ) (f : ℕ → Stored) (i p d : ℕ) → i < n → (f i).at ≡ p
    → ((j : ℕ) → j < n → (j ≡ i → ⊥) → (f j).at ≡ p → ⊥)
    → value_at (in_turn n (λ j. f j ∷ [])) p d ≡ (f i).byte
value_turn zero f i p d l e n = absurd (omega arith)
value_turn (suc n) f i p d l e none =
    value_append (in_turn n (λ j. f j ∷ [])) (f n ∷ []) p d
    ∙ go (le_or_lt n i) (λ h. value_turn n f i p d h e (λ j k. none j (omega arith)))
  where
    go : (n ≤ i) ⊎ (i < n) → (i < n → value_at (in_turn n (λ j. f j ∷ [])) p d ≡ (f i).byte)
        → value_at (f n ∷ []) p (value_at (in_turn n (λ j. f j ∷ [])) p d) ≡ (f i).byte
    go (inl h) ih = let z : i ≡ n = omega arith in rw (eq-eqb (f n).at p (ap (λ (k : ℕ). (f k).at) (sym z) ∙ e), z)
    go (inr h) ih = rw (ne_eqb (f n).at p (none n (omega arith) (λ z. omega arith))) (ih h)

-- the rest of what comes in turn
in_turn_split : (k n : ℕ) (f : ℕ → List Stored) → in_turn (k + n) f ≡ in_turn k f ++ in_turn n (λ i. f (k + i))
in_turn_split k zero f =
    let z : k + 0 ≡ k = omega arith in
    rw z (sym (append-nil (in_turn k f)))
in_turn_split k (suc n) f =
    let z : k + suc n ≡ suc (k + n) = omega arith in
    rw z (ap (λ (l : List Stored). l ++ f (k + n)) (in_turn_split k n f)
    ∙ append_assoc (in_turn k f) (in_turn n (λ i. f (k + i))) (f (k + n)))

module _ (g : Geometry) (cylinder side : ℕ) (plan : Plan) (ok : Allowed g cylinder side plan) (host : List ℕ) where
  abbrev whole : ℕ → List Stored
  whole k = slot_script g cylinder side plan host k

  abbrev mark : Mark → ℕ → List Stored
  mark m k = marking g cylinder side m k

  abbrev clear : ℕ → List Stored
  clear i = mark NoId (plan.sc + i)

  abbrev script : List Stored
  script = script_of g cylinder side plan host

  abbrev L : ℕ
  L = slot_stores g

  abbrev left_over : ℕ
  left_over = g.slots - plan.sc

  abbrev place : ℕ → ℕ
  place k = offset_of g cylinder side k

  abbrev Off : ℕ → List Stored → Type 0
  Off p l = All (OffPlace p) l

  -- stores in another slot
  off_slot : (j k p : ℕ) → j < g.slots → k < g.slots → (j ≡ k → ⊥) → InSlot g cylinder side k p
      → (l : List Stored) → All (InOf g cylinder side j) l → Off p l
  off_slot j k p a b n i l h =
      all_map (InOf g cylinder side j) (OffPlace p)
      (λ s u e. n (slots_share_nothing g cylinder side j cylinder side k p (has_slot g cylinder side plan ok host j a)
      (has_slot g cylinder side plan ok host k b) (subst (InSlot g cylinder side j) e u) i).2) l h

  module _ (k p : ℕ) (below : k < g.slots) (inside : InSlot g cylinder side k p) where
    slots_off : (n from : ℕ) → from + n ≤ plan.sc → ((i : ℕ) → i < n → from + i ≡ k → ⊥)
        → Off p (in_turn n (λ i. whole (from + i)))
    slots_off n from l none =
        all_in_turn (OffPlace p) n (λ i. whole (from + i))
        (λ i h. off_slot (from + i) k p (omega (arith, ok.most)) below (none i h) inside (whole (from + i))
        (slot_in_lem g cylinder side plan host (from + i)))

    first_off : (n : ℕ) → n ≤ plan.sc → n ≤ k → Off p (in_turn n whole)
    first_off n l h =
        all_in_turn (OffPlace p) n whole
        (λ i a. off_slot i k p (omega (arith, ok.most)) below (λ e. omega arith) inside (whole i)
        (slot_in_lem g cylinder side plan host i))

    clear_off : (i : ℕ) → i < left_over → (plan.sc + i ≡ k → ⊥) → Off p (clear i)
    clear_off i h n =
        off_slot (plan.sc + i) k p (omega arith) below n inside (clear i)
        (mark_in_lem g cylinder side NoId (plan.sc + i))

    clears_off : (n : ℕ) → n ≤ left_over → ((i : ℕ) → i < n → plan.sc + i ≡ k → ⊥) → Off p (in_turn n clear)
    clears_off n l none = all_in_turn (OffPlace p) n clear (λ i h. clear_off i (omega arith) (none i h))

  -- the script around slot k
  script_split : (k : ℕ) → k < plan.sc
      → script
      ≡ in_turn k whole
      ++ (whole k ++ (in_turn (plan.sc - (k + 1)) (λ i. whole (k + 1 + i)) ++ in_turn left_over clear))
  script_split k l =
      let n = plan.sc - (k + 1) in
      let z : plan.sc ≡ k + 1 + n = omega arith in
      let s : k + 1 ≡ suc k = omega arith in
      let rest = in_turn n (λ i. whole (k + 1 + i)) in
      let first : in_turn (k + 1) whole ≡ in_turn k whole ++ whole k = ap (λ (j : ℕ). in_turn j whole) s in
      let slots : in_turn plan.sc whole ≡ in_turn k whole ++ whole k ++ rest =
      ap (λ (j : ℕ). in_turn j whole) z ∙ in_turn_split (k + 1) n whole ∙ ap (λ (l : List Stored). l ++ rest) first in
      ap (λ (l : List Stored). l ++ in_turn left_over clear) slots
      ∙ append_assoc (in_turn k whole ++ whole k) rest (in_turn left_over clear)
      ∙ append_assoc (in_turn k whole) (whole k) (rest ++ in_turn left_over clear)

  -- a first part of two lists that takes in the first of them
  take_past : (a b : List Stored) (m : ℕ) → length a ≤ m → take m (a ++ b) ≡ a ++ take (m - length a) b
  take_past a b m l =
      let z : m ≡ length a + (m - length a) = omega arith in
      ap (λ (n : ℕ). take n (a ++ b)) z ∙ take-append-add a b (m - length a)

  module _ (k : ℕ) (l : k < plan.sc) where
    abbrev rest : List Stored
    rest = in_turn (plan.sc - (k + 1)) (λ i. whole (k + 1 + i)) ++ in_turn left_over clear

    below_s : k < g.slots
    below_s = omega (arith, ok.most)

    rest_off : (p : ℕ) → InSlot g cylinder side k p → Off p rest
    rest_off p i =
        all_append (OffPlace p) (in_turn (plan.sc - (k + 1)) (λ j. whole (k + 1 + j))) (in_turn left_over clear)
        (slots_off k p below_s i (plan.sc - (k + 1)) (k + 1) (omega arith) (λ j h e. omega arith))
        (clears_off k p below_s i left_over (omega arith) (λ j h e. omega arith))

    -- a slot whose stores are all made has what its own part stores
    formatted_value : (m p d : ℕ) → k * L + L ≤ m → InSlot g cylinder side k p
        → value_at (take m script) p d ≡ value_at (whole k) p d
    formatted_value m p d h i =
        let first = in_turn k whole in
        let a : length first ≡ k * L = slots_length g cylinder side plan host k in
        let b : length (whole k) ≡ L = whole_length g cylinder side plan host k in
        let n : ℕ = m - length first in
        let cut : take m script ≡ first ++ (whole k ++ take (n - length (whole k)) rest) =
        ap (λ (s : List Stored). take m s) (script_split k l)
        ∙ take_past first (whole k ++ rest) m (omega arith)
        ∙ ap (λ (s : List Stored). first ++ s) (take_past (whole k) rest n (omega arith)) in
        ap (λ (s : List Stored). value_at s p d) cut
        ∙ value_append first (whole k ++ take (n - length (whole k)) rest) p d
        ∙ ap (λ (e : ℕ). value_at (whole k ++ take (n - length (whole k)) rest) p e)
        (value_none first p d (first_off k p below_s i k (omega arith) (omega arith)))
        ∙ value_append (whole k) (take (n - length (whole k)) rest) p d
        ∙ value_none (take (n - length (whole k)) rest) p _
        (all_take (OffPlace p) (n - length (whole k)) rest (rest_off p i))

    -- What its own part stores.

    abbrev addresses : List Stored
    addresses = in_turn 4 (addressing g cylinder side plan host k)

    abbrev fills : List Stored
    fills = in_turn (size_of g.n) (filling g cylinder side plan host k)

    abbrev unmarked : List Stored
    unmarked = mark NoId k ++ addresses ++ fills

    mark_value : (d : ℕ) → value_at (whole k) (place k) d ≡ byte_of (Data false false)
    mark_value d =
        value_append unmarked (mark (Data false false) k) (place k) d ∙ rw (eq-eqb (place k) (place k) refl) refl

    past_mark : (p d : ℕ) → (place k ≡ p → ⊥) → value_at (whole k) p d ≡ value_at unmarked p d
    past_mark p d n =
        value_append unmarked (mark (Data false false) k) p d
        ∙ value_none (mark (Data false false) k) p (value_at unmarked p d) (n, tt)

    address_value : (i d : ℕ) → i < 4 → value_at (whole k) (place k + 1 + i) d ≡ get_or host (k * slot_draws + i) 0
    address_value i d h =
        let p = place k + 1 + i in
        past_mark p d (λ e. omega arith)
        ∙ value_append (mark NoId k ++ addresses) fills p d
        ∙ value_none fills p (value_at (mark NoId k ++ addresses) p d)
        (all_in_turn (OffPlace p) (size_of g.n) (filling g cylinder side plan host k)
        (λ j a. ((λ e. omega arith), tt)))
        ∙ value_append (mark NoId k) addresses p d
        ∙ value_turn 4 (λ j. record { at = place k + 1 + j; byte = get_or host (k * slot_draws + j) 0 }) i p
        (value_at (mark NoId k) p d) h refl (λ j a n e. n (omega arith))

    fill_value : (i d : ℕ) → i < size_of g.n → value_at (whole k) (place k + 5 + i) d ≡ laid_down plan host k i
    fill_value i d h =
        let p = place k + 5 + i in
        past_mark p d (λ e. omega arith)
        ∙ value_append (mark NoId k ++ addresses) fills p d
        ∙ value_turn (size_of g.n) (λ j. record { at = place k + 5 + j; byte = laid_down plan host k j }) i p
        (value_at (mark NoId k ++ addresses) p d) h refl (λ j a n e. n (omega arith))

    -- begun: mark 0, and no store of its part at the mark until the last
    begun_part : (n d : ℕ) → 0 < n → n < L → value_at (take n (whole k)) (place k) d ≡ byte_of NoId
    begun_part zero d p h = absurd (omega arith)
    begun_part (suc n) d p h =
        let behind = addresses ++ fills in
        let b : length unmarked ≡ 5 + size_of g.n = begun_length g cylinder side plan host k (size_of g.n) in
        let c : suc (length behind) ≡ length unmarked = refl in
        let cut : take n (behind ++ mark (Data false false) k) ≡ take n behind =
        take-append-le n behind (mark (Data false false) k) (omega arith) in
        let off : Off (place k) behind =
        all_append (OffPlace (place k)) addresses fills
        (all_in_turn (OffPlace (place k)) 4 (addressing g cylinder side plan host k) (λ j a. ((λ e. omega arith), tt)))
        (all_in_turn (OffPlace (place k)) (size_of g.n) (filling g cylinder side plan host k)
        (λ j a. ((λ e. omega arith), tt))) in
        ap (λ (s : List Stored). value_at s (place k) (cond (eqb (place k) (place k)) (byte_of NoId) d)) cut
        ∙ value_none (take n behind) (place k) _ (all_take (OffPlace (place k)) n behind off)
        ∙ rw (eq-eqb (place k) (place k) refl) refl

    mark_inside : InSlot g cylinder side k (place k)
    mark_inside = record { from = omega arith; below = omega arith }

    begun_value : (m d : ℕ) → k * L < m → m < k * L + L → value_at (take m script) (place k) d ≡ byte_of NoId
    begun_value m d h j =
        let first = in_turn k whole in
        let a : length first ≡ k * L = slots_length g cylinder side plan host k in
        let b : length (whole k) ≡ L = whole_length g cylinder side plan host k in
        let n : ℕ = m - length first in
        let cut : take m script ≡ first ++ take n (whole k) =
        ap (λ (s : List Stored). take m s) (script_split k l)
        ∙ take_past first (whole k ++ rest) m (omega arith)
        ∙ ap (λ (s : List Stored). first ++ s) (take-append-le n (whole k) rest (omega arith)) in
        ap (λ (s : List Stored). value_at s (place k) d) cut
        ∙ value_append first (take n (whole k)) (place k) d
        ∙ begun_part n (value_at first (place k) d) (omega arith) (omega arith)

    -- still to come
    to_come_value : (m p d : ℕ) → m ≤ k * L → InSlot g cylinder side k p → value_at (take m script) p d ≡ d
    to_come_value m p d h i =
        let first = in_turn k whole in
        let a : length first ≡ k * L = slots_length g cylinder side plan host k in
        let cut : take m script ≡ take m first =
        ap (λ (s : List Stored). take m s) (script_split k l)
        ∙ take-append-le m first (whole k ++ rest) (omega arith) in
        ap (λ (s : List Stored). value_at s p d) cut
        ∙ value_none (take m first) p d
        (all_take (OffPlace p) m first (first_off k p below_s i k (omega arith) (omega arith)))

  -- The slots after SC.
  module _ (k : ℕ) (l : plan.sc ≤ k) (below : k < g.slots) where
    abbrev slots : List Stored
    slots = in_turn plan.sc whole

    slots_long : length slots ≡ plan.sc * L
    slots_long = slots_length g cylinder side plan host plan.sc

    slots_off_k : (p : ℕ) → InSlot g cylinder side k p → Off p slots
    slots_off_k p i = first_off k p below i plan.sc (omega arith) l

    -- two marks at one place are one slot's
    same_place : (j : ℕ) → j < g.slots → place j ≡ place k → j ≡ k
    same_place j h e =
        (slots_share_nothing g cylinder side j cylinder side k (place k) (has_slot g cylinder side plan ok host j h)
        (has_slot g cylinder side plan ok host k below) (record { from = omega arith; below = omega arith })
        (record { from = omega arith; below = omega arith })).2

    -- the first n of the clears
    take_clears : (n : ℕ) → n ≤ left_over → take n (in_turn left_over clear) ≡ in_turn n clear
    take_clears n h =
        let z : left_over ≡ n + (left_over - n) = omega arith in
        let s : in_turn left_over clear ≡ in_turn n clear ++ in_turn (left_over - n) (λ i. clear (n + i)) =
        ap (λ (j : ℕ). in_turn j clear) z ∙ in_turn_split n (left_over - n) clear in
        ap (λ (c : List Stored). take n c) s
        ∙ take_at (in_turn n clear) (in_turn (left_over - n) (λ i. clear (n + i))) n
        (clears_length g cylinder side plan host n)

    cleared_value : (m d : ℕ) → m ≤ length script → plan.sc * L + (k - plan.sc) < m
        → value_at (take m script) (place k) d ≡ byte_of NoId
    cleared_value m d all h =
        let n : ℕ = m - length slots in
        let whole_length = script_length g cylinder side plan host in
        let a = slots_long in
        let cut : take m script ≡ slots ++ in_turn n clear =
        take_past slots (in_turn left_over clear) m (omega arith)
        ∙ ap (λ (s : List Stored). slots ++ s) (take_clears n (omega arith)) in
        let z : plan.sc + (k - plan.sc) ≡ k = omega arith in
        ap (λ (s : List Stored). value_at s (place k) d) cut
        ∙ value_append slots (in_turn n clear) (place k) d
        ∙ value_turn n (λ j. record { at = place (plan.sc + j); byte = byte_of NoId }) (k - plan.sc) (place k)
        (value_at slots (place k) d) (omega arith) (ap place z)
        (λ j u v e. v (omega (arith, same_place (plan.sc + j) (omega arith) e)))

    -- still to be cleared
    to_clear_value : (m p d : ℕ) → m ≤ plan.sc * L + (k - plan.sc) → InSlot g cylinder side k p
        → value_at (take m script) p d ≡ d
    to_clear_value m p d h i =
        let n : ℕ = k - plan.sc in
        let z : left_over ≡ n + (left_over - n) = omega arith in
        let cleared = in_turn n clear in
        let more = in_turn (left_over - n) (λ j. clear (n + j)) in
        let split : script ≡ slots ++ cleared ++ more =
        ap (λ (c : List Stored). slots ++ c) (ap (λ (j : ℕ). in_turn j clear) z ∙ in_turn_split n (left_over - n) clear)
        ∙ sym (append_assoc slots cleared more) in
        let long : length (slots ++ cleared) ≡ plan.sc * L + n =
        length-append slots cleared ∙ omega (arith, slots_long, clears_length g cylinder side plan host n) in
        let cut : take m script ≡ take m (slots ++ cleared) =
        ap (λ (s : List Stored). take m s) split ∙ take-append-le m (slots ++ cleared) more (omega arith) in
        ap (λ (s : List Stored). value_at s p d) cut
        ∙ value_none (take m (slots ++ cleared)) p d
        (all_take (OffPlace p) m (slots ++ cleared)
        (all_append (OffPlace p) slots cleared (slots_off_k p i)
        (clears_off k p below i n (omega arith) (λ j u e. omega arith))))

    -- nothing but the mark of such a slot is stored
    behind_value : (m p d : ℕ) → InSlot g cylinder side k p → (p ≡ place k → ⊥) → value_at (take m script) p d ≡ d
    behind_value m p d i n =
        value_none (take m script) p d
        (all_take (OffPlace p) m script
        (all_append (OffPlace p) slots (in_turn left_over clear) (slots_off_k p i)
        (all_in_turn (OffPlace p) left_over clear (λ j h. off_mark j h (eqb (plan.sc + j) k) refl))))
      where
        off_mark : (j : ℕ) → j < left_over → (t : Bool) → eqb (plan.sc + j) k ≡ t → Off p (clear j)
        off_mark j h true e = ((λ f. n (sym f ∙ ap place (eqb-true (plan.sc + j) k e))), tt)
        off_mark j h false e = clear_off k p below i j h (eqb-false (plan.sc + j) k e)

-- A whole image.
module _ (g : Geometry) (cylinder drive side : ℕ) (plan : Plan) (host old img : List ℕ) (m : ℕ) (fits : Fits g old)
    (left : LeftByStores g cylinder drive side plan host m old img) where
  abbrev all : List Stored
  all = script_of g cylinder side plan host

  -- a place of a slot holds what the script's first part leaves there
  at_place : (k p : ℕ) → Allowed g cylinder side plan → k < g.slots → InSlot g cylinder side k p
      → get_or img p 0 ≡ value_at (take m all) p (get_or old p 0)
  at_place k p ok h i =
      let inside = slot_inside g cylinder side k (has_slot g cylinder side plan ok host k h) in
      ap (λ (x : List ℕ). get_or x p 0) left.image
      ∙ applied_value (take m all) old p (omega (arith, fits.size, i.below))

  -- where nothing is stored, nothing has changed
  or_none : (p d : ℕ) → (Allowed g cylinder side plan → get_or img p 0 ≡ d) → d ≡ get_or old p 0 → get_or img p 0 ≡ d
  or_none p d f e = go (le_or_lt m 0)
    where
      none : m ≡ 0 → img ≡ old
      none z = left.image ∙ ap (λ (n : ℕ). applied (take n all) old) z

      go : (m ≤ 0) ⊎ (0 < m) → get_or img p 0 ≡ d
      go (inl h) = ap (λ (x : List ℕ). get_or x p 0) (none (omega arith)) ∙ sym e
      go (inr h) = f (left.allowed h)

  slots_left : SlotsLeft g cylinder side plan host m old img
  slots_left = record {
    formatted = λ k l h.
        let ok = left.allowed (omega arith) in
        let below : k < g.slots = omega (arith, ok.most) in
        let at = offset_of g cylinder side k in
        let value : (p : ℕ) → InSlot g cylinder side k p
        → get_or img p 0 ≡ value_at (slot_script g cylinder side plan host k) p (get_or old p 0) =
        λ p i. at_place k p ok below i ∙ formatted_value g cylinder side plan ok host k l m p _ h i in
        record {
          mark = value at (record { from = omega arith; below = omega arith })
              ∙ mark_value g cylinder side plan ok host k l _;
          address = λ i a. value (at + 1 + i) (record { from = omega arith; below = omega arith })
              ∙ address_value g cylinder side plan ok host k l i _ a;
          laid = λ i a. value (at + 5 + i) (record { from = omega arith; below = omega arith })
              ∙ fill_value g cylinder side plan ok host k l i _ a;
        };
    begun = λ k l h j.
        let ok = left.allowed (omega arith) in
        at_place k (offset_of g cylinder side k) ok (omega (arith, ok.most))
        (record { from = omega arith; below = omega arith })
        ∙ begun_value g cylinder side plan ok host k l m _ h j;
    to_come = λ k l h i inside. or_none i (get_or old i 0)
        (λ ok. at_place k i ok (omega (arith, ok.most)) inside
        ∙ to_come_value g cylinder side plan ok host k l m i _ h inside) refl;
    cleared = λ k l below h.
        let ok = left.allowed (omega arith) in
        at_place k (offset_of g cylinder side k) ok below (record { from = omega arith; below = omega arith })
        ∙ cleared_value g cylinder side plan ok host k l below m _ left.part h;
    to_clear = λ k l below h i inside. or_none i (get_or old i 0)
        (λ ok. at_place k i ok below inside
        ∙ to_clear_value g cylinder side plan ok host k l below m i _ h inside) refl;
    behind = λ k i l below inside n. or_none i (get_or old i 0)
        (λ ok. at_place k i ok below inside ∙ behind_value g cylinder side plan ok host k l below m i _ inside n) refl;
  }

-- 01 Format: what any of its calls leaves of its track
pub format_slots_quiet : FormatSlots Quiet
format_slots_quiet c q order plan f old g disk calls its alone =
    slots_left g (head_of order c) order.drive order.side plan _ old _ _ (present_fits old g disk)
    (format_script_quiet c q order plan f old g disk calls its alone).left

pub format_slots : FormatSlots Real
format_slots c r = format_slots_quiet c (quiet_real c r)
