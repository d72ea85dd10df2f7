-- What a Format leaves as it was (specs/FormatSlots, `FormatStays`): every store of its script is in a slot of its
-- track.
-- Assumes nothing.
use Prim.Native.Nat.{ℕ, zero, suc, ◌+◌, ◌-◌, ◌<◌}
use native.Mathlib.Omega.{arith}
use mathlib.Core.Bool.{false}
use mathlib.Core.List.{List, [], ◌∷◌, ◌++◌}
use mathlib.Core.Path.{◌≡◌, refl, sym, ◌∙◌, subst}
use lib.ListN.{length, get_or, set, take, length-set}
use lib.Seq.{get_or-set_other}
use Rattle.image.proofs.DiskLaws.{store_keeps_disk}
use Rattle.image.proofs.LayoutLaws.{slot_past_header}
use Rattle.image.specs.declared.layout.Geometry.{Geometry}
use Rattle.image.specs.declared.mark.Mark.{Mark}
use Rattle.image.specs.declared.mark.Mark.TheVariants.{NoId, Data}
use Rattle.image.specs.Disk.{disk_in}
use Rattle.image.specs.Layout.{size_of, Has, InSlot}
use Rattle.sectors.specs.declared.order.Plan.{Plan}
use Rattle.demands.specs.FormatScript.{Stored, applied, in_turn, marking, addressing, filling, slot_script, script_of, Allowed, LeftByStores}
use Rattle.demands.specs.FormatSlots.{OffTrack, KeepsElsewhere, FormatStays}
use Rattle.demands.specs.PowerCut.{head_of}
use Rattle.demands.specs.Quiet.{Quiet}
use Rattle.demands.specs.Work.{Real}
use Rattle.demands.proofs.FormatLaws.{format_script_quiet}
use Rattle.demands.proofs.QuietLaws.{quiet_real}

-- of each of the stores
abbrev pub All : (Stored → Type 0) → List Stored → Type 0
All P [] = Unit {0}
All P (s ∷ rest) = P s × All P rest

module _ (P : Stored → Type 0) where
  pub all_append : (p q : List Stored) → All P p → All P q → All P (p ++ q)
  all_append [] q a b = b
  all_append (s ∷ p) q a b = (a.0, all_append p q a.1 b)

  pub all_in_turn : (n : ℕ) (f : ℕ → List Stored) → ((i : ℕ) → i < n → All P (f i)) → All P (in_turn n f)
  all_in_turn zero f a = tt
  all_in_turn (suc n) f a =
      all_append (in_turn n f) (f n) (all_in_turn n f (λ i l. a i (omega arith))) (a n (omega arith))

  pub all_take : (m : ℕ) (l : List Stored) → All P l → All P (take m l)
  all_take zero l a = tt
  all_take (suc m) [] a = tt
  all_take (suc m) (s ∷ l) a = (a.0, all_take m l a.1)

pub all_map : (P Q : Stored → Type 0) → ((s : Stored) → P s → Q s) → (l : List Stored) → All P l → All Q l
all_map P Q f [] a = tt
all_map P Q f (s ∷ l) a = (f s a.0, all_map P Q f l a.1)

applied_length : (l : List Stored) (img : List ℕ) → length (applied l img) ≡ length img
applied_length [] img = refl
applied_length (s ∷ l) img = applied_length l (set img s.at s.byte) ∙ length-set img s.at s.byte

module _ (g : Geometry) (cylinder side : ℕ) where
  -- a store in slot k
  abbrev pub InOf : ℕ → Stored → Type 0
  InOf k s = InSlot g cylinder side k s.at

  pub mark_in_lem : (mark : Mark) (k : ℕ) → All (InOf k) (marking g cylinder side mark k)
  mark_in_lem mark k = (record { from = omega arith; below = omega arith }, tt)

  module _ (plan : Plan) (host : List ℕ) (k : ℕ) where
    address_in : (i : ℕ) → i < 4 → All (InOf k) (addressing g cylinder side plan host k i)
    address_in i h = (record { from = omega arith; below = omega arith }, tt)

    fill_in : (i : ℕ) → i < size_of g.n → All (InOf k) (filling g cylinder side plan host k i)
    fill_in i h = (record { from = omega arith; below = omega arith }, tt)

    pub slot_in_lem : All (InOf k) (slot_script g cylinder side plan host k)
    slot_in_lem =
        let first = marking g cylinder side NoId k in
        let address = in_turn 4 (addressing g cylinder side plan host k) in
        let fill = in_turn (size_of g.n) (filling g cylinder side plan host k) in
        let last = marking g cylinder side (Data false false) k in
        let a : All (InOf k) (first ++ address) =
        all_append (InOf k) first address (mark_in_lem NoId k)
        (all_in_turn (InOf k) 4 (addressing g cylinder side plan host k) address_in) in
        let b : All (InOf k) (first ++ address ++ fill) =
        all_append (InOf k) (first ++ address) fill a
        (all_in_turn (InOf k) (size_of g.n) (filling g cylinder side plan host k) fill_in) in
        all_append (InOf k) (first ++ address ++ fill) last b (mark_in_lem (Data false false) k)

  -- a store in some slot of the track
  record OnTrack (s : Stored) : Type 0 where
    slot : ℕ
    has : Has g cylinder side slot
    in_slot : InSlot g cylinder side slot s.at

  on_track : (k : ℕ) → Has g cylinder side k → (l : List Stored) → All (InOf k) l → All OnTrack l
  on_track k h l a = all_map (InOf k) OnTrack (λ s i. record { slot = k; has = h; in_slot = i }) l a

  applied_others : (i : ℕ) → OffTrack g cylinder side i → (l : List Stored) (img : List ℕ) → All OnTrack l
      → get_or (applied l img) i 0 ≡ get_or img i 0
  applied_others i o [] img a = refl
  applied_others i o (s ∷ l) img a =
      applied_others i o l (set img s.at s.byte) a.1
      ∙ get_or-set_other img s.at i s.byte 0
      (λ e. o a.0.slot a.0.has (subst (InSlot g cylinder side a.0.slot) (sym e) a.0.in_slot))

  module _ (plan : Plan) (ok : Allowed g cylinder side plan) (host : List ℕ) where
    pub has_slot : (k : ℕ) → k < g.slots → Has g cylinder side k
    has_slot k l = record { on_disk = ok.on_disk; on_cylinder = ok.on_cylinder; on_track = l }

    script_on : All OnTrack (script_of g cylinder side plan host)
    script_on =
        all_append OnTrack (in_turn plan.sc (slot_script g cylinder side plan host)) _
        (all_in_turn OnTrack plan.sc (slot_script g cylinder side plan host)
        (λ k l. on_track k (has_slot k (omega (arith, ok.most))) (slot_script g cylinder side plan host k)
        (slot_in_lem plan host k)))
        (all_in_turn OnTrack (g.slots - plan.sc) (λ i. marking g cylinder side NoId (plan.sc + i))
        (λ i l. on_track (plan.sc + i) (has_slot (plan.sc + i) (omega arith))
        (marking g cylinder side NoId (plan.sc + i)) (mark_in_lem NoId (plan.sc + i))))

  -- the header is before every slot
  applied_disk : (l : List Stored) (img : List ℕ) → All OnTrack l → disk_in (applied l img) ≡ disk_in img
  applied_disk [] img a = refl
  applied_disk (s ∷ l) img a =
      let behind = slot_past_header g cylinder side a.0.slot a.0.has s.at a.0.in_slot in
      applied_disk l (set img s.at s.byte) a.1 ∙ store_keeps_disk img s.at s.byte (omega arith)

  pub left_disk : (drive : ℕ) (plan : Plan) (host old img : List ℕ) (m : ℕ)
      → LeftByStores g cylinder drive side plan host m old img → disk_in img ≡ disk_in old
  left_disk drive plan host old img m left = rw left.image (go m left.allowed)
    where
      go : (m : ℕ) → (0 < m → Allowed g cylinder side plan)
          → disk_in (applied (take m (script_of g cylinder side plan host)) old) ≡ disk_in old
      go zero a = refl
      go (suc m) a =
          let all = script_of g cylinder side plan host in
          applied_disk (take (suc m) all) old (all_take OnTrack (suc m) all (script_on plan (a (omega arith)) host))

  left_elsewhere : (drive : ℕ) (plan : Plan) (host old img : List ℕ) (m : ℕ)
      → LeftByStores g cylinder drive side plan host m old img → KeepsElsewhere g cylinder side old img
  left_elsewhere drive plan host old img m left = rw left.image (go m left.allowed)
    where
      go : (m : ℕ) → (0 < m → Allowed g cylinder side plan)
          → KeepsElsewhere g cylinder side old (applied (take m (script_of g cylinder side plan host)) old)
      go zero a = record { others = λ i o. refl; size = refl }
      go (suc m) a =
          let all = script_of g cylinder side plan host in
          let on = all_take OnTrack (suc m) all (script_on plan (a (omega arith)) host) in
          record {
            others = λ i o. applied_others i o (take (suc m) all) old on;
            size = applied_length (take (suc m) all) old;
          }

-- 01 Format: a Format changes bytes of its track's slots only
pub format_stays_quiet : FormatStays Quiet
format_stays_quiet c q order plan f old g disk calls its alone =
    left_elsewhere g (head_of order c) order.side order.drive plan _ old _ _
    (format_script_quiet c q order plan f old g disk calls its alone).left

pub format_stays : FormatStays Real
format_stays c r = format_stays_quiet c (quiet_real c r)
