-- What a write command leaves of an image (specs/PowerCut, `LeftBy`), slot by slot: every slot that is none of its
-- sectors' is as it was, and so is every byte outside of the slots. So a sound image stays sound (specs/StaysSound).
-- Assumes nothing.
use Prim.Native.Nat.{ℕ, ◌+◌, ◌-◌, ◌<◌, ◌≤◌}
use native.Mathlib.Omega.{arith}
use mathlib.Core.Bool.{Bool, true, false}
use mathlib.Core.List.{List, [], ◌∷◌}
use mathlib.Core.Logic.{◌⊎◌, inl, inr}
use mathlib.Core.Path.{◌≡◌, refl, sym, ◌∙◌}
use lib.Dec.{eqb}
use lib.ListN.{length, get_or}
use borrow.Author.Tests.{eqb-true, eqb-false}
use Rattle.image.specs.declared.layout.Geometry.{Geometry}
use Rattle.image.specs.declared.mark.Mark.TheVariants.{Data}
use Rattle.image.specs.Layout.{size_of, length_of, track_at, offset_of, Has, InSlot}
use Rattle.image.specs.Mark.{byte_of}
use Rattle.image.specs.Sound.{Field, Track, mark_in, Sound}
use Rattle.image.proofs.DiskLaws.{present_fits, fits_present}
use Rattle.image.proofs.LayoutLaws.{length_ge, slot_before_end, slots_share_nothing, slot_off_fields}
use Rattle.sectors.specs.declared.order.Transfer.{Transfer}
use Rattle.demands.specs.History.{Sector, Begun, no_one, some_of, History}
use Rattle.demands.specs.PowerCut.{
  Aim,
  Stands,
  Spares,
  AllFinished,
  BegunHalf,
  SparesAll,
  SparesBegun,
  LeftBy,
}
use Rattle.demands.specs.Quiet.{Quiet}
use Rattle.demands.specs.StaysSound.{StaysSound, StaysSoundRead}
use Rattle.demands.specs.Work.{Real}
use Rattle.demands.proofs.DataErrorLaws.{disk_left}
use Rattle.demands.proofs.HandedOverLaws.{handed_over_quiet}
use Rattle.demands.proofs.PowerCutLaws.{power_cut_quiet}
use Rattle.demands.proofs.QuietLaws.{quiet_real}

-- a mark that a write stores
written_mark_lem : (deleted broken : Bool) → byte_of (Data deleted broken) ≤ 5
written_mark_lem false false = omega arith
written_mark_lem false true = omega arith
written_mark_lem true false = omega arith
written_mark_lem true true = omega arith

-- a place is none of a command's sectors'
abbrev pub MissesAll : ℕ → List Sector → Type 0
MissesAll at [] = Unit {0}
MissesAll at (s ∷ before) = (at ≡ s.at → ⊥) × MissesAll at before

abbrev pub MissesBegun : ℕ → Begun → Type 0
MissesBegun at no_one = Unit {0}
MissesBegun at (some_of place bytes) = at ≡ place → ⊥

-- byte i is none of the slots'
abbrev Outside : Geometry → ℕ → Type 0
Outside g i = (c s k : ℕ) → Has g c s k → InSlot g c s k i → ⊥

module _ (g : Geometry) (cylinder : ℕ) (transfer : Transfer) (aim : Aim) (old img : List ℕ) where
  -- a byte of no slot, or of another one, is none of a sector's
  spares : (a : Aim) (at done i : ℕ) → (st : Stands g old cylinder a at) → done ≤ size_of g.n
      → (InSlot g cylinder a.side st.slot i → ⊥) → Spares at done i
  spares a at done i st l out = (
    λ e. out (record { from = omega (arith, st.place); below = omega (arith, st.place) }),
    λ b e. out (record { from = omega (arith, st.place); below = omega (arith, st.place) }),
  )

  other_slot : (a : Aim) (at c s k i : ℕ) (st : Stands g old cylinder a at) → Has g c s k → InSlot g c s k i
      → (offset_of g c s k ≡ at → ⊥) → InSlot g cylinder a.side st.slot i → ⊥
  other_slot a at c s k i st has inside n own =
      let (cs, ss, ks) = slots_share_nothing g cylinder a.side st.slot c s k i st.has has own inside in
      let same : offset_of g cylinder a.side st.slot ≡ offset_of g c s k = rw (cs, ss, ks) in
      n (sym same ∙ sym st.place)

  module _ (h : History) (left : LeftBy g cylinder transfer aim old img h) where
    -- every byte outside of the slots is as it was
    pub outside_stays : (i : ℕ) → Outside g i → get_or img i 0 ≡ get_or old i 0
    outside_stays i out =
        left.others i (all h.finished left.finished) (begun (length h.finished) h.begun left.begun)
      where
        all : (fin : List Sector) → AllFinished g cylinder transfer aim old img h.host fin → SparesAll fin i
        all [] f = tt
        all (s ∷ before) f =
            let (st, fa, z, rest) = f in
            (spares _ s.at _ i st (omega (arith, z)) (out _ _ _ st.has), all before rest)

        begun : (n : ℕ) (b : Begun) → BegunHalf g cylinder transfer aim old img h.host n b → SparesBegun b i
        begun n no_one f = tt
        begun n (some_of at bytes) (st, half) = spares _ at _ i st half.short (out _ _ _ st.has)

    -- and every byte of a slot that is none of the command's sectors'
    pub missed_stays : (c s k : ℕ) → Has g c s k → MissesAll (offset_of g c s k) h.finished
        → MissesBegun (offset_of g c s k) h.begun → (i : ℕ) → InSlot g c s k i → get_or img i 0 ≡ get_or old i 0
    missed_stays c s k has ms mb i inside =
        left.others i (all h.finished left.finished ms)
        (begun (length h.finished) h.begun left.begun mb)
      where
        all : (fin : List Sector) → AllFinished g cylinder transfer aim old img h.host fin
            → MissesAll (offset_of g c s k) fin → SparesAll fin i
        all [] f m = tt
        all (t ∷ before) f (n, m) =
            let (st, fa, z, rest) = f in (
              spares _ t.at _ i st (omega (arith, z)) (other_slot _ t.at c s k i st has inside n),
              all before rest m,
            )

        begun : (n : ℕ) (b : Begun) → BegunHalf g cylinder transfer aim old img h.host n b
            → MissesBegun (offset_of g c s k) b → SparesBegun b i
        begun n no_one f m = tt
        begun n (some_of at bytes) (st, half) m =
            spares _ at _ i st half.short (other_slot _ at c s k i st has inside m)

    -- a slot's mark is one that the command stored, or as it was
    mark_says : (c s k p : ℕ) → Has g c s k → p ≡ offset_of g c s k
        → (get_or img p 0 ≤ 5) ⊎ (get_or img p 0 ≡ get_or old p 0)
    mark_says c s k p has place =
        go (all h.finished left.finished) (begun (length h.finished) h.begun left.begun)
      where
        stored : (at mark : ℕ) → p ≡ at → get_or img at 0 ≡ mark → mark ≤ 5 → get_or img p 0 ≤ 5
        stored at mark e m l = rw (e, m) l

        all : (fin : List Sector) → AllFinished g cylinder transfer aim old img h.host fin
            → (get_or img p 0 ≤ 5) ⊎ MissesAll p fin
        all [] f = inr tt
        all (t ∷ before) (st, fa, z, rest) = at_it (eqb p t.at) refl (all before rest)
          where
            at_it : (b : Bool) → eqb p t.at ≡ b → (get_or img p 0 ≤ 5) ⊎ MissesAll p before
                → (get_or img p 0 ≤ 5) ⊎ MissesAll p (t ∷ before)
            at_it true e r =
                inl (stored t.at _ (eqb-true p t.at e) fa.mark (written_mark_lem transfer.deleted false))
            at_it false e (inl l) = inl l
            at_it false e (inr m) = inr (eqb-false p t.at e, m)

        begun : (n : ℕ) (b : Begun) → BegunHalf g cylinder transfer aim old img h.host n b
            → (get_or img p 0 ≤ 5) ⊎ MissesBegun p b
        begun n no_one f = inr tt
        begun n (some_of at bytes) (st, half) = at_it (eqb p at) refl
          where
            at_it : (b : Bool) → eqb p at ≡ b → (get_or img p 0 ≤ 5) ⊎ (p ≡ at → ⊥)
            at_it true e = inl (stored at _ (eqb-true p at e) half.mark (written_mark_lem transfer.deleted true))
            at_it false e = inr (eqb-false p at e)

        go : (get_or img p 0 ≤ 5) ⊎ MissesAll p h.finished → (get_or img p 0 ≤ 5) ⊎ MissesBegun p h.begun
            → (get_or img p 0 ≤ 5) ⊎ (get_or img p 0 ≡ get_or old p 0)
        go (inl l) b = inl l
        go (inr m) (inl l) = inl l
        go (inr m) (inr b) =
            inr (missed_stays c s k has (rw place at m) (rw place at b) p
            (record { from = omega arith; below = omega arith }))

    module _ (sound : Sound g old) where
      left_marks : (c s k : ℕ) → Has g c s k → mark_in g img c s k ≤ 5
      left_marks c s k has = go (mark_says c s k (offset_of g c s k) has refl)
        where
          go : (mark_in g img c s k ≤ 5) ⊎ (mark_in g img c s k ≡ mark_in g old c s k) → mark_in g img c s k ≤ 5
          go (inl l) = l
          go (inr e) = rw e (sound.marks c s k has)

      left_had : (c s k : ℕ) → Has g c s k → 0 < mark_in g img c s k → 0 < mark_in g old c s k
      left_had c s k has l = (left.marked c s k has (l, left_marks c s k has)).0

      -- a track's five bytes
      left_track : (c s : ℕ) → Track g old c s → Track g img c s
      left_track c s t =
          let same : (m i : ℕ) → m < 5 → i ≡ track_at g c s + m → get_or img i 0 ≡ get_or old i 0 =
          λ m i l e. outside_stays i (λ d u k has inside. slot_off_fields g d u k c s m i has inside l e) in
          record {
            field = record {
              tagged = same 0 _ (omega arith) (omega arith) ∙ t.field.tagged;
              high = same 1 _ (omega arith) refl ∙ t.field.high;
              low = same 2 _ (omega arith) refl ∙ t.field.low;
            };
            own_cylinder = same 3 _ (omega arith) refl ∙ t.own_cylinder;
            own_side = same 4 _ (omega arith) refl ∙ t.own_side;
          }

      -- the three of the end
      left_last : Field old (length_of g - 3) 0x03 0 → Field img (length_of g - 3) 0x03 0
      left_last t =
          let same : (i : ℕ) → length_of g - 3 ≤ i → get_or img i 0 ≡ get_or old i 0 =
          λ i l. outside_stays i (λ d u k has inside.
          omega (arith, slot_before_end g d u k has i inside, length_ge g)) in
          record {
            tagged = same _ (omega arith) ∙ t.tagged;
            high = same _ (omega arith) ∙ t.high;
            low = same _ (omega arith) ∙ t.low;
          }

      pub left_sound : Sound g img
      left_sound =
          record {
            fits = present_fits img g
                (disk_left g cylinder transfer aim old img h left ∙ fits_present old g sound.fits);
            tracks = λ c s hc hs. left_track c s (sound.tracks c s hc hs);
            last = left_last sound.last;
            marks = left_marks;
            once = λ c s j k hj hk l mj mk e.
                sound.once c s j k hj hk l (left_had c s j hj mj) (left_had c s k hk mk)
                (sym (left.ids c s j hj) ∙ e ∙ left.ids c s k hk);
          }

pub stays_sound_quiet : StaysSound Quiet
stays_sound_quiet c q order transfer id w old g sound calls its alone =
    left_sound g _ transfer _ old _ _
    (power_cut_quiet c q order transfer id w old g (fits_present old g sound.fits) calls its alone) sound

pub stays_sound_read_quiet : StaysSoundRead Quiet
stays_sound_read_quiet c q order transfer id r img g sound calls its alone =
    let disk = fits_present img g sound.fits in
    rw (handed_over_quiet c q order transfer id r img g disk calls its alone).image sound

pub stays_sound : StaysSound Real
stays_sound c r = stays_sound_quiet c (quiet_real c r)

pub stays_sound_read : StaysSoundRead Real
stays_sound_read c r = stays_sound_read_quiet c (quiet_real c r)
