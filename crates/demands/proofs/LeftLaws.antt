-- What a write command leaves of an image (specs/PowerCut, `LeftBy`), store by store: a sector begun, one byte more of
-- it, its good mark; and a byte from the host. No machine here.
-- Assumes nothing.
use Rattle.std.specs.Prelude.{None, Some}
use Rattle.image.specs.Lent.{put_at}
use Prim.Native.Nat.{ℕ, ◌+◌, ◌*◌, ◌≤◌, ◌<◌}
use native.Mathlib.Omega.{arith}
use mathlib.Core.Bool.{Bool, true, false}
use mathlib.Core.List.{List, [], ◌∷◌, ◌++◌}
use mathlib.Core.Logic.{◌⊎◌, inl, inr}
use mathlib.Core.Path.{◌≡◌, refl, sym, ap, ◌∙◌}
use lib.Dec.{eqb}
use lib.ListN.{length, get_or, set, length-set, length-append, get_or-append}
use lib.Seq.{get_or-set_same, get_or-set_other}
use borrow.Author.Tests.{eqb-true, eqb-false, eq-eqb, ne_eqb}
use Rattle.image.proofs.LayoutLaws.{slot_inside, slots_share_nothing}
use Rattle.image.proofs.TestLaws.{le_or_lt, by_test}
use Rattle.image.specs.declared.layout.Geometry.{Geometry}
use Rattle.image.specs.declared.mark.Mark.TheVariants.{Data}
use Rattle.image.specs.declared.slot.Id.{Id}
use Rattle.image.specs.Disk.{Fits}
use Rattle.image.specs.Layout.{size_of, offset_of, Has, InSlot}
use Rattle.image.specs.Mark.{byte_of}
use Rattle.image.specs.Slot.{id_at}
use Rattle.image.specs.Sound.{mark_in}
use Rattle.sectors.specs.declared.order.Transfer.{Transfer}
use Rattle.demands.specs.History.{Sector, Begun, no_one, some_of, History, no_history, noted_store, handed, stored_by}
use Rattle.demands.specs.PowerCut.{Aim, aim_no, Followed, Counts, Stands, HalfDone, AllFinished, BegunHalf, begun_bytes, SparesAll, LeftBy, passing, stored_count, sector_count, LastShort}
use Rattle.demands.proofs.AddressLaws.{Behind, behind_differs, AllBehind, aim_byte}
use Rattle.image.specs.Lent.{Effect}

-- place p is one of the sector's whose mark stands at `at`
pub record Inside (g : Geometry) (at p : ℕ) : Type 0 where
  pub from : at ≤ p
  pub below : p < at + 5 + size_of g.n

-- a slot with an ID had one before
abbrev Marks : Geometry → List ℕ → List ℕ → Type 0
Marks g old img = (c s k : ℕ) → Has g c s k → Counts (mark_in g img c s k) → Counts (mark_in g old c s k)

module _ (g : Geometry) (cylinder : ℕ) (old : List ℕ) (fits : Fits g old) where
  stands_slot : (a : Aim) (at p : ℕ) (st : Stands g old cylinder a at) → Inside g at p
      → InSlot g cylinder a.side st.slot p
  stands_slot a at p st i =
      record { from = omega (arith, st.place, i.from); below = omega (arith, st.place, i.below) }

  pub stands_inside : (a : Aim) (at : ℕ) → Stands g old cylinder a at → at + 5 + size_of g.n ≤ length old
  stands_inside a at st = omega (arith, slot_inside g cylinder a.side st.slot st.has, st.place, fits.size)

  -- a place among a slot's first five is in another slot, or of the sector itself
  pub front_differs : (a : Aim) (at p : ℕ) → Stands g old cylinder a at → Inside g at p
      → (c s k j : ℕ) → Has g c s k → j < 5 → (at + j ≡ p → ⊥) → offset_of g c s k + j ≡ p → ⊥
  front_differs a at p st i c s k j h l n e =
      let other : InSlot g c s k p = record { from = omega arith; below = omega arith } in
      let (cs, ss, ks) = slots_share_nothing g cylinder a.side st.slot c s k p st.has h
      (stands_slot a at p st i) other in
      let same : offset_of g cylinder a.side st.slot ≡ offset_of g c s k = rw (cs, ss, ks) in
      n (omega (arith, st.place))

  pub front_stays : (img : List ℕ) (v : ℕ) (a : Aim) (at p : ℕ) → Stands g old cylinder a at → Inside g at p
      → (c s k j : ℕ) → Has g c s k → j < 5 → (at + j ≡ p → ⊥)
      → get_or (set img p v) (offset_of g c s k + j) 0 ≡ get_or img (offset_of g c s k + j) 0
  front_stays img v a at p st i c s k j h l n =
      get_or-set_other img p (offset_of g c s k + j) v 0 (front_differs a at p st i c s k j h l n)

  -- a store of a mark or of a byte behind the address
  pub ids_stay : (img : List ℕ) (v : ℕ) (a : Aim) (at p : ℕ) → Stands g old cylinder a at → Inside g at p
      → ((j : ℕ) → 0 < j → j < 5 → at + j ≡ p → ⊥) → (c s k : ℕ) → Has g c s k
      → id_at (set img p v) (offset_of g c s k) ≡ id_at img (offset_of g c s k)
  ids_stay img v a at p st i n c s k h =
      let f : (j : ℕ) → 0 < j → j < 5
      → get_or (set img p v) (offset_of g c s k + j) 0 ≡ get_or img (offset_of g c s k + j) 0 =
      λ j z l. front_stays img v a at p st i c s k j h l (n j z l) in
      rw (
        f 1 (omega arith) (omega arith),
        f 2 (omega arith) (omega arith),
        f 3 (omega arith) (omega arith),
        f 4 (omega arith) (omega arith),
      )

  -- two sectors of the command share nothing
  pub apart : (eot : ℕ) (a b : Aim) (at bt i : ℕ) → b.id.r < 256 → Behind eot a b → Stands g old cylinder a at
      → Stands g old cylinder b bt → Inside g at i → Inside g bt i → ⊥
  apart eot a b at bt i h d st su ia ib =
      let (cs, ss, ks) = slots_share_nothing g cylinder a.side st.slot cylinder b.side su.slot i
      st.has su.has
      (stands_slot a at i st ia) (stands_slot b bt i su ib) in
      let same : offset_of g cylinder a.side st.slot ≡ offset_of g cylinder b.side su.slot = rw (ss, ks) in
      let e : at ≡ bt = st.place ∙ same ∙ sym su.place in
      let f : a.id ≡ b.id = sym st.address ∙ ap (id_at old) e ∙ su.address in
      behind_differs eot a b h d ss (ap (λ (x : Id). x.r) f)

  marked_mark : (img : List ℕ) (at v : ℕ) → Counts (get_or old at 0) → Marks g old img → Marks g old (set img at v)
  marked_mark img at v m ms c s k h t = go (eqb (offset_of g c s k) at) refl
    where
      go : (b : Bool) → eqb (offset_of g c s k) at ≡ b → Counts (get_or old (offset_of g c s k) 0)
      go true e = rw (eqb-true (offset_of g c s k) at e) m
      go false e = ms c s k h (rw (get_or-set_other img at (offset_of g c s k) v 0 (eqb-false
          (offset_of g c s k) at e)) at t)

  marked_byte : (img : List ℕ) (v : ℕ) (a : Aim) (at p : ℕ) → Stands g old cylinder a at → Inside g at p → at + 5 ≤ p
      → Marks g old img → Marks g old (set img p v)
  marked_byte img v a at p st i l ms c s k h t =
      ms c s k h
      (rw (get_or-set_other img p (offset_of g c s k) v 0
      (λ e. front_differs a at p st i c s k 0 h (omega arith) (λ f. omega arith) (omega arith))) at t)

module _ (g : Geometry) (cylinder : ℕ) (transfer : Transfer) (aim : Aim) (old : List ℕ) (fits : Fits g old)
    (hr : aim.id.r < 256) where
  abbrev Left : List ℕ → History → Type 0
  Left img h = LeftBy g cylinder transfer aim old img h

  abbrev No : ℕ → Aim
  No n = aim_no transfer aim n

  -- The sectors finished.

  -- a store in a later sector leaves them
  all_stay : (img host : List ℕ) (p v n at : ℕ) → AllBehind transfer aim n → Stands g old cylinder (No n) at
      → Inside g at p
      → (fin : List Sector) → length fin ≤ n → AllFinished g cylinder transfer aim old img host fin
      → AllFinished g cylinder transfer aim old (set img p v) host fin
  all_stay img host p v n at all st i [] l f = tt
  all_stay img host p v n at all st i (s ∷ before) l f =
      let (sa, fa, za, rest) = f in
      let out : (q : ℕ) → Inside g s.at q → q ≡ p → ⊥ =
      λ q w e. apart g cylinder old fits transfer.eot (No (length before)) (No n) s.at at p
      (aim_byte transfer aim hr n)
      (all (length before) (omega arith)) sa st (rw e at w) i in (
        sa,
        record {
          mark = get_or-set_other img p s.at v 0 (out s.at (record {
            from = omega arith;
            below = omega arith;
          })) ∙ fa.mark;
          bytes = λ j k.
              get_or-set_other img p (s.at + 5 + j) v 0 (out (s.at + 5 + j) (record {
                from = omega arith;
                below = omega arith;
              }))
              ∙ fa.bytes j k;
        },
        za,
        all_stay img host p v n at all st i before (omega arith) rest,
      )

  -- and so does one more byte of the host's
  all_host : (img host : List ℕ) (byte : ℕ) (fin : List Sector) → length fin * size_of g.n ≤ length host
      → AllFinished g cylinder transfer aim old img host fin
      → AllFinished g cylinder transfer aim old img (host ++ (byte ∷ [])) fin
  all_host img host byte [] l f = tt
  all_host img host byte (s ∷ before) l f =
      let (sa, fa, za, rest) = f in (
        sa,
        record {
          mark = fa.mark;
          bytes = λ j k.
              fa.bytes j k ∙ sym (get_or-append host (byte ∷ []) 0 (length before * size_of g.n + j)
              (omega arith));
        },
        za,
        all_host img host byte before (omega arith) rest,
      )

  -- a place of a later sector is none of theirs
  spares_all : (img host : List ℕ) (p n at : ℕ) → AllBehind transfer aim n → Stands g old cylinder (No n) at
      → Inside g at p
      → (fin : List Sector) → length fin ≤ n → AllFinished g cylinder transfer aim old img host fin → SparesAll fin p
  spares_all img host p n at all st i [] l f = tt
  spares_all img host p n at all st i (s ∷ before) l f =
      let (sa, fa, za, rest) = f in
      let out : Inside g s.at p → ⊥ =
      λ w. apart g cylinder old fits transfer.eot (No (length before)) (No n) s.at at p
      (aim_byte transfer aim hr n)
      (all (length before) (omega arith)) sa st w i in (
        (
          λ e. out (record { from = omega arith; below = omega arith }),
          λ b k. out (record { from = omega arith; below = omega arith }),
        ),
        spares_all img host p n at all st i before (omega arith) rest,
      )

  -- a sector that is short is the last one, since each has a host byte of its own
  last_short : (h : History) → ((k : ℕ) → k < sector_count h → k * passing g < length h.host) → LastShort g h
  last_short h fed k l m = go (le_or_lt (sector_count h) (k + 1))
    where
      go : (sector_count h ≤ k + 1) ⊎ (k + 1 < sector_count h) → k + 1 ≡ sector_count h
      go (inl a) = omega arith
      go (inr a) = absurd (omega (arith, fed (k + 1) a))

  -- None done yet.
  pub left_fresh : Left old no_history
  left_fresh = record {
    finished = tt;
    begun = tt;
    ran_out = λ l. inr (last_short no_history (λ k l. absurd (omega arith)));
    fed = λ k l. absurd (omega arith);
    no_further = λ k l. absurd (omega arith);
    others = λ i a b. refl;
    ids = λ c s k h. refl;
    size = refl;
    marked = λ c s k h t. t;
  }

  module _ (img : List ℕ) (h : History) (left : Left img h) where
    abbrev now : ℕ
    now = length h.finished

    -- a byte from the host, before TC
    pub left_handed : (byte : ℕ) (tc : Bool) → stored_count g h ≤ length h.host → Left img (handed byte tc h)
    left_handed byte tc l =
        record {
          finished = all_host img h.host byte h.finished (omega arith) left.finished;
          begun = go h.begun left.begun (omega arith);
          ran_out = λ m. inr (last_short (handed byte tc h) more);
          fed = more;
          no_further = left.no_further;
          others = left.others;
          ids = left.ids;
          size = left.size;
          marked = left.marked;
        }
      where
        more : (k : ℕ) → k < sector_count h → k * passing g < length (h.host ++ (byte ∷ []))
        more k m = omega (arith, left.fed k m, length-append h.host (byte ∷ []))

        go : (b : Begun) → BegunHalf g cylinder transfer aim old img h.host now b
            → now * size_of g.n + begun_bytes b ≤ length h.host
            → BegunHalf g cylinder transfer aim old img (h.host ++ (byte ∷ [])) now b
        go no_one f m = tt
        go (some_of at bytes) (st, hd) m = (
          st,
          record {
            mark = hd.mark;
            short = hd.short;
            new_bytes = λ i k.
                hd.new_bytes i k ∙ sym (get_or-append h.host (byte ∷ []) 0 (now * size_of g.n + i)
                (omega arith));
            old_bytes = hd.old_bytes;
          },
        )

    -- a sector begun: its broken mark
    module _ (none : h.begun ≡ no_one) (all : AllBehind transfer aim now) (at : ℕ) (st : Stands g old cylinder
        (No now) at) (more : now * size_of g.n < length h.host)
        (on : (k : ℕ) → k < now → Followed transfer (No k)) where
      abbrev broken : ℕ
      broken = byte_of (Data transfer.deleted true)

      pub left_begins : Left (set img at broken) (noted_store (Some (put_at at broken)) h)
      left_begins = let inside = stands_inside g cylinder old fits (No now) at st in
          let here : (q : ℕ) → at ≤ q → q < at + 5 + size_of g.n → Inside g at q = λ q a b. record {
            from = a;
            below = b;
          } in
          let own = here at (omega arith) (omega arith) in
          rw none
          (record {
            finished = all_stay img h.host at broken now at all st own h.finished (omega arith) left.finished;
            begun = (
              st,
              record {
                mark = get_or-set_same img at broken 0 (omega (arith, left.size));
                short = omega arith;
                new_bytes = λ i l. absurd (omega arith);
                old_bytes = λ i l k.
                    get_or-set_other img at (at + 5 + i) broken 0 (λ e. omega arith)
                    ∙ left.others (at + 5 + i)
                    (spares_all img h.host (at + 5 + i) now at all st (here (at + 5 + i) (omega arith)
                    (omega arith)) h.finished
                    (omega arith) left.finished)
                    (rw none tt);
              },
            );
            ran_out = λ l. inr (last_short (record {
              host = h.host;
              told = h.told;
              finished = h.finished;
              begun = some_of at [];
            }) (λ k l. own_byte k (le_or_lt now k) l));
            fed = λ k l. own_byte k (le_or_lt now k) l;
            no_further = λ k l. on k (omega arith);
            others = λ i a b. get_or-set_other img at i broken 0 b.0 ∙ left.others i a (rw none tt);
            ids = λ c s k hh.
                ids_stay g cylinder old fits img broken (No now) at at st own (λ j z l e. omega arith) c s k hh
                ∙ left.ids c s k hh;
            size = length-set img at broken ∙ left.size;
            marked = marked_mark g cylinder old fits img at broken st.marked left.marked;
          })
        where
          own_byte : (k : ℕ) → (now ≤ k) ⊎ (k < now) → k < now + 1 → k * size_of g.n < length h.host
          own_byte k (inl a) l = let z : k ≡ now = omega arith in rw z more
          own_byte k (inr a) l = left.fed k (omega arith)

    module _ (at : ℕ) (bytes : List ℕ) (some : h.begun ≡ some_of at bytes) (all : AllBehind transfer aim now) where
      half : Stands g old cylinder (No now) at × HalfDone g transfer.deleted old img h.host now at (length bytes)
      half = rw some at left.begun

      -- one byte more
      pub left_puts : (p v : ℕ) → length bytes < size_of g.n → p ≡ at + 5 + length bytes
          → v ≡ get_or h.host (now * size_of g.n + length bytes) 0
          → Left (set img p v) (noted_store (Some (put_at p v)) h)
      left_puts p v l e f =
          let (st, hd) = half in
          let inside = stands_inside g cylinder old fits (No now) at st in
          let own : Inside g at p = record { from = omega arith; below = omega arith } in
          let n : length (bytes ++ (v ∷ [])) ≡ length bytes + 1 = length-append bytes (v ∷ []) in
          let other : (i : ℕ) → (i ≡ length bytes → ⊥) → get_or (set img p v) (at + 5 + i) 0 ≡ get_or img (at + 5 + i) 0 =
          λ i d. get_or-set_other img p (at + 5 + i) v 0 (λ t. d (omega arith)) in
          let same : get_or (set img p v) p 0 ≡ v = get_or-set_same img p v 0 (omega (arith, left.size)) in
          rw (some, ne_eqb p at (λ t. omega arith))
          (record {
            finished = all_stay img h.host p v now at all st own h.finished (omega arith) left.finished;
            begun = (
              st,
              record {
                mark = get_or-set_other img p at v 0 (λ t. omega arith) ∙ hd.mark;
                short = omega arith;
                new_bytes = λ i k. new i (le_or_lt (length bytes) i) (omega arith) other same hd.new_bytes;
                old_bytes = λ i a b. other i (λ t. omega arith) ∙ hd.old_bytes i (omega arith) b;
              },
            );
            ran_out = λ t. inr (last_short (record {
              host = h.host;
              told = h.told;
              finished = h.finished;
              begun = some_of at (bytes ++ (v ∷ []));
            }) (λ k t. left.fed k (rw some t)));
            fed = λ k t. left.fed k (rw some t);
            no_further = λ k t. left.no_further k (rw some t);
            others = λ i a b.
                get_or-set_other img p i v 0 (λ t. b.1 (omega arith) (omega arith))
                ∙ left.others i a (rw some (b.0, λ x y. b.1 x (omega arith)));
            ids = λ c s k hh.
                ids_stay g cylinder old fits img v (No now) at p st own (λ j z w t. omega arith) c s k hh
                ∙ left.ids c s k hh;
            size = length-set img p v ∙ left.size;
            marked = marked_byte g cylinder old fits img v (No now) at p st own (omega arith) left.marked;
          })
        where
          new : (i : ℕ) → (length bytes ≤ i) ⊎ (i < length bytes) → i < length bytes + 1
              → ((i : ℕ) → (i ≡ length bytes → ⊥) → get_or (set img p v) (at + 5 + i) 0 ≡ get_or img (at + 5 + i) 0)
              → get_or (set img p v) p 0 ≡ v
              → ((i : ℕ) → i < length bytes → get_or img (at + 5 + i) 0 ≡ get_or h.host (now * size_of g.n + i) 0)
              → get_or (set img p v) (at + 5 + i) 0 ≡ get_or h.host (now * size_of g.n + i) 0
          new i (inl a) b other same old_ones =
              let z : i ≡ length bytes = omega arith in
              rw (z, ← e) (same ∙ f)
          new i (inr a) b other same old_ones = other i (λ t. omega arith) ∙ old_ones i a

      -- all bytes in, its good mark
      abbrev good : ℕ
      good = byte_of (Data transfer.deleted false)

      pub left_finishes : length bytes ≡ size_of g.n → Left (set img at good) (noted_store (Some (put_at at good)) h)
      left_finishes z =
          let (st, hd) = half in
          let inside = stands_inside g cylinder old fits (No now) at st in
          let own : Inside g at at = record { from = omega arith; below = omega arith } in
          rw (some, eq-eqb at at refl)
          (record {
            finished = (
              st,
              record {
                mark = get_or-set_same img at good 0 (omega (arith, left.size));
                bytes = λ i l. get_or-set_other img at (at + 5 + i) good 0 (λ t. omega arith)
                    ∙ hd.new_bytes i (omega arith);
              },
              z,
              all_stay img h.host at good now at all st own h.finished (omega arith) left.finished,
            );
            begun = tt;
            ran_out = λ t. inr (last_short (record {
              host = h.host;
              told = h.told;
              finished = record { at = at; bytes = bytes } ∷ h.finished;
              begun = no_one;
            }) (λ k t. left.fed k (rw some (omega arith))));
            fed = λ k t. left.fed k (rw some (omega arith));
            no_further = λ k t. left.no_further k (rw some (omega arith));
            others = λ i a b. get_or-set_other img at i good 0 a.0.0 ∙ left.others i a.1 (rw some a.0);
            ids = λ c s k hh.
                ids_stay g cylinder old fits img good (No now) at at st own (λ j y w t. omega arith) c s k hh
                ∙ left.ids c s k hh;
            size = length-set img at good ∙ left.size;
            marked = marked_mark g cylinder old fits img at good st.marked left.marked;
          })

-- a store leaves the host's bytes
pub noted_host : (effect : Effect) (h : History) → (noted_store effect h).host ≡ h.host
noted_host None h = refl
noted_host (Some put) h = go h.begun
  where
    go : (b : Begun) → (stored_by put.at put.byte b h).host ≡ h.host
    go no_one = refl
    go (some_of mark bytes) =
        by_test (eqb put.at mark) (λ (x : History). x.host ≡ h.host) _ _ (λ t. refl) (λ t. refl)

-- and whether TC came
pub noted_told : (effect : Effect) (h : History) → (noted_store effect h).told ≡ h.told
noted_told None h = refl
noted_told (Some put) h = go h.begun
  where
    go : (b : Begun) → (stored_by put.at put.byte b h).told ≡ h.told
    go no_one = refl
    go (some_of mark bytes) =
        by_test (eqb put.at mark) (λ (x : History). x.told ≡ h.told) _ _ (λ t. refl) (λ t. refl)
