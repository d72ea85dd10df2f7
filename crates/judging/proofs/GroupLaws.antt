-- Laws of a pass over one group (02 2026-04): what the 256 marks tell of the slots passed.
-- Assumes nothing.
use Prim.Native.Nat.{ℕ, zero, suc, ◌+◌, ◌<◌, ◌≤◌}
use native.Mathlib.Omega.{arith}
use mathlib.Core.Bool.{Bool, true, false, ◌&&◌, not, true≢false}
use mathlib.Core.List.{List}
use mathlib.Core.Logic.{◌⊎◌, inl, inr}
use mathlib.Core.Path.{◌≡◌, refl, sym, ap, ◌∙◌}
use lib.Dec.{eqb}
use lib.ListN.{length, get_or, set, length-set, replicate}
use lib.Seq.{get_or-set_same, get_or-set_other}
use borrow.Author.Tests.{eqb-true, eqb-false}
use Rattle.std.specs.Prelude.{Option, None, Some, IfSome, unwrap_or}
use Rattle.std.specs.Option.{option_or}
use Rattle.image.specs.declared.slot.Slot.{Slot}
use Rattle.image.proofs.TestLaws.{both, le_or_lt}
use Rattle.judging.specs.Twice.{has_address, in_group, same_address, twice_at, First}
use Rattle.judging.specs.Group.{Single, Passed}
use Rattle.judging.proofs.TwiceLaws.{
  cannot,
  group_parts,
  parts_group,
  Same,
  same_parts,
  parts_same,
  some_found,
  none_some,
}

-- what was single stays so where a double is known earlier
pub single_shorter : (slots : ℕ → Slot) (end r j : ℕ) → r ≤ end → Single slots end j → Single slots r j
single_shorter slots end r j l s k a b = s k a (omega arith)

-- slot j has an address in the group of slot `lead`
abbrev pub member : (ℕ → Slot) → ℕ → ℕ → Bool
member slots lead j = has_address (slots j).mark && in_group (slots j).id (slots lead).id

-- the two tests of slot k, of its mark and of its group
pub member_is :
    (slots : ℕ → Slot) (lead k : ℕ) (slot first : Slot) (h g : Bool) → slot ≡ slots k → first ≡ slots lead
    → h ≡ has_address slot.mark → g ≡ in_group slot.id first.id → member slots lead k ≡ (h && g)
member_is slots lead k slot first h g e f p q = rw (p, q, e, f)

-- one of a group has its address: so is the other
same_member :
    (slots : ℕ → Slot) (lead j k : ℕ) → Same (slots j) (slots k) → member slots lead j ≡ true
    → member slots lead k ≡ true
same_member slots lead j k s m =
    let (_, g) = both (has_address (slots j).mark) _ m in
    let (c, h, n) = group_parts (slots j).id (slots lead).id g in
    let (c', h', n') = group_parts (slots j).id (slots k).id s.group in
    rw s.second (parts_group (slots k).id (slots lead).id (sym c' ∙ c, sym h' ∙ h, sym n' ∙ n))

member_same :
    (slots : ℕ → Slot) (lead j k : ℕ) → member slots lead j ≡ true → member slots lead k ≡ true
    → (slots j).id.r ≡ (slots k).id.r → same_address (slots j) (slots k) ≡ true
member_same slots lead j k p q r =
    let (x, g) = both (has_address (slots j).mark) _ p in
    let (y, d) = both (has_address (slots k).mark) _ q in
    let (c, h, n) = group_parts (slots j).id (slots lead).id g in
    let (c', h', n') = group_parts (slots k).id (slots lead).id d in
    parts_same (slots j) (slots k) (record {
      first = x;
      second = y;
      group = parts_group (slots j).id (slots k).id (c ∙ sym c', h ∙ sym h', n ∙ sym n');
      r = r;
    })

lead_member : (slots : ℕ → Slot) (lead : ℕ) → has_address (slots lead).mark ≡ true → member slots lead lead ≡ true
lead_member slots lead h = rw h (parts_group (slots lead).id (slots lead).id (refl, refl, refl))

-- before slot k: the marks are the R of the slots passed, no two of which are equal, and only those of the group are
-- done
pub record Passing
    (slots : ℕ → Slot)
    (lead : ℕ)
    (done : List Bool)
    (k : ℕ)
    (after seen : List Bool) : Type 0 where
  pub from : lead ≤ k
  pub marks : length seen ≡ 256
  pub size : length after ≡ length done
  pub met :
      (r : ℕ) → get_or seen r false ≡ true
      → (j : ℕ) × (lead ≤ j) × (j < k) × (member slots lead j ≡ true) × ((slots j).id.r ≡ r)
  pub all : (j : ℕ) → lead ≤ j → j < k → member slots lead j ≡ true → get_or seen (slots j).id.r false ≡ true
  pub single : (j : ℕ) → lead ≤ j → member slots lead j ≡ true → Single slots k j
  pub marked :
      (j : ℕ) → get_or after j false ≡ true
      → (get_or done j false ≡ true) ⊎ ((lead ≤ j) × (member slots lead j ≡ true))

clear : (n r : ℕ) → get_or (replicate n false) r false ≡ false
clear zero r = refl
clear (suc n) zero = refl
clear (suc n) (suc r) = clear n r

-- where a pass begins
pub pass_begins :
    (slots : ℕ → Slot) (lead : ℕ) (done : List Bool) → Passing slots lead done lead done (replicate 256 false)
pass_begins slots lead done =
    record {
      from = omega arith;
      marks = refl;
      size = refl;
      met = λ r h. absurd (true≢false (sym h ∙ clear 256 r));
      all = λ j a b m. absurd (omega arith);
      single = λ j a m k b d. absurd (omega arith);
      marked = λ j h. inl h;
    }

module _ (slots : ℕ → Slot) (lead k : ℕ) (done after seen : List Bool) (p : Passing slots lead done k after seen) where
  -- its R was met
  pub pass_twice : member slots lead k ≡ true → get_or seen (slots k).id.r false ≡ true → twice_at slots k ≡ true
  pass_twice m s =
      let (j, a, b, q, r) = p.met (slots k).id.r s in
      some_found (λ j. same_address (slots j) (slots k)) k j b (member_same slots lead j k q m r)

  -- wherever it ends
  pub pass_ends :
      (r end : ℕ) → r ≤ k → r ≤ end → (r < end → twice_at slots r ≡ true) → Passed slots lead end done r after
  pass_ends r end u l t =
      record {
        bounded = l;
        there = t;
        own = λ h. single_shorter slots k r lead u (p.single lead (omega arith) (lead_member slots lead h));
        marked = λ j h. go j (p.marked j h);
      }
    where
      go :
          (j : ℕ) → (get_or done j false ≡ true) ⊎ ((lead ≤ j) × (member slots lead j ≡ true))
          → (get_or done j false ≡ true) ⊎ Single slots r j
      go j (inl d) = inl d
      go j (inr (a, m)) = inr (single_shorter slots k r j u (p.single j a m))

  -- a slot of another group
  pub pass_other : member slots lead k ≡ false → Passing slots lead done (k + 1) after seen
  pass_other n =
      record {
        from = omega (arith, p.from);
        marks = p.marks;
        size = p.size;
        met = λ r h.
            let (j, a, b, q, e) = p.met r h in
            (j, a, omega arith, q, e);
        all = λ j a b m. p.all j a (below j b m) m;
        single = λ j a m i l b. single j a m i l (le_or_lt k i) b;
        marked = p.marked;
      }
    where
      below : (j : ℕ) → j < k + 1 → member slots lead j ≡ true → j < k
      below j b m = go (le_or_lt k j)
        where
          go : (k ≤ j) ⊎ (j < k) → j < k
          go (inl a) =
              let e : j ≡ k = omega arith in
              absurd (true≢false (sym m ∙ (rw e n)))
          go (inr a) = a

      single :
          (j : ℕ) → lead ≤ j → member slots lead j ≡ true → (i : ℕ) → j < i → (k ≤ i) ⊎ (i < k) → i < k + 1
          → same_address (slots j) (slots i) ≡ false
      single j a m i l (inr d) b = p.single j a m i l d
      single j a m i l (inl d) b =
          let e : i ≡ k = omega arith in
          cannot (same_address (slots j) (slots i)) (λ t.
          let q = same_member slots lead j i (same_parts (slots j) (slots i) t) m in
          true≢false (sym q ∙ (rw e n)))

  -- a slot of the group whose R is new
  pub pass_new :
      member slots lead k ≡ true → get_or seen (slots k).id.r false ≡ false → (slots k).id.r < 256
      → k < length done → Passing slots lead done (k + 1) (set after k true) (set seen (slots k).id.r true)
  pass_new m n f l =
      record {
        from = omega (arith, p.from);
        marks = simp length-set p.marks;
        size = simp length-set p.size;
        met = λ x h. met x (same_or_not x (slots k).id.r) h;
        all = λ j a b q. all j a b q (same_or_not (slots j).id.r (slots k).id.r) (le_or_lt k j);
        single = λ j a q i b d. single j a q i b (le_or_lt k i) d;
        marked = λ j h. marked j (same_or_not j k) h;
      }
    where
      same_or_not : (x y : ℕ) → (x ≡ y) ⊎ (x ≡ y → ⊥)
      same_or_not x y = go (eqb x y) refl
        where
          go : (t : Bool) → eqb x y ≡ t → (x ≡ y) ⊎ (x ≡ y → ⊥)
          go true e = inl (eqb-true x y e)
          go false e = inr (eqb-false x y e)

      met :
          (x : ℕ) → (x ≡ (slots k).id.r) ⊎ (x ≡ (slots k).id.r → ⊥)
          → get_or (set seen (slots k).id.r true) x false ≡ true
          → (j : ℕ) × (lead ≤ j) × (j < k + 1) × (member slots lead j ≡ true) × ((slots j).id.r ≡ x)
      met x (inl e) h = (k, p.from, omega arith, m, sym e)
      met x (inr d) h =
          let (j, a, b, q, e) = p.met x (sym (get_or-set_other seen (slots k).id.r x true false d) ∙ h) in
          (j, a, omega arith, q, e)

      all :
          (j : ℕ) → lead ≤ j → j < k + 1 → member slots lead j ≡ true
          → ((slots j).id.r ≡ (slots k).id.r) ⊎ ((slots j).id.r ≡ (slots k).id.r → ⊥) → (k ≤ j) ⊎ (j < k)
          → get_or (set seen (slots k).id.r true) (slots j).id.r false ≡ true
      all j a b q (inl e) c = rw e (get_or-set_same seen (slots k).id.r true false (omega (arith, p.marks)))
      all j a b q (inr d) (inl c) =
          let e : j ≡ k = omega arith in
          absurd (d (ap (λ (i : ℕ). (slots i).id.r) e))
      all j a b q (inr d) (inr c) =
          get_or-set_other seen (slots k).id.r (slots j).id.r true false d ∙ p.all j a c q

      single :
          (j : ℕ) → lead ≤ j → member slots lead j ≡ true → (i : ℕ) → j < i → (k ≤ i) ⊎ (i < k) → i < k + 1
          → same_address (slots j) (slots i) ≡ false
      single j a q i b (inr d) u = p.single j a q i b d
      single j a q i b (inl d) u =
          let e : i ≡ k = omega arith in
          cannot (same_address (slots j) (slots i)) (λ t.
          let r : (slots j).id.r ≡ (slots k).id.r
          = (same_parts (slots j) (slots i) t).r ∙ ap (λ (i : ℕ). (slots i).id.r) e in
          true≢false (sym (p.all j a (omega arith) q) ∙ (rw r n)))

      marked :
          (j : ℕ) → (j ≡ k) ⊎ (j ≡ k → ⊥) → get_or (set after k true) j false ≡ true
          → (get_or done j false ≡ true) ⊎ ((lead ≤ j) × (member slots lead j ≡ true))
      marked j (inl e) h = inr (rw e (p.from, m))
      marked j (inr d) h = p.marked j (sym (get_or-set_other after k j true false d) ∙ h)

-- a slot without an address is single
pub single_none : (slots : ℕ → Slot) (end j : ℕ) → has_address (slots j).mark ≡ false → Single slots end j
single_none slots end j h k a b =
    cannot (same_address (slots j) (slots k)) (λ t. true≢false (sym (same_parts (slots j) (slots k) t).first ∙ h))

-- the test of slot k's mark
pub address_is :
    (slots : ℕ → Slot) (k : ℕ) (slot : Slot) (h : Bool) → slot ≡ slots k → h ≡ has_address slot.mark
    → has_address (slots k).mark ≡ h
address_is slots k slot h e p = rw (p, e)

-- the double that a pass finds, or the one known
pub either_double :
    (a b : Option ℕ) (n : ℕ) → unwrap_or (option_or a b) n ≡ unwrap_or a (unwrap_or b n)
either_double None b n = refl
either_double (Some k) b n = refl

pub either_within :
    (a b : Option ℕ) (m n : ℕ) → m ≤ n → IfSome a (λ k. k < m) → IfSome b (λ k. k < n)
    → IfSome (option_or a b) (λ k. k < n)
either_within None b m n l p q = q
either_within (Some k) b m n l p q = omega arith

-- before slot k of the whole track: the double known, and no slot passed or marked has another before that one
pub record Looked (slots : ℕ → Slot) (total : ℕ) (done : List Bool) (end k : ℕ) : Type 0 where
  pub bounded : end ≤ total
  pub there : end < total → twice_at slots end ≡ true
  pub passed : (j : ℕ) → j < k → Single slots end j
  pub marked : (j : ℕ) → get_or done j false ≡ true → Single slots end j
  pub size : length done ≡ 256

pub look_begins : (slots : ℕ → Slot) (total : ℕ) → Looked slots total (replicate 256 false) total 0
look_begins slots total =
    record {
      bounded = omega arith;
      there = λ l. absurd (omega arith);
      passed = λ j l. absurd (omega arith);
      marked = λ j h. absurd (true≢false (sym h ∙ clear 256 j));
      size = refl;
    }

module _ (slots : ℕ → Slot) (total end k : ℕ) (done : List Bool) (p : Looked slots total done end k) where
  next : (r : ℕ) → r ≤ end → Single slots r k → (j : ℕ) → j < k + 1 → Single slots r j
  next r l s j b = go (le_or_lt k j)
    where
      go : (k ≤ j) ⊎ (j < k) → Single slots r j
      go (inl a) =
          let e : j ≡ k = omega arith in
          rw e s
      go (inr a) = single_shorter slots end r j l (p.passed j a)

  -- a slot without an address, or one that a pass has marked
  pub look_on :
      (has_address (slots k).mark && not (get_or done k false)) ≡ false → Looked slots total done end (k + 1)
  look_on h =
      record {
        bounded = p.bounded;
        there = p.there;
        passed = next end (omega arith) (go (has_address (slots k).mark) refl (get_or done k false) refl h);
        marked = p.marked;
        size = p.size;
      }
    where
      go :
          (t : Bool) → has_address (slots k).mark ≡ t → (u : Bool) → get_or done k false ≡ u
          → (has_address (slots k).mark && not (get_or done k false)) ≡ false → Single slots end k
      go false e u f h = single_none slots end k e
      go true e true f h = p.marked k f
      go true e false f h = absurd (true≢false (rw (e, f) at h))

  -- the pass of a new group
  pub look_passed :
      (r : ℕ) (after : List Bool) → has_address (slots k).mark ≡ true → Passed slots k end done r after
      → length after ≡ length done → Looked slots total after r (k + 1)
  look_passed r after h q l =
      record {
        bounded = omega (arith, p.bounded, q.bounded);
        there = λ b. there (le_or_lt end r) b;
        passed = next r q.bounded (q.own h);
        marked = λ j m. marked j (q.marked j m);
        size = l ∙ p.size;
      }
    where
      there : (end ≤ r) ⊎ (r < end) → r < total → twice_at slots r ≡ true
      there (inl a) b =
          let e : r ≡ end = omega (arith, q.bounded) in
          rw e (p.there (omega arith))
      there (inr a) b = q.there a

      marked : (j : ℕ) → (get_or done j false ≡ true) ⊎ Single slots r j → Single slots r j
      marked j (inl d) = single_shorter slots end r j q.bounded (p.marked j d)
      marked j (inr s) = s

  pub look_ends : end ≤ k → First (twice_at slots) total end
  look_ends l =
      record {
        bounded = p.bounded;
        before = λ i a. none_some (λ j. same_address (slots j) (slots i)) i
            (λ j b. p.passed j (omega arith) i b a);
        there = p.there;
      }
