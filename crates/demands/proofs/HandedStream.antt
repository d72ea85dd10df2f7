-- The FIFO of a read as a stream (01 FIFO, to host; 01 Read): what the host took and what is held behind it are the
-- bytes of the command's sectors, in their order.
-- Assumes nothing.
use Prim.Native.Nat.{ℕ, suc, ◌+◌, ◌-◌, ◌*◌, ◌/◌, ◌%◌, ◌≤◌, ◌<◌}
use native.Mathlib.Nat.{add_comm, mod-eq_of_lt, div-eq_of_lt, add-mul-div_right, mul-add-mod_self_right, div-lt_iff_lt-mul}
use native.Mathlib.Omega.{arith}
use mathlib.Core.Bool.{Bool, true, false, ◌||◌, or-true, true≢false, false≢true}
use mathlib.Core.List.{List, [], ◌∷◌, ◌++◌, append_assoc}
use mathlib.Core.Logic.{◌⊎◌, inl, inr}
use mathlib.Core.Path.{◌≡◌, refl, sym, ap, ◌∙◌, subst}
use lib.Dec.{ltb}
use lib.ListN.{length, get_or, length-append, get_or-append}
use lib.Pow.{pow_pos}
use lib.Seq.{get_or-append_seam, length-take-le}
use borrow.Author.Tests.{ltb-true}
use Rattle.image.proofs.TestLaws.{by_test, both, le_or_lt}
use Rattle.image.specs.declared.layout.Geometry.{Geometry}
use Rattle.image.specs.Layout.{size_of}
use Rattle.chip.specs.declared.fifo.Fifo.{Fifo}
use Rattle.chip.specs.Fifo.{capacity_of, full_of, held, front_of, emptied, shut, taken_of, filled_of, FitsFifo}
use Rattle.chip.proofs.FifoLaws.{taken_held, filled_held, filled_tc_same}
use Rattle.sectors.specs.declared.order.Transfer.{Transfer}
use Rattle.demands.specs.HandedOver.{Taken, untaken, took_one, OfKind, Comes, AllCome}
use Rattle.demands.specs.PowerCut.{InReach, Aim, aim_no, Stands}

-- 01 FIFO, to host: a request is on only with a byte held
abbrev pub AsksSome : Fifo → Type 0
AsksSome f = f.asks ≡ true → 0 < f.count

pub some_emptied : AsksSome emptied
some_emptied a = absurd (false≢true a)

pub some_shut : AsksSome shut
some_shut a = absurd (false≢true a)

pub some_taken : (tc : Bool) (f : Fifo) → AsksSome (taken_of tc f)
unfolding taken_of
some_taken true f a = absurd (false≢true a)
some_taken false f a = ltb-true 0 (f.count - 1) (both f.asks (ltb 0 (f.count - 1)) a).1

pub some_filled : (efifo : Bool) (fifothr : ℕ) (last : Bool) (byte : ℕ) (f : Fifo) → AsksSome f
    → AsksSome (filled_of efifo fifothr last byte f)
unfolding filled_of
some_filled efifo fifothr last byte f s =
    by_test (f.tc || full_of efifo f) AsksSome _ _ (λ t. s) (λ t a. omega arith)

filled_count : (efifo : Bool) (fifothr : ℕ) (last : Bool) (byte : ℕ) (f : Fifo) → f.tc ≡ false
    → full_of efifo f ≡ false → (filled_of efifo fifothr last byte f).count ≡ f.count + 1
unfolding filled_of
filled_count efifo fifothr last byte f t r = simp (t, r)

filled_tc : (efifo : Bool) (fifothr : ℕ) (last : Bool) (byte : ℕ) (f : Fifo)
    → (filled_of efifo fifothr last byte f).tc ≡ f.tc
unfolding filled_of
filled_tc efifo fifothr last byte f =
    by_test (f.tc || full_of efifo f) (λ (x : Fifo). x.tc ≡ f.tc) _ _ (λ t. refl) (λ t. refl)

taken_count : (f : Fifo) → (taken_of false f).count ≡ f.count - 1
unfolding taken_of
taken_count f = refl

taken_tc : (f : Fifo) → (taken_of false f).tc ≡ f.tc
unfolding taken_of
taken_tc f = refl

told_count : (f : Fifo) → (taken_of true f).count ≡ 0
unfolding taken_of
told_count f = refl

told_tc : (f : Fifo) → (taken_of true f).tc ≡ true
unfolding taken_of
told_tc f = refl

told_asks : (f : Fifo) → (taken_of true f).asks ≡ false
unfolding taken_of
told_asks f = refl

capacity_most : (b : Bool) → capacity_of b ≤ 16
capacity_most true = omega arith
capacity_most false = omega arith

pub size_some : (n : ℕ) → 0 < size_of n
unfolding size_of
size_some n = omega (arith, pow_pos (n % 4))

-- byte number n P + d is byte d of sector n
split_div : (p n d : ℕ) → d < p → (n * p + d) / p ≡ n
split_div p n d l =
    ap (λ (x : ℕ). x / p) (add_comm (n * p) d) ∙ add-mul-div_right d n {z = p} (omega arith)
    ∙ ap (λ (x : ℕ). x + n) (div-eq_of_lt {n = d} {m = p} l) ∙ omega arith

split_mod : (p n d : ℕ) → d < p → (n * p + d) % p ≡ d
split_mod p n d l = mul-add-mod_self_right n p d ∙ mod-eq_of_lt {n = d} {m = p} l

module _ (g : Geometry) (cylinder : ℕ) (transfer : Transfer) (aim : Aim) (img : List ℕ) (num : ℕ → ℕ) where
  abbrev P : ℕ
  P = size_of g.n

  abbrev Come : List ℕ → Type 0
  Come got = AllCome g cylinder transfer aim img num got

  come_none : Come []
  come_none k l = absurd (omega arith)

  -- a first part of the stream
  come_part : (got rest : List ℕ) → Come (got ++ rest) → Come got
  come_part got rest all k l =
      subst (λ (b : ℕ). Comes g cylinder transfer aim img num k b) (get_or-append got rest 0 k l)
      (all k (rw length-append (omega arith)))

  -- one byte more
  come_more : (src : List ℕ) (byte n d at : ℕ) → Come src → length src ≡ n * P + d → d < P
      → Stands g img cylinder (aim_no transfer aim (num n)) at → InReach transfer aim (num n)
      → (transfer.sk ≡ true → OfKind transfer.deleted (get_or img at 0)) → byte ≡ get_or img (at + 5 + d) 0 → Come (src ++ (byte ∷ []))
  come_more src byte n d at all size l stands reach own is k lk = go (le_or_lt (length src) k)
    where
      go : (length src ≤ k) ⊎ (k < length src)
          → Comes g cylinder transfer aim img num k (get_or (src ++ (byte ∷ [])) k 0)
      go (inr m) =
          subst (λ (b : ℕ). Comes g cylinder transfer aim img num k b) (sym (get_or-append src (byte ∷ []) 0 k m)) (all k m)
      go (inl m) =
          let z : k ≡ length src = omega (arith, length-append src (byte ∷ [])) in
          let y : k ≡ n * P + d = z ∙ size in
          let q : k / P ≡ n = ap (λ (x : ℕ). x / P) y ∙ split_div P n d l in
          let r : k % P ≡ d = ap (λ (x : ℕ). x % P) y ∙ split_mod P n d l in
          let b : get_or (src ++ (byte ∷ [])) k 0 ≡ byte =
          ap (λ (x : ℕ). get_or (src ++ (byte ∷ [])) x 0) z ∙ get_or-append_seam src byte [] 0 in
          record {
            at = at;
            stands = subst (λ (x : ℕ). Stands g img cylinder (aim_no transfer aim (num x)) at) (sym q) stands;
            reach = subst (λ (x : ℕ). InReach transfer aim (num x)) (sym q) reach;
            own = own;
            is = b ∙ is ∙ ap (λ (x : ℕ). get_or img (at + 5 + x) 0) (sym r);
          }

  -- n sectors are done, and `done` bytes of the next: before TC what was taken and what is held are these bytes, and
  -- none is held of a sector before; after TC nothing is held, and the last byte taken was one of sector n; nothing is
  -- held after a late byte either (02 2026-02)
  pub data Flow (late : Bool) (n done : ℕ) (f : Fifo) (t : Taken) : Type 0 where
    flows : f.tc ≡ false → t.told ≡ false → n * P ≤ length t.got → length t.got + f.count ≡ n * P + done
        → Come (t.got ++ held f) → Flow late n done f t
    ended : f.tc ≡ true → (late ≡ false → t.told ≡ true) → f.count ≡ 0 → f.asks ≡ false → Come t.got
        → (late ≡ false → n * P < length t.got) → length t.got ≤ n * P + P → Flow late n done f t

  pub flow_fresh : Flow false 0 0 emptied untaken
  flow_fresh = flows refl refl (omega arith) (omega arith) come_none

  pub flow_got : {late : Bool} {n done : ℕ} {f : Fifo} {t : Taken} → Flow late n done f t → Come t.got
  flow_got {late} {n} {done} {f} {t} (flows a b c d e) = come_part t.got (held f) e
  flow_got (ended a b c d e x y) = e

  pub flow_next : {late : Bool} {n done : ℕ} {f : Fifo} {t : Taken} → Flow late n done f t → done ≡ P → f.count ≡ 0
      → f.tc ≡ false → Flow late (suc n) 0 f t
  flow_next (flows a b c d e) l z u = flows a b (omega (arith, d, l, z)) (omega (arith, d, l, z)) e
  flow_next (ended a b c d e x y) l z u = absurd (true≢false (sym a ∙ u))

  pub flow_most : {late : Bool} {n done : ℕ} {f : Fifo} {t : Taken} → Flow late n done f t → done ≤ P
      → length t.got ≤ n * P + P
  flow_most (flows a b c d e) l = omega (arith, d)
  flow_most (ended a b c d e x y) l = y

  -- a byte is lost, and all that the FIFO held
  pub flow_lost : {late : Bool} {n done : ℕ} {f : Fifo} {t : Taken} (done' : ℕ) → Flow late n done f t → done ≤ P
      → Flow true n done' shut t
  flow_lost done' fl l =
      ended refl (λ e. absurd (true≢false e)) refl refl (flow_got fl) (λ e. absurd (true≢false e)) (flow_most fl l)

  module _ (efifo late : Bool) (n done : ℕ) (f : Fifo) (t : Taken) (fits : FitsFifo efifo f) where
    within : f.count ≤ length f.bytes
    within = omega (arith, fits.sixteen, fits.within, capacity_most efifo)

    held_size : length (held f) ≡ f.count
    held_size = length-take-le f.count f.bytes within

    pub flow_fill : (fifothr : ℕ) (last : Bool) (byte at : ℕ) → Flow late n done f t → done < P
        → Stands g img cylinder (aim_no transfer aim (num n)) at → InReach transfer aim (num n)
        → (transfer.sk ≡ true → OfKind transfer.deleted (get_or img at 0)) → byte ≡ get_or img (at + 5 + done) 0
        → (f.tc ≡ false → full_of efifo f ≡ false) → Flow late n (done + 1) (filled_of efifo fifothr last byte f) t
    flow_fill fifothr last byte at (flows a b c d e) l stands reach own is room =
        let r = room a in
        let src : List ℕ = t.got ++ held f in
        let size : length src ≡ n * P + done = length-append t.got (held f) ∙ omega (arith, held_size, d) in
        let all : Come (src ++ (byte ∷ [])) = come_more src byte n done at e size l stands reach own is in
        flows (filled_tc efifo fifothr last byte f ∙ a) b c
        (omega (arith, filled_count efifo fifothr last byte f a r, d))
        (subst Come (append_assoc t.got (held f) (byte ∷ [])
        ∙ ap (λ (x : List ℕ). t.got ++ x) (sym (filled_held efifo fifothr last byte f a r fits.sixteen))) all)
    flow_fill fifothr last byte at (ended a b c d e x y) l stands reach own is room =
        rw (filled_tc_same efifo fifothr last byte f a) (ended a b c d e x y)

    pub flow_take : (tc : Bool) → Flow late n done f t → done ≤ P → f.asks ≡ true → AsksSome f
        → Flow late n done (taken_of tc f) (took_one (front_of f) tc t)
    flow_take tc (ended a b c d e x y) l asks s = absurd (true≢false (sym asks ∙ d))
    flow_take tc (flows a b c d e) l asks s = go tc
      where
        some : 0 < f.count
        some = s asks

        all : Come ((t.got ++ (front_of f ∷ [])) ++ held (taken_of false f))
        all =
            subst Come (ap (λ (x : List ℕ). t.got ++ x) (taken_held f some within)
            ∙ sym (append_assoc t.got (front_of f ∷ []) (held (taken_of false f)))) e

        size : length (t.got ++ (front_of f ∷ [])) ≡ length t.got + 1
        size = length-append t.got (front_of f ∷ [])

        go : (tc : Bool) → Flow late n done (taken_of tc f) (took_one (front_of f) tc t)
        go true =
            ended (told_tc f) (λ _. or-true t.told) (told_count f) (told_asks f)
            (come_part (t.got ++ (front_of f ∷ [])) (held (taken_of false f)) all) (λ _. omega (arith, size)) (omega (arith, size, d, some))
        go false =
            flows (taken_tc f ∙ a) (rw b) (omega (arith, size)) (omega (arith, size, d, taken_count f, some)) all

-- a sector is skipped: the numbers of those read stay
module _ (g : Geometry) (cylinder : ℕ) (transfer : Transfer) (aim : Aim) (img : List ℕ) (num num' : ℕ → ℕ) where
  pub come_skip : (n : ℕ) (src : List ℕ) → ((j : ℕ) → j < n → num' j ≡ num j) → length src ≤ n * size_of g.n
      → AllCome g cylinder transfer aim img num src → AllCome g cylinder transfer aim img num' src
  come_skip n src stay l all k lk =
      let c = all k lk in
      let below : k / size_of g.n < n = (div-lt_iff_lt-mul {x = k} {y = n} (size_some g.n)).1 (omega arith) in
      record {
        at = c.at;
        stands = subst (λ (x : ℕ). Stands g img cylinder (aim_no transfer aim x) c.at) (sym (stay _ below)) c.stands;
        reach = subst (λ (x : ℕ). InReach transfer aim x) (sym (stay _ below)) c.reach;
        own = c.own;
        is = c.is;
      }

  pub flow_skip : (efifo late : Bool) (n : ℕ) (f : Fifo) (t : Taken) → FitsFifo efifo f
      → ((j : ℕ) → j < n → num' j ≡ num j) → f.tc ≡ false → Flow g cylinder transfer aim img num late n 0 f t
      → Flow g cylinder transfer aim img num' late n 0 f t
  flow_skip efifo late n f t fits stay u (flows a b c d e) =
      flows a b c d
      (come_skip n (t.got ++ held f) stay
      (omega (
        arith,
        length-append t.got (held f),
        held_size g cylinder transfer aim img num efifo late n 0 f t fits,
        d,
      )) e)
  flow_skip efifo late n f t fits stay u (ended a b c d e x y) = absurd (true≢false (sym a ∙ u))
