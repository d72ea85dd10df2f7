-- Power may go after any call of a block write (02 2026-01, demand 3): a first part of its calls ends before the
-- command, in it or behind it, and only the command's own calls change the image.
-- Assumes nothing.
use Prim.Native.Nat.{ℕ, zero, suc, ◌+◌, ◌<◌, ◌≤◌}
use native.Mathlib.Omega.{arith}
use native.Mathlib.Nat.{min-le_right}
use mathlib.Core.Bool.{Bool, true}
use mathlib.Core.List.{List, [], ◌++◌, append-nil, append_assoc}
use mathlib.Core.Logic.{◌⊎◌, inl, inr}
use mathlib.Core.Path.{◌≡◌, refl, sym, ap, ◌∙◌, subst}
use lib.ListN.{length, length-take}
use borrow.Author.Tests.{ne_eqb}
use Rattle.image.specs.declared.layout.Geometry.{Geometry}
use Rattle.image.specs.Lent.{pick_of}
use Rattle.image.proofs.TestLaws.{le_or_lt}
use Rattle.sectors.specs.declared.order.Order.{Order}
use Rattle.sectors.specs.declared.order.Pass.TheVariants.{Write}
use Rattle.fdc.specs.declared.record.Controller.{Controller}
use Rattle.reached.specs.Runs.{Call, run_calls}
use Rattle.demands.specs.History.{History, no_history, history_of}
use Rattle.demands.specs.PowerCut.{Aim, LeftBy, begun_ones}
use Rattle.demands.specs.Work.{Its, image_left, Alone}
use Rattle.demands.proofs.OtherLaws.{other_image_quiet}
use Rattle.demands.proofs.PowerCutLaws.{power_cut_quiet}
use Rattle.block.specs.declared.place.Place.{Place}
use Rattle.block.specs.declared.request.Reply.{Reply}
use Rattle.block.specs.Box.{Box, with_record, Came}
use Rattle.block.specs.Place.{place_of}
use Rattle.block.specs.Request.{budget_of, write_block}
use Rattle.block_demands.specs.Asked.{image_of, Asked, transfer_of, id_of, order_of}
use Rattle.block_demands.specs.BlockCut.{LeftOf, Cut, not_yet, at_work_law, over, CutAnywhere, BlockCut}
use Rattle.block_demands.specs.BlockIsCalls.{Calls}
use Rattle.block_demands.specs.Made.{box_after, AllHanded, Idles}
use Rattle.block_demands.proofs.CourseLaws.{Course, of_two, alone_picked}
use Rattle.block_demands.proofs.MadeLaws.{after_join, run_join, after_record, after_first, after_second}
use Rattle.block_demands.proofs.PartLaws.{Split, within, beyond, split}
use Rattle.block_demands.proofs.PartLaws.{its_part, idles_part, handed_part, handed_rest}
use Rattle.block_demands.proofs.PartLaws.{idle_image, other_left, host_part}
use Rattle.block_demands.proofs.RequestLaws as requesting
use Rattle.block_demands.proofs.WriteDoneLaws as writing
use Rattle.block_demands.proofs.WriteLoopLaws.{Starts}

-- the image of a drive that there is, after some calls
own_image : (drive : ℕ) → drive < 2 → (calls : List Call) (s : Box)
    → image_of drive (box_after calls s) ≡ image_left drive (image_of drive s) calls s.controller
own_image drive low calls s =
    of_two (λ k. image_of k (box_after calls s) ≡ image_left k (image_of k s) calls s.controller) drive low
    (after_first calls s) (after_second calls s)

-- the image of any drive but one: there are two
but_one : (drive k : ℕ) → (k ≡ drive → ⊥) → (a b a' b' : List ℕ) → ((0 ≡ drive → ⊥) → a ≡ a')
    → ((1 ≡ drive → ⊥) → b ≡ b') → pick_of k a b ≡ pick_of k a' b'
but_one drive zero n a b a' b' p q = p n
but_one drive (suc zero) n a b a' b' p q = q n
but_one drive (suc (suc k)) n a b a' b' p q =
    rw (ne_eqb (suc (suc k)) 0 (λ e. omega (arith, e)), ne_eqb (suc (suc k)) 1 (λ e. omega (arith, e)))

starts_short : (host bytes : List ℕ) → Starts host bytes → length host ≤ length bytes
starts_short host bytes e =
    let size : length host ≡ _ = ap length e ∙ length-take (length host) bytes in
    omega (arith, size, min-le_right (length host) (length bytes))

-- a request's calls, whose command was handed the caller's bytes
module _ (drive block : ℕ) (s t : Box) (g : Geometry) (bytes : List ℕ) (reply : Reply)
    (asked : Asked drive block s g bytes) (calls : Calls Write drive g (place_of g block) s t reply) where
  abbrev begins : Controller
  begins = run_calls calls.before s.controller

  abbrev order : Order
  order = order_of Write drive g (place_of g block)

  abbrev aim : Aim
  aim = record { id = id_of g (place_of g block); side = (place_of g block).side }

  -- the box that the command's first call is handed
  abbrev there : Box
  there = box_after calls.before s

  there_record : there.controller ≡ begins
  there_record = after_record calls.before s

  there_image : (k : ℕ) → image_of k there ≡ image_of k s
  there_image k = idle_image k calls.before s calls.still

  there_handed : AllHanded (calls.during ++ calls.behind) there
  there_handed = handed_rest calls.before (calls.during ++ calls.behind) s calls.handed

  -- its first calls
  module _ (some rest : List Call) (first : some ++ rest ≡ calls.during) where
    its : Its some begins
    its = its_part some rest begins (rw first calls.its)

    alone : Alone drive (image_of drive s) some begins
    alone =
        let all = handed_part calls.during calls.behind there there_handed in
        let those = handed_part some rest there (rw first all) in
        let a = alone_picked drive asked.drive_is some there those in
        subst (λ (c : Controller). Alone drive (image_of drive s) some c) there_record
        (subst (λ (img : List ℕ). Alone drive img some there.controller) (there_image drive) a)

    image : image_of drive (box_after (calls.before ++ some) s) ≡ image_left drive (image_of drive s) some begins
    image =
        ap (image_of drive) (after_join calls.before some s)
        ∙ own_image drive asked.drive_is some there
        ∙ (λ i. image_left drive (there_image drive i) some (there_record i))

    left : LeftBy g (place_of g block).cylinder (transfer_of Write g) aim (image_of drive s)
        (image_of drive (box_after (calls.before ++ some) s)) (history_of some begins no_history)
    left =
        let l = power_cut_quiet begins calls.quiet order (transfer_of Write g) (id_of g (place_of g block))
        (record { accepted = calls.starts; moves = refl; writes = refl }) (image_of drive s) g asked.disk some its
        alone in
        subst (λ (img : List ℕ). LeftBy g (place_of g block).cylinder (transfer_of Write g) aim (image_of drive s) img
        (history_of some begins no_history)) (sym image)
        (subst (λ (cylinder : ℕ). LeftBy g cylinder (transfer_of Write g) aim (image_of drive s)
        (image_left drive (image_of drive s) some begins) (history_of some begins no_history)) calls.head l)

    -- no call of the command changes another image
    spared : (k : ℕ) → (k ≡ drive → ⊥) → (img : List ℕ) → image_left k img some begins ≡ img
    spared k n img =
        other_left k img some begins its
        (λ more i. other_image_quiet begins calls.quiet order calls.starts more i k n)

    others : (k : ℕ) → (k ≡ drive → ⊥) → image_of k (box_after (calls.before ++ some) s) ≡ image_of k s
    others k n =
        ap (image_of k) (after_join calls.before some s)
        ∙ but_one drive k n _ _ _ _
        (λ m. after_first some there ∙ ap (image_left 0 there.first some) there_record ∙ spared 0 m there.first)
        (λ m. after_second some there ∙ ap (image_left 1 there.second some) there_record
        ∙ spared 1 m there.second)
        ∙ there_image k

  -- behind the command no image changes
  late : (more rest : List Call) → more ++ rest ≡ calls.behind → (k : ℕ)
      → image_of k (box_after (calls.before ++ (calls.during ++ more)) s)
      ≡ image_of k (box_after (calls.before ++ calls.during) s)
  late more rest first k =
      let u = box_after (calls.before ++ calls.during) s in
      let record_is : u.controller ≡ run_calls calls.during begins =
      after_record (calls.before ++ calls.during) s ∙ run_join calls.before calls.during s.controller in
      let idle : Idles more u.controller =
      subst (Idles more) (sym record_is) (idles_part more rest _ (rw first calls.idle)) in
      ap (λ (l : List Call). image_of k (box_after l s)) (sym (append_assoc calls.before calls.during more))
      ∙ ap (image_of k) (after_join (calls.before ++ calls.during) more s) ∙ idle_image k more u idle

  pub others_anywhere : (part rest : List Call) → part ++ rest ≡ calls.before ++ (calls.during ++ calls.behind)
      → (k : ℕ) → (k ≡ drive → ⊥) → image_of k (box_after part s) ≡ image_of k s
  others_anywhere part rest e k n = go (split part rest calls.before (calls.during ++ calls.behind) e)
    where
      inner : (some : List Call) → Split some rest calls.during calls.behind
          → image_of k (box_after (calls.before ++ some) s) ≡ image_of k s
      inner some (within more p) = others some more p k n
      inner some (beyond more p q) =
          rw p (late more rest q k ∙ others calls.during [] (append-nil calls.during) k n)

      go : Split part rest calls.before (calls.during ++ calls.behind) → image_of k (box_after part s) ≡ image_of k s
      go (within more p) = idle_image k part s (idles_part part more s.controller (rw p calls.still))
      go (beyond some p q) = rw p (inner some (split some rest calls.during calls.behind q))

  module _ (host : Starts (history_of calls.during begins no_history).host bytes) where
    left_of : (some rest : List Call) → some ++ rest ≡ calls.during
        → LeftOf block g bytes (image_of drive s) (image_of drive (box_after (calls.before ++ some) s))
        (history_of some begins no_history)
    left_of some rest first = record {
      left = l;
      host = own;
      one = go (le_or_lt 2 (length h.finished + begun_ones h.begun));
    }
      where
        h : History
        h = history_of some begins no_history

        l : LeftBy g (place_of g block).cylinder (transfer_of Write g) aim (image_of drive s)
            (image_of drive (box_after (calls.before ++ some) s)) h
        l = left some rest first

        own : Starts h.host bytes
        own = host_part some rest begins no_history bytes (rw first host)

        -- a second sector would have a byte past the block's
        go : (2 ≤ length h.finished + begun_ones h.begun) ⊎ (length h.finished + begun_ones h.begun < 2)
            → length h.finished + begun_ones h.begun ≤ 1
        go (inl m) = absurd (omega (arith, asked.size, starts_short h.host bytes own, l.fed 1 m))
        go (inr m) = omega (arith, m)

    abbrev CutAt : List Call → Type 0
    CutAt part =
        Cut block g bytes (image_of drive s) (image_of drive (box_after part s)) s.controller calls.before
        calls.during calls.behind part

    pub cut_anywhere : (part rest : List Call) → part ++ rest ≡ calls.before ++ (calls.during ++ calls.behind)
        → CutAt part
    cut_anywhere part rest e = go (split part rest calls.before (calls.during ++ calls.behind) e)
      where
        all : LeftOf block g bytes (image_of drive s) (image_of drive (box_after (calls.before ++ calls.during) s))
            (history_of calls.during begins no_history)
        all = left_of calls.during [] (append-nil calls.during)

        inner : (some : List Call) → part ≡ calls.before ++ some → Split some rest calls.during calls.behind
            → CutAt part
        inner some e₁ (within more p) = at_work_law some more e₁ p (rw e₁ (left_of some more p))
        inner some e₁ (beyond more p q) =
            over more rest (e₁ ∙ ap (λ (l : List Call). calls.before ++ l) p) q
            (rw (e₁, p, late more rest q drive) all)

        go : Split part rest calls.before (calls.during ++ calls.behind) → CutAt part
        go (within more p) =
            not_yet more p (idle_image drive part s (idles_part part more s.controller (rw p calls.still)))
        go (beyond some p q) = inner some p (split some rest calls.during calls.behind q)

module _ (drive block : ℕ) (s : Box) (g : Geometry) (bytes : List ℕ) (asked : Asked drive block s g bytes) where
  abbrev place : Place
  place = place_of g block

  abbrev p : Box
  p = requesting.waiting drive block s g bytes asked

  abbrev e : Controller
  e = writing.begins drive block s g bytes asked

  abbrev served : Came
  served = writing.served_by drive block s g bytes asked

  abbrev during : List Call
  during = (writing.loop drive block s g bytes asked).calls

  course : Course drive (budget_of g) (with_record e p) true served.box during
  course =
      subst (λ (x : Bool). Course drive (budget_of g) (with_record e p) x served.box during)
      (writing.ended drive block s g bytes asked).came (writing.loop drive block s g bytes asked).course

  -- the calls of the request, and what the host hands over in them
  record Given (t : Box) (reply : Reply) : Type 0 where
    calls : Calls Write drive g place s t reply
    host : Starts (history_of calls.during (run_calls calls.before s.controller) no_history).host bytes

  given : Given (write_block drive block s bytes).box (write_block drive block s bytes).reply
  unfolding requesting.parts
  given =
      let placed = (requesting.ready_there drive block s g bytes asked).1 in
      let begun = writing.begun drive block s g bytes asked in
      let ended = writing.ended drive block s g bytes asked in
      rw (writing.write_ends drive block s g bytes asked)
      (record {
        calls = requesting.parts Write drive g place s p placed e begun (budget_of g) served.box during course
            ended.said ended.left;
        host = rw (requesting.begins Write drive g place s p placed e begun (budget_of g) served.box during course
            ended.said ended.left) (writing.loop drive block s g bytes asked).host;
      })

  pub cut_so : CutAnywhere drive block s g bytes
  cut_so =
      let w = write_block drive block s bytes in
      record {
        calls = given.calls;
        cut = cut_anywhere drive block s w.box g bytes w.reply asked given.calls given.host;
        other = others_anywhere drive block s w.box g bytes w.reply asked given.calls;
      }

pub block_cut : BlockCut
block_cut = cut_so
