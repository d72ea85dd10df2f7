-- A block under a good mark comes whole (02 2026-01, specs/BlockReads).
-- Assumes nothing.
use Prim.Native.Nat.{ℕ, zero, suc, ◌+◌, ◌*◌, ◌<◌, ◌≤◌}
use native.Mathlib.Omega.{arith}
use native.Mathlib.Nat.{div-eq_of_lt, mod-eq_of_lt, suc-mul}
use mathlib.Core.Bool.{Bool, true, false, false≢true}
use mathlib.Core.List.{List, [], ◌∷◌, ◌++◌}
use mathlib.Core.Path.{◌≡◌, refl, sym, ap, ◌∙◌, subst}
use lib.ListN.{length, get_or, drop, get_or-append}
use Rattle.image.specs.declared.layout.Geometry.{Geometry}
use Rattle.image.specs.declared.slot.Id.{Id}
use Rattle.image.specs.Layout.{size_of}
use Rattle.image.specs.Sound.{Sound}
use Rattle.sectors.specs.declared.order.Order.{Order}
use Rattle.sectors.specs.declared.order.Pass.TheVariants.{Read}
use Rattle.sectors.specs.declared.order.Transfer.{Transfer}
use Rattle.sectors.specs.Result.{st0_of}
use Rattle.fdc.specs.declared.record.Controller.{Controller}
use Rattle.fdc.specs.declared.record.Phase.TheVariants.{Answering}
use Rattle.reached.specs.Runs.{Call, after, run_calls}
use Rattle.demands.specs.Acknowledged.{result_byte, result_id}
use Rattle.demands.specs.EndsInTime.{bound_of}
use Rattle.demands.specs.HandedOver.{Reads, Taken, untaken, taken_by, taken_over, IsGood, HandedBy, IsByte}
use Rattle.demands.specs.InTime.{RequestOff}
use Rattle.demands.specs.OtherKind.{OtherEnded}
use Rattle.demands.specs.PowerCut.{Aim, aim_no, Stands, head_of, passing}
use Rattle.demands.specs.ReadSucceeds.{AsTaken, TellsAt}
use Rattle.demands.specs.Succeeds.{Success}
use Rattle.demands.specs.Work.{at_work, Its, Alone, image_left, EndsWith}
use Rattle.demands.proofs.HandedOverLaws.{handed_over_quiet, handed_plain_quiet}
use Rattle.demands.proofs.HandedStream.{size_some}
use Rattle.demands.proofs.OtherKindLaws.{reads_other_quiet}
use Rattle.demands.proofs.ReadSucceedsLaws.{read_succeeds_quiet}
use Rattle.block.specs.declared.place.Place.{Place}
use Rattle.block.specs.declared.request.Reply.TheVariants.{Ended}
use Rattle.block.specs.Box.{Box, with_record}
use Rattle.block.specs.Place.{place_of}
use Rattle.block.specs.Request.{ending_of, ReadDone, read_block}
use Rattle.block_demands.specs.Asked.{image_of, Asked, transfer_of, order_of, Slot}
use Rattle.block_demands.specs.BlockIsCalls.{result_of}
use Rattle.block_demands.specs.BlockReads.{
  own_id,
  next_id,
  normal_end,
  BothStay,
  Filled,
  WholeBlock,
  BlockReads,
  Came,
  SomeCame,
  BlockLeaves,
}
use Rattle.block_demands.proofs.CourseLaws.{alone_picked}
use Rattle.block_demands.proofs.EndLaws.{idles, enough, spins_on, alone_on, at_ticks_on, as_taken_on, ends_there}
use Rattle.block_demands.proofs.FilledLaws.{filled, filled_length}
use Rattle.block_demands.proofs.ReadDoneLaws as done
use Rattle.block_demands.proofs.RequestLaws.{small, ready_there, waiting, image_there, said_free}
use Rattle.block_demands.proofs.StandsLaws.{slot_stands, one_place}
use Rattle.block_demands.proofs.StatusLaws.{status_bytes}

-- what holds after each call holds at the end
taken_last : (P : Taken → Type 0) (calls : List Call) (c : Controller) (t : Taken) → AsTaken P calls c t → Its calls c
    → P t → P (taken_over calls c t)
unfolding AsTaken Its taken_over
taken_last P [] c t s i p = p
taken_last P (call ∷ calls) c t s i p =
    let (now, rest) = s i.0 in
    taken_last P calls (after call c) (taken_by call c t) rest i.1 now

module _ (drive block : ℕ) (s : Box) (g : Geometry) (out : List ℕ) (asked : Asked drive block s g out) where
  abbrev place : Place
  place = place_of g block

  abbrev order : Order
  order = order_of Read drive g place

  abbrev transfer : Transfer
  transfer = transfer_of Read g

  abbrev pub aim : Aim
  aim = record { id = own_id g block; side = place.side }

  abbrev begins : Controller
  begins = done.begins drive block s g out asked

  abbrev img : List ℕ
  img = image_of drive (waiting drive block s g out asked)

  abbrev calls : List Call
  calls = (done.loop drive block s g out asked).calls

  abbrev e : Controller
  e = (done.served_by drive block s g out asked).box.controller

  abbrev t : Taken
  t = taken_over calls begins untaken

  reads : Reads begins order transfer (own_id g block)
  reads = record { accepted = (done.begun drive block s g out asked).starts; moves = refl; reads = refl }

  its : Its calls begins
  its = (done.loop drive block s g out asked).course.its

  alone : Alone drive img calls begins
  alone =
      alone_picked drive asked.drive_is calls (with_record begins (waiting drive block s g out asked))
      (done.loop drive block s g out asked).course.handed

  over : at_work (run_calls calls begins).phase ≡ false
  over = rw (done.leads drive block s g out asked) (ap at_work (done.ended drive block s g out asked).said)

  handed : HandedBy begins (run_calls calls begins) order transfer (own_id g block) g img
      (image_left drive img calls begins) t
  handed =
      handed_over_quiet begins (done.begun drive block s g out asked).lit.quiet order transfer (own_id g block) reads
      img g (done.disk drive block s g out asked) calls its alone

  -- each byte that came
  byte_came : (i : ℕ) → i < length t.got → IsByte g (head_of order begins) transfer aim img i (get_or t.got i 0)
  byte_came i h =
      handed_plain_quiet begins (done.begun drive block s g out asked).lit.quiet order transfer (own_id g block) reads
      refl img g (done.disk drive block s g out asked) calls its alone i h

  most : length t.got ≤ size_of g.n
  most = (done.loop drive block s g out asked).most

  tells : TellsAt (size_of g.n) t
  tells =
      taken_last (TellsAt (size_of g.n)) calls begins untaken (done.loop drive block s g out asked).tells its
      (λ x. absurd (false≢true x), λ l. absurd (omega (arith, size_some g.n)))

  stay : BothStay s (read_block drive block s out).box
  stay =
      let p = (ready_there drive block s g out asked).1 in
      rw (done.read_ends drive block s g out asked)
      (record {
        first = (done.loop drive block s g out asked).first ∙ p.first;
        second = (done.loop drive block s g out asked).second ∙ p.second;
      })

  reply_is : (read_block drive block s out).reply ≡ Ended (ending_of (result_of e))
  reply_is =
      let lit = (done.loop drive block s g out asked).course.lit in
      let x = done.ended drive block s g out asked in
      rw (done.read_ends drive block s g out asked)
      (ap (λ (l : List ℕ). Ended (ending_of l))
      (status_bytes e lit.quiet (said_free e lit.quiet x.said) x.said x.left))

  out_is : (read_block drive block s out).out ≡ filled t.got out
  out_is =
      ap (λ (r : ReadDone). r.out) (done.read_ends drive block s g out asked)
      ∙ (done.loop drive block s g out asked).out

  same : img ≡ image_of drive s
  same = image_there drive block s g out asked

  head_is : head_of order begins ≡ place.cylinder
  head_is = (done.begun drive block s g out asked).head

  -- byte i of the slot there
  came : (i : ℕ) → i < length t.got → Came g (image_of drive s) block i (get_or t.got i 0)
  came i h =
      let x = byte_came i h in
      let low : i < size_of g.n = omega (arith, most) in
      let stands : Stands g (image_of drive s) place.cylinder aim x.at =
      subst (λ (l : List ℕ). Stands g l place.cylinder aim x.at) same
      (subst (λ (h : ℕ). Stands g img h aim x.at) head_is
      (subst (λ (k : ℕ). Stands g img (head_of order begins) (aim_no transfer aim k) x.at) (div-eq_of_lt low)
      x.stands)) in
      record {
        at = x.at;
        stands = stands;
        is = x.is ∙ ap (λ (k : ℕ). get_or img (x.at + 5 + k) 0) (mod-eq_of_lt low)
            ∙ ap (λ (l : List ℕ). get_or l (x.at + 5 + i) 0) same;
      }

  pub some_came : SomeCame drive block s g out (read_block drive block s out)
  some_came = record {
    status = ending_of (result_of e);
    reply = reply_is;
    got = t.got;
    out_is = out_is;
    most = most;
    bytes = came;
    images = stay;
  }

  -- all of them came: the slice is the block
  whole : Sound g (image_of drive s) → (at : ℕ) → Stands g (image_of drive s) place.cylinder aim at
      → length t.got ≡ size_of g.n → Filled g (image_of drive s) at (read_block drive block s out).out
  whole sound at there all = record {
    size = ap length out_is ∙ filled_length t.got out (omega (arith, most, asked.size)) ∙ asked.size;
    bytes = λ i h.
        let x = came i (omega (arith, all)) in
        ap (λ (l : List ℕ). get_or l i 0) out_is
        ∙ get_or-append t.got (drop (length t.got) out) 0 i (omega (arith, all)) ∙ x.is
        ∙ ap (λ (y : ℕ). get_or (image_of drive s) (y + 5 + i) 0)
        (one_place g (image_of drive s) sound place.cylinder aim x.at at x.stands there);
  }

  -- the status bytes of a normal end
  normal : (st2 : ℕ) (id : Id) → result_byte 0 e ≡ st0_of true drive place.side → result_byte 1 e ≡ 0x00
      → result_byte 2 e ≡ st2 → result_id e ≡ id → result_of e ≡ normal_end drive g block st2 id
  normal st2 id st0_is st1_is st2_is id_is =
      let st0 : result_byte 0 e ≡ 4 * place.side + drive =
      st0_is ∙ omega (arith, asked.drive_is, (small drive block s g out asked).side) in
      λ i.
      st0 i ∷ st1_is i ∷ st2_is i ∷ (id_is i).c ∷ (id_is i).h ∷ (id_is i).r ∷ (id_is i).n ∷ []

  -- the bound's ticks, with idle ones behind the end
  abbrev padded : List Call
  padded = calls ++ idles (bound_of g)

  module _ (sound : Sound g (image_of drive s)) where
    sound_there : Sound g img
    sound_there = rw same sound

    module _ (at : ℕ) where
      good : Slot g (image_of drive s) block 1 at
          → WholeBlock drive block s g at 0x00 (next_id g block) (read_block drive block s out)
      good slot =
          let x = done.loop drive block s g out asked in
          let there = slot_stands g (image_of drive s) block 1 at slot (omega arith, omega arith) in
          let stands : Stands g img (head_of order begins) aim at = rw (same, head_is) there in
          let ends : EndsWith (Success order transfer aim 0) padded begins =
          read_succeeds_quiet begins (done.begun drive block s g out asked).lit.quiet order transfer (own_id g block)
          reads img g sound_there (size_of g.n) 0
          (record { more = omega (arith, size_some g.n); most = omega arith })
          (record {
            good = λ k l. goods at stands (rw same slot.marked) k l;
            on = λ k l. absurd (omega arith);
          })
          padded (spins_on drive (idles (bound_of g)) calls begins x.course.spins over)
          (alone_on drive img (idles (bound_of g)) calls begins alone over)
          (at_ticks_on RequestOff (idles (bound_of g)) calls begins x.course.prompt over)
          (as_taken_on (TellsAt (size_of g.n)) (idles (bound_of g)) calls begins untaken x.tells over)
          (enough (bound_of g) calls) in
          let success : Success order transfer aim 0 e =
          subst (Success order transfer aim 0) (done.leads drive block s g out asked)
          (ends_there (Success order transfer aim 0) (idles (bound_of g)) calls begins its over ends) in
          let low : result_byte 0 e < 0x40 = omega (arith, success.st0, asked.drive_is) in
          let said : (run_calls calls begins).phase ≡ Answering true =
          rw (done.leads drive block s g out asked) (done.ended drive block s g out asked).said in
          let told : t.told ≡ true =
          ((handed.ends said).normal
          (subst (λ (y : Controller). result_byte 0 y < 0x40) (sym (done.leads drive block s g out asked)) low)
          (subst (λ (y : Controller). result_byte 2 y ≡ 0x00) (sym (done.leads drive block s g out asked))
          success.st2)).told in
          record {
            reply = reply_is ∙ ap (λ (l : List ℕ). Ended (ending_of l))
                (normal 0x00 (next_id g block) success.st0 success.st1 success.st2
                success.address);
            block_is = whole sound at there (omega (arith, most, tells.0 told));
            images = stay;
          }
        where
          goods : (at : ℕ) → Stands g img (head_of order begins) aim at → get_or img at 0 ≡ 1 → (k : ℕ) → k ≤ 0
              → IsGood g (head_of order begins) transfer aim img k
          goods at stands mark k l =
              let z : 0 ≡ k = omega arith in
              subst (IsGood g (head_of order begins) transfer aim img) z
              (record { at = at; stands = stands; mark = mark })

      deleted : Slot g (image_of drive s) block 2 at
          → WholeBlock drive block s g at 0x40 (own_id g block) (read_block drive block s out)
      deleted slot =
          let x = done.loop drive block s g out asked in
          let there = slot_stands g (image_of drive s) block 2 at slot (omega arith, omega arith) in
          let stands : Stands g img (head_of order begins) aim at = rw (same, head_is) there in
          let ends : EndsWith (OtherEnded order (own_id g block)) padded begins =
          reads_other_quiet begins (done.begun drive block s g out asked).lit.quiet order transfer (own_id g block)
          reads refl img g sound_there
          (record { at = at; stands = stands; mark = rw same slot.marked })
          padded (spins_on drive (idles (bound_of g)) calls begins x.course.spins over)
          (alone_on drive img (idles (bound_of g)) calls begins alone over)
          (at_ticks_on RequestOff (idles (bound_of g)) calls begins x.course.prompt over)
          (enough (bound_of g) calls) in
          let other : OtherEnded order (own_id g block) e =
          subst (OtherEnded order (own_id g block)) (done.leads drive block s g out asked)
          (ends_there (OtherEnded order (own_id g block)) (idles (bound_of g)) calls begins its over ends) in
          let low : result_byte 0 e < 0x40 = omega (arith, other.st0, asked.drive_is) in
          let said : (run_calls calls begins).phase ≡ Answering true =
          rw (done.leads drive block s g out asked) (done.ended drive block s g out asked).said in
          let end =
          (handed.ends said).other refl
          (subst (λ (y : Controller). result_byte 0 y < 0x40) (sym (done.leads drive block s g out asked)) low)
          (subst (λ (y : Controller). result_byte 2 y ≡ 0x40) (sym (done.leads drive block s g out asked))
          other.st2) in
          let none : handed.hands.n ≡ 0 = first_one handed.hands.n end.above in
          record {
            reply = reply_is ∙ ap (λ (l : List ℕ). Ended (ending_of l))
                (normal 0x40 (own_id g block) other.st0 other.st1 other.st2 other.address);
            block_is = whole sound at there (all t.told refl none end.all);
            images = stay;
          }
        where
          first_one : (n : ℕ) → n * size_of g.n < length t.got → n ≡ 0
          first_one zero h = refl
          first_one (suc n) h = absurd (omega (arith, most, suc-mul n (size_of g.n)))

          all : (told : Bool) → t.told ≡ told → handed.hands.n ≡ 0
              → (t.told ≡ false → length t.got ≡ (handed.hands.n + 1) * passing g)
              → length t.got ≡ size_of g.n
          all true u none f = omega (arith, most, tells.0 u)
          all false u none f = f u ∙ ap (λ (n : ℕ). (n + 1) * size_of g.n) none ∙ omega arith

pub block_reads : BlockReads
block_reads = record {
  good = λ drive block s g out asked sound at slot. good drive block s g out asked sound at slot;
  deleted = λ drive block s g out asked sound at slot. deleted drive block s g out asked sound at slot;
}

pub block_leaves : BlockLeaves
block_leaves drive block s g out asked = some_came drive block s g out asked
