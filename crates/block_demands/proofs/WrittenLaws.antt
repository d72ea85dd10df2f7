-- A block written (02 2026-01; specs/BlockWrites): its command finishes one sector, which is the block's slot.
-- Assumes nothing.
use Rattle.std.specs.Prelude.{Some}
use Prim.Native.Nat.{ℕ, zero, suc, ◌+◌, ◌*◌, ◌≤◌}
use native.Mathlib.Omega.{arith}
use mathlib.Core.Bool.{true, false, false≢true}
use mathlib.Core.List.{List, [], ◌∷◌, ◌++◌}
use mathlib.Core.Path.{◌≡◌, refl, sym, ap, ◌∙◌, subst}
use lib.ListN.{length}
use Rattle.image.specs.declared.layout.Geometry.{Geometry}
use Rattle.image.specs.Disk.{disk_in}
use Rattle.image.specs.Lent.{pick_of}
use Rattle.image.specs.Sound.{Sound}
use Rattle.sectors.specs.declared.order.Order.{Order}
use Rattle.sectors.specs.declared.order.Pass.TheVariants.{Write}
use Rattle.sectors.specs.declared.order.Transfer.{Transfer}
use Rattle.fdc.specs.declared.record.Controller.{Controller}
use Rattle.fdc.specs.declared.record.Phase.TheVariants.{Answering}
use Rattle.reached.specs.Runs.{Call, after, run_calls}
use Rattle.demands.specs.Acknowledged.{result_byte, result_id, AllSafe, Acknowledges}
use Rattle.demands.specs.EndsInTime.{bound_of}
use Rattle.demands.specs.History.{History, no_history, history_by, history_of}
use Rattle.demands.specs.PowerCut.{Writes, Aim, aim_no, Counts, Stands, LeftBy, head_of}
use Rattle.demands.specs.Quiet.{Quiet}
use Rattle.demands.specs.Succeeds.{IsThere, Noting, Tells, Success}
use Rattle.demands.specs.Work.{at_work, Its, Alone, image_left}
use Rattle.demands.proofs.AcknowledgedLaws.{acknowledged_quiet}
use Rattle.demands.proofs.HandedStream.{size_some}
use Rattle.demands.proofs.PowerCutLaws.{power_cut_quiet}
use Rattle.demands.proofs.SoundLaws.{stays_sound_quiet}
use Rattle.demands.proofs.SucceedsLaws.{write_succeeds_quiet}
use Rattle.block.specs.declared.place.Place.{Place}
use Rattle.block.specs.declared.request.Reply.TheVariants.{Ended}
use Rattle.block.specs.Box.{Box, with_record}
use Rattle.block.specs.Place.{place_of}
use Rattle.block.specs.Request.{ending_of, WriteDone, write_block}
use Rattle.block_demands.specs.Asked.{image_of, Asked, transfer_of, id_of, Slot}
use Rattle.block_demands.specs.BlockIsCalls.{result_of}
use Rattle.block_demands.specs.BlockReads.{normal_end, next_id}
use Rattle.block_demands.specs.BlockWrites.{Stored, Written, BlockWrites}
use Rattle.block_demands.specs.Made.{box_after}
use Rattle.block_demands.proofs.CourseLaws.{alone_picked}
use Rattle.block_demands.proofs.EndLaws.{idles, enough, spins_on, alone_on, at_ticks_on, noting_on, ends_there}
use Rattle.block_demands.proofs.ImagesLaws.{own_image, other_image}
use Rattle.block_demands.proofs.RequestLaws.{small, ready_there, waiting, image_there, said_free}
use Rattle.block_demands.proofs.StandsLaws.{slot_stands}
use Rattle.block_demands.proofs.StatusLaws.{status_bytes}
use Rattle.block_demands.proofs.StoredLaws.{starts_all, stored}
use Rattle.block_demands.proofs.WriteDoneLaws as done

-- what holds after each of the calls, and before them, holds behind them
noting_last : (P : History → Type 0) (calls : List Call) (c : Controller) (h : History) → Its calls c → P h
    → Noting P calls c h → P (history_of calls c h)
unfolding Its Noting history_of
noting_last P [] c h i x n = x
noting_last P (call ∷ calls) c h i x n =
    let (now, rest) = n i.0 in noting_last P calls (after call c) (history_by call c h) i.1 now rest

module _ (drive block : ℕ) (s : Box) (g : Geometry) (bytes : List ℕ) (asked : Asked drive block s g bytes)
    (sound : Sound g (image_of drive s)) (free : g.protect ≡ false) (mark at : ℕ) (counts : Counts mark)
    (slot : Slot g (image_of drive s) block mark at) where
  abbrev place : Place
  place = place_of g block

  abbrev transfer : Transfer
  transfer = transfer_of Write g

  abbrev aim : Aim
  aim = record { id = id_of g place; side = place.side }

  abbrev begins : Controller
  begins = done.begins drive block s g bytes asked

  abbrev order : Order
  order = done.order drive block s g bytes asked

  abbrev old : List ℕ
  old = done.old drive block s g bytes asked

  abbrev calls : List Call
  calls = (done.loop drive block s g bytes asked).calls

  abbrev starts : Box
  starts = with_record begins (waiting drive block s g bytes asked)

  abbrev ends : Box
  ends = (done.served_by drive block s g bytes asked).box

  abbrev h : History
  h = history_of calls begins no_history

  -- what the command starts from
  quiet : Quiet begins
  quiet = (done.begun drive block s g bytes asked).lit.quiet

  disk : disk_in old ≡ Some g
  disk = done.disk drive block s g bytes asked

  old_is : old ≡ image_of drive s
  old_is = image_there drive block s g bytes asked

  old_sound : Sound g old
  old_sound = rw old_is sound

  old_slot : Slot g old block mark at
  old_slot = rw old_is slot

  writes : Writes begins order transfer (id_of g place)
  writes = record { accepted = (done.begun drive block s g bytes asked).starts; moves = refl; writes = refl }

  head : head_of order begins ≡ place.cylinder
  head = (done.begun drive block s g bytes asked).head

  -- its calls, up to its end
  its : Its calls begins
  its = (done.loop drive block s g bytes asked).course.its

  alone : Alone drive old calls begins
  alone = alone_picked drive asked.drive_is calls starts (done.loop drive block s g bytes asked).course.handed

  leads : run_calls calls begins ≡ ends.controller
  leads = done.leads drive block s g bytes asked

  said : (run_calls calls begins).phase ≡ Answering true
  said = rw leads (done.ended drive block s g bytes asked).said

  over : at_work (run_calls calls begins).phase ≡ false
  over = ap at_work said

  -- its one sector is there, so it ends with IC 00 and the next address (01 Next, Result)
  stands : Stands g old place.cylinder aim at
  stands = slot_stands g old block mark at old_slot counts

  there : (k : ℕ) → k ≤ 0 → IsThere g old place.cylinder (aim_no transfer aim k)
  there zero l = record { at = at; stands = stands }
  there (suc k) l = absurd (omega arith)

  succeeds : Success order transfer aim 0 (run_calls calls begins)
  succeeds =
      let x = done.loop drive block s g bytes asked in
      let more = idles (bound_of g) in
      ends_there _ more calls begins its over
      (write_succeeds_quiet begins quiet order transfer (id_of g place) writes old g
      (record { present = disk; unprotected = free }) (length bytes) 0
      (record { more = omega (arith, asked.size, size_some g.n); most = omega (arith, asked.size) })
      (record { there = rw head there; on = λ k l. absurd (omega arith) })
      (calls ++ more) (spins_on drive more calls begins x.course.spins over)
      (alone_on drive old more calls begins alone over) (at_ticks_on _ more calls begins x.course.prompt over)
      (noting_on (Tells (length bytes)) more calls begins no_history x.tells over) (enough (bound_of g) calls))

  -- TC came with the last byte, and not before
  told_all : h.told ≡ true → length bytes ≤ length h.host
  told_all =
      (noting_last (Tells (length bytes)) calls begins no_history its
      (λ e. absurd (false≢true e), λ l. absurd (omega (arith, asked.size, size_some g.n)))
      (done.loop drive block s g bytes asked).tells).0

  -- so every byte is in a finished sector, and that is all it leaves
  acknowledges : Acknowledges g transfer aim h (result_byte 0 (run_calls calls begins))
      (result_byte 1 (run_calls calls begins)) (result_byte 2 (run_calls calls begins)) (result_id (run_calls calls begins))
  acknowledges =
      acknowledged_quiet begins quiet order transfer (id_of g place) writes old g disk calls its alone said

  st0 : result_byte 0 (run_calls calls begins) ≡ 4 * place.side + drive
  st0 =
      let x = small drive block s g bytes asked in
      succeeds.st0 ∙ omega (arith, x.side, x.drive_is)

  safe : AllSafe g h
  safe =
      let x = small drive block s g bytes asked in
      acknowledges.normal (omega (arith, st0, x.side, x.drive_is))

  left : LeftBy g place.cylinder transfer aim old (image_left drive old calls begins) h
  left =
      subst (λ (n : ℕ). LeftBy g n transfer aim old (image_left drive old calls begins) h) head
      (power_cut_quiet begins quiet order transfer (id_of g place) writes old g disk calls its alone)

  slot_stored : Stored g at old (image_left drive old calls begins) bytes
  slot_stored =
      stored g block mark at old (image_left drive old calls begins) bytes old_sound counts old_slot asked.size h
      (starts_all h.host bytes (done.loop drive block s g bytes asked).host (told_all safe.told)) left
      safe.none safe.all

  image_sound : Sound g (image_left drive old calls begins)
  image_sound = stays_sound_quiet begins quiet order transfer (id_of g place) writes old g old_sound calls its alone

  -- taking the result changes no image
  boxes : box_after calls starts ≡ ends
  boxes = (done.loop drive block s g bytes asked).course.leads

  images : (k : ℕ) → image_of k (write_block drive block s bytes).box ≡ image_of k (box_after calls starts)
  images k =
      ap (λ (w : WriteDone). image_of k w.box) (done.write_ends drive block s g bytes asked)
      ∙ sym (ap (image_of k) boxes)

  own : image_of drive (write_block drive block s bytes).box ≡ image_left drive old calls begins
  own = images drive ∙ own_image drive asked.drive_is calls starts

  -- the seven status bytes
  seven : result_of (run_calls calls begins) ≡ normal_end drive g block 0x00 (next_id g block)
  seven =
      let id = succeeds.address in
      λ i. st0 i ∷ succeeds.st1 i ∷ succeeds.st2 i ∷ (id i).c ∷ (id i).h ∷ (id i).r ∷ (id i).n ∷ []

  reply : (write_block drive block s bytes).reply ≡ Ended (ending_of (normal_end drive g block 0x00 (next_id g block)))
  reply =
      let q = (done.loop drive block s g bytes asked).course.lit.quiet in
      let e = done.ended drive block s g bytes asked in
      ap (λ (w : WriteDone). w.reply) (done.write_ends drive block s g bytes asked)
      ∙ ap (λ (l : List ℕ). Ended (ending_of l))
      (status_bytes ends.controller q (said_free ends.controller q e.said) e.said e.left
      ∙ sym (ap result_of leads) ∙ seven)

  other : (k : ℕ) → (k ≡ drive → ⊥) → image_of k (write_block drive block s bytes).box ≡ image_of k s
  other k n =
      let p = (ready_there drive block s g bytes asked).1 in
      images k
      ∙ other_image starts quiet order (done.begun drive block s g bytes asked).starts calls its k n
      ∙ (λ i. pick_of k (p.first i) (p.second i))

  written : Written drive block s g at bytes (write_block drive block s bytes)
  written = record {
    reply = reply;
    stored = rw (own, ← old_is) slot_stored;
    other = other;
    sound = rw own image_sound;
  }

pub block_writes : BlockWrites
block_writes drive block s g bytes asked sound free mark at counts slot =
    written drive block s g bytes asked sound free mark at counts slot
