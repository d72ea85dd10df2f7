-- Block calls (02 2026-01): what each leaves by its tests, and that the refusals 4, 1 and 2 are the service's.
-- Assumes nothing.
use Rattle.std.specs.Prelude.{None, Some}
use Prim.Native.Nat.{ℕ, ◌≤◌}
use native.Mathlib.Omega.{arith}
use mathlib.Core.Bool.{Bool, true, false, not, cond}
use mathlib.Core.List.{List}
use mathlib.Core.Path.{◌≡◌, refl, sym, ◌∙◌}
use lib.Dec.{eqb, ltb, leb, leb-zero}
use lib.ListN.{length}
use borrow.Author.Tests.{ne_eqb, ltb-false}
use Rattle.image.specs.Disk.{Disk}
use Rattle.image.specs.declared.layout.Geometry.{Geometry}
use Rattle.image.specs.Disk.{disk_in}
use Rattle.image.specs.Layout.{size_of}
use Rattle.image.specs.Lent.{pick_of}
use Rattle.image.proofs.TestLaws.{by_test}
use Rattle.fdc.specs.declared.record.Controller.{Controller}
use Rattle.fdc.specs.Record.{valid_of}
use Rattle.block.specs.declared.place.Place.{Place}
use Rattle.block.specs.declared.request.Refusal.{Refusal}
use Rattle.block.specs.declared.request.Refusal.TheVariants.{DamagedRecord, NoSuchBlock, WrongSize}
use Rattle.block.specs.declared.request.Reply.{Reply}
use Rattle.block.specs.declared.request.Reply.TheVariants.{Refused, Ended, RanOut}
use Rattle.block.specs.Box.{Box, box_of, with_record}
use Rattle.block.specs.Head.{prepared_of}
use Rattle.block.specs.Place.{blocks_of, blocks_on, bytes_on, blocks_in, bytes_in, place_of}
use Rattle.block.specs.Ready.{command_of}
use Rattle.block.specs.Request.{number_of, budget_of, order_bytes, ReadDone, read_with, read_on, read_at, read_in, read_block}
use Rattle.block.specs.Request.{WriteDone, written_with, write_on, write_at, write_in, write_block}
use Rattle.block.specs.Serve.{reads_of, writes_of}
use Rattle.pack.specs.Bytes.{record_in, is_record, loaded_of}
use Rattle.pack.proofs.PutLaws.{record_loaded}
use Rattle.capi.specs.Blocks.{refusal_on, block_refusal, block_word, kept_of, served_of, refusal_in}
use Rattle.capi.specs.Blocks.{denied_number, block_read, block_write, HoldsServed}
use Rattle.capi.specs.declared.blocks.Denied.{Denied}
use Rattle.capi.specs.declared.blocks.Denied.TheVariants.{Service, NoRoom}
use Rattle.capi.specs.Word.{no_record}

-- a call that is not refused has room for the status
room_left : (drive block bytes room : ℕ) (s : Box) → block_refusal drive block bytes room s ≡ 0 → 7 ≤ room
unfolding block_refusal refusal_on
room_left drive block bytes room s =
    let img = pick_of drive s.first s.second in
    let none : ℕ = cond (ltb room 7) 3 0 in
    let other : ℕ = cond (not (eqb bytes (bytes_in img))) 2 none in
    by_test (not (valid_of s.controller)) (λ (n : ℕ). n ≡ 0 → 7 ≤ room) 4 (cond (leb (blocks_in img) block) 1 other)
    (λ _ h. omega (arith, h))
    (λ _.
    by_test (leb (blocks_in img) block) (λ (n : ℕ). n ≡ 0 → 7 ≤ room) 1 other (λ _ h. omega (arith, h))
    (λ _.
    by_test (not (eqb bytes (bytes_in img))) (λ (n : ℕ). n ≡ 0 → 7 ≤ room) 2 none (λ _ h. omega (arith, h))
    (λ _.
    by_test (ltb room 7) (λ (n : ℕ). n ≡ 0 → 7 ≤ room) 3 0 (λ _ h. omega (arith, h)) (λ f _. ltb-false room 7 f))))

pub room_enough : (drive block bytes room : ℕ) (s : Box) → 0 ≡ block_refusal drive block bytes room s → 7 ≤ room
room_enough drive block bytes room s told = room_left drive block bytes room s (sym told)

-- each refusal has a number
refused_some : (d : Denied) → denied_number d ≡ 0 → ⊥
refused_some (Service DamagedRecord) e = omega (arith, e)
refused_some (Service NoSuchBlock) e = omega (arith, e)
refused_some (Service WrongSize) e = omega (arith, e)
refused_some NoRoom e = omega (arith, e)

module _ (drive block : ℕ) (l a b slice status : List ℕ) where
  -- bytes that are no record
  pub read_no_record : is_record l ≡ false
      → block_read drive block l a b slice status ≡ kept_of no_record l a b slice status
  unfolding block_read
  read_no_record h = rw h

  pub write_no_record : is_record l ≡ false
      → block_write drive block l a b slice status ≡ kept_of no_record l a b slice status
  unfolding block_write
  write_no_record h = rw h

  -- a record c
  module _ (c : Controller) (good : is_record l ≡ true) (loaded : c ≡ loaded_of l) where
    pub record_in_lem : c ≡ record_in l
    record_in_lem = rw (← record_loaded l good) loaded

    told_in : (number : ℕ) → number ≡ block_refusal drive block (length slice) (length status) (box_of c a b)
        → number ≡ refusal_in drive block l a b slice status
    told_in number told = rw (← record_in_lem) told

    -- refused: nothing has changed
    module _
        (d : Denied)
        (told : denied_number d ≡ block_refusal drive block (length slice) (length status) (box_of c a b))
      where
        pub read_refused : block_read drive block l a b slice status
            ≡ kept_of (block_word false (denied_number d) c) l a b slice status
        unfolding block_read
        read_refused =
            rw (good, ← told_in (denied_number d) told, ne_eqb (denied_number d) 0 (refused_some d), ← record_in_lem)

        pub write_refused : block_write drive block l a b slice status
            ≡ kept_of (block_word false (denied_number d) c) l a b slice status
        unfolding block_write
        write_refused =
            rw (good, ← told_in (denied_number d) told, ne_eqb (denied_number d) 0 (refused_some d), ← record_in_lem)

        pub refused_holds : (after : List ℕ) (left : Controller)
            → HoldsServed l (refusal_in drive block l a b slice status) left after
        refused_holds after left good' none = absurd (refused_some d (told_in (denied_number d) told ∙ none))

    -- served
    module _ (told : 0 ≡ block_refusal drive block (length slice) (length status) (box_of c a b)) where
      pub read_served : block_read drive block l a b slice status
          ≡ served_of l status (read_block drive block (box_of c a b) slice).reply
          (read_block drive block (box_of c a b) slice).box
          (read_block drive block (box_of c a b) slice).out
      unfolding block_read
      read_served = rw (good, ← told_in 0 told, ← record_in_lem)

      pub write_served : block_write drive block l a b slice status
          ≡ served_of l status (write_block drive block (box_of c a b) slice).reply
          (write_block drive block (box_of c a b) slice).box
          slice
      unfolding block_write
      write_served = rw (good, ← told_in 0 told, ← record_in_lem)

-- the service's refusal, and where it has none the status slice's
abbrev pub told_of : ℕ → Reply → ℕ
told_of room (Refused r) = number_of r
told_of room (Ended e) = cond (ltb room 7) 3 0
told_of room (RanOut e) = cond (ltb room 7) 3 0

module _ (room : ℕ) where
  -- what is served is not refused
  abbrev Served : Reply → Type 0
  Served reply = told_of room reply ≡ cond (ltb room 7) 3 0

  read_on_told : (drive : ℕ) (g : Geometry) (place : Place) (s : Box) (out : List ℕ)
      → Served (read_on drive g place s out).reply
  unfolding read_on
  read_on_told drive g place s out =
      let begun = with_record (command_of (order_bytes 0x46 drive g place) s.controller) s in
      let r = reads_of (budget_of g) begun out 0 in
      by_test r.came (λ (d : ReadDone). Served d.reply) _ _ (λ _. refl) (λ _. refl)

  read_at_told : (drive : ℕ) (g : Geometry) (place : Place) (s : Box) (out : List ℕ)
      → Served (read_at drive g place s out).reply
  unfolding read_at
  read_at_told drive g place s out =
      let p = prepared_of drive place.cylinder s in
      by_test p.came (λ (d : ReadDone). Served d.reply) _ _ (λ _. read_on_told drive g place p.box out)
      (λ _. refl)

  write_on_told : (drive : ℕ) (g : Geometry) (place : Place) (s : Box) (bytes : List ℕ)
      → Served (write_on drive g place s bytes).reply
  unfolding write_on
  write_on_told drive g place s bytes =
      let begun = with_record (command_of (order_bytes 0x45 drive g place) s.controller) s in
      let w = writes_of (budget_of g) begun bytes 0 in
      by_test w.came (λ (d : WriteDone). Served d.reply) _ _ (λ _. refl) (λ _. refl)

  write_at_told : (drive : ℕ) (g : Geometry) (place : Place) (s : Box) (bytes : List ℕ)
      → Served (write_at drive g place s bytes).reply
  unfolding write_at
  write_at_told drive g place s bytes =
      let p = prepared_of drive place.cylinder s in
      by_test p.came (λ (d : WriteDone). Served d.reply) _ _ (λ _. write_on_told drive g place p.box bytes)
      (λ _. refl)

  -- a test that refuses with n, in the call's definition and in the service's
  read_step : (t : Bool) (r : Refusal) (x : ℕ) (s : Box) (out : List ℕ) (d : ReadDone) → x ≡ told_of room d.reply
      → cond t (number_of r) x ≡ told_of room (cond t (read_with (Refused r) s out) d).reply
  read_step true r x s out d h = refl
  read_step false r x s out d h = h

  write_step : (t : Bool) (r : Refusal) (x : ℕ) (s : Box) (d : WriteDone) → x ≡ told_of room d.reply
      → cond t (number_of r) x ≡ told_of room (cond t (written_with (Refused r) s) d).reply
  write_step true r x s d h = refl
  write_step false r x s d h = h

  module _ (drive block : ℕ) (s : Box) (slice : List ℕ) where
    read_in_told : (d : Disk)
        → cond (leb (blocks_on d) block) 1 (cond (not (eqb (length slice) (bytes_on d))) 2 (cond (ltb room 7) 3 0))
        ≡ told_of room (read_in d drive block s slice).reply
    unfolding read_in
    read_in_told None = rw (leb-zero block)
    read_in_told (Some g) =
        read_step (leb (blocks_of g) block) NoSuchBlock _ s slice _
        (read_step (not (eqb (length slice) (size_of g.n))) WrongSize _ s slice _
        (sym (read_at_told drive g (place_of g block) s slice)))

    write_in_told : (d : Disk)
        → cond (leb (blocks_on d) block) 1 (cond (not (eqb (length slice) (bytes_on d))) 2 (cond (ltb room 7) 3 0))
        ≡ told_of room (write_in d drive block s slice).reply
    unfolding write_in
    write_in_told None = rw (leb-zero block)
    write_in_told (Some g) =
        write_step (leb (blocks_of g) block) NoSuchBlock _ s _
        (write_step (not (eqb (length slice) (size_of g.n))) WrongSize _ s _
        (sym (write_at_told drive g (place_of g block) s slice)))

    -- 02 2026-01: a call is refused exactly as the service would refuse it, and with 3 only where it would not
    pub read_told : block_refusal drive block (length slice) room s ≡ told_of room (read_block drive block s slice).reply
    unfolding block_refusal refusal_on read_block
    read_told =
        read_step (not (valid_of s.controller)) DamagedRecord _ s slice _
        (read_in_told (disk_in (pick_of drive s.first s.second)))

    pub write_told :
        block_refusal drive block (length slice) room s ≡ told_of room (write_block drive block s slice).reply
    unfolding block_refusal refusal_on write_block
    write_told =
        write_step (not (valid_of s.controller)) DamagedRecord _ s _
        (write_in_told (disk_in (pick_of drive s.first s.second)))
