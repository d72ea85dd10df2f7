-- What document 01 says is easy to get wrong, of the definitions: R is advanced once, no end without TC is normal,
-- and the good mark is stored after the last byte.
-- Assumes nothing.
use Rattle.std.specs.Prelude.{None, Some}
use Prim.Native.Nat.{ℕ, ◌<◌}
use native.Mathlib.Omega.{arith}
use mathlib.Core.Bool.{Bool, true}
use mathlib.Core.Path.{◌≡◌, refl, ap, ◌∙◌}
use lib.Dec.{eqb}
use borrow.Author.Tests.{lt-leb}
use Rattle.image.proofs.TestLaws.{by_test}
use Rattle.image.specs.Lent.{Effect}
use Rattle.image.specs.declared.slot.Id.{Id}
use Rattle.chip.specs.declared.fifo.Fifo.{Fifo}
use Rattle.chip.specs.declared.next.Next.{Next}
use Rattle.chip.specs.declared.next.Next.TheVariants.{Ended, PastEot, OtherSide, SameSide}
use Rattle.chip.specs.Next.{next_of, advanced_of, next_address}
use Rattle.chip.proofs.NextLaws.{next_address_lem, next_ended_tc}
use Rattle.sectors.specs.declared.work.Site.{Site}
use Rattle.sectors.specs.declared.work.Step.{Step}
use Rattle.sectors.specs.declared.work.Task.{Task}
use Rattle.sectors.specs.declared.work.Then.{Then}
use Rattle.sectors.specs.declared.work.Then.TheVariants.{Ends, Works}
use Rattle.sectors.specs.declared.work.Verdict.{Verdict}
use Rattle.sectors.specs.declared.work.Work.{Work}
use Rattle.sectors.specs.declared.work.Work.TheVariants.{Identifying, Moving, Formatting}
use Rattle.sectors.specs.Follow.{followed_of, follow_of}
use Rattle.engine.specs.ReadId.{no_address}
use Rattle.sectors.specs.Result.{end_of, move_end}
use Rattle.sectors.specs.Track.{data_place, sector_bytes}
use Rattle.sectors.specs.Write.{underrun, put_of, dry_of, store_of}

-- the address of a result, or of the sector now in hand
abbrev work_id : Work → Id
work_id (Identifying site slot passes) = no_address
work_id (Moving site task stage) = task.id
work_id (Formatting site plan form) = no_address

abbrev pub then_id : Then → Id
then_id (Ends verdict) = verdict.id
then_id (Works work) = work_id work

-- ST0 of an end
abbrev then_st0 : Then → ℕ
then_st0 (Ends verdict) = verdict.st0
then_st0 (Works work) = 0x40

module _ (slot : ℕ) (site : Site) (task : Task) (fifo : Fifo) (effect : Effect) where
  followed_id : (n : Next) → then_id (followed_of n slot site task fifo effect).then ≡ next_address n
  unfolding followed_of move_end end_of
  followed_id (Ended id) = refl
  followed_id (PastEot id) = refl
  followed_id (OtherSide id) = refl
  followed_id (SameSide id) = refl

  -- 01 Easy 1: whatever follows a sector, its address is the one after it, advanced once
  pub follow_advances_once : (tc : Bool)
      → then_id (follow_of slot tc site task fifo effect).then
      ≡ advanced_of task.id task.transfer.eot task.transfer.mt site.side 1
  unfolding follow_of
  follow_advances_once tc = followed_id _ ∙ next_address_lem task.id task.transfer.eot task.transfer.mt
      site.side 1 tc

  followed_normal : (tc : Bool) (n : Next)
      → next_of task.id task.transfer.eot task.transfer.mt site.side 1 tc ≡ n
      → then_st0 (followed_of n slot site task fifo effect).then < 0x40 → tc ≡ true
  unfolding followed_of move_end end_of
  followed_normal tc (Ended id) e h =
      next_ended_tc task.id task.transfer.eot task.transfer.mt site.side 1 tc id e
  followed_normal tc (PastEot id) e h = absurd (omega arith)
  followed_normal tc (OtherSide id) e h = absurd (omega arith)
  followed_normal tc (SameSide id) e h = absurd (omega arith)

  -- 01 Easy 2: an end with IC 00 had TC
  pub follow_normal_had_tc : (tc : Bool) (v : Verdict)
      → (follow_of slot tc site task fifo effect).then ≡ Ends v → v.st0 < 0x40 → tc ≡ true
  unfolding follow_of
  follow_normal_had_tc tc v e h =
      followed_normal tc _ refl (omega (arith, ap then_st0 e))

-- where an effect stores, or that place
abbrev place_or : ℕ → Effect → ℕ
place_or at None = at
place_or at (Some put) = put.at

-- 01 Easy 4: before the last byte is stored, a tick of a Write stores that byte and no mark
module _ (slot done : ℕ) (site : Site) (task : Task) (head : ℕ) (fifo : Fifo) (efifo : Bool) (fifothr : ℕ) where
  abbrev pub There : Step → Type 0
  There s = place_or (data_place site head slot done) s.effect ≡ data_place site head slot done

  put_there : (byte : ℕ) (t : Task) (f : Fifo) → There (put_of byte slot done site t head f)
  unfolding put_of
  put_there byte t f = refl

  dry_there : There (dry_of slot done site task head fifo)
  unfolding dry_of underrun
  dry_there = by_test fifo.tc There _ _ (λ t. put_there 0 task fifo) (λ t. put_there 0 _ _)

  pub store_data_before_mark : done < sector_bytes site → There (store_of slot done site task head fifo efifo fifothr)
  unfolding store_of
  store_data_before_mark h =
      rw (lt-leb (sector_bytes site) done h)
      (by_test (eqb fifo.count 0) There _ _ (λ t. dry_there) (λ t. put_there _ task _))
