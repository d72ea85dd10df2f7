-- A request's two ways: refused, or served (02 2026-01).
-- Assumes nothing.
use Rattle.std.specs.Prelude.{None, Some, Result, Ok, Err}
use Prim.Native.Nat.{ℕ}
use mathlib.Core.Bool.{Bool, true, false, not, cond}
use mathlib.Core.List.{List}
use mathlib.Core.Path.{◌≡◌, refl, ap, ◌∙◌}
use lib.Dec.{eqb, leb}
use lib.ListN.{length}
use Rattle.image.specs.Disk.{Disk, disk_in}
use Rattle.image.specs.Layout.{size_of}
use Rattle.image.specs.Lent.{pick_of}
use Rattle.fdc.specs.declared.record.Controller.{Controller}
use Rattle.fdc.specs.Record.{valid_of}
use Rattle.block.specs.declared.request.Refusal.{Refusal}
use Rattle.block.specs.declared.request.Reply.TheVariants.{Refused}
use Rattle.block.specs.declared.request.Target.{Target}
use Rattle.block.specs.Box.{Box, box_of}
use Rattle.block.specs.Place.{blocks_of}
use Rattle.block.specs.Request.{asked_in, asked_of, ReadDone, read_with, read_at, read_in, read_block}
use Rattle.block.specs.Request.{WriteDone, written_with, write_at, write_in, write_block}

-- what a request does, by what it asks for
abbrev read_told : Box → List ℕ → Result Target Refusal → ReadDone
read_told s out (Ok t) = read_at t.drive t.disk t.place s out
read_told s out (Err e) = read_with (Refused e) s out

abbrev write_told : Box → List ℕ → Result Target Refusal → WriteDone
write_told s bytes (Ok t) = write_at t.drive t.disk t.place s bytes
write_told s bytes (Err e) = written_with (Refused e) s

-- a test passes to each of two
each : {A B : Type 0} (f : A → B) (t : Bool) (x y : A) → f (cond t x y) ≡ cond t (f x) (f y)
each f true x y = refl
each f false x y = refl

module _ (drive block : ℕ) (s : Box) (slice : List ℕ) where
  read_in_told : (d : Disk)
      → read_told s slice (asked_in d drive block (length slice)) ≡ read_in d drive block s slice
  unfolding asked_in read_in
  read_in_told None = refl
  read_in_told (Some g) =
      each (read_told s slice) (leb (blocks_of g) block) _ _
      ∙ ap (cond (leb (blocks_of g) block) _)
      (each (read_told s slice) (not (eqb (length slice) (size_of g.n))) _ _)

  write_in_told : (d : Disk)
      → write_told s slice (asked_in d drive block (length slice)) ≡ write_in d drive block s slice
  unfolding asked_in write_in
  write_in_told None = refl
  write_in_told (Some g) =
      each (write_told s slice) (leb (blocks_of g) block) _ _
      ∙ ap (cond (leb (blocks_of g) block) _)
      (each (write_told s slice) (not (eqb (length slice) (size_of g.n))) _ _)

  read_block_told :
      read_told s slice (asked_of drive block (length slice) (pick_of drive s.first s.second) s.controller)
      ≡ read_block drive block s slice
  unfolding asked_of read_block
  read_block_told =
      each (read_told s slice) (not (valid_of s.controller)) _ _
      ∙ ap (cond (not (valid_of s.controller)) _) (read_in_told (disk_in (pick_of drive s.first s.second)))

  write_block_told :
      write_told s slice (asked_of drive block (length slice) (pick_of drive s.first s.second) s.controller)
      ≡ write_block drive block s slice
  unfolding asked_of write_block
  write_block_told =
      each (write_told s slice) (not (valid_of s.controller)) _ _
      ∙ ap (cond (not (valid_of s.controller)) _) (write_in_told (disk_in (pick_of drive s.first s.second)))

-- of a box by its parts
module _ (drive block : ℕ) (c : Controller) (a b slice : List ℕ) where
  pub read_asked : (t : Target) → Ok t ≡ asked_of drive block (length slice) (pick_of drive a b) c
      → read_at t.drive t.disk t.place (box_of c a b) slice ≡ read_block drive block (box_of c a b) slice
  read_asked t q = ap (read_told (box_of c a b) slice) q ∙ read_block_told drive block (box_of c a b) slice

  pub read_refused : (e : Refusal) → Err e ≡ asked_of drive block (length slice) (pick_of drive a b) c
      → read_with (Refused e) (box_of c a b) slice ≡ read_block drive block (box_of c a b) slice
  read_refused e q = ap (read_told (box_of c a b) slice) q ∙ read_block_told drive block (box_of c a b) slice

  pub write_asked : (t : Target) → Ok t ≡ asked_of drive block (length slice) (pick_of drive a b) c
      → write_at t.drive t.disk t.place (box_of c a b) slice ≡ write_block drive block (box_of c a b) slice
  write_asked t q = ap (write_told (box_of c a b) slice) q ∙ write_block_told drive block (box_of c a b) slice

  pub write_refused : (e : Refusal) → Err e ≡ asked_of drive block (length slice) (pick_of drive a b) c
      → written_with (Refused e) (box_of c a b) ≡ write_block drive block (box_of c a b) slice
  write_refused e q = ap (write_told (box_of c a b) slice) q ∙ write_block_told drive block (box_of c a b) slice
