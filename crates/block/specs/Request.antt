-- A block read and a block written: document 02, 2026-01. Refusals, before any call, step or store: the controller's
-- 4; its own 1 for a block past the end, every block of a drive that is empty even with its motor on, and a drive
-- above 1, which has no image; its own 2 for a caller's slice that is not B bytes; in this order.
-- Assumes nothing.
use Rattle.std.specs.Prelude.{ℕ, ◌+◌, ◌*◌, ◌%◌, not, cond, List, [], ◌∷◌, eqb, leb, length, get_or, replicate, None, Some}
use Rattle.std.specs.Prelude.{Result, Ok, Err}
use Rattle.image.specs.Disk.{Disk}
use Rattle.image.specs.declared.layout.Geometry.{Geometry}
use Rattle.image.specs.Disk.{disk_in}
use Rattle.image.specs.Layout.{size_of}
use Rattle.image.specs.Lent.{pick_of}
use Rattle.fdc.specs.Record.{valid_of}
use Rattle.fdc.specs.declared.record.Controller.{Controller}
use Rattle.block.specs.declared.place.Place.{Place}
use Rattle.block.specs.declared.ready.Late.{Late}
use Rattle.block.specs.declared.request.Ending.{Ending}
use Rattle.block.specs.declared.request.Refusal.{Refusal}
use Rattle.block.specs.declared.request.Refusal.TheVariants.{DamagedRecord, NoSuchBlock, WrongSize}
use Rattle.block.specs.declared.request.Reply.{Reply}
use Rattle.block.specs.declared.request.Reply.TheVariants.{Refused, Ended, RanOut}
use Rattle.block.specs.declared.request.Target.{Target}
use Rattle.block.specs.Box.{Box, with_record, Came}
use Rattle.block.specs.Head.{prepared_of}
use Rattle.block.specs.Place.{blocks_of, place_of}
use Rattle.block.specs.Ready.{command_of}
use Rattle.block.specs.Serve.{CameRead, reads_of, writes_of, status_from}

-- the document's numbers
abbrev pub number_of : Refusal → ℕ
number_of DamagedRecord = 4
number_of NoSuchBlock = 1
number_of WrongSize = 2

-- 01 End: 2 x (S + 1) x (2S + B + 70)
unfoldable pub budget_of : Geometry → ℕ
budget_of g = 2 * (g.slots + 1) * (2 * g.slots + size_of g.n + 70)

-- command 46 or 45: MT 0, SK 0, EOT = S, GPL 1B, DTL FF
abbrev pub order_bytes : ℕ → ℕ → Geometry → Place → List ℕ
order_bytes code drive g place =
    code
    ∷ (place.side % 2 * 4 + drive % 4)
    ∷ place.cylinder
    ∷ place.side
    ∷ place.sector
    ∷ g.n
    ∷ g.slots
    ∷ 0x1B
    ∷ 0xFF
    ∷ []

-- the seven status bytes by their names
abbrev pub ending_of : List ℕ → Ending
ending_of bytes =
    record {
      st0 = get_or bytes 0 0;
      st1 = get_or bytes 1 0;
      st2 = get_or bytes 2 0;
      c = get_or bytes 3 0;
      h = get_or bytes 4 0;
      r = get_or bytes 5 0;
      n = get_or bytes 6 0;
    }

-- and the seven of them again
abbrev pub ending_bytes : Ending → List ℕ
ending_bytes e = e.st0 ∷ e.st1 ∷ e.st2 ∷ e.c ∷ e.h ∷ e.r ∷ e.n ∷ []

-- a budget that runs out would answer 40 10 00 and the address asked
abbrev pub lost_bytes : Geometry → Place → List ℕ
lost_bytes g place = 0x40 ∷ 0x10 ∷ 0x00 ∷ place.cylinder ∷ place.side ∷ place.sector ∷ g.n ∷ []

-- the status bytes as the controller gives them, or those
abbrev pub reply_in : Geometry → Place → Result Ending Late → Reply
reply_in g place (Ok ending) = Ended ending
reply_in g place (Err e) = RanOut (ending_of (lost_bytes g place))

-- the sector that is asked for with a slice of so many bytes, or the refusal
unfoldable pub asked_in : Disk → ℕ → ℕ → ℕ → Result Target Refusal
asked_in None drive block size = Err NoSuchBlock
asked_in (Some g) drive block size =
    cond (leb (blocks_of g) block) (Err NoSuchBlock)
    (cond (not (eqb size (size_of g.n))) (Err WrongSize)
    (Ok (record { drive = drive; disk = g; place = place_of g block })))

unfoldable pub asked_of : ℕ → ℕ → ℕ → List ℕ → Controller → Result Target Refusal
asked_of drive block size img c =
    cond (not (valid_of c)) (Err DamagedRecord) (asked_in (disk_in img) drive block size)

-- what a read leaves, with the caller's slice
pub record ReadDone : Type 0 where
  pub reply : Reply
  pub box : Box
  pub out : List ℕ

abbrev pub read_with : Reply → Box → List ℕ → ReadDone
read_with reply box out = record { reply = reply; box = box; out = out }

-- the status bytes as the controller gives them
abbrev pub read_end : Geometry → Place → CameRead → ReadDone
read_end g place r =
    cond r.came
    (read_with (Ended (ending_of (status_from 7 0 (replicate 7 0) r.box.controller).bytes))
    (with_record (status_from 7 0 (replicate 7 0) r.box.controller).controller r.box) r.out)
    (read_with (RanOut (ending_of (lost_bytes g place))) r.box r.out)

-- the command, its bytes and its end
unfoldable pub read_on : ℕ → Geometry → Place → Box → List ℕ → ReadDone
read_on drive g place s out =
    read_end g place
    (reads_of (budget_of g) (with_record (command_of (order_bytes 0x46 drive g place) s.controller) s) out 0)

abbrev pub read_from : ℕ → Geometry → Place → List ℕ → Came → ReadDone
read_from drive g place out p =
    cond p.came (read_on drive g place p.box out) (read_with (RanOut (ending_of (lost_bytes g place))) p.box out)

unfoldable pub read_at : ℕ → Geometry → Place → Box → List ℕ → ReadDone
read_at drive g place s out = read_from drive g place out (prepared_of drive place.cylinder s)

unfoldable pub read_in : Disk → ℕ → ℕ → Box → List ℕ → ReadDone
read_in None drive block s out = read_with (Refused NoSuchBlock) s out
read_in (Some g) drive block s out =
    cond (leb (blocks_of g) block) (read_with (Refused NoSuchBlock) s out)
    (cond (not (eqb (length out) (size_of g.n))) (read_with (Refused WrongSize) s out)
    (read_at drive g (place_of g block) s out))

unfoldable pub read_block : ℕ → ℕ → Box → List ℕ → ReadDone
read_block drive block s out =
    cond (not (valid_of s.controller)) (read_with (Refused DamagedRecord) s out)
    (read_in (disk_in (pick_of drive s.first s.second)) drive block s out)

-- what a write leaves
pub record WriteDone : Type 0 where
  pub reply : Reply
  pub box : Box

abbrev pub written_with : Reply → Box → WriteDone
written_with reply box = record { reply = reply; box = box }

abbrev pub write_end : Geometry → Place → Came → WriteDone
write_end g place w =
    cond w.came
    (written_with (Ended (ending_of (status_from 7 0 (replicate 7 0) w.box.controller).bytes))
    (with_record (status_from 7 0 (replicate 7 0) w.box.controller).controller w.box))
    (written_with (RanOut (ending_of (lost_bytes g place))) w.box)

unfoldable pub write_on : ℕ → Geometry → Place → Box → List ℕ → WriteDone
write_on drive g place s bytes =
    write_end g place
    (writes_of (budget_of g) (with_record (command_of (order_bytes 0x45 drive g place) s.controller) s) bytes 0)

abbrev pub write_from : ℕ → Geometry → Place → List ℕ → Came → WriteDone
write_from drive g place bytes p =
    cond p.came (write_on drive g place p.box bytes) (written_with (RanOut (ending_of (lost_bytes g place))) p.box)

unfoldable pub write_at : ℕ → Geometry → Place → Box → List ℕ → WriteDone
write_at drive g place s bytes = write_from drive g place bytes (prepared_of drive place.cylinder s)

unfoldable pub write_in : Disk → ℕ → ℕ → Box → List ℕ → WriteDone
write_in None drive block s bytes = written_with (Refused NoSuchBlock) s
write_in (Some g) drive block s bytes =
    cond (leb (blocks_of g) block) (written_with (Refused NoSuchBlock) s)
    (cond (not (eqb (length bytes) (size_of g.n))) (written_with (Refused WrongSize) s)
    (write_at drive g (place_of g block) s bytes))

unfoldable pub write_block : ℕ → ℕ → Box → List ℕ → WriteDone
write_block drive block s bytes =
    cond (not (valid_of s.controller)) (written_with (Refused DamagedRecord) s)
    (write_in (disk_in (pick_of drive s.first s.second)) drive block s bytes)
