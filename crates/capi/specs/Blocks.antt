-- What a block call of the library answers and leaves in what it is lent: document 02, 2026-01, in terms of the block
-- service.
-- Assumes nothing.
use Rattle.std.specs.Prelude.{ℕ, ◌+◌, ◌*◌, Bool, true, false, not, cond, List, [], ◌∷◌, ◌++◌, ◌≡◌, eqb, ltb, leb, length, drop}
use Rattle.std.specs.Prelude.{Result, Ok, Err}
use Rattle.image.specs.Lent.{pick_of}
use Rattle.fdc.specs.declared.record.Controller.{Controller}
use Rattle.fdc.specs.Record.{valid_of}
use Rattle.fdc.specs.Registers.{int_of, drq_of}
use Rattle.block.specs.declared.request.Ending.{Ending}
use Rattle.block.specs.declared.request.Reply.{Reply}
use Rattle.block.specs.declared.request.Reply.TheVariants.{Refused, Ended, RanOut}
use Rattle.block.specs.Box.{Box, box_of}
use Rattle.block.specs.Place.{blocks_in, bytes_in}
use Rattle.block.specs.Request.{number_of, read_block, write_block}
use Rattle.pack.specs.Back.{HoldsRecord}
use Rattle.pack.specs.Bytes.{record_in, is_record, stored_of}
use Rattle.capi.specs.declared.blocks.Denied.{Denied}
use Rattle.capi.specs.declared.blocks.Denied.TheVariants.{Service, NoRoom}
use Rattle.capi.specs.Word.{no_record}

-- the refusals in their order, 0 where there is none: 1 for a block past the end, and an image that does not fit has
-- none; 2 for a caller's slice that is not B bytes; 3 for a status slice under seven
unfoldable pub refusal_on : List ℕ → ℕ → ℕ → ℕ → ℕ
refusal_on img block bytes room =
    cond (leb (blocks_in img) block) 1 (cond (not (eqb bytes (bytes_in img))) 2 (cond (ltb room 7) 3 0))

-- and 4 before them, for the record; a drive above 1 has no image
unfoldable pub block_refusal : ℕ → ℕ → ℕ → ℕ → Box → ℕ
block_refusal drive block bytes room s =
    cond (not (valid_of s.controller)) 4 (refusal_on (pick_of drive s.first s.second) block bytes room)

-- the numbers, by what was found
abbrev pub denied_number : Denied → ℕ
denied_number (Service refusal) = number_of refusal
denied_number NoRoom = 3

abbrev pub number_in : Result Unit Denied → ℕ
number_in (Ok done) = 0
number_in (Err denied) = denied_number denied

-- goodness in bit 0, refusal number in 8 to 15, INT 16, DRQ 17; the lines are those of the record handed back
unfoldable pub block_word : Bool → ℕ → Controller → ℕ
block_word good number c = cond good 1 0 + 0x100 * number + cond (int_of c) 0x10000 0 + cond (drq_of c) 0x20000 0

-- of a call that was served and left a good block or none, or of one that was refused
abbrev pub told_word : Result Bool Denied → Controller → ℕ
told_word (Ok good) c = block_word good 0 c
told_word (Err denied) c = block_word false (denied_number denied) c

-- a block is good where IC is 00
abbrev pub good_of : Ending → Bool
good_of e = ltb e.st0 0x40

abbrev pub good_in : Reply → Bool
good_in (Refused refusal) = false
good_in (Ended e) = good_of e
good_in (RanOut e) = good_of e

-- the seven status bytes; those behind are kept
abbrev pub status_of : Ending → List ℕ → List ℕ
status_of e l = (e.st0 ∷ e.st1 ∷ e.st2 ∷ e.c ∷ e.h ∷ e.r ∷ e.n ∷ []) ++ drop 7 l

abbrev pub status_in : Reply → List ℕ → List ℕ
status_in (Refused refusal) l = l
status_in (Ended e) l = status_of e l
status_in (RanOut e) l = status_of e l

-- what a block call leaves: its word, the record's bytes, both images, the caller's block and the status
pub record Called : Type 0 where
  pub word : ℕ
  pub bytes : List ℕ
  pub first : List ℕ
  pub second : List ℕ
  pub block : List ℕ
  pub status : List ℕ

-- refused: all as it was lent
abbrev pub kept_of : ℕ → List ℕ → List ℕ → List ℕ → List ℕ → List ℕ → Called
kept_of word l a b slice status =
    record { word = word; bytes = l; first = a; second = b; block = slice; status = status }

-- served: what the service leaves, its record stored and its status given
abbrev pub served_of : List ℕ → List ℕ → Reply → Box → List ℕ → Called
served_of l status reply s slice =
    record {
      word = block_word (good_in reply) 0 s.controller;
      bytes = stored_of s.controller l;
      first = s.first;
      second = s.second;
      block = slice;
      status = status_in reply status;
    }

abbrev pub called_of : ℕ → List ℕ → List ℕ → List ℕ → List ℕ → List ℕ → Called → Called
called_of number l a b slice status served =
    cond (is_record l)
    (cond (eqb number 0) served (kept_of (block_word false number (record_in l)) l a b slice status))
    (kept_of no_record l a b slice status)

-- the service's box, and the refusal, with the record in the bytes l
abbrev pub box_in : List ℕ → List ℕ → List ℕ → Box
box_in l a b = box_of (record_in l) a b

abbrev pub refusal_in : ℕ → ℕ → List ℕ → List ℕ → List ℕ → List ℕ → List ℕ → ℕ
refusal_in drive block l a b slice status = block_refusal drive block (length slice) (length status) (box_in l a b)

unfoldable pub block_read : ℕ → ℕ → List ℕ → List ℕ → List ℕ → List ℕ → List ℕ → Called
block_read drive block l a b out status =
    called_of (refusal_in drive block l a b out status) l a b out status
    (served_of l status (read_block drive block (box_in l a b) out).reply (read_block drive block (box_in l a b) out).box
    (read_block drive block (box_in l a b) out).out)

-- a write's block is as it was
unfoldable pub block_write : ℕ → ℕ → List ℕ → List ℕ → List ℕ → List ℕ → List ℕ → Called
block_write drive block l a b slice status =
    called_of (refusal_in drive block l a b slice status) l a b slice status
    (served_of l status (write_block drive block (box_in l a b) slice).reply
    (write_block drive block (box_in l a b) slice).box slice)

-- reading back what was written is the record: after a call that was served the bytes hold the service's
abbrev pub HoldsServed : List ℕ → ℕ → Controller → List ℕ → Type 0
HoldsServed l number c after = is_record l ≡ true → number ≡ 0 → HoldsRecord after c
