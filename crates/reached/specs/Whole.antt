-- Whole commands, run on the definitions call by call, so that a reader sees them run: 01 Data commands. A host
-- that serves every request by DMA; Configure has put the FIFO off. The proofs are in proofs/Whole.antt.
-- Assumes nothing.
use Rattle.std.specs.Prelude.{ℕ, zero, suc, ◌+◌, Bool, true, false, ◌&&◌, List, [], ◌∷◌, ◌++◌, ◌≡◌, eqb, get_or, take, drop, replicate}
use Rattle.image.specs.Disk.{header_of}
use Rattle.image.specs.Examples.{disk, sample}
use Rattle.fdc.specs.declared.record.Controller.{Controller}
use Rattle.fdc.specs.Answer.{value_of}
use Rattle.fdc.specs.Calls.{dma_read, dma_write}
use Rattle.reached.specs.Examples.{start, command, readied}
use Rattle.fdc.specs.Registers.{drq_of}
use Rattle.reached.specs.Runs.{run_calls}
use Rattle.fdc.specs.Ticks.{tick_of, image_after}

-- the box, the image in drive 0, the bytes that the host will give, and those that it has got, the newest first
pub record Scene : Type 0 where
  pub box : Controller
  pub img : List ℕ
  pub host : List ℕ
  pub got : List ℕ

-- motor 0 on, Configure, and a command given
abbrev pub given : List ℕ → List ℕ → List ℕ → Scene
given bytes host img =
    record { box = run_calls (readied 0x1C ++ command bytes) start; img = img; host = host; got = [] }

abbrev pub ticked_scene : Scene → Scene
ticked_scene s =
    record {
      box = (tick_of s.img [] s.box).controller;
      img = image_after 0 s.img [] s.box s.img;
      host = s.host;
      got = s.got;
    }

abbrev pub ticks_on : ℕ → Scene → Scene
ticks_on zero s = s
ticks_on (suc n) s = ticks_on n (ticked_scene s)

-- the host takes a byte, with TC or without
abbrev pub taken_scene : Bool → Scene → Scene
taken_scene tc s =
    record {
      box = (dma_read tc s.box).controller;
      img = s.img;
      host = s.host;
      got = value_of (dma_read tc s.box).reply ∷ s.got;
    }

-- n ticks, a byte taken after each; TC with the last of them, or with none
abbrev pub read_out : Bool → ℕ → Scene → Scene
read_out tc zero s = s
read_out tc (suc n) s = read_out tc n (taken_scene (tc && eqb n 0) (ticked_scene s))

-- the host gives its next byte where DRQ is on
abbrev pub offered : Bool → List ℕ → Scene → Scene
offered true (byte ∷ rest) s =
    record { box = (dma_write byte false s.box).controller; img = s.img; host = rest; got = s.got }
offered true [] s = s
offered false host s = s

-- n ticks, served so after each
abbrev pub served : ℕ → Scene → Scene
served zero s = s
served (suc n) s = served n (offered (drq_of (ticked_scene s).box) s.host (ticked_scene s))

-- one cylinder of two sides with a sector each: 02, its length 263 in two bytes, cylinder, side
abbrev pub side : ℕ → List ℕ
side h = 0x02 ∷ 0x01 ∷ 0x07 ∷ 0 ∷ h ∷ 1 ∷ 0 ∷ h ∷ 1 ∷ 1 ∷ replicate 256 (0x50 + h)

abbrev pub two_sides : List ℕ
two_sides = header_of (disk 1 2 1 1) ++ (side 0 ++ (side 1 ++ (0x03 ∷ 0 ∷ 0 ∷ [])))

-- Read Data of sector 1, C 0 H 0 N 1, EOT 2; the same with MT and EOT 1; Write Data; Format of SC 1, N 1, fill E5
abbrev pub read_sector : Scene
read_sector = given (0x46 ∷ 0 ∷ 0 ∷ 0 ∷ 1 ∷ 1 ∷ 2 ∷ 0x1B ∷ 0xFF ∷ []) [] (sample 2)

abbrev pub read_both : Scene
read_both = given (0xC6 ∷ 0 ∷ 0 ∷ 0 ∷ 1 ∷ 1 ∷ 1 ∷ 0x1B ∷ 0xFF ∷ []) [] two_sides

-- the tests and the look that matches, 256 bytes, the look that finds the FIFO empty and turns, the turn's tests,
-- its look
abbrev pub turned_scene : Scene
turned_scene = ticks_on 3 (read_out false 256 (ticks_on 2 read_both))

-- the tests, the look, then the broken mark and 99 bytes: 100 stores, and the power goes
abbrev pub cut : Scene
cut = served 102 (given (0x45 ∷ 0 ∷ 0 ∷ 0 ∷ 1 ∷ 1 ∷ 2 ∷ 0x1B ∷ 0xFF ∷ []) (replicate 256 0xA5) (sample 2))

-- the next power-on reads what the cut left
abbrev pub read_after : Scene
read_after = given (0x46 ∷ 0 ∷ 0 ∷ 0 ∷ 1 ∷ 1 ∷ 2 ∷ 0x1B ∷ 0xFF ∷ []) [] cut.img

-- the tests, then mark 0, the host's four bytes, 256 fills, mark 1, and mark 0 for the slot after SC
abbrev pub formatted : Scene
formatted = served 264 (given (0x4D ∷ 0 ∷ 1 ∷ 1 ∷ 0x1B ∷ 0xE5 ∷ []) (0 ∷ 0 ∷ 7 ∷ 1 ∷ []) (sample 2))

-- a DMA read of one sector with TC
pub record ReadWhole : Type 0 where
  -- the sector's bytes, and in the look after them the normal end with the next address
  pub read_bytes_law : (read_out true 256 (ticks_on 2 read_sector)).got ≡ replicate 256 0xF6
  pub read_result :
      (ticks_on 1 (read_out true 256 (ticks_on 2 read_sector))).box.bytes.results ≡ 0x00 ∷ 0x00 ∷ 0x00 ∷ 0 ∷ 0 ∷ 2 ∷ 1 ∷ []

-- a two-sided MT read
pub record TurnedWhole : Type 0 where
  -- the first and last byte of each side, then side 1 in ST0, and cylinder 1
  pub both_side_0_first : get_or turned_scene.got 255 0 ≡ 0x50
  pub both_side_0_last : get_or turned_scene.got 0 0 ≡ 0x50
  pub both_side_1_first : get_or (read_out true 256 turned_scene).got 255 0 ≡ 0x51
  pub both_side_1_last : get_or (read_out true 256 turned_scene).got 0 0 ≡ 0x51
  pub both_result : (ticks_on 1 (read_out true 256 turned_scene)).box.bytes.results ≡ 0x04 ∷ 0x00 ∷ 0x00 ∷ 1 ∷ 0 ∷ 1 ∷ 1 ∷ []

-- a write cut after 100 stores
pub record CutWhole : Type 0 where
  -- the broken mark, 99 new bytes then old ones, every other byte as it was
  pub cut_mark : get_or cut.img 13 0 ≡ 3
  pub cut_bytes : take 256 (drop 18 cut.img) ≡ replicate 99 0xA5 ++ replicate 157 0xF6
  pub cut_before : take 13 cut.img ≡ take 13 (sample 2)
  pub cut_address : take 4 (drop 14 cut.img) ≡ take 4 (drop 14 (sample 2))
  pub cut_behind : drop 274 cut.img ≡ drop 274 (sample 2)

-- the read after it
pub record ReadAfterCut : Type 0 where
  -- 40, ST1 20, ST2 20, the sector in hand
  pub cut_read :
      (ticks_on 1 (read_out false 256 (ticks_on 2 read_after))).box.bytes.results
      ≡ 0x40 ∷ 0x20 ∷ 0x20 ∷ 0 ∷ 0 ∷ 1 ∷ 1 ∷ []

-- a Format of one track
pub record FormattedWhole : Type 0 where
  -- the slot under its good mark, the slot left without ID; one slot done
  pub formatted_slot : take 261 (drop 13 formatted.img) ≡ 1 ∷ 0 ∷ 0 ∷ 7 ∷ 1 ∷ replicate 256 0xE5
  pub formatted_left : get_or formatted.img 274 0 ≡ 0
  pub formatted_result : formatted.box.bytes.results ≡ 0x00 ∷ 0x00 ∷ 0x00 ∷ 0 ∷ 0 ∷ 1 ∷ 1 ∷ []
