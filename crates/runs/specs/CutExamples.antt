-- Write commands that are cut, call by call: each premise of `PowerCut` and `OtherImage` is met, and the history
-- computes. The host serves by DMA or by the FIFO's port; Configure has put the FIFO off. The proofs are in
-- proofs/CutExamples.antt.
-- Assumes nothing.
use Rattle.std.specs.Prelude.{ℕ, zero, suc, Bool, true, false, cond, List, [], ◌∷◌, ◌++◌, ◌≡◌, eqb, length, get_or, take, drop, replicate, Some}
use Rattle.image.specs.declared.slot.Id.{Id}
use Rattle.image.specs.Disk.{disk_in}
use Rattle.image.specs.Examples.{disk, sample}
use Rattle.sectors.specs.declared.order.Job.TheVariants.{Move}
use Rattle.sectors.specs.declared.order.Order.{Order}
use Rattle.sectors.specs.declared.order.Pass.TheVariants.{Write}
use Rattle.sectors.specs.declared.order.Transfer.{Transfer}
use Rattle.fdc.specs.declared.answer.Reply.{Reply}
use Rattle.fdc.specs.declared.record.Controller.{Controller}
use Rattle.reached.specs.Examples.{start, command, readied}
use Rattle.reached.specs.Runs.{Call, writes, gives, ticks, answer_to, after, run_calls}
use Rattle.fdc.specs.Ticks.{image_after}
use Rattle.demands.specs.History.{no_one, some_of, History, no_history, taken, history_of}
use Rattle.demands.specs.PowerCut.{Writes}
use Rattle.demands.specs.Work.{Real, Its, Alone}

-- motor 0 on, Configure; Specify, whose last bit ND is off for DMA; Write Data of sector 1, C 0 H 0 N 1, EOT 2
abbrev pub specify : Bool → List ℕ
specify dma = 0x03 ∷ 0xDF ∷ cond dma 0x02 0x03 ∷ []

abbrev pub asked : Bool → List Call
asked dma = readied 0x1C ++ (command (specify dma) ++ command (0x45 ∷ 0 ∷ 0 ∷ 0 ∷ 1 ∷ 1 ∷ 2 ∷ 0x1B ∷ 0xFF ∷ []))

abbrev pub writer : Bool → Controller
writer dma = run_calls (asked dma) start

abbrev pub written : Transfer
written = record { pass = Write; deleted = false; mt = false; sk = false; eot = 2; dtl = 0 }

abbrev pub sector_one : Id
sector_one = record { c = 0; h = 0; r = 1; n = 1 }

abbrev pub ordered : Order
ordered = record { drive = 0; side = 0; job = Move written sector_one }

-- the host offers its next byte, TC with the last of them; a byte that was refused it offers again
abbrev pub offer : Bool → List ℕ → Call
offer true host = gives (get_or host 0 0) (eqb (length host) 1)
offer false host = writes 5 (get_or host 0 0)

abbrev pub rest_of : Reply → List ℕ → List ℕ
rest_of reply host = cond (taken reply) (drop 1 host) host

-- n ticks, before each a byte offered; each is handed the image as the one before left it
abbrev pub served : Bool → List ℕ → ℕ → Controller → List ℕ → List Call
served dma host zero c img = []
served dma host (suc n) c img =
    offer dma host
    ∷ ticks img []
    ∷ served dma (rest_of (answer_to (offer dma host) c).reply host) n (after (ticks img []) (after (offer dma host) c))
    (image_after 0 img [] (after (offer dma host) c) img)

abbrev pub cut_calls : Bool → List ℕ → ℕ → List Call
cut_calls dma host n = served dma host n (writer dma) (sample 2)

abbrev pub down : ℕ → List ℕ
down zero = []
down (suc n) = n ∷ down n

-- FF to 00, twice
abbrev pub full : List ℕ
full = down 256 ++ down 256

-- the premises are met, and this is what the calls did
pub record CutExample (dma : Bool) (host : List ℕ) (n : ℕ) (h : History) : Type 0 where
  pub real : Real (writer dma)
  pub accepted : Writes (writer dma) ordered written sector_one
  pub mounted : disk_in (sample 2) ≡ Some (disk 1 1 2 1)
  pub its : Its (cut_calls dma host n) (writer dma)
  pub alone : Alone 0 (sample 2) (cut_calls dma host n) (writer dma)
  pub history : history_of (cut_calls dma host n) (writer dma) no_history ≡ h

pub record CutExamples : Type 0 where
  -- the tests, the look, the broken mark and 99 bytes: 01 Example 10
  pub by_dma : CutExample true full 102
      (record { host = take 99 full; told = false; finished = []; begun = some_of 13 (take 99 full) })
  pub by_port : CutExample false full 102
      (record { host = take 99 full; told = false; finished = []; begun = some_of 13 (take 99 full) })
  -- 256 bytes and the good mark, the look at slot 1, its broken mark and ten bytes
  pub in_second : CutExample true full 272
      (record {
        host = take 266 full;
        told = false;
        finished = record { at = 13; bytes = take 256 full } ∷ [];
        begun = some_of 274 (take 10 (drop 256 full));
      })
  -- TC with the fifth byte: zeros to the sector's end, and the tick of its good mark ends the command
  pub with_tc : CutExample true (down 5) 260
      (record {
        host = down 5;
        told = true;
        finished = record { at = 13; bytes = down 5 ++ replicate 251 0 } ∷ [];
        begun = no_one;
      })
