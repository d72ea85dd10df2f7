-- The read after a cut, call by call: all premises of `DataErrorInTime` are met at once, and those of `DataError` by a
-- host that takes no byte (02 2026-02). The write is the one of CutExamples that is cut in its second sector; power
-- comes back, the motor goes on, and a Read Data of that sector is given, by DMA. The proofs are in
-- proofs/DataErrorExamples.antt.
-- Assumes nothing.
use Rattle.std.specs.Prelude.{ℕ, zero, suc, ◌≤◌, true, false, List, [], ◌∷◌, ◌++◌, ◌≡◌, take, drop}
use Rattle.image.specs.declared.slot.Id.{Id}
use Rattle.image.specs.Examples.{disk, sample}
use Rattle.image.specs.Sound.{Sound}
use Rattle.sectors.specs.declared.order.Job.TheVariants.{Move}
use Rattle.sectors.specs.declared.order.Order.{Order}
use Rattle.sectors.specs.declared.order.Pass.TheVariants.{Read}
use Rattle.sectors.specs.declared.order.Transfer.{Transfer}
use Rattle.fdc.specs.declared.record.Controller.{Controller}
use Rattle.reached.specs.Examples.{start, command, readied}
use Rattle.reached.specs.Moves.{tick_count}
use Rattle.reached.specs.Runs.{Call, takes, ticks, after, run_calls}
use Rattle.fdc.specs.Ticks.{image_after}
use Rattle.runs.specs.CutExamples.{writer, written, sector_one, ordered, cut_calls, full}
use Rattle.demands.specs.DataError.{ReadsThere, Spins, DataErrorAt, DataErrorTold, Drained}
use Rattle.demands.specs.EndsInTime.{bound_of}
use Rattle.demands.specs.History.{some_of, no_history, history_of}
use Rattle.demands.specs.InTime.{AtTicks, Prompt}
use Rattle.demands.specs.PowerCut.{Writes}
use Rattle.demands.specs.Work.{Real, Its, Alone, image_left, EndsWith}
use Rattle.runs.specs.Host.{idle}
use Rattle.runs.specs.Whole.{handing}

-- the write's calls
abbrev pub wrote : List Call
wrote = cut_calls true full 272

-- motor 0 on, Configure; Read Data of sector 2, C 0 H 0 N 1, EOT 2
abbrev pub asks : List Call
asks = readied 0x1C ++ command (0x46 ∷ 0 ∷ 0 ∷ 0 ∷ 2 ∷ 1 ∷ 2 ∷ 0x1B ∷ 0xFF ∷ [])

abbrev pub reader : Controller
reader = run_calls asks start

abbrev pub sector_two : Id
sector_two = record { c = 0; h = 0; r = 2; n = 1 }

abbrev pub read : Transfer
read = record { pass = Read; deleted = false; mt = false; sk = false; eot = 2; dtl = 0 }

abbrev pub read_order : Order
read_order = record { drive = 0; side = 0; job = Move read sector_two }

-- what the cut left
abbrev pub left_image : List ℕ
left_image = image_left 0 (sample 2) wrote (writer true)

-- n ticks, and after each a byte taken, or refused where DRQ is off
abbrev pub taking : ℕ → Controller → List ℕ → List Call
taking zero c img = []
taking (suc n) c img =
    ticks img [] ∷ takes false ∷ taking n (after (takes false) (after (ticks img []) c)) (image_after 0 img [] c img)

-- as many ticks as the bound says: 2 x 3 x (2 x 2 + 256 + 70)
abbrev pub read_calls : List Call
read_calls = taking 1980 reader left_image

-- the same, and no byte taken: 260 ticks, and so many more
abbrev pub late_calls : List Call
late_calls = handing 0 (idle 260 ++ idle 1720) reader left_image

pub record DataErrorExample : Type 0 where
  -- the premises
  pub writer_real : Real (writer true)
  pub writer_writes : Writes (writer true) ordered written sector_one
  pub sound : Sound (disk 1 1 2 1) (sample 2)
  pub its : Its wrote (writer true)
  pub alone : Alone 0 (sample 2) wrote (writer true)
  pub begun : (history_of wrote (writer true) no_history).begun ≡ some_of 274 (take 10 (drop 256 full))
  pub reader_real : Real reader
  pub reader_reads : ReadsThere reader read_order read sector_two (disk 1 1 2 1) (sample 2) 274
  pub spins : Spins 0 read_calls reader
  pub alone_too : Alone 0 left_image read_calls reader
  pub enough : bound_of (disk 1 1 2 1) ≤ tick_count read_calls
  pub prompt : Prompt read_calls reader
  -- so it ends so: the tests, two looks, 256 bytes, and the look that finds the FIFO empty
  pub ends : EndsWith (DataErrorAt 0x20 read_order sector_two read written) read_calls reader
  pub result :
      (run_calls (taking 260 reader left_image) reader).bytes.results ≡ 0x40 ∷ 0x20 ∷ 0x20 ∷ 0 ∷ 0 ∷ 2 ∷ 1 ∷ []
  -- the premises, of the host that takes none
  pub late_spins : Spins 0 late_calls reader
  pub late_alone : Alone 0 left_image late_calls reader
  pub late_enough : bound_of (disk 1 1 2 1) ≤ tick_count late_calls
  pub late_drained : AtTicks Drained late_calls reader
  -- so it is told too, with ST1 30 in the same tick
  pub late_ends : EndsWith (DataErrorTold read_order sector_two read written) late_calls reader
  pub late_result :
      (run_calls (handing 0 (idle 260) reader left_image) reader).bytes.results
      ≡ 0x40 ∷ 0x30 ∷ 0x20 ∷ 0 ∷ 0 ∷ 2 ∷ 1 ∷ []
