-- 01 Example 9, 01 Example 10, and ends of a search, on the image crate's small disk of one track with two sectors of
-- 256 bytes. The proofs are in proofs/Examples.antt.
-- Assumes nothing.
use Rattle.std.specs.Prelude.{ℕ, zero, suc, Bool, true, false, List, ◌++◌, ◌≡◌, get_or, take, drop, replicate, None, Some}
use Rattle.chip.specs.declared.fifo.Fifo.{Fifo}
use Rattle.chip.specs.Fifo.{emptied, given_of}
use Rattle.image.specs.declared.slot.Id.{Id}
use Rattle.image.specs.Examples.{disk, sample}
use Rattle.image.specs.Lent.{stored_in}
use Rattle.sectors.specs.declared.order.Job.{Job}
use Rattle.sectors.specs.declared.order.Job.TheVariants.{Identify, Move, Format}
use Rattle.sectors.specs.declared.order.Order.{Order}
use Rattle.sectors.specs.declared.order.Pass.{Pass}
use Rattle.sectors.specs.declared.order.Pass.TheVariants.{Read, Write}
use Rattle.sectors.specs.declared.work.Step.{Step}
use Rattle.sectors.specs.declared.work.Then.{Then}
use Rattle.sectors.specs.declared.work.Then.TheVariants.{Ends, Works}
use Rattle.engine.specs.First.{begin_of}
use Rattle.engine.specs.Step.{go_on_of}
use Rattle.engine.specs.Kept.{then_wait, then_drive}

-- an address with N 1
abbrev pub chrn_of : ℕ → ℕ → ℕ → Id
chrn_of c h r = record { c = c; h = h; r = r; n = 1 }

-- drive 0, side 0
abbrev pub ordered : Job → Order
ordered job = record { drive = 0; side = 0; job = job }

-- of a normal sector, EOT 9, without MT and SK
abbrev pub move_of : Pass → Id → Job
move_of pass id = Move (record { pass = pass; deleted = false; mt = false; sk = false; eot = 9; dtl = 0 }) id

-- an end: ST0, ST1, ST2 and the address
abbrev pub ended : ℕ → ℕ → ℕ → Id → Then
ended st0 st1 st2 id = Ends (record { st0 = st0; st1 = st1; st2 = st2; id = id })

pub record Setting : Type 0 where
  pub then : Then
  pub fifo : Fifo
  pub img : List ℕ

abbrev pub after_step : Step → List ℕ → Setting
after_step step img = record { then = step.then; fifo = step.fifo; img = stored_in step.effect img }

-- the first tick, on sectors 1 and 2
abbrev pub begun : Job → Setting
begun job = after_step (begin_of (ordered job) (Some (disk 1 1 2 1)) 0 emptied) (sample 2)

-- a later tick, FIFO off; where the host serves, it has given a byte A5 before it if there is room
abbrev pub setting_tick : Bool → Then → Fifo → List ℕ → Setting
setting_tick serves (Ends verdict) fifo img = record { then = Ends verdict; fifo = fifo; img = img }
setting_tick true (Works work) fifo img =
    after_step (go_on_of work (Some (disk 1 1 2 1)) 0 img (given_of true false 0xA5 fifo) true 0) img
setting_tick false (Works work) fifo img = after_step (go_on_of work (Some (disk 1 1 2 1)) 0 img fifo true 0) img

abbrev pub ran : Bool → ℕ → Setting → Setting
ran serves zero scene = scene
ran serves (suc n) scene = ran serves n (setting_tick serves scene.then scene.fifo scene.img)

-- the image of a Write of sector 1, after the first tick, the look that matches, and so many stores
abbrev pub written : ℕ → List ℕ
written stores = (ran true (suc stores) (begun (move_of Write (chrn_of 0 0 1)))).img

pub record EngineExamples : Type 0 where
  -- 01 Example 9: Read, drive 0 empty: 40 01 00
  pub ex9 : begin_of (ordered (move_of Read (chrn_of 0 0 1))) None 0 emptied
      ≡ record { then = ended 0x40 0x01 0x00 (chrn_of 0 0 1); fifo = emptied; effect = None }
  -- 01 Example 10: B 256, 100 stores: mark 3, 99 new bytes; 258: mark 1. The sector's mark stands at 13
  pub ex10_100_mark : get_or (written 100) 13 0 ≡ 3
  pub ex10_100_bytes : take 256 (drop 18 (written 100)) ≡ replicate 99 0xA5 ++ replicate 157 0xF6
  pub ex10_257_mark : get_or (written 257) 13 0 ≡ 3
  pub ex10_258_mark : get_or (written 258) 13 0 ≡ 1
  pub ex10_258_bytes : take 256 (drop 18 (written 258)) ≡ replicate 256 0xA5
  -- 01 Write: the 64th tick without a byte, and not the 63rd, ends with ST1 10
  pub wait_63 : then_wait (ran false 64 (begun (move_of Write (chrn_of 0 0 1)))).then ≡ 63
  pub wait_64 : (ran false 65 (begun (move_of Write (chrn_of 0 0 1)))).then ≡ ended 0x40 0x10 0x00 (chrn_of 0 0 1)
  -- 02 2026-02: FIFO full, ST1 10: the look that matches, the sector's 256 bytes, of which one is held and the tick
  -- that has the second empties the FIFO, and one look, before which it is at work on drive 0
  pub overrun_runs_on : then_drive 9 (ran false 257 (begun (move_of Read (chrn_of 0 0 1)))).then ≡ 0
  pub overrun : (ran false 258 (begun (move_of Read (chrn_of 0 0 1)))).then ≡ ended 0x40 0x10 0x00 (chrn_of 0 0 1)
  -- 01 Search: IDs met but not that one, at the second pass; another C below FF
  pub no_such_sector : (ran false 4 (begun (move_of Read (chrn_of 0 0 3)))).then ≡ ended 0x40 0x04 0x00 (chrn_of 0 0 3)
  pub other_cylinder : (ran false 4 (begun (move_of Read (chrn_of 5 0 1)))).then ≡ ended 0x40 0x04 0x10 (chrn_of 5 0 1)
  -- 01 Read ID: first ID from slot 0
  pub first_id_law : (ran false 1 (begun Identify)).then ≡ ended 0x00 0x00 0x00 (chrn_of 0 0 1)
  -- 01 Data commands: Format with SC above S
  pub sc_above : (begun (Format (record { n = 1; sc = 3; fill = 0xE5 }))).then ≡ ended 0x40 0x04 0x00 (chrn_of 0 0 0)
