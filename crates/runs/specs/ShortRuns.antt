-- The short save (02 2026-02), call by call: the host sends 300 bytes and no more, to sectors of 256 bytes and of 512.
-- The premises of `ShortIsLast` and of `Acknowledged` are met, and those of `OnlyCutsBreak` by disks that are pulled
-- from a sector begun. Reads that the host leaves: RowRuns, `overrun` to `late_other`; HandedExamples, `late`;
-- DataErrorExamples, `late_ends`.
-- Assumes nothing.
use Rattle.std.specs.Prelude.{ℕ, zero, suc, ◌*◌, ◌<◌, true, false, List, [], ◌∷◌, ◌++◌, ◌≡◌, length, get_or, take, drop, replicate, Some}
use Rattle.image.specs.declared.slot.Id.{Id}
use Rattle.image.specs.Disk.{disk_in}
use Rattle.image.specs.Examples.{disk}
use Rattle.sectors.specs.declared.order.Transfer.{Transfer}
use Rattle.reached.specs.Examples.{bare}
use Rattle.reached.specs.Moves.{AllCalm}
use Rattle.reached.specs.Runs.{Call, writes, gives, ticks, run_calls}
use Rattle.demands.specs.Acknowledged.{done_count, result_byte, result_id, Acknowledges}
use Rattle.demands.specs.History.{no_one, some_of, no_history, history_of}
use Rattle.demands.specs.PowerCut.{Writes, passing, Missing}
use Rattle.demands.specs.InTime.{SomeLate, late_in}
use Rattle.demands.specs.ShortSave.{NoneFollows, saw_of, Pulled}
use Rattle.demands.specs.Work.{Real, at_work, Its, Alone, image_left}
use Rattle.runs.specs.AckExamples.{writing, fed, plain}
use Rattle.runs.specs.CutExamples.{full}
use Rattle.runs.specs.Host.{order_of, idle, poured, track_of, image_of}
use Rattle.runs.specs.Whole.{
  WholeGiven,
  WholeOutcome,
  asked_by,
  calls_of,
  now_by,
  done_by,
  left_by,
  further,
  more_calls,
  waiting,
  WriteRun,
}

-- FF to 00, FF to D4
abbrev pub sent : List ℕ
sent = take 300 full

-- FIFO off, DMA, sectors 1 and 2 of 256 bytes, EOT 2: the last byte and three zeros are stored
abbrev pub save : WholeGiven
save =
    plain
    (bare ∷ poured false (take 1 sent)
    ++ (idle 2 ++ (fed (take 256 (drop 1 sent)) ++ (idle 3 ++ (fed (drop 257 sent) ++ idle 4)))))

-- eight ticks and the next eight bytes, so often
abbrev pub eights : ℕ → List ℕ → List Call
eights zero bytes = []
eights (suc n) bytes = idle 8 ++ (poured false (take 8 bytes) ++ eights n (drop 8 bytes))

-- FIFO on with FIFOTHR 7, DMA, one sector of 512 bytes: the host fills the FIFO each time it is asked; the last byte
-- and three zeros are stored
abbrev pub large : WholeGiven
large =
    record {
      head0 = 0;
      head1 = 0;
      dor = 0x1C;
      config = 0x07;
      spec = 0x02;
      bytes = 0x45 ∷ 0 ∷ 0 ∷ 0 ∷ 1 ∷ 2 ∷ 1 ∷ 0x1B ∷ 0xFF ∷ [];
      order = order_of 0 0 (writing false false 1) 0 0 1 2;
      disk = disk 1 1 1 2;
      img = image_of (disk 1 1 1 2) (track_of 2 0 0 1);
      does = bare ∷ poured false (take 16 sent) ++ (idle 2 ++ (eights 36 (drop 16 sent) ++ idle 15));
    }

-- the host comes too late with two bytes, TC with one of them; 209 zeros and the good mark
abbrev pub too_late : List Call
too_late = gives 7 false ∷ gives 7 true ∷ idle 210

-- 40 10 00 and the address of the sector in hand, 2 of EOT 2, and 1 of EOT 1
abbrev pub save_end : WholeOutcome
save_end =
    waiting (0x40 ∷ 0x10 ∷ 0x00 ∷ 0 ∷ 0 ∷ 2 ∷ 1 ∷ []) false sent
    (record { at = 274; bytes = drop 256 sent ++ replicate 212 0 } ∷ record { at = 13; bytes = take 256 sent } ∷ [])
    no_one

abbrev pub large_end : WholeOutcome
large_end =
    waiting (0x40 ∷ 0x10 ∷ 0x00 ∷ 0 ∷ 0 ∷ 1 ∷ 2 ∷ []) false sent
    (record { at = 13; bytes = sent ++ replicate 212 0 } ∷ []) no_one

-- the images, each sector under mark 1
abbrev pub save_left : List ℕ
save_left =
    image_of (disk 1 1 2 1)
    (0x02 ∷ 0x02 ∷ 0x0C ∷ 0 ∷ 0
    ∷ (1 ∷ 0 ∷ 0 ∷ 1 ∷ 1 ∷ take 256 sent)
    ++ (1 ∷ 0 ∷ 0 ∷ 2 ∷ 1 ∷ drop 256 sent ++ replicate 212 0))

abbrev pub large_left : List ℕ
large_left =
    image_of (disk 1 1 1 2) (0x02 ∷ 0x02 ∷ 0x07 ∷ 0 ∷ 0 ∷ (1 ∷ 0 ∷ 0 ∷ 1 ∷ 2 ∷ sent ++ replicate 212 0))

-- the premises of `ShortIsLast`: while zeros fill the sector a byte is missing; so none follows, whatever the host does
-- then
pub record Filling (x : WholeGiven) (more : List Call) : Type 0 where
  pub real : Real (asked_by x)
  pub transfer : Transfer
  pub id : Id
  pub accepted : Writes (asked_by x) x.order transfer id
  pub mounted : disk_in x.img ≡ Some x.disk
  pub its : Its (calls_of x) (asked_by x)
  pub alone : Alone x.order.drive x.img (calls_of x) (asked_by x)
  pub missing : Missing x.disk (done_by x)
  pub more_its : Its (more_calls more x) (now_by x)
  pub more_alone : Alone x.order.drive (left_by x) (more_calls more x) (now_by x)
  pub none : NoneFollows (done_by x) (history_of (more_calls more x) (now_by x) (done_by x))

-- the sector is finished and not acknowledged
pub record Short (x : WholeGiven) (o : WholeOutcome) (left : List ℕ) : Type 0 where
  pub run : WriteRun x o
  pub left_is : left_by x ≡ left
  pub untold : (done_by x).told ≡ false
  pub below : length (done_by x).host < done_count (done_by x) * passing x.disk
  pub acknowledges :
      Acknowledges x.disk run.transfer (record { id = run.id; side = x.order.side }) (done_by x)
      (result_byte 0 (now_by x)) (result_byte 1 (now_by x)) (result_byte 2 (now_by x)) (result_id (now_by x))

-- four bytes of sector 1 handed over: three stored, or all of them and two zeros
abbrev pub four : List Call
four = bare ∷ gives 9 false ∷ idle 2 ++ fed (8 ∷ 7 ∷ 6 ∷ [])

abbrev pub in_time : WholeGiven
in_time = plain four

abbrev pub missed : WholeGiven
missed = plain (four ++ idle 3)

-- the drive is emptied, another disk is put into it, the motor goes off
abbrev pub emptied : WholeGiven → List Call
emptied x = ticks [] [] ∷ []

abbrev pub swapped : WholeGiven → List Call
swapped x = ticks (image_of (disk 1 1 1 1) (track_of 1 0 0 1)) [] ∷ []

abbrev pub stilled : WholeGiven → List Call
stilled x = writes 2 0x0C ∷ ticks (left_by x) [] ∷ []

-- the premises of `OnlyCutsBreak`, and what it says; this ST1, and these bytes under mark 3 at 13
pub record PulledRun (x : WholeGiven) (last : List Call) (st1 : ℕ) (bytes : List ℕ) : Type 0 where
  pub real : Real (asked_by x)
  pub transfer : Transfer
  pub id : Id
  pub accepted : Writes (asked_by x) x.order transfer id
  pub its : Its (calls_of x ++ last) (asked_by x)
  pub calm : AllCalm (calls_of x ++ last)
  pub over : at_work (run_calls (calls_of x ++ last) (asked_by x)).phase ≡ false
  pub begun : (history_of (calls_of x ++ last) (asked_by x) no_history).begun ≡ some_of 13 bytes
  pub pulled :
      Pulled (run_calls (calls_of x ++ last) (asked_by x)) (saw_of x.order.drive (calls_of x ++ last) (asked_by x) [])
  pub result :
      (run_calls (calls_of x ++ last) (asked_by x)).bytes.results ≡ 0x40 ∷ st1 ∷ 0x00 ∷ 0 ∷ 0 ∷ 1 ∷ 1 ∷ []
  pub mark : get_or (image_left x.order.drive x.img (calls_of x ++ last) (asked_by x)) 13 0 ≡ 3

-- the premises of `LateTold`, and what it says
pub record LateRun (x : WholeGiven) (last : List Call) : Type 0 where
  pub some : SomeLate (calls_of x ++ last) (asked_by x)
  pub told : late_in (result_byte 1 (run_calls (calls_of x ++ last) (asked_by x))) ≡ true

pub record ShortRuns : Type 0 where
  pub save_fills : Filling save too_late
  pub save_short : Short (further too_late save) save_end save_left
  pub large_fills : Filling large too_late
  pub large_short : Short (further too_late large) large_end large_left
  pub emptied_late : PulledRun missed (emptied missed) 0x11 (9 ∷ 8 ∷ 7 ∷ 6 ∷ 0 ∷ 0 ∷ [])
  pub missed_told : LateRun missed (emptied missed)
  pub swapped_late : PulledRun missed (swapped missed) 0x11 (9 ∷ 8 ∷ 7 ∷ 6 ∷ 0 ∷ 0 ∷ [])
  pub stilled_late : PulledRun missed (stilled missed) 0x11 (9 ∷ 8 ∷ 7 ∷ 6 ∷ 0 ∷ 0 ∷ [])
  pub emptied_in_time : PulledRun in_time (emptied in_time) 0x01 (9 ∷ 8 ∷ 7 ∷ [])
