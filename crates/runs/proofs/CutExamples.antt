-- Write commands that are cut (specs/CutExamples): the histories by computation, the premises by tests that compute.
-- Assumes nothing.
use Rattle.std.specs.Prelude.{Some}
use Prim.Native.Nat.{ℕ, zero, suc}
use mathlib.Core.Bool.{Bool, true, false}
use mathlib.Core.List.{List}
use mathlib.Core.Path.{◌≡◌, refl, ap, subst}
use Rattle.image.specs.Disk.{header_in, geometry_in, disk_in}
use Rattle.image.specs.Layout.{size_of, track_length, length_of}
use Rattle.fdc.specs.declared.record.Controller.{Controller}
use Rattle.reached.specs.Runs.{Call, answer_to}
use borrow.Author.Rules.{rules}
use Rattle.image.specs.Examples.{disk, sample}
use Rattle.runs.specs.CutExamples.{
  asked,
  writer,
  written,
  sector_one,
  ordered,
  offer,
  rest_of,
  served,
  cut_calls,
  down,
  full,
  CutExample,
  CutExamples,
}
use Rattle.runs.proofs.Open.{all_open}
use Rattle.runs.proofs.Tests.{all_work, work_its}
use Rattle.demands.specs.History.{History, no_history, history_of}
use Rattle.demands.specs.PowerCut.{Writes, LeftBy, head_of}
use Rattle.demands.specs.Work.{Real, image_left, Alone}
use Rattle.demands.proofs.PowerCutLaws.{power_cut}

-- each tick is handed the image as the tick before left it
pub served_alone : (dma : Bool) (host : List ℕ) (n : ℕ) (c : Controller) (img : List ℕ)
    → Alone 0 img (served dma host n c img) c
unfolding Alone
served_alone dma host zero c img = tt
served_alone true host (suc n) c img = λ w. (tt, λ w'. (refl, served_alone true (rest_of (answer_to (offer true host) c).reply host) n _ _))
served_alone false host (suc n) c img = λ w. (tt, λ w'. (refl, served_alone false (rest_of (answer_to (offer false host) c).reply host) n _ _))

mounts : disk_in (sample 2) ≡ Some (disk 1 1 2 1)
unfolding header_in geometry_in disk_in size_of track_length length_of
mounts = refl

pub accepts : (dma : Bool) → Writes (writer dma) ordered written sector_one
unfolding all_open
accepts true = record { accepted = refl; moves = refl; writes = refl }
accepts false = record { accepted = refl; moves = refl; writes = refl }

pub reached : (dma : Bool) → Real (writer dma)
reached true = record { head0 = 0; head1 = 0; calls = asked true; bytes = search rules; run = refl }
reached false = record { head0 = 0; head1 = 0; calls = asked false; bytes = search rules; run = refl }

-- what the calls did, and that they are the command's: one equation, so that the calls are worked out once
record Cut : Type 0 where
  work : Bool
  history : History

abbrev cut_by : List Call → Controller → Cut
cut_by calls c = record { work = all_work calls c; history = history_of calls c no_history }

module _ (dma : Bool) (host : List ℕ) (n : ℕ) (h : History) where
  example : cut_by (cut_calls dma host n) (writer dma) ≡ record { work = true; history = h } → CutExample dma host n h
  example e =
      record {
        real = reached dma;
        accepted = accepts dma;
        mounted = mounts;
        its = work_its (cut_calls dma host n) (writer dma) (ap (λ (x : Cut). x.work) e);
        alone = served_alone dma host n (writer dma) (sample 2);
        history = ap (λ (x : Cut). x.history) e;
      }

pub cut_examples : CutExamples
unfolding all_open all_work
cut_examples =
    record {
      by_dma = example true full 102 _ refl;
      by_port = example false full 102 _ refl;
      in_second = example true full 272 _ refl;
      with_tc = example true (down 5) 260 _ refl;
    }

pub head_zero : (dma : Bool) → head_of ordered (writer dma) ≡ 0
unfolding all_open
head_zero true = refl
head_zero false = refl

-- so `power_cut` speaks of each of them
pub example_left : (dma : Bool) (host : List ℕ) (n : ℕ) (h : History) → CutExample dma host n h
    → LeftBy (disk 1 1 2 1) 0 written (record { id = sector_one; side = 0 }) (sample 2)
    (image_left 0 (sample 2) (cut_calls dma host n) (writer dma)) h
example_left dma host n h e =
    subst
    (λ (x : History).
    LeftBy (disk 1 1 2 1) 0 written (record { id = sector_one; side = 0 }) (sample 2)
    (image_left 0 (sample 2) (cut_calls dma host n) (writer dma)) x)
    e.history
    (rw (head_zero dma) at
    (power_cut (writer dma) e.real ordered written sector_one e.accepted (sample 2) (disk 1 1 2 1) e.mounted
    (cut_calls dma host n) e.its e.alone))
