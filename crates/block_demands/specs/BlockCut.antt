-- Demand 3 of a block write (02 2026-01): power may go after any of its calls. What the image then holds is what
-- `LeftBy` (demands/specs/PowerCut) says of the command's calls so far.
-- Assumes nothing.
use Rattle.std.specs.Prelude.{ℕ, ◌+◌, ◌≤◌, List, ◌++◌, ◌≡◌, length, take}
use Rattle.image.specs.declared.layout.Geometry.{Geometry}
use Rattle.sectors.specs.declared.order.Pass.TheVariants.{Write}
use Rattle.fdc.specs.declared.record.Controller.{Controller}
use Rattle.reached.specs.Runs.{Call, run_calls}
use Rattle.demands.specs.History.{History, no_history, history_of}
use Rattle.demands.specs.PowerCut.{LeftBy, begun_ones}
use Rattle.block.specs.Box.{Box}
use Rattle.block.specs.Place.{place_of}
use Rattle.block_demands.specs.Asked.{image_of, Asked, transfer_of, id_of}
use Rattle.block_demands.specs.BlockIsCalls.{Calls}
use Rattle.block_demands.specs.Made.{box_after}
use Rattle.block.specs.Request.{write_block}

-- what the command's calls so far leave of the image: the host's bytes are the caller's first ones, and no sector but
-- the block's is begun or finished
pub record LeftOf (block : ℕ) (g : Geometry) (bytes old img : List ℕ) (h : History) : Type 0 where
  pub left : LeftBy g (place_of g block).cylinder (transfer_of Write g)
      (record { id = id_of g (place_of g block); side = (place_of g block).side }) old img h
  pub host : h.host ≡ take (length h.host) bytes
  pub one : length h.finished + begun_ones h.begun ≤ 1

-- after a first part of the calls: none of the command's is made yet, and the image is as it was; or some are, and it
-- is as they leave it; or all, and it is as they left it
pub data Cut (block : ℕ) (g : Geometry) (bytes old img : List ℕ) (c : Controller)
    (before during behind part : List Call) : Type 0 where
  not_yet : (rest : List Call) → part ++ rest ≡ before → img ≡ old
      → Cut block g bytes old img c before during behind part
  at_work_law : (some rest : List Call) → part ≡ before ++ some → some ++ rest ≡ during
      → LeftOf block g bytes old img (history_of some (run_calls before c) no_history)
      → Cut block g bytes old img c before during behind part
  over : (more rest : List Call) → part ≡ before ++ (during ++ more) → more ++ rest ≡ behind
      → LeftOf block g bytes old img (history_of during (run_calls before c) no_history)
      → Cut block g bytes old img c before during behind part

-- every first part of the request's calls leaves the drive's image so, and the other drive's as it was
pub record CutAnywhere (drive block : ℕ) (s : Box) (g : Geometry) (bytes : List ℕ) : Type 0 where
  pub calls : Calls Write drive g (place_of g block) s (write_block drive block s bytes).box
      (write_block drive block s bytes).reply
  pub cut : (part rest : List Call) → part ++ rest ≡ calls.before ++ (calls.during ++ calls.behind)
      → Cut block g bytes (image_of drive s) (image_of drive (box_after part s)) s.controller calls.before
      calls.during calls.behind part
  pub other : (part rest : List Call) → part ++ rest ≡ calls.before ++ (calls.during ++ calls.behind)
      → (k : ℕ) → (k ≡ drive → ⊥) → image_of k (box_after part s) ≡ image_of k s

-- from any valid record, in any phase, on any image that fits: sound or not, protected or not
abbrev pub BlockCut : Type 0
BlockCut =
    (drive block : ℕ) (s : Box) (g : Geometry) (bytes : List ℕ) → Asked drive block s g bytes
    → CutAnywhere drive block s g bytes
