-- Demand 3's other side: document 01, Calls, "Only a tick changes an image", and Data commands: only a Write or a Format
-- at work stores.
-- Assumes nothing.
use Rattle.std.specs.Prelude.{ℕ, Bool, true, List, [], ◌∷◌, ◌≡◌, Some}
use Rattle.sectors.specs.declared.order.Pass.TheVariants.{Write}
use Rattle.sectors.specs.declared.work.Work.{Work}
use Rattle.sectors.specs.declared.work.Work.TheVariants.{Identifying, Moving, Formatting}
use Rattle.engine.specs.Kept.{suited}
use Rattle.image.specs.declared.layout.Geometry.{Geometry}
use Rattle.image.specs.Disk.{disk_in}
use Rattle.image.specs.Lent.{pick_of}
use Rattle.fdc.specs.declared.record.Controller.{Controller}
use Rattle.fdc.specs.declared.record.Phase.{Phase}
use Rattle.fdc.specs.declared.record.Phase.TheVariants.{Idle, Gathering, Starting, Working, Sensing, Answering}
use Rattle.reached.specs.Runs.{Call}
use Rattle.fdc.specs.Ticks.{image_after}
use Rattle.demands.specs.Work.{Real, AllOfBytes, Handed, image_left}

abbrev pub Changes : Work → Type 0
Changes (Identifying site slot passes) = ⊥
Changes (Moving site task stage) = task.transfer.pass ≡ Write
Changes (Formatting site plan form) = Unit {0}

-- a Write or a Format is at work; one that waits for its first tick is not yet
abbrev pub Storing : Phase → Type 0
Storing Idle = ⊥
Storing (Gathering entry) = ⊥
Storing (Starting order) = ⊥
Storing (Working work) = Changes work
Storing (Sensing unit) = ⊥
Storing (Answering loud) = ⊥

-- a Read is in no stage of a Write, nor a Write in one of a Read
abbrev pub suited_in : Phase → Bool
suited_in Idle = true
suited_in (Gathering entry) = true
suited_in (Starting order) = true
suited_in (Working work) = suited work
suited_in (Sensing unit) = true
suited_in (Answering loud) = true

pub record OnlyWrites : Type 0 where
  -- of every reached record
  pub reached : (c : Controller) → Real c → (Storing c.phase → ⊥) → (a b : List ℕ) (k : ℕ) (img : List ℕ)
      → image_after k a b c img ≡ img
  -- and of any record whose stage suits, valid or not
  pub any : (c : Controller) → suited_in c.phase ≡ true → (Storing c.phase → ⊥) → (a b : List ℕ) (k : ℕ)
      (img : List ℕ)
      → image_after k a b c img ≡ img

-- 01 Data commands: "Write or Format, protected": from every reached record a protected image never changes, whichever
-- drive's it is and whatever its motor does. Of a tick, and over every list of calls whose ticks are handed it
abbrev pub Locked : List ℕ → Type 0
Locked img = (g : Geometry) × ((disk_in img ≡ Some g) × (g.protect ≡ true))

unfoldable pub AllHanded : ℕ → List ℕ → List Call → Type 0
AllHanded k img [] = Unit {0}
AllHanded k img (call ∷ calls) = Handed k img call × AllHanded k img calls

pub record ProtectedStays : Type 0 where
  pub tick : (c : Controller) → Real c → (k : ℕ) (a b : List ℕ) → Locked (pick_of k a b)
      → image_after k a b c (pick_of k a b) ≡ pick_of k a b
  pub list : (c : Controller) → Real c → (k : ℕ) (img : List ℕ) → Locked img → (calls : List Call) → AllOfBytes calls
      → AllHanded k img calls → image_left k img calls c ≡ img
