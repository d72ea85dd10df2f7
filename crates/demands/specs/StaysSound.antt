-- A sound image stays sound (01 Image sound) through a write command, wherever the power goes, and through a read: so
-- demand 3 may be asked of one command after the other.
-- Assumes nothing.
use Rattle.std.specs.Prelude.{ℕ, List}
use Rattle.sectors.specs.declared.order.Order.{Order}
use Rattle.sectors.specs.declared.order.Transfer.{Transfer}
use Rattle.image.specs.declared.layout.Geometry.{Geometry}
use Rattle.image.specs.declared.slot.Id.{Id}
use Rattle.image.specs.Sound.{Sound}
use Rattle.fdc.specs.declared.record.Controller.{Controller}
use Rattle.reached.specs.Runs.{Call}
use Rattle.demands.specs.HandedOver.{Reads}
use Rattle.demands.specs.PowerCut.{Writes}
use Rattle.demands.specs.Work.{Its, Alone, image_left}

-- A Format's twin would be false: a host may give two slots of a track one address
abbrev pub StaysSound : (Controller → Type 0) → Type 0
StaysSound From =
    (c : Controller) → From c → (order : Order) (transfer : Transfer) (id : Id) → Writes c order transfer id
    → (old : List ℕ) (g : Geometry) → Sound g old
    → (calls : List Call) → Its calls c → Alone order.drive old calls c
    → Sound g (image_left order.drive old calls c)

abbrev pub StaysSoundRead : (Controller → Type 0) → Type 0
StaysSoundRead From =
    (c : Controller) → From c → (order : Order) (transfer : Transfer) (id : Id) → Reads c order transfer id
    → (img : List ℕ) (g : Geometry) → Sound g img
    → (calls : List Call) → Its calls c → Alone order.drive img calls c
    → Sound g (image_left order.drive img calls c)
