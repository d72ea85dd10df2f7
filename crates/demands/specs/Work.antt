-- A command over a list of calls: document 01, Refusals, "over every list of calls, each handed the record that the one
-- before gave. That nobody else changes an image means: a command's first tick is handed it as it was before the
-- command, each later tick as the command's tick before left it. A power cut is the end of the list."
-- Assumes nothing.
use Rattle.std.specs.Prelude.{ℕ, ◌<◌, Bool, true, false, List, [], ◌∷◌, ◌⊎◌, ◌≡◌}
use Rattle.image.specs.Lent.{pick_of}
use Rattle.fdc.specs.declared.record.Controller.{Controller}
use Rattle.fdc.specs.declared.record.Phase.{Phase}
use Rattle.fdc.specs.declared.record.Phase.TheVariants.{Idle, Gathering, Starting, Working, Sensing, Answering}
use Rattle.fdc.specs.Calls.{power_on}
use Rattle.reached.specs.Runs.{Call, powers, reads, writes, takes, gives, ticks, notes, after, run_calls}
use Rattle.fdc.specs.Ticks.{image_after}

-- the numbers of a call are bytes, as its parameters' types have it
abbrev pub OfBytes : Call → Type 0
OfBytes (powers head0 head1) = (head0 < 256) × (head1 < 256)
OfBytes (reads offset) = offset < 256
OfBytes (writes offset byte) = (offset < 256) × (byte < 256)
OfBytes (takes tc) = Unit {0}
OfBytes (gives byte tc) = byte < 256
OfBytes (ticks a b) = Unit {0}
OfBytes (notes drive) = drive < 256

abbrev pub AllOfBytes : List Call → Type 0
AllOfBytes [] = Unit {0}
AllOfBytes (call ∷ calls) = OfBytes call × AllOfBytes calls

-- 01 Refusals: a record reached from power-on by calls
pub record Real (c : Controller) : Type 0 where
  pub head0 : ℕ
  pub head1 : ℕ
  pub calls : List Call
  pub bytes : AllOfBytes calls
  pub run : run_calls calls (power_on head0 head1).controller ≡ c

-- a data command, Read ID or Format that was accepted and is not over
abbrev pub at_work : Phase → Bool
at_work Idle = false
at_work (Gathering entry) = false
at_work (Starting order) = true
at_work (Working work) = true
at_work (Sensing unit) = false
at_work (Answering loud) = false

-- the calls are the command's: each is handed a record at work, so that the last of them at most ends it
unfoldable pub Its : List Call → Controller → Type 0
Its [] c = Unit {0}
Its (call ∷ calls) c = (at_work c.phase ≡ true) × Its calls (after call c)

-- the image of a drive, that nobody else changes, after a call
abbrev pub image_by : ℕ → List ℕ → Call → Controller → List ℕ
image_by drive img (powers head0 head1) c = img
image_by drive img (reads offset) c = img
image_by drive img (writes offset byte) c = img
image_by drive img (takes tc) c = img
image_by drive img (gives byte tc) c = img
image_by drive img (ticks a b) c = image_after drive a b c img
image_by drive img (notes drive') c = img

-- and after a list of calls
unfoldable pub image_left : ℕ → List ℕ → List Call → Controller → List ℕ
image_left drive img [] c = img
image_left drive img (call ∷ calls) c = image_left drive (image_by drive img call c) calls (after call c)

-- a tick is handed that image for that drive; for the other drive it is handed whatever it is handed
abbrev pub Handed : ℕ → List ℕ → Call → Type 0
Handed drive img (powers head0 head1) = Unit {0}
Handed drive img (reads offset) = Unit {0}
Handed drive img (writes offset byte) = Unit {0}
Handed drive img (takes tc) = Unit {0}
Handed drive img (gives byte tc) = Unit {0}
Handed drive img (ticks a b) = pick_of drive a b ≡ img
Handed drive img (notes drive') = Unit {0}

-- 01 Refusals: nobody else changes the image of that drive, as long as the command is at work
unfoldable pub Alone : ℕ → List ℕ → List Call → Controller → Type 0
Alone drive img [] c = Unit {0}
Alone drive img (call ∷ calls) c =
    at_work c.phase ≡ true → Handed drive img call × Alone drive (image_by drive img call c) calls (after call c)

-- the command ends by the end of the list at the latest, and this holds of the record that it ends with
unfoldable pub EndsWith : (Controller → Type 0) → List Call → Controller → Type 0
EndsWith P [] c = (at_work c.phase ≡ false) × P c
EndsWith P (call ∷ calls) c =
    ((at_work c.phase ≡ false) × P c) ⊎ ((at_work c.phase ≡ true) × EndsWith P calls (after call c))

abbrev pub Anyhow : Controller → Type 0
Anyhow c = Unit {0}
