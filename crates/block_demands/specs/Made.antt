-- A request as a list of the controller's calls (02 2026-01): each is handed the record that the one before gave, and
-- each tick the two images as the calls before it left them.
-- Assumes nothing.
use Rattle.std.specs.Prelude.{false, List, [], ◌∷◌, ◌⊎◌, ◌≡◌}
use Rattle.block.specs.Box.{Box, box_of}
use Rattle.demands.specs.Work.{AllOfBytes, at_work, image_by}
use Rattle.fdc.specs.declared.record.Controller.{Controller}
use Rattle.reached.specs.Moves.{tick_one}
use Rattle.reached.specs.Runs.{Call, powers, reads, writes, takes, gives, ticks, notes, after}

-- a tick is handed both images
abbrev pub HandedBoth : Box → Call → Type 0
HandedBoth s (powers head0 head1) = Unit {0}
HandedBoth s (reads offset) = Unit {0}
HandedBoth s (writes offset byte) = Unit {0}
HandedBoth s (takes tc) = Unit {0}
HandedBoth s (gives byte tc) = Unit {0}
HandedBoth s (ticks a b) = (a ≡ s.first) × (b ≡ s.second)
HandedBoth s (notes drive) = Unit {0}

-- the record and both images after a call, and after a list of them
abbrev pub box_by : Call → Box → Box
box_by call s =
    box_of (after call s.controller) (image_by 0 s.first call s.controller)
    (image_by 1 s.second call s.controller)

unfoldable pub box_after : List Call → Box → Box
box_after [] s = s
box_after (call ∷ calls) s = box_after calls (box_by call s)

-- each of a list is handed both images as the calls before it left them
unfoldable pub AllHanded : List Call → Box → Type 0
AllHanded [] s = Unit {0}
AllHanded (call ∷ calls) s = HandedBoth s call × AllHanded calls (box_by call s)

-- calls, their arguments bytes, that lead from one box to another
pub record Made (s t : Box) : Type 0 where
  pub calls : List Call
  pub bytes : AllOfBytes calls
  pub handed : AllHanded calls s
  pub leads : box_after calls s ≡ t

-- calls that are handed a record with no command at work
unfoldable pub Rests : List Call → Controller → Type 0
Rests [] c = Unit {0}
Rests (call ∷ calls) c = (at_work c.phase ≡ false) × Rests calls (after call c)

-- calls that change no image: each is no tick, or handed such a record
unfoldable pub Idles : List Call → Controller → Type 0
Idles [] c = Unit {0}
Idles (call ∷ calls) c = ((tick_one call ≡ 0) ⊎ (at_work c.phase ≡ false)) × Idles calls (after call c)
