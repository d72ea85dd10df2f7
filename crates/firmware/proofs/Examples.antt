-- A write by the library's calls alone (specs/Examples): by computation on the box that the bytes show.
-- Assumes nothing.
use Rattle.std.specs.Prelude.{Some}
use Prim.Native.Nat.{ℕ}
use native.Mathlib.Omega.{arith}
use mathlib.Core.List.{List, [], ◌∷◌, ◌++◌}
use mathlib.Core.Path.{◌≡◌, refl, subst}
use borrow.Author.Rules.{rules}
use Rattle.image.specs.Disk.{header_in, geometry_in, disk_in}
use Rattle.image.specs.Examples.{disk, sample}
use Rattle.image.specs.Layout.{size_of, track_length, length_of}
use Rattle.fdc.specs.Calls.{power_on}
use Rattle.demands.specs.PowerCut.{Writes}
use Rattle.demands.specs.Work.{Real, Its, image_left}
use Rattle.reached.proofs.Open.{calls_open}
use Rattle.capi.specs.Word.{word_in}
use Rattle.firmware.specs.Calls.{World, BelCall, power_on_law, dma_write_law, tick_many, world_left}
use Rattle.firmware.specs.Calls.{first_after, second_after, world_after}
use Rattle.firmware.specs.Examples.{blank, asked, begun, writer, written, sector_one, ordered, served, FirmwareExamples}
use Rattle.firmware.specs.FromFirmware.{Stays, Accepted, stores_on}
use Rattle.firmware.specs.Inside.{stores_made, stores_in}
use Rattle.firmware.specs.Lists.{ShowsBox, FollowsBox}
use Rattle.firmware.specs.Made.{Box, tick_calls, ticks_made, calls_in, box_left, calls_made, last_of, word_by}
use Rattle.firmware.proofs.AnyBytesLaws.{any_bytes}
use Rattle.firmware.proofs.FirmwareLaws.{from_firmware}
use Rattle.firmware.proofs.ListLaws.{over_lists}

abbrev powered : Box
powered = record { controller = (power_on 0 0).controller; first = sample 2; second = [] }

-- after power-on and any calls
follows : (calls : List BelCall) → FollowsBox (world_after (power_on_law 0 0) blank) powered calls
follows calls =
    let p = (any_bytes blank).powered (omega arith) 0 0 in
    over_lists (world_after (power_on_law 0 0) blank) powered p.0 p.1 calls

real : Real writer
unfolding world_left
real =
    subst Real (follows asked).shows.record_is.back
    (from_firmware.real blank (omega arith) 0 0 asked (search rules))

writes : Writes writer ordered written sector_one
unfolding calls_open calls_in box_left image_left
writes = record { accepted = refl; moves = refl; writes = refl }

mounts : disk_in (sample 2) ≡ Some (disk 1 1 2 1)
unfolding header_in geometry_in disk_in size_of track_length length_of
mounts = refl

accepts : Accepted begun writer ordered written sector_one (disk 1 1 2 1)
unfolding world_left first_after
accepts = record { holds = (follows asked).shows.record_is; real = real; writes = writes; disk = mounts }

stores_same : (n : ℕ) (w : World) (x : Box) → ShowsBox w x
    → stores_on n w ≡ stores_in n x.first x.second x.controller
stores_same n w x s = rw (s.first, s.second, s.record_is.back)

pub firmware_examples : FirmwareExamples
unfolding calls_open image_left Its word_in world_left first_after second_after calls_in box_left calls_made tick_calls ticks_made
    last_of word_by Stays stores_made
firmware_examples =
    record {
      accepted = accepts;
      its = (refl, (refl, (refl, (refl, (refl, tt)))));
      stays = (tt, (tt, tt));
      first_word = (follows asked).word (tick_many 9);
      byte_word = (follows (asked ++ (tick_many 9 ∷ []))).word (dma_write_law 0xA5 0);
      last_word = (follows (asked ++ served)).word (tick_many 100);
      stores = stores_same 100 _ _ (follows (asked ++ served)).shows;
    }
