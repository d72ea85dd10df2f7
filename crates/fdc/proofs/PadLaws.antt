-- Result bytes in their room.
-- Assumes nothing.
use Prim.Native.Nat.{ℕ, ◌-◌, ◌≤◌}
use native.Mathlib.Omega.{arith}
use mathlib.Core.List.{List}
use mathlib.Core.Path.{◌≡◌}
use lib.ListN.{length, drop, replicate, length-drop, length-replicate, length-append}
use Rattle.fdc.specs.Data.{shifted}
use Rattle.fdc.specs.Record.{result_room, padded}

-- the room is as long as it is
pub length_padded : (l : List ℕ) → length l ≤ result_room → length (padded l) ≡ result_room
length_padded l h =
    omega (
      arith,
      length-append l (replicate (result_room - length l) 0),
      length-replicate {A = ℕ} (result_room - length l) 0,
    )

pub length_shifted : (l : List ℕ) → length l ≡ result_room → length (shifted l) ≡ result_room
length_shifted l h = length_padded (drop 1 l) (omega (arith, length-drop 1 l))
