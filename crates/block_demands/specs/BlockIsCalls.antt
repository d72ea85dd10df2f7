-- A request is a list of public calls (02 2026-01): those before the data command, its own, and those behind it. The
-- command starts from a record that is `Quiet`, so that all that is said of a command's calls holds of its own.
-- Assumes nothing.
use Rattle.std.specs.Prelude.{ℕ, true, List, [], ◌∷◌, ◌++◌, ◌≡◌}
use Rattle.image.specs.declared.layout.Geometry.{Geometry}
use Rattle.sectors.specs.declared.order.Pass.{Pass}
use Rattle.sectors.specs.declared.order.Pass.TheVariants.{Read, Write}
use Rattle.fdc.specs.declared.record.Controller.{Controller}
use Rattle.fdc.specs.declared.record.Phase.TheVariants.{Starting, Answering}
use Rattle.fdc.specs.Registers.{motor_in}
use Rattle.reached.specs.Runs.{Call, run_calls}
use Rattle.demands.specs.Acknowledged.{result_byte}
use Rattle.demands.specs.PowerCut.{head_of}
use Rattle.demands.specs.Quiet.{Quiet}
use Rattle.demands.specs.Work.{Its}
use Rattle.block.specs.declared.place.Place.{Place}
use Rattle.block.specs.declared.request.Reply.{Reply}
use Rattle.block.specs.declared.request.Reply.TheVariants.{Ended}
use Rattle.block.specs.Box.{Box}
use Rattle.block.specs.Place.{place_of}
use Rattle.block.specs.Request.{ending_of, read_block, write_block}
use Rattle.block_demands.specs.Asked.{Asked, order_of}
use Rattle.block_demands.specs.Made.{box_after, AllHanded, Idles}

-- ST0 ST1 ST2 C H R N as the controller holds them
abbrev pub result_of : Controller → List ℕ
result_of c =
    result_byte 0 c
    ∷ result_byte 1 c
    ∷ result_byte 2 c
    ∷ result_byte 3 c
    ∷ result_byte 4 c
    ∷ result_byte 5 c
    ∷ result_byte 6 c
    ∷ []

-- a request as its calls, from one box to another with that reply
pub record Calls (pass : Pass) (drive : ℕ) (g : Geometry) (place : Place) (s t : Box) (reply : Reply) : Type 0 where
  pub before : List Call
  pub during : List Call
  pub behind : List Call
  -- each is handed the record that the one before gave, each tick both images as they were left
  pub handed : AllHanded (before ++ (during ++ behind)) s
  pub leads : box_after (before ++ (during ++ behind)) s ≡ t
  -- before the command, and behind it, no image changes
  pub still : Idles before s.controller
  pub idle : Idles behind (run_calls during (run_calls before s.controller))
  -- the command is accepted, with the head on the block's cylinder and the motor on
  pub quiet : Quiet (run_calls before s.controller)
  pub starts : (run_calls before s.controller).phase ≡ Starting (order_of pass drive g place)
  pub head : head_of (order_of pass drive g place) (run_calls before s.controller) ≡ place.cylinder
  pub motor : motor_in (run_calls before s.controller).registers.dor drive ≡ true
  -- its calls lead to its end, and the service changes no status byte
  pub its : Its during (run_calls before s.controller)
  pub ends : (run_calls during (run_calls before s.controller)).phase ≡ Answering true
  pub reply_is : reply ≡ Ended (ending_of (result_of (run_calls during (run_calls before s.controller))))

-- from any valid record, in any phase, on any image that fits
pub record BlockIsCalls : Type 0 where
  pub read : (drive block : ℕ) (s : Box) (g : Geometry) (out : List ℕ) → Asked drive block s g out
      → Calls Read drive g (place_of g block) s (read_block drive block s out).box (read_block drive block s out).reply
  pub write : (drive block : ℕ) (s : Box) (g : Geometry) (bytes : List ℕ) → Asked drive block s g bytes
      → Calls Write drive g (place_of g block) s (write_block drive block s bytes).box
      (write_block drive block s bytes).reply
