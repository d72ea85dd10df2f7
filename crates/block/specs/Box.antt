-- A controller with the two images that it is lent, and what a tick does to the three (02 2026-01): nobody else
-- changes an image while a request is served.
-- Assumes nothing.
use Rattle.std.specs.Prelude.{ℕ, Bool, List}
use Rattle.fdc.specs.declared.answer.Answer.{Answer}
use Rattle.fdc.specs.declared.record.Controller.{Controller}
use Rattle.fdc.specs.Ticks.{tick_of, image_after}

pub record Box : Type 0 where
  pub controller : Controller
  pub first : List ℕ
  pub second : List ℕ

abbrev pub box_of : Controller → List ℕ → List ℕ → Box
box_of c a b = record { controller = c; first = a; second = b }

-- with another record
abbrev pub with_record : Controller → Box → Box
with_record c s = box_of c s.first s.second

-- a tick's answer
abbrev pub tick_answer : Box → Answer
tick_answer s = tick_of s.first s.second s.controller

-- and what it leaves
unfoldable pub ticked : Box → Box
ticked s =
    box_of (tick_answer s).controller
    (image_after 0 s.first s.second s.controller s.first)
    (image_after 1 s.first s.second s.controller s.second)

-- whether what was waited for came within its budget, and what is left then
pub record Came : Type 0 where
  pub came : Bool
  pub box : Box

abbrev pub came_with : Bool → Box → Came
came_with came box = record { came = came; box = box }
