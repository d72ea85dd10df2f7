-- The wait for a data command's end does not run out (02 2026-01): the service's budget is the bound of 01 End.
-- Assumes nothing.
use Rattle.std.specs.Prelude.{Some}
use Prim.Native.Nat.{ℕ, ◌<◌}
use mathlib.Core.Bool.{Bool, true}
use mathlib.Core.List.{List}
use mathlib.Core.Logic.{inl, inr}
use mathlib.Core.Path.{◌≡◌, refl, sym, ap, ◌∙◌}
use Rattle.image.specs.declared.layout.Geometry.{Geometry}
use Rattle.image.specs.Disk.{disk_in}
use Rattle.sectors.specs.declared.order.Pass.{Pass}
use Rattle.fdc.specs.declared.record.Phase.TheVariants.{Starting, Answering}
use Rattle.reached.specs.Moves.{tick_count}
use Rattle.reached.specs.Runs.{Call, run_calls}
use Rattle.demands.specs.EndsInTime.{bound_of}
use Rattle.demands.specs.Quiet.{Quiet}
use Rattle.demands.specs.Work.{Anyhow}
use Rattle.demands.proofs.EndsLaws.{ends_in_time_quiet}
use Rattle.block.specs.declared.place.Place.{Place}
use Rattle.block.specs.Box.{Box}
use Rattle.block.specs.Request.{budget_of}
use Rattle.block_demands.specs.Asked.{image_of, order_of}
use Rattle.block_demands.proofs.CourseLaws.{Course, Come, alone_picked}
use Rattle.block_demands.proofs.EndLaws.{ends_not_on}
use Rattle.block_demands.proofs.MadeLaws.{after_record}

budget_bound : (g : Geometry) → bound_of g ≡ budget_of g
unfolding bound_of budget_of
budget_bound g = refl

-- the record that a course leads to
pub course_runs : (drive n : ℕ) (s : Box) (came : Bool) (u : Box) (calls : List Call) → Course drive n s came u calls
    → run_calls calls s.controller ≡ u.controller
course_runs drive n s came u calls course =
    sym (after_record calls s) ∙ ap (λ (x : Box). x.controller) course.leads

-- the end came, and its seven bytes wait
pub record InBudget (end : Bool) (u : Box) : Type 0 where
  pub came : end ≡ true
  pub said : u.controller.phase ≡ Answering true
  pub left : u.controller.bytes.left ≡ 7

module _ (pass : Pass) (drive : ℕ) (g : Geometry) (place : Place) (low : drive < 2) (s : Box)
    (quiet : Quiet s.controller) (starts : s.controller.phase ≡ Starting (order_of pass drive g place))
    (disk : disk_in (image_of drive s) ≡ Some g) (end : Bool) (u : Box) (calls : List Call)
    (course : Course drive (budget_of g) s end u calls) where
  pub in_budget : InBudget end u
  in_budget = go course.ends
    where
      go : Come end (budget_of g) (tick_count calls) u → InBudget end u
      go (inl over) = record { came = over.0; said = over.1; left = over.2 }
      go (inr on) =
          absurd
          (ends_not_on Anyhow calls s.controller course.its
          (rw (course_runs drive (budget_of g) s end u calls course) on.2)
          (ends_in_time_quiet s.controller quiet (order_of pass drive g place) starts (image_of drive s) g disk calls
          (alone_picked drive low calls s course.handed) (rw (budget_bound g) on.1)))
