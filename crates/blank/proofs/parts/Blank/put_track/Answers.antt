-- The closure puts a slot.
use Rattle.std.proofs.Common.{rules, ◌≡◌, arith, sym, ◌∙◌}
use contract.BorrowLft.{⊑_meet, ⊑_static}
use Rattle.image.specs.Layout.{slot_length}
use Rattle.blank.proofs.PartLaws.{track_is, slot_length_lem}
use Rattle.blank.proofs.parts.Blank.put_track.Goals as goal

pub put_parts-requires : goal.put_parts-requires
put_parts-requires c κs within =
    let g = c.args.self.g in
    let size : c.slots_length-2.result ≡ slot_length g = omega (arith, c.slots_length-2.ensures.value) in (
      search (⊑_meet, ⊑_static, within.0, within.1.0, within.1.1.0) depth 12 fits 20000,
      (
        rw size (omega (arith, track_is g)),
        (
          λ p k l e κs' r r' n h z fit u m fc fs lft. (e ∙ size, omega arith),
          (
            λ p q k l e z. search rules,
            λ k. slot_length_lem g c.args.self.fill c.args.cylinder c.args.side k ∙ sym size,
          ),
        ),
      ),
    )
