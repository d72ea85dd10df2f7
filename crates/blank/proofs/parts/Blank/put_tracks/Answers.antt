-- The closure puts a cylinder.
use Rattle.std.proofs.Common.{rules, ◌≡◌, ◌*◌, sym, ◌∙◌}
use contract.BorrowLft.{⊑_meet, ⊑_static}
use Rattle.image.specs.Layout.{track_length}
use Rattle.blank.proofs.PartLaws.{cylinder_length}
use Rattle.blank.proofs.parts.Blank.put_tracks.Goals as goal

pub put_parts-requires : goal.put_parts-requires
put_parts-requires c κs within =
    let g = c.args.self.g in
    let size : c.from.result * c.track_length-size.result ≡ g.heads * track_length g
    = rw (c.from.ensures, c.track_length-size.ensures.value) in (
      search (⊑_meet, ⊑_static, within.0, within.1.0) depth 12 fits 20000,
      (
        rw size c.requires,
        (
          λ p k l e κs' r r' n h z fit u m f lft.
              (c.track_length-size.ensures.value, e ∙ size),
          (
            λ p q k l e z. search rules,
            λ k. cylinder_length g c.args.self.fill k ∙ sym size,
          ),
        ),
      ),
    )
