-- The closure puts a track.
use Rattle.std.proofs.Common.{rules, sym, ◌∙◌}
use contract.BorrowLft.{⊑_meet, ⊑_static}
use Rattle.blank.proofs.PartLaws.{track_length_lem}
use Rattle.blank.proofs.parts.Blank.put_cylinder.Goals as goal

pub put_parts-requires : goal.put_parts-requires
put_parts-requires c κs within =
    let g = c.args.self.g in
    let size = c.requires.size in (
      search (⊑_meet, ⊑_static, within.0, within.1.0) depth 12 fits 20000,
      (
        rw size c.requires.s_len,
        (
          λ p k l e κs' r r' n h z fit u m fc lft. e ∙ size,
          (
            λ p q k l e z. search rules,
            λ k. track_length_lem g c.args.self.fill c.args.cylinder k ∙ sym size,
          ),
        ),
      ),
    )
