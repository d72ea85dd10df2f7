-- A pass finds an earlier double, or leaves the one known.
use Rattle.std.proofs.Common.{◌∙◌, arith, sym}
use Rattle.judging.specs.Twice.{slots_of}
use Rattle.judging.proofs.GroupLaws.{address_is, look_begins, look_on, look_passed, look_ends, either_double, either_within}
use Rattle.judging.proofs.doubles.Track.first_double.Goals as goal
use Rattle.judging.proofs.doubles.Track.first_double.Goals.{then-has_address+then-not-done-from, else-has_address, else-has_address-via-then-has_address+else-not-done-from, else-has_address-via-else-has_address}

pub loop-k-init : goal.loop-k-init
loop-k-init c = (look_begins _ _, tt)

pub loop-k-preserved : goal.loop-k-preserved
loop-k-preserved c =
    let at = c.loop-k in
    let h = address_is (slots_of c.args.self) at.k _ _ c.slot.ensures c.has_address.ensures in
    elim c.if-has_address.branch [
      | then-has_address+then-not-done-from w ↦
          let q = rw c.unwrap_or-end.ensures at w.pass.ensures.passed in
          rw (w.done-is, w.double-is, w.or-double.ensures) (
            rw (either_double w.pass.result at.double c.args.self.g.slots)
                (look_passed _ _ _ at.k _ at.invariant.0 _ _ (h ∙ w.if-has_address.true) q
                (w.pass.array_long ∙ sym at.invariant.0.size)),
            either_within w.pass.result at.double c.unwrap_or-end.result c.args.self.g.slots
                (omega (arith, at.invariant.0.bounded)) w.pass.ensures.within at.invariant.1,
          )
      | else-has_address w ↦
          rw (w.done-is, w.double-is) (
            look_on _ _ _ at.k _ at.invariant.0 (elim w.else-has_address.branch [
              | else-has_address-via-then-has_address+else-not-done-from w' ↦
                  rw (h, w'.if-has_address.true, rw w'.from.ensures at w'.if-not-done-from.false)
              | else-has_address-via-else-has_address w' ↦ rw (h, w'.if-has_address.false)
            ]),
            at.invariant.1,
          )
    ]

pub returns-then-end-k-clause-first : goal.returns-then-end-k-clause-first
returns-then-end-k-clause-first c =
    look_ends _ _ _ c.loop-k.k _ c.loop-k.invariant.0 (rw c.unwrap_or-end.ensures at c.if-end-k.true)

pub returns-after-loop-k-clause-first : goal.returns-after-loop-k-clause-first
returns-after-loop-k-clause-first c =
    look_ends _ _ _ c.loop-k.k _ c.loop-k.invariant.0 (omega (arith, c.loop-k.invariant.0.bounded))
