-- The test of slot k is that of the group's members.
use Rattle.std.proofs.Common.{◌≡◌, true, refl, ap, ◌∙◌, arith}
use Rattle.image.specs.declared.slot.Slot.{Slot}
use Rattle.judging.specs.Twice.{slots_of}
use Rattle.judging.proofs.GroupLaws.{member, member_is, pass_begins, pass_twice, pass_ends, pass_other, pass_new}
use Rattle.judging.proofs.doubles.Track.pass.Goals as goal
use Rattle.judging.proofs.doubles.Track.pass.Goals.{then-has_address+then-in_group+else-seen-r, else-has_address, else-has_address-via-then-has_address+else-in_group, else-has_address-via-else-has_address}

pub loop-k-init : goal.loop-k-init
loop-k-init c = pass_begins _ _ _

pub returns-then-seen-r-clause-passed : goal.returns-then-seen-r-clause-passed
returns-then-seen-r-clause-passed c =
    let at = c.loop-k in
    let slot = c.slot-slot.ensures in
    let m : member (slots_of c.args.self) c.args.lead at.k ≡ true
    = member_is (slots_of c.args.self) c.args.lead at.k _ _ _ _ slot c.slot.ensures c.has_address.ensures c.in_group.ensures
    ∙ rw (c.if-has_address.true, c.if-in_group.true) in
    let s = rw (c.from-r.ensures, slot) at c.if-seen-r.true in
    pass_ends _ _ at.k _ _ _ at.invariant _ _ (omega arith) (omega arith)
    (λ l. pass_twice _ _ at.k _ _ _ at.invariant m s)

pub loop-k-preserved : goal.loop-k-preserved
loop-k-preserved c =
    let at = c.loop-k in
    let slot = c.slot-slot.ensures in
    elim c.if-has_address.branch [
      | then-has_address+then-in_group+else-seen-r w ↦
          let m : member (slots_of c.args.self) c.args.lead at.k ≡ true
          = member_is (slots_of c.args.self) c.args.lead at.k _ _ _ _ slot c.slot.ensures c.has_address.ensures w.in_group.ensures
          ∙ rw (w.if-has_address.true, w.if-in_group.true) in
          rw (w.done-is, w.seen-is, w.from.ensures, w.from-r.ensures, slot)
          (pass_new _ _ at.k _ _ _ at.invariant m
          (rw (w.from-r.ensures, slot) at w.if-seen-r.false)
          (omega (arith, ap (λ (x : Slot). x.id.r) slot))
          (omega (arith, c.told-done)))
      | else-has_address w ↦
          rw (w.done-is, w.seen-is) (pass_other _ _ at.k _ _ _ at.invariant (elim w.else-has_address.branch [
            | else-has_address-via-then-has_address+else-in_group w' ↦
                member_is (slots_of c.args.self) c.args.lead at.k _ _ _ _ slot c.slot.ensures c.has_address.ensures w'.in_group.ensures
                ∙ rw (w'.if-has_address.true, w'.if-in_group.false)
            | else-has_address-via-else-has_address w' ↦
                member_is (slots_of c.args.self) c.args.lead at.k _ _ _ _ slot c.slot.ensures c.has_address.ensures refl
                ∙ rw w'.if-has_address.false
          ]))
    ]

pub returns-clause-passed : goal.returns-clause-passed
returns-clause-passed c =
    let at = c.loop-k in
    pass_ends _ _ at.k _ _ _ at.invariant _ _ c.loop-k-test.false (omega arith) (λ l. absurd (omega arith))
