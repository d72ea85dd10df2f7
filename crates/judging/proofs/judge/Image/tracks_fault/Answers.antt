-- The fault found is that of the track in hand, and all tracks before it are sound.
use Rattle.std.proofs.Common.{sym, ◌∙◌}
use Rattle.judging.proofs.JudgeLaws.{track_front, track_slots}
use Rattle.judging.proofs.VerdictLaws.{left_sound, first_found}
use Rattle.judging.proofs.judge.Image.tracks_fault.Goals as goal

-- the front of a track
pub returns-then-is_err : goal.returns-then-is_err
returns-then-is_err c =
    let turn = c.tracks in
    let heads = c.from-heads in
    let front = c.front_fault-found in
    let found = sym c.is_err.ensures.value ∙ c.if-is_err.true in
    let here = track_front _ _ turn.t heads.result heads.ensures front.result front.ensures found in
    sym here ∙ first_found _ turn.t _ (rw (c.from.ensures, heads.ensures) at c.tracks-test.true)
    turn.invariant.1 (rw here found)

-- a slot of a track
pub returns-then-is_err-2 : goal.returns-then-is_err-2
returns-then-is_err-2 c =
    let at = c.loop-k in
    let turn = c.tracks in
    let heads = c.from-heads in
    let front = c.front_fault-found in
    let sound = left_sound front.result (sym c.is_err.ensures.value ∙ c.if-is_err.false) in
    let slot = c.slot_fault-found in
    let found = sym c.is_err-in-loop-k.ensures.value ∙ c.if-is_err-2.true in
    let first = first_found _ at.k _ c.loop-k-test.true at.invariant.1.1 (rw (← slot.ensures) found) in
    let here = track_slots _ _ turn.t heads.result heads.ensures front.result front.ensures
    slot.result sound (sym first ∙ sym slot.ensures) in
    sym here ∙ first_found _ turn.t _ (rw (c.from.ensures, heads.ensures) at c.tracks-test.true)
    turn.invariant.1 (rw here found)
