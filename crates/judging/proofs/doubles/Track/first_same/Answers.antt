-- The search is over the slots before slot k.
use Rattle.std.proofs.Common.{ℕ, Bool, ◌≡◌, true, false, rules, tests}
use Rattle.std.proofs.lemmas.Iterator.{first_from_Range}
use Rattle.judging.specs.Twice.{slots_of, same_address}
use Rattle.judging.proofs.TwiceLaws.{first_of_found}
use Rattle.judging.proofs.doubles.Track.first_same.Goals as goal

pub returns-clause-first : goal.returns-clause-first
returns-clause-first c =
    let slots = slots_of c.args.self in
    let p : ℕ → Bool = λ j. same_address (slots j) (slots c.args.k) in
    first_of_found p c.args.k c.find.result
    (first_from_Range _ _ _ c.find.result (λ j. p j ≡ true) (λ j. p j ≡ false) c.find.ensures.ran
    (λ x q m. search (rules, tests)) (λ x q m. (search rules, search (rules, tests))))
