-- 01 Calls: "the image of the drive named is picked from the two lent. Only a tick changes an image, by at most one
-- byte."
-- Assumes nothing.
use Rattle.std.specs.Prelude.{ℕ, cond, List, [], eqb, set, Option, None, Some}
use Rattle.image.specs.declared.lent.Put.{Put}

-- the first for drive 0, the second for drive 1, an empty one for any other
abbrev pub pick_of : ℕ → List ℕ → List ℕ → List ℕ
pick_of drive a b = cond (eqb drive 0) a (cond (eqb drive 1) b [])

-- what a tick does to the image picked: at most one byte is put into it
abbrev pub Effect : Type 0
Effect = Option Put

abbrev pub put_at : ℕ → ℕ → Put
put_at at byte = record { at = at; byte = byte }

-- an image after a tick's effect: at most one byte differs
abbrev pub stored_in : Effect → List ℕ → List ℕ
stored_in None img = img
stored_in (Some put) img = set img put.at put.byte

-- the image of drive k after an effect on the image of the drive named
abbrev pub stored_as : ℕ → ℕ → Effect → List ℕ → List ℕ
stored_as drive k e img = cond (eqb drive k) (stored_in e img) img
