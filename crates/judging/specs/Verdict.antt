-- What the judge answers (02 2026-04), and how answers are put together: the first fault stays.
-- Assumes nothing.
use Rattle.std.specs.Prelude.{ℕ, zero, suc, ◌+◌, Bool, cond, List, eqb, length, get_or, Result, Ok, Err, is_err, codes, ⊤}
use Rattle.judging.specs.declared.fault.Fault.{Fault}
use Rattle.judging.specs.declared.fault.Kind.{Kind}
use Rattle.judging.specs.declared.fault.Kind.TheVariants.{Header, Length, Track, Place, Mark, Twice, End}

-- sound, or the first fault
abbrev pub Verdict : Type 0
Verdict = Result ⊤ Fault

-- 02 2026-04 in the order of its sentence
abbrev pub number_of : Kind → ℕ
number_of Header = 1
number_of Length = 2
number_of Track = 3
number_of Place = 4
number_of Mark = 5
number_of Twice = 6
number_of End = 7

-- what is printed of a kind
abbrev pub words_of : Kind → List ℕ
words_of Header = codes "header"
words_of Length = codes "length"
words_of Track = codes "track tag or length"
words_of Place = codes "cylinder or side byte"
words_of Mark = codes "mark above 5"
words_of Twice = codes "address twice"
words_of End = codes "end field"

abbrev pub fault : Kind → ℕ → Verdict
fault kind at = Err (record { kind = kind; at = at })

abbrev pub is_fault : Verdict → Bool
is_fault v = is_err v

-- a fault of that kind at that place, unless all is right there
abbrev pub unless : Bool → Kind → ℕ → Verdict
unless right kind at = cond right (Ok tt) (fault kind at)

-- the first fault of two
abbrev pub or_else : Verdict → Verdict → Verdict
or_else (Ok _) v = v
or_else (Err f) v = Err f

-- the first fault of f 0, f 1, .. up to n of them
unfoldable pub first_of : (ℕ → Verdict) → ℕ → Verdict
first_of f zero = Ok tt
first_of f (suc n) = or_else (first_of f n) (f n)

-- the first of these bytes that the image does not have from `at` on
abbrev pub byte_fault : List ℕ → Kind → ℕ → List ℕ → ℕ → Verdict
byte_fault img kind at bytes i = unless (eqb (get_or img (at + i) 0) (get_or bytes i 0)) kind (at + i)

abbrev pub bytes_fault : List ℕ → Kind → ℕ → List ℕ → Verdict
bytes_fault img kind at bytes = first_of (byte_fault img kind at bytes) (length bytes)
