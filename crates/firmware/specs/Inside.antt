-- Inside one `bel_ticks`, over the definitions: a run of ticks is a shorter run and then the rest, and its stores in
-- their order lead through the images of single ticks; so a power cut between two of them leaves what a shorter run
-- leaves (01 Write, "A power cut is the end of the list"). In which order stores reach memory inside one call is the
-- compiler's part and the hardware's, and nothing here speaks of it.
-- Assumes nothing.
use Rattle.image.specs.Lent.{put_at}
use Rattle.std.specs.Prelude.{ℕ, ◌+◌, ◌≤◌, Bool, cond, List, [], ◌∷◌, ◌++◌, ◌≡◌, take, None, Some}
use Rattle.image.specs.Lent.{Effect}
use Rattle.image.specs.Lent.{stored_as}
use Rattle.fdc.specs.declared.answer.Answer.{Answer}
use Rattle.fdc.specs.declared.record.Controller.{Controller}
use Rattle.fdc.specs.Registers.{int_of, drq_of}
use Rattle.reached.specs.Runs.{Call, powers, reads, writes, takes, gives, ticks, notes, after}
use Rattle.fdc.specs.Ticks.{ruled_of}
use Rattle.many_ticks.specs.Run.{Ran, ran_with, changed, many_ticks}
use Rattle.firmware.specs.Made.{ticks_made}

-- INT or DRQ is not as it was in the record: no tick more
abbrev pub stopped : Controller → Answer → Bool
stopped c answer = changed (int_of c) (drq_of c) answer.int answer.drq

-- a run, and then one from where it left
abbrev pub then_ran : Ran → Ran → Ran
then_ran r s = ran_with s.answer (r.made + s.made) s.first s.second

abbrev pub then_ticks : ℕ → Ran → Ran
then_ticks m r = then_ran r (many_ticks m r.first r.second r.answer.controller)

-- k ticks and m more: the same answer, count and images as of both at once, of any record
abbrev pub TicksSplit : Type 0
TicksSplit =
    (k m : ℕ) (a b : List ℕ) (c : Controller)
    → many_ticks (k + m) a b c
    ≡ cond (stopped c (many_ticks k a b c).answer) (many_ticks k a b c) (then_ticks m (many_ticks k a b c))

-- a store: the drive whose image it is made in, the place, the byte
pub record StoreMade : Type 0 where
  pub drive : ℕ
  pub place : ℕ
  pub byte : ℕ

abbrev pub store_in : ℕ → Effect → List StoreMade
store_in drive None = []
store_in drive (Some put) = record { drive = drive; place = put.at; byte = put.byte } ∷ []

-- 01 Calls: only a tick changes an image, by at most one byte
abbrev pub store_by : Call → Controller → List StoreMade
store_by (powers head0 head1) c = []
store_by (reads offset) c = []
store_by (writes offset byte) c = []
store_by (takes tc) c = []
store_by (gives byte tc) c = []
store_by (ticks a b) c = store_in (ruled_of a b c).drive (ruled_of a b c).effect
store_by (notes drive) c = []

-- the stores of calls, in their order
unfoldable pub stores_made : List Call → Controller → List StoreMade
stores_made [] c = []
stores_made (call ∷ calls) c = store_by call c ++ stores_made calls (after call c)

-- the image of drive k after stores in that order
unfoldable pub put_all : ℕ → List StoreMade → List ℕ → List ℕ
put_all k [] img = img
put_all k (s ∷ later) img = put_all k later (stored_as s.drive k (Some (put_at s.place s.byte)) img)

-- the stores that a run of n ticks makes
abbrev pub stores_in : ℕ → List ℕ → List ℕ → Controller → List StoreMade
stores_in n a b c = stores_made (ticks_made n a b c) c

-- the images are those of a run of j ticks
pub record ImagesOf (j : ℕ) (a b : List ℕ) (c : Controller) (first second : List ℕ) : Type 0 where
  pub first_is : first ≡ (many_ticks j a b c).first
  pub second_is : second ≡ (many_ticks j a b c).second

pub record InOrder (n : ℕ) (a b : List ℕ) (c : Controller) : Type 0 where
  -- all of them lead to the images that the run leaves
  pub all : ImagesOf n a b c (put_all 0 (stores_in n a b c) a) (put_all 1 (stores_in n a b c) b)
  -- the first i of them to those of some shorter run, which the run itself begins with
  pub each : (i : ℕ)
      → (j : ℕ) × ((j ≤ (many_ticks n a b c).made)
      × ImagesOf j a b c (put_all 0 (take i (stores_in n a b c)) a) (put_all 1 (take i (stores_in n a b c)) b))

abbrev pub StoresInOrder : Type 0
StoresInOrder = (n : ℕ) (a b : List ℕ) (c : Controller) → InOrder n a b c
