-- What a closure does that puts the parts of a slice one by one.
-- Assumes nothing.
use Rattle.std.specs.Prelude.{ℕ, ◌<◌, List, length, ◌≡◌}
use denote.Ref.{MutBor}
use denote.Param.Members.{Shared}

module _ {F : Type 0} (g : Shared F (MutBor (List ℕ) × (ℕ × Unit {0})) (Unit {0} × (MutBor (List ℕ) × Unit {0}))) (f : F) (size count : ℕ) where
  -- it may be called with each part
  abbrev pub MayPut : Type 0
  MayPut = (p : MutBor (List ℕ)) (k : ℕ) → k < count → length p.now ≡ size → g.pre f (p, (k, tt))

  -- and leaves the bytes of that part there
  abbrev pub Puts : (ℕ → List ℕ) → Type 0
  Puts part =
      (p q : MutBor (List ℕ)) (k : ℕ) → k < count → length p.now ≡ size → g.post f (p, (k, tt)) (tt, (q, tt))
      → q.now ≡ part k
