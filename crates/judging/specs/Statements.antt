-- What holds of the judge (02 2026-04): "It answers a fault exactly if one exists, with the kind and the byte offset."
-- Assumes nothing.
use Rattle.std.specs.Prelude.{ℕ, ◌≤◌, true, List, ◌↔◌, ◌≡◌, Ok}
use Rattle.image.specs.declared.layout.Geometry.{Geometry}
use Rattle.image.specs.Sound.{Sound}
use Rattle.judging.specs.declared.fault.Kind.{Kind}
use Rattle.judging.specs.Verdict.{fault, is_fault}
use Rattle.judging.specs.Fault.{FaultAt}
use Rattle.judging.specs.Judge.{judge_of}

-- fault k is at byte o, and no fault of any kind stands before it in the file
pub record FirstFault (img : List ℕ) (k : Kind) (o : ℕ) : Type 0 where
  pub there : FaultAt img k o
  pub first : (other : Kind) (p : ℕ) → FaultAt img other p → o ≤ p

-- on any bytes: kind k at byte o is answered exactly if that is the first fault
abbrev pub JudgedExactly : Type 0
JudgedExactly = (img : List ℕ) (k : Kind) (o : ℕ) → (judge_of img ≡ fault k o) ↔ FirstFault img k o

-- a fault is answered exactly if there is one
abbrev pub FaultExactly : Type 0
FaultExactly = (img : List ℕ) → (is_fault (judge_of img) ≡ true) ↔ ((k : Kind) × (o : ℕ) × FaultAt img k o)

-- and sound exactly if the image is (01 Image sound, the definition that the demands use)
abbrev pub SoundExactly : Type 0
SoundExactly = (img : List ℕ) → (judge_of img ≡ Ok tt) ↔ ((g : Geometry) × Sound g img)
