-- 01 Image mounted: is there a disk in an image ("A drive 0 or 1 is mounted exactly when ..")? The motor bit is the
-- controller's.
-- Assumes nothing.
use Rattle.std.specs.Prelude.{ℕ, ◌≤◌, Bool, ◌&&◌, cond, List, [], ◌∷◌, ◌≡◌, eqb, leb, length, get_or, take, Option, None, Some}
use Rattle.image.specs.declared.layout.Geometry.{Geometry}
use Rattle.image.specs.Layout.{length_of}

-- what an image is to a drive: a disk by its header, or none
abbrev pub Disk : Type 0
Disk = Option Geometry

abbrev pub within : ℕ → ℕ → ℕ → Bool
within low x high = leb low x && leb x high

-- 01 Image: cylinders 1-82, heads 1-2, slots per track S 1-36, N 1-3, protect 0 or 1
abbrev pub in_range : ℕ → ℕ → ℕ → ℕ → ℕ → Bool
in_range cylinders heads slots n protect =
    within 1 cylinders 82 && within 1 heads 2 && within 1 slots 36 && within 1 n 3 && within 0 protect 1

-- tag 01, length 5 in two bytes, high byte first, and five bytes in range
unfoldable pub header_in : List ℕ → Bool
header_in img =
    (eqb (get_or img 0 0) 0x01 && eqb (get_or img 1 0) 0 && eqb (get_or img 2 0) 5)
    && in_range (get_or img 3 0) (get_or img 4 0) (get_or img 5 0) (get_or img 6 0) (get_or img 7 0)

-- what five numbers say
abbrev pub geometry_of : ℕ → ℕ → ℕ → ℕ → ℕ → Geometry
geometry_of cylinders heads slots n protect =
    record { cylinders = cylinders; heads = heads; slots = slots; n = n; protect = eqb protect 1 }

-- what the header's five bytes say
unfoldable pub geometry_in : List ℕ → Geometry
geometry_in img = geometry_of (get_or img 3 0) (get_or img 4 0) (get_or img 5 0) (get_or img 6 0) (get_or img 7 0)

-- 01 Image: a disk exactly when the header is so and the image is exactly as long as it asks
unfoldable pub disk_in : List ℕ → Disk
disk_in img =
    cond (header_in img && eqb (length img) (length_of (geometry_in img))) (Some (geometry_in img)) None

-- The same as a sentence; proofs/DiskLaws has that `disk_in img ≡ Some g` exactly when `Fits g img`.
abbrev pub flag : Bool → ℕ
flag b = cond b 1 0

abbrev pub header_of : Geometry → List ℕ
header_of g = 0x01 ∷ 0x00 ∷ 0x05 ∷ g.cylinders ∷ g.heads ∷ g.slots ∷ g.n ∷ flag g.protect ∷ []

pub record InRange (g : Geometry) : Type 0 where
  pub cylinders : (1 ≤ g.cylinders) × (g.cylinders ≤ 82)
  pub heads : (1 ≤ g.heads) × (g.heads ≤ 2)
  pub slots : (1 ≤ g.slots) × (g.slots ≤ 36)
  pub n : (1 ≤ g.n) × (g.n ≤ 3)

pub record Fits (g : Geometry) (img : List ℕ) : Type 0 where
  pub range : InRange g
  pub header : take 8 img ≡ header_of g
  pub size : length img ≡ length_of g
