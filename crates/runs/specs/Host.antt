-- What a host asks and does in a closed run, and the disks of these: no two sectors of a disk hold the same.
-- Assumes nothing.
use Rattle.std.specs.Prelude.{ℕ, zero, suc, ◌+◌, ◌*◌, Bool, false, cond, List, [], ◌∷◌, ◌++◌, eqb}
use Rattle.image.specs.declared.layout.Geometry.{Geometry}
use Rattle.image.specs.Disk.{header_of}
use Rattle.image.specs.Examples.{disk}
use Rattle.sectors.specs.declared.order.Job.TheVariants.{Move}
use Rattle.sectors.specs.declared.order.Order.{Order}
use Rattle.sectors.specs.declared.order.Transfer.{Transfer}
use Rattle.reached.specs.Examples.{bare}
use Rattle.reached.specs.Runs.{Call, reads, takes, gives}
use Rattle.runs.specs.CutExamples.{down}

-- a read or a write of a drive and side, from the sector C H R N on
abbrev pub order_of : ℕ → ℕ → Transfer → ℕ → ℕ → ℕ → ℕ → Order
order_of drive side transfer c h r n =
    record { drive = drive; side = side; job = Move transfer (record { c = c; h = h; r = r; n = n }) }

-- so many ticks
abbrev pub idle : ℕ → List Call
idle zero = []
idle (suc n) = bare ∷ idle n

-- so many bytes taken, by DMA and by port 5
abbrev pub taken_calls : ℕ → List Call
taken_calls zero = []
taken_calls (suc n) = takes false ∷ taken_calls n

abbrev pub fetched : ℕ → List Call
fetched zero = []
fetched (suc n) = reads 5 ∷ fetched n

-- these bytes given by DMA, TC with the last or not
abbrev pub poured : Bool → List ℕ → List Call
poured tc [] = []
poured tc (byte ∷ []) = gives byte tc ∷ []
poured tc (byte ∷ next ∷ bytes) = gives byte false ∷ poured tc (next ∷ bytes)

-- so often
abbrev pub times : {A : Type 0} → ℕ → List A → List A
times zero xs = []
times (suc n) xs = xs ++ times n xs

-- what a sector of size N holds
abbrev pub contents : ℕ → ℕ → List ℕ
contents n first = first ∷ (down 255 ++ cond (eqb n 2) (down 256) [])

-- a track of one slot, of N 1 or 2: its field is 2 + 261 = 263 or 2 + 517 = 519 bytes long, 01 07 or 02 07
abbrev pub track_of : ℕ → ℕ → ℕ → ℕ → List ℕ
track_of n c h mark = 0x02 ∷ n ∷ 0x07 ∷ c ∷ h ∷ mark ∷ c ∷ h ∷ 1 ∷ n ∷ contents n (0x10 * c + h)

abbrev pub image_of : Geometry → List ℕ → List ℕ
image_of g tracks = header_of g ++ (tracks ++ (0x03 ∷ 0 ∷ 0 ∷ []))

-- two cylinders, two sides; the mark of cylinder 1, side 0
abbrev pub quad : ℕ → ℕ → List ℕ
quad n mark =
    image_of (disk 2 2 1 n) (track_of n 0 0 1 ++ (track_of n 0 1 1 ++ (track_of n 1 0 mark ++ track_of n 1 1 1)))

-- one track with sectors 1 and 2 of 256 bytes, as the image crate's small one; the mark of sector 1
abbrev pub double : ℕ → List ℕ
double mark =
    image_of (disk 1 1 2 1)
    (0x02 ∷ 0x02 ∷ 0x0C ∷ 0 ∷ 0 ∷ (mark ∷ 0 ∷ 0 ∷ 1 ∷ 1 ∷ contents 1 0x11) ++ (1 ∷ 0 ∷ 0 ∷ 2 ∷ 1 ∷ contents 1 0x22))
