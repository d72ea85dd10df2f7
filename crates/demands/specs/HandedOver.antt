-- What a read command hands the host (01 Read, Next, Result): the k-th byte that the host took is byte k mod P of the
-- command's sector k div P, the image stays as it was, and the result says what was handed over.
-- Assumes nothing.
use Rattle.std.specs.Prelude.{ℕ, suc, ◌+◌, ◌-◌, ◌*◌, ◌/◌, ◌%◌, ◌<◌, ◌≤◌, Bool, true, false, ◌||◌, not, cond, List, [], ◌∷◌, ◌++◌, ◌≡◌, eqb, length, get_or, Some}
use Rattle.sectors.specs.declared.order.Job.TheVariants.{Move}
use Rattle.sectors.specs.declared.order.Order.{Order}
use Rattle.sectors.specs.declared.order.Pass.TheVariants.{Read}
use Rattle.sectors.specs.declared.order.Transfer.{Transfer}
use Rattle.image.specs.declared.layout.Geometry.{Geometry}
use Rattle.image.specs.declared.mark.Mark.TheVariants.{Data}
use Rattle.image.specs.declared.slot.Id.{Id}
use Rattle.image.specs.Disk.{disk_in}
use Rattle.image.specs.Mark.{byte_of, mark_of}
use Rattle.fdc.specs.declared.answer.Reply.{Reply}
use Rattle.fdc.specs.declared.answer.Reply.TheVariants.{Done, Byte, Refused}
use Rattle.fdc.specs.declared.record.Controller.{Controller}
use Rattle.fdc.specs.declared.record.Phase.TheVariants.{Starting, Answering}
use Rattle.reached.specs.Runs.{Call, powers, reads, writes, takes, gives, ticks, notes, answer_to, after, run_calls}
use Rattle.demands.specs.Acknowledged.{result_byte, result_id}
use Rattle.demands.specs.PowerCut.{Aim, aim_no, InReach, Stands, head_of, passing}
use Rattle.demands.specs.Work.{Its, Alone, image_left}

-- a Read Data or Read Deleted was accepted: any drive, side, MT, SK, DMA or not, FIFO on or off
pub record Reads (c : Controller) (order : Order) (transfer : Transfer) (id : Id) : Type 0 where
  pub accepted : c.phase ≡ Starting order
  pub moves : order.job ≡ Move transfer id
  pub reads : transfer.pass ≡ Read

-- what the host took: the bytes, the first one first, and whether TC came with one of them
pub record Taken : Type 0 where
  pub got : List ℕ
  pub told : Bool

abbrev pub untaken : Taken
untaken = record { got = []; told = false }

abbrev pub took_one : ℕ → Bool → Taken → Taken
took_one byte tc t = record { got = t.got ++ (byte ∷ []); told = t.told || tc }

abbrev pub took_by : Bool → Reply → Taken → Taken
took_by tc Done t = t
took_by tc (Byte byte) t = took_one byte tc t
took_by tc (Refused refusal) t = t

-- a byte goes by a DMA read cycle or, in non-DMA, by a read of the FIFO, if it is not refused
unfoldable pub taken_by : Call → Controller → Taken → Taken
taken_by (powers head0 head1) c t = t
taken_by (reads offset) c t = cond (eqb offset 5) (took_by false (answer_to (reads offset) c).reply t) t
taken_by (writes offset byte) c t = t
taken_by (takes tc) c t = took_by tc (answer_to (takes tc) c).reply t
taken_by (gives byte tc) c t = t
taken_by (ticks a b) c t = t
taken_by (notes drive) c t = t

unfoldable pub taken_over : List Call → Controller → Taken → Taken
taken_over [] c t = t
taken_over (call ∷ calls) c t = taken_over calls (after call c) (taken_by call c t)

-- a mark of that kind, broken or not
pub record OfKind (deleted : Bool) (mark : ℕ) : Type 0 where
  pub broken : Bool
  pub is : mark_of mark ≡ Data deleted broken

module _ (g : Geometry) (cylinder : ℕ) (transfer : Transfer) (aim : Aim) (img : List ℕ) where
  -- the command's sector number m stands under the good mark of the command's kind
  pub record IsGood (m : ℕ) : Type 0 where
    pub at : ℕ
    pub stands : Stands g img cylinder (aim_no transfer aim m) at
    pub mark : get_or img at 0 ≡ byte_of (Data transfer.deleted false)

  -- under a mark of the other kind
  pub record IsOther (m : ℕ) : Type 0 where
    pub at : ℕ
    pub stands : Stands g img cylinder (aim_no transfer aim m) at
    pub kind : OfKind (not transfer.deleted) (get_or img at 0)

  -- under the good mark of the other kind
  pub record IsGoodOther (m : ℕ) : Type 0 where
    pub at : ℕ
    pub stands : Stands g img cylinder (aim_no transfer aim m) at
    pub mark : get_or img at 0 ≡ byte_of (Data (not transfer.deleted) false)

  -- sector number i of the command was read, as one of n, or skipped
  pub data Passed (num : ℕ → ℕ) (n i : ℕ) : Type 0 where
    was_read : (j : ℕ) → j < n → num j ≡ i → Passed num n i
    was_skipped : transfer.sk ≡ true → IsOther i → Passed num n i

  -- n sectors are read: number j of them is number `num j` of the command, and `num n` is the one in hand. Those
  -- between are skipped; SK 0 skips none
  pub record Ways (num : ℕ → ℕ) (n : ℕ) : Type 0 where
    pub rises : (j : ℕ) → j < n → num j < num (suc j)
    pub passed : (i : ℕ) → i < num n → Passed num n i
    pub plain : transfer.sk ≡ false → (j : ℕ) → num j ≡ j

  -- byte number k: byte k mod P of the sector k div P of those read, which is none behind EOT; with SK its mark is of
  -- the command's kind
  pub record Comes (num : ℕ → ℕ) (k byte : ℕ) : Type 0 where
    pub at : ℕ
    pub stands : Stands g img cylinder (aim_no transfer aim (num (k / passing g))) at
    pub reach : InReach transfer aim (num (k / passing g))
    pub own : transfer.sk ≡ true → OfKind transfer.deleted (get_or img at 0)
    pub is : byte ≡ get_or img (at + 5 + k % passing g) 0

  abbrev pub AllCome : (ℕ → ℕ) → List ℕ → Type 0
  AllCome num got = (k : ℕ) → k < length got → Comes num k (get_or got k 0)

  -- TC came, with a byte of the last of n sectors; none was skipped, all were good; the address is the next one
  pub record EndsTold (num : ℕ → ℕ) (n : ℕ) (t : Taken) (id : Id) : Type 0 where
    pub told : t.told ≡ true
    pub some : 0 < n
    pub above : (n - 1) * passing g < length t.got
    pub below : length t.got ≤ n * passing g
    pub none : (j : ℕ) → num j ≡ j
    pub good : (j : ℕ) → j < n → IsGood (num j)
    pub address : id ≡ (aim_no transfer aim (num n)).id

  -- TC did not come, and all bytes of n sectors were taken; the sector before the address is at EOT
  pub record EndsAtEot (num : ℕ → ℕ) (n : ℕ) (t : Taken) (id : Id) : Type 0 where
    pub told : t.told ≡ false
    pub all : length t.got ≡ n * passing g
    pub last : (m : ℕ) → m + 1 ≡ num n → (aim_no transfer aim m).id.r ≡ transfer.eot
    pub good : (j : ℕ) → j < n → IsGood (num j)
    pub address : id ≡ (aim_no transfer aim (num n)).id

  -- 01 Read: behind n good sectors the one in hand is of the other kind and ended it, with its own address; TC came
  -- with a byte of it, or all its bytes were taken
  pub record EndsOther (num : ℕ → ℕ) (n : ℕ) (t : Taken) (id : Id) : Type 0 where
    pub above : n * passing g < length t.got
    pub below : length t.got ≤ (n + 1) * passing g
    pub all : t.told ≡ false → length t.got ≡ (n + 1) * passing g
    pub good : (j : ℕ) → j < n → IsGood (num j)
    pub other : IsGoodOther (num n)
    pub address : id ≡ (aim_no transfer aim (num n)).id

  -- what ST0, ST1, ST2 and the address say. With SK 1 ST2 40 may be of a sector skipped
  pub record Tells (num : ℕ → ℕ) (n : ℕ) (t : Taken) (st0 st1 st2 : ℕ) (id : Id) : Type 0 where
    pub normal : st0 < 0x40 → st2 ≡ 0x00 → EndsTold num n t id
    pub other : transfer.sk ≡ false → st0 < 0x40 → st2 ≡ 0x40 → EndsOther num n t id
    pub past_eot_law : st1 ≡ 0x80 → EndsAtEot num n t id

  -- what was handed over, with n sectors read to their end
  pub record Hands (t : Taken) : Type 0 where
    pub num : ℕ → ℕ
    pub n : ℕ
    pub ways : Ways num n
    pub bytes : AllCome num t.got
    pub most : length t.got ≤ n * passing g + passing g

-- after its calls
pub record HandedBy (c e : Controller) (order : Order) (transfer : Transfer) (id : Id) (g : Geometry) (img left : List ℕ)
    (t : Taken) : Type 0 where
  pub image : left ≡ img
  pub hands : Hands g (head_of order c) transfer (record { id = id; side = order.side }) img t
  pub ends : e.phase ≡ Answering true
      → Tells g (head_of order c) transfer (record { id = id; side = order.side }) img hands.num hands.n t
      (result_byte 0 e) (result_byte 1 e) (result_byte 2 e) (result_id e)

abbrev pub HandedOver : (Controller → Type 0) → Type 0
HandedOver From =
    (c : Controller) → From c → (order : Order) (transfer : Transfer) (id : Id) → Reads c order transfer id
    → (img : List ℕ) (g : Geometry) → disk_in img ≡ Some g
    → (calls : List Call) → Its calls c → Alone order.drive img calls c
    → HandedBy c (run_calls calls c) order transfer id g img (image_left order.drive img calls c)
    (taken_over calls c untaken)

-- SK 0, in plain words: byte number k is byte k mod P of the command's sector k div P
pub record IsByte (g : Geometry) (cylinder : ℕ) (transfer : Transfer) (aim : Aim) (img : List ℕ) (k byte : ℕ) : Type 0
  where
    pub at : ℕ
    pub stands : Stands g img cylinder (aim_no transfer aim (k / passing g)) at
    pub reach : InReach transfer aim (k / passing g)
    pub is : byte ≡ get_or img (at + 5 + k % passing g) 0

abbrev pub HandedPlain : (Controller → Type 0) → Type 0
HandedPlain From =
    (c : Controller) → From c → (order : Order) (transfer : Transfer) (id : Id) → Reads c order transfer id
    → transfer.sk ≡ false
    → (img : List ℕ) (g : Geometry) → disk_in img ≡ Some g
    → (calls : List Call) → Its calls c → Alone order.drive img calls c
    → (k : ℕ) → k < length (taken_over calls c untaken).got
    → IsByte g (head_of order c) transfer (record { id = id; side = order.side }) img k
    (get_or (taken_over calls c untaken).got k 0)
