-- What a Format leaves of an image (01 Format): its stores are a script, one store a tick; after any of its calls the
-- image is the old one with a first part of the script applied, and IC 00 says that it is whole.
-- Assumes nothing.
use Rattle.image.specs.Lent.{put_at}
use Rattle.std.specs.Prelude.{ℕ, zero, suc, ◌+◌, ◌-◌, ◌*◌, ◌<◌, ◌≤◌, true, false, cond, List, [], ◌∷◌, ◌++◌, ◌⊎◌, ◌≡◌, eqb, ltb, length, get_or, set, take, None, Some}
use Rattle.sectors.specs.declared.order.Job.TheVariants.{Format}
use Rattle.sectors.specs.declared.order.Order.{Order}
use Rattle.sectors.specs.declared.order.Plan.{Plan}
use Rattle.sectors.specs.Result.{st0_of}
use Rattle.image.specs.declared.layout.Geometry.{Geometry}
use Rattle.image.specs.Lent.{Effect}
use Rattle.image.specs.declared.mark.Mark.{Mark}
use Rattle.image.specs.declared.mark.Mark.TheVariants.{NoId, Data}
use Rattle.image.specs.declared.slot.Id.{Id}
use Rattle.image.specs.Disk.{disk_in}
use Rattle.image.specs.Layout.{size_of, offset_of}
use Rattle.image.specs.Mark.{byte_of}
use Rattle.fdc.specs.declared.record.Controller.{Controller}
use Rattle.fdc.specs.declared.record.Phase.TheVariants.{Starting, Answering}
use Rattle.reached.specs.Runs.{Call, powers, reads, writes, takes, gives, ticks, notes, after, run_calls}
use Rattle.fdc.specs.Ticks.{ruled_of}
use Rattle.demands.specs.Acknowledged.{result_byte, result_id}
use Rattle.demands.specs.History.{no_history, history_of}
use Rattle.demands.specs.PowerCut.{head_of}
use Rattle.demands.specs.Work.{Its, Alone, image_left}

-- a Format was accepted: any drive, side and plan, DMA or not, FIFO on or off
pub record Formats (c : Controller) (order : Order) (plan : Plan) : Type 0 where
  pub accepted : c.phase ≡ Starting order
  pub formats : order.job ≡ Format plan

-- one store
pub record Stored : Type 0 where
  pub at : ℕ
  pub byte : ℕ

-- an image after stores, the first of them first
abbrev pub applied : List Stored → List ℕ → List ℕ
applied [] img = img
applied (store ∷ stores) img = applied stores (set img store.at store.byte)

-- f 0, then f 1, up to f (n - 1)
abbrev pub in_turn : ℕ → (ℕ → List Stored) → List Stored
in_turn zero f = []
in_turn (suc n) f = in_turn n f ++ f n

-- 01 Format: the host's bytes for a slot: its C H R N
abbrev pub slot_draws : ℕ
slot_draws = 4

-- byte i that is laid down behind the address of slot k: D. Where a slot's data comes from is said here alone
abbrev pub laid_down : Plan → List ℕ → ℕ → ℕ → ℕ
laid_down plan host k i = plan.fill

-- the stores of a slot: mark 0, four, B, mark 1
abbrev pub slot_stores : Geometry → ℕ
slot_stores g = 6 + size_of g.n

module _ (g : Geometry) (cylinder side : ℕ) where
  abbrev pub marking : Mark → ℕ → List Stored
  marking mark k = record { at = offset_of g cylinder side k; byte = byte_of mark } ∷ []

  module _ (plan : Plan) (host : List ℕ) where
    -- the host's byte i of four
    abbrev pub addressing : ℕ → ℕ → List Stored
    addressing k i =
        record { at = offset_of g cylinder side k + 1 + i; byte = get_or host (k * slot_draws + i) 0 } ∷ []

    abbrev pub filling : ℕ → ℕ → List Stored
    filling k i = record { at = offset_of g cylinder side k + 5 + i; byte = laid_down plan host k i } ∷ []

    -- 01 Format: stores mark 0, the host's four bytes, B times D, mark 1
    abbrev pub slot_script : ℕ → List Stored
    slot_script k =
        marking NoId k ++ in_turn 4 (addressing k) ++ in_turn (size_of g.n) (filling k) ++ marking (Data false false) k

    -- 01 Format: after SC slots each slot left gets mark 0
    abbrev pub script_of : List Stored
    script_of = in_turn plan.sc slot_script ++ in_turn (g.slots - plan.sc) (λ i. marking NoId (plan.sc + i))

-- how many stores the calls made: ticks that stored
abbrev pub counted_by : Effect → ℕ → ℕ
counted_by None m = m
counted_by (Some put) m = m + 1

abbrev pub stores_by : Call → Controller → ℕ → ℕ
stores_by (powers head0 head1) c m = m
stores_by (reads offset) c m = m
stores_by (writes offset byte) c m = m
stores_by (takes tc) c m = m
stores_by (gives byte tc) c m = m
stores_by (ticks a b) c m = counted_by (ruled_of a b c).effect m
stores_by (notes drive) c m = m

unfoldable pub stores_of : List Call → Controller → ℕ → ℕ
stores_of [] c m = m
stores_of (call ∷ calls) c m = stores_of calls (after call c) (stores_by call c m)

-- 01 Data commands, first tick: the track is there, the disk is not protected, N is the header's, SC neither 0 nor
-- above S
pub record Allowed (g : Geometry) (cylinder side : ℕ) (plan : Plan) : Type 0 where
  pub on_disk : cylinder < g.cylinders
  pub on_cylinder : side < g.heads
  pub unprotected : g.protect ≡ false
  pub size : plan.n ≡ g.n
  pub some : 0 < plan.sc
  pub most : plan.sc ≤ g.slots

-- 01 Format: slots done: those of the first SC whose stores are all among the first m
pub record SlotsDone (g : Geometry) (plan : Plan) (m done : ℕ) : Type 0 where
  pub most : done ≤ plan.sc
  pub whole : done * slot_stores g ≤ m
  pub next : done < plan.sc → m < done * slot_stores g + slot_stores g

module _ (g : Geometry) (cylinder drive side : ℕ) (plan : Plan) (host : List ℕ) (m : ℕ) where
  abbrev script : List Stored
  script = script_of g cylinder side plan host

  -- what m stores leave
  pub record LeftByStores (old img : List ℕ) : Type 0 where
    pub image : img ≡ applied (take m script) old
    pub part : m ≤ length script
    -- nothing is stored where the first tests fail
    pub allowed : 0 < m → Allowed g cylinder side plan
    -- a slot is begun only with a host byte of its own, and every address byte stored was handed over
    pub begun : (k : ℕ) → k < plan.sc → k * slot_stores g < m → k * slot_draws < length host
    pub fed : (k i : ℕ) → k < plan.sc → i < 4 → k * slot_stores g + 1 + i < m → k * slot_draws + i < length host

  -- a slot is due, it has its mark and some address bytes at most, and no byte of the host's is left
  pub record RanOut (done : ℕ) : Type 0 where
    pub due : done < plan.sc
    pub early : m < done * slot_stores g + 5
    pub none : length host ≡ done * slot_draws + (m - done * slot_stores g - 1)

  -- what ST0, ST1, ST2 and the address say
  pub record FormatSays (st0 st1 st2 : ℕ) (id : Id) : Type 0 where
    -- IC 00 exactly when the script is whole
    pub st0_is : st0 ≡ st0_of (eqb m (length script)) drive side
    pub clean : m ≡ length script → st1 ≡ 0x00
    pub unclean : st1 ≡ 0x00 → m ≡ length script
    pub st2_is : st2 ≡ 0x00
    -- 01 Format: C H R N: head (0 for drives 2, 3), side, slots done, N, at every end
    pub address : id ≡ record { c = cond (ltb drive 2) cylinder 0; h = side; r = id.r; n = plan.n }
    pub done : SlotsDone g plan m id.r
    -- a slot is left begun only with ST1 10 or 01
    pub begun_left : id.r < plan.sc → id.r * slot_stores g < m → (st1 ≡ 0x10) ⊎ (st1 ≡ 0x01)
    pub late : st1 ≡ 0x10 → RanOut id.r
    -- ST1 02 and 04: by the first tests
    pub protected : st1 ≡ 0x02 → (g.protect ≡ true) × (m ≡ 0)
    pub misplanned : st1 ≡ 0x04 → (Allowed g cylinder side plan → ⊥) × (m ≡ 0)

  pub record FormattedBy (old img : List ℕ) (e : Controller) : Type 0 where
    pub left : LeftByStores old img
    -- the result waits with INT on
    pub says : e.phase ≡ Answering true → FormatSays (result_byte 0 e) (result_byte 1 e) (result_byte 2 e) (result_id e)

-- after any of a Format's calls
abbrev pub FormatScript : (Controller → Type 0) → Type 0
FormatScript From =
    (c : Controller) → From c → (order : Order) (plan : Plan) → Formats c order plan
    → (old : List ℕ) (g : Geometry) → disk_in old ≡ Some g
    → (calls : List Call) → Its calls c → Alone order.drive old calls c
    → FormattedBy g (head_of order c) order.drive order.side plan (history_of calls c no_history).host
    (stores_of calls c 0) old (image_left order.drive old calls c) (run_calls calls c)
