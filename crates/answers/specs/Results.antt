-- Demand 2, result bytes by command and cause of end: document 01, Data commands. Each row speaks of the tick that
-- meets its cause, from any reached record, whatever the other image holds: ST0 ST1 ST2 C H R N.
-- Assumes nothing.
use Rattle.std.specs.Prelude.{ℕ, ◌+◌, ◌*◌, ◌%◌, ◌<◌, ◌≤◌, Bool, true, false, ◌&&◌, ◌||◌, not, cond, List, [], ◌∷◌, ◌⊎◌, ◌≡◌, eqb, ltb, set, None, Some}
use Rattle.chip.specs.Fifo.{capacity_of, emptied, shut}
use Rattle.chip.specs.Next.{advanced_of}
use Rattle.sectors.specs.declared.order.Job.{Job}
use Rattle.sectors.specs.declared.order.Job.TheVariants.{Identify, Move, Format}
use Rattle.sectors.specs.declared.order.Order.{Order}
use Rattle.sectors.specs.declared.order.Pass.TheVariants.{Read, Write}
use Rattle.sectors.specs.declared.order.Plan.{Plan}
use Rattle.sectors.specs.declared.work.Form.{Form}
use Rattle.sectors.specs.declared.work.Form.TheVariants as form
use Rattle.sectors.specs.declared.work.Search.{Search}
use Rattle.sectors.specs.declared.work.Sector.{Sector}
use Rattle.sectors.specs.declared.work.Site.{Site}
use Rattle.sectors.specs.declared.work.Stage.{Stage}
use Rattle.sectors.specs.declared.work.Stage.TheVariants.{Searching, Turning, Reading, Draining, Awaiting, Storing}
use Rattle.sectors.specs.declared.work.Task.{Task}
use Rattle.sectors.specs.declared.work.Work.{Work}
use Rattle.sectors.specs.declared.work.Work.TheVariants.{Identifying, Moving, Formatting}
use Rattle.engine.specs.Format.{done_of}
use Rattle.sectors.specs.Result.{late_bit, other_bit, tardy}
use Rattle.sectors.specs.Search.{slot_of}
use Rattle.engine.specs.Step.{drive_of, site_of}
use Rattle.image.specs.Disk.{Disk}
use Rattle.image.specs.declared.layout.Geometry.{Geometry}
use Rattle.image.specs.declared.mark.Mark.{Mark}
use Rattle.image.specs.declared.mark.Mark.TheVariants.{NoId, Data, NoData}
use Rattle.image.specs.declared.slot.Id.{Id}
use Rattle.image.specs.declared.slot.Slot.{Slot}
use Rattle.image.specs.Layout.{size_of, offset_of}
use Rattle.image.specs.Lent.{pick_of}
use Rattle.image.specs.Mark.{byte_of, mark_of}
use Rattle.fdc.specs.declared.record.Controller.{Controller}
use Rattle.fdc.specs.declared.record.Phase.TheVariants.{Starting, Working, Answering}
use Rattle.fdc.specs.Record.{drive_at}
use Rattle.reached.specs.Runs.{ticks, after}
use Rattle.fdc.specs.Ticks.{seen_of, image_after}
use Rattle.demands.specs.Work.{Real}

-- 01 Commands: all these give ST0 ST1 ST2 C H R N, and no byte is taken yet. 01 Result: every end empties the FIFO
pub record Result (e : Controller) (st0 st1 st2 : ℕ) (id : Id) : Type 0 where
  pub waits : e.phase ≡ Answering true
  pub seven : e.bytes.left ≡ 7
  pub bytes : e.bytes.results ≡ st0 ∷ st1 ∷ st2 ∷ id.c ∷ id.h ∷ id.r ∷ id.n ∷ []
  pub fifo : e.fifo ≡ emptied

-- 01 Result: IC 00 if ended normally, else 40; plus the side then in use and drive
abbrev pub normal_st0 : ℕ → ℕ → ℕ
normal_st0 side drive = 0x00 + 4 * (side % 2) + drive % 4

abbrev pub failed_st0 : ℕ → ℕ → ℕ
failed_st0 side drive = 0x40 + 4 * (side % 2) + drive % 4

-- the disk of a drive as a tick sees it, and its head
abbrev pub disk_of : ℕ → List ℕ → List ℕ → Controller → Disk
disk_of drive a b c = seen_of c.registers.dor drive (pick_of drive a b)

abbrev pub head_at : ℕ → Controller → ℕ
head_at drive c = (drive_at (drive % 4) c.drives).head

-- 01 Data commands: no such track or side
abbrev pub NoTrack : Geometry → ℕ → ℕ → Type 0
NoTrack g head side = (g.cylinders ≤ head) ⊎ (g.heads ≤ side)

abbrev pub OnTrack : Geometry → ℕ → ℕ → Type 0
OnTrack g head side = (head < g.cylinders) × (side < g.heads)

-- 01 Read ID: C H R N 0 at any failing end
abbrev pub zeros : Id
zeros = record { c = 0; h = 0; r = 0; n = 0 }

-- 01 Format: C H R N: head (0 for drives 2, 3), side, slots done, N
abbrev pub formatted_id : Plan → ℕ → ℕ → ℕ → ℕ → Id
formatted_id plan drive head side done = record { c = cond (ltb drive 2) head 0; h = side; r = done; n = plan.n }

-- THE FIRST TICK of an accepted command

pub record Before (c : Controller) (order : Order) : Type 0 where
  pub real : Real c
  pub accepted : c.phase ≡ Starting order

-- 01 Result: other ends give the sector in hand
abbrev pub first_id : Job → ℕ → ℕ → ℕ → Id
first_id Identify drive side head = zeros
first_id (Move transfer id) drive side head = id
first_id (Format plan) drive side head = formatted_id plan drive head side 0

-- a Write or a Format
abbrev pub ChangesJob : Job → Type 0
ChangesJob Identify = ⊥
ChangesJob (Move transfer id) = transfer.pass ≡ Write
ChangesJob (Format plan) = Unit {0}

-- 01 Data commands: Format with N not the header's, SC 0 or SC above S
abbrev pub Misplanned : Plan → Geometry → Type 0
Misplanned plan g = (plan.n ≡ g.n → ⊥) ⊎ ((plan.sc ≡ 0) ⊎ (g.slots < plan.sc))

abbrev pub FailsFirst : ℕ → Controller → Order → List ℕ → List ℕ → Type 0
FailsFirst st1 c order a b =
    Result (after (ticks a b) c) (failed_st0 order.side order.drive) st1 0x00
    (first_id order.job order.drive order.side (head_at order.drive c))

-- 01 Data commands: first tick, in this order
pub record FirstEnds : Type 0 where
  -- empty drive: ST1 01
  pub empty : (c : Controller) (order : Order) (a b : List ℕ) → Before c order
      → disk_of order.drive a b c ≡ None → FailsFirst 0x01 c order a b
  -- no such track or side: ST1 01
  pub no_track : (c : Controller) (order : Order) (a b : List ℕ) (g : Geometry) → Before c order
      → disk_of order.drive a b c ≡ Some g → NoTrack g (head_at order.drive c) order.side
      → FailsFirst 0x01 c order a b
  -- Write or Format, protected: ST1 02
  pub protected : (c : Controller) (order : Order) (a b : List ℕ) (g : Geometry) → Before c order
      → disk_of order.drive a b c ≡ Some g → OnTrack g (head_at order.drive c) order.side
      → ChangesJob order.job → g.protect ≡ true → FailsFirst 0x02 c order a b
  -- Format with N not the header's, SC 0 or SC above S: ST1 04
  pub misplanned : (c : Controller) (order : Order) (a b : List ℕ) (g : Geometry) (plan : Plan) → Before c order
      → disk_of order.drive a b c ≡ Some g → OnTrack g (head_at order.drive c) order.side
      → order.job ≡ Format plan → g.protect ≡ false → Misplanned plan g → FailsFirst 0x04 c order a b

-- A LATER TICK of a command at work, whose drive holds the disk that the first tick met

pub record During (c : Controller) (work : Work) (a b : List ℕ) : Type 0 where
  pub real : Real c
  pub works : c.phase ≡ Working work
  pub stays : disk_of (drive_of work) a b c ≡ Some (site_of work).disk

-- the slot looked at, its mark, and whether it is the one sought (01 Search: C H R N equal the command's and N is the
-- header's)
abbrev pub slot_in : Controller → Site → List ℕ → List ℕ → ℕ → Slot
slot_in c site a b k = slot_of (pick_of site.drive a b) site (head_at site.drive c) k

abbrev pub slot_mark : Slot → Mark
slot_mark slot = mark_of slot.mark

abbrev pub Sought : Slot → Site → Task → Type 0
Sought slot site task = (slot.id ≡ task.id) × (slot.id.n ≡ site.disk.n)

abbrev pub HasId : Mark → Type 0
HasId NoId = ⊥
HasId (Data deleted broken) = Unit {0}
HasId NoData = Unit {0}

-- 01 Search: a pass is one when slot S-1 is looked at; at the second pass
abbrev pub SecondPass : ℕ → ℕ → Site → Type 0
SecondPass slot passes site = (site.disk.slots ≤ slot + 1) × (1 ≤ passes)

-- 01 Read: ST2 40 from then on, once another kind of mark was met; 02 2026-02: and ST1 10, once a byte was late in the
-- sector in hand. 01 Result: the sector in hand
abbrev pub FailsWith : ℕ → ℕ → Controller → Site → Task → List ℕ → List ℕ → Type 0
FailsWith st1 st2 c site task a b =
    Result (after (ticks a b) c) (failed_st0 site.side site.drive) (late_bit task.late + st1)
    (other_bit task.other + st2) task.id

-- ST1 10 alone
abbrev pub FailsLate : Controller → Site → Task → List ℕ → List ℕ → Type 0
FailsLate c site task a b =
    Result (after (ticks a b) c) (failed_st0 site.side site.drive) 0x10 (other_bit task.other + 0x00) task.id

-- 02 2026-02: no end: the byte is noted as late, the FIFO is emptied, the request off, and the sector goes on
pub record RunsOn (e : Controller) (site : Site) (task : Task) (stage : Stage) : Type 0 where
  pub works : e.phase ≡ Working (Moving site (tardy task) stage)
  pub fifo : e.fifo ≡ shut

-- 01 Search: ST2 10 if an ID had another C below FF and 02 if one had another C that is FF; both may stand
abbrev pub cylinder_st2 : Bool → Bool → ℕ
cylinder_st2 below ff = cond below 0x10 0x00 + cond ff 0x02 0x00

-- so had one of the slots before, or this one
abbrev pub below_ff : Search → ℕ → ℕ → Bool
below_ff look c wanted = look.wrong || not (eqb c wanted) && not (eqb c 0xFF)

abbrev pub is_ff : Search → ℕ → ℕ → Bool
is_ff look c wanted = look.bad || not (eqb c wanted) && eqb c 0xFF

-- 01 Search; 01 Read, of mark 5; 01 Data commands, of an MT turn
pub record SearchEnds (c : Controller) (site : Site) (task : Task) (a b : List ℕ) : Type 0 where
  -- no ID met: ST1 01
  pub no_id_law : (look : Search) → During c (Moving site task (Searching look)) a b
      → SecondPass look.slot look.passes site → slot_mark (slot_in c site a b look.slot) ≡ NoId
      → look.met ≡ false → FailsWith 0x01 0x00 c site task a b
  -- else ST1 04, with ST2 10 if an ID had another C below FF and 02 if one had another C that is FF: the slots before
  pub others_met : (look : Search) → During c (Moving site task (Searching look)) a b
      → SecondPass look.slot look.passes site → slot_mark (slot_in c site a b look.slot) ≡ NoId
      → look.met ≡ true → FailsWith 0x04 (cylinder_st2 look.wrong look.bad) c site task a b
  -- and the last one too
  pub other_id : (look : Search) → During c (Moving site task (Searching look)) a b
      → SecondPass look.slot look.passes site → HasId (slot_mark (slot_in c site a b look.slot))
      → (Sought (slot_in c site a b look.slot) site task → ⊥)
      → FailsWith 0x04
      (cylinder_st2 (below_ff look (slot_in c site a b look.slot).id.c task.id.c)
      (is_ff look (slot_in c site a b look.slot).id.c task.id.c))
      c site task a b
  -- Read, mark 5: ST1 01, ST2 01
  pub no_data_law : (look : Search) → During c (Moving site task (Searching look)) a b → task.transfer.pass ≡ Read
      → slot_mark (slot_in c site a b look.slot) ≡ NoData → Sought (slot_in c site a b look.slot) site task
      → FailsWith 0x01 0x01 c site task a b
  -- no such side, the tick after an MT turn: ST1 01
  pub no_side_law : (slot : ℕ) → During c (Moving site task (Turning slot)) a b
      → NoTrack site.disk (head_at site.drive c) site.side → FailsWith 0x01 0x00 c site task a b

-- 01 Read
pub record ReadEnds (c : Controller) (site : Site) (task : Task) (a b : List ℕ) : Type 0 where
  -- 02 2026-02: a byte to move and the FIFO full: the sector is run to its end
  pub overrun : (sector : Sector) (done : ℕ) → During c (Moving site task (Reading sector done)) a b
      → c.fifo.tc ≡ false → capacity_of c.registers.efifo ≤ c.fifo.count → done + 1 < size_of site.disk.n
      → RunsOn (after (ticks a b) c) site task (Reading sector (done + 1))
  pub overrun_last : (sector : Sector) (done : ℕ) → During c (Moving site task (Reading sector done)) a b
      → c.fifo.tc ≡ false → capacity_of c.registers.efifo ≤ c.fifo.count → size_of site.disk.n ≤ done + 1
      → RunsOn (after (ticks a b) c) site task (Draining sector 0)
  -- the 64th look that finds bytes: ST1 10
  pub not_taken : (sector : Sector) (looks : ℕ) → During c (Moving site task (Draining sector looks)) a b
      → 0 < c.fifo.count → 63 ≤ looks → FailsLate c site task a b
  -- one that finds none, in this order: broken, ST1 20, ST2 20
  pub data_error : (sector : Sector) (looks : ℕ) → During c (Moving site task (Draining sector looks)) a b
      → c.fifo.count ≡ 0 → sector.broken ≡ true → FailsWith 0x20 0x20 c site task a b
  -- 02 2026-02: a byte was late, ST1 10, of either kind
  pub late : (sector : Sector) (looks : ℕ) → During c (Moving site task (Draining sector looks)) a b
      → c.fifo.count ≡ 0 → sector.broken ≡ false → task.late ≡ true → FailsLate c site task a b
  -- other kind, IC 00, address as it was (house)
  pub other_kind : (sector : Sector) (looks : ℕ) → During c (Moving site task (Draining sector looks)) a b
      → c.fifo.count ≡ 0 → sector.broken ≡ false → task.late ≡ false → sector.other ≡ true
      → Result (after (ticks a b) c) (normal_st0 site.side site.drive) 0x00 (other_bit task.other + 0x00)
      task.id

-- where the mark of a slot under the head stands
abbrev pub slot_place : Controller → Site → ℕ → ℕ
slot_place c site slot = offset_of site.disk (head_at site.drive c) site.side slot

-- 01 Write
pub record WriteEnds (c : Controller) (site : Site) (task : Task) (a b : List ℕ) : Type 0 where
  -- the 64th tick without a byte: ST1 10
  pub no_byte : (slot wait : ℕ) → During c (Moving site task (Awaiting slot wait)) a b → c.fifo.count ≡ 0
      → 63 ≤ wait → FailsLate c site task a b
  -- 02 2026-02: FIFO empty without TC: the sector is filled to its end
  pub underrun : (slot done : ℕ) → During c (Moving site task (Storing slot done)) a b → c.fifo.count ≡ 0
      → done < size_of site.disk.n → c.fifo.tc ≡ false
      → RunsOn (after (ticks a b) c) site task (Storing slot (done + 1))
  -- in that tick with the first zero
  pub zero : (slot done : ℕ) → During c (Moving site task (Storing slot done)) a b → c.fifo.count ≡ 0
      → done < size_of site.disk.n → c.fifo.tc ≡ false → (img : List ℕ)
      → image_after site.drive a b c img ≡ set img (slot_place c site slot + 5 + done) 0x00
  -- and at its end the good mark, in the tick that ends with ST1 10
  pub short : (slot done : ℕ) → During c (Moving site task (Storing slot done)) a b → size_of site.disk.n ≤ done
      → task.late ≡ true → FailsLate c site task a b
  pub short_mark : (slot done : ℕ) → During c (Moving site task (Storing slot done)) a b
      → size_of site.disk.n ≤ done → task.late ≡ true → (img : List ℕ)
      → image_after site.drive a b c img
      ≡ set img (slot_place c site slot) (byte_of (Data task.transfer.deleted false))

-- 01 Next: where a sector is done: read to its end and taken, stored with its good mark, or skipped in the tick of the
-- match, and no byte of it was late. TC counts for a write with the FIFO empty; `other` says whether ST2 has its 40
pub data AtNext (c : Controller) (site : Site) (task : Task) (a b : List ℕ) (stage : Stage) (tc other : Bool)
    : Type 0 where
  drained : (sector : Sector) (looks : ℕ) → stage ≡ Draining sector looks → c.fifo.count ≡ 0
      → sector.broken ≡ false → task.late ≡ false → sector.other ≡ false → c.fifo.tc ≡ tc → task.other ≡ other
      → AtNext c site task a b stage tc other
  stored : (slot done : ℕ) → stage ≡ Storing slot done → size_of site.disk.n ≤ done → task.late ≡ false
      → (c.fifo.tc && eqb c.fifo.count 0) ≡ tc → task.other ≡ other → AtNext c site task a b stage tc other
  skipped : (look : Search) (deleted broken : Bool) → stage ≡ Searching look → task.transfer.pass ≡ Read
      → task.late ≡ false → task.transfer.sk ≡ true → slot_mark (slot_in c site a b look.slot) ≡ Data deleted broken
      → Sought (slot_in c site a b look.slot) site task → (deleted ≡ task.transfer.deleted → ⊥)
      → c.fifo.tc ≡ tc → other ≡ true → AtNext c site task a b stage tc other

-- 01 Result: when Next ends it the address is the next one
abbrev pub next_id : Site → Task → Id
next_id site task = advanced_of task.id task.transfer.eot task.transfer.mt site.side 1

pub record EndsByNext (c : Controller) (site : Site) (task : Task) (a b : List ℕ) : Type 0 where
  -- TC ends the command normally
  pub by_tc : (stage : Stage) (other : Bool) → During c (Moving site task stage) a b
      → AtNext c site task a b stage true other
      → Result (after (ticks a b) c) (normal_st0 site.side site.drive) 0x00 (other_bit other + 0x00)
      (next_id site task)
  -- else R = EOT ends it with ST1 80, but not with MT on side 0
  pub past_eot_law : (stage : Stage) (other : Bool) → During c (Moving site task stage) a b
      → AtNext c site task a b stage false other → task.id.r ≡ task.transfer.eot
      → (task.transfer.mt ≡ true → site.side ≡ 0 → ⊥)
      → Result (after (ticks a b) c) (failed_st0 site.side site.drive) 0x80 (other_bit other + 0x00)
      (next_id site task)

-- 01 Read ID
pub record ReadIdEnds (c : Controller) (site : Site) (a b : List ℕ) : Type 0 where
  -- first ID from slot 0
  pub found : (slot passes : ℕ) → During c (Identifying site slot passes) a b
      → HasId (slot_mark (slot_in c site a b slot))
      → Result (after (ticks a b) c) (normal_st0 site.side site.drive) 0x00 0x00 (slot_in c site a b slot).id
  -- none by the second index: ST1 01
  pub none : (slot passes : ℕ) → During c (Identifying site slot passes) a b → SecondPass slot passes site
      → slot_mark (slot_in c site a b slot) ≡ NoId
      → Result (after (ticks a b) c) (failed_st0 site.side site.drive) 0x01 0x00 zeros

-- 01 Format: its C H R N is the same at every end but for the slots done
pub record FormatEnds (c : Controller) (site : Site) (plan : Plan) (a b : List ℕ) : Type 0 where
  -- wait as for Write
  pub no_byte : (slot wait : ℕ) → During c (Formatting site plan (form.Awaiting slot wait)) a b → c.fifo.count ≡ 0
      → 63 ≤ wait
      → Result (after (ticks a b) c) (failed_st0 site.side site.drive) 0x10 0x00
      (formatted_id plan site.drive (head_at site.drive c) site.side slot)
  -- a byte missing then ends it at once: ST1 10
  pub missing : (slot k : ℕ) → During c (Formatting site plan (form.Addressing slot k)) a b → c.fifo.count ≡ 0
      → Result (after (ticks a b) c) (failed_st0 site.side site.drive) 0x10 0x00
      (formatted_id plan site.drive (head_at site.drive c) site.side slot)
  -- the mark of the track's last slot: SC slots done
  pub filled : (slot done : ℕ) → During c (Formatting site plan (form.Filling slot done)) a b
      → size_of site.disk.n ≤ done → plan.sc ≤ slot + 1 → site.disk.slots ≤ slot + 1
      → Result (after (ticks a b) c) (normal_st0 site.side site.drive) 0x00 0x00
      (formatted_id plan site.drive (head_at site.drive c) site.side plan.sc)
  -- after SC slots each slot left gets mark 0; the last of them
  pub cleared : (slot : ℕ) → During c (Formatting site plan (form.Clearing slot)) a b → site.disk.slots ≤ slot + 1
      → Result (after (ticks a b) c) (normal_st0 site.side site.drive) 0x00 0x00
      (formatted_id plan site.drive (head_at site.drive c) site.side plan.sc)

-- 01 Data commands: a drive emptied or header changed later: ST1 01 at that tick, 11 after a late byte
abbrev pub Lost : Disk → Geometry → Type 0
Lost None met = Unit {0}
Lost (Some g) met = g ≡ met → ⊥

pub record LostEnds (c : Controller) (a b : List ℕ) : Type 0 where
  pub identifies : (site : Site) (slot passes : ℕ) → Real c → c.phase ≡ Working (Identifying site slot passes)
      → Lost (disk_of site.drive a b c) site.disk
      → Result (after (ticks a b) c) (failed_st0 site.side site.drive) 0x01 0x00 zeros
  pub moves : (site : Site) (task : Task) (stage : Stage) → Real c → c.phase ≡ Working (Moving site task stage)
      → Lost (disk_of site.drive a b c) site.disk → FailsWith 0x01 0x00 c site task a b
  pub formats : (site : Site) (plan : Plan) (f : Form) → Real c → c.phase ≡ Working (Formatting site plan f)
      → Lost (disk_of site.drive a b c) site.disk
      → Result (after (ticks a b) c) (failed_st0 site.side site.drive) 0x01 0x00
      (formatted_id plan site.drive (head_at site.drive c) site.side (done_of f plan))

-- Demand 2, the whole table
pub record ResultBytes : Type 0 where
  pub first : FirstEnds
  pub search : (c : Controller) (site : Site) (task : Task) (a b : List ℕ) → SearchEnds c site task a b
  pub reads : (c : Controller) (site : Site) (task : Task) (a b : List ℕ) → ReadEnds c site task a b
  pub writes : (c : Controller) (site : Site) (task : Task) (a b : List ℕ) → WriteEnds c site task a b
  pub next : (c : Controller) (site : Site) (task : Task) (a b : List ℕ) → EndsByNext c site task a b
  pub read_id : (c : Controller) (site : Site) (a b : List ℕ) → ReadIdEnds c site a b
  pub format : (c : Controller) (site : Site) (plan : Plan) (a b : List ℕ) → FormatEnds c site plan a b
  pub lost : (c : Controller) (a b : List ℕ) → LostEnds c a b
