-- 01 Format: wait as for Write; mark 0, the host's four bytes, B times D, mark 1; after SC slots each slot left gets
-- mark 0.
-- Assumes nothing.
use Rattle.image.specs.Lent.{put_at}
use Rattle.std.specs.Prelude.{ℕ, ◌+◌, Bool, true, false, cond, eqb, leb, ltb, Option, None, Some}
use Rattle.chip.specs.declared.fifo.Fifo.{Fifo}
use Rattle.chip.specs.Fifo.{drawn_of, front_of}
use Rattle.image.specs.Lent.{Effect}
use Rattle.image.specs.declared.mark.Mark.TheVariants.{NoId, Data}
use Rattle.image.specs.declared.slot.Id.{Id}
use Rattle.image.specs.Mark.{byte_of}
use Rattle.engine.specs.declared.format.Laid.{Laid}
use Rattle.sectors.specs.declared.order.Plan.{Plan}
use Rattle.sectors.specs.declared.work.Form.{Form}
use Rattle.sectors.specs.declared.work.Form.TheVariants.{Awaiting, Addressing, Filling, Clearing}
use Rattle.sectors.specs.declared.work.Site.{Site}
use Rattle.sectors.specs.declared.work.Step.{Step}
use Rattle.sectors.specs.declared.work.Work.TheVariants.{Formatting}
use Rattle.sectors.specs.Result.{end_of, goes_of}
use Rattle.sectors.specs.Track.{data_place, mark_place, sector_bytes}

-- 01 Format: head (0 for drives 2, 3), whatever a record holds for those
abbrev pub format_head : ℕ → ℕ → ℕ
format_head drive head = cond (ltb drive 2) head 0

-- 01 Format: C H R N: head, side, slots done, N, at every end (D-114)
abbrev pub format_id : Plan → ℕ → ℕ → ℕ → ℕ → Id
format_id plan drive head side done =
    record { c = format_head drive head; h = side; r = done; n = plan.n }

unfoldable pub format_end : Bool → ℕ → ℕ → Effect → Site → Plan → ℕ → Step
format_end normal st1 done effect site plan head =
    end_of normal site.drive site.side st1 0x00 (format_id plan site.drive head site.side done) effect

-- slots done counts formatted slots: SC from the last of them on (D-114)
abbrev pub done_of : Form → Plan → ℕ
done_of (Awaiting slot wait) plan = slot
done_of (Addressing slot k) plan = slot
done_of (Filling slot done) plan = slot
done_of (Clearing slot) plan = plan.sc

abbrev pub forms_of : Form → Site → Plan → Fifo → Effect → Step
forms_of form site plan fifo effect = goes_of (Formatting site plan form) fifo effect

-- 01 Format: B times D. What a formatted slot is laid down with is said here alone: no byte of it is the host's, so
-- none is missing and the FIFO stays as it is
abbrev pub laid_of : Plan → Fifo → Bool → ℕ → Option Laid
laid_of plan fifo efifo fifothr = Some (record { byte = plan.fill; fifo = fifo })

-- 01 Format: wait as for Write; mark 0 in the tick that finds the byte, which is left
unfoldable pub form_await : ℕ → ℕ → Site → Plan → ℕ → Fifo → Step
form_await slot wait site plan head fifo =
    cond (eqb fifo.count 0)
    (cond (leb 63 wait) (format_end false 0x10 slot None site plan head)
    (forms_of (Awaiting slot (wait + 1)) site plan fifo None))
    (forms_of (Addressing slot 0) site plan fifo (Some (put_at (mark_place site head slot) (byte_of NoId))))

-- the host's byte k of four stored behind the mark
unfoldable pub address_put : ℕ → ℕ → Site → Plan → Fifo → Effect → Step
address_put slot k site plan fifo effect =
    cond (leb 3 k) (forms_of (Filling slot 0) site plan fifo effect)
    (forms_of (Addressing slot (k + 1)) site plan fifo effect)

-- 01 Format: the host's four bytes; a byte missing then ends it at once, ST1 10. TC is ignored
unfoldable pub address_of : ℕ → ℕ → Site → Plan → ℕ → Fifo → Bool → ℕ → Step
address_of slot k site plan head fifo efifo fifothr =
    cond (eqb fifo.count 0) (format_end false 0x10 slot None site plan head)
    (address_put slot k site plan (drawn_of efifo fifothr fifo) (Some (put_at (mark_place site head slot + 1 + k) (front_of fifo))))

-- 01 Format: after SC slots each slot left gets mark 0; the end falls in the last store's tick
unfoldable pub clear_on : ℕ → Site → Plan → ℕ → Fifo → Effect → Step
clear_on slot site plan head fifo effect =
    cond (ltb (slot + 1) site.disk.slots) (forms_of (Clearing (slot + 1)) site plan fifo effect)
    (format_end true 0x00 plan.sc effect site plan head)

-- a slot is done
unfoldable pub formed_of : ℕ → Site → Plan → ℕ → Fifo → Effect → Step
formed_of slot site plan head fifo effect =
    cond (ltb (slot + 1) plan.sc) (forms_of (Awaiting (slot + 1) 0) site plan fifo effect)
    (clear_on slot site plan head fifo effect)

-- one byte laid down; one that is missing ends it at once, ST1 10
abbrev pub lay_of : Option Laid → ℕ → ℕ → Site → Plan → ℕ → Step
lay_of None slot done site plan head = format_end false 0x10 slot None site plan head
lay_of (Some laid) slot done site plan head =
    forms_of (Filling slot (done + 1)) site plan laid.fifo (Some (put_at (data_place site head slot done) laid.byte))

-- 01 Format: B times D, mark 1
unfoldable pub fill_of : ℕ → ℕ → Site → Plan → ℕ → Fifo → Bool → ℕ → Step
fill_of slot done site plan head fifo efifo fifothr =
    cond (leb (sector_bytes site) done)
    (formed_of slot site plan head fifo (Some (put_at (mark_place site head slot) (byte_of (Data false false)))))
    (lay_of (laid_of plan fifo efifo fifothr) slot done site plan head)

unfoldable pub clear_of : ℕ → Site → Plan → ℕ → Fifo → Step
clear_of slot site plan head fifo = clear_on slot site plan head fifo (Some (put_at (mark_place site head slot) (byte_of NoId)))

-- a tick of a Format, by its stage
unfoldable pub form_of : Form → Site → Plan → ℕ → Fifo → Bool → ℕ → Step
form_of (Awaiting slot wait) site plan head fifo efifo fifothr = form_await slot wait site plan head fifo
form_of (Addressing slot k) site plan head fifo efifo fifothr = address_of slot k site plan head fifo efifo fifothr
form_of (Filling slot done) site plan head fifo efifo fifothr = fill_of slot done site plan head fifo efifo fifothr
form_of (Clearing slot) site plan head fifo efifo fifothr = clear_of slot site plan head fifo

-- 01 Refusals 4: a wait above 64
abbrev pub form_wait : Form → ℕ
form_wait (Awaiting slot wait) = wait
form_wait (Addressing slot k) = 0
form_wait (Filling slot done) = 0
form_wait (Clearing slot) = 0
