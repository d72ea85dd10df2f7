-- What a DMA cycle asks of the record, read from its bytes (01 FIFO, Refusals 3). Enough to know that the cycle is not
-- refused, and not needed for it: of other bytes the record itself is asked.
-- Assumes nothing.
use Rattle.std.specs.Prelude.{ℕ, Bool, false, ◌&&◌, cond, List, eqb, leb, length}
use Rattle.chip.specs.Fifo.{capacity_of}
use Rattle.fdc.specs.Registers.{gate_in, dma_in}
use Rattle.pack.specs.Bytes.{byte_at, flag_at, row_at, at_most, record_size}
use Rattle.pack.specs.Places.{registers_row, drive_row, flow_row, command_row, result_row, phase_row, task_row, spot_row}
use Rattle.pack.specs.Places.{dor_at, spec2_at, efifo_at, fifothr_at, head_at, motion_at, count_at, asks_at, gathered_at}
use Rattle.pack.specs.Places.{left_at, tag_at, work_at, pass_at, spot_count_at}

-- 01 Registers DRQ: a transfer is at work by DMA, with the gate on and the request up
unfoldable pub asked_in : List ℕ → List ℕ → List ℕ → Bool
asked_in registers flow head =
    gate_in (byte_at registers dor_at) && dma_in (byte_at registers spec2_at) && flag_at flow asks_at
    && eqb (byte_at head tag_at) 3 && eqb (byte_at head work_at) 1

-- 01 Refusals 4: FIFO count and FIFOTHR are within their bounds; and command bytes, result bytes and wait
unfoldable pub fifo_bounded : List ℕ → List ℕ → Bool
fifo_bounded registers flow =
    leb (byte_at flow count_at) (capacity_of (flag_at registers efifo_at)) && at_most registers fifothr_at 15

unfoldable pub counts_bounded : List ℕ → List ℕ → List ℕ → Bool
counts_bounded command results spot =
    at_most command gathered_at 9 && at_most results left_at 7 && at_most spot spot_count_at 64

-- and the drive's head; it does not move
unfoldable pub still_in : List ℕ → Bool
still_in row = at_most row head_at 81 && eqb (byte_at row motion_at) 0

unfoldable pub bounded_in : List ℕ → Bool
bounded_in l =
    fifo_bounded (row_at l registers_row) (row_at l flow_row)
    && counts_bounded (row_at l command_row) (row_at l result_row) (row_at l spot_row)

unfoldable pub drives_still : List ℕ → Bool
drives_still l =
    still_in (row_at l (drive_row 0)) && still_in (row_at l (drive_row 1)) && still_in (row_at l (drive_row 2))
    && still_in (row_at l (drive_row 3))

-- a cycle of one direction is due, and the record is not damaged
unfoldable pub cycles_in : List ℕ → Bool
cycles_in l =
    asked_in (row_at l registers_row) (row_at l flow_row) (row_at l phase_row) && bounded_in l && drives_still l

-- one of that direction
abbrev pub due_in : ℕ → List ℕ → Bool
due_in pass l = cond (leb record_size (length l)) (cycles_in l && eqb (byte_at (row_at l task_row) pass_at) pass) false

-- to the host, and from it
unfoldable pub reading_in : List ℕ → Bool
reading_in l = due_in 0 l

unfoldable pub writing_in : List ℕ → Bool
writing_in l = due_in 1 l
