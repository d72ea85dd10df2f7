-- One name for all that a call computes with: `unfolding fdc_open` opens the machine from the ports down to the image. A new definition of this crate is added here.
-- Assumes nothing.
use Rattle.chip.specs.Commands.{kind_of, entry_of, kind_numbered, known_below}
use Rattle.drive.specs.Step.{stepped, sought, recalibrated, seek_step, seek_tick, recalibrate_step, recalibrate_tick}
use Rattle.drive.specs.Step.{tick_in, tick_drive}
use Rattle.engine.proofs.Open.{engine_open}
use Rattle.fdc.specs.Answer.{answer_of}
use Rattle.fdc.specs.Calls.{port_of, read_reg, write_reg, power_on, read_port, write_port, dma_read, dma_write}
use Rattle.fdc.specs.Calls.{note_change}
use Rattle.fdc.specs.Commands.{answered_of, said_of, said_two, idled_of, specify_of, configure_of, sensing_of}
use Rattle.fdc.specs.Commands.{reporter_of, sensed_of, sought_of, recalibrated_of, move_order, format_order}
use Rattle.fdc.specs.Commands.{identify_order, started_of, ran_of, run_of, gathered_of, goes_on, begun_of}
use Rattle.fdc.specs.Data.{result_taken, read_in, read_fifo, offered_of, write_fifo, moved_of, cycle_of, dma_read_of}
use Rattle.fdc.specs.Data.{dma_write_of}
use Rattle.fdc.specs.Record.{fresh_of, with_registers, with_drives, with_fifo, with_bytes, with_phase, with_drive}
use Rattle.fdc.specs.Record.{valid_of}
use Rattle.fdc.specs.Registers.{motor_in, busy_bits, any_busy, pending_in, msr_of, int_of, drq_of, dir_of}
use Rattle.fdc.specs.Reset.{reset_all, reset_of, report_all, released_by, released_of, with_dor, with_tdr, with_rate}
use Rattle.fdc.specs.Reset.{wrote_dor, wrote_dsr}
use Rattle.fdc.specs.Ticks.{seen_of, tick_all, stepped_of, st3_of, sensed_at, still_of, settled_of, decided_of}
use Rattle.fdc.specs.Ticks.{start_tick, work_tick, decide_in, decide_of, ruled_of, tick_of, image_after}

unfoldable pub fdc_open : Unit {0}
unfolding engine_open kind_of entry_of kind_numbered known_below stepped sought recalibrated seek_step seek_tick
    recalibrate_step recalibrate_tick tick_in tick_drive answer_of port_of read_reg write_reg power_on read_port write_port dma_read
    dma_write note_change answered_of said_of said_two idled_of specify_of configure_of sensing_of reporter_of sensed_of
    sought_of recalibrated_of move_order format_order identify_order started_of ran_of run_of gathered_of goes_on begun_of
    result_taken read_in read_fifo offered_of write_fifo moved_of cycle_of dma_read_of dma_write_of fresh_of with_registers with_drives with_fifo
    with_bytes with_phase with_drive valid_of motor_in busy_bits any_busy pending_in msr_of int_of drq_of dir_of reset_all reset_of
    report_all released_by released_of with_dor with_tdr with_rate wrote_dor wrote_dsr seen_of tick_all
    stepped_of st3_of sensed_at still_of settled_of decided_of start_tick work_tick decide_in decide_of ruled_of tick_of
    image_after
fdc_open = tt
