-- One name for all that a closed run of the engine computes with: `unfolding engine_open` opens a data command's tick down
-- to the image. A new definition of this crate, or of one below it, is added here.
-- Assumes nothing.
use Rattle.image.specs.Disk.{header_in, geometry_in, disk_in}
use Rattle.image.specs.Layout.{size_of, track_length, length_of, track_at, offset_of, same_of}
use Rattle.image.specs.Mark.{mark_of}
use Rattle.chip.specs.Fifo.{filled_of, taken_of, opened_of, given_of, drawn_of}
use Rattle.chip.specs.Next.{advanced_of, next_of}
use Rattle.sectors.specs.Follow.{followed_of, follow_of, turn_of}
use Rattle.sectors.specs.Read.{overrun, read_on, read_of, drained_of, drain_of}
use Rattle.sectors.specs.Result.{end_of, late_end, move_end, move_fails}
use Rattle.sectors.specs.Search.{not_found, missed_of, read_found, data_found, bare_found, looked_of, search_of}
use Rattle.sectors.specs.Track.{has_track, stays_of, mark_place, data_place}
use Rattle.sectors.specs.Write.{underrun, await_of, put_of, dry_of, written_of, store_of}
use Rattle.engine.specs.First.{gate_of, given_id, moving_of, start_job, entered_of, begin_of}
use Rattle.engine.specs.Format.{format_end, form_await, address_put, address_of, clear_on, formed_of, fill_of}
use Rattle.engine.specs.Format.{clear_of, form_of}
use Rattle.engine.specs.ReadId.{no_id_of, no_id_here, id_here, identified_of, identify_of}
use Rattle.engine.specs.Step.{lost_of, stage_of, work_step, go_on_of}

unfoldable pub engine_open : Unit {0}
unfolding header_in geometry_in disk_in size_of track_length length_of track_at offset_of same_of mark_of filled_of taken_of
    opened_of given_of drawn_of advanced_of next_of followed_of follow_of turn_of overrun read_on read_of drained_of drain_of
    end_of late_end move_end move_fails not_found missed_of read_found data_found bare_found looked_of search_of has_track stays_of
    mark_place data_place underrun await_of put_of dry_of written_of store_of gate_of given_id moving_of start_job entered_of
    begin_of format_end form_await address_put address_of clear_on formed_of fill_of clear_of form_of no_id_of no_id_here id_here
    identified_of identify_of lost_of stage_of work_step go_on_of
engine_open = tt
