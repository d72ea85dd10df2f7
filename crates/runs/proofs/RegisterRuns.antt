-- The runs of specs/RegisterRuns, by computing.
-- Assumes nothing.
use mathlib.Core.Path.{refl}
use Rattle.runs.specs.RegisterRuns.{RegisterRuns}
use Rattle.runs.proofs.Open.{all_open}

pub register_runs : RegisterRuns
unfolding all_open
register_runs = record {
  held = refl;
  idle = refl;
  stepping = refl;
  gathering = refl;
  answering = refl;
  starting = refl;
  in_dma = refl;
  identifying = refl;
  sensing = refl;
  to_host_on = refl;
  to_host_off = refl;
  from_host_on = refl;
  from_host_off = refl;
  formatting = refl;
  by_report = refl;
  by_none = refl;
  by_result = refl;
  by_taken = refl;
  by_request = refl;
  by_gate = refl;
  drq_on = refl;
  drq_gate = refl;
  power_on_fifo = refl;
  changed = refl;
  unchanged = refl;
  noted = refl;
  motor_off = refl;
  drive_2 = refl;
  unknown = refl;
  version = refl;
  busy = refl;
  with_reports = refl;
  without_reports = refl;
  dsr_poll_0 = refl;
  dsr_poll_1 = refl;
  dsr_held = refl;
  pcn_is_0 = refl;
  head_is_1 = refl;
}
