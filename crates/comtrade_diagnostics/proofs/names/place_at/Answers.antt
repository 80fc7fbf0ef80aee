use Rattle.std.proofs.Common.{arith, ◌-◌}
use Rattle.comtrade_diagnostics.proofs.Places.{is_station, is_channels, is_analog, is_status, is_frequency, is_rate_count, is_rate, is_first, is_trigger, is_type, is_time_multiplier, is_after}
use Rattle.comtrade_diagnostics.proofs.names.place_at.Goals as goal

pub returns-in-0 : goal.returns-in-0
returns-in-0 c = is_station c.args.counts c.args.line (omega arith)

pub returns-in-2 : goal.returns-in-2
returns-in-2 c = is_channels c.args.counts c.args.line (omega arith)

pub returns-then-channel-counts : goal.returns-then-channel-counts
returns-then-channel-counts c = is_analog c.args.counts c.args.line (c.args.line - 2) (omega arith) (omega arith) (omega arith)

pub returns-then-status-counts : goal.returns-then-status-counts
returns-then-status-counts c = is_status c.args.counts c.args.line (c.args.line - 2 - c.args.counts.analog) (omega arith) (omega arith) (omega arith)

pub returns-in-1 : goal.returns-in-1
returns-in-1 c = is_frequency c.args.counts c.args.line (omega arith)

pub returns-in-2-after : goal.returns-in-2-after
returns-in-2-after c = is_rate_count c.args.counts c.args.line (omega arith)

pub returns-then-rate-counts : goal.returns-then-rate-counts
returns-then-rate-counts c = is_rate c.args.counts c.args.line (c.args.line - 2 - c.args.counts.analog - c.args.counts.status - 2) (omega arith) (omega arith) (omega arith)

pub returns-in-1-2 : goal.returns-in-1-2
returns-in-1-2 c = is_first c.args.counts c.args.line (omega arith)

pub returns-in-2-2 : goal.returns-in-2-2
returns-in-2-2 c = is_trigger c.args.counts c.args.line (omega arith)

pub returns-in-3 : goal.returns-in-3
returns-in-3 c = is_type c.args.counts c.args.line (omega arith)

pub returns-in-4 : goal.returns-in-4
returns-in-4 c = is_time_multiplier c.args.counts c.args.line (omega arith)

pub returns-in_default-2 : goal.returns-in_default-2
returns-in_default-2 c = is_after c.args.counts c.args.line (omega arith)
