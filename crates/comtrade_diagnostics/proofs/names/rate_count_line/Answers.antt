use Rattle.std.proofs.Common.{◌+◌, arith}
use Rattle.comtrade_diagnostics.proofs.Places.{is_rate_count}
use Rattle.comtrade_diagnostics.proofs.names.rate_count_line.Goals as goal

pub returns : goal.returns
returns c = is_rate_count c.args.counts (c.args.counts.analog + c.args.counts.status + 4) (omega arith)
