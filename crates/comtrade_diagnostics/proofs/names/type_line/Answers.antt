use Rattle.std.proofs.Common.{◌+◌, arith}
use Rattle.comtrade_diagnostics.proofs.Places.{is_type}
use Rattle.comtrade_diagnostics.proofs.names.type_line.Goals as goal

pub returns : goal.returns
returns c = is_type c.args.counts (c.args.counts.analog + c.args.counts.status + c.args.counts.rates + 7) (omega arith)
