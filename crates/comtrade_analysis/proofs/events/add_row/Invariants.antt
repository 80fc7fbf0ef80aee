use Rattle.std.proofs.Common.{◌≡◌, ◌++◌}
use Rattle.comtrade_analysis.specs.Events.{row_events}
use Rattle.comtrade_analysis.proofs.events.add_row.Given as goal

abbrev pub invariant-loop-channel : goal.invariant-loop-channel
invariant-loop-channel g l = l.events.items ≡ l.fn.events.items ++ row_events l.rows l.channel l.row
