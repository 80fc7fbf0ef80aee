use Rattle.comtrade_analysis.specs.Events.{IsSteady}
use Rattle.comtrade_analysis.proofs.events.first_event_of.Given as goal

abbrev pub invariant-loop-row : goal.invariant-loop-row
invariant-loop-row g l = IsSteady l.rows l.channel l.row
