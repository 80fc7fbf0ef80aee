use Rattle.std.proofs.Common.{◌≡◌, length}
use Rattle.comtrade_analysis.specs.Surveys.{AreSurveys}
use Rattle.comtrade_analysis.proofs.surveys.surveys_of.Given as goal

abbrev pub invariant-loop-row : goal.invariant-loop-row
invariant-loop-row g l = record {
  count : length l.surveys.items ≡ l.channels;
  each : AreSurveys l.rows l.row l.surveys.items;
}
