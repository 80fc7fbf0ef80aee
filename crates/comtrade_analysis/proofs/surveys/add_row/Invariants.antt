use Rattle.std.proofs.Common.{ℕ, ◌+◌, ◌<◌, ◌≤◌, length, get_or}
use Rattle.comtrade_analysis.specs.Surveys.{IsSurvey}
use Rattle.comtrade_analysis.specs.declared.surveys.Survey.{Survey}
use Rattle.comtrade_analysis.proofs.surveys.add_row.Given as goal

abbrev pub invariant-loop-channel : goal.invariant-loop-channel
invariant-loop-channel g l = record {
  done : (k : ℕ) (d : Survey) → k < l.channel → IsSurvey l.rows k (l.row + 1) (get_or l.surveys k d);
  rest : (k : ℕ) (d : Survey) → l.channel ≤ k → k < length l.surveys → IsSurvey l.rows k l.row (get_or l.surveys k d);
}
