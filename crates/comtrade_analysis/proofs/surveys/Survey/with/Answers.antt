use Rattle.std.proofs.Common.{refl, ◌∙◌}
use Rattle.comtrade_analysis.proofs.MoreSurveys.{survey_with, survey_without}
use Rattle.comtrade_analysis.proofs.surveys.Survey.with.Goals as goal

pub returns-in-Some : goal.returns-in-Some
returns-in-Some c = λ rows channel at h.
    survey_with rows channel c.args.row _ c.args.self _ h (at ∙ c.in-Some.is) (c.extremes_with-extremes.ensures rows channel at h.extremes) refl

pub returns-in-None : goal.returns-in-None
returns-in-None c = λ rows channel at h.
    survey_without rows channel c.args.row c.args.self _ h (at ∙ c.in-None.is) (c.extremes_with-extremes.ensures rows channel at h.extremes) refl
