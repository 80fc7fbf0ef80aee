use Rattle.std.proofs.Common.{subst, ◌∙◌}
use Rattle.std.proofs.lemmas.List.{get_or_default}
use Rattle.comtrade_plot.specs.Equal.{AreEqual}
use Rattle.comtrade_plot.proofs.plan.equal.is_free.Goals as goal

pub returns : goal.returns
returns g c = λ is_true. (
  c.if-others-place.false,
  λ d.
      subst (λ x. AreEqual c.args.one.now x) (c.index-others-place.is ∙ get_or_default _ _ _ d c.if-others-place.false)
      (c.is_equal.ensures.0 is_true),
)
