use Rattle.std.proofs.Common.{◌∙◌, rules, sym, ap, subst}
use Rattle.dfr_detect.specs.Watched.{IsStep, Kept}
use Rattle.dfr_detect.proofs.Steps.{step_sample, step_gap}
use Rattle.dfr_detect.proofs.watch.Watch.step.Goals as goal
use Rattle.dfr_detect.proofs.watch.Watch.step.Goals.{in-Some, in-None}

pub returns : goal.returns
returns g c =
    let told = ap (λ (k : Kept). k.on) c.self.view_is in
    elim c.match-sample.branch [
      | in-Some w ↦
          subst (λ s. IsStep c.args.self.now s c.self.inside.on c.match-sample.self) (sym w.in-Some.is) (step_sample _ _ _ _ (w.self-is ∙ w.take_in.ensures) told (search rules))
      | in-None w ↦
          subst (λ s. IsStep c.args.self.now s c.self.inside.on c.match-sample.self) (sym w.in-None.is) (step_gap _ _ _ (w.self-is ∙ w.start_anew.ensures) told (search rules))
    ]
