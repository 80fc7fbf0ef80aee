use Rattle.std.proofs.Common.{sym, ap, subst, ◌∙◌}
use Rattle.dfr_recorder.specs.Kept.{Kept}
use Rattle.dfr_recorder.specs.Sound.{IsSound}
use Rattle.dfr_recorder.proofs.Lawful.{fresh_law}
use Rattle.dfr_recorder.proofs.recorder.Recorder.scans.Goals as goal

pub returns-clause-fresh : goal.returns-clause-fresh
returns-clause-fresh g c none =
    fresh_law c.args.self.now (subst (λ (k : Kept). IsSound k) c.self.view_is c.self.invariant.sound) (sym (ap (λ (k : Kept). k.scans) c.self.view_is) ∙ none)
