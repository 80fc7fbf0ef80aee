use Rattle.std.proofs.Common.{◌≡◌, sym, ap, subst}
use Rattle.dfr_channels.specs.Parts.{SetupParts}
use Rattle.dfr_recorder.specs.declared.limits.Limits.{Limits}
use Rattle.dfr_recorder.specs.History.{opening}
use Rattle.dfr_recorder.specs.Kept.{Kept}
use Rattle.dfr_program.specs.ReadBack.{RecordsReadBack}
use Rattle.dfr_program.proofs.law.as_one_thread.Goals as goal

pub returns : goal.returns
returns g c = λ x source tokens h.
    let k : Kept = c.args.ended.now.recorder in
    let layout : x.opening.layout ≡ k.layout = ap (λ (r : Kept). r.layout) h.3.is_kept in
    let limits : x.opening.limits ≡ k.limits = ap (λ (r : Kept). r.limits) h.3.is_kept in
    record {
      steps = c.one_list.ensures x source tokens h;
      files = subst (λ (l : SetupParts). RecordsReadBack (opening l x.opening.limits x.opening.rules)) (sym layout)
          (subst (λ (m : Limits). RecordsReadBack (opening k.layout m x.opening.rules)) (sym limits) (c.records_read_back.ensures x.opening.rules));
    }
