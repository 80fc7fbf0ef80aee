use Rattle.std.proofs.Common.{List, ◌∙◌, ap}
use Rattle.dfr_folder.specs.Events.{Event, bytes_under}
use Rattle.dfr_folder.proofs.RecordedLemmas.{same_state, picked, picked_own}
use Rattle.dfr_folder.proofs.recorded.RecordedDirectory.rename.Goals as goal

pub returns-in-Ok-clause-there : goal.returns-in-Ok-clause-there
returns-in-Ok-clause-there g c =
    let first = g.S.Start.bytes in
    let old = c.args.self.now.log.calls in
    let noted = c.note.ensures in
    same_state _ _ _ _ c.in-Ok.ensures.there (ap (λ (es : List Event). bytes_under first es c.args.to) noted ∙ picked_own c.args.to (bytes_under first old c.args.from) (bytes_under first old c.args.to))

pub returns-in-Ok-clause-elsewhere : goal.returns-in-Ok-clause-elsewhere
returns-in-Ok-clause-elsewhere g c =
    let first = g.S.Start.bytes in
    let old = c.args.self.now.log.calls in
    let noted = c.note.ensures in
    λ n not_from not_to. same_state _ _ _ _ (c.rename_in.ensures.elsewhere n not_from not_to) (ap (λ (es : List Event). bytes_under first es n) noted ∙ picked c.args.to n (bytes_under first old c.args.from) (bytes_under first old n) not_to)
