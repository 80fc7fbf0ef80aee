use Rattle.std.proofs.Common.{List, ◌∙◌, ap}
use Rattle.dfr_folder.specs.Events.{Event, bytes_under}
use Rattle.dfr_folder.proofs.RecordedLemmas.{same_state, picked, picked_own}
use Rattle.dfr_folder.proofs.recorded.RecordedDirectory.write.Goals as goal

pub returns-in-Ok-clause-written : goal.returns-in-Ok-clause-written
returns-in-Ok-clause-written g c =
    let first = g.S.Start.bytes in
    let old = c.args.self.now.log.calls in
    let noted = c.note.ensures in
    same_state _ _ _ _ c.in-Ok.ensures.there (ap (λ (es : List Event). bytes_under first es c.args.name) noted ∙ picked_own c.args.name c.args.bytes.now (bytes_under first old c.args.name))

pub returns-in-Ok-clause-elsewhere : goal.returns-in-Ok-clause-elsewhere
returns-in-Ok-clause-elsewhere g c =
    let first = g.S.Start.bytes in
    let old = c.args.self.now.log.calls in
    let noted = c.note.ensures in
    λ n differ. same_state _ _ _ _ (c.write_in.ensures.elsewhere n differ) (ap (λ (es : List Event). bytes_under first es n) noted ∙ picked c.args.name n _ (bytes_under first old n) differ)

pub returns-in-Err-clause-elsewhere : goal.returns-in-Err-clause-elsewhere
returns-in-Err-clause-elsewhere g c =
    let first = g.S.Start.bytes in
    let old = c.args.self.now.log.calls in
    let noted = c.note-in-Err.ensures in
    λ n differ. same_state _ _ _ _ (c.write_in.ensures.elsewhere n differ) (ap (λ (es : List Event). bytes_under first es n) noted ∙ picked c.args.name n _ (bytes_under first old n) differ)
