use Rattle.std.proofs.Common.{◌≡◌, sym, None, rules}
use Rattle.dfr_recorder.specs.History.{refusal}
use Rattle.dfr_recorder.proofs.Memory.{grows_law}
use Rattle.dfr_recorder.proofs.Body.{scan_body}
use Rattle.dfr_recorder.proofs.Told.{is_step}
use Rattle.dfr_recorder.proofs.recorder.Recorder.scan_leaving.Goals as goal

pub returns-in-Ok-clause-ok : goal.returns-in-Ok-clause-ok
returns-in-Ok-clause-ok g c =
    let no : refusal c.self.inside.layout c.self.inside.count c.args.scan ≡ None = sym c.in-None.ensures.value in
    is_step _ _ _ _ (scan_body _ _ _ _ _ _ c.self.view_is no c.fires-fired.ensures c.in-Ok.ensures.ok)

pub returns-in-Err-clause-memory : goal.returns-in-Err-clause-memory
returns-in-Err-clause-memory g c _ =
    let no : refusal c.self.inside.layout c.self.inside.count c.args.scan ≡ None = sym c.in-None.ensures.value in
    grows_law _ _ _ _ c.self.view_is no c.fires-fired.ensures c.in-Err.ensures.memory

pub returns-in-Ok-clause-leaves : goal.returns-in-Ok-clause-leaves
returns-in-Ok-clause-leaves g c = search rules depth 1
