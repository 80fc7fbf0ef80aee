use Rattle.std.proofs.Common.{◌≡◌}
use Rattle.comtrade_diagnostics.proofs.importing.import.Goals as goal

pub returns-in-Ok-Some-clause-untold : goal.returns-in-Ok-Some-clause-untold
returns-in-Ok-Some-clause-untold g c = λ none file reads.
    let same = rw (c.in-Ok-Some.field-0-is) at c.in-Ok-Some.ensures.same in
    c.one_file.ensures.file c.args.cfg.now c.args.dat.now file c.in-Ok-Some.imported.file reads same
