use Rattle.std.proofs.Common.{rules}
use Rattle.dfr_recorder.proofs.open_record.shelve.Goals as goal

pub returns-in-Some-clause-shelf : goal.returns-in-Some-clause-shelf
returns-in-Some-clause-shelf g c = search rules depth 1
