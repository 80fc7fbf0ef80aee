-- The records that close in a list of steps.
use Rattle.std.specs.Prelude.{List, [], reverse}
use Rattle.dfr_recorder.specs.declared.record.Extent.{Extent}
use Rattle.dfr_recorder.specs.Steps.{StepParts}
use Rattle.dfr_recorder.specs.History.{Opening, past, ended}
use Rattle.dfr_recorder.specs.Run.{followed_by}

-- the extents of all records that close in these steps, made in order over this opening, the oldest record first: whether a record
-- was taken makes no difference, and one that has scans to come isn't among them
abbrev pub extents_closed : Opening → List StepParts → List Extent
extents_closed o steps = reverse (ended (past o (followed_by [] steps)))
