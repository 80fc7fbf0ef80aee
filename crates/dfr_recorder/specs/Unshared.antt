-- Records that share no scan.
use Rattle.std.specs.Prelude.{◌<◌, List, [], ◌∷◌, IsTrue}
use Rattle.std.specs.List.{All}
use Rattle.dfr_recorder.specs.declared.record.Extent.{Extent}
use Rattle.dfr_recorder.specs.Steps.{StepParts}
use Rattle.dfr_recorder.specs.History.{Opening, past}

-- the newest first: each begins after the last scan of every one that was opened before it
abbrev pub IsApart : List Extent → Type 0
IsApart [] = Unit {0}
IsApart (e ∷ before) = All (λ (d : Extent). d.last < e.first) before × IsApart before

-- under unshared limits no scan stands in two records, whatever the history
abbrev pub UnsharedLaw : Type 0
UnsharedLaw = (o : Opening) (h : List StepParts) → IsTrue o.limits.unshared → IsApart (past o h).extents
