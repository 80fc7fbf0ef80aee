-- A feed over a list of steps.
use Rattle.std.specs.Prelude.{◌≡◌, ℕ, List, [], ◌∷◌, Result, Ok, Err}
use Rattle.dfr_recorder.specs.Steps.{StepParts}
use Rattle.dfr_recorder.specs.Steps as step
use Rattle.dfr_live.specs.declared.station.Fed.{Fed}
use Rattle.dfr_live.specs.declared.station.Fed.TheVariants as fed

-- the first step that is left is given, and the others are left then; where none is left, the end. There is always one or the other
abbrev pub FeedsNext : {A : Type 0} → List StepParts → Result (Fed A) ℕ → List StepParts → Type 0
FeedsNext old (Ok (fed.Scan scan)) new = old ≡ step.Scan scan ∷ new
FeedsNext old (Ok fed.Lost) new = old ≡ step.Lost ∷ new
FeedsNext old (Ok fed.NotYet) new = ⊥
FeedsNext old (Ok fed.Done) new = (old ≡ []) × (new ≡ [])
FeedsNext old (Err code) new = ⊥
