-- A run of steps after a history.
use Rattle.std.specs.Prelude.{◌≡◌, List, [], ◌∷◌, IfSome, IsTrue}
use Rattle.dfr_channels.specs.Parts.{SetupParts}
use Rattle.dfr_recorder.specs.Own.{is_own}
use Rattle.dfr_recorder.specs.Steps.{StepParts}
use Rattle.dfr_recorder.specs.Answers.{AnswerParts}
use Rattle.dfr_recorder.specs.Answers as answer
use Rattle.dfr_recorder.specs.History.{Opening}
use Rattle.dfr_recorder.specs.Kept.{Kept, kept, reply}

-- a history followed by steps in order
abbrev pub followed_by : List StepParts → List StepParts → List StepParts
followed_by h [] = h
followed_by h (s ∷ ss) = followed_by (s ∷ h) ss

-- the answers to steps in order, after a history
abbrev pub replies : Opening → List StepParts → List StepParts → List AnswerParts
replies o h [] = []
replies o h (s ∷ ss) = reply o h s ∷ replies o (s ∷ h) ss

-- for every history of which `old` is kept: these are the answers to the steps, and `new` is kept after them
abbrev pub IsRun : Kept → List StepParts → List AnswerParts → Kept → Type 0
IsRun old steps answers new = (o : Opening) (h : List StepParts) → kept o h ≡ old → (replies o h steps ≡ answers) × (kept o (followed_by h steps) ≡ new)

-- an answer that takes a record has one that matches the layout
abbrev pub IsOwnAnswer : SetupParts → AnswerParts → Type 0
IsOwnAnswer layout (answer.Take taken) = IfSome taken (λ r. IsTrue (is_own layout r))
IsOwnAnswer layout (answer.Scan result) = Unit {0}
IsOwnAnswer layout (answer.Lost result) = Unit {0}
IsOwnAnswer layout (answer.Trigger result) = Unit {0}
IsOwnAnswer layout (answer.SetRules done) = Unit {0}
