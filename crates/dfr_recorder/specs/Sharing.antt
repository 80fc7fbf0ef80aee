-- The records of limits under which scans may be shared, by the rules for these alone, which ask for no record's end: the extents
-- after each step, and what the step is answered.
use Rattle.std.specs.Prelude.{ℕ, zero, suc, ◌≡◌, ◌+◌, ◌-◌, min, false, if◌then◌else◌, ◌==◌, nat_lt, List, [], ◌∷◌, length, Option, Some, None, option_map, Result, Ok, Err}
use Rattle.dfr_channels.specs.Parts.{SetupParts, ScanParts}
use Rattle.dfr_recorder.specs.declared.limits.Limits.{Limits}
use Rattle.dfr_recorder.specs.declared.record.Cause.{Cause}
use Rattle.dfr_recorder.specs.declared.record.Cause.TheVariants as cause
use Rattle.dfr_recorder.specs.declared.record.Extent.{Extent}
use Rattle.dfr_recorder.specs.declared.step.Hit.{Hit}
use Rattle.dfr_recorder.specs.declared.step.Hit.TheVariants.{Opened, Extended, AtLimit, ShelfFull}
use Rattle.dfr_recorder.specs.declared.step.Scanned.{Scanned}
use Rattle.dfr_recorder.specs.declared.step.ScanRefusal.{ScanRefusal}
use Rattle.dfr_recorder.specs.declared.step.TriggerFault.{TriggerFault}
use Rattle.dfr_recorder.specs.declared.step.TriggerFault.TheVariants as trigger_refused
use Rattle.dfr_recorder.specs.Steps.{StepParts}
use Rattle.dfr_recorder.specs.Steps as step
use Rattle.dfr_recorder.specs.Answers.{AnswerParts}
use Rattle.dfr_recorder.specs.Answers as answers
use Rattle.dfr_recorder.specs.History as history
use Rattle.dfr_recorder.specs.History.{Opening, Past, past, count, open_one, ended, waiting, fires, refusal, refused_when_full}
use Rattle.dfr_recorder.specs.Kept.{reply}

-- the extents after a trigger at place k, where this record is open or none is
abbrev pub marked : Limits → Past → ℕ → Cause → Option Extent → List Extent
marked limits p k cause (Some e) = record e { last = min (k + limits.post) (e.first + limits.longest - 1) } ∷ ended p
marked limits p k cause None =
    if waiting p == limits.shelf then p.extents
    else (record { number = length p.extents + 1; first = k - limits.pre; trigger = k; last = k + limits.post; cause = cause } ∷ p.extents)

abbrev pub hit : Limits → Past → ℕ → Option Extent → Hit
hit limits p k (Some e) = if nat_lt (e.first + limits.longest - 1) (k + limits.post) then AtLimit (length p.extents) else Extended (length p.extents)
hit limits p k None = if waiting p == limits.shelf then ShelfFull else Opened (length p.extents + 1)

abbrev pub fired : Limits → Past → Option ℕ → List Extent
fired limits p None = p.extents
fired limits p (Some rule) = marked limits p (count p) (cause.Rule rule) (open_one p)

abbrev pub after_scan : Limits → Past → ScanParts → Option ScanRefusal → List Extent
after_scan limits p scan (Some refusal) = p.extents
after_scan limits p scan None = fired limits p (fires p scan)

abbrev pub after_trigger : Limits → Past → ℕ → List Extent
after_trigger limits p zero = p.extents
after_trigger limits p (suc k) = marked limits p k cause.Manual (open_one p)

-- after a step: only a scan and a trigger change them
abbrev pub after : SetupParts → Limits → Past → StepParts → List Extent
after layout limits p (step.Scan scan) = after_scan limits p scan (refusal layout (count p) scan)
after layout limits p step.Lost = p.extents
after layout limits p step.Trigger = after_trigger limits p (count p)
after layout limits p step.Take = p.extents
after layout limits p (step.SetRules rules) = p.extents

-- the number of the newest record, where scan n is its last
abbrev pub closed_at : ℕ → List Extent → Option ℕ
closed_at n [] = None
closed_at n (e ∷ before) = if e.last == n then Some (length (e ∷ before)) else None

abbrev pub answer_to_scan : Limits → Past → ScanParts → Option ScanRefusal → Result Scanned ScanRefusal
answer_to_scan limits p scan (Some refusal) = Err refusal
answer_to_scan limits p scan None = Ok (record {
  number = count p;
  trigger = option_map (λ (rule : ℕ). hit limits p (count p) (open_one p)) (fires p scan);
  closed = closed_at (count p) (fired limits p (fires p scan));
})

abbrev pub answer_to_trigger : Limits → Past → ℕ → Result Hit TriggerFault
answer_to_trigger limits p zero = Err trigger_refused.NoScan
answer_to_trigger limits p (suc k) = refused_when_full (hit limits p k (open_one p))

abbrev pub answer : SetupParts → Limits → Past → StepParts → AnswerParts
answer layout limits p (step.Scan scan) = answers.Scan (answer_to_scan limits p scan (refusal layout (count p) scan))
answer layout limits p step.Lost = history.answer layout limits p step.Lost
answer layout limits p step.Trigger = answers.Trigger (answer_to_trigger limits p (count p))
answer layout limits p step.Take = history.answer layout limits p step.Take
answer layout limits p (step.SetRules rules) = history.answer layout limits p (step.SetRules rules)

-- limits without the choice mean this, after every history
abbrev pub SharingLaw : Type 0
SharingLaw = (o : Opening) (h : List StepParts) (s : StepParts) → o.limits.unshared ≡ false
    → ((past o (s ∷ h)).extents ≡ after o.layout o.limits (past o h) s) × (reply o h s ≡ answer o.layout o.limits (past o h) s)
