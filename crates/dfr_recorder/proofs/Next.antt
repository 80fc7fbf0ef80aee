-- The step of ring, open record and shelf, by what is kept alone: what it does, and answers.
use Rattle.std.specs.Prelude.{ℕ, zero, suc, cond, drop, slice_get, Option, Some, None, Ok, Err, Result}
use Rattle.dfr_channels.specs.Parts.{ScanParts}
use Rattle.dfr_channels.specs.Firing.{lowest_holding, rules_fit}
use Rattle.dfr_recorder.specs.declared.record.Cause.TheVariants as cause
use Rattle.dfr_recorder.specs.declared.record.Extent.{Extent}
use Rattle.dfr_recorder.specs.declared.marks.Newest.{Newest}
use Rattle.dfr_recorder.specs.declared.step.Hit.{Hit}
use Rattle.dfr_recorder.specs.declared.step.Scanned.{Scanned}
use Rattle.dfr_recorder.specs.declared.step.ScanRefusal.{ScanRefusal}
use Rattle.dfr_recorder.specs.declared.step.LostRefusal.{LostRefusal}
use Rattle.dfr_recorder.specs.declared.step.TriggerFault.{TriggerFault}
use Rattle.dfr_recorder.specs.declared.step.TriggerFault.TheVariants as fault_of_trigger
use Rattle.dfr_recorder.specs.Steps.{StepParts}
use Rattle.dfr_recorder.specs.Steps as step
use Rattle.dfr_recorder.specs.Answers.{AnswerParts}
use Rattle.dfr_recorder.specs.Answers as answers
use Rattle.dfr_recorder.specs.Marks.{mark, is_covered, scanned}
use Rattle.dfr_recorder.specs.History.{newest, refusal, lost_refusal, lost_scan, refused_when_full}
use Rattle.dfr_recorder.specs.Kept.{Kept}
use Rattle.dfr_recorder.specs.Recording.{met, after_mark, fired_mark, accepted}

-- after a trigger
abbrev pub marked : Kept → Newest → Option Extent → Kept
marked k newest extent = record k { newest = newest; recording = after_mark k extent }

abbrev pub fired : Kept → ScanParts → Option ℕ
fired k scan = lowest_holding (newest k.ring) scan k.rules

abbrev pub next_scan : Kept → ScanParts → Option ScanRefusal → Kept
next_scan k scan (Some refusal) = k
next_scan k scan None = accepted k scan (fired_mark k (fired k scan))

-- the scan that stands for a lost one
abbrev pub lost : Kept → ScanParts
lost k = lost_scan k.layout (newest k.ring)

abbrev pub next_lost : Kept → Option LostRefusal → Kept
next_lost k (Some refusal) = k
next_lost k None = accepted k (lost k) (fired_mark k None)

abbrev pub next_trigger : Kept → ℕ → Kept
next_trigger k zero = k
next_trigger k (suc j) = cond (is_covered k.limits j (met k)) k (marked k (mark k.limits j cause.Manual (met k)).newest (mark k.limits j cause.Manual (met k)).extent)

-- after a step
abbrev pub next : Kept → StepParts → Kept
next k (step.Scan scan) = next_scan k scan (refusal k.layout k.scans scan)
next k step.Lost = next_lost k (lost_refusal k.layout k.scans)
next k step.Trigger = next_trigger k k.scans
next k step.Take = record k { shelf = drop 1 k.shelf }
next k (step.SetRules rules) = cond (rules_fit k.layout rules) (record k { rules = rules }) k

abbrev pub told_of_scan : Kept → ScanParts → Option ScanRefusal → Result Scanned ScanRefusal
told_of_scan k scan (Some refusal) = Err refusal
told_of_scan k scan None = Ok (scanned k.scans (fired_mark k (fired k scan)))

abbrev pub told_of_lost : Kept → Option LostRefusal → Result Scanned LostRefusal
told_of_lost k (Some refusal) = Err refusal
told_of_lost k None = Ok (scanned k.scans (fired_mark k None))

abbrev pub told_of_trigger : Kept → ℕ → Result Hit TriggerFault
told_of_trigger k zero = Err fault_of_trigger.NoScan
told_of_trigger k (suc j) = cond (is_covered k.limits j (met k)) (Err fault_of_trigger.Covered) (refused_when_full (mark k.limits j cause.Manual (met k)).hit)

-- what a step is answered
abbrev pub told : Kept → StepParts → AnswerParts
told k (step.Scan scan) = answers.Scan (told_of_scan k scan (refusal k.layout k.scans scan))
told k step.Lost = answers.Lost (told_of_lost k (lost_refusal k.layout k.scans))
told k step.Trigger = answers.Trigger (told_of_trigger k k.scans)
told k step.Take = answers.Take (slice_get k.shelf 0)
told k (step.SetRules rules) = answers.SetRules (rules_fit k.layout rules)
