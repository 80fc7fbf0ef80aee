-- A history of steps, and what each step is answered after it. Every scan and every record stays here for ever.
use Rattle.std.specs.Prelude.{ℕ, zero, suc, ◌+◌, ◌-◌, Bool, if◌then◌else◌, ◌==◌, nat_lt, nat_le, List, [], ◌∷◌, ◌++◌, length, map, replicate, slice_range, slice_get, Option, Some, None, is_some, option_map, option_to_list, Result, Ok, Err}
use Rattle.comtrade_values.specs.Faults.{◌or◌, fault_unless}
use Rattle.dfr_channels.specs.Parts.{SetupParts, StatusParts, ScanParts}
use Rattle.dfr_channels.specs.declared.scan.Reading.TheVariants as reading
use Rattle.dfr_channels.specs.declared.layout.ScanFault.{ScanFault}
use Rattle.dfr_channels.specs.declared.layout.ScanFault.TheVariants as fault
use Rattle.dfr_channels.specs.declared.rule.Rule.{Rule}
use Rattle.dfr_channels.specs.Scans.{scan_fault}
use Rattle.dfr_channels.specs.Firing.{lowest_holding, rules_fit}
use Rattle.dfr_recorder.specs.declared.limits.Limits.{Limits}
use Rattle.dfr_recorder.specs.declared.record.Cause.{Cause}
use Rattle.dfr_recorder.specs.declared.record.Cause.TheVariants as cause
use Rattle.dfr_recorder.specs.declared.step.Hit.{Hit}
use Rattle.dfr_recorder.specs.declared.step.Hit.TheVariants.{Opened, Extended, AtLimit, ShelfFull}
use Rattle.dfr_recorder.specs.declared.step.Scanned.{Scanned}
use Rattle.dfr_recorder.specs.declared.step.ScanRefusal.{ScanRefusal}
use Rattle.dfr_recorder.specs.declared.step.ScanRefusal.TheVariants as refused
use Rattle.dfr_recorder.specs.declared.step.LostRefusal.{LostRefusal}
use Rattle.dfr_recorder.specs.declared.step.LostRefusal.TheVariants as lost_refused
use Rattle.dfr_recorder.specs.declared.step.TriggerFault.{TriggerFault}
use Rattle.dfr_recorder.specs.declared.step.TriggerFault.TheVariants as trigger_refused
use Rattle.dfr_recorder.specs.declared.record.Extent.{Extent}
use Rattle.dfr_recorder.specs.declared.marks.Newest.{Newest}
use Rattle.dfr_recorder.specs.declared.marks.Met.{Met}
use Rattle.dfr_recorder.specs.Parts.{RecordParts}
use Rattle.dfr_recorder.specs.Marks.{mark, mark_if, is_covered, scanned}
use Rattle.dfr_recorder.specs.Own.{has_instant}
use Rattle.dfr_recorder.specs.Steps.{StepParts}
use Rattle.dfr_recorder.specs.Steps as step
use Rattle.dfr_recorder.specs.Answers.{AnswerParts}
use Rattle.dfr_recorder.specs.Answers as answers

-- what a recorder is opened with
pub record Opening : Type 0 where
  pub layout : SetupParts
  pub limits : Limits
  pub rules : List Rule

abbrev pub opening : SetupParts → Limits → List Rule → Opening
opening layout limits rules = record { layout = layout; limits = limits; rules = rules }

-- what has happened: every accepted scan in order, the rules that hold, an extent for each record that was opened, the newest first,
-- and how many records were taken
pub record Past : Type 0 where
  pub scans : List ScanParts
  pub rules : List Rule
  pub extents : List Extent
  pub taken : ℕ

-- how many scans were accepted, which is the place of the next
abbrev pub count : Past → ℕ
count p = length p.scans

abbrev pub refusal_of : ScanFault → ScanRefusal
refusal_of fault.Shape = refused.Shape
refusal_of (fault.Range i) = refused.Range i

-- why a scan is not accepted at place k
abbrev pub refusal : SetupParts → ℕ → ScanParts → Option ScanRefusal
refusal layout k scan = option_map refusal_of (scan_fault layout scan) or fault_unless (has_instant layout k) refused.ClockEnd

-- why a lost scan is not accepted at place k
abbrev pub lost_refusal : SetupParts → ℕ → Option LostRefusal
lost_refusal layout k = fault_unless (has_instant layout k) lost_refused.ClockEnd

-- the bits of the scan before, or each channel's normal state where there is none
abbrev pub bits_after : SetupParts → Option ScanParts → List Bool
bits_after layout None = map (λ (channel : StatusParts). channel.normal) layout.status
bits_after layout (Some before) = before.status

-- the scan that stands for a lost one: every reading is missing
abbrev pub lost_scan : SetupParts → Option ScanParts → ScanParts
lost_scan layout before = record { analog = replicate (length layout.analog) reading.Missing; status = bits_after layout before }

-- the last item
abbrev pub newest : {X : Type 0} → List X → Option X
newest [] = None
newest (x ∷ []) = Some x
newest (x ∷ y ∷ xs) = newest (y ∷ xs)

-- the lowest rule that a scan fires
abbrev pub fires : Past → ScanParts → Option ℕ
fires p scan = lowest_holding (newest p.scans) scan p.rules

-- the newest record, where it has scans to come
abbrev pub open_at : ℕ → List Extent → Option Extent
open_at n [] = None
open_at n (e ∷ before) = if nat_le n e.last then Some e else None

abbrev pub open_one : Past → Option Extent
open_one p = open_at (count p) p.extents

abbrev pub is_open : Past → Bool
is_open p = is_some (open_one p)

-- the records that have all their scans
abbrev pub ended_at : ℕ → List Extent → List Extent
ended_at n [] = []
ended_at n (e ∷ before) = if nat_lt e.last n then (e ∷ ended_at n before) else ended_at n before

abbrev pub ended : Past → List Extent
ended p = ended_at (count p) p.extents

abbrev pub closed : Past → ℕ
closed p = length (ended p)

-- how many of them wait to be taken
abbrev pub waiting : Past → ℕ
waiting p = closed p - p.taken

-- the place after the newest record, 0 where there is none
abbrev pub end_of : List Extent → ℕ
end_of [] = 0
end_of (e ∷ before) = e.last + 1

abbrev pub newest_of : List Extent → Newest
newest_of extents = record { number = length extents; end = end_of extents }

-- what a trigger meets
abbrev pub met : Limits → Past → Met
met limits p = record { newest = newest_of p.extents; full = waiting p == limits.shelf; extent = open_one p }

-- after a trigger at place k: the open record, and those that have ended
abbrev pub triggered : Limits → Past → ℕ → Cause → List Extent
triggered limits p k cause = option_to_list (mark limits k cause (met limits p)).extent ++ ended p

abbrev pub fired : Limits → Past → Option ℕ → List Extent
fired limits p None = p.extents
fired limits p (Some rule) = triggered limits p (count p) (cause.Rule rule)

-- after an accepted scan that fires this rule or none, whose trigger has its place at the scan
abbrev pub accepted : Limits → Past → ScanParts → Option ℕ → Past
accepted limits p scan rule = record p { scans = p.scans ++ scan ∷ []; extents = fired limits p rule }

abbrev pub after_scan : Limits → Past → ScanParts → Option ScanRefusal → Past
after_scan limits p scan (Some refusal) = p
after_scan limits p scan None = accepted limits p scan (fires p scan)

-- after a lost scan, which never fires
abbrev pub after_lost : Limits → Past → ScanParts → Option LostRefusal → Past
after_lost limits p scan (Some refusal) = p
after_lost limits p scan None = accepted limits p scan None

-- after a manual trigger, which has its place at the last of n scans
abbrev pub after_trigger : Limits → Past → ℕ → Past
after_trigger limits p zero = p
after_trigger limits p (suc k) = if is_covered limits k (met limits p) then p else record p { extents = triggered limits p k cause.Manual }

-- after a step
abbrev pub after : SetupParts → Limits → Past → StepParts → Past
after layout limits p (step.Scan scan) = after_scan limits p scan (refusal layout (count p) scan)
after layout limits p step.Lost = after_lost limits p (lost_scan layout (newest p.scans)) (lost_refusal layout (count p))
after layout limits p step.Trigger = after_trigger limits p (count p)
after layout limits p step.Take = record p { taken = if nat_lt p.taken (closed p) then p.taken + 1 else p.taken }
after layout limits p (step.SetRules rules) = if rules_fit layout rules then record p { rules = rules } else p

-- after a history, of which the newest step stands first
abbrev pub past : Opening → List StepParts → Past
past o [] = record { scans = []; rules = o.rules; extents = []; taken = 0 }
past o (newest_step ∷ before) = after o.layout o.limits (past o before) newest_step

-- a record, of the scans from its first to its last that have come
abbrev pub record_of : List ScanParts → Extent → RecordParts
record_of scans e = record { extent = e; scans = slice_range scans e.first (e.last + 1) }

-- records in order, the oldest first
abbrev pub records : List ScanParts → List Extent → List RecordParts
records scans [] = []
records scans (e ∷ before) = records scans before ++ record_of scans e ∷ []

abbrev pub answer_to_scan : Limits → Past → ScanParts → Option ScanRefusal → Result Scanned ScanRefusal
answer_to_scan limits p scan (Some refusal) = Err refusal
answer_to_scan limits p scan None = Ok (scanned (count p) (mark_if limits (count p) (fires p scan) (met limits p)))

abbrev pub answer_to_lost : Limits → Past → Option LostRefusal → Result Scanned LostRefusal
answer_to_lost limits p (Some refusal) = Err refusal
answer_to_lost limits p None = Ok (scanned (count p) (mark_if limits (count p) None (met limits p)))

abbrev pub refused_when_full : Hit → Result Hit TriggerFault
refused_when_full ShelfFull = Err trigger_refused.ShelfFull
refused_when_full (Opened c) = Ok (Opened c)
refused_when_full (Extended c) = Ok (Extended c)
refused_when_full (AtLimit c) = Ok (AtLimit c)

abbrev pub answer_to_trigger : Limits → Past → ℕ → Result Hit TriggerFault
answer_to_trigger limits p zero = Err trigger_refused.NoScan
answer_to_trigger limits p (suc k) =
    if is_covered limits k (met limits p) then Err trigger_refused.Covered
    else refused_when_full (mark limits k cause.Manual (met limits p)).hit

abbrev pub answer_to_take : Past → Option RecordParts
answer_to_take p = slice_get (records p.scans (ended p)) p.taken

-- what a step is answered
abbrev pub answer : SetupParts → Limits → Past → StepParts → AnswerParts
answer layout limits p (step.Scan scan) = answers.Scan (answer_to_scan limits p scan (refusal layout (count p) scan))
answer layout limits p step.Lost = answers.Lost (answer_to_lost limits p (lost_refusal layout (count p)))
answer layout limits p step.Trigger = answers.Trigger (answer_to_trigger limits p (count p))
answer layout limits p step.Take = answers.Take (answer_to_take p)
answer layout limits p (step.SetRules rules) = answers.SetRules (rules_fit layout rules)
