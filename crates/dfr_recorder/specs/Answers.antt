-- An answer, whatever its allocator is.
use Rattle.std.specs.Prelude.{Bool, true, false, Option, Result, Ok, Err}
use Rattle.dfr_recorder.specs.Parts.{RecordParts}
use Rattle.dfr_recorder.specs.declared.step.Hit.{Hit}
use Rattle.dfr_recorder.specs.declared.step.Scanned.{Scanned}
use Rattle.dfr_recorder.specs.declared.step.ScanRefusal.{ScanRefusal}
use Rattle.dfr_recorder.specs.declared.step.ScanRefusal.TheVariants as scan_refused
use Rattle.dfr_recorder.specs.declared.step.LostRefusal.{LostRefusal}
use Rattle.dfr_recorder.specs.declared.step.LostRefusal.TheVariants as lost_refused
use Rattle.dfr_recorder.specs.declared.step.TriggerFault.{TriggerFault}
use Rattle.dfr_recorder.specs.declared.step.TriggerFault.TheVariants as trigger_refused
use Rattle.dfr_recorder.specs.declared.step.Answer.{Answer}
use Rattle.dfr_recorder.specs.declared.step.Answer.TheVariants as answer

pub data AnswerParts : Type 0 where
  Scan : Result Scanned ScanRefusal → AnswerParts
  Lost : Result Scanned LostRefusal → AnswerParts
  Trigger : Result Hit TriggerFault → AnswerParts
  Take : Option RecordParts → AnswerParts
  SetRules : Bool → AnswerParts

abbrev pub answer_of : {A : Type 0} → Answer A → AnswerParts
answer_of (answer.Scan result) = Scan result
answer_of (answer.Lost result) = Lost result
answer_of (answer.Trigger result) = Trigger result
answer_of (answer.Take taken) = Take taken
answer_of (answer.SetRules done) = SetRules done

-- whether an answer says that an allocation failed
abbrev pub is_memory : AnswerParts → Bool
is_memory (Scan (Err scan_refused.Memory)) = true
is_memory (Scan (Err scan_refused.Shape)) = false
is_memory (Scan (Err (scan_refused.Range i))) = false
is_memory (Scan (Err scan_refused.ClockEnd)) = false
is_memory (Scan (Ok scanned)) = false
is_memory (Lost (Err lost_refused.Memory)) = true
is_memory (Lost (Err lost_refused.ClockEnd)) = false
is_memory (Lost (Ok scanned)) = false
is_memory (Trigger (Err trigger_refused.Memory)) = true
is_memory (Trigger (Err trigger_refused.NoScan)) = false
is_memory (Trigger (Err trigger_refused.ShelfFull)) = false
is_memory (Trigger (Err trigger_refused.Covered)) = false
is_memory (Trigger (Ok hit)) = false
is_memory (Take taken) = false
is_memory (SetRules done) = false
