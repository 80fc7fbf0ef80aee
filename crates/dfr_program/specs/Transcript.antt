-- What a replay prints: to each command of a script, in order, the answer that the recorder gives.
use Rattle.std.specs.Prelude.{List, ℕ, [], ◌∷◌, ◌++◌, Option, Some, None, Result, Ok, Err, codes}
use Rattle.dfr_channels.specs.Firing.{rules_fault}
use Rattle.dfr_channels.specs.Parts.{SetupParts}
use Rattle.dfr_channels.specs.declared.rule.Rule.{Rule}
use Rattle.dfr_channels.specs.declared.rules.RuleFault.{RuleFault}
use Rattle.dfr_recorder.specs.Parts.{RecordParts}
use Rattle.dfr_recorder.specs.Steps.{StepParts}
use Rattle.dfr_recorder.specs.Steps as step
use Rattle.dfr_recorder.specs.Answers.{AnswerParts}
use Rattle.dfr_recorder.specs.Answers as answer
use Rattle.dfr_recorder.specs.History.{Opening}
use Rattle.dfr_recorder.specs.Kept.{reply}
use Rattle.dfr_script.specs.Parts.{CommandParts}
use Rattle.dfr_script.specs.Parts as command
use Rattle.comtrade_format.specs.declared.file.Kind.{Kind}
use Rattle.comtrade_format.specs.Cfg.{cfg}
use Rattle.comtrade_format.specs.Data.{dat}
use Rattle.comtrade_write.specs.OfRecord.{file}
use Rattle.dfr_program.specs.Texts.{scanned_text, scan_refusal_text, lost_text, trigger_text, rules_refused_text, record_text}

-- a taken record, and its two files in the kind that is asked for
unfoldable pub taken_text : SetupParts → Kind → RecordParts → List ℕ
taken_text layout kind r = record_text r.extent (cfg (file layout r kind).head) (dat kind (file layout r kind))

-- rules come to the recorder only where they fit, so it always sets them
unfoldable pub answer_text : SetupParts → Kind → AnswerParts → List ℕ
answer_text layout kind (answer.Scan (Ok scanned)) = scanned_text scanned
answer_text layout kind (answer.Scan (Err refusal)) = scan_refusal_text refusal
answer_text layout kind (answer.Lost result) = lost_text result
answer_text layout kind (answer.Trigger result) = trigger_text result
answer_text layout kind (answer.Take (Some r)) = taken_text layout kind r
answer_text layout kind (answer.Take None) = codes "take none\n"
answer_text layout kind (answer.SetRules done) = codes "rules set\n"

abbrev pub rules_step : List Rule → Option RuleFault → Result StepParts RuleFault
rules_step list None = Ok (step.SetRules list)
rules_step list (Some fault) = Err fault

-- the step that a command makes; rules with a fault make none
unfoldable pub step_of : SetupParts → CommandParts → Result StepParts RuleFault
step_of layout (command.Scan scan) = Ok (step.Scan scan)
step_of layout command.Lost = Ok step.Lost
step_of layout command.Trigger = Ok step.Trigger
step_of layout command.Take = Ok step.Take
step_of layout (command.Rules line list) = rules_step list (rules_fault layout list)

-- a history, and the step that was made after it
abbrev pub followed : List StepParts → Result StepParts RuleFault → List StepParts
followed h (Ok s) = s ∷ h
followed h (Err fault) = h

-- what is printed of a step after a history
abbrev pub step_text : Kind → Opening → List StepParts → Result StepParts RuleFault → List ℕ
step_text kind o h (Ok s) = answer_text o.layout kind (reply o h s)
step_text kind o h (Err fault) = rules_refused_text fault

-- what commands print in order, after a history of which the newest step stands first
unfoldable pub transcript : Kind → Opening → List StepParts → List CommandParts → List ℕ
transcript kind o h [] = []
transcript kind o h (c ∷ cs) = step_text kind o h (step_of o.layout c) ++ transcript kind o (followed h (step_of o.layout c)) cs

-- the history after commands
unfoldable pub history_after : Opening → List StepParts → List CommandParts → List StepParts
history_after o h [] = h
history_after o h (c ∷ cs) = history_after o (followed h (step_of o.layout c)) cs
