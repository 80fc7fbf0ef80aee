-- A step, whatever its allocator is.
use Rattle.std.specs.Prelude.{List}
use Rattle.dfr_channels.specs.Parts.{ScanParts}
use Rattle.dfr_channels.specs.declared.rule.Rule.{Rule}
use Rattle.dfr_recorder.specs.declared.step.Step.{Step}
use Rattle.dfr_recorder.specs.declared.step.Step.TheVariants as step

pub data StepParts : Type 0 where
  Scan : ScanParts → StepParts
  Lost : StepParts
  Trigger : StepParts
  Take : StepParts
  SetRules : List Rule → StepParts

abbrev pub step_of : {A : Type 0} → Step A → StepParts
step_of (step.Scan scan) = Scan scan
step_of step.Lost = Lost
step_of step.Trigger = Trigger
step_of step.Take = Take
step_of (step.SetRules rules) = SetRules rules
