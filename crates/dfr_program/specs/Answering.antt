-- What comes of a step and of commands, whatever the history was: the text that is printed, and what the recorder keeps.
use Rattle.std.specs.Prelude.{◌≡◌, ℕ, List, [], ◌∷◌, ◌++◌, Option, Result, Ok, Err, OnOk}
use Rattle.dfr_channels.specs.declared.rules.RuleFault.{RuleFault}
use Rattle.dfr_recorder.specs.Steps.{StepParts}
use Rattle.dfr_recorder.specs.History.{Opening}
use Rattle.dfr_recorder.specs.Kept.{Kept, kept}
use Rattle.dfr_script.specs.Parts.{CommandParts}
use Rattle.comtrade_format.specs.declared.file.Kind.{Kind}
use Rattle.dfr_program.specs.declared.fault.RunFault.{RunFault}
use Rattle.dfr_program.specs.declared.fault.RunFault.TheVariants as fault
use Rattle.dfr_program.specs.Transcript.{followed, step_text, transcript}
use Rattle.dfr_program.specs.Writing.{Wrote, Cut, Printed}

-- after every history of which `old` is kept: the text of the step is put after `before`, and `new` is kept then
pub record PutsStep (old : Kept) (s : Result StepParts RuleFault) (new : Kept) (before buffered : List ℕ) : Type 0 where
  pub text : (kind : Kind) (o : Opening) (h : List StepParts) → kept o h ≡ old → buffered ≡ before ++ step_text kind o h s
  pub after : (o : Opening) (h : List StepParts) → kept o h ≡ old → kept o (followed h s) ≡ new

-- after every history of which `old` is kept: so the text of the step is printed, and `new` is kept where it was
pub record PrintsStep {U : Type 0} (r : Result U RunFault) (kind : Kind) (old : Kept) (s : Result StepParts RuleFault) (new : Kept) (held : Option (List ℕ)) (before : List ℕ) (holds : Option (List ℕ)) (buffered : List ℕ) : Type 0 where
  pub text : (o : Opening) (h : List StepParts) → kept o h ≡ old → Printed r held before holds buffered (step_text kind o h s)
  pub after : OnOk r ((o : Opening) (h : List StepParts) → kept o h ≡ old → kept o (followed h s) ≡ new)

-- the answers to the first commands are printed, up to the one at which an allocation failed
pub record PrintsSome (kind : Kind) (o : Opening) (h : List StepParts) (commands : List CommandParts) (held : Option (List ℕ)) (before : List ℕ) (holds : Option (List ℕ)) (buffered : List ℕ) : Type 0 where
  pub done : List CommandParts
  pub failed : CommandParts
  pub left : List CommandParts
  pub list : done ++ failed ∷ left ≡ commands
  pub wrote : Wrote held holds buffered (before ++ transcript kind o h done)

-- all answers are printed; where an allocation failed, those to the first commands; where a write failed, a front of them all
abbrev pub AllPrinted : {U : Type 0} → Result U RunFault → Kind → Opening → List StepParts → List CommandParts → Option (List ℕ) → List ℕ → Option (List ℕ) → List ℕ → Type 0
AllPrinted (Ok u) kind o h commands held before holds buffered = Wrote held holds buffered (before ++ transcript kind o h commands)
AllPrinted (Err fault.Memory) kind o h commands held before holds buffered = PrintsSome kind o h commands held before holds buffered
AllPrinted (Err fault.Output) kind o h commands held before holds buffered = Cut held holds (before ++ transcript kind o h commands) × (buffered ≡ [])
AllPrinted (Err fault.Input) kind o h commands held before holds buffered = ⊥
