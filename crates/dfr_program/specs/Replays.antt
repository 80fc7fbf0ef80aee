-- What a replay of a script writes: the line of its first fault, or the answers to its commands.
use Rattle.std.specs.Prelude.{◌≡◌, ⊤, ℕ, List, [], ◌∷◌, ◌++◌, Option, Some, None, Result, Ok, Err}
use Rattle.std.specs.Io.KnownBytes.{Appends}
use Rattle.dfr_recorder.specs.History.{Opening}
use Rattle.dfr_recorder.specs.Kept.{Kept, kept}
use Rattle.dfr_script.specs.Parts.{CommandParts, ScriptParts}
use Rattle.dfr_script.specs.Recorders.{HasNumbers}
use Rattle.comtrade_format.specs.declared.file.Kind.{Kind}
use Rattle.dfr_program.specs.declared.fault.RunFault.{RunFault}
use Rattle.dfr_program.specs.declared.fault.RunFault.TheVariants as run
use Rattle.dfr_program.specs.declared.prepared.Fault.{Fault}
use Rattle.dfr_program.specs.FaultTexts.{fault_text}
use Rattle.dfr_program.specs.Transcript.{transcript}
use Rattle.dfr_program.specs.Writing.{Cut}

-- the answers to the first commands are written, up to the one at which an allocation failed
pub record WritesFirst (kind : Kind) (o : Opening) (commands : List CommandParts) (old new : Option (List ℕ)) : Type 0 where
  pub done : List CommandParts
  pub failed : CommandParts
  pub left : List CommandParts
  pub list : done ++ failed ∷ left ≡ commands
  pub written : Appends old new (transcript kind o [] done)

-- all answers are written; where an allocation failed, those to the first commands; where a write failed, a front of them all
abbrev pub Written : {U : Type 0} → Result U RunFault → Kind → Opening → List CommandParts → Option (List ℕ) → Option (List ℕ) → Type 0
Written (Ok u) kind o commands old new = Appends old new (transcript kind o [] commands)
Written (Err run.Memory) kind o commands old new = WritesFirst kind o commands old new
Written (Err run.Output) kind o commands old new = Cut old new (transcript kind o [] commands)
Written (Err run.Input) kind o commands old new = ⊥

-- so of a recorder that made no step, whatever opened it
abbrev pub WrittenBy : {U : Type 0} → Result U RunFault → Kind → Kept → List CommandParts → Option (List ℕ) → Option (List ℕ) → Type 0
WrittenBy r kind recorder commands old new = (o : Opening) → kept o [] ≡ recorder → Written r kind o commands old new

-- an opening has the set-up, the limits and the rules that a script says
pub record IsOpenedBy (s : ScriptParts) (o : Opening) : Type 0 where
  pub layout : o.layout ≡ s.setup
  pub limits : HasNumbers s.limits o.limits
  pub rules : o.rules ≡ s.rules

-- the answers of the recorder that a script opens are written, to its commands in order
pub record PrintsAnswers (kind : Kind) (s : ScriptParts) (old new : Option (List ℕ)) : Type 0 where
  pub opening : Opening
  pub opened : IsOpenedBy s opening
  pub written : Appends old new (transcript kind opening [] s.commands)

-- the script has no fault, and those to its first commands are
pub record PrintsFirst (kind : Kind) (fault : Option Fault) (s : ScriptParts) (old new : Option (List ℕ)) : Type 0 where
  pub right : fault ≡ None
  pub opening : Opening
  pub opened : IsOpenedBy s opening
  pub first : WritesFirst kind opening s.commands old new

-- a front of them is, but not all
pub record PrintsFront (kind : Kind) (s : ScriptParts) (old new : Option (List ℕ)) : Type 0 where
  pub opening : Opening
  pub opened : IsOpenedBy s opening
  pub cut : Cut old new (transcript kind opening [] s.commands)

-- a write failed, after a front of the line of the fault or, where there is none, of the answers
abbrev pub CutAt : Kind → Option Fault → ScriptParts → Option (List ℕ) → Option (List ℕ) → Type 0
CutAt kind (Some fault) s old new = Cut old new (fault_text fault)
CutAt kind None s old new = PrintsFront kind s old new

-- not all that came was read: a read failed, or too much came, or an allocation failed
abbrev pub IsUnread : {U : Type 0} → Result U RunFault → Type 0
IsUnread (Ok u) = ⊥
IsUnread (Err run.Input) = ⊤
IsUnread (Err run.Output) = ⊥
IsUnread (Err run.Memory) = ⊤
