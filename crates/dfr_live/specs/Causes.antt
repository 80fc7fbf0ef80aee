-- What is known of the fault with which a thread, or a run, ended. Nothing is said of the turns of an idle thread and of memory, nor
-- why calls and log do not agree: `⊤`.
use Rattle.std.specs.Prelude.{◌≡◌, ◌⊎◌, ℕ, List, ◌++◌, length, replicate, Option, Some, Err, ⊤}
use Rattle.dfr_recorder.specs.History.{Opening}
use Rattle.dfr_recorder.specs.Parts.{RecordParts}
use Rattle.dfr_recorder.specs.Steps.{StepParts}
use Rattle.dfr_recorder.specs.Steps as step
use Rattle.comtrade_format.specs.declared.file.Kind.{Kind}
use Rattle.dfr_live.specs.declared.ended.EndFault.{EndFault}
use Rattle.dfr_live.specs.declared.ended.EndFault.TheVariants as unended
use Rattle.dfr_live.specs.declared.outcome.OpenFault.{OpenFault}
use Rattle.dfr_live.specs.declared.outcome.OpenFault.TheVariants as open_refused
use Rattle.dfr_live.specs.declared.report.LiveFault.{LiveFault}
use Rattle.dfr_live.specs.declared.report.LiveFault.TheVariants as fault
use Rattle.dfr_live.specs.Seen.{SourceParts}
use Rattle.dfr_live.specs.Devices.{GivesOf, LosesOf, PutsOf, LacksOf, TakenFor, Came, GaveOne, all_taken, FeedFailed, SinkFailed, IsTaken, Stopped}

-- ---- counters at their end

-- so many steps were counted, or so many lost ones since the last scan, that one more can't be
abbrev pub CountsNoMore : SourceParts → ℕ → Type 0
CountsNoMore s counted = (counted ≡ 18_446_744_073_709_551_615) ⊎ (s.lost ≡ 4_294_967_295)

-- so many steps in all, or so many lost ones at the end, that one more can't be counted
abbrev pub AreTooMany : List StepParts → Type 0
AreTooMany steps =
    (length steps ≡ 18_446_744_073_709_551_615)
    ⊎ ((before : List StepParts) × (lost : ℕ) × (lost ≡ 4_294_967_295) × (steps ≡ before ++ replicate lost step.Lost))

-- the intake gave answers for which so many steps were taken in
abbrev pub GaveTooMany : {A F : Type 0} → GivesOf A F → LosesOf F → F → Type 0
GaveTooMany {A} {F} Gives Loses f =
    (given : List (TakenFor A)) × (m : F) × Came (GaveOne Gives Loses) f given m × AreTooMany (all_taken given)

-- ---- the faults

-- a recording could not be ended for another reason than its tokens: each seat has one
abbrev pub HasTokens : EndFault → Type 0
HasTokens unended.Tokens = ⊥
HasTokens unended.Mismatch = ⊤
HasTokens unended.Memory = ⊤

-- the intake was asked once, where so many steps were counted
abbrev pub AskFails : {A F : Type 0} → GivesOf A F → F → SourceParts → ℕ → LiveFault → F → Type 0
AskFails Gives f s counted (fault.Feed code) g = Gives f (Err code) g
AskFails Gives f s counted (fault.Sink code) g = ⊥
AskFails Gives f s counted fault.Turns g = ⊤
AskFails Gives f s counted fault.Counter g = CountsNoMore s counted
AskFails Gives f s counted fault.Memory g = ⊥
AskFails Gives f s counted (fault.Open why) g = ⊥
AskFails Gives f s counted (fault.End why) g = ⊥

-- the acquisition ended
abbrev pub AcquisitionFails : {A F : Type 0} → GivesOf A F → LosesOf F → F → LiveFault → F → Type 0
AcquisitionFails Gives Loses f (fault.Feed code) g = FeedFailed Gives Loses f code g
AcquisitionFails Gives Loses f (fault.Sink code) g = ⊥
AcquisitionFails Gives Loses f fault.Turns g = ⊤
AcquisitionFails Gives Loses f fault.Counter g = GaveTooMany Gives Loses f
AcquisitionFails Gives Loses f fault.Memory g = ⊥
AcquisitionFails Gives Loses f (fault.Open why) g = ⊥
AcquisitionFails Gives Loses f (fault.End why) g = why ≡ unended.Mismatch

-- the trigger thread ended
abbrev pub TriggerFails : LiveFault → Type 0
TriggerFails (fault.Feed code) = ⊥
TriggerFails (fault.Sink code) = ⊥
TriggerFails fault.Turns = ⊤
TriggerFails fault.Counter = ⊥
TriggerFails fault.Memory = ⊤
TriggerFails (fault.Open why) = ⊥
TriggerFails (fault.End why) = why ≡ unended.Mismatch

-- the files of a record ended the export, or there was no memory to take one
abbrev pub PutFails : {K : Type 0} → PutsOf K → LacksOf K → Opening → Kind → K → LiveFault → K → Type 0
PutFails Puts Lacks o kind f why g =
    ((why ≡ fault.Memory) × (g ≡ f)) ⊎ ((r : RecordParts) × IsTaken o r × Stopped Puts Lacks o.layout kind f r why g)

-- the export ended
abbrev pub ExportFails : {K : Type 0} → PutsOf K → LacksOf K → Opening → Kind → K → LiveFault → K → Type 0
ExportFails Puts Lacks o kind f (fault.Feed code) g = ⊥
ExportFails Puts Lacks o kind f (fault.Sink code) g = SinkFailed Puts Lacks o kind f code g
ExportFails Puts Lacks o kind f fault.Turns g = ⊤
ExportFails Puts Lacks o kind f fault.Counter g = ⊥
ExportFails Puts Lacks o kind f fault.Memory g = ⊤
ExportFails Puts Lacks o kind f (fault.Open why) g = ⊥
ExportFails Puts Lacks o kind f (fault.End why) g = ⊥

-- a run ended that was opened
abbrev pub RunFails : {A F K : Type 0} → GivesOf A F → LosesOf F → PutsOf K → LacksOf K → Opening → Kind → F → K → F → K → LiveFault → Type 0
RunFails Gives Loses Puts Lacks o kind f k g l (fault.Feed code) = FeedFailed Gives Loses f code g
RunFails Gives Loses Puts Lacks o kind f k g l (fault.Sink code) = SinkFailed Puts Lacks o kind k code l
RunFails Gives Loses Puts Lacks o kind f k g l fault.Turns = ⊤
RunFails Gives Loses Puts Lacks o kind f k g l fault.Counter = GaveTooMany Gives Loses f
RunFails Gives Loses Puts Lacks o kind f k g l fault.Memory = ⊤
RunFails Gives Loses Puts Lacks o kind f k g l (fault.Open why) = ⊥
RunFails Gives Loses Puts Lacks o kind f k g l (fault.End why) = HasTokens why

-- a run ended, whose recorder has that reason not to be opened, or none: where it wasn't opened, the devices are as they were
abbrev pub HasCause : {A F O K : Type 0} → GivesOf A F → LosesOf F → PutsOf K → LacksOf K → Opening → Kind → Option OpenFault
    → F × O × K → F × O × K → LiveFault → Type 0
HasCause Gives Loses Puts Lacks o kind refused old new (fault.Open why) =
    (new ≡ old) × ((refused ≡ Some why) ⊎ (why ≡ open_refused.Memory))
HasCause Gives Loses Puts Lacks o kind refused old new (fault.Feed code) = FeedFailed Gives Loses old.0 code new.0
HasCause Gives Loses Puts Lacks o kind refused old new (fault.Sink code) = SinkFailed Puts Lacks o kind old.2 code new.2
HasCause Gives Loses Puts Lacks o kind refused old new fault.Turns = ⊤
HasCause Gives Loses Puts Lacks o kind refused old new fault.Counter = GaveTooMany Gives Loses old.0
HasCause Gives Loses Puts Lacks o kind refused old new fault.Memory = ⊤
HasCause Gives Loses Puts Lacks o kind refused old new (fault.End why) = HasTokens why

-- a recording could not be ended, whose tokens are those of its seats
abbrev pub IsEnd : LiveFault → Type 0
IsEnd (fault.Feed code) = ⊥
IsEnd (fault.Sink code) = ⊥
IsEnd fault.Turns = ⊥
IsEnd fault.Counter = ⊥
IsEnd fault.Memory = ⊥
IsEnd (fault.Open why) = ⊥
IsEnd (fault.End why) = HasTokens why
