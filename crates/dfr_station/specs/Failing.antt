-- Why a run of a station failed, and what its store got before.
use Rattle.std.specs.Prelude.{◌≡◌, ◌⊎◌, Bool, List, Option, Some, Result, Ok, Err}
use Rattle.dfr_recorder.specs.History.{Opening}
use Rattle.comtrade_format.specs.declared.file.Kind.{Kind}
use Rattle.dfr_live.specs.Devices.{PutsOf, LacksOf, Handed, Got, GotFront}
use Rattle.dfr_live.specs.declared.ended.EndFault.TheVariants as unended
use Rattle.dfr_live.specs.declared.outcome.OpenFault.{OpenFault}
use Rattle.dfr_live.specs.declared.outcome.OpenFault.TheVariants as unopened
use Rattle.dfr_live.specs.declared.report.LiveFault.{LiveFault}
use Rattle.dfr_live.specs.declared.report.LiveFault.TheVariants as live
use Rattle.dfr_station.specs.Storing.{StoresOf, Exporting, unasked, PutsPair, LacksPair}
use Rattle.dfr_station.specs.declared.intake.ended.RunFault.{RunFault}
use Rattle.dfr_station.specs.declared.intake.ended.RunFault.TheVariants as run

-- a thread could not be started, or there was no memory at the end
abbrev pub IsShort : RunFault → Type 0
IsShort r = (r ≡ run.Thread) ⊎ (r ≡ run.End unended.Memory)

-- what a station tells of a fault of its threads; its devices have no errors of their own, and its idle threads none
abbrev pub IsToldAs : LiveFault → RunFault → Type 0
IsToldAs (live.Open why) r = r ≡ run.Open why
IsToldAs (live.End why) r = r ≡ run.End why
IsToldAs live.Counter r = r ≡ run.Counter
IsToldAs live.Memory r = IsShort r
IsToldAs live.Turns r = IsShort r
IsToldAs (live.Feed code) r = IsShort r
IsToldAs (live.Sink code) r = IsShort r

-- The devices before and after a run that failed, whose recorder has that reason not to be opened, or none: they are as they were where
-- the run did not begin, and else the outlet got the files of some records.
unfoldable pub DevicesFail : {F O K : Type 0} → PutsOf K → LacksOf K → Opening → Kind → Option OpenFault → F × O × K → F × O × K → RunFault → Type 0
DevicesFail Puts Lacks o kind refused old new run.Memory = new ≡ old
DevicesFail Puts Lacks o kind refused old new run.Thread = GotFront Puts Lacks o kind old.2 new.2
DevicesFail Puts Lacks o kind refused old new (run.Open why) = (new ≡ old) × ((refused ≡ Some why) ⊎ (why ≡ unopened.Memory))
DevicesFail Puts Lacks o kind refused old new run.Counter = GotFront Puts Lacks o kind old.2 new.2
DevicesFail Puts Lacks o kind refused old new (run.End why) = GotFront Puts Lacks o kind old.2 new.2

-- a report, or why there is none: that of the run, or that the desk did not take all orders of the input
abbrev pub IsFaultOf : {T : Type 0} → Result T RunFault → RunFault → Type 0
IsFaultOf {T} report r = (report ≡ Err r) ⊎ ((r ≡ run.End unended.Mismatch) × ((made : T) × (report ≡ Ok made)))

-- the store got the pairs of some records, one after the other, each until it took it or the record was given up, and nothing else
abbrev pub StoredSome : {K : Type 0} → StoresOf K → Opening → Kind → Bool → K → K → Type 0
StoredSome {K} Stores o kind by_clock store left =
    (records : List Handed) × (e : Exporting K)
    × Got (PutsPair Stores) (λ s extent short t. LacksPair s short t) o kind (unasked o kind by_clock store) records e × (e.store ≡ left)

-- A run that failed, from an input and a store to those that are left. For want of memory before it began, or where the recorder was not
-- opened, nothing was read or stored; if the recorder has accepted no scan, only want of memory keeps it from being opened. Else, whatever
-- the fault, the store got the pairs of some records.
abbrev pub StationFails : {I K : Type 0} → StoresOf K → Opening → Kind → Bool → Option OpenFault → I × K → I × K → RunFault → Type 0
StationFails Stores o kind by_clock refused old left run.Memory = left ≡ old
StationFails Stores o kind by_clock refused old left run.Thread = StoredSome Stores o kind by_clock old.1 left.1
StationFails Stores o kind by_clock refused old left (run.Open why) = (left ≡ old) × ((refused ≡ Some why) ⊎ (why ≡ unopened.Memory))
StationFails Stores o kind by_clock refused old left run.Counter = StoredSome Stores o kind by_clock old.1 left.1
StationFails Stores o kind by_clock refused old left (run.End why) = StoredSome Stores o kind by_clock old.1 left.1
