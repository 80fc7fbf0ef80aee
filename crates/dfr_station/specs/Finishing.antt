-- What becomes of the record that is open when the input ends: lost scans close it, and its pair goes to the store.
use Rattle.std.specs.Prelude.{◌≡◌, ◌≢◌, ◌⊎◌, Bool, true, false, List, length, is_some, Option, Some, None, Result, Ok, Err}
use Rattle.dfr_channels.specs.Parts.{SetupParts}
use Rattle.dfr_recorder.specs.Parts.{RecordParts}
use Rattle.dfr_recorder.specs.Steps as step
use Rattle.dfr_recorder.specs.Answers as answer
use Rattle.dfr_recorder.specs.Kept.{Kept, IsStep}
use Rattle.dfr_recorder.specs.declared.step.Scanned.{Scanned}
use Rattle.comtrade_format.specs.declared.file.Kind.{Kind}
use Rattle.dfr_live.specs.Devices.{Came, FilesParts, files_of}
use Rattle.dfr_clock.specs.Dating.{Kept as Times}
use Rattle.dfr_station.specs.Dated.{layout_under, last_shown}
use Rattle.dfr_station.specs.Input.{one_more}
use Rattle.dfr_station.specs.Names.{IsNameOf}
use Rattle.dfr_station.specs.Storing.{StoresOf}
use Rattle.dfr_station.specs.declared.event.Trouble.{Trouble}
use Rattle.dfr_station.specs.declared.event.Trouble.TheVariants as trouble
use Rattle.dfr_station.specs.declared.intake.ended.Counts.{Counts}
use Rattle.dfr_folder.specs.declared.name.Key.{Key}
use Rattle.dfr_station.specs.declared.shown.Redated.{Redated}
use Rattle.dfr_station.specs.declared.station.Stored.{Stored}

-- one lost scan, which the recorder accepted
abbrev pub LosesScan : Kept → Scanned → Kept → Type 0
LosesScan r x t = IsStep r step.Lost (answer.Lost (Ok x)) t

-- the recorder after lost scans, the newest first
abbrev pub LosesScans : Kept → List Scanned → Kept → Type 0
LosesScans r lost t = Came LosesScan r lost t

-- one of the last tries to store a pair: the store was asked, or there was no memory for the files
abbrev pub TriedLast : {K : Type 0} → StoresOf K → Key → FilesParts → K → Result Stored Trouble → K → Type 0
TriedLast Stores key files s r t = Stores s key files.cfg files.dat r t ⊎ ((r ≡ Err trouble.Memory) × (t ≡ s))

-- so often in vain, and never for a storm
abbrev pub TriedInVain : {K : Type 0} → StoresOf K → Key → FilesParts → K → List Trouble → K → Type 0
TriedInVain {K} Stores key files s troubles t =
    Came (λ (s : K) (x : Trouble) (t : K). TriedLast Stores key files s (Err x) t × (x ≢ trouble.Storm)) s troubles t

-- the store took the pair in the end; or it did not, for this reason at last, in ten tries or in a storm, in which it isn't tried again
abbrev pub TriesLast : {K : Type 0} → StoresOf K → Key → FilesParts → K → Result Stored Trouble → K → Type 0
TriesLast {K} Stores key files s (Ok stored) t =
    (troubles : List Trouble) × (m : K) × TriedInVain Stores key files s troubles m × TriedLast Stores key files m (Ok stored) t
TriesLast {K} Stores key files s (Err last) t =
    (earlier : List Trouble) × (m : K) × ((length earlier ≡ 9) ⊎ (last ≡ trouble.Storm))
    × TriedInVain Stores key files s earlier m × TriedLast Stores key files m (Err last) t

abbrev pub given_up : Counts → Counts
given_up c = record c { unwritten = one_more c.unwritten }

abbrev pub counted_last : Result Stored Trouble → Counts → Counts
counted_last (Ok stored) c = record c { records = one_more c.records }
counted_last (Err last) c = given_up c

-- the pair of this record, as it is shown, went to the store under its name, and was counted
abbrev pub WritesLast : {K : Type 0} → StoresOf K → SetupParts → Kind → Option Redated → RecordParts → Counts → K → Counts → K → Type 0
WritesLast Stores layout kind redated r c s d t =
    (key : Key) × IsNameOf layout redated r.extent key × (stored : Result Stored Trouble)
    × TriesLast Stores key (files_of (layout_under layout redated) kind r) s stored t × (d ≡ counted_last stored c)

-- the recorder, the counts and the store after the lost scans: the record that closed was taken and written, dated by the timebase if there is one; or it could not be closed, and is counted
abbrev pub EndsOpen : {K : Type 0} → StoresOf K → SetupParts → Kind → Option Times → Kept → Counts → K → Kept → Counts → K → Type 0
EndsOpen Stores layout kind times m c s t d u =
    ((r : RecordParts) × (is_some m.recording ≡ false) × IsStep m step.Take (answer.Take (Some r)) t × WritesLast Stores layout kind (last_shown times layout r.extent) r c s d u)
    ⊎ ((d ≡ given_up c) × (u ≡ s)
    × (((is_some m.recording ≡ true) × (t ≡ m)) ⊎ IsStep m step.Take (answer.Take None) t))

-- where a record was open, it ended so; where none was, nothing changed
abbrev pub FinishesOpen : {K : Type 0} → StoresOf K → Kind → Option Times → Bool → Kept → Counts → K → Kept → Counts → K → Type 0
FinishesOpen Stores kind times false r c s t d u = (t ≡ r) × (d ≡ c) × (u ≡ s)
FinishesOpen Stores kind times true r c s t d u =
    (lost : List Scanned) × (m : Kept) × LosesScans r lost m × EndsOpen Stores r.layout kind times m c s t d u

abbrev pub Finishes : {K : Type 0} → StoresOf K → Kind → Option Times → Kept → Counts → K → Kept → Counts → K → Type 0
Finishes Stores kind times r c s t d u = FinishesOpen Stores kind times (is_some r.recording) r c s t d u
