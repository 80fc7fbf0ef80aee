-- What becomes of the pair of a record: it goes to the store until the store takes it, or the record is given up and counted.
use Rattle.std.specs.Prelude.{◌≡◌, ◌≢◌, ◌⊎◌, ℕ, Option, Bool, List, Result, Ok, Err}
use Rattle.comtrade_format.specs.declared.file.Kind.{Kind}
use Rattle.dfr_live.specs.Devices.{Came, FilesParts}
use Rattle.dfr_live.specs.declared.devices.Short.{Short}
use Rattle.dfr_live.specs.declared.devices.Short.TheVariants as short
use Rattle.dfr_recorder.specs.History.{Opening}
use Rattle.dfr_station.specs.Dated.{Dating, Shows, IsShown}
use Rattle.dfr_station.specs.Input.{one_more}
use Rattle.dfr_station.specs.Names.{IsNameOf}
use Rattle.dfr_folder.specs.declared.name.Key.{Key}
use Rattle.dfr_station.specs.declared.event.Trouble.{Trouble}
use Rattle.dfr_station.specs.declared.event.Trouble.TheVariants as troubled
use Rattle.dfr_station.specs.declared.shown.Redated.{Redated}
use Rattle.dfr_station.specs.declared.station.Stored.{Stored}
use Rattle.dfr_station.specs.declared.outlet.Tried.{Tried}
use Rattle.dfr_station.specs.declared.outlet.Tried.TheVariants as tried

-- what a store does with a configuration file and a data file under a name
abbrev pub StoresOf : Type 0 → Type 1
StoresOf K = K → Key → List ℕ → List ℕ → Result Stored Trouble → K → Type 0

-- a store, how many records it took, and how many were given up; both numbers stop at the greatest `u64`; and what the files are made by
pub record Exporting (K : Type 0) : Type 0 where
  pub store : K
  pub records : ℕ
  pub unwritten : ℕ
  pub dating : Dating

-- a store that has not been asked yet
abbrev pub unasked : {K : Type 0} → Opening → Kind → Bool → K → Exporting K
unasked o kind by_clock store =
    record { store = store; records = 0; unwritten = 0; dating = record { layout = o.layout; kind = kind; by_clock = by_clock } }

-- the store did not take the files, once for each of these troubles, the newest first: no storm was among them
abbrev pub Refused : {K : Type 0} → StoresOf K → Key → FilesParts → K → List Trouble → K → Type 0
Refused {K} Stores key files f troubles g =
    Came (λ (s : K) (trouble : Trouble) (t : K). Stores s key files.cfg files.dat (Err trouble) t × (trouble ≢ troubled.Storm)) f troubles g

-- the store took the files under this name, in the end; or it refused them at last, perhaps for a storm, and the record was given up
abbrev pub StoredOrGivenUp : {K : Type 0} → StoresOf K → Key → FilesParts → Exporting K → Exporting K → Type 0
StoredOrGivenUp {K} Stores key files s t =
    (troubles : List Trouble) × (m : K) × Refused Stores key files s.store troubles m × (t.dating ≡ s.dating)
    × (((stored : Stored) × Stores m key files.cfg files.dat (Ok stored) t.store
    × (t.records ≡ one_more s.records) × (t.unwritten ≡ s.unwritten))
    ⊎ ((last : Trouble) × Stores m key files.cfg files.dat (Err last) t.store
    × (t.records ≡ s.records) × (t.unwritten ≡ one_more s.unwritten)))

-- one try to store a pair: the store took it; or it didn't, and the pair is tried again, but not in a storm, or the record is given up
abbrev pub TriedPair : {K : Type 0} → StoresOf K → Key → FilesParts → Exporting K → Tried → Exporting K → Type 0
TriedPair Stores key files s tried.Stored t =
    (stored : Stored) × Stores s.store key files.cfg files.dat (Ok stored) t.store
    × (t ≡ record s { store = t.store; records = one_more s.records })
TriedPair Stores key files s tried.Again t =
    (trouble : Trouble) × (Stores s.store key files.cfg files.dat (Err trouble) t.store × (trouble ≢ troubled.Storm))
    × (t ≡ record s { store = t.store })
TriedPair Stores key files s tried.GivenUp t =
    (trouble : Trouble) × Stores s.store key files.cfg files.dat (Err trouble) t.store
    × (t ≡ record s { store = t.store; unwritten = one_more s.unwritten })

-- both files of a record, as it is shown, went to the store under its name, until it took them or the record was given up
abbrev pub PutsPair : {K : Type 0} → StoresOf K → Exporting K → FilesParts → Result (Unit {0}) ℕ → Exporting K → Type 0
PutsPair Stores s files answer t =
    (answer ≡ Ok tt) × ((key : Key) × (r : Option Redated) × Shows s.dating files.extent r × IsNameOf s.dating.layout r files.extent key
    × (shown : FilesParts) × IsShown s.dating r files shown × StoredOrGivenUp Stores key shown s t)

-- a record for whose files there is no memory is tried again, or given up
abbrev pub LacksPair : {K : Type 0} → Exporting K → Short → Exporting K → Type 0
LacksPair s short.Again t = t ≡ s
LacksPair s short.GiveUp t = t ≡ record s { unwritten = one_more s.unwritten }
LacksPair s short.Stop t = ⊥
