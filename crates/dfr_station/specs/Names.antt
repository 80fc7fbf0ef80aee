-- What the name of a record's files says.
use Rattle.std.specs.Prelude.{◌≡◌, ℤ, ◌*ℤ◌, ◌<ℤ◌, pos, Option, Some, None, IfSome}
use Rattle.dfr_channels.specs.Parts.{SetupParts}
use Rattle.dfr_channels.specs.Scans.{instant_of}
use Rattle.dfr_folder.specs.Dated.{IsDated, HasYear}
use Rattle.dfr_folder.specs.Sorting.{SortsBefore}
use Rattle.dfr_folder.specs.Texts.{name_text}
use Rattle.dfr_folder.specs.declared.name.Key.{Key}
use Rattle.dfr_folder.specs.declared.name.Name.{Name}
use Rattle.dfr_recorder.specs.declared.record.Extent.{Extent}
use Rattle.dfr_station.specs.declared.shown.Redated.{Redated}
use Rattle.jiff_core.specs.DateTime.{IsCivilNanos}

-- the instant of a record's trigger as it is shown: by its date, or by the set-up
abbrev pub trigger_shown : SetupParts → Option Redated → Extent → Option ℤ
trigger_shown layout None extent = instant_of layout extent.trigger
trigger_shown layout (Some r) extent = Some r.is.trigger

-- the name has the date and the time of day of that instant
abbrev pub IsDatedBy : Option ℤ → Key → Type 0
IsDatedBy instant key = IfSome instant (λ (at : ℤ). IsCivilNanos (at *ℤ pos 1000) → IsDated at key)

-- a record's name has its number and the date of its trigger as it is shown, and is the first one of these
abbrev pub IsNameOf : SetupParts → Option Redated → Extent → Key → Type 0
IsNameOf layout redated extent key =
    (key.number ≡ extent.number) × (key.copy ≡ 1) × IsDatedBy (trigger_shown layout redated extent) key

-- Of two records, of one recording or of two, whose triggers are shown in the years 0 to 9999, the names of the one that is shown
-- to be triggered earlier sort before those of the other.
abbrev pub RecordsSort : Type 0
RecordsSort = (layout second : SetupParts) (r s : Option Redated) (e f : Extent) (x y : ℤ) (a b : Name)
    → IsNameOf layout r e a.key → IsNameOf second s f b.key
    → trigger_shown layout r e ≡ Some x → trigger_shown second s f ≡ Some y
    → HasYear x → HasYear y → x <ℤ y → SortsBefore (name_text a) (name_text b)
