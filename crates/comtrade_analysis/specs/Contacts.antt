-- The changes of single contacts.
use Rattle.std.specs.Prelude.{◌≡◌, ℕ, ◌-◌, ◌<◌, List, length, get_or}
use Rattle.std.specs.List.{filter_map, range_with_len}
use Rattle.comtrade_format.specs.Parts.{RowParts}
use Rattle.comtrade_analysis.specs.Events.{event_at}
use Rattle.comtrade_analysis.specs.declared.events.Event.{Event}

-- the events of a contact in the first n rows, in order; the first row has none
abbrev pub contact_events : List RowParts → ℕ → ℕ → List Event
contact_events rows contact n = filter_map (λ row. event_at rows row contact) (range_with_len 1 (n - 1))

-- each is the number of events of the contact with its index in the first n rows
abbrev pub AreCounts : List RowParts → ℕ → List ℕ → Type 0
AreCounts rows n counts = (contact d : ℕ) → contact < length counts → get_or counts contact d ≡ length (contact_events rows contact n)
