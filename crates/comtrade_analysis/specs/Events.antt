-- The changes of contacts. Rows and contacts count from 0.
use Rattle.std.specs.Prelude.{◌≡◌, ℕ, ◌-◌, ◌<◌, Bool, true, false, List, length, slice_get, option_map, option_and_then, Option, Some, None}
use Rattle.std.specs.List.{filter_map, flat_map, range_with_len}
use Rattle.comtrade_format.specs.Parts.{RowParts}
use Rattle.comtrade_analysis.specs.declared.events.Event.{Event}

-- the state of a contact in the row of this index, where there is one
abbrev pub bit_at : List RowParts → ℕ → ℕ → Option Bool
bit_at rows channel row = option_and_then (λ (r : RowParts). slice_get r.bits channel) (slice_get rows row)

-- the new state, where it is another one
abbrev pub change : Option Bool → Option Bool → Option Bool
change (Some true) (Some false) = Some false
change (Some false) (Some true) = Some true
change (Some true) (Some true) = None
change (Some false) (Some false) = None
change (Some before) None = None
change None now = None

-- the event of a contact in a row, where it has another state than in the row before
abbrev pub event_at : List RowParts → ℕ → ℕ → Option Event
event_at rows row channel =
    option_map (λ closed. record { row = row; channel = channel; closed = closed }) (change (bit_at rows channel (row - 1)) (bit_at rows channel row))

-- the events of a row, contact by contact
abbrev pub row_events : List RowParts → ℕ → ℕ → List Event
row_events rows contacts row = filter_map (event_at rows row) (range_with_len 0 contacts)

-- the events of the n rows after the first, row by row
abbrev pub events_after : List RowParts → ℕ → ℕ → List Event
events_after rows contacts n = flat_map (row_events rows contacts) (range_with_len 1 n)

-- the events of so many contacts; the first row has none
abbrev pub events : List RowParts → ℕ → List Event
events rows contacts = events_after rows contacts (length rows - 1)

-- a contact has no event in the rows after the first and before this one
abbrev pub IsSteady : List RowParts → ℕ → ℕ → Type 0
IsSteady rows channel n = (k : ℕ) → 0 < k → k < n → event_at rows k channel ≡ None

-- the first event of a contact in n rows; there is none exactly where it keeps its state in all of them
abbrev pub IsFirstEvent : List RowParts → ℕ → ℕ → Option Event → Type 0
IsFirstEvent rows channel n (Some e) = (0 < e.row) × (e.row < n) × (event_at rows e.row channel ≡ Some e) × IsSteady rows channel e.row
IsFirstEvent rows channel n None = IsSteady rows channel n
