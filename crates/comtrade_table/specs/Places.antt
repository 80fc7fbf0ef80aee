-- What stands at a place of the rows. Rows, channels and contacts count from 0; None where there is no such place.
use Rattle.std.specs.Prelude.{ℕ, Bool, List, Option, slice_get, option_and_then, option_map}
use Rattle.dfr_channels.specs.declared.scan.Reading.{Reading}
use Rattle.comtrade_format.specs.Parts.{RowParts}

-- the reading of an analogue channel in a row
abbrev pub reading_at : List RowParts → ℕ → ℕ → Option Reading
reading_at rows row channel = option_and_then (λ r. slice_get r.values channel) (slice_get rows row)

-- the state of a contact in a row
abbrev pub state_at : List RowParts → ℕ → ℕ → Option Bool
state_at rows row contact = option_and_then (λ r. slice_get r.bits contact) (slice_get rows row)

-- the number of a row
abbrev pub number_at : List RowParts → ℕ → Option ℕ
number_at rows row = option_map (λ r. r.number) (slice_get rows row)

-- the time stamp of a row, if it has one
abbrev pub stamp_at : List RowParts → ℕ → Option ℕ
stamp_at rows row = option_and_then (λ r. r.stamp) (slice_get rows row)
