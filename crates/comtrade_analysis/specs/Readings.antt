-- The readings of an analogue channel, row by row. Rows and channels count from 0.
use Rattle.std.specs.Prelude.{ℕ, ℤ, Bool, List, Option, Some, None, is_some, slice_get, option_and_then}
use Rattle.dfr_channels.specs.Scans.{sample_in}
use Rattle.comtrade_format.specs.Parts.{RowParts}

-- the sample of a channel in a row
abbrev pub sample : ℕ → RowParts → Option ℤ
sample channel row = sample_in (slice_get row.values channel)

-- whether a row has a sample of a channel
abbrev pub has_sample : ℕ → RowParts → Bool
has_sample channel row = is_some (sample channel row)

-- the sample of a channel in the row of this index; None where it is missing, or there is no such row
abbrev pub sample_at : List RowParts → ℕ → ℕ → Option ℤ
sample_at rows channel row = option_and_then (sample channel) (slice_get rows row)
