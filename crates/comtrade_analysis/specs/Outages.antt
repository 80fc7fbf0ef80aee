-- The runs of rows in which readings are missing.
use Rattle.std.specs.Prelude.{ℕ, ◌+◌, ◌-◌, ◌==◌, max, Bool, true, false, if◌then◌else◌, List, length, take, drop, fold, count_by, position, slice_get, unwrap_or, option_map, Option, Some, None}
use Rattle.std.specs.List.{filter_map, range_with_len}
use Rattle.dfr_channels.specs.declared.scan.Reading.{Reading}
use Rattle.dfr_channels.specs.declared.scan.Reading.TheVariants.{Value, Missing}
use Rattle.comtrade_format.specs.Parts.{RowParts}
use Rattle.comtrade_analysis.specs.declared.runs.Outage.{Outage}

abbrev pub is_missing : Reading → Bool
is_missing (Value x) = false
is_missing Missing = true

-- how many readings of a row are missing
abbrev pub missing_in : RowParts → ℕ
missing_in row = count_by is_missing row.values

-- the same of the row of this index; 0 where there is no such row
abbrev pub missing_at : List RowParts → ℕ → ℕ
missing_at rows row = unwrap_or (option_map missing_in (slice_get rows row)) 0

abbrev pub is_whole : RowParts → Bool
is_whole row = missing_in row == 0

-- how many of these rows come before the first one that has all readings: all, where none has
abbrev pub run_length : List RowParts → ℕ
run_length rows = unwrap_or (position is_whole rows) (length rows)

-- the most readings that are missing in one of these rows
abbrev pub most_missing : List RowParts → ℕ
most_missing rows = fold (λ most row. max (missing_in row) most) 0 rows

-- a run begins at a row in which readings are missing, where the row before has all or there is none
abbrev pub begins : List RowParts → ℕ → Bool
begins rows row =
    if missing_at rows row == 0 then false
    else (if row == 0 then true else (missing_at rows (row - 1) == 0))

-- the rows of an outage, and the most readings that are missing in one of them
pub record Run : Type 0 where
  pub first : ℕ
  pub rows : ℕ
  pub channels : ℕ

abbrev pub run_of : Outage → Run
run_of outage = record { first = outage.first; rows = outage.rows; channels = outage.channels }

-- that of so many rows from a row on
abbrev pub run_from : List RowParts → ℕ → ℕ → Run
run_from rows row count = record { first = row; rows = count; channels = most_missing (take count (drop row rows)) }

-- the run that begins at a row: that row, and those after it up to one that has all readings
abbrev pub outage_at : List RowParts → ℕ → Option Run
outage_at rows row = if begins rows row then Some (run_from rows row (run_length (drop (row + 1) rows) + 1)) else None

-- the runs that begin at one of the first n rows, in order
abbrev pub outages_before : List RowParts → ℕ → List Run
outages_before rows n = filter_map (outage_at rows) (range_with_len 0 n)

-- all, in order
abbrev pub outages : List RowParts → List Run
outages rows = outages_before rows (length rows)
