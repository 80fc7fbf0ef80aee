-- The runs of rows in which a channel has no sample.
use Rattle.std.specs.Prelude.{ℕ, ◌+◌, ◌-◌, ◌==◌, Bool, true, false, if◌then◌else◌, List, length, drop, position, unwrap_or, Option, Some, None, is_some}
use Rattle.std.specs.List.{filter_map, range_with_len}
use Rattle.comtrade_format.specs.Parts.{RowParts}
use Rattle.comtrade_analysis.specs.Readings.{has_sample, sample_at}
use Rattle.comtrade_analysis.specs.declared.runs.Gap.{Gap}

-- how many of these rows come before the first one with a sample: all, where none has one
abbrev pub run_length : ℕ → List RowParts → ℕ
run_length channel rows = unwrap_or (position (λ row. has_sample channel row) rows) (length rows)

-- a gap begins at a row without a sample, where the row before has one or there is none
abbrev pub begins : List RowParts → ℕ → ℕ → Bool
begins rows channel row =
    if is_some (sample_at rows channel row) then false
    else (if row == 0 then true else is_some (sample_at rows channel (row - 1)))

-- the rows of a gap
pub record Run : Type 0 where
  pub first : ℕ
  pub rows : ℕ

abbrev pub run_of : Gap → Run
run_of gap = record { first = gap.first; rows = gap.rows }

-- the gap that begins at a row: that row, and as many as follow it without a sample
abbrev pub gap_at : List RowParts → ℕ → ℕ → Option Run
gap_at rows channel row =
    if begins rows channel row then Some (record { first = row; rows = run_length channel (drop (row + 1) rows) + 1 }) else None

-- the gaps that begin at one of the first n rows, in order
abbrev pub gaps_before : List RowParts → ℕ → ℕ → List Run
gaps_before rows channel n = filter_map (gap_at rows channel) (range_with_len 0 n)

-- all gaps, in order
abbrev pub gaps : List RowParts → ℕ → List Run
gaps rows channel = gaps_before rows channel (length rows)
