-- Which rate gives the interval between the last row of one rate and the first row of the next: what the stamps of a file show.
use Rattle.std.specs.Prelude.{◌≡◌, ℕ, zero, suc, ◌-◌, ◌/◌, ◌≤◌, ◌==◌, ◌&&◌, ◌||◌, Bool, true, false, not, nat_lt, nat_le, List, [], ◌∷◌, length, slice_get, Option, Some, None, option_and_then, if◌then◌else◌}
use Rattle.std.specs.Int.{abs_diff}
use Rattle.comtrade_values.specs.Spelling.{Number}
use Rattle.comtrade_format.specs.Parts.{HeadParts, RowParts, FileParts}
use Rattle.comtrade_format.specs.Times.{span, stamp_time, rates_decide, time_with}
use Rattle.comtrade_format.specs.declared.file.Rate.{Rate}
use Rattle.comtrade_format.specs.declared.values.border.Border.{Border}
use Rattle.comtrade_format.specs.declared.values.border.Border.TheVariants.{Old, New}
use Rattle.comtrade_format.specs.declared.values.border.BorderSearch.{BorderSearch}

-- each number below this one passes the test
abbrev pub each : ℕ → (ℕ → Bool) → Bool
each zero test = true
each (suc n) test = each n test && test n

-- some number below this one passes the test
abbrev pub some_of : ℕ → (ℕ → Bool) → Bool
some_of zero test = false
some_of (suc n) test = some_of n test || test n

-- the rate of a row: the first that has not ended before it
abbrev pub rate_at : List Rate → ℕ → Option Rate
rate_at [] row = None
rate_at (rate ∷ more) row = if nat_lt row rate.endsamp then Some rate else rate_at more row

-- how long one row at a row's rate lasts
abbrev pub one_row : Option Rate → Option ℕ
one_row rate = option_and_then (λ (r : Rate). span r.samp 1) rate

abbrev pub interval_at : List Rate → ℕ → Option ℕ
interval_at rates row = one_row (rate_at rates row)

-- the time by the stamp that a row has
abbrev pub stamped : Number → Option ℕ → Option ℕ
stamped timemult stamp = option_and_then (stamp_time timemult) stamp

-- a value of the row before
abbrev pub before : (ℕ → Option ℕ) → ℕ → Option ℕ
before value zero = None
before value (suc row) = value row

-- a step from one row to the next is one interval of the next row: it differs from it by at most half of it,
-- and if the row before has another interval, it differs from that one by more
abbrev pub is_step : ℕ → ℕ → ℕ → Bool
is_step old own step = nat_lt 0 own && nat_le (abs_diff step own) (own / 2) && (own == old || nat_lt (abs_diff step own) (abs_diff step old))

-- the times of two rows, one after the other, are one interval of the second apart; both intervals and both times are known
abbrev pub follows : Option ℕ → Option ℕ → Option ℕ → Option ℕ → Bool
follows None own from to = false
follows (Some old) None from to = false
follows (Some old) (Some own) None to = false
follows (Some old) (Some own) (Some from) None = false
follows (Some old) (Some own) (Some from) (Some to) = nat_le from to && is_step old own (to - from)

-- both intervals are known and differ
abbrev pub differ : Option ℕ → Option ℕ → Bool
differ None own = false
differ (Some old) None = false
differ (Some old) (Some own) = not (own == old)

-- a row follows the one before at its own rate by their stamps; the first row has none before it
abbrev pub fits : HeadParts → (ℕ → Option ℕ) → ℕ → Bool
fits head stamps row = row == 0 || follows (before (interval_at head.rates) row) (interval_at head.rates row)
    (before (λ k. stamped head.timemult (stamps k)) row) (stamped head.timemult (stamps row))

-- a row has another interval than the one before
abbrev pub changes : HeadParts → ℕ → Bool
changes head row = differ (before (interval_at head.rates) row) (interval_at head.rates row)

-- only several rates, all above 0, have borders
abbrev pub has_borders : HeadParts → Bool
has_borders head = nat_lt 1 (length head.rates) && rates_decide head

-- the new rate gives the interval if each row follows the one before by the stamps, across a border too; otherwise the old rate does
abbrev pub border : HeadParts → ℕ → (ℕ → Option ℕ) → Border
border head rows stamps = if has_borders head && (each rows (fits head stamps) && some_of rows (changes head)) then New else Old

-- the stamps of rows, by index
abbrev pub stamps_of : List RowParts → ℕ → Option ℕ
stamps_of rows k = option_and_then (λ (row : RowParts). row.stamp) (slice_get rows k)

abbrev pub border_in : FileParts → Border
border_in file = border file.head (length file.rows) (stamps_of file.rows)

-- a row's time, with the border that the stamps of all rows show
abbrev pub time_in : FileParts → ℕ → Option ℕ → Option ℕ
time_in file row stamp = time_with (border_in file) file.head row stamp

-- a search that has looked at the first rows
pub record Seen (head : HeadParts) (stamps : ℕ → Option ℕ) (rows : ℕ) (search : BorderSearch) : Type 0 where
  pub left : (later : ℕ) → rows ≤ later → rate_at search.left.now later ≡ rate_at head.rates later
  pub timemult : search.timemult ≡ head.timemult
  pub has_borders : search.has_borders ≡ has_borders head
  pub interval : search.interval ≡ before (interval_at head.rates) rows
  pub time : search.time ≡ before (λ k. stamped head.timemult (stamps k)) rows
  pub fits : search.fits ≡ each rows (fits head stamps)
  pub changes : search.changes ≡ some_of rows (changes head)
