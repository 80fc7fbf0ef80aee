-- When the rows of a table were taken, as numbers of 64 bits.
use Rattle.std.specs.Prelude.{ℕ, ◌+◌, ℤ, pos, negsuc, nat_lt, if◌then◌else◌, Option, Some, None, option_and_then, List, [], ◌∷◌, length, slice_get}
use Rattle.comtrade_format.specs.Parts.{HeadParts}
use Rattle.comtrade_format.specs.Borders.{border}
use Rattle.comtrade_format.specs.Times.{time_with}
use Rattle.comtrade_format.specs.declared.values.border.Border.{Border}
use Rattle.comtrade_c.specs.Writing.{stamp_in}

-- nanoseconds; -2^63 stands for a time that isn't there, or has more than 63 bits
abbrev pub time_in : Option ℕ → ℤ
time_in None = negsuc 9_223_372_036_854_775_807
time_in (Some n) = if nat_lt n 9_223_372_036_854_775_808 then pos n else negsuc 9_223_372_036_854_775_807

-- rows with these stamps, the first of which has this index, by what says when a row was taken
abbrev pub times_by : (ℕ → Option ℕ → Option ℕ) → ℕ → List ℕ → List ℤ
times_by taken row [] = []
times_by taken row (stamp ∷ more) = time_in (taken row (stamp_in stamp)) ∷ times_by taken (row + 1) more

-- the stamp of a row, by its index
abbrev pub stamp_at : List ℕ → ℕ → Option ℕ
stamp_at stamps row = option_and_then stamp_in (slice_get stamps row)

-- the border that the stamps of all rows show
abbrev pub border_in : HeadParts → List ℕ → Border
border_in h stamps = border h (length stamps) (stamp_at stamps)

-- the rows of a head from the first one on: by its rates where it says them and none is 0, with the border that the stamps show; else by their stamps
abbrev pub times_in : HeadParts → List ℕ → List ℤ
times_in h stamps = times_by (time_with (border_in h stamps) h) 0 stamps
