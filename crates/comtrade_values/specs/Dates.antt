-- Instants as text: the stamps of a configuration file (C37.111-1999, 5.3.7), and dates with the year first.
use Rattle.std.specs.Prelude.{ℕ, zero, suc, ◌+◌, ◌/◌, ◌%◌, Bool, if◌then◌else◌, ℤ, pos, int_le, unsigned_abs, ◌-ℤ◌, List, [], ◌∷◌, ◌++◌}
use Rattle.std.specs.List.{join_with_byte}
use Rattle.std.specs.Int.{int_div_euclid, int_rem_euclid}
use Rattle.jiff_core.specs.Calendar.{days_from_civil}
use Rattle.comtrade_values.specs.Written.{padded}

-- a civil date of the years from 0 on
pub record Civil : Type 0 where
  pub year : ℕ
  pub month : ℕ
  pub day : ℕ

-- the greatest number from 0 to n that passes, or 0
unfoldable pub last_that : (ℕ → Bool) → ℕ → ℕ
last_that test zero = zero
last_that test (suc n) = if test (suc n) then suc n else last_that test n

-- the last year whose 1 January isn't after the day, which is counted from 1970-01-01
unfoldable pub year_of : ℤ → ℕ
year_of day = last_that (λ y. int_le (days_from_civil (pos y) 1 1) day) 9999

-- the last month of that year whose first isn't after it
unfoldable pub month_of : ℤ → ℕ
month_of day = last_that (λ m. int_le (days_from_civil (pos (year_of day)) m 1) day) 12

-- the day's civil date: that year, that month, and the place in it
unfoldable pub civil_of : ℤ → Civil
civil_of day = record {
  year = year_of day;
  month = month_of day;
  day = unsigned_abs (day -ℤ days_from_civil (pos (year_of day)) (month_of day) 1) + 1;
}

-- the number of the day of an instant, which is in microseconds since 1970-01-01 00:00:00
unfoldable pub day_number : ℤ → ℤ
day_number instant = int_div_euclid instant (pos 86_400_000_000)

-- the microseconds since that day began
unfoldable pub time_of_day : ℤ → ℕ
time_of_day instant = unsigned_abs (int_rem_euclid instant (pos 86_400_000_000))

-- dd/mm/yyyy
unfoldable pub date_text : Civil → List ℕ
date_text date = padded 2 date.day ++ 47 ∷ padded 2 date.month ++ 47 ∷ padded 4 date.year

-- hh:mm:ss.ssssss
unfoldable pub time_text : ℕ → List ℕ
time_text us =
    padded 2 (us / 3_600_000_000) ++ 58 ∷ padded 2 (us / 60_000_000 % 60)
    ++ 58 ∷ padded 2 (us / 1_000_000 % 60) ++ 46 ∷ padded 6 (us % 1_000_000)

-- the date field and the time field
unfoldable pub instant_fields : ℤ → List (List ℕ)
instant_fields instant = date_text (civil_of (day_number instant)) ∷ time_text (time_of_day instant) ∷ []

-- both, with a comma between them
unfoldable pub instant_text : ℤ → List ℕ
instant_text instant = join_with_byte 44 (instant_fields instant)

-- yyyy-mm-dd
unfoldable pub year_first : Civil → List ℕ
year_first date = padded 4 date.year ++ 45 ∷ padded 2 date.month ++ 45 ∷ padded 2 date.day

-- a date with the year first, a byte, and the time of day
unfoldable pub civil_text : ℕ → ℤ → List ℕ
civil_text between instant = year_first (civil_of (day_number instant)) ++ between ∷ time_text (time_of_day instant)
