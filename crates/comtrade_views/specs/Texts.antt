-- The texts that lists and tables consist of.
use Rattle.std.specs.Prelude.{ℕ, ◌+◌, ◌-◌, ◌/◌, ◌%◌, ◌==◌, ◌&&◌, not, nat_lt, int_lt, ℤ, pos, unsigned_abs, if◌then◌else◌, List, [], ◌∷◌, ◌++◌, length, take, codes, decimal, slice_get, option_and_then, Option, Some, None}
use Rattle.comtrade_values.specs.Written.{padded}
use Rattle.comtrade_io.specs.Safe.{safe}

-- a cell of a table: its text, and the byte that ends it
abbrev pub cell : List ℕ → List ℕ
cell text = text ++ 31 ∷ []

-- nanoseconds as microseconds, to the nearest
abbrev pub micros : ℤ → ℕ
micros nanos = (unsigned_abs nanos + 500) / 1000

-- a minus before what isn't zero then
abbrev pub minus : ℤ → List ℕ
minus nanos = if int_lt nanos (pos 0) && not (micros nanos == 0) then codes "-" else []

-- nanoseconds in milliseconds, with three places
abbrev pub millis : ℤ → List ℕ
millis nanos = minus nanos ++ decimal (micros nanos / 1000) ++ codes "." ++ padded 3 (micros nanos % 1000)

-- when a row was taken, in milliseconds; its number, where that isn't known
abbrev pub time_text : Option ℤ → ℕ → List ℕ
time_text (Some nanos) row = millis nanos
time_text None row = codes "row " ++ decimal (row + 1)

abbrev pub time_at : List (Option ℤ) → ℕ → Option ℤ
time_at times row = option_and_then (λ time. time) (slice_get times row)

abbrev pub row_time : List (Option ℤ) → ℕ → List ℕ
row_time times row = time_text (time_at times row) row

-- the words after the 20 that are listed
abbrev pub more : ℕ → List ℕ
more count = if nat_lt 20 count then codes " and " ++ decimal (count - 20) ++ codes " more" else []
