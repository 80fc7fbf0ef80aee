-- What the name of a record says of the instant of its trigger, which is in microseconds since 1970-01-01 00:00:00 UTC.
use Rattle.std.specs.Prelude.{◌≡◌, ℕ, ◌+◌, ◌*◌, ◌/◌, ℤ, ◌*ℤ◌, pos, neg_ℤ, unsigned_abs}
use Rattle.jiff_core.specs.Calendar.{IsBetween}
use Rattle.jiff_core.specs.DateTime.{civil_nanos}
use Rattle.jiff_core.specs.declared.civil.datetime.DateTime.{DateTime}
use Rattle.dfr_folder.specs.declared.name.Key.{Key}

-- year, month and day, or hour, minute and second, as one number
abbrev pub packed : ℕ → ℕ → ℕ → ℕ
packed first second third = first * 10_000 + second * 100 + third

-- the name has the civil date and the time of day of this instant
abbrev pub IsDated : ℤ → Key → Type 0
IsDated instant key = (civil : DateTime) × (civil_nanos civil ≡ instant *ℤ pos 1000)
    × (key.date ≡ packed (unsigned_abs civil.date.year) civil.date.month civil.date.day)
    × (key.time ≡ packed civil.time.hour civil.time.minute civil.time.second)
    × (key.micros ≡ civil.time.subsec_nanosecond / 1000)

-- the instant is in the years 0 to 9999
abbrev pub HasYear : ℤ → Type 0
HasYear instant = IsBetween (neg_ℤ (pos 62_167_219_200_000_000)) (pos 253_402_300_799_999_999) instant
