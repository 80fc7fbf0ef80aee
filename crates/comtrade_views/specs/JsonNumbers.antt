-- Numbers as JSON writes them.
use Rattle.std.specs.Prelude.{◌≡◌, ◌≢◌, ℤ, pos, neg_ℤ, int_lt, if◌then◌else◌}
use Rattle.comtrade_values.specs.Spelling.{Number}
use Rattle.comtrade_values.specs.Arithmetic.{IsTrimmed, number_of}
use Rattle.comtrade_format.specs.Floats.{IsNearest}
use Rattle.comtrade_views.specs.Texts.{micros}
use Rattle.comtrade_views.specs.declared.json_number.JsonNumber.{JsonNumber}
use Rattle.comtrade_views.specs.declared.json_number.JsonNumber.TheVariants.{Whole, Float}

-- a whole number has all its digits; one with places that don't end in 0 is the nearest float
abbrev pub Spells : Number → Number → JsonNumber → Type 0
Spells n shown (Whole units) = (shown.places ≡ 0) × (units ≡ shown.units)
Spells n shown (Float x) = (shown.places ≢ 0) × IsNearest n x

pub record IsNumberOf (n : Number) (json : JsonNumber) : Type 0 where
  pub shown : Number
  pub trimmed : IsTrimmed n shown
  pub spells : Spells n shown json

-- nanoseconds as microseconds, to the nearest, halves away from zero
abbrev pub signed_micros : ℤ → ℤ
signed_micros nanos = if int_lt nanos (pos 0) then neg_ℤ (pos (micros nanos)) else pos (micros nanos)

-- nanoseconds in milliseconds, to the nearest microsecond
abbrev pub AreMillis : ℤ → JsonNumber → Type 0
AreMillis nanos = IsNumberOf (number_of (signed_micros nanos) 3)
