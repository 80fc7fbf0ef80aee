-- When the rows of a data file were taken, in nanoseconds since the first row.
use Rattle.std.specs.Prelude.{⊤, ℕ, ◌+◌, ◌-◌, ◌*◌, ◌/◌, ◌^◌, ◌<◌, ◌==◌, ◌&&◌, Bool, true, not, nat_lt, List, [], ◌∷◌, Option, Some, None, option_and_then, ℤ, pos, negsuc, if◌then◌else◌}
use Rattle.std.specs.Borrow.{Bor}
use Rattle.std.specs.Int.RustNames.{int_lt}
use Rattle.comtrade_values.specs.Spelling.{Number}
use Rattle.comtrade_format.specs.Parts.{HeadParts}
use Rattle.comtrade_format.specs.declared.file.Rate.{Rate}
use Rattle.comtrade_format.specs.declared.values.border.Border.{Border}
use Rattle.comtrade_format.specs.declared.values.border.Border.TheVariants.{Old, New}
use Rattle.comtrade_format.specs.declared.values.clock.Clock.{Clock}
use Rattle.comtrade_format.specs.declared.values.clock.Paces.{Paces}

-- a time that has 128 bits
abbrev pub short : ℕ → Option ℕ
short n = if nat_lt n (2 ^ 128) then Some n else None

abbrev pub product : ℕ → ℕ → Option ℕ
product x y = short (x * y)

-- rounded down
abbrev pub quotient : ℕ → ℕ → Option ℕ
quotient x y = if y == 0 then None else Some (x / y)

-- a number of units that isn't negative
abbrev pub size : ℤ → Option ℕ
size (pos n) = Some n
size (negsuc n) = None

-- so many rows at a rate, whose units a second are units / 10^places, last rows * 10^(places + 9) / units nanoseconds
abbrev pub span : Number → ℕ → Option ℕ
span rate rows = option_and_then (λ units. if nat_lt 29 rate.places then None
    else option_and_then (λ nanos. quotient nanos units) (product rows (10 ^ (rate.places + 9)))) (size rate.units)

-- a stamp counts in microseconds times the multiplier
abbrev pub stamp_time : Number → ℕ → Option ℕ
stamp_time timemult stamp = option_and_then (λ units. if nat_lt 38 timemult.places then None
    else option_and_then (λ micros. option_and_then (λ nanos. quotient nanos (10 ^ timemult.places)) (product micros 1000))
    (product stamp units)) (size timemult.units)

-- one time after another
abbrev pub together : Option ℕ → Option ℕ → Option ℕ
together x y = option_and_then (λ m. option_and_then (λ n. short (m + n)) y) x

-- the row from which the rows of the next rate are counted: the first of them, an interval of the old rate after the last of that
-- rate, or that last row, so that the interval between both is the new rate's
abbrev pub counted_from : Border → ℕ → ℕ
counted_from Old endsamp = endsamp
counted_from New endsamp = endsamp - 1

-- a row, by the rates that the rows from this one on have, the first of which was taken then: the rows before it, rate by rate
abbrev pub since : Border → List Rate → Option ℕ → ℕ → ℕ → Option ℕ
since border [] begun from row = None
since border (rate ∷ more) begun from row =
    if nat_lt row rate.endsamp then together begun (span rate.samp (row - from))
    else since border more (together begun (span rate.samp (counted_from border rate.endsamp - from))) (counted_from border rate.endsamp) row

-- a rate says when its rows were taken
abbrev pub is_rate : Rate → Bool
is_rate rate = int_lt (pos 0) rate.samp.units

abbrev pub are_rates : List Rate → Bool
are_rates [] = true
are_rates (rate ∷ more) = is_rate rate && are_rates more

-- the rates give the times: the file has some and none is 0
abbrev pub rates_decide : HeadParts → Bool
rates_decide head = not (head.nrates == 0) && are_rates head.rates

-- a row with a stamp or without one: by the rates where they decide, else by its stamp
abbrev pub time_with : Border → HeadParts → ℕ → Option ℕ → Option ℕ
time_with border head row stamp = if rates_decide head then since border head.rates (Some 0) 0 row
    else option_and_then (stamp_time head.timemult) stamp

-- the same where the old rate gives the interval to the first row of the next
abbrev pub time_of : HeadParts → ℕ → Option ℕ → Option ℕ
time_of head row stamp = time_with Old head row stamp

-- the same, by the rates that are left, and by a clock
abbrev pub since_by : Paces → ℕ → Option ℕ
since_by paces row = since paces.border paces.rates.now paces.begun paces.from row

abbrev pub time_by : Clock → ℕ → Option ℕ → Option ℕ
time_by clock row stamp = if clock.has_rates then since_by clock.paces row else option_and_then (stamp_time clock.timemult) stamp

-- the rates after the first one
abbrev pub after : Paces → Rate → Bor (List Rate) → Paces
after paces rate more = record {
  border = paces.border;
  rates = more;
  begun = together paces.begun (span rate.samp (counted_from paces.border rate.endsamp - paces.from));
  from = counted_from paces.border rate.endsamp;
}

-- the first rate is the row's, or there is none
abbrev pub IsFirst : ℕ → List Rate → Type 0
IsFirst row [] = ⊤
IsFirst row (rate ∷ more) = row < rate.endsamp
