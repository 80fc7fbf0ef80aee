-- The reading of a channel, from a value of its stream and the quality.
use Rattle.std.specs.Prelude.{ℕ, ℤ, pos, ◌-ℤ◌, ◌+◌, ◌/◌, ◌==◌, bit_and, unsigned_abs, int_lt, nat_le, if◌then◌else◌, Option, Some, None, Result, Ok, Err}
use Rattle.dfr_bus.specs.declared.asdu.Sample.{Sample}
use Rattle.dfr_bay.specs.declared.channel.Channel.{Channel}
use Rattle.dfr_bay.specs.declared.channel.OutOfRange.{OutOfRange}
use Rattle.dfr_bay.specs.declared.channel.OutOfRange.TheVariants as range
use Rattle.dfr_bay.specs.declared.channel.Lost as lost
use Rattle.dfr_bay.specs.declared.channel.Lost.TheVariants.{Absent, Quality, Range}

-- so many units of the value are one of the reading: the nearest reading, halves away from zero
abbrev pub magnitude : ℤ → ℕ → ℕ
magnitude value divisor = (unsigned_abs value + divisor / 2) / divisor

-- with the sign of the value
abbrev pub signed : ℤ → ℕ → ℤ
signed value n = if int_lt value (pos 0) then pos 0 -ℤ pos n else pos n

-- what is out of range
abbrev pub beyond : OutOfRange → ℤ → Result ℤ lost.Lost
beyond range.Lost value = Err Range
beyond range.Clipped value = Ok (signed value 32_767)

-- the reading of a value: lost if its quality has a bit of the mask
abbrev pub reading_of : Channel → Sample → Result ℤ lost.Lost
reading_of c s =
    if bit_and s.quality c.mask == 0 then
    (if nat_le (magnitude s.value c.divisor) 32_767 then Ok (signed s.value (magnitude s.value c.divisor)) else beyond c.out_of_range s.value)
    else Err Quality

-- and of what may be absent
abbrev pub reading : Channel → Option Sample → Result ℤ lost.Lost
reading c None = Err Absent
reading c (Some s) = reading_of c s
