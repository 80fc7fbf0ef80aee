-- Which scans fit a layout, and when each was taken.
use Rattle.std.specs.Prelude.{◌≡◌, ℕ, ℤ, pos, ◌+ℤ◌, ◌+◌, ◌*◌, ◌/◌, ◌==◌, Bool, true, ◌&&◌, int_le, if◌then◌else◌, Option, Some, None, List, [], ◌∷◌, length, option_map}
use Rattle.comtrade_values.specs.Faults.{◌or◌, fault_unless}
use Rattle.dfr_channels.specs.Parts.{AnalogParts, SetupParts, ScanParts}
use Rattle.dfr_channels.specs.Setups.{end_of_time}
use Rattle.dfr_channels.specs.declared.scan.Reading.{Reading}
use Rattle.dfr_channels.specs.declared.scan.Reading.TheVariants.{Value, Missing}
use Rattle.dfr_channels.specs.declared.layout.ScanFault.{ScanFault}
use Rattle.dfr_channels.specs.declared.layout.ScanFault.TheVariants.{Shape, Range}

-- what a reading gives, if it is there
abbrev pub sample_in : Option Reading → Option ℤ
sample_in (Some (Value x)) = Some x
sample_in (Some Missing) = None
sample_in None = None

-- the microseconds from scan 0 to scan k, at this rate
abbrev pub micros : ℕ → ℕ → ℕ
micros rate k = k * 1_000_000 / rate

-- the time, where it isn't after the year 9999
abbrev pub within_time : ℤ → Option ℤ
within_time t = if int_le t (pos end_of_time) then Some t else None

-- the instant of scan k, in microseconds since 1970-01-01 00:00:00
abbrev pub instant_of : SetupParts → ℕ → Option ℤ
instant_of s k = within_time (s.start +ℤ pos (micros s.rate k))

-- a missing reading is always in range
abbrev pub is_within : AnalogParts → Reading → Bool
is_within c (Value x) = int_le c.min x && int_le x c.max
is_within c Missing = true

-- as many readings and bits as there are channels
abbrev pub has_shape : SetupParts → ScanParts → Bool
has_shape s scan = (length scan.analog == length s.analog) && (length scan.status == length s.status)

-- the lowest channel, counted from i, whose reading is out of its range
abbrev pub lowest_out : ℕ → List AnalogParts → List Reading → Option ℕ
lowest_out i [] readings = None
lowest_out i (channel ∷ channels) [] = None
lowest_out i (channel ∷ channels) (reading ∷ readings) =
    if is_within channel reading then lowest_out (i + 1) channels readings else Some i

-- why a scan doesn't fit
unfoldable pub scan_fault : SetupParts → ScanParts → Option ScanFault
scan_fault s scan = fault_unless (has_shape s scan) Shape or option_map Range (lowest_out 0 s.analog scan.analog)

-- what a scan that fits has
pub record Fits (s : SetupParts) (scan : ScanParts) : Type 0 where
  pub readings : length scan.analog ≡ length s.analog
  pub bits : length scan.status ≡ length s.status
  pub within : lowest_out 0 s.analog scan.analog ≡ None
