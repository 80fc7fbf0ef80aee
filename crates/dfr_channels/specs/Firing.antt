-- When a rule fires.
use Rattle.std.specs.Prelude.{ℕ, ℤ, Bool, false, not, ◌&&◌, if◌then◌else◌, nat_lt, nat_le, int_le, List, length, slice_get, position, option_map, option_and_then, Option, Some, None}
use Rattle.std.specs.List.{list_all}
use Rattle.comtrade_values.specs.Faults.{◌or◌, fault_unless}
use Rattle.dfr_channels.specs.Parts.{SetupParts, ScanParts}
use Rattle.dfr_channels.specs.declared.scan.Reading.{Reading}
use Rattle.dfr_channels.specs.declared.scan.Reading.TheVariants.{Value, Missing}
use Rattle.dfr_channels.specs.declared.rule.Rule.{Rule}
use Rattle.dfr_channels.specs.declared.rule.Rule.TheVariants.{Level, Edge}
use Rattle.dfr_channels.specs.declared.rules.RuleFault.{RuleFault}
use Rattle.dfr_channels.specs.declared.rules.RuleFault.TheVariants.{TooMany, NoChannel}

-- a present reading that is at least, or at most, the threshold
abbrev pub is_beyond : Bool → ℤ → Option Reading → Bool
is_beyond over threshold (Some (Value x)) = if over then int_le threshold x else int_le x threshold
is_beyond over threshold (Some Missing) = false
is_beyond over threshold None = false

-- the bit changed, to 1 for a rise and to 0 for a fall
abbrev pub has_changed : Bool → Option Bool → Option Bool → Bool
has_changed rise (Some before) (Some now) = if rise then (not before && now) else (before && not now)
has_changed rise (Some before) None = false
has_changed rise None now = false

-- a channel's bit in the scan before, where there is one
abbrev pub bit_before : Option ScanParts → ℕ → Option Bool
bit_before before channel = option_and_then (λ scan. slice_get scan.status channel) before

-- a rule holds at a scan, after the scan before it
unfoldable pub holds : Option ScanParts → ScanParts → Rule → Bool
holds before now (Level channel over threshold) = is_beyond over threshold (slice_get now.analog channel)
holds before now (Edge channel rise) = has_changed rise (bit_before before channel) (slice_get now.status channel)

-- the lowest rule that holds
unfoldable pub lowest_holding : Option ScanParts → ScanParts → List Rule → Option ℕ
lowest_holding before now rules = position (holds before now) rules

-- a level rule names one of so many readings, an edge rule one of so many bits
abbrev pub names_one_of : ℕ → ℕ → Rule → Bool
names_one_of readings bits (Level channel over threshold) = nat_lt channel readings
names_one_of readings bits (Edge channel rise) = nat_lt channel bits

-- a rule names a channel of its kind in the layout
unfoldable pub names_channel : SetupParts → Rule → Bool
names_channel s rule = names_one_of (length s.analog) (length s.status) rule

-- each rule does
unfoldable pub rules_fit : SetupParts → List Rule → Bool
rules_fit s rules = list_all (names_channel s) rules

-- the first fault of a list of rules
unfoldable pub rules_fault : SetupParts → List Rule → Option RuleFault
rules_fault s rules =
    fault_unless (nat_le (length rules) 32) TooMany or option_map NoChannel (position (λ rule. not (names_channel s rule)) rules)
