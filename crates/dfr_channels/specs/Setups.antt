-- Which set-ups are valid.
use Rattle.std.specs.Prelude.{◌≡◌, ℕ, ◌≤◌, ◌+◌, ℤ, pos, neg_ℤ, ◌≤ℤ◌, int_le, Bool, true, ◌&&◌, not, nat_le, Option, length, take, position, option_map}
use Rattle.std.specs.List.{list_all}
use Rattle.comtrade_values.specs.Faults.{◌or◌, fault_unless}
use Rattle.comtrade_values.specs.Texts.{is_name, is_phase, is_unit}
use Rattle.dfr_channels.specs.Parts.{AnalogParts, StatusParts, SetupParts}
use Rattle.dfr_channels.specs.declared.setup.Place.{Place}
use Rattle.dfr_channels.specs.declared.setup.Place.TheVariants.{Station, Device, Analog, Status}
use Rattle.dfr_channels.specs.declared.setup.SetupFault.{SetupFault}
use Rattle.dfr_channels.specs.declared.setup.SetupFault.TheVariants.{Text, Channels, Span, Rate, Start}

-- the end of the year 9999, in microseconds since 1970-01-01 00:00:00
abbrev pub end_of_time : ℕ
end_of_time = 253_402_300_799_999_999

unfoldable pub has_analog_texts : AnalogParts → Bool
has_analog_texts c = is_name c.id && is_phase c.phase && is_name c.component && is_unit c.unit

unfoldable pub has_status_texts : StatusParts → Bool
has_status_texts c = is_name c.id && is_phase c.phase && is_name c.component

-- the first place whose text breaks the rule; of each kind the first 256 channels are looked at
unfoldable pub place_fault : SetupParts → Option Place
place_fault s =
    fault_unless (is_name s.station) Station
    or (fault_unless (is_name s.device) Device
    or (option_map Analog (position (λ c. not (has_analog_texts c)) (take 256 s.analog))
    or option_map Status (position (λ c. not (has_status_texts c)) (take 256 s.status))))

-- at most 256 channels of a kind, and at least one in all
abbrev pub has_channels : ℕ → ℕ → Bool
has_channels analog status = nat_le analog 256 && nat_le status 256 && nat_le 1 (analog + status)

abbrev pub has_span : AnalogParts → Bool
has_span c = int_le (neg_ℤ (pos 32_767)) c.min && int_le c.min c.max && int_le c.max (pos 32_767)

-- 1 to 1,000,000 scans a second
abbrev pub has_rate : ℕ → Bool
has_rate rate = nat_le 1 rate && nat_le rate 1_000_000

-- from 1970 to the end of the year 9999
abbrev pub has_start : ℤ → Bool
has_start start = int_le (pos 0) start && int_le start (pos end_of_time)

abbrev pub clock_fault : ℕ → ℤ → Option SetupFault
clock_fault rate start = fault_unless (has_rate rate) Rate or fault_unless (has_start start) Start

-- the first fault of a set-up
unfoldable pub setup_fault : SetupParts → Option SetupFault
setup_fault s =
    option_map Text (place_fault s)
    or (fault_unless (has_channels (length s.analog) (length s.status)) Channels
    or (option_map Span (position (λ c. not (has_span c)) s.analog)
    or clock_fault s.rate s.start))

-- what a set-up without a fault has
pub record IsLawful (s : SetupParts) : Type 0 where
  pub station : is_name s.station ≡ true
  pub device : is_name s.device ≡ true
  pub analog_texts : list_all has_analog_texts s.analog ≡ true
  pub status_texts : list_all has_status_texts s.status ≡ true
  pub analog_few : length s.analog ≤ 256
  pub status_few : length s.status ≤ 256
  pub some : 1 ≤ length s.analog + length s.status
  pub spans : list_all has_span s.analog ≡ true
  pub rate_low : 1 ≤ s.rate
  pub rate_high : s.rate ≤ 1_000_000
  pub start_low : pos 0 ≤ℤ s.start
  pub start_high : s.start ≤ℤ pos end_of_time
