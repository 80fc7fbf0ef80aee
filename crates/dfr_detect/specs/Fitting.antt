-- Which settings a detector takes.
use Rattle.std.specs.Prelude.{ℕ, ◌*◌, ◌≤◌, ◌^◌, Bool, true, false, ◌&&◌, if◌then◌else◌, nat_le, Option, None}
use Rattle.comtrade_values.specs.Faults.{◌or◌, fault_unless}
use Rattle.dfr_detect.specs.declared.settings.Condition.{Condition}
use Rattle.dfr_detect.specs.declared.settings.Condition.TheVariants.{RmsOver, RmsUnder, Change, Jump, Frequency, Waves}
use Rattle.dfr_detect.specs.declared.settings.Settings.{Settings}
use Rattle.dfr_detect.specs.declared.settings.SettingsFault.{SettingsFault}
use Rattle.dfr_detect.specs.declared.settings.SettingsFault.TheVariants.{Scans, Cycles, Rate, Period, Order, Least, Level, Reset, Short, Row}
use Rattle.dfr_detect.specs.declared.settings.FrequencyIs.{FrequencyIs}
use Rattle.dfr_detect.specs.declared.settings.FrequencyIs.TheVariants.{Over, Under, Changing}
use Rattle.dfr_detect.specs.declared.settings.FrequencyTest.{FrequencyTest}
use Rattle.dfr_detect.specs.declared.settings.HarmonicTest.{HarmonicTest}
use Rattle.dfr_detect.specs.declared.settings.Sequence.{Sequence}
use Rattle.dfr_detect.specs.declared.settings.WaveTest.{WaveTest}
use Rattle.dfr_detect.specs.declared.settings.WaveTest.TheVariants.{Harmonic, SequenceOver, SequenceUnder, Unbalance}

-- a rate of change of the frequency is at most 2^31 mHz a second
abbrev pub most_of : FrequencyIs → ℕ
most_of Over = 1_099_511_627_776
most_of Under = 1_099_511_627_776
most_of Changing = 2_147_483_648

-- a share is at most the whole
abbrev pub most_share : WaveTest → ℕ
most_share (Harmonic t) = 1000
most_share (SequenceOver s) = 1_099_511_627_776
most_share (SequenceUnder s) = 1_099_511_627_776
most_share (Unbalance least) = 1000

-- a level is at most 2^40, which is twice the largest sum of 256 samples
abbrev pub most_level : Condition → ℕ
most_level RmsOver = 1_099_511_627_776
most_level RmsUnder = 1_099_511_627_776
most_level Change = 1_099_511_627_776
most_level Jump = 1_099_511_627_776
most_level (Frequency t) = most_of t.test
most_level (Waves t) = most_share t

abbrev pub is_level : ℕ → ℕ → Bool
is_level most level = nat_le 1 level && nat_le level most

-- the condition is met at or below the level
abbrev pub is_slow_test : FrequencyIs → Bool
is_slow_test Over = false
is_slow_test Under = true
is_slow_test Changing = false

abbrev pub is_low_test : WaveTest → Bool
is_low_test (Harmonic t) = false
is_low_test (SequenceOver s) = false
is_low_test (SequenceUnder s) = true
is_low_test (Unbalance least) = false

abbrev pub is_under : Condition → Bool
is_under RmsOver = false
is_under RmsUnder = true
is_under Change = false
is_under Jump = false
is_under (Frequency t) = is_slow_test t.test
is_under (Waves t) = is_low_test t

-- the reset level does not lie beyond the level
abbrev pub has_reset : Condition → ℕ → ℕ → Bool
has_reset condition level reset = if is_under condition then nat_le level reset else nat_le reset level

-- the cycles lie in n scans if the frequency is the level; those of a rate of change may be as short as two scans
abbrev pub lies_in : FrequencyIs → FrequencyTest → ℕ → ℕ → Bool
lies_in Over t n level = nat_le (1000 * t.rate * t.cycles) (n * level)
lies_in Under t n level = nat_le (1000 * t.rate * t.cycles) (n * level)
lies_in Changing t n level = nat_le (4 * t.cycles) n

-- at the level and at the reset level
abbrev pub has_cycles : Condition → ℕ → ℕ → ℕ → Bool
has_cycles RmsOver n level reset = true
has_cycles RmsUnder n level reset = true
has_cycles Change n level reset = true
has_cycles Jump n level reset = true
has_cycles (Frequency t) n level reset = lies_in t.test t n level && lies_in t.test t n reset
has_cycles (Waves t) n level reset = true

-- the first fault of a test of the frequency
abbrev pub test_fault : FrequencyTest → Option SettingsFault
test_fault t =
    fault_unless (nat_le 1 t.cycles && nat_le t.cycles 64) Cycles
    or fault_unless (nat_le 1 t.rate && nat_le t.rate 1_000_000) Rate
    or fault_unless (is_level 1_099_511_627_776 t.least) Least

-- the least rms value of a wave of which a share is taken
abbrev pub least_of : WaveTest → ℕ
least_of (Harmonic t) = t.least
least_of (SequenceOver s) = 1
least_of (SequenceUnder s) = 1
least_of (Unbalance least) = least

abbrev pub has_order : WaveTest → Bool
has_order (Harmonic t) = nat_le 2 t.order && nat_le t.order 5
has_order (SequenceOver s) = true
has_order (SequenceUnder s) = true
has_order (Unbalance least) = true

-- of a test of waves with a period of n scans
abbrev pub wave_fault : WaveTest → ℕ → Option SettingsFault
wave_fault t n =
    fault_unless (nat_le 12 n && nat_le n 4096) Period
    or fault_unless (has_order t) Order
    or fault_unless (is_level 1_099_511_627_776 (least_of t)) Least

-- and of a condition over n scans
abbrev pub condition_fault : Condition → ℕ → Option SettingsFault
condition_fault RmsOver n = None
condition_fault RmsUnder n = None
condition_fault Change n = None
condition_fault Jump n = None
condition_fault (Frequency t) n = test_fault t
condition_fault (Waves t) n = wave_fault t n

-- the first fault
abbrev pub settings_fault : Settings → Option SettingsFault
settings_fault s =
    fault_unless (nat_le 1 s.scans && nat_le s.scans 65_536) Scans
    or condition_fault s.condition s.scans
    or fault_unless (is_level (most_level s.condition) s.level) Level
    or fault_unless (is_level (most_level s.condition) s.reset && has_reset s.condition s.level s.reset) Reset
    or fault_unless (has_cycles s.condition s.scans s.level s.reset) Short
    or fault_unless (nat_le 1 s.row) Row

-- what a test of the frequency without a fault has
pub record FitsTest (t : FrequencyTest) : Type 0 where
  pub few : t.cycles ≤ 64
  pub rate : t.rate ≤ 1_000_000

-- and a test of waves
pub record FitsWaves (t : WaveTest) (n : ℕ) : Type 0 where
  pub some : 12 ≤ n
  pub few : n ≤ 2 ^ 12
  pub least : least_of t ≤ 2 ^ 40

abbrev pub FitsCondition : Condition → ℕ → Type 0
FitsCondition RmsOver n = Unit {0}
FitsCondition RmsUnder n = Unit {0}
FitsCondition Change n = Unit {0}
FitsCondition Jump n = Unit {0}
FitsCondition (Frequency t) n = FitsTest t
FitsCondition (Waves t) n = FitsWaves t n

-- what settings without a fault have
pub record Fits (s : Settings) : Type 0 where
  pub some : 1 ≤ s.scans
  pub few : s.scans ≤ 2 ^ 16
  pub condition : FitsCondition s.condition s.scans
  pub level : s.level ≤ most_level s.condition
  pub reset : s.reset ≤ most_level s.condition
  pub row : 1 ≤ s.row
