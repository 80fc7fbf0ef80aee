-- What a detector of a set-up tests.
use Rattle.std.specs.Prelude.{ℕ, Bool, true, false}
use Rattle.dfr_detect.specs.declared.settings.Condition.{Condition}
use Rattle.dfr_detect.specs.declared.settings.Condition.TheVariants as condition
use Rattle.dfr_detect.specs.declared.settings.WaveTest.TheVariants as wave
use Rattle.dfr_detect.specs.declared.settings.FrequencyIs.{FrequencyIs}
use Rattle.dfr_detect.specs.declared.settings.FrequencyIs.TheVariants.{Over, Under, Changing}
use Rattle.dfr_setup.specs.declared.tested.Test.{Test}
use Rattle.dfr_setup.specs.declared.tested.Test.TheVariants.{RmsOver, RmsUnder, Change, Jump, FrequencyOver, FrequencyUnder, FrequencyChange, Harmonic, SequenceOver, SequenceUnder, Unbalance}

-- the level is one of a frequency
abbrev pub is_frequency : Test → Bool
is_frequency RmsOver = false
is_frequency RmsUnder = false
is_frequency Change = false
is_frequency Jump = false
is_frequency FrequencyOver = true
is_frequency FrequencyUnder = true
is_frequency FrequencyChange = true
is_frequency (Harmonic order) = false
is_frequency (SequenceOver s) = false
is_frequency (SequenceUnder s) = false
is_frequency Unbalance = false

-- the level is a share, in percent
abbrev pub is_share : Test → Bool
is_share RmsOver = false
is_share RmsUnder = false
is_share Change = false
is_share Jump = false
is_share FrequencyOver = false
is_share FrequencyUnder = false
is_share FrequencyChange = false
is_share (Harmonic order) = true
is_share (SequenceOver s) = false
is_share (SequenceUnder s) = false
is_share Unbalance = true

-- the test is one of three phases
abbrev pub has_phases : Test → Bool
has_phases RmsOver = false
has_phases RmsUnder = false
has_phases Change = false
has_phases Jump = false
has_phases FrequencyOver = false
has_phases FrequencyUnder = false
has_phases FrequencyChange = false
has_phases (Harmonic order) = false
has_phases (SequenceOver s) = true
has_phases (SequenceUnder s) = true
has_phases Unbalance = true

abbrev pub frequency : FrequencyIs → ℕ → ℕ → ℕ → Condition
frequency test cycles rate least = condition.Frequency (record { test = test; cycles = cycles; rate = rate; least = least })

-- what is compared with the level; a frequency over so many cycles, at so many scans a second, after half waves at least so deep; a share
-- of a wave whose rms value is at least so large
abbrev pub condition_of : Test → ℕ → ℕ → ℕ → Condition
condition_of RmsOver cycles rate least = condition.RmsOver
condition_of RmsUnder cycles rate least = condition.RmsUnder
condition_of Change cycles rate least = condition.Change
condition_of Jump cycles rate least = condition.Jump
condition_of FrequencyOver cycles rate least = frequency Over cycles rate least
condition_of FrequencyUnder cycles rate least = frequency Under cycles rate least
condition_of FrequencyChange cycles rate least = frequency Changing cycles rate least
condition_of (Harmonic order) cycles rate least = condition.Waves (wave.Harmonic (record { order = order; least = least }))
condition_of (SequenceOver s) cycles rate least = condition.Waves (wave.SequenceOver s)
condition_of (SequenceUnder s) cycles rate least = condition.Waves (wave.SequenceUnder s)
condition_of Unbalance cycles rate least = condition.Waves (wave.Unbalance least)
