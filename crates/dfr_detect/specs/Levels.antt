-- When a signal meets a level.
use Rattle.std.specs.Prelude.{ℕ, ℤ, ◌+◌, ◌*◌, ◌-ℤ◌, unsigned_abs, Bool, false, ◌&&◌, ◌==◌, nat_le, List, length, Option}
use Rattle.dfr_detect.specs.Windows.{since_gap, alone, window, ago, sum_of_squares}
use Rattle.dfr_detect.specs.Crossings.{crossings, has_frequency}
use Rattle.dfr_detect.specs.Shares.{has_waves}
use Rattle.dfr_detect.specs.declared.sample.Sample.{Sample}
use Rattle.dfr_detect.specs.declared.settings.Condition.{Condition}
use Rattle.dfr_detect.specs.declared.settings.Condition.TheVariants.{RmsOver, RmsUnder, Change, Jump, Frequency, Waves}

-- how many samples a condition over n scans looks at, if it looks at all of them
abbrev pub span : Condition → ℕ → ℕ
span RmsOver n = n
span RmsUnder n = n
span Change n = n + 1
span Jump n = 2 * n + 1
span (Frequency t) n = 0
span (Waves t) n = 0

-- the change over n scans, up to the sample `end` scans before the newest
abbrev pub change : ℕ → ℕ → List ℤ → ℤ
change n end samples = ago end samples -ℤ ago (end + n) samples

-- these samples, the newest first and as many as the condition looks at, meet the level: their rms value is at least the level, or at most;
-- the change over n scans is at least the level; it differs by at least the level from the change over the n scans before
abbrev pub meets : Condition → ℕ → ℕ → List ℤ → Bool
meets RmsOver n level samples = nat_le (n * (level * level)) (sum_of_squares samples)
meets RmsUnder n level samples = nat_le (sum_of_squares samples) (n * (level * level))
meets Change n level samples = nat_le level (unsigned_abs (change n 0 samples))
meets Jump n level samples = nat_le level (unsigned_abs (change n 0 samples -ℤ change n n samples))
meets (Frequency t) n level samples = false
meets (Waves t) n level samples = false

-- there are as many samples as the condition looks at, and they meet the level
abbrev pub is_met : Condition → ℕ → ℕ → List ℤ → Bool
is_met condition n level samples = (length samples == span condition n) && meets condition n level samples

-- at the newest scan of a history the level is met, by the samples since the last gap
abbrev pub holds : Condition → ℕ → ℕ → List (Option Sample) → Bool
holds RmsOver n level past = is_met RmsOver n level (window n past)
holds RmsUnder n level past = is_met RmsUnder n level (window n past)
holds Change n level past = is_met Change n level (window (n + 1) past)
holds Jump n level past = is_met Jump n level (window (2 * n + 1) past)
holds (Frequency t) n level past = has_frequency t n level (crossings t.least (alone (since_gap past)))
holds (Waves t) n level past = has_waves t n level (since_gap past)
