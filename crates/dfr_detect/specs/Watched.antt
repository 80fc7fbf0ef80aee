-- When a detector's bit is 1.
use Rattle.std.specs.Prelude.{◌≡◌, ◌≤◌, ℕ, ℤ, min, ◌+◌, Bool, false, ◌&&◌, ◌||◌, if◌then◌else◌, nat_le, List, [], ◌∷◌, take, length, Option}
use Rattle.dfr_detect.specs.Windows.{since_gap, alone, window}
use Rattle.dfr_detect.specs.Paces.{Pace, paced, no_pace, pace_after, pace_gone, pace_meets}
use Rattle.dfr_detect.specs.Phasors.{KeptWaves, waves, waves_by, waves_after, waves_gone}
use Rattle.dfr_detect.specs.Shares.{shape_by, first_shape, other_shape, meets_waves}
use Rattle.dfr_detect.specs.Levels.{span, holds, is_met}
use Rattle.dfr_detect.specs.declared.sample.Sample.{Sample}
use Rattle.dfr_detect.specs.Fitting.{Fits}
use Rattle.dfr_detect.specs.declared.settings.Condition.{Condition}
use Rattle.dfr_detect.specs.declared.settings.Condition.TheVariants.{RmsOver, RmsUnder, Change, Jump, Frequency, Waves}
use Rattle.dfr_detect.specs.declared.settings.Settings.{Settings}

-- at how many scans in a row, up to the newest, the level is met
abbrev pub in_row : Settings → List (Option Sample) → ℕ
in_row s [] = 0
in_row s (now ∷ past) = if holds s.condition s.scans s.level (now ∷ past) then in_row s past + 1 else 0

-- the bit of the newest scan: the level is met for as many scans in a row as are asked; or the bit before is 1, and the reset level is met
abbrev pub bit : Settings → List (Option Sample) → Bool
bit s [] = false
bit s (now ∷ past) = nat_le s.row (in_row s (now ∷ past)) || (bit s past && holds s.condition s.scans s.reset (now ∷ past))

-- what a detector keeps of a history: the last samples since the last gap, the newest first; what tests of the frequency and of waves keep of
-- them; at how many scans in a row the level is met, up to as many as are asked; the bit
pub record Kept : Type 0 where
  pub settings : Settings
  pub samples : List ℤ
  pub pace : Pace
  pub waves : KeptWaves
  pub row : ℕ
  pub on : Bool

-- what is kept, by its parts
abbrev pub kept_by : Settings → List ℤ → Pace → KeptWaves → ℕ → Bool → Kept
kept_by settings samples pace waves row on = record { settings = settings; samples = samples; pace = pace; waves = waves; row = row; on = on }

-- what a condition over n scans keeps of the cycles
abbrev pub pace_of : Condition → ℕ → List ℤ → Pace
pace_of RmsOver n samples = no_pace 0 1 0 0
pace_of RmsUnder n samples = no_pace 0 1 0 0
pace_of Change n samples = no_pace 0 1 0 0
pace_of Jump n samples = no_pace 0 1 0 0
pace_of (Frequency t) n samples = paced t n samples
pace_of (Waves t) n samples = no_pace 0 1 0 0

-- and of the waves
abbrev pub no_waves : KeptWaves
no_waves = waves_by 1 (shape_by 1 0 0) (shape_by 1 0 0) [] 0

abbrev pub waves_of : Condition → ℕ → List Sample → KeptWaves
waves_of RmsOver n samples = no_waves
waves_of RmsUnder n samples = no_waves
waves_of Change n samples = no_waves
waves_of Jump n samples = no_waves
waves_of (Frequency t) n samples = no_waves
waves_of (Waves t) n samples = waves n (first_shape t) (other_shape t) samples

abbrev pub kept : Settings → List (Option Sample) → Kept
kept s past =
    kept_by s (window (span s.condition s.scans) past) (pace_of s.condition s.scans (alone (since_gap past)))
    (waves_of s.condition s.scans (since_gap past)) (min s.row (in_row s past)) (bit s past)

-- for every history of which `old` is kept, the bit is that of the next scan, and `new` is kept after it
abbrev pub IsStep : Kept → Option Sample → Bool → Kept → Type 0
IsStep old sample b new = (s : Settings) (past : List (Option Sample)) → kept s past ≡ old → (bit s (sample ∷ past) ≡ b) × (kept s (sample ∷ past) ≡ new)

-- the settings are without a fault, the window has as many places as the condition looks at, and the row is not longer than asked
pub record IsSound (s : Settings) (samples : List ℤ) (places row : ℕ) : Type 0 where
  pub fits : Fits s
  pub wide : places ≡ span s.condition s.scans
  pub few : length samples ≤ places
  pub short : row ≤ s.row

-- what is kept of the cycles after a sample more
abbrev pub next_pace : Condition → Pace → ℤ → Pace
next_pace RmsOver pace x = pace
next_pace RmsUnder pace x = pace
next_pace Change pace x = pace
next_pace Jump pace x = pace
next_pace (Frequency t) pace x = pace_after pace x
next_pace (Waves t) pace x = pace

-- and of the waves
abbrev pub next_waves : Condition → KeptWaves → Sample → KeptWaves
next_waves RmsOver w x = w
next_waves RmsUnder w x = w
next_waves Change w x = w
next_waves Jump w x = w
next_waves (Frequency t) w x = w
next_waves (Waves t) w x = waves_after w x

-- what is kept meets a level
abbrev pub met_by : Condition → ℕ → ℕ → List ℤ → Pace → KeptWaves → Bool
met_by RmsOver n level samples pace w = is_met RmsOver n level samples
met_by RmsUnder n level samples pace w = is_met RmsUnder n level samples
met_by Change n level samples pace w = is_met Change n level samples
met_by Jump n level samples pace w = is_met Jump n level samples
met_by (Frequency t) n level samples pace w = pace_meets t level pace
met_by (Waves t) n level samples pace w = meets_waves t level w

-- what a call keeps of what is kept and a sample more
abbrev pub after_sample : Kept → Sample → Kept
after_sample k x =
    let condition = k.settings.condition in
    let n = k.settings.scans in
    let samples = take (span condition n) (x.a ∷ k.samples) in
    let pace = next_pace condition k.pace x.a in
    let w = next_waves condition k.waves x in
    let row = if met_by condition n k.settings.level samples pace w then min k.settings.row (k.row + 1) else 0 in
    kept_by k.settings samples pace w row (nat_le k.settings.row row || (k.on && met_by condition n k.settings.reset samples pace w))

-- and of a scan without a sample
abbrev pub after_gap : Kept → Kept
after_gap k = kept_by k.settings [] (pace_gone k.pace) (waves_gone k.waves) 0 false
