-- The signal of a detector: the sum of the samples of some channels, or the samples of three phases, scan after scan.
use Rattle.std.specs.Prelude.{ℕ, ℤ, pos, ◌+ℤ◌, Bool, true, false, if◌then◌else◌, List, [], ◌∷◌, map, slice_get, Option, Some, None}
use Rattle.dfr_channels.specs.Scans.{sample_in}
use Rattle.dfr_channels.specs.declared.scan.Reading.{Reading}
use Rattle.dfr_detect.specs.declared.sample.Sample.{Sample}
use Rattle.dfr_detect.specs.declared.settings.WaveTest.{WaveTest}
use Rattle.dfr_detect.specs.declared.settings.WaveTest.TheVariants.{Harmonic, SequenceOver, SequenceUnder, Unbalance}
use Rattle.dfr_detect.specs.declared.settings.Condition.{Condition}
use Rattle.dfr_detect.specs.declared.settings.Condition.TheVariants.{RmsOver, RmsUnder, Change, Jump, Frequency, Waves}

-- the sum of two samples, if both are there
abbrev pub plus : Option ℤ → Option ℤ → Option ℤ
plus (Some x) (Some y) = Some (x +ℤ y)
plus (Some x) None = None
plus None y = None

-- the sum of the samples of these channels in a scan, if each of them has one
abbrev pub sum_of : List ℕ → List Reading → Option ℤ
sum_of [] readings = Some (pos 0)
sum_of (channel ∷ channels) readings = plus (sample_in (slice_get readings channel)) (sum_of channels readings)

-- the sample of one signal
abbrev pub one : Option ℤ → Option Sample
one (Some x) = Some (record { a = x; b = pos 0; c = pos 0 })
one None = None

-- the samples of three phases, if each of them has one
abbrev pub three : Option ℤ → Option ℤ → Option ℤ → Option Sample
three (Some a) (Some b) (Some c) = Some (record { a = a; b = b; c = c })
three (Some a) (Some b) None = None
three (Some a) None c = None
three None b c = None

-- the sample of the channel at this place of the list
abbrev pub phase : List ℕ → List Reading → ℕ → Option ℤ
phase channels readings place = elim (slice_get channels place) [ Some channel ↦ sample_in (slice_get readings channel) | None ↦ None ]

-- sequences are those of the first three channels
abbrev pub are_sequences : WaveTest → Bool
are_sequences (Harmonic t) = false
are_sequences (SequenceOver s) = true
are_sequences (SequenceUnder s) = true
are_sequences (Unbalance least) = true

abbrev pub has_phases : Condition → Bool
has_phases RmsOver = false
has_phases RmsUnder = false
has_phases Change = false
has_phases Jump = false
has_phases (Frequency t) = false
has_phases (Waves t) = are_sequences t

-- what a scan gives
abbrev pub sample_of : Condition → List ℕ → List Reading → Option Sample
sample_of condition channels readings =
    if has_phases condition then three (phase channels readings 0) (phase channels readings 1) (phase channels readings 2) else one (sum_of channels readings)

-- what each scan of a history gives, the newest first
abbrev pub signal : Condition → List ℕ → List (List Reading) → List (Option Sample)
signal condition channels scans = map (sample_of condition channels) scans
