-- The magnitude of a sequence of three phases; the share of a harmonic in the wave with one period in the window, or of the negative
-- sequence in the positive one. A power is the square of a magnitude: of a wave over n samples it is that of n / 2 times its amplitude, of a
-- sequence that of three times as much.
use Rattle.std.specs.Prelude.{ℕ, ◌*◌, Bool, ◌&&◌, ◌==◌, nat_le, List, take, length}
use Rattle.dfr_detect.specs.Phasors.{number, power_of, KeptWaves}
use Rattle.dfr_detect.specs.declared.sample.Sample.{Sample}
use Rattle.dfr_detect.specs.declared.turns.Shape.{Shape}
use Rattle.dfr_detect.specs.declared.settings.HarmonicTest.{HarmonicTest}
use Rattle.dfr_detect.specs.declared.settings.Sequence.{Sequence}
use Rattle.dfr_detect.specs.declared.settings.Sequence.TheVariants.{Positive, Negative, Zero}
use Rattle.dfr_detect.specs.declared.settings.WaveTest.{WaveTest}
use Rattle.dfr_detect.specs.declared.settings.WaveTest.TheVariants.{Harmonic, SequenceOver, SequenceUnder, Unbalance}

-- a wave, and how many thirds of a turn on phases B and C are looked at
abbrev pub shape_by : ℕ → ℕ → ℕ → Shape
shape_by order b c = record { order = order; b = b; c = c }

-- phases B and C turned back by as much as they lag in the sequence: a third and two thirds, two thirds and a third, or nothing
abbrev pub sequence_shape : Sequence → Shape
sequence_shape Positive = shape_by 1 2 1
sequence_shape Negative = shape_by 1 1 2
sequence_shape Zero = shape_by 1 0 0

-- the wave that is compared with a level, or of which another one is a share
abbrev pub first_shape : WaveTest → Shape
first_shape (Harmonic t) = shape_by 1 0 0
first_shape (SequenceOver s) = sequence_shape s
first_shape (SequenceUnder s) = sequence_shape s
first_shape (Unbalance least) = sequence_shape Positive

-- and the other one; a sequence is compared with no other
abbrev pub other_shape : WaveTest → Shape
other_shape (Harmonic t) = shape_by t.order 0 0
other_shape (SequenceOver s) = sequence_shape s
other_shape (SequenceUnder s) = sequence_shape s
other_shape (Unbalance least) = sequence_shape Negative

-- a wave has at least this rms value, or at most
abbrev pub at_least : ℕ → ℕ → ℕ → Bool
at_least n rms power = nat_le (n * n * (rms * rms)) (2 * power)

abbrev pub at_most : ℕ → ℕ → ℕ → Bool
at_most n rms power = nat_le (2 * power) (n * n * (rms * rms))

-- the other wave is at least so many thousandths of the first
abbrev pub is_share : ℕ → ℕ → ℕ → Bool
is_share level first other = nat_le (level * level * first) (1_000_000 * other)

abbrev pub compares : WaveTest → ℕ → ℕ → ℕ → ℕ → Bool
compares (Harmonic t) n level first other = at_least n t.least first && is_share level first other
compares (SequenceOver s) n level first other = at_least n (3 * level) first
compares (SequenceUnder s) n level first other = at_most n (3 * level) first
compares (Unbalance least) n level first other = at_least n (3 * least) first && is_share level first other

-- the powers of two waves meet the level
abbrev pub waves_compare : WaveTest → ℕ → KeptWaves → Bool
waves_compare t level w = compares t w.scans level (power_of w.scans w.first w.number w.samples) (power_of w.scans w.other w.number w.samples)

abbrev pub shares : ℕ → ℕ → KeptWaves → Bool
shares least level w =
    at_least w.scans least (power_of w.scans w.first w.number w.samples)
    && is_share level (power_of w.scans w.first w.number w.samples) (power_of w.scans w.other w.number w.samples)

-- the window is full, and its waves meet the level
abbrev pub meets_waves : WaveTest → ℕ → KeptWaves → Bool
meets_waves t level w = (length w.samples == w.scans) && waves_compare t level w

abbrev pub has_waves : WaveTest → ℕ → ℕ → List Sample → Bool
has_waves t n level samples =
    let last = take n samples in
    let k = number n samples in
    (length last == n) && compares t n level (power_of n (first_shape t) k last) (power_of n (other_shape t) k last)
