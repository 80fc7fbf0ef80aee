-- The channels of a detector's sum.
use Rattle.std.specs.Prelude.{ℕ, ◌+◌, ◌==◌, max, Bool, true, false, ◌||◌, nat_lt, if◌then◌else◌, List, [], ◌∷◌, ◌++◌, length, position, slice_get, Option, Some, None, Result, Ok, Err, unsigned_abs}
use Rattle.std.specs.Str.{bytes_eq}
use Rattle.comtrade_values.specs.Faults.{◌or◌, fault_unless}
use Rattle.comtrade_values.specs.Spelling.{Number, is_same}
use Rattle.dfr_channels.specs.LineFields.{and_then, need}
use Rattle.dfr_channels.specs.Parts.{AnalogParts}
use Rattle.dfr_setup.specs.declared.tested.Test.{Test}
use Rattle.dfr_setup.specs.declared.tested.Test.TheVariants.{RmsOver, RmsUnder, Change, Jump, FrequencyOver, FrequencyUnder, FrequencyChange, Harmonic, SequenceOver, SequenceUnder, Unbalance}
use Rattle.dfr_setup.specs.Refusing.{unless}
use Rattle.dfr_setup.specs.Wishes.{natural}
use Rattle.dfr_setup.specs.declared.fault.DetectorFault.{DetectorFault}
use Rattle.dfr_setup.specs.declared.fault.DetectorFault.TheVariants as fault

-- the channel of this number, from 0, if there are so many
abbrev pub by_number : ℕ → ℕ → Option ℕ
by_number count n = if nat_lt n count then Some n else None

-- the first channel with this id
abbrev pub by_id : List AnalogParts → List ℕ → Option ℕ
by_id cs word = if length word == 0 then None else position (λ c. bytes_eq c.id word) cs

abbrev pub named_by : Option ℕ → List AnalogParts → List ℕ → Option ℕ
named_by (Some n) cs word = by_number (length cs) n
named_by None cs word = by_id cs word

-- the channel that a word names: by its number, from 0, or else the first with that id
abbrev pub channel_of : List AnalogParts → List ℕ → Option ℕ
channel_of cs word = named_by (natural word) cs word

-- a sum of channels: their numbers, the multiplier of all, if there is one, and the greatest size of a sum
pub record SumParts : Type 0 where
  pub channels : List ℕ
  pub a : Option Number
  pub most : ℕ

abbrev pub no_sum : SumParts
no_sum = record { channels = []; a = None; most = 0 }

-- an offset changes an rms value, moves crossings of 0 and is no part of a wave, but leaves a change as it is
abbrev pub takes_offset : Test → Bool
takes_offset RmsOver = false
takes_offset RmsUnder = false
takes_offset Change = true
takes_offset Jump = true
takes_offset FrequencyOver = false
takes_offset FrequencyUnder = false
takes_offset FrequencyChange = false
takes_offset (Harmonic order) = false
takes_offset (SequenceOver s) = false
takes_offset (SequenceUnder s) = false
takes_offset Unbalance = false

-- the largest size of a sample
abbrev pub largest : AnalogParts → ℕ
largest c = max (unsigned_abs c.min) (unsigned_abs c.max)

-- the multiplier so far, if there is one, is this one too
abbrev pub has_multiplier : Option Number → Number → Bool
has_multiplier None a = true
has_multiplier (Some other) a = is_same other a

-- why a sum can't have this channel too
abbrev pub addend_fault : Test → SumParts → AnalogParts → Option DetectorFault
addend_fault test s c =
    fault_unless (takes_offset test || (unsigned_abs c.b.units == 0)) fault.Offset
    or fault_unless (has_multiplier s.a c.a) fault.Unequal
    or fault_unless (nat_lt (length s.channels) 256) fault.Wide

abbrev pub with_channel : Test → SumParts → ℕ → Option AnalogParts → Result SumParts DetectorFault
with_channel test s i None = Err fault.Channel
with_channel test s i (Some c) =
    unless (addend_fault test s c) (record { channels = s.channels ++ i ∷ []; a = Some c.a; most = s.most + largest c })

-- a sum with the channel of one word more
abbrev pub with_word : List AnalogParts → Test → SumParts → List ℕ → Result SumParts DetectorFault
with_word cs test s word =
    need (channel_of cs word) fault.Channel (λ i. with_channel test s i (slice_get cs i))

-- with the channels of all these words
abbrev pub with_words : List AnalogParts → Test → SumParts → List (List ℕ) → Result SumParts DetectorFault
with_words cs test s [] = Ok s
with_words cs test s (word ∷ words) = and_then (with_word cs test s word) (λ t. with_words cs test t words)
