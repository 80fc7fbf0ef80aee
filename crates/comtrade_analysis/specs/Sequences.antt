-- Which channels are phases A, B and C of one unit. Channels count from 0.
use Rattle.std.specs.Prelude.{◌≡◌, ◌<◌, ℕ, ◌+◌, Bool, true, false, ◌&&◌, ◌||◌, if◌then◌else◌, List, length, take, drop, position, slice_get, unwrap_or, option_map, option_and_then, Option, Some, None, is_some, IfSome}
use Rattle.std.specs.List.{filter_map, range_with_len, HoldsAt}
use Rattle.std.specs.Str.{bytes_eq}
use Rattle.dfr_channels.specs.Parts.{AnalogParts}
use Rattle.dfr_channels.specs.declared.channel.Side.{Side}
use Rattle.dfr_channels.specs.declared.channel.Side.TheVariants.{Primary, Secondary}
use Rattle.comtrade_analysis.specs.Phases.{phase_of}
use Rattle.comtrade_analysis.specs.declared.phases.Phase.{Phase}
use Rattle.comtrade_analysis.specs.declared.phases.Phase.TheVariants.{A, B, C, Neutral}
use Rattle.comtrade_analysis.specs.declared.sequences.Sequence.{Sequence}

abbrev pub is_same_side : Side → Side → Bool
is_same_side Primary Primary = true
is_same_side Primary Secondary = false
is_same_side Secondary Primary = false
is_same_side Secondary Secondary = true

-- both have the same unit, component and side
abbrev pub is_beside : AnalogParts → AnalogParts → Bool
is_beside one other = bytes_eq one.unit other.unit && bytes_eq one.component other.component && is_same_side one.side other.side

abbrev pub is_it : Phase → Option Phase → Bool
is_it A (Some A) = true
is_it B (Some B) = true
is_it C (Some C) = true
is_it Neutral (Some Neutral) = true
is_it phase other = false

abbrev pub has_phase : Phase → AnalogParts → Bool
has_phase phase c = is_it phase (phase_of c)

-- this phase of the unit of `one`
abbrev pub is_phase : AnalogParts → Phase → AnalogParts → Bool
is_phase one phase c = is_beside one c && has_phase phase c

-- the channels after the one at this index, up to the next phase A of its unit
abbrev pub after : List AnalogParts → ℕ → AnalogParts → List AnalogParts
after channels place one =
    let rest = drop (place + 1) channels in take (unwrap_or (position (is_phase one A) rest) (length rest)) rest

-- another channel is phase A of its unit
abbrev pub has_other : List AnalogParts → ℕ → AnalogParts → Bool
has_other channels place one =
    is_some (position (is_phase one A) (take place channels)) || is_some (position (is_phase one A) (drop (place + 1) channels))

-- the channels that can be its other phases: all, where no other one is phase A of its unit, else those after it
abbrev pub stretch : List AnalogParts → ℕ → AnalogParts → List AnalogParts
stretch channels place one = if has_other channels place one then after channels place one else channels

-- where they begin
abbrev pub stretch_begin : List AnalogParts → ℕ → AnalogParts → ℕ
stretch_begin channels place one = if has_other channels place one then place + 1 else 0

-- the only one that is this phase of its unit
abbrev pub only : AnalogParts → Phase → List AnalogParts → Option ℕ
only one phase channels =
    option_and_then (λ k. if is_some (position (is_phase one phase) (drop (k + 1) channels)) then None else Some k)
    (position (is_phase one phase) channels)

-- another phase of its unit, where the stretch has it once
abbrev pub partner : List AnalogParts → ℕ → AnalogParts → Phase → Option ℕ
partner channels place one phase =
    option_map (λ k. stretch_begin channels place one + k) (only one phase (stretch channels place one))

-- three phases, where there are all
abbrev pub sequence_of : ℕ → Option ℕ → Option ℕ → Option ℕ → Option Sequence
sequence_of a (Some b) (Some c) neutral = Some (record { a = a; b = b; c = c; neutral = neutral })
sequence_of a (Some b) None neutral = None
sequence_of a None c neutral = None

-- the sequence of a channel that is phase A
abbrev pub sequence_with : List AnalogParts → ℕ → AnalogParts → Option Sequence
sequence_with channels place one =
    if has_phase A one
    then sequence_of place (partner channels place one B) (partner channels place one C) (partner channels place one Neutral)
    else None

abbrev pub sequence_at : List AnalogParts → ℕ → Option Sequence
sequence_at channels place = option_and_then (sequence_with channels place) (slice_get channels place)

-- those of all channels, in order
abbrev pub sequences : List AnalogParts → List Sequence
sequences channels = filter_map (sequence_at channels) (range_with_len 0 (length channels))

-- the channel at this index is this phase of the unit of `one`
pub record IsPhaseAt (channels : List AnalogParts) (one : AnalogParts) (phase : Phase) (place : ℕ) : Type 0 where
  pub within : place < length channels
  pub holds : HoldsAt (λ c. is_phase one phase c ≡ true) channels place

-- the channels are phases A, B, C and neutral of one unit
pub record ArePhases (channels : List AnalogParts) (s : Sequence) : Type 0 where
  pub one : AnalogParts
  pub first : slice_get channels s.a ≡ Some one
  pub a : has_phase A one ≡ true
  pub b : IsPhaseAt channels one B s.b
  pub c : IsPhaseAt channels one C s.c
  pub neutral : IfSome s.neutral (IsPhaseAt channels one Neutral)
