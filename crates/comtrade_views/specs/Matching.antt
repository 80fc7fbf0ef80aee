-- Channels of two records that belong to each other by what they measure.
use Rattle.std.specs.Prelude.{◌≡◌, ◌⊎◌, ℕ, List, length, Bool, true, ◌&&◌, ◌||◌, nat_eq, IsSome}
use Rattle.std.specs.Str.{bytes_eq}
use Rattle.dfr_channels.specs.Parts.{AnalogParts}
use Rattle.comtrade_analysis.specs.Sequences.{is_same_side}
use Rattle.comtrade_analysis.specs.Phases.{phase_of}
use Rattle.comtrade_fault.specs.Places.{is_current, is_voltage}

-- both units are those of a current, or of a voltage
abbrev pub AreOneKind : List ℕ → List ℕ → Type 0
AreOneKind one other = ((is_current one ≡ true) × (is_current other ≡ true)) ⊎ ((is_voltage one ≡ true) × (is_voltage other ≡ true))

-- both measure one phase, which is known
abbrev pub AreOnePhase : AnalogParts → AnalogParts → Type 0
AreOnePhase one other = IsSome (phase_of one) × (phase_of one ≡ phase_of other)

-- both measure a voltage, or both a current, of one phase, on one side of the transformers
pub record AreAlike (one other : AnalogParts) : Type 0 where
  pub kind : AreOneKind one.unit other.unit
  pub phase : AreOnePhase one other
  pub side : one.side ≡ other.side

-- two texts are equal, or one of them is empty
abbrev pub agree : List ℕ → List ℕ → Bool
agree one other = nat_eq (length one) 0 || nat_eq (length other) 0 || bytes_eq one other

-- what comtrade_plot compares as it is: same name, unit and side, and phases and components that agree where both are given
abbrev pub is_namesake : AnalogParts → AnalogParts → Bool
is_namesake one other =
    bytes_eq one.id other.id && bytes_eq one.unit other.unit && is_same_side one.side other.side
    && agree one.phase other.phase && agree one.component other.component
