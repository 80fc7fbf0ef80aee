-- Which channels of two records match.
use Rattle.std.specs.Prelude.{◌≡◌, ◌<◌, ◌⊎◌, ℕ, List, [], Option, MatchOption, ⊤, length}
use Rattle.std.specs.List.{HoldsAt}
use Rattle.dfr_channels.specs.Parts.{AnalogParts}

-- two texts are equal, or one of them is empty
abbrev pub AgreeIn : List ℕ → List ℕ → Type 0
AgreeIn one other = (one ≡ []) ⊎ ((other ≡ []) ⊎ (one ≡ other))

-- two channels have the same name, unit and side, and their phases and components agree where both are given
pub record AreEqual (one other : AnalogParts) : Type 0 where
  pub id : one.id ≡ other.id
  pub unit : one.unit ≡ other.unit
  pub side : one.side ≡ other.side
  pub phase : AgreeIn one.phase other.phase
  pub component : AgreeIn one.component other.component

-- a partner is a matching channel
abbrev pub IsPartner : List AnalogParts → AnalogParts → Option ℕ → Type 0
IsPartner others one place = MatchOption place ⊤ (λ k. (k < length others) × HoldsAt (AreEqual one) others k)
