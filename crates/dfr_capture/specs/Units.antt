-- A unit of sampled values as it is kept: its frame, the states of the contacts when it came, and the nanosecond at which it came.
use Rattle.std.specs.Prelude.{ℕ, ◌&&◌, Bool, List, [], ◌∷◌, length, Option, Some, None, nat_lt, nat_le, if◌then◌else◌}
use Rattle.dfr_bus.specs.declared.asdu.Asdu.{Asdu}
use Rattle.dfr_bus.specs.declared.asdu.Sample.{Sample}
use Rattle.dfr_bus.specs.SampledValues.{channels, sample_at}

pub record UnitParts : Type 0 where
  pub frame : List ℕ
  pub asdu : Asdu
  pub bits : List Bool
  pub time : ℕ

-- a value of what may have come, if there is one
abbrev pub sample_in : Option UnitParts → (index : ℕ) → Option Sample
sample_in None index = None
sample_in (Some u) index =
    if nat_lt index (channels u.asdu) && nat_le u.asdu.seq_data.to (length u.frame) then Some (sample_at u.frame u.asdu index) else None

-- of a scan the first unit that came
unfoldable pub first_unit : List (Option UnitParts) → Option UnitParts
first_unit [] = None
first_unit (None ∷ scan) = first_unit scan
first_unit (Some u ∷ scan) = Some u
