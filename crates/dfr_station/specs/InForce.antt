-- Which rules are in force, of those that were set one after the other.
use Rattle.std.specs.Prelude.{ℕ, nat_le, if◌then◌else◌, List, [], ◌∷◌, reverse, Option, None}
use Rattle.dfr_channels.specs.declared.rule.Rule.{Rule}
use Rattle.dfr_station.specs.declared.in_force.Set.{Set}

-- of lists that were set, the newest first, the one in force at this scan: the newest that was set after no more scans
abbrev pub newest_at : {A : Type 0} → ℕ → List (Set A) → Option (List Rule)
newest_at scan [] = None
newest_at scan (s ∷ older) = if nat_le s.from scan then s.rules else newest_at scan older

-- the same, the oldest first
abbrev pub in_force : {A : Type 0} → ℕ → List (Set A) → Option (List Rule)
in_force scan sets = newest_at scan (reverse sets)
