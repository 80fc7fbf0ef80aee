-- What lies in places that are used in turn.
use Rattle.std.specs.Prelude.{◌≤◌, ℕ, List, ◌++◌, length, take, drop, reverse}

-- the last values, the newest first: those in the places before `next`, and then those from the end back to it, as many as there are
abbrev pub ring_items : {X : Type 0} → List X → ℕ → ℕ → List X
ring_items places next len = take len (reverse (drop next places ++ take next places))

pub record IsRing {X : Type 0} (places : List X) (next len : ℕ) : Type 0 where
  pub low : next ≤ length places
  pub few : len ≤ length places
