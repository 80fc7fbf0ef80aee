-- Which pair of a folder is the next to go.
use Rattle.std.specs.Prelude.{◌≡◌, ◌<◌, ℕ, Bool, List, [], ◌∷◌, length, slice_index_or, Option, Some, None}
use Rattle.std.specs.List.{remove}
use Rattle.dfr_folder.specs.declared.name.Key.{Key}

-- the pair at the head of the list, which is the oldest where these are in order
abbrev pub IsFirst : Key → List (Key × ℕ) → Type 0
IsFirst key [] = ⊥
IsFirst key (first ∷ pairs) = key ≡ first.0

-- at most one pair is taken off the list: the one at this index
abbrev pub TakesOff : Option (ℕ × Key × ℕ × Bool) → List (Key × ℕ) → List (Key × ℕ) → Type 0
TakesOff None pairs left = left ≡ pairs
TakesOff (Some (at, key, size, was_there)) pairs left =
    (at < length pairs) × (slice_index_or pairs at (key, size) ≡ (key, size)) × (left ≡ remove pairs at)
