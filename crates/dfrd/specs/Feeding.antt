-- How many of the bytes that were read may be handed on: those of whole frames, or of whole lines.
use Rattle.std.specs.Prelude.{◌≡◌, ◌⊎◌, ℕ, ◌+◌, ◌-◌, ◌%◌, nat_lt, if◌then◌else◌, Bool, true, false, List, ◌++◌, length, Option, Some, None}
use Rattle.memchr.specs.Find.{IsLastByte, is_byte}

-- as many as frames of this size fill
abbrev pub in_frames : ℕ → List ℕ → ℕ
in_frames size bytes = length bytes - length bytes % size

-- up to the last line feed; without one, none, or all where there is no room for more
abbrev pub up_to : Option ℕ → List ℕ → ℕ
up_to (Some last) bytes = last + 1
up_to None bytes = if nat_lt (length bytes) 65_536 then 0 else length bytes

-- whole frames of this size, or whole lines
abbrev pub IsWhole : Bool → ℕ → List ℕ → ℕ → Type 0
IsWhole true size bytes count = count ≡ in_frames size bytes
IsWhole false size bytes count = (last : Option ℕ) × IsLastByte (is_byte 10) bytes last × (count ≡ up_to last bytes)

-- bytes left the queue and wait after those that waited. Of them all may be handed on, if the input is over and none is left in the queue, or
-- else what is whole
abbrev pub TakesIn : Bool → ℕ → Bool → List ℕ → List ℕ → List ℕ → ℕ → List ℕ → ℕ → Type 0
TakesIn has_frames size is_over received waiting later left grown count =
    (bytes : List ℕ) × (grown ≡ waiting ++ bytes) × (later ≡ received ++ bytes)
    × (((is_over ≡ true) × (left ≡ 0) × (count ≡ length grown)) ⊎ IsWhole has_frames size grown count)
