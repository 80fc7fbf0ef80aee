-- The scans of a recording that came. The numbers between them are those of lost scans.
use Rattle.std.specs.Prelude.{ℕ, ◌-◌, Bool, Option, Some, None, List, [], ◌∷◌}
use Rattle.dfr_sequence.specs.declared.place.Place.{Place}

-- a scan: its number, and the bits of the contacts
pub record Scan : Type 0 where
  pub number : ℕ
  pub bits : List Bool

-- the number of the newest scan, if one came; the newest scan is first in a list
abbrev pub newest : List Scan → Option ℕ
newest [] = None
newest (now ∷ past) = Some now.number

-- how many scans were lost before a scan: all between it and the newest one, or all, if none came
abbrev pub lost_before : Option ℕ → ℕ → ℕ
lost_before None number = number
lost_before (Some n) number = number - n - 1

abbrev pub place_after : Option ℕ → ℕ → Place
place_after n number = record { scan = number; lost = lost_before n number }

-- a scan in its place
pub record Came : Type 0 where
  pub place : Place
  pub bits : List Bool

abbrev pub came : Place → List Bool → Came
came place bits = record { place = place; bits = bits }

-- the scans of a recording in their places, the newest first
abbrev pub placed : List Scan → List Came
placed [] = []
placed (now ∷ past) = came (place_after (newest past) now.number) now.bits ∷ placed past
