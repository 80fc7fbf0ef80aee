-- Names sort as the instants that they say.
use Rattle.std.specs.Prelude.{◌≡◌, ◌⊎◌, ◌<◌, ◌≤◌, ◌↔◌, ℕ, ℤ, ◌<ℤ◌, ◌≤ℤ◌, List, length, slice_index_or}
use Rattle.std.specs.Cmp.Lexicographic.{slice_cmp}
use Rattle.std.specs.Ordering.{nat_cmp}
use Rattle.std.specs.declared.cmp.Ordering.TheVariants.{Less}
use Rattle.dfr_folder.specs.declared.name.Key.{Key}
use Rattle.dfr_folder.specs.declared.name.Name.{Name}
use Rattle.dfr_folder.specs.Dated.{IsDated, HasYear}
use Rattle.dfr_folder.specs.Texts.{name_text}

-- the first says an earlier date, or of the same date an earlier time of day
abbrev pub IsEarlier : Key → Key → Type 0
IsEarlier a b = (a.date < b.date) ⊎ ((a.date ≡ b.date)
    × ((a.time < b.time) ⊎ ((a.time ≡ b.time) × (a.micros < b.micros))))

-- two names are in the order of these instants
abbrev pub AreInOrder : ℤ → Key → ℤ → Key → Type 0
AreInOrder x a y b = ((x <ℤ y) ↔ IsEarlier a b) × ((y <ℤ x) ↔ IsEarlier b a)

-- byte by byte, the first byte that differs is the less one, or the other text goes on
abbrev pub SortsBefore : List ℕ → List ℕ → Type 0
SortsBefore first second = slice_cmp nat_cmp first second ≡ Less

-- Of two instants of the years 0 to 9999 that differ by a microsecond or more, the names of the first sort before those of the
-- second, whatever their numbers and endings.
abbrev pub NamesSort : Type 0
NamesSort = (x y : ℤ) (a b : Name) → HasYear x → HasYear y → IsDated x a.key → IsDated y b.key → x <ℤ y → SortsBefore (name_text a) (name_text b)

-- ---- pairs with their sizes

-- no pair is of an earlier date or time of day than one before it
abbrev pub AreOldestFirst : List (Key × ℕ) → Type 0
AreOldestFirst pairs = (i j : ℕ) (d : Key × ℕ) → i ≤ j → j < length pairs
    → IsEarlier (slice_index_or pairs j d).0 (slice_index_or pairs i d).0 → ⊥

-- no pair is of an earlier instant than one before it
abbrev pub HaveInstantsInOrder : List (Key × ℕ) → Type 0
HaveInstantsInOrder pairs = (i j : ℕ) (d : Key × ℕ) (x y : ℤ) → i ≤ j → j < length pairs → HasYear x → HasYear y
    → IsDated x (slice_index_or pairs i d).0 → IsDated y (slice_index_or pairs j d).0 → x ≤ℤ y
