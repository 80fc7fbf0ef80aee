-- The first unit of a scan, and the channels one after the other.
use Rattle.std.proofs.Common.{◌≡◌, ℕ, ◌+◌, ◌<◌, ◌≤◌, List, ◌++◌, Option, None, Some, length, drop, get_or, refl, ap, ◌∙◌}
use Rattle.std.proofs.lemmas.List.{drop_more, drop_all}
use Rattle.dfr_capture.specs.Units.{UnitParts, first_unit}

pub first_more : (scan : List (Option UnitParts)) (i : ℕ) (d : Option UnitParts) → i < length scan → get_or scan i d ≡ None → first_unit (drop i scan) ≡ first_unit (drop (i + 1) scan)
unfolding first_unit
first_more scan i d lt none = rw (drop_more scan i d lt, none) refl

pub first_is : (scan : List (Option UnitParts)) (i : ℕ) (d : Option UnitParts) (u : UnitParts) → i < length scan → get_or scan i d ≡ Some u → first_unit (drop i scan) ≡ Some u
unfolding first_unit
first_is scan i d u lt some = rw (drop_more scan i d lt, some) refl

pub first_end : (scan : List (Option UnitParts)) (i : ℕ) → length scan ≤ i → first_unit (drop i scan) ≡ None
unfolding first_unit
first_end scan i le = rw (drop_all i scan le) refl

pub ruleset first_steps = (first_more, first_is, first_end)
