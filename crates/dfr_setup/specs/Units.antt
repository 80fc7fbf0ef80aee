-- The units that the levels of a line name.
use Rattle.std.specs.Prelude.{ℕ, Bool, true, false, ◌&&◌, if◌then◌else◌, List, slice_get, Option, Some, None, codes}
use Rattle.std.specs.List.{list_all}
use Rattle.std.specs.Str.{bytes_eq}
use Rattle.comtrade_values.specs.Lines.{field}
use Rattle.dfr_channels.specs.Parts.{AnalogParts}
use Rattle.dfr_setup.specs.Tests.{is_frequency, is_share}
use Rattle.dfr_setup.specs.declared.level.Units.{Units}
use Rattle.dfr_setup.specs.declared.tested.Test.{Test}
use Rattle.dfr_setup.specs.declared.tested.Test.TheVariants.{FrequencyChange}

-- a channel has this unit
abbrev pub is_of : List ℕ → Option AnalogParts → Bool
is_of unit None = false
is_of unit (Some c) = bytes_eq c.unit unit

-- each of these channels has this unit
abbrev pub is_theirs : List AnalogParts → List ℕ → List ℕ → Bool
is_theirs cs channels unit = list_all (λ i. is_of unit (slice_get cs i)) channels

-- it is that of a frequency, or of its change
abbrev pub is_hertz : Test → List ℕ → Bool
is_hertz FrequencyChange unit = bytes_eq unit (codes "Hz/s")
is_hertz _ unit = bytes_eq unit (codes "Hz")

-- it is that of the levels of a test: of a frequency that of frequencies, of a share percent, of other tests that of the channels
abbrev pub is_levels : Test → List AnalogParts → List ℕ → List ℕ → Bool
is_levels test cs channels unit =
    if is_frequency test then is_hertz test unit
    else if is_share test then bytes_eq unit (codes "%")
    else is_theirs cs channels unit

-- the unit at this place, if one is named, is such a unit
abbrev pub if_named : (List ℕ → Bool) → List (List ℕ) → Option ℕ → Bool
if_named is_unit ws None = true
if_named is_unit ws (Some i) = is_unit (field ws i)

-- the units of the levels of these words are those of a test of these channels
abbrev pub has_units : Test → List AnalogParts → List ℕ → List (List ℕ) → Units → Bool
has_units test cs channels ws units =
    if_named (is_levels test cs channels) ws units.level
    && if_named (is_levels test cs channels) ws units.reset
    && if_named (is_theirs cs channels) ws units.least
