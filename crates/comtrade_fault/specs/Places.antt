-- Units of currents and voltages.
use Rattle.std.specs.Prelude.{ℕ, Bool, not, ◌&&◌, nat_lt, List, length, drop, slice_index, codes}
use Rattle.comtrade_values.specs.Spelling.{trimmed}
use Rattle.comtrade_analysis.specs.Phases.{is_among, without_first}

-- a unit without the prefix of kilo, mega, milli or micro
abbrev pub without_prefix : List ℕ → List ℕ
without_prefix unit = without_first (codes "kKmMuU") unit

-- the first byte is one of these
abbrev pub begins_with : List ℕ → List ℕ → Bool
begins_with letters text = nat_lt 0 (length text) && is_among letters (slice_index text 0)

-- A, Amps and so on
abbrev pub is_current : List ℕ → Bool
is_current unit = begins_with (codes "Aa") (without_prefix (trimmed unit))

-- V, Volts and so on, but not VA or var
abbrev pub is_voltage : List ℕ → Bool
is_voltage unit =
    let name = without_prefix (trimmed unit) in begins_with (codes "Vv") name && not (begins_with (codes "Aa") (drop 1 name))
