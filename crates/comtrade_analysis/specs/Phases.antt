-- Which phase a channel measures.
use Rattle.std.specs.Prelude.{ℕ, ◌-◌, ◌==◌, Bool, ◌&&◌, nat_lt, if◌then◌else◌, List, length, take, drop, slice_index, codes, Option, Some, None}
use Rattle.std.specs.List.{list_any}
use Rattle.comtrade_values.specs.Spelling.{trimmed}
use Rattle.dfr_channels.specs.Parts.{AnalogParts}
use Rattle.comtrade_analysis.specs.declared.phases.Phase.{Phase}
use Rattle.comtrade_analysis.specs.declared.phases.Phase.TheVariants.{A, B, C, Neutral}

-- whether a byte is one of these
abbrev pub is_among : List ℕ → ℕ → Bool
is_among letters b = list_any (λ letter. letter == b) letters

-- A B C, R S T or 1 2 3; N, E, G or 0 is the neutral
abbrev pub letter_phase : ℕ → Option Phase
letter_phase b =
    if is_among (codes "AaRr1") b then Some A
    else if is_among (codes "BbSs2") b then Some B
    else if is_among (codes "CcTt3") b then Some C
    else if is_among (codes "NnEeGg0") b then Some Neutral
    else None

-- the text without its first byte, if it is one of these and more follows
abbrev pub without_first : List ℕ → List ℕ → List ℕ
without_first letters text = if nat_lt 1 (length text) && is_among letters (slice_index text 0) then drop 1 text else text

-- the text without its last byte, if it is one of these and more stands before it
abbrev pub without_last : List ℕ → List ℕ → List ℕ
without_last letters text =
    if nat_lt 1 (length text) && is_among letters (slice_index text (length text - 1)) then take (length text - 1) text else text

-- a name without the quantity (U, V or I) and the L before its phase
abbrev pub without_quantity : List ℕ → List ℕ
without_quantity name = without_first (codes "Ll") (without_first (codes "UuVvIi") name)

-- a name without the neutral or the earth (N, E or G) behind its phase, and a dash between them
abbrev pub without_earth : List ℕ → List ℕ
without_earth name = without_last (codes "-") (without_last (codes "NnEeGg") name)

-- the phase, where nothing else is left of a name
abbrev pub phase_in : List ℕ → Option Phase
phase_in name =
    let left = without_earth (without_quantity (trimmed name)) in
    if length left == 1 then letter_phase (slice_index left 0) else None

-- by the phase field, or by the id where that field is blank
abbrev pub phase_of : AnalogParts → Option Phase
phase_of c = if length (trimmed c.phase) == 0 then phase_in c.id else phase_in c.phase
