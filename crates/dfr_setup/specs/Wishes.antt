-- What a line `detect` asks for: detect NAME KIND LEVEL of CHANNELS [for N] [reset LEVEL] [window N].
-- That of a frequency has behind these: [cycles N] least LEVEL. That of a share has: least LEVEL. A LEVEL is a number, or a part of a
-- quantity: NUMBER of NUMBER UNIT.
use Rattle.std.specs.Prelude.{ℕ, ◌+◌, ◌==◌, Bool, not, ◌&&◌, if◌then◌else◌, List, length, filter, Option, Some, None, option_map, Result, Ok, Err, codes}
use Rattle.std.specs.List.{before_first, slice_split}
use Rattle.std.specs.Str.{bytes_eq}
use Rattle.comtrade_values.specs.Spelling.{Number, decimal_number, is_blank, whole_number}
use Rattle.comtrade_values.specs.Fields.{up_to}
use Rattle.comtrade_values.specs.Lines.{field}
use Rattle.dfr_channels.specs.LineFields.{need}
use Rattle.dfr_setup.specs.Quantities.{part_in}
use Rattle.dfr_setup.specs.declared.tested.Test.{Test}
use Rattle.dfr_setup.specs.declared.tested.Test.TheVariants.{RmsOver, RmsUnder, Change, Jump, FrequencyOver, FrequencyUnder, FrequencyChange, Harmonic, SequenceOver, SequenceUnder, Unbalance}
use Rattle.dfr_setup.specs.Tests.{is_frequency, is_share}
use Rattle.dfr_detect.specs.declared.settings.Sequence.{Sequence}
use Rattle.dfr_detect.specs.declared.settings.Sequence.TheVariants.{Positive, Negative, Zero}
use Rattle.dfr_setup.specs.declared.fault.DetectorFault.{DetectorFault}
use Rattle.dfr_setup.specs.declared.fault.DetectorFault.TheVariants as fault
use Rattle.dfr_setup.specs.declared.level.Units.{Units}
use Rattle.dfr_setup.specs.declared.wish.Places.{Places}
use Rattle.dfr_setup.specs.declared.wish.Wish.{Wish}

abbrev pub first_word : List ℕ → List ℕ
first_word line = before_first is_blank line

abbrev pub is_detect : List ℕ → Bool
is_detect line = bytes_eq (first_word line) (codes "detect")

abbrev pub is_go : List ℕ → Bool
is_go line = bytes_eq (first_word line) (codes "go")

-- what stands between the blanks
abbrev pub words : List ℕ → List (List ℕ)
words line = filter (λ w. not (length w == 0)) (slice_split is_blank line)

-- word i is this text
abbrev pub says : List (List ℕ) → ℕ → List ℕ → Bool
says ws i text = bytes_eq (field ws i) text

-- a whole number of 32 bits
abbrev pub natural : List ℕ → Option ℕ
natural f = up_to 4294967295 (whole_number f)

-- the sequence of three phases that word 2 names, and a test of it
abbrev pub sequence : List (List ℕ) → Option Sequence
sequence ws =
    if says ws 2 (codes "positive") then Some Positive
    else if says ws 2 (codes "negative") then Some Negative
    else if says ws 2 (codes "zero") then Some Zero
    else None

abbrev pub sequence_kind : List (List ℕ) → Option Sequence → Option (Test × ℕ)
sequence_kind ws None = None
sequence_kind ws (Some s) =
    if says ws 3 (codes "over") then Some (SequenceOver s, 4)
    else if says ws 3 (codes "under") then Some (SequenceUnder s, 4)
    else None

-- a test of the harmonic of this order
abbrev pub harmonic_kind : List (List ℕ) → Option (Test × ℕ)
harmonic_kind ws = option_map (λ order. (Harmonic order, 5)) (natural (field ws 3))

-- a test of a wave
abbrev pub wave_kind : List (List ℕ) → Option (Test × ℕ)
wave_kind ws =
    if says ws 2 (codes "harmonic") && says ws 4 (codes "over") then harmonic_kind ws
    else if says ws 2 (codes "unbalance") && says ws 3 (codes "over") then Some (Unbalance, 4)
    else sequence_kind ws (sequence ws)

-- a kind, by its words from word 2 on, and the place of the level behind it
abbrev pub kind : List (List ℕ) → Option (Test × ℕ)
kind ws =
    if says ws 2 (codes "rms") && says ws 3 (codes "over") then Some (RmsOver, 4)
    else if says ws 2 (codes "rms") && says ws 3 (codes "under") then Some (RmsUnder, 4)
    else if says ws 2 (codes "change") then Some (Change, 3)
    else if says ws 2 (codes "jump") then Some (Jump, 3)
    else if says ws 2 (codes "frequency") && says ws 3 (codes "over") then Some (FrequencyOver, 4)
    else if says ws 2 (codes "frequency") && says ws 3 (codes "under") then Some (FrequencyUnder, 4)
    else if says ws 2 (codes "frequency") && says ws 3 (codes "change") then Some (FrequencyChange, 4)
    else if says ws 2 (codes "frequency") then None
    else wave_kind ws

-- ---- levels

-- the level of the line, from word i on, is a part of a quantity: `of` stands behind its number, and three words on, before the channels
abbrev pub is_part : List (List ℕ) → ℕ → Bool
is_part ws i = says ws (i + 1) (codes "of") && says ws (i + 4) (codes "of")

-- the place of the last word of the line's level
abbrev pub last_of : List (List ℕ) → ℕ → ℕ
last_of ws i = if is_part ws i then i + 3 else i

-- an option with a level stands at place i, and the level is a part of a quantity: `of` stands behind its number
abbrev pub has_part : List ℕ → List (List ℕ) → ℕ → Bool
has_part key ws i = says ws i key && says ws (i + 2) (codes "of")

-- the level from word i on: that number, or so large a part of the number behind `of`
abbrev pub level_at : List (List ℕ) → ℕ → Bool → Option Number
level_at ws i part = if part then part_in (decimal_number (field ws i)) (decimal_number (field ws (i + 2))) else decimal_number (field ws i)

-- the place of the unit of a level from word i on, if it is a part
abbrev pub unit_at : ℕ → Bool → Option ℕ
unit_at i part = if part then Some (i + 3) else None

-- ---- options

-- the place behind an option with its value, if the option stands at place i
abbrev pub behind : List ℕ → List (List ℕ) → ℕ → ℕ
behind key ws i = if says ws i key then i + 2 else i

-- the same of an option with a level
abbrev pub behind_level : List ℕ → List (List ℕ) → ℕ → ℕ
behind_level key ws i = if has_part key ws i then i + 5 else behind key ws i

-- the value of an option that may stand at place i
abbrev pub natural_or : List ℕ → List (List ℕ) → ℕ → ℕ → Option ℕ
natural_or key ws i default = if says ws i key then natural (field ws (i + 1)) else Some default

abbrev pub level_or : List ℕ → List (List ℕ) → ℕ → Number → Option Number
level_or key ws i default = if says ws i key then level_at ws (i + 1) (has_part key ws i) else Some default

abbrev pub window_at : List (List ℕ) → ℕ → Option (Option ℕ)
window_at ws i = if says ws i (codes "window") then option_map (λ n. Some n) (natural (field ws (i + 1))) else Some None

-- where the options of a line stand whose level ends at this place, and where the line ends
abbrev pub places : List (List ℕ) → ℕ → Places
places ws at =
    let reset = behind (codes "for") ws (at + 3) in
    let window = behind_level (codes "reset") ws reset in
    let cycles = behind (codes "window") ws window in
    let least = behind (codes "cycles") ws cycles in
    record { row = at + 3; reset = reset; window = window; cycles = cycles; least = least; end = behind_level (codes "least") ws least }

-- a frequency and a share have to say `least`; only a frequency has `cycles`
abbrev pub has_options : List (List ℕ) → Test → Places → Bool
has_options ws test p =
    if is_frequency test then says ws p.least (codes "least")
    else if is_share test then says ws p.least (codes "least") && (p.least == p.cycles)
    else p.end == p.cycles

-- the line has the words that it needs, and no more
abbrev pub is_whole : List (List ℕ) → Test → ℕ → Places → Bool
is_whole ws test at p = says ws (at + 1) (codes "of") && (length ws == p.end) && has_options ws test p

-- the places of the units of a line's levels
abbrev pub units : List (List ℕ) → ℕ → Places → Units
units ws first p = record {
  level = unit_at first (is_part ws first);
  reset = unit_at (p.reset + 1) (has_part (codes "reset") ws p.reset);
  least = unit_at (p.least + 1) (has_part (codes "least") ws p.least);
}

-- the numbers of a line whose level stands from the first of these places to the second, and its options at the others
abbrev pub numbers : List (List ℕ) → Test → ℕ → ℕ → Places → Result Wish DetectorFault
numbers ws test first at p =
    need (level_at ws first (is_part ws first)) fault.Number (λ level.
    need (natural_or (codes "for") ws p.row 1) fault.Number (λ row.
    need (level_or (codes "reset") ws p.reset level) fault.Number (λ reset.
    need (window_at ws p.window) fault.Number (λ window.
    need (natural_or (codes "cycles") ws p.cycles 10) fault.Number (λ cycles.
    need (level_or (codes "least") ws p.least level) fault.Number (λ least.
    Ok (record { test = test; level = level; at = at; row = row; reset = reset; window = window; cycles = cycles; least = least; units = units ws first p })))))))

abbrev pub wish_at : List (List ℕ) → Test → ℕ → ℕ → Result Wish DetectorFault
wish_at ws test first at = if is_whole ws test at (places ws at) then numbers ws test first at (places ws at) else Err fault.Words

abbrev pub of_kind : List (List ℕ) → Option (Test × ℕ) → Result Wish DetectorFault
of_kind ws None = Err fault.Words
of_kind ws (Some k) = wish_at ws k.0 k.1 (last_of ws k.1)

-- what these words ask for
abbrev pub wish : List (List ℕ) → Result Wish DetectorFault
wish ws = of_kind ws (kind ws)
