-- The lines of a header, and the numbers in them.
use Rattle.std.specs.Prelude.{ℕ, ◌/◌, ◌%◌, ℤ, pos, int_lt, unsigned_abs, Bool, true, false, if◌then◌else◌, List, [], ◌∷◌, ◌++◌, codes, decimal, Option, Some, None}
use Rattle.comtrade_format.specs.Shape.{is_writable}
use Rattle.comtrade_values.specs.Dates.{civil_text}
use Rattle.comtrade_values.specs.Written.{padded}

-- CR LF
abbrev pub line_end : List ℕ
line_end = 13 ∷ 10 ∷ []

-- a name, and what it is
unfoldable pub text_line : List ℕ → List ℕ → List ℕ
text_line name text = name ++ text ++ line_end

-- a name, and a number with what it counts
unfoldable pub number_line : List ℕ → ℕ → List ℕ → List ℕ
number_line name n unit = name ++ decimal n ++ unit ++ line_end

-- an instant, where its year is from 1 to 9999
abbrev pub instant_text : ℤ → List ℕ
instant_text instant = codes " at " ++ civil_text 32 instant ++ codes " UTC"

abbrev pub at_text : Option ℤ → List ℕ
at_text None = []
at_text (Some instant) = if is_writable instant then instant_text instant else []

-- a scan, and its instant
unfoldable pub scan_line : List ℕ → ℕ → Option ℤ → List ℕ
scan_line name scan instant = name ++ decimal scan ++ at_text instant ++ line_end

abbrev pub sign_text : Bool → List ℕ
sign_text true = codes "-"
sign_text false = codes "+"

-- a number of microseconds in seconds
unfoldable pub seconds_line : List ℕ → ℤ → List ℕ
seconds_line name micros =
    name ++ sign_text (int_lt micros (pos 0)) ++ decimal (unsigned_abs micros / 1_000_000) ++ codes "."
    ++ padded 6 (unsigned_abs micros % 1_000_000) ++ codes " s" ++ line_end

-- a number of parts per billion in parts per million
unfoldable pub parts_line : List ℕ → ℤ → List ℕ
parts_line name parts =
    name ++ sign_text (int_lt parts (pos 0)) ++ decimal (unsigned_abs parts / 1_000) ++ codes "."
    ++ padded 3 (unsigned_abs parts % 1_000) ++ codes " ppm" ++ line_end
