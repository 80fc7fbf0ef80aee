-- The readings and bits of a scan's line.
use Rattle.std.specs.Prelude.{ℕ, ◌==◌, Bool, ◌&&◌, not, if◌then◌else◌, List, [], length, Option, Some, None, is_some, Result, Ok, Err, position, codes, option_map}
use Rattle.std.specs.List.{before_first, after_first}
use Rattle.std.specs.Str.{bytes_eq}
use Rattle.comtrade_values.specs.Spelling.{trimmed}
use Rattle.comtrade_values.specs.Lines as lines
use Rattle.dfr_channels.specs.Parts.{ScanParts}
use Rattle.dfr_channels.specs.declared.scan.Reading.{Reading}
use Rattle.dfr_channels.specs.declared.scan.Reading.TheVariants.{Value, Missing}
use Rattle.dfr_script.specs.declared.fault.LineFault.{LineFault}
use Rattle.dfr_script.specs.declared.fault.LineFault.TheVariants as fault
use Rattle.comtrade_values.specs.Fields.{bit}
use Rattle.dfr_channels.specs.LineFields.{and_then}
use Rattle.dfr_script.specs.Fields.{small, all_said}

abbrev pub is_slash : ℕ → Bool
is_slash b = b == 47

abbrev pub is_comma : ℕ → Bool
is_comma b = b == 44

-- what stands between the commas
unfoldable pub fields : List ℕ → List (List ℕ)
fields text = lines.fields text

-- the fields after a comma, where there is one
abbrev pub fields_behind : Option (List ℕ) → List (List ℕ)
fields_behind None = []
fields_behind (Some text) = fields text

-- one slash, and none after it
abbrev pub has_one_slash : List ℕ → Bool
has_one_slash rest = is_some (position is_slash rest) && not (is_some (position is_slash (after_first is_slash rest)))

-- a whole number, or a star for a missing one
unfoldable pub reading : List ℕ → Option Reading
reading f = if bytes_eq f (codes "*") then Some Missing else option_map Value (small f)

-- the fields between the commas of a part; an empty part has none
unfoldable pub part_fields : List ℕ → List (List ℕ)
part_fields part = if length (trimmed part) == 0 then [] else fields part

-- what the fields of a part say
abbrev pub part : {X : Type 0} → (List ℕ → Option X) → List ℕ → Result (List X) LineFault
part read text = all_said read (part_fields text)

-- the rest of a line `scan`: readings, a slash, bits
unfoldable pub scan : List ℕ → Result ScanParts LineFault
scan rest =
    if has_one_slash rest
    then and_then (part reading (before_first is_slash rest)) (λ readings.
    and_then (part bit (after_first is_slash rest)) (λ bits. Ok (record { analog = readings; status = bits })))
    else Err fault.Fields
