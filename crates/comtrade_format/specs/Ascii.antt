-- The data file in ASCII form (C37.111-1999, clause 6).
use Rattle.std.specs.Prelude.{ℕ, Bool, Option, Some, None, List, [], ◌∷◌, ◌++◌, map, codes}
use Rattle.std.specs.List.{flat_map}
use Rattle.std.specs.Fmt.{decimal, signed_decimal}
use Rattle.dfr_channels.specs.declared.scan.Reading.{Reading}
use Rattle.dfr_channels.specs.declared.scan.Reading.TheVariants.{Value, Missing}
use Rattle.comtrade_format.specs.Parts.{RowParts}
use Rattle.comtrade_format.specs.Lines.{line, bit_text}

-- a value; a missing one is written 99999
abbrev pub reading_text : Reading → List ℕ
reading_text (Value x) = signed_decimal x
reading_text Missing = codes "99999"

-- a time stamp; without one the field is empty
abbrev pub stamp_text : Option ℕ → List ℕ
stamp_text (Some t) = decimal t
stamp_text None = []

-- number, stamp, values and bits
unfoldable pub fields_line : ℕ → Option ℕ → List Reading → List Bool → List ℕ
fields_line number stamp values bits = line (decimal number ∷ stamp_text stamp ∷ (map reading_text values ++ map bit_text bits))

-- a row's line
abbrev pub row_line : RowParts → List ℕ
row_line r = fields_line r.number r.stamp r.values r.bits

-- every row's line, and the byte 1A, which ends the data
unfoldable pub ascii : List RowParts → List ℕ
ascii rows = flat_map row_line rows ++ 26 ∷ []
