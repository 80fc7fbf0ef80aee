-- The data of a GOOSE frame (IEC 61850-8-1, annex A; ISO 9506-2): elements one after the other, some of which hold elements.
use Rattle.std.specs.Prelude.{ℕ, zero, suc, ◌+◌, ◌-◌, Bool, true, false, ◌&&◌, ◌||◌, List, Option, Some, None, Result, Ok, Err, nat_lt, nat_le, ◌==◌, if◌then◌else◌}
use Rattle.dfr_bus.specs.declared.span.Span.{Span}
use Rattle.dfr_bus.specs.declared.fault.Fault.{Fault}
use Rattle.dfr_bus.specs.declared.fault.Wrong.TheVariants.{CutShort, Size, Kind}
use Rattle.dfr_bus.specs.declared.datum.Datum.{Datum}
use Rattle.dfr_bus.specs.declared.datum.Kind as kind
use Rattle.dfr_bus.specs.declared.datum.Kind.TheVariants.{Array, Structure, Boolean, Bits, Integer, Unsigned, Float, Octets, Text, BinaryTime, MmsText, Time}
use Rattle.dfr_bus.specs.Bytes.{byte}
use Rattle.dfr_bus.specs.Readings.{◌>>=◌, fault}
use Rattle.dfr_bus.specs.Ber.{content_at}

-- what an element is, by its tag
unfoldable pub kind_of : (tag : ℕ) → Option kind.Kind
kind_of tag =
    if tag == 131 then Some Boolean
    else if tag == 132 then Some Bits
    else if tag == 133 then Some Integer
    else if tag == 134 then Some Unsigned
    else if tag == 135 then Some Float
    else if tag == 137 then Some Octets
    else if tag == 138 then Some Text
    else if tag == 140 then Some BinaryTime
    else if tag == 144 then Some MmsText
    else if tag == 145 then Some Time
    else if tag == 161 then Some Array
    else if tag == 162 then Some Structure
    else None

-- whether a content of so many bytes, the first of which is this one, can be of the kind: numbers have 1 to 9 bytes, bits a byte that says how
-- many of the last byte are not used, and a number of IEEE 754 a byte with the width of its exponent: 8 bits of 32, or 11 of 64
unfoldable pub fits : kind.Kind → (size first : ℕ) → Bool
fits Boolean size first = size == 1
fits Bits size first = (size == 1 && first == 0) || (nat_lt 1 size && nat_lt first 8)
fits Integer size first = nat_lt 0 size && nat_lt size 10
fits Unsigned size first = nat_lt 0 size && nat_lt size 10
fits Float size first = (size == 5 && first == 8) || (size == 9 && first == 11)
fits Time size first = size == 8
fits BinaryTime size first = size == 4 || size == 6
fits _ size first = true

-- the first byte of a content, or 0 where it is empty
abbrev pub first_of : List ℕ → Span → ℕ
first_of bytes content = if nat_lt content.from content.to then byte bytes content.from else 0

-- the element whose tag stands at `at`
unfoldable pub of_kind : (bytes : List ℕ) (at : ℕ) → Option kind.Kind → Span → Result Datum Fault
of_kind bytes at None content = Err (fault at Kind)
of_kind bytes at (Some k) content =
    if fits k (content.to - content.from) (first_of bytes content) then Ok (record { kind = k; content = content })
    else Err (fault at Size)

unfoldable pub datum_at : (bytes : List ℕ) (at end : ℕ) → Result Datum Fault
datum_at bytes at end =
    if at == end then Err (fault end CutShort)
    else (content_at bytes (at + 1) end >>= λ content. of_kind bytes at (kind_of (byte bytes at)) content)
