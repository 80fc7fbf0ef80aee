-- The state of a contact in a GOOSE message.
use Rattle.std.specs.Prelude.{ℕ, zero, suc, ◌+◌, ◌/◌, ◌==◌, ◌&&◌, Bool, true, false, not, nat_le, nat_lt, List, length, Option, Some, None, Result, Ok, Err, if◌then◌else◌}
use Rattle.dfr_bus.specs.declared.span.Span.{Span}
use Rattle.dfr_bus.specs.declared.fault.Fault.{Fault}
use Rattle.dfr_bus.specs.declared.datum.Datum.{Datum}
use Rattle.dfr_bus.specs.declared.datum.Kind as kind
use Rattle.dfr_bus.specs.declared.datum.Kind.TheVariants.{Boolean, Bits, Structure}
use Rattle.dfr_bus.specs.Bytes.{byte}
use Rattle.dfr_bus.specs.DataValues.{datum_at}

-- a position of two bits: 10 is on, 01 is off; between them, and where it is bad, there is no state
unfoldable pub position_of : (unused bits : ℕ) → Option Bool
position_of unused bits =
    if unused == 6 then (if bits / 64 == 2 then Some true else if bits / 64 == 1 then Some false else None) else None

-- the state that an element has by itself
unfoldable pub state_of : kind.Kind → (bytes : List ℕ) → Span → Option Bool
state_of Boolean bytes content = if content.to == content.from + 1 then Some (not (byte bytes content.from == 0)) else None
state_of Bits bytes content = if content.to == content.from + 2 then position_of (byte bytes content.from) (byte bytes (content.from + 1)) else None
state_of _ bytes content = None

abbrev pub is_structure : kind.Kind → Bool
is_structure Structure = true
is_structure _ = false

abbrev pub plain_state : (bytes : List ℕ) → Result Datum Fault → Option Bool
plain_state bytes (Ok d) = state_of d.kind bytes d.content
plain_state bytes (Err f) = None

-- the state that an element has, or in a structure its first element
unfoldable pub element_state : (bytes : List ℕ) → Result Datum Fault → Option Bool
element_state bytes (Ok d) =
    if is_structure d.kind then plain_state bytes (datum_at bytes d.content.from d.content.to) else state_of d.kind bytes d.content
element_state bytes (Err f) = None

-- the place after an element
abbrev pub place_after : Result Datum Fault → Option ℕ
place_after (Ok d) = Some d.content.to
place_after (Err f) = None

abbrev pub next_place : (bytes : List ℕ) (end : ℕ) → Option ℕ → Option ℕ
next_place bytes end None = None
next_place bytes end (Some at) = place_after (datum_at bytes at end)

-- the place of element n, from 0
unfoldable pub place_of : (bytes : List ℕ) (from end n : ℕ) → Option ℕ
place_of bytes from end zero = Some from
place_of bytes from end (suc n) = next_place bytes end (place_of bytes from end n)

abbrev pub state_at : (bytes : List ℕ) (end : ℕ) → Option ℕ → Option Bool
state_at bytes end None = None
state_at bytes end (Some at) = element_state bytes (datum_at bytes at end)

-- the state that element n of these data has
abbrev pub state_in : (bytes : List ℕ) → (content : Span) → (n : ℕ) → Option Bool
state_in bytes content n =
    if nat_le content.from content.to && nat_le content.to (length bytes) then state_at bytes content.to (place_of bytes content.from content.to n) else None
