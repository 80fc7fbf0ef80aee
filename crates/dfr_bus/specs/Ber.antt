-- An element of the basic encoding rules (X.690): a tag of one byte, a definite length, and so many bytes. It lies in the
-- bytes from `at` on, and before `end`.
use Rattle.std.specs.Prelude.{ℕ, ◌+◌, ◌-◌, Bool, ◌&&◌, List, Option, Some, None, Result, Ok, Err, nat_lt, ◌==◌, if◌then◌else◌}
use Rattle.dfr_bus.specs.declared.span.Span.{Span}
use Rattle.dfr_bus.specs.declared.fault.Fault.{Fault}
use Rattle.dfr_bus.specs.declared.fault.Wrong.TheVariants.{CutShort, Tag, IndefiniteLength, ReservedLength, TooLong, Size}
use Rattle.dfr_bus.specs.Bytes.{byte, big_2, number_from}
use Rattle.dfr_bus.specs.Readings.{Reading, ◌>>=◌, fault}

-- so many bytes from `from` on, whose length stands at `at`
abbrev pub sized : (at from end size : ℕ) → Result Span Fault
sized at from end size =
    if nat_lt (end - from) size then Err (fault at TooLong) else Ok (record { from = from; to = from + size })

-- the long form: a byte with the count of the bytes of the length, and these bytes (8.1.3.5)
unfoldable pub long_content_at : (bytes : List ℕ) (at end count : ℕ) → Result Span Fault
long_content_at bytes at end count =
    if nat_lt (end - (at + 1)) count then Err (fault end CutShort)
    else sized at (at + 1 + count) end (number_from 0 bytes (at + 1) count)

-- the content whose length begins at `at`: below 128 that byte is the length (8.1.3.4)
unfoldable pub content_at : (bytes : List ℕ) (at end : ℕ) → Result Span Fault
content_at bytes at end =
    if at == end then Err (fault end CutShort)
    else if nat_lt (byte bytes at) 128 then sized at (at + 1) end (byte bytes at)
    else if byte bytes at == 128 then Err (fault at IndefiniteLength)
    else if byte bytes at == 255 then Err (fault at ReservedLength)
    else long_content_at bytes at end (byte bytes at - 128)

-- the content of the element with this tag
unfoldable pub element_at : (bytes : List ℕ) (at end tag : ℕ) → Result Span Fault
element_at bytes at end tag =
    if at == end then Err (fault end CutShort)
    else if byte bytes at == tag then content_at bytes (at + 1) end
    else Err (fault at (Tag tag))

-- the same, with a content of a fixed size
unfoldable pub field_at : (bytes : List ℕ) (at end tag size : ℕ) → Result Span Fault
field_at bytes at end tag size = do
  content ← element_at bytes at end tag
  if content.to == content.from + size then Ok content else Err (fault at Size)

-- whether an element with this tag comes next
abbrev pub has_tag : (bytes : List ℕ) (at end tag : ℕ) → Bool
has_tag bytes at end tag = nat_lt at end && byte bytes at == tag

-- an element that may be left out, and the place after it
unfoldable pub optional_at : (bytes : List ℕ) (at end tag : ℕ) → Result (Option Span × ℕ) Fault
optional_at bytes at end tag =
    if has_tag bytes at end tag then (element_at bytes at end tag >>= λ content. Ok (Some content, content.to))
    else Ok (None, at)

unfoldable pub optional_field_at : (bytes : List ℕ) (at end tag size : ℕ) → Result (Option Span × ℕ) Fault
optional_field_at bytes at end tag size =
    if has_tag bytes at end tag then (field_at bytes at end tag size >>= λ content. Ok (Some content, content.to))
    else Ok (None, at)

-- a number of two bytes that may be left out
unfoldable pub optional_2_at : (bytes : List ℕ) (at end tag : ℕ) → Result (Option ℕ × ℕ) Fault
optional_2_at bytes at end tag =
    if has_tag bytes at end tag then (field_at bytes at end tag 2 >>= λ content. Ok (Some (big_2 bytes content.from), content.to))
    else Ok (None, at)
