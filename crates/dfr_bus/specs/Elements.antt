-- What an element is (X.690, 8.1), apart from how it is read: which bytes stand at which places.
use Rattle.std.specs.Prelude.{◌≡◌, ◌≢◌, ℕ, ◌+◌, ◌-◌, ◌<◌, ◌≤◌, ◌⊎◌, List}
use Rattle.dfr_bus.specs.declared.span.Span.{Span}
use Rattle.dfr_bus.specs.Bytes.{byte, number_from}

-- The short form (8.1.3.4): one byte below 128, which is the length.
pub record IsShort (bytes : List ℕ) (at from size : ℕ) : Type 0 where
  pub form : byte bytes at < 128
  pub start : from ≡ at + 1
  pub says : size ≡ byte bytes at

-- The long form (8.1.3.5): a byte of 128 + n, n at least 1 and not 127, and the length in n bytes.
pub record IsLong (bytes : List ℕ) (at from size : ℕ) : Type 0 where
  pub least : 128 < byte bytes at
  pub reserved : byte bytes at ≢ 255
  pub start : from ≡ at + 1 + (byte bytes at - 128)
  pub says : size ≡ number_from 0 bytes (at + 1) (byte bytes at - 128)

-- the length stands from `at` on, and the content begins at `from`
abbrev pub IsLength : (bytes : List ℕ) (at from size : ℕ) → Type 0
IsLength bytes at from size = IsShort bytes at from size ⊎ IsLong bytes at from size

-- The element with this tag and this content stands at `at`, and ends at `end` at the latest.
pub record IsElement (bytes : List ℕ) (at end tag : ℕ) (content : Span) : Type 0 where
  pub is_tag : byte bytes at ≡ tag
  pub length : IsLength bytes (at + 1) content.from (content.to - content.from)
  pub order : content.from ≤ content.to
  pub inside : content.to ≤ end
