-- The texts that a file can hold.
use Rattle.std.specs.Prelude.{ℕ, ◌-◌, ◌==◌, Bool, ◌&&◌, ◌||◌, not, nat_le, List, length, slice_index}
use Rattle.std.specs.List.{list_all}
use Rattle.comtrade_values.specs.Spelling.{is_blank}

abbrev pub has_length : ℕ → ℕ → List ℕ → Bool
has_length low high text = nat_le low (length text) && nat_le (length text) high

-- bytes from hexadecimal 20 to 7E, and no comma among them
abbrev pub is_printable : List ℕ → Bool
is_printable text = list_all (λ b. nat_le 32 b && nat_le b 126 && not (b == 44)) text

abbrev pub has_blank_end : List ℕ → Bool
has_blank_end text = is_blank (slice_index text 0) || is_blank (slice_index text (length text - 1))

-- printable bytes without a comma, of that many, with no blank at either end
unfoldable pub is_plain : ℕ → ℕ → List ℕ → Bool
is_plain low high text = has_length low high text && is_printable text && not (has_blank_end text)

-- a station, a device, an id or a component
abbrev pub is_name : List ℕ → Bool
is_name text = is_plain 0 64 text

abbrev pub is_phase : List ℕ → Bool
is_phase text = is_plain 0 2 text

abbrev pub is_unit : List ℕ → Bool
is_unit text = is_plain 1 32 text
