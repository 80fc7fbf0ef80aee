-- A text that begins with a number in its plain spelling.
use Rattle.std.specs.Prelude.{◌≡◌, ℕ, ◌<◌, nat_lt, nat_le, ◌==◌, Bool, true, ◌&&◌, if◌then◌else◌, List, [], ◌∷◌, ◌++◌, length, Option, Some, None, ℤ}
use Rattle.std.specs.List.{before_first}
use Rattle.std.specs.Str.{all_ascii_digits}
use Rattle.std.specs.Str.Parse.{digits_value}
use Rattle.comtrade_values.specs.Spelling.{whole_number}
use Rattle.comtrade_values.specs.Lines.{fields}

-- a comma and what stands after it, or the end
abbrev pub tail : Option (List ℕ) → List ℕ
tail None = []
tail (Some behind) = 44 ∷ behind

-- the fields after a comma, where there is one
abbrev pub fields_behind : Option (List ℕ) → List (List ℕ)
fields_behind None = []
fields_behind (Some text) = fields text

-- what stands before the first comma, or all
abbrev pub before_comma : List ℕ → List ℕ
before_comma text = before_first (λ b. b == 44) text

-- what stands after a minus, or all
abbrev pub behind_minus : List ℕ → List ℕ
behind_minus [] = []
behind_minus (b ∷ bs) = if b == 45 then bs else (b ∷ bs)

-- one to ten digits
abbrev pub is_short : List ℕ → Bool
is_short ds = nat_lt 0 (length ds) && nat_le (length ds) 10 && all_ascii_digits ds

-- one to ten digits stand before the first comma
unfoldable pub begins_short : List ℕ → Bool
begins_short text = is_short (before_comma text)

-- the same after a minus or nothing: the text begins with a number in its plain spelling
abbrev pub begins_plain : List ℕ → Bool
begins_plain text = begins_short (behind_minus text)

-- four or five digits
abbrev pub is_four_or_five : List ℕ → Bool
is_four_or_five ds = nat_lt 3 (length ds) && nat_lt (length ds) 6 && all_ascii_digits ds

-- four or five digits stand before the first comma
unfoldable pub begins_four_or_five : List ℕ → Bool
begins_four_or_five text = is_four_or_five (before_comma text)

-- the same after a minus or nothing, as most samples begin
abbrev pub begins_sample : List ℕ → Bool
begins_sample text = begins_four_or_five (behind_minus text)

-- digits that make this number stand first
pub record DigitsFirst (text : List ℕ) (number : ℕ) (behind : Option (List ℕ)) : Type 0 where
  pub digits : List ℕ
  pub some : 0 < length digits
  pub all : all_ascii_digits digits ≡ true
  pub value : number ≡ digits_value 10 digits
  pub cut : text ≡ digits ++ tail behind

-- a field that reads as this number stands first
pub record Begins (text : List ℕ) (number : ℤ) (behind : Option (List ℕ)) : Type 0 where
  pub field : List ℕ
  pub cut : fields text ≡ field ∷ fields_behind behind
  pub says : whole_number field ≡ Some number
