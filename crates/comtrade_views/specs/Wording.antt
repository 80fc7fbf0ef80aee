-- Whole words in the names of channels.
use Rattle.std.specs.Prelude.{ℕ, ◌-◌, ◌==◌, Bool, not, ◌&&◌, ◌||◌, nat_le, List, length, slice_index}

abbrev pub is_lower : ℕ → Bool
is_lower byte = nat_le 97 byte && nat_le byte 122

abbrev pub is_upper : ℕ → Bool
is_upper byte = nat_le 65 byte && nat_le byte 90

-- those above 127 are of letters of other alphabets
abbrev pub is_letter : ℕ → Bool
is_letter byte = is_lower byte || is_upper byte || nat_le 128 byte

abbrev pub is_digit : ℕ → Bool
is_digit byte = nat_le 48 byte && nat_le byte 57

-- two letters or two digits are of one word, but a capital letter after a small one begins another
abbrev pub are_joined : ℕ → ℕ → Bool
are_joined one other = ((is_letter one && is_letter other) || (is_digit one && is_digit other)) && not (is_lower one && is_upper other)

-- a word begins or ends at a place, or there is none
abbrev pub is_border : List ℕ → ℕ → Bool
is_border text at = at == 0 || at == length text || not (are_joined (slice_index text (at - 1)) (slice_index text at))
