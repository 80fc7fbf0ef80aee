-- How a text of a file is printed.
use Rattle.std.specs.Prelude.{ℕ, zero, suc, ◌+◌, ◌-◌, ◌/◌, ◌%◌, ◌&&◌, ◌||◌, ◌==◌, Bool, true, false, not, if◌then◌else◌, nat_le, Option, None, Some, List, [], ◌∷◌, ◌++◌, codes, length, take, slice_get}
use Rattle.std.specs.Str.{chars, is_utf8}
use Rattle.std.specs.Char.{digit_char}

-- the characters from the first to the last
abbrev pub is_between : ℕ → ℕ → ℕ → Bool
is_between first last c = nat_le first c && nat_le c last

-- the controls of ASCII and those after it, U+0000 to U+001F and U+007F to U+009F
abbrev pub is_control : ℕ → Bool
is_control c = is_between 0 31 c || is_between 127 159 c

-- marks that hyphenate, join, turn or end a line: U+00AD, U+061C, U+180E, U+200B to U+200F, U+2028 to U+202E, U+2060 to U+206F, U+FEFF
abbrev pub is_mark : ℕ → Bool
is_mark c = c == 173 || c == 1564 || c == 6158 || is_between 8203 8207 c || is_between 8232 8238 c || is_between 8288 8303 c || c == 65279

-- no sign of a script: U+E000 to U+F8FF, U+FFF0 to U+FFFB, U+FFFE, U+FFFF, and from U+E0000 on
abbrev pub is_unassigned : ℕ → Bool
is_unassigned c = is_between 57344 63743 c || is_between 65520 65531 c || is_between 65534 65535 c || nat_le 917504 c

-- a character that isn't seen, or that changes how others are seen
abbrev pub is_hidden : ℕ → Bool
is_hidden c = is_control c || is_mark c || is_unassigned c

-- there is a character, and it is seen
abbrev pub is_seen : Option ℕ → Bool
is_seen None = false
is_seen (Some c) = not (is_hidden c)

-- the bytes are UTF-8, and the first character that they spell is seen
abbrev pub begins_seen : List ℕ → Bool
begins_seen bytes = is_utf8 bytes && is_seen (slice_get (chars bytes) 0)

-- how many bytes the first character of a text has, where these are UTF-8 and it is seen; else 0
abbrev pub seen_len : List ℕ → ℕ
seen_len text = if begins_seen (take 1 text) then 1 else if begins_seen (take 2 text) then 2 else if begins_seen (take 3 text) then 3 else if begins_seen (take 4 text) then 4 else 0

-- a byte that doesn't stand as it is: \x and its two hexadecimal digits
abbrev pub in_hex : ℕ → List ℕ
in_hex b = codes "\\x" ++ digit_char (b / 16) ∷ digit_char (b % 16) ∷ []

-- a text whose first bytes, as many as are said, are the rest of a character that is seen
abbrev pub safe_after : ℕ → List ℕ → List ℕ
safe_after left [] = []
safe_after (suc left) (b ∷ rest) = b ∷ safe_after left rest
safe_after zero (b ∷ rest) = if seen_len (b ∷ rest) == 0 then in_hex b ++ safe_after 0 rest
    else b ∷ safe_after (seen_len (b ∷ rest) - 1) rest

-- each character that is seen stands as it is, each other byte in hexadecimal
abbrev pub safe : List ℕ → List ℕ
safe text = safe_after 0 text

-- in quotation marks, of a text of more than sixty bytes the first sixty
abbrev pub quoted : List ℕ → List ℕ
quoted text = if nat_le (length text) 60 then codes "\"" ++ safe text ++ codes "\""
    else codes "\"" ++ safe (take 60 text) ++ codes "\"..."
