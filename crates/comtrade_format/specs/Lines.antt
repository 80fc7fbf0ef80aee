-- Lines of fields, in the configuration file (C37.111-1999, clause 5) and in ASCII data (clause 6).
use Rattle.std.specs.Prelude.{ℕ, Bool, true, false, List, [], ◌∷◌, ◌++◌}
use Rattle.std.specs.List.{join_with_byte}

-- fields joined by commas, then CR LF
unfoldable pub line : List (List ℕ) → List ℕ
line fields = join_with_byte 44 fields ++ 13 ∷ 10 ∷ []

-- a field that another one follows
unfoldable pub field : List ℕ → List ℕ
field x = x ++ 44 ∷ []

-- a bit, as 1 or 0
abbrev pub bit_text : Bool → List ℕ
bit_text true = 49 ∷ []
bit_text false = 48 ∷ []
