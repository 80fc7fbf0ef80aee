-- Texts in HTML.
use Rattle.std.specs.Prelude.{ℕ, ◌==◌, if◌then◌else◌, List, [], ◌∷◌, codes}
use Rattle.std.specs.List.{flat_map}

-- a byte as an element or an attribute in quotation marks holds it
abbrev pub html_byte : ℕ → List ℕ
html_byte b = if b == 38 then codes "&amp;" else (if b == 60 then codes "&lt;" else (if b == 62 then codes "&gt;" else (if b == 34 then codes "&quot;" else b ∷ [])))

-- a text: it begins no element, and ends no attribute
abbrev pub in_html : List ℕ → List ℕ
in_html text = flat_map html_byte text
