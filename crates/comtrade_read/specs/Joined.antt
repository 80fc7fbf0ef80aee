-- A text as lines with their ends, and a line as fields with blanks around them and commas between.
use Rattle.std.specs.Prelude.{◌≡◌, ℕ, Bool, true, false, ◌==◌, List, [], ◌∷◌, ◌++◌, map}
use Rattle.std.specs.List.{join_with_byte, AllByRecursion}
use Rattle.comtrade_values.specs.Spelling.{is_blank, trimmed}

abbrev pub AreBlank : List ℕ → Type 0
AreBlank bytes = AllByRecursion (λ b. is_blank b ≡ true) bytes

abbrev pub HasNone : ℕ → List ℕ → Type 0
HasNone c bytes = AllByRecursion (λ b. (b == c) ≡ false) bytes

-- a field: its text, and the blanks around it
pub record Field : Type 0 where
  pub before : List ℕ
  pub text : List ℕ
  pub after : List ℕ

abbrev pub field_bytes : Field → List ℕ
field_bytes f = f.before ++ (f.text ++ f.after)

-- the text has no blank at either end, and no comma and no line feed in it
pub record IsField (f : Field) : Type 0 where
  pub before : AreBlank f.before
  pub after : AreBlank f.after
  pub bare : trimmed f.text ≡ f.text
  pub no_comma : HasNone 44 f.text
  pub no_feed : HasNone 10 f.text

-- a line has one field or more
pub record Line : Type 0 where
  pub first : Field
  pub rest : List Field
  -- whether a carriage return stands after it
  pub cr : Bool

abbrev pub carriage_return : Bool → List ℕ
carriage_return true = 13 ∷ []
carriage_return false = []

abbrev pub line_bytes : Line → List ℕ
line_bytes l = join_with_byte 44 (map field_bytes (l.first ∷ l.rest)) ++ carriage_return l.cr

abbrev pub field_texts : Line → List (List ℕ)
field_texts l = map (λ f. f.text) (l.first ∷ l.rest)

abbrev pub IsLine : Line → Type 0
IsLine l = AllByRecursion IsField (l.first ∷ l.rest)

pub record BlankLine : Type 0 where
  pub blanks : List ℕ
  pub cr : Bool

abbrev pub blank_bytes : BlankLine → List ℕ
blank_bytes l = l.blanks ++ carriage_return l.cr

-- the text is lines with these fields and then any number of blank lines. A line feed stands between each two of them, so
-- that a text that ends in one has an empty last line.
pub record IsJoined (text : List ℕ) (texts : List (List (List ℕ))) : Type 0 where
  pub lines : List Line
  pub blank : List BlankLine
  pub are_lines : AllByRecursion IsLine lines
  pub are_blank : AllByRecursion (λ l. AreBlank l.blanks) blank
  pub fields : map field_texts lines ≡ texts
  pub bytes : text ≡ join_with_byte 10 (map line_bytes lines ++ map blank_bytes blank)
