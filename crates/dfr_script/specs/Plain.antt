-- A text that begins with a reading in its plain spelling.
use Rattle.std.specs.Prelude.{◌≡◌, List, ◌∷◌, Option, Some, ℕ, ℤ}
use Rattle.dfr_channels.specs.declared.scan.Reading.TheVariants.{Value}
use Rattle.dfr_script.specs.ScanLines.{fields, fields_behind, reading}

-- a field that reads as this number stands first
pub record Begins (text : List ℕ) (number : ℤ) (behind : Option (List ℕ)) : Type 0 where
  pub field : List ℕ
  pub cut : fields text ≡ field ∷ fields_behind behind
  pub says : reading field ≡ Some (Value number)
