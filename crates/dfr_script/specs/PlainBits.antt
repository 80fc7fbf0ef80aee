-- Bits in their plain spelling.
use Rattle.std.specs.Prelude.{◌≡◌, ℕ, Bool, true, List}
use Rattle.std.specs.List.{filter_map}
use Rattle.comtrade_values.specs.Fields.{bit}
use Rattle.dfr_script.specs.Fields.{reads_all}
use Rattle.dfr_script.specs.ScanLines.{fields}

-- each field is a bit, and these are the bits
pub record ReadsBits (text : List ℕ) (bits : List Bool) : Type 0 where
  pub all : reads_all bit (fields text) ≡ true
  pub same : filter_map bit (fields text) ≡ bits
