-- What contracts see of a note.
use Rattle.std.specs.Prelude.{ℕ, Option, List}
use Rattle.comtrade_dialects.specs.declared.key.Key.{Key}

pub record SaidParts : Type 0 where
  pub key : Key
  pub named : List ℕ
  pub past : Option ℕ
