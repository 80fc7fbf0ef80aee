-- Notes on repairs.
use Rattle.std.specs.Prelude.{◌≡◌, ℕ, List, ◌++◌}
use Rattle.std.specs.Str.{IsUtf8}
use Rattle.comtrade_dialects.specs.declared.key.Key.{Key}

-- what a note says: the kind of repair, how many there were, and where
pub record NoteParts : Type 0 where
  pub key : Key
  pub count : ℕ
  pub details : List ℕ

-- what is written grows by a text in UTF-8
pub record PutsText (old new : List ℕ) : Type 0 where
  pub text : List ℕ
  pub puts : new ≡ old ++ text
  pub is_text : IsUtf8 text
