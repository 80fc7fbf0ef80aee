-- One row more in a search for the border of two rates.
use Rattle.std.proofs.Common.{◌≡◌, ℕ, ◌+◌, Bool, ◌&&◌, ◌||◌, Option, refl, add-one}
use Rattle.comtrade_format.specs.Borders.{each, some_of, before}

pub before-next : (value : ℕ → Option ℕ) (row : ℕ) → before value (row + 1) ≡ value row
before-next value row = rw add-one refl

pub each-next : (row : ℕ) (test : ℕ → Bool) → each (row + 1) test ≡ (each row test && test row)
each-next row test = rw add-one refl

pub some_of-next : (row : ℕ) (test : ℕ → Bool) → some_of (row + 1) test ≡ (some_of row test || test row)
some_of-next row test = rw add-one refl
