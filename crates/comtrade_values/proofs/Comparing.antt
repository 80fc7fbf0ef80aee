-- What the tests of a comparison say.
use Rattle.std.proofs.Common.{◌≡◌, ℕ, ◌≤◌, true, ℤ, ◌≤ℤ◌, arith}
use Rattle.std.specs.Prelude.{nat_le, int_le}
use Rattle.std.proofs.lemmas.Int.{ints}
use Rattle.std.proofs.lemmas.Bool.Decides.{nat_tests}

pub le-so : (a b : ℕ) → nat_le a b ≡ true → a ≤ b
le-so a b e = grind (arith, nat_tests, e)

pub int_le-so : (a b : ℤ) → int_le a b ≡ true → a ≤ℤ b
int_le-so a b e = grind (arith, ints, e)

pub int_le-true : (a b : ℤ) → a ≤ℤ b → int_le a b ≡ true
int_le-true a b h = grind (arith, ints)
