-- A number that can be held, and one that can't.
use Rattle.std.proofs.Common.{◌≡◌, ◌<◌, ◌≤◌, ◌^◌, FitsSigned, refl, arith, ℕ, ℤ, Option, Some, None, unsigned_abs, inl, inr}
use Rattle.std.specs.Int.{w128}
use Rattle.std.proofs.lemmas.Bool.{lt-ltb, le-ltb, le-leb, lt-leb, cases_lt}
use Rattle.comtrade_values.specs.Spelling.{Number, IsNumber}
use Rattle.comtrade_values.proofs.Scaled.{below_size, in_size, size_fits}
use Rattle.dfr_setup.specs.Quantities.{held}

abbrev none : Option Number
none = None

pub held_number : (n : Number) → IsNumber n → held n ≡ Some n
held_number n is = rw (lt-ltb (unsigned_abs n.units) (10 ^ 36) (below_size n.units is.above is.below), le-leb n.places 80 is.places) refl

too_long : (n : Number) → 10 ^ 36 ≤ unsigned_abs n.units → held n ≡ none
too_long n long = rw (le-ltb (unsigned_abs n.units) (10 ^ 36) long) refl

too_fine : (n : Number) → unsigned_abs n.units < 10 ^ 36 → 80 < n.places → held n ≡ none
too_fine n short fine = rw (lt-ltb (unsigned_abs n.units) (10 ^ 36) short, lt-leb n.places 80 fine) refl

-- a number that has over 36 digits or 80 places
pub held_none : (n : Number) → (IsNumber n → ⊥) → held n ≡ none
held_none n isnt =
    elim (cases_lt (unsigned_abs n.units) (10 ^ 36)) [
      | inl short ↦
          elim (cases_lt 80 n.places) [
            | inl fine ↦ too_fine n short fine
            | inr fits ↦ absurd (isnt (in_size n.units n.places short fits))
          ]
      | inr long ↦ too_long n long
    ]

-- units that exceed 128 bits
pub held_beyond : (n : Number) → (FitsSigned w128 n.units → ⊥) → held n ≡ none
held_beyond n beyond =
    elim (cases_lt (unsigned_abs n.units) (10 ^ 36)) [
      | inl short ↦ absurd (beyond (size_fits n.units short))
      | inr long ↦ too_long n long
    ]
