-- The first number that passes a test.
use Rattle.std.specs.Prelude.{ℕ, zero, suc, ◌+◌, Bool, if◌then◌else◌, Option, Some, None}

-- the first of so many numbers from a number on that passes
abbrev pub first_from : (ℕ → Bool) → ℕ → ℕ → Option ℕ
first_from passes from zero = None
first_from passes from (suc n) = if passes from then Some from else first_from passes (from + 1) n
