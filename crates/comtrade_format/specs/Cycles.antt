-- How many rows of a rate a cycle of a frequency has.
use Rattle.std.specs.Prelude.{◌≡◌, ℕ, ◌*◌, ◌^◌, unsigned_abs}
use Rattle.comtrade_values.specs.Spelling.{Number}

-- so many cycles of the frequency last exactly so many rows at the rate; both are units / 10^places a second
abbrev pub Lasts : Number → Number → ℕ → ℕ → Type 0
Lasts frequency rate cycles rows =
    cycles * unsigned_abs rate.units * 10 ^ frequency.places ≡ rows * unsigned_abs frequency.units * 10 ^ rate.places
