-- The coefficients of a correlation with a wave, in 16384ths.
use Rattle.std.specs.Prelude.{◌≡◌, ◌<◌, ℕ, ℤ, pos, min, ◌+◌, ◌*◌, ◌-◌, ◌/◌, ◌%◌, neg_ℤ, ◌==◌, if◌then◌else◌, List, length, slice_index_or}
use Rattle.dfr_detect.specs.declared.turns.Turn.{Turn}
use Rattle.dfr_detect.specs.declared.turns.Weights.{Weights}
use Rattle.dfr_detect.specs.declared.turns.Shape.{Shape}
use Rattle.dfr_detect.specs.declared.turns.Pair.{Pair}

-- c less a share of a, in 32768ths
abbrev pub less_share : ℕ → ℕ → ℕ → ℕ
less_share c share a = c - share * a / 32_768

-- the sine of z 32768ths of a quarter turn, by a polynomial
abbrev pub sine : ℕ → ℕ
sine z =
    let square = z * z / 32_768 in
    min 16_384 ((z * less_share 51_470 square (less_share 21_162 square (less_share 2_600 square 140)) + 32_768) / 65_536)

-- the sine of so many quarter turns and z 32768ths of one
abbrev pub wave : ℕ → ℕ → ℤ
wave quarter z =
    if quarter % 4 == 0 then pos (sine z)
    else if quarter % 4 == 1 then pos (sine (32_768 - z))
    else if quarter % 4 == 2 then neg_ℤ (pos (sine z))
    else neg_ℤ (pos (sine (32_768 - z)))

-- the cosine and the sine of i n-ths of a turn
unfoldable pub turn_of : ℕ → ℕ → Turn
turn_of n i =
    let z = 32_768 * (4 * i % n) / n in
    record { cosine = wave (4 * i / n + 1) z; sine = wave (4 * i / n) z }

-- those for the sample with number i of n, of a wave with h periods in them, so many thirds of a turn on
abbrev pub turn_at : ℕ → ℕ → ℕ → ℕ → Turn
turn_at n h thirds i = turn_of (3 * n) ((3 * h * i + thirds * n) % (3 * n))

-- those of a wave for each phase
abbrev pub weights_of : ℕ → Shape → ℕ → Weights
weights_of n s i = record { a = turn_at n s.order 0 i; b = turn_at n s.order s.b i; c = turn_at n s.order s.c i }

abbrev pub pair_of : ℕ → Shape → Shape → ℕ → Pair
pair_of n first other i = record { first = weights_of n first i; other = weights_of n other i }

-- those for the first samples
pub record IsTable (n made : ℕ) (first other : Shape) (table : List Pair) : Type 0 where
  pub long : length table ≡ made
  pub at : (k : ℕ) (d : Pair) → k < made → slice_index_or table k d ≡ pair_of n first other k
