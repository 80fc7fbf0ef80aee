-- Bits in their plain spelling.
use Rattle.std.specs.Prelude.{◌≡◌, ℕ, ◌+◌, ◌*◌, ◌<◌, ◌⊎◌, List, slice_index}

-- so many digits 0 or 1, with a comma between each two
pub record AreBits (text : List ℕ) (count : ℕ) : Type 0 where
  pub digits : (k : ℕ) → k < count → (slice_index text (2 * k) ≡ 48) ⊎ (slice_index text (2 * k) ≡ 49)
  pub commas : (k : ℕ) → k + 1 < count → slice_index text (2 * k + 1) ≡ 44
