-- The table of two digits.
use Rattle.std.proofs.Common.{◌≡◌, ℕ, zero, suc, ◌+◌, ◌*◌, ◌/◌, ◌%◌, ◌<◌, Bool, true, false, eqb, List, [], ◌∷◌, length, get_or, refl, ap, ◌∙◌, arith}
use Rattle.std.specs.Prelude.{◌&&◌}
use Rattle.std.proofs.lemmas.Bool.{and_parts, eqb-true}

-- two digits, the first in the lower byte
abbrev pub pair : ℕ → ℕ
pair n = (48 + n / 10) + 256 * (48 + n % 10)

-- from place k of the table on all are right
unfoldable pub are_pairs : List ℕ → ℕ → Bool
are_pairs [] k = true
are_pairs (x ∷ xs) k = eqb x (pair k) && are_pairs xs (k + 1)

pair_from : (xs : List ℕ) (k i : ℕ) → are_pairs xs k ≡ true → i < length xs → get_or xs i 0 ≡ pair (k + i)
unfolding are_pairs
pair_from [] k i h inside = absurd (omega arith)
pair_from (x ∷ xs) k zero h inside =
    let same : k + 0 ≡ k = omega arith in
    rw same (eqb-true x (pair k) (and_parts (eqb x (pair k)) (are_pairs xs (k + 1)) h).0)
pair_from (x ∷ xs) k (suc i) h inside =
    let same : k + 1 + i ≡ k + suc i = omega arith in
    pair_from xs (k + 1) i (and_parts (eqb x (pair k)) (are_pairs xs (k + 1)) h).1 (omega arith) ∙ ap pair same

pub pair_at : (xs : List ℕ) (i : ℕ) → are_pairs xs 0 ≡ true → i < length xs → get_or xs i 0 ≡ pair i
pair_at xs i h inside =
    let same : 0 + i ≡ i = omega arith in
    pair_from xs 0 i h inside ∙ ap pair same
