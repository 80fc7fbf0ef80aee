-- The place that a search gives, in the words of `position`.
use Rattle.std.proofs.Common.{◌≡◌, ℕ, Option, Some, None, List, length, refl, arith, ⊎_elim, le_refl}
use Rattle.std.specs.Prelude.{position}
use Rattle.std.proofs.lemmas.Bool.{cases_Bool, lt-ltb, le-ltb}
use Rattle.std.proofs.lemmas.List.Sums.{position_or_len_is}
use Rattle.memchr.specs.Find.{IsFirstByte, is_byte}

pub first_is_position : (byte : ℕ) (text : List ℕ) (r : Option ℕ) → IsFirstByte (is_byte byte) text r → r ≡ position (is_byte byte) text
first_is_position byte text None none =
    let at = position_or_len_is (is_byte byte) text (length text) 0 (le_refl (length text))
    (λ k less. ⊎_elim (λ t. absurd (none k (omega arith) less t)) (λ f. f) (cases_Bool _)) (λ less. absurd (omega arith)) in
    rw (at, le-ltb (length text) (length text) (le_refl (length text))) refl
first_is_position byte text (Some k) found =
    let first = found.0 in
    let at = position_or_len_is (is_byte byte) text k 0 (omega (arith, first.high))
    (λ j less. ⊎_elim (λ t. absurd (first.before j (omega arith) less t)) (λ f. f) (cases_Bool _)) (λ less. found.1) in
    rw (at, lt-ltb k (length text) first.high) refl
