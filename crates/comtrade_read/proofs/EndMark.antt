-- A text cut at the first place that a search gives.
use Rattle.std.proofs.Common.{◌≡◌, ℕ, List, length, take, refl, arith}
use Rattle.std.specs.List.{position_or_len, before_first}
use Rattle.std.proofs.lemmas.Bool.{false_from_ne_true}
use Rattle.std.proofs.lemmas.List.{take_all}
use Rattle.std.proofs.lemmas.List.Sums.{position_or_len_is}
use Rattle.memchr.specs.Find.{is_byte, Nowhere, NoneBefore, Passes}

pub cut_at_first : (byte : ℕ) (hay : List ℕ) (k : ℕ) → NoneBefore (Passes (is_byte byte) hay) 0 (length hay) k × Passes (is_byte byte) hay k → take k hay ≡ before_first (is_byte byte) hay
cut_at_first byte hay k f =
    let high = f.0.high in
    let at : position_or_len (is_byte byte) hay ≡ k = position_or_len_is (is_byte byte) hay k 0 (omega arith) (λ j lt. false_from_ne_true _ (λ is. f.0.before j (omega arith) lt is)) (λ lt. f.1) in
    rw at refl

pub cut_nowhere : (byte : ℕ) (hay : List ℕ) → Nowhere (Passes (is_byte byte) hay) 0 (length hay) → hay ≡ before_first (is_byte byte) hay
cut_nowhere byte hay none =
    let at : position_or_len (is_byte byte) hay ≡ length hay = position_or_len_is (is_byte byte) hay (length hay) 0 (omega arith) (λ j lt. false_from_ne_true _ (λ is. none j (omega arith) lt is)) (λ lt. absurd (omega arith)) in
    rw (at, take_all (length hay) hay (omega arith)) refl
