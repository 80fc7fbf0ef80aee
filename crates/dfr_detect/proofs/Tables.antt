-- A table of coefficients, with an entry more.
use Rattle.std.proofs.Common.{◌≡◌, ◌∙◌, sym, ap, refl, subst, ℕ, ◌+◌, ◌<◌, ◌≤◌, inl, inr, List, [], ◌∷◌, ◌++◌, length, get_or, arith}
use Rattle.std.proofs.lemmas.Bool.{cases_lt}
use Rattle.std.proofs.lemmas.List.{length-append, get_or_append_left, get_or_push}
use Rattle.dfr_detect.specs.Turns.{weights_of, pair_of, IsTable}
use Rattle.dfr_detect.specs.declared.turns.Weights.{Weights}
use Rattle.dfr_detect.specs.declared.turns.Shape.{Shape}
use Rattle.dfr_detect.specs.declared.turns.Pair.{Pair}

pub table_none : (n : ℕ) (first other : Shape) → IsTable n 0 first other []
table_none n first other = record { long = refl; at = λ k d h. absurd (omega (arith, h)) }

entry : (n m : ℕ) (first other : Shape) (table : List Pair) (pair : Pair) → IsTable n m first other table → pair ≡ pair_of n first other m → (k : ℕ) (d : Pair) → k < m + 1
    → get_or (table ++ pair ∷ []) k d ≡ pair_of n first other k
entry n m first other table pair is e k d h =
    elim (cases_lt k m) [
      | inl less ↦ get_or_append_left table (pair ∷ []) d k (omega (arith, is.long)) ∙ is.at k d less
      | inr more ↦
          let same : k ≡ m = omega arith in
          let last : get_or (table ++ pair ∷ []) k d ≡ pair = get_or_push table pair d k (is.long ∙ sym same) in
          last ∙ e ∙ ap (λ (j : ℕ). pair_of n first other j) (sym same)
    ]

pub table_more : (n m : ℕ) (first other : Shape) (table more : List Pair) (p q : Weights) → IsTable n m first other table → p ≡ weights_of n first m → q ≡ weights_of n other m
    → more ≡ table ++ record { first = p; other = q } ∷ [] → IsTable n (m + 1) first other more
table_more n m first other table more p q is d e made =
    let pair : Pair = record { first = p; other = q } in
    let long : length (table ++ pair ∷ []) ≡ m + 1 = omega (arith, length-append table (pair ∷ []), is.long) in
    let same : pair ≡ pair_of n first other m = rw (d, e) refl in
    subst (λ (us : List Pair). IsTable n (m + 1) first other us) (sym made) (record { long = long; at = entry n m first other table pair is same })
