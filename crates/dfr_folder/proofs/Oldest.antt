-- The oldest key of a list.
use Rattle.std.proofs.Common.{◌≡◌, ◌⊎◌, ◌<◌, List, [], ◌∷◌, ◌++◌, length, get_or, refl, sym, ◌∙◌, ap, subst, inl, inr, arith}
use Rattle.std.specs.Prelude.{Contains}
use Rattle.std.specs.List.{remove}
use Rattle.std.proofs.lemmas.List.Elements.{Contains-append_right, Contains-append_cases, Contains-push_cases}
use Rattle.dfr_folder.specs.declared.name.Key.{Key}
use Rattle.dfr_folder.specs.Pairs.{IsDistinct, IsHead}

-- it is the one that is taken
pub is_first : (keys rest : List Key) (key : Key) → 0 < length keys → key ≡ get_or keys 0 key → rest ≡ remove keys 0 → keys ≡ key ∷ rest
is_first [] rest key some is removed = absurd (omega arith)
is_first (k ∷ keys) rest key some is removed = ap (λ (x : Key). x ∷ keys) (sym is) ∙ ap (λ (xs : List Key). key ∷ xs) (sym removed)

pub contains_first : (keys : List Key) (key : Key) → Contains (key ∷ keys) key
contains_first keys key = (0, omega arith, refl)

pub contains_later : (keys : List Key) (first key : Key) → Contains keys key → Contains (first ∷ keys) key
contains_later keys first key has = Contains-append_right (first ∷ []) keys key has

contains_cases : (keys : List Key) (first key : Key) → Contains (first ∷ keys) key → (first ≡ key) ⊎ Contains keys key
contains_cases keys first key has = elim (Contains-append_cases (first ∷ []) keys key has) [
  | inl one ↦ elim (Contains-push_cases [] first key one) [ inl none ↦ absurd (omega (arith, none.1)) | inr same ↦ inl same ]
  | inr later ↦ inr later
]

pub head_in : (keys : List Key) (key : Key) → IsHead keys key → Contains keys key
head_in [] key is = absurd is
head_in (k ∷ keys) key is = subst (λ (x : Key). Contains (k ∷ keys) x) (sym is) (contains_first keys k)

-- it doesn't come before, nor after
pub not_before : (front rest : List Key) (key : Key) → IsDistinct (front ++ key ∷ rest) → Contains front key → ⊥
not_before [] rest key differ has = omega (arith, has.1)
not_before (k ∷ front) rest key differ has = elim (contains_cases front k key has) [
  | inl same ↦ differ.0 (subst (λ (x : Key). Contains (front ++ key ∷ rest) x) (sym same) (Contains-append_right front (key ∷ rest) key (contains_first rest key)))
  | inr later ↦ not_before front rest key differ.1 later
]

pub not_after : (front rest : List Key) (key : Key) → IsDistinct (front ++ key ∷ rest) → Contains rest key → ⊥
not_after [] rest key differ has = differ.0 has
not_after (k ∷ front) rest key differ has = not_after front rest key differ.1 has
