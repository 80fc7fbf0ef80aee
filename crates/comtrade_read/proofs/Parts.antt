-- A list cut at a byte, and its parts joined again.
use Rattle.std.proofs.Common.{◌≡◌, ℕ, Bool, false, eqb, List, [], ◌∷◌, refl, ap, ◌∙◌}
use Rattle.std.specs.List.{slice_split, onto_first, join_with_byte, AllByRecursion}
use Rattle.std.proofs.lemmas.List.Elements.{All-from_recursion}
use Rattle.std.proofs.lemmas.List.Splits.{slice_split_none, slice_split_at}
use Rattle.std.proofs.lemmas.Bool.{eq-eqb, cond_both}
use Rattle.comtrade_read.specs.Joined.{HasNone}
use Rattle.comtrade_read.proofs.AllOf.{All-append}

pub split_again : (c : ℕ) (part : List ℕ) (parts : List (List ℕ)) → AllByRecursion (HasNone c) (part ∷ parts) → slice_split (λ b. eqb b c) (join_with_byte c (part ∷ parts)) ≡ part ∷ parts
split_again c part [] h = slice_split_none (λ b. eqb b c) part (All-from_recursion (λ b. eqb b c ≡ false) part h.0)
split_again c part (next ∷ parts) h =
    slice_split_at (λ b. eqb b c) part c (join_with_byte c (next ∷ parts)) (All-from_recursion (λ b. eqb b c ≡ false) part h.0) (eq-eqb c c refl)
    ∙ ap (λ (ps : List (List ℕ)). part ∷ ps) (split_again c next parts h.1)

pub join_none : (c d : ℕ) (part : List ℕ) (parts : List (List ℕ)) → eqb c d ≡ false → AllByRecursion (HasNone d) (part ∷ parts) → HasNone d (join_with_byte c (part ∷ parts))
join_none c d part [] e h = h.0
join_none c d part (next ∷ parts) e h = All-append _ part (c ∷ join_with_byte c (next ∷ parts)) h.0 (e, join_none c d next parts e h.1)

parts_onto : (P : ℕ → Type 0) (x : ℕ) (ps : List (List ℕ)) → P x → AllByRecursion (AllByRecursion P) ps → AllByRecursion (AllByRecursion P) (onto_first x ps)
parts_onto P x [] h k = ((h, tt), tt)
parts_onto P x (p ∷ ps) h k = ((h, k.0), k.1)

-- each part keeps what holds of every byte
pub parts_keep : (P : ℕ → Type 0) (q : ℕ → Bool) (xs : List ℕ) → AllByRecursion P xs → AllByRecursion (AllByRecursion P) (slice_split q xs)
parts_keep P q [] h = (tt, tt)
parts_keep P q (x ∷ xs) h =
    let ps = slice_split q xs in
    let rest = parts_keep P q xs h.1 in
    cond_both (q x) ([] ∷ ps) (onto_first x ps) (AllByRecursion (AllByRecursion P)) (λ t. (tt, rest)) (λ t. parts_onto P x ps h.0 rest)

pub parts_none : (c : ℕ) (xs : List ℕ) → AllByRecursion (HasNone c) (slice_split (λ b. eqb b c) xs)
parts_none c [] = (tt, tt)
parts_none c (x ∷ xs) =
    let ps = slice_split (λ b. eqb b c) xs in
    let rest = parts_none c xs in
    cond_both (eqb x c) ([] ∷ ps) (onto_first x ps) (AllByRecursion (HasNone c)) (λ t. (tt, rest)) (λ t. parts_onto (λ b. eqb b c ≡ false) x ps t rest)
