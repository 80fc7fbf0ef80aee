-- Contacts of which no scan has come.
use Rattle.std.proofs.Common.{◌≡◌, ◌∙◌, sym, ap, ℕ, ◌+◌, ◌<◌, Bool, List, [], ◌∷◌, ◌++◌, length, map, take, get_or, arith}
use Rattle.std.proofs.lemmas.List.{map-append, take_more, length-take-le}
use Rattle.dfr_sequence.specs.Contacts.{Wanted, wanted, Kept, kept}
use Rattle.dfr_sequence.specs.Sequences.{all_wanted}
use Rattle.dfr_sequence.specs.declared.change.Limit.{Limit}

wanted_last : (limit : Limit) (i : ℕ) (normals : List Bool) (b : Bool) → all_wanted limit i (normals ++ b ∷ []) ≡ all_wanted limit i normals ++ wanted (i + length normals) limit b ∷ []
wanted_last limit i [] b = ap (λ (k : ℕ). wanted k limit b ∷ []) (omega arith)
wanted_last limit i (n ∷ normals) b =
    ap (λ (ws : List Wanted). wanted i limit n ∷ ws) (wanted_last limit (i + 1) normals b)
    ∙ ap (λ (k : ℕ). wanted i limit n ∷ (all_wanted limit (i + 1) normals ++ wanted k limit b ∷ [])) (omega arith)

-- one contact more
pub begun_more : (limit : Limit) (normals : List Bool) (i : ℕ) (d : Bool) (made more : List Kept) (k : Kept)
    → made ≡ map (λ w. kept w []) (all_wanted limit 0 (take i normals)) → i < length normals → k ≡ kept (wanted i limit (get_or normals i d)) [] → more ≡ made ++ k ∷ []
    → more ≡ map (λ w. kept w []) (all_wanted limit 0 (take (i + 1) normals))
begun_more limit normals i d made more k so lt is pushed =
    let longer : take (i + 1) normals ≡ take i normals ++ get_or normals i d ∷ [] = take_more normals i d lt in
    let place : 0 + length (take i normals) ≡ i = (let l = length-take-le i normals (omega arith) in omega (arith, l)) in
    pushed
    ∙ ap (λ (us : List Kept). us ++ k ∷ []) so
    ∙ ap (λ (v : Kept). map (λ w. kept w []) (all_wanted limit 0 (take i normals)) ++ v ∷ []) (is ∙ ap (λ (j : ℕ). kept (wanted j limit (get_or normals i d)) []) (sym place))
    ∙ sym (map-append (λ w. kept w []) (all_wanted limit 0 (take i normals)) (wanted (0 + length (take i normals)) limit (get_or normals i d) ∷ []))
    ∙ ap (λ (ws : List Wanted). map (λ w. kept w []) ws) (sym (wanted_last limit 0 (take i normals) (get_or normals i d)))
    ∙ ap (λ (bs : List Bool). map (λ w. kept w []) (all_wanted limit 0 bs)) (sym longer)
