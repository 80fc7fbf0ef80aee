-- A list that is laid over another, item by item.
use Rattle.std.proofs.Common.{◌≡◌, ℕ, ◌+◌, ◌<◌, ◌≤◌, List, [], ◌∷◌, ◌++◌, length, get_or, take, drop, set, sym, ap, ◌∙◌, append_assoc, arith}
use Rattle.std.specs.Prelude.{map}
use Rattle.std.proofs.lemmas.List.{length-take, length-map, set_at, drop_more, map_more, take_all, drop_all, append-nil}

pub laid_more : {A B : Type 0} (f : A → B) (xs : List A) (vs ws : List B) (i : ℕ) (d : A) (y : B) → i < length xs → length ws ≡ length xs
    → vs ≡ map f (take i xs) ++ drop i ws → y ≡ f (get_or xs i d) → set vs i y ≡ map f (take (i + 1) xs) ++ drop (i + 1) ws
laid_more f xs vs ws i d y below same laid is =
    let front = map f (take i xs) in
    let long : length front ≡ i = length-map (take i xs) f ∙ omega (arith, length-take i xs) in
    let within : i < length ws = omega (arith, same) in
    ap (λ l. set l i y) (laid ∙ ap (λ l. front ++ l) (drop_more ws i y within)) ∙ set_at front _ _ y i long
    ∙ sym (append_assoc front (y ∷ []) _) ∙ ap (λ l. l ++ drop (i + 1) ws) (ap (λ v. front ++ v ∷ []) is ∙ sym (map_more f xs i d below))

pub laid_all : {A B : Type 0} (f : A → B) (xs : List A) (vs ws : List B) (n : ℕ) → length xs ≤ n → length ws ≤ n
    → vs ≡ map f (take n xs) ++ drop n ws → vs ≡ map f xs
laid_all f xs vs ws n most long laid =
    laid ∙ ap (λ l. map f l ++ drop n ws) (take_all n xs most) ∙ ap (λ l. map f xs ++ l) (drop_all n ws long) ∙ append-nil (map f xs)
