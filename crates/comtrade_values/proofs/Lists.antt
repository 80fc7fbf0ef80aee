-- Lists whose first items have changed, and lists of the last items.
use Rattle.std.proofs.Common.{◌≡◌, ◌∙◌, sym, ap, refl, ℕ, zero, suc, ◌+◌, ◌<◌, List, [], ◌∷◌, ◌++◌, length, map, take, drop, set, get_or, arith, append_assoc}
use Rattle.std.proofs.lemmas.List.{map-append, length-map, length-append, length-take, length-drop, length-take-le, take_more, drop_more, take-take, get_or_at, set_at}

-- of two lists of one length, the first i of one and the rest of the other
pub within : {W X : Type 0} (f g : W → X) (ws : List W) (i : ℕ) (new : List X) → map f (take i ws) ++ map g (drop i ws) ≡ new → i < length new → i < length ws
within f g ws i new e lt =
    let whole = ap length e in
    let parts = length-append (map f (take i ws)) (map g (drop i ws)) in
    let front = length-map (take i ws) f in
    let back = length-map (drop i ws) g in
    let taken = length-take i ws in
    let dropped = length-drop i ws in
    omega (arith, whole, parts, front, back, taken, dropped)

front_long : {W X : Type 0} (f : W → X) (ws : List W) (i : ℕ) → i < length ws → length (map f (take i ws)) ≡ i
front_long f ws i lt = length-map (take i ws) f ∙ length-take-le i ws (omega arith)

next_of : {W : Type 0} (ws : List W) (w : W) (i : ℕ) → i < length ws → get_or ws i w ≡ w → drop i ws ≡ w ∷ drop (i + 1) ws
next_of {W = W} ws w i lt e = drop_more ws i w lt ∙ ap (λ (v : W). v ∷ drop (i + 1) ws) e

pub taken_more : {W : Type 0} (ws : List W) (w : W) (i : ℕ) → i < length ws → get_or ws i w ≡ w → take (i + 1) ws ≡ take i ws ++ w ∷ []
taken_more {W = W} ws w i lt e = take_more ws i w lt ∙ ap (λ (v : W). take i ws ++ v ∷ []) e

-- the first of the rest
pub item_at : {W X : Type 0} (f g : W → X) (ws : List W) (w : W) (i : ℕ) (new : List X) (d : X) → i < length ws → get_or ws i w ≡ w → map f (take i ws) ++ map g (drop i ws) ≡ new → get_or new i d ≡ g w
item_at {W = W} {X = X} f g ws w i new d lt e is =
    let opened : map f (take i ws) ++ (g w ∷ map g (drop (i + 1) ws)) ≡ new = ap (λ (us : List W). map f (take i ws) ++ map g us) (sym (next_of ws w i lt e)) ∙ is in
    ap (λ (us : List X). get_or us i d) (sym opened) ∙ get_or_at (map f (take i ws)) (g w) (map g (drop (i + 1) ws)) d i (front_long f ws i lt)

pub list_more : {W X : Type 0} (f g : W → X) (ws : List W) (w : W) (i : ℕ) (new : List X) (y : X) → i < length ws → get_or ws i w ≡ w → map f (take i ws) ++ map g (drop i ws) ≡ new → f w ≡ y → map f (take (i + 1) ws) ++ map g (drop (i + 1) ws) ≡ set new i y
list_more {W = W} {X = X} f g ws w i new y lt e is made =
    let rest = map g (drop (i + 1) ws) in
    let opened : map f (take i ws) ++ (g w ∷ rest) ≡ new = ap (λ (us : List W). map f (take i ws) ++ map g us) (sym (next_of ws w i lt e)) ∙ is in
    ap (λ (us : List W). map f us ++ rest) (taken_more ws w i lt e)
    ∙ ap (λ (us : List X). us ++ rest) (map-append f (take i ws) (w ∷ []))
    ∙ append_assoc (map f (take i ws)) (f w ∷ []) rest
    ∙ ap (λ (v : X). map f (take i ws) ++ v ∷ rest) made
    ∙ sym (set_at (map f (take i ws)) (g w) rest y i (front_long f ws i lt))
    ∙ ap (λ (us : List X). set us i y) opened

-- an item more than n of the last n
pub take_again : {X : Type 0} (n : ℕ) (x : X) (xs : List X) → take n (x ∷ take n xs) ≡ take n (x ∷ xs)
take_again zero x xs = refl
take_again {X = X} (suc n) x xs = ap (λ (ys : List X). x ∷ ys) (take-take n (suc n) xs (omega arith))

pub take_none : {X : Type 0} (n : ℕ) → take {A = X} n [] ≡ []
take_none zero = refl
take_none (suc n) = refl

pub drop_none : {X : Type 0} (n : ℕ) → drop {A = X} n [] ≡ []
drop_none zero = refl
drop_none (suc n) = refl
