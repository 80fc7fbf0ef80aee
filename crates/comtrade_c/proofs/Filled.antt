-- A table that is filled row by row.
use Rattle.std.proofs.Common.{◌≡◌, ◌≢◌, ℕ, ◌+◌, ◌-◌, ◌<◌, ◌≤◌, List, [], ◌∷◌, ◌++◌, length, get_or, take, drop, sym, ap, ◌∙◌, arith, length-append}
use Rattle.std.specs.List.{flat_map}
use Rattle.std.proofs.lemmas.Grind.{common_steps}
use Rattle.std.proofs.lemmas.List.{take_more, flat_map_more, take-append-drop, take_all, drop_all, append-nil}
use Rattle.std.proofs.lemmas.Slice.{take-put_mid, drop-put_mid, drop-append-drop}
use borrow.Rule.Slice.PartMut.{put_mid}
use Rattle.std.proofs.lemmas.List.Folds.{length-flat_map-take}

-- what is left of the room is too short for a row's items
pub too_short :
    {A B : Type 0} (f : A → List B) (xs : List A) (i : ℕ) (x : A) (left room count : ℕ) → i < length xs → x ≡ get_or xs i x
    → left + length (flat_map f (take i xs)) ≡ room → count ≡ length (f x) → left < count → room ≢ length (flat_map f xs)
too_short f xs i x left room count below is kept counted less = λ e.
    omega (arith, length-flat_map-take f xs i x below, ap (λ y. length (f y)) is, kept, counted, less, e)

-- a row's items behind those of the rows before it
pub row_more :
    {A B : Type 0} (f : A → List B) (xs : List A) (i : ℕ) (x : A) → i < length xs → x ≡ get_or xs i x
    → flat_map f (take (i + 1) xs) ≡ flat_map f (take i xs) ++ f x
row_more f xs i x below is =
    ap (λ ys. flat_map f ys) (take_more xs i x below ∙ ap (λ y. take i xs ++ y ∷ []) (sym is)) ∙ sym (flat_map_more f [] (take i xs) x)

-- a row's items are taken off the room
pub one_off :
    {A B : Type 0} (f : A → List B) (xs : List A) (i : ℕ) (x : A) (left room count : ℕ) → i < length xs → x ≡ get_or xs i x
    → left + length (flat_map f (take i xs)) ≡ room → count ≡ length (f x) → count ≤ left
    → (left - count) + length (flat_map f (take (i + 1) xs)) ≡ room
one_off f xs i x left room count below is kept counted enough =
    omega (arith, ap length (row_more f xs i x below is), length-append (flat_map f (take i xs)) (f x), kept, counted, enough)

-- the items of the first i rows lie over a table, so many of them
abbrev pub Filled : {A B : Type 0} → (A → List B) → List A → ℕ → List B → List B → ℕ → Type 0
Filled f xs i vs ws at = (at ≡ length (flat_map f (take i xs))) × (vs ≡ flat_map f (take i xs) ++ drop at ws)

-- a row's items end within the table
pub in_table :
    {A B : Type 0} (f : A → List B) (xs : List A) (i : ℕ) (x : A) (vs ws : List B) (at count : ℕ) → i < length xs → x ≡ get_or xs i x
    → Filled f xs i vs ws at → count ≡ length (f x) → length vs ≡ length (flat_map f xs) → at + count ≤ length vs
in_table f xs i x vs ws at count below is filled counted long =
    omega (arith, length-flat_map-take f xs i x below, ap (λ y. length (f y)) is, filled.0, counted, long)

front_of : {B : Type 0} (front rest : List B) (n : ℕ) → n ≡ length front → take n (front ++ rest) ≡ front
front_of front rest n is = grind (arith, common_steps)

back_of : {B : Type 0} (front ws : List B) (n count : ℕ) → n ≡ length front → drop (n + count) (front ++ drop n ws) ≡ drop (n + count) ws
back_of front ws n count is = drop-append-drop n ws front (n + count) (omega arith) (sym is)

-- items laid over the table, behind those before them
pub mid_laid :
    {B : Type 0} (front ys vs ws : List B) (at count k : ℕ) → k ≡ count → at ≡ length front → length ys ≡ count → at ≤ length vs
    → vs ≡ front ++ drop at ws → put_mid at k vs ys ≡ (front ++ ys) ++ drop (at + count) ws
mid_laid front ys vs ws at count k same begun long within laid =
    let all = put_mid at k vs ys in
    let first : take (at + count) all ≡ front ++ ys =
    take-put_mid at k vs ys (at + count) (omega (arith, long)) within
    ∙ ap (λ l. l ++ ys) (ap (λ l. take at l) laid ∙ front_of front (drop at ws) at begun) in
    let last : drop (at + count) all ≡ drop (at + count) ws =
    drop-put_mid at k vs ys (at + count) (omega (arith, same)) within (long ∙ sym same)
    ∙ ap (λ l. drop (at + count) l) laid ∙ back_of front ws at count begun in
    sym (take-append-drop (at + count) all) ∙ ap (λ l. l ++ drop (at + count) all) first ∙ ap (λ l. (front ++ ys) ++ l) last

-- the last row's items end the table
pub all_filled :
    {A B : Type 0} (f : A → List B) (xs : List A) (vs ws : List B) (n at : ℕ) → length xs ≤ n → Filled f xs n vs ws at
    → length ws ≡ length (flat_map f xs) → vs ≡ flat_map f xs
all_filled f xs vs ws n at most filled long =
    let all : take n xs ≡ xs = take_all n xs most in
    let end : at ≡ length (flat_map f xs) = filled.0 ∙ ap (λ l. length (flat_map f l)) all in
    filled.1 ∙ ap (λ l. flat_map f l ++ drop at ws) all ∙ ap (λ l. flat_map f xs ++ l) (drop_all at ws (omega (arith, long, end)))
    ∙ append-nil (flat_map f xs)

-- a row's items laid over the table, after those of the rows before it
pub row_filled :
    {A B : Type 0} (f : A → List B) (xs : List A) (i : ℕ) (x : A) (vs ws ys : List B) (at count : ℕ) → i < length xs → x ≡ get_or xs i x
    → Filled f xs i vs ws at → count ≡ length (f x) → length vs ≡ length (flat_map f xs) → ys ≡ f x
    → Filled f xs (i + 1) (put_mid at (at + count - at) vs ys) ws (at + count)
row_filled f xs i x vs ws ys at count below is filled counted long written =
    let front = flat_map f (take i xs) in
    let within = in_table f xs i x vs ws at count below is filled counted long in
    let more = row_more f xs i x below is in
    let wide : length ys ≡ count = ap length written ∙ sym counted in (
      omega (arith, ap length more, length-append front (f x), filled.0, counted),
      mid_laid front ys vs ws at count (at + count - at) (omega arith) filled.0 wide (omega (arith, within)) filled.1
          ∙ ap (λ l. l ++ drop (at + count) ws) (ap (λ l. front ++ l) written ∙ sym more),
    )
