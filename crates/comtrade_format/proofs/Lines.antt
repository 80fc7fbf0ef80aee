-- A line of fields, as its first field and what follows.
use Rattle.std.proofs.Common.{◌≡◌, ℕ, Bool, Option, List, [], ◌∷◌, ◌++◌, refl, sym, ap, ◌∙◌, append_assoc, map}
use Rattle.std.specs.List.{join_with_byte, flat_map}
use Rattle.std.specs.Fmt.{decimal}
use Rattle.std.proofs.lemmas.List.{append-nil}
use Rattle.std.proofs.lemmas.List.Concat.{flat_map-append}
use Rattle.std.proofs.lemmas.List.Folds.{flat_map-map}
use Rattle.dfr_channels.specs.declared.scan.Reading.{Reading}
use Rattle.comtrade_format.specs.Lines.{line, field, bit_text}
use Rattle.comtrade_format.specs.Ascii.{fields_line, reading_text, stamp_text}

pub join-cons : (c : ℕ) (x : List ℕ) (xs : List (List ℕ)) → join_with_byte c (x ∷ xs) ≡ x ++ flat_map (λ y. c ∷ y) xs
join-cons c x [] = sym (append-nil x)
join-cons c x (y ∷ ys) = ap (λ (r : List ℕ). x ++ c ∷ r) (join-cons c y ys)

regroup : (p : ℕ) (x y a b e : List ℕ) → (x ++ p ∷ (y ++ (a ++ b))) ++ e ≡ x ++ p ∷ (y ++ (a ++ (b ++ e)))
regroup p x y a b e = append_assoc x (p ∷ (y ++ (a ++ b))) e ∙ ap (λ (r : List ℕ). x ++ p ∷ r) (append_assoc y (a ++ b) e ∙ ap (λ (r : List ℕ). y ++ r) (append_assoc a b e))

-- a line of two fields and two lists of fields
pub line-parts : {A B : Type 0} (x y : List ℕ) (f : A → List ℕ) (vs : List A) (g : B → List ℕ) (bs : List B) → line (x ∷ y ∷ (map f vs ++ map g bs)) ≡ x ++ 44 ∷ (y ++ (flat_map (λ v. 44 ∷ f v) vs ++ (flat_map (λ b. 44 ∷ g b) bs ++ 13 ∷ 10 ∷ [])))
unfolding line
line-parts {A} {B} x y f vs g bs =
    let joined = join-cons 44 x (y ∷ (map f vs ++ map g bs)) in
    let both = flat_map-append (λ (z : List ℕ). 44 ∷ z) (map f vs) (map g bs) in
    let values = flat_map-map (λ (z : List ℕ). 44 ∷ z) f vs in
    let bits = flat_map-map (λ (z : List ℕ). 44 ∷ z) g bs in
    rw (joined, both, values, bits) (regroup 44 x y (flat_map (λ v. 44 ∷ f v) vs) (flat_map (λ b. 44 ∷ g b) bs) (13 ∷ 10 ∷ []))

pub fields_line-parts : (number : ℕ) (stamp : Option ℕ) (values : List Reading) (bits : List Bool) → fields_line number stamp values bits ≡ decimal number ++ 44 ∷ (stamp_text stamp ++ (flat_map (λ v. 44 ∷ reading_text v) values ++ (flat_map (λ b. 44 ∷ bit_text b) bits ++ 13 ∷ 10 ∷ [])))
unfolding fields_line
fields_line-parts number stamp values bits = line-parts (decimal number) (stamp_text stamp) reading_text values bit_text bits

-- a line's first field, and the rest of the line
pub line-cons : (x y : List ℕ) (ys : List (List ℕ)) → line (x ∷ y ∷ ys) ≡ field x ++ line (y ∷ ys)
unfolding line field
line-cons x y ys =
    let l = append_assoc x (44 ∷ join_with_byte 44 (y ∷ ys)) (13 ∷ 10 ∷ []) in
    let r = append_assoc x (44 ∷ []) (join_with_byte 44 (y ∷ ys) ++ 13 ∷ 10 ∷ []) in
    l ∙ sym r

pub line-last : (x : List ℕ) → line (x ∷ []) ≡ x ++ 13 ∷ 10 ∷ []
unfolding line
line-last x = refl
