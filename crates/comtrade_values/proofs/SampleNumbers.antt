-- Where a text begins with four or five digits.
use Rattle.std.proofs.Common.{append-nil, ◌≡◌, ℕ, ◌+◌, ◌<◌, ◌≤◌, zero, suc, Bool, true, false, ltb, List, [], ◌∷◌, ◌++◌, length, take, drop, get_or, refl, ap, ◌∙◌, arith}
use Rattle.std.specs.Prelude.{◌&&◌}
use Rattle.std.specs.Char.{is_ascii_digit}
use Rattle.std.specs.Str.{all_ascii_digits}
use Rattle.std.proofs.lemmas.Bool.{and_parts, lt-ltb, le-ltb, ltb-true, ltb-false, ne_eqb}
use Rattle.std.proofs.lemmas.List.{length-take-le, length-append, drop_all, drop_more}
use Rattle.comtrade_values.specs.PlainNumbers.{before_comma, is_four_or_five, begins_four_or_five}
use Rattle.comtrade_values.proofs.PlainNumbers.{is_comma, at_front, before, goes_on, not_digits, no_second, no_third}

digits_end : (text : List ℕ) (n : ℕ) → n ≤ length text → 3 < n → n < 6 → all_ascii_digits (take n text) ≡ true → before_comma (drop n text) ≡ [] → begins_four_or_five text ≡ true
unfolding begins_four_or_five
digits_end text n within some few all ends =
    let len : length (take n text) ≡ n = length-take-le n text within in
    let e : before_comma text ≡ take n text = before text n all ∙ rw ends (append-nil (take n text)) in
    rw (e, len, all, lt-ltb 3 n some, lt-ltb n 6 few) refl

-- the text ends after its digits
pub sample_end : (text : List ℕ) (n : ℕ) → length text ≡ n → 3 < n → n < 6 → all_ascii_digits (take n text) ≡ true → begins_four_or_five text ≡ true
sample_end text n is some few all = digits_end text n (omega arith) some few all (rw (drop_all n text (omega arith)) refl)

-- a comma stands after them
pub sample_comma : (text : List ℕ) (n : ℕ) → n < length text → 3 < n → n < 6 → all_ascii_digits (take n text) ≡ true → get_or text n 0 ≡ 44 → begins_four_or_five text ≡ true
sample_comma text n inside some few all comma = digits_end text n (omega arith) some few all (rw (drop_more text n 0 inside, comma) refl)

ends_four_or_five : (t : Bool) (ds : List ℕ) (y : ℕ) (ys : List ℕ) → ltb (length ds) 5 ≡ t → (t && is_ascii_digit y) ≡ false → is_four_or_five (ds ++ y ∷ ys) ≡ false
ends_four_or_five true ds y ys e h = rw (not_digits ds y ys h) (no_third (ltb 3 (length (ds ++ y ∷ ys))) (ltb (length (ds ++ y ∷ ys)) 6))
ends_four_or_five false ds y ys e h =
    let many : 5 ≤ length ds = ltb-false (length ds) 5 e in
    let long : ltb (length (ds ++ y ∷ ys)) 6 ≡ false = rw (length-append ds (y ∷ ys)) (le-ltb (length ds + suc (length ys)) 6 (omega arith)) in
    rw long (no_second (ltb 3 (length (ds ++ y ∷ ys))) (all_ascii_digits (ds ++ y ∷ ys)))

-- something else stands after five digits, or no digit after four
pub sample_stops : (text : List ℕ) (n : ℕ) → n < length text → all_ascii_digits (take n text) ≡ true → (ltb n 5 && is_ascii_digit (get_or text n 0)) ≡ false → (get_or text n 0 ≡ 44 → ⊥) → begins_four_or_five text ≡ false
unfolding begins_four_or_five
sample_stops text n inside all stops no_comma =
    let y : ℕ = get_or text n 0 in
    let ys : List ℕ = before_comma (drop (n + 1) text) in
    let len : length (take n text) ≡ n = length-take-le n text (omega arith) in
    let behind : before_comma (drop n text) ≡ y ∷ ys = ap before_comma (drop_more text n 0 inside) ∙ goes_on y (drop (n + 1) text) (ne_eqb y 44 no_comma) in
    let e : before_comma text ≡ take n text ++ y ∷ ys = before text n all ∙ rw behind refl in
    rw e (ends_four_or_five (ltb n 5) (take n text) y ys (rw len refl) stops)

-- ---- too short, or no four digits

front : (t : Bool) (n : ℕ) (b : ℕ) (bs : List ℕ) → is_comma b ≡ t → suc n ≤ length (before_comma (b ∷ bs)) → all_ascii_digits (before_comma (b ∷ bs)) ≡ true
    → (n ≤ length (before_comma bs)) × (is_ascii_digit b ≡ true) × (all_ascii_digits (before_comma bs) ≡ true)
front true n b bs e le all =
    let at : before_comma (b ∷ bs) ≡ [] = at_front true b bs e in
    absurd (omega (arith, rw at at le))
front false n b bs e le all =
    let at : before_comma (b ∷ bs) ≡ b ∷ before_comma bs = at_front false b bs e in
    let p = and_parts (is_ascii_digit b) (all_ascii_digits (before_comma bs)) (rw at at all) in
    let less : suc n ≤ suc (length (before_comma bs)) = rw at at le in
    (omega arith, p.0, p.1)

-- the digits before the comma are those that the text begins with
digits_front : (n : ℕ) (text : List ℕ) → n ≤ length (before_comma text) → all_ascii_digits (before_comma text) ≡ true → (n ≤ length text) × (all_ascii_digits (take n text) ≡ true)
digits_front zero text le all = (omega arith, refl)
digits_front (suc n) [] le all = absurd (omega arith)
digits_front (suc n) (b ∷ bs) le all =
    let f = front (is_comma b) n b bs refl le all in
    let r = digits_front n bs f.0 f.2 in
    (omega (arith, r.0), rw (f.1, r.1) refl)

three : (a b c : Bool) → (a && b && c) ≡ true → (a ≡ true) × (c ≡ true)
three true true true h = (refl, refl)
three true true false h = absurd cc
three true false c h = absurd cc
three false true c h = absurd cc
three false false c h = absurd cc

parts : (ds : List ℕ) → is_four_or_five ds ≡ true → (4 ≤ length ds) × (all_ascii_digits ds ≡ true)
parts ds h =
    let t = three (ltb 3 (length ds)) (ltb (length ds) 6) (all_ascii_digits ds) h in
    let many : 3 < length ds = ltb-true 3 (length ds) t.0 in
    (omega arith, t.1)

four_first : (t : Bool) (text : List ℕ) → is_four_or_five (before_comma text) ≡ t → (4 ≤ length text → all_ascii_digits (take 4 text) ≡ false) → t ≡ false
four_first false text e none = refl
four_first true text e none =
    let p = parts (before_comma text) e in
    let f = digits_front 4 text p.0 p.1 in
    rw f.1 at (none f.0)

-- no four digits stand first
pub sample_no : (text : List ℕ) → (4 ≤ length text → all_ascii_digits (take 4 text) ≡ false) → begins_four_or_five text ≡ false
unfolding begins_four_or_five
sample_no text none = four_first (is_four_or_five (before_comma text)) text refl none
