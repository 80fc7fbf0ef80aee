-- Numbers in their plain spelling are what the full rule reads.
use Rattle.std.proofs.Common.{append-nil, ◌≡◌, ℕ, ◌+◌, ◌*◌, ◌^◌, ◌<◌, ◌≤◌, suc, Bool, true, false, cond, eqb, ltb, leb, List, [], ◌∷◌, ◌++◌, length, map, reverse, take, drop, get_or, Option, Some, None, refl, sym, ap, ◌∙◌, arith}
use Rattle.std.specs.Prelude.{not, nat_lt, ◌&&◌, ◌==◌, pos, neg_ℤ}
use Rattle.std.specs.List.{list_all, slice_split, position_or_len}
use Rattle.std.specs.Char.{digit_value, is_ascii_digit}
use Rattle.std.specs.Str.{all_ascii_digits}
use Rattle.std.specs.Str.Parse.{digits_value, digits_value_after}
use Rattle.std.proofs.lemmas.Bool.{and_parts, lt-ltb, le-leb, lt-leb, ltb-false, ne_eqb}
use Rattle.std.proofs.lemmas.Bool.Decides.{nat_tests}
use Rattle.std.proofs.lemmas.List.{reverse-reverse, take-append-drop, length-take-le, length-append, drop_all, drop_more}
use Rattle.std.proofs.Math.Bool.{and-false}
use mathlib.Core.List.{reverse_aux}
use Rattle.std.proofs.Math.Nat.{pow-le-pow_right}
use Rattle.comtrade_values.proofs.Short.{one_more}
use Rattle.comtrade_values.specs.Spelling.{is_blank, is_numeral, trimmed, trim_start, whole_number}
use Rattle.comtrade_values.specs.Lines.{fields}
use Rattle.comtrade_values.specs.PlainNumbers.{tail, fields_behind, before_comma, is_short, begins_short, DigitsFirst, Begins}

abbrev pub is_comma : ℕ → Bool
is_comma b = eqb b 44

-- neither a comma nor a blank
abbrev is_solid : ℕ → Bool
is_solid b = not (is_comma b) && not (is_blank b)

no : (a : Bool) → not a ≡ true → a ≡ false
no true h = absurd cc
no false h = refl

digit_solid : (d : ℕ) → is_ascii_digit d ≡ true → is_solid d ≡ true
digit_solid d h = grind (arith, nat_tests)

digits_solid : (ds : List ℕ) → all_ascii_digits ds ≡ true → list_all is_solid ds ≡ true
digits_solid [] h = refl
digits_solid (d ∷ ds) h =
    let p = and_parts (is_ascii_digit d) (all_ascii_digits ds) h in
    rw (digit_solid d p.0, digits_solid ds p.1) refl

-- ---- cutting

split_end : (f : List ℕ) → list_all is_solid f ≡ true → slice_split is_comma f ≡ f ∷ []
split_end [] h = refl
split_end (x ∷ xs) h =
    let p = and_parts (is_solid x) (list_all is_solid xs) h in
    let q = and_parts (not (is_comma x)) (not (is_blank x)) p.0 in
    rw (no (is_comma x) q.0, split_end xs p.1) refl

split_comma : (f rest : List ℕ) → list_all is_solid f ≡ true → slice_split is_comma (f ++ 44 ∷ rest) ≡ f ∷ slice_split is_comma rest
split_comma [] rest h = refl
split_comma (x ∷ xs) rest h =
    let p = and_parts (is_solid x) (list_all is_solid xs) h in
    let q = and_parts (not (is_comma x)) (not (is_blank x)) p.0 in
    rw (no (is_comma x) q.0, split_comma xs rest p.1) refl

start_solid : (f : List ℕ) → list_all is_solid f ≡ true → trim_start f ≡ f
start_solid [] h = refl
start_solid (x ∷ xs) h =
    let p = and_parts (is_solid x) (list_all is_solid xs) h in
    let q = and_parts (not (is_comma x)) (not (is_blank x)) p.0 in
    rw (no (is_blank x) q.1) refl

onto_solid : (f acc : List ℕ) → list_all is_solid f ≡ true → list_all is_solid acc ≡ true → list_all is_solid (reverse_aux f acc) ≡ true
onto_solid [] acc h k = k
onto_solid (x ∷ xs) acc h k =
    let p = and_parts (is_solid x) (list_all is_solid xs) h in
    onto_solid xs (x ∷ acc) p.1 (rw (p.0, k) refl)

reverse_solid : (f : List ℕ) → list_all is_solid f ≡ true → list_all is_solid (reverse f) ≡ true
reverse_solid f h = onto_solid f [] h refl

trimmed_solid : (f : List ℕ) → list_all is_solid f ≡ true → trimmed f ≡ f
trimmed_solid f h = rw (start_solid f h, start_solid (reverse f) (reverse_solid f h)) (reverse-reverse f)

cut_solid : (f : List ℕ) (behind : Option (List ℕ)) → list_all is_solid f ≡ true → fields (f ++ tail behind) ≡ f ∷ fields_behind behind
cut_solid f None h = let e : f ++ [] ≡ f = append-nil f in rw e (ap (map trimmed) (split_end f h) ∙ rw (trimmed_solid f h) refl)
cut_solid f (Some rest) h = ap (map trimmed) (split_comma f rest h) ∙ rw (trimmed_solid f h) refl

-- ---- reading

not_sign : (d : ℕ) → is_ascii_digit d ≡ true → (eqb d 45 ≡ false) × (eqb d 43 ≡ false)
not_sign d h = (grind (arith, nat_tests), grind (arith, nat_tests))

numeral : (ds : List ℕ) → 0 < length ds → all_ascii_digits ds ≡ true → digits_value 10 ds < 10 ^ 10 → (is_numeral ds && nat_lt (digits_value 10 ds) (10 ^ 36)) ≡ true
numeral ds some all few =
    let v : digits_value 10 ds < 10 ^ 36 = omega (arith, few) in
    rw (lt-ltb 0 (length ds) some, all, lt-ltb (digits_value 10 ds) (10 ^ 36) v) refl

whole_digits : (ds : List ℕ) → 0 < length ds → all_ascii_digits ds ≡ true → digits_value 10 ds < 10 ^ 10 → whole_number ds ≡ Some (pos (digits_value 10 ds))
whole_digits [] some all few = absurd (omega arith)
whole_digits (d ∷ ds) some all few =
    let s = not_sign d (and_parts (is_ascii_digit d) (all_ascii_digits ds) all).0 in
    rw (s.0, s.1, numeral (d ∷ ds) some all few) refl

whole_minus : (ds : List ℕ) → 0 < length ds → all_ascii_digits ds ≡ true → digits_value 10 ds < 10 ^ 10 → whole_number (45 ∷ ds) ≡ Some (neg_ℤ (pos (digits_value 10 ds)))
whole_minus ds some all few = rw (numeral ds some all few) refl

-- ---- the two forms

pub begins : (minus : Bool) (text rest : List ℕ) (n : ℕ) (behind : Option (List ℕ)) → text ≡ cond minus (45 ∷ rest) rest → DigitsFirst rest n behind → n < 10 ^ 10 → Begins text (cond minus (neg_ℤ (pos n)) (pos n)) behind
begins true text rest n behind is d few =
    let small : digits_value 10 d.digits < 10 ^ 10 = rw d.value at few in
    let solid : list_all is_solid (45 ∷ d.digits) ≡ true = digits_solid d.digits d.all in
    record {
      field = 45 ∷ d.digits;
      cut = rw (is, d.cut) (cut_solid (45 ∷ d.digits) behind solid);
      says = rw d.value (whole_minus d.digits d.some d.all small);
    }
begins false text rest n behind is d few =
    let small : digits_value 10 d.digits < 10 ^ 10 = rw d.value at few in
    record {
      field = d.digits;
      cut = rw (is, d.cut) (cut_solid d.digits behind (digits_solid d.digits d.all));
      says = rw d.value (whole_digits d.digits d.some d.all small);
    }

-- ---- a digit more

pub digits_more : (ds : List ℕ) (d : ℕ) → all_ascii_digits ds ≡ true → is_ascii_digit d ≡ true → all_ascii_digits (ds ++ d ∷ []) ≡ true
digits_more [] d h k = rw k refl
digits_more (x ∷ xs) d h k =
    let p = and_parts (is_ascii_digit x) (all_ascii_digits xs) h in
    rw (p.0, digits_more xs d p.1 k) refl

pub value_more : (ds : List ℕ) (d n : ℕ) → digits_value_after 10 n (ds ++ d ∷ []) ≡ digits_value_after 10 n ds * 10 + digit_value d
value_more [] d n = refl
value_more (x ∷ xs) d n = value_more xs d (n * 10 + digit_value x)

pub room : (n i d : ℕ) → n < 10 ^ i → i < 10 → d < 10 → (n * 10 + d < 10 ^ 10) × (n * 10 + d < 10 ^ (i + 1))
room n i d h few digit =
    let more : n * 10 + d < 10 ^ (i + 1) = one_more n i d h digit in
    let top : 10 ^ (i + 1) ≤ 10 ^ 10 = pow-le-pow_right {n = 10} (omega arith) {i = i + 1} {j = 10} (omega arith) in
    (omega arith, more)

-- ---- where a text begins with a number in its plain spelling

ends_here : (b : ℕ) (bs : List ℕ) → is_comma b ≡ true → before_comma (b ∷ bs) ≡ []
ends_here b bs h = rw h refl

pub goes_on : (b : ℕ) (bs : List ℕ) → is_comma b ≡ false → before_comma (b ∷ bs) ≡ b ∷ before_comma bs
goes_on b bs h =
    let k : ℕ = position_or_len (λ x. x == 44) bs in
    let on : 1 + k ≡ suc k = omega arith in
    rw h (ap (λ n. take n (b ∷ bs)) on)

pub at_front : (t : Bool) (b : ℕ) (bs : List ℕ) → is_comma b ≡ t → before_comma (b ∷ bs) ≡ cond t [] (b ∷ before_comma bs)
at_front true b bs h = ends_here b bs h
at_front false b bs h = goes_on b bs h

before_digits : (ds rest : List ℕ) → all_ascii_digits ds ≡ true → before_comma (ds ++ rest) ≡ ds ++ before_comma rest
before_digits [] rest h = refl
before_digits (d ∷ ds) rest h =
    let p = and_parts (is_ascii_digit d) (all_ascii_digits ds) h in
    let s = and_parts (not (is_comma d)) (not (is_blank d)) (digit_solid d p.0) in
    goes_on d (ds ++ rest) (no (is_comma d) s.0) ∙ ap (λ l. d ∷ l) (before_digits ds rest p.1)

pub before : (text : List ℕ) (n : ℕ) → all_ascii_digits (take n text) ≡ true → before_comma text ≡ take n text ++ before_comma (drop n text)
before text n h = ap before_comma (sym (take-append-drop n text)) ∙ before_digits (take n text) (drop n text) h

pub short_digits : (text : List ℕ) (n : ℕ) → n ≤ length text → 0 < n → n ≤ 10 → all_ascii_digits (take n text) ≡ true → before_comma (drop n text) ≡ [] → begins_short text ≡ true
unfolding begins_short
short_digits text n within some few all ends =
    let len : length (take n text) ≡ n = length-take-le n text within in
    let e : before_comma text ≡ take n text = before text n all ∙ rw ends (append-nil (take n text)) in
    rw (e, len, all, lt-ltb 0 n some, le-leb n 10 few) refl

pub not_digits : (ds : List ℕ) (y : ℕ) (ys : List ℕ) → is_ascii_digit y ≡ false → all_ascii_digits (ds ++ y ∷ ys) ≡ false
not_digits [] y ys h = rw h refl
not_digits (d ∷ ds) y ys h = rw (not_digits ds y ys h, and-false (is_ascii_digit d)) refl

-- the text ends after its digits
pub short_end : (text : List ℕ) (n : ℕ) → n ≤ length text → length text ≤ n → (n ≡ 0 → ⊥) → n ≤ 10 → all_ascii_digits (take n text) ≡ true → begins_short text ≡ true
short_end text n within past some few all = short_digits text n within (omega arith) few all (rw (drop_all n text past) refl)

-- a comma stands after them
pub short_comma : (text : List ℕ) (n : ℕ) → n < length text → (n ≡ 0 → ⊥) → n ≤ 10 → all_ascii_digits (take n text) ≡ true → get_or text n 0 ≡ 44 → begins_short text ≡ true
short_comma text n inside some few all comma = short_digits text n (omega arith) (omega arith) few all (rw (drop_more text n 0 inside, comma) refl)

pub no_second : (a c : Bool) → (a && false && c) ≡ false
no_second true c = refl
no_second false c = refl

pub no_third : (a b : Bool) → (a && b && false) ≡ false
no_third true b = and-false b
no_third false b = refl

none_short : (t : Bool) (b : ℕ) (rest : List ℕ) → is_ascii_digit b ≡ false → is_short (cond t [] (b ∷ rest)) ≡ false
none_short true b rest h = refl
none_short false b rest h = rw h (no_third (ltb 0 (suc (length rest))) (leb (suc (length rest)) 10))

-- no digit stands first
pub no_digit : (text : List ℕ) → is_ascii_digit (get_or text 0 0) ≡ false → begins_short text ≡ false
unfolding begins_short
no_digit [] h = refl
no_digit (b ∷ bs) h = ap is_short (at_front (is_comma b) b bs refl) ∙ none_short (is_comma b) b (before_comma bs) h

ends_short : (t : Bool) (ds : List ℕ) (y : ℕ) (ys : List ℕ) → ltb (length ds) 10 ≡ t → (t && is_ascii_digit y) ≡ false → is_short (ds ++ y ∷ ys) ≡ false
ends_short true ds y ys e h = rw (not_digits ds y ys h) (no_third (ltb 0 (length (ds ++ y ∷ ys))) (leb (length (ds ++ y ∷ ys)) 10))
ends_short false ds y ys e h =
    let many : 10 ≤ length ds = ltb-false (length ds) 10 e in
    let long : leb (length (ds ++ y ∷ ys)) 10 ≡ false = rw (length-append ds (y ∷ ys)) (lt-leb (length ds + suc (length ys)) 10 (omega arith)) in
    rw long (no_second (ltb 0 (length (ds ++ y ∷ ys))) (all_ascii_digits (ds ++ y ∷ ys)))

-- something else stands after ten digits, or no digit after fewer
pub short_stops : (text : List ℕ) (n : ℕ) → n < length text → all_ascii_digits (take n text) ≡ true → (ltb n 10 && is_ascii_digit (get_or text n 0)) ≡ false → (get_or text n 0 ≡ 44 → ⊥) → begins_short text ≡ false
unfolding begins_short
short_stops text n inside all stops no_comma =
    let y : ℕ = get_or text n 0 in
    let ys : List ℕ = before_comma (drop (n + 1) text) in
    let len : length (take n text) ≡ n = length-take-le n text (omega arith) in
    let behind : before_comma (drop n text) ≡ y ∷ ys = ap before_comma (drop_more text n 0 inside) ∙ goes_on y (drop (n + 1) text) (ne_eqb y 44 no_comma) in
    let e : before_comma text ≡ take n text ++ y ∷ ys = before text n all ∙ rw behind refl in
    rw e (ends_short (ltb n 10) (take n text) y ys (rw len refl) stops)
