-- A number that is capped on the way is the capped number.
use Rattle.std.specs.Prelude.{◌&&◌}
use Rattle.std.proofs.lemmas.Bool.{lt-ltb}
use Rattle.comtrade_values.specs.Spelling.{capped_size}
use Rattle.std.proofs.Common.{suc, Bool, false, cond, ltb, ◌^◌, ◌++◌, Option, Some, None, ap, length-append, ◌≡◌, ℕ, ◌+◌, ◌-◌, ◌*◌, ◌<◌, min, List, [], ◌∷◌, length, drop, get_or, true, arith, refl, sym, ◌∙◌, add-one, drop-cons}
use Rattle.std.specs.Char.{digit_value, is_ascii_digit}
use Rattle.std.specs.Str.{all_ascii_digits}
use Rattle.std.specs.Str.Parse.{digits_value_after}
use Rattle.std.proofs.lemmas.Grind.{common_steps}

step : (m n v limit : ℕ) → min m limit ≡ min n limit → min (m * 10 + v) limit ≡ min (n * 10 + v) limit
step m n v limit e = omega arith

-- numbers that are the same up to the limit stay so, whatever digits follow
pub same_capped : (ds : List ℕ) (m n limit : ℕ) → min m limit ≡ min n limit → min (digits_value_after 10 m ds) limit ≡ min (digits_value_after 10 n ds) limit
same_capped [] m n limit e = e
same_capped (c ∷ cs) m n limit e = same_capped cs (m * 10 + digit_value c) (n * 10 + digit_value c) limit (step m n (digit_value c) limit e)

pub digit_is : (c : ℕ) → is_ascii_digit c ≡ true → digit_value c ≡ c - 48
digit_is c d = grind (arith, common_steps)

-- one more digit
pub capped_more : (ds : List ℕ) (i n next limit total : ℕ) → i < length ds → is_ascii_digit (get_or ds i 0) ≡ true → next ≡ min (n * 10 + (get_or ds i 0 - 48)) limit
    → min (digits_value_after 10 n (drop i ds)) limit ≡ total → min (digits_value_after 10 next (drop (i + 1) ds)) limit ≡ total
capped_more ds i n next limit total lt digit is h =
    let c = get_or ds i 0 in
    let v : digit_value c ≡ c - 48 = digit_is c digit in
    let e : min next limit ≡ min (n * 10 + digit_value c) limit = omega arith in
    let before = rw (drop-cons ds i 0 lt) at h in
    rw add-one (same_capped (drop (suc i) ds) next (n * 10 + digit_value c) limit e ∙ before)

pub digits_more : (ds : List ℕ) (i : ℕ) → i < length ds → is_ascii_digit (get_or ds i 0) ≡ true → all_ascii_digits (drop (i + 1) ds) ≡ all_ascii_digits (drop i ds)
digits_more ds i lt digit = rw (add-one, drop-cons ds i 0 lt, digit) refl

and_assoc : (a b c : Bool) → (a && (b && c)) ≡ ((a && b) && c)
and_assoc true b c = refl
and_assoc false b c = refl

digits_append : (xs ys : List ℕ) → all_ascii_digits (xs ++ ys) ≡ (all_ascii_digits xs && all_ascii_digits ys)
digits_append [] ys = refl
digits_append (x ∷ xs) ys = rw (digits_append xs ys) (and_assoc (is_ascii_digit x) (all_ascii_digits xs) (all_ascii_digits ys))

value_append : (xs ys : List ℕ) (n : ℕ) → digits_value_after 10 n (xs ++ ys) ≡ digits_value_after 10 (digits_value_after 10 n xs) ys
value_append [] ys n = refl
value_append (x ∷ xs) ys n = value_append xs ys (n * 10 + digit_value x)

abbrev no_size : Option ℕ
no_size = None

size_is : (xs ys : List ℕ) → 0 < length xs + length ys → capped_size (xs ++ ys) ≡ cond (all_ascii_digits xs && all_ascii_digits ys) (Some (min (digits_value_after 10 (digits_value_after 10 0 xs) ys) (10 ^ 36))) None
size_is xs ys some =
    let t : ltb 0 (length (xs ++ ys)) ≡ true = lt-ltb 0 (length (xs ++ ys)) (omega (arith, length-append xs ys)) in
    rw (t, digits_append xs ys, value_append xs ys 0) refl

test_some : (a b : Bool) (n v w limit : ℕ) (ys : List ℕ) (r : Option ℕ) → cond a (Some (min v limit)) None ≡ Some n → r ≡ cond b (Some (min (digits_value_after 10 n ys) limit)) None
    → r ≡ cond (a && b) (Some (min (digits_value_after 10 v ys) limit)) None
test_some true true n v w limit ys r e h =
    let vn : min v limit ≡ n = cc in
    h ∙ ap (λ (x : ℕ). Some x) (same_capped ys n v limit (omega arith))
test_some true false n v w limit ys r e h = h
test_some false b n v w limit ys r e h = absurd cc

-- two runs of digits, one after the other
pub size_some : (xs ys : List ℕ) (n : ℕ) (r : Option ℕ) → 0 < length xs + length ys → cond (all_ascii_digits xs) (Some (min (digits_value_after 10 0 xs) (10 ^ 36))) None ≡ Some n
    → r ≡ cond (all_ascii_digits ys) (Some (min (digits_value_after 10 n ys) (10 ^ 36))) None → r ≡ capped_size (xs ++ ys)
size_some xs ys n r some e h = test_some (all_ascii_digits xs) (all_ascii_digits ys) n (digits_value_after 10 0 xs) 0 (10 ^ 36) ys r e h ∙ sym (size_is xs ys some)

test_none : (a b : Bool) (v w : ℕ) → cond a (Some v) None ≡ no_size → cond (a && b) (Some w) None ≡ no_size
test_none true b v w e = absurd cc
test_none false b v w e = refl

pub size_none : (xs ys : List ℕ) → 0 < length xs + length ys → cond (all_ascii_digits xs) (Some (min (digits_value_after 10 0 xs) (10 ^ 36))) None ≡ no_size → no_size ≡ capped_size (xs ++ ys)
size_none xs ys some e = sym (size_is xs ys some ∙ test_none (all_ascii_digits xs) (all_ascii_digits ys) _ _ e)
