-- Four digits that are looked at together.
use Rattle.std.proofs.Common.{◌≡◌, ℕ, ◌+◌, ◌-◌, ◌*◌, ◌%◌, ◌^◌, ◌<◌, ◌≤◌, Bool, true, false, cond, eqb, ltb, List, [], ◌∷◌, map, length, take, get_or, refl, arith}
use Rattle.std.proofs.lemmas.Bool.{and_parts}
use Rattle.std.specs.Prelude.{not, ◌&&◌}
use Rattle.std.specs.Char.{is_ascii_digit}
use Rattle.std.specs.Str.{all_ascii_digits}
use Rattle.std.specs.Str.Parse.{digits_value}
use Rattle.std.proofs.lemmas.Bool.Decides.{nat_tests}
use lib.Lanes.{zip2, mask_l, top, dots}
use mir.Syntax.{w8}
use mir.Val.{Fits}
use Rattle.comtrade_values.proofs.Capped.{digit_is}

-- a byte less another, which wraps around
abbrev less : ℕ → ℕ → ℕ
less a b = (a + (256 - b)) % 256

abbrev pub less_48 : List ℕ → List ℕ
less_48 four = zip2 less four (48 ∷ 48 ∷ 48 ∷ 48 ∷ [])

abbrev below : ℕ → ℕ → ℕ
below a b = cond (ltb a b) 255 0

-- a bit for each of the four bytes, set where it is no digit
abbrev pub judged : List ℕ → ℕ
judged four = mask_l (map (top 7) (zip2 below (9 ∷ 9 ∷ 9 ∷ 9 ∷ []) (less_48 four))) % 2 ^ 64

abbrev marks : Bool → Bool → Bool → Bool → ℕ
marks p q r s = mask_l (map (top 7) (cond (not p) 255 0 ∷ cond (not q) 255 0 ∷ cond (not r) 255 0 ∷ cond (not s) 255 0 ∷ [])) % 2 ^ 64

none_marked : (p q r s : Bool) → eqb (marks p q r s) 0 ≡ (p && (q && (r && (s && true))))
none_marked true true true true = refl
none_marked true true true false = refl
none_marked true true false true = refl
none_marked true true false false = refl
none_marked true false true true = refl
none_marked true false true false = refl
none_marked true false false true = refl
none_marked true false false false = refl
none_marked false true true true = refl
none_marked false true true false = refl
none_marked false true false true = refl
none_marked false true false false = refl
none_marked false false true true = refl
none_marked false false true false = refl
none_marked false false false true = refl
none_marked false false false false = refl

digit_less : (a : ℕ) → Fits w8 a → ltb 9 (less a 48) ≡ not (is_ascii_digit a)
digit_less a h = let few : a < 256 = h.fits in grind (arith, nat_tests)

less_is : (a : ℕ) → is_ascii_digit a ≡ true → less a 48 ≡ a - 48
less_is a h = grind (arith, nat_tests)

pub judges : (text : List ℕ) → ((k : ℕ) → Fits w8 (get_or text k 0)) → 4 ≤ length text → eqb (judged (take 4 text)) 0 ≡ all_ascii_digits (take 4 text)
judges [] fits long = absurd (omega arith)
judges (a ∷ []) fits long = absurd (omega arith)
judges (a ∷ b ∷ []) fits long = absurd (omega arith)
judges (a ∷ b ∷ c ∷ []) fits long = absurd (omega arith)
judges (a ∷ b ∷ c ∷ d ∷ rest) fits long =
    rw (digit_less a (fits 0), digit_less b (fits 1), digit_less c (fits 2), digit_less d (fits 3))
    (none_marked (is_ascii_digit a) (is_ascii_digit b) (is_ascii_digit c) (is_ascii_digit d))

pub value_is : (text : List ℕ) → 4 ≤ length text → all_ascii_digits (take 4 text) ≡ true
    → get_or (dots (less_48 (take 4 text)) (100 ∷ 10 ∷ 1 ∷ 0 ∷ [])) 0 0 * 10 + (get_or text 3 0 - 48) ≡ digits_value 10 (take 4 text)
value_is [] long h = absurd (omega arith)
value_is (a ∷ []) long h = absurd (omega arith)
value_is (a ∷ b ∷ []) long h = absurd (omega arith)
value_is (a ∷ b ∷ c ∷ []) long h = absurd (omega arith)
value_is (a ∷ b ∷ c ∷ d ∷ rest) long h =
    let p = and_parts (is_ascii_digit a) (all_ascii_digits (b ∷ c ∷ d ∷ [])) h in
    let q = and_parts (is_ascii_digit b) (all_ascii_digits (c ∷ d ∷ [])) p.1 in
    let r = and_parts (is_ascii_digit c) (all_ascii_digits (d ∷ [])) q.1 in
    let s = and_parts (is_ascii_digit d) (all_ascii_digits []) r.1 in
    rw (less_is a p.0, less_is b q.0, less_is c r.0, digit_is a p.0, digit_is b q.0, digit_is c r.0, digit_is d s.0) (omega arith)
