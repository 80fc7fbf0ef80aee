-- Digits of one length sort as the numbers that they spell, so names sort as their dates and times of day.
use Rattle.std.proofs.Common.{◌≡◌, ◌≤◌, ◌<◌, ◌+◌, ◌*◌, ◌^◌, ℕ, true, List, [], ◌∷◌, ◌++◌, length, sym, ◌∙◌, ap, subst, inl, inr, arith}
use Rattle.std.specs.Char.{digit_value, is_ascii_digit}
use Rattle.std.specs.Cmp.Lexicographic.{slice_cmp}
use Rattle.std.specs.Ordering.{nat_cmp, ordering_then}
use Rattle.std.specs.Str.{all_ascii_digits}
use Rattle.std.specs.Str.Parse.{digits_value, digits_value_after}
use Rattle.std.specs.declared.cmp.Ordering.TheVariants.{Less, Equal}
use Rattle.std.proofs.lemmas.Bool.{cases_order}
use Rattle.std.proofs.lemmas.Grind.{common_steps}
use Rattle.comtrade_values.specs.Written.{padded}
use Rattle.comtrade_values.proofs.Capped.{digit_is}
use Rattle.comtrade_values.proofs.Short.{digit_few}
use Rattle.dfr_folder.specs.declared.name.Key.{Key}
use Rattle.dfr_folder.specs.declared.name.Name.{Name}
use Rattle.dfr_folder.specs.Sorting.{IsEarlier, SortsBefore}
use Rattle.dfr_folder.specs.Texts.{ending_text, name_text, numbers_text}
use Rattle.dfr_folder.proofs.SeenLemmas.{both}
use Rattle.dfr_folder.proofs.TextLemmas.{few_digits, name_is, padded_digits, padded_length, padded_value}

less_is : (m n : ℕ) → m < n → nat_cmp m n ≡ Less
less_is m n h = grind (arith, common_steps)

same_is : (m : ℕ) → nat_cmp m m ≡ Equal
same_is m = grind (arith, common_steps)

digit_low : (c : ℕ) → is_ascii_digit c ≡ true → 48 ≤ c
digit_low c is = grind (arith, common_steps)

-- a digit that is less, first
less_first : (c d : ℕ) (xs ys : List ℕ) → c < d → SortsBefore (c ∷ xs) (d ∷ ys)
less_first c d xs ys less = ap (λ r. ordering_then r (slice_cmp nat_cmp xs ys)) (less_is c d less)

same_first : (c : ℕ) (xs ys : List ℕ) → SortsBefore xs ys → SortsBefore (c ∷ xs) (c ∷ ys)
same_first c xs ys before = ap (λ r. ordering_then r (slice_cmp nat_cmp xs ys)) (same_is c) ∙ before

-- behind the same bytes
pub same_front : (front xs ys : List ℕ) → SortsBefore xs ys → SortsBefore (front ++ xs) (front ++ ys)
same_front [] xs ys before = before
same_front (c ∷ cs) xs ys before = same_first c (cs ++ xs) (cs ++ ys) (same_front cs xs ys before)

-- digits of one length behind a smaller number spell a smaller one
after_less : (xs ys : List ℕ) (m n : ℕ) → length xs ≡ length ys → all_ascii_digits xs ≡ true → all_ascii_digits ys ≡ true → m < n → digits_value_after 10 m xs < digits_value_after 10 n ys
after_less [] [] m n len dx dy less = less
after_less [] (d ∷ ds) m n len dx dy less = absurd (omega (arith, len))
after_less (c ∷ cs) [] m n len dx dy less = absurd (omega (arith, len))
after_less (c ∷ cs) (d ∷ ds) m n len dx dy less =
    let x = both (is_ascii_digit c) (all_ascii_digits cs) dx in
    let y = both (is_ascii_digit d) (all_ascii_digits ds) dy in
    let v : digit_value c < 10 = subst (λ (k : ℕ). k < 10) (sym (digit_is c x.0)) (digit_few c x.0) in
    let more : m * 10 + digit_value c < n * 10 + digit_value d = omega (arith, v, less) in
    after_less cs ds (m * 10 + digit_value c) (n * 10 + digit_value d) (omega (arith, len)) x.1 y.1 more

digits_before : (xs ys r s : List ℕ) (n : ℕ) → length xs ≡ length ys → all_ascii_digits xs ≡ true → all_ascii_digits ys ≡ true
    → digits_value_after 10 n xs < digits_value_after 10 n ys → SortsBefore (xs ++ r) (ys ++ s)
digits_before [] [] r s n len dx dy less = absurd (omega (arith, less))
digits_before [] (d ∷ ds) r s n len dx dy less = absurd (omega (arith, len))
digits_before (c ∷ cs) [] r s n len dx dy less = absurd (omega (arith, len))
digits_before (c ∷ cs) (d ∷ ds) r s n len dx dy less =
    let x = both (is_ascii_digit c) (all_ascii_digits cs) dx in
    let y = both (is_ascii_digit d) (all_ascii_digits ds) dy in
    let left : length cs ≡ length ds = omega (arith, len) in
    elim (cases_order c d) [
      | inl same ↦ (let there = subst (λ (k : ℕ). digits_value_after 10 (n * 10 + digit_value c) cs < digits_value_after 10 (n * 10 + digit_value k) ds) (sym same) less in
          subst (λ (k : ℕ). SortsBefore (c ∷ (cs ++ r)) (k ∷ (ds ++ s))) same (same_first c (cs ++ r) (ds ++ s) (digits_before cs ds r s (n * 10 + digit_value c) left x.1 y.1 there)))
      | inr (inl lower) ↦ less_first c d (cs ++ r) (ds ++ s) lower
      | inr (inr higher) ↦ (let vc = digit_is c x.0 in
          let vd = digit_is d y.0 in
          let low = digit_low d y.0 in
          let more : n * 10 + digit_value d < n * 10 + digit_value c = omega (arith, vc, vd, low, higher) in
          absurd (omega (arith, less, after_less ds cs (n * 10 + digit_value d) (n * 10 + digit_value c) (sym left) y.1 x.1 more)))
    ]

-- numbers with zeros in front
pub padded_before : (w m n : ℕ) (r s : List ℕ) → 0 < w → w ≤ 8 → m < 10 ^ w → n < 10 ^ w → m < n → SortsBefore (padded w m ++ r) (padded w n ++ s)
padded_before w m n r s some short small fits less =
    let few = few_digits m w short small in
    let top = few_digits n w short fits in
    digits_before (padded w m) (padded w n) r s 0 (padded_length w m some small few ∙ sym (padded_length w n some fits top)) (padded_digits w m few) (padded_digits w n top)
    (subst (λ (k : ℕ). k < digits_value 10 (padded w n)) (sym (padded_value w m few)) (subst (λ (k : ℕ). m < k) (sym (padded_value w n top)) less))

-- the parts of a name that say its instant have their digits
abbrev pub HasDigits : Key → Type 0
HasDigits key = (key.date < 10 ^ 8) × (key.time < 10 ^ 6) × (key.micros < 10 ^ 6)

micros_before : (k l : ℕ) (r s : List ℕ) → k < 10 ^ 6 → l < 10 ^ 6 → k < l → SortsBefore (46 ∷ (padded 6 k ++ r)) (46 ∷ (padded 6 l ++ s))
micros_before k l r s fk fl less = same_first 46 (padded 6 k ++ r) (padded 6 l ++ s) (padded_before 6 k l r s (omega arith) (omega arith) fk fl less)

-- the name of an earlier date or time of day sorts before the other
pub earlier_before : (a b : Name) → HasDigits a.key → HasDigits b.key → IsEarlier a.key b.key → SortsBefore (name_text a) (name_text b)
earlier_before a b da db earlier =
    let ra = 45 ∷ (numbers_text a.key.number a.key.copy ++ (46 ∷ ending_text a.ending)) in
    let rb = 45 ∷ (numbers_text b.key.number b.key.copy ++ (46 ∷ ending_text b.ending)) in
    let ma = 46 ∷ (padded 6 a.key.micros ++ ra) in
    let mb = 46 ∷ (padded 6 b.key.micros ++ rb) in
    let ta = 84 ∷ (padded 6 a.key.time ++ ma) in
    let tb = 84 ∷ (padded 6 b.key.time ++ mb) in
    let all : SortsBefore (padded 8 a.key.date ++ ta) (padded 8 b.key.date ++ tb) = elim earlier [
      | inl date ↦ padded_before 8 a.key.date b.key.date ta tb (omega arith) (omega arith) da.0 db.0 date
      | inr (date, inl time) ↦ subst (λ (d : ℕ). SortsBefore (padded 8 a.key.date ++ ta) (padded 8 d ++ tb)) date (same_front (padded 8 a.key.date) ta tb
          (same_first 84 (padded 6 a.key.time ++ ma) (padded 6 b.key.time ++ mb) (padded_before 6 a.key.time b.key.time ma mb (omega arith) (omega arith) da.1 db.1 time)))
      | inr (date, inr micros) ↦ subst (λ (d : ℕ). SortsBefore (padded 8 a.key.date ++ ta) (padded 8 d ++ tb)) date (same_front (padded 8 a.key.date) ta tb
          (same_first 84 (padded 6 a.key.time ++ ma) (padded 6 b.key.time ++ mb)
          (subst (λ (t : ℕ). SortsBefore (padded 6 a.key.time ++ ma) (padded 6 t ++ mb)) micros.0 (same_front (padded 6 a.key.time) ma mb (micros_before a.key.micros b.key.micros ra rb da.2 db.2 micros.1)))))
    ] in
    subst (λ (xs : List ℕ). SortsBefore xs (name_text b)) (sym (name_is a)) (subst (λ (ys : List ℕ). SortsBefore (padded 8 a.key.date ++ ta) ys) (sym (name_is b)) all)
