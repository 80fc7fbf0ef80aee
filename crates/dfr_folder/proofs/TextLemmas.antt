-- Texts of digits, and a text cut at a byte.
use Rattle.std.proofs.Common.{◌≡◌, ◌⊎◌, ◌≤◌, ◌<◌, ◌+◌, ◌-◌, ◌^◌, ℕ, zero, suc, Bool, true, false, ◌==◌, if◌then◌else◌, Option, Some, None, List, [], ◌∷◌, ◌++◌, length, take, drop, get_or, refl, sym, ◌∙◌, ap, subst, inl, inr, ⊎_elim, arith, append-nil, append_assoc, length-append}
use Rattle.std.specs.Prelude.{IfSome}
use Rattle.std.specs.Char.{is_ascii_digit}
use Rattle.std.specs.List.{repeat}
use Rattle.std.specs.Fmt.{decimal}
use Rattle.std.specs.Str.{all_ascii_digits}
use Rattle.std.specs.Str.Parse.{digits_value}
use Rattle.std.proofs.Math.ListN.{get_or-append}
use Rattle.std.proofs.Math.Nat.{pow-le-pow_right}
use Rattle.std.proofs.Math.Seq.{get_or-append_seam, drop-append-add, take-append_seam, take-length}
use Rattle.std.proofs.lemmas.Bool.{cases_lt, cases_Bool, eqb-true, eq-eqb}
use Rattle.std.proofs.lemmas.Fmt.{decimal_digit, decimal-digits_value, digits_decimal, digits_value-decimal, first_decimal, length-decimal-le}
use Rattle.std.proofs.lemmas.List.{get_or_default}
use Rattle.std.proofs.lemmas.List.Elements.{All-append, All-cons}
use Rattle.std.proofs.lemmas.Str.Parse.{IsNumeralModel, numerals_by_value, tells_all_ascii_digits, digits_value_short, not_in_digits}
use Rattle.comtrade_values.specs.Written.{filled, padded}
use Rattle.dfr_folder.specs.declared.name.Ending.{Ending}
use Rattle.dfr_folder.specs.declared.name.Ending.TheVariants as ending
use Rattle.dfr_folder.specs.declared.name.Name.{Name}
use Rattle.dfr_folder.specs.Texts.{Lacks, ending_text, key_text, name_text, numbers_text}
use Rattle.dfr_folder.proofs.SeenLemmas.{both, true_false}

pub own : IsNumeralModel (λ ds. all_ascii_digits ds ≡ true) (digits_value 10)
own = numerals_by_value (λ ds. all_ascii_digits ds ≡ true) tells_all_ascii_digits

-- the first such byte stands behind what lacks it
pub cut_at : (xs front rest : List ℕ) (mark i : ℕ) → Lacks mark front → xs ≡ front ++ mark ∷ rest → get_or xs i 0 ≡ mark → ((k : ℕ) → k < i → get_or xs k 0 ≡ mark → ⊥) → i ≡ length front
cut_at xs front rest mark i lacks is here before = elim (cases_lt i (length front)) [
  | inl lt ↦ absurd (lacks i 0 lt (sym (get_or-append front (mark ∷ rest) 0 i lt) ∙ ap (λ (ys : List ℕ). get_or ys i 0) (sym is) ∙ here))
  | inr le ↦ elim (cases_lt (length front) i) [
    | inl lt ↦ absurd (before (length front) lt (ap (λ (ys : List ℕ). get_or ys (length front) 0) is ∙ get_or-append_seam front mark rest 0))
    | inr ge ↦ omega arith
  ]
]

pub front_is : (xs front rest : List ℕ) (mark i : ℕ) → xs ≡ front ++ mark ∷ rest → i ≡ length front → take i xs ≡ front
front_is xs front rest mark i is at = rw (at, is) (take-append_seam front (mark ∷ rest))

pub rest_is : (xs front rest : List ℕ) (mark i : ℕ) → xs ≡ front ++ mark ∷ rest → i ≡ length front → take (length xs - (i + 1)) (drop (i + 1) xs) ≡ rest
rest_is xs front rest mark i is at =
    let behind : drop (i + 1) xs ≡ rest = rw (at, is) (drop-append-add front (mark ∷ rest) 1) in
    let len : length xs ≡ length front + (length rest + 1) = ap (λ (ys : List ℕ). length ys) is ∙ length-append front (mark ∷ rest) ∙ omega arith in
    let all : length xs - (i + 1) ≡ length rest = omega (arith, len, at) in
    rw (behind, all) (take-length rest)

pub lacks_all : (xs : List ℕ) (mark : ℕ) → ((k : ℕ) → k < length xs → get_or xs k 0 ≡ mark → ⊥) → Lacks mark xs
lacks_all xs mark none k d less is = none k less (get_or_default xs k 0 d less ∙ is)

-- the mark is there
pub not_lacked : (xs front rest : List ℕ) (mark : ℕ) → xs ≡ front ++ mark ∷ rest → Lacks mark xs → ⊥
not_lacked xs front rest mark is lacks =
    let len : length xs ≡ length front + (length rest + 1) = ap (λ (ys : List ℕ). length ys) is ∙ length-append front (mark ∷ rest) ∙ omega arith in
    lacks (length front) 0 (omega (arith, len)) (ap (λ (ys : List ℕ). get_or ys (length front) 0) is ∙ get_or-append_seam front mark rest 0)

-- digits
pub digits_lack : (ds : List ℕ) (mark : ℕ) → all_ascii_digits ds ≡ true → mark < 48 ⊎ 57 < mark → Lacks mark ds
digits_lack ds mark digits out = lacks_all ds mark (λ k less is. not_in_digits own ds mark digits (λ r. ⊎_elim (λ low. absurd (omega (arith, r.0, low))) (λ high. absurd (omega (arith, r.1, high))) out) k less is)

-- zeros in front
zeros_digits : (k : ℕ) (ds : List ℕ) → all_ascii_digits (repeat k (48 ∷ []) ++ ds) ≡ all_ascii_digits ds
zeros_digits zero ds = refl
zeros_digits (suc k) ds = zeros_digits k ds

zeros_value : (k : ℕ) (ds : List ℕ) → digits_value 10 (repeat k (48 ∷ []) ++ ds) ≡ digits_value 10 ds
zeros_value zero ds = refl
zeros_value (suc k) ds = zeros_value k ds

zeros_length : (k : ℕ) (ds : List ℕ) → length (repeat k (48 ∷ []) ++ ds) ≡ k + length ds
zeros_length zero ds = omega arith
zeros_length (suc k) ds = omega (arith, zeros_length k ds)

pub padded_digits : (w n : ℕ) → n < 2 ^ 64 → all_ascii_digits (padded w n) ≡ true
unfolding padded filled
padded_digits w n few = zeros_digits (w - length (decimal n)) (decimal n) ∙ digits_decimal own n few

pub padded_value : (w n : ℕ) → n < 2 ^ 64 → digits_value 10 (padded w n) ≡ n
unfolding padded filled
padded_value w n few = zeros_value (w - length (decimal n)) (decimal n) ∙ digits_value-decimal own n few

pub few_digits : (n w : ℕ) → w ≤ 8 → n < 10 ^ w → n < 2 ^ 64
few_digits n w short small =
    let top : 10 ^ w ≤ 10 ^ 8 = pow-le-pow_right {n = 10} (omega arith) {i = w} {j = 8} short in
    omega (arith, top, small)

pub padded_length : (w n : ℕ) → 0 < w → n < 10 ^ w → n < 2 ^ 64 → length (padded w n) ≡ w
unfolding padded filled
padded_length w n some small few = omega (arith, zeros_length (w - length (decimal n)) (decimal n), length-decimal-le w n some small few)

same_first : (c : ℕ) (cs : List ℕ) → c ≡ 48 → digits_value 10 (c ∷ cs) ≡ digits_value 10 cs
same_first c cs is = rw is refl

no_zeros : (ds : List ℕ) → filled (length ds) ds ≡ ds
unfolding filled
no_zeros ds = let none : length ds - length ds ≡ 0 = omega arith in rw none refl

plain_filled : (ds : List ℕ) → all_ascii_digits ds ≡ true → 0 < length ds → (get_or ds 0 0 ≡ 48 → length ds ≡ 1) → digits_value 10 ds < 2 ^ 64 → padded (length ds) (digits_value 10 ds) ≡ ds
unfolding padded
plain_filled ds digits some first few = rw (decimal-digits_value own ds digits some first few) (no_zeros ds)

one_zero : (w v : ℕ) (cs : List ℕ) → length (decimal v) ≤ w → padded w v ≡ cs → padded (w + 1) v ≡ 48 ∷ cs
unfolding padded filled
one_zero w v cs fits is =
    let more : w + 1 - length (decimal v) ≡ suc (w - length (decimal v)) = omega arith in
    rw more (ap (λ (xs : List ℕ). 48 ∷ xs) is)

pub value_few : (ds : List ℕ) → all_ascii_digits ds ≡ true → length ds ≤ 19 → digits_value 10 ds < 2 ^ 64
value_few ds digits few = let v : digits_value 10 ds < 10 ^ 19 = digits_value_short own ds 19 digits few in omega (arith, v)

padded_back : (ds : List ℕ) → all_ascii_digits ds ≡ true → 0 < length ds → length ds ≤ 19 → padded (length ds) (digits_value 10 ds) ≡ ds
padded_back [] digits some few = absurd (omega arith)
padded_back (c ∷ cs) digits some few = elim (cases_lt 0 (length cs)) [
  | inr none ↦ plain_filled (c ∷ cs) digits some (λ is. omega arith) (value_few (c ∷ cs) digits few)
  | inl more ↦ elim (cases_Bool (c == 48)) [
    | inl zero_first ↦
        let is : c ≡ 48 = eqb-true c 48 zero_first in
        let rest = (both (is_ascii_digit c) (all_ascii_digits cs) digits).1 in
        let v : digits_value 10 cs < 2 ^ 64 = value_few cs rest (omega arith) in
        let fits : length (decimal (digits_value 10 cs)) ≤ length cs = length-decimal-le (length cs) (digits_value 10 cs) more (digits_value_short own cs (length cs) rest (omega arith)) v in
        let back = one_zero (length cs) (digits_value 10 cs) cs fits (padded_back cs rest more (omega arith)) in
        let len : length (c ∷ cs) ≡ length cs + 1 = omega arith in
        rw (len, same_first c cs is, back) (ap (λ (x : ℕ). x ∷ cs) (sym is))
    | inr other ↦ plain_filled (c ∷ cs) digits some (λ is. absurd (true_false other (eq-eqb c 48 is))) (value_few (c ∷ cs) digits few)
  ]
]

pub padded_is : (w : ℕ) (ds : List ℕ) → all_ascii_digits ds ≡ true → length ds ≡ w → 0 < w → w ≤ 19 → ds ≡ padded w (digits_value 10 ds)
padded_is w ds digits len some few = sym (subst (λ (k : ℕ). padded k (digits_value 10 ds) ≡ ds) len (padded_back ds digits (omega (arith, len)) (omega (arith, len))))

-- what was read of digits
picked : (b : Bool) (v n : ℕ) (r : Option ℕ) → r ≡ (if b then Some v else None) → b ≡ true → v ≡ n → r ≡ Some n
picked true v n r is digits same = is ∙ ap (λ (k : ℕ). Some k) same
picked false v n r is digits same = absurd (cc digits)

pub reads_digits : (ds : List ℕ) (n : ℕ) (r : Option ℕ) → r ≡ (if all_ascii_digits ds then Some (digits_value 10 ds) else None) → all_ascii_digits ds ≡ true → digits_value 10 ds ≡ n → r ≡ Some n
reads_digits ds n r is digits value = picked (all_ascii_digits ds) (digits_value 10 ds) n r is digits value

some_if : (b : Bool) (v : ℕ) (P : ℕ → Type 0) → (b ≡ true → P v) → IfSome (if b then Some v else None) P
some_if true v P holds = holds refl
some_if false v P holds = tt

-- what holds of the number of digits
pub of_digits : (ds : List ℕ) (r : Option ℕ) (P : ℕ → Type 0) → r ≡ (if all_ascii_digits ds then Some (digits_value 10 ds) else None) → (all_ascii_digits ds ≡ true → P (digits_value 10 ds)) → IfSome r P
of_digits ds r P is holds = rw is (some_if (all_ascii_digits ds) (digits_value 10 ds) P holds)

-- a number without leading zeros
pub decimal_is : (ds : List ℕ) → all_ascii_digits ds ≡ true → 0 < length ds → (get_or ds 0 0 ≡ 48 → length ds ≡ 1) → length ds ≤ 19 → ds ≡ decimal (digits_value 10 ds)
decimal_is ds digits some first few = sym (decimal-digits_value own ds digits some first (value_few ds digits few))

pub decimal_first : (n : ℕ) → n < 2 ^ 64 → get_or (decimal n) 0 0 ≡ 48 → length (decimal n) ≡ 1
decimal_first n few is = elim (cases_lt 0 n) [
  | inl some ↦ let over = first_decimal n some few in absurd (omega (arith, over, is))
  | inr none ↦ let zero_is : n ≡ 0 = omega arith in rw (zero_is, decimal_digit 0 (omega arith)) refl
]

pub decimal_length : (n : ℕ) → n < 10 ^ 19 → length (decimal n) ≤ 19
decimal_length n few = length-decimal-le 19 n (omega arith) few (omega (arith, few))

abbrev number_of : Option ℕ → ℕ
number_of None = 0
number_of (Some n) = n

pub same_some : (m n : ℕ) → Some m ≡ Some n → m ≡ n
same_some m n same = ap number_of same

-- the numbers at the end of a name
pub decimal_lacks : (n mark : ℕ) → n < 10 ^ 19 → mark < 48 ⊎ 57 < mark → Lacks mark (decimal n)
decimal_lacks n mark few out = digits_lack (decimal n) mark (digits_decimal own n (omega (arith, few))) out

pub one_number : (n : ℕ) → numbers_text n 1 ≡ decimal n
unfolding numbers_text
one_number n = append-nil (decimal n)

not_one : (k : ℕ) → 1 < k → (k == 1) ≡ false
not_one k more = elim (cases_Bool (k == 1)) [
  | inl is ↦ absurd (omega (arith, eqb-true k 1 is, more))
  | inr other ↦ other
]

pub two_numbers : (n k : ℕ) → 1 < k → numbers_text n k ≡ decimal n ++ 45 ∷ decimal k
unfolding numbers_text
two_numbers n k more = let other : (k == 1) ≡ false = not_one k more in rw other refl

pub copy_cases : (k : ℕ) → 0 < k → (k ≡ 1) ⊎ (1 < k)
copy_cases k some = elim (cases_lt 1 k) [ inl more ↦ inr more | inr less ↦ inl (omega arith) ]

pub spelled_both : (o : Option (ℕ × ℕ)) (text number copy : List ℕ) → text ≡ number ++ 45 ∷ copy → IfSome o (λ r. number ≡ decimal r.0) → IfSome o (λ r. copy ≡ decimal r.1)
    → IfSome o (λ r. (r.0 < 10 ^ 19) × (1 < r.1) × (r.1 < 10 ^ 19)) → IfSome o (λ r. text ≡ numbers_text r.0 r.1)
spelled_both None text number copy is front rest fits = tt
spelled_both (Some r) text number copy is front rest fits = is ∙ ap (λ (ds : List ℕ). ds ++ 45 ∷ copy) front ∙ ap (λ (ds : List ℕ). decimal r.0 ++ 45 ∷ ds) rest ∙ sym (two_numbers r.0 r.1 fits.1)

lacks_joined : (mark b : ℕ) (xs ys : List ℕ) → Lacks mark xs → (b ≡ mark → ⊥) → Lacks mark ys → Lacks mark (xs ++ b ∷ ys)
lacks_joined mark b xs ys front other rest = All-append (λ c. c ≡ mark → ⊥) xs (b ∷ ys) front (All-cons (λ c. c ≡ mark → ⊥) b ys other rest)

pub numbers_lack : (n k : ℕ) → n < 10 ^ 19 → 0 < k → k < 10 ^ 19 → Lacks 46 (numbers_text n k)
numbers_lack n k few some less = elim (copy_cases k some) [
  | inl one ↦ subst (Lacks 46) (sym (ap (λ (x : ℕ). numbers_text n x) one ∙ one_number n)) (decimal_lacks n 46 few (inl (omega arith)))
  | inr more ↦ subst (Lacks 46) (sym (two_numbers n k more))
      (lacks_joined 46 45 (decimal n) (decimal k) (decimal_lacks n 46 few (inl (omega arith))) (λ is. omega (arith, is)) (decimal_lacks k 46 less (inl (omega arith))))
]

abbrev numbers_of : Option (ℕ × ℕ) → ℕ × ℕ
numbers_of None = (0, 0)
numbers_of (Some r) = r

pub same_numbers : (m j n k : ℕ) → ◌≡◌ {A = Option (ℕ × ℕ)} (Some (m, j)) (Some (n, k)) → (m ≡ n) × (j ≡ k)
same_numbers m j n k same = (ap (λ (o : Option (ℕ × ℕ)). (numbers_of o).0) same, ap (λ (o : Option (ℕ × ℕ)). (numbers_of o).1) same)

abbrev ending_or : Option Ending → Ending
ending_or None = ending.Config
ending_or (Some end) = end

pub same_end : (a b : Ending) → Some a ≡ Some b → a ≡ b
same_end a b same = ap ending_or same

abbrev end_of : Option (ℕ × ℕ × Ending) → ℕ × ℕ × Ending
end_of None = (0, 0, ending.Config)
end_of (Some r) = r

pub same_ends : (m j n k : ℕ) (a b : Ending) → ◌≡◌ {A = Option (ℕ × ℕ × Ending)} (Some (m, j, a)) (Some (n, k, b)) → (m ≡ n) × (j ≡ k) × (a ≡ b)
same_ends m j n k a b same =
    (ap (λ (o : Option (ℕ × ℕ × Ending)). (end_of o).0) same, ap (λ (o : Option (ℕ × ℕ × Ending)). (end_of o).1) same, ap (λ (o : Option (ℕ × ℕ × Ending)). (end_of o).2) same)

-- a name by its parts
pub name_is : (name : Name) → name_text name
    ≡ padded 8 name.key.date ++ (84 ∷ (padded 6 name.key.time ++ (46 ∷ (padded 6 name.key.micros ++ (45 ∷ (numbers_text name.key.number name.key.copy ++ (46 ∷ ending_text name.ending)))))))
unfolding name_text key_text
name_is name =
    let a = padded 8 name.key.date in
    let b = padded 6 name.key.time in
    let c = padded 6 name.key.micros in
    let n = numbers_text name.key.number name.key.copy in
    let z = 46 ∷ ending_text name.ending in
    append_assoc a (84 ∷ (b ++ (46 ∷ (c ++ (45 ∷ n))))) z
    ∙ ap (λ (xs : List ℕ). a ++ (84 ∷ xs)) (append_assoc b (46 ∷ (c ++ (45 ∷ n))) z ∙ ap (λ (xs : List ℕ). b ++ (46 ∷ xs)) (append_assoc c (45 ∷ n) z))
