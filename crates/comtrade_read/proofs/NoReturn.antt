-- What spells a number, a side, a bit, a kind or a time has no carriage return at its end.
use Rattle.std.proofs.Common.{◌≡◌, ℕ, zero, suc, ◌-◌, ◌*◌, ◌^◌, Bool, true, false, cond, ltb, leb, eqb, get_or, take, List, [], ◌∷◌, ◌++◌, length, Option, Some, None, refl, inl, inr, arith}
use Rattle.std.specs.Prelude.{◌&&◌, ℤ, pos, negsuc, is_some, position, codes, option_map, option_and_then}
use Rattle.std.specs.List.{position_or_len, before_first, after_first}
use Rattle.std.specs.Str.{all_ascii_digits, str_eq_ignore_ascii_case, str_to_ascii_lowercase}
use Rattle.std.specs.Str.Parse.{without_leading_sign, starts_with_minus, digits_value, signed_digits_value}
use Rattle.std.proofs.lemmas.Bool.{eqb-true, and_parts, false_from_ne_true, cond_both, cases_lt}
use Rattle.std.proofs.lemmas.Bool.Decides.{eqb_tells, nat_tests}
use Rattle.std.proofs.lemmas.List.{nil_from_length, take_all}
use Rattle.std.proofs.lemmas.List.Sums.{split_at_first, passes_at_first}
use Rattle.std.proofs.lemmas.Slice.Eq.{bytes_eq-Decides}
use Rattle.comtrade_values.specs.Spelling.{whole_number, decimal_of, number, shifted, exponent, exponent_text, is_numeral, is_point, is_exponent_mark, Number}
use Rattle.comtrade_values.specs.Lines.{field}
use Rattle.comtrade_values.proofs.Cuts.{after_none}
use Rattle.dfr_channels.specs.declared.channel.Side.{Side}
use Rattle.dfr_channels.specs.declared.channel.Side.TheVariants.{Primary, Secondary}
use Rattle.dfr_channels.specs.declared.scan.Reading.{Reading}
use Rattle.dfr_channels.specs.declared.scan.Reading.TheVariants as readings
use Rattle.comtrade_format.specs.declared.file.Kind.{Kind}
use Rattle.comtrade_format.specs.declared.file.Kind.TheVariants.{Ascii, Binary}
use Rattle.comtrade_values.specs.Fields.{zero_number, up_to, within, free_scale, as_bit, bit, free_bit}
use Rattle.dfr_channels.specs.LineFields.{side, is_letter}
use Rattle.comtrade_read.specs.Fields.{whole, natural, small, scale, count, before_letter}
use Rattle.comtrade_read.specs.Instant.{digits, is_colon, is_dot, given, micros, seconds, time_at, time}
use Rattle.comtrade_read.specs.Head.{kind}
use Rattle.comtrade_read.specs.Ascii.{stamp, value, reading}
use Rattle.comtrade_read.specs.Joined.{HasNone}
use Rattle.comtrade_read.proofs.LineEnds.{HasNoReturn, EndsPlain, return_none}
use Rattle.comtrade_read.proofs.AllOf.{All-append, All-parts, All-digits, differs}
use Rattle.comtrade_read.proofs.Digits.{digits_from_test}

-- ---- what a value that was read shows

-- C, if there is a value
abbrev Tells : {A : Type 0} → Type 0 → Option A → Type 0
Tells {A = A} C o = (y : A) → o ≡ Some y → C

nothing : {A : Type 0} (C : Type 0) → Tells {A = A} C None
nothing C y e = absurd cc

tested : {A : Type 0} (C : Type 0) (b : Bool) (o p : Option A) → (b ≡ true → C) → Tells C p → Tells C (cond b o p)
tested C b o p h k = cond_both b o p (Tells C) (λ t y e. h t) (λ t. k)

-- a value that is made of another
made_of : {A B : Type 0} (C : Type 0) (g : Option A → Option B) (o : Option A) → g None ≡ None → Tells C o → Tells C (g o)
made_of C g None none h y e = absurd cc
made_of C g (Some x) none h y e = h x refl

-- a field that may be empty
free : {A : Type 0} (f : List ℕ) (o p : Option A) → Tells (HasNone 13 f) p → Tells (HasNone 13 f) (cond (eqb (length f) 0) o p)
free f o p h = tested (HasNone 13 f) (eqb (length f) 0) o p (λ t. rw (nil_from_length f (eqb-true _ 0 t)) tt) h

-- ---- digits, signs and parts

digits_none : (ds : List ℕ) → all_ascii_digits ds ≡ true → HasNone 13 ds
digits_none ds h = All-digits (λ c. eqb c 13 ≡ false) (λ c low high. grind (arith, nat_tests)) ds (digits_from_test ds h)

numeral_none : (ds : List ℕ) → is_numeral ds ≡ true → HasNone 13 ds
numeral_none ds h = digits_none ds (and_parts (ltb 0 (length ds)) (all_ascii_digits ds) h).1

sign_none : (f : List ℕ) → HasNone 13 (without_leading_sign f) → HasNone 13 f
sign_none [] h = tt
sign_none (c ∷ cs) h = elim (eqb_tells c 45) [
  | inl minus ↦ (rw minus.1 refl, rw minus.0 at h)
  | inr other ↦ elim (eqb_tells c 43) [
    | inl plus ↦ (rw plus.1 refl, rw (other.0, plus.0) at h)
    | inr digit ↦ (rw (other.0, digit.0) at h)
  ]
]

-- a text without it on both sides of a cut
parts_none : (p : ℕ → Bool) (xs : List ℕ) → p 13 ≡ false → HasNone 13 (before_first p xs) → HasNone 13 (after_first p xs) → HasNone 13 xs
parts_none p xs not_it h k = elim (cases_lt (position_or_len p xs) (length xs)) [
  | inl lt ↦
      let c = get_or xs (position_or_len p xs) 0 in
      let all : HasNone 13 (before_first p xs ++ c ∷ after_first p xs) =
      All-append (λ b. eqb b 13 ≡ false) (before_first p xs) (c ∷ after_first p xs) h (differs p c 13 (passes_at_first p xs 0 lt) not_it, k) in
      rw (← split_at_first p xs 0 lt) at all
  | inr le ↦ rw (take_all (position_or_len p xs) xs le) at h
]

-- ---- numbers

pub whole_plain : (f : List ℕ) (z : ℤ) → whole f ≡ Some z → HasNone 13 f
unfolding whole
whole_plain f =
    let ds = without_leading_sign f in
    let small = ltb (digits_value 10 ds) (10 ^ 36) in
    tested (HasNone 13 f) (is_numeral ds && small) (Some (signed_digits_value 10 f)) None (λ t. sign_none f (numeral_none ds (and_parts (is_numeral ds) small t).0)) (nothing _)

pub natural_plain : (high : ℕ) (f : List ℕ) (n : ℕ) → natural high f ≡ Some n → HasNone 13 f
unfolding natural whole
natural_plain high f = made_of (HasNone 13 f) (up_to high) (whole f) refl (whole_plain f)

pub bit_plain : (f : List ℕ) (b : Bool) → bit f ≡ Some b → HasNone 13 f
unfolding bit whole
bit_plain f = made_of (HasNone 13 f) as_bit (whole f) refl (whole_plain f)

pub free_bit_plain : (f : List ℕ) (b : Bool) → free_bit f ≡ Some b → HasNone 13 f
unfolding free_bit
free_bit_plain f = free f (Some false) (bit f) (bit_plain f)

pub stamp_plain : (f : List ℕ) (s : Option ℕ) → stamp f ≡ Some s → HasNone 13 f
unfolding stamp
stamp_plain f = free f (Some None) _ (made_of (HasNone 13 f) (option_map (λ n. Some n)) (natural 9999999999 f) refl (natural_plain 9999999999 f))

pub value_plain : (f : List ℕ) (v : Reading) → value f ≡ Some v → HasNone 13 f
unfolding value small whole
value_plain f = free f (Some readings.Missing) (option_map reading (small f)) (made_of (HasNone 13 f) (λ o. option_map reading (within (negsuc 99998) (pos 99999) o)) (whole f) refl (whole_plain f))

-- ---- decimals

decimal_parts : (minus : Bool) (w fr : List ℕ) (x : Option (Bool × ℕ)) (C : Type 0) → Tells C x → Tells (HasNone 13 (w ++ fr) × C) (decimal_of minus w fr x)
decimal_parts minus w fr None C h n e = absurd cc
decimal_parts minus w fr (Some x) C h n e =
    (tested (HasNone 13 (w ++ fr)) (is_numeral (w ++ fr)) (number minus (shifted (digits_value 10 (w ++ fr)) (length fr) x)) None (numeral_none (w ++ fr)) (nothing _) n e, h x refl)

behind_mark : (f : List ℕ) → Tells (HasNone 13 (after_first is_exponent_mark f)) (exponent (exponent_text f))
behind_mark f = with_place (position is_exponent_mark f) refl
  where
    with_place : (o : Option ℕ) → position is_exponent_mark f ≡ o → Tells (HasNone 13 (after_first is_exponent_mark f)) (exponent (cond (is_some o) (Some (after_first is_exponent_mark f)) None))
    with_place None e x k = rw (after_none is_exponent_mark f e) tt
    with_place (Some at) e x k =
        let bs = after_first is_exponent_mark f in
        let ds = without_leading_sign bs in
        tested (HasNone 13 bs) (is_numeral ds) (Some (starts_with_minus bs, digits_value 10 ds)) None (λ t. sign_none bs (numeral_none ds t)) (nothing _) x k

pub scale_plain : (f : List ℕ) (n : Number) → scale f ≡ Some n → HasNone 13 f
unfolding scale
scale_plain f n e =
    let front = before_first is_exponent_mark f in
    let ds = without_leading_sign front in
    let w = before_first is_point ds in
    let fr = after_first is_point ds in
    let p = decimal_parts (starts_with_minus front) w fr (exponent (exponent_text f)) _ (behind_mark f) n e in
    let both = All-parts (λ b. eqb b 13 ≡ false) w fr p.0 in
    parts_none is_exponent_mark f refl (sign_none front (parts_none is_point ds refl both.0 both.1)) p.1

pub free_scale_plain : (f : List ℕ) (n : Number) → free_scale f ≡ Some n → HasNone 13 f
unfolding free_scale scale
free_scale_plain f = free f (Some zero_number) (scale f) (scale_plain f)

-- ---- letters and words

letter_none : (letter : ℕ) (f : List ℕ) → is_letter letter (13 ∷ []) ≡ false → is_letter letter f ≡ true → HasNone 13 f
letter_none letter [] a e = tt
letter_none letter (x ∷ []) a e = (differs (λ c. is_letter letter (c ∷ [])) x 13 e a, tt)
letter_none letter (x ∷ y ∷ ys) a e = absurd cc

pub side_plain : (f : List ℕ) (x : Side) → side f ≡ Some x → HasNone 13 f
unfolding side
side_plain f = tested (HasNone 13 f) (is_letter 80 f) (Some Primary) (cond (is_letter 83 f) (Some Secondary) None) (letter_none 80 f refl)
    (tested (HasNone 13 f) (is_letter 83 f) (Some Secondary) None (letter_none 83 f refl) (nothing _))

pub count_plain : (letter : ℕ) (f : List ℕ) (n : ℕ) → is_letter letter (13 ∷ []) ≡ false → count letter f ≡ Some n → HasNoReturn f
unfolding count
count_plain letter f n a e =
    let last = get_or f (length f - 1) 0 in
    let C = HasNoReturn f in
    let front : Tells C (before_letter letter f) = tested C (ltb 0 (length f) && is_letter letter (last ∷ [])) (Some (take (length f - 1) f)) None
    (λ t. differs (λ c. is_letter letter (c ∷ [])) last 13 (and_parts (ltb 0 (length f)) (is_letter letter (last ∷ [])) t).1 a) (nothing C) in
    made_of C (up_to 999999) (option_and_then whole_number (before_letter letter f)) refl (made_of C (option_and_then whole_number) (before_letter letter f) refl front) n e

lower_none : (f : List ℕ) → HasNone 13 (str_to_ascii_lowercase f) → HasNone 13 f
lower_none [] h = tt
lower_none (x ∷ xs) h = (false_from_ne_true _ (λ e. let same : x ≡ 13 = eqb-true x 13 e in let it = rw same at h.0 in cc), lower_none xs h.1)

word_none : (f word : List ℕ) → HasNone 13 (str_to_ascii_lowercase word) → str_eq_ignore_ascii_case f word ≡ true → HasNone 13 f
word_none f word h t = let same : str_to_ascii_lowercase f ≡ str_to_ascii_lowercase word = (bytes_eq-Decides _ _).0 t in lower_none f (rw same h)

pub kind_plain : (f : List ℕ) (x : Kind) → kind f ≡ Some x → HasNone 13 f
unfolding kind
kind_plain f =
    let is_binary = str_eq_ignore_ascii_case f (codes "BINARY") in
    tested (HasNone 13 f) (str_eq_ignore_ascii_case f (codes "ASCII")) (Some Ascii) (cond is_binary (Some Binary) None) (word_none f (codes "ASCII") (refl, (refl, (refl, (refl, (refl, tt))))))
    (tested (HasNone 13 f) is_binary (Some Binary) None (word_none f (codes "BINARY") (refl, (refl, (refl, (refl, (refl, (refl, tt))))))) (nothing _))

-- ---- times

digits_plain : (low high : ℕ) (f : List ℕ) (n : ℕ) → digits low high f ≡ Some n → HasNone 13 f
unfolding digits
digits_plain low high f =
    let long = leb low (length f) && leb (length f) high in
    tested (HasNone 13 f) (long && all_ascii_digits f) (Some (digits_value 10 f)) None (λ t. digits_none f (and_parts long (all_ascii_digits f) t).1) (nothing _)

given_tells : {A B : Type 0} (C D : Type 0) (o : Option A) (more : A → Option B) → Tells C o → ((x : A) → Tells D (more x)) → Tells (C × D) (given o more)
given_tells C D None more h k y e = absurd cc
given_tells C D (Some x) more h k y e = (h x refl, k x y e)

seconds_plain : (f : List ℕ) → Tells (HasNone 13 f) (seconds f)
unfolding seconds micros
seconds_plain f =
    let s = before_first is_dot f in
    let u = after_first is_dot f in
    let fraction : Tells (HasNone 13 u) (micros u) = made_of (HasNone 13 u) (option_map (λ n. n * 10 ^ (6 - length u))) (digits 1 6 u) refl (digits_plain 1 6 u) in
    let more = λ (n : ℕ). option_map (λ us. (n, us)) (micros u) in
    let parts = given_tells (HasNone 13 s) (HasNone 13 u) (digits 1 2 s) more (digits_plain 1 2 s) (λ n. made_of (HasNone 13 u) (option_map (λ us. (n, us))) (micros u) refl fraction) in
    cond_both (is_some (position is_dot f)) (given (digits 1 2 s) more) (option_map (λ n. (n, 0)) (digits 1 2 f)) (Tells (HasNone 13 f))
    (λ t p e. let q = parts p e in parts_none is_dot f refl q.0 q.1)
    (λ t. made_of (HasNone 13 f) (option_map (λ n. (n, 0))) (digits 1 2 f) refl (digits_plain 1 2 f))

pub time_plain : (f : List ℕ) (n : ℕ) → time f ≡ Some n → HasNone 13 f
unfolding time
time_plain f =
    let rest = after_first is_colon f in
    let h = before_first is_colon f in
    let m = before_first is_colon rest in
    let s = after_first is_colon rest in
    let at = λ (a b : ℕ) (o : Option (ℕ × ℕ)). given o (λ c. time_at a b c.0 c.1) in
    let behind = λ (a : ℕ). given_tells (HasNone 13 m) (HasNone 13 s) (digits 1 2 m) (λ b. at a b (seconds s)) (digits_plain 1 2 m) (λ b. made_of (HasNone 13 s) (at a b) (seconds s) refl (seconds_plain s)) in
    let parts = given_tells (HasNone 13 h) (HasNone 13 m × HasNone 13 s) (digits 1 2 h) (λ a. given (digits 1 2 m) (λ b. at a b (seconds s))) (digits_plain 1 2 h) behind in
    cond_both (is_some (position is_colon f) && is_some (position is_colon rest)) (given (digits 1 2 h) (λ a. given (digits 1 2 m) (λ b. at a b (seconds s)))) None (Tells (HasNone 13 f))
    (λ t n e. let p = parts n e in parts_none is_colon f refl p.0 (parts_none is_colon rest refl p.1.0 p.1.1)) (λ t. nothing _)

-- ---- the end of a line

pub ends_plain : (fs : List (List ℕ)) (n : ℕ) → length fs ≡ suc n → HasNoReturn (field fs n) → EndsPlain fs
ends_plain [] n e h = tt
ends_plain (f ∷ []) n e h = let z : n ≡ 0 = omega arith in rw z at h
ends_plain (f ∷ g ∷ gs) zero e h = absurd (omega arith)
ends_plain (f ∷ g ∷ gs) (suc n) e h = ends_plain (g ∷ gs) n (omega arith) h

pub no_return : (fs : List (List ℕ)) (n : ℕ) → length fs ≡ suc n → HasNone 13 (field fs n) → EndsPlain fs
no_return fs n e h = ends_plain fs n e (return_none (field fs n) h)
