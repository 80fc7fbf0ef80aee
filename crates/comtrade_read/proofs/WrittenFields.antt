-- Fields that are written are read.
use Rattle.std.proofs.Common.{◌≡◌, ℕ, suc, ◌+◌, ◌-◌, ◌<◌, ◌≤◌, ◌^◌, Bool, true, false, ltb, leb, eqb, List, [], ◌∷◌, ◌++◌, length, get_or, take, Option, Some, None, refl, ap, arith, length-append}
use Rattle.std.specs.Prelude.{ℤ, pos, negsuc, ◌≤ℤ◌, int_le, unsigned_abs, ◌&&◌, not, reverse, codes}
use Rattle.std.specs.List.{AllByRecursion}
use Rattle.std.specs.Ordering.{int_eq}
use Rattle.std.specs.Fmt.{signed_decimal, decimal}
use Rattle.std.proofs.lemmas.Fmt.{decimal_is_IsNumeral_wide}
use Rattle.std.proofs.lemmas.List.{take_at, get_or_at, get_or_default}
use Rattle.std.proofs.lemmas.List.Elements.{All-from_recursion, recursion_from_All}
use Rattle.std.proofs.lemmas.List.Sums.{AllPass-from_list_all}
use Rattle.std.proofs.lemmas.Int.{ints}
use Rattle.jiff_core.proofs.SignedLemmas.{signed_arith, one_part}
use Rattle.std.proofs.lemmas.Bool.{lt-ltb, le-leb, eq-eqb, and_parts, or_parts, or_from, not-true, cond_both}
use Rattle.std.proofs.lemmas.Bool.Decides.{nat_tests, Decides-int_eq}
use Rattle.comtrade_values.specs.Spelling.{is_blank, trimmed, decimal_number, Number, IsNumber}
use Rattle.comtrade_values.specs.Written.{decimal_text}
use Rattle.comtrade_values.specs.Texts.{is_plain, is_printable, has_blank_end, has_length}
use Rattle.dfr_channels.specs.declared.channel.Side.{Side}
use Rattle.dfr_channels.specs.declared.channel.Side.TheVariants.{Primary, Secondary}
use Rattle.dfr_channels.specs.declared.scan.Reading.{Reading}
use Rattle.dfr_channels.specs.declared.scan.Reading.TheVariants.{Value, Missing}
use Rattle.comtrade_format.specs.declared.file.Kind.{Kind}
use Rattle.comtrade_format.specs.declared.file.Kind.TheVariants.{Ascii, Binary}
use Rattle.comtrade_format.specs.Lines.{bit_text}
use Rattle.comtrade_format.specs.Cfg.{side_text, kind_text}
use Rattle.comtrade_format.specs.Ascii.{reading_text, stamp_text}
use Rattle.comtrade_values.specs.Fields.{free_scale, bit, free_bit}
use Rattle.comtrade_values.proofs.Comparing.{int_le-true}
use Rattle.dfr_channels.specs.LineFields.{side}
use Rattle.comtrade_read.specs.Fields.{whole, natural, small, scale, count}
use Rattle.comtrade_read.specs.Head.{kind}
use Rattle.comtrade_read.specs.Ascii.{stamp, value, reading}
use Rattle.comtrade_read.specs.Joined.{HasNone}
use Rattle.comtrade_read.proofs.AllOf.{All-append, All-reverse, All-digits, All-none, differs}
use Rattle.comtrade_read.proofs.Blanks.{StartsFull, both_stay, stops_full}
use Rattle.comtrade_read.proofs.Numerals.{whole_again, decimal_again, written_all}

-- ---- numbers

pub whole_written : (n : ℕ) → n < 10 ^ 36 → whole (decimal n) ≡ Some (pos n)
unfolding whole
whole_written n lt = whole_again (pos n) lt

pub natural_written : (high n : ℕ) → n ≤ high → n < 10 ^ 36 → natural high (decimal n) ≡ Some n
unfolding natural
natural_written high n le lt = rw (whole_again (pos n) lt, le-leb n high le) refl

pub small_written : (z : ℤ) → negsuc 99998 ≤ℤ z → z ≤ℤ pos 99999 → small (signed_decimal z) ≡ Some z
unfolding small
small_written z low high =
    let few : unsigned_abs z < 100000 = omega (arith, signed_arith, one_part z) in
    rw (whole_again z (omega arith), int_le-true (negsuc 99998) z low, int_le-true z (pos 99999) high) refl

pub count_written : (letter n : ℕ) → n ≤ 999999 → count letter (decimal n ++ letter ∷ []) ≡ Some n
unfolding count
count_written letter n le =
    let ds = decimal n in
    let long : length (ds ++ letter ∷ []) ≡ length ds + 1 = length-append ds (letter ∷ []) in
    let some : ltb 0 (length (ds ++ letter ∷ [])) ≡ true = lt-ltb 0 (length (ds ++ letter ∷ [])) (omega arith) in
    let n1 : length (ds ++ letter ∷ []) - 1 ≡ length ds = omega arith in
    let front : take (length ds) (ds ++ letter ∷ []) ≡ ds = take_at ds (letter ∷ []) (length ds) refl in
    rw (some, n1, get_or_at ds letter [] 0 (length ds) refl, eq-eqb letter letter refl, front) (rw (whole_again (pos n) (omega arith), le-leb n 999999 le) refl)

pub scale_written : (d : Number) → IsNumber d → scale (decimal_text d) ≡ Some d
unfolding scale
scale_written d h = decimal_again d h

-- what is read isn't empty, where nothing is read of an empty field
full : {A : Type 0} (g : List ℕ → Option A) (f : List ℕ) (y : A) → g [] ≡ None → g f ≡ Some y → eqb (length f) 0 ≡ false
full g [] y none e = absurd cc
full g (x ∷ xs) y none e = grind (arith, nat_tests)

pub free_scale_written : (d : Number) → IsNumber d → free_scale (decimal_text d) ≡ Some d
unfolding free_scale
free_scale_written d h = let is = decimal_again d h in rw (full decimal_number (decimal_text d) d refl is) is

-- ---- one letter, one digit, one word

pub side_written : (x : Side) → side (side_text x) ≡ Some x
unfolding side
side_written Primary = refl
side_written Secondary = refl

pub bit_written : (b : Bool) → bit (bit_text b) ≡ Some b
unfolding bit
bit_written true = refl
bit_written false = refl

pub free_bit_written : (b : Bool) → free_bit (bit_text b) ≡ Some b
unfolding free_bit bit
free_bit_written true = refl
free_bit_written false = refl

pub kind_written : (k : Kind) → kind (kind_text k) ≡ Some k
unfolding kind
kind_written Ascii = refl
kind_written Binary = refl

pub revision_written : whole (codes "1999") ≡ Some (pos 1999)
unfolding whole
revision_written = refl

pub value_written : (x : ℤ) → negsuc 99998 ≤ℤ x → x ≤ℤ pos 99998 → value (reading_text (Value x)) ≡ Some (Value x)
unfolding value small
value_written x low high =
    let is = small_written x low (omega (arith, ints)) in
    let there : reading x ≡ Value x = cond_both (int_eq x (pos 99999)) Missing (Value x) (λ v. v ≡ Value x)
    (λ t. let same = (Decides-int_eq x (pos 99999)).0 t in absurd (omega (arith, ints))) (λ t. refl) in
    rw (full small (signed_decimal x) x refl is, is) (ap (λ (v : Reading). Some v) there)

pub missing_written : value (reading_text Missing) ≡ Some Missing
unfolding value small
missing_written = refl

pub stamp_written : (t : ℕ) → t ≤ 9999999999 → stamp (stamp_text (Some t)) ≡ Some (Some t)
unfolding stamp natural
stamp_written t le =
    let is = natural_written 9999999999 t le (omega arith) in
    rw (full (natural 9999999999) (decimal t) t refl is, is) refl

pub no_stamp_written : stamp (stamp_text None) ≡ Some None
unfolding stamp
no_stamp_written = refl

-- ---- clean texts

-- no blank at either end, no comma, no line feed
pub record IsClean (t : List ℕ) : Type 0 where
  pub bare : trimmed t ≡ t
  pub no_comma : HasNone 44 t
  pub no_feed : HasNone 10 t

-- no blank and no comma, and no byte below 33
abbrev pub printed : ℕ → Bool
printed b = ltb 32 b && not (eqb b 44)

abbrev pub Printed : List ℕ → Type 0
Printed t = AllByRecursion (λ b. printed b ≡ true) t

pub printed_no_end : (t : List ℕ) → Printed t → HasNone 26 t
printed_no_end t h = All-none printed 26 refl t h

printed_full : (x : ℕ) → printed x ≡ true → is_blank x ≡ false
printed_full x h = or_from _ _ (differs printed x 32 h refl) (differs printed x 9 h refl)

starts : (t : List ℕ) → Printed t → StartsFull is_blank t
starts t h d some = printed_full (get_or t 0 d) (All-from_recursion (λ b. printed b ≡ true) t h 0 d some)

pub clean_printed : (t : List ℕ) → Printed t → IsClean t
clean_printed t h = record {
  bare = both_stay t (starts t h) (starts (reverse t) (All-reverse _ t h));
  no_comma = All-none printed 44 refl t h;
  no_feed = All-none printed 10 refl t h;
}

pub printed_decimal : (n : ℕ) → n < 10 ^ 64 → Printed (decimal n)
printed_decimal n lt = All-digits (λ b. printed b ≡ true) (λ c low high. grind (arith, nat_tests)) (decimal n) (decimal_is_IsNumeral_wide n lt).0.1

pub printed_signed : (z : ℤ) → unsigned_abs z < 10 ^ 64 → Printed (signed_decimal z)
printed_signed (pos n) lt = printed_decimal n lt
printed_signed (negsuc n) lt = (refl, printed_decimal (suc n) lt)

pub printed_number : (d : Number) → IsNumber d → Printed (decimal_text d)
printed_number d h = written_all (λ b. printed b ≡ true) (λ c low high. grind (arith, nat_tests)) refl refl d h

pub printed_count : (n letter : ℕ) → n < 10 ^ 64 → printed letter ≡ true → Printed (decimal n ++ letter ∷ [])
printed_count n letter lt e = All-append (λ b. printed b ≡ true) (decimal n) (letter ∷ []) (printed_decimal n lt) (e, tt)

pub printed_side : (x : Side) → Printed (side_text x)
printed_side Primary = (refl, tt)
printed_side Secondary = (refl, tt)

pub printed_bit : (b : Bool) → Printed (bit_text b)
printed_bit true = (refl, tt)
printed_bit false = (refl, tt)

pub printed_kind : (k : Kind) → Printed (kind_text k)
printed_kind Ascii = (refl, (refl, (refl, (refl, (refl, tt)))))
printed_kind Binary = (refl, (refl, (refl, (refl, (refl, (refl, tt))))))

pub printed_revision : Printed (codes "1999")
printed_revision = (refl, (refl, (refl, (refl, tt))))

pub printed_missing : Printed (reading_text Missing)
printed_missing = (refl, (refl, (refl, (refl, (refl, tt)))))

-- ---- texts of a set-up

abbrev printable : ℕ → Bool
printable b = leb 32 b && leb b 126 && not (eqb b 44)

pub clean_plain : (low high : ℕ) (t : List ℕ) → is_plain low high t ≡ true → IsClean t
unfolding is_plain
clean_plain low high t h =
    let p = and_parts (has_length low high t && is_printable t) (not (has_blank_end t)) h in
    let is = (and_parts (has_length low high t) (is_printable t) p.0).1 in
    let all = recursion_from_All (λ b. printable b ≡ true) t (AllPass-from_list_all printable t is) in
    let ends = or_parts (is_blank (get_or t 0 0)) (is_blank (get_or t (length t - 1) 0)) (not-true (has_blank_end t) p.1) in
    record {
      bare = both_stay t (λ d some. rw (get_or_default t 0 d 0 some) ends.0) (stops_full is_blank t (λ d some. rw (get_or_default t (length t - 1) d 0 (omega arith)) ends.1));
      no_comma = All-none printable 44 refl t all;
      no_feed = All-none printable 10 refl t all;
    }
