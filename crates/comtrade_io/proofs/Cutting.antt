-- Lines that are found again, and numbers that are read.
use Rattle.std.proofs.Common.{◌≡◌, ℕ, ◌+◌, ◌^◌, ◌<◌, ◌≤◌, true, false, eqb, nat_eq, min, append_assoc, List, [], ◌∷◌, ◌++◌, length, get_or, take, drop, refl, sym, ap, ◌∙◌, arith, rules, length-append}
use Rattle.std.specs.Prelude.{codes, Option, Some, None, MatchOption, IsSomeAnd}
use Rattle.std.specs.Borrow.{Bor}
use Rattle.std.specs.Cmp.Lexicographic.{pointwise, other_text}
use Rattle.std.specs.List.{All, IsSplitAt, starts_with, position_or_len, before_first, after_first}
use Rattle.std.specs.Fmt.{decimal}
use Rattle.std.specs.Str.{all_ascii_digits}
use Rattle.std.proofs.lemmas.Fmt.{decimal_is_IsNumeral}
use Rattle.std.proofs.lemmas.Str.Parse.{numerals_by_value, tells_all_ascii_digits, digit_at}
use Rattle.std.proofs.lemmas.List.{take_at, drop_at, drop-drop, get_or_at, get_or_append_left, get_or_default}
use Rattle.std.proofs.lemmas.List.Elements.{All-append, All-cons}
use Rattle.std.proofs.lemmas.List.Sums.{position_or_len_is}
use Rattle.std.proofs.lemmas.Bool.{lt-ltb, and_from}
use Rattle.std.proofs.lemmas.Bool.Decides.{nat_tests}
use Rattle.comtrade_values.specs.Spelling.{capped_size, is_numeral}
use Rattle.comtrade_io.specs.Pieces.{is_feed, is_space}
use Rattle.comtrade_io.specs.Replayed.{IsOneLine, sized, Answer, answer_line, answers_text, Taken, IsRecord, record_text, extent_words, files_text, Ending, Record, Fault, Nothing, IsEnding, ending_text}

-- this byte doesn't stand in it
abbrev Lacks : ℕ → List ℕ → Type 0
Lacks c xs = All (λ b. b ≡ c → ⊥) xs

other_byte : (b c : ℕ) → (b ≡ c → ⊥) → eqb b c ≡ false
other_byte b c h = grind (arith, nat_tests)

same_byte : (c : ℕ) → eqb c c ≡ true
same_byte c = grind (arith, nat_tests)

pub record Found (c : ℕ) (front back : List ℕ) : Type 0 where
  pub before : before_first (λ b. eqb b c) (front ++ c ∷ back) ≡ front
  pub after : after_first (λ b. eqb b c) (front ++ c ∷ back) ≡ back

place_at : (c : ℕ) (front back : List ℕ) → Lacks c front → position_or_len (λ b. eqb b c) (front ++ c ∷ back) ≡ length front
place_at c front back h =
    position_or_len_is (λ b. eqb b c) (front ++ c ∷ back) (length front) 0 (omega (arith, length-append front (c ∷ back)))
    (λ k lt. rw (get_or_append_left front (c ∷ back) 0 k lt) (other_byte (get_or front k 0) c (h k 0 lt)))
    (λ lt. rw (get_or_at front c back 0 (length front) refl) (same_byte c))

-- a text is cut at the first such byte
pub found : (c : ℕ) (front back : List ℕ) → Lacks c front → Found c front back
found c front back h =
    let n = place_at c front back h in
    let rest : drop 1 (drop (length front) (front ++ c ∷ back)) ≡ back = ap (drop 1) (drop_at front (c ∷ back) (length front) refl) in
    record {
      before = rw n (take_at front (c ∷ back) (length front) refl);
      after = rw n (sym (drop-drop 1 (length front) (front ++ c ∷ back)) ∙ rest);
    }

-- ---- numbers

pub read_again : (n : ℕ) → n < 2 ^ 64 → capped_size (decimal n) ≡ Some n
read_again n small =
    let d = decimal_is_IsNumeral n small in
    let digits : all_ascii_digits (decimal n) ≡ true = (numerals_by_value _ tells_all_ascii_digits).from (decimal n) d.0.1 in
    let numeral : is_numeral (decimal n) ≡ true = and_from _ _ (lt-ltb 0 (length (decimal n)) d.0.0) digits in
    let least : min n (10 ^ 36) ≡ n = omega arith in
    rw (numeral, d.1, least) refl

-- digits lack bytes that are less than them
pub digits_lack : (c n : ℕ) → c < 48 → n < 2 ^ 64 → Lacks c (decimal n)
digits_lack c n low small = λ k d lt e. let r = digit_at (decimal n) k (decimal_is_IsNumeral n small).0.1 lt in absurd (omega (arith, get_or_default (decimal n) k 0 d lt))

pub one_line_append : (xs ys : List ℕ) → IsOneLine xs → IsOneLine ys → IsOneLine (xs ++ ys)
one_line_append xs ys h k = All-append (λ b. b ≡ 10 → ⊥) xs ys h k

-- ---- bytes with their number before them

pub record SizedFound (word bytes after text : List ℕ) : Type 0 where
  pub line : before_first is_feed text ≡ word ++ decimal (length bytes)
  pub rest : after_first is_feed text ≡ bytes ++ after

pub sized_found : (word bytes after text : List ℕ) → length bytes < 2 ^ 64 → IsOneLine word → text ≡ sized word bytes after → SizedFound word bytes after text
sized_found word bytes after text small one e =
    let line : List ℕ = word ++ decimal (length bytes) in
    let whole : IsOneLine line = one_line_append word (decimal (length bytes)) one (digits_lack 10 (length bytes) (omega arith) small) in
    let is : text ≡ line ++ (10 ∷ (bytes ++ after)) = e ∙ sym (append_assoc word (decimal (length bytes)) (10 ∷ (bytes ++ after))) in
    let f = found 10 line (bytes ++ after) whole in
    record { line = ap (before_first is_feed) is ∙ f.before; rest = ap (after_first is_feed) is ∙ f.after }

pub stripped : (word rest line : List ℕ) → line ≡ word ++ rest → (take (length word) line ≡ word) × (drop (length word) line ≡ rest)
stripped word rest line e = (ap (take (length word)) e ∙ take_at word rest (length word) refl, ap (drop (length word)) e ∙ drop_at word rest (length word) refl)

pub not_stripped : (word rest line : List ℕ) → line ≡ word ++ rest → pointwise nat_eq (take (length word) line) word ≡ false → ⊥
not_stripped word rest line e f = other_text (take (length word) line) word (sym f) (stripped word rest line e).0

pub split_found : (xs ys rest : List ℕ) (mid : ℕ) (r : Option (Bor (List ℕ) × Bor (List ℕ))) → rest ≡ xs ++ ys → mid ≡ length xs
    → MatchOption r (length rest < mid) (λ p. IsSplitAt rest mid p.0.now p.1.now) → IsSomeAnd r (λ p. (p.0.now ≡ xs) × (p.1.now ≡ ys))
split_found xs ys rest mid None e m h = absurd (omega (arith, ap length e, length-append xs ys))
split_found xs ys rest mid (Some p) e m h = (
  h.1 ∙ ap (λ (k : ℕ). take k rest) m ∙ ap (take (length xs)) e ∙ take_at xs ys (length xs) refl,
  h.2 ∙ ap (λ (k : ℕ). drop k rest) m ∙ ap (drop (length xs)) e ∙ drop_at xs ys (length xs) refl,
)

-- what a byte that isn't in the digits of a number cuts off
pub number_found : (n : ℕ) (words : List ℕ) → n < 2 ^ 64 → before_first is_space (decimal n ++ (32 ∷ words)) ≡ decimal n
number_found n words small = (found 32 (decimal n) words (digits_lack 32 n (omega arith) small)).before

pub one_line_cfg : IsOneLine (codes "cfg ")
one_line_cfg = search rules

pub one_line_dat : IsOneLine (codes "dat ")
one_line_dat = search rules

-- ---- answers and what ends them

pub one_line_number : (n : ℕ) (words : List ℕ) → n < 2 ^ 64 → IsOneLine words → IsOneLine (decimal n ++ (32 ∷ words))
one_line_number n words small h = one_line_append (decimal n) (32 ∷ words) (digits_lack 10 n (omega arith) small) (All-cons (λ b. b ≡ 10 → ⊥) 32 words (λ e. absurd (omega arith)) h)

pub record_found : (r : Taken) (after text : List ℕ) → IsRecord r → text ≡ record_text r after → Found 10 (codes "record " ++ extent_words r) (files_text r after)
record_found r after text ok e = found 10 (codes "record " ++ extent_words r) (files_text r after) (one_line_append (codes "record ") (extent_words r) (search rules) (one_line_number r.number r.words ok.number ok.words))

pub fault_found : (words after text : List ℕ) → IsOneLine words → text ≡ (codes "fault " ++ words) ++ (10 ∷ after) → Found 10 (codes "fault " ++ words) after
fault_found words after text ok e = found 10 (codes "fault " ++ words) after (one_line_append (codes "fault ") words (search rules) ok)

-- no fault begins as a record does, and each fault as a fault does
pub no_record : (words line : List ℕ) → line ≡ codes "fault " ++ words → pointwise nat_eq (take 7 line) (codes "record ") ≡ true → ⊥
no_record words line e h =
    let same : pointwise nat_eq (take 7 (codes "fault " ++ words)) (codes "record ") ≡ true = ap (λ (l : List ℕ). pointwise nat_eq (take 7 l) (codes "record ")) (sym e) ∙ h in
    cc

pub begins : (words line : List ℕ) → line ≡ codes "fault " ++ words → starts_with nat_eq line (codes "fault ") ≡ true
begins words line e = ap (λ (l : List ℕ). starts_with nat_eq l (codes "fault ")) e

-- a line that is a text's first, and begins as neither a record nor a fault does, ends no replay
pub no_ending : (text line : List ℕ) (e : Ending) → line ≡ before_first is_feed text → (text ≡ [] → ⊥)
    → pointwise nat_eq (take 7 line) (codes "record ") ≡ false → false ≡ starts_with nat_eq line (codes "fault ")
    → IsEnding e → text ≡ ending_text e → ⊥
no_ending text line (Record r after) first some no_record no_fault ok e =
    not_stripped (codes "record ") (extent_words r) line (first ∙ ap (before_first is_feed) e ∙ (record_found r after text ok e).before) no_record
no_ending text line (Fault words after) first some no_record no_fault ok e =
    let b = begins words line (first ∙ ap (before_first is_feed) e ∙ (fault_found words after text ok e).before) in
    cc (b, no_fault)
no_ending text line Nothing first some no_record no_fault ok e = some e

-- each answer has its line end
pub answers_long : (answers : List Answer) (after : List ℕ) → length answers + length after ≤ length (answers_text answers after)
answers_long [] after = omega arith
answers_long (a ∷ more) after = omega (arith, answers_long more after, length-append (answer_line a) (10 ∷ answers_text more after))
