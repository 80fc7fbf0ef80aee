-- What is dropped at the ends of a list: blanks around a text, and blank lines after a file.
use Rattle.std.proofs.Common.{◌≡◌, ℕ, ◌-◌, ◌<◌, Bool, true, false, eqb, get_or, List, [], ◌∷◌, ◌++◌, length, map, refl, sym, ap, ◌∙◌, arith, length-append}
use Rattle.std.specs.Prelude.{reverse}
use Rattle.std.specs.List.{AllByRecursion}
use Rattle.std.proofs.lemmas.List.{append-nil, reverse-append, reverse-reverse, length-reverse, get_or-reverse, get_or_append_left, nil_from_length}
use Rattle.std.proofs.lemmas.List.Elements.{All-from_recursion}
use Rattle.std.proofs.lemmas.List.Splits.{slice_split_none}
use Rattle.std.proofs.lemmas.Bool.{eqb-true, cond_both}
use Rattle.comtrade_values.specs.Spelling.{is_blank, trim_start, trimmed}
use Rattle.comtrade_values.specs.Lines.{fields, is_blank_line, drop_front, drop_end}
use Rattle.comtrade_read.specs.Joined.{AreBlank}
use Rattle.comtrade_read.proofs.AllOf.{All-append, All-reverse, All-none}

-- ---- any elements

-- the first element, if there is one, fails, and so stays
abbrev pub StartsFull : {X : Type 0} → (X → Bool) → List X → Type 0
StartsFull {X = X} p xs = (d : X) → 0 < length xs → p (get_or xs 0 d) ≡ false

front_stays : {X : Type 0} (p : X → Bool) (xs : List X) → StartsFull p xs → drop_front p xs ≡ xs
front_stays p [] h = refl
front_stays p (x ∷ xs) h = rw (h x (omega arith)) refl

pub end_stays : {X : Type 0} (p : X → Bool) (xs : List X) → StartsFull p (reverse xs) → drop_end p xs ≡ xs
end_stays p xs h = ap reverse (front_stays p (reverse xs) h) ∙ reverse-reverse xs

-- where the last element fails
pub stops_full : {X : Type 0} (p : X → Bool) (xs : List X) → ((d : X) → 0 < length xs → p (get_or xs (length xs - 1) d) ≡ false) → StartsFull p (reverse xs)
stops_full p xs h d lt =
    let some : 0 < length xs = omega (arith, length-reverse xs) in
    let last : length xs - 1 - 0 ≡ length xs - 1 = omega arith in
    rw (get_or-reverse xs 0 d some, last) (h d some)

front_full : {X : Type 0} (p : X → Bool) (xs : List X) → StartsFull p (drop_front p xs)
front_full p [] d lt = absurd (omega arith)
front_full p (x ∷ xs) d lt = cond_both (p x) (drop_front p xs) (x ∷ xs) (StartsFull p) (λ t. front_full p xs) (λ t e l. t) d lt

full_front : {X : Type 0} (p : X → Bool) (xs ys : List X) → StartsFull p (xs ++ ys) → StartsFull p xs
full_front p xs ys h d some = rw (get_or_append_left xs ys d 0 some) at (h d (omega (arith, length-append xs ys)))

-- a list as elements that pass, and the others
pub record Front {X : Type 0} (p : X → Bool) (xs ys : List X) : Type 0 where
  pub front : List X
  pub is : xs ≡ front ++ ys
  pub pass : AllByRecursion (λ x. p x ≡ true) front

pub front_of : {X : Type 0} (p : X → Bool) (xs : List X) → Front p xs (drop_front p xs)
front_of p [] = record { front = []; is = refl; pass = tt }
front_of p (x ∷ xs) =
    let f = front_of p xs in
    cond_both (p x) (drop_front p xs) (x ∷ xs) (Front p (x ∷ xs)) (λ t. record { front = x ∷ f.front; is = ap (λ ys. x ∷ ys) f.is; pass = (t, f.pass) }) (λ t. record { front = []; is = refl; pass = tt })

-- the same from the end
pub record Back {X : Type 0} (p : X → Bool) (xs ys : List X) : Type 0 where
  pub back : List X
  pub is : xs ≡ ys ++ back
  pub pass : AllByRecursion (λ x. p x ≡ true) back

pub back_of : {X : Type 0} (p : X → Bool) (xs : List X) → Back p xs (drop_end p xs)
back_of p xs =
    let f = front_of p (reverse xs) in
    record {
      back = reverse f.front;
      is = sym (reverse-reverse xs) ∙ ap reverse f.is ∙ reverse-append f.front (drop_front p (reverse xs));
      pass = All-reverse _ f.front f.pass;
    }

past_front : {X : Type 0} (p : X → Bool) (ws xs : List X) → AllByRecursion (λ x. p x ≡ true) ws → drop_front p (ws ++ xs) ≡ drop_front p xs
past_front p [] xs h = refl
past_front p (w ∷ ws) xs h = rw h.0 (past_front p ws xs h.1)

pub past_end : {X : Type 0} (p : X → Bool) (xs ys : List X) → AllByRecursion (λ x. p x ≡ true) ys → drop_end p (xs ++ ys) ≡ drop_end p xs
past_end p xs ys h = ap (λ zs. reverse (drop_front p zs)) (reverse-append xs ys) ∙ ap reverse (past_front p (reverse ys) (reverse xs) (All-reverse _ ys h))

-- ---- blanks

only_blanks : (ws : List ℕ) → AreBlank ws → trim_start ws ≡ []
only_blanks ws h = ap trim_start (sym (append-nil ws)) ∙ past_front is_blank ws [] h

pub both_stay : (t : List ℕ) → StartsFull is_blank t → StartsFull is_blank (reverse t) → trimmed t ≡ t
both_stay t a b = ap (drop_end is_blank) (front_stays is_blank t a) ∙ end_stays is_blank t b

trimmed_full : (xs : List ℕ) → StartsFull is_blank (trimmed xs)
trimmed_full xs = let b = back_of is_blank (trim_start xs) in full_front is_blank (trimmed xs) b.back (rw b.is at (front_full is_blank xs))

pub trimmed_twice : (xs : List ℕ) → trimmed (trimmed xs) ≡ trimmed xs
trimmed_twice xs =
    let back = trim_start (reverse (trim_start xs)) in
    both_stay (trimmed xs) (trimmed_full xs) (rw (reverse-reverse back) (front_full is_blank (reverse (trim_start xs))))

pub trim_again : (before text after : List ℕ) → AreBlank before → AreBlank after → trimmed text ≡ text → trimmed (before ++ (text ++ after)) ≡ text
trim_again before [] after p q e = rw (past_front is_blank before after p, only_blanks after q) refl
trim_again before (x ∷ xs) after p q e =
    let full : StartsFull is_blank (x ∷ xs) = rw e at (trimmed_full (x ∷ xs)) in
    let front : trim_start (before ++ ((x ∷ xs) ++ after)) ≡ (x ∷ xs) ++ after = past_front is_blank before ((x ∷ xs) ++ after) p ∙ front_stays is_blank ((x ∷ xs) ++ after) (λ d lt. full d (omega arith)) in
    ap (drop_end is_blank) front ∙ past_end is_blank (x ∷ xs) after q ∙ ap (drop_end is_blank) (sym (front_stays is_blank (x ∷ xs) full)) ∙ e

-- ---- a text and the blanks around it

pub record Around (xs : List ℕ) : Type 0 where
  pub before : List ℕ
  pub after : List ℕ
  pub is : before ++ (trimmed xs ++ after) ≡ xs
  pub are_before : AreBlank before
  pub are_after : AreBlank after

pub around : (xs : List ℕ) → Around xs
around xs =
    let f = front_of is_blank xs in
    let b = back_of is_blank (trim_start xs) in
    record { before = f.front; after = b.back; is = ap (λ ys. f.front ++ ys) (sym b.is) ∙ sym f.is; are_before = f.pass; are_after = b.pass }

-- ---- blank lines

pub blank_line : (xs : List ℕ) → is_blank_line xs ≡ true → AreBlank xs
blank_line xs e =
    let a = around xs in
    let none : trimmed xs ≡ [] = nil_from_length (trimmed xs) (eqb-true _ 0 e) in
    let is : a.before ++ a.after ≡ xs = rw none at a.is in
    rw is at (All-append (λ b. is_blank b ≡ true) a.before a.after a.are_before a.are_after)

pub line_blank : (xs : List ℕ) → AreBlank xs → is_blank_line xs ≡ true
line_blank xs h = rw (only_blanks xs h) refl

-- a blank line is one empty field
pub blank_fields : (xs : List ℕ) → is_blank_line xs ≡ true → fields xs ≡ [] ∷ []
blank_fields xs e =
    ap (map trimmed) (slice_split_none (λ b. eqb b 44) xs (All-from_recursion (λ b. eqb b 44 ≡ false) xs (All-none is_blank 44 refl xs (blank_line xs e))))
    ∙ ap (λ (t : List ℕ). t ∷ []) (nil_from_length (trimmed xs) (eqb-true _ 0 e))
