-- A text that is cut was joined.
use Rattle.std.proofs.Common.{◌≡◌, ℕ, ◌+◌, ◌-◌, Bool, true, false, cond, eqb, get_or, take, drop, List, [], ◌∷◌, ◌++◌, length, map, refl, sym, ap, ◌∙◌, arith}
use Rattle.std.specs.List.{slice_split, join_with_byte, AllByRecursion}
use Rattle.std.proofs.lemmas.List.{append-nil, take_at, drop_at, take_all, take_more, drop_more, take-map, drop-map, take-append-drop}
use Rattle.std.proofs.lemmas.List.Splits.{join_with_byte-slice_split, length-slice_split}
use Rattle.std.proofs.lemmas.Bool.{eqb-true}
use Rattle.comtrade_values.specs.Spelling.{trimmed}
use Rattle.comtrade_values.specs.Lines.{lines, fields, without_cr, is_blank_line, drop_end}
use Rattle.comtrade_read.specs.Joined.{AreBlank, HasNone, Field, field_bytes, IsField, Line, carriage_return, line_bytes, field_texts, IsLine, BlankLine, blank_bytes, IsJoined}
use Rattle.comtrade_read.proofs.AllOf.{All-parts, All-map, map-map, map-back}
use Rattle.comtrade_read.proofs.Parts.{parts_keep, parts_none}
use Rattle.comtrade_read.proofs.Blanks.{back_of, around, trimmed_twice, blank_line}

-- whether a carriage return stands at the end
abbrev returns : List ℕ → Bool
returns xs = eqb (get_or xs (length xs - 1) 0) 13

put_back : (xs : List ℕ) → get_or xs (length xs - 1) 0 ≡ 13 → take (length xs - 1) xs ++ 13 ∷ [] ≡ xs
put_back [] e = absurd (omega arith)
put_back (x ∷ xs) e =
    let n = length (x ∷ xs) - 1 in
    rw (← e) (sym (take_more (x ∷ xs) n 0 (omega arith)) ∙ take_all (n + 1) (x ∷ xs) (omega arith))

return_is : (xs : List ℕ) → without_cr xs ++ carriage_return (returns xs) ≡ xs
return_is xs = with_test (eqb (get_or xs (length xs - 1) 0) 13) refl
  where
    with_test : (b : Bool) → eqb (get_or xs (length xs - 1) 0) 13 ≡ b → cond b (take (length xs - 1) xs) xs ++ carriage_return b ≡ xs
    with_test true e = put_back xs (eqb-true _ 13 e)
    with_test false e = append-nil xs

-- a field with the blanks around it
abbrev field_of : List ℕ → Field
field_of xs = record { before = (around xs).before; text = trimmed xs; after = (around xs).after }

inner_none : (c : ℕ) (xs : List ℕ) → HasNone c xs → HasNone c (trimmed xs)
inner_none c xs h =
    let a = around xs in
    let all : HasNone c (a.before ++ (trimmed xs ++ a.after)) = rw a.is h in
    (All-parts _ (trimmed xs) a.after (All-parts _ a.before (trimmed xs ++ a.after) all).1).0

are_fields : (ps : List (List ℕ)) → AllByRecursion (HasNone 44) ps → AllByRecursion (HasNone 10) ps → AllByRecursion IsField (map field_of ps)
are_fields [] h k = tt
are_fields (p ∷ ps) h k =
    let a = around p in
    (record { before = a.are_before; after = a.are_after; bare = trimmed_twice p; no_comma = inner_none 44 p h.0; no_feed = inner_none 10 p k.0 }, are_fields ps h.1 k.1)

-- the line of the bytes between two line feeds
parts : List ℕ → List (List ℕ)
parts bytes = slice_split (λ b. eqb b 44) (without_cr bytes)

abbrev line_of : List ℕ → Line
line_of bytes = record { first = field_of (get_or (parts bytes) 0 []); rest = map field_of (drop 1 (parts bytes)); cr = returns bytes }

parts_are : (bytes : List ℕ) → get_or (parts bytes) 0 [] ∷ drop 1 (parts bytes) ≡ parts bytes
unfolding parts
parts_are bytes = let ps = parts bytes in sym (drop_more ps 0 [] (omega (arith, length-slice_split (λ b. eqb b 44) (without_cr bytes))))

line_is : (bytes : List ℕ) → HasNone 10 bytes → IsLine (line_of bytes)
unfolding parts
line_is bytes h =
    let body = without_cr bytes in
    let whole : HasNone 10 (body ++ carriage_return (returns bytes)) = rw (return_is bytes) h in
    let feed : HasNone 10 body = (All-parts _ body (carriage_return (returns bytes)) whole).0 in
    let all = are_fields (parts bytes) (parts_none 44 body) (parts_keep (λ b. eqb b 10 ≡ false) (λ b. eqb b 44) body feed) in
    rw (← parts_are bytes) at all

line_back : (bytes : List ℕ) → line_bytes (line_of bytes) ≡ bytes
unfolding parts
line_back bytes =
    let ps = get_or (parts bytes) 0 [] ∷ drop 1 (parts bytes) in
    ap (λ xs. join_with_byte 44 xs ++ carriage_return (returns bytes)) (map-back field_bytes field_of (λ xs. (around xs).is) ps ∙ parts_are bytes)
    ∙ ap (λ xs. xs ++ carriage_return (returns bytes)) (join_with_byte-slice_split 44 (without_cr bytes)) ∙ return_is bytes

line_texts : (bytes : List ℕ) → HasNone 10 bytes → field_texts (line_of bytes) ≡ fields (without_cr bytes)
unfolding parts
line_texts bytes h =
    let comma = rw (← parts_are bytes) at (parts_none 44 (without_cr bytes)) in
    map-map (HasNone 44) (λ f. f.text) field_of trimmed (λ xs none. refl) (get_or (parts bytes) 0 [] ∷ drop 1 (parts bytes)) comma ∙ ap (map trimmed) (parts_are bytes)

-- blank lines
abbrev blank_of : List ℕ → BlankLine
blank_of p = record { blanks = without_cr p; cr = returns p }

are_blank : (ps : List (List ℕ)) → AllByRecursion (λ x. is_blank_line x ≡ true) (map without_cr ps) → AllByRecursion (λ l. AreBlank l.blanks) (map blank_of ps)
are_blank [] h = tt
are_blank (p ∷ ps) h = (blank_line (without_cr p) h.0, are_blank ps h.1)

pub joined_of : (text : List ℕ) → IsJoined text (map fields (lines text))
joined_of text =
    let ps = slice_split (λ b. eqb b 10) text in
    let b = back_of is_blank_line (map without_cr ps) in
    let front = drop_end is_blank_line (map without_cr ps) in
    let n = length front in
    let none : AllByRecursion (HasNone 10) (take n ps) = (All-parts (HasNone 10) (take n ps) (drop n ps) (rw (take-append-drop n ps) (parts_none 10 text))).0 in
    let read : map without_cr (take n ps) ≡ front = sym (take-map without_cr n ps) ∙ ap (take n) b.is ∙ take_at front b.back n refl in
    let past : map without_cr (drop n ps) ≡ b.back = sym (drop-map without_cr n ps) ∙ ap (drop n) b.is ∙ drop_at front b.back n refl in
    let ls = map line_of (take n ps) in
    let blank = map blank_of (drop n ps) in
    let all : ps ≡ map line_bytes ls ++ map blank_bytes blank = rw (map-back line_bytes line_of line_back (take n ps), map-back blank_bytes blank_of return_is (drop n ps)) (sym (take-append-drop n ps)) in
    record {
      lines = ls;
      blank = blank;
      are_lines = All-map (HasNone 10) IsLine line_of line_is (take n ps) none;
      are_blank = are_blank (drop n ps) (rw past b.pass);
      fields = map-map (HasNone 10) field_texts line_of (λ p. fields (without_cr p)) line_texts (take n ps) none ∙ sym (map-map (HasNone 10) fields without_cr (λ p. fields (without_cr p)) (λ p h. refl) (take n ps) none) ∙ ap (map fields) read;
      bytes = sym (join_with_byte-slice_split 10 text) ∙ ap (join_with_byte 10) all;
    }
