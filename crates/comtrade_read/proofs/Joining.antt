-- Lines and fields that were joined are cut again.
use Rattle.std.proofs.Common.{◌≡◌, ℕ, suc, ◌-◌, ◌<◌, get_or, Bool, true, false, eqb, List, [], ◌∷◌, ◌++◌, length, map, refl, ap, ◌∙◌, arith}
use Rattle.std.specs.List.{join_with_byte, AllByRecursion}
use Rattle.std.proofs.lemmas.Bool.{false_from_ne_true}
use Rattle.std.proofs.lemmas.List.{map-append}
use Rattle.comtrade_values.specs.Spelling.{is_blank, trimmed}
use Rattle.comtrade_values.specs.Lines.{lines, fields, without_cr, is_blank_line, drop_end}
use Rattle.comtrade_read.specs.Joined.{AreBlank, HasNone, Field, field_bytes, IsField, Line, carriage_return, line_bytes, field_texts, IsLine, BlankLine, blank_bytes, IsJoined}
use Rattle.comtrade_read.proofs.LineEnds.{HasNoReturn, EndsPlain, EndsFull, Bodies, return_none, return-append, return-back, end_off}
use Rattle.comtrade_read.proofs.AllOf.{All-append, All-map, All-none, map-map}
use Rattle.comtrade_read.proofs.Parts.{split_again, join_none}
use Rattle.comtrade_read.proofs.Blanks.{end_stays, stops_full, past_end, trim_again, line_blank, blank_fields}

-- ---- fields

field_none : (c : ℕ) → is_blank c ≡ false → (f : Field) → IsField f → HasNone c f.text → HasNone c (field_bytes f)
field_none c none f h k =
    All-append _ f.before (f.text ++ f.after) (All-none is_blank c none f.before h.before) (All-append _ f.text f.after k (All-none is_blank c none f.after h.after))

body_fields : (f : Field) (fs : List Field) → AllByRecursion IsField (f ∷ fs) → fields (join_with_byte 44 (map field_bytes (f ∷ fs))) ≡ map (λ f. f.text) (f ∷ fs)
body_fields f fs h =
    ap (map trimmed) (split_again 44 (field_bytes f) (map field_bytes fs) (All-map IsField (HasNone 44) field_bytes (λ x is. field_none 44 refl x is is.no_comma) (f ∷ fs) h))
    ∙ map-map IsField trimmed field_bytes (λ x. x.text) (λ x is. trim_again x.before x.text x.after is.before is.after is.bare) (f ∷ fs) h

body_return : (f : Field) (fs : List Field) → AllByRecursion IsField (f ∷ fs) → EndsPlain (map (λ f. f.text) (f ∷ fs)) → HasNoReturn (join_with_byte 44 (map field_bytes (f ∷ fs)))
body_return f [] h e =
    return-append f.before (f.text ++ f.after) (return_none f.before (All-none is_blank 13 refl f.before h.0.before))
    (return-append f.text f.after e (return_none f.after (All-none is_blank 13 refl f.after h.0.after)))
body_return f (g ∷ gs) h e =
    let rest = join_with_byte 44 (map field_bytes (g ∷ gs)) in
    return-back (field_bytes f) 44 rest (return-append (44 ∷ []) rest refl (body_return g gs h.1 e))

-- ---- lines

return_feed : (cr : Bool) → HasNone 10 (carriage_return cr)
return_feed true = (refl, tt)
return_feed false = tt

line_feed : (l : Line) → IsLine l → HasNone 10 (line_bytes l)
line_feed l h =
    let none = All-map IsField (HasNone 10) field_bytes (λ f is. field_none 10 refl f is is.no_feed) (l.first ∷ l.rest) h in
    All-append (λ b. eqb b 10 ≡ false) (join_with_byte 44 (map field_bytes (l.first ∷ l.rest))) (carriage_return l.cr) (join_none 44 10 (field_bytes l.first) (map field_bytes l.rest) refl none) (return_feed l.cr)

blank_feed : (l : BlankLine) → AreBlank l.blanks → HasNone 10 (blank_bytes l)
blank_feed l h = All-append (λ b. eqb b 10 ≡ false) l.blanks (carriage_return l.cr) (All-none is_blank 10 refl l.blanks h) (return_feed l.cr)

lines_off : (ls : List Line) → AllByRecursion IsLine ls → AllByRecursion EndsPlain (map field_texts ls) → map without_cr (map line_bytes ls) ≡ Bodies ls
lines_off [] h e = refl
lines_off (l ∷ ls) h e = rw (end_off (join_with_byte 44 (map field_bytes (l.first ∷ l.rest))) l.cr (body_return l.first l.rest h.0 e.0), lines_off ls h.1 e.1) refl

blanks_off : (ls : List BlankLine) → AllByRecursion (λ l. AreBlank l.blanks) ls → map without_cr (map blank_bytes ls) ≡ map (λ l. l.blanks) ls
blanks_off ls h = map-map (λ l. AreBlank l.blanks) without_cr blank_bytes (λ l. l.blanks) (λ l blank. end_off l.blanks l.cr (return_none l.blanks (All-none is_blank 13 refl l.blanks blank))) ls h

-- ---- what is dropped at the end

full_end : (xs : List (List ℕ)) → EndsFull (map fields xs) → (d : List ℕ) → 0 < length xs → is_blank_line (get_or xs (length xs - 1) d) ≡ false
full_end [] h d some = absurd (omega arith)
full_end (x ∷ []) h d some = false_from_ne_true _ (λ e. h (blank_fields x e))
full_end (x ∷ y ∷ ys) h d some =
    let last : suc (suc (length ys)) - 1 ≡ suc (suc (length ys) - 1) = omega arith in
    rw last (full_end (y ∷ ys) h d (omega arith))

cut_is : (ps : List (List ℕ)) → AllByRecursion (HasNone 10) ps → lines (join_with_byte 10 ps) ≡ drop_end is_blank_line (map without_cr ps)
cut_is [] h = refl
cut_is (p ∷ ps) h = ap (λ xs. drop_end is_blank_line (map without_cr xs)) (split_again 10 p ps h)

pub cut_again : (text : List ℕ) (ls : List (List (List ℕ))) → IsJoined text ls → AllByRecursion EndsPlain ls → EndsFull ls → map fields (lines text) ≡ ls
cut_again text ls j plain full =
    let ps = map line_bytes j.lines in
    let bs = map blank_bytes j.blank in
    let bodies = Bodies j.lines in
    let blanks = map (λ l. l.blanks) j.blank in
    let plain' : AllByRecursion EndsPlain (map field_texts j.lines) = rw j.fields plain in
    let texts : map fields bodies ≡ ls = map-map IsLine fields _ field_texts (λ l is. body_fields l.first l.rest is) j.lines j.are_lines ∙ j.fields in
    let full' : EndsFull (map fields bodies) = rw texts full in
    let feed : AllByRecursion (HasNone 10) (ps ++ bs) = All-append (HasNone 10) ps bs (All-map IsLine (HasNone 10) line_bytes line_feed j.lines j.are_lines) (All-map _ (HasNone 10) blank_bytes blank_feed j.blank j.are_blank) in
    let off : map without_cr (ps ++ bs) ≡ bodies ++ blanks = map-append without_cr ps bs ∙ rw (lines_off j.lines j.are_lines plain', blanks_off j.blank j.are_blank) refl in
    let blank : AllByRecursion (λ x. is_blank_line x ≡ true) blanks = All-map (λ l. AreBlank l.blanks) (λ x. is_blank_line x ≡ true) (λ l. l.blanks) (λ l are. line_blank l.blanks are) j.blank j.are_blank in
    let cut : lines text ≡ bodies =
    ap lines j.bytes ∙ cut_is (ps ++ bs) feed ∙ ap (drop_end is_blank_line) off ∙ past_end is_blank_line bodies blanks blank ∙ end_stays is_blank_line bodies (stops_full is_blank_line bodies (full_end bodies full')) in
    ap (map fields) cut ∙ texts
