-- Lines that are written are joined lines.
use Rattle.std.proofs.Common.{◌≡◌, ℕ, true, false, eqb, List, [], ◌∷◌, ◌++◌, map, refl, sym, ap, ◌∙◌, append_assoc}
use Rattle.std.specs.List.{AllByRecursion, flat_map, join_with_byte}
use Rattle.std.proofs.lemmas.List.{append-nil}
use Rattle.comtrade_format.specs.Lines.{line}
use Rattle.comtrade_read.specs.Joined.{HasNone, Field, field_bytes, IsField, Line, line_bytes, field_texts, IsLine, IsJoined}
use Rattle.comtrade_read.proofs.AllOf.{All-append, All-map, All-weaker, map-back}
use Rattle.comtrade_read.proofs.Parts.{join_none}
use Rattle.comtrade_read.proofs.WrittenFields.{IsClean, Printed, printed_no_end}

-- a line has a field, and each is clean
abbrev pub IsCleanLine : List (List ℕ) → Type 0
IsCleanLine [] = ⊥
IsCleanLine (f ∷ fs) = AllByRecursion IsClean (f ∷ fs)

abbrev plain : List ℕ → Field
plain f = record { before = []; text = f; after = [] }

plain_is : (f : List ℕ) → IsClean f → IsField (plain f)
plain_is f c = record { before = tt; after = tt; bare = c.bare; no_comma = c.no_comma; no_feed = c.no_feed }

-- lines that were written
record Written (ls : List (List (List ℕ))) : Type 0 where
  lines : List Line
  are_lines : AllByRecursion IsLine lines
  texts : map field_texts lines ≡ ls
  bytes : flat_map line ls ≡ join_with_byte 10 (map line_bytes lines ++ [] ∷ [])

join_next : (x : List ℕ) (xs : List (List ℕ)) (b : List ℕ) → join_with_byte 10 (x ∷ (xs ++ b ∷ [])) ≡ x ++ 10 ∷ join_with_byte 10 (xs ++ b ∷ [])
join_next x [] b = refl
join_next x (y ∷ ys) b = refl

written : (ls : List (List (List ℕ))) → AllByRecursion IsCleanLine ls → Written ls
unfolding line
written [] h = record { lines = []; are_lines = tt; texts = refl; bytes = refl }
written ([] ∷ ls) h = absurd h.0
written ((f ∷ fs) ∷ ls) h =
    let rest = written ls h.1 in
    let body = join_with_byte 44 (f ∷ fs) in
    let here : Line = record { first = plain f; rest = map plain fs; cr = true } in
    let bytes : line_bytes here ≡ body ++ 13 ∷ [] = ap (λ xs. join_with_byte 44 xs ++ 13 ∷ []) (map-back field_bytes plain (λ x. append-nil x) (f ∷ fs)) in
    record {
      lines = here ∷ rest.lines;
      are_lines = (All-map IsClean IsField plain plain_is (f ∷ fs) h.0, rest.are_lines);
      texts = rw (map-back (λ x. x.text) plain (λ x. refl) (f ∷ fs), rest.texts) refl;
      bytes =
          rw (rest.bytes, join_next (line_bytes here) (map line_bytes rest.lines) [], bytes)
          (append_assoc body (13 ∷ 10 ∷ []) _ ∙ sym (append_assoc body (13 ∷ []) _));
    }

pub written_joined : (ls : List (List (List ℕ))) → AllByRecursion IsCleanLine ls → IsJoined (flat_map line ls) ls
written_joined ls h =
    let w = written ls h in
    record { lines = w.lines; blank = record { blanks = []; cr = false } ∷ []; are_lines = w.are_lines; are_blank = (tt, tt); fields = w.texts; bytes = w.bytes }

-- ---- no end mark stands in printed fields

join_no_end : (fs : List (List ℕ)) → AllByRecursion Printed fs → HasNone 26 (join_with_byte 44 fs)
join_no_end [] h = tt
join_no_end (f ∷ fs) h = join_none 44 26 f fs refl (All-weaker Printed (HasNone 26) printed_no_end (f ∷ fs) h)

pub lines_no_end : (ls : List (List (List ℕ))) → AllByRecursion (AllByRecursion Printed) ls → HasNone 26 (flat_map line ls)
unfolding line
lines_no_end [] h = tt
lines_no_end (l ∷ ls) h =
    let P : ℕ → Type 0 = λ b. eqb b 26 ≡ false in
    All-append P (join_with_byte 44 l ++ 13 ∷ 10 ∷ []) (flat_map line ls) (All-append P (join_with_byte 44 l) (13 ∷ 10 ∷ []) (join_no_end l h.0) (refl, (refl, tt))) (lines_no_end ls h.1)
